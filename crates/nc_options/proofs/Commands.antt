-- Words whose first is none of the command words.
use Rattle.std.proofs.Common.{◌≡◌, false, List, ◌∷◌, None, codes}
use Rattle.std.proofs.lemmas.Bool.{false_from_ne_true}
use Rattle.std.proofs.lemmas.Slice.Eq.{bytes_eq-Decides}
use Rattle.std.specs.Str.{bytes_eq}
use Rattle.nc_options.specs.Pieces.{Text}
use Rattle.nc_options.specs.Options.{options_of}

differs : (text other : Text) → (text ≡ other → ⊥) → bytes_eq text other ≡ false
differs text other h = false_from_ne_true _ (λ e. h ((bytes_eq-Decides text other).0 e))

pub no_command : (command : Text) (words : List Text) → (command ≡ codes "basis" → ⊥)
    → (command ≡ codes "member" → ⊥) → (command ≡ codes "check" → ⊥) → (command ≡ codes "demo" → ⊥)
    → options_of (command ∷ words) ≡ None
no_command command words basis member check demo =
    let no_basis : bytes_eq command (codes "basis") ≡ false = differs _ _ basis in
    let no_member : bytes_eq command (codes "member") ≡ false = differs _ _ member in
    let no_check : bytes_eq command (codes "check") ≡ false = differs _ _ check in
    let no_demo : bytes_eq command (codes "demo") ≡ false = differs _ _ demo in
    simp (no_basis, no_member, no_check, no_demo)
