use Rattle.nc_text.proofs.Generators.{is_alphabet}
use Rattle.nc_text.specs.Settings.{weights_line}
use Rattle.nc_tokens.specs.Unread.{left}
use Rattle.std.proofs.Common.{List, Ok, length, subst, ℕ, ◌≡◌}
use Rattle.nc_text.proofs.setting.alphabet_of.Goals as goal

pub of-requires : goal.of-requires
of-requires c =
    is_alphabet _ _ _ _ _ c.in_ok-names.ensures.reads
    (subst (λ (names : List (List ℕ)). weights_line (length names) (left c.letters_line.new.text)
    ≡ Ok (c.in_ok-weights.weights.items, left c.weights_line.new.text)) c.as_slice.ensures.value
    c.in_ok-weights.ensures)
