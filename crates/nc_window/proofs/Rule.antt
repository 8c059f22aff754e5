-- What holds of every window, from what its nodes spell.
use Rattle.nc_algebra.specs.Monomials.{compare_sigs}
use Rattle.nc_window.proofs.Parts.{parts_permute}
use Rattle.nc_window.specs.Arena.{Spells}
use Rattle.nc_window.specs.Links.{Slot}
use Rattle.nc_window.specs.Rules.{AreParts, HaveGenerations, IsAscending, IsBelowAll}
use Rattle.nc_window.specs.Windows.{IsWindow, Row, Shown}
use Rattle.std.proofs.Common.{All, Less, List, Option, [], arith, subst, sym, ℕ, ◌<◌, ◌∷◌, ◌≡◌, ◌≢◌, ◌≤◌}
use Rattle.std.proofs.lemmas.List.Elements.{All-cons, All-nil, All-weaker}
use Rattle.std.proofs.lemmas.List.Kept.{AllPairs-cons}
use Rattle.std.specs.List.{AllPairs}

module _ {T : Type 0} where
  abbrev IsBefore : Row T → Row T → Type 0
  IsBefore r s = compare_sigs r.signature s.signature ≡ Less

  abbrev Differs : Row T → Row T → Type 0
  Differs r s = r.generation ≢ s.generation

  below_all : (r : Row T) (rows : List (Row T)) → IsBelowAll r.signature rows
      → All (IsBefore r) rows
  below_all r [] h = All-nil (IsBefore r)
  below_all r (s ∷ rows) h = All-cons (IsBefore r) s rows h.0 (below_all r rows h.1)

  ascends : (rows : List (Row T)) → IsAscending rows → AllPairs IsBefore rows
  ascends [] h = λ i j d l k. absurd (omega arith)
  ascends (r ∷ rows) h =
      AllPairs-cons IsBefore r rows (below_all r rows h.0) (ascends rows h.1)

  generations : (rows : List (Row T)) → HaveGenerations rows → AllPairs Differs rows
  generations [] h = λ i j d l k. absurd (omega arith)
  generations (r ∷ rows) h =
      AllPairs-cons Differs r rows
      (All-weaker (λ s. s.generation ≢ r.generation) (Differs r) (λ s d e. d (sym e)) rows h.1)
      (generations rows h.2)

  positive : (rows : List (Row T)) → HaveGenerations rows → All (λ r. 0 < r.generation) rows
  positive [] h = All-nil (λ (r : Row T). 0 < r.generation)
  positive (r ∷ rows) h = All-cons (λ (r : Row T). 0 < r.generation) r rows h.0 (positive rows h.2)

  pub rule : (nodes : List (Slot T)) (first free : Option ℕ) (count : ℕ) (v : Shown T)
      → Spells nodes first free count v → IsWindow v
  rule nodes first free count v s =
      record {
        small = subst (λ n. n ≤ 4096) (sym s.capacity) s.small;
        indices = parts_permute v.capacity v.live v.free
            (subst (λ n. AreParts n v.live v.free) (sym s.capacity) s.parts);
        ascends = ascends v.live s.ascends;
        positive = positive v.live s.generations;
        generations = generations v.live s.generations;
      }
