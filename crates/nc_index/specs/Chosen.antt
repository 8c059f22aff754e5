-- The first pair of a run's entries that stands regularly is the divisor that a reduction chooses.
--
-- The pairs of `Pairs.antt` are read off the entries, in their order. The bound β is a signature
-- with its degree. A bound by degree is such a signature too (`above_degree` of nc_algebra).
--
-- `LeadsLaw` and `NewerLeadsLaw` are the theorems of this crate, the contracts of `leads_law` and
-- `newer_leads_law`.
use Rattle.nc_algebra.specs.Elements.{Setting, generator_weight}
use Rattle.nc_algebra.specs.Monomials.{Monomial, Sig, compare_sigs, sig_of}
use Rattle.nc_algebra.specs.Polynomials.{leading}
use Rattle.nc_algebra.specs.Words.{Word}
use Rattle.nc_index.specs.Pairs.{HasRegularAfter, IsFirstRegular, Lead}
use Rattle.nc_index.specs.declared.hit.Hit.{Hit}
use Rattle.nc_theory.specs.Divisors.{Divisor, IsChosenDivisor, number_of, signature_at}
use Rattle.nc_theory.specs.States.{Entry}
use Rattle.std.specs.Prelude.{List, None, Option, Some, length, map, ℕ, ◌↔◌, ◌≡◌, ◌≤◌}
use Rattle.std.specs.declared.cmp.Ordering.TheVariants.{Less}

-- an entry's leading word and signature
abbrev pub lead_of : Setting → Entry → Lead
lead_of s e =
    record {
      word = leading s.prime e.polynomial;
      signature = sig_of (generator_weight s) e.signature;
    }

-- those of all entries
abbrev pub leads_of : Setting → List Entry → List Lead
leads_of s entries = map (lead_of s) entries

-- the monomials below β
abbrev pub IsBelowSig : Setting → Sig → Monomial → Type 0
IsBelowSig s β σ = compare_sigs (sig_of (generator_weight s) σ) β ≡ Less

-- of the divisors of w below β the chosen one, by its entry's number and by how many letters stand
-- before it; None exactly where there is none
abbrev pub IsChosen : Setting → List Entry → Word → Sig → Option Hit → Type 0
IsChosen s entries w β None =
    (d : Divisor s entries w) → ¬ (IsBelowSig s β (signature_at s entries w d))
IsChosen s entries w β (Some h) =
    (d : Divisor s entries w) × IsChosenDivisor s entries (IsBelowSig s β) w d
    × (number_of s entries w d ≡ h.number) × (length d.left ≡ h.place)

-- a divisor of w below β of an entry behind the first n
abbrev pub HasDivisorAfter : Setting → List Entry → ℕ → Word → Sig → Type 0
HasDivisorAfter s entries n w β =
    (d : Divisor s entries w) × IsBelowSig s β (signature_at s entries w d) × (n ≤ d.listed.0)

-- the search among the entries' pairs finds the chosen divisor
abbrev pub LeadsLaw : Type 0
LeadsLaw =
    (s : Setting) (entries : List Entry) (w : Word) (β : Sig) (answer : Option Hit)
    → IsFirstRegular (leads_of s entries) w β answer → IsChosen s entries w β answer

-- and that behind the first n tells whether a newer entry gives a divisor
abbrev pub NewerLeadsLaw : Type 0
NewerLeadsLaw =
    (s : Setting) (entries : List Entry) (n : ℕ) (w : Word) (β : Sig)
    → HasRegularAfter (leads_of s entries) n w β ↔ HasDivisorAfter s entries n w β
