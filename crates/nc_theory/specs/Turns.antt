-- One turn of a reduction: the leading word is cancelled by a multiple, or kept as a term.
--
-- The set has the signatures that a multiple may have: those below τ in a run, those within the
-- bound for a claim. Code keeps the polynomial in normal form from turn to turn, which `Reduction`
-- does not ask. So the new polynomial of a turn is a normal form here.
use Rattle.nc_algebra.specs.Elements.{IsLeadingWord, Setting}
use Rattle.nc_algebra.specs.Monomials.{Monomial}
use Rattle.nc_algebra.specs.Polynomials.{Polynomial, coefficient, leading, normal_form}
use Rattle.nc_algebra.specs.Sums.{Term, minus}
use Rattle.nc_algebra.specs.Words.{Word}
use Rattle.nc_theory.specs.Divisors.{Divisor, IsChosenDivisor, multiple_at, number_of, signature_at}
use Rattle.nc_theory.specs.States.{Entry, Step}
use Rattle.std.specs.Prelude.{List, [], ◌%◌, ◌*◌, ◌<◌, ◌∷◌, ◌≡◌}

-- the greatest word was taken off by the step, whose divisor is the chosen one of the set
pub record IsSubtracted (s : Setting) (entries : List Entry) (set : Monomial → Type 0)
    (old new : Polynomial) (step : Step) : Type 0 where
  pub word : Word
  pub leads : IsLeadingWord s old word
  pub divisor : Divisor s entries word
  pub chosen : IsChosenDivisor s entries set word divisor
  pub below : step.coefficient < s.prime
  pub cancels : step.coefficient * coefficient divisor.entry.polynomial
      (leading s.prime divisor.entry.polynomial) % s.prime ≡ coefficient old word % s.prime
  pub left : step.left ≡ divisor.left
  pub number : step.number ≡ number_of s entries word divisor
  pub right : step.right ≡ divisor.right
  pub rest : new ≡ normal_form s.prime
      (minus s.prime old step.coefficient (multiple_at s entries word divisor))

-- the greatest word, which has no divisor in the set, was taken out as a term
pub record IsKept (s : Setting) (entries : List Entry) (set : Monomial → Type 0)
    (old new : Polynomial) (t : Term Word) : Type 0 where
  pub leads : IsLeadingWord s old t.key
  pub clear : (d : Divisor s entries t.key) → ¬ set (signature_at s entries t.key d)
  pub whole : t.coefficient ≡ coefficient old t.key % s.prime
  pub rest : new ≡ normal_form s.prime (minus s.prime old 1 (t ∷ []))
