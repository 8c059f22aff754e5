-- A step that takes a term off.
--
-- The search for a divisor gives the number of an entry and the place of its leading word. The step
-- is the multiple of this entry's polynomial that cancels the term.
use Rattle.nc_algebra.specs.Polynomials.{Polynomial, coefficient, leading}
use Rattle.nc_algebra.specs.Sums.{Term}
use Rattle.nc_algebra.specs.Words.{Word}
use Rattle.nc_index.specs.declared.hit.Hit.{Hit}
use Rattle.nc_theory.specs.States.{Step}
use Rattle.std.specs.Prelude.{length, ℕ, ◌%◌, ◌*◌, ◌++◌, ◌<◌, ◌≡◌}

-- the step's multiple of f, whose leading word stands at the hit's place, cancels t modulo p
pub record IsStepAt (p : ℕ) (t : Term Word) (f : Polynomial) (h : Hit) (step : Step) : Type 0
  where
    pub spells : step.left ++ (leading p f ++ step.right) ≡ t.key
    pub place : length step.left ≡ h.place
    pub number : step.number ≡ h.number
    pub below : step.coefficient < p
    pub cancels : step.coefficient * coefficient f (leading p f) % p ≡ t.coefficient
