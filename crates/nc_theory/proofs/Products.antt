-- Arithmetic of one turn: the quotient of leading coefficients, and a term by itself.
use Rattle.nc_algebra.proofs.Leading.{leading-normal}
use Rattle.nc_algebra.proofs.NormalForms.{first_coefficient}
use Rattle.nc_algebra.specs.Polynomials.{IsNormal, Polynomial, coefficient, leading}
use Rattle.nc_algebra.specs.Sums.{Term}
use Rattle.nc_algebra.specs.Words.{Word}
use Rattle.nc_theory.proofs.Chains.{times_mod}
use Rattle.std.proofs.Common.{ap, arith, subst, sym, ℕ, ◌%◌, ◌*◌, ◌<◌, ◌∙◌, ◌∷◌, ◌≡◌}
use Rattle.std.proofs.Math.Nat.{mod-eq_of_lt, mod-lt}
use Rattle.std.proofs.lemmas.Nat.{mul-mod_first}

pub quotient_is : (p a b i q : ℕ) → a < p → b * i % p ≡ 1 → q ≡ a * i % p → q * b % p ≡ a
quotient_is p a b i q small inverse e =
    let some : 0 < p = omega (arith, small) in
    let one : 1 < p = omega (arith, inverse, mod-lt (b * i) some) in
    ap (λ n. n * b % p) e
    ∙ (mul-mod_first (a * i) b p
    ∙ (ap (λ n. n % p) (omega arith)
    ∙ (times_mod p a (b * i) 1 (inverse ∙ sym (mod-eq_of_lt one))
    ∙ (ap (λ n. n % p) (omega arith) ∙ mod-eq_of_lt small))))

-- the coefficient beside the leading word
pub lead_coefficient : (p : ℕ) (f : Polynomial) (t : Term Word) (g : Polynomial) → f ≡ t ∷ g
    → IsNormal p f → coefficient f (leading p f) ≡ t.coefficient
lead_coefficient p f t g e n =
    let normal : IsNormal p (t ∷ g) = subst (IsNormal p) e n in
    ap (λ h. coefficient h (leading p h)) e
    ∙ (ap (coefficient (t ∷ g)) (leading-normal p t g normal)
    ∙ first_coefficient t g normal.0.1)
