-- Finite sums of keys with coefficients.
--
-- With words as keys, sums are polynomials; with module monomials, they are module elements. A sum
-- is a list of terms in any order. A key may stand several times, and a coefficient may be zero.
-- What counts is the total coefficient of each key modulo p: lists that agree there are the same
-- sum (`SameSum`). The empty list is zero.
--
-- So addition is the appending of lists, and a normal form is only needed where one list has to
-- stand for a sum. The functions take a test `same` of two keys, since a key may be of any type.
-- Where an argument p is missing, the result is a number not yet reduced modulo p.
use Rattle.nc_algebra.specs.Primes.{IsZero}
use Rattle.std.specs.Prelude.{Bool, List, [], cond, ℕ, ◌%◌, ◌*◌, ◌++◌, ◌+◌, ◌-◌, ◌∷◌, ◌≡◌}

-- a coefficient and a key
pub record Term (K : Type 0) : Type 0 where
  pub coefficient : ℕ
  pub key : K

-- the sum of each coefficient times what `value` gives its key
abbrev pub linear_sum : {K : Type 0} → (K → ℕ) → List (Term K) → ℕ
linear_sum value [] = 0
linear_sum value (t ∷ f) = t.coefficient * value t.key + linear_sum value f

-- 1 at `k` and 0 elsewhere
abbrev pub is_at : {K : Type 0} → (K → K → Bool) → K → K → ℕ
is_at same k x = cond (same k x) 1 0

-- the sum of the coefficients beside `k`
abbrev pub coefficient_by : {K : Type 0} → (K → K → Bool) → List (Term K) → K → ℕ
coefficient_by same f k = linear_sum (is_at same k) f

-- each coefficient times c
abbrev pub scale : {K : Type 0} → ℕ → List (Term K) → List (Term K)
scale c [] = []
scale c (t ∷ f) = record { coefficient = c * t.coefficient; key = t.key } ∷ scale c f

-- each key moved
abbrev pub map_keys : {K L : Type 0} → (K → L) → List (Term K) → List (Term L)
map_keys φ [] = []
map_keys φ (t ∷ f) = record { coefficient = t.coefficient; key = φ t.key } ∷ map_keys φ f

-- each key replaced by a sum
abbrev pub substitute : {K L : Type 0} → List (Term K) → (K → List (Term L)) → List (Term L)
substitute [] φ = []
substitute (t ∷ f) φ = scale t.coefficient (φ t.key) ++ substitute f φ

-- f minus c times g, modulo p
abbrev pub minus : {K : Type 0} → ℕ → List (Term K) → ℕ → List (Term K) → List (Term K)
minus p f c g = f ++ scale ((p - 1) * c) g

-- all coefficients are equal modulo p
pub record SameSum {K : Type 0} (same : K → K → Bool) (p : ℕ) (f g : List (Term K)) : Type 0 where
  pub at : (k : K) → coefficient_by same f k % p ≡ coefficient_by same g k % p

-- k is the greatest key of f with a coefficient other than 0
pub record IsLeadingKey {K : Type 0} (same : K → K → Bool) (less : K → K → Type 0) (p : ℕ)
    (f : List (Term K)) (k : K) : Type 0 where
  pub nonzero : ¬ IsZero p (coefficient_by same f k)
  pub above : (x : K) → less k x → IsZero p (coefficient_by same f x)
