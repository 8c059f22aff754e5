-- The work that the lines of a certificate ask for, and the limit on it.
--
-- A short text may ask for very long values, since later lines use earlier ones again and again. So
-- the check counts the work before it does it. Each product of words costs one and its letters. The
-- charge up to a part is the sum of the charges of all parts before it and its own, line by line.
-- The first part where this passes the limit stops the check.
--
-- Charges are those of values in normal form, as the check keeps them, so they depend on the
-- certificate alone and not on how it is checked. Lines count from 1.
use Rattle.nc_algebra.specs.Certificates.{Line, Part, factor_value, line_value}
use Rattle.nc_algebra.specs.Elements.{Setting}
use Rattle.nc_algebra.specs.Polynomials.{Polynomial, normal_form}
use Rattle.nc_algebra.specs.Words.{Word}
use Rattle.std.specs.Prelude.{List, [], length, map, suc, sum_by, ℕ, ◌++◌, ◌+◌, ◌<◌, ◌∷◌, ◌≡◌, ◌≤◌, ◌⊎◌}

-- ---- the charge of a part

-- what the products a w b with the words w of f cost: each one more than its letters
abbrev pub products_charge : Word → Polynomial → Word → ℕ
products_charge a f b = sum_by (λ t. 1 + length a + length t.key + length b) f

-- the charge of c a f b: that of the products with the words of the generator, or of the earlier
-- line's value in normal form
abbrev pub part_charge : Setting → List Polynomial → Part → ℕ
part_charge s values part =
    products_charge part.left (normal_form s.prime (factor_value s values part.of)) part.right

-- ---- the charges of all parts

-- the charge of a part, and the number of its line
pub record Charge : Type 0 where
  pub line : ℕ
  pub amount : ℕ

-- those of the parts of a line, over the values of the lines before it
abbrev pub line_charges : Setting → List Polynomial → Line → List Charge
line_charges s values line =
    map (λ part. record { line = suc (length values); amount = part_charge s values part }) line

-- those of lines behind others with these values: line by line, and within a line in order
unfoldable pub charges_after : Setting → List Polynomial → List Line → List Charge
charges_after s values [] = []
charges_after s values (line ∷ lines) =
    line_charges s values line ++ charges_after s (values ++ line_value s values line ∷ []) lines

-- the charges of lines
abbrev pub charges_of : Setting → List Line → List Charge
charges_of s = charges_after s []

-- ---- the limit

-- the sum of charges
abbrev pub total : List Charge → ℕ
total charges = sum_by (λ c. c.amount) charges

-- all together stay within the limit
abbrev pub IsChargeWithin : ℕ → List Charge → Type 0
IsChargeWithin limit charges = total charges ≤ limit

-- the charge up to a part is its own and that of all parts before it; the first one beyond the
-- limit is t, at a part of line k
pub record IsTooMuch (limit : ℕ) (charges : List Charge) (k t : ℕ) : Type 0 where
  pub before : List Charge
  pub first : Charge
  pub after : List Charge
  pub parts : charges ≡ before ++ first ∷ after
  pub within : total before ≤ limit
  pub beyond : limit < t
  pub line : k ≡ first.line
  pub charge : t ≡ total before + first.amount

-- charges are within the limit, or too much at one line with one charge, and never both
pub record LimitLaw (limit : ℕ) (charges : List Charge) : Type 0 where
  pub either : IsChargeWithin limit charges ⊎ ((k : ℕ) × (t : ℕ) × IsTooMuch limit charges k t)
  pub apart : (k t : ℕ) → IsTooMuch limit charges k t → ¬ IsChargeWithin limit charges
  pub one : (k t l u : ℕ) → IsTooMuch limit charges k t → IsTooMuch limit charges l u → (k ≡ l)
      × (t ≡ u)
