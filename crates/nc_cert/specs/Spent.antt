-- What is spent on the parts of one line, and the first part that goes too far.
--
-- `Charges.antt` speaks of a whole certificate by its values. Here the values are those that the
-- check keeps, in normal form already, so that a charge can be counted as it stands. What was spent
-- before the line is given as a number.
use Rattle.nc_algebra.specs.Certificates.{Line, Part, factor_value}
use Rattle.nc_algebra.specs.Elements.{Setting}
use Rattle.nc_algebra.specs.Polynomials.{Polynomial}
use Rattle.nc_cert.specs.Charges.{products_charge}
use Rattle.nc_cert.specs.declared.charge.Spending.{Spending}
use Rattle.nc_cert.specs.declared.charge.Spending.TheVariants.{Beyond, Within}
use Rattle.std.specs.Prelude.{List, length, sum_by, ℕ, ◌++◌, ◌+◌, ◌<◌, ◌∷◌, ◌≡◌, ◌≤◌}

-- the letters of the words of f
abbrev pub letter_count : Polynomial → ℕ
letter_count f = sum_by (λ t. length t.key) f

-- the charge of a part over values in normal form
abbrev pub kept_charge : Setting → List Polynomial → Part → ℕ
kept_charge s values part = products_charge part.left (factor_value s values part.of) part.right

-- the first part of the line that passes the limit: with what was spent and the parts before it,
-- its charge is t
pub record IsBeyond (limit spent : ℕ) (charge : Part → ℕ) (line : Line) (t : ℕ) : Type 0 where
  pub before : Line
  pub first : Part
  pub after : Line
  pub parts : line ≡ before ++ first ∷ after
  pub within : spent + sum_by charge before ≤ limit
  pub beyond : limit < t
  pub charge_is : t ≡ spent + sum_by charge before + charge first

-- what is spent after the parts of the line, or the first of them that passes the limit
abbrev pub IsSpending : ℕ → ℕ → (Part → ℕ) → Line → Spending → Type 0
IsSpending limit spent charge line (Within n) = (n ≡ spent + sum_by charge line) × (n ≤ limit)
IsSpending limit spent charge line (Beyond t) = IsBeyond limit spent charge line t
