-- The limit on work as a function: a search for the first part that passes it.
--
-- `IsTooMuch` in `Charges.antt` says what that part is, and this function computes it. Proofs use
-- it to show that there is one exactly where the limit is passed.
use Rattle.nc_cert.specs.Charges.{Charge}
use Rattle.std.specs.Prelude.{List, None, Option, Some, [], if◌then◌else◌, nat_lt, ℕ, ◌+◌, ◌∷◌}

-- the first charge up to a part that passes the limit, and its line, behind parts that were charged
-- so much
abbrev pub first_beyond : ℕ → ℕ → List Charge → Option Charge
first_beyond limit spent [] = None
first_beyond limit spent (c ∷ charges) =
    if nat_lt limit (spent + c.amount) then Some
    (record { line = c.line; amount = spent + c.amount }) else first_beyond limit (spent + c.amount)
    charges
