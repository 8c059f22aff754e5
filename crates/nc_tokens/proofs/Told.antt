-- What is returned of a line is told of the text.
-- `at_gives` passes from what is read of a line to what is read of the text: the same value, or the
-- same fault with the number of the line.
use Rattle.nc_tokens.specs.Gives.{Gives, GivesText, IsAt}
use Rattle.nc_tokens.specs.Lines.{at_line}
use Rattle.nc_tokens.specs.declared.fault.Kind.{Kind}
use Rattle.nc_tokens.specs.declared.fault.LineError.{LineError}
use Rattle.nc_tokens.specs.declared.fault.LineError.TheVariants as errors
use Rattle.nc_tokens.specs.declared.fault.ReadFault.{ReadFault}
use Rattle.std.proofs.Common.{Err, IfOk, Ok, Result, refl, subst, ℕ, ◌≡◌}

pub at_gives : {X Y : Type 0} (view : X → Y) (n : ℕ) (r : Result X LineError)
    (out : Result X ReadFault) (read : Result Y Kind) → IsAt n r out → Gives view r read
    → GivesText view out (at_line n read)
at_gives view n (Ok x) out read is gives = rw (is) (rw (gives) refl)
at_gives view n (Err errors.Memory) out read is gives = rw (is) tt
at_gives view n (Err (errors.Fault k)) out read is gives = rw (is) (rw (gives) refl)

abbrev told : {X : Type 0} → X → Result X ReadFault
told x = Ok x

same_told : {X : Type 0} (x y : X) → told x ≡ told y → x ≡ y
same_told x y e = cc

-- what holds of the value of a line holds of the value that is told
pub at_holds : {X : Type 0} (P : X → Type 0) (n : ℕ) (r : Result X LineError) (x : X)
    → IsAt n r (Ok x) → IfOk r P → P x
at_holds P n (Ok y) x is h = subst P (same_told y x (cc)) h
at_holds P n (Err errors.Memory) x is h = absurd cc
at_holds P n (Err (errors.Fault k)) x is h = absurd cc
