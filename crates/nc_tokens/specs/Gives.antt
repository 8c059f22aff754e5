-- What the code returns of a line or a text, beside what the definitions read in it.
--
-- Reading is a function on lists of bytes and tokens, and gives a value or the first fault. Code
-- gives the same, except that it may run out of memory. A `view` takes a value of the code to one
-- of the definitions.
use Rattle.nc_tokens.specs.declared.fault.Kind.{Kind}
use Rattle.nc_tokens.specs.declared.fault.LineError.{LineError}
use Rattle.nc_tokens.specs.declared.fault.LineError.TheVariants as errors
use Rattle.nc_tokens.specs.declared.fault.ReadFault.{ReadFault}
use Rattle.nc_tokens.specs.declared.fault.ReadFault.TheVariants as faults
use Rattle.nc_tokens.specs.declared.fault.TextFault.{TextFault}
use Rattle.std.specs.Prelude.{Err, Ok, Result, ℕ, ◌≡◌}

-- memory ran out, or reading gives this fault
abbrev pub Fails : {Y : Type 0} → LineError → Result Y Kind → Type 0
Fails errors.Memory read = Unit {0}
Fails (errors.Fault kind) read = read ≡ Err kind

-- what a function returned of a line, seen by view, is what reading gives
abbrev pub Gives : {X Y : Type 0} → (X → Y) → Result X LineError → Result Y Kind → Type 0
Gives view (Ok x) read = read ≡ Ok (view x)
Gives view (Err e) read = Fails e read

-- the same of a text
abbrev pub FailsText : {Y : Type 0} → ReadFault → Result Y TextFault → Type 0
FailsText faults.OutOfMemory read = Unit {0}
FailsText (faults.Text fault) read = read ≡ Err fault

-- what a function returned of a text, seen by view, is what reading gives
abbrev pub GivesText : {X Y : Type 0} → (X → Y) → Result X ReadFault → Result Y TextFault → Type 0
GivesText view (Ok x) read = read ≡ Ok (view x)
GivesText view (Err e) read = FailsText e read

-- what was returned of line n, told of the text
abbrev pub IsAt : {A : Type 0} → ℕ → Result A LineError → Result A ReadFault → Type 0
IsAt n (Ok x) result = result ≡ Ok x
IsAt n (Err errors.Memory) result = result ≡ Err faults.OutOfMemory
IsAt n (Err (errors.Fault kind)) result =
    result ≡ Err (faults.Text (record { line = n; kind = kind }))
