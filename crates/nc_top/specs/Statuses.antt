-- The statuses of a run, and the exit codes that stand for them.
--
-- A code says what sort of answer it is: 0 for a yes or a complete answer, 1 for a no, 2 for words
-- that are no command, 3 for a text that cannot be read, 4 where a limit was reached, 5 and 6 for
-- failures of reading and writing, 7 where memory ran out.
use Rattle.nc_top.specs.declared.status.Status.{Status}
use Rattle.nc_top.specs.declared.status.Status.TheVariants.{BadText, Budget, Done, Invalid, NotBelow, OutOfMemory, ReadFault, TooLarge, TooMany, TooMuch, Usage, WriteFault}
use Rattle.std.specs.Prelude.{ℕ}

-- the exit code of a status
abbrev pub code_of : Status → ℕ
code_of Done = 0
code_of Invalid = 1
code_of NotBelow = 1
code_of Usage = 2
code_of (BadText line kind) = 3
code_of TooLarge = 3
code_of Budget = 4
code_of (TooMany named terms) = 4
code_of (TooMuch line charge) = 4
code_of ReadFault = 5
code_of WriteFault = 6
code_of OutOfMemory = 7
