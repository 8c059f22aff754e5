-- The numbers under which a report names the kinds of faults.
--
-- What each kind means is said in `crates/nc_tokens/src/fault.rt`.
use Rattle.nc_tokens.specs.declared.fault.Kind.TheVariants.{BadByte, BadName, BadPrime, DoubleName, LongLine, LongLiteral, LongWord, Missing, OutOfRange, Syntax, TooManyGenerators, TooManyNames, UnknownName, WrongLine, ZeroGenerator}
use Rattle.nc_tokens.specs.declared.fault.Kind.{Kind}
use Rattle.std.specs.Prelude.{ℕ}

-- the number of a kind
abbrev pub kind_number : Kind → ℕ
kind_number BadByte = 1
kind_number WrongLine = 2
kind_number Missing = 3
kind_number Syntax = 4
kind_number LongLiteral = 5
kind_number BadPrime = 6
kind_number BadName = 7
kind_number DoubleName = 8
kind_number TooManyNames = 9
kind_number UnknownName = 10
kind_number LongWord = 11
kind_number ZeroGenerator = 12
kind_number OutOfRange = 13
kind_number TooManyGenerators = 14
kind_number LongLine = 15
