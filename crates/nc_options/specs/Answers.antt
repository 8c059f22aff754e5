-- What the calls answer, beside what the definitions say.
--
-- A definition gives a value or none. A call gives the value exactly where there is one, and
-- `Usage` exactly where there is none. It may also run out of memory, at any time and whatever the
-- words are.
use Rattle.std.specs.Prelude.{◌≡◌, List, Option, Some, None, Result, Ok, Err}
use Rattle.clap.specs.Words.{first_value, found_of, kind_of}
use Rattle.clap.specs.declared.ArgMatches.{ArgMatches}
use Rattle.clap.specs.declared.Error.{Error}
use Rattle.clap.specs.declared.error.ErrorKind.TheVariants.{OutOfMemory}
use Rattle.nc_options.specs.Pieces.{Text}
use Rattle.nc_options.specs.Uses.{Use, value_of}
use Rattle.nc_options.specs.declared.error.OptionsError.{OptionsError}
use Rattle.nc_options.specs.declared.error.OptionsError.TheVariants.{Usage, Memory}

-- a call answers the value exactly where there is one, and Usage exactly where there is none
abbrev pub Answers : {T : Type 0} → Option T → Result T OptionsError → Type 0
Answers value (Ok x) = value ≡ Some x
Answers value (Err Usage) = value ≡ None
Answers value (Err (Memory e)) = Unit {0}

-- the matches have each use's value under its name, and no other value
abbrev pub HoldsUses : ArgMatches → List Use → Type 0
HoldsUses matches uses = (name : Text) → first_value (found_of matches) name ≡ value_of name uses

-- the same of uses, which matches of `clap` hold
abbrev pub AnswersUses : Option (List Use) → Result ArgMatches OptionsError → Type 0
AnswersUses value (Ok matches) = (uses : List Use) × (value ≡ Some uses) × HoldsUses matches uses
AnswersUses value (Err Usage) = value ≡ None
AnswersUses value (Err (Memory e)) = Unit {0}

-- an error of `clap` is Usage, unless memory ran out
abbrev pub IsCause : Error → OptionsError → Type 0
IsCause e Usage = kind_of e ≡ OutOfMemory → ⊥
IsCause e (Memory m) = Unit {0}
