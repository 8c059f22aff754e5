-- The options that are read from what `clap` found are those of the uses.
-- Options are read by a function from names to texts, and what `clap` found gives the same function
-- as the uses (`chosen`).
use Rattle.std.proofs.Common.{◌≡◌, ◌∙◌, ap, subst, sym, List, Bool, None, Option, Result, Some}
use Rattle.std.specs.Option.{ok_or}
use Rattle.std.specs.Prelude.{option_map, option_and_then}
use Rattle.nc_options.specs.Pieces.{Text}
use Rattle.nc_options.specs.Uses.{Use, uses_of, value_of}
use Rattle.clap.specs.Words.{first_value, found_of}
use Rattle.clap.specs.declared.ArgMatches.{ArgMatches}
use Rattle.nc_options.specs.Answers.{Answers, HoldsUses}
use Rattle.nc_options.specs.declared.error.OptionsError.{OptionsError}
use Rattle.nc_options.specs.declared.error.OptionsError.TheVariants.{Usage}

-- a value, and Usage where there is none
value_or_usage : {O : Type 0} (value options : Option O) → value ≡ options
    → Answers value (ok_or options Usage)
value_or_usage value (Some o) is = is
value_or_usage value None is = is

pub chosen : {T O : Type 0} (read : (Text → Option Text) → Option T) (make : T → O)
    (names listed : List Text) (takes_number : Bool) (words : List Text) (m : ArgMatches)
    (options : Option O) (result : Result O OptionsError)
    → (uses : List Use) × (uses_of listed takes_number words ≡ Some uses) × HoldsUses m uses
    → listed ≡ names → options ≡ option_map make (read (first_value (found_of m)))
    → result ≡ ok_or options Usage
    → Answers (option_and_then (λ uses. option_map make (read (λ name. value_of name uses)))
    (uses_of names takes_number words)) result
chosen {O} read make names listed takes_number words m options result held same is answer =
    subst (Answers value) (sym answer) (value_or_usage value options
    (ap (option_and_then (λ uses. option_map make (read (λ name. value_of name uses))))
    (ap (λ ns. uses_of ns takes_number words) (sym same) ∙ held.1)
    ∙ ap (λ given. option_map make (read given)) (λ i name. sym (held.2 name) i)
    ∙ sym is))
  where
    value : Option O
    value = option_and_then (λ uses. option_map make (read (λ name. value_of name uses)))
        (uses_of names takes_number words)
