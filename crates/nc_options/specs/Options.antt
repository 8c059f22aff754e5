-- The options that the words of a command line give, the command word first.
--
-- The words behind the command word are uses (`Uses.antt`), and each option takes its
-- value from them by its name. If the text of one option is no value of it, there are no options at
-- all. `basis` and `member` take no number, `check` takes nothing at all, and `demo` takes a
-- number. Ranges and defaults stand in `Values.antt`.
use Rattle.std.specs.Prelude.{ℕ, true, false, List, [], ◌∷◌, Option, Some, None, codes, if◌then◌else◌, option_and_then, option_map}
use Rattle.std.specs.Str.{bytes_eq}
use Rattle.nc_options.specs.Pieces.{Text}
use Rattle.nc_options.specs.Uses.{uses_of, value_of}
use Rattle.nc_options.specs.Values.{workers_option, window_option, limit_option, cofactors_option, form_option, number_option, degree_option}
use Rattle.nc_options.specs.declared.options.Cofactors.{Cofactors}
use Rattle.nc_options.specs.declared.options.BasisOptions.{BasisOptions}
use Rattle.nc_options.specs.declared.options.Form.{Form}
use Rattle.nc_options.specs.declared.options.MemberOptions.{MemberOptions}
use Rattle.nc_options.specs.declared.options.DemoOptions.{DemoOptions}
use Rattle.nc_options.specs.declared.options.Options.{Options}
use Rattle.nc_options.specs.declared.options.Options.TheVariants.{Basis, Member, Check, Demo}

-- what is made of four values, where each is there
abbrev pub of_four : {A B C D O : Type 0} → (A → B → C → D → O) → Option A → Option B → Option C
    → Option D → Option O
of_four make (Some a) (Some b) (Some c) (Some d) = Some (make a b c d)
of_four make _ _ _ _ = None

abbrev pub basis_with : ℕ → ℕ → ℕ → Cofactors → BasisOptions
basis_with workers window limit cofactors =
    record { workers = workers; window = window; limit = limit; cofactors = cofactors }

abbrev pub member_with : ℕ → ℕ → ℕ → Form → MemberOptions
member_with workers window limit form =
    record { workers = workers; window = window; limit = limit; form = form }

abbrev pub demo_with : ℕ → ℕ → ℕ → ℕ → DemoOptions
demo_with number degree workers window =
    record { number = number; degree = degree; workers = workers; window = window }

-- the options of a command, by the texts that were given under each name
abbrev pub basis_of : (Text → Option Text) → Option BasisOptions
basis_of given =
    of_four basis_with (workers_option given) (window_option given) (limit_option given)
    (cofactors_option given)

abbrev pub member_of : (Text → Option Text) → Option MemberOptions
member_of given =
    of_four member_with (workers_option given) (window_option given) (limit_option given)
    (form_option given)

abbrev pub demo_of : (Text → Option Text) → Option DemoOptions
demo_of given =
    of_four demo_with (number_option given) (degree_option given) (workers_option given)
    (window_option given)

-- the names of a command's options
abbrev pub basis_names : List Text
basis_names = codes "workers" ∷ codes "window" ∷ codes "limit" ∷ codes "cofactors" ∷ []

abbrev pub member_names : List Text
member_names = codes "workers" ∷ codes "window" ∷ codes "limit" ∷ codes "form" ∷ []

abbrev pub demo_names : List Text
demo_names = codes "degree" ∷ codes "workers" ∷ codes "window" ∷ []

-- the words are uses, and their values are options
abbrev pub basis_after : List Text → Option Options
basis_after words =
    option_and_then (λ uses. option_map Basis (basis_of (λ name. value_of name uses)))
    (uses_of basis_names false words)

-- the same of `member`
abbrev pub member_after : List Text → Option Options
member_after words =
    option_and_then (λ uses. option_map Member (member_of (λ name. value_of name uses)))
    (uses_of member_names false words)

-- the same of `demo`, which takes a number
abbrev pub demo_after : List Text → Option Options
demo_after words =
    option_and_then (λ uses. option_map Demo (demo_of (λ name. value_of name uses)))
    (uses_of demo_names true words)

-- `check` has no options and no number, so that no word may follow
abbrev pub check_after : List Text → Option Options
check_after words = option_map (λ uses. Check) (uses_of [] false words)

-- the first word is the command
abbrev pub options_of : List Text → Option Options
options_of [] = None
options_of (command ∷ words) = if bytes_eq command (codes "basis") then basis_after words
    else (if bytes_eq command (codes "member") then member_after words
    else (if bytes_eq command (codes "check") then check_after words
    else (if bytes_eq command (codes "demo") then demo_after words else None)))
