-- The values of the options: their ranges and defaults.
--
-- Values are texts until here. `given` is a function from names to the texts that were given, or
-- `None`. A number has 1 to 18 decimal digits and lies in its range; leading zeros are digits. A
-- default holds where the option was not given, and never for a text that is no value. `cofactors`
-- says what is shown of the cofactors: none, the traces, or the labels in full; `form` says whether
-- a certificate is printed as terms or as lines.
use Rattle.std.specs.Prelude.{◌&&◌, ◌==◌, ℕ, Option, Some, None, codes, if◌then◌else◌, length, nat_le, nat_lt, option_and_then, option_map}
use Rattle.std.specs.Char.{is_ascii_digit}
use Rattle.std.specs.List.{list_all}
use Rattle.std.specs.Str.{bytes_eq}
use Rattle.std.specs.Str.Parse.{digits_value}
use Rattle.nc_options.specs.Pieces.{Text}
use Rattle.nc_options.specs.Uses.{number_id}
use Rattle.nc_options.specs.declared.options.Cofactors.{Cofactors}
use Rattle.nc_options.specs.declared.options.Cofactors.TheVariants.{Omitted, Trace, Full}
use Rattle.nc_options.specs.declared.options.Form.{Form}
use Rattle.nc_options.specs.declared.options.Form.TheVariants.{Terms, Lines}

-- the value of 1 to 18 decimal digits; leading zeros are digits
abbrev pub digits_of : Text → Option ℕ
digits_of text =
    if nat_lt 0 (length text) && (nat_le (length text) 18 && list_all is_ascii_digit text)
    then Some (digits_value 10 text) else None

-- a number from `low` to `high`
abbrev pub within : ℕ → ℕ → ℕ → Option ℕ
within low high number = if nat_le low number && nat_le number high then Some number else None

-- a number of 1 to 18 digits from `low` to `high`
abbrev pub number_in : ℕ → ℕ → Text → Option ℕ
number_in low high text = option_and_then (within low high) (digits_of text)

-- the number that was given, or the default
abbrev pub number_or : ℕ → ℕ → ℕ → Option Text → Option ℕ
number_or low high default None = Some default
number_or low high default (Some text) = number_in low high text

-- 1 to 64 workers, 1 by default
abbrev pub workers_option : (Text → Option Text) → Option ℕ
workers_option given = number_or 1 64 1 (given (codes "workers"))

-- a window of 1 to 4,096, 64 by default
abbrev pub window_option : (Text → Option Text) → Option ℕ
window_option given = number_or 1 4096 64 (given (codes "window"))

-- a limit of 1 to 10,000,000 terms, 10,000 by default
abbrev pub limit_option : (Text → Option Text) → Option ℕ
limit_option given = number_or 1 10000000 10000 (given (codes "limit"))

-- the form with this number, 1 or 2
abbrev pub form_numbered : ℕ → Form
form_numbered number = if number == 1 then Terms else Lines

-- form 1 or 2, form 2 by default
abbrev pub form_option : (Text → Option Text) → Option Form
form_option given = option_map form_numbered (number_or 1 2 2 (given (codes "form")))

-- a degree of 2 to 10, 6 by default
abbrev pub degree_option : (Text → Option Text) → Option ℕ
degree_option given = number_or 2 10 6 (given (codes "degree"))

-- the number of a demo, which has to be given
abbrev pub number_option : (Text → Option Text) → Option ℕ
number_option given = option_and_then (number_in 0 65536) (given number_id)

-- the cofactors that a text names: none, trace or full
abbrev pub cofactors_named : Text → Option Cofactors
cofactors_named text = if bytes_eq text (codes "none") then Some Omitted
    else (if bytes_eq text (codes "trace") then Some Trace
    else (if bytes_eq text (codes "full") then Some Full else None))

-- those that were given, none by default
abbrev pub cofactors_or : Option Text → Option Cofactors
cofactors_or None = Some Omitted
cofactors_or (Some text) = cofactors_named text

-- the value of the option
abbrev pub cofactors_option : (Text → Option Text) → Option Cofactors
cofactors_option given = cofactors_or (given (codes "cofactors"))
