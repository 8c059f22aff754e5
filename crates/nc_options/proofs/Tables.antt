-- The command as `clap` builds it: a table of arguments, and what is found in it.
-- A name is found exactly where it is one of the names (`long_found`, `id_found`).
use Rattle.std.proofs.Common.{◌≡◌, ◌∙◌, ◌||◌, ℕ, Bool, cond, true, false, refl, sym, ap, List, [], ◌∷◌, Option, Some, None, true≢false}
use Rattle.std.specs.Str.{bytes_eq}
use Rattle.std.proofs.lemmas.Slice.Eq.{bytes_eq-Decides}
use Rattle.clap.specs.Walk.{Rule, arg_by_id, arg_by_long, arg_by_index}
use Rattle.clap.specs.Simple.{Shape, new_rule, new_shape}
use Rattle.clap.specs.declared.builder.action.ArgAction.TheVariants.{Set}
use Rattle.clap.specs.declared.builder.value_parser.ValueParser.TheVariants as vp
use Rattle.std.proofs.Math.Bool.{or-false}
use Rattle.std.proofs.lemmas.Bool.{or_parts}
use Rattle.nc_options.specs.Pieces.{Text, is_among}
use Rattle.nc_options.specs.Uses.{number_id}

-- an argument that takes one value, as text
abbrev pub usual_rule : Text → Option Text → Option ℕ → Rule
usual_rule id long index = record (new_rule id) {
  long = long;
  index = index;
  action = Some Set;
  parser = Some vp.String;
  range = Some (record { start_inclusive = 1; end_inclusive = 1 });
}

abbrev pub option_rule : Text → Rule
option_rule name = usual_rule name (Some name) None

abbrev pub number_rule : Rule
number_rule = usual_rule number_id None (Some 1)

abbrev pub number_rules : Bool → List Rule
number_rules true = number_rule ∷ []
number_rules false = []

abbrev pub table : List Text → Bool → List Rule
table [] number = number_rules number
table (n ∷ ns) number = option_rule n ∷ table ns number

abbrev pub shape_for : Text → List Text → Bool → Shape
shape_for name names number = record (new_shape name) {
  rules = table names number;
  disable_help_flag = true;
  disable_help_subcommand = true;
  is_built = true;
}

-- ---- what is found in the table

-- a search that compares the name of each option finds the rule of each of the names
found_by : (search_by : List Rule → Text → Option Rule)
    → ((m n : Text) (rules : List Rule) → search_by (option_rule m ∷ rules) n
    ≡ cond (bytes_eq m n) (Some (option_rule m)) (search_by rules n))
    → (names : List Text) (number : Bool) (n : Text) → is_among names n ≡ true
    → search_by (table names number) n ≡ Some (option_rule n)
found_by search_by step [] number n e = absurd (true≢false (sym e))
found_by search_by step (m ∷ ms) number n e =
    step m n (table ms number)
    ∙ go (bytes_eq m n) refl e (found_by search_by step ms number n)
  where
    go : (b : Bool) → bytes_eq m n ≡ b → (b || is_among ms n) ≡ true
        → (is_among ms n ≡ true → search_by (table ms number) n ≡ Some (option_rule n))
        → cond b (Some (option_rule m)) (search_by (table ms number) n) ≡ Some (option_rule n)
    go true is e rec = ap (λ x. Some (option_rule x)) ((bytes_eq-Decides m n).0 is)
    go false is e rec = rec e

pub long_found : (names : List Text) (number : Bool) (n : Text) → is_among names n ≡ true
    → arg_by_long (table names number) n ≡ Some (option_rule n)
long_found =
    found_by arg_by_long (λ m n rules. ap
    (λ b. cond b (Some (option_rule m)) (arg_by_long rules n)) (or-false (bytes_eq m n)))

pub id_found : (names : List Text) (number : Bool) (n : Text) → is_among names n ≡ true
    → arg_by_id (table names number) n ≡ Some (option_rule n)
id_found = found_by arg_by_id (λ m n rules. refl)

pub number_found : (names : List Text) → is_among names number_id ≡ false
    → arg_by_id (table names true) number_id ≡ Some number_rule
number_found [] e = refl
number_found (m ∷ ms) e =
    ap (λ b. cond b (Some (option_rule m)) (arg_by_id (table ms true) number_id))
    (or_parts (bytes_eq m number_id) _ e).0
    ∙ number_found ms (or_parts (bytes_eq m number_id) _ e).1

abbrev pub first_place : Bool → Option Rule
first_place true = Some number_rule
first_place false = None

pub place_one : (names : List Text) (number : Bool)
    → arg_by_index (table names number) 1 ≡ first_place number
place_one [] true = refl
place_one [] false = refl
place_one (m ∷ ms) number = place_one ms number

pub place_two : (names : List Text) (number : Bool) → arg_by_index (table names number) 2 ≡ None
place_two [] true = refl
place_two [] false = refl
place_two (m ∷ ms) number = place_two ms number
