-- The whole parse: `clap` takes the words exactly where the uses are defined, and finds just these.
-- The command has the form that the contracts ask for (`simple`, `simple_and_free`). `decided` adds
-- what follows the walk: no defaults, nothing required, no conflicts.
use Rattle.std.proofs.lemmas.Bool.{or_right}
use Rattle.std.proofs.Common.{◌≡◌, ◌∙◌, ◌⊎◌, ◌&&◌, ℕ, Bool, true, false, not, refl, sym, ap, ap₂, List, [], ◌∷◌, Option, Some, None, inl, inr, is_some}
use Rattle.std.specs.Prelude.{fold, option_and_then, if◌then◌else◌}
use Rattle.std.specs.List.{list_all, list_any}
use Rattle.nc_options.specs.Pieces.{Text, is_among}
use Rattle.nc_options.specs.Fit.{is_fit}
use Rattle.nc_options.specs.Uses.{Use, number_id, split, is_distinct, if_distinct, uses_of}
use Rattle.nc_options.specs.Commands.{args_for, command_for}
use Rattle.nc_options.proofs.Tables.{option_rule, number_rule, table, shape_for}
use Rattle.nc_options.proofs.Rows.{rows_for}
use Rattle.nc_options.proofs.Turns.{nothing, walk_at, end_of, rest_fault, first_none, or_else_then, kind_not_none}
use Rattle.nc_options.proofs.Walks.{follow}
use Rattle.clap.specs.Walk.{Row, Rule, Walk, Held, with_default, finished, settled, has_row, nothing_held, walk, walk_from, is_empty, is_early_multiple}
use Rattle.clap.specs.Simple.{App, Shape, built, filled_from, matches_of, is_simple, entered, names_of, argument_words, has_simple_rules, is_in_order}
use Rattle.clap.specs.Kinds.{Kinds, or_else, check_kinds}
use Rattle.clap.specs.Takes.{is_given}
use Rattle.clap.specs.Faults.{settle_fault, walk_fault, defaults_fault, default_fault, check_fault, level_fault, entered_fault, built_fault, fault_of, is_simple_and_free}

-- ---- the command as it is built

filled_args : (names : List Text) (number : Bool)
    → filled_from 1 (args_for names number) ≡ table names number
filled_args [] true = refl
filled_args [] false = refl
filled_args (n ∷ ns) number = ap (λ rs. option_rule n ∷ rs) (filled_args ns number)

abbrev built_for : Text → List Rule → App
built_for name rules = record {
  top = record (shape_for name [] false) { rules = rules };
  subs = [];
}

built_is : (name : Text) (names : List Text) (number : Bool)
    → built (command_for name names number) ≡ built_for name (table names number)
built_is name names number = ap (built_for name) (filled_args names number)

all_simple : (names : List Text) (number : Bool)
    → list_all (λ a. a.is_simple) (args_for names number) ≡ true
all_simple [] true = refl
all_simple [] false = refl
all_simple (n ∷ ns) number = all_simple ns number

table_simple : (names : List Text) (number : Bool)
    → list_all (λ a. a.is_simple) (table names number) ≡ true
table_simple [] true = refl
table_simple [] false = refl
table_simple (n ∷ ns) number = table_simple ns number

table_free : (names : List Text) (number : Bool)
    → list_all (λ a. a.is_free) (table names number) ≡ true
table_free [] true = refl
table_free [] false = refl
table_free (n ∷ ns) number = table_free ns number

none_early : (k : ℕ) (names : List Text) (number : Bool)
    → list_any (is_early_multiple k) (table names number) ≡ false
none_early k [] true = refl
none_early k [] false = refl
none_early k (n ∷ ns) number = none_early k ns number

pub simple : (name : Text) (names : List Text) (number : Bool)
    → is_simple (command_for name names number) ≡ true
simple name names number =
    ap₂ (λ x a. (x && true) && (Rattle.clap.specs.Simple.is_ready a.top
    && list_all Rattle.clap.specs.Simple.is_ready_leaf a.subs)) (all_simple names number)
    (built_is name names number)
    ∙ ap₂ (λ x y. (x && not y) && true) (table_simple names number) (none_early _ names number)

pub simple_and_free : (name : Text) (names : List Text) (number : Bool)
    → is_simple_and_free (command_for name names number) ≡ true
simple_and_free name names number =
    ap₂ (λ x a. x && Rattle.clap.specs.Faults.is_free_app a) (simple name names number)
    (built_is name names number)
    ∙ ap (λ x. x && true) (table_free names number)

-- ---- after the walk

if_same : {X : Type 0} (b : Bool) (x : X) → (if b then x else x) ≡ x
if_same true x = refl
if_same false x = refl

no_defaults : (rows : List Row) (names : List Text) (number : Bool)
    → defaults_fault rows (table names number) ≡ []
unfolding defaults_fault
no_defaults rows [] false = refl
no_defaults rows [] true =
    ap (λ b. or_else (if b then [] else Rattle.clap.specs.Faults.given_default_fault number_rule [])
    []) (or_right (has_row number_id rows) true refl)
no_defaults rows (n ∷ ns) number =
    ap (λ b. or_else (if b then [] else Rattle.clap.specs.Faults.given_default_fault (option_rule n)
    []) (defaults_fault (with_default rows (option_rule n)) (table ns number)))
    (or_right (has_row n rows) true refl)
    ∙ no_defaults (with_default rows (option_rule n)) ns number

nothing_added : (rows : List Row) (names : List Text) (number : Bool)
    → fold with_default rows (table names number) ≡ rows
nothing_added rows [] false = refl
nothing_added rows [] true = if_same (has_row number_id rows) rows
nothing_added rows (n ∷ ns) number =
    ap (λ rs. fold with_default rs (table ns number)) (if_same (has_row n rows) rows)
    ∙ nothing_added rows ns number

none_required : (rows : List Row) (names : List Text) (number : Bool)
    → list_any (λ a. a.required && not (is_given a.id rows)) (table names number) ≡ false
none_required rows [] true = refl
none_required rows [] false = refl
none_required rows (n ∷ ns) number = none_required rows ns number

checked : (name : Text) (names : List Text) (number : Bool) (rows : List Row)
    → check_fault (shape_for name names number) rows false ≡ []
checked name names number rows =
    ap (λ b. check_kinds false false b) (none_required rows names number)

none_entered : (name : Text) (rules : List Rule) (stop : Option (Text × List Text))
    → entered (built_for name rules) stop ≡ None
none_entered name rules None = refl
none_entered name rules (Some p) = refl

none_below : (name : Text) (rules : List Rule) (stop : Option (Text × List Text))
    → entered_fault (built_for name rules) stop ≡ []
none_below name rules None = refl
none_below name rules (Some p) = refl

second_none : (a b : Kinds) → or_else a b ≡ [] → b ≡ []
second_none [] b e = e
second_none (k ∷ ks) b e = absurd (kind_not_none k ks e)

both_none : (a b : Kinds) → a ≡ [] → b ≡ [] → or_else a b ≡ []
both_none a b e f = or_else_then a b e ∙ f

-- what the parse fails by
abbrev level : Text → List Text → Bool → List Text → Kinds
level name names number words =
    level_fault (shape_for name names number) [] nothing_held words false []

fault_is : (name : Text) (names : List Text) (number : Bool) (command : Text) (words : List Text)
    → fault_of (command_for name names number) (command ∷ words) ≡ level name names number words
fault_is name names number command words =
    ap (λ a. built_fault a nothing_held words) (built_is name names number)
    ∙ ap₂ (λ o below. level_fault (shape_for name names number) [] nothing_held words (is_some o)
    below)
    (none_entered name (table names number)
    (walk (table names number) [] nothing_held words).stopped)
    (none_below name (table names number) (walk (table names number) [] nothing_held words).stopped)

level_passes : (name : Text) (names : List Text) (number : Bool) (words : List Text)
    → rest_fault name names number (walk_at [] nothing 1) words ≡ []
    → level name names number words ≡ []
level_passes name names number words e =
    both_none _ _ (first_none _ _ e)
    (both_none _ _ (second_none _ _ e)
    (both_none _ _ (no_defaults (settled (table names number)
    (end_of names number (walk_at [] nothing 1) words).held).rows names number)
    (checked name names number (finished (table names number)
    (end_of names number (walk_at [] nothing 1) words).held))))

level_refuses : (name : Text) (names : List Text) (number : Bool) (words : List Text)
    → level name names number words ≡ [] → rest_fault name names number (walk_at [] nothing 1) words
    ≡ []
level_refuses name names number words e =
    let walk_part = walk_fault (shape_for name names number) [] (walk_at [] nothing 1) words in
    let end_part =
    settle_fault (table names number) false
    (end_of names number (walk_at [] nothing 1) words).held in
    let last_part =
    or_else (defaults_fault (settled (table names number)
    (end_of names number (walk_at [] nothing 1) words).held).rows (table names number))
    (check_fault (shape_for name names number)
    (finished (table names number) (end_of names number (walk_at [] nothing 1) words).held)
    false) in
    both_none walk_part end_part (first_none walk_part (or_else end_part last_part) e)
    (first_none end_part last_part (second_none walk_part (or_else end_part last_part) e))

matches_are : (name : Text) (names : List Text) (number : Bool) (command : Text) (words : List Text)
    → matches_of (command_for name names number) (command ∷ words)
    ≡ (settled (table names number)
    (end_of names number (walk_at [] nothing 1) words).held).rows
matches_are name names number command words =
    ap (λ (a : App). Rattle.clap.specs.Walk.rows_after a.top.rules (names_of a) words)
    (built_is name names number)
    ∙ nothing_added _ names number

-- `clap` takes the words, and finds the uses
pub record Takes (name : Text) (names : List Text) (number : Bool) (command : Text)
    (words : List Text) : Type 0 where
  pub uses : List Use
  pub is : uses_of names number words ≡ Some uses
  pub fault : fault_of (command_for name names number) (command ∷ words) ≡ []
  pub found : matches_of (command_for name names number) (command ∷ words) ≡ rows_for uses

-- it refuses them, and there are none
pub record Refuses (name : Text) (names : List Text) (number : Bool) (command : Text)
    (words : List Text) : Type 0 where
  pub is : uses_of names number words ≡ None
  pub fault : fault_of (command_for name names number) (command ∷ words) ≡ [] → ⊥

no_uses : (o : Option (List Use)) → ((m : List Use) → o ≡ Some m → is_distinct m ≡ true → ⊥)
    → option_and_then if_distinct o ≡ None
no_uses None h = refl
no_uses (Some m) h = go (is_distinct m) refl
  where
    go : (b : Bool) → is_distinct m ≡ b → (if b then Some m else None) ≡ None
    go true e = absurd (h m refl e)
    go false e = refl

pub decided : (name : Text) (names : List Text) (number : Bool) (command : Text) (words : List Text)
    → is_among names [] ≡ false → is_among names number_id ≡ false
    → list_all (is_fit names) words ≡ true
    → Takes name names number command words ⊎ Refuses name names number command words
decided name names number command words empty none fit =
    elim (follow name names number words empty none fit [] nothing 1 refl tt (inl (refl, refl))) [
      | inl f ↦ inl (record {
        uses = f.more;
        is = ap (option_and_then if_distinct) f.is ∙ ap (λ b. if b then Some f.more else None)
            f.distinct;
        fault = fault_is name names number command words
            ∙ level_passes name names number words f.passes;
        found = matches_are name names number command words ∙ f.rows;
      })
      | inr f ↦ inr (record {
        is = no_uses (split names number words None) f.undefined;
        fault = λ e. f.refused (level_refuses name names number words
            (sym (fault_is name names number command words) ∙ e));
      })
    ]
