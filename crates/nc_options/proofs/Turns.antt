-- One turn of `clap`'s walk over the words, beside one step of `split`.
-- `clap` uses a value one step late, at the next option or number or at the end, and finds a repeat
-- only then. `Hold` is what is held back: nothing, a value, or an option that wants one. It becomes
-- one more row, or clashes with one that is there (`settles`). `joined_met`, `named_met` and
-- `plain_met` are the three kinds of words; `Fits` and `Fails` are the two verdicts on the rest.
use Rattle.std.proofs.Common.{◌≡◌, ◌∙◌, ◌⊎◌, ℕ, Bool, true, false, refl, sym, ap, ap₂, List, [], ◌∷◌, ◌++◌, Option, Some, None, inl, inr, append_assoc}
use Rattle.std.specs.Prelude.{find, fold, option_map, option_and_then, if◌then◌else◌}
use Rattle.std.specs.List.{list_all, list_any}
use Rattle.std.specs.Str.{bytes_eq}
use Rattle.nc_options.specs.Pieces.{Text, joined, named, plain, is_among}
use Rattle.nc_options.specs.Uses.{Use, with_use, is_distinct}
use Rattle.nc_options.proofs.Tables.{usual_rule, option_rule, table, shape_for, long_found}
use Rattle.nc_options.proofs.Rows.{rows_for, used_new, use_fault_new, use_fault_again}
use Rattle.nc_options.proofs.Distinct.{has_name, distinct_push, not_distinct}
use Rattle.nc_options.proofs.Pieces.{Reads, dashes}
use Rattle.clap.specs.Lexer.{long_of}
use Rattle.clap.specs.Walk.{Held, Row, Rule, Walk, Waiting, idle, option, Step, next, trailing, value, walked, word_met, long_or_other, short_or_plain, long_met, after_flag, option_met, plain_word, option_word, after_step, to_positional, used, used_by_id, settled, reacted, arg_by_id, arg_by_index, pushed, positional_held, is_pending, takes_several}
use Rattle.clap.specs.Kinds.{Kinds, or_else}
use Rattle.clap.specs.Faults.{use_fault, settle_fault, react_fault, walk_fault, turn_fault, word_fault, flag_word_fault, long_fault, step_fault, positional_fault, stray_fault, bundle_fault}
use Rattle.std.specs.Option.{option_map_or}

-- ---- lists of kinds

pub or_else_nil : (a : Kinds) → or_else a [] ≡ a
or_else_nil [] = refl
or_else_nil (k ∷ ks) = refl

pub first_none : (a b : Kinds) → or_else a b ≡ [] → a ≡ []
first_none [] b e = refl
first_none (k ∷ ks) b e = e

pub or_else_then : (a b : Kinds) → a ≡ [] → or_else a b ≡ b
or_else_then a b e = ap (λ x. or_else x b) e

pub kind_not_none : (k : _) (ks : Kinds) → k ∷ ks ≡ [] → ⊥
kind_not_none k ks e = cc

-- ---- where the walk stands

-- what is held back: a value that was read and not yet used, or an option that wants its value
pub data Hold : Type 0 where
  nothing : Hold
  kept : Text → Text → Hold
  wants : Text → Hold

abbrev pub all_of : List Use → Hold → List Use
all_of us nothing = us
all_of us (kept id v) = us ++ (id, v) ∷ []
all_of us (wants n) = us

abbrev pub pending_by : Hold → Option (Text × List Text)
pending_by nothing = None
pending_by (kept id v) = Some (id, v ∷ [])
pending_by (wants n) = Some (n, [])

abbrev pub waiting_by : Hold → Waiting
waiting_by (wants n) = option n
waiting_by _ = idle

abbrev pub held_for : List Use → Hold → Held
held_for us hold = record { rows = rows_for us; pending = pending_by hold; skip = 0 }

abbrev pub walk_at : List Use → Hold → ℕ → Walk
walk_at us hold pos =
    record {
      held = held_for us hold;
      waiting = waiting_by hold;
      position = pos;
      is_trailing = false;
      stopped = None;
    }

-- ---- verdicts

abbrev pub end_of : List Text → Bool → Walk → List Text → Walk
end_of names number w words = fold (walked (table names number) []) w words

abbrev pub rest_fault : Text → List Text → Bool → Walk → List Text → Kinds
rest_fault name names number w words =
    or_else (walk_fault (shape_for name names number) [] w words)
    (settle_fault (table names number) false (end_of names number w words).held)

-- the rest of the words goes through, as `split` says
pub record Fits (name : Text) (names : List Text) (number : Bool) (w : Walk) (words : List Text)
    (all : List Use) (spl : Option (List Use)) : Type 0 where
  pub more : List Use
  pub is : spl ≡ Some more
  pub distinct : is_distinct (all ++ more) ≡ true
  pub passes : rest_fault name names number w words ≡ []
  pub rows : (settled (table names number) (end_of names number w words).held).rows ≡ rows_for
      (all ++ more)

-- it is refused, and no uses are defined
pub record Fails (name : Text) (names : List Text) (number : Bool) (w : Walk) (words : List Text)
    (all : List Use) (spl : Option (List Use)) : Type 0 where
  pub refused : rest_fault name names number w words ≡ [] → ⊥
  pub undefined : (more : List Use) → spl ≡ Some more → is_distinct (all ++ more) ≡ true → ⊥

abbrev pub Verdict : Text → List Text → Bool → Walk → List Text → List Use → Option (List Use)
    → Type 0
Verdict name names number w words all spl =
    Fits name names number w words all spl ⊎ Fails name names number w words all spl

-- a turn that passes
pub advance : (name : Text) (names : List Text) (number : Bool) (w w2 : Walk) (word : Text)
    (rest : List Text)
    → turn_fault (shape_for name names number) [] w word ≡ []
    → walked (table names number) [] w word ≡ w2
    → rest_fault name names number w (word ∷ rest) ≡ rest_fault name names number w2 rest
unfolding walk_fault
advance name names number w w2 word rest none is =
    ap (λ x. or_else (or_else x (walk_fault (shape_for name names number) []
    (walked (table names number) [] w word) rest))
    (settle_fault (table names number) false
    (end_of names number (walked (table names number) [] w word) rest).held)) none
    ∙ ap (λ v. rest_fault name names number v rest) is

-- a turn that is refused
pub halt : (name : Text) (names : List Text) (number : Bool) (w : Walk) (word : Text)
    (rest : List Text)
    → (turn_fault (shape_for name names number) [] w word ≡ [] → ⊥)
    → rest_fault name names number w (word ∷ rest) ≡ [] → ⊥
unfolding walk_fault
halt name names number w word rest bad e = bad (first_none _ _ (first_none _ _ e))

pub none_of_some : {X : Type 0} (x : X) → None ≡ Some x → ⊥
none_of_some x e = cc

-- after a use the verdict is that of the rest
pub carry : (name : Text) (names : List Text) (number : Bool) (w w2 : Walk) (word : Text)
    (rest : List Text) (all : List Use) (n v : Text) (spl : Option (List Use))
    → turn_fault (shape_for name names number) [] w word ≡ []
    → walked (table names number) [] w word ≡ w2
    → Verdict name names number w2 rest (all ++ (n, v) ∷ []) spl
    → Verdict name names number w (word ∷ rest) all (with_use n v spl)
carry name names number w w2 word rest all n v spl none is (inl f) = inl (record {
  more = (n, v) ∷ f.more;
  is = ap (with_use n v) f.is;
  distinct = ap is_distinct (sym (append_assoc all ((n, v) ∷ []) f.more)) ∙ f.distinct;
  passes = advance name names number w w2 word rest none is ∙ f.passes;
  rows = ap (λ x. (settled (table names number) (end_of names number x rest).held).rows) is ∙ f.rows
      ∙ ap rows_for (append_assoc all ((n, v) ∷ []) f.more);
})
carry name names number w w2 word rest all n v spl none is (inr f) = inr (record {
  refused = λ e. f.refused (sym (advance name names number w w2 word rest none is) ∙ e);
  undefined = λ more e d. no more spl f.undefined e d;
})
  where
    no : (more : List Use) (o : Option (List Use))
        → ((m : List Use) → o ≡ Some m → is_distinct ((all ++ (n, v) ∷ []) ++ m) ≡ true → ⊥)
        → with_use n v o ≡ Some more → is_distinct (all ++ more) ≡ true → ⊥
    no more None h e d = none_of_some more e
    no more (Some m) h e d =
        let same : (n, v) ∷ m ≡ more = cc in
        h m refl (ap is_distinct (append_assoc all ((n, v) ∷ []) m ∙ ap (λ x. all ++ x) same) ∙ d)

-- after an option's name it is that of the rest too
pub pass_on : (name : Text) (names : List Text) (number : Bool) (w w2 : Walk) (word : Text)
    (rest : List Text) (all : List Use) (spl : Option (List Use))
    → turn_fault (shape_for name names number) [] w word ≡ []
    → walked (table names number) [] w word ≡ w2
    → Verdict name names number w2 rest all spl → Verdict name names number w (word ∷ rest) all spl
pass_on name names number w w2 word rest all spl none is (inl f) = inl (record {
  more = f.more;
  is = f.is;
  distinct = f.distinct;
  passes = advance name names number w w2 word rest none is ∙ f.passes;
  rows = ap (λ x. (settled (table names number) (end_of names number x rest).held).rows) is
      ∙ f.rows;
})
pass_on name names number w w2 word rest all spl none is (inr f) = inr (record {
  refused = λ e. f.refused (sym (advance name names number w w2 word rest none is) ∙ e);
  undefined = f.undefined;
})

-- ---- one word

-- a word that isn't the positional's, by what it is refused for and where it leads
pub turn_of : (name : Text) (names : List Text) (number : Bool) (w : Walk) (word : Text)
    (ks : Kinds) (h : Held) (v : Waiting)
    → w.stopped ≡ None
    → word_fault (shape_for name names number) [] w.is_trailing w.waiting word w.held ≡ ks
    → word_met (table names number) [] w.is_trailing w.waiting w.position word w.held ≡ (h, next v)
    → turn_fault (shape_for name names number) [] w word ≡ ks
turn_of name names number w word ks h v on fault met =
    ap (λ o. if Rattle.std.specs.Prelude.is_some o then [] else or_else
    (word_fault (shape_for name names number) [] w.is_trailing w.waiting word w.held)
    (step_fault (shape_for name names number) w.position
    (word_met (table names number) [] w.is_trailing w.waiting w.position word w.held).0
    (word_met (table names number) [] w.is_trailing w.waiting w.position word w.held).1)) on
    ∙ ap₂ (λ x m. or_else x (step_fault (shape_for name names number) w.position m.0 m.1)) fault met
    ∙ or_else_nil ks

pub walked_to : (names : List Text) (number : Bool) (us : List Use) (hold : Hold) (pos : ℕ)
    (word : Text) (h : Held) (v : Waiting)
    → word_met (table names number) [] false (waiting_by hold) pos word (held_for us hold)
    ≡ (h, next v)
    → walked (table names number) [] (walk_at us hold pos) word ≡ record {
      held = h;
      waiting = v;
      position = pos;
      is_trailing = false;
      stopped = None;
    }
unfolding walked
walked_to names number us hold pos word h v met =
    ap (λ m. after_step (table names number) word (walk_at us hold pos) m.0 m.1) met

-- what `--name=value` is, while no option wants a value
pub joined_met : (names : List Text) (number : Bool) (pos : ℕ) (word n v : Text) (h : Held)
    → Reads names word (joined n v)
    → word_met (table names number) [] false idle pos word h
    ≡ (reacted (table names number) (option_rule n) (v ∷ []) h, next idle)
joined_met names number pos word n v h r =
    ap (λ b. if b then (h, trailing pos) else long_or_other (table names number) idle word
    (long_of word) h) r.0
    ∙ ap (λ o. long_or_other (table names number) idle word o h) r.1
    ∙ ap (λ a. after_flag (table names number) idle word
    (long_met (table names number) a (Some v) h).0
    (long_met (table names number) a (Some v) h).1) (long_found names number n r.2)

pub long_refused : (name : Text) (names : List Text) (number : Bool) (waiting : Waiting)
    (word n : Text) (o : Option Text) (h : Held)
    → bytes_eq word dashes ≡ false → long_of word ≡ Some (n, o) → is_among names n ≡ true
    → word_fault (shape_for name names number) [] false waiting word h ≡ long_fault
    (table names number) false (Some (option_rule n)) o h
long_refused name names number idle word n o h off is among =
    ap (λ b. if b then [] else flag_word_fault (table names number) false (long_of word) word h) off
    ∙ ap (λ x. flag_word_fault (table names number) false x word h) is
    ∙ ap (λ a. long_fault (table names number) false a o h) (long_found names number n among)
long_refused name names number (option m) word n o h off is among =
    ap (λ b. if b then [] else flag_word_fault (table names number) false (long_of word) word h) off
    ∙ ap (λ x. flag_word_fault (table names number) false x word h) is
    ∙ ap (λ a. long_fault (table names number) false a o h) (long_found names number n among)
long_refused name names number Rattle.clap.specs.Walk.positional word n o h off is among =
    ap (λ b. if b then [] else flag_word_fault (table names number) false (long_of word) word h) off
    ∙ ap (λ x. flag_word_fault (table names number) false x word h) is
    ∙ ap (λ a. long_fault (table names number) false a o h) (long_found names number n among)

pub named_met : (names : List Text) (number : Bool) (pos : ℕ) (word n : Text) (h : Held)
    → Reads names word (named n)
    → word_met (table names number) [] false idle pos word h
    ≡ (record (settled (table names number) h) { pending = Some (n, []) }, next (option n))
named_met names number pos word n h r =
    ap (λ b. if b then (h, trailing pos) else long_or_other (table names number) idle word
    (long_of word) h) r.0
    ∙ ap (λ o. long_or_other (table names number) idle word o h) r.1
    ∙ ap (λ a. after_flag (table names number) idle word (long_met (table names number) a None h).0
    (long_met (table names number) a None h).1) (long_found names number n r.2)

pub plain_met : (names : List Text) (number : Bool) (waiting : Waiting) (pos : ℕ) (word w : Text)
    (h : Held) → Reads names word (plain w)
    → word_met (table names number) [] false waiting pos word h ≡ plain_word (table names number)
    waiting word h
plain_met names number idle pos word w h r =
    ap (λ b. if b then (h, trailing pos) else long_or_other (table names number) idle word
    (long_of word) h) r.0
    ∙ ap (λ o. long_or_other (table names number) idle word o h) r.1
    ∙ ap (λ o. short_or_plain (table names number) idle word o h) r.2
plain_met names number (option n) pos word w h r =
    ap (λ b. if b then (h, trailing pos) else long_or_other (table names number) (option n) word
    (long_of word) h) r.0
    ∙ ap (λ o. long_or_other (table names number) (option n) word o h) r.1
    ∙ ap (λ o. short_or_plain (table names number) (option n) word o h) r.2
plain_met names number Rattle.clap.specs.Walk.positional pos word w h r =
    ap (λ b. if b then (h, trailing pos) else long_or_other (table names number)
    Rattle.clap.specs.Walk.positional word (long_of word) h) r.0
    ∙ ap (λ o. long_or_other (table names number) Rattle.clap.specs.Walk.positional word o h) r.1
    ∙ ap (λ o. short_or_plain (table names number) Rattle.clap.specs.Walk.positional word o h) r.2

pub plain_refused : (name : Text) (names : List Text) (number : Bool) (waiting : Waiting)
    (word w : Text) (h : Held) → Reads names word (plain w)
    → word_fault (shape_for name names number) [] false waiting word h ≡ []
plain_refused name names number waiting word w h r =
    ap (λ o. Rattle.clap.specs.Faults.other_fault (shape_for name names number) o word h)
    (no_sub waiting)
    ∙ ap (λ b. if b then [] else flag_word_fault (table names number) false (long_of word) word h)
    r.0
    ∙ ap (λ x. flag_word_fault (table names number) false x word h) r.1
    ∙ ap (λ o. option_map_or (λ flags. bundle_fault (table names number) false flags h) o []) r.2
  where
    no_sub : (v : Waiting) → Rattle.clap.specs.Walk.subcommand_met [] v word ≡ None
    no_sub idle = refl
    no_sub (option n) = refl
    no_sub Rattle.clap.specs.Walk.positional = refl

-- ---- what is held back is used

pub record Settles (names : List Text) (number : Bool) (us : List Use) (hold : Hold) : Type 0 where
  pub fault : settle_fault (table names number) false (held_for us hold) ≡ []
  pub rows : settled (table names number) (held_for us hold) ≡ held_for (all_of us hold) nothing
  pub distinct : is_distinct (all_of us hold) ≡ true

pub record Clashes (names : List Text) (number : Bool) (us : List Use) (hold : Hold) : Type 0 where
  pub fault : settle_fault (table names number) false (held_for us hold) ≡ [] → ⊥
  pub twice : (more : List Use) → is_distinct (all_of us hold ++ more) ≡ true → ⊥

-- the argument of what is held back is one of the command's
abbrev pub IsKnown : List Text → Bool → Hold → Type 0
IsKnown names number nothing = Unit {0}
IsKnown names number (kept id v) =
    (l : Option Text) × (i : Option ℕ)
    × (arg_by_id (table names number) id ≡ Some (usual_rule id l i))
IsKnown names number (wants n) = is_among names n ≡ true

abbrev pub IsIdle : Hold → Type 0
IsIdle (wants n) = ⊥
IsIdle _ = Unit {0}

pub settles : (names : List Text) (number : Bool) (us : List Use) (hold : Hold) → IsIdle hold
    → IsKnown names number hold → is_distinct us ≡ true
    → Settles names number us hold ⊎ Clashes names number us hold
settles names number us nothing free known d =
    inl (record { fault = refl; rows = refl; distinct = d })
settles names number us (wants n) free known d = absurd free
settles names number us (kept id v) free known d = go (has_name id us) refl
  where
    used_fault : (l : Option Text) (i : Option ℕ)
        → arg_by_id (table names number) id ≡ Some (usual_rule id l i)
        → settle_fault (table names number) false (held_for us (kept id v)) ≡ use_fault false
        (usual_rule id l i) (v ∷ []) (rows_for us)
    used_fault l i e =
        ap (λ o. option_map_or (λ a. use_fault false a (v ∷ []) (rows_for us)) o []) e

    go : (b : Bool) → has_name id us ≡ b → Settles names number us (kept id v)
        ⊎ Clashes names number us (kept id v)
    go false e = inl (record {
      fault = used_fault known.0 known.1 known.2 ∙ use_fault_new id v known.0 known.1 us e;
      rows = ap (λ o. record {
        rows = used_by_id o (v ∷ []) (rows_for us);
        pending = None;
        skip = 0;
      }) known.2
          ∙ ap (λ rs. record { rows = rs; pending = None; skip = 0 })
          (used_new id v known.0 known.1 us e);
      distinct = distinct_push us id v d e;
    })
    go true e = inr (record {
      fault = λ f. kind_not_none _ _
          (sym (used_fault known.0 known.1 known.2 ∙ use_fault_again id v known.0 known.1 us e)
          ∙ f);
      twice = λ more f. not_distinct us id v more e
          (ap is_distinct (sym (append_assoc us ((id, v) ∷ []) more)) ∙ f);
    })
