-- The induction over the words: what `clap` does is what `split` says.
-- `follow`: from each place on, either the rest of the words splits into uses, no name stands
-- twice, and the walk ends without a fault in just their rows; or the walk fails, and there are no
-- such uses. Its steps are `joined_case`, `named_case`, `plain_case` and `value_case`.
use Rattle.std.proofs.lemmas.Bool.{not-true, and_parts, or_right, and_right}
use Rattle.std.proofs.Common.{◌≡◌, ◌∙◌, ◌⊎◌, ◌||◌, ℕ, Bool, true, false, refl, sym, ap, ap₂, List, [], ◌∷◌, ◌++◌, Option, Some, None, inl, inr, true≢false, append-nil}
use Rattle.std.specs.Prelude.{if◌then◌else◌, nat_lt}
use Rattle.std.specs.List.{list_all}
use Rattle.std.specs.Str.{bytes_eq}
use Rattle.std.specs.Option.{option_map_or}
use Rattle.std.proofs.lemmas.Slice.Eq.{bytes_eq-Decides}
use Rattle.nc_options.specs.Pieces.{Text, Piece, joined, named, plain, stray, piece_of, is_among}
use Rattle.nc_options.specs.Fit.{is_stray, is_fit}
use Rattle.nc_options.specs.Uses.{Use, number_id, with_use, split, split_piece, split_end, is_distinct}
use Rattle.nc_options.proofs.Tables.{option_rule, number_rule, table, shape_for, id_found, number_found, place_one, place_two}
use Rattle.nc_options.proofs.Rows.{rows_for, used_new, use_fault_new, use_fault_again}
use Rattle.nc_options.proofs.Distinct.{distinct_push, has_name, same_self, not_distinct, has_append}
use Rattle.nc_options.proofs.Pieces.{Reads, reads}
use Rattle.nc_options.proofs.Turns.{Hold, nothing, kept, wants, all_of, waiting_by, held_for, walk_at, Verdict, Settles, Clashes, IsKnown, settles, rest_fault, carry, pass_on, halt, none_of_some, kind_not_none, first_none, or_else_then, turn_of, walked_to, joined_met, named_met, plain_met, plain_refused, long_refused}
use Rattle.clap.specs.Walk.{Held, idle, option, next, value, walked, word_met, option_word, after_step, to_positional, used, settled, reacted, arg_by_index, pushed, is_pending, next_position}
use Rattle.clap.specs.Kinds.{or_else}
use Rattle.clap.specs.Faults.{use_fault, settle_fault, walk_fault, turn_fault, word_fault, long_fault, step_fault, positional_fault, stray_fault}
use Rattle.clap.specs.declared.error.kind.ErrorKind.TheVariants as kind

abbrev pub wanted_by : Hold → Option Text
wanted_by (wants n) = Some n
wanted_by _ = None

-- the place of the next positional: 1 until the number was given
abbrev pub IsPlace : List Use → ℕ → Type 0
IsPlace all pos =
    ((pos ≡ 1) × (has_name number_id all ≡ false)) ⊎ ((pos ≡ 2) × (has_name number_id all ≡ true))

other_name : (names : List Text) (n : Text) → is_among names number_id ≡ false
    → is_among names n ≡ true → bytes_eq n number_id ≡ false
other_name names n none among = go (bytes_eq n number_id) refl
  where
    go : (b : Bool) → bytes_eq n number_id ≡ b → b ≡ false
    go false e = refl
    go true e =
        absurd (true≢false (sym among ∙ ap (is_among names) ((bytes_eq-Decides n number_id).0 e)
        ∙ none))

or_same : (a b : Bool) → b ≡ false → (a || (b || false)) ≡ a
or_same true b e = refl
or_same false b e = ap (λ x. x || false) e

-- an option's use leaves the place
place_kept : (names : List Text) (all : List Use) (n v : Text) (pos : ℕ)
    → is_among names number_id ≡ false → is_among names n ≡ true
    → IsPlace all pos → IsPlace (all ++ (n, v) ∷ []) pos
place_kept names all n v pos none among place =
    let same : has_name number_id (all ++ (n, v) ∷ []) ≡ has_name number_id all =
    has_append number_id all ((n, v) ∷ []) ∙ or_same _ _ (other_name names n none among) in
    elim place [ inl h ↦ inl (h.0, same ∙ h.1) | inr h ↦ inr (h.0, same ∙ h.1) ]

-- what is proved of the rest of the words
abbrev pub Rest : Text → List Text → Bool → List Text → Type 0
Rest name names number rest =
    (us : List Use) (hold : Hold) (pos : ℕ) → is_distinct us ≡ true → IsKnown names number hold
    → IsPlace (all_of us hold) pos
    → Verdict name names number (walk_at us hold pos) rest (all_of us hold)
    (split names number rest (wanted_by hold))

-- a second use of a name is refused by `is_distinct`
twice : (all : List Use) (n v : Text) (spl : Option (List Use)) (more : List Use)
    → has_name n all ≡ true → with_use n v spl ≡ Some more → is_distinct (all ++ more) ≡ true → ⊥
twice all n v None more has e d = none_of_some more e
twice all n v (Some m) more has e d =
    let same : (n, v) ∷ m ≡ more = cc in
    not_distinct all n v m has (ap (λ x. is_distinct (all ++ x)) same ∙ d)

joined_case : (name : Text) (names : List Text) (number : Bool) (us : List Use) (hold : Hold)
    (pos : ℕ) (word n v : Text) (rest : List Text)
    → is_among names number_id ≡ false → is_among names n ≡ true
    → word_fault (shape_for name names number) [] false (waiting_by hold) word (held_for us hold)
    ≡ long_fault (table names number) false (Some (option_rule n)) (Some v) (held_for us hold)
    → word_met (table names number) [] false (waiting_by hold) pos word (held_for us hold)
    ≡ (reacted (table names number) (option_rule n) (v ∷ []) (held_for us hold), next idle)
    → Settles names number us hold ⊎ Clashes names number us hold → IsPlace (all_of us hold) pos
    → Rest name names number rest
    → Verdict name names number (walk_at us hold pos) (word ∷ rest) (all_of us hold)
    (with_use n v (split names number rest None))
joined_case name names number us hold pos word n v rest none among wf met (inr clash) place rec =
    let turn = turn_of name names number (walk_at us hold pos) word _ _ _ refl wf met in
    inr (record {
      refused =
          halt name names number (walk_at us hold pos) word rest
          (λ e. clash.fault (first_none _ _ (sym turn ∙ e)));
      undefined = λ more is d. clash.twice more d;
    })
joined_case name names number us hold pos word n v rest none among wf met (inl s) place rec =
    go (has_name n (all_of us hold)) refl
  where
    turn : turn_fault (shape_for name names number) [] (walk_at us hold pos) word ≡ use_fault false
        (option_rule n) (v ∷ []) (rows_for (all_of us hold))
    turn = turn_of name names number (walk_at us hold pos) word _ _ _ refl wf met
        ∙ or_else_then (settle_fault (table names number) false (held_for us hold))
        (use_fault false (option_rule n) (v ∷ [])
        (settled (table names number) (held_for us hold)).rows) s.fault
        ∙ ap (λ (t : Held). use_fault false (option_rule n) (v ∷ []) t.rows) s.rows

    go : (b : Bool) → has_name n (all_of us hold) ≡ b
        → Verdict name names number (walk_at us hold pos) (word ∷ rest) (all_of us hold)
        (with_use n v (split names number rest None))
    go true e = inr (record {
      refused =
          halt name names number (walk_at us hold pos) word rest
          (λ f. kind_not_none _ _ (sym (turn ∙ use_fault_again n v (Some n) None (all_of us hold) e)
          ∙ f));
      undefined = λ more is d. twice (all_of us hold) n v _ more e is d;
    })
    go false e =
        carry name names number (walk_at us hold pos)
        (walk_at (all_of us hold ++ (n, v) ∷ []) nothing pos) word rest (all_of us hold) n v
        (split names number rest None)
        (turn ∙ use_fault_new n v (Some n) None (all_of us hold) e)
        (walked_to names number us hold pos word _ _ met
        ∙ ap (λ (t : Held). record {
          held = record {
            rows = used (option_rule n) (v ∷ []) t.rows;
            pending = None;
            skip = 0;
          };
          waiting = idle;
          position = pos;
          is_trailing = false;
          stopped = None;
        }) s.rows
        ∙ ap (λ rs. record {
          held = record { rows = rs; pending = None; skip = 0 };
          waiting = idle;
          position = pos;
          is_trailing = false;
          stopped = None;
        })
        (used_new n v (Some n) None (all_of us hold) e))
        (rec (all_of us hold ++ (n, v) ∷ []) nothing pos
        (distinct_push (all_of us hold) n v s.distinct e) tt
        (place_kept names (all_of us hold) n v pos none among place))

named_case : (name : Text) (names : List Text) (number : Bool) (us : List Use) (hold : Hold)
    (pos : ℕ) (word n : Text) (rest : List Text)
    → is_among names n ≡ true
    → word_fault (shape_for name names number) [] false (waiting_by hold) word (held_for us hold)
    ≡ long_fault (table names number) false (Some (option_rule n)) None (held_for us hold)
    → word_met (table names number) [] false (waiting_by hold) pos word (held_for us hold)
    ≡ (
      record (settled (table names number) (held_for us hold)) { pending = Some (n, []) },
      next (option n),
    )
    → Settles names number us hold ⊎ Clashes names number us hold → IsPlace (all_of us hold) pos
    → Rest name names number rest
    → Verdict name names number (walk_at us hold pos) (word ∷ rest) (all_of us hold)
    (split names number rest (Some n))
named_case name names number us hold pos word n rest among wf met (inr clash) place rec =
    let turn = turn_of name names number (walk_at us hold pos) word _ _ _ refl wf met in
    inr (record {
      refused =
          halt name names number (walk_at us hold pos) word rest (λ e. clash.fault (sym turn ∙ e));
      undefined = λ more is d. clash.twice more d;
    })
named_case name names number us hold pos word n rest among wf met (inl s) place rec =
    pass_on name names number (walk_at us hold pos) (walk_at (all_of us hold) (wants n) pos) word
    rest (all_of us hold) (split names number rest (Some n))
    (turn_of name names number (walk_at us hold pos) word _ _ _ refl wf met ∙ s.fault)
    (walked_to names number us hold pos word _ _ met
    ∙ ap (λ (t : Held). record {
      held = record t { pending = Some (n, []) };
      waiting = option n;
      position = pos;
      is_trailing = false;
      stopped = None;
    }) s.rows)
    (rec (all_of us hold) (wants n) pos s.distinct among place)

-- a plain word where no option wants a value
plain_turn : (name : Text) (names : List Text) (number : Bool) (us : List Use) (hold : Hold)
    (pos : ℕ) (word : Text) (o : _)
    → word_fault (shape_for name names number) [] false (waiting_by hold) word (held_for us hold)
    ≡ []
    → word_met (table names number) [] false (waiting_by hold) pos word (held_for us hold)
    ≡ (held_for us hold, value)
    → arg_by_index (table names number) pos ≡ o
    → turn_fault (shape_for name names number) [] (walk_at us hold pos) word
    ≡ option_map_or (λ a. positional_fault (table names number) false a (held_for us hold)) o
    (stray_fault (shape_for name names number))
plain_turn name names number us hold pos word o wf met at =
    ap₂ (λ x m. or_else x (step_fault (shape_for name names number) pos m.0 m.1)) wf met
    ∙ ap (λ x. option_map_or (λ a. positional_fault (table names number) false a (held_for us hold))
    x (stray_fault (shape_for name names number))) at

-- where no positional takes the word
no_place : (name : Text) (names : List Text) (number : Bool) (us : List Use) (hold : Hold) (pos : ℕ)
    (word : Text) (rest : List Text)
    → word_fault (shape_for name names number) [] false (waiting_by hold) word (held_for us hold)
    ≡ []
    → word_met (table names number) [] false (waiting_by hold) pos word (held_for us hold)
    ≡ (held_for us hold, value)
    → arg_by_index (table names number) pos ≡ None
    → rest_fault name names number (walk_at us hold pos) (word ∷ rest) ≡ [] → ⊥
no_place name names number us hold pos word rest wf met at =
    halt name names number (walk_at us hold pos) word rest
    (λ f. kind_not_none _ _ (sym (plain_turn name names number us hold pos word None wf met at)
    ∙ f))

first_number : (name : Text) (names : List Text) (us : List Use) (hold : Hold) (pos : ℕ)
    (word w : Text) (rest : List Text)
    → is_among names number_id ≡ false → word ≡ w
    → word_fault (shape_for name names true) [] false (waiting_by hold) word (held_for us hold) ≡ []
    → word_met (table names true) [] false (waiting_by hold) pos word (held_for us hold)
    ≡ (held_for us hold, value)
    → Settles names true us hold ⊎ Clashes names true us hold → pos ≡ 1 → Rest name names true rest
    → Verdict name names true (walk_at us hold pos) (word ∷ rest) (all_of us hold)
    (with_use number_id w (split names true rest None))
unfolding walked
first_number name names us hold pos word w rest none same wf met settled_or at rec =
    elim settled_or [
      | inl s ↦ carry name names true (walk_at us hold pos)
          (walk_at (all_of us hold) (kept number_id w) 2) word rest (all_of us hold) number_id w
          (split names true rest None)
          (turn ∙ s.fault)
          (to_place ∙ ap (λ (t : Held). record {
            held = pushed number_id word t;
            waiting = idle;
            position = next_position number_rule pos;
            is_trailing = false;
            stopped = None;
          }) s.rows
          ∙ ap₂ (λ x q. record {
            held = held_for (all_of us hold) (kept number_id x);
            waiting = idle;
            position = next_position number_rule q;
            is_trailing = false;
            stopped = None;
          }) same at)
          (rec (all_of us hold) (kept number_id w) 2 s.distinct (
            None,
            Some 1,
            number_found names none,
          )
          (inr (
            refl,
            has_append number_id (all_of us hold) ((number_id, w) ∷ [])
                ∙ or_right _ _ refl,
          )))
      | inr clash ↦ inr (record {
        refused =
            halt name names true (walk_at us hold pos) word rest (λ f. clash.fault (sym turn ∙ f));
        undefined = λ more is d. clash.twice more d;
      })
    ]
  where
    found : arg_by_index (table names true) pos ≡ Some number_rule
    found = ap (arg_by_index (table names true)) at ∙ place_one names true

    turn : turn_fault (shape_for name names true) [] (walk_at us hold pos) word ≡ settle_fault
        (table names true) false (held_for us hold)
    turn = plain_turn name names true us hold pos word (Some number_rule) wf met found
        ∙ ap (λ b. if b then [] else settle_fault (table names true) false (held_for us hold))
        (and_right (is_pending number_rule (held_for us hold).pending) false refl)

    to_place : walked (table names true) [] (walk_at us hold pos) word
        ≡ record {
          held = pushed number_id word (settled (table names true) (held_for us hold));
          waiting = idle;
          position = next_position number_rule pos;
          is_trailing = false;
          stopped = None;
        }
    to_place = ap (λ m. after_step (table names true) word (walk_at us hold pos) m.0 m.1) met
        ∙ ap (λ o. to_positional (table names true) o word (walk_at us hold pos) (held_for us hold))
        found
        ∙ ap (λ b. record {
          held = pushed number_id word
              (if b then held_for us hold else settled (table names true) (held_for us hold));
          waiting = idle;
          position = next_position number_rule pos;
          is_trailing = false;
          stopped = None;
        })
        (and_right (is_pending number_rule (held_for us hold).pending) false refl)

plain_case : (name : Text) (names : List Text) (number : Bool) (us : List Use) (hold : Hold)
    (pos : ℕ) (word w : Text) (rest : List Text)
    → is_among names number_id ≡ false → word ≡ w
    → word_fault (shape_for name names number) [] false (waiting_by hold) word (held_for us hold)
    ≡ []
    → word_met (table names number) [] false (waiting_by hold) pos word (held_for us hold)
    ≡ (held_for us hold, value)
    → Settles names number us hold ⊎ Clashes names number us hold → IsPlace (all_of us hold) pos
    → Rest name names number rest
    → Verdict name names number (walk_at us hold pos) (word ∷ rest) (all_of us hold)
    (if number then with_use number_id w (split names number rest None) else None)
plain_case name names true us hold pos word w rest none same wf met settled_or place rec =
    elim place [
      | inl h ↦ first_number name names us hold pos word w rest none same wf met settled_or h.0 rec
      | inr h ↦ inr (record {
        refused =
            no_place name names true us hold pos word rest wf met
            (ap (arg_by_index (table names true)) h.0 ∙ place_two names true);
        undefined = λ more e d. twice (all_of us hold) number_id w _ more h.1 e d;
      })
    ]
plain_case name names false us hold pos word w rest none same wf met settled_or place rec =
    inr (record {
      refused = no_place name names false us hold pos word rest wf met (elim place [
        | inl h ↦ ap (arg_by_index (table names false)) h.0 ∙ place_one names false
        | inr h ↦ ap (arg_by_index (table names false)) h.0 ∙ place_two names false
      ]);
      undefined = λ more e d. none_of_some more e;
    })

-- ---- a word while an option wants its value

wants_fault : (names : List Text) (number : Bool) (us : List Use) (n : Text)
    → is_among names n ≡ true
    → settle_fault (table names number) false (held_for us (wants n)) ≡ kind.InvalidValue ∷ []
wants_fault names number us n among =
    ap (λ o. option_map_or (λ a. use_fault false a [] (rows_for us)) o [])
    (id_found names number n among)

value_case : (name : Text) (names : List Text) (number : Bool) (us : List Use) (n : Text) (pos : ℕ)
    (word w : Text) (rest : List Text)
    → is_among names number_id ≡ false → is_among names n ≡ true → is_distinct us ≡ true
    → Reads names word (plain w) → IsPlace us pos → Rest name names number rest
    → Verdict name names number (walk_at us (wants n) pos) (word ∷ rest) us
    (with_use n w (split names number rest None))
value_case name names number us n pos word w rest none among d r place rec =
    let met : word_met (table names number) [] false (option n) pos word (held_for us (wants n))
    ≡ (held_for us (kept n word), next idle) =
    plain_met names number (option n) pos word w (held_for us (wants n)) r
    ∙ ap (λ a. (
      (option_word a n word (held_for us (wants n))).0,
      next (option_word a n word (held_for us (wants n))).1,
    )) (id_found names number n among)
    ∙ ap (λ b. (
      held_for us (kept n word),
      next (if nat_lt (if b then 1 else 0) 1 then option n else idle),
    )) (same_self n) in
    carry name names number (walk_at us (wants n) pos) (walk_at us (kept n w) pos) word rest us n w
    (split names number rest None)
    (turn_of name names number (walk_at us (wants n) pos) word _ _ _ refl
    (plain_refused name names number (option n) word w (held_for us (wants n)) r) met)
    (walked_to names number us (wants n) pos word _ _ met ∙ ap (λ x. walk_at us (kept n x) pos) r.3)
    (rec us (kept n w) pos d (Some n, None, id_found names number n among)
    (place_kept names us n w pos none among place))

-- an option in the place of a value
no_value : (name : Text) (names : List Text) (number : Bool) (us : List Use) (n : Text) (pos : ℕ)
    (word m : Text) (o : Option Text) (rest : List Text)
    → is_among names n ≡ true → bytes_eq word (45 ∷ 45 ∷ []) ≡ false
    → Rattle.clap.specs.Lexer.long_of word ≡ Some (m, o) → is_among names m ≡ true
    → Verdict name names number (walk_at us (wants n) pos) (word ∷ rest) us None
no_value name names number us n pos word m o rest among off is known = inr (record {
  refused =
      halt name names number (walk_at us (wants n) pos) word rest
      (λ f. bad o (sym (long_refused name names number (option n) word m o (held_for us (wants n))
      off is known) ∙ first_none _ _ f));
  undefined = λ more e d. none_of_some more e;
})
  where
    bad : (p : Option Text) → long_fault (table names number) false (Some (option_rule m)) p
        (held_for us (wants n)) ≡ [] → ⊥
    bad None f = kind_not_none _ _ (sym (wants_fault names number us n among) ∙ f)
    bad (Some v) f =
        kind_not_none _ _ (sym (wants_fault names number us n among) ∙ first_none _ _ f)

-- ---- the induction

one_word : (name : Text) (names : List Text) (number : Bool) (us : List Use) (hold : Hold) (pos : ℕ)
    (word : Text) (rest : List Text) (p : Piece)
    → is_among names number_id ≡ false → is_distinct us ≡ true → IsKnown names number hold
    → IsPlace (all_of us hold) pos
    → Reads names word p → is_stray p ≡ false → Rest name names number rest
    → Verdict name names number (walk_at us hold pos) (word ∷ rest) (all_of us hold)
    (split_piece number (wanted_by hold) p (split names number rest))
one_word name names number us hold pos word rest stray none d known place r fit rec =
    absurd (true≢false fit)
one_word name names number us nothing pos word rest (joined n v) none d known place r fit rec =
    joined_case name names number us nothing pos word n v rest none r.2
    (long_refused name names number idle word n (Some v) (held_for us nothing) r.0 r.1 r.2)
    (joined_met names number pos word n v (held_for us nothing) r)
    (settles names number us nothing tt known d) place rec
one_word name names number us (kept id x) pos word rest (joined n v) none d known place r fit rec =
    joined_case name names number us (kept id x) pos word n v rest none r.2
    (long_refused name names number idle word n (Some v) (held_for us (kept id x)) r.0 r.1 r.2)
    (joined_met names number pos word n v (held_for us (kept id x)) r)
    (settles names number us (kept id x) tt known d) place rec
one_word name names number us (wants m) pos word rest (joined n v) none d known place r fit rec =
    no_value name names number us m pos word n (Some v) rest known r.0 r.1 r.2
one_word name names number us nothing pos word rest (named n) none d known place r fit rec =
    named_case name names number us nothing pos word n rest r.2
    (long_refused name names number idle word n None (held_for us nothing) r.0 r.1 r.2)
    (named_met names number pos word n (held_for us nothing) r)
    (settles names number us nothing tt known d) place rec
one_word name names number us (kept id x) pos word rest (named n) none d known place r fit rec =
    named_case name names number us (kept id x) pos word n rest r.2
    (long_refused name names number idle word n None (held_for us (kept id x)) r.0 r.1 r.2)
    (named_met names number pos word n (held_for us (kept id x)) r)
    (settles names number us (kept id x) tt known d) place rec
one_word name names number us (wants m) pos word rest (named n) none d known place r fit rec =
    no_value name names number us m pos word n None rest known r.0 r.1 r.2
one_word name names number us nothing pos word rest (plain w) none d known place r fit rec =
    plain_case name names number us nothing pos word w rest none r.3
    (plain_refused name names number idle word w (held_for us nothing) r)
    (plain_met names number idle pos word w (held_for us nothing) r)
    (settles names number us nothing tt known d) place rec
one_word name names number us (kept id x) pos word rest (plain w) none d known place r fit rec =
    plain_case name names number us (kept id x) pos word w rest none r.3
    (plain_refused name names number idle word w (held_for us (kept id x)) r)
    (plain_met names number idle pos word w (held_for us (kept id x)) r)
    (settles names number us (kept id x) tt known d) place rec
one_word name names number us (wants m) pos word rest (plain w) none d known place r fit rec =
    value_case name names number us m pos word w rest none known d r place rec

at_end : (name : Text) (names : List Text) (number : Bool) (us : List Use) (hold : Hold) (pos : ℕ)
    → is_distinct us ≡ true → IsKnown names number hold
    → Verdict name names number (walk_at us hold pos) [] (all_of us hold)
    (split_end (wanted_by hold))
unfolding walk_fault
at_end name names number us nothing pos d known = inl (record {
  more = [];
  is = refl;
  distinct = ap is_distinct (append-nil us) ∙ d;
  passes = refl;
  rows = ap rows_for (sym (append-nil us));
})
at_end name names number us (wants n) pos d known = inr (record {
  refused = λ f. kind_not_none _ _ (sym (wants_fault names number us n known) ∙ f);
  undefined = λ more e f. none_of_some more e;
})
at_end name names number us (kept id v) pos d known =
    elim (settles names number us (kept id v) tt known d) [
      | inl s ↦ inl (record {
        more = [];
        is = refl;
        distinct = ap is_distinct (append-nil (all_of us (kept id v))) ∙ s.distinct;
        passes = s.fault;
        rows = ap (λ (t : Held). t.rows) s.rows
            ∙ ap rows_for (sym (append-nil (all_of us (kept id v))));
      })
      | inr clash ↦ inr (record {
        refused = clash.fault;
        undefined = λ more e f. clash.twice more f;
      })
    ]

-- from each place of the walk on, what `clap` does is what `split` says
pub follow : (name : Text) (names : List Text) (number : Bool) (words : List Text)
    → is_among names [] ≡ false → is_among names number_id ≡ false
    → list_all (is_fit names) words ≡ true → Rest name names number words
follow name names number [] empty none fit us hold pos d known place =
    at_end name names number us hold pos d known
follow name names number (word ∷ rest) empty none fit us hold pos d known place =
    one_word name names number us hold pos word rest (piece_of names word) none d known place
    (reads names word empty)
    (not-true _ (and_parts (is_fit names word) (list_all (is_fit names) rest) fit).0)
    (follow name names number rest empty none
    (and_parts (is_fit names word) (list_all (is_fit names) rest) fit).1)
