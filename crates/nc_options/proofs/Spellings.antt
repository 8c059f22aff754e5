-- What is split is what was spelled.
-- `spelled_splits` and `split_spelled` are the two directions; in the second one an option that
-- still wants its value stands before the words. Both rest on what a piece says of its word
-- (`joined_piece`, `says`).
use Rattle.std.proofs.Common.{◌≡◌, ◌∙◌, ◌||◌, ◌==◌, ◌+◌, ℕ, Bool, cond, true, false, not, refl, subst, suc, sym, ap, ap₂, arith, List, [], ◌∷◌, ◌++◌, Option, Some, None, drop, inl, inr, true≢false}
use Rattle.std.specs.Prelude.{if◌then◌else◌, option_and_then}
use Rattle.std.specs.List.{position_or_len}
use Rattle.std.specs.Str.{bytes_eq}
use Rattle.std.proofs.lemmas.Bool.{and_parts, eqb-true, not-true, or_parts, or_right}
use Rattle.std.proofs.lemmas.List.Sums.{take_while-cons}
use Rattle.std.proofs.lemmas.Slice.Eq.{bytes_eq-Decides}
use Rattle.nc_options.specs.CommandLine.{OrderIsFree, UsesAreSpelled, are_names}
use Rattle.nc_options.specs.Pieces.{Piece, Text, has_equals, hyphen_piece, is_among, joined, long_piece, name_in, named, piece_of, plain, stray, value_in}
use Rattle.nc_options.specs.Spellings.{AreSpelled, IsPlain, IsSpelled, joined_text, option_word}
use Rattle.nc_options.specs.Uses.{Use, if_distinct, is_distinct, number_id, split, split_piece, uses_of, with_use}
use Rattle.nc_options.proofs.Orders.{distinct-permutation, value_of-permutation}
use Rattle.nc_options.proofs.Turns.{none_of_some}

-- ---- texts with an `=`

name_in-cons : (b : ℕ) (text : Text) → name_in (b ∷ text) ≡ cond (not (b == 61)) (b ∷ name_in text)
    []
name_in-cons b text = take_while-cons (λ x. not (x == 61)) b text

value_in-cons : (b : ℕ) (text : Text) → value_in (b ∷ text) ≡ cond (b == 61) text (value_in text)
value_in-cons b text = go (b == 61) (position_or_len (λ x. x == 61) text)
  where
    go : (z : Bool) (k : ℕ) → drop (cond (not z) (1 + k) 0 + 1) (b ∷ text) ≡ cond z text
        (drop (k + 1) text)
    go true k = refl
    go false k = let e : (1 + k) + 1 ≡ suc (k + 1) = omega arith in ap (λ n. drop n (b ∷ text)) e

-- a name is what stands before the first `=` behind it
name_in-joined : (name value : Text) → has_equals name ≡ false → name_in (name ++ 61 ∷ value) ≡ name
name_in-joined [] value none = name_in-cons 61 value
name_in-joined (b ∷ name) value none =
    name_in-cons b (name ++ 61 ∷ value)
    ∙ ap (λ z. cond (not z) (b ∷ name_in (name ++ 61 ∷ value)) [])
    (or_parts (b == 61) (has_equals name) none).0
    ∙ ap (λ text. b ∷ text) (name_in-joined name value
    (or_parts (b == 61) (has_equals name) none).1)

value_in-joined : (name value : Text) → has_equals name ≡ false
    → value_in (name ++ 61 ∷ value) ≡ value
value_in-joined [] value none = value_in-cons 61 value
value_in-joined (b ∷ name) value none =
    value_in-cons b (name ++ 61 ∷ value)
    ∙ ap (λ z. cond z (name ++ 61 ∷ value) (value_in (name ++ 61 ∷ value)))
    (or_parts (b == 61) (has_equals name) none).0
    ∙ value_in-joined name value (or_parts (b == 61) (has_equals name) none).1

has_equals-joined : (name value : Text) → has_equals (name ++ 61 ∷ value) ≡ true
has_equals-joined [] value = refl
has_equals-joined (b ∷ name) value = or_right (b == 61) _ (has_equals-joined name value)

name_in-name : (name : Text) → has_equals name ≡ false → name_in name ≡ name
name_in-name [] none = refl
name_in-name (b ∷ name) none =
    name_in-cons b name
    ∙ ap (λ z. cond (not z) (b ∷ name_in name) []) (or_parts (b == 61) (has_equals name) none).0
    ∙ ap (λ text. b ∷ text) (name_in-name name (or_parts (b == 61) (has_equals name) none).1)

-- name and value make up the text
joined_again : (text : Text) → has_equals text ≡ true → name_in text ++ 61 ∷ value_in text ≡ text
joined_again [] some = absurd (true≢false (sym some))
joined_again (b ∷ text) some =
    ap₂ (λ name value. name ++ 61 ∷ value) (name_in-cons b text) (value_in-cons b text)
    ∙ go (b == 61) refl some (joined_again text)
  where
    go : (z : Bool) → (b == 61) ≡ z → (z || has_equals text) ≡ true
        → (has_equals text ≡ true → name_in text ++ 61 ∷ value_in text ≡ text)
        → cond (not z) (b ∷ name_in text) [] ++ 61 ∷ cond z text (value_in text) ≡ b ∷ text
    go true is some rec = ap (λ x. x ∷ text) (sym (eqb-true b 61 is))
    go false is some rec = ap (λ t. b ∷ t) (rec some)

no_equals : (names : List Text) (name : Text) → are_names names ≡ true → is_among names name ≡ true
    → has_equals name ≡ false
no_equals [] name good among = absurd (true≢false (sym among))
no_equals (n ∷ names) name good among =
    go (bytes_eq n name) refl among (λ f. no_equals names name parts.1 f)
  where
    parts : (not (has_equals n) ≡ true) × (are_names names ≡ true)
    parts = and_parts (not (has_equals n)) (are_names names) good

    go : (z : Bool) → bytes_eq n name ≡ z → (z || is_among names name) ≡ true
        → (is_among names name ≡ true → has_equals name ≡ false) → has_equals name ≡ false
    go true is f rec =
        ap has_equals (sym ((bytes_eq-Decides n name).0 is)) ∙ not-true (has_equals n) parts.0
    go false is f rec = rec f

-- ---- the pieces of what is spelled

joined_piece : (names : List Text) (name value : Text) → are_names names ≡ true
    → is_among names name ≡ true → piece_of names (joined_text name value) ≡ joined name value
joined_piece names name value good among =
    let none : has_equals name ≡ false = no_equals names name good among in
    let text : Text = name ++ 61 ∷ value in
    ap (λ n. if is_among names n then
    (if has_equals text then joined n (value_in text) else named n) else stray)
    (name_in-joined name value none)
    ∙ ap (λ z. if z then (if has_equals text then joined name (value_in text) else named name) else
    stray) among
    ∙ ap (λ z. if z then joined name (value_in text) else named name) (has_equals-joined name value)
    ∙ ap (joined name) (value_in-joined name value none)

named_piece : (names : List Text) (name : Text) → are_names names ≡ true
    → is_among names name ≡ true → piece_of names (option_word name) ≡ named name
named_piece names name good among =
    let none : has_equals name ≡ false = no_equals names name good among in
    ap (λ n. if is_among names n then
    (if has_equals name then joined n (value_in name) else named n) else stray)
    (name_in-name name none)
    ∙ ap (λ z. if z then (if has_equals name then joined name (value_in name) else named name) else
    stray) among
    ∙ ap (λ z. if z then joined name (value_in name) else named name) none

-- what is spelled is split into the uses
pub spelled_splits : (names : List Text) (takes_number : Bool) (uses : List Use) (words : List Text)
    → are_names names ≡ true
    → AreSpelled names takes_number uses words → split names takes_number words None ≡ Some uses
spelled_splits names takes_number [] words good s = ap (λ ws. split names takes_number ws None) s
spelled_splits names takes_number (u ∷ uses) words good s =
    ap (λ ws. split names takes_number ws None) s.2 ∙ one s.0 s.1 s.3
    ∙ ap (with_use u.0 u.1) (spelled_splits names takes_number uses s.1 good s.4)
  where
    one : (first rest : List Text) → IsSpelled names takes_number u first
        → split names takes_number (first ++ rest) None ≡ with_use u.0 u.1
        (split names takes_number rest None)
    one first rest (inl j) =
        ap (λ ws. split names takes_number (ws ++ rest) None) j.words_are
        ∙ ap (λ p. split_piece takes_number None p (split names takes_number rest))
        (joined_piece names u.0 u.1 good j.option)
    one first rest (inr (inl j)) =
        ap (λ ws. split names takes_number (ws ++ rest) None) j.words_are
        ∙ ap (λ p. split_piece takes_number None p (split names takes_number (u.1 ∷ rest)))
        (named_piece names u.0 good j.option)
        ∙ ap (λ o. split_piece takes_number (Some u.0) (hyphen_piece names u.1 o)
        (split names takes_number rest)) j.value
    one first rest (inr (inr j)) =
        ap (λ ws. split names takes_number (ws ++ rest) None) j.words_are
        ∙ ap (λ o. split_piece takes_number None (hyphen_piece names u.1 o)
        (split names takes_number rest)) j.value
        ∙ ap (λ z. if z then with_use number_id u.1 (split names takes_number rest None) else None)
        j.taken
        ∙ ap (λ n. with_use n u.1 (split names takes_number rest None)) (sym j.name)

-- ---- what is split was spelled

-- what a piece says of its word
abbrev Says : List Text → Text → Piece → Type 0
Says names word (joined name value) = (word ≡ joined_text name value) × (is_among names name ≡ true)
Says names word (named name) = (word ≡ option_word name) × (is_among names name ≡ true)
Says names word (plain w) = (word ≡ w) × IsPlain w
Says names word stray = Unit {0}

says : (names : List Text) (word : Text) → Says names word (piece_of names word)
says names [] = (refl, refl)
says names (b ∷ []) = go (b == 45) refl
  where
    go : (x : Bool) → (b == 45) ≡ x
        → Says names (b ∷ []) (hyphen_piece names (b ∷ []) (if x then Some [] else None))
    go true is = tt
    go false is = (refl, ap (λ x. if x then Some [] else None) is)
says names (b ∷ c ∷ text) = first (b == 45) refl
  where
    last : (x y : Bool) → is_among names (name_in text) ≡ x → has_equals text ≡ y → b ≡ 45 → c ≡ 45
        → Says names (b ∷ c ∷ text) (if x then
        (if y then joined (name_in text) (value_in text) else named (name_in text)) else
        stray)
    last true true among some is is2 = (
      ap₂ (λ x y. x ∷ y ∷ text) is is2 ∙ ap (λ t. 45 ∷ 45 ∷ t) (sym (joined_again text some)),
      among,
    )
    last true false among none is is2 = (
      ap₂ (λ x y. x ∷ y ∷ text) is is2 ∙ ap (λ t. 45 ∷ 45 ∷ t) (sym (name_in-name text none)),
      among,
    )
    last false y among some is is2 = tt

    second : (x : Bool) → (c == 45) ≡ x → b ≡ 45
        → Says names (b ∷ c ∷ text) (long_piece names (if x then Some text else None))
    second true is2 is =
        last (is_among names (name_in text)) (has_equals text) refl refl is (eqb-true c 45 is2)
    second false is2 is = tt

    first : (x : Bool) → (b == 45) ≡ x
        → Says names (b ∷ c ∷ text) (hyphen_piece names (b ∷ c ∷ text)
        (if x then Some (c ∷ text) else None))
    first true is = second (c == 45) refl (eqb-true b 45 is)
    first false is = (refl, ap (λ x. if x then Some (c ∷ text) else None) is)

-- the words with the option before them that still wants its value
abbrev before : Option Text → List Text → List Text
before None words = words
before (Some name) words = option_word name ∷ words

abbrev IsOption : List Text → Option Text → Type 0
IsOption names None = Unit {0}
IsOption names (Some name) = is_among names name ≡ true

one_more : (names : List Text) (takes_number : Bool) (name value : Text) (first rest : List Text)
    (o : Option (List Use)) (uses : List Use)
    → IsSpelled names takes_number (name, value) first
    → ((more : List Use) → o ≡ Some more → AreSpelled names takes_number more rest)
    → with_use name value o ≡ Some uses → AreSpelled names takes_number uses (first ++ rest)
one_more names takes_number name value first rest None uses one more e =
    absurd (none_of_some uses e)
one_more names takes_number name value first rest (Some l) uses one more e =
    let same : (name, value) ∷ l ≡ uses = cc in
    subst (λ us. AreSpelled names takes_number us (first ++ rest)) same (
      first,
      rest,
      refl,
      one,
      more l refl,
    )

pub split_spelled : (names : List Text) (takes_number : Bool) (words : List Text)
    (wanted : Option Text) (uses : List Use) → IsOption names wanted
    → split names takes_number words wanted ≡ Some uses
    → AreSpelled names takes_number uses (before wanted words)
split_spelled names takes_number [] None uses known e =
    let same : [] ≡ uses = cc in
    subst (λ us. AreSpelled names takes_number us []) same refl
split_spelled names takes_number [] (Some name) uses known e = absurd (none_of_some uses e)
split_spelled names takes_number (word ∷ rest) wanted uses known e =
    go wanted (piece_of names word) known (says names word) e
    (λ w us k f. split_spelled names takes_number rest w us k f)
  where
    alone : (w : Text) (z : Bool) → takes_number ≡ z → word ≡ w → IsPlain w
        → (if z then with_use number_id w (split names takes_number rest None) else None)
        ≡ Some uses
        → ((us : List Use) → split names takes_number rest None ≡ Some us
        → AreSpelled names takes_number us rest)
        → AreSpelled names takes_number uses (word ∷ rest)
    alone w true taken is no_hyphen f rec =
        one_more names takes_number number_id w (word ∷ []) rest
        (split names takes_number rest None) uses
        (inr (inr (record {
          taken = taken;
          name = refl;
          value = no_hyphen;
          words_are = ap (λ x. x ∷ []) is;
        }))) rec f
    alone w false taken is no_hyphen f rec = absurd (none_of_some uses f)

    go : (w : Option Text) (p : Piece) → IsOption names w → Says names word p
        → split_piece takes_number w p (split names takes_number rest) ≡ Some uses
        → ((v : Option Text) (us : List Use) → IsOption names v
        → split names takes_number rest v ≡ Some us
        → AreSpelled names takes_number us (before v rest))
        → AreSpelled names takes_number uses (before w (word ∷ rest))
    go None (joined name value) k s f rec =
        one_more names takes_number name value (word ∷ []) rest (split names takes_number rest None)
        uses
        (inl (record { option = s.1; words_are = ap (λ x. x ∷ []) s.0 })) (λ us g. rec None us tt g)
        f
    go None (named name) k s f rec =
        subst (λ x. AreSpelled names takes_number uses (x ∷ rest)) (sym s.0)
        (rec (Some name) uses s.1 f)
    go None (plain w) k s f rec = alone w takes_number refl s.0 s.1 f (λ us g. rec None us tt g)
    go None stray k s f rec = absurd (none_of_some uses f)
    go (Some name) (plain w) k s f rec =
        one_more names takes_number name w (option_word name ∷ word ∷ []) rest
        (split names takes_number rest None) uses
        (inr (inl (record {
          option = k;
          value = s.1;
          words_are = ap (λ x. option_word name ∷ x ∷ []) s.0;
        })))
        (λ us g. rec None us tt g) f
    go (Some name) (joined n v) k s f rec = absurd (none_of_some uses f)
    go (Some name) (named n) k s f rec = absurd (none_of_some uses f)
    go (Some name) stray k s f rec = absurd (none_of_some uses f)

-- ---- the two laws

-- uses are what was split, where the names are distinct
uses_split : (names : List Text) (takes_number : Bool) (words : List Text) (uses : List Use)
    → uses_of names takes_number words ≡ Some uses
    → (split names takes_number words None ≡ Some uses) × (is_distinct uses ≡ true)
uses_split names takes_number words uses e = go (split names takes_number words None) refl e
  where
    here : (m : List Use) (z : Bool) → split names takes_number words None ≡ Some m
        → is_distinct m ≡ z → (if z then Some m else None) ≡ Some uses
        → (split names takes_number words None ≡ Some uses) × (is_distinct uses ≡ true)
    here m true is d f =
        let same : m ≡ uses = cc in
        (is ∙ ap Some same, ap is_distinct (sym same) ∙ d)
    here m false is d f = absurd (none_of_some uses f)

    go : (o : Option (List Use)) → split names takes_number words None ≡ o
        → option_and_then if_distinct o ≡ Some uses
        → (split names takes_number words None ≡ Some uses) × (is_distinct uses ≡ true)
    go None is f = absurd (none_of_some uses f)
    go (Some m) is f = here m (is_distinct m) is refl f

spelled_uses : (names : List Text) (takes_number : Bool) (words : List Text) (uses : List Use)
    → are_names names ≡ true
    → AreSpelled names takes_number uses words → is_distinct uses ≡ true
    → uses_of names takes_number words ≡ Some uses
spelled_uses names takes_number words uses good s d =
    ap (option_and_then if_distinct) (spelled_splits names takes_number uses words good s)
    ∙ ap (λ z. if z then Some uses else None) d

pub uses_are_spelled : UsesAreSpelled
uses_are_spelled names takes_number words uses good = (
  λ e. (
    split_spelled names takes_number words None uses tt
        (uses_split names takes_number words uses e).0,
    (uses_split names takes_number words uses e).1,
  ),
  λ both. spelled_uses names takes_number words uses good both.0 both.1,
)

pub order_is_free : OrderIsFree
order_is_free names takes_number words words' uses uses' good e s p =
    let d : is_distinct uses ≡ true = (uses_split names takes_number words uses e).1 in (
      spelled_uses names takes_number words' uses' good s (distinct-permutation uses uses' p d),
      λ name. value_of-permutation name uses uses' p d,
    )
