-- A word that is not fit leaves no uses, and neither does an option that stands in two words.
-- These words never come to `clap`. `unfit` is for the first case; `repeated` for the second, by
-- counting the uses of each name (`counted`).
use Rattle.std.proofs.lemmas.Bool.{and_parts}
use Rattle.std.proofs.Common.{◌≡◌, ◌∙◌, ◌≤◌, ◌+◌, ◌&&◌, ℕ, Bool, true, false, not, refl, sym, ap, arith, List, [], ◌∷◌, Option, Some, None, true≢false}
use Rattle.std.proofs.lemmas.Bool.{le-leb}
use Rattle.std.specs.Prelude.{if◌then◌else◌, option_and_then, nat_le}
use Rattle.std.specs.List.{count_by, list_all}
use Rattle.std.specs.Option.{option_map_or}
use Rattle.std.specs.Str.{bytes_eq}
use Rattle.nc_options.specs.Pieces.{Text, Piece, joined, named, plain, stray, piece_of, hyphen_piece, long_piece, after_hyphen, name_in, value_in, has_equals, is_among}
use Rattle.nc_options.specs.Uses.{Use, number_id, with_use, split, split_piece, is_distinct, if_distinct, uses_of}
use Rattle.nc_options.specs.Fit.{is_stray, names_option, is_fit, are_single, are_fit_and_single}
use Rattle.nc_options.proofs.Distinct.{one_if, uses_named, one_more, at_most_one}
use Rattle.nc_options.proofs.Turns.{none_of_some}

-- ---- words that are not fit

-- a word that isn't fit leaves no uses
stray_splits : (number : Bool) (wanted : Option Text) (next : Option Text → Option (List Use))
    → split_piece number wanted stray next ≡ None
stray_splits number None next = refl
stray_splits number (Some n) next = refl

rest_splits : (number : Bool) (wanted : Option Text) (p : Piece) (next : Option Text
    → Option (List Use)) → ((w : Option Text) → next w ≡ None)
    → split_piece number wanted p next ≡ None
rest_splits number None (joined n v) next none = ap (with_use n v) (none None)
rest_splits number None (named n) next none = none (Some n)
rest_splits true None (plain w) next none = ap (with_use number_id w) (none None)
rest_splits false None (plain w) next none = refl
rest_splits number None stray next none = refl
rest_splits number (Some m) (joined n v) next none = refl
rest_splits number (Some m) (named n) next none = refl
rest_splits number (Some m) (plain w) next none = ap (with_use m w) (none None)
rest_splits number (Some m) stray next none = refl

unfit_splits : (names : List Text) (number : Bool) (words : List Text) (wanted : Option Text)
    → list_all (is_fit names) words ≡ false → split names number words wanted ≡ None
unfit_splits names number [] wanted e = absurd (true≢false e)
unfit_splits names number (word ∷ rest) wanted e =
    go (piece_of names word) e (λ f w. unfit_splits names number rest w f)
  where
    go : (p : Piece) → (not (is_stray p) && list_all (is_fit names) rest) ≡ false
        → (list_all (is_fit names) rest ≡ false → (w : Option Text)
        → split names number rest w ≡ None)
        → split_piece number wanted p (split names number rest) ≡ None
    go stray f rec = stray_splits number wanted (split names number rest)
    go (joined n v) f rec = rest_splits number wanted (joined n v) (split names number rest) (rec f)
    go (named n) f rec = rest_splits number wanted (named n) (split names number rest) (rec f)
    go (plain w) f rec = rest_splits number wanted (plain w) (split names number rest) (rec f)

pub unfit : (names : List Text) (number : Bool) (words : List Text)
    → list_all (is_fit names) words ≡ false → uses_of names number words ≡ None
unfit names number words e =
    ap (option_and_then if_distinct) (unfit_splits names number words None e)

-- ---- options in two words

-- what the test of a name says of a piece
abbrev Names : Bool → Text → Piece → Type 0
Names b n (joined m v) = b ≡ bytes_eq m n
Names b n (named m) = b ≡ bytes_eq m n
Names b n (plain w) = b ≡ false
Names b n stray = Unit {0}

names_piece : (names : List Text) (n word : Text)
    → Names (names_option n word) n (piece_of names word)
names_piece names n word = outer (after_hyphen word)
  where
    last : (text : Text) (z h : Bool)
        → Names (bytes_eq (name_in text) n) n
        (if z then (if h then joined (name_in text) (value_in text) else named (name_in text))
        else stray)
    last text true true = refl
    last text true false = refl
    last text false h = tt

    inner : (o : Option Text) → Names (option_map_or (λ text. bytes_eq (name_in text) n) o false) n
        (long_piece names o)
    inner None = tt
    inner (Some text) = last text (is_among names (name_in text)) (has_equals text)

    outer : (o : Option Text) → Names
        (option_map_or (λ text. bytes_eq (name_in text) n) (option_and_then after_hyphen o) false) n
        (hyphen_piece names word o)
    outer None = refl
    outer (Some rest) = inner (after_hyphen rest)

abbrev wanted_count : Text → Option Text → ℕ
wanted_count n None = 0
wanted_count n (Some m) = one_if (bytes_eq m n)

-- each word that names the option gives a use of that name
counted : (names : List Text) (number : Bool) (n : Text) (words : List Text) (wanted : Option Text)
    (more : List Use) → split names number words wanted ≡ Some more
    → wanted_count n wanted + count_by (names_option n) words ≤ uses_named n more
counted names number n [] None more e = omega arith
counted names number n [] (Some m) more e = absurd (none_of_some more e)
counted names number n (word ∷ rest) wanted more e =
    let all =
    go wanted (piece_of names word) number (names_piece names n word) e
    (λ w m f. counted names number n rest w m f) in
    let sum = one_more (names_option n) word rest in
    omega arith
  where
    used : (m v : Text) (o : Option (List Use)) (b : Bool) (k : ℕ)
        → ((l : List Use) → o ≡ Some l → k ≤ uses_named n l) → with_use m v o ≡ Some more
        → one_if (bytes_eq m n) + k ≤ uses_named n more
    used m v None b k h f = absurd (none_of_some more f)
    used m v (Some l) b k h f =
        let same : (m, v) ∷ l ≡ more = cc in
        let under : k ≤ uses_named n l = h l refl in
        let sum : one_if (bytes_eq m n) + uses_named n l ≡ uses_named n more =
        sym (one_more (λ (u : Use). bytes_eq u.0 n) (m, v) l) ∙ ap (uses_named n) same in
        omega arith

    go : (w : Option Text) (p : Piece) (num : Bool) → Names (names_option n word) n p
        → split_piece num w p (split names number rest) ≡ Some more
        → ((v : Option Text) (m : List Use) → split names number rest v ≡ Some m
        → wanted_count n v + count_by (names_option n) rest ≤ uses_named n m)
        → wanted_count n w + (one_if (names_option n word) + count_by (names_option n) rest)
        ≤ uses_named n more
    go None (joined m v) num is f rec =
        let one : one_if (names_option n word) ≡ one_if (bytes_eq m n) = ap one_if is in
        let all =
        used m v (split names number rest None) num (count_by (names_option n) rest)
        (λ l g. let r = rec None l g in omega arith) f in
        omega arith
    go None (named m) num is f rec =
        let one : one_if (names_option n word) ≡ one_if (bytes_eq m n) = ap one_if is in
        let r = rec (Some m) more f in
        omega arith
    go None (plain w) true is f rec =
        let one : one_if (names_option n word) ≡ 0 = ap one_if is in
        let all =
        used number_id w (split names number rest None) true (count_by (names_option n) rest)
        (λ l g. let r = rec None l g in omega arith) f in
        omega arith
    go None (plain w) false is f rec = absurd (none_of_some more f)
    go None stray num is f rec = absurd (none_of_some more f)
    go (Some m) (plain w) num is f rec =
        let one : one_if (names_option n word) ≡ 0 = ap one_if is in
        let all =
        used m w (split names number rest None) num (count_by (names_option n) rest)
        (λ l g. let r = rec None l g in omega arith) f in
        omega arith
    go (Some m) (joined k v) num is f rec = absurd (none_of_some more f)
    go (Some m) (named k) num is f rec = absurd (none_of_some more f)
    go (Some m) stray num is f rec = absurd (none_of_some more f)

-- uses that are defined have each option in at most one word
all_single : (names : List Text) (number : Bool) (words : List Text) (ns : List Text)
    (more : List Use) → split names number words None ≡ Some more → is_distinct more ≡ true
    → list_all (λ name. nat_le (count_by (names_option name) words) 1) ns ≡ true
all_single names number words [] more e d = refl
all_single names number words (n ∷ ns) more e d =
    let most : uses_named n more ≤ 1 = at_most_one n more d in
    let all = counted names number n words None more e in
    let here : nat_le (count_by (names_option n) words) 1 ≡ true =
    le_test (count_by (names_option n) words) (omega arith) in
    ap (λ b. b && list_all (λ name. nat_le (count_by (names_option name) words) 1) ns) here
    ∙ all_single names number words ns more e d
  where
    le_test : (k : ℕ) → k ≤ 1 → nat_le k 1 ≡ true
    le_test k h = le-leb k 1 h

pub repeated : (names : List Text) (number : Bool) (words : List Text)
    → are_single names words ≡ false → uses_of names number words ≡ None
repeated names number words bad = go (split names number words None) refl
  where
    here : (more : List Use) (b : Bool) → split names number words None ≡ Some more
        → is_distinct more ≡ b → (if b then Some more else None) ≡ None
    here more false e d = refl
    here more true e d =
        absurd (true≢false (sym (all_single names number words names more e d) ∙ bad))

    go : (o : Option (List Use)) → split names number words None ≡ o
        → option_and_then if_distinct o ≡ None
    go None e = refl
    go (Some more) e = here more (is_distinct more) e refl

pub plain_fit : (names : List Text) (words : List Text) → are_fit_and_single names words ≡ true
    → list_all (is_fit names) words ≡ true
plain_fit names words e = (and_parts (list_all (is_fit names) words) (are_single names words) e).0

pub not_plain : (names : List Text) (number : Bool) (words : List Text)
    → are_fit_and_single names words ≡ false → uses_of names number words ≡ None
not_plain names number words e = go (list_all (is_fit names) words) refl e
  where
    go : (b : Bool) → list_all (is_fit names) words ≡ b → (b && are_single names words) ≡ false
        → uses_of names number words ≡ None
    go true f g = repeated names number words g
    go false f g = unfit names number words f
