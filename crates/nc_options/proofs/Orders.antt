-- Uses in another order.
-- Names stay distinct, by their counts (`distinct-permutation`). A value is found exactly where the
-- use is there (`has_use`, `of_use`), so each name keeps its value (`value_of-permutation`).
use Rattle.std.proofs.Common.{◌≡◌, ◌∙◌, ◌&&◌, ◌||◌, ◌≤◌, Bool, cond, true, false, not, refl, sym, ap, arith, List, [], ◌∷◌, Option, Some, None, true≢false}
use Rattle.std.specs.Prelude.{find, option_map, IsPermutation}
use Rattle.std.specs.List.{list_any}
use Rattle.std.specs.Str.{bytes_eq}
use Rattle.std.proofs.lemmas.Bool.{not-true, and_parts}
use Rattle.std.proofs.lemmas.List.Sorted.{IsPermutation-sym, list_any-IsPermutation, sum_by-IsPermutation}
use Rattle.std.proofs.lemmas.Slice.Eq.{bytes_eq-Decides}
use Rattle.nc_options.specs.Pieces.{Text}
use Rattle.nc_options.specs.Uses.{Use, is_distinct, value_of}
use Rattle.nc_options.proofs.Distinct.{at_most_one, distinct_by_counts, has_name, same_self, uses_named}

-- the uses stay distinct
pub distinct-permutation : (us vs : List Use) → IsPermutation us vs → is_distinct us ≡ true
    → is_distinct vs ≡ true
distinct-permutation us vs p d = distinct_by_counts vs few
  where
    few : (n : Text) → uses_named n vs ≤ 1
    few n =
        let same = sum_by-IsPermutation (λ (u : Use). cond (bytes_eq u.0 n) 1 0) us vs p in
        let most = at_most_one n us d in
        omega arith

-- the use is one of the uses
abbrev is_use : Text → Text → Use → Bool
is_use name value u = bytes_eq u.0 name && bytes_eq u.1 value

has_use : (name value : Text) (us : List Use) → value_of name us ≡ Some value
    → list_any (is_use name value) us ≡ true
has_use name value [] e = cc
has_use name value (u ∷ us) e = go (bytes_eq u.0 name) e (has_use name value us)
  where
    go : (b : Bool) → option_map (λ (v : Use). v.1)
        (cond b (Some u) (find (λ v. bytes_eq v.0 name) us)) ≡ Some value
        → (value_of name us ≡ Some value → list_any (is_use name value) us ≡ true)
        → ((b && bytes_eq u.1 value) || list_any (is_use name value) us) ≡ true
    go false f rec = rec f
    go true f rec =
        let same : u.1 ≡ value = cc in
        ap (λ x. bytes_eq x value || list_any (is_use name value) us) same
        ∙ ap (λ b. b || list_any (is_use name value) us) (same_self value)

use_has_name : (name value : Text) (us : List Use) → list_any (is_use name value) us ≡ true
    → has_name name us ≡ true
use_has_name name value [] e = e
use_has_name name value (u ∷ us) e =
    go (bytes_eq u.0 name) (bytes_eq u.1 value) e (use_has_name name value us)
  where
    go : (a b : Bool) → ((a && b) || list_any (is_use name value) us) ≡ true
        → (list_any (is_use name value) us ≡ true → has_name name us ≡ true)
        → (a || has_name name us) ≡ true
    go true b f rec = refl
    go false b f rec = rec f

of_use : (name value : Text) (us : List Use) → is_distinct us ≡ true
    → list_any (is_use name value) us ≡ true → value_of name us ≡ Some value
of_use name value [] d e = absurd (true≢false (sym e))
of_use name value (u ∷ us) d e =
    go (bytes_eq u.0 name) (bytes_eq u.1 value) refl refl e
    (of_use name value us (and_parts (not (has_name u.0 us)) (is_distinct us) d).1)
  where
    other : bytes_eq u.0 name ≡ true → list_any (is_use name value) us ≡ true → ⊥
    other is f =
        true≢false (sym (ap (λ n. has_name n us) ((bytes_eq-Decides u.0 name).0 is)
        ∙ use_has_name name value us f)
        ∙ not-true (has_name u.0 us) (and_parts (not (has_name u.0 us)) (is_distinct us) d).0)

    go : (a b : Bool) → bytes_eq u.0 name ≡ a → bytes_eq u.1 value ≡ b
        → ((a && b) || list_any (is_use name value) us) ≡ true
        → (list_any (is_use name value) us ≡ true → value_of name us ≡ Some value)
        → option_map (λ (v : Use). v.1) (cond a (Some u) (find (λ v. bytes_eq v.0 name) us))
        ≡ Some value
    go true true is same f rec = ap Some ((bytes_eq-Decides u.1 value).0 same)
    go true false is differs f rec = absurd (other is f)
    go false b is same f rec = rec f

kept : (name value : Text) (us vs : List Use) → IsPermutation us vs → is_distinct us ≡ true
    → value_of name us ≡ Some value → value_of name vs ≡ Some value
kept name value us vs p d e =
    of_use name value vs (distinct-permutation us vs p d)
    (sym (list_any-IsPermutation (is_use name value) us vs p) ∙ has_use name value us e)

-- each name keeps its value
pub value_of-permutation : (name : Text) (us vs : List Use) → IsPermutation us vs
    → is_distinct us ≡ true → value_of name vs ≡ value_of name us
value_of-permutation name us vs p d = go (value_of name us) (value_of name vs) refl refl
  where
    back : is_distinct vs ≡ true
    back = distinct-permutation us vs p d

    go : (a b : Option Text) → value_of name us ≡ a → value_of name vs ≡ b → b ≡ a
    go None None e f = refl
    go (Some v) b e f = sym f ∙ kept name v us vs p d e
    go None (Some v) e f = sym (kept name v vs us (IsPermutation-sym us vs p) back f) ∙ e
