-- Names that stand at most once among uses.
use Rattle.std.proofs.Common.{◌≡◌, ◌∙◌, ◌&&◌, ◌||◌, ◌≤◌, ◌+◌, ℕ, Bool, cond, arith, true, false, not, refl, sym, ap, List, [], ◌∷◌, ◌++◌, true≢false}
use Rattle.std.proofs.lemmas.List.Sums.{sum_by-cons}
use Rattle.std.specs.List.{count_by}
use Rattle.std.specs.List.{list_any}
use Rattle.std.specs.Str.{bytes_eq}
use Rattle.std.proofs.lemmas.Slice.Eq.{bytes_eq-Decides}
use Rattle.std.proofs.lemmas.Bool.{both_ways, not-true, and_parts, or_parts, or_from, or_right}
use Rattle.nc_options.specs.Pieces.{Text}
use Rattle.nc_options.specs.Uses.{Use, is_distinct}

abbrev pub has_name : Text → List Use → Bool
has_name id us = list_any (λ u. bytes_eq u.0 id) us

pub same_sym : (a b : Text) → bytes_eq a b ≡ bytes_eq b a
same_sym a b = go (bytes_eq a b) (bytes_eq b a) refl refl
  where
    go : (x y : Bool) → bytes_eq a b ≡ x → bytes_eq b a ≡ y → x ≡ y
    go true true e f = refl
    go false false e f = refl
    go true false e f =
        absurd (true≢false (sym ((bytes_eq-Decides b a).1 (sym ((bytes_eq-Decides a b).0 e))) ∙ f))
    go false true e f =
        absurd (true≢false (sym ((bytes_eq-Decides a b).1 (sym ((bytes_eq-Decides b a).0 f))) ∙ e))

pub same_self : (a : Text) → bytes_eq a a ≡ true
same_self a = (bytes_eq-Decides a a).1 refl

pub has_append : (id : Text) (us vs : List Use)
    → has_name id (us ++ vs) ≡ (has_name id us || has_name id vs)
has_append id [] vs = refl
has_append id (u ∷ us) vs = go (bytes_eq u.0 id) (has_append id us vs)
  where
    go : (b : Bool) → has_name id (us ++ vs) ≡ (has_name id us || has_name id vs)
        → (b || has_name id (us ++ vs)) ≡ ((b || has_name id us) || has_name id vs)
    go true e = refl
    go false e = e

pub distinct_push : (us : List Use) (n v : Text) → is_distinct us ≡ true → has_name n us ≡ false
    → is_distinct (us ++ (n, v) ∷ []) ≡ true
distinct_push [] n v d none = refl
distinct_push (u ∷ us) n v d none =
    let off : bytes_eq u.0 n ≡ false = (or_parts (bytes_eq u.0 n) _ none).0 in
    let here : has_name u.0 us ≡ false = not-true _ (and_parts (not (has_name u.0 us)) _ d).0 in
    let other : has_name u.0 (us ++ (n, v) ∷ []) ≡ false =
    has_append u.0 us ((n, v) ∷ []) ∙ or_from _ _ here (or_from _ _ (same_sym n u.0 ∙ off) refl) in
    ap (λ b. not b && is_distinct (us ++ (n, v) ∷ [])) other
    ∙ distinct_push us n v (and_parts (not (has_name u.0 us)) _ d).1
    (or_parts (bytes_eq u.0 n) _ none).1

pub not_distinct : (us : List Use) (n v : Text) (more : List Use) → has_name n us ≡ true
    → is_distinct (us ++ (n, v) ∷ more) ≡ true → ⊥
not_distinct [] n v more has d = true≢false (sym has)
not_distinct (u ∷ us) n v more has d =
    go (bytes_eq u.0 n) refl has (λ h. not_distinct us n v more h
    (and_parts (not (has_name u.0 (us ++ (n, v) ∷ more))) _ d).1)
  where
    go : (b : Bool) → bytes_eq u.0 n ≡ b → (b || has_name n us) ≡ true → (has_name n us ≡ true → ⊥)
        → ⊥
    go true is h rec =
        both_ways _ (not-true _ (and_parts _ _ d).0) (has_append u.0 us ((n, v) ∷ more)
        ∙ or_right _ _ (ap (λ b. b || has_name u.0 more) (same_sym n u.0 ∙ is)))
    go false is h rec = rec h

-- ---- counts

abbrev pub one_if : Bool → ℕ
one_if b = cond b 1 0

-- how often a name stands
abbrev pub uses_named : Text → List Use → ℕ
uses_named n us = count_by (λ u. bytes_eq u.0 n) us

pub one_more : {X : Type 0} (p : X → Bool) (x : X) (xs : List X)
    → count_by p (x ∷ xs) ≡ one_if (p x) + count_by p xs
one_more p x xs = sum_by-cons (λ y. cond (p y) 1 0) x xs

pub none_named : (n : Text) (us : List Use) → has_name n us ≡ false → uses_named n us ≡ 0
none_named n [] e = refl
none_named n (u ∷ us) e =
    one_more (λ (v : Use). bytes_eq v.0 n) u us ∙ go (bytes_eq u.0 n) e (none_named n us)
  where
    go : (b : Bool) → (b || has_name n us) ≡ false → (has_name n us ≡ false → uses_named n us ≡ 0)
        → one_if b + uses_named n us ≡ 0
    go true f rec = absurd (true≢false f)
    go false f rec = let r = rec f in omega arith

pub at_most_one : (n : Text) (us : List Use) → is_distinct us ≡ true → uses_named n us ≤ 1
at_most_one n [] d = omega arith
at_most_one n (u ∷ us) d =
    let all =
    go (bytes_eq u.0 n) refl (at_most_one n us
    (and_parts (not (has_name u.0 us)) (is_distinct us) d).1) in
    let sum = one_more (λ (v : Use). bytes_eq v.0 n) u us in
    omega arith
  where
    go : (b : Bool) → bytes_eq u.0 n ≡ b → uses_named n us ≤ 1 → one_if b + uses_named n us ≤ 1
    go false e rec = omega arith
    go true e rec =
        let same : u.0 ≡ n = (bytes_eq-Decides u.0 n).0 e in
        let none : has_name n us ≡ false =
        ap (λ x. has_name x us) (sym same)
        ∙ not-true (has_name u.0 us) (and_parts (not (has_name u.0 us)) (is_distinct us) d).0 in
        let zero : uses_named n us ≡ 0 = none_named n us none in
        omega arith

pub some_named : (n : Text) (us : List Use) → has_name n us ≡ true → 1 ≤ uses_named n us
some_named n [] e = absurd (true≢false (sym e))
some_named n (u ∷ us) e =
    let all = go (bytes_eq u.0 n) e (some_named n us) in
    let sum = one_more (λ (v : Use). bytes_eq v.0 n) u us in
    omega arith
  where
    go : (b : Bool) → (b || has_name n us) ≡ true → (has_name n us ≡ true → 1 ≤ uses_named n us)
        → 1 ≤ one_if b + uses_named n us
    go true f rec = omega arith
    go false f rec = let r = rec f in omega arith

-- names that stand at most once each are distinct
pub distinct_by_counts : (us : List Use) → ((n : Text) → uses_named n us ≤ 1)
    → is_distinct us ≡ true
distinct_by_counts [] h = refl
distinct_by_counts (u ∷ us) h =
    ap (λ b. not b && is_distinct us) (first (has_name u.0 us) refl) ∙ distinct_by_counts us rest
  where
    rest : (n : Text) → uses_named n us ≤ 1
    rest n =
        let most = h n in
        let sum = one_more (λ (v : Use). bytes_eq v.0 n) u us in
        omega arith

    first : (b : Bool) → has_name u.0 us ≡ b → b ≡ false
    first false e = refl
    first true e =
        let most = h u.0 in
        let sum = one_more (λ (v : Use). bytes_eq v.0 u.0) u us in
        let here : one_if (bytes_eq u.0 u.0) ≡ 1 = ap one_if (same_self u.0) in
        let more = some_named u.0 us e in
        absurd (omega arith)
