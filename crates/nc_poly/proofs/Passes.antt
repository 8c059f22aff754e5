-- Passes over the entries of a tree.
-- A pass adds one term after the other (`adds_step`). At its beginning both readings agree, since
-- no entry has its number yet (`begun`). If it fails, a sweep makes the second reading the first
-- (`rewritten`), so the sum is what it was.
use Rattle.nc_algebra.proofs.NormalForms.{positive}
use Rattle.nc_algebra.proofs.Sums.{linear_sum-append}
use Rattle.nc_algebra.specs.Sums as sums
use Rattle.nc_algebra.specs.Sums.{SameSum, Term, coefficient_by, linear_sum}
use Rattle.nc_poly.proofs.Entries.{added_before, added_residues, added_stamps, added_sum, back_all, both_all, front_all, mod_add_left, shown_zero, slot, terms_push, terms_same}
use Rattle.nc_poly.specs.Keeping.{added, before_at, now_of, shown, terms_by}
use Rattle.nc_poly.specs.Ordered.{AreResiduesBy, listed}
use Rattle.nc_poly.specs.declared.sum.Slot.{Slot}
use Rattle.std.proofs.Common.{All, Bool, IfSome, IsSome, List, None, Option, Ordering, Some, [], ap, ap₂, append-nil, arith, cond, false, length, nat_eq, refl, subst, suc, sym, true, ℕ, ◌%◌, ◌*◌, ◌+◌, ◌++◌, ◌-◌, ◌<◌, ◌∙◌, ◌∷◌, ◌≡◌, ◌≤◌}
use Rattle.std.proofs.lemmas.Bool.{eqb-true, false≢true}
use Rattle.std.proofs.lemmas.List.Elements.{All-from_recursion, recursion_from_All}
use Rattle.std.specs.BTreeMap.{insert_entry}
use Rattle.std.specs.Cmp.{IsTotalOrder}
use Rattle.std.specs.List.{AllByRecursion, slice_get}
use Rattle.std.specs.List.Sorted.{IsStrictlySortedBy}
use Rattle.std.specs.Map.{keys_of}
use Rattle.std.specs.Map.Calls.{RetainsPairs}
use Rattle.std.specs.Ordering.{eq_by_cmp}

-- ---- lists by their last element

pub All-front : {X : Type 0} (P : X → Type 0) (zs xs ys : List X) → zs ≡ xs ++ ys → All P zs
    → All P xs
All-front P zs xs ys e a =
    All-from_recursion P xs (front_all P xs ys
    (subst (AllByRecursion P) e (recursion_from_All P zs a)))

pub All-push : {X : Type 0} (P : X → Type 0) (zs xs : List X) (y : X) → zs ≡ xs ++ y ∷ [] → All P xs
    → P y → All P zs
All-push P zs xs y e a b =
    All-from_recursion P zs (subst (AllByRecursion P) (sym e)
    (both_all P xs (y ∷ []) (recursion_from_All P xs a) (b, tt)))

pub All-last : {X : Type 0} (P : X → Type 0) (zs xs : List X) (y : X) → zs ≡ xs ++ y ∷ [] → All P zs
    → P y
All-last P zs xs y e a =
    (back_all P xs (y ∷ []) (subst (AllByRecursion P) e (recursion_from_All P zs a))).0

length_push : {X : Type 0} (xs : List X) (x : X) → length (xs ++ x ∷ []) ≡ suc (length xs)
length_push [] x = refl
length_push (y ∷ xs) x = ap suc (length_push xs x)

at_end : {X : Type 0} (xs : List X) (x : X) → slice_get (xs ++ x ∷ []) (length xs) ≡ Some x
at_end [] x = refl
at_end (y ∷ xs) x = at_end xs x

-- the last element is the one at the last place
pub last_is : {X : Type 0} (zs xs : List X) (y z : X) → slice_get zs (length zs - 1) ≡ Some z
    → zs ≡ xs ++ y ∷ [] → y ≡ z
last_is zs xs y z h e =
    let place : length zs - 1 ≡ length xs = omega (arith, ap length e, length_push xs y) in
    let same : Some y ≡ Some z =
    sym (at_end xs y) ∙ (ap₂ (λ l i. slice_get l i) (sym e) (sym place) ∙ h) in
    cc

pub split_last : {X : Type 0} (zs : List X) (z : X) → slice_get zs (length zs - 1) ≡ Some z
    → (xs : List X) × (zs ≡ xs ++ z ∷ [])
split_last [] z h = absurd (cc)
split_last (y ∷ []) z h = ([], let same : Some y ≡ Some z = h in cc)
split_last {X} (y ∷ (x ∷ zs)) z h =
    let place : suc (length zs) ≡ length (y ∷ (x ∷ zs)) - 1 = omega arith in
    let inner : length (x ∷ zs) - 1 ≡ length zs = omega arith in
    let at : slice_get (x ∷ zs) (length zs) ≡ Some z = ap (slice_get (y ∷ (x ∷ zs))) place ∙ h in
    let rest : (xs : List X) × (x ∷ zs ≡ xs ++ z ∷ []) =
    split_last (x ∷ zs) z (ap (slice_get (x ∷ zs)) inner ∙ at) in
    (y ∷ rest.0, ap (λ l. y ∷ l) rest.1)

pub snoc_same : {X : Type 0} (zs xs ys : List X) (x y : X) → zs ≡ xs ++ x ∷ [] → zs ≡ ys ++ y ∷ []
    → x ≡ y
snoc_same zs xs ys x y e d =
    let place : length zs - 1 ≡ length xs = omega (arith, ap length e, length_push xs x) in
    sym (last_is zs ys y x (ap₂ (λ l i. slice_get l i) e place ∙ at_end xs x) d)

pub some_pushed : {X : Type 0} (zs xs : List X) (y : X) → zs ≡ xs ++ y ∷ [] → 0 < length zs
some_pushed zs xs y e = omega (arith, ap length e, length_push xs y)

pub given : {X : Type 0} (P : X → Type 0) (r : Option X) → IsSome r → IfSome r P → (x : X)
    × (r ≡ Some x) × P x
given P None s h = absurd (false≢true s)
given P (Some x) s h = (x, refl, h)

-- ---- the terms that a pass adds

pub listed_push : {K : Type 0} (es : List (K × ℕ)) (e : K × ℕ)
    → listed (es ++ e ∷ []) ≡ listed es ++ record { coefficient = e.1; key = e.0 } ∷ []
listed_push [] e = refl
listed_push {K} (d ∷ es) e =
    ap (λ (l : List (Term K)). record { coefficient = d.1; key = d.0 } ∷ l) (listed_push es e)

-- how far the terms are added: those in `rest` are not
pub record AddsSlots {K : Type 0} (cmp : K → K → Ordering) (p pass : ℕ)
    (start now : List (K × Slot)) (terms rest : List (K × ℕ)) : Type 0 where
  pub sum : SameSum (eq_by_cmp cmp) p (listed rest ++ terms_by now_of now)
      (listed terms ++ terms_by now_of start)
  pub before : terms_by (before_at pass) now ≡ terms_by (before_at pass) start
  pub residues : AreResiduesBy p (terms_by now_of now)
  pub factors : All (λ e. e.1 < p) rest
  pub stamps : All (λ e. e.1.pass ≤ pass) start → All (λ e. e.1.pass ≤ pass) now

module _ {K : Type 0} {cmp : K → K → Ordering} (o : IsTotalOrder cmp) (p pass : ℕ)
    (start now new : List (K × Slot)) (terms rest left : List (K × ℕ)) (k : K) (c : ℕ) where
  pub adds_step : 0 < p → IsStrictlySortedBy cmp (keys_of now) → rest ≡ left ++ (k, c) ∷ []
      → new ≡ insert_entry cmp now k (added pass p c (slot o p pass k c now))
      → AddsSlots cmp p pass start now terms rest → AddsSlots cmp p pass start new terms left
  adds_step some s parts is h = record {
    sum = record { at = each };
    before = ap (terms_by (before_at pass)) is ∙ (added_before o p pass k c now s ∙ h.before);
    residues =
        subst (λ (l : List (K × Slot)). AreResiduesBy p (terms_by now_of l)) (sym is)
        (added_residues o p pass k c now some h.residues);
    factors = All-front (λ e. e.1 < p) rest left ((k, c) ∷ []) parts h.factors;
    stamps =
        λ a. subst (λ l. All (λ e. e.1.pass ≤ pass) l) (sym is)
        (added_stamps o p pass k c now (h.stamps a));
  }
    where
      F : K → K → ℕ
      F x = sums.is_at (eq_by_cmp cmp) x

      each : (x : K) → coefficient_by (eq_by_cmp cmp) (listed left ++ terms_by now_of new) x
          % p ≡ coefficient_by (eq_by_cmp cmp) (listed terms ++ terms_by now_of start) x % p
      each x =
          let lists : listed rest ≡ listed left ++ record { coefficient = c; key = k } ∷ [] =
          ap listed parts ∙ listed_push left (k, c) in
          let old : linear_sum (F x) (listed rest ++ terms_by now_of now) ≡ linear_sum (F x)
          (listed left) + (c * F x k + linear_sum (F x) (terms_by now_of now)) =
          omega (
            arith,
            linear_sum-append (F x) (listed rest) (terms_by now_of now),
            ap (linear_sum (F x)) lists,
            linear_sum-append (F x) (listed left)
                (record { coefficient = c; key = k } ∷ []),
          ) in
          ap (λ n. n % p) (linear_sum-append (F x) (listed left) (terms_by now_of new))
          ∙ (mod_add_left p (linear_sum (F x) (listed left))
          (linear_sum (F x) (terms_by now_of new))
          (c * F x k + linear_sum (F x) (terms_by now_of now))
          (ap (λ l. linear_sum (F x) (terms_by now_of l) % p) is
          ∙ (added_sum o p pass k c now s).at x)
          ∙ (ap (λ n. n % p) (sym old) ∙ h.sum.at x))

-- ---- undoing a pass, and forgetting its number

module _ {F K : Type 0} (T : F → K → Slot → Bool → Slot → F → Type 0) (I : F → Type 0) (φ : Slot
    → ℕ) where
  -- each call writes what φ reads, and drops nothing but zeros
  abbrev pub Rewrites : Type 0
  Rewrites =
      (f : F) (k : K) (v : Slot) (b : Bool) (w : Slot) (f' : F) → I f → T f k v b w f'
      → (w.now ≡ φ v) × (b ≡ false → w.now ≡ 0) × I f'

  pub rewritten : Rewrites → (f : F) (es kept : List (K × Slot)) → I f → RetainsPairs T f es kept
      → terms_by now_of kept ≡ terms_by φ es
  rewritten h f [] kept i r = ap (terms_by now_of) r
  rewritten h f (e ∷ es) kept i (b, w, f', rest, t, r, is) =
      let said = h f e.0 e.1 b w f' i t in
      ap (terms_by now_of) is ∙ go b said.0 said.1 (rewritten h f' es rest said.2 r)
    where
      go : (b : Bool) → w.now ≡ φ e.1 → (b ≡ false → w.now ≡ 0)
          → terms_by now_of rest ≡ terms_by φ es
          → terms_by now_of (cond b ((e.0, w) ∷ rest) rest) ≡ terms_by φ es ++ shown (φ e.1) e.0
      go true d z q = ap₂ (λ (l : List (Term K)) n. l ++ shown n e.0) q d
      go false d z q =
          q ∙ sym (ap (λ (l : List (Term K)). terms_by φ es ++ l)
          (shown_zero (φ e.1) e.0 (sym d ∙ z refl)) ∙ append-nil (terms_by φ es))

module _ {F K : Type 0} (T : F → K → Slot → Bool → Slot → F → Type 0) (I : F → Type 0) (P Q : Slot
    → Type 0) where
  pub retained_all : ((f : F) (k : K) (v : Slot) (b : Bool) (w : Slot) (f' : F) → I f
      → T f k v b w f' → (P v → Q w) × I f') → (f : F) (es kept : List (K × Slot)) → I f
      → RetainsPairs T f es kept → AllByRecursion (λ e. P e.1) es → AllByRecursion (λ e. Q e.1) kept
  retained_all h f [] kept i r a = subst (AllByRecursion (λ e. Q e.1)) (sym r) tt
  retained_all h f (e ∷ es) kept i (b, w, f', rest, t, r, is) a =
      let said = h f e.0 e.1 b w f' i t in
      subst (AllByRecursion (λ e. Q e.1)) (sym is)
      (go b (said.0 a.0) (retained_all h f' es rest said.1 r a.1))
    where
      go : (b : Bool) → Q w → AllByRecursion (λ e. Q e.1) rest
          → AllByRecursion (λ e. Q e.1) (cond b ((e.0, w) ∷ rest) rest)
      go true q l = (q, l)
      go false q l = l

-- ---- zeros at the end

pub dropped : {K : Type 0} (old new : List (K × Slot)) (e : K × Slot) → old ≡ new ++ e ∷ []
    → e.1.now ≡ 0 → terms_by now_of new ≡ terms_by now_of old
dropped {K} old new e is z =
    sym (ap (terms_by now_of) is ∙ (terms_push now_of new e
    ∙ ap (λ (l : List (Term K)). l ++ terms_by now_of new) (shown_zero e.1.now e.0 z)))

pub dropped_last : {K : Type 0} (old new front : List (K × Slot)) (x e : K × Slot)
    → old ≡ new ++ x ∷ [] → old ≡ front ++ e ∷ [] → e.1.now ≡ 0
    → terms_by now_of new ≡ terms_by now_of old
dropped_last {K} old new front x e is at z =
    dropped old new x is (ap (λ (y : K × Slot). y.1.now) (snoc_same old new front x e is at) ∙ z)

pub last_some : {K : Type 0} (es front : List (K × Slot)) (e : K × Slot) (k : K) (s : Slot)
    → slice_get es (length es - 1) ≡ Some (k, s) → es ≡ front ++ e ∷ [] → nat_eq s.now 0 ≡ false
    → 0 < e.1.now
last_some {K} es front e k s h is n =
    subst (λ m. 0 < m) (sym (ap (λ (y : K × Slot). y.1.now) (last_is es front e (k, s) h is)))
    (positive s.now n)

-- ---- a pass that is undone

-- at the beginning of a pass that no entry knows, the coefficients are those before it
pub begun : {K : Type 0} (pass : ℕ) (es : List (K × Slot)) → All (λ e. e.1.pass < pass) es
    → terms_by (before_at pass) es ≡ terms_by now_of es
begun pass es a =
    terms_same (λ s. s.pass < pass) (before_at pass) now_of each es
    (recursion_from_All (λ e. e.1.pass < pass) es a)
  where
    each : (s : Slot) → s.pass < pass → before_at pass s ≡ s.now
    each s l = go (nat_eq s.pass pass) refl
      where
        go : (b : Bool) → nat_eq s.pass pass ≡ b → cond b s.before s.now ≡ s.now
        go true e = let z : s.pass ≡ pass = eqb-true s.pass pass e in absurd (omega arith)
        go false e = refl

pub stamps_weaker : {K : Type 0} (pass : ℕ) (es : List (K × Slot)) → All (λ e. e.1.pass < pass) es
    → All (λ e. e.1.pass ≤ pass) es
stamps_weaker pass es a = λ k d l. let h = a k d l in omega arith
