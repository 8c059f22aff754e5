-- Entries of a tree as lists of terms.
-- An entry has two readings: its coefficient now, and the one before the pass. Both give a list of
-- terms, without those that have coefficient 0. A term that is added changes the first list by that
-- term, as a sum (`added_sum`), and leaves the second one as it is (`added_before`). Both follow
-- from what a write at one key does to any reading (`inserted_weighs`, `inserted_same`).
use Rattle.nc_algebra.proofs.Sums.{linear_sum-append}
use Rattle.nc_algebra.specs.Sums as sums
use Rattle.nc_algebra.specs.Sums.{SameSum, Term, coefficient_by, linear_sum}
use Rattle.nc_poly.specs.Keeping.{added, before_at, fresh, now_of, shown, terms_by}
use Rattle.nc_poly.specs.Ordered.{AreResiduesBy}
use Rattle.nc_poly.specs.declared.sum.Slot.{Slot}
use Rattle.std.proofs.Common.{All, Bool, Equal, Greater, IfSome, Less, List, None, Option, Ordering, Some, [], ap, ap₂, append_assoc, append-nil, arith, cond, false, is_eq, nat_eq, refl, sym, true, ℕ, ◌%◌, ◌*◌, ◌+◌, ◌++◌, ◌/◌, ◌<◌, ◌∙◌, ◌∷◌, ◌≡◌, ◌≤◌}
use Rattle.std.proofs.Math.Nat.{add-mod, add-mul-mod_self_left, div-add-mod, mod-lt}
use Rattle.std.proofs.lemmas.Bool.{eqb-true, false≢true}
use Rattle.std.proofs.lemmas.Bool.Decides.{nat_tests}
use Rattle.std.proofs.lemmas.List.Elements.{All-from_recursion, recursion_from_All}
use Rattle.std.proofs.lemmas.Map.{lookup-none}
use Rattle.std.proofs.lemmas.Map.Entries.{All-lookup, none_below_head}
use Rattle.std.proofs.lemmas.Map.Keys.{sorted_tail}
use Rattle.std.specs.BTreeMap as tree
use Rattle.std.specs.BTreeMap.{insert_entry}
use Rattle.std.specs.Cmp.{IsTotalOrder}
use Rattle.std.specs.List.{AllByRecursion}
use Rattle.std.specs.List.Sorted.{IsStrictlySortedBy}
use Rattle.std.specs.Map.{keys_of, lookup}
use Rattle.std.specs.Option.{option_map, unwrap_or}
use Rattle.std.specs.Ordering.{eq_by_cmp, match_ordering, ordering_reverse}

-- ---- lists in two parts

pub front_all : {X : Type 0} (P : X → Type 0) (xs ys : List X) → AllByRecursion P (xs ++ ys)
    → AllByRecursion P xs
front_all P [] ys a = tt
front_all P (x ∷ xs) ys a = (a.0, front_all P xs ys a.1)

pub back_all : {X : Type 0} (P : X → Type 0) (xs ys : List X) → AllByRecursion P (xs ++ ys)
    → AllByRecursion P ys
back_all P [] ys a = a
back_all P (x ∷ xs) ys a = back_all P xs ys a.1

pub both_all : {X : Type 0} (P : X → Type 0) (xs ys : List X) → AllByRecursion P xs
    → AllByRecursion P ys → AllByRecursion P (xs ++ ys)
both_all P [] ys a b = b
both_all P (x ∷ xs) ys a b = (a.0, both_all P xs ys a.1 b)

-- ---- the terms of entries

-- a term is shown where its coefficient is not 0
pub shown_zero : {K : Type 0} (c : ℕ) (k : K) → c ≡ 0 → shown c k ≡ []
shown_zero c k e = ap (λ n. shown n k) e

pub shown_some : {K : Type 0} (c : ℕ) (k : K) → 0 < c
    → shown c k ≡ record { coefficient = c; key = k } ∷ []
shown_some {K} c k h = go (nat_eq c 0) refl
  where
    go : (b : Bool) → nat_eq c 0 ≡ b
        → cond {A = List (Term K)} b [] (record { coefficient = c; key = k } ∷ [])
        ≡ record { coefficient = c; key = k } ∷ []
    go true e = let z : c ≡ 0 = eqb-true c 0 e in absurd (omega arith)
    go false e = refl

linear_shown : {K : Type 0} (F : K → ℕ) (c : ℕ) (k : K) → linear_sum F (shown c k) ≡ c * F k
linear_shown {K} F c k = go (nat_eq c 0) refl
  where
    go : (b : Bool) → nat_eq c 0 ≡ b
        → linear_sum F (cond {A = List (Term K)} b [] (record { coefficient = c; key = k } ∷ []))
        ≡ c * F k
    go true e = let z : c ≡ 0 = eqb-true c 0 e in omega (arith, ap (λ n. n * F k) z)
    go false e = omega arith

module _ {K S : Type 0} (φ : S → ℕ) where
  -- one more entry stands first among the terms
  pub terms_push : (es : List (K × S)) (e : K × S)
      → terms_by φ (es ++ e ∷ []) ≡ shown (φ e.1) e.0 ++ terms_by φ es
  terms_push [] e = sym (append-nil (shown (φ e.1) e.0))
  terms_push (d ∷ es) e =
      ap (λ (l : List (Term K)). l ++ shown (φ d.1) d.0) (terms_push es e)
      ∙ append_assoc (shown (φ e.1) e.0) (terms_by φ es) (shown (φ d.1) d.0)

  pub linear_terms : (F : K → ℕ) (e : K × S) (es : List (K × S))
      → linear_sum F (terms_by φ (e ∷ es)) ≡ linear_sum F (terms_by φ es) + φ e.1 * F e.0
  linear_terms F e es =
      linear_sum-append F (terms_by φ es) (shown (φ e.1) e.0)
      ∙ ap (λ n. linear_sum F (terms_by φ es) + n) (linear_shown F (φ e.1) e.0)

-- the coefficients of the terms are residues just where those of the entries are
module _ {K S : Type 0} (φ : S → ℕ) (p : ℕ) where
  entries_small : 0 < p → (es : List (K × S))
      → AllByRecursion (λ t. t.coefficient < p) (terms_by φ es) → AllByRecursion (λ e. φ e.1 < p) es
  entries_small some [] a = tt
  entries_small some (e ∷ es) a = (
    go (nat_eq (φ e.1) 0) refl (back_all (λ t. t.coefficient < p) (terms_by φ es)
        (shown (φ e.1) e.0) a),
    entries_small some es
        (front_all (λ t. t.coefficient < p) (terms_by φ es) (shown (φ e.1) e.0) a),
  )
    where
      go : (b : Bool) → nat_eq (φ e.1) 0 ≡ b
          → AllByRecursion (λ t. t.coefficient < p)
          (cond {A = List (Term K)} b [] (record { coefficient = φ e.1; key = e.0 } ∷ []))
          → φ e.1 < p
      go true d a = let z : φ e.1 ≡ 0 = eqb-true (φ e.1) 0 d in omega arith
      go false d a = a.0

  terms_small : (es : List (K × S)) → AllByRecursion (λ e. φ e.1 < p) es
      → AllByRecursion (λ t. t.coefficient < p) (terms_by φ es)
  terms_small [] a = tt
  terms_small (e ∷ es) a =
      both_all (λ t. t.coefficient < p) (terms_by φ es) (shown (φ e.1) e.0) (terms_small es a.1)
      (go (nat_eq (φ e.1) 0))
    where
      go : (b : Bool) → AllByRecursion (λ t. t.coefficient < p)
          (cond {A = List (Term K)} b [] (record { coefficient = φ e.1; key = e.0 } ∷ []))
      go true = tt
      go false = (a.0, tt)

  pub entries_residues : 0 < p → (es : List (K × S)) → AreResiduesBy p (terms_by φ es)
      → AllByRecursion (λ e. φ e.1 < p) es
  entries_residues some es a =
      entries_small some es (recursion_from_All (λ t. t.coefficient < p) (terms_by φ es) a)

  pub terms_residues : (es : List (K × S)) → AllByRecursion (λ e. φ e.1 < p) es
      → AreResiduesBy p (terms_by φ es)
  terms_residues es a =
      All-from_recursion (λ t. t.coefficient < p) (terms_by φ es) (terms_small es a)

-- two readings that agree on each entry give the same terms
pub terms_same : {K S : Type 0} (P : S → Type 0) (φ ψ : S → ℕ) → ((s : S) → P s → φ s ≡ ψ s)
    → (es : List (K × S)) → AllByRecursion (λ e. P e.1) es → terms_by φ es ≡ terms_by ψ es
terms_same P φ ψ h [] a = refl
terms_same {K} P φ ψ h (e ∷ es) a =
    ap₂ (λ (l : List (Term K)) n. l ++ shown n e.0) (terms_same P φ ψ h es a.1) (h e.1 a.0)

-- ---- an entry written at a key

module _ {K S : Type 0} {cmp : K → K → Ordering} (o : IsTotalOrder cmp) (φ : S → ℕ) (k : K) (w : S)
  where
    -- what stood at the key
    abbrev pub found_at : List (K × S) → ℕ
    found_at es = unwrap_or (option_map φ (lookup (tree.is_at (cmp k)) es)) 0

    absent : (e : K × S) (es : List (K × S)) → IsStrictlySortedBy cmp (keys_of (e ∷ es))
        → cmp k e.0 ≡ Less → found_at es ≡ 0
    absent e es s less =
        ap (λ (x : Option S). unwrap_or (option_map φ x) 0)
        (lookup-none (tree.is_at (cmp k)) es (none_below_head o k e es s less).1)

    pub inserted_weighs : (F : K → ℕ) → ((x : K) → cmp k x ≡ Equal → F x ≡ F k)
        → (es : List (K × S))
        → IsStrictlySortedBy cmp (keys_of es) → linear_sum F (terms_by φ (insert_entry cmp es k w))
        + found_at es * F k ≡ linear_sum F (terms_by φ es) + φ w * F k
    inserted_weighs F same [] s = omega (arith, linear_terms φ F (k, w) [])
    inserted_weighs F same (e ∷ es) s =
        go (cmp k e.0) refl (inserted_weighs F same es (sorted_tail cmp e.0 (keys_of es) s))
      where
        go : (r : Ordering) → cmp k e.0 ≡ r → linear_sum F (terms_by φ (insert_entry cmp es k w))
            + found_at es * F k ≡ linear_sum F (terms_by φ es) + φ w * F k
            → linear_sum F (terms_by φ (match_ordering r ((k, w) ∷ e ∷ es) ((e.0, w) ∷ es)
            (e ∷ insert_entry cmp es k w)))
            + unwrap_or (option_map φ (cond (is_eq r) (Some e.1) (lookup (tree.is_at (cmp k)) es)))
            0
            * F k ≡ linear_sum F (terms_by φ (e ∷ es)) + φ w * F k
        go Less d h =
            omega (arith, linear_terms φ F (k, w) (e ∷ es), ap (λ n. n * F k) (absent e es s d))
        go Equal d h =
            omega (
              arith,
              linear_terms φ F (e.0, w) es,
              linear_terms φ F e es,
              ap (λ n. φ w * n) (same e.0 d),
              ap (λ n. φ e.1 * n) (same e.0 d),
            )
        go Greater d h =
            omega (arith, linear_terms φ F e (insert_entry cmp es k w), linear_terms φ F e es, h)

    -- where the reading stays, so do the terms
    pub inserted_same : (es : List (K × S)) → IsStrictlySortedBy cmp (keys_of es)
        → φ w ≡ found_at es
        → terms_by φ (insert_entry cmp es k w) ≡ terms_by φ es
    inserted_same [] s q = shown_zero (φ w) k q
    inserted_same (e ∷ es) s q =
        go (cmp k e.0) refl q (inserted_same es (sorted_tail cmp e.0 (keys_of es) s))
      where
        go : (r : Ordering) → cmp k e.0 ≡ r
            → φ w ≡ unwrap_or (option_map φ
            (cond (is_eq r) (Some e.1) (lookup (tree.is_at (cmp k)) es))) 0
            → (φ w ≡ found_at es → terms_by φ (insert_entry cmp es k w) ≡ terms_by φ es)
            → terms_by φ (match_ordering r ((k, w) ∷ e ∷ es) ((e.0, w) ∷ es)
            (e ∷ insert_entry cmp es k w)) ≡ terms_by φ (e ∷ es)
        go Less d q h =
            ap (λ (l : List (Term K)). terms_by φ (e ∷ es) ++ l)
            (shown_zero (φ w) k (q ∙ absent e es s d)) ∙ append-nil (terms_by φ (e ∷ es))
        go Equal d q h = ap (λ n. terms_by φ es ++ shown n e.0) q
        go Greater d q h = ap (λ (l : List (Term K)). l ++ shown (φ e.1) e.0) (h q)

    pub inserted_all : (P : S → Type 0) (es : List (K × S)) → AllByRecursion (λ e. P e.1) es → P w
        → AllByRecursion (λ e. P e.1) (insert_entry cmp es k w)
    inserted_all P [] a b = (b, tt)
    inserted_all P (e ∷ es) a b = go (cmp k e.0) (inserted_all P es a.1 b)
      where
        go : (r : Ordering) → AllByRecursion (λ e. P e.1) (insert_entry cmp es k w)
            → AllByRecursion (λ e. P e.1) (match_ordering r ((k, w) ∷ e ∷ es) ((e.0, w) ∷ es)
            (e ∷ insert_entry cmp es k w))
        go Less h = (b, a)
        go Equal h = (b, a.1)
        go Greater h = (a.0, h)

-- ---- a term added in a pass

unwrapped : {X : Type 0} (P : X → Type 0) (x : Option X) (d : X) → IfSome x P → P d
    → P (unwrap_or x d)
unwrapped P None d h k = k
unwrapped P (Some x) d h k = h

read : {X : Type 0} (φ : X → ℕ) (x : Option X) (d : X) → φ d ≡ 0
    → φ (unwrap_or x d) ≡ unwrap_or (option_map φ x) 0
read φ None d e = e
read φ (Some x) d e = refl

-- sums that are equal but for a f on both sides
step_mod : (p n m a c f : ℕ) → n + a * f ≡ m + ((a + c) % p) * f → n % p ≡ (c * f + m) % p
step_mod p n m a c f e =
    sym (add-mul-mod_self_left n p (((a + c) / p) * f))
    ∙ ap (λ x. x % p) (omega (arith, e, ap (λ x. x * f) (div-add-mod (a + c) p)))

pub mod_add_left : (p a b c : ℕ) → b % p ≡ c % p → (a + b) % p ≡ (a + c) % p
mod_add_left p a b c e = add-mod a b p ∙ (ap (λ n. (a % p + n) % p) e ∙ sym (add-mod a c p))

module _ {K : Type 0} {cmp : K → K → Ordering} (o : IsTotalOrder cmp) where
  -- equal keys are at the same keys
  at_same : (x k y : K) → cmp k y ≡ Equal
      → sums.is_at (eq_by_cmp cmp) x y ≡ sums.is_at (eq_by_cmp cmp) x k
  at_same x k y e =
      ap (λ r. cond (is_eq r) 1 0) (o.antisymm x y
      ∙ (ap ordering_reverse (sym (o.congr k y x e)) ∙ sym (o.antisymm x k)))

  module _ (p pass : ℕ) (k : K) (c : ℕ) (es : List (K × Slot)) where
    -- what is written
    abbrev pub slot : Slot
    slot = unwrap_or (lookup (tree.is_at (cmp k)) es) (fresh pass)

    pub added_sum : IsStrictlySortedBy cmp (keys_of es)
        → SameSum (eq_by_cmp cmp) p (terms_by now_of (insert_entry cmp es k (added pass p c slot)))
        (record { coefficient = c; key = k } ∷ terms_by now_of es)
    added_sum s = record {
      at = λ x.
          let F : K → ℕ = sums.is_at (eq_by_cmp cmp) x in
          let weighs = inserted_weighs o now_of k (added pass p c slot) F (at_same x k) es s in
          let old = read now_of (lookup (tree.is_at (cmp k)) es) (fresh pass) refl in
          step_mod p (linear_sum F (terms_by now_of (insert_entry cmp es k (added pass p c slot))))
          (linear_sum F (terms_by now_of es)) slot.now c (F k)
          (ap (λ n. linear_sum F (terms_by now_of (insert_entry cmp es k (added pass p c slot)))
          + n * F k) old ∙ weighs);
    }

    before_same : before_at pass (added pass p c slot) ≡ before_at pass slot
    before_same = go (nat_eq pass pass) (grind (arith, nat_tests))
      where
        go : (b : Bool) → b ≡ true → cond b (before_at pass slot) ((slot.now + c) % p) ≡ before_at
            pass slot
        go true e = refl
        go false e = absurd (false≢true e)

    before_fresh : before_at pass (fresh pass) ≡ 0
    before_fresh = go (nat_eq pass pass)
      where
        go : (b : Bool) → cond {A = ℕ} b 0 0 ≡ 0
        go true = refl
        go false = refl

    pub added_before : IsStrictlySortedBy cmp (keys_of es)
        → terms_by (before_at pass) (insert_entry cmp es k (added pass p c slot)) ≡ terms_by
        (before_at pass) es
    added_before s =
        inserted_same o (before_at pass) k (added pass p c slot) es s
        (before_same ∙ read (before_at pass) (lookup (tree.is_at (cmp k)) es) (fresh pass)
        before_fresh)

    pub slot_residue : 0 < p → AreResiduesBy p (terms_by now_of es) → slot.now < p
    slot_residue some a =
        unwrapped (λ s. s.now < p) (lookup (tree.is_at (cmp k)) es) (fresh pass)
        (All-lookup (λ s. s.now < p) (tree.is_at (cmp k)) es
        (All-from_recursion (λ e. e.1.now < p) es (entries_residues now_of p some es a))) some

    pub added_residues : 0 < p → AreResiduesBy p (terms_by now_of es)
        → AreResiduesBy p (terms_by now_of (insert_entry cmp es k (added pass p c slot)))
    added_residues some a =
        terms_residues now_of p (insert_entry cmp es k (added pass p c slot))
        (inserted_all o now_of k (added pass p c slot) (λ s. s.now < p) es
        (entries_residues now_of p some es a) (mod-lt (slot.now + c) some))

    pub added_stamps : All (λ e. e.1.pass ≤ pass) es
        → All (λ e. e.1.pass ≤ pass) (insert_entry cmp es k (added pass p c slot))
    added_stamps a =
        All-from_recursion (λ e. e.1.pass ≤ pass) _
        (inserted_all o now_of k (added pass p c slot) (λ s. s.pass ≤ pass) es
        (recursion_from_All (λ e. e.1.pass ≤ pass) es a) (omega arith))
