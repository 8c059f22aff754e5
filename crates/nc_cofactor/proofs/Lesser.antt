-- The first entries, which have lesser signatures.
-- What rebuilds an item has exactly these first (`first_of_rebuilt`). Entries ascend, so below an
-- entry's own signature they are those before it (`lesser_than_entry`).
use Rattle.nc_algebra.specs.Elements.{IsLess, Setting, generator_weight}
use Rattle.nc_algebra.specs.Monomials.{Monomial}
use Rattle.nc_algebra.proofs.Monomials.{monomial_laws}
use Rattle.nc_cofactor.specs.Rebuilding.{AreLesser}
use Rattle.nc_theory.proofs.Completeness.{whole_multiple}
use Rattle.nc_theory.proofs.Rebuilding.{from_not_below}
use Rattle.nc_theory.specs.Rebuilding.{IsAtLeast, Rebuilds}
use Rattle.nc_theory.specs.States.{Entry, Trace}
use Rattle.nc_algebra.specs.Polynomials.{Polynomial}
use Rattle.std.proofs.Common.{Contains, List, [], ap, arith, drop, get_or, inl, inr, length, refl, subst, suc, sym, take, zero, ℕ, ◌+◌, ◌++◌, ◌<◌, ◌∙◌, ◌∷◌, ◌≡◌, ◌≤◌, ◌⊎◌}
use Rattle.std.proofs.lemmas.List.{get_or-drop, get_or-take, get_or_default, length-drop, length-take}
use Rattle.nc_algebra.proofs.Orders.{nat_order}

-- ---- the front and the rest of a list

-- what the front has the list has, under the same number
abbrev pub of_front : {X : Type 0} → (m : ℕ) (xs : List X) (x : X) → Contains (take m xs) x
    → Contains xs x
of_front m xs x c = (
  c.0,
  omega (arith, c.1, length-take m xs),
  sym (get_or-take m xs c.0 x (omega (arith, c.1, length-take m xs))) ∙ c.2,
)

pub front_number : {X : Type 0} → (m : ℕ) (xs : List X) (x : X) → (c : Contains (take m xs) x)
    → c.0 < m
front_number m xs x c = omega (arith, c.1, length-take m xs)

-- and the front has what stands early enough
abbrev pub to_front : {X : Type 0} → (m : ℕ) (xs : List X) (x : X) → (c : Contains xs x) → c.0 < m
    → Contains (take m xs) x
to_front m xs x c l = (c.0, omega (arith, c.1, l, length-take m xs), get_or-take m xs c.0 x l ∙ c.2)

-- what the rest has the list has, that many places later
abbrev pub of_rest : {X : Type 0} → (m : ℕ) (xs : List X) (x : X) → Contains (drop m xs) x
    → Contains xs x
of_rest m xs x c =
    (m + c.0, omega (arith, c.1, length-drop m xs), sym (get_or-drop m xs c.0 x) ∙ c.2)

-- ---- by numbers

module _ (s : Setting) (entries : List Entry) (τ : Monomial) where
  -- the entries before place m have a lesser signature
  abbrev pub IsLesserTo : ℕ → Type 0
  IsLesserTo m = (e : Entry) (k : Contains entries e) → k.0 < m → IsLess s e.signature τ

  -- those from there on have not
  abbrev pub IsOtherFrom : ℕ → Type 0
  IsOtherFrom m = (e : Entry) (k : Contains entries e) → m ≤ k.0 → IsAtLeast s τ e

  pub lesser_by_numbers : (m : ℕ) → m ≤ length entries → IsLesserTo m → IsOtherFrom m
      → AreLesser s entries τ m
  lesser_by_numbers m few lesser others = record {
    few = few;
    lesser = λ e c. lesser e (of_front m entries e c) (front_number m entries e c);
    others = λ e c. others e (of_rest m entries e c) (omega arith);
  }

module _ (s : Setting) (entries : List Entry)
    (ascend : (e e' : Entry) (k : Contains entries e) (k' : Contains entries e') → k.0 < k'.0
    → IsLess s e.signature e'.signature) where
  -- two entries at one place are one
  one_place : (e e' : Entry) (k : Contains entries e) (k' : Contains entries e') → k.0 ≡ k'.0
      → e ≡ e'
  one_place e e' k k' i =
      sym k.2 ∙ (get_or_default entries k.0 e e' k.1 ∙ (ap (λ n. get_or entries n e') i ∙ k'.2))

  -- with an entry below τ those before it are, and with one that is not those behind it are not
  pub lesser_before : (τ : Monomial) (x : Entry) (n : Contains entries x) → IsLess s x.signature τ
      → IsLesserTo s entries τ (n.0 + 1)
  lesser_before τ x n l e k b = go (nat_order k.0 n.0)
    where
      go : (k.0 < n.0) ⊎ ((k.0 ≡ n.0) ⊎ (n.0 < k.0)) → IsLess s e.signature τ
      go (inl m) =
          (monomial_laws (generator_weight s)).trans e.signature x.signature τ (ascend e x k n m) l
      go (inr (inl i)) = subst (λ (y : Entry). IsLess s y.signature τ) (sym (one_place e x k n i)) l
      go (inr (inr m)) = absurd (omega (arith, b, m))

  pub others_behind : (τ : Monomial) (x : Entry) (n : Contains entries x) → IsAtLeast s τ x
      → IsOtherFrom s entries τ n.0
  others_behind τ x n a e k b = go (nat_order k.0 n.0)
    where
      beyond : IsAtLeast s τ x → IsLess s x.signature e.signature → IsAtLeast s τ e
      beyond (inl i) m = inr (subst (λ σ. IsLess s σ e.signature) i m)
      beyond (inr l) m =
          inr ((monomial_laws (generator_weight s)).trans τ x.signature e.signature l m)

      go : (k.0 < n.0) ⊎ ((k.0 ≡ n.0) ⊎ (n.0 < k.0)) → IsAtLeast s τ e
      go (inl m) = absurd (omega (arith, b, m))
      go (inr (inl i)) = subst (IsAtLeast s τ) (sym (one_place e x k n i)) a
      go (inr (inr m)) = beyond a (ascend x e n k m)

  -- below an entry's own signature are those before it
  pub lesser_than_entry : (x : Entry) (n : Contains entries x) → AreLesser s entries x.signature n.0
  lesser_than_entry x n =
      lesser_by_numbers s entries x.signature n.0 (omega (arith, n.1)) (λ e k b. ascend e x k n b)
      (others_behind x.signature x n (inl refl))

-- ---- the first ones are these alone

module _ (s : Setting) (τ : Monomial) where
  not_both : (e : Entry) → IsLess s e.signature τ → IsAtLeast s τ e → ⊥
  not_both e l a =
      from_not_below s τ e [] [] a (subst (λ σ. IsLess s σ τ) (sym (whole_multiple e.signature)) l)

  front_is : (first rest : List Entry) (m : ℕ) → m ≤ length (first ++ rest)
      → ((e : Entry) → Contains first e → IsLess s e.signature τ)
      → ((e : Entry) → Contains rest e → IsAtLeast s τ e)
      → ((e : Entry) → Contains (take m (first ++ rest)) e → IsLess s e.signature τ)
      → ((e : Entry) → Contains (drop m (first ++ rest)) e → IsAtLeast s τ e)
      → first ≡ take m (first ++ rest)
  front_is [] rest zero few low high low' high' = refl
  front_is [] [] (suc m) few low high low' high' = absurd (omega (arith, few))
  front_is [] (x ∷ rest) (suc m) few low high low' high' =
      absurd (not_both x (low' x (0, omega arith, refl)) (high x (0, omega arith, refl)))
  front_is (x ∷ first) rest zero few low high low' high' =
      absurd (not_both x (low x (0, omega arith, refl)) (high' x (0, omega arith, refl)))
  front_is (x ∷ first) rest (suc m) few low high low' high' =
      ap (λ l. x ∷ l) (front_is first rest m (omega (arith, few))
      (λ e c. low e (suc c.0, omega (arith, c.1), c.2)) high
      (λ e c. low' e (suc c.0, omega (arith, c.1), c.2)) high')

-- what rebuilds has them first
pub first_of_rebuilt : (s : Setting) (entries : List Entry) (τ : Monomial) (m : ℕ)
    → AreLesser s entries τ m → (t : Trace) (f : Polynomial) (r : Rebuilds s entries τ t f)
    → r.first ≡ take m entries
first_of_rebuilt s entries τ m a t f r =
    front_is s τ r.first r.rest m (subst (λ l. m ≤ length l) r.splits a.few) r.lesser r.others
    (subst (λ l. (e : Entry) → Contains (take m l) e → IsLess s e.signature τ) r.splits
    a.lesser) (subst (λ l. (e : Entry) → Contains (drop m l) e → IsAtLeast s τ e) r.splits
    a.others)
    ∙ ap (take m) (sym r.splits)
