-- Sums of module monomials with their degrees, and the module elements that they are.
-- Code adds one multiple after the other (`sum_begins`, `sum_adds`, `sum_ends`). What a sum lists
-- comes from what was added, so the degrees stay right. To subtract c times an element, code adds
-- the multiple by the negative residue of c (`sum_less`).
use Rattle.nc_algebra.proofs.Lists.{same-append, same-permutation, same-refl, same-trans}
use Rattle.nc_algebra.proofs.Monomials.{monomial_laws}
use Rattle.nc_algebra.proofs.Orders.{KeyLaws}
use Rattle.nc_algebra.proofs.Sums.{linear_sum-map_keys, linear_sum-scale, linear_sum_same}
use Rattle.nc_algebra.proofs.Words.{length_at_most, weight-append}
use Rattle.nc_algebra.specs.Elements.{Element, HasDegree, Setting, element_times, generator_weight}
use Rattle.nc_algebra.specs.Monomials.{IsMonomialLess, Sig, compare_sigs, degree_of, monomial_of, same_monomial, sig_times, times}
use Rattle.nc_algebra.specs.Sums.{SameSum, Term, coefficient_by, is_at, minus, scale}
use Rattle.nc_algebra.specs.Words.{Word, word_weight}
use Rattle.nc_cofactor.proofs.Keys.{keys_kept}
use Rattle.nc_cofactor.specs.Sums.{IsAddable, IsSum}
use Rattle.nc_module.specs.Modules.{element_of, module_multiples, module_times, same_sig}
use Rattle.nc_poly.proofs.Multiples.{negative_same}
use Rattle.nc_poly.specs.Ordered.{AreResiduesBy, Descends}
use Rattle.nc_sig.proofs.Equality.{sigs_decide}
use Rattle.nc_sig.specs.Orders.{sigs_order}
use Rattle.std.proofs.Common.{Bool, Equal, Greater, Less, List, Ordering, [], ap, ap₂, arith, inl, inr, length, refl, subst, sym, ℕ, ◌%◌, ◌*◌, ◌+◌, ◌++◌, ◌-◌, ◌<◌, ◌∙◌, ◌∷◌, ◌≡◌, ◌≤◌, ◌⊎◌}
use Rattle.std.proofs.Math.Nat.{add-mod, mod-eq_of_lt}
use Rattle.std.proofs.lemmas.Bool.{false≢true}
use Rattle.std.proofs.lemmas.List.{append-nil}
use Rattle.std.proofs.lemmas.List.Elements.{All-from_recursion, recursion_from_All}
use Rattle.std.proofs.lemmas.List.Sorted.{IsPermutation-append_comm}
use Rattle.std.proofs.lemmas.Nat.{mul-mod_first}
use Rattle.std.specs.List.{All, AllByRecursion}
use Rattle.std.specs.Ordering.{is_eq, ordering_reverse}

-- ---- the order on monomials with their degrees

pub sig_laws : KeyLaws same_sig (λ σ τ. compare_sigs σ τ ≡ Less)
sig_laws = record {
  same_eq = λ σ τ e. (sigs_decide σ τ).0 e;
  same_refl = λ σ. (sigs_decide σ σ).1 refl;
  irrefl = λ σ l. false≢true (sym (ap is_eq l) ∙ (sigs_decide σ σ).1 refl);
  trans = sigs_order.trans;
  total = λ σ τ. total σ τ (compare_sigs σ τ) refl;
}
  where
    total : (σ τ : Sig) (o : Ordering) → compare_sigs σ τ ≡ o → (compare_sigs σ τ ≡ Less)
        ⊎ ((σ ≡ τ) ⊎ (compare_sigs τ σ ≡ Less))
    total σ τ Less e = inl e
    total σ τ Equal e = inr (inl ((sigs_decide σ τ).0 (ap is_eq e)))
    total σ τ Greater e = inr (inr (sigs_order.antisymm τ σ ∙ ap ordering_reverse e))

-- ---- equal sums

-- without the degrees
pub same_elements : (p : ℕ) → 0 < p → (x y : List (Term Sig)) → SameSum same_sig p x y
    → SameSum same_monomial p (element_of x) (element_of y)
same_elements p some x y h = record {
  at = λ σ.
      ap (λ n. n % p) (linear_sum-map_keys (is_at same_monomial σ) monomial_of x)
      ∙ (linear_sum_same same_sig (λ σ τ. compare_sigs σ τ ≡ Less) sig_laws p
      (λ ρ. is_at same_monomial σ (monomial_of ρ)) x y some h
      ∙ ap (λ n. n % p) (sym (linear_sum-map_keys (is_at same_monomial σ) monomial_of y)));
}

-- multiplied from both sides
pub same_times : (p : ℕ) → 0 < p → (u : Word) (α β : Element) (v : Word)
    → SameSum same_monomial p α β → SameSum same_monomial p (element_times u α v)
    (element_times u β v)
same_times p some u α β v h = record {
  at = λ σ.
      ap (λ n. n % p) (linear_sum-map_keys (is_at same_monomial σ) (λ ρ. times u ρ v) α)
      ∙ (linear_sum_same same_monomial (IsMonomialLess (λ i. 0)) (monomial_laws (λ i. 0)) p
      (λ ρ. is_at same_monomial σ (times u ρ v)) α β some h
      ∙ ap (λ n. n % p) (sym (linear_sum-map_keys (is_at same_monomial σ) (λ ρ. times u ρ v) β)));
}

module _ {K : Type 0} (same : K → K → Bool) (p : ℕ) where
  pub same_scale : (c : ℕ) (f g : List (Term K)) → SameSum same p f g
      → SameSum same p (scale c f) (scale c g)
  same_scale c f g h = record { at = each }
    where
      turned : (k : K) (e : List (Term K))
          → coefficient_by same (scale c e) k % p ≡ (coefficient_by same e k % p * c) % p
      turned k e =
          ap (λ n. n % p) (linear_sum-scale (is_at same k) c e ∙ swap (coefficient_by same e k))
          ∙ sym (mul-mod_first (coefficient_by same e k) c p)
        where
          swap : (a : ℕ) → c * a ≡ a * c
          swap a = omega arith

      each : (k : K) → coefficient_by same (scale c f) k % p ≡ coefficient_by same (scale c g) k % p
      each k = turned k f ∙ (ap (λ n. (n * c) % p) (h.at k) ∙ sym (turned k g))

  pub same_minus : (c : ℕ) (f f' g g' : List (Term K)) → SameSum same p f f' → SameSum same p g g'
      → SameSum same p (minus p f c g) (minus p f' c g')
  same_minus c f f' g g' a b =
      same-append same p f f' (scale ((p - 1) * c) g) (scale ((p - 1) * c) g') a
      (same_scale ((p - 1) * c) g g' b)

  -- the multiple by the negative residue of c is what c times an element takes away
  same_negative : (c : ℕ) (f g : List (Term K)) → c < p
      → SameSum same p (scale ((p - c) % p) g ++ f) (minus p f c g)
  same_negative c f g small =
      same-trans same p (scale ((p - c) % p) g ++ f) (scale ((p - 1) * c) g ++ f) (minus p f c g)
      (same-append same p (scale ((p - c) % p) g) (scale ((p - 1) * c) g) f f (record { at = each })
      (same-refl same p f))
      (same-permutation same p (scale ((p - 1) * c) g ++ f) (minus p f c g)
      (IsPermutation-append_comm (scale ((p - 1) * c) g) f))
    where
      each : (k : K) → coefficient_by same (scale ((p - c) % p) g) k
          % p ≡ coefficient_by same (scale ((p - 1) * c) g) k % p
      each k =
          ap (λ n. n % p) (linear_sum-scale (is_at same k) ((p - c) % p) g)
          ∙ (ap (λ n. (n * coefficient_by same g k) % p) (negative_same p c small)
          ∙ (mul-mod_first ((p - 1) * c) (coefficient_by same g k) p
          ∙ ap (λ n. n % p) (sym (linear_sum-scale (is_at same k) ((p - 1) * c) g))))

-- ---- the elements

element_of-times : (u : Word) (m : List (Term Sig)) (v : Word)
    → element_of (module_times u m v) ≡ element_times u (element_of m) v
element_of-times u [] v = refl
element_of-times u (t ∷ m) v =
    ap (λ (l : Element). record { coefficient = t.coefficient; key = times u (monomial_of t.key) v }
    ∷ l) (element_of-times u m v)

element_of-append : (x y : List (Term Sig)) → element_of (x ++ y) ≡ element_of x ++ element_of y
element_of-append [] y = refl
element_of-append (t ∷ x) y =
    ap (λ (l : Element). record { coefficient = t.coefficient; key = monomial_of t.key } ∷ l)
    (element_of-append x y)

element_of-scale : (c : ℕ) (x : List (Term Sig)) → element_of (scale c x) ≡ scale c (element_of x)
element_of-scale c [] = refl
element_of-scale c (t ∷ x) =
    ap (λ (l : Element). record { coefficient = c * t.coefficient; key = monomial_of t.key } ∷ l)
    (element_of-scale c x)

-- residues times 1
once : (p : ℕ) (u : Word) (m : List (Term Sig)) (v : Word)
    → AllByRecursion (λ t. t.coefficient < p) m → module_multiples p 1 u m v ≡ module_times u m v
once p u [] v a = refl
once p u (t ∷ m) v a =
    ap₂ (λ (n : ℕ) (l : List (Term Sig)). record { coefficient = n; key = sig_times u t.key v } ∷ l)
    (ap (λ n. n % p) (unit t.coefficient) ∙ mod-eq_of_lt a.0) (once p u m v a.1)
  where
    unit : (n : ℕ) → 1 * n ≡ n
    unit n = omega arith

-- c times each term, with residues or without
same_multiples : (p c : ℕ) (u : Word) (m : List (Term Sig)) (v : Word)
    → SameSum same_sig p (module_multiples p c u m v) (scale c (module_times u m v))
same_multiples p c u m v = record { at = λ k. each k m }
  where
    each : (k : Sig) (m : List (Term Sig)) → coefficient_by same_sig (module_multiples p c u m v) k
        % p ≡ coefficient_by same_sig (scale c (module_times u m v)) k % p
    each k [] = refl
    each k (t ∷ m) =
        add-mod (((c * t.coefficient) % p) * is_at same_sig k (sig_times u t.key v))
        (coefficient_by same_sig (module_multiples p c u m v) k) p
        ∙ (ap₂ (λ x y. (x + y) % p) (mul-mod_first (c * t.coefficient)
        (is_at same_sig k (sig_times u t.key v)) p) (each k m)
        ∙ sym (add-mod ((c * t.coefficient) * is_at same_sig k (sig_times u t.key v))
        (coefficient_by same_sig (scale c (module_times u m v)) k) p))

-- ---- degrees

module _ (s : Setting) where
  times_degree : (u : Word) (σ : Sig) (v : Word) → HasDegree s σ → HasDegree s (sig_times u σ v)
  times_degree u σ v h =
      let d : σ.degree ≡ degree_of (generator_weight s) (monomial_of σ) = ap (λ ρ. ρ.degree) h in
      let e : word_weight u + σ.degree + word_weight v ≡ degree_of (generator_weight s)
      (times u (monomial_of σ) v) =
      omega (arith, d, weight-append u σ.left, weight-append σ.right v) in
      λ i. record {
        degree = e i;
        generator = σ.generator;
        left = u ++ σ.left;
        right = σ.right ++ v;
      }

  moved_degrees : (k : ℕ) (u : Word) (m : List (Term Sig)) (v : Word)
      → AllByRecursion (λ t. HasDegree s t.key) m
      → AllByRecursion (λ t. HasDegree s t.key) (module_multiples s.prime k u m v)
  moved_degrees k u [] v a = tt
  moved_degrees k u (t ∷ m) v a = (times_degree u t.key v a.0, moved_degrees k u m v a.1)

  joined_degrees : (x y : List (Term Sig)) → AllByRecursion (λ t. HasDegree s t.key) x
      → AllByRecursion (λ t. HasDegree s t.key) y → AllByRecursion (λ t. HasDegree s t.key) (x ++ y)
  joined_degrees [] y a b = b
  joined_degrees (t ∷ x) y a b = (a.0, joined_degrees x y a.1 b)

  pub addable_left : (u : Word) (m : List (Term Sig)) (v : Word) → IsAddable s u m v
      → All (λ t. length u + length t.key.left ≤ 200000) m
  addable_left u m v h =
      short (recursion_from_All (λ (t : Term Sig). HasDegree s t.key) m h.degrees)
      (recursion_from_All (λ (t : Term Sig). word_weight u + t.key.degree + word_weight v ≤ 100000)
      m h.light)
    where
      each : (l : List (Term Sig)) → AllByRecursion (λ t. HasDegree s t.key) l
          → AllByRecursion (λ t. word_weight u + t.key.degree + word_weight v ≤ 100000) l
          → AllByRecursion (λ t. length u + length t.key.left ≤ 200000) l
      each [] a b = tt
      each (t ∷ l) a b = (
        omega (arith, ap (λ ρ. ρ.degree) a.0, b.0, length_at_most u, length_at_most t.key.left),
        each l a.1 b.1,
      )

      short : AllByRecursion (λ t. HasDegree s t.key) m
          → AllByRecursion (λ t. word_weight u + t.key.degree + word_weight v ≤ 100000) m
          → All (λ t. length u + length t.key.left ≤ 200000) m
      short a b =
          All-from_recursion (λ (t : Term Sig). length u + length t.key.left ≤ 200000) m
          (each m a b)

  pub addable_right : (u : Word) (m : List (Term Sig)) (v : Word) → IsAddable s u m v
      → All (λ t. length t.key.right + length v ≤ 200000) m
  addable_right u m v h =
      short (recursion_from_All (λ (t : Term Sig). HasDegree s t.key) m h.degrees)
      (recursion_from_All (λ (t : Term Sig). word_weight u + t.key.degree + word_weight v ≤ 100000)
      m h.light)
    where
      each : (l : List (Term Sig)) → AllByRecursion (λ t. HasDegree s t.key) l
          → AllByRecursion (λ t. word_weight u + t.key.degree + word_weight v ≤ 100000) l
          → AllByRecursion (λ t. length t.key.right + length v ≤ 200000) l
      each [] a b = tt
      each (t ∷ l) a b = (
        omega (arith, ap (λ ρ. ρ.degree) a.0, b.0, length_at_most v, length_at_most t.key.right),
        each l a.1 b.1,
      )

      short : AllByRecursion (λ t. HasDegree s t.key) m
          → AllByRecursion (λ t. word_weight u + t.key.degree + word_weight v ≤ 100000) m
          → All (λ t. length t.key.right + length v ≤ 200000) m
      short a b =
          All-from_recursion (λ (t : Term Sig). length t.key.right + length v ≤ 200000) m
          (each m a b)

  -- a descending list that is the same sum as one with right degrees
  is_sum : (src new : List (Term Sig)) (α : Element) → AllByRecursion (λ t. HasDegree s t.key) src
      → SameSum same_sig s.prime new src → Descends compare_sigs new → AreResiduesBy s.prime new
      → SameSum same_monomial s.prime (element_of new) α → IsSum s α new
  is_sum src new α a e d residues same = record {
    same = same;
    descends = d;
    residues = residues;
    degrees =
        All-from_recursion (λ (t : Term Sig). HasDegree s t.key) new
        (keys_kept compare_sigs sig_laws (HasDegree s) s.prime src new a e d
        (recursion_from_All (λ (t : Term Sig). t.coefficient < s.prime) new residues));
  }

  -- the multiple of an element, where nothing was there
  pub sum_begins : (α : Element) (u : Word) (m : List (Term Sig)) (v : Word) (new : List (Term Sig))
      → 0 < s.prime → IsAddable s u m v → SameSum same_monomial s.prime (element_of m) α
      → SameSum same_sig s.prime new (module_multiples s.prime 1 u m v ++ [])
      → Descends compare_sigs new → AreResiduesBy s.prime new → IsSum s (element_times u α v) new
  sum_begins α u m v new some addable is e d residues =
      let whole : module_multiples s.prime 1 u m v ++ [] ≡ module_times u m v =
      append-nil (module_multiples s.prime 1 u m v)
      ∙ once s.prime u m v (recursion_from_All (λ (t : Term Sig). t.coefficient < s.prime) m
      addable.residues) in
      is_sum (module_multiples s.prime 1 u m v ++ []) new (element_times u α v)
      (joined_degrees (module_multiples s.prime 1 u m v) []
      (moved_degrees 1 u m v (recursion_from_All (λ (t : Term Sig). HasDegree s t.key) m
      addable.degrees)) tt)
      e d residues
      (same-trans same_monomial s.prime (element_of new) (element_times u (element_of m) v)
      (element_times u α v)
      (subst (λ (l : Element). SameSum same_monomial s.prime (element_of new) l)
      (ap element_of whole ∙ element_of-times u m v)
      (same_elements s.prime some new (module_multiples s.prime 1 u m v ++ []) e))
      (same_times s.prime some u (element_of m) α v is))

  -- one multiple more
  pub sum_adds : (α β : Element) (c : ℕ) (u : Word) (m : List (Term Sig)) (v : Word)
      (old new : List (Term Sig)) → 0 < s.prime → IsAddable s u m v
      → SameSum same_monomial s.prime (element_of m) β
      → SameSum same_sig s.prime new (module_multiples s.prime c u m v ++ old)
      → Descends compare_sigs new → AreResiduesBy s.prime new → IsSum s α old
      → IsSum s (scale c (element_times u β v) ++ α) new
  sum_adds α β c u m v old new some addable is e d residues h =
      let turned : SameSum same_sig s.prime new (scale c (module_times u m v) ++ old) =
      same-trans same_sig s.prime new (module_multiples s.prime c u m v ++ old)
      (scale c (module_times u m v) ++ old) e
      (same-append same_sig s.prime (module_multiples s.prime c u m v)
      (scale c (module_times u m v)) old old (same_multiples s.prime c u m v)
      (same-refl same_sig s.prime old)) in
      let whole : element_of (scale c (module_times u m v) ++ old) ≡ scale c
      (element_times u (element_of m) v) ++ element_of old =
      element_of-append (scale c (module_times u m v)) old
      ∙ ap (λ (l : Element). l ++ element_of old) (element_of-scale c (module_times u m v)
      ∙ ap (scale c) (element_of-times u m v)) in
      is_sum (module_multiples s.prime c u m v ++ old) new (scale c (element_times u β v) ++ α)
      (joined_degrees (module_multiples s.prime c u m v) old
      (moved_degrees c u m v (recursion_from_All (λ (t : Term Sig). HasDegree s t.key) m
      addable.degrees)) (recursion_from_All (λ (t : Term Sig). HasDegree s t.key) old
      h.degrees))
      e d residues
      (same-trans same_monomial s.prime (element_of new)
      (scale c (element_times u (element_of m) v) ++ element_of old)
      (scale c (element_times u β v) ++ α)
      (subst (λ (l : Element). SameSum same_monomial s.prime (element_of new) l) whole
      (same_elements s.prime some new (scale c (module_times u m v) ++ old) turned))
      (same-append same_monomial s.prime (scale c (element_times u (element_of m) v))
      (scale c (element_times u β v)) (element_of old) α
      (same_scale same_monomial s.prime c (element_times u (element_of m) v) (element_times u β v)
      (same_times s.prime some u (element_of m) β v is)) h.same))

  -- one multiple less
  pub sum_less : (α β : Element) (c k p : ℕ) (m : List (Term Sig)) → c < s.prime → p ≡ s.prime
      → k ≡ (p - c) % p → IsSum s (scale k β ++ α) m → IsSum s (minus s.prime α c β) m
  sum_less α β c k p m small prime negative h = record {
    same =
        same-trans same_monomial s.prime (element_of m) (scale k β ++ α) (minus s.prime α c β)
        h.same
        (subst (λ n. SameSum same_monomial s.prime (scale n β ++ α) (minus s.prime α c β))
        (sym (negative ∙ ap (λ n. (n - c) % n) prime))
        (same_negative same_monomial s.prime c α β small));
    descends = h.descends;
    residues = h.residues;
    degrees = h.degrees;
  }

  -- no terms
  pub no_sum : (m : List (Term Sig)) → m ≡ [] → IsSum s [] m
  no_sum m none = subst (IsSum s []) (sym none) (record {
    same = same-refl same_monomial s.prime [];
    descends = tt;
    residues = All-from_recursion (λ (t : Term Sig). t.coefficient < s.prime) [] tt;
    degrees = All-from_recursion (λ (t : Term Sig). HasDegree s t.key) [] tt;
  })

  -- the same terms, listed anew
  pub sum_ends : (α : Element) (old new : List (Term Sig)) → 0 < s.prime
      → SameSum same_sig s.prime new old → Descends compare_sigs new → AreResiduesBy s.prime new
      → IsSum s α old → IsSum s α new
  sum_ends α old new some e d residues h =
      is_sum old new α (recursion_from_All (λ (t : Term Sig). HasDegree s t.key) old h.degrees) e d
      residues
      (same-trans same_monomial s.prime (element_of new) (element_of old) α
      (same_elements s.prime some new old e) h.same)
