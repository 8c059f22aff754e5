-- How many terms an element has: as many as its normal form lists.
-- A normal form lists each monomial with a coefficient once (`has_terms`), and lists without
-- repetition of the same monomials are equally long, so the number is unique (`terms_once`).
use Rattle.nc_algebra.proofs.Finite.{among_contains, contains_among}
use Rattle.nc_algebra.proofs.Lists.{same-sym, same-trans}
use Rattle.nc_algebra.proofs.Monomials.{monomial_laws}
use Rattle.nc_algebra.proofs.Sums.{at_other, at_self, key_dec, zero_by_same, zero_number}
use Rattle.nc_algebra.specs.Elements.{Element, HasDegree, IsLess, Setting, generator_weight}
use Rattle.nc_algebra.specs.Lists.{Among, IsDistinct}
use Rattle.nc_algebra.specs.Monomials.{Monomial, Sig, compare_sigs, monomial_of, same_monomial, sig_of}
use Rattle.nc_algebra.specs.Primes.{IsZero}
use Rattle.nc_algebra.specs.Sums.{SameSum, Term, coefficient_by, is_at}
use Rattle.nc_cofactor.proofs.Counts.{at_most}
use Rattle.nc_cofactor.proofs.Keys.{all_among, listed_nonzero, one_list}
use Rattle.nc_cofactor.proofs.Sums.{sig_laws}
use Rattle.nc_cofactor.specs.Sums.{IsSum}
use Rattle.nc_cofactor.specs.Terms.{HasTerms}
use Rattle.nc_module.specs.Modules.{element_of, same_sig}
use Rattle.nc_poly.specs.Ordered.{AllBelow, Descends}
use Rattle.std.proofs.Common.{Less, List, [], ap, ap₂, arith, inl, inr, length, map, refl, subst, sym, ℕ, ◌%◌, ◌*◌, ◌+◌, ◌<◌, ◌∙◌, ◌∷◌, ◌≡◌, ◌≢◌, ◌⊎◌}
use Rattle.std.proofs.lemmas.List.{length-map}
use Rattle.std.proofs.lemmas.List.Elements.{recursion_from_All}
use Rattle.std.specs.List.{AllByRecursion}

-- an element has one number of terms
pub terms_once : (p : ℕ) (α : Element) (n m : ℕ) → HasTerms p α n → HasTerms p α m → n ≡ m
terms_once p α n m a b =
    omega (
      arith,
      a.count,
      b.count,
      at_most a.monomials b.monomials a.distinct
          (λ x k. contains_among x b.monomials
          ((b.exact x).1 ((a.exact x).0 (among_contains x a.monomials k)))),
      at_most b.monomials a.monomials b.distinct
          (λ x k. contains_among x a.monomials
          ((a.exact x).1 ((b.exact x).0 (among_contains x b.monomials k)))),
    )

module _ (s : Setting) where
  -- a monomial with its right degree is known by itself
  by_monomial : (σ τ : Sig) → HasDegree s σ → HasDegree s τ → monomial_of σ ≡ monomial_of τ → σ ≡ τ
  by_monomial σ τ a b e = a ∙ (ap (sig_of (generator_weight s)) e ∙ sym b)

  -- the monomials that are listed
  abbrev monomials : List (Term Sig) → List Monomial
  monomials m = map (λ t. monomial_of t.key) m

  same_at : (k x : Sig) → HasDegree s k → HasDegree s x
      → is_at same_monomial (monomial_of k) (monomial_of x) ≡ is_at same_sig k x
  same_at k x a b = go (key_dec same_sig (λ σ τ. compare_sigs σ τ ≡ Less) sig_laws k x)
    where
      go : (k ≡ x) ⊎ (k ≢ x) → is_at same_monomial (monomial_of k) (monomial_of x) ≡ is_at same_sig
          k x
      go (inl e) =
          subst (λ (y : Sig). is_at same_monomial (monomial_of k) (monomial_of y) ≡ is_at same_sig k
          y) e (at_self same_monomial (IsLess s) (monomial_laws (generator_weight s))
          (monomial_of k) ∙ sym (at_self same_sig (λ σ τ. compare_sigs σ τ ≡ Less) sig_laws k))
      go (inr n) =
          at_other same_monomial (IsLess s) (monomial_laws (generator_weight s)) (monomial_of k)
          (monomial_of x) (λ e. n (by_monomial k x a b e))
          ∙ sym (at_other same_sig (λ σ τ. compare_sigs σ τ ≡ Less) sig_laws k x n)

  -- the coefficient, with or without degrees
  coefficient_at : (k : Sig) → HasDegree s k → (m : List (Term Sig))
      → AllByRecursion (λ t. HasDegree s t.key) m
      → coefficient_by same_monomial (element_of m) (monomial_of k) ≡ coefficient_by same_sig m k
  coefficient_at k a [] b = refl
  coefficient_at k a (t ∷ m) b =
      ap₂ (λ x y. t.coefficient * x + y) (same_at k t.key a b.0) (coefficient_at k a m b.1)

  apart : (k : Sig) → HasDegree s k → (m : List (Term Sig))
      → AllByRecursion (λ t. HasDegree s t.key) m → AllBelow compare_sigs k m
      → ¬ Among (monomial_of k) (monomials m)
  apart k h [] a b e = e
  apart k h (x ∷ m) a b (inl e) =
      sig_laws.irrefl k (subst (λ (y : Sig). compare_sigs y k ≡ Less)
      (by_monomial x.key k a.0 h (sym e)) b.0)
  apart k h (x ∷ m) a b (inr e) = apart k h m a.1 b.1 e

  distinct : (m : List (Term Sig)) → AllByRecursion (λ t. HasDegree s t.key) m
      → Descends compare_sigs m → IsDistinct (monomials m)
  distinct [] a d = tt
  distinct (t ∷ m) a d = (apart t.key a.0 m a.1 d.1, distinct m a.1 d.2)

  listed : (m : List (Term Sig)) (σ : Monomial) → Among σ (monomials m) → (t : Term Sig) × Among t m
      × (σ ≡ monomial_of t.key)
  listed [] σ h = absurd h
  listed (t ∷ m) σ (inl e) = (t, inl refl, e)
  listed (t ∷ m) σ (inr h) =
      let r : (t : Term Sig) × Among t m × (σ ≡ monomial_of t.key) =
      listed m σ h in (r.0, inr r.1, r.2)

  there : (m : List (Term Sig)) (σ : Monomial)
      → ¬ IsZero s.prime (coefficient_by same_monomial (element_of m) σ) → Among σ (monomials m)
  there [] σ n = absurd (n (zero_number s.prime))
  there (t ∷ m) σ n =
      go (there m σ) (key_dec same_monomial (IsLess s) (monomial_laws (generator_weight s)) σ
      (monomial_of t.key))
    where
      go : (¬ IsZero s.prime (coefficient_by same_monomial (element_of m) σ)
          → Among σ (monomials m)) → (σ ≡ monomial_of t.key) ⊎ (σ ≢ monomial_of t.key)
          → Among σ (monomials (t ∷ m))
      go rest (inl e) = inl e
      go rest (inr d) =
          inr (rest (λ z. n (subst (IsZero s.prime)
          (omega (
            arith,
            ap (λ n. t.coefficient * n)
                (at_other same_monomial (IsLess s) (monomial_laws (generator_weight s)) σ
                (monomial_of t.key) d),
          )) z)))

  -- each listed monomial has a coefficient other than 0
  pub listed_counts : (α : Element) (m : List (Term Sig)) → IsSum s α m → (t : Term Sig) → Among t m
      → ¬ IsZero s.prime (coefficient_by same_monomial α (monomial_of t.key))
  listed_counts α m h t k z =
      let a : AllByRecursion (λ (t : Term Sig). HasDegree s t.key) m =
      recursion_from_All (λ (t : Term Sig). HasDegree s t.key) m h.degrees in
      listed_nonzero compare_sigs sig_laws s.prime m h.descends
      (recursion_from_All (λ (t : Term Sig). t.coefficient < s.prime) m h.residues) t k
      (subst (IsZero s.prime) (coefficient_at t.key
      (all_among (λ (t : Term Sig). HasDegree s t.key) m a t k) m a)
      (zero_by_same s.prime (coefficient_by same_monomial (element_of m) (monomial_of t.key))
      (coefficient_by same_monomial α (monomial_of t.key)) (h.same.at (monomial_of t.key))
      z))

  pub has_terms : (α : Element) (m : List (Term Sig)) → IsSum s α m → HasTerms s.prime α (length m)
  has_terms α m h =
      let a : AllByRecursion (λ (t : Term Sig). HasDegree s t.key) m =
      recursion_from_All (λ (t : Term Sig). HasDegree s t.key) m h.degrees in
      record {
        monomials = monomials m;
        distinct = distinct m a h.descends;
        exact = λ σ. (
          (λ c. let r : (t : Term Sig) × Among t m
              × (σ ≡ monomial_of t.key) = listed m σ (contains_among σ (monomials m) c) in
              subst (λ ρ. ¬ IsZero s.prime (coefficient_by same_monomial α ρ)) (sym r.2)
              (listed_counts α m h r.0 r.1)),
          (λ n. among_contains σ (monomials m)
              (there m σ (λ z. n (zero_by_same s.prime (coefficient_by same_monomial α σ)
              (coefficient_by same_monomial (element_of m) σ) (sym (h.same.at σ)) z)))),
        );
        count = length-map m (λ t. monomial_of t.key);
      }

  -- ---- one normal form

  no_degree : (k : Sig) → ¬ HasDegree s k → (m : List (Term Sig))
      → AllByRecursion (λ t. HasDegree s t.key) m → coefficient_by same_sig m k ≡ 0
  no_degree k n [] a = refl
  no_degree k n (t ∷ m) a =
      let other : is_at same_sig k t.key ≡ 0 =
      at_other same_sig (λ σ τ. compare_sigs σ τ ≡ Less) sig_laws k t.key
      (λ e. n (subst (HasDegree s) (sym e) a.0)) in
      omega (arith, ap (λ i. t.coefficient * i) other, no_degree k n m a.1)

  -- equal elements are equal sums with their degrees
  pub same_sigs : (m m' : List (Term Sig)) → AllByRecursion (λ t. HasDegree s t.key) m
      → AllByRecursion (λ t. HasDegree s t.key) m'
      → SameSum same_monomial s.prime (element_of m) (element_of m') → SameSum same_sig s.prime m m'
  same_sigs m m' a b e =
      record {
        at = λ k. go k (key_dec same_sig (λ σ τ. compare_sigs σ τ ≡ Less) sig_laws k
            (sig_of (generator_weight s) (monomial_of k)));
      }
    where
      go : (k : Sig) → HasDegree s k ⊎ ¬ HasDegree s k
          → coefficient_by same_sig m k % s.prime ≡ coefficient_by same_sig m' k % s.prime
      go k (inl h) =
          ap (λ n. n % s.prime) (sym (coefficient_at k h m a))
          ∙ (e.at (monomial_of k) ∙ ap (λ n. n % s.prime) (coefficient_at k h m' b))
      go k (inr n) = ap (λ n. n % s.prime) (no_degree k n m a ∙ sym (no_degree k n m' b))

  -- an element has one normal form
  pub sum_once : (α : Element) (m m' : List (Term Sig)) → IsSum s α m → IsSum s α m' → m ≡ m'
  sum_once α m m' h h' =
      one_list compare_sigs sig_laws s.prime m m'
      h.descends (recursion_from_All (λ (t : Term Sig). t.coefficient < s.prime) m h.residues)
      h'.descends (recursion_from_All (λ (t : Term Sig). t.coefficient < s.prime) m' h'.residues)
      (same_sigs m m' (recursion_from_All (λ (t : Term Sig). HasDegree s t.key) m h.degrees)
      (recursion_from_All (λ (t : Term Sig). HasDegree s t.key) m' h'.degrees)
      (same-trans same_monomial s.prime (element_of m) α (element_of m') h.same
      (same-sym same_monomial s.prime (element_of m') α h'.same)))
