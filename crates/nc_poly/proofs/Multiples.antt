-- Multiples that code lists are those of the definitions.
-- To subtract c u g v, code appends the terms of u g v times the negative residue of c, which
-- counts as p - 1 times c (`negative_same`). For keys of any kind the longer list is the difference
-- as a sum (`same_moved`); `same_subtracted` is the case of words. `same_subtracted_from` starts
-- from any list with the same sum, so an accumulator may collect at any time.
use Rattle.nc_algebra.proofs.Lists.{same-append, same-refl, same-trans}
use Rattle.nc_algebra.proofs.NormalForms.{normal_form_equal}
use Rattle.nc_algebra.proofs.Sums.{linear_sum-append, linear_sum-scale}
use Rattle.nc_algebra.specs.Polynomials.{AreResidues, Polynomial, normal_form, polynomial_times}
use Rattle.nc_algebra.specs.Sums.{SameSum, Term, coefficient_by, is_at, map_keys, minus, scale}
use Rattle.nc_algebra.specs.Words.{Word, same_word}
use Rattle.nc_poly.specs.Multiples.{moved_by, multiples_of}
use Rattle.nc_poly.specs.Ordered.{AreResiduesBy}
use Rattle.std.proofs.Common.{Bool, List, [], ap, ap₂, arith, subst, sym, ℕ, ◌%◌, ◌*◌, ◌+◌, ◌++◌, ◌-◌, ◌<◌, ◌∙◌, ◌∷◌, ◌≡◌}
use Rattle.std.proofs.Math.Nat.{add-mod, add-mul-mod_self_left, mod-lt}
use Rattle.std.proofs.lemmas.List.Elements.{All-from_recursion}
use Rattle.std.proofs.lemmas.Nat.{mul-mod_first}
use Rattle.std.specs.List.{AllByRecursion}

module _ {K : Type 0} (same : K → K → Bool) (p c : ℕ) (φ : K → K) where
  -- what the multiples add to a coefficient
  moved_at : (g : List (Term K)) (x : K)
      → coefficient_by same (moved_by p c φ g) x % p ≡ (c * coefficient_by same (map_keys φ g) x)
      % p
  moved_at [] x = ap (λ n. n % p) (omega arith)
  moved_at (t ∷ g) x =
      let a = is_at same x (φ t.key) in
      add-mod (((c * t.coefficient) % p) * is_at same x (φ t.key))
      (coefficient_by same (moved_by p c φ g) x) p
      ∙ (ap₂ (λ m n. (m + n) % p) (mul-mod_first (c * t.coefficient) (is_at same x (φ t.key)) p)
      (moved_at g x)
      ∙ (sym (add-mod ((c * t.coefficient) * is_at same x (φ t.key))
      (c * coefficient_by same (map_keys φ g) x) p) ∙ ap (λ n. n % p) (omega arith)))

  moved_residues : (g : List (Term K)) → 0 < p
      → AllByRecursion (λ t. t.coefficient < p) (moved_by p c φ g)
  moved_residues [] some = tt
  moved_residues (t ∷ g) some = (mod-lt (c * t.coefficient) some, moved_residues g some)

  pub moved_are_residues : (g : List (Term K)) → 0 < p → AreResiduesBy p (moved_by p c φ g)
  moved_are_residues g some =
      All-from_recursion (λ t. t.coefficient < p) (moved_by p c φ g) (moved_residues g some)

pub multiples_are_residues : (p c : ℕ) (u v : Word) (g : Polynomial) → 0 < p
    → AreResidues p (multiples_of p c u g v)
multiples_are_residues p c u v g some = moved_are_residues same_word p c (λ w. u ++ (w ++ v)) g some

-- the negative of a residue counts as p - 1 times it
pub negative_same : (p c : ℕ) → c < p → (p - c) % p ≡ ((p - 1) * c) % p
negative_same p c small =
    sym (add-mul-mod_self_left (p - c) p c)
    ∙ (ap (λ n. n % p) (form (p - 1) (omega arith)) ∙ add-mul-mod_self_left ((p - 1) * c) p 1)
  where
    form : (q : ℕ) → p ≡ q + 1 → (p - c) + p * c ≡ q * c + p * 1
    form q e = omega (arith, ap (λ n. n * c) e)

-- adding the multiples by the negative residue subtracts c times those with moved keys
pub same_moved : {K : Type 0} (same : K → K → Bool) (p c : ℕ) (φ : K → K) (old g : List (Term K))
    → c < p → SameSum same p (old ++ moved_by p ((p - c) % p) φ g) (minus p old c (map_keys φ g))
same_moved {K} same p c φ old g small = record { at = each }
  where
    sums : (x : K) → coefficient_by same (moved_by p ((p - c) % p) φ g) x
        % p ≡ ((p - 1) * c * coefficient_by same (map_keys φ g) x) % p
    sums x =
        moved_at same p ((p - c) % p) φ g x
        ∙ (ap (λ n. (n * coefficient_by same (map_keys φ g) x) % p) (negative_same p c small)
        ∙ mul-mod_first ((p - 1) * c) (coefficient_by same (map_keys φ g) x) p)

    each : (x : K) → coefficient_by same (old ++ moved_by p ((p - c) % p) φ g) x
        % p ≡ coefficient_by same (minus p old c (map_keys φ g)) x % p
    each x =
        ap (λ n. n % p) (linear_sum-append (is_at same x) old (moved_by p ((p - c) % p) φ g))
        ∙ (add-mod (coefficient_by same old x)
        (coefficient_by same (moved_by p ((p - c) % p) φ g) x) p
        ∙ (ap (λ n. (coefficient_by same old x % p + n) % p) (sums x)
        ∙ (sym (add-mod (coefficient_by same old x)
        ((p - 1) * c * coefficient_by same (map_keys φ g) x) p)
        ∙ ap (λ n. n % p) (sym (linear_sum-append (is_at same x) old
        (scale ((p - 1) * c) (map_keys φ g)) ∙ ap (λ n. coefficient_by same old x + n)
        (linear_sum-scale (is_at same x) ((p - 1) * c) (map_keys φ g)))))))

-- for polynomials: it subtracts c u g v
pub same_subtracted : (p c : ℕ) (u v : Word) (old g : Polynomial) → c < p
    → SameSum same_word p (old ++ multiples_of p ((p - c) % p) u g v)
    (minus p old c (polynomial_times u g v))
same_subtracted p c u v old g small = same_moved same_word p c (λ w. u ++ (w ++ v)) old g small

pub subtracted : (p c : ℕ) (u v : Word) (old g : Polynomial) → c < p
    → normal_form p (old ++ multiples_of p ((p - c) % p) u g v) ≡ normal_form p
    (minus p old c (polynomial_times u g v))
subtracted p c u v old g small =
    normal_form_equal p (old ++ multiples_of p ((p - c) % p) u g v)
    (minus p old c (polynomial_times u g v)) (omega arith) (same_subtracted p c u v old g small)

-- the same from a list that only has the same sum
pub same_subtracted_from : (p c : ℕ) (u v : Word) (old kept items g : Polynomial) → c < p
    → SameSum same_word p kept old → items ≡ kept ++ multiples_of p ((p - c) % p) u g v
    → SameSum same_word p items (minus p old c (polynomial_times u g v))
same_subtracted_from p c u v old kept items g small same is =
    subst (λ (l : Polynomial). SameSum same_word p l (minus p old c (polynomial_times u g v)))
    (sym is)
    (same-trans same_word p (kept ++ multiples_of p ((p - c) % p) u g v)
    (old ++ multiples_of p ((p - c) % p) u g v) (minus p old c (polynomial_times u g v))
    (same-append same_word p kept old (multiples_of p ((p - c) % p) u g v)
    (multiples_of p ((p - c) % p) u g v) same
    (same-refl same_word p (multiples_of p ((p - c) % p) u g v)))
    (same_subtracted p c u v old g small))
