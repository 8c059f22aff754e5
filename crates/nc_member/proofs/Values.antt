-- The values of an entry's line and of the claim's line.
-- Where the lines that they name have the values of their entries, an entry's line has the
-- polynomial of the entry as its value (`trace_value`), and the claim's line has what was
-- subtracted (`claim_value`). The steps of a trace stand in its line with negated coefficients.
use Rattle.nc_algebra.proofs.Elements.{same_times}
use Rattle.nc_algebra.proofs.Sums.{linear_sum-append, linear_sum-ext, linear_sum-map_keys, linear_sum-scale, zero_add, zero_mul, zero_number}
use Rattle.nc_algebra.specs.Certificates.{Line, Part, factor_value, item, line_value, part_value}
use Rattle.nc_algebra.specs.Elements.{IsLess, SamePolynomial, Setting, generator}
use Rattle.nc_algebra.specs.Monomials.{Monomial}
use Rattle.nc_algebra.specs.Polynomials.{Polynomial, coefficient, polynomial_times}
use Rattle.nc_algebra.specs.Primes.{IsZero}
use Rattle.nc_algebra.specs.Sums.{is_at}
use Rattle.nc_algebra.specs.Words.{Word, same_word}
use Rattle.nc_member.specs.Lines.{line_of_claim, line_of, start_part, step_part, trace_line}
use Rattle.nc_theory.proofs.Chains.{coefficient_polynomial_minus, sum_mod}
use Rattle.nc_theory.proofs.Closure.{put_back}
use Rattle.nc_theory.specs.Divisors.{multiple_at, number_of}
use Rattle.nc_theory.specs.Reductions.{Reduction, ReductionAt}
use Rattle.nc_theory.specs.Runs.{Starts}
use Rattle.nc_theory.specs.States.{Entry, Start, Step}
use Rattle.std.proofs.Common.{Contains, List, Some, [], ap, ap₂, append-nil, arith, map, refl, subst, sym, ℕ, ◌%◌, ◌*◌, ◌+◌, ◌++◌, ◌-◌, ◌<◌, ◌∙◌, ◌∷◌, ◌≡◌}
use Rattle.std.proofs.Math.Nat.{mod_self}
use Rattle.std.proofs.lemmas.Nat.{mul-mod_first}
use Rattle.std.specs.List.{AllByRecursion, slice_get}

-- the line of entry j has the value of that entry
pub record IsValued (s : Setting) (entries : List Entry) (needed : List ℕ)
    (values : List Polynomial) (j : ℕ) : Type 0 where
  pub same : (e : Entry) → slice_get entries (j - 1) ≡ Some e
      → SamePolynomial s (item [] values (line_of needed j)) e.polynomial

-- so for what a trace begins with
abbrev pub IsStartValued : Setting → List Entry → List ℕ → List Polynomial → Start → Type 0
IsStartValued s entries needed values (Start.a_generator i) = Unit {0}
IsStartValued s entries needed values (Start.a_multiple u j v) = IsValued s entries needed values j

-- a number and its negative modulo p, times m
cancelled : (p c m : ℕ) → c < p → IsZero p ((p - c) % p * m + c * m)
cancelled p c m small =
    sum_mod p ((p - c) % p * m) ((p - c) * m) (c * m) (c * m) (mul-mod_first (p - c) m p) refl
    ∙ (ap (λ n. n % p) (whole (p - c) (omega (arith, small))) ∙ zero_mul p p m (mod_self p))
  where
    whole : (q : ℕ) → p ≡ q + c → q * m + c * m ≡ p * m
    whole q e = omega (arith, ap (λ n. n * m) e)

module _ (s : Setting) (positive : 0 < s.prime) (entries : List Entry) (needed : List ℕ)
    (values : List Polynomial) where
  -- the steps with negated coefficients
  abbrev against : List Step → Line
  against steps = map (λ step. step_part needed ((s.prime - step.coefficient) % s.prime) step) steps

  -- a multiple of a line's value
  multiple_value : (u : Word) (j : ℕ) (v : Word) (e : Entry) → slice_get entries (j - 1) ≡ Some e
      → IsValued s entries needed values j → (y : Word)
      → coefficient (polynomial_times u (item [] values (line_of needed j)) v) y % s.prime
      ≡ coefficient (polynomial_times u e.polynomial v) y % s.prime
  multiple_value u j v e at h y =
      (same_times s u (item [] values (line_of needed j)) e.polynomial v positive (h.same e at)).at
      y

  -- one part more
  more_value : (part : Part) (line : Line) (y : Word)
      → coefficient (line_value s values (part ∷ line)) y ≡ part.coefficient
      * coefficient (polynomial_times part.left (factor_value s values part.of) part.right) y
      + coefficient (line_value s values line) y
  unfolding line_value
  more_value part line y =
      linear_sum-append (is_at same_word y) (part_value s values part) (line_value s values line)
      ∙ ap (λ n. n + coefficient (line_value s values line) y)
      (linear_sum-scale (is_at same_word y) part.coefficient
      (polynomial_times part.left (factor_value s values part.of) part.right))

  pub no_value : (y : Word) → coefficient (line_value s values []) y ≡ 0
  unfolding line_value
  no_value y = refl

  -- the negated multiples cancel the multiples
  cancels : (steps : List Step) → AllByRecursion (λ step. step.coefficient < s.prime) steps
      → (y : Word) → IsZero s.prime (coefficient (line_value s values (against steps)) y
      + coefficient (line_value s values (line_of_claim needed steps)) y)
  cancels [] a y =
      subst (IsZero s.prime) (sym (ap₂ (λ m n. m + n) (no_value y) (no_value y)))
      (zero_number s.prime)
  cancels (t ∷ steps) a y =
      subst (IsZero s.prime) (sym (ap₂ (λ k l. k + l)
      (more_value (step_part needed ((s.prime - t.coefficient) % s.prime) t) (against steps) y)
      (more_value (step_part needed t.coefficient t) (line_of_claim needed steps) y)
      ∙ regroup ((s.prime - t.coefficient) % s.prime * m) n (t.coefficient * m) o))
      (zero_add s.prime ((s.prime - t.coefficient) % s.prime * m + t.coefficient * m) (n + o)
      (cancelled s.prime t.coefficient m a.0) (cancels steps a.1 y))
    where
      m : ℕ
      m = coefficient (polynomial_times t.left (item [] values (line_of needed t.number)) t.right) y

      n : ℕ
      n = coefficient (line_value s values (against steps)) y

      o : ℕ
      o = coefficient (line_value s values (line_of_claim needed steps)) y

      regroup : (a b c d : ℕ) → (a + b) + (c + d) ≡ (a + c) + (b + d)
      regroup a b c d = omega arith

  -- a generator as a part
  generator_value : (i : ℕ) (y : Word) → coefficient (polynomial_times [] (generator s i) []) y
      ≡ coefficient (generator s i) y
  generator_value i y =
      linear_sum-map_keys (is_at same_word y) (λ w. [] ++ (w ++ [])) (generator s i)
      ∙ linear_sum-ext (λ w. is_at same_word y ([] ++ (w ++ []))) (is_at same_word y)
      (generator s i) (λ w. ap (is_at same_word y) (append-nil w))

  module _ (first : List Entry) (front : (e : Entry) (c : Contains first e)
      → slice_get entries (c.0 + 1 - 1) ≡ Some e) where
    -- what was subtracted is the value of the claim's line
    pub claim_value : (set : Monomial → Type 0) → {f kept : Polynomial} {steps : List Step}
        → Reduction s first set f kept steps
        → AllByRecursion (λ step. IsValued s entries needed values step.number) steps → (y : Word)
        → coefficient f y % s.prime ≡ (coefficient
        (line_value s values (line_of_claim needed steps)) y + coefficient kept y) % s.prime
    claim_value set (Reduction.finished {f = f} n) a y =
        n y ∙ (sym (zero_number s.prime) ∙ ap (λ n. (n + 0) % s.prime) (sym (no_value y)))
    claim_value set (Reduction.subtract {f = f} {kept = kept} {steps = steps} w l d chosen c small q
        rest) a y =
        put_back s.prime (coefficient f y) c (coefficient (multiple_at s first w d) y) m positive
        (sym same)
        ∙ (sum_mod s.prime (coefficient f y + (s.prime - 1) * c
        * coefficient (multiple_at s first w d) y) (n + coefficient kept y) (c * m) (c * m)
        (ap (λ k. k % s.prime) (sym (coefficient_polynomial_minus s f c
        (multiple_at s first w d) y)) ∙ claim_value set rest a.1 y) refl
        ∙ ap (λ k. k % s.prime) (swap n (coefficient kept y) (c * m)
        ∙ ap (λ k. k + coefficient kept y)
        (sym (more_value (step_part needed c
        (record {
          coefficient = c;
          left = d.left;
          number = number_of s first w d;
          right = d.right;
        })) (line_of_claim needed steps)
        y))))
      where
        m : ℕ
        m = coefficient (polynomial_times d.left
            (item [] values (line_of needed (number_of s first w d))) d.right) y

        n : ℕ
        n = coefficient (line_value s values (line_of_claim needed steps)) y

        same : m % s.prime ≡ coefficient (multiple_at s first w d) y % s.prime
        same = multiple_value d.left (number_of s first w d) d.right d.entry
            (front d.entry d.listed) a.0 y

        swap : (a b c : ℕ) → (a + b) + c ≡ (c + a) + b
        swap a b c = omega arith
    claim_value set (Reduction.keep {f = f} {kept = kept} {steps = steps} w l none c e rest) a y =
        put_back s.prime (coefficient f y) 1 k k positive refl
        ∙ (sum_mod s.prime (coefficient f y + (s.prime - 1) * 1 * k) (n + coefficient kept y)
        (1 * k) (1 * k) (ap (λ i. i % s.prime)
        (sym (coefficient_polynomial_minus s f 1 (record { coefficient = c; key = w } ∷ [])
        y)) ∙ claim_value set rest a y) refl
        ∙ ap (λ i. i % s.prime) (omega arith))
      where
        k : ℕ
        k = coefficient (record { coefficient = c; key = w } ∷ []) y

        n : ℕ
        n = coefficient (line_value s values (line_of_claim needed steps)) y

    -- the value of what a trace begins with
    start_value : (τ : Monomial) → {f : Polynomial} {start : Start} → Starts s first τ f start
        → IsStartValued s entries needed values start → (y : Word)
        → (start_part needed start).coefficient
        * coefficient (polynomial_times (start_part needed start).left
        (factor_value s values (start_part needed start).of) (start_part needed start).right) y
        % s.prime ≡ coefficient f y % s.prime
    start_value τ (Starts.at_generator i e) a y =
        ap (λ n. n % s.prime) (one (coefficient (polynomial_times [] (generator s i) []) y)
        ∙ generator_value i y)
      where
        one : (n : ℕ) → 1 * n ≡ n
        one n = omega arith
    start_value τ (Starts.at_multiple not_unit w d best regular) a y =
        ap (λ n. n % s.prime) (one (coefficient
        (polynomial_times d.left (item [] values (line_of needed (number_of s first w d)))
        d.right) y)) ∙ multiple_value d.left (number_of s first w d) d.right d.entry
        (front d.entry d.listed) a y
      where
        one : (n : ℕ) → 1 * n ≡ n
        one n = omega arith

    -- what a trace leaves is the value of its line
    pub trace_value : (τ : Monomial) → {f kept : Polynomial} {start : Start} {steps : List Step}
        → Starts s first τ f start → ReductionAt s first τ f kept steps
        → AllByRecursion (λ step. step.coefficient < s.prime) steps
        → IsStartValued s entries needed values start
        → AllByRecursion (λ step. IsValued s entries needed values step.number) steps
        → SamePolynomial s (line_value s values
        (trace_line s.prime needed (record { start = start; steps = steps }))) kept
    trace_value τ {f} {kept} {start} {steps} starts reduces small a b = record { at = λ y. value y }
      where
        value : (y : Word) → coefficient
            (line_value s values (trace_line s.prime needed
            (record { start = start; steps = steps }))) y % s.prime ≡ coefficient kept y
            % s.prime
        value y =
            let n : ℕ = coefficient (line_value s values (against steps)) y in
            let o : ℕ = coefficient (line_value s values (line_of_claim needed steps)) y in
            let k : ℕ = coefficient kept y in
            let m : ℕ =
            (start_part needed start).coefficient
            * coefficient (polynomial_times (start_part needed start).left
            (factor_value s values (start_part needed start).of)
            (start_part needed start).right) y in
            ap (λ i. i % s.prime) (more_value (start_part needed start) (against steps) y)
            ∙ (sum_mod s.prime m (o + k) n n
            (start_value τ starts a y ∙ claim_value (λ σ. IsLess s σ τ) reduces b y) refl
            ∙ (ap (λ i. i % s.prime) (swap o k n)
            ∙ (sum_mod s.prime (n + o) 0 k k (cancels steps small y ∙ sym (zero_number s.prime))
            refl
            ∙ ap (λ i. i % s.prime) (none k))))
          where
            swap : (a b c : ℕ) → (a + b) + c ≡ (c + a) + b
            swap a b c = omega arith

            none : (a : ℕ) → 0 + a ≡ a
            none a = omega arith
