-- What a turn of a reduction leaves.
-- A turn subtracts or keeps (`turn_subtracts`, `turn_keeps`), which are the steps of `ReducedTo`.
-- It leaves a normal form with small words and a lesser leading word (`IsLeft`), so the rank of
-- that word falls and the loop ends. Sets that let in the same multiples of entries have the same
-- reductions (`reduction_by`).
use Rattle.nc_algebra.proofs.NormalForms.{normal_form_normal, normal_form_same}
use Rattle.nc_algebra.proofs.Ranks.{rank, word_rank}
use Rattle.nc_algebra.proofs.Leading.{lead_leads}
use Rattle.nc_algebra.proofs.Sums.{lead_unique, zero_number}
use Rattle.nc_algebra.proofs.Words.{word_laws}
use Rattle.nc_algebra.specs.Elements.{IsLeadingWord, IsZeroPolynomial, SamePolynomial, Setting}
use Rattle.nc_algebra.specs.Monomials.{Monomial}
use Rattle.nc_algebra.specs.Polynomials.{IsNormal, Polynomial, coefficient, normal_form}
use Rattle.nc_algebra.specs.Primes.{IsField, IsZero}
use Rattle.nc_algebra.specs.Sums.{Term, minus}
use Rattle.nc_algebra.specs.Words.{IsWordLess, Word, same_word}
use Rattle.nc_theory.proofs.Small.{difference_small, first_leads, multiple_small, usable_nonzero}
use Rattle.nc_theory.specs.Turns.{IsKept, IsSubtracted}
use Rattle.nc_theory.specs.Usable.{HasSmallWords, IsSmall, IsUsable}
use Rattle.nc_theory.proofs.Chains.{leads_same, same_minus}
use Rattle.nc_theory.proofs.Loops.{ReducedTo, lead_falls, reduced_keep, reduced_subtract}
use Rattle.nc_theory.proofs.Properties.{more_are}
use Rattle.nc_theory.proofs.Reductions.{From, keep_whole, multiple_leads_at, single_over, subtract_whole, take_off}
use Rattle.nc_theory.specs.Divisors.{Divisor, multiple_at, number_of, signature_at}
use Rattle.nc_theory.specs.Reductions.{Reduction}
use Rattle.nc_theory.specs.States.{Entry, Step}
use Rattle.std.proofs.Common.{Contains, List, [], arith, subst, sym, ℕ, ◌+◌, ◌++◌, ◌<◌, ◌∙◌, ◌∷◌, ◌↔◌, ◌≡◌}
use Rattle.std.specs.List.{All}

-- equal polynomials have the same reductions
pub reduction_same : (s : Setting) (entries : List Entry) (set : Monomial → Type 0)
    → {f kept : Polynomial} {steps : List Step} → Reduction s entries set f kept steps
    → (g : Polynomial) → SamePolynomial s f g → Reduction s entries set g kept steps
reduction_same s entries set (Reduction.finished n) g e =
    Reduction.finished (λ w. sym (e.at w) ∙ n w)
reduction_same s entries set (Reduction.subtract {f = f} w d v chosen c small q rest) g e =
    Reduction.subtract w (leads_same s f g w e d) v chosen c small (q ∙ e.at w)
    (reduction_same s entries set rest (minus s.prime g c (multiple_at s entries w v))
    (same_minus s f g c (multiple_at s entries w v) e))
reduction_same s entries set (Reduction.keep {f = f} w d none c q rest) g e =
    Reduction.keep w (leads_same s f g w e d) none c (q ∙ e.at w)
    (reduction_same s entries set rest
    (minus s.prime g 1 (record { coefficient = c; key = w } ∷ []))
    (same_minus s f g 1 (record { coefficient = c; key = w } ∷ []) e))

-- sets that let in the same multiples of entries have the same reductions
pub reduction_by : (s : Setting) (entries : List Entry) (A B : Monomial → Type 0)
    → ((w : Word) (d : Divisor s entries w) → A (signature_at s entries w d)
    ↔ B (signature_at s entries w d)) → {f kept : Polynomial} {steps : List Step}
    → Reduction s entries A f kept steps → Reduction s entries B f kept steps
reduction_by s entries A B same (Reduction.finished n) = Reduction.finished n
reduction_by s entries A B same (Reduction.subtract w l d chosen c small q rest) =
    Reduction.subtract w l d (record {
      allowed = (same w d).0 chosen.allowed;
      least = λ e h. chosen.least e ((same w e).1 h);
    }) c small q
    (reduction_by s entries A B same rest)
reduction_by s entries A B same (Reduction.keep w l none c q rest) =
    Reduction.keep w l (λ d h. none d ((same w d).1 h)) c q (reduction_by s entries A B same rest)

-- a number for the leading word, and 0 for zero: it falls with each turn
abbrev pub size_of : Polynomial → ℕ
size_of [] = 0
size_of (t ∷ f) = rank 64 100 t.key + 1

module _ (s : Setting) (field : IsField s.prime) (entries : List Entry)
    (usable : All (IsUsable s) entries) (set : Monomial → Type 0) where
  positive : 0 < s.prime
  positive = omega (arith, field.above_one)

  nonzero : (e : Entry) → Contains entries e → ¬ IsZeroPolynomial s e.polynomial
  nonzero = usable_nonzero s entries usable

  -- the loop goes on from what is left
  pub turn_subtracts : (f kept : Polynomial) (steps : List Step) (old new : Polynomial)
      (step : Step) → IsSubtracted s entries set old new step
      → ReducedTo s entries set f kept steps old
      → ReducedTo s entries set f kept (steps ++ (step ∷ [])) new
  turn_subtracts f kept steps old new step t to more last r =
      subst (λ (x : Step). Reduction s entries set f (kept ++ more) ((steps ++ (x ∷ [])) ++ last))
      (step_is step.left t.divisor.left step.number (number_of s entries t.word t.divisor)
      step.right t.divisor.right step.coefficient (sym t.left) (sym t.number) (sym t.right))
      (reduced_subtract s entries set f kept steps old to t.word t.leads t.divisor t.chosen
      step.coefficient t.below t.cancels more last
      (reduction_same s entries set r
      (minus s.prime old step.coefficient (multiple_at s entries t.word t.divisor))
      (subst (λ g. SamePolynomial s g
      (minus s.prime old step.coefficient (multiple_at s entries t.word t.divisor)))
      (sym t.rest) (normal_form_same s.prime
      (minus s.prime old step.coefficient (multiple_at s entries t.word t.divisor))))))
    where
      step_is : (u u' : Word) (n n' : ℕ) (v v' : Word) (c : ℕ) → u' ≡ u → n' ≡ n → v' ≡ v
          → (let x : Step = record { coefficient = c; left = u'; number = n'; right = v' } in x)
          ≡ record { coefficient = c; left = u; number = n; right = v }
      step_is u u' n n' v v' c a b d =
          λ i. record { coefficient = c; left = a i; number = b i; right = d i }

  pub turn_keeps : (f kept : Polynomial) (steps : List Step) (old new : Polynomial) (x : Term Word)
      → IsKept s entries set old new x → ReducedTo s entries set f kept steps old
      → ReducedTo s entries set f (kept ++ (x ∷ [])) steps new
  turn_keeps f kept steps old new x t to more last r =
      reduced_keep s entries set f kept steps old to x.key t.leads t.clear x.coefficient t.whole
      more last
      (reduction_same s entries set r (minus s.prime old 1 (x ∷ []))
      (subst (λ g. SamePolynomial s g (minus s.prime old 1 (x ∷ []))) (sym t.rest)
      (normal_form_same s.prime (minus s.prime old 1 (x ∷ [])))))

  -- what is left is in normal form, with small words, and its leading word is less
  pub record IsLeft (old new : Polynomial) : Type 0 where
    pub normal : IsNormal s.prime new
    pub small : HasSmallWords s new
    pub falls : size_of new < size_of old

  falls_to : (old new : Polynomial) (w : Word) → IsLeadingWord s old w → IsNormal s.prime old
      → HasSmallWords s old → IsNormal s.prime new → HasSmallWords s new
      → ((x : Word) → From w x → IsZero s.prime (coefficient new x)) → size_of new < size_of old
  falls_to [] new w d n k m l z = absurd (d.nonzero (zero_number s.prime))
  falls_to (t ∷ f) [] w d n k m l z = omega arith
  falls_to (t ∷ f) (u ∷ g) w d n k m l z =
      let same : t.key ≡ w = first_word in
      let less : IsWordLess u.key t.key =
      subst (IsWordLess u.key) (sym same)
      (lead_falls s (u ∷ g) w u.key z (first_leads s u g m)) in
      omega (
        arith,
        word_rank 64 100 u.key t.key (l u.key (first_leads s u g m).nonzero).1
            (k t.key (first_leads s t f n).nonzero).1 less,
      )
    where
      first_word : t.key ≡ w
      first_word =
          lead_unique same_word IsWordLess word_laws s.prime (t ∷ f) t.key w (first_leads s t f n) d

  left_by : (old new : Polynomial) (w : Word) (c : ℕ) (g : Polynomial) → IsLeadingWord s old w
      → IsNormal s.prime old → HasSmallWords s old → HasSmallWords s g
      → ((x : Word) → From w x → IsZero s.prime (coefficient (minus s.prime old c g) x))
      → new ≡ normal_form s.prime (minus s.prime old c g) → IsLeft old new
  left_by old new w c g d n k l z e =
      let same : SamePolynomial s new (minus s.prime old c g) =
      subst (λ h. SamePolynomial s h (minus s.prime old c g)) (sym e)
      (normal_form_same s.prime (minus s.prime old c g)) in
      let normal : IsNormal s.prime new =
      subst (IsNormal s.prime) (sym e)
      (normal_form_normal s.prime (minus s.prime old c g) positive) in
      let small : HasSmallWords s new = difference_small s old c g new k l same in
      record {
        normal = normal;
        small = small;
        falls = falls_to old new w d n k normal small (λ x o. same.at x ∙ z x o);
      }

  pub kept_leaves : (old new : Polynomial) (x : Term Word) → IsKept s entries set old new x
      → IsNormal s.prime old → HasSmallWords s old → IsLeft old new
  kept_leaves old new x t n k =
      left_by old new x.key 1 (x ∷ []) t.leads n k
      (more_are s IsSmall x.coefficient x.key [] (k x.key t.leads.nonzero)
      (λ w m. absurd (m (zero_number s.prime))))
      (take_off s field entries nonzero set old x.key t.leads 1 (x ∷ [])
      (single_over s field entries nonzero set x.coefficient x.key)
      (keep_whole s field entries nonzero set old x.key x.coefficient t.whole)) t.rest

  pub subtracted_leaves : (old new : Polynomial) (step : Step)
      → IsSubtracted s entries set old new step → IsNormal s.prime old → HasSmallWords s old
      → IsLeft old new
  subtracted_leaves old new step t n k =
      left_by old new t.word step.coefficient (multiple_at s entries t.word t.divisor) t.leads n k
      (multiple_small s t.divisor.left t.divisor.right t.word t.divisor.entry.polynomial
      usable_one.letters (lead_leads s.prime t.divisor.entry.polynomial
      (nonzero t.divisor.entry t.divisor.listed)) t.divisor.spells
      (k t.word t.leads.nonzero))
      (take_off s field entries nonzero set old t.word t.leads step.coefficient
      (multiple_at s entries t.word t.divisor)
      (multiple_leads_at s field entries nonzero set t.word t.divisor).above
      (subtract_whole s field entries nonzero set old t.word t.divisor step.coefficient
      t.cancels)) t.rest
    where
      usable_one : IsUsable s t.divisor.entry
      usable_one =
          subst (IsUsable s) t.divisor.listed.2
          (usable t.divisor.listed.0 t.divisor.entry t.divisor.listed.1)
