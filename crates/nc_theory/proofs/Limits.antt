-- What is reached at a signature weighs at most the signature's degree.
-- A multiple of an entry is labelled by the multiple of its label, so its words are limited by its
-- signature (`multiples_limited`). A generator's words weigh at most as much as its leading word
-- (`generator_limited`). A difference has no words but those of its two parts, so what a reduction
-- passes (`passes_limited`) and what it keeps (`keeps_limited`) is limited too.
use Rattle.nc_algebra.proofs.Degrees.{degrees, labelled_limited}
use Rattle.nc_algebra.proofs.Elements.{element_times_coefficient, element_times_leads, evaluation_times, in_times}
use Rattle.nc_algebra.proofs.Leading.{lead_leads}
use Rattle.nc_algebra.proofs.NormalForms.{normal_form_same}
use Rattle.nc_algebra.proofs.Sums.{below_lead, zero_number}
use Rattle.nc_algebra.proofs.Words.{less_weighs, word_laws}
use Rattle.nc_algebra.specs.Elements.{Element, IsLabelled, IsLeadingWord, IsLess, Setting, WeighsAtMost, element_times, generator, generator_weight}
use Rattle.nc_algebra.specs.Monomials.{Monomial, degree_of, unit_monomial}
use Rattle.nc_algebra.specs.Polynomials.{Polynomial, leading, normal_form}
use Rattle.nc_algebra.specs.Primes.{IsField}
use Rattle.nc_algebra.specs.Sums.{minus}
use Rattle.nc_algebra.specs.Words.{IsWordLess, Word, same_word, word_weight}
use Rattle.nc_theory.specs.Divisors.{Divisor, multiple_at, signature_at}
use Rattle.nc_theory.specs.Laws.{LimitedAt}
use Rattle.nc_theory.specs.Reductions.{Passes, PassesAt, Reduction, ReductionAt}
use Rattle.nc_theory.specs.Runs.{Starts}
use Rattle.nc_theory.specs.States.{Entry, Start, Step}
use Rattle.std.proofs.Common.{Contains, List, [], ap, arith, inl, inr, subst, sym, ℕ, ◌∙◌, ◌∷◌, ◌≡◌, ◌≤◌, ◌⊎◌}
use Rattle.nc_theory.proofs.Properties.{minus_are, more_are}

module _ (s : Setting) (field : IsField s.prime) where
  -- a generator's words weigh at most its weight
  generator_limited : (i : ℕ) → WeighsAtMost s (generator_weight s i) (generator s i)
  generator_limited i w n =
      go (below_lead same_word IsWordLess word_laws s.prime (generator s i)
      (leading s.prime (generator s i)) w (lead_leads s.prime (generator s i) (λ z. n (z w))) n)
    where
      go : (w ≡ leading s.prime (generator s i)) ⊎ IsWordLess w (leading s.prime (generator s i))
          → word_weight w ≤ generator_weight s i
      go (inl e) =
          let d : word_weight w ≡ word_weight (leading s.prime (generator s i)) =
          ap word_weight e in omega (arith, d)
      go (inr l) = less_weighs w (leading s.prime (generator s i)) l

  module _ (entries : List Entry) (labels : (e : Entry) → Contains entries e → (α : Element)
      × IsLabelled s e.signature e.polynomial α) where
    pub multiple_labelled : (w : Word) (d : Divisor s entries w) → (α : Element)
        × IsLabelled s (signature_at s entries w d) (multiple_at s entries w d) α
    multiple_labelled w d = go (labels d.entry d.listed)
      where
        go : (α : Element) × IsLabelled s d.entry.signature d.entry.polynomial α → (β : Element)
            × IsLabelled s (signature_at s entries w d) (multiple_at s entries w d) β
        go (α, l) = (
          element_times d.left α d.right,
          record {
            lies = in_times s d.left α d.right l.lies;
            evaluates = evaluation_times s d.left α d.entry.polynomial d.right
                (omega (arith, field.above_one)) l.evaluates;
            leads = element_times_leads s d.left α d.right d.entry.signature l.leads;
            one = element_times_coefficient s d.left α d.right d.entry.signature ∙ l.one;
          },
        )

    module _ (τ : Monomial) where
      multiples_limited : (w : Word) (d : Divisor s entries w) → (signature_at s entries w d ≡ τ)
          ⊎ IsLess s (signature_at s entries w d) τ
          → WeighsAtMost s (degree_of (generator_weight s) τ) (multiple_at s entries w d)
      multiples_limited w d o x n =
          let t : (α : Element) × IsLabelled s (signature_at s entries w d)
          (multiple_at s entries w d) α = multiple_labelled w d in
          let k : word_weight x ≤ degree_of (generator_weight s) (signature_at s entries w d) =
          labelled_limited s (signature_at s entries w d) (multiple_at s entries w d) t.0 t.1 x
          n in
          let m : degree_of (generator_weight s) (signature_at s entries w d)
          ≤ degree_of (generator_weight s) τ = degrees s (signature_at s entries w d) τ o in
          omega (arith, k, m)

      starts_limited : {f : Polynomial} {start : Start} → Starts s entries τ f start
          → WeighsAtMost s (degree_of (generator_weight s) τ) f
      starts_limited (Starts.at_generator i e) x n =
          let d : degree_of (generator_weight s) τ ≡ degree_of (generator_weight s)
          (unit_monomial i) = ap (degree_of (generator_weight s)) e in
          omega (arith, d, generator_limited i x n)
      starts_limited (Starts.at_multiple not_unit w d best regular) x n =
          multiples_limited w d (inl best.signed) x n

      removes_limited : (f : Polynomial) (w : Word) (c : ℕ) → IsLeadingWord s f w
          → WeighsAtMost s (degree_of (generator_weight s) τ) f
          → WeighsAtMost s (degree_of (generator_weight s) τ)
          (minus s.prime f 1 (record { coefficient = c; key = w } ∷ []))
      removes_limited f w c l h =
          minus_are s (λ v. word_weight v ≤ degree_of (generator_weight s) τ) f 1
          (record { coefficient = c; key = w } ∷ []) h
          (more_are s (λ v. word_weight v ≤ degree_of (generator_weight s) τ) c w [] (h w l.nonzero)
          (λ y m. absurd (m (zero_number s.prime))))

      keeps_limited : {f kept : Polynomial} {steps : List Step}
          → WeighsAtMost s (degree_of (generator_weight s) τ) f
          → ReductionAt s entries τ f kept steps
          → WeighsAtMost s (degree_of (generator_weight s) τ) kept
      keeps_limited h (Reduction.finished z) x n = absurd (n (zero_number s.prime))
      keeps_limited h (Reduction.subtract {f = f} w l d chosen c small q rest) x n =
          keeps_limited (minus_are s (λ v. word_weight v ≤ degree_of (generator_weight s) τ) f c
          (multiple_at s entries w d) h (multiples_limited w d (inr chosen.allowed))) rest x n
      keeps_limited h (Reduction.keep {f = f} {kept = kept} w l none c e rest) x n =
          more_are s (λ v. word_weight v ≤ degree_of (generator_weight s) τ) c w kept
          (h w l.nonzero) (keeps_limited (removes_limited f w c l h) rest) x n

      normal_limited : (g new : Polynomial) → new ≡ normal_form s.prime g
          → WeighsAtMost s (degree_of (generator_weight s) τ) g
          → WeighsAtMost s (degree_of (generator_weight s) τ) new
      normal_limited g new e h =
          subst (WeighsAtMost s (degree_of (generator_weight s) τ)) (sym e)
          (λ w n. h w (λ z. n ((normal_form_same s.prime g).at w ∙ z)))

      passes_limited : {f h : Polynomial} → WeighsAtMost s (degree_of (generator_weight s) τ) f
          → PassesAt s entries τ f h → WeighsAtMost s (degree_of (generator_weight s) τ) h
      passes_limited k (Passes.begins) = k
      passes_limited k (Passes.subtracts {h = h} {new = new} p step t) =
          normal_limited
          (minus s.prime h step.coefficient (multiple_at s entries t.word t.divisor)) new t.rest
          (minus_are s (λ v. word_weight v ≤ degree_of (generator_weight s) τ) h step.coefficient
          (multiple_at s entries t.word t.divisor) (passes_limited k p)
          (multiples_limited t.word t.divisor (inr t.chosen.allowed)))
      passes_limited k (Passes.keeps {h = h} {new = new} p x t) =
          normal_limited (minus s.prime h 1 (x ∷ [])) new t.rest
          (removes_limited h x.key x.coefficient t.leads (passes_limited k p))

      pub limited : LimitedAt s entries τ
      limited = record {
        starts = λ f start h. starts_limited h;
        multiples = multiples_limited;
        passes = λ f h k p. passes_limited k p;
        subtracts =
            λ f w d c h l. minus_are s (λ v. word_weight v ≤ degree_of (generator_weight s) τ) f c
            (multiple_at s entries w d) h (multiples_limited w d (inr l));
        removes = λ f w c l h. removes_limited f w c l h;
        keeps = λ f kept steps h r. keeps_limited h r;
      }
