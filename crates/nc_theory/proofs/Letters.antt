-- The traces and labels of a run are over the letters of its generators.
-- A trace names multiples that stand in words over the letters, so the words around the entries are
-- over them (`rebuilt_over`, by `steps_over`). So are the labels that traces give, entry after
-- entry (`keys_onto`), and what is subtracted from a polynomial over the letters
-- (`subtracted_over`, `multiples_over`).
use Rattle.nc_algebra.proofs.Finite.{over-append, over_back, over_front}
use Rattle.nc_algebra.proofs.Monomials.{monomial_laws}
use Rattle.nc_algebra.proofs.Sums.{at_other, key_dec, zero_number}
use Rattle.nc_algebra.specs.Elements.{Element, IsLess, IsZeroPolynomial, Setting, WordsAre, element_times, generator, generator_weight}
use Rattle.nc_algebra.specs.Finite.{IsOver}
use Rattle.nc_algebra.specs.Monomials.{Monomial, same_monomial}
use Rattle.nc_algebra.specs.Polynomials.{Polynomial, leading}
use Rattle.nc_algebra.specs.Primes.{IsField, IsZero}
use Rattle.nc_algebra.specs.Problems.{Problem}
use Rattle.nc_algebra.specs.Sums.{Term, coefficient_by, minus, scale}
use Rattle.nc_algebra.specs.Words.{Letter, Word}
use Rattle.nc_theory.proofs.Completeness.{invariant}
use Rattle.nc_theory.proofs.Properties.{minus_are, more_are}
use Rattle.nc_theory.proofs.Rebuilding.{rebuilt}
use Rattle.nc_theory.proofs.Fronts.{in_front}
use Rattle.nc_theory.proofs.Steps.{candidate_over, divisor_over, run_over, starts_over, syzygies_are}
use Rattle.nc_theory.specs.Divisors.{multiple_at}
use Rattle.nc_theory.specs.Labels.{label_at, labels_of, labels_onto, less_steps, start_label, step_multiples, trace_label}
use Rattle.nc_theory.specs.Letters.{AreOver}
use Rattle.nc_theory.specs.Rebuilding.{Rebuilds}
use Rattle.nc_theory.specs.Reductions.{Reduction}
use Rattle.nc_theory.specs.Runs.{SequentialRun, Starts}
use Rattle.nc_theory.specs.States.{Entry, Start, State, Step, Syzygy, Trace}
use Rattle.std.proofs.Common.{Contains, List, Option, [], ap, arith, get_or, inl, inr, refl, subst, suc, sym, zero, ℕ, ◌*◌, ◌++◌, ◌-◌, ◌∷◌, ◌≡◌, ◌≢◌, ◌⊎◌}
use Rattle.std.specs.List.{AllByRecursion}

module _ (letters : List Letter) where
  -- both words around an entry are over the letters
  abbrev pub StepOver : Step → Type 0
  StepOver step = IsOver letters step.left × IsOver letters step.right

  abbrev pub StartOver : Start → Type 0
  StartOver (Start.a_generator i) = Unit {0}
  StartOver (Start.a_multiple u j v) = IsOver letters u × IsOver letters v

  pub record TraceOver (t : Trace) : Type 0 where
    pub start : StartOver t.start
    pub steps : AllByRecursion StepOver t.steps

  -- a part of a word
  around : (u x v w : Word) → u ++ (x ++ v) ≡ w → IsOver letters w → IsOver letters u
      × IsOver letters v
  around u x v w e o =
      let whole : IsOver letters (u ++ (x ++ v)) = subst (IsOver letters) (sym e) o in (
        over_front letters u (x ++ v) whole,
        over_back letters x v (over_back letters u (x ++ v) whole),
      )

  start_over : (s : Setting) (entries : List Entry) (τ : Monomial) → IsOver letters τ.left
      × IsOver letters τ.right → {f : Polynomial} {start : Start} → Starts s entries τ f start
      → StartOver start
  start_over s entries τ o (Starts.at_generator i e) = tt
  start_over s entries τ o (Starts.at_multiple not_unit w d best regular) = (
    over_front letters d.left d.entry.signature.left
        (subst (λ (σ : Monomial). IsOver letters σ.left) (sym best.signed) o.0),
    over_back letters d.entry.signature.right d.right
        (subst (λ (σ : Monomial). IsOver letters σ.right) (sym best.signed) o.1),
  )

  module _ (s : Setting) (inputs : (i : ℕ) → WordsAre s (IsOver letters) (generator s i))
      (entries : List Entry) (alive : (e : Entry) → Contains entries e
      → ¬ IsZeroPolynomial s e.polynomial) (over : AreOver s letters entries) where
    -- each step's multiple has the word that is taken
    pub steps_over : (set : Monomial → Type 0) → {f kept : Polynomial} {steps : List Step}
        → Reduction s entries set f kept steps → WordsAre s (IsOver letters) f
        → AllByRecursion StepOver steps
    steps_over set (Reduction.finished z) o = tt
    steps_over set (Reduction.subtract {f = f} w l d chosen c small q rest) o = (
      around d.left (leading s.prime d.entry.polynomial) d.right w d.spells (o w l.nonzero),
      steps_over set rest (minus_are s (IsOver letters) f c (multiple_at s entries w d) o
          (divisor_over s letters inputs entries alive over w d (o w l.nonzero))),
    )
    steps_over set (Reduction.keep {f = f} w l none c e rest) o =
        steps_over set rest (minus_are s (IsOver letters) f 1
        (record { coefficient = c; key = w } ∷ []) o
        (more_are s (IsOver letters) c w [] (o w l.nonzero)
        (λ y m. absurd (m (zero_number s.prime)))))

  module _ (s : Setting) (inputs : (i : ℕ) → WordsAre s (IsOver letters) (generator s i))
      (entries : List Entry) (alive : (e : Entry) → Contains entries e
      → ¬ IsZeroPolynomial s e.polynomial) (over : AreOver s letters entries) (τ : Monomial)
      (o : IsOver letters τ.left × IsOver letters τ.right) (t : Trace) (f : Polynomial)
      (r : Rebuilds s entries τ t f) where
    -- the first entries are entries
    among : (e : Entry) → Contains r.first e → Contains entries e
    among e c =
        subst (λ (l : List Entry). Contains l e) (sym r.splits) (in_front r.first r.rest e c)

    first_alive : (e : Entry) → Contains r.first e → ¬ IsZeroPolynomial s e.polynomial
    first_alive e c = alive e (among e c)

    first_over : AreOver s letters r.first
    first_over =
        record {
          left = λ e c. over.left e (among e c);
          right = λ e c. over.right e (among e c);
          words = λ e c. over.words e (among e c);
        }

    rebuilt_over : TraceOver t
    rebuilt_over = record {
      start = start_over s r.first τ o r.starts;
      steps = steps_over s inputs r.first first_alive first_over (λ σ. IsLess s σ τ) r.reduces
          (starts_over s letters inputs r.first first_alive first_over τ o.0 o.1 r.starts);
    }

  -- ---- labels

  -- both words of the monomial are over the letters
  abbrev pub KeyOver : Term Monomial → Type 0
  KeyOver t = IsOver letters t.key.left × IsOver letters t.key.right

  -- and so for each monomial that is listed, whatever its coefficient
  abbrev pub KeysOver : Element → Type 0
  KeysOver α = AllByRecursion KeyOver α

  keys-append : (α β : Element) → KeysOver α → KeysOver β → KeysOver (α ++ β)
  keys-append [] β a b = b
  keys-append (t ∷ α) β a b = (a.0, keys-append α β a.1 b)

  keys_scale : (c : ℕ) (α : Element) → KeysOver α → KeysOver (scale c α)
  keys_scale c [] a = tt
  keys_scale c (t ∷ α) a = (a.0, keys_scale c α a.1)

  keys_times : (u : Word) (α : Element) (v : Word) → IsOver letters u → IsOver letters v
      → KeysOver α → KeysOver (element_times u α v)
  keys_times u [] v l r a = tt
  keys_times u (t ∷ α) v l r a = (
    (over-append letters u t.key.left l a.0.0, over-append letters t.key.right v a.0.1 r),
    keys_times u α v l r a.1,
  )

  -- no label is past the list, and there is none there
  pub keys_at : (ls : List Element) → AllByRecursion KeysOver ls → (i : ℕ)
      → KeysOver (get_or ls i [])
  keys_at [] a i = tt
  keys_at (α ∷ ls) a zero = a.0
  keys_at (α ∷ ls) a (suc i) = keys_at ls a.1 i

  lists-append : (ls ks : List Element) → AllByRecursion KeysOver ls → AllByRecursion KeysOver ks
      → AllByRecursion KeysOver (ls ++ ks)
  lists-append [] ks a b = b
  lists-append (α ∷ ls) ks a b = (a.0, lists-append ls ks a.1 b)

  keys_start : (ls : List Element) → AllByRecursion KeysOver ls → (start : Start) → StartOver start
      → KeysOver (start_label ls start)
  keys_start ls a (Start.a_generator i) o = ((tt, tt), tt)
  keys_start ls a (Start.a_multiple u j v) o =
      keys_times u (label_at ls j) v o.0 o.1 (keys_at ls a (j - 1))

  keys_steps : (p : ℕ) (ls : List Element) → AllByRecursion KeysOver ls
      → (α : Element) (steps : List Step) → KeysOver α → AllByRecursion StepOver steps
      → KeysOver (less_steps p ls α steps)
  keys_steps p ls a α [] k o = k
  keys_steps p ls a α (t ∷ steps) k o =
      let β : Element = element_times t.left (label_at ls t.number) t.right in
      let more : KeysOver β =
      keys_times t.left (label_at ls t.number) t.right o.0.0 o.0.1
      (keys_at ls a (t.number - 1)) in
      keys_steps p ls a (minus p α t.coefficient β) steps
      (keys-append α (scale ((p - 1) * t.coefficient) β) k
      (keys_scale ((p - 1) * t.coefficient) β more)) o.1

  pub keys_trace : (p : ℕ) (ls : List Element) → AllByRecursion KeysOver ls → (t : Trace)
      → TraceOver t → KeysOver (trace_label p ls t)
  keys_trace p ls a t o =
      keys_steps p ls a (start_label ls t.start) t.steps (keys_start ls a t.start o.start) o.steps

  keys_onto : (p : ℕ) (ls : List Element) → AllByRecursion KeysOver ls → (es : List Entry)
      → ((e : Entry) → Contains es e → TraceOver e.trace)
      → AllByRecursion KeysOver (labels_onto p ls es)
  keys_onto p ls a [] o = a
  keys_onto p ls a (e ∷ es) o =
      keys_onto p (ls ++ (trace_label p ls e.trace ∷ []))
      (lists-append ls (trace_label p ls e.trace ∷ []) a
      (keys_trace p ls a e.trace (o e (0, omega arith, refl)), tt)) es
      (λ x c. o x (suc c.0, omega (arith, c.1), c.2))

  -- a sum of multiples of labels
  pub keys_multiples : (ls : List Element) → AllByRecursion KeysOver ls → (steps : List Step)
      → AllByRecursion StepOver steps → KeysOver (step_multiples ls steps)
  keys_multiples ls a [] o = tt
  keys_multiples ls a (t ∷ steps) o =
      let β : Element = element_times t.left (label_at ls t.number) t.right in
      keys-append (step_multiples ls steps) (scale t.coefficient β) (keys_multiples ls a steps o.1)
      (keys_scale t.coefficient β (keys_times t.left (label_at ls t.number) t.right o.0.0 o.0.1
      (keys_at ls a (t.number - 1))))

  -- a monomial with a coefficient other than 0 is listed
  pub keys_found : (s : Setting) (α : Element) → KeysOver α → (σ : Monomial)
      → ¬ IsZero s.prime (coefficient_by same_monomial α σ) → IsOver letters σ.left
      × IsOver letters σ.right
  keys_found s [] a σ n = absurd (n (zero_number s.prime))
  keys_found s (t ∷ α) a σ n =
      go (keys_found s α a.1 σ) (key_dec same_monomial (IsLess s)
      (monomial_laws (generator_weight s)) σ t.key)
    where
      go : (¬ IsZero s.prime (coefficient_by same_monomial α σ) → IsOver letters σ.left
          × IsOver letters σ.right) → (σ ≡ t.key) ⊎ (σ ≢ t.key) → IsOver letters σ.left
          × IsOver letters σ.right
      go rest (inl e) =
          subst (λ (ρ : Monomial). IsOver letters ρ.left × IsOver letters ρ.right) (sym e) a.0
      go rest (inr d) =
          rest (λ z. n (subst (IsZero s.prime)
          (omega (
            arith,
            ap (λ n. t.coefficient * n)
                (at_other same_monomial (IsLess s) (monomial_laws (generator_weight s)) σ t.key
                d),
          )) z))

-- ---- runs

module _ (P : Problem) (field : IsField P.setting.prime) (letters : List Letter) (inputs : (i : ℕ)
    → WordsAre P.setting (IsOver letters) (generator P.setting i)) {n : ℕ} {run : State}
    {last : Option Monomial} (runs : SequentialRun P n run last) where
  alive : (e : Entry) → Contains run.entries e → ¬ IsZeroPolynomial P.setting e.polynomial
  alive = (invariant P field runs).sound.nonzero

  over : AreOver P.setting letters run.entries
  over = run_over P field letters inputs runs

  pub entry_over : (e : Entry) → Contains run.entries e → TraceOver letters e.trace
  entry_over e c =
      rebuilt_over letters P.setting inputs run.entries alive over e.signature (
        over.left e c,
        over.right e c,
      ) e.trace e.polynomial ((rebuilt P field runs).entries e c)

  pub syzygy_over : (h : Syzygy) → Contains run.syzygies h → TraceOver letters h.trace
  syzygy_over h c =
      rebuilt_over letters P.setting inputs run.entries alive over h.signature signed h.trace []
      ((rebuilt P field runs).syzygies h c)
    where
      signed : IsOver letters h.signature.left × IsOver letters h.signature.right
      signed =
          syzygies_are P (λ σ. IsOver letters σ.left × IsOver letters σ.right)
          (λ k before since q. candidate_over P field letters inputs before
          (invariant P field q).sound.nonzero (run_over P field letters inputs q)) runs h c

  pub labels_over : AllByRecursion (KeysOver letters) (labels_of P.setting.prime run.entries)
  labels_over = keys_onto letters P.setting.prime [] tt run.entries entry_over

  -- what was subtracted from a polynomial over the letters, and its label
  pub subtracted_over : (set : Monomial → Type 0) → {f kept : Polynomial} {steps : List Step}
      → Reduction P.setting run.entries set f kept steps → WordsAre P.setting (IsOver letters) f
      → AllByRecursion (StepOver letters) steps
  subtracted_over set = steps_over letters P.setting inputs run.entries alive over set

  pub multiples_over : (set : Monomial → Type 0) → {f kept : Polynomial} {steps : List Step}
      → Reduction P.setting run.entries set f kept steps → WordsAre P.setting (IsOver letters) f
      → KeysOver letters (step_multiples (labels_of P.setting.prime run.entries) steps)
  multiples_over set {steps = steps} r o =
      keys_multiples letters (labels_of P.setting.prime run.entries) labels_over steps
      (subtracted_over set r o)
