-- A run over finitely many letters has at most as many steps as its bound has monomials.
-- The words around the sides of an ambiguity are empty or parts of leading words (`ambiguity_left`,
-- `ambiguity_right`), so all of a run is over the letters of its generators (`run_over`), and each
-- candidate is in the list (`candidate_listed`). With each step at least one more monomial of the
-- list is at most the last signature (`one_more`).
use Rattle.nc_algebra.proofs.Finite.{at_most_length, how_many, in_within, over-append, over_back, over_dec, over_front, strictly_fewer}
use Rattle.nc_algebra.proofs.Leading.{lead_leads}
use Rattle.nc_algebra.proofs.Monomials.{monomial_irrefl, monomial_laws, monomial_trans, monomials_compare}
use Rattle.nc_algebra.proofs.Orders.{compare_greater, compare_less, compare_same}
use Rattle.nc_algebra.proofs.Sums.{zero_number}
use Rattle.nc_algebra.proofs.Words.{cut}
use Rattle.nc_algebra.specs.Elements.{IsLess, IsZeroPolynomial, Setting, WordsAre, generator, generator_weight}
use Rattle.nc_algebra.specs.Finite.{IsOver, monomials_within}
use Rattle.nc_algebra.specs.Lists.{Among}
use Rattle.nc_algebra.specs.Monomials.{IsMonomialLess, Monomial, compare_monomials}
use Rattle.nc_algebra.specs.Polynomials.{Polynomial, leading}
use Rattle.nc_algebra.specs.Primes.{IsField}
use Rattle.nc_algebra.specs.Problems.{Problem}
use Rattle.nc_algebra.specs.Words.{Letter, Word}
use Rattle.nc_theory.proofs.Completeness.{invariant, new_entry}
use Rattle.nc_theory.proofs.Properties.{minus_are, more_are, times_are}
use Rattle.nc_theory.proofs.Pushed.{each_pushed}
use Rattle.nc_theory.specs.Ambiguities.{Ambiguity}
use Rattle.nc_theory.specs.Divisors.{Divisor, leading_at, multiple_at}
use Rattle.nc_theory.specs.Letters.{AreOver}
use Rattle.nc_theory.specs.Reductions.{Reduction}
use Rattle.nc_theory.specs.Runs.{End, Handles, IsAfter, IsCandidate, IsEnd, IsNext, Outcome, SequentialRun, Starts, state_after}
use Rattle.nc_theory.specs.States.{Entry, Start, State, Step, Syzygy}
use Rattle.std.proofs.Common.{append-nil, Bool, Contains, Equal, Greater, Less, List, None, Option, Ordering, Some, [], ap, append_assoc, arith, false, inl, inr, length, length-append, refl, subst, sym, true, ℕ, ◌++◌, ◌<◌, ◌∙◌, ◌∷◌, ◌≡◌, ◌≤◌, ◌⊎◌}
use Rattle.std.proofs.lemmas.Bool.{false≢true}
use Rattle.std.specs.Ordering.{MatchOrdering, is_le}

module _ (s : Setting) (letters : List Letter) (inputs : (i : ℕ)
    → WordsAre s (IsOver letters) (generator s i)) (entries : List Entry) (alive : (e : Entry)
    → Contains entries e → ¬ IsZeroPolynomial s e.polynomial) (over : AreOver s letters entries)
  where
    lead_over : (e : Entry) → Contains entries e → IsOver letters (leading s.prime e.polynomial)
    lead_over e k =
        over.words e k (leading s.prime e.polynomial)
        (lead_leads s.prime e.polynomial (alive e k)).nonzero

    -- the front of the word before one place that meets the other, which has nothing before it
    ambiguity_left : (ρ : Monomial) (w : Word) (amb : Ambiguity s entries ρ w)
        → IsOver letters amb.high.left
    ambiguity_left ρ w amb = go amb.spans_front
      where
        first : amb.low.left ≡ [] → (r : Word)
            × (leading_at s entries w amb.low ≡ amb.high.left ++ r)
            × (leading_at s entries w amb.high ++ amb.high.right ≡ r ++ amb.low.right)
            → IsOver letters amb.high.left
        first e (r, f, _) =
            over_front letters amb.high.left r
            (subst (IsOver letters) f (lead_over amb.low.entry amb.low.listed))

        go : (amb.high.left ≡ []) ⊎ (amb.low.left ≡ []) → IsOver letters amb.high.left
        go (inl e) = subst (IsOver letters) (sym e) tt
        go (inr e) =
            first e (cut amb.high.left (leading_at s entries w amb.high ++ amb.high.right)
            (leading_at s entries w amb.low) amb.low.right
            (amb.high.spells ∙ (sym amb.low.spells
            ∙ ap (λ u. u ++ (leading_at s entries w amb.low ++ amb.low.right)) e))
            (let n : length amb.low.left ≡ 0 = ap length e in omega (arith, amb.high_begins, n)))

    ambiguity_right : (ρ : Monomial) (w : Word) (amb : Ambiguity s entries ρ w)
        → IsOver letters amb.high.right
    ambiguity_right ρ w amb = go amb.spans_back
      where
        last : (r : Word) × (amb.high.left ++ leading_at s entries w amb.high ≡ amb.low.left ++ r)
            × (leading_at s entries w amb.low ≡ r ++ amb.high.right) → IsOver letters amb.high.right
        last (r, _, f) =
            over_back letters r amb.high.right
            (subst (IsOver letters) f (lead_over amb.low.entry amb.low.listed))

        go : (amb.high.right ≡ []) ⊎ (amb.low.right ≡ []) → IsOver letters amb.high.right
        go (inl e) = subst (IsOver letters) (sym e) tt
        go (inr e) =
            last (cut amb.low.left (leading_at s entries w amb.low)
            (amb.high.left ++ leading_at s entries w amb.high) amb.high.right
            (sym (ap (λ u. amb.low.left ++ u) (ap (λ u. leading_at s entries w amb.low ++ u) e
            ∙ append-nil (leading_at s entries w amb.low)))
            ∙ (amb.low.spells ∙ (sym amb.high.spells
            ∙ sym (append_assoc amb.high.left (leading_at s entries w amb.high)
            amb.high.right)))) (omega (
              arith,
              amb.low_begins,
              length-append amb.high.left (leading_at s entries w amb.high),
            )))

    multiple_over : (w : Word) (d : Divisor s entries w) → IsOver letters d.left
        → IsOver letters d.right → WordsAre s (IsOver letters) (multiple_at s entries w d)
    multiple_over w d l r =
        times_are s (IsOver letters) (over_dec letters) d.left d.entry.polynomial d.right
        (λ x n. over-append letters d.left (x ++ d.right) l
        (over-append letters x d.right (over.words d.entry d.listed x n) r))

    pub divisor_over : (w : Word) (d : Divisor s entries w) → IsOver letters w
        → WordsAre s (IsOver letters) (multiple_at s entries w d)
    divisor_over w d o =
        let whole : IsOver letters (d.left ++ (leading s.prime d.entry.polynomial ++ d.right)) =
        subst (IsOver letters) (sym d.spells) o in
        multiple_over w d (over_front letters d.left (leading s.prime d.entry.polynomial ++ d.right)
        whole) (over_back letters (leading s.prime d.entry.polynomial) d.right
        (over_back letters d.left (leading s.prime d.entry.polynomial ++ d.right) whole))

    pub starts_over : (τ : Monomial) → IsOver letters τ.left → IsOver letters τ.right
        → {f : Polynomial} {start : Start} → Starts s entries τ f start
        → WordsAre s (IsOver letters) f
    starts_over τ l r (Starts.at_generator i e) x n = inputs i x n
    starts_over τ l r (Starts.at_multiple not_unit w d best regular) x n =
        multiple_over w d (over_front letters d.left d.entry.signature.left
        (subst (λ σ. IsOver letters σ.left) (sym best.signed) l))
        (over_back letters d.entry.signature.right d.right
        (subst (λ σ. IsOver letters σ.right) (sym best.signed) r)) x n

    pub reduction_over : (set : Monomial → Type 0) → {f kept : Polynomial} {steps : List Step}
        → Reduction s entries set f kept steps → WordsAre s (IsOver letters) f
        → WordsAre s (IsOver letters) kept
    reduction_over set (Reduction.finished z) o x n = absurd (n (zero_number s.prime))
    reduction_over set (Reduction.subtract {f = f} w l d chosen c small q rest) o x n =
        reduction_over set rest (minus_are s (IsOver letters) f c (multiple_at s entries w d) o
        (divisor_over w d (o w l.nonzero))) x n
    reduction_over set (Reduction.keep {f = f} {kept = kept} w l none c e rest) o x n =
        more_are s (IsOver letters) c w kept (o w l.nonzero)
        (reduction_over set rest (minus_are s (IsOver letters) f 1
        (record { coefficient = c; key = w } ∷ []) o
        (more_are s (IsOver letters) c w [] (o w l.nonzero)
        (λ y m. absurd (m (zero_number s.prime)))))) x n

-- what holds of each candidate of a run holds of the signature of each listed syzygy
module _ (P : Problem) (A : Monomial → Type 0)
    (each : (n : ℕ) (state : State) (last : Option Monomial) → SequentialRun P n state last
    → (σ : Monomial) → IsCandidate P state σ → A σ) where
  pub syzygies_are : {n : ℕ} {state : State} {last : Option Monomial} → SequentialRun P n state last
      → (h : Syzygy) → Contains state.syzygies h → A h.signature
  syzygies_are SequentialRun.opened h c = absurd (omega (arith, c.1))
  syzygies_are (SequentialRun.handled {n = n} {state = state} {last = last} run τ next o k) h c =
      go (syzygies_are run) o c
    where
      go : ((g : Syzygy) → Contains state.syzygies g → A g.signature) → (o : Outcome)
          → Contains (state_after state τ o).syzygies h → A h.signature
      go old Outcome.covered d = old h d
      go old (Outcome.settled j) d = old h d
      go old (Outcome.an_entry f t) d = old h d
      go old (Outcome.a_syzygy t) d =
          each_pushed (λ g. A g.signature) state.syzygies (record { signature = τ; trace = t }) old
          (each n state last run τ next.candidate) h d

module _ (P : Problem) (field : IsField P.setting.prime) (letters : List Letter) (inputs : (i : ℕ)
    → WordsAre P.setting (IsOver letters) (generator P.setting i)) where
  pub candidate_over : (state : State)
      → ((e : Entry) → Contains state.entries e → ¬ IsZeroPolynomial P.setting e.polynomial)
      → AreOver P.setting letters state.entries → (σ : Monomial) → IsCandidate P state σ
      → IsOver letters σ.left × IsOver letters σ.right
  candidate_over state alive over σ (within, inl (i, e)) = (
    subst (λ ρ. IsOver letters ρ.left) (sym e) tt,
    subst (λ ρ. IsOver letters ρ.right) (sym e) tt,
  )
  candidate_over state alive over σ (within, inr (w, amb)) = (
    subst (λ ρ. IsOver letters ρ.left) amb.signed
        (over-append letters amb.high.left amb.high.entry.signature.left
        (ambiguity_left P.setting letters inputs state.entries alive over σ w amb)
        (over.left amb.high.entry amb.high.listed)),
    subst (λ ρ. IsOver letters ρ.right) amb.signed
        (over-append letters amb.high.entry.signature.right amb.high.right
        (over.right amb.high.entry amb.high.listed)
        (ambiguity_right P.setting letters inputs state.entries alive over σ w amb)),
  )

  over_step : (state : State) → ((e : Entry) → Contains state.entries e
      → ¬ IsZeroPolynomial P.setting e.polynomial) → AreOver P.setting letters state.entries
      → (τ : Monomial) → IsCandidate P state τ → {o : Outcome} → Handles P.setting state τ o
      → AreOver P.setting letters (state_after state τ o).entries
  over_step state alive over τ c (Handles.is_covered k) = over
  over_step state alive over τ c (Handles.is_settled n u w d b m) = over
  over_step state alive over τ c (Handles.is_syzygy n starts reduction) = over
  over_step state alive over τ c
      (Handles.is_entry n {kept = kept} {t = t} {start = start} {steps = steps} starts reduction) =
      record {
        left = each_pushed (λ e. IsOver letters e.signature.left) state.entries new over.left
            ends.0;
        right = each_pushed (λ e. IsOver letters e.signature.right) state.entries new over.right
            ends.1;
        words = each_pushed (λ e. WordsAre P.setting (IsOver letters) e.polynomial) state.entries
            new over.words (reduction_over P.setting letters inputs state.entries alive over
            (λ σ. IsLess P.setting σ τ) reduction
            (starts_over P.setting letters inputs state.entries alive over τ ends.0 ends.1 starts));
      }
    where
      new : Entry
      new = new_entry τ (t ∷ kept) (record { start = start; steps = steps })

      ends : IsOver letters τ.left × IsOver letters τ.right
      ends = candidate_over state alive over τ c

  -- so all of a run is over the letters of the generators
  pub run_over : {n : ℕ} {state : State} {last : Option Monomial} → SequentialRun P n state last
      → AreOver P.setting letters state.entries
  run_over SequentialRun.opened =
      record {
        left = λ e k. absurd (omega (arith, k.1));
        right = λ e k. absurd (omega (arith, k.1));
        words = λ e k. absurd (omega (arith, k.1));
      }
  run_over (SequentialRun.handled {state = state} {last = last} run τ next o h) =
      over_step state (invariant P field run).sound.nonzero (run_over run) τ next.candidate h

  -- ---- counting

  abbrev listed : List Monomial
  listed = monomials_within P.setting P.bound letters

  -- σ is at most the last one
  reached : Option Monomial → Monomial → Bool
  reached None σ = false
  reached (Some τ) σ = is_le (compare_monomials (generator_weight P.setting) σ τ)

  not_less : (σ τ : Monomial) → IsLess P.setting τ σ
      → is_le (compare_monomials (generator_weight P.setting) σ τ) ≡ false
  not_less σ τ l =
      ap is_le (compare_greater (compare_monomials (generator_weight P.setting))
      (IsMonomialLess (generator_weight P.setting))
      (monomials_compare (generator_weight P.setting))
      (monomial_irrefl (generator_weight P.setting)) (monomial_trans (generator_weight P.setting))
      σ τ l)

  less_is : (σ τ : Monomial) → IsLess P.setting σ τ
      → is_le (compare_monomials (generator_weight P.setting) σ τ) ≡ true
  less_is σ τ l =
      ap is_le (compare_less (compare_monomials (generator_weight P.setting))
      (IsMonomialLess (generator_weight P.setting))
      (monomials_compare (generator_weight P.setting))
      (monomial_irrefl (generator_weight P.setting)) (monomial_trans (generator_weight P.setting))
      σ τ l)

  itself : (τ : Monomial) → is_le (compare_monomials (generator_weight P.setting) τ τ) ≡ true
  itself τ =
      ap is_le (compare_same (compare_monomials (generator_weight P.setting))
      (IsMonomialLess (generator_weight P.setting))
      (monomials_compare (generator_weight P.setting))
      (monomial_irrefl (generator_weight P.setting)) (monomial_trans (generator_weight P.setting))
      τ)

  at_most : (σ τ : Monomial) → is_le (compare_monomials (generator_weight P.setting) σ τ) ≡ true
      → (σ ≡ τ) ⊎ IsLess P.setting σ τ
  at_most σ τ e =
      go (compare_monomials (generator_weight P.setting) σ τ)
      (monomials_compare (generator_weight P.setting) σ τ) e
    where
      go : (o : Ordering) → MatchOrdering o (IsLess P.setting σ τ) (σ ≡ τ) (IsLess P.setting τ σ)
          → is_le o ≡ true → (σ ≡ τ) ⊎ IsLess P.setting σ τ
      go Less m d = inr m
      go Equal m d = inl m
      go Greater m d = absurd (false≢true d)

  unreached : (last : Option Monomial) (τ : Monomial) → IsAfter P last τ → reached last τ ≡ false
  unfolding reached
  unreached None τ a = refl
  unreached (Some ρ) τ a = not_less τ ρ a

  more : (last : Option Monomial) (τ : Monomial) → IsAfter P last τ → (σ : Monomial)
      → reached last σ ≡ true → reached (Some τ) σ ≡ true
  unfolding reached
  more None τ a σ e = absurd (false≢true e)
  more (Some ρ) τ a σ e = go (at_most σ ρ e)
    where
      go : (σ ≡ ρ) ⊎ IsLess P.setting σ ρ
          → is_le (compare_monomials (generator_weight P.setting) σ τ) ≡ true
      go (inl i) = less_is σ τ (subst (λ κ. IsLess P.setting κ τ) (sym i) a)
      go (inr l) = less_is σ τ ((monomial_laws (generator_weight P.setting)).trans σ ρ τ l a)

  one_more : (last : Option Monomial) (τ : Monomial) → IsAfter P last τ → Among τ listed
      → how_many (reached last) listed < how_many (reached (Some τ)) listed
  unfolding reached
  one_more last τ a k =
      strictly_fewer (reached last) (reached (Some τ)) (more last τ a) τ listed k
      (unreached last τ a) (itself' τ)
    where
      itself' : (τ : Monomial) → reached (Some τ) τ ≡ true
      itself' τ = itself τ

  candidate_listed : {n : ℕ} {state : State} {last : Option Monomial} → SequentialRun P n state last
      → (σ : Monomial) → IsCandidate P state σ → Among σ listed
  candidate_listed {state = state} run σ c =
      let o : IsOver letters σ.left × IsOver letters σ.right =
      candidate_over state (invariant P field run).sound.nonzero (run_over run) σ c in
      in_within P.setting P.bound letters σ c.0 o.0 o.1

  steps_reached : {n : ℕ} {state : State} {last : Option Monomial} → SequentialRun P n state last
      → n ≤ how_many (reached last) listed
  steps_reached SequentialRun.opened = omega arith
  steps_reached (SequentialRun.handled {last = last} run τ next o h) =
      omega (
        arith,
        steps_reached run,
        one_more last τ next.left (candidate_listed run τ next.candidate),
      )

  pub steps_limited : {n : ℕ} {state : State} {last : Option Monomial}
      → SequentialRun P n state last → n ≤ length listed
  steps_limited {last = last} run =
      omega (arith, steps_reached run, at_most_length (reached last) listed)

  -- where a candidate is left, there were fewer steps
  pub fewer_steps : {n : ℕ} {state : State} {last : Option Monomial} → SequentialRun P n state last
      → (τ : Monomial) → IsNext P state last τ → n < length listed
  fewer_steps {last = last} run τ next =
      omega (
        arith,
        steps_reached run,
        one_more last τ next.left (candidate_listed run τ next.candidate),
        at_most_length (reached (Some τ)) listed,
      )

  pub enough_steps : length listed ≤ P.steps → {n : ℕ} {state : State} {end : End}
      → IsEnd P n state end → end ≡ End.complete
  enough_steps l (IsEnd.is_complete h run none) = refl
  enough_steps l (IsEnd.is_budget e run τ next) =
      absurd (omega (arith, e, l, fewer_steps run τ next))
