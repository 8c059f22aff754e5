-- A reduction has one value, a signature one outcome, and a run one state at each number.
-- `reduction_unique` speaks of equal polynomials, whose lists may differ: the chosen divisor is
-- unique (`chosen_same`), its coefficient is a residue that is determined by a product
-- (`residue_same`), and what is left of both is equal again.
use Rattle.nc_algebra.proofs.Leading.{lead_leads}
use Rattle.nc_algebra.proofs.Monomials.{monomial_laws}
use Rattle.nc_algebra.proofs.Orders.{least_same}
use Rattle.nc_algebra.proofs.Words.{cut, word_irrefl, word_trans}
use Rattle.nc_algebra.specs.Elements.{IsLess, IsZeroPolynomial, SamePolynomial, Setting, generator, generator_weight}
use Rattle.nc_algebra.specs.Monomials.{Monomial, unit_monomial}
use Rattle.nc_algebra.specs.Polynomials.{Polynomial, coefficient, leading, polynomial_times}
use Rattle.nc_algebra.specs.Primes.{IsField, IsZero}
use Rattle.nc_algebra.specs.Problems.{Problem}
use Rattle.nc_algebra.specs.Sums.{minus}
use Rattle.nc_algebra.specs.Words.{IsWordLess, Word}
use Rattle.nc_theory.proofs.Chains.{same_lead, same_minus, times_mod}
use Rattle.nc_theory.proofs.Completeness.{invariant}
use Rattle.nc_theory.proofs.Relisted.{respelled}
use Rattle.nc_theory.specs.Divisors.{Divisor, IsBestMultiple, IsChosenDivisor, RegularDivisor, multiple_at, signature_at}
use Rattle.nc_theory.specs.Reductions.{Reduction}
use Rattle.nc_theory.specs.Runs.{Handles, IsNext, Outcome, SequentialRun, Starts, state_after}
use Rattle.nc_theory.specs.States.{Entry, Start, State, Step}
use Rattle.std.proofs.Common.{◌≡◌, ℕ, ◌+◌, ◌*◌, ◌%◌, ◌<◌, ◌≤◌, ◌⊎◌, ◌≢◌, List, [], ◌∷◌, ◌++◌, length, refl, sym, ap, ap₂, ◌∙◌, subst, subst₂, inl, inr, arith, Contains, Option, Some, length-append, get_or, append-nil}
use Rattle.std.proofs.lemmas.List.{get_or_default, append_cancel_left, append_cancel_right}
use Rattle.std.proofs.Math.Nat.{mod-eq_of_lt, mul-one}
use Rattle.std.proofs.lemmas.Nat.{mul-mod_first}

-- one number names one element
pub listed_same : {X : Type 0} (xs : List X) (x y : X) (a : Contains xs x) (b : Contains xs y)
    → a.0 ≡ b.0 → x ≡ y
listed_same xs x y a b e =
    sym a.2 ∙ (get_or_default xs a.0 x y a.1 ∙ (ap (λ n. get_or xs n y) e ∙ b.2))

nil_by_length : (r : Word) → length r ≡ 0 → r ≡ []
nil_by_length [] e = refl
nil_by_length (x ∷ r) e = absurd (omega arith)

pub fronts_same : (a b c d : Word) → a ++ b ≡ c ++ d → length a ≡ length c → a ≡ c
fronts_same a b c d e l = go (cut a b c d e (omega (arith, l)))
  where
    go : (r : Word) × (c ≡ a ++ r) × (b ≡ r ++ d) → a ≡ c
    go (r, f, g) =
        sym (f ∙ (ap (λ z. a ++ z) (nil_by_length r
        (omega (arith, l, ap length f, length-append a r))) ∙ append-nil a))

module _ (s : Setting) (field : IsField s.prime) (entries : List Entry) where
  -- two divisors of one word under one number and at one place
  pub parts_same : (w : Word) (d e : Divisor s entries w) → d.listed.0 ≡ e.listed.0
      → d.left ≡ e.left → (d.entry ≡ e.entry) × (d.right ≡ e.right)
  parts_same w d e k l = (
    entry,
    append_cancel_left (leading s.prime d.entry.polynomial) d.right e.right
        (append_cancel_left d.left (leading s.prime d.entry.polynomial ++ d.right)
        (leading s.prime d.entry.polynomial ++ e.right)
        (d.spells ∙ (sym e.spells ∙ ap₂ (λ a x. a ++ (leading s.prime x.polynomial ++ e.right))
        (sym l) (sym entry)))),
  )
    where
      entry : d.entry ≡ e.entry
      entry = listed_same entries d.entry e.entry d.listed e.listed k

  multiple_same : (w : Word) (d e : Divisor s entries w) → d.listed.0 ≡ e.listed.0 → d.left ≡ e.left
      → multiple_at s entries w d ≡ multiple_at s entries w e
  multiple_same w d e k l =
      let t : (d.entry ≡ e.entry) × (d.right ≡ e.right) =
      parts_same w d e k l in (λ i. polynomial_times (l i) (t.0 i).polynomial (t.1 i))

  pub chosen_same : (set : Monomial → Type 0) (w : Word) (d e : Divisor s entries w)
      → IsChosenDivisor s entries set w d → IsChosenDivisor s entries set w e
      → (d.listed.0 ≡ e.listed.0) × (d.left ≡ e.left)
  chosen_same set w d e c c' = go (c.least e c'.allowed) (c'.least d c.allowed)
    where
      go : (d.listed.0 + 1 < e.listed.0 + 1)
          ⊎ ((d.listed.0 + 1 ≡ e.listed.0 + 1) × (length d.left ≤ length e.left))
          → (e.listed.0 + 1 < d.listed.0 + 1)
          ⊎ ((e.listed.0 + 1 ≡ d.listed.0 + 1) × (length e.left ≤ length d.left))
          → (d.listed.0 ≡ e.listed.0) × (d.left ≡ e.left)
      go (inl l) (inl m) = absurd (omega arith)
      go (inl l) (inr m) = absurd (omega (arith, m.0))
      go (inr l) (inl m) = absurd (omega (arith, l.0))
      go (inr (l, a)) (inr (m, b)) = (
        omega (arith, l),
        fronts_same d.left (leading s.prime d.entry.polynomial ++ d.right)
            e.left (leading s.prime e.entry.polynomial ++ e.right) (d.spells ∙ sym e.spells)
            (omega (arith, a, b)),
      )

  -- a residue is known by its product with a number that is not zero
  residue_same : (l c c' : ℕ) → ¬ IsZero s.prime l → c < s.prime → c' < s.prime
      → c * l % s.prime ≡ c' * l % s.prime → c ≡ c'
  residue_same l c c' n a b e = go (field.inverse l n)
    where
      go : (i : ℕ) × (l * i % s.prime ≡ 1) → c ≡ c'
      go (i, q) =
          sym (mod-eq_of_lt a) ∙ (undone c
          ∙ (sym (mul-mod_first (c * l) i s.prime)
          ∙ (ap (λ m. m * i % s.prime) e
          ∙ (mul-mod_first (c' * l) i s.prime ∙ (sym (undone c') ∙ mod-eq_of_lt b)))))
        where
          undone : (k : ℕ) → k % s.prime ≡ k * l * i % s.prime
          undone k =
              sym (ap (λ m. m % s.prime) (omega arith)
              ∙ (times_mod s.prime k (l * i) 1 (q ∙ sym (mod-eq_of_lt field.above_one))
              ∙ ap (λ m. m % s.prime) (mul-one k)))

  -- equal polynomials have one reduction
  pub reduction_unique : (nonzero : (e : Entry) → Contains entries e
      → ¬ IsZeroPolynomial s e.polynomial) (set : Monomial → Type 0)
      → {f kept : Polynomial} {steps : List Step} → Reduction s entries set f kept steps
      → {f' kept' : Polynomial} {steps' : List Step} → Reduction s entries set f' kept' steps'
      → SamePolynomial s f f' → (kept ≡ kept') × (steps ≡ steps')
  reduction_unique nonzero set (Reduction.finished n) (Reduction.finished n') e = (refl, refl)
  reduction_unique nonzero set (Reduction.finished n) (Reduction.subtract w d v c' k small q rest)
      e = absurd (d.nonzero (sym (e.at w) ∙ n w))
  reduction_unique nonzero set (Reduction.finished n) (Reduction.keep w d any k q rest) e =
      absurd (d.nonzero (sym (e.at w) ∙ n w))
  reduction_unique nonzero set (Reduction.subtract w d v c k small q rest) (Reduction.finished n)
      e = absurd (d.nonzero (e.at w ∙ n w))
  reduction_unique nonzero set (Reduction.keep w d any k q rest) (Reduction.finished n) e =
      absurd (d.nonzero (e.at w ∙ n w))
  reduction_unique nonzero set (Reduction.subtract {f = f} w d v chosen k small q rest)
      (Reduction.keep {f = f'} w' d' any k' q' rest') e =
      absurd (any (respelled v (same_lead s f f' w w' e d d')) chosen.allowed)
  reduction_unique nonzero set (Reduction.keep {f = f} w d any k q rest)
      (Reduction.subtract {f = f'} w' d' v chosen k' small q' rest') e =
      absurd (any (respelled v (sym (same_lead s f f' w w' e d d'))) chosen.allowed)
  reduction_unique nonzero set (Reduction.keep {f = f} {kept = kept} {steps = steps} w d any k q
      rest) (Reduction.keep {f = f'} {kept = kept'} {steps = steps'} w' d' any' k' q' rest') e =
      join (reduction_unique nonzero set rest rest' next)
    where
      ww : w ≡ w'
      ww = same_lead s f f' w w' e d d'

      kk : k ≡ k'
      kk = q ∙ (e.at w ∙ (ap (λ x. coefficient f' x % s.prime) ww ∙ sym q'))

      next : SamePolynomial s (minus s.prime f 1 (record { coefficient = k; key = w } ∷ []))
          (minus s.prime f' 1 (record { coefficient = k'; key = w' } ∷ []))
      next = subst₂ (λ c x. SamePolynomial s
          (minus s.prime f 1 (record { coefficient = k; key = w } ∷ []))
          (minus s.prime f' 1 (record { coefficient = c; key = x } ∷ []))) kk ww
          (same_minus s f f' 1 (record { coefficient = k; key = w } ∷ []) e)

      join : (kept ≡ kept') × (steps ≡ steps')
          → (◌≡◌ {A = Polynomial} (record { coefficient = k; key = w } ∷ kept)
          (record { coefficient = k'; key = w' } ∷ kept')) × (steps ≡ steps')
      join (a, b) = (λ i. record { coefficient = kk i; key = ww i } ∷ a i, b)
  reduction_unique nonzero set (Reduction.subtract {f = f} {kept = kept} {steps = steps} w d v
      chosen k small q rest) (Reduction.subtract {f = f'} {kept = kept'} {steps = steps'} w' d' v'
      chosen' k' small' q' rest') e = join (reduction_unique nonzero set rest rest' next)
    where
      ww : w ≡ w'
      ww = same_lead s f f' w w' e d d'

      -- the other divisor, as one of w
      v'' : Divisor s entries w
      v'' = respelled v' (sym ww)

      place : (v.listed.0 ≡ v'.listed.0) × (v.left ≡ v'.left)
      place = chosen_same set w v v'' chosen
          (record {
            allowed = chosen'.allowed;
            least = λ g a. chosen'.least (respelled g ww) a;
          })

      parts : (v.entry ≡ v'.entry) × (v.right ≡ v'.right)
      parts = parts_same w v v'' place.0 place.1

      kk : k ≡ k'
      kk = residue_same (coefficient v.entry.polynomial (leading s.prime v.entry.polynomial)) k k'
          (lead_leads s.prime v.entry.polynomial (nonzero v.entry v.listed)).nonzero small small'
          (q ∙ (e.at w ∙ (ap (λ x. coefficient f' x % s.prime) ww
          ∙ (sym q' ∙ ap (λ x. k' * coefficient x.polynomial (leading s.prime x.polynomial)
          % s.prime) (sym parts.0)))))

      next : SamePolynomial s (minus s.prime f k (multiple_at s entries w v))
          (minus s.prime f' k' (multiple_at s entries w' v'))
      next = subst₂ (λ c g. SamePolynomial s (minus s.prime f k (multiple_at s entries w v))
          (minus s.prime f' c g)) kk (multiple_same w v v'' place.0 place.1)
          (same_minus s f f' k (multiple_at s entries w v) e)

      join : (kept ≡ kept') × (steps ≡ steps') → (kept ≡ kept')
          × ◌≡◌ {A = List Step} (record {
            coefficient = k;
            left = v.left;
            number = v.listed.0 + 1;
            right = v.right;
          } ∷ steps)
          (record { coefficient = k'; left = v'.left; number = v'.listed.0 + 1; right = v'.right }
          ∷ steps')
      join (a, b) = (
        a,
        λ i. record {
          coefficient = kk i;
          left = place.1 i;
          number = place.0 i + 1;
          right = parts.1 i;
        } ∷ b i,
      )

  best_same : (τ : Monomial) (w : Word) (d : Divisor s entries w) (w' : Word)
      (e : Divisor s entries w') → IsBestMultiple s entries τ w d → IsBestMultiple s entries τ w' e
      → (w ≡ w') × (d.listed.0 ≡ e.listed.0) × (d.left ≡ e.left) × (d.right ≡ e.right)
      × (d.entry ≡ e.entry)
  best_same τ w d w' e b b' = go (b.least w' e b'.signed) (b'.least w d b.signed)
    where
      all : (w ≡ w') → (d.listed.0 ≡ e.listed.0) → (w ≡ w') × (d.listed.0 ≡ e.listed.0)
          × (d.left ≡ e.left) × (d.right ≡ e.right) × (d.entry ≡ e.entry)
      all i k =
          let entry : d.entry ≡ e.entry =
          listed_same entries d.entry e.entry d.listed e.listed k in (
            i,
            k,
            append_cancel_right d.left e.left d.entry.signature.left
                (ap (λ σ. σ.left) (b.signed ∙ sym b'.signed)
                ∙ ap (λ x. e.left ++ x.signature.left) (sym entry)),
            append_cancel_left d.entry.signature.right d.right e.right
                (ap (λ σ. σ.right) (b.signed ∙ sym b'.signed)
                ∙ ap (λ x. x.signature.right ++ e.right)
                (sym entry)),
            entry,
          )

      go : IsWordLess w w' ⊎ ((w ≡ w') × (d.listed.0 + 1 ≤ e.listed.0 + 1)) → IsWordLess w' w
          ⊎ ((w' ≡ w) × (e.listed.0 + 1 ≤ d.listed.0 + 1)) → (w ≡ w') × (d.listed.0 ≡ e.listed.0)
          × (d.left ≡ e.left) × (d.right ≡ e.right) × (d.entry ≡ e.entry)
      go (inl l) (inl m) = absurd (word_irrefl w (word_trans w w' w l m))
      go (inl l) (inr (i, n)) = absurd (word_irrefl w (subst (IsWordLess w) i l))
      go (inr (i, n)) (inl m) = absurd (word_irrefl w (subst (λ x. IsWordLess x w) (sym i) m))
      go (inr (i, n)) (inr (j, m)) = all i (omega (arith, n, m))

  pub starts_unique : (τ : Monomial) → {f : Polynomial} {a : Start} → Starts s entries τ f a
      → {f' : Polynomial} {a' : Start} → Starts s entries τ f' a' → (f ≡ f') × (a ≡ a')
  starts_unique τ (Starts.at_generator i e) (Starts.at_generator j e') =
      let k : i ≡ j =
      ap (λ σ. σ.generator) (sym e ∙ e') in (ap (generator s) k, ap Start.a_generator k)
  starts_unique τ (Starts.at_generator i e) (Starts.at_multiple n w d b r) = absurd (n i e)
  starts_unique τ (Starts.at_multiple n w d b r) (Starts.at_generator i e) = absurd (n i e)
  starts_unique τ (Starts.at_multiple n w d b r) (Starts.at_multiple n' w' d' b' r') =
      go (best_same τ w d w' d' b b')
    where
      go : (w ≡ w') × (d.listed.0 ≡ d'.listed.0) × (d.left ≡ d'.left) × (d.right ≡ d'.right)
          × (d.entry ≡ d'.entry) → (multiple_at s entries w d ≡ multiple_at s entries w' d')
          × (Start.a_multiple d.left (d.listed.0 + 1) d.right ≡ Start.a_multiple d'.left
          (d'.listed.0 + 1) d'.right)
      go (i, k, l, r, x) = (
        λ j. polynomial_times (l j) (x j).polynomial (r j),
        λ j. Start.a_multiple (l j) (k j + 1) (r j),
      )

module _ (s : Setting) (field : IsField s.prime) (state : State) (nonzero : (e : Entry)
    → Contains state.entries e → ¬ IsZeroPolynomial s e.polynomial) (τ : Monomial) where
  regular_same : (w w' : Word) → w ≡ w' → RegularDivisor s state.entries τ w
      → RegularDivisor s state.entries τ w'
  regular_same w w' e r = subst (RegularDivisor s state.entries τ) e r

  not_settled : {f : Polynomial} {a : Start} → Starts s state.entries τ f a
      → ((i : ℕ) → τ ≢ unit_monomial i) → (w : Word) (d : Divisor s state.entries w)
      → IsBestMultiple s state.entries τ w d → ¬ RegularDivisor s state.entries τ w → ⊥
  not_settled (Starts.at_generator i e) n w d b none = n i e
  not_settled (Starts.at_multiple m w' d' b' r) n w d b none =
      none (regular_same w' w (sym (best_same s field state.entries τ w d w' d' b b').0) r)

  pub handles_unique : {o : Outcome} → Handles s state τ o → {o' : Outcome} → Handles s state τ o'
      → o ≡ o'
  handles_unique (Handles.is_covered k) (Handles.is_covered k') = refl
  handles_unique (Handles.is_covered k) (Handles.is_settled n u w d b m) = absurd (n k)
  handles_unique (Handles.is_covered k) (Handles.is_syzygy n starts red) = absurd (n k)
  handles_unique (Handles.is_covered k) (Handles.is_entry n starts red) = absurd (n k)
  handles_unique (Handles.is_settled n u w d b m) (Handles.is_covered k) = absurd (n k)
  handles_unique (Handles.is_settled n u w d b m) (Handles.is_settled n' u' w' d' b' m') =
      ap (λ k. Outcome.settled (k + 1)) (best_same s field state.entries τ w d w' d' b b').1
  handles_unique (Handles.is_settled n u w d b m) (Handles.is_syzygy n' starts red) =
      absurd (not_settled starts u w d b m)
  handles_unique (Handles.is_settled n u w d b m) (Handles.is_entry n' starts red) =
      absurd (not_settled starts u w d b m)
  handles_unique (Handles.is_syzygy n starts red) (Handles.is_covered k) = absurd (n k)
  handles_unique (Handles.is_syzygy n starts red) (Handles.is_settled n' u w d b m) =
      absurd (not_settled starts u w d b m)
  handles_unique (Handles.is_syzygy n starts red) (Handles.is_syzygy n' starts' red') =
      let t = starts_unique s field state.entries τ starts starts' in
      λ i. Outcome.a_syzygy (record {
        start = t.1 i;
        steps = (reduction_unique s field state.entries nonzero (λ σ. IsLess s σ τ) red red'
            (record { at = λ y. ap (λ g. coefficient g y % s.prime) t.0 })).1 i;
      })
  handles_unique (Handles.is_syzygy n starts red) (Handles.is_entry n' starts' red') =
      let t = starts_unique s field state.entries τ starts starts' in let e =
      (reduction_unique s field state.entries nonzero (λ σ. IsLess s σ τ) red red'
      (record { at = λ y. ap (λ g. coefficient g y % s.prime) t.0 })).0 in let none : ⊥ =
      cc in absurd none
  handles_unique (Handles.is_entry n starts red) (Handles.is_covered k) = absurd (n k)
  handles_unique (Handles.is_entry n starts red) (Handles.is_settled n' u w d b m) =
      absurd (not_settled starts u w d b m)
  handles_unique (Handles.is_entry n starts red) (Handles.is_syzygy n' starts' red') =
      let t = starts_unique s field state.entries τ starts starts' in let e =
      (reduction_unique s field state.entries nonzero (λ σ. IsLess s σ τ) red red'
      (record { at = λ y. ap (λ g. coefficient g y % s.prime) t.0 })).0 in let none : ⊥ =
      cc in absurd none
  handles_unique (Handles.is_entry n starts red) (Handles.is_entry n' starts' red') =
      let t = starts_unique s field state.entries τ starts starts' in let r =
      reduction_unique s field state.entries nonzero (λ σ. IsLess s σ τ) red red'
      (record { at = λ y. ap (λ g. coefficient g y % s.prime) t.0 }) in
      λ i. Outcome.an_entry (r.0 i) (record { start = t.1 i; steps = r.1 i })

pub next_unique : (P : Problem) (state : State) (last : Option Monomial) (τ τ' : Monomial)
    → IsNext P state last τ → IsNext P state last τ' → τ ≡ τ'
next_unique P state last τ τ' a b =
    least_same (monomial_laws (generator_weight P.setting)) τ τ'
    (a.least τ' b.candidate b.left) (b.least τ a.candidate a.left)

-- a run has one state at each number
pub run_unique : (P : Problem) → IsField P.setting.prime
    → {n : ℕ} {state : State} {last : Option Monomial} → SequentialRun P n state last
    → {state' : State} {last' : Option Monomial} → SequentialRun P n state' last' → (state ≡ state')
    × (last ≡ last')
run_unique P field SequentialRun.opened SequentialRun.opened = (refl, refl)
run_unique P field (SequentialRun.handled {state = state} {last = last} before τ next o h)
    (SequentialRun.handled {state = state'} {last = last'} before' τ' next' o' h') =
    join (run_unique P field before before')
  where
    join : (state ≡ state') × (last ≡ last') → (state_after state τ o ≡ state_after state' τ' o')
        × (Some τ ≡ Some τ')
    join (a, b) = (λ i. state_after (a i) (t i) (q i), λ i. Some (t i))
      where
        t : τ ≡ τ'
        t = next_unique P state last τ τ' next
            (subst₂ (λ x y. IsNext P x y τ') (sym a) (sym b) next')

        q : o ≡ o'
        q = handles_unique P.setting field state (invariant P field before).sound.nonzero τ h
            (subst₂ (λ x y. Handles P.setting x y o') (sym a) (sym t) h')

-- one entry's multiple with signature τ has one word, and stands at one place
pub one_multiple : (s : Setting) (entries : List Entry) (τ : Monomial) (w v : Word)
    (d : Divisor s entries w) (e : Divisor s entries v) → signature_at s entries w d ≡ τ
    → signature_at s entries v e ≡ τ → d.listed.0 ≡ e.listed.0 → (w ≡ v) × (d.left ≡ e.left)
    × (d.right ≡ e.right) × (d.entry ≡ e.entry)
one_multiple s entries τ w v d e i j k = (
  sym d.spells ∙ (ap₂ (λ a b. a ++ (leading s.prime d.entry.polynomial ++ b)) left right
      ∙ (ap (λ x. e.left ++ (leading s.prime x.polynomial ++ e.right)) entry ∙ e.spells)),
  left,
  right,
  entry,
)
  where
    entry : d.entry ≡ e.entry
    entry = listed_same entries d.entry e.entry d.listed e.listed k

    left : d.left ≡ e.left
    left = append_cancel_right d.left e.left d.entry.signature.left (ap (λ σ. σ.left) (i ∙ sym j)
        ∙ ap (λ x. e.left ++ x.signature.left) (sym entry))

    right : d.right ≡ e.right
    right = append_cancel_left d.entry.signature.right d.right e.right
        (ap (λ σ. σ.right) (i ∙ sym j) ∙ ap (λ x. x.signature.right ++ e.right) (sym entry))
