-- The signatures that wait: at first, the least one, and after it was handled.
-- What waits is what is left of the candidates, so the least of it is the next signature
-- (`first_next`). What the outcome brings is greater, so that one is still the first after the
-- insertion, and the rest is what waits then (`left_later`).
use Rattle.nc_algebra.specs.Elements.{HasDegree, IsLess, generator_weight}
use Rattle.nc_algebra.specs.Monomials.{Monomial, Sig, compare_sigs, monomial_of, sig_of, unit_monomial}
use Rattle.nc_algebra.specs.Primes.{IsPrime}
use Rattle.nc_algebra.specs.Problems.{IsWithin, Problem}
use Rattle.nc_desk.proofs.Lists.{first_less, not_both, other_others, others_other}
use Rattle.nc_desk.specs.Steps.{IsBrought}
use Rattle.nc_module.proofs.Bounds.{less_from_sigs, sigs_from_less}
use Rattle.nc_queue.specs.Queues.{IsAscending, IsUnitWithin}
use Rattle.nc_theory.proofs.UntracedRuns.{same_run}
use Rattle.nc_theory.proofs.UntracedStates.{moved_candidate}
use Rattle.nc_theory.proofs.UntracedSteps.{goes_on}
use Rattle.nc_theory.specs.UntracedLaws.{GoesOn}
use Rattle.nc_theory.specs.Untraced.{IsNextOfRun, IsRunTo, untraced}
use Rattle.nc_theory.proofs.Determinism.{run_unique}
use Rattle.nc_theory.specs.Ambiguities.{Ambiguity}
use Rattle.nc_theory.specs.Runs.{BringsAmbiguity, Handles, IsAfter, IsCandidate, IsNext, IsWaiting, NoneWaits, Outcome, opening, state_after}
use Rattle.nc_theory.specs.States.{State}
use Rattle.nc_algebra.proofs.Primes.{field_from_prime}
use Rattle.nc_algebra.specs.Words.{Word}
use Rattle.std.proofs.Common.{Contains, Less, List, None, Option, Some, [], ap, arith, inl, inr, refl, subst, sym, ℕ, ◌+◌, ◌∙◌, ◌∷◌, ◌≡◌, ◌≢◌, ◌↔◌, ◌⊎◌}

-- ---- at first

pub left_at_first : (P : Problem) (ws : List Sig) → ((σ : Sig) → Contains ws σ ↔ IsUnitWithin P σ)
    → (σ : Sig) → Contains ws σ ↔ (HasDegree P.setting σ × IsWaiting P opening None (monomial_of σ))
left_at_first P ws units σ =
    (λ c. there ((units σ).0 c), λ w. (units σ).1 (back w.0 w.1.0.0 w.1.0.1))
  where
    there : IsUnitWithin P σ → HasDegree P.setting σ × IsWaiting P opening None (monomial_of σ)
    there (i, (within, e)) =
        let m : monomial_of σ ≡ unit_monomial i = ap monomial_of e in (
          e ∙ ap (sig_of (generator_weight P.setting)) (sym m),
          ((subst (IsWithin P) (sym m) within, inl (i, m)), tt),
        )

    nothing : (w : Word) → Ambiguity P.setting [] (monomial_of σ) w → ⊥
    nothing w a = omega (arith, a.high.listed.1)

    back : HasDegree P.setting σ → IsWithin P (monomial_of σ)
        → ((i : ℕ) × (monomial_of σ ≡ unit_monomial i))
        ⊎ ((w : Word) × Ambiguity P.setting [] (monomial_of σ) w) → IsUnitWithin P σ
    back h within (inl (i, m)) =
        (i, (subst (IsWithin P) m within, h ∙ ap (sig_of (generator_weight P.setting)) m))
    back h within (inr (w, a)) = absurd (nothing w a)

-- ---- later

module _ (P : Problem) (n : ℕ) (state : State) (last : Option Monomial) (ws : List Sig)
    (exact : (σ : Sig) → Contains ws σ
    ↔ (HasDegree P.setting σ × IsWaiting P state last (monomial_of σ))) where
  abbrev sig_at : Monomial → Sig
  sig_at ρ = sig_of (generator_weight P.setting) ρ

  listed : (ρ : Monomial) → IsCandidate P state ρ → IsAfter P last ρ → Contains ws (sig_at ρ)
  listed ρ c a = (exact (sig_at ρ)).1 (refl, (c, a))

  -- the first one is the next signature
  pub first_next : IsAscending ws → (σ : Sig) (others : List Sig) → ws ≡ σ ∷ others
      → HasDegree P.setting σ × IsNext P state last (monomial_of σ)
  first_next ascending σ others e =
      let c = (exact σ).0 (subst (λ l. Contains l σ) (sym e) (0, omega arith, refl)) in (
        c.0,
        record {
          candidate = c.1.0;
          left = c.1.1;
          least = λ ρ k a. go c.0 ρ
              (first_less σ others (subst IsAscending e ascending) (sig_at ρ)
              (subst (λ l. Contains l (sig_at ρ)) e (listed ρ k a)));
        },
      )
    where
      go : HasDegree P.setting σ → (ρ : Monomial) → (sig_at ρ ≡ σ)
          ⊎ (compare_sigs σ (sig_at ρ) ≡ Less) → (ρ ≡ monomial_of σ)
          ⊎ IsLess P.setting (monomial_of σ) ρ
      go h ρ (inl i) = inl (ap monomial_of i)
      go h ρ (inr l) = inr (less_from_sigs P.setting σ (sig_at ρ) h refl l)

  -- where none waits
  pub none_left : ws ≡ [] → NoneWaits P state last
  none_left e ρ c a = omega (arith, (subst (λ l. Contains l (sig_at ρ)) e (listed ρ c a)).1)

  pub none_next : ws ≡ [] → IsPrime P.setting.prime → IsRunTo P n state last → (τ : Monomial)
      → ¬ IsNextOfRun P n state τ
  none_next e prime r τ x =
      let same : x.last ≡ last =
      (run_unique P (field_from_prime P.setting.prime prime) x.runs r.runs).1 in
      none_left e τ (moved_candidate P x.run state (sym (same_run state x.run x.stands)) τ
      x.next.candidate) (subst (λ l. IsAfter P l τ) same x.next.left)

  -- ---- after the first one was handled, and what it brings was added

  module _ (prime : IsPrime P.setting.prime) (r : IsRunTo P n state last)
      (ascending : IsAscending ws) (σ : Sig) (others : List Sig) (is : ws ≡ σ ∷ others)
      (o : Outcome) (handles : Handles P.setting state (monomial_of σ) o)
      (new : List Sig) (new_ascending : IsAscending new) (added : (q : Sig) → Contains new q
      ↔ (Contains ws q ⊎ IsBrought P state (monomial_of σ) o q)) (first : Sig)
      (rest : List Sig) (taken : new ≡ first ∷ rest) where
    goes : GoesOn P n state last
    goes = goes_on P prime n state last r

    abbrev tau : Monomial
    tau = monomial_of σ

    degree : HasDegree P.setting σ
    degree = (first_next ascending σ others is).0

    next : IsNext P state last (monomial_of σ)
    next = (first_next ascending σ others is).1

    pub later_run : IsRunTo P (n + 1) (untraced (state_after state (monomial_of σ) o))
        (Some (monomial_of σ))
    later_run = goes.step (monomial_of σ) o next handles

    greater : (q : Sig) → IsBrought P state (monomial_of σ) o q → compare_sigs σ q ≡ Less
    greater q b =
        sigs_from_less P.setting σ q degree b.0
        (goes.ascends (monomial_of σ) o next handles (monomial_of q) b.2)

    has_first : Contains new σ
    has_first = (added σ).1 (inl (subst (λ l. Contains l σ) (sym is) (0, omega arith, refl)))

    one : first ≡ σ
    one = go (first_less first rest (subst IsAscending taken new_ascending) σ
        (subst (λ l. Contains l σ) taken has_first))
        ((added first).0 (subst (λ l. Contains l first) (sym taken) (0, omega arith, refl)))
      where
        old : compare_sigs first σ ≡ Less → (first ≡ σ) ⊎ (compare_sigs σ first ≡ Less) → first ≡ σ
        old l (inl e) = e
        old l (inr k) = absurd (not_both first σ l k)

        go : (σ ≡ first) ⊎ (compare_sigs first σ ≡ Less) → Contains ws first
            ⊎ IsBrought P state (monomial_of σ) o first → first ≡ σ
        go (inl e) c = sym e
        go (inr l) (inl c) =
            old l (first_less σ others (subst IsAscending is ascending) first
            (subst (λ s. Contains s first) is c))
        go (inr l) (inr b) = absurd (not_both first σ l (greater first b))

    other_monomial : (q : Sig) → HasDegree P.setting q → q ≢ first → monomial_of q ≢ monomial_of σ
    other_monomial q h n e =
        n (h ∙ (ap (sig_of (generator_weight P.setting)) e ∙ (sym degree ∙ sym one)))

    pub left_later : (q : Sig) → Contains rest q
        ↔ (HasDegree P.setting q × IsWaiting P (untraced (state_after state (monomial_of σ) o))
        (Some (monomial_of σ)) (monomial_of q))
    left_later q = (
      λ c. let t = others_other first rest (subst IsAscending taken new_ascending) q c in
          there t.1 ((added q).0 (subst (λ l. Contains l q) (sym taken) t.0)),
      λ w. back w.0 (law.0 w.1),
    )
      where
        law : IsWaiting P (untraced (state_after state (monomial_of σ) o)) (Some (monomial_of σ))
            (monomial_of q) ↔ ((IsWaiting P state last (monomial_of q)
            × (monomial_of q ≢ monomial_of σ))
            ⊎ (IsWithin P (monomial_of q) × BringsAmbiguity P.setting state (monomial_of σ) o
            (monomial_of q)))
        law = goes.waits (monomial_of σ) o next handles (monomial_of q)

        there : q ≢ first → Contains ws q ⊎ IsBrought P state (monomial_of σ) o q
            → HasDegree P.setting q × IsWaiting P (untraced (state_after state (monomial_of σ) o))
            (Some (monomial_of σ)) (monomial_of q)
        there n (inl c) = let w = (exact q).0 c in (w.0, law.1 (inl (w.1, other_monomial q w.0 n)))
        there n (inr b) = (b.0, law.1 (inr (b.1, b.2)))

        kept : q ≢ first → Contains new q → Contains rest q
        kept n c =
            other_others first rest (subst IsAscending taken new_ascending) q
            (subst (λ l. Contains l q) taken c) n

        back : HasDegree P.setting q → (IsWaiting P state last (monomial_of q)
            × (monomial_of q ≢ monomial_of σ))
            ⊎ (IsWithin P (monomial_of q) × BringsAmbiguity P.setting state (monomial_of σ) o
            (monomial_of q)) → Contains rest q
        back h (inl (w, n)) =
            kept (λ e. n (ap monomial_of (e ∙ one))) ((added q).1 (inl ((exact q).1 (h, w))))
        back h (inr (i, b)) =
            kept (λ e. let l = subst (λ y. compare_sigs σ y ≡ Less) (e ∙ one)
            (greater q (h, i, b)) in not_both σ σ l l) ((added q).1 (inr (h, i, b)))
