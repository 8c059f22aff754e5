-- What holds of a candidate of a snapshot.
use Rattle.nc_algebra.specs.Monomials.{Monomial, unit_monomial}
use Rattle.nc_algebra.specs.Words.{Word}
use Rattle.nc_theory.proofs.Candidates.{candidate_facts}
use Rattle.nc_theory.specs.UntracedLaws.{CandidateFacts}
use Rattle.nc_snapshot.proofs.Snapshots.{snapshot_prime}
use Rattle.nc_snapshot.specs.Snapshots.{IsSnapshot, Snapshot}
use Rattle.nc_theory.specs.Divisors.{Multiple}
use Rattle.nc_theory.specs.Runs.{IsCandidate}
use Rattle.std.proofs.Common.{ap, inl, inr, sym, ℕ, ◌∙◌, ◌≡◌, ◌≢◌, ◌⊎◌}

module _ (s : Snapshot) (h : IsSnapshot s) (τ : Monomial)
    (c : IsCandidate s.problem.problem s.state τ) where
  pub facts : CandidateFacts s.problem.problem s.state τ
  facts = candidate_facts s.problem h.problem (snapshot_prime s h) s.handled s.state h.run τ c

  -- one that is no generator's has a multiple
  pub other_multiple : τ ≢ unit_monomial τ.generator → (w : Word)
      × Multiple s.problem.problem.setting s.state.entries τ w
  other_multiple other = go facts.source
    where
      go : ((i : ℕ) × (τ ≡ unit_monomial i))
          ⊎ ((w : Word) × Multiple s.problem.problem.setting s.state.entries τ w) → (w : Word)
          × Multiple s.problem.problem.setting s.state.entries τ w
      go (inl (i, e)) =
          absurd (other (e ∙ ap unit_monomial (sym (ap (λ (σ : Monomial). σ.generator) e))))
      go (inr m) = m
