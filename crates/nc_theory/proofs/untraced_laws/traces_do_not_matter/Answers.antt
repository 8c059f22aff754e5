use Rattle.nc_algebra.specs.Words.{Word}
use Rattle.nc_algebra.specs.Elements.{IsLess, Setting}
use Rattle.nc_algebra.specs.Problems.{IsUnder, IsWithin, IsWithinBound, Problem}
use Rattle.nc_theory.proofs.Untraced.{moved, moved_ambiguity, moved_best, moved_chosen, moved_multiple, moved_new, moved_reduction, moved_regular, moved_same, other_side, same_signature}
use Rattle.nc_theory.proofs.UntracedBases.{moved_bases, moved_bases_at, moved_canonical}
use Rattle.nc_theory.proofs.UntracedStates.{SameStates, moved_brings, moved_candidate, moved_covered, moved_handles, moved_next, moved_none, same_after, same_entries, untraced_twice}
use Rattle.nc_theory.specs.UntracedLaws.{SameCandidates, SameSearches}
use Rattle.nc_theory.specs.Untraced.{IsSameDivisor, SameEntries, untraced, untraced_entry}
use Rattle.nc_theory.specs.Divisors.{Divisor}
use Rattle.nc_theory.specs.States.{State}
use Rattle.std.proofs.Common.{refl, sym}
use Rattle.nc_theory.proofs.untraced_laws.traces_do_not_matter.Goals as goal

-- of any two states with the same items up to traces
same_searches : (s : Setting) (state run : State) → SameStates state run → SameSearches s state run
same_searches s state run same = record {
  divisors =
      λ w d. (
        moved s state.entries run.entries es w d,
        moved_same s state.entries run.entries es w d,
      );
  divisors_back = λ w d. (moved s run.entries state.entries (sym es) w d, back_same d);
  signatures = λ w d d' k. same_signature s state.entries run.entries w d d' k;
  chosen = λ τ w d d' k. (
    λ c. moved_chosen s state.entries run.entries es (λ σ. IsLess s σ τ) w d c d' k,
    λ c. moved_chosen s run.entries state.entries (sym es) (λ σ. IsLess s σ τ) w d' c d
        (other_side s state.entries run.entries w d d' k),
  );
  best = λ τ w d d' k. (
    λ b. moved_best s state.entries run.entries es τ w d b d' k,
    λ b. moved_best s run.entries state.entries (sym es) τ w d' b d
        (other_side s state.entries run.entries w d d' k),
  );
  multiples =
      λ τ w m. (
        moved_multiple s state.entries run.entries es τ w m,
        moved_same s state.entries run.entries es w m.divisor,
      );
  multiples_back =
      λ τ w m. (moved_multiple s run.entries state.entries (sym es) τ w m, back_same m.divisor);
  regular =
      λ τ w r. (
        moved_regular s state.entries run.entries es τ w r,
        moved_same s state.entries run.entries es w r.divisor,
      );
  regular_back =
      λ τ w r. (moved_regular s run.entries state.entries (sym es) τ w r, back_same r.divisor);
  reductions =
      λ τ f kept steps. (
        moved_reduction s state.entries run.entries es (λ σ. IsLess s σ τ),
        moved_reduction s run.entries state.entries (sym es) (λ σ. IsLess s σ τ),
      );
  covered = λ τ. (moved_covered s state run same τ, moved_covered s run state (sym same) τ);
  handles = λ τ o. (moved_handles s state run same τ o, moved_handles s run state (sym same) τ o);
  ambiguities =
      λ ρ w. (
        moved_ambiguity s state.entries run.entries es ρ w,
        moved_ambiguity s run.entries state.entries (sym es) ρ w,
      );
  new_ambiguities =
      λ new ρ. (
        moved_new s state.entries run.entries (untraced_entry new) new es refl ρ,
        moved_new s run.entries state.entries new (untraced_entry new) (sym es) refl ρ,
      );
  brings =
      λ τ o ρ. (moved_brings s state run same τ o ρ, moved_brings s run state (sym same) τ o ρ);
  after = λ τ o. same_after state run same τ o;
  bases = λ b. (
    moved_bases s state run same (IsWithinBound s b),
    moved_bases s run state (sym same) (IsWithinBound s b),
  );
  bases_under =
      λ β. (
        moved_bases s state run same (IsUnder s β),
        moved_bases s run state (sym same) (IsUnder s β),
      );
  canonical = (moved_canonical s state run same, moved_canonical s run state (sym same));
}
  where
    es : SameEntries state.entries run.entries
    es = same_entries state run same

    back_same : {w : Word} (d : Divisor s run.entries w)
        → IsSameDivisor s state.entries run.entries w
        (moved s run.entries state.entries (sym es) w d) d
    back_same {w} d =
        other_side s run.entries state.entries w d (moved s run.entries state.entries (sym es) w d)
        (moved_same s run.entries state.entries (sym es) w d)

same_candidates : (P : Problem) (state run : State) → SameStates state run
    → SameCandidates P state run
same_candidates P state run same = record {
  chosen = λ w d d' k. (
    λ c. moved_chosen P.setting state.entries run.entries es (IsWithin P) w d c d' k,
    λ c. moved_chosen P.setting run.entries state.entries (sym es) (IsWithin P) w d' c d
        (other_side P.setting state.entries run.entries w d d' k),
  );
  reductions =
      λ f kept steps. (
        moved_reduction P.setting state.entries run.entries es (IsWithin P),
        moved_reduction P.setting run.entries state.entries (sym es) (IsWithin P),
      );
  candidates = λ τ. (moved_candidate P state run same τ, moved_candidate P run state (sym same) τ);
  waits = λ last τ. (
    λ c. (moved_candidate P state run same τ c.0, c.1),
    λ c. (moved_candidate P run state (sym same) τ c.0, c.1),
  );
  none = λ last. (moved_none P state run same last, moved_none P run state (sym same) last);
  next = λ last τ. (moved_next P state run same last τ, moved_next P run state (sym same) last τ);
  bases = λ e. (moved_bases_at P state run same e, moved_bases_at P run state (sym same) e);
}
  where
    es : SameEntries state.entries run.entries
    es = same_entries state run same

pub returns : goal.returns
returns c run = (
  λ s. same_searches s (untraced run) run (untraced_twice run),
  λ P. same_candidates P (untraced run) run (untraced_twice run),
)
