-- The sum of the labels of multiples that were subtracted, and what the first label with too many
-- terms says. As for items in `Expansions.antt`: first the labels that the multiples need are made
-- (`fill_fails`), and the sum comes last.
use Rattle.nc_algebra.proofs.Finite.{contains_among}
use Rattle.nc_algebra.specs.Monomials.{Monomial, Sig}
use Rattle.nc_algebra.specs.Sums.{Term}
use Rattle.nc_cofactor.proofs.Filling.{few_filled}
use Rattle.nc_cofactor.proofs.Firsts.{entry_first}
use Rattle.nc_cofactor.proofs.Items.{subtracted_light}
use Rattle.nc_cofactor.proofs.Keys.{all_among}
use Rattle.nc_cofactor.proofs.Labelled.{StandsAt, addable_steps, steps_whole}
use Rattle.nc_cofactor.proofs.Lists.{contains_map, map_contains}
use Rattle.nc_cofactor.proofs.Named.{AreLight, IsLight}
use Rattle.nc_cofactor.proofs.Reaching.{need_more}
use Rattle.nc_cofactor.proofs.Runs.{entries_kept, one_run}
use Rattle.nc_cofactor.proofs.Terms.{has_terms, terms_once}
use Rattle.nc_cofactor.specs.Claims.{AreSubtracted, ClaimTerms, FailsToRepresent, IsRepresentation, numbers_of}
use Rattle.nc_cofactor.specs.Firsts.{AreWithin, Precedes}
use Rattle.nc_cofactor.specs.Needed.{AreFilled, FailsToFill, IsFilledAt, IsMarked, MarksName, StepsName}
use Rattle.nc_cofactor.specs.Terms.{EntryTerms, HasTerms, IsFirstPastAt, IsNeeded}
use Rattle.nc_cofactor.specs.Sums.{AreSummable, IsSum, elements_of}
use Rattle.nc_cofactor.specs.declared.fault.CofactorFault.{CofactorFault}
use Rattle.nc_cofactor.specs.declared.fault.CofactorFault.TheVariants.{OutOfMemory, TooMany}
use Rattle.nc_snapshot.specs.Snapshots.{IsSnapshot, Snapshot}
use Rattle.nc_snapshot.specs.declared.outcome.Listed.{Listed}
use Rattle.nc_snapshot.specs.declared.outcome.Listed.TheVariants.{Claim, Entry as EntryOf, Syzygy as SyzygyOf}
use Rattle.nc_theory.specs.Labels.{labels_of, step_multiples}
use Rattle.nc_theory.specs.Runs.{SequentialRun}
use Rattle.nc_theory.specs.States.{State, Step}
use Rattle.std.proofs.Common.{Bool, Contains, List, Option, arith, get_or, length, refl, subst, sym, ℕ, ◌-◌, ◌<◌, ◌≡◌, ◌≤◌, ◌↔◌}
use Rattle.std.proofs.lemmas.List.Elements.{Contains-get_or}
use Rattle.std.proofs.lemmas.Option.{slice_get_within}
use Rattle.std.specs.List.{All}

module _ (s : Snapshot) (is : IsSnapshot s) (steps : List Step)
    (subtracted : AreSubtracted s.problem.problem s.state.entries steps) where
  -- the multiples in any state of the run
  light : {run : State} {last : Option Monomial}
      → SequentialRun s.problem.problem s.handled run last
      → AreLight s.problem.problem run.entries steps
  light runs =
      subst (λ (r : State). AreLight s.problem.problem r.entries steps)
      (one_run s.problem is.problem s.handled is.run.runs runs)
      (subtracted_light s is steps subtracted)

  -- each names an entry
  pub named_low : (state_size : ℕ) → state_size ≡ length s.state.entries → (j : ℕ)
      → StepsName steps j → (1 ≤ j) × (j ≤ state_size)
  named_low size e j (step, c, i) =
      let l : IsLight s.problem.problem is.run.run.entries step.left step.number step.right =
      all_among (λ (y : Step). IsLight s.problem.problem is.run.run.entries y.left y.number
      y.right) steps (light is.run.runs).light step (contains_among step steps c) in
      let there : step.number - 1 < length is.run.run.entries =
      slice_get_within is.run.run.entries (step.number - 1) l.entry l.at in (
        omega (arith, l.some, i),
        omega (
          arith,
          there,
          l.some,
          i,
          e,
          entries_kept s.problem.problem s.handled s.state is.run,
        ),
      )

  pub steps_low : All (λ step. 1 ≤ step.number) steps
  steps_low k d within =
      (named_low (length s.state.entries) refl (get_or steps k d).number (
        get_or steps k d,
        Contains-get_or steps k d within,
        refl,
      )).0

  pub steps_high : (count : ℕ) → count ≡ length s.state.entries
      → All (λ step. step.number ≤ count) steps
  steps_high count e k d within =
      (named_low count e (get_or steps k d).number (
        get_or steps k d,
        Contains-get_or steps k d within,
        refl,
      )).1

  module _ (marks : List Bool) (limit : ℕ) (exact : (j : ℕ) → 1 ≤ j → IsMarked marks j
      ↔ StepsName steps j) where
    -- the steps need what the marks do
    need : (run : State) {j : ℕ} → IsNeeded run.entries (Contains (numbers_of steps)) j
        → IsNeeded run.entries (MarksName marks) j
    need run needed =
        need_more run.entries (Contains (numbers_of steps)) (MarksName marks) given needed
      where
        given : (j : ℕ) → Contains (numbers_of steps) j → MarksName marks j
        given j c =
            let r = map_contains (λ (t : Step). t.number) steps j c in
            let some : 1 ≤ j = (named_low (length s.state.entries) refl j r).0 in
            (some, (exact j some).1 r)

    needed : (run : State) {j : ℕ} → IsNeeded run.entries (MarksName marks) j
        → IsNeeded run.entries (Contains (numbers_of steps)) j
    needed run reached =
        need_more run.entries (MarksName marks) (Contains (numbers_of steps))
        (λ j m. let r = (exact j m.0).0 m.1 in
        contains_map (λ (t : Step). t.number) steps r.0 j r.1 r.2) reached

    -- where not all labels are made
    pub fill_fails : (e : CofactorFault) → FailsToFill s.problem.problem s.handled marks limit e
        → FailsToRepresent s.problem.problem s.handled steps limit e
    fill_fails OutOfMemory f = tt
    fill_fails (TooMany (EntryOf k) terms) f = record {
      at = f.at;
      first = entry_first (ClaimTerms steps s.problem.problem.setting.prime f.at.run) limit k terms
          (needed f.at.run f.first.has.0, f.first.has.1) f.first.many
          (λ j m l c. f.first.before (EntryOf j) m l (need f.at.run c.0, c.1));
    }
    fill_fails (TooMany (SyzygyOf k) terms) f = absurd f.first.has
    fill_fails (TooMany Claim terms) f = absurd f.first.has

    module _ (labels : List (List (Term Sig)))
        (h : AreFilled s.problem.problem s.handled marks limit labels) where
      stands : (j : ℕ) → StepsName steps j → StandsAt s.problem.problem.setting h.at.run labels j
      stands j k =
          let some : 1 ≤ j = (named_low (length s.state.entries) refl j k).0 in
          let f : IsFilledAt s.problem.problem h.at.run labels limit j =
          h.places j (IsNeeded.given (some, (exact j some).1 k)) in
          record { label = f.label; at = f.at; is = f.is }

      pub can_add : AreSummable s.problem.problem.setting labels steps
      can_add = addable_steps s.problem is.problem h.at.runs labels steps (light h.at.runs) stands

      module _ (m : List (Term Sig))
          (sum : IsSum s.problem.problem.setting (step_multiples (elements_of labels) steps) m)
        where
          own : IsSum s.problem.problem.setting
              (step_multiples (labels_of s.problem.problem.setting.prime h.at.run.entries) steps) m
          own = steps_whole s.problem is.problem h.at.runs labels steps m stands sum

          own_terms : HasTerms s.problem.problem.setting.prime
              (step_multiples (labels_of s.problem.problem.setting.prime h.at.run.entries) steps)
              (length m)
          own_terms =
              has_terms s.problem.problem.setting
              (step_multiples (labels_of s.problem.problem.setting.prime h.at.run.entries) steps) m own

          needed_few : (j i : ℕ) → IsNeeded h.at.run.entries (Contains (numbers_of steps)) j
              → EntryTerms s.problem.problem.setting.prime h.at.run j i → i ≤ limit
          needed_few j i n terms =
              few_filled s.problem is.problem s.handled marks limit labels h j i
              (need h.at.run n) terms

          within : length m ≤ limit
              → AreWithin (ClaimTerms steps s.problem.problem.setting.prime h.at.run) limit
          within few (EntryOf j) i (n, terms) = needed_few j i n terms
          within few (SyzygyOf k) i c = absurd c
          within few Claim i terms =
              omega (
                arith,
                terms_once s.problem.problem.setting.prime
                    (step_multiples (labels_of s.problem.problem.setting.prime h.at.run.entries) steps)
                    i
                    (length m) terms own_terms,
                few,
              )

          pub represents : length m ≤ limit
              → IsRepresentation s.problem.problem s.handled steps limit m
          represents few = record {
            at = h.at;
            is = own;
            within = within few;
          }

          pub claim_fails : (terms : ℕ) → terms ≡ length m → limit < terms
              → IsFirstPastAt s.problem.problem s.handled (ClaimTerms steps) limit Claim terms
          claim_fails terms count many =
              record {
                at = h.at;
                first = record {
                  has = subst (λ i. HasTerms s.problem.problem.setting.prime
                      (step_multiples (labels_of s.problem.problem.setting.prime h.at.run.entries)
                      steps) i) (sym count) own_terms;
                  many = many;
                  before = before;
                };
              }
            where
              before : (other : Listed) (i : ℕ) → Precedes other Claim
                  → ClaimTerms steps s.problem.problem.setting.prime h.at.run other i → i ≤ limit
              before (EntryOf j) i l (n, ts) = needed_few j i n ts
              before (SyzygyOf j) i l c = absurd c
              before Claim i l c = absurd l
