-- Labels of all items within a limit, or the first one that is not.
use Rattle.nc_algebra.specs.Elements.{Setting}
use Rattle.nc_algebra.specs.Monomials.{Sig}
use Rattle.nc_algebra.specs.Sums.{Term}
use Rattle.nc_cofactor.proofs.Firsts.{entry_first}
use Rattle.nc_cofactor.proofs.Once.{label_few}
use Rattle.nc_cofactor.specs.Expanding.{FailsToLabel, FailsToLabelSyzygies}
use Rattle.nc_cofactor.specs.Firsts.{AreWithin, IsFirstPast, Precedes}
use Rattle.nc_cofactor.specs.Labels.{AreLabels, AreSyzygyLabels, IsLabelOf}
use Rattle.nc_cofactor.specs.Terms.{LabelTerms}
use Rattle.nc_cofactor.specs.declared.fault.CofactorFault.{CofactorFault}
use Rattle.nc_cofactor.specs.declared.fault.CofactorFault.TheVariants.{OutOfMemory, TooMany}
use Rattle.nc_snapshot.specs.Snapshots.{IsSnapshot, Snapshot}
use Rattle.nc_snapshot.specs.declared.outcome.Listed.{Listed}
use Rattle.nc_snapshot.specs.declared.outcome.Listed.TheVariants.{Claim, Entry as EntryOf, Syzygy as SyzygyOf}
use Rattle.nc_theory.specs.States.{State}
use Rattle.nc_report.proofs.Showing.{entries_count, one_run, syzygies_count}
use Rattle.nc_report.specs.Shown.{FailsToShow, IsRunAt}
use Rattle.std.proofs.Common.{All, List, None, Some, arith, get_or, inl, inr, length, slice_get, subst, ℕ, ◌-◌, ◌<◌, ◌≡◌, ◌≤◌, ◌⊎◌}
use Rattle.std.proofs.lemmas.Option.{slice_get_cases, slice_get_within}

module _ (s : Snapshot) (h : IsSnapshot s) (limit : ℕ) where
  abbrev setting : Setting
  setting = s.problem.problem.setting

  -- the first item with too many terms in a run that the snapshot stands for is so in each
  first_in_each : (at : State) → IsRunAt s at → (named : Listed) (terms : ℕ)
      → IsFirstPast (LabelTerms setting.prime at) limit named terms
      → (run : State) → IsRunAt s run → IsFirstPast (LabelTerms setting.prime run) limit named terms
  first_in_each at is named terms first run a =
      subst (λ (r : State). IsFirstPast (LabelTerms setting.prime r) limit named terms)
      (one_run s h at run is a) first

  -- what stands at a place of a list of lists, none of them long
  place : (ms : List (List (Term Sig))) → All (λ m. length m ≤ limit) ms → (k : ℕ) → 1 ≤ k
      → k ≤ length ms → (m : List (Term Sig)) × (slice_get ms (k - 1) ≡ Some m) × (length m ≤ limit)
  place ms few k some within = go (slice_get_cases ms (k - 1)).1
    where
      go : ((m : List (Term Sig)) × (k - 1 < length ms) × (slice_get ms (k - 1) ≡ Some m)
          × (get_or ms (k - 1) m ≡ m)) ⊎ ((length ms ≤ k - 1) × (slice_get ms (k - 1) ≡ None))
          → (m : List (Term Sig)) × (slice_get ms (k - 1) ≡ Some m) × (length m ≤ limit)
      go (inl (m, here, at, same)) =
          (m, at, subst (λ (x : List (Term Sig)). length x ≤ limit) same (few (k - 1) m here))
      go (inr (past, none)) = absurd (omega (arith, past, some, within))

  module _ (entries : List (List (Term Sig))) (are : AreLabels s.problem.problem s.handled entries)
      (each : length entries ≡ length s.state.entries) (few : All (λ m. length m ≤ limit) entries)
    where
      entries_short : (run : State) → IsRunAt s run → (k n : ℕ)
          → LabelTerms setting.prime run (EntryOf k) n → n ≤ limit
      entries_short run a k n has =
          let p =
          place entries few k has.1.0 (omega (arith, has.1.1, each, entries_count s h run a)) in
          let is : IsLabelOf setting run (EntryOf k) p.0 =
          subst (λ (r : State). IsLabelOf setting r (EntryOf k) p.0)
          (one_run s h are.at.run run (are.at.last, are.at.runs) a) (are.are k p.0 has.1.0 p.1) in
          label_few setting run (EntryOf k) p.0 is limit p.2 n has

      pub syzygy_fault : (fault : CofactorFault)
          → FailsToLabelSyzygies s.problem.problem s.handled limit fault → FailsToShow s limit fault
      syzygy_fault OutOfMemory f = tt
      syzygy_fault (TooMany (EntryOf k) terms) f = absurd f.first.has
      syzygy_fault (TooMany (SyzygyOf k) terms) f =
          first_in_each f.at.run (f.at.last, f.at.runs) (SyzygyOf k) terms
          (record { has = f.first.has; many = f.first.many; before = before })
        where
          before : (other : Listed) (m : ℕ) → Precedes other (SyzygyOf k)
              → LabelTerms setting.prime f.at.run other m → m ≤ limit
          before (EntryOf j) m l has = entries_short f.at.run (f.at.last, f.at.runs) j m has
          before (SyzygyOf j) m l has = f.first.before (SyzygyOf j) m l has
          before Claim m l has = absurd l
      syzygy_fault (TooMany Claim terms) f = absurd f.first.has

      module _ (syzygies : List (List (Term Sig)))
          (zero_are : AreSyzygyLabels s.problem.problem s.handled syzygies)
          (zero_each : length syzygies ≡ length s.state.syzygies)
          (zero_few : All (λ m. length m ≤ limit) syzygies) where
        pub all_short : (run : State) → IsRunAt s run
            → AreWithin (LabelTerms setting.prime run) limit
        all_short run a (EntryOf k) n has = entries_short run a k n has
        all_short run a (SyzygyOf k) n (α, (t, (g, some, at, same), e), has) =
            let p = place syzygies zero_few k some
            (omega (
              arith,
              some,
              slice_get_within run.syzygies (k - 1) g at,
              zero_each,
              syzygies_count s h run a,
            )) in
            let is : IsLabelOf setting run (SyzygyOf k) p.0 =
            subst (λ (r : State). IsLabelOf setting r (SyzygyOf k) p.0)
            (one_run s h zero_are.at.run run (zero_are.at.last, zero_are.at.runs) a)
            (zero_are.are k p.0 some p.1) in
            label_few setting run (SyzygyOf k) p.0 is limit p.2 n
            (α, (t, (g, some, at, same), e), has)
        all_short run a Claim n has = absurd has.1

  pub entry_fault : (fault : CofactorFault) → FailsToLabel s.problem.problem s.handled limit fault
      → FailsToShow s limit fault
  entry_fault OutOfMemory f = tt
  entry_fault (TooMany (EntryOf k) terms) f =
      first_in_each f.at.run (f.at.last, f.at.runs) (EntryOf k) terms
      (entry_first (LabelTerms setting.prime f.at.run) limit k terms f.first.has f.first.many
      (λ j m l has. f.first.before (EntryOf j) m l has))
  entry_fault (TooMany (SyzygyOf k) terms) f = absurd f.first.has
  entry_fault (TooMany Claim terms) f = absurd f.first.has
