-- What a sum of multiples of entries needs, and the module element that it stands for.
--
-- A claim is reduced by multiples of entries. These name entries, whose traces name further ones,
-- and so on: all of them are needed. Where nothing of the claim is left, the sum of the multiples'
-- labels is a representation of the claim, that is, a module element that evaluates to it. The
-- definitions speak of any multiples that were subtracted within a bound, whatever was reduced.
--
-- The limit on terms holds for the label of each entry that is needed, and for the sum itself.
use Rattle.nc_algebra.specs.Monomials.{Sig}
use Rattle.nc_algebra.specs.Polynomials.{Polynomial}
use Rattle.nc_algebra.specs.Problems.{IsWithin, Problem}
use Rattle.nc_algebra.specs.Sums.{Term}
use Rattle.nc_cofactor.specs.Firsts.{AreWithin}
use Rattle.nc_cofactor.specs.Sums.{IsSum}
use Rattle.nc_cofactor.specs.Terms.{EntryTerms, HasTerms, IsFirstPastAt, IsNeeded}
use Rattle.nc_cofactor.specs.Traces.{IsTraceIn, RunAt}
use Rattle.nc_cofactor.specs.declared.fault.CofactorFault.{CofactorFault}
use Rattle.nc_cofactor.specs.declared.fault.CofactorFault.TheVariants.{OutOfMemory, TooMany}
use Rattle.nc_snapshot.specs.declared.outcome.Listed.{Listed}
use Rattle.nc_snapshot.specs.declared.outcome.Listed.TheVariants.{Claim, Entry as EntryOf, Syzygy as SyzygyOf}
use Rattle.nc_theory.specs.Labels.{labels_of, step_multiples}
use Rattle.nc_theory.specs.Reductions.{Reduction}
use Rattle.nc_theory.specs.States.{Entry, State, Step, Trace}
use Rattle.std.specs.List.Sorted.{IsStrictlyIncreasing}
use Rattle.std.specs.Prelude.{All, Contains, List, map, ℕ, ◌↔◌}

-- ---- the entries that are needed

-- these numbers are exactly the needed ones
pub record ListsNeeded (entries : List Entry) (numbers needed : List ℕ) : Type 0 where
  pub ascending : IsStrictlyIncreasing needed
  pub exact : (j : ℕ) → Contains needed j ↔ IsNeeded entries (Contains numbers) j

-- the entries of the run after n steps that these need, and they themselves
pub record AreNeededFor (P : Problem) (n : ℕ) (numbers needed : List ℕ) : Type 0 where
  pub at : RunAt P n
  pub lists : ListsNeeded at.run.entries numbers needed

-- and beside each one its trace
pub record AreNeededTraces (P : Problem) (n : ℕ) (numbers : List ℕ)
    (needed : List (ℕ × Trace)) : Type 0 where
  pub at : RunAt P n
  pub lists : ListsNeeded at.run.entries numbers (map (λ x. x.0) needed)
  pub traces : All (λ x. IsTraceIn at.run (EntryOf x.0) x.1) needed

-- the entries that the steps name
abbrev pub numbers_of : List Step → List ℕ
numbers_of steps = map (λ t. t.number) steps

-- ---- representations

-- some polynomial was reduced within the bound by subtracting these multiples
abbrev pub AreSubtracted : Problem → List Entry → List Step → Type 0
AreSubtracted P entries steps =
    (f : Polynomial) × (rest : Polynomial) × Reduction P.setting entries (IsWithin P) f rest steps

-- the label of an entry that the steps need has n terms, or the sum of their labels has, which is
-- the claim's representation
abbrev pub ClaimTerms : List Step → ℕ → State → Listed → ℕ → Type 0
ClaimTerms steps p run (EntryOf j) n =
    IsNeeded run.entries (Contains (numbers_of steps)) j × EntryTerms p run j n
ClaimTerms steps p run (SyzygyOf k) n = ⊥
ClaimTerms steps p run Claim n = HasTerms p (step_multiples (labels_of p run.entries) steps) n

-- the sum of the multiples of labels, in normal form, where no label that counts has more terms
-- than the limit
pub record IsRepresentation (P : Problem) (n : ℕ) (steps : List Step) (limit : ℕ)
    (m : List (Term Sig)) : Type 0 where
  pub at : RunAt P n
  pub is : IsSum P.setting (step_multiples (labels_of P.setting.prime at.run.entries) steps) m
  pub within : AreWithin (ClaimTerms steps P.setting.prime at.run) limit

-- why no representation was given; want of memory says nothing
abbrev pub FailsToRepresent : Problem → ℕ → List Step → ℕ → CofactorFault → Type 0
FailsToRepresent P n steps limit OutOfMemory = Unit {0}
FailsToRepresent P n steps limit (TooMany named terms) =
    IsFirstPastAt P n (ClaimTerms steps) limit named terms
