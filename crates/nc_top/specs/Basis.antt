-- What `basis` answers to the bytes of an input.
--
-- The report lists what the sequential run of the problem has found where it ends. Within the bound
-- of a complete end, and else below the next signature, this is a basis and a syzygy basis; each
-- entry is canonical, each item has the label that its trace gives, and each signature that was
-- handled is counted once: as covered, as settled, or by its item. These facts follow from the
-- definition of a run. They stand in the record so that a reader of the contract need not know the
-- theory.
--
-- Cofactors are shown as the options ask: none, traces, or labels. Only labels have a limit on
-- terms. If some label has more, the answer names the first item whose label has, and lists
-- nothing.
use Rattle.nc_algebra.specs.Elements.{Element, IsLabelled, Setting}
use Rattle.nc_algebra.specs.Limits.{max_bytes}
use Rattle.nc_algebra.specs.Monomials.{Monomial, Sig}
use Rattle.nc_algebra.specs.Polynomials.{Polynomial}
use Rattle.nc_algebra.specs.Problems.{NamedProblem}
use Rattle.nc_algebra.specs.Sums.{Term}
use Rattle.nc_cofactor.specs.Labels.{IsLabelOf}
use Rattle.nc_cofactor.specs.Firsts.{AreWithin, IsFirstPast}
use Rattle.nc_cofactor.specs.Terms.{LabelTerms}
use Rattle.nc_cofactor.specs.Traces.{IsListed}
use Rattle.nc_module.specs.Modules.{element_of}
use Rattle.nc_options.specs.declared.options.BasisOptions.{BasisOptions}
use Rattle.nc_options.specs.declared.options.Cofactors.{Cofactors}
use Rattle.nc_options.specs.declared.options.Cofactors.TheVariants.{Full, Omitted, Trace as TraceOf}
use Rattle.nc_snapshot.specs.declared.outcome.Listed.{Listed}
use Rattle.nc_theory.specs.EndBases.{AreCanonical, HasBasesAt}
use Rattle.nc_text.specs.Problems.{ProblemText, reads_problem}
use Rattle.nc_theory.specs.Labels.{label_at, labels_of, trace_label}
use Rattle.nc_theory.specs.Runs.{End, IsEnd}
use Rattle.nc_theory.specs.States.{Entry, State, Syzygy}
use Rattle.nc_tokens.specs.declared.fault.TextFault.{TextFault}
use Rattle.nc_top.specs.Inputs.{IsBadText, IsTooLarge}
use Rattle.nc_report.specs.Reports.{basis_report}
use Rattle.nc_top.specs.Reports.{too_many_report}
use Rattle.nc_top.specs.declared.status.Status.{Status}
use Rattle.nc_top.specs.declared.status.Status.TheVariants.{BadText, Budget, Done, TooLarge, TooMany}
use Rattle.std.specs.Prelude.{Contains, List, Ok, Option, [], false, length, ℕ, ◌+◌, ◌≡◌, ◌≤◌}
use Rattle.std.specs.declared.result.Result.{Result}

-- the bytes are a text of this problem, with or without a claim, and are not too many
pub record IsProblemText (bytes : List ℕ) (P : NamedProblem) : Type 0 where
  pub small : length bytes ≤ max_bytes
  pub claim : Option Polynomial
  pub read : reads_problem false bytes ≡ Ok (record { problem = P; claim = claim })

-- the label that its trace gives each entry, and each syzygy, multiplies out to its polynomial and
-- leads with its signature
pub record AreLabelled (s : Setting) (run : State) : Type 0 where
  pub entries : (e : Entry) (k : Contains run.entries e)
      → IsLabelled s e.signature e.polynomial (label_at (labels_of s.prime run.entries) (k.0 + 1))
  pub syzygies : (h : Syzygy) → Contains run.syzygies h
      → IsLabelled s h.signature [] (trace_label s.prime (labels_of s.prime run.entries) h.trace)

-- the labels that are shown are those of the items, each in normal form
abbrev pub AreShown : Cofactors → Setting → State → (Listed → Element) → Type 0
AreShown Omitted s run labels = Unit {0}
AreShown TraceOf s run labels = Unit {0}
AreShown Full s run labels =
    (listed : Listed) → IsListed run listed → (m : List (Term Sig)) × IsLabelOf s run listed m
    × (labels listed ≡ element_of m)

-- where labels are shown, none has more terms than the limit
abbrev pub AreShort : BasisOptions → Setting → State → Type 0
AreShort options s run = options.cofactors ≡ Full → AreWithin (LabelTerms s.prime run) options.limit

-- the bytes are a text of a problem, and the report lists what its sequential run has found where
-- it ends: with labels that
-- multiply out, and enough within the bound where the end is complete, and else below the next
-- signature; what is shown of
-- the cofactors are the run's traces, or the labels that these give
pub record IsBasis (options : BasisOptions) (bytes : List ℕ) (ending : End) (report : List ℕ) : Type
    0 where
  pub problem : NamedProblem
  pub text : IsProblemText bytes problem
  pub handled : ℕ
  pub run : State
  pub ends : IsEnd problem.problem handled run ending
  pub counted : handled ≡ run.covered + run.settled + length run.entries + length run.syzygies
  pub labelled : AreLabelled problem.problem.setting run
  pub canonical : AreCanonical problem.problem.setting run
  pub bases : HasBasesAt problem.problem run ending
  pub labels : Listed → Element
  pub are : AreShown options.cofactors problem.problem.setting run labels
  pub short : AreShort options problem.problem.setting run
  pub written : report ≡ basis_report options.cofactors problem.alphabet.names labels handled run
      ending

-- the run is complete
abbrev pub IsComplete : BasisOptions → List ℕ → List ℕ → Type 0
IsComplete options bytes report = IsBasis options bytes End.complete report

-- the steps were used up before a next signature
abbrev pub IsBudget : BasisOptions → List ℕ → List ℕ → Type 0
IsBudget options bytes report = (τ : Monomial) × IsBasis options bytes (End.budget τ) report

-- labels are to be shown, and that of this item of the run has more terms than the limit: the least
-- entry, else the least syzygy
pub record IsTooManyTerms (options : BasisOptions) (bytes : List ℕ) (named : Listed) (terms : ℕ)
    (report : List ℕ) : Type 0 where
  pub full : options.cofactors ≡ Full
  pub problem : NamedProblem
  pub text : IsProblemText bytes problem
  pub handled : ℕ
  pub run : State
  pub ending : End
  pub ends : IsEnd problem.problem handled run ending
  pub first : IsFirstPast (LabelTerms problem.problem.setting.prime run) options.limit named terms
  pub written : report ≡ too_many_report named terms

-- Done where the end is complete
abbrev pub status_at : End → Status
status_at End.complete = Done
status_at (End.budget τ) = Budget

-- a problem, whose claim is not wanted
abbrev pub reads_relations : List ℕ → Result ProblemText TextFault
reads_relations bytes = reads_problem false bytes

-- status and report for the bytes of an input
abbrev pub IsBasisAnswer : BasisOptions → List ℕ → Status → List ℕ → Type 0
IsBasisAnswer options bytes Done report = IsComplete options bytes report
IsBasisAnswer options bytes Budget report = IsBudget options bytes report
IsBasisAnswer options bytes (TooMany named terms) report =
    IsTooManyTerms options bytes named terms report
IsBasisAnswer options bytes (BadText line kind) report =
    IsBadText reads_relations bytes line kind report
IsBasisAnswer options bytes TooLarge report = IsTooLarge bytes report
IsBasisAnswer options bytes _ report = ⊥
