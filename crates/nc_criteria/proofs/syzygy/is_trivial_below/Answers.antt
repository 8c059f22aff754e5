use Rattle.nc_algebra.specs.Monomials.{monomial_of}
use Rattle.nc_criteria.proofs.Pairs.{none_at_further, none_trivial, trivial_found}
use Rattle.nc_criteria.specs.Pairs.{IsTrivialFrom, first_other}
use Rattle.std.proofs.Common.{IsTrue, arith, refl, subst₂, sym, ℕ, ◌+◌, ◌-◌, ◌∙◌, ◌≡◌, ◌↔◌}
use Rattle.std.proofs.lemmas.Bool.{false≢true}
use Rattle.nc_criteria.proofs.syzygy.is_trivial_below.Goals.{After-is_trivial_at}
use Rattle.nc_criteria.proofs.syzygy.is_trivial_below.Goals as goal

-- what is asked of the entry at this place
asked : (c : After-is_trivial_at) → IsTrue c.is_trivial_at.result
    ↔ IsTrivialFrom c.args.snapshot.now.problem.problem.setting c.args.snapshot.now.state.entries
    (monomial_of c.args.sig.now) (first_other c.args.after c.loop-index.index) c.loop-index.index
asked c =
    let same : c.loop-index.index + 1 - 1 ≡ c.loop-index.index = omega arith in
    subst₂ (λ (k n : ℕ). IsTrue c.is_trivial_at.result
    ↔ IsTrivialFrom c.args.snapshot.now.problem.problem.setting c.args.snapshot.now.state.entries
    (monomial_of c.args.sig.now) k n) c.first_other.ensures same c.is_trivial_at.ensures

pub returns-then-is_trivial_at : goal.returns-then-is_trivial_at
returns-then-is_trivial_at c = (
  λ t. trivial_found c.args.snapshot.now.problem.problem.setting
      c.args.snapshot.now.state.entries (monomial_of c.args.sig.now) c.args.after
      c.loop-index.index ((asked (goal.at.returns-then-is_trivial_at c).After-is_trivial_at).0
      c.if-is_trivial_at.true),
  λ h. refl,
)

pub loop-index-preserved : goal.loop-index-preserved
loop-index-preserved c =
    none_at_further c.args.snapshot.now.problem.problem.setting c.args.snapshot.now.state.entries
    (monomial_of c.args.sig.now) c.args.after c.loop-index.index c.loop-index.invariant
    (λ h. false≢true (sym c.if-is_trivial_at.false
    ∙ (asked (goal.at.loop-index-preserved c).After-is_trivial_at).1 h))

pub returns : goal.returns
returns c = (
  λ t. absurd (false≢true t),
  λ h. absurd
      (none_trivial c.args.snapshot.now.problem.problem.setting c.args.snapshot.now.state.entries
      (monomial_of c.args.sig.now) c.args.after c.loop-index.index (omega arith)
      c.loop-index.invariant h),
)
