use Rattle.nc_algebra.specs.Monomials.{monomial_of}
use Rattle.nc_criteria.proofs.Pairs.{none_divides, none_pair, none_pair_further, pair_found, pair_is}
use Rattle.nc_snapshot.specs.Leads.{IsLeadAt}
use Rattle.std.proofs.Common.{arith, refl, subst, sym, ◌+◌, ◌-◌, ◌∙◌, ◌≡◌}
use Rattle.std.proofs.lemmas.Bool.{false≢true}
use Rattle.nc_criteria.proofs.syzygy.is_trivial_at.Goals as goal

pub returns-in_default : goal.returns-in_default
returns-in_default c = (
  λ t. absurd (false≢true t),
  λ h. absurd
      (none_divides c.args.snapshot.now.problem.problem.setting c.args.snapshot.now.state.entries
      (monomial_of c.args.sig.now) c.args.from (c.args.number - 1) c.lead-own.result
      c.lead-own.ensures c.in_default.ensures h),
)

pub returns-then-is_trivial : goal.returns-then-is_trivial
returns-then-is_trivial c = (
  λ t. (
    c.loop-index.index + 1 - 1,
    (let from = c.loop-index.auto.index in omega arith),
    pair_found c.args.snapshot.now.problem.problem.setting c.args.snapshot.now.state.entries
        (monomial_of c.args.sig.now) (c.args.number - 1) (c.loop-index.index + 1 - 1)
        c.lead-own.result c.lead.result c.lead-own.ensures c.lead.ensures c.in-Some.before.now
        c.in-Some.behind.now c.in-Some.ensures (c.is_trivial.ensures.0 c.if-is_trivial.true),
  ),
  λ h. refl,
)

pub loop-index-preserved : goal.loop-index-preserved
loop-index-preserved c =
    let same : c.loop-index.index + 1 - 1 ≡ c.loop-index.index = omega arith in
    let other : IsLeadAt c.args.snapshot.now.problem.problem.setting
    c.args.snapshot.now.state.entries c.loop-index.index c.lead.result =
    subst (λ k. IsLeadAt c.args.snapshot.now.problem.problem.setting
    c.args.snapshot.now.state.entries k c.lead.result) same c.lead.ensures in
    none_pair_further c.args.snapshot.now.problem.problem.setting c.args.snapshot.now.state.entries
    (monomial_of c.args.sig.now) c.args.from (c.args.number - 1) c.loop-index.index
    c.loop-index.invariant (λ p. false≢true (sym c.if-is_trivial.false
    ∙ c.is_trivial.ensures.1 (pair_is c.args.snapshot.now.problem.problem.setting
    c.args.snapshot.now.state.entries (monomial_of c.args.sig.now) (c.args.number - 1)
    c.loop-index.index c.lead-own.result c.lead.result c.lead-own.ensures other
    c.in-Some.before.now c.in-Some.behind.now c.in-Some.ensures p)))

pub returns : goal.returns
returns c = (
  λ t. absurd (false≢true t),
  λ h. absurd
      (none_pair c.args.snapshot.now.problem.problem.setting c.args.snapshot.now.state.entries
      (monomial_of c.args.sig.now) c.args.from (c.args.number - 1) c.loop-index.index
      (omega arith) c.loop-index.invariant h),
)
