use Rattle.nc_algebra.specs.Monomials.{monomial_of}
use Rattle.nc_criteria.proofs.Divisors.{by_newer, newly_covered}
use Rattle.std.proofs.Common.{inl, inr, sym, ◌∙◌}
use Rattle.std.proofs.lemmas.Bool.{false≢true}
use Rattle.nc_criteria.proofs.syzygy.syzygy_divides_after.Goals as goal

pub returns-then-is_listed : goal.returns-then-is_listed
returns-then-is_listed c = (
  λ t. newly_covered c.args.snapshot.now.problem.problem.setting c.args.snapshot.now.state
      (monomial_of c.args.sig.now) c.args.entries c.args.syzygies (inl (c.is_listed.ensures.0 t)),
  λ h. c.if-is_listed.true,
)

pub returns-else-is_listed : goal.returns-else-is_listed
returns-else-is_listed c = (
  λ t. newly_covered c.args.snapshot.now.problem.problem.setting c.args.snapshot.now.state
      (monomial_of c.args.sig.now) c.args.entries c.args.syzygies
      (inr (c.is_trivial_below.ensures.0 t)),
  λ h. elim (by_newer c.args.snapshot.now.problem.problem.setting c.args.snapshot.now.state
      (monomial_of c.args.sig.now) c.args.entries c.args.syzygies h) [
        | inl l ↦ absurd (false≢true (sym c.if-is_listed.false ∙ c.is_listed.ensures.1 l))
        | inr t ↦ c.is_trivial_below.ensures.1 t
      ],
)
