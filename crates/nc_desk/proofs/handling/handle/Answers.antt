use Rattle.nc_algebra.specs.Monomials.{monomial_of}
use Rattle.nc_desk.proofs.Candidates.{facts, other_multiple}
use Rattle.nc_theory.specs.Runs.{Handles}
use Rattle.std.proofs.Common.{sym, ◌∙◌}
use Rattle.std.proofs.lemmas.Bool.{false≢true}
use Rattle.nc_desk.proofs.handling.handle.Goals as goal

pub returns-then-syzygy_divides : goal.returns-then-syzygy_divides
returns-then-syzygy_divides c =
    Handles.is_covered (c.syzygy_divides.ensures.0 c.if-syzygy_divides.true)

pub best_at-best-requires : goal.best_at-best-requires
best_at-best-requires c =
    other_multiple c.args.snapshot.now c.recall_rule.ensures.snapshot (monomial_of c.args.sig.now)
    c.requires.candidate (λ e. false≢true (sym c.if-is_unit.false ∙ c.is_unit.ensures.1 e))

pub from_multiple-requires-clause-usable : goal.from_multiple-requires-clause-usable
from_multiple-requires-clause-usable c =
    (facts c.args.snapshot.now c.recall_rule.ensures.snapshot (monomial_of c.args.sig.now)
    c.requires.candidate).usable
