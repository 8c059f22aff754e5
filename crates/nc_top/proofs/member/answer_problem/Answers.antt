use Rattle.nc_text.specs.Problems.{ProblemText}
use Rattle.nc_top.proofs.Claims.{never_without}
use Rattle.std.proofs.Common.{ap, sym, ◌∙◌}
use Rattle.nc_top.proofs.member.answer_problem.Goals as goal

pub unreachable-requires : goal.unreachable-requires
unreachable-requires c =
    never_without c.args.bytes.now c.args.text c.requires.text
    (ap (λ (t : ProblemText). t.claim) (sym c.text.view_is) ∙ c.in-None.is)
