use Rattle.nc_member.proofs.Needed.{no_lines}
use Rattle.std.proofs.Common.{length, sym, ◌∙◌, ◌≡◌}
use Rattle.std.proofs.lemmas.Bool.{eqb-true}
use Rattle.std.proofs.lemmas.List.{nil_from_length}
use Rattle.nc_member.proofs.lines.lines_of.Goals as goal

pub returns-then-is_empty : goal.returns-then-is_empty
returns-then-is_empty c =
    let none : length c.args.steps.now ≡ 0 =
    eqb-true (length c.args.steps.now) 0 (sym c.is_empty.ensures ∙ c.if-is_empty.true) in
    no_lines c.args.snapshot.now.problem.problem c.args.snapshot.now.handled
    c.args.snapshot.now.state c.recall_rule.ensures.snapshot.run c.args.steps.now
    (nil_from_length c.args.steps.now none) c.empty-lines.result c.empty-lines.ensures
