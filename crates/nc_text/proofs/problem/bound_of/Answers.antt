use Rattle.nc_text.proofs.problem.bound_of.Goals as goal

pub returns-then-eq-clause-degree : goal.returns-then-eq-clause-degree
returns-then-eq-clause-degree c = c.degree_of.ensures.degree c.args.setting.now.setting
