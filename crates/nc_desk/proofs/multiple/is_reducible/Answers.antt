use Rattle.nc_algebra.specs.Monomials.{monomial_of}
use Rattle.nc_algebra.specs.Words.{Word}
use Rattle.nc_desk.proofs.Regular.{chosen_regular}
use Rattle.nc_index.specs.Chosen.{IsChosen}
use Rattle.nc_index.specs.Pairs.{IsFirstRegular, Lead}
use Rattle.nc_theory.specs.Divisors.{RegularDivisor}
use Rattle.std.proofs.Common.{List, subst, sym}
use Rattle.std.specs.Prelude.{IsTrue, ◌↔◌}
use Rattle.nc_desk.proofs.multiple.is_reducible.Goals as goal

pub returns : goal.returns
returns c =
    let found : IsChosen c.args.snapshot.now.problem.problem.setting
    c.args.snapshot.now.state.entries c.args.word.now c.args.sig.now c.first_regular.result =
    c.leads_law.ensures c.args.snapshot.now.problem.problem.setting
    c.args.snapshot.now.state.entries c.args.word.now c.args.sig.now c.first_regular.result
    (subst (λ (l : List Lead). IsFirstRegular l c.args.word.now c.args.sig.now
    c.first_regular.result) c.requires.leads
    (subst (λ (w : Word). IsFirstRegular c.args.leads.now w c.args.sig.now
    c.first_regular.result) c.letters.ensures.letters c.first_regular.ensures)) in
    subst (λ b. IsTrue b ↔ RegularDivisor c.args.snapshot.now.problem.problem.setting
    c.args.snapshot.now.state.entries (monomial_of c.args.sig.now) c.args.word.now)
    (sym c.is_some.ensures)
    (chosen_regular c.args.snapshot.now.problem.problem.setting c.args.snapshot.now.state.entries
    c.args.sig.now c.requires.degree c.args.word.now c.first_regular.result found)
