use Rattle.nc_algebra.specs.Monomials.{monomial_of}
use Rattle.nc_criteria.proofs.Best.{lead_found}
use Rattle.nc_theory.specs.Found.{Best}
use Rattle.std.proofs.Common.{ap, arith, ◌++◌, ◌-◌}
use Rattle.nc_criteria.proofs.multiple.multiple_of.Goals as goal

pub returns : goal.returns
returns c =
    let b : Best =
    record {
      word = c.in_ok-first.first.now
          ++ (c.letters-second.result.now ++ c.in_ok-first.third.now);
      left = c.in_ok-first.first.now;
      number = c.args.number;
      right = c.in_ok-first.third.now;
    } in
    lead_found c.args.snapshot.now.problem.problem.setting c.args.snapshot.now.state.entries
    (monomial_of c.args.sig.now) (c.args.number - 1) c.lead-lead.result b c.lead-lead.ensures
    c.in_ok-first.ensures (ap (λ l. c.in_ok-first.first.now ++ (l ++ c.in_ok-first.third.now))
    c.letters-second.ensures.letters) (omega (arith, c.requires.some))
