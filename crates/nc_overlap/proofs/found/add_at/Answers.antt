use Rattle.nc_algebra.specs.Monomials.{monomial_of}
use Rattle.nc_algebra.specs.Problems.{Problem}
use Rattle.nc_overlap.proofs.Additions.{adds_none, adds_only}
use Rattle.nc_overlap.specs.Sides.{side_sig}
use Rattle.nc_theory.specs.Meetings.{MeetAt}
use Rattle.std.proofs.Common.{map}
use Rattle.std.proofs.lemmas.Result.{on_ok_weaker}
use Rattle.std.specs.Arc.{arc_value}
use Rattle.nc_overlap.proofs.found.add_at.Goals as goal

pub returns-in-Some : goal.returns-in-Some
returns-in-Some c =
    let P : Problem = c.args.problem.now.problem in
    on_ok_weaker c.add_side.result
    (λ a e f i j. adds_only P (MeetAt P.setting e f c.args.at)
    (monomial_of (side_sig c.in-Some.side)) (map arc_value c.args.found.now.items)
    (map arc_value c.add_side.new.found.items)
    (c.in-Some.ensures.greater P.setting e f c.requires.first.degree c.requires.second.degree
    i j) a)
    c.add_side.ensures

pub returns-in-None : goal.returns-in-None
returns-in-None c e f i j =
    let P : Problem = c.args.problem.now.problem in
    adds_none P (MeetAt P.setting e f c.args.at) (map arc_value c.args.found.now.items)
    (λ ρ w. c.in-None.ensures.greater P.setting e f c.requires.first.degree
    c.requires.second.degree i j ρ)
