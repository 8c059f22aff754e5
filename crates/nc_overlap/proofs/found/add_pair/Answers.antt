use Rattle.nc_algebra.specs.Elements.{degree}
use Rattle.nc_algebra.specs.Monomials.{Sig}
use Rattle.nc_algebra.specs.Polynomials.{leading}
use Rattle.nc_algebra.specs.Problems.{Problem}
use Rattle.nc_overlap.proofs.Additions.{adds_places, adds_start, adds_step, enough_more}
use Rattle.nc_theory.specs.Meetings.{MeetAt}
use Rattle.std.proofs.Common.{ap, arith, length, map, sym, ◌∙◌}
use Rattle.std.specs.Arc.{arc_value}
use Rattle.nc_overlap.proofs.found.add_pair.Goals as goal

pub loop-at-init : goal.loop-at-init
loop-at-init c e f i j =
    let P : Problem = c.args.problem.now.problem in
    adds_start P (MeetAt P.setting e f) (map arc_value c.args.found.now.items)

pub loop-at-preserved : goal.loop-at-preserved
loop-at-preserved c e f i j =
    let P : Problem = c.args.problem.now.problem in
    adds_step P (MeetAt P.setting e f) c.loop-at.at (map arc_value c.args.found.now.items)
    (map arc_value c.loop-at.found.items) (map arc_value c.add_at.new.found.items)
    (c.loop-at.invariant e f i j) (c.in_ok-add_at.ensures e f i j)

pub returns : goal.returns
returns c e f i j =
    let P : Problem = c.args.problem.now.problem in
    adds_places P e f c.loop-at.at (map arc_value c.args.found.now.items)
    (map arc_value c.loop-at.found.items)
    (enough_more P (length c.args.first.now.word.now)
    (length (leading P.setting.prime e.polynomial)) c.args.second.now.sig.now.degree
    (degree P.setting f.signature) c.places-at-end.result c.loop-at.at (ap length i.lead)
    (ap (degree P.setting) j.signed ∙ sym (ap (λ (x : Sig). x.degree) c.requires.second.degree))
    (omega arith) c.places-at-end.ensures.enough)
    (c.loop-at.invariant e f i j)
