use Rattle.nc_algebra.specs.Polynomials.{Polynomial}
use Rattle.nc_algebra.specs.Sums.{SameSum}
use Rattle.nc_algebra.specs.Words.{same_word}
use Rattle.nc_poly.proofs.Multiples.{multiples_are_residues, same_subtracted_from}
use Rattle.nc_poly.specs.Multiples.{multiples_of}
use Rattle.std.proofs.Common.{ap₂, arith, subst, ◌++◌, ◌<◌, ◌∙◌}
use Rattle.std.proofs.lemmas.List.Elements.{All-append}
use Rattle.nc_poly.proofs.accumulator.Accumulator.sub_multiple.Goals as goal

pub returns-in-Ok-clause-difference : goal.returns-in-Ok-clause-difference
returns-in-Ok-clause-difference c =
    same_subtracted_from c.args.p c.args.c c.args.u.now c.args.v.now c.args.self.now
    c.make_room.new.kept.items c.push_multiple.new.out.items c.args.g.now c.requires.factor
    (subst (λ (l : Polynomial). SameSum same_word c.args.p c.make_room.new.kept.items l)
    c.self.view_is c.in_ok-make_room.ensures.same)
    (c.in-Ok.ensures.appended
    ∙ ap₂ (λ n (g : Polynomial). c.make_room.new.kept.items ++ multiples_of c.args.p n
    c.args.u.now g c.args.v.now) c.neg.ensures.value c.terms-2.ensures.terms)

pub returns-in-Ok-clause-residues : goal.returns-in-Ok-clause-residues
returns-in-Ok-clause-residues c =
    rw c.in-Ok.ensures.appended (All-append (λ t. t.coefficient < c.args.p) _ _
    c.in_ok-make_room.ensures.residues
    (multiples_are_residues c.args.p c.neg.result c.args.u.now c.args.v.now c.terms-2.result.now
    (omega arith)))
