use Rattle.nc_algebra.specs.Monomials.{Sig, sig_times}
use Rattle.nc_algebra.specs.Sums.{Term}
use Rattle.nc_cofactor.proofs.Sums.{addable_left, addable_right}
use Rattle.nc_module.specs.Modules.{same_sig}
use Rattle.nc_poly.proofs.Heaps.{listed_residues}
use Rattle.nc_poly.proofs.Multiples.{moved_are_residues}
use Rattle.nc_poly.specs.Ordered.{AreResiduesBy}
use Rattle.std.proofs.Common.{List, arith, length, subst, sym, ◌+◌, ◌≤◌}
use Rattle.std.specs.List.{All}
use Rattle.nc_cofactor.proofs.sum.add_multiple.Goals as goal

pub multiples-requires-clause-left : goal.multiples-requires-clause-left
multiples-requires-clause-left c =
    subst (λ (l : List (Term Sig)). All (λ t. length c.args.u.now + length t.key.left ≤ 200000) l)
    (sym c.terms.ensures.terms) (addable_left c.args.setting.now.setting c.args.u.now c.args.m.now
    c.args.v.now c.requires.addable)

pub multiples-requires-clause-right : goal.multiples-requires-clause-right
multiples-requires-clause-right c =
    subst (λ (l : List (Term Sig)). All (λ t. length t.key.right + length c.args.v.now ≤ 200000) l)
    (sym c.terms.ensures.terms) (addable_right c.args.setting.now.setting c.args.u.now c.args.m.now
    c.args.v.now c.requires.addable)

pub add_all-requires-clause-factors : goal.add_all-requires-clause-factors
add_all-requires-clause-factors c =
    listed_residues c.prime-p.result c.in_ok-pairs.pairs.items
    (subst (AreResiduesBy c.prime-p.result) (sym c.in_ok-pairs.ensures)
    (moved_are_residues same_sig c.prime-p.result c.args.c
    (λ σ. sig_times c.args.u.now σ c.args.v.now) c.terms.result.now
    (omega (arith, c.requires.factor, c.prime-p.ensures.prime))))
