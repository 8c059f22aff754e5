use Rattle.nc_poly.proofs.Collecting.{collected_is}
use Rattle.nc_poly.specs.Collecting.{has_coefficient}
use Rattle.std.proofs.Common.{ap, ◌<◌, ◌∙◌}
use Rattle.std.proofs.lemmas.List.Elements.{All-filter}
use Rattle.std.proofs.lemmas.List.Sorted.{All-permutation}
use Rattle.std.specs.List.{filter}
use Rattle.nc_poly.proofs.collect.collect.Goals as goal

pub carry-requires : goal.carry-requires
carry-requires c =
    All-permutation (λ t. t.coefficient < c.args.p) _ _ c.sort_by_word.ensures.permutation
    c.requires

pub returns-clause-normal : goal.returns-clause-normal
returns-clause-normal c =
    c.drop_zeros.ensures ∙ (ap (filter has_coefficient) c.carry.ensures.carried
    ∙ collected_is c.args.p c.args.terms.now.items c.sort_by_word.new.terms.items c.requires
    c.sort_by_word.ensures.permutation c.sort_by_word.ensures.falling)

pub returns-clause-residues : goal.returns-clause-residues
returns-clause-residues c =
    rw c.drop_zeros.ensures (All-filter has_coefficient (λ t. t.coefficient < c.args.p) _
    c.carry.ensures.residues)
