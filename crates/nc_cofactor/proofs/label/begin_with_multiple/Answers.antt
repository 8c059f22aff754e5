use Rattle.nc_cofactor.proofs.Steps.{begun}
use Rattle.nc_field.proofs.Primes.{listed_is_prime}
use Rattle.nc_cofactor.proofs.label.begin_with_multiple.Goals as goal

pub returns : goal.returns
returns c =
    begun c.args.setting.now.setting c.args.labels.now c.args.left.now c.args.number
    c.args.right.now c.requires c.label_in-label.result.now c.label_in-label.ensures
    c.new-sum.result c.add_multiple.new.sum
    (listed_is_prime c.args.setting.now.setting.prime c.prime-prime.ensures.setting.prime).above_one
    c.new-sum.ensures c.in_ok-add_multiple.ensures.sum c.in_ok-add_multiple.ensures.descends
    c.in_ok-add_multiple.ensures.residues
