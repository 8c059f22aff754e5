use Rattle.nc_algebra.specs.Certificates.{Part, part_value}
use Rattle.nc_algebra.specs.Sums.{SameSum, minus}
use Rattle.nc_algebra.specs.Words.{same_word}
use Rattle.nc_cert.proofs.Differences.{part_taken}
use Rattle.nc_module.specs.Factors.{factor_of}
use Rattle.std.proofs.Common.{subst}
use Rattle.std.proofs.lemmas.Result.{on_ok_weaker}
use Rattle.nc_cert.proofs.value.sub_part.Goals as goal

pub returns-clause-difference : goal.returns-clause-difference
returns-clause-difference c =
    let seen : Part =
    record {
      coefficient = c.part.inside.coefficient;
      left = c.part.inside.left;
      of = factor_of c.part.inside.of;
      right = c.part.inside.right;
    } in
    on_ok_weaker c.sub_multiple.result
    (λ is. subst (λ (part : Part). SameSum same_word c.args.setting.now.setting.prime
    c.sub_multiple.new.self (minus c.args.setting.now.setting.prime c.args.sum.now c.args.c
    (part_value c.args.setting.now.setting c.args.values.now part))) c.part.view_is
    (part_taken c.args.setting.now.setting c.args.values.now seen c.prime-p.result c.args.c
    c.mul-scalar.result c.letters.result.now c.letters-2.result.now c.factor-f.result.now
    c.args.sum.now c.sub_multiple.new.self
    c.prime-p.ensures.prime c.mul-scalar.ensures.value c.letters.ensures.letters c.factor-f.ensures
    c.letters-2.ensures.letters is)) c.sub_multiple.ensures.difference
