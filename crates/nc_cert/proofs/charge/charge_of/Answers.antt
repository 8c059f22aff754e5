use Rattle.nc_cert.proofs.Sizes.{charge_few, letters_few, products_is}
use Rattle.std.proofs.Common.{ap, arith, length, sym, ◌*◌, ◌+◌, ◌∙◌, ◌≤◌}
use Rattle.nc_cert.proofs.charge.charge_of.Goals as goal

pub overflow_add-result : goal.overflow_add-result
overflow_add-result c =
    let few : c.args.letters ≤ 200000 * length c.args.words.now =
    omega (
      arith,
      c.requires.letters,
      letters_few c.args.a.now c.args.words.now c.args.b.now c.requires.short,
    ) in
    omega (
      arith,
      charge_few (length c.args.words.now) (length c.args.a.now) (length c.args.b.now)
          c.args.letters c.requires.left c.requires.right few,
    )

pub returns-clause-value : goal.returns-clause-value
returns-clause-value c =
    ap (λ n. length c.args.words.now * (1 + length c.args.a.now + length c.args.b.now) + n)
    c.requires.letters ∙ sym (products_is c.args.a.now c.args.words.now c.args.b.now)

pub returns-clause-few : goal.returns-clause-few
returns-clause-few c =
    let few : c.args.letters ≤ 200000 * length c.args.words.now =
    omega (
      arith,
      c.requires.letters,
      letters_few c.args.a.now c.args.words.now c.args.b.now c.requires.short,
    ) in
    omega (
      arith,
      charge_few (length c.args.words.now) (length c.args.a.now) (length c.args.b.now)
          c.args.letters c.requires.left c.requires.right few,
    )
