use Rattle.nc_algebra.specs.Sums.{Term}
use Rattle.nc_algebra.specs.Words.{Word}
use Rattle.nc_poly.proofs.Terms.{pair_written}
use Rattle.std.proofs.Common.{ap, sym, ◌%◌, ◌+◌, ◌∙◌}
use Rattle.nc_poly.proofs.collect.carry_pair.Goals as goal

pub returns-then-has_word_of-clause-pair : goal.returns-then-has_word_of-clause-pair
returns-then-has_word_of-clause-pair c front rest t u parts place =
    let d : Term Word = c.index_mut-then-has_word_of.result.now in
    pair_written c.args.p c.args.at c.args.terms.now.items front rest t u c.index.result.now
    c.index-2.result.now c.index_mut.result.now d c.take_coefficient-c.new.self c.gain.new.self
    parts place
    c.index.ensures c.index-2.ensures (sym c.has_word_of.ensures ∙ c.if-has_word_of.true)
    c.index_mut.ensures.value c.take_coefficient-c.ensures.after
    c.index_mut-then-has_word_of.ensures.value
    (c.gain.ensures ∙ ap (λ n. let r : Term Word = record
    { coefficient = (n + d.coefficient) % c.args.p; key = d.key } in r)
    c.take_coefficient-c.ensures.value)
