use Rattle.nc_poly.proofs.Terms.{before_order, falls_from_sorted, is_before}
use Rattle.std.proofs.Common.{rules}
use Rattle.std.proofs.lemmas.List.Sorted.{answers_always}
use Rattle.nc_poly.proofs.collect.sort_by_word.Goals as goal

pub returns-clause-falling : goal.returns-clause-falling
returns-clause-falling c =
    falls_from_sorted c.sort_unstable_by.new.self.items
    (c.sort_unstable_by.ensures.sorted is_before before_order
    (answers_always _ _ _ (λ f a r g h. search rules)))
