-- The order of signatures is total, in the form that maps ask for.
--
-- The comparison goes through the degree, the generator, the left word and the right word; each of
-- them is compared by a total order.
use Rattle.nc_algebra.proofs.Words.{words_order}
use Rattle.nc_algebra.specs.Monomials.{compare_sigs}
use Rattle.std.specs.Cmp.{IsTotalOrder, nat_cmp_total, on_total, then_total}

-- it is total, in the form that maps ask for
pub sigs_order : IsTotalOrder compare_sigs
sigs_order =
    then_total (on_total (λ s. s.degree) nat_cmp_total)
    (then_total (on_total (λ s. s.generator) nat_cmp_total)
    (then_total (on_total (λ s. s.left) words_order) (on_total (λ s. s.right) words_order)))
