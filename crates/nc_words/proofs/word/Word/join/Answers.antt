use Rattle.nc_algebra.proofs.Words.{weight-append}
use Rattle.nc_algebra.specs.Words.{Word}
use Rattle.std.proofs.Common.{ap, arith, ◌++◌, ◌∙◌, ◌≡◌}
use Rattle.std.proofs.lemmas.List.{append_assoc, length-append}
use Rattle.nc_words.proofs.word.Word.join.Goals as goal

pub invariant_of-result : goal.invariant_of-result
invariant_of-result c =
    let a : Word = c.args.a.now in
    let b : Word = c.args.b.now in
    let d : Word = c.args.c.now in
    let first : c.extend_from_slice.new.self.items ≡ a =
    c.in_ok-extend_from_slice.ensures.ok
    ∙ ap (λ (l : Word). l ++ a) (c.reserve.ensures.items ∙ c.new-kept.ensures.items) in
    let second : c.extend_from_slice-2.new.self.items ≡ a ++ b =
    c.in_ok-extend_from_slice-2.ensures.ok ∙ ap (λ (l : Word). l ++ b) first in
    let is : c.extend_from_slice-3.new.self.items ≡ a ++ (b ++ d) =
    c.in_ok-extend_from_slice-3.ensures.ok
    ∙ (ap (λ (l : Word). l ++ d) second ∙ append_assoc a b d) in
    rw is (
      omega (arith, length-append a (b ++ d), length-append b d),
      omega (arith, weight-append a (b ++ d), weight-append b d),
      omega (arith, length-append a (b ++ d), length-append b d),
    )
