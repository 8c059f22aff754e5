use Rattle.nc_algebra.proofs.Words.{weight-append}
use Rattle.nc_algebra.specs.Words.{Word}
use Rattle.std.proofs.Common.{[], ap, arith, ◌++◌, ◌∙◌, ◌≡◌}
use Rattle.nc_sig.proofs.sig.Sig.times.Goals as goal

pub invariant_of-result : goal.invariant_of-result
invariant_of-result c =
    let u : Word = c.args.u.now in
    let v : Word = c.args.v.now in
    let l : Word = c.self.inside.left in
    let r : Word = c.self.inside.right in
    let left : c.in_ok-left.left ≡ u ++ (l ++ []) =
    c.in_ok-left.ensures.letters ∙ ap (λ z. u ++ (z ++ [])) c.letters.ensures.letters in
    let right : c.in_ok-right.right ≡ r ++ (v ++ []) =
    c.in_ok-right.ensures.letters ∙ ap (λ z. z ++ (v ++ [])) c.letters-2.ensures.letters in
    rw (left, right) (omega (
      arith,
      weight-append u (l ++ []),
      weight-append l [],
      weight-append r (v ++ []),
      weight-append v [],
      c.self.invariant,
      c.weight_of.ensures.weight,
      c.from.ensures,
      c.weight_of-2.ensures.weight,
    ))
