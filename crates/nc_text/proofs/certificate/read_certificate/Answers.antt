use Rattle.nc_text.proofs.LinesLeft.{claimed_left, text_left}
use Rattle.std.proofs.Common.{arith}
use Rattle.nc_text.proofs.Terms.{is_certificate}
use Rattle.nc_text.proofs.certificate.read_certificate.Goals as goal

pub invariant_of-result : goal.invariant_of-result
invariant_of-result c =
    let start = rw c.of-text.ensures at c.in_ok-form.ensures in
    is_certificate _ _ _ _ _ _ _ _ _ start c.in_ok-setting.ensures c.in_ok-claim.ensures
    c.in_ok-lines.ensures c.in_ok-end_line.ensures

pub body_of-requires : goal.body_of-requires
body_of-requires c =
    let start = rw c.of-text.ensures at c.in_ok-form.ensures in
    omega (
      arith,
      text_left 1 c.args.bytes.now,
      claimed_left _ _ _ _ _ _ _ start c.in_ok-setting.ensures c.in_ok-claim.ensures,
      c.requires,
    )
