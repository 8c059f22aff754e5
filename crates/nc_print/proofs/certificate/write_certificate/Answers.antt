use Rattle.std.proofs.Common.{refl}
use Rattle.nc_print.proofs.Writing.{polynomial_named, words_named}
use Rattle.nc_print.proofs.certificate.write_certificate.Goals as goal

pub write_proof-requires-clause-claim : goal.write_proof-requires-clause-claim
write_proof-requires-clause-claim c =
    polynomial_named c.c.inside.setting.alphabet c.c.inside.setting.setting.prime c.c.inside.claim
    c.c.invariant.claim

pub write_proof-requires-clause-left : goal.write_proof-requires-clause-left
write_proof-requires-clause-left c =
    words_named c.c.inside.setting (λ part. part.left) (λ reaches part h. h.left) _ c.c.inside.lines
    _ refl refl c.c.invariant.lines

pub write_proof-requires-clause-right : goal.write_proof-requires-clause-right
write_proof-requires-clause-right c =
    words_named c.c.inside.setting (λ part. part.right) (λ reaches part h. h.right) _
    c.c.inside.lines _ refl refl c.c.invariant.lines
