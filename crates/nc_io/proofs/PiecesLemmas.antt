-- What was taken from a source by several calls.
-- `front_after` puts a further piece behind the bytes that were taken before.
use Rattle.std.proofs.Common.{ℕ, ◌-◌, ◌≤◌, List, ◌++◌, length, arith, length-append}
use Rattle.std.specs.declared.option.Option.{Option}
use Rattle.std.specs.Io.KnownBytes.{Consumes}
use Rattle.std.proofs.KnownBytes.{Consumes-trans}
use Rattle.nc_io.specs.Pieces.{TakesFront}

-- some bytes were taken, and then some more
pub front_after : (a b c : Option (List ℕ)) (xs : List ℕ) (limit : ℕ) → Consumes a b xs
    → length xs ≤ limit → TakesFront b c (limit - length xs) → TakesFront a c limit
front_after a b c xs limit taken within more = record {
  bytes = xs ++ more.bytes;
  taken = Consumes-trans a b c xs more.bytes taken more.taken;
  within = omega (arith, length-append xs more.bytes);
}
