-- What was taken from a source.
--
-- A source may tell contracts the bytes that are not taken yet, or not, as a sink may with its own
-- (`Adds.antt`). Where it does not, some bytes were taken, and of them only the number is limited.
-- Reading takes pieces until there are no more bytes, or as many as a limit. A caller that wants to
-- know whether a text is too long reads with a limit of one byte more than it allows.
use Rattle.std.specs.Prelude.{◌≡◌, ℕ, ◌≤◌, ◌<◌, List, ◌++◌, length}
use Rattle.std.specs.declared.option.Option.{Option}
use Rattle.std.specs.Io.KnownBytes.{Consumes, IsAtEnd}
use Rattle.nc_io.specs.Causes.{Rose}
use Rattle.nc_io.specs.declared.whole.Fault.{Fault}
use Rattle.nc_io.specs.declared.whole.Fault.TheVariants.{Read, Memory}

-- a piece of count bytes was taken and stands behind the old bytes, within the limit, and is empty
-- only at the end
pub record TakesPiece (before after : Option (List ℕ)) (old new : List ℕ) (limit count : ℕ) : Type 0
  where
    pub piece : List ℕ
    pub bytes : new ≡ old ++ piece
    pub taken : Consumes before after piece
    pub counted : length piece ≡ count
    pub within : length new ≤ limit
    pub end : count ≡ 0 → IsAtEnd after

-- these bytes were taken: all there were, or as many as the limit
pub record TakesWhole (before after : Option (List ℕ)) (bytes : List ℕ) (limit : ℕ) : Type 0 where
  pub taken : Consumes before after bytes
  pub within : length bytes ≤ limit
  pub whole : length bytes < limit → IsAtEnd after

-- some bytes were taken, no more than the limit
pub record TakesFront (before after : Option (List ℕ)) (limit : ℕ) : Type 0 where
  pub bytes : List ℕ
  pub taken : Consumes before after bytes
  pub within : length bytes ≤ limit

-- a fault of reading comes only where the count of failures rose, and want of memory may come
-- anywhere
abbrev pub IsReadFault : ℕ → ℕ → Fault → Type 0
IsReadFault before now Read = Rose before now
IsReadFault before now Memory = Unit {0}
