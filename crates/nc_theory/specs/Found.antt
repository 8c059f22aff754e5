-- What searches find, as words and numbers.
--
-- The theory speaks of divisors, which are values with proofs. A program hands on the number of an
-- entry and the words around a place. These records are what it hands on; the other
-- files say for each search when such a record is the right answer. Where a search may find
-- nothing, they also say what `None` means. Numbers of entries count from 1.
use Rattle.nc_algebra.specs.Words.{Word}
use Rattle.std.specs.Prelude.{ℕ}

-- a divisor of a word: the number of its entry, counted from 1, and what stands around it
pub record Chosen : Type 0 where
  pub left : Word
  pub number : ℕ
  pub right : Word

-- a multiple of an entry, and its leading word
pub record Best : Type 0 where
  pub word : Word
  pub left : Word
  pub number : ℕ
  pub right : Word

-- what stands around two words that meet: before the second one, and behind each
pub record Meeting : Type 0 where
  pub before : Word
  pub behind_first : Word
  pub behind_second : Word
