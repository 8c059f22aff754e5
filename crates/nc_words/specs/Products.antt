-- Three words in a row that are read as one, as the word of a multiple is.
--
-- A multiple u f v has the words of f between u and v. To compare such words, code reads the three
-- pieces in place, and makes no word for it.
use Rattle.nc_algebra.specs.Words.{Word}
use Rattle.nc_words.specs.declared.joined.Joined.{Joined}
use Rattle.std.specs.Prelude.{◌++◌}

-- the one word
abbrev pub joined_word : Joined → Word
joined_word j = j.first.now ++ (j.second.now ++ j.third.now)
