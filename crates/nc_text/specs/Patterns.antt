-- A word, read by patterns on its tokens.
--
-- `Reading.antt` tells a word step by step, close to the code. This is a second definition, close
-- to the grammar: each clause is one form that a word can have. The law `SameWords` says that the
-- two agree, faults included.
use Rattle.nc_algebra.specs.Alphabets.{Alphabet, letter_at}
use Rattle.nc_algebra.specs.Words.{Word}
use Rattle.nc_tokens.specs.declared.fault.Kind.{Kind}
use Rattle.nc_text.specs.Reading.{lengthened, letter_of}
use Rattle.nc_tokens.specs.Wanted.{misplaced, ◌>>=◌}
use Rattle.nc_tokens.specs.Tokens.{Literal, Name, Power, Times, Token}
use Rattle.std.specs.Prelude.{Err, List, Ok, Result, ℕ, ◌∷◌}

-- a word with a letter, given by its name, n times behind it
abbrev pub powered : Alphabet → Word → List ℕ → ℕ → Result Word Kind
powered a word name n = letter_of a.names name >>= λ letter. lengthened word (letter_at a letter) n

-- WORD, behind the word so far
unfoldable pub word_by_patterns : Alphabet → Word → List Token → Result (Word × List Token) Kind
word_by_patterns a w (Name x ∷ Power ∷ Literal n ∷ Times ∷ ts) =
    powered a w x n >>= λ v. word_by_patterns a v ts
word_by_patterns a w (Name x ∷ Power ∷ Literal n ∷ ts) = powered a w x n >>= λ v. Ok (v, ts)
word_by_patterns a w (Name x ∷ Power ∷ ts) = letter_of a.names x >>= λ _. Err (misplaced ts)
word_by_patterns a w (Name x ∷ Times ∷ ts) = powered a w x 1 >>= λ v. word_by_patterns a v ts
word_by_patterns a w (Name x ∷ ts) = powered a w x 1 >>= λ v. Ok (v, ts)
word_by_patterns a w ts = Err (misplaced ts)
