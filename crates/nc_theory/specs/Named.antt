-- Words over the alphabet of a problem, in a run.
--
-- The theory knows letters by numbers and weights. A report names them, so each letter that a run
-- reaches must have a name. The law `AlphabetLaw` says that it has one.
use Rattle.nc_algebra.specs.Alphabets.{Alphabet, AreWordsIn, IsWordIn, letter_at}
use Rattle.nc_algebra.specs.Monomials.{Monomial}
use Rattle.nc_algebra.specs.Problems.{NamedProblem}
use Rattle.nc_algebra.specs.Words.{Letter}
use Rattle.nc_theory.specs.Runs.{IsCandidate}
use Rattle.nc_theory.specs.States.{Entry, State, Syzygy}
use Rattle.std.specs.List.{range_with_len}
use Rattle.std.specs.Prelude.{Contains, List, length, map}

-- the letters of an alphabet, in the order of their numbers
abbrev pub alphabet_letters : Alphabet → List Letter
alphabet_letters a = map (letter_at a) (range_with_len 0 (length a.names))

-- both words of the monomial are over the alphabet
abbrev pub IsMonomialIn : Alphabet → Monomial → Type 0
IsMonomialIn a σ = IsWordIn a σ.left × IsWordIn a σ.right

-- all words of the state, and those of its candidates, are over the problem's alphabet
pub record IsOverAlphabet (P : NamedProblem) (state : State) : Type 0 where
  pub entries : (e : Entry) → Contains state.entries e → IsMonomialIn P.alphabet e.signature
      × AreWordsIn P.alphabet e.polynomial
  pub syzygies : (h : Syzygy) → Contains state.syzygies h → IsMonomialIn P.alphabet h.signature
  pub candidates : (τ : Monomial) → IsCandidate P.problem state τ → IsMonomialIn P.alphabet τ
