-- What the words and the entries of a run have: limits, and polynomials that are not zero.
--
-- The limits are those of a program: an alphabet has at most 64 letters, of weight at most 100, and
-- no word weighs more than 200,000. The laws `SnapshotFactsLaw` and `CandidateFactsLaw` say that a
-- run of a problem within the limits of `IsProblem` keeps to them.
use Rattle.nc_algebra.specs.Finite.{AreLetters}
use Rattle.nc_algebra.specs.Elements.{Setting, WeighsAtMost, WordsAre, degree}
use Rattle.nc_algebra.specs.Limits.{max_weight}
use Rattle.nc_algebra.specs.Monomials.{Monomial}
use Rattle.nc_algebra.specs.Polynomials.{IsNormal, Polynomial}
use Rattle.nc_algebra.specs.Words.{Word, word_weight}
use Rattle.nc_theory.specs.States.{Entry}
use Rattle.std.specs.Prelude.{[], ◌≢◌, ◌≤◌}

-- a word within the length limit, over letters that a program can have
abbrev pub IsSmall : Word → Type 0
IsSmall w = (word_weight w ≤ max_weight) × AreLetters 64 100 w

-- each word of the polynomial is such
abbrev pub HasSmallWords : Setting → Polynomial → Type 0
HasSmallWords s = WordsAre s IsSmall

-- an entry's polynomial: in normal form, not zero, over such letters, with words that weigh at most
-- its signature's degree
pub record IsUsable (s : Setting) (e : Entry) : Type 0 where
  pub normal : IsNormal s.prime e.polynomial
  pub some : e.polynomial ≢ []
  pub letters : WordsAre s (AreLetters 64 100) e.polynomial
  pub light : WeighsAtMost s (degree s e.signature) e.polynomial

-- a signature within the limit, over such letters
pub record IsUsableSignature (s : Setting) (τ : Monomial) : Type 0 where
  pub limited : degree s τ ≤ max_weight
  pub left : AreLetters 64 100 τ.left
  pub right : AreLetters 64 100 τ.right
