-- Two words that meet, and the signature of the ambiguity where two leading words do.
--
-- The first word begins at 0, and the second one k letters on. They meet where each begins before
-- the other ends: that is what `within` and `some` ask in `MeetAt`. To find all ambiguities of two
-- entries, a search takes them in both orders and each k. Where the two signatures are equal there
-- is no ambiguity.
use Rattle.nc_algebra.specs.Elements.{IsLess, Setting}
use Rattle.nc_algebra.specs.Monomials.{Monomial, times}
use Rattle.nc_algebra.specs.Polynomials.{leading}
use Rattle.nc_algebra.specs.Words.{Word}
use Rattle.nc_theory.specs.Found.{Meeting}
use Rattle.nc_theory.specs.States.{Entry}
use Rattle.std.specs.Prelude.{[], None, Option, Some, length, ℕ, ◌++◌, ◌+◌, ◌<◌, ◌≡◌, ◌⊎◌}

-- u y and x v z are one word, which u and v span; v stands k letters on
abbrev pub AreAround : Word → Word → ℕ → Word → Word → Word → Type 0
AreAround u v k x y z = (u ++ y ≡ x ++ (v ++ z)) × ((y ≡ []) ⊎ (z ≡ [])) × (length x ≡ k)

-- what stands around u and v there, and None exactly where they do not meet so
abbrev pub IsMeeting : Word → Word → ℕ → Option Meeting → Type 0
IsMeeting u v k None = (x y z : Word) → ¬ AreAround u v k x y z
IsMeeting u v k (Some m) = AreAround u v k m.before m.behind_first m.behind_second

-- ρ is the greater one of two that differ
abbrev pub IsGreaterOf : Setting → Monomial → Monomial → Monomial → Type 0
IsGreaterOf s σ τ ρ = (IsLess s σ τ × (ρ ≡ τ)) ⊎ (IsLess s τ σ × (ρ ≡ σ))

-- the leading word of f begins within that of e, k letters on, and ρ is the greater side
pub record MeetAt (s : Setting) (e f : Entry) (k : ℕ) (ρ : Monomial) : Type 0 where
  pub before : Word
  pub behind_first : Word
  pub behind_second : Word
  pub around : AreAround (leading s.prime e.polynomial) (leading s.prime f.polynomial) k before
      behind_first behind_second
  pub within : k < length (leading s.prime e.polynomial)
  pub some : 0 < k + length (leading s.prime f.polynomial)
  pub greater : IsGreaterOf s (times [] e.signature behind_first)
      (times before f.signature behind_second) ρ

-- a signature where the leading word of f begins within that of e
abbrev pub MeetSomewhere : Setting → Entry → Entry → Monomial → Type 0
MeetSomewhere s e f σ = (k : ℕ) × MeetAt s e f k σ

-- the one monomial with the property, and None exactly where there is none
abbrev pub IsOnly : (Monomial → Type 0) → Option Monomial → Type 0
IsOnly set None = (σ : Monomial) → ¬ set σ
IsOnly set (Some τ) = set τ × ((σ : Monomial) → set σ → σ ≡ τ)
