-- How a list of terms is brought into normal form in place, once its words descend.
--
-- Code sorts the terms first, so that equal words stand together. Then each coefficient is carried
-- on to the next term with the same word, modulo p, which leaves 0 behind. Last, the terms with
-- coefficient 0 are dropped. This needs no second list.
use Rattle.nc_algebra.specs.Polynomials.{Polynomial}
use Rattle.nc_algebra.specs.Sums.{Term}
use Rattle.nc_algebra.specs.Words.{IsWordLess, Word, same_word}
use Rattle.std.specs.Prelude.{Bool, [], cond, filter, nat_eq, not, ℕ, ◌%◌, ◌+◌, ◌∷◌, ◌≡◌, ◌⊎◌}

-- each listed word is w or less
abbrev pub AllUpTo : Word → Polynomial → Type 0
AllUpTo w [] = Unit {0}
AllUpTo w (t ∷ f) = ((t.key ≡ w) ⊎ IsWordLess t.key w) × AllUpTo w f

-- the words descend, and may stand several times
abbrev pub IsFalling : Polynomial → Type 0
IsFalling [] = Unit {0}
IsFalling (t ∷ f) = AllUpTo t.key f × IsFalling f

-- what is left of t where u follows it
abbrev pub left_of : Term Word → Term Word → Term Word
left_of t u = cond (same_word t.key u.key) (record { coefficient = 0; key = t.key }) t

-- what becomes of u behind t
abbrev pub gained : ℕ → Term Word → Term Word → Term Word
gained p t u =
    cond (same_word t.key u.key) (record {
      coefficient = (t.coefficient + u.coefficient) % p;
      key = u.key;
    }) u

-- all coefficients carried on, where t stands first
abbrev pub carried_behind : ℕ → Term Word → Polynomial → Polynomial
carried_behind p t [] = t ∷ []
carried_behind p t (u ∷ f) = left_of t u ∷ carried_behind p (gained p t u) f

-- the same of a whole list
abbrev pub carried : ℕ → Polynomial → Polynomial
carried p [] = []
carried p (t ∷ f) = carried_behind p t f

-- whether a term has a coefficient other than 0
abbrev pub has_coefficient : Term Word → Bool
has_coefficient t = not (nat_eq t.coefficient 0)

-- carried on, and without the terms that have no coefficient
abbrev pub collected : ℕ → Polynomial → Polynomial
collected p f = filter has_coefficient (carried p f)
