-- Module elements: sums of module monomials over the generators of a setting, and their values.
--
-- A setting is a prime and a list of generators. The weight of a generator is that of its leading
-- word. So a setting fixes the degree of each monomial, and the order on monomials.
--
-- A module element evaluates to a polynomial. It is a label of a polynomial f with signature τ
-- where it has only generators of the setting, evaluates to f, and has τ as its greatest monomial,
-- with coefficient 1. A label tells how f is made of the generators; a polynomial may have many.
--
-- All this counts modulo the prime. In particular the monomials of an element and the words of a
-- polynomial are those whose coefficient is not zero, whatever else the list has: so in `IsIn`,
-- `WordsAre` and `IsSignatureOf`.
use Rattle.nc_algebra.specs.Monomials.{IsMonomialLess, Monomial, Sig, degree_of, monomial_of, same_monomial, sig_of, times}
use Rattle.nc_algebra.specs.Polynomials.{Polynomial, coefficient, leading, polynomial_times}
use Rattle.nc_algebra.specs.Primes.{IsZero}
use Rattle.nc_algebra.specs.Sums.{IsLeadingKey, SameSum, Term, coefficient_by, map_keys, substitute}
use Rattle.nc_algebra.specs.Words.{IsWordLess, Word, same_word, word_weight}
use Rattle.std.specs.Prelude.{List, [], get_or, length, suc, zero, ℕ, ◌%◌, ◌≡◌, ◌≤◌}

-- a finite sum of module monomials, in any order; repeats and zeros are allowed
abbrev pub Element : Type 0
Element = List (Term Monomial)

-- u α v
abbrev pub element_times : Word → Element → Word → Element
element_times u α v = map_keys (λ σ. times u σ v) α

-- a prime and the generators f_1, f_2 ..
pub record Setting : Type 0 where
  pub prime : ℕ
  pub generators : List Polynomial

-- generators are counted from 1
abbrev pub IsGenerator : Setting → ℕ → Type 0
IsGenerator s i = (1 ≤ i) × (i ≤ length s.generators)

-- f_i, and the polynomial zero where i is no generator's number
unfoldable pub generator : Setting → ℕ → Polynomial
generator s zero = []
generator s (suc i) = get_or s.generators i []

-- the weight of f_i: that of its leading word
abbrev pub generator_weight : Setting → ℕ → ℕ
generator_weight s i = word_weight (leading s.prime (generator s i))

-- the degree of a module monomial
abbrev pub degree : Setting → Monomial → ℕ
degree s = degree_of (generator_weight s)

-- the degree that stands beside a monomial is its degree in the setting
abbrev pub HasDegree : Setting → Sig → Type 0
HasDegree s σ = σ ≡ sig_of (generator_weight s) (monomial_of σ)

-- the order of the setting on module monomials
abbrev pub IsLess : Setting → Monomial → Monomial → Type 0
IsLess s = IsMonomialLess (generator_weight s)

-- what α evaluates to: each `a [i] b` goes to a f_i b
abbrev pub evaluation : Setting → Element → Polynomial
evaluation s α = substitute α (λ σ. polynomial_times σ.left (generator s σ.generator) σ.right)

-- w is the greatest word of f
abbrev pub IsLeadingWord : Setting → Polynomial → Word → Type 0
IsLeadingWord s = IsLeadingKey same_word IsWordLess s.prime

-- f is zero: each coefficient is 0
abbrev pub IsZeroPolynomial : Setting → Polynomial → Type 0
IsZeroPolynomial s f = (w : Word) → IsZero s.prime (coefficient f w)

-- σ is the signature of α
abbrev pub IsSignatureOf : Setting → Element → Monomial → Type 0
IsSignatureOf s = IsLeadingKey same_monomial (IsLess s) s.prime

-- the two lists are the same polynomial
abbrev pub SamePolynomial : Setting → Polynomial → Polynomial → Type 0
SamePolynomial s = SameSum same_word s.prime

-- all monomials of α lie in the set
abbrev pub IsIn : Setting → Element → (Monomial → Type 0) → Type 0
IsIn s α set = (σ : Monomial) → ¬ IsZero s.prime (coefficient_by same_monomial α σ) → set σ

-- α is a label of f with signature τ
pub record IsLabelled (s : Setting) (τ : Monomial) (f : Polynomial) (α : Element) : Type 0 where
  pub lies : IsIn s α (λ σ. IsGenerator s σ.generator)
  pub evaluates : SamePolynomial s (evaluation s α) f
  pub leads : IsSignatureOf s α τ
  pub one : coefficient_by same_monomial α τ % s.prime ≡ 1

-- each word of f has the property
abbrev pub WordsAre : Setting → (Word → Type 0) → Polynomial → Type 0
WordsAre s property f = (w : Word) → ¬ IsZero s.prime (coefficient f w) → property w

-- each word of f weighs at most d
abbrev pub WeighsAtMost : Setting → ℕ → Polynomial → Type 0
WeighsAtMost s d = WordsAre s (λ w. word_weight w ≤ d)
