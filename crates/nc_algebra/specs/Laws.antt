-- The theorems of this crate: on orders, normal forms, bounds and certificates.
--
-- `WordOrder` and `MonomialOrder` say that the two orders are strict, total and well-founded, and
-- compatible with multiplication, and that the comparisons compute them. `LabelLimit` bounds the
-- weight of what has a label, and `Inverses` gives inverses modulo a prime. `SigLaw` justifies
-- monomials that carry their degree. `FiniteBound` says that the list of a bound's monomials is
-- right, `NormalForms` that each polynomial has one normal form, and `LeadingIsGreatest` that the
-- leading word is computed.
--
-- The last three are on certificates: one is valid exactly where its rest is empty, each one has
-- cofactors, and a module element makes a certificate of one line.
--
-- Each theorem is the contract of a public function with an empty body. A crate that calls the
-- function has the theorem.
use Rattle.nc_algebra.specs.Certificates.{Certificate, IsCertificate, IsValid, Line, element_lines, lines_element, lines_value, rest_of}
use Rattle.nc_algebra.specs.Elements.{degree, Element, IsGenerator, IsIn, IsLabelled, IsLess, Setting, WeighsAtMost, evaluation, generator_weight}
use Rattle.nc_algebra.specs.Finite.{IsOver, monomials_within}
use Rattle.nc_algebra.specs.Lists.{IsDistinct}
use Rattle.nc_algebra.specs.Problems.{Bound, IsWithinBound}
use Rattle.nc_algebra.specs.Monomials.{Monomial, above_degree, compare_monomials, compare_sigs, sig_of, sig_times, times}
use Rattle.nc_algebra.specs.Orders.{Compares}
use Rattle.nc_algebra.specs.Polynomials.{IsNormal, Polynomial, coefficient, leading, normal_form}
use Rattle.nc_algebra.specs.Primes.{IsPrime, IsZero}
use Rattle.nc_algebra.specs.Sums.{SameSum}
use Rattle.nc_algebra.specs.Words.{IsWordLess, Letter, OccursAt, Word, compare_words, same_word, word_weight}
use Rattle.std.specs.declared.cmp.Ordering.TheVariants.{Less}
use Rattle.std.specs.Prelude.{Contains, List, [], ◌↔◌, length, suc, ℕ, ◌%◌, ◌*◌, ◌++◌, ◌+◌, ◌<◌, ◌≡◌, ◌≤◌, ◌⊎◌}

-- the order on words is strict, total and without endless descent, goes with multiplication on both
-- sides, and the comparison says it
pub record WordOrder : Type 0 where
  pub irreflexive : (u : Word) → ¬ IsWordLess u u
  pub transitive : (u v w : Word) → IsWordLess u v → IsWordLess v w → IsWordLess u w
  pub compares : Compares compare_words IsWordLess (λ u v. u ≡ v)
  pub before : (x u v : Word) → IsWordLess u v → IsWordLess (x ++ u) (x ++ v)
  pub behind : (u v y : Word) → IsWordLess u v → IsWordLess (u ++ y) (v ++ y)
  pub ends : (f : ℕ → Word) → ¬ ((n : ℕ) → IsWordLess (f (suc n)) (f n))
  pub additive : (u v : Word) → word_weight (u ++ v) ≡ word_weight u + word_weight v
  pub lighter : (u v : Word) → word_weight u < word_weight v → IsWordLess u v
  pub weighs : (u v : Word) → IsWordLess u v → word_weight u ≤ word_weight v
  pub factor : (v w : Word) (q : ℕ) → OccursAt v w q → word_weight v ≤ word_weight w
  pub proper : (v w : Word) (q : ℕ) → OccursAt v w q → (v ≡ w) ⊎ IsWordLess v w
  pub long : (w : Word) → length w ≤ word_weight w

-- the same of the order on module monomials
pub record MonomialOrder (s : Setting) : Type 0 where
  pub irreflexive : (σ : Monomial) → ¬ IsLess s σ σ
  pub transitive : (σ τ ρ : Monomial) → IsLess s σ τ → IsLess s τ ρ → IsLess s σ ρ
  pub compares : Compares (compare_monomials (generator_weight s)) (IsLess s) (λ σ τ. σ ≡ τ)
  pub multiples : (u v : Word) (σ τ : Monomial) → IsLess s σ τ
      → IsLess s (times u σ v) (times u τ v)
  pub ends : (f : ℕ → Monomial) → ¬ ((n : ℕ) → IsLess s (f (suc n)) (f n))

-- each word of a labelled polynomial weighs at most its signature's degree
abbrev pub LabelLimit : Type 0
LabelLimit =
    (s : Setting) (τ : Monomial) (f : Polynomial) (α : Element) → IsLabelled s τ f α
    → WeighsAtMost s (degree s τ) f

-- each number that a prime does not divide has an inverse modulo it
abbrev pub Inverses : Type 0
Inverses = (p : ℕ) → IsPrime p → (a : ℕ) → ¬ IsZero p a → (b : ℕ) × (a * b % p ≡ 1)

-- code that keeps a monomial's degree beside it compares and multiplies as the definitions do, and
-- a bound by degree is one by a Sig
pub record SigLaw (s : Setting) : Type 0 where
  pub compares : (σ τ : Monomial)
      → compare_monomials (generator_weight s) σ τ ≡ compare_sigs (sig_of (generator_weight s) σ)
      (sig_of (generator_weight s) τ)
  pub multiples : (u v : Word) (σ : Monomial)
      → sig_of (generator_weight s) (times u σ v) ≡ sig_times u (sig_of (generator_weight s) σ) v
  pub bound : (d : ℕ) (σ : Monomial)
      → (compare_sigs (sig_of (generator_weight s) σ) (above_degree d) ≡ Less) ↔ (degree s σ ≤ d)

-- the list of a bound's monomials over these letters has those and no others, and each once
abbrev pub FiniteBound : Type 0
FiniteBound = (s : Setting) (b : Bound) (letters : List Letter) →
    ((σ : Monomial) → Contains (monomials_within s b letters) σ
    ↔ (IsWithinBound s b σ × IsOver letters σ.left × IsOver letters σ.right))
    × (IsDistinct letters → IsDistinct (monomials_within s b letters))

-- each polynomial has one normal form, and it is computed
pub record NormalForms (p : ℕ) : Type 0 where
  pub normal : (f : Polynomial) → IsNormal p (normal_form p f)
  pub same : (f : Polynomial) → SameSum same_word p (normal_form p f) f
  pub only : (f g : Polynomial) → IsNormal p g → SameSum same_word p g f → g ≡ normal_form p f

-- the leading word that is computed has a coefficient other than zero, and is the greatest such
-- word; where there is no such word, it is the empty word
pub record LeadingIsGreatest (p : ℕ) (f : Polynomial) : Type 0 where
  pub counts : (w : Word) → ¬ IsZero p (coefficient f w) → ¬ IsZero p (coefficient f (leading p f))
  pub greatest : (w : Word) → ¬ IsZero p (coefficient f w)
      → (w ≡ leading p f) ⊎ IsWordLess w (leading p f)
  pub none : ((w : Word) → IsZero p (coefficient f w)) → leading p f ≡ []

-- a certificate is valid exactly where nothing is left of its claim
abbrev pub Validity : Type 0
Validity =
    (s : Setting) (claim : Polynomial) (lines : List Line) → 0 < s.prime → IsValid s claim lines
    ↔ (rest_of s claim lines ≡ [])

-- what a certificate's lines stand for is an element over the generators, and their value is what
-- it evaluates to: so a valid certificate has cofactors of its claim
abbrev pub CofactorLaw : Type 0
CofactorLaw =
    (c : Certificate) → IsCertificate c
    → IsIn c.setting.setting (lines_element c.lines)
    (λ σ. IsGenerator c.setting.setting σ.generator)
    × (evaluation c.setting.setting (lines_element c.lines) ≡ lines_value c.setting.setting c.lines)

-- the one line of an element's terms has the value that the element evaluates to
abbrev pub ElementLines : Type 0
ElementLines = (s : Setting) (α : Element) → lines_value s (element_lines α) ≡ evaluation s α
