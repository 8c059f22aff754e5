-- What it means that a state has enough entries and enough syzygies.
--
-- A set of monomials is given, such as those within a bound. A state is a basis there if each
-- module element in the set evaluates to a polynomial that reduces to zero, by multiples whose
-- signatures do not exceed that of the element. It is a syzygy basis there if the signature of each
-- element in the set that evaluates to zero is covered. The first is known as a signature Gröbner
-- basis up to the bound.
--
-- Both speak of all module elements. `IsSound` and `IsClosed` speak of the state's own items, and
-- so can be kept by each step of a run. The law `ClosureTheorem` leads from these to the former.
--
-- Unlike a reduction in a run, `ReducesToZero` may subtract a multiple with signature τ itself, and
-- leaves the choice of the divisor open.
use Rattle.nc_algebra.specs.Elements.{Element, IsIn, IsLabelled, IsLeadingWord, IsLess, IsSignatureOf, IsZeroPolynomial, SamePolynomial, Setting, evaluation}
use Rattle.nc_algebra.specs.Monomials.{Monomial, unit_monomial}
use Rattle.nc_algebra.specs.Polynomials.{Polynomial, coefficient, leading}
use Rattle.nc_algebra.specs.Primes.{IsZero}
use Rattle.nc_algebra.specs.Sums.{minus}
use Rattle.nc_algebra.specs.Words.{IsWordLess, Word}
use Rattle.nc_theory.specs.Ambiguities.{Ambiguity}
use Rattle.nc_theory.specs.Divisors.{Divisor, Multiple, RegularDivisor, multiple_at, signature_at}
use Rattle.nc_theory.specs.States.{Entry, State, Syzygy}
use Rattle.nc_theory.specs.Syzygies.{Covered}
use Rattle.std.specs.Prelude.{Contains, List, [], ℕ, ◌%◌, ◌*◌, ◌≡◌, ◌⊎◌}

-- a chain from a polynomial to zero, each step subtracting a multiple with a signature of at most τ
pub data ReducesToZero (s : Setting) (entries : List Entry) (τ : Monomial) : Polynomial
    → Type 0 where
  done : {f : Polynomial} → IsZeroPolynomial s f → ReducesToZero s entries τ f
  step :
      {f : Polynomial} (w : Word) → IsLeadingWord s f w
      → (d : Divisor s entries w) → (signature_at s entries w d ≡ τ)
      ⊎ IsLess s (signature_at s entries w d) τ
      → (c : ℕ) → c * coefficient d.entry.polynomial (leading s.prime d.entry.polynomial) % s.prime
      ≡ coefficient f w % s.prime
      → ReducesToZero s entries τ (minus s.prime f c (multiple_at s entries w d))
      → ReducesToZero s entries τ f

-- each module element in the set evaluates to a polynomial that reduces to zero within its
-- signature
abbrev pub IsBasisBelow : Setting → State → (Monomial → Type 0) → Type 0
IsBasisBelow s state set =
    (α : Element) (σ : Monomial) → IsIn s α set → IsSignatureOf s α σ
    → ReducesToZero s state.entries σ (evaluation s α)

-- the signature of each module element in the set that evaluates to zero is covered
abbrev pub IsSyzygyBasisBelow : Setting → State → (Monomial → Type 0) → Type 0
IsSyzygyBasisBelow s state set =
    (α : Element) (σ : Monomial) → IsIn s α set → IsSignatureOf s α σ
    → IsZeroPolynomial s (evaluation s α) → Covered s state σ

-- each generator in the set has an entry or is covered, and each ambiguity in the set is covered or
-- has a multiple with a lesser word
pub record IsClosed (s : Setting) (state : State) (set : Monomial → Type 0) : Type 0 where
  pub generators : (i : ℕ) → set (unit_monomial i)
      → ((e : Entry) × Contains state.entries e × (e.signature ≡ unit_monomial i))
      ⊎ Covered s state (unit_monomial i)
  pub ambiguities : (ρ : Monomial) (w : Word) → Ambiguity s state.entries ρ w → set ρ
      → Covered s state ρ ⊎ ((v : Word) × IsWordLess v w × Multiple s state.entries ρ v)

-- each entry has a polynomial that is not zero and a label, and each syzygy a label that evaluates
-- to zero
pub record IsSound (s : Setting) (state : State) : Type 0 where
  pub nonzero : (e : Entry) → Contains state.entries e → ¬ IsZeroPolynomial s e.polynomial
  pub entries : (e : Entry) → Contains state.entries e → (α : Element)
      × IsLabelled s e.signature e.polynomial α
  pub syzygies : (h : Syzygy) → Contains state.syzygies h → (α : Element)
      × IsLabelled s h.signature [] α

-- f is a polynomial with signature τ, none of whose words has a regular divisor at τ
pub record IsCanonical (s : Setting) (entries : List Entry) (τ : Monomial) (f : Polynomial) : Type 0
  where
    pub label : Element
    pub labelled : IsLabelled s τ f label
    pub clear : (w : Word) → ¬ IsZero s.prime (coefficient f w) → ¬ RegularDivisor s entries τ w

-- some module element in the set evaluates to f
abbrev pub HasRepresentation : Setting → (Monomial → Type 0) → Polynomial → Type 0
HasRepresentation s set f = (α : Element) × IsIn s α set × SamePolynomial s (evaluation s α) f
