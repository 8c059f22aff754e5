-- The leading word of an entry, and its coefficient.
--
-- The polynomial of an entry is in normal form over the prime of its problem, and not zero. Code
-- reads the first term without the prime, so the relations here speak of each prime over which the
-- polynomial is in normal form.
use Rattle.nc_algebra.specs.Elements.{HasDegree, IsGenerator, Setting}
use Rattle.nc_algebra.specs.Monomials.{monomial_of}
use Rattle.nc_algebra.specs.Polynomials.{IsNormal, Polynomial, coefficient, leading}
use Rattle.nc_algebra.specs.Words.{Word}
use Rattle.nc_snapshot.specs.declared.lead.Lead.{Lead}
use Rattle.nc_theory.specs.States.{Entry}
use Rattle.std.specs.Prelude.{List, Some, [], slice_get, ℕ, ◌<◌, ◌≡◌, ◌≢◌}

-- f is not zero, and w is its leading word
pub record IsLeadOf (f : Polynomial) (w : Word) : Type 0 where
  pub some : f ≢ []
  pub leads : (p : ℕ) → IsNormal p f → leading p f ≡ w

-- c is the coefficient of the leading word of f, and not zero
pub record IsLeadCoefficientOf (f : Polynomial) (c : ℕ) : Type 0 where
  pub some : 0 < c
  pub residue : (p : ℕ) → IsNormal p f → c < p
  pub leads : (p : ℕ) → IsNormal p f → c ≡ coefficient f (leading p f)

-- the lead is that of the entry at this place, counted from 0
pub record IsLeadAt (s : Setting) (entries : List Entry) (n : ℕ) (l : Lead) : Type 0 where
  pub entry : Entry
  pub stands : slice_get entries n ≡ Some entry
  pub leads : leading s.prime entry.polynomial ≡ l.word.now
  pub signed : entry.signature ≡ monomial_of l.sig.now
  pub degree : HasDegree s l.sig.now
  pub generator : IsGenerator s l.sig.now.generator
