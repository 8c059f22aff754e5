-- Multiples as code lists them: term by term, with residues for coefficients.
--
-- The functions of `Sums.antt` and `Polynomials.antt` of nc_algebra multiply coefficients without
-- reducing them. Code reduces each product modulo p at once. A multiple of a normal form is then a
-- normal form, if c is not zero modulo the prime.
use Rattle.nc_algebra.specs.Polynomials.{Polynomial}
use Rattle.nc_algebra.specs.Sums.{Term}
use Rattle.nc_algebra.specs.Words.{Word}
use Rattle.std.specs.Prelude.{List, map, ℕ, ◌%◌, ◌*◌, ◌++◌}

-- c times each term, with its key moved
abbrev pub moved_by : {K : Type 0} → ℕ → ℕ → (K → K) → List (Term K) → List (Term K)
moved_by p c φ g = map (λ t. record { coefficient = (c * t.coefficient) % p; key = φ t.key }) g

-- c u t v
abbrev pub multiple_of : ℕ → ℕ → Word → Word → Term Word → Term Word
multiple_of p c u v t = record { coefficient = (c * t.coefficient) % p; key = u ++ (t.key ++ v) }

-- c u g v
abbrev pub multiples_of : ℕ → ℕ → Word → Polynomial → Word → Polynomial
multiples_of p c u g v = map (multiple_of p c u v) g

-- u t v
abbrev pub shifted_of : Word → Word → Term Word → Term Word
shifted_of u v t = record { coefficient = t.coefficient; key = u ++ (t.key ++ v) }
