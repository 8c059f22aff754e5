-- What calls on signatures answer: a quotient, and a bound by degree.
--
-- Code compares with a signature in each case, whether a bound is a degree or a monomial.
-- `IsBoundBy` says when a signature stands for a degree; it holds in each setting, since the degree
-- is compared first.
use Rattle.nc_algebra.specs.Elements.{Setting, degree, generator_weight}
use Rattle.nc_algebra.specs.Monomials.{Divides, Monomial, Sig, compare_sigs, sig_of, times}
use Rattle.nc_algebra.specs.Words.{Letter}
use Rattle.std.specs.declared.cmp.Ordering.TheVariants.{Less}
use Rattle.std.specs.Borrow.{Bor}
use Rattle.std.specs.Prelude.{List, None, Option, Some, ℕ, ◌≡◌, ◌≤◌, ◌↔◌}

-- what stands before and behind σ in τ, and None exactly where σ does not divide τ
abbrev pub IsQuotient : Monomial → Monomial → Option (Bor (List Letter) × Bor (List Letter))
    → Type 0
IsQuotient σ τ None = ¬ Divides σ τ
IsQuotient σ τ (Some (u, v)) = times u.now σ v.now ≡ τ

-- below it are exactly the monomials of degree at most d
pub record IsBoundBy (bound : Sig) (d : ℕ) : Type 0 where
  pub below : (s : Setting) (σ : Monomial)
      → (compare_sigs (sig_of (generator_weight s) σ) bound ≡ Less) ↔ (degree s σ ≤ d)
