-- Whole reductions. Where nothing is left, what was kept is a normal form (`whole_normal`) and ends
-- the reduction (`whole`).
use Rattle.nc_algebra.proofs.NormalForms.{normal_form-normal}
use Rattle.nc_algebra.proofs.Sums.{zero_number}
use Rattle.nc_algebra.specs.Elements.{Setting}
use Rattle.nc_algebra.specs.Monomials.{Monomial}
use Rattle.nc_algebra.specs.Polynomials.{IsNormal, Polynomial, coefficient, normal_form}
use Rattle.nc_algebra.specs.Primes.{IsField, IsZero}
use Rattle.nc_algebra.specs.Words.{Word}
use Rattle.nc_theory.proofs.Small.{usable_nonzero}
use Rattle.nc_theory.specs.Usable.{IsUsable}
use Rattle.nc_theory.proofs.Loops.{ReducedTo, reduced_end}
use Rattle.nc_theory.proofs.Normal.{kept_normal}
use Rattle.nc_theory.specs.Reductions.{Reduction}
use Rattle.nc_theory.specs.States.{Entry, Step}
use Rattle.std.proofs.Common.{List, [], arith, subst, sym, ◌∙◌, ◌≡◌}
use Rattle.std.specs.List.{All}

module _ (s : Setting) (field : IsField s.prime) (entries : List Entry)
    (usable : All (IsUsable s) entries) (set : Monomial → Type 0) (f kept : Polynomial)
    (steps : List Step) (h : Polynomial) (reached : ReducedTo s entries set f kept steps h)
    (nothing : h ≡ []) where
  ended : Reduction s entries set f kept steps
  ended = reduced_end s entries set f kept steps h reached
      (subst (λ g. (w : Word) → IsZero s.prime (coefficient g w)) (sym nothing)
      (λ w. zero_number s.prime))

  pub whole_normal : IsNormal s.prime kept
  whole_normal = kept_normal s field entries (usable_nonzero s entries usable) set ended

  pub whole : (g : Polynomial) → g ≡ normal_form s.prime kept → Reduction s entries set f g steps
  whole g e =
      subst (λ k. Reduction s entries set f k steps)
      (sym (e ∙ normal_form-normal s.prime kept (omega (arith, field.above_one)) whole_normal))
      ended
