-- Reduction below a Sig is reduction at its monomial, or within a bound.
-- A turn takes multiples with signatures below a monomial that has a degree beside it. Sets that
-- let in the same multiples of entries have the same reductions. So with a signature's own degree
-- this is reduction at the signature (`reduced_at`), and with the limit of a bound reduction within
-- it (`reduced_within`).
use Rattle.nc_algebra.specs.Elements.{HasDegree, IsLess, Setting, generator_weight}
use Rattle.nc_algebra.specs.Monomials.{Monomial, Sig, monomial_of, sig_of}
use Rattle.nc_algebra.specs.Polynomials.{Polynomial}
use Rattle.nc_algebra.specs.Problems.{Bound, IsWithin, IsWithinBound, Problem}
use Rattle.nc_index.specs.Chosen.{IsBelowSig}
use Rattle.nc_module.proofs.Bounds.{less_from_sigs, sigs_from_less}
use Rattle.nc_reduce.specs.Limits.{IsLimitOf}
use Rattle.nc_theory.proofs.Turns.{reduction_by}
use Rattle.nc_theory.specs.Reductions.{Reduction, ReductionAt}
use Rattle.nc_theory.specs.States.{Entry, Step}
use Rattle.std.specs.declared.alloc.AllocError.{AllocError}
use Rattle.std.proofs.Common.{Contains, Err, IfOk, List, Ok, Result, refl, subst, sym, ◌↔◌, ◌≡◌}

-- where its degree stands beside it
below_sig : (s : Setting) (β : Sig) → HasDegree s β → (σ : Monomial) → IsBelowSig s β σ
    ↔ IsLess s σ (monomial_of β)
below_sig s β h σ = (
  less_from_sigs s (sig_of (generator_weight s) σ) β refl h,
  sigs_from_less s (sig_of (generator_weight s) σ) β refl h,
)

pub reduced_at : (s : Setting) (entries : List Entry) (β : Sig) → HasDegree s β
    → {f kept : Polynomial} {steps : List Step} → Reduction s entries (IsBelowSig s β) f kept steps
    → ReductionAt s entries (monomial_of β) f kept steps
reduced_at s entries β h r =
    reduction_by s entries (IsBelowSig s β) (λ σ. IsLess s σ (monomial_of β))
    (λ w d. below_sig s β h _) r

pub limit_under : (P : Problem) (β : Sig) → Bound.under (monomial_of β) ≡ P.bound
    → HasDegree P.setting β → (γ : Sig) → γ ≡ β → IsLimitOf P γ
limit_under P β is h γ e σ g =
    subst (λ (b : Bound). IsBelowSig P.setting γ σ ↔ IsWithinBound P.setting b σ) is
    (subst (λ (x : Sig). IsBelowSig P.setting x σ
    ↔ IsWithinBound P.setting (Bound.under (monomial_of β)) σ) (sym e) under)
  where
    under : IsBelowSig P.setting β σ ↔ IsWithinBound P.setting (Bound.under (monomial_of β)) σ
    under = let b = below_sig P.setting β h σ in (λ l. (g, b.0 l), λ w. b.1 w.1)

pub reduced_within : (P : Problem) (entries : List Entry)
    → ((e : Entry) → Contains entries e → IsWithin P e.signature) → (β : Sig) → IsLimitOf P β
    → {f kept : Polynomial} {steps : List Step}
    → Reduction P.setting entries (IsBelowSig P.setting β) f kept steps
    → Reduction P.setting entries (IsWithin P) f kept steps
reduced_within P entries within β limit r =
    reduction_by P.setting entries (IsBelowSig P.setting β) (IsWithin P)
    (λ w d. limit _ (within d.entry d.listed).0) r

pub limit_copied : (P : Problem) (β : Sig) → Bound.under (monomial_of β) ≡ P.bound
    → HasDegree P.setting β → (r : Result Sig AllocError) → IfOk r (λ γ. γ ≡ β)
    → IfOk r (IsLimitOf P)
limit_copied P β is h (Ok γ) e = limit_under P β is h γ e
limit_copied P β is h (Err x) e = tt
