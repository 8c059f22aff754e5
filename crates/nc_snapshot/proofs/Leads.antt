-- The first term of an entry's polynomial has its leading word.
use Rattle.nc_algebra.proofs.Leading.{leading-normal}
use Rattle.nc_algebra.specs.Polynomials.{IsNormal, Polynomial, leading}
use Rattle.nc_algebra.specs.Sums.{Term}
use Rattle.nc_algebra.specs.Words.{Word}
use Rattle.nc_snapshot.specs.Leads.{IsLeadCoefficientOf, IsLeadOf}
use Rattle.nc_theory.proofs.Products.{lead_coefficient}
use Rattle.std.proofs.Common.{[], ap, get_or, refl, subst, sym, ℕ, ◌<◌, ◌∙◌, ◌∷◌, ◌≡◌, ◌≢◌}
use Rattle.std.proofs.lemmas.List.Elements.{recursion_from_All}

pub some_terms : (t : Term Word) (f : Polynomial) → t ∷ f ≢ []
some_terms t f e = let none : ⊥ = cc in none

-- what is not zero begins with its first term
pub first_term : (f : Polynomial) → f ≢ [] → (t : Term Word) → t ≡ get_or f 0 t
    → (others : Polynomial) × (f ≡ t ∷ others)
first_term [] some t e = absurd (some refl)
first_term (u ∷ f) some t e = (f, ap (λ (x : Term Word). x ∷ f) (sym e))

module _ (f : Polynomial) (t : Term Word) (others : Polynomial) (is : f ≡ t ∷ others) where
  normal : (p : ℕ) → IsNormal p f → IsNormal p (t ∷ others)
  normal p n = subst (IsNormal p) is n

  pub first_leads : IsLeadOf f t.key
  first_leads = record {
    some = λ e. some_terms t others (sym is ∙ e);
    leads = λ p n. ap (leading p) is ∙ leading-normal p t others (normal p n);
  }

  pub first_coefficient_leads : 0 < t.coefficient → IsLeadCoefficientOf f t.coefficient
  first_coefficient_leads some = record {
    some = some;
    residue = λ p n. (recursion_from_All (λ (u : Term Word). u.coefficient < p) (t ∷ others)
        (normal p n).1).0;
    leads = λ p n. sym (lead_coefficient p f t others is n);
  }
