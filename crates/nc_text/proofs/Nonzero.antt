-- A polynomial that has terms is not zero.
use Rattle.nc_algebra.specs.Polynomials.{Polynomial}
use Rattle.nc_text.specs.Rows.{nonzero}
use Rattle.std.proofs.Common.{Ok, [], refl, ◌∷◌, ◌≡◌}

pub some_terms : (f : Polynomial) → (f ≡ [] → ⊥) → nonzero f ≡ Ok f
some_terms [] h = absurd (h refl)
some_terms (t ∷ f) h = refl
