-- What has a name for each of its letters, where the first n letters have names.
use Rattle.nc_algebra.specs.Monomials.{Monomial, Sig}
use Rattle.nc_algebra.specs.Sums.{Term}
use Rattle.std.specs.Prelude.{All, List, ℕ, ◌<◌}

pub record IsMonomialNamed (n : ℕ) (τ : Monomial) : Type 0 where
  pub left : All (λ x. x.index < n) τ.left
  pub right : All (λ x. x.index < n) τ.right

pub record AreTermsNamed (n : ℕ) (m : List (Term Sig)) : Type 0 where
  pub left : All (λ t. All (λ x. x.index < n) t.key.left) m
  pub right : All (λ t. All (λ x. x.index < n) t.key.right) m
