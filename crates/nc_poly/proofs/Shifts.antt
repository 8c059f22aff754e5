-- A multiple u f v lists its words in the order of f.
use Rattle.nc_algebra.proofs.Words.{word_back, word_front}
use Rattle.nc_algebra.specs.Polynomials.{AllLess, IsDescending, Polynomial, polynomial_times}
use Rattle.nc_algebra.specs.Words.{Word}
use Rattle.nc_poly.specs.Multiples.{shifted_of}
use Rattle.std.proofs.Common.{[], ap, map, refl, ◌++◌, ◌∷◌, ◌≡◌}

module _ (u v : Word) where
  pub shifted_is : (f : Polynomial) → map (shifted_of u v) f ≡ polynomial_times u f v
  shifted_is [] = refl
  shifted_is (t ∷ f) = ap (λ (g : Polynomial). shifted_of u v t ∷ g) (shifted_is f)

  shifted_less : (w : Word) (f : Polynomial) → AllLess w f
      → AllLess (u ++ (w ++ v)) (polynomial_times u f v)
  shifted_less w [] a = tt
  shifted_less w (t ∷ f) a =
      (word_front u (t.key ++ v) (w ++ v) (word_back t.key w v a.0), shifted_less w f a.1)

  pub shifted_descends : (f : Polynomial) → IsDescending f → IsDescending (polynomial_times u f v)
  shifted_descends [] d = tt
  shifted_descends (t ∷ f) d = (d.0, shifted_less t.key f d.1, shifted_descends f d.2)
