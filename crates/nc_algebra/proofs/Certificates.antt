-- A certificate is valid exactly where nothing is left.
use Rattle.nc_algebra.proofs.NormalForms.{normal_form_only, normal_form_same}
use Rattle.nc_algebra.proofs.Sums.{coefficient-minus, same_from_zero, zero_from_same, zero_number}
use Rattle.nc_algebra.proofs.Words.{word_laws}
use Rattle.nc_algebra.specs.Certificates.{IsValid, Line, lines_value, rest_of}
use Rattle.nc_algebra.specs.Elements.{Setting}
use Rattle.nc_algebra.specs.Polynomials.{Polynomial, coefficient, normal_form}
use Rattle.nc_algebra.specs.Primes.{IsZero}
use Rattle.nc_algebra.specs.Sums.{SameSum, minus}
use Rattle.nc_algebra.specs.Words.{IsWordLess, Word, same_word}
use Rattle.std.proofs.Common.{List, [], ap, arith, subst, sym, ℕ, ◌%◌, ◌*◌, ◌+◌, ◌-◌, ◌<◌, ◌∙◌, ◌↔◌, ◌≡◌}
use Rattle.std.proofs.lemmas.List.Elements.{All-from_recursion}

module _ (p : ℕ) (some : 0 < p) where
  difference_at : (f g : Polynomial) (x : Word) → coefficient (minus p f 1 g) x ≡ coefficient f x
      + (p - 1) * coefficient g x
  difference_at f g x = coefficient-minus same_word IsWordLess word_laws p f 1 g x ∙ omega arith

  -- the difference of equal polynomials has an empty normal form
  pub difference_empty : (f g : Polynomial) → SameSum same_word p g f
      → normal_form p (minus p f 1 g) ≡ []
  difference_empty f g e =
      sym (normal_form_only p (minus p f 1 g) [] some
      (tt, All-from_recursion (λ t. t.coefficient < p) [] tt) record {
        at = λ x. zero_number p ∙ sym (subst (IsZero p) (sym (difference_at f g x))
            (zero_from_same p (coefficient f x) (coefficient g x) some (sym (e.at x))));
      })

  -- and where it is empty they are equal
  pub equal_from_empty : (f g : Polynomial) → normal_form p (minus p f 1 g) ≡ []
      → SameSum same_word p g f
  equal_from_empty f g e =
      record {
        at = λ x. sym (same_from_zero p (coefficient f x) (coefficient g x) some
            (subst (IsZero p) (difference_at f g x) (zero x)));
      }
    where
      zero : (x : Word) → IsZero p (coefficient (minus p f 1 g) x)
      zero x =
          sym ((normal_form_same p (minus p f 1 g)).at x)
          ∙ (ap (λ h. coefficient h x % p) e ∙ zero_number p)

-- the last line's value is the claim exactly where the rest is empty
pub valid_by_rest : (s : Setting) (claim : Polynomial) (lines : List Line) → 0 < s.prime
    → IsValid s claim lines ↔ (rest_of s claim lines ≡ [])
valid_by_rest s claim lines some = (
  difference_empty s.prime some claim (lines_value s lines),
  equal_from_empty s.prime some claim (lines_value s lines),
)
