-- Terms and lists of terms that are compared for equality.
use Rattle.nc_algebra.proofs.Words.{word_laws}
use Rattle.nc_algebra.specs.Polynomials.{Polynomial}
use Rattle.nc_algebra.specs.Sums.{Term}
use Rattle.nc_algebra.specs.Words.{Word, same_word}
use Rattle.std.proofs.Common.{Bool, ap, nat_eq, subst, true, ◌&&◌, ◌≡◌}
use Rattle.std.proofs.lemmas.Bool.{and_parts, eq-eqb, eqb-true}
use Rattle.std.specs.Bool.{Decides}
use Rattle.std.specs.Cmp.Derive.{both_true}
use Rattle.std.specs.Cmp.Lexicographic.{pointwise, pointwise_decides}

-- what `==` answers at terms
abbrev pub same_term : Term Word → Term Word → Bool
same_term t u = nat_eq t.coefficient u.coefficient && same_word t.key u.key

term_decides : (t u : Term Word) → Decides (same_term t u) (t ≡ u)
term_decides t u = (
  λ e. join (and_parts (nat_eq t.coefficient u.coefficient) (same_word t.key u.key) e),
  λ e. both_true (eq-eqb t.coefficient u.coefficient (ap (λ z. z.coefficient) e))
      (subst (λ z. same_word t.key z ≡ true) (ap (λ z. z.key) e) (word_laws.same_refl t.key)),
)
  where
    join : (nat_eq t.coefficient u.coefficient ≡ true) × (same_word t.key u.key ≡ true) → t ≡ u
    join (a, b) =
        let i : t.coefficient ≡ u.coefficient =
        eqb-true t.coefficient u.coefficient a in let j : t.key ≡ u.key =
        word_laws.same_eq t.key u.key b in λ k. record { coefficient = i k; key = j k }

-- what `==` answers at their lists
pub terms_decide : (f g : Polynomial) → Decides (pointwise same_term f g) (f ≡ g)
terms_decide = pointwise_decides term_decides
