-- Letters and words that are compared for equality.
use Rattle.nc_algebra.proofs.Words.{word_laws}
use Rattle.nc_algebra.specs.Words.{Letter, Word, same_word}
use Rattle.std.proofs.Common.{Bool, ap, nat_eq, subst, true, ◌&&◌, ◌≡◌}
use Rattle.std.proofs.lemmas.Bool.{and_parts, eq-eqb, eqb-true}
use Rattle.std.specs.Bool.{Decides, one_answer}
use Rattle.std.specs.Cmp.Derive.{both_true}
use Rattle.std.specs.Cmp.Lexicographic.{pointwise, pointwise_decides}

-- what `==` answers at letters
abbrev pub same_letter : Letter → Letter → Bool
same_letter x y = nat_eq x.index y.index && nat_eq x.extra y.extra

letter_decides : (x y : Letter) → Decides (same_letter x y) (x ≡ y)
letter_decides x y = (
  λ e. join (and_parts (nat_eq x.index y.index) (nat_eq x.extra y.extra) e),
  λ e. both_true (eq-eqb x.index y.index (ap (λ z. z.index) e))
      (eq-eqb x.extra y.extra (ap (λ z. z.extra) e)),
)
  where
    join : (nat_eq x.index y.index ≡ true) × (nat_eq x.extra y.extra ≡ true) → x ≡ y
    join (a, b) =
        let i : x.index ≡ y.index =
        eqb-true x.index y.index a in let j : x.extra ≡ y.extra =
        eqb-true x.extra y.extra b in λ k. record { index = i k; extra = j k }

-- what `==` answers at slices of letters
pub letters_decide : (u v : Word) → Decides (pointwise same_letter u v) (u ≡ v)
letters_decide = pointwise_decides letter_decides

pub letters_same : (u v : Word) → pointwise same_letter u v ≡ same_word u v
letters_same u v =
    one_answer (pointwise same_letter u v) (same_word u v) (letters_decide u v)
    (word_laws.same_eq u v, λ e. subst (λ z. same_word u z ≡ true) e (word_laws.same_refl u))
