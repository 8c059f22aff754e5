-- The names of a setting's letters: each is a name, and is told from the others.
use Rattle.nc_algebra.specs.Alphabets.{Alphabet, IsAlphabet, IsLetterIn, is_name}
use Rattle.nc_algebra.specs.Lists.{Among, IsDistinct}
use Rattle.nc_algebra.specs.Words.{Letter}
use Rattle.nc_tokens.proofs.Bytes.{bytes_apart, bytes_same}
use Rattle.nc_print.specs.Printing.{name_of}
use Rattle.nc_text.specs.Reading.{letter_of}
use Rattle.std.proofs.Common.{List, Ok, [], arith, bytes_eq, get_or, inl, inr, length, refl, subst, suc, sym, true, zero, ℕ, ◌<◌, ◌∷◌, ◌≡◌}
use Rattle.std.proofs.lemmas.Bool.{lt-ltb}
use Rattle.std.proofs.lemmas.List.Sums.{position_or_len_is}
use Rattle.std.specs.List.{position_or_len}
use Rattle.std.specs.Prelude.{nat_lt}

among_at : {X : Type 0} (xs : List X) (i : ℕ) (d : X) → i < length xs → Among (get_or xs i d) xs
among_at [] i d within = absurd (omega arith)
among_at (x ∷ xs) zero d within = inl refl
among_at (x ∷ xs) (suc i) d within = inr (among_at xs i d (omega arith))

distinct_at : {X : Type 0} (xs : List X) (d : X) (k i : ℕ) → IsDistinct xs → k < i → i < length xs
    → get_or xs k d ≡ get_or xs i d → ⊥
distinct_at [] d k i h less within e = omega arith
distinct_at (x ∷ xs) d k zero h less within e = omega arith
distinct_at (x ∷ xs) d zero (suc i) h less within e =
    h.0 (subst (λ y. Among y xs) (sym e) (among_at xs i d (omega arith)))
distinct_at (x ∷ xs) d (suc k) (suc i) h less within e =
    distinct_at xs d k i h.1 (omega arith) (omega arith) e

-- an alphabet whose letters have names: each is a name, and reading it gives its letter's number
pub record AreNames (a : Alphabet) : Type 0 where
  pub each : (x : Letter) → IsLetterIn a x → is_name (name_of a.names x) ≡ true
  pub apart : (x : Letter) → IsLetterIn a x → letter_of a.names (name_of a.names x) ≡ Ok x.index

pub are_names : (a : Alphabet) → IsAlphabet a → AreNames a
are_names a is =
    record {
      each = λ x inside. is.named x.index [] inside.0;
      apart = λ x inside. apart x.index inside.0;
    }
  where
    apart : (i : ℕ) → i < length a.names → letter_of a.names (get_or a.names i []) ≡ Ok i
    apart i within =
        let at : position_or_len (λ n. bytes_eq n (get_or a.names i [])) a.names ≡ i =
        position_or_len_is (λ n. bytes_eq n (get_or a.names i [])) a.names i [] (omega arith)
        (λ k less. bytes_apart _ _ (distinct_at a.names [] k i is.apart less within))
        (λ _. bytes_same (get_or a.names i [])) in
        let inside : nat_lt i (length a.names) ≡ true = lt-ltb _ _ within in
        rw (at, inside) refl
