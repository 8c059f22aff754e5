-- Where two leading words meet, the greater side is the signature.
use Rattle.nc_algebra.specs.Elements.{Setting}
use Rattle.nc_algebra.specs.Monomials.{Monomial, Sig, monomial_of, sig_times, times}
use Rattle.nc_algebra.specs.Polynomials.{leading}
use Rattle.nc_algebra.specs.Words.{Word}
use Rattle.nc_theory.proofs.Meetings.{around_made, around_parts, met, unmet}
use Rattle.nc_theory.specs.Meetings.{AreAround, IsGreaterOf, IsOnly, MeetAt}
use Rattle.nc_theory.specs.States.{Entry}
use Rattle.nc_words.proofs.Letters.{letters_decide, same_letter}
use Rattle.std.proofs.Common.{Bool, None, Option, [], ap, arith, drop, false, length, min, not, refl, subst, sym, take, true, ℕ, ◌+◌, ◌<◌, ◌∙◌, ◌≡◌}
use Rattle.std.proofs.lemmas.Bool.{false≢true}
use Rattle.std.specs.Cmp.Lexicographic.{pointwise}

-- what `!=` tells of words
pub words_same : (a b : Word) (r : Bool) → r ≡ not (pointwise same_letter a b) → r ≡ false → a ≡ b
words_same a b r is e = (letters_decide a b).0 (go (pointwise same_letter a b) (sym is ∙ e))
  where
    go : (t : Bool) → not t ≡ false → t ≡ true
    go true i = refl
    go false i = absurd (false≢true (sym i))

pub words_differ : (a b : Word) (r : Bool) → r ≡ not (pointwise same_letter a b) → r ≡ true
    → ¬ (a ≡ b)
words_differ a b r is e same =
    false≢true (ap not (sym ((letters_decide a b).1 same)) ∙ (sym is ∙ e))

module _ (s : Setting) (e f : Entry) (σ τ : Sig) (u v : Word) (k n : ℕ)
    (led : leading s.prime e.polynomial ≡ u) (signed : e.signature ≡ monomial_of σ)
    (led' : leading s.prime f.polynomial ≡ v) (signed' : f.signature ≡ monomial_of τ)
    (within : k < length u) where
  module _ (rest end begin : Word) (at_rest : rest ≡ drop k u)
      (count : n ≡ min (length rest) (length v)) (at_end : end ≡ take n rest)
      (at_begin : begin ≡ take n v) where
    counted : n ≡ min (length (drop k u)) (length v)
    counted = count ∙ ap (λ (w : Word). min (length w) (length v)) at_rest

    -- where the letters differ, they do not meet
    pub apart : ¬ (end ≡ begin) → IsOnly (MeetAt s e f k) None
    apart differ = unmet s e f k u v (sym led) (sym led') none
      where
        none : (x y z : Word) → ¬ AreAround u v k x y z
        none x y z a =
            differ (at_end ∙ (ap (take n) at_rest
            ∙ ((around_parts u v k n x y z (omega (arith, within)) counted a).0
            ∙ sym at_begin)))

    -- where they agree, the greater side is the signature
    module _ (before behind_second behind_first : Word) (at_before : before ≡ take k u)
        (at_second : behind_second ≡ drop n rest) (at_first : behind_first ≡ drop n v)
        (agree : end ≡ begin) where
      agreed : take n (drop k u) ≡ take n v
      agreed = ap (take n) (sym at_rest) ∙ (sym at_end ∙ (agree ∙ at_begin))

      made : AreAround u v k (take k u) (drop n v) (drop n (drop k u))
      made = around_made u v k n (omega (arith, within)) counted agreed

      around_words : AreAround u v k before behind_first behind_second
      around_words =
          subst (λ w. AreAround u v k w behind_first behind_second) (sym at_before)
          (subst (λ w. AreAround u v k (take k u) w behind_second) (sym at_first)
          (subst (λ w. AreAround u v k (take k u) (drop n v) w)
          (sym (at_second ∙ ap (drop n) at_rest)) made))

      around_leads : AreAround (leading s.prime e.polynomial) (leading s.prime f.polynomial) k
          before behind_first behind_second
      around_leads =
          subst (λ w. AreAround w (leading s.prime f.polynomial) k before behind_first
          behind_second) (sym led) (subst (λ w. AreAround u w k before behind_first behind_second)
          (sym led') around_words)

      pub meets : 0 < k + length v → (o : Option Monomial)
          → IsOnly (IsGreaterOf s (monomial_of (sig_times [] σ behind_first))
          (monomial_of (sig_times before τ behind_second))) o → IsOnly (MeetAt s e f k) o
      meets some o greater =
          met s e f k before behind_first behind_second (times [] (monomial_of σ) behind_first)
          (times before (monomial_of τ) behind_second) around_leads
          (omega (arith, within, ap length led)) (omega (arith, some, ap length led'))
          (ap (λ (z : Monomial). times [] z behind_first) (sym signed))
          (ap (λ (z : Monomial). times before z behind_second) (sym signed')) o greater
