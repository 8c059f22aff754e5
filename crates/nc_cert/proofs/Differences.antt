-- What is left of a polynomial, part by part.
-- `IsLeft` is the invariant of the loop over the parts of a line: after i parts what is left is, as
-- a sum, the polynomial minus a number times the value of the first i parts (`left_begins`,
-- `left_step`, `left_ends`). `part_taken` says what one part takes off. A line's own value is zero
-- minus p - 1 times it (`negative_back`).
use Rattle.nc_algebra.proofs.NormalForms.{normal_form_equal}
use Rattle.nc_algebra.proofs.Sums.{coefficient-minus, linear_sum-append, linear_sum-scale}
use Rattle.nc_algebra.proofs.Words.{word_laws}
use Rattle.nc_algebra.specs.Certificates.{Line, Part, factor_value, line_value, part_value}
use Rattle.nc_algebra.specs.Elements.{Setting}
use Rattle.nc_algebra.specs.Polynomials.{Polynomial, coefficient, normal_form, polynomial_times}
use Rattle.nc_algebra.specs.Sums.{SameSum, is_at, minus, scale}
use Rattle.nc_algebra.specs.Words.{IsWordLess, Word, same_word}
use Rattle.std.proofs.Common.{List, [], ap, arith, get_or, length, refl, subst, sym, take, ℕ, ◌%◌, ◌*◌, ◌+◌, ◌++◌, ◌-◌, ◌<◌, ◌∙◌, ◌∷◌, ◌≡◌, ◌≤◌}
use Rattle.std.proofs.Math.Nat.{add-mod, add-mul-mod_self_left, mod-eq_of_lt}
use Rattle.std.proofs.lemmas.List.{append_assoc, append-nil, take_all, take_more}
use Rattle.std.proofs.lemmas.Nat.{mul-mod_first, mul-mod_second}

-- f plus a number times g, at a word, modulo p
plus_same : (p a b c : ℕ) → b % p ≡ c % p → (a + b) % p ≡ (a + c) % p
plus_same p a b c e = add-mod a b p ∙ (ap (λ n. (a % p + n) % p) e ∙ sym (add-mod a c p))

same_plus : (p a b c : ℕ) → a % p ≡ b % p → (a + c) % p ≡ (b + c) % p
same_plus p a b c e = add-mod a c p ∙ (ap (λ n. (n + c % p) % p) e ∙ sym (add-mod b c p))

pub minus_at : (p : ℕ) (f : Polynomial) (c : ℕ) (g : Polynomial) (x : Word)
    → coefficient (minus p f c g) x ≡ coefficient f x + (p - 1) * c * coefficient g x
minus_at p f c g x = coefficient-minus same_word IsWordLess word_laws p f c g x

-- a product of the scalar and a part's coefficient may be taken modulo p
scalar_into : (p c d : ℕ) (f g m : Polynomial) → SameSum same_word p g (minus p f ((c * d) % p) m)
    → SameSum same_word p g (minus p f c (scale d m))
scalar_into p c d f g m e = record {
  at = λ x.
      e.at x
      ∙ (ap (λ n. n % p) (minus_at p f ((c * d) % p) m x)
      ∙ (plus_same p (coefficient f x) ((p - 1) * ((c * d) % p) * coefficient m x)
      ((p - 1) * c * (d * coefficient m x)) (each (p - 1) (coefficient m x))
      ∙ ap (λ n. n % p) (sym (minus_at p f c (scale d m) x
      ∙ ap (λ n. coefficient f x + (p - 1) * c * n)
      (linear_sum-scale (is_at same_word x) d m)))));
}
  where
    regroup : (q y : ℕ) → q * (c * d) * y ≡ q * c * (d * y)
    regroup q y = omega arith

    each : (q y : ℕ) → (q * ((c * d) % p) * y) % p ≡ (q * c * (d * y)) % p
    each q y =
        sym (mul-mod_first (q * ((c * d) % p)) y p)
        ∙ (ap (λ n. (n * y) % p) (mul-mod_second q (c * d) p)
        ∙ (mul-mod_first (q * (c * d)) y p
        ∙ ap (λ n. n % p) (regroup q y)))

-- what the code subtracts is c times the part's value
pub part_taken : (s : Setting) (values : List Polynomial) (part : Part) (p c k : ℕ) (u v : Word)
    (f old new : Polynomial) → p ≡ s.prime → k ≡ (c * part.coefficient) % p → u ≡ part.left
    → f ≡ factor_value s values part.of → v ≡ part.right →
    SameSum same_word p new (minus p old k (polynomial_times u f v))
    → SameSum same_word s.prime new (minus s.prime old c (part_value s values part))
part_taken s values part p c k u v f old new prime scalar left factor right e =
    let product : Polynomial =
    polynomial_times part.left (factor_value s values part.of) part.right in
    let is : polynomial_times u f v ≡ product =
    ap (λ (w : Word). polynomial_times w f v) left
    ∙ (ap (λ (g : Polynomial). polynomial_times part.left g v) factor
    ∙ ap (λ (w : Word). polynomial_times part.left (factor_value s values part.of) w) right)
    in
    scalar_into s.prime c part.coefficient old new product
    (subst (λ (m : Polynomial). SameSum same_word s.prime new
    (minus s.prime old ((c * part.coefficient) % s.prime) m)) is
    (subst (λ n. SameSum same_word s.prime new (minus s.prime old n (polynomial_times u f v)))
    (scalar ∙ ap (λ n. (c * part.coefficient) % n) prime)
    (subst (λ n. SameSum same_word n new (minus n old k (polynomial_times u f v))) prime e)))

-- one part more
module _ (s : Setting) (values : List Polynomial) where
  line_value-append : (line more : Line)
      → line_value s values (line ++ more) ≡ line_value s values line ++ line_value s values more
  unfolding line_value
  line_value-append [] more = refl
  line_value-append (part ∷ line) more =
      ap (λ (f : Polynomial). part_value s values part ++ f) (line_value-append line more)
      ∙ sym (append_assoc (part_value s values part) (line_value s values line)
      (line_value s values more))

  one_value : (part : Part) → line_value s values (part ∷ []) ≡ part_value s values part
  unfolding line_value
  one_value part = append-nil (part_value s values part)

  -- what is left of f after c times the first i parts
  abbrev pub IsLeft : Polynomial → ℕ → Line → ℕ → Polynomial → Type 0
  IsLeft f c line i g =
      SameSum same_word s.prime g (minus s.prime f c (line_value s values (take i line)))

  pub left_begins : (f : Polynomial) (c : ℕ) (line : Line) → IsLeft f c line 0 f
  unfolding line_value
  left_begins f c line =
      record {
        at = λ x. ap (λ n. n % s.prime)
            (sym (minus_at s.prime f c [] x ∙ none (coefficient f x) ((s.prime - 1) * c)));
      }
    where
      none : (a q : ℕ) → a + q * 0 ≡ a
      none a q = omega arith

  pub left_step : (f : Polynomial) (c : ℕ) (line : Line) (i : ℕ) (part : Part)
      (old new : Polynomial) → i < length line → part ≡ get_or line i part
      → SameSum same_word s.prime new (minus s.prime old c (part_value s values part))
      → IsLeft f c line i old → IsLeft f c line (i + 1) new
  left_step f c line i part old new within is taken before = record {
    at = λ x.
        let a : ℕ = coefficient (line_value s values (take i line)) x in
        let b : ℕ = coefficient (part_value s values part) x in
        let k : ℕ = (s.prime - 1) * c in
        taken.at x
        ∙ (ap (λ n. n % s.prime) (minus_at s.prime old c (part_value s values part) x)
        ∙ (same_plus s.prime (coefficient old x) (coefficient f x + k * a) (k * b)
        (before.at x ∙ ap (λ n. n % s.prime)
        (minus_at s.prime f c (line_value s values (take i line)) x))
        ∙ ap (λ n. n % s.prime) (regroup (coefficient f x) k a b
        ∙ (ap (λ n. coefficient f x + k * n) (sym (one_more x))
        ∙ sym (minus_at s.prime f c (line_value s values (take (i + 1) line)) x)))));
  }
    where
      regroup : (e k a b : ℕ) → (e + k * a) + k * b ≡ e + k * (a + b)
      regroup e k a b = omega arith

      more : take (i + 1) line ≡ take i line ++ part ∷ []
      more = take_more line i part within ∙ ap (λ (q : Part). take i line ++ q ∷ []) (sym is)

      one_more : (x : Word) → coefficient (line_value s values (take (i + 1) line)) x ≡ coefficient
          (line_value s values (take i line)) x + coefficient (part_value s values part) x
      one_more x =
          ap (λ (l : Line). coefficient (line_value s values l) x) more
          ∙ (ap (λ (g : Polynomial). coefficient g x) (line_value-append (take i line) (part ∷ [])
          ∙ ap (λ (g : Polynomial). line_value s values (take i line) ++ g)
          (one_value part))
          ∙ linear_sum-append (is_at same_word x) (line_value s values (take i line))
          (part_value s values part))

  pub left_ends : (f : Polynomial) (c : ℕ) (line : Line) (i : ℕ) (g : Polynomial) → 0 < s.prime
      → length line ≤ i → IsLeft f c line i g
      → normal_form s.prime g ≡ normal_form s.prime (minus s.prime f c (line_value s values line))
  left_ends f c line i g some long h =
      normal_form_equal s.prime g (minus s.prime f c (line_value s values line)) some
      (subst (λ (l : Line). SameSum same_word s.prime g (minus s.prime f c (line_value s values l)))
      (take_all i line long) h)

-- ---- differences of equal polynomials

pub difference_same : (p : ℕ) (f : Polynomial) (c : ℕ) (g h : Polynomial) → 0 < p
    → SameSum same_word p g h → normal_form p (minus p f c g) ≡ normal_form p (minus p f c h)
difference_same p f c g h some e = normal_form_equal p (minus p f c g) (minus p f c h) some record {
  at = λ x.
      ap (λ n. n % p) (minus_at p f c g x)
      ∙ (plus_same p (coefficient f x) ((p - 1) * c * coefficient g x)
      ((p - 1) * c * coefficient h x) (sym (mul-mod_second ((p - 1) * c) (coefficient g x) p)
      ∙ (ap (λ n. ((p - 1) * c * n) % p) (e.at x)
      ∙ mul-mod_second ((p - 1) * c) (coefficient h x) p))
      ∙ ap (λ n. n % p) (sym (minus_at p f c h x)));
}

-- zero minus minus a polynomial
pub negative_back : (p : ℕ) (m : Polynomial) → 1 < p
    → normal_form p (minus p [] ((p - 1) % p) m) ≡ normal_form p m
negative_back p m one = normal_form_equal p (minus p [] ((p - 1) % p) m) m (omega arith) record {
  at = λ x.
      ap (λ n. n % p) (minus_at p [] ((p - 1) % p) m x ∙ ap (λ n. 0 + (p - 1) * n * coefficient m x)
      (mod-eq_of_lt (omega (arith, one))))
      ∙ whole (coefficient m x);
}
  where
    form : (q r y : ℕ) → p ≡ q + 1 → q ≡ r + 1 → 0 + q * q * y ≡ y + p * (r * y)
    form q r y a b =
        omega (arith, ap (λ n. n * (r * y)) a, ap (λ n. n * n * y) b, ap (λ n. n * (r * y)) b)

    whole : (y : ℕ) → (0 + (p - 1) * (p - 1) * y) % p ≡ y % p
    whole y =
        ap (λ n. n % p) (form (p - 1) (p - 2) y (omega (arith, one)) (omega (arith, one)))
        ∙ add-mul-mod_self_left y p ((p - 2) * y)
