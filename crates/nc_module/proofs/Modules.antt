-- Module elements, term by term.
-- To evaluate, code subtracts each term's multiple of its generator with the negative coefficient,
-- which adds it (`value_added`); `IsValue` says what the sum is after some terms. The degree of a
-- term bounds the letters on both sides, and words of generators are short, so each product fits
-- (`term_short`). To subtract a multiple, code lists copies and multiples as pairs (`copies_more`,
-- `moved_more`), whose sum is the difference (`module_subtracted`).
use Rattle.nc_algebra.proofs.Lists.{same-append, same-refl, same-trans}
use Rattle.nc_algebra.proofs.NormalForms.{normal_form_equal}
use Rattle.nc_algebra.proofs.Sums.{coefficient-minus, linear_sum-append, linear_sum-scale}
use Rattle.nc_algebra.proofs.Words.{length_at_most, word_laws}
use Rattle.nc_algebra.specs.Alphabets.{Alphabet, IsTextGenerator}
use Rattle.nc_algebra.specs.Elements.{HasDegree, Setting, evaluation, generator, generator_weight}
use Rattle.nc_algebra.specs.Monomials.{Sig, sig_times}
use Rattle.nc_algebra.specs.Polynomials.{Polynomial, coefficient, normal_form, polynomial_times}
use Rattle.nc_algebra.specs.Sums.{SameSum, Term, is_at, minus, scale}
use Rattle.nc_algebra.specs.Words.{IsWordLess, Word, same_word, word_weight}
use Rattle.nc_module.specs.Modules.{element_of, module_multiples, module_times, same_sig}
use Rattle.nc_poly.proofs.Heaps.{listed_more}
use Rattle.nc_poly.proofs.Multiples.{moved_are_residues, same_moved}
use Rattle.nc_poly.specs.Multiples.{moved_by}
use Rattle.nc_poly.specs.Ordered.{AreResiduesBy, listed}
use Rattle.std.proofs.Common.{List, [], ap, ap₂, append_assoc, arith, get_or, length, subst, sym, take, ℕ, ◌%◌, ◌*◌, ◌+◌, ◌++◌, ◌-◌, ◌<◌, ◌∙◌, ◌∷◌, ◌≡◌, ◌≤◌}
use Rattle.std.proofs.Math.Nat.{add-mod, add-mul-mod_self_left}
use Rattle.std.proofs.lemmas.List.{append-nil, map_more, take_all, take_more}
use Rattle.std.proofs.lemmas.List.Elements.{All-append}
use Rattle.std.proofs.lemmas.Nat.{mul-mod_first}
use Rattle.std.specs.List.{All}

-- ---- pairs

module _ {K : Type 0} (m start : List (Term K)) (items new : List (K × ℕ)) (i : ℕ) (t : Term K)
    (e : K × ℕ) (within : i < length m) (at : t ≡ get_or m i t) (pushed : new ≡ items ++ e ∷ [])
  where
    -- one more copy
    pub copies_more : listed items ≡ start ++ take i m → e.0 ≡ t.key → e.1 ≡ t.coefficient
        → listed new ≡ start ++ take (i + 1) m
    copies_more so_far key coefficient =
        listed_more start (take i m) items new t e so_far pushed key coefficient
        ∙ ap (λ (l : List (Term K)). start ++ l) (ap (λ (s : Term K). take i m ++ s ∷ []) at
        ∙ sym (take_more m i t within))

    -- one more multiple
    pub moved_more : (p c : ℕ) (φ : K → K) → listed items ≡ start ++ moved_by p c φ (take i m)
        → e.0 ≡ φ t.key → e.1 ≡ (c * t.coefficient) % p
        → listed new ≡ start ++ moved_by p c φ (take (i + 1) m)
    moved_more p c φ so_far key coefficient =
        let move : Term K → Term K =
        λ s. record { coefficient = (c * s.coefficient) % p; key = φ s.key } in
        listed_more start (moved_by p c φ (take i m)) items new (move t) e so_far pushed key
        coefficient
        ∙ ap (λ (l : List (Term K)). start ++ l)
        (ap (λ (s : Term K). moved_by p c φ (take i m) ++ s ∷ []) (ap move at)
        ∙ sym (map_more move m i t within))

-- ---- values

-- subtracting the negative adds
negative_twice : (p c y : ℕ) → c < p → ((p - 1) * ((p - c) % p) * y) % p ≡ (c * y) % p
negative_twice p c y small =
    ap (λ n. n % p) (regroup (p - 1) ((p - c) % p))
    ∙ (mul-mod_first (p - c) ((p - 1) * y) p
    ∙ (sym (add-mul-mod_self_left ((p - c) * ((p - 1) * y)) p (c * y))
    ∙ (ap (λ n. n % p) (form (p - 1) (p - c) (omega arith) (omega arith))
    ∙ add-mul-mod_self_left (c * y) p ((p - 1) * y))))
  where
    regroup : (q k : ℕ) → q * k * y ≡ k * (q * y)
    regroup q k = omega arith

    form : (q d : ℕ) → p ≡ q + 1 → d + c ≡ p → d * (q * y) + p * (c * y) ≡ c * y + p * (q * y)
    form q d e h = omega (arith, ap (λ n. n * (c * y)) e, ap (λ n. n * (q * y)) h)

pub value_added : (p c : ℕ) (old new g : Polynomial) → c < p
    → SameSum same_word p new (minus p old ((p - c) % p) g)
    → SameSum same_word p new (old ++ scale c g)
value_added p c old new g small e = record {
  at = λ x.
      e.at x
      ∙ (ap (λ n. n % p) (coefficient-minus same_word IsWordLess word_laws p old ((p - c) % p) g x)
      ∙ (add-mod (coefficient old x) ((p - 1) * ((p - c) % p) * coefficient g x) p
      ∙ (ap (λ n. (coefficient old x % p + n) % p) (negative_twice p c (coefficient g x) small)
      ∙ (sym (add-mod (coefficient old x) (c * coefficient g x) p)
      ∙ ap (λ n. n % p) (sym (linear_sum-append (is_at same_word x) old (scale c g)
      ∙ ap (λ n. coefficient old x + n) (linear_sum-scale (is_at same_word x) c g)))))));
}

-- what a term evaluates to
abbrev pub value_of : Setting → Term Sig → Polynomial
value_of s t =
    scale t.coefficient (polynomial_times t.key.left (generator s t.key.generator) t.key.right)

-- what the code adds
pub value_taken : (s : Setting) (t : Term Sig) (p k : ℕ) (u v : Word) (f old new : Polynomial)
    → t.coefficient < s.prime → p ≡ s.prime → k ≡ (p - t.coefficient) % p → u ≡ t.key.left
    → f ≡ generator s t.key.generator → v ≡ t.key.right
    → SameSum same_word p new (minus p old k (polynomial_times u f v))
    → SameSum same_word s.prime new (old ++ value_of s t)
value_taken s t p k u v f old new small prime negative left factor right e =
    let product : polynomial_times u f v ≡ polynomial_times t.key.left (generator s t.key.generator)
    t.key.right =
    ap (λ (w : Word). polynomial_times w f v) left
    ∙ (ap (λ (g : Polynomial). polynomial_times t.key.left g v) factor
    ∙ ap (λ (w : Word). polynomial_times t.key.left (generator s t.key.generator) w) right) in
    value_added s.prime t.coefficient old new
    (polynomial_times t.key.left (generator s t.key.generator) t.key.right) small
    (subst (λ (m : Polynomial). SameSum same_word s.prime new
    (minus s.prime old ((s.prime - t.coefficient) % s.prime) m)) product
    (subst (λ n. SameSum same_word s.prime new (minus s.prime old n (polynomial_times u f v)))
    (negative ∙ ap (λ n. (n - t.coefficient) % n) prime)
    (subst (λ n. SameSum same_word n new (minus n old k (polynomial_times u f v))) prime e)))

module _ (s : Setting) where
  value-push : (m : List (Term Sig)) (t : Term Sig)
      → evaluation s (element_of (m ++ t ∷ [])) ≡ evaluation s (element_of m) ++ value_of s t
  value-push [] t = append-nil (value_of s t)
  value-push (u ∷ m) t =
      ap (λ (g : Polynomial). value_of s u ++ g) (value-push m t)
      ∙ sym (append_assoc (value_of s u) (evaluation s (element_of m)) (value_of s t))

  -- f is the value of the first i terms
  pub record IsValue (m : List (Term Sig)) (i : ℕ) (f : Polynomial) : Type 0 where
    pub same : SameSum same_word s.prime f (evaluation s (element_of (take i m)))

  pub value_step : (m : List (Term Sig)) (i : ℕ) (t : Term Sig) (old new : Polynomial)
      → i < length m → t ≡ get_or m i t → SameSum same_word s.prime new (old ++ value_of s t)
      → IsValue m i old → IsValue m (i + 1) new
  value_step m i t old new within at e h =
      let now : Polynomial = evaluation s (element_of (take i m)) ++ value_of s t in
      let is : evaluation s (element_of (take (i + 1) m)) ≡ now =
      ap (λ l. evaluation s (element_of l))
      (take_more m i t within ∙ ap (λ u. take i m ++ u ∷ []) (sym at))
      ∙ value-push (take i m) t in
      record {
        same = subst (λ (g : Polynomial). SameSum same_word s.prime new g) (sym is)
            (same-trans same_word s.prime new (old ++ value_of s t) now e
            (same-append same_word s.prime old (evaluation s (element_of (take i m)))
            (value_of s t) (value_of s t) h.same
            (same-refl same_word s.prime (value_of s t))));
      }

  pub value_ends : (m : List (Term Sig)) (i : ℕ) (f : Polynomial) → 0 < s.prime → length m ≤ i
      → IsValue m i f → normal_form s.prime f ≡ normal_form s.prime (evaluation s (element_of m))
  value_ends m i f some long h =
      normal_form_equal s.prime f (evaluation s (element_of m)) some
      (subst (λ l. SameSum same_word s.prime f (evaluation s (element_of l))) (take_all i m long)
      h.same)

-- the words that a term multiplies out to are short
pub term_short : (s : Setting) (a : Alphabet) (t : Term Sig) (f : Polynomial) (u v : Word)
    → HasDegree s t.key → t.key.degree ≤ 100000 → IsTextGenerator a s.prime f → u ≡ t.key.left
    → v ≡ t.key.right → All (λ x. length u + length x.key + length v ≤ 200000) f
term_short s a t f u v has few text left right k d within =
    let degree : t.key.degree ≡ word_weight t.key.left + generator_weight s t.key.generator
    + word_weight t.key.right = ap (λ σ. σ.degree) has in
    omega (
      arith,
      degree,
      (text.polynomial.words k d within).short,
      length_at_most t.key.left,
      length_at_most t.key.right,
      ap length left,
      ap length right,
      few,
    )

-- ---- a multiple subtracted

-- what the pairs list
pub pairs_are : (p : ℕ) (u v : Word) (old m : List (Term Sig)) (empty copies pairs : List (Sig × ℕ))
    (k n : ℕ) (from by : List (Term Sig)) → empty ≡ [] → from ≡ old → by ≡ m → k ≡ n
    → listed copies ≡ listed empty ++ from
    → listed pairs ≡ listed copies ++ module_multiples p k u by v
    → listed pairs ≡ old ++ module_multiples p n u m v
pairs_are p u v old m empty copies pairs k n from by none is_old is_m negative copied listed_is =
    listed_is ∙ (ap (λ (l : List (Term Sig)). l ++ module_multiples p k u by v)
    (copied ∙ ap₂ (λ (e : List (Sig × ℕ)) (l : List (Term Sig)). listed e ++ l) none is_old)
    ∙ ap₂ (λ (i : ℕ) (l : List (Term Sig)). old ++ module_multiples p i u l v) negative is_m)

pub pairs_small : (p : ℕ) (u v : Word) (old m : List (Term Sig)) (k : ℕ) (l : List (Term Sig))
    → 0 < p → AreResiduesBy p old → l ≡ old ++ module_multiples p k u m v → AreResiduesBy p l
pairs_small p u v old m k l some a is =
    subst (AreResiduesBy p) (sym is)
    (All-append (λ t. t.coefficient < p) old (module_multiples p k u m v) a
    (moved_are_residues same_sig p k (λ σ. sig_times u σ v) m some))

pub module_subtracted : (p c : ℕ) (u v : Word) (old m new : List (Term Sig))
    (empty copies pairs : List (Sig × ℕ)) (k : ℕ) (from by : List (Term Sig)) → c < p → empty ≡ []
    → from ≡ old → by ≡ m → k ≡ (p - c) % p
    → listed copies ≡ listed empty ++ from
    → listed pairs ≡ listed copies ++ module_multiples p k u by v
    → SameSum same_sig p new (listed pairs)
    → SameSum same_sig p new (minus p old c (module_times u m v))
module_subtracted p c u v old m new empty copies pairs k from by small none is_old is_m negative
    copied listed_is e =
    same-trans same_sig p new (listed pairs) (minus p old c (module_times u m v)) e
    (subst (λ (l : List (Term Sig)). SameSum same_sig p l (minus p old c (module_times u m v)))
    (sym (pairs_are p u v old m empty copies pairs k ((p - c) % p) from by none is_old is_m
    negative copied listed_is)) (same_moved same_sig p c (λ σ. sig_times u σ v) old m
    small))
