-- Chains to zero: they pass to equal polynomials, and to a polynomial plus a multiple of an entry.
-- Let f be h plus c times a multiple with leading word w. A chain for h gives one for f, or a
-- regular divisor of w (`chain`): steps above w are shared, and where h has nothing from w on,
-- subtracting the multiple from f leaves h (`strike`). If f is zero, then h begins at w
-- (`vanishing`).
use Rattle.nc_algebra.proofs.Elements.{polynomial_times_coefficient, polynomial_times_leads}
use Rattle.nc_algebra.proofs.Monomials.{monomial_laws}
use Rattle.nc_algebra.proofs.Sums.{coefficient-minus, domain, lead_unique, zero_add, zero_mul_left, zero_number, zero_rest}
use Rattle.nc_algebra.proofs.Words.{word_laws, word_total, word_trans}
use Rattle.nc_algebra.specs.Elements.{IsLeadingWord, IsLess, IsZeroPolynomial, SamePolynomial, Setting, generator_weight}
use Rattle.nc_algebra.specs.Monomials.{Monomial}
use Rattle.nc_algebra.specs.Polynomials.{Polynomial, coefficient, leading, polynomial_times}
use Rattle.nc_algebra.specs.Primes.{IsField, IsZero}
use Rattle.nc_algebra.specs.Sums.{minus}
use Rattle.nc_algebra.specs.Words.{IsWordLess, Word, same_word}
use Rattle.nc_theory.proofs.Relisted.{respelled}
use Rattle.nc_theory.specs.Bases.{ReducesToZero}
use Rattle.nc_theory.specs.Divisors.{Divisor, RegularDivisor, multiple_at, signature_at}
use Rattle.nc_theory.specs.States.{Entry}
use Rattle.std.proofs.Common.{◌≡◌, ℕ, ◌+◌, ◌-◌, ◌*◌, ◌%◌, ◌<◌, ◌⊎◌, List, refl, sym, ap, ◌∙◌, subst, inl, inr, arith}
use Rattle.std.proofs.Math.Nat.{add-mod, add-mul-mod_self_left}
use Rattle.std.proofs.lemmas.Nat.{mul-mod_second}

-- a sum modulo p depends on its parts modulo p
pub sum_mod : (p a b c d : ℕ) → a % p ≡ b % p → c % p ≡ d % p → (a + c) % p ≡ (b + d) % p
sum_mod p a b c d e f =
    add-mod a c p ∙ (ap (λ n. (n + c % p) % p) e
    ∙ (ap (λ n. (b % p + n) % p) f ∙ sym (add-mod b d p)))

pub times_mod : (p c a b : ℕ) → a % p ≡ b % p → c * a % p ≡ c * b % p
times_mod p c a b e = sym (mul-mod_second c a p) ∙ (ap (λ n. c * n % p) e ∙ mul-mod_second c b p)

pub take_back : (p a h x : ℕ) → 0 < p → a % p ≡ (h + x) % p → h % p ≡ (a + (p - 1) * x) % p
take_back p a h x pos e =
    sym (sum_mod p a (h + x) ((p - 1) * x) ((p - 1) * x) e refl
    ∙ (ap (λ n. n % p) (form (p - 1) (omega arith)) ∙ add-mul-mod_self_left h p x))
  where
    form : (q : ℕ) → p ≡ q + 1 → (h + x) + q * x ≡ h + p * x
    form q d = omega (arith, ap (λ n. n * x) d)

module _ (s : Setting) where
  pub coefficient_polynomial_minus : (f : Polynomial) (c : ℕ) (g : Polynomial) (y : Word)
      → coefficient (minus s.prime f c g) y ≡ coefficient f y + (s.prime - 1) * c * coefficient g y
  coefficient_polynomial_minus f c g y =
      coefficient-minus same_word IsWordLess word_laws s.prime f c g y

  pub leads_same : (f f' : Polynomial) (w : Word) → SamePolynomial s f f' → IsLeadingWord s f w
      → IsLeadingWord s f' w
  leads_same f f' w e d =
      record { nonzero = λ z. d.nonzero (e.at w ∙ z); above = λ x h. sym (e.at x) ∙ d.above x h }

  pub same_lead : (f f' : Polynomial) (w w' : Word) → SamePolynomial s f f' → IsLeadingWord s f w
      → IsLeadingWord s f' w' → w ≡ w'
  same_lead f f' w w' e d d' =
      lead_unique same_word IsWordLess word_laws s.prime f' w w' (leads_same f f' w e d) d'

  pub same_minus : (f f' : Polynomial) (c : ℕ) (g : Polynomial) → SamePolynomial s f f'
      → SamePolynomial s (minus s.prime f c g) (minus s.prime f' c g)
  same_minus f f' c g e =
      record {
        at = λ y. ap (λ n. n % s.prime) (coefficient_polynomial_minus f c g y)
            ∙ (sum_mod s.prime (coefficient f y) (coefficient f' y)
            ((s.prime - 1) * c * coefficient g y) ((s.prime - 1) * c * coefficient g y) (e.at y)
            refl
            ∙ sym (ap (λ n. n % s.prime) (coefficient_polynomial_minus f' c g y)));
      }

module _ (s : Setting) (entries : List Entry) (σ τ : Monomial) (within : (σ ≡ τ) ⊎ IsLess s σ τ)
  where
    widen : (ρ : Monomial) → (ρ ≡ σ) ⊎ IsLess s ρ σ → (ρ ≡ σ → (ρ ≡ τ) ⊎ IsLess s ρ τ) → (σ ≡ τ)
        ⊎ IsLess s σ τ → (ρ ≡ τ) ⊎ IsLess s ρ τ
    widen ρ (inl e) f o = f e
    widen ρ (inr l) f (inl e) = inr (subst (IsLess s ρ) e l)
    widen ρ (inr l) f (inr m) = inr ((monomial_laws (generator_weight s)).trans ρ σ τ l m)

    at_most : (ρ : Monomial) → (ρ ≡ σ) ⊎ IsLess s ρ σ → (ρ ≡ τ) ⊎ IsLess s ρ τ
    at_most ρ o = widen ρ o (λ e. subst (λ κ. (κ ≡ τ) ⊎ IsLess s κ τ) (sym e) within) within

    pub reduces_same : {f : Polynomial} → ReducesToZero s entries σ f → (f' : Polynomial)
        → SamePolynomial s f f' → ReducesToZero s entries τ f'
    reduces_same (ReducesToZero.done z) f' e = ReducesToZero.done (λ w. sym (e.at w) ∙ z w)
    reduces_same (ReducesToZero.step {f = f} w d v le c q rest) f' e =
        ReducesToZero.step w (leads_same s f f' w e d) v (at_most (signature_at s entries w v) le) c
        (q ∙ e.at w) (reduces_same rest (minus s.prime f' c (multiple_at s entries w v))
        (same_minus s f f' c (multiple_at s entries w v) e))

module _ (s : Setting) (field : IsField s.prime) (entries : List Entry) (τ : Monomial) (w : Word)
    (d : Divisor s entries w) (signed : signature_at s entries w d ≡ τ)
    (leads : IsLeadingWord s d.entry.polynomial (leading s.prime d.entry.polynomial)) (c : ℕ)
    (some' : ¬ IsZero s.prime c) where
  -- the multiple that stands at d
  abbrev multiple : Polynomial
  multiple = polynomial_times d.left d.entry.polynomial d.right

  multiple_leads : IsLeadingWord s multiple w
  multiple_leads =
      subst (IsLeadingWord s multiple) d.spells
      (polynomial_times_leads s d.left d.entry.polynomial d.right
      (leading s.prime d.entry.polynomial) leads)

  multiple_coef : coefficient multiple w % s.prime ≡ coefficient d.entry.polynomial
      (leading s.prime d.entry.polynomial) % s.prime
  multiple_coef =
      subst (λ v. coefficient multiple v % s.prime ≡ coefficient d.entry.polynomial
      (leading s.prime d.entry.polynomial) % s.prime) d.spells
      (polynomial_times_coefficient s d.left d.entry.polynomial d.right
      (leading s.prime d.entry.polynomial))

  -- f is h plus c times the multiple
  abbrev IsSum : Polynomial → Polynomial → Type 0
  IsSum f h =
      (y : Word) → coefficient f y % s.prime ≡ (coefficient h y + c * coefficient multiple y)
      % s.prime

  counts : ¬ IsZero s.prime (c * coefficient multiple w)
  counts z = multiple_leads.nonzero (domain s.prime field c (coefficient multiple w) some' z)

  -- where h has nothing from w on, f begins with the multiple, and h is what is left
  pub strike : (f h : Polynomial) → IsSum f h
      → ((y : Word) → (y ≡ w) ⊎ IsWordLess w y → IsZero s.prime (coefficient h y))
      → ReducesToZero s entries τ h → ReducesToZero s entries τ f
  strike f h e low rest = ReducesToZero.step w
      (record {
        nonzero =
            λ z. counts (zero_rest s.prime (coefficient h w) (c * coefficient multiple w)
            (sym (e w) ∙ z) (low w (inl refl)));
        above = λ y l. e y ∙ zero_add s.prime (coefficient h y) (c * coefficient multiple y)
            (low y (inr l)) (zero_mul_left s.prime c (coefficient multiple y)
            (multiple_leads.above y l));
      })
      d (inl signed) c
      (sym (times_mod s.prime c (coefficient multiple w)
      (coefficient d.entry.polynomial (leading s.prime d.entry.polynomial)) multiple_coef)
      ∙ sym (e w ∙ sum_mod s.prime (coefficient h w) 0 (c * coefficient multiple w)
      (c * coefficient multiple w) (low w (inl refl) ∙ sym (zero_number s.prime)) refl
      ∙ ap (λ n. n % s.prime) (omega arith)))
      (reduces_same s entries τ τ (inl refl) rest (minus s.prime f c multiple)
      (record {
        at = λ y. take_back s.prime (coefficient f y) (coefficient h y)
            (c * coefficient multiple y) (omega (arith, field.above_one)) (e y)
            ∙ sym (ap (λ n. n % s.prime) (coefficient_polynomial_minus s f c multiple y
            ∙ omega arith));
      }))

  regular : (σ : Monomial) → IsLess s σ τ → (x : Word) → x ≡ w → (v : Divisor s entries x)
      → (signature_at s entries x v ≡ σ) ⊎ IsLess s (signature_at s entries x v) σ
      → RegularDivisor s entries τ w
  regular σ l x e v o =
      record {
        divisor = respelled v e;
        below = go o;
      }
    where
      go : (signature_at s entries x v ≡ σ) ⊎ IsLess s (signature_at s entries x v) σ
          → IsLess s (signature_at s entries x v) τ
      go (inl i) = subst (λ ρ. IsLess s ρ τ) (sym i) l
      go (inr m) = (monomial_laws (generator_weight s)).trans (signature_at s entries x v) σ τ m l

  low_at : (h : Polynomial) (x : Word) → IsLeadingWord s h x → IsWordLess x w → (y : Word) → (y ≡ w)
      ⊎ IsWordLess w y → IsZero s.prime (coefficient h y)
  low_at h x hl b y (inl i) = hl.above y (subst (IsWordLess x) (sym i) b)
  low_at h x hl b y (inr j) = hl.above y (word_trans x w y b j)

  -- the same is taken off on both sides
  less_sum : (f h : Polynomial) → IsSum f h → (k : ℕ) (m : Polynomial)
      → IsSum (minus s.prime f k m) (minus s.prime h k m)
  less_sum f h e k m y =
      ap (λ n. n % s.prime) (coefficient_polynomial_minus s f k m y)
      ∙ (sum_mod s.prime (coefficient f y) (coefficient h y + c * coefficient multiple y)
      ((s.prime - 1) * k * coefficient m y) ((s.prime - 1) * k * coefficient m y) (e y) refl
      ∙ ap (λ n. n % s.prime) (swap_last (coefficient h y) (c * coefficient multiple y)
      ((s.prime - 1) * k * coefficient m y) ∙ ap (λ n. n + c * coefficient multiple y)
      (sym (coefficient_polynomial_minus s h k m y))))
    where
      swap_last : (a b c : ℕ) → (a + b) + c ≡ (a + c) + b
      swap_last a b c = omega arith

  -- where h has its lead above w, f has it there too
  high_same : (f h : Polynomial) → IsSum f h → (y : Word) → IsWordLess w y
      → coefficient h y % s.prime ≡ coefficient f y % s.prime
  high_same f h e y b =
      sym (e y ∙ (sum_mod s.prime (coefficient h y) (coefficient h y) (c * coefficient multiple y) 0
      refl (zero_mul_left s.prime c (coefficient multiple y) (multiple_leads.above y b)
      ∙ sym (zero_number s.prime)) ∙ ap (λ n. n % s.prime) (omega arith)))

  high_leads : (f h : Polynomial) → IsSum f h → (x : Word) → IsWordLess w x → IsLeadingWord s h x
      → IsLeadingWord s f x
  high_leads f h e x b d =
      record {
        nonzero = λ z. d.nonzero (high_same f h e x b ∙ z);
        above = λ y l. sym (high_same f h e y (word_trans w x y b l)) ∙ d.above y l;
      }

  -- a chain for h gives one for f, or w has a regular divisor
  pub chain : (σ : Monomial) → IsLess s σ τ → {h : Polynomial} → ReducesToZero s entries σ h
      → (f : Polynomial) → IsSum f h → ReducesToZero s entries τ f ⊎ RegularDivisor s entries τ w
  chain σ l (ReducesToZero.done {f = h} z) f e =
      inl (strike f h e (λ y o. z y) (ReducesToZero.done z))
  chain σ l (ReducesToZero.step {f = h} x hl v le k q rest) f e =
      go (word_total x w) (chain σ l rest (minus s.prime f k (multiple_at s entries x v))
      (less_sum f h e k (multiple_at s entries x v)))
    where
      go : IsWordLess x w ⊎ ((x ≡ w) ⊎ IsWordLess w x)
          → ReducesToZero s entries τ (minus s.prime f k (multiple_at s entries x v))
          ⊎ RegularDivisor s entries τ w → ReducesToZero s entries τ f
          ⊎ RegularDivisor s entries τ w
      go (inl b) r =
          inl (strike f h e (low_at h x hl b)
          (reduces_same s entries σ τ (inr l) (ReducesToZero.step x hl v le k q rest) h
          (record { at = λ y. refl })))
      go (inr (inl i)) r = inr (regular σ l x i v le)
      go (inr (inr b)) (inr reg) = inr reg
      go (inr (inr b)) (inl red) =
          inl (ReducesToZero.step x (high_leads f h e x b hl) v
          (at_most s entries σ τ (inr l) (signature_at s entries x v) le) k
          (q ∙ high_same f h e x b) red)

  clash : (f h : Polynomial) → IsSum f h → IsZeroPolynomial s f → ¬ IsZero s.prime (coefficient h w)
  clash f h e n z =
      counts (zero_rest s.prime (coefficient h w) (c * coefficient multiple w) (sym (e w) ∙ n w) z)

  -- where f is zero, h begins at w
  pub vanishing : (σ : Monomial) → IsLess s σ τ → {h : Polynomial} → ReducesToZero s entries σ h
      → (f : Polynomial) → IsSum f h → IsZeroPolynomial s f → RegularDivisor s entries τ w
  vanishing σ l (ReducesToZero.done {f = h} z) f e n = absurd (clash f h e n (z w))
  vanishing σ l (ReducesToZero.step {f = h} x hl v le k q rest) f e n = go (word_total x w)
    where
      go : IsWordLess x w ⊎ ((x ≡ w) ⊎ IsWordLess w x) → RegularDivisor s entries τ w
      go (inl b) = absurd (clash f h e n (hl.above w b))
      go (inr (inl i)) = regular σ l x i v le
      go (inr (inr b)) = absurd (hl.nonzero (high_same f h e x b ∙ n x))

  pub not_nothing : (f h : Polynomial) → IsSum f h → IsZeroPolynomial s f → IsZeroPolynomial s h → ⊥
  not_nothing f h e n z = clash f h e n (z w)
