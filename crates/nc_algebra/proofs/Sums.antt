-- Laws of finite sums.
-- Every statement on a sum goes through `linear_sum`, of which a coefficient is a special case.
-- `linear_sum-without` singles out one key; by induction on the number of terms it gives
-- `linear_sum_zero`, then `linear_sum_same`, and `top`: a sum is zero, or has a greatest key with a
-- coefficient other than zero. `leads_map_keys` and `leads_substitute` move a leading key along a
-- map that preserves the order; the second one needs a prime (`domain`).
use Rattle.nc_algebra.proofs.Orders.{KeyLaws}
use Rattle.nc_algebra.specs.Primes.{IsField, IsZero}
use Rattle.nc_algebra.specs.Sums.{IsLeadingKey, SameSum, Term, coefficient_by, is_at, linear_sum, map_keys, minus, scale, substitute}
use Rattle.std.proofs.Common.{◌≡◌, ℕ, ◌+◌, ◌-◌, ◌*◌, ◌%◌, ◌<◌, ◌≤◌, ◌⊎◌, ◌≢◌, Bool, true, false, cond, List, [], ◌∷◌, ◌++◌, length, refl, sym, ap, ◌∙◌, subst, ap₂, inl, inr, ◌/◌, arith, suc, zero}
use Rattle.std.proofs.Math.Nat.{dvd-add, dvd-add_iff_right, dvd-mul_right_of_dvd, dvd-mul_left_of_dvd, dvd_of_mod-eq-zero, mod-eq-zero_of_dvd, dvd-mul_right, div-add-mod, add-mul-mod_self_left, add-mod, add-zero, mod-mod, mul-zero, mul-one}
use Rattle.std.proofs.lemmas.Bool.{false≢true}
use Rattle.std.specs.Int.{◌∣◌}

-- ---- numbers modulo p

pub zero_add : (p a b : ℕ) → IsZero p a → IsZero p b → IsZero p (a + b)
zero_add p a b h k =
    mod-eq-zero_of_dvd p (dvd-add p (dvd_of_mod-eq-zero p h) (dvd_of_mod-eq-zero p k))

pub zero_rest : (p a b : ℕ) → IsZero p (a + b) → IsZero p a → IsZero p b
zero_rest p a b h k =
    mod-eq-zero_of_dvd p ((dvd-add_iff_right p (dvd_of_mod-eq-zero p k)).1 (dvd_of_mod-eq-zero p h))

pub zero_mul : (p a b : ℕ) → IsZero p a → IsZero p (a * b)
zero_mul p a b h = mod-eq-zero_of_dvd p (dvd-mul_right_of_dvd p (dvd_of_mod-eq-zero p h) b)

pub zero_mul_left : (p a b : ℕ) → IsZero p b → IsZero p (a * b)
zero_mul_left p a b h = mod-eq-zero_of_dvd p (dvd-mul_left_of_dvd p (dvd_of_mod-eq-zero p h) a)

-- ---- sums

module _ {K : Type 0} where
  pub linear_sum-append : (F : K → ℕ) (f g : List (Term K))
      → linear_sum F (f ++ g) ≡ linear_sum F f + linear_sum F g
  linear_sum-append F [] g = omega arith
  linear_sum-append F (t ∷ f) g = omega (arith, linear_sum-append F f g)

  pub linear_sum-scale : (F : K → ℕ) (c : ℕ) (f : List (Term K))
      → linear_sum F (scale c f) ≡ c * linear_sum F f
  linear_sum-scale F c [] = omega arith
  linear_sum-scale F c (t ∷ f) = omega (arith, linear_sum-scale F c f)

  pub linear_sum-ext : (F G : K → ℕ) (f : List (Term K)) → ((x : K) → F x ≡ G x)
      → linear_sum F f ≡ linear_sum G f
  linear_sum-ext F G [] h = refl
  linear_sum-ext F G (t ∷ f) h =
      ap₂ (λ a b. t.coefficient * a + b) (h t.key) (linear_sum-ext F G f h)

module _ {K L : Type 0} where
  pub linear_sum-map_keys : (F : L → ℕ) (φ : K → L) (f : List (Term K))
      → linear_sum F (map_keys φ f) ≡ linear_sum (λ x. F (φ x)) f
  linear_sum-map_keys F φ [] = refl
  linear_sum-map_keys F φ (t ∷ f) = omega (arith, linear_sum-map_keys F φ f)

  pub linear_sum-substitute : (F : L → ℕ) (φ : K → List (Term L)) (f : List (Term K))
      → linear_sum F (substitute f φ) ≡ linear_sum (λ x. linear_sum F (φ x)) f
  linear_sum-substitute F φ [] = refl
  linear_sum-substitute F φ (t ∷ f) =
      omega (
        arith,
        linear_sum-append F (scale t.coefficient (φ t.key)) (substitute f φ),
        linear_sum-scale F t.coefficient (φ t.key),
        linear_sum-substitute F φ f,
      )

  -- a double sum in either order
  pub linear_sum_swap : (H : K → L → ℕ) (f : List (Term K)) (g : List (Term L))
      → linear_sum (λ x. linear_sum (H x) g) f ≡ linear_sum (λ y. linear_sum (λ x. H x y) f) g
  linear_sum_swap H [] g = sym (none g)
    where
      none : (g : List (Term L)) → linear_sum (λ y. 0) g ≡ 0
      none [] = refl
      none (t ∷ g) = omega (arith, none g)
  linear_sum_swap H (t ∷ f) g = omega (arith, linear_sum_swap H f g, split g)
    where
      split : (g : List (Term L)) → linear_sum
          (λ y. t.coefficient * H t.key y + linear_sum (λ x. H x y) f) g ≡ t.coefficient
          * linear_sum (H t.key) g + linear_sum (λ y. linear_sum (λ x. H x y) f) g
      split [] = omega arith
      split (s ∷ g) = omega (arith, split g)

-- equal modulo p: the one plus p - 1 times the other is zero
pub zero_from_same : (p a b : ℕ) → 0 < p → a % p ≡ b % p → IsZero p (a + (p - 1) * b)
zero_from_same p a b h e =
    mod-eq-zero_of_dvd p (subst (λ n. p ∣ n) (sym (form (p - 1) (omega arith)))
    (dvd-mul_right p (a / p + (p - 1) * (b / p) + b % p)))
  where
    form : (q : ℕ) → p ≡ q + 1 → a + q * b ≡ p * (a / p + q * (b / p) + b % p)
    form q d =
        omega (
          arith,
          ap (λ n. q * n) (sym (div-add-mod b p)),
          div-add-mod a p,
          e,
          ap (λ n. n * (b % p)) d,
        )

pub same_from_zero : (p a b : ℕ) → 0 < p → IsZero p (a + (p - 1) * b) → a % p ≡ b % p
same_from_zero p a b h z =
    sym (add-mul-mod_self_left a p b)
    ∙ (ap (λ n. n % p) (form (p - 1) (omega arith)) ∙ (ap (λ n. n % p) (omega arith) ∙ mod_left))
  where
    t : ℕ
    t = a + (p - 1) * b

    form : (q : ℕ) → p ≡ q + 1 → a + p * b ≡ (a + q * b) + b
    form q d = omega (arith, ap (λ n. n * b) d)

    mod_left : (b + t) % p ≡ b % p
    mod_left =
        add-mod b t p ∙ (ap (λ n. (b % p + n) % p) z
        ∙ (ap (λ n. n % p) (add-zero (b % p)) ∙ mod-mod b p))

pub zero_dec : (p n : ℕ) → IsZero p n ⊎ ¬ IsZero p n
zero_dec p n = go (n % p) refl
  where
    go : (m : ℕ) → n % p ≡ m → IsZero p n ⊎ ¬ IsZero p n
    go zero e = inl e
    go (suc m) e = inr (λ z. omega arith)

pub zero_number : (p : ℕ) → IsZero p 0
zero_number p = mod-eq-zero_of_dvd p (subst (λ n. p ∣ n) (mul-zero p) (dvd-mul_right p 0))

-- f without its terms at k
pub without : {K : Type 0} → (K → K → Bool) → K → List (Term K) → List (Term K)
without same k [] = []
without same k (t ∷ f) = cond (same k t.key) (without same k f) (t ∷ without same k f)

module _ {K : Type 0} (same : K → K → Bool) (less : K → K → Type 0) (laws : KeyLaws same less) where
  pub at_self : (k : K) → is_at same k k ≡ 1
  at_self k = ap (λ b. cond b 1 0) (laws.same_refl k)

  pub at_other : (k x : K) → k ≢ x → is_at same k x ≡ 0
  at_other k x n = go (same k x) refl
    where
      go : (b : Bool) → same k x ≡ b → is_at same k x ≡ 0
      go true e = absurd (n (laws.same_eq k x e))
      go false e = ap (λ b. cond b 1 0) e

  pub key_dec : (k x : K) → (k ≡ x) ⊎ (k ≢ x)
  key_dec k x = go (same k x) refl
    where
      go : (b : Bool) → same k x ≡ b → (k ≡ x) ⊎ (k ≢ x)
      go true e = inl (laws.same_eq k x e)
      go false e =
          inr (λ d. false≢true (sym e ∙ (subst (λ y. same k y ≡ true) d (laws.same_refl k))))

  -- what a sum weighs, by one of its keys and the rest
  pub linear_sum-without : (F : K → ℕ) (k : K) (f : List (Term K))
      → linear_sum F f ≡ coefficient_by same f k * F k + linear_sum F (without same k f)
  unfolding without
  linear_sum-without F k [] = omega arith
  linear_sum-without F k (t ∷ f) = go (same k t.key) refl (linear_sum-without F k f)
    where
      go : (b : Bool) → same k t.key ≡ b → linear_sum F f ≡ coefficient_by same f k * F k
          + linear_sum F (without same k f) → linear_sum F (t ∷ f) ≡ coefficient_by same (t ∷ f) k
          * F k + linear_sum F (without same k (t ∷ f))
      go true e h = rw (e, ← (ap F (laws.same_eq k t.key e))) (omega (arith, h))
      go false e h = rw e (omega (arith, h))

  pub length_without : (k : K) (f : List (Term K)) → length (without same k f) ≤ length f
  unfolding without
  length_without k [] = omega arith
  length_without k (t ∷ f) = go (same k t.key) refl (length_without k f)
    where
      go : (b : Bool) → same k t.key ≡ b → length (without same k f) ≤ length f
          → length (without same k (t ∷ f)) ≤ length (t ∷ f)
      go true e h = rw e (omega (arith, h))
      go false e h = rw e (omega (arith, h))

  pub coef_without_self : (k : K) (f : List (Term K)) → coefficient_by same (without same k f) k ≡ 0
  coef_without_self k f =
      omega (
        arith,
        linear_sum-without (is_at same k) k f,
        ap (λ n. coefficient_by same f k * n) (at_self k),
      )

  pub coef_without_other : (k x : K) (f : List (Term K)) → x ≢ k
      → coefficient_by same (without same k f) x ≡ coefficient_by same f x
  coef_without_other k x f n =
      omega (
        arith,
        linear_sum-without (is_at same x) k f,
        ap (λ n. coefficient_by same f k * n) (at_other x k n),
      )

  without_head : (t : Term K) (f : List (Term K))
      → without same t.key (t ∷ f) ≡ without same t.key f
  unfolding without
  without_head t f = rw (laws.same_refl t.key)

  rest_self : (t : Term K) (f : List (Term K)) → coefficient_by same (without same t.key f) t.key
      ≡ 0
  rest_self t f = coef_without_self t.key f

  rest_other : (t : Term K) (f : List (Term K)) (x : K) → x ≢ t.key
      → coefficient_by same (without same t.key f) x ≡ coefficient_by same (t ∷ f) x
  rest_other t f x n =
      ap (λ g. coefficient_by same g x) (sym (without_head t f))
      ∙ coef_without_other t.key x (t ∷ f) n

  rest_weigh : (F : K → ℕ) (t : Term K) (f : List (Term K))
      → linear_sum F (t ∷ f) ≡ coefficient_by same (t ∷ f) t.key * F t.key
      + linear_sum F (without same t.key f)
  rest_weigh F t f =
      linear_sum-without F t.key (t ∷ f)
      ∙ ap (λ g. coefficient_by same (t ∷ f) t.key * F t.key + linear_sum F g) (without_head t f)

  -- where at each key the coefficient or the weight is zero, so is the whole
  linear_sum_zero_up : (p : ℕ) (F : K → ℕ) (n : ℕ) (f : List (Term K)) → length f ≤ n
      → ((x : K) → IsZero p (coefficient_by same f x) ⊎ IsZero p (F x)) → IsZero p (linear_sum F f)
  linear_sum_zero_up p F n [] l h = zero_number p
  linear_sum_zero_up p F zero (t ∷ f) l h = absurd (omega arith)
  linear_sum_zero_up p F (suc n) (t ∷ f) l h =
      subst (IsZero p) (sym (rest_weigh F t f))
      (zero_add p (coefficient_by same (t ∷ f) t.key * F t.key)
      (linear_sum F (without same t.key f)) (product (h t.key))
      (linear_sum_zero_up p F n (without same t.key f) (omega (arith, length_without t.key f))
      (λ x. others x (key_dec x t.key))))
    where
      product : IsZero p (coefficient_by same (t ∷ f) t.key) ⊎ IsZero p (F t.key)
          → IsZero p (coefficient_by same (t ∷ f) t.key * F t.key)
      product (inl z) = zero_mul p _ (F t.key) z
      product (inr z) = zero_mul_left p (coefficient_by same (t ∷ f) t.key) _ z

      others : (x : K) → (x ≡ t.key) ⊎ (x ≢ t.key)
          → IsZero p (coefficient_by same (without same t.key f) x) ⊎ IsZero p (F x)
      others x (inl e) =
          inl (subst (λ y. IsZero p (coefficient_by same (without same t.key f) y)) (sym e)
          (subst (IsZero p) (sym (rest_self t f)) (zero_number p)))
      others x (inr n) =
          elim (h x) [ inl z ↦ inl (subst (IsZero p) (sym (rest_other t f x n)) z) | inr z ↦ inr z ]

  pub linear_sum_zero : (p : ℕ) (F : K → ℕ) (f : List (Term K))
      → ((x : K) → IsZero p (coefficient_by same f x) ⊎ IsZero p (F x)) → IsZero p (linear_sum F f)
  linear_sum_zero p F f h = linear_sum_zero_up p F (length f) f (omega arith) h

  -- where only k counts
  pub linear_sum_one : (p : ℕ) (F : K → ℕ) (f : List (Term K)) (k : K)
      → ((x : K) → x ≢ k → IsZero p (coefficient_by same f x) ⊎ IsZero p (F x)) → (r : ℕ)
      × (linear_sum F f ≡ coefficient_by same f k * F k + r) × IsZero p r
  linear_sum_one p F f k h = (
    linear_sum F (without same k f),
    linear_sum-without F k f,
    linear_sum_zero p F (without same k f) (λ x. others x (key_dec x k)),
  )
    where
      others : (x : K) → (x ≡ k) ⊎ (x ≢ k) → IsZero p (coefficient_by same (without same k f) x)
          ⊎ IsZero p (F x)
      others x (inl e) =
          inl (subst (λ y. IsZero p (coefficient_by same (without same k f) y)) (sym e)
          (subst (IsZero p) (sym (coef_without_self k f)) (zero_number p)))
      others x (inr n) =
          elim (h x n) [
            | inl z ↦ inl (subst (IsZero p) (sym (coef_without_other k x f n)) z)
            | inr z
                ↦ inr z
          ]

  pub coefficient-minus : (p : ℕ) (f : List (Term K)) (c : ℕ) (g : List (Term K)) (x : K)
      → coefficient_by same (minus p f c g) x ≡ coefficient_by same f x + (p - 1) * c
      * coefficient_by same g x
  coefficient-minus p f c g x =
      linear_sum-append (is_at same x) f (scale ((p - 1) * c) g)
      ∙ ap (λ n. coefficient_by same f x + n) (linear_sum-scale (is_at same x) ((p - 1) * c) g)

  -- equal sums weigh the same
  pub linear_sum_same : (p : ℕ) (F : K → ℕ) (f g : List (Term K)) → 0 < p → SameSum same p f g
      → linear_sum F f % p ≡ linear_sum F g % p
  linear_sum_same p F f g h s =
      same_from_zero p (linear_sum F f) (linear_sum F g) h
      (subst (IsZero p) (linear_sum-append F f (scale (p - 1) g)
      ∙ ap (λ n. linear_sum F f + n) (linear_sum-scale F (p - 1) g))
      (linear_sum_zero p F (f ++ scale (p - 1) g) (λ x. inl (each x))))
    where
      each : (x : K) → IsZero p (coefficient_by same (f ++ scale (p - 1) g) x)
      each x =
          subst (IsZero p) (sym (linear_sum-append (is_at same x) f (scale (p - 1) g)
          ∙ ap (λ n. coefficient_by same f x + n) (linear_sum-scale (is_at same x) (p - 1) g)))
          (zero_from_same p (coefficient_by same f x) (coefficient_by same g x) h (s.at x))

  pub linear_sum-add : (F G : K → ℕ) (c : ℕ) (f : List (Term K))
      → linear_sum (λ x. F x + c * G x) f ≡ linear_sum F f + c * linear_sum G f
  linear_sum-add F G c [] = omega arith
  linear_sum-add F G c (t ∷ f) = omega (arith, ap (λ n. n) (linear_sum-add F G c f))

  pub linear_sum_cong : (p : ℕ) (F G : K → ℕ) (f : List (Term K)) → 0 < p
      → ((x : K) → F x % p ≡ G x % p) → linear_sum F f % p ≡ linear_sum G f % p
  linear_sum_cong p F G f h e =
      same_from_zero p (linear_sum F f) (linear_sum G f) h
      (subst (IsZero p) (linear_sum-add F G (p - 1) f)
      (linear_sum_zero p (λ x. F x + (p - 1) * G x) f
      (λ x. inr (zero_from_same p (F x) (G x) h (e x)))))

  -- a sum is zero or has a greatest key
  top_up : (p : ℕ) (n : ℕ) (f : List (Term K)) → length f ≤ n
      → ((x : K) → IsZero p (coefficient_by same f x)) ⊎ ((k : K) × IsLeadingKey same less p f k)
  top_up p n [] l = inl (λ x. zero_number p)
  top_up p zero (t ∷ f) l = absurd (omega arith)
  top_up p (suc n) (t ∷ f) l =
      go (zero_dec p (coefficient_by same (t ∷ f) t.key))
      (top_up p n (without same t.key f) (omega (arith, length_without t.key f)))
    where
      -- an x other than the head's key
      back : (x : K) → x ≢ t.key → IsZero p (coefficient_by same (without same t.key f) x)
          → IsZero p (coefficient_by same (t ∷ f) x)
      back x n z = subst (IsZero p) (rest_other t f x n) z

      all : IsZero p (coefficient_by same (t ∷ f) t.key)
          → ((x : K) → IsZero p (coefficient_by same (without same t.key f) x)) → (x : K)
          → (x ≡ t.key) ⊎ (x ≢ t.key) → IsZero p (coefficient_by same (t ∷ f) x)
      all z h x (inl e) = subst (λ y. IsZero p (coefficient_by same (t ∷ f) y)) (sym e) z
      all z h x (inr n) = back x n (h x)

      differs : (k : K) → IsLeadingKey same less p (without same t.key f) k → k ≢ t.key
      differs k d e =
          d.nonzero (subst (IsZero p) (sym (ap (λ y. coefficient_by same (without same t.key f) y) e
          ∙ rest_self t f)) (zero_number p))

      above : (k : K) → IsLeadingKey same less p (without same t.key f) k
          → IsZero p (coefficient_by same (t ∷ f) t.key) ⊎ less t.key k → (x : K) → less k x
          → (x ≡ t.key) ⊎ (x ≢ t.key) → IsZero p (coefficient_by same (t ∷ f) x)
      above k d (inl z) x h (inl e) =
          subst (λ y. IsZero p (coefficient_by same (t ∷ f) y)) (sym e) z
      above k d (inr b) x h (inl e) =
          absurd (laws.irrefl k (laws.trans k t.key k (subst (less k) e h) b))
      above k d o x h (inr n) = back x n (d.above x h)

      keep : (k : K) → IsLeadingKey same less p (without same t.key f) k
          → IsZero p (coefficient_by same (t ∷ f) t.key) ⊎ less t.key k
          → IsLeadingKey same less p (t ∷ f) k
      keep k d o =
          record {
            nonzero = λ z. d.nonzero
                (subst (IsZero p) (sym (rest_other t f k (differs k d))) z);
            above = λ x h. above k d o x h (key_dec x t.key);
          }

      self : ¬ IsZero p (coefficient_by same (t ∷ f) t.key)
          → ((x : K) → less t.key x → IsZero p (coefficient_by same (without same t.key f) x))
          → IsLeadingKey same less p (t ∷ f) t.key
      self n h =
          record {
            nonzero = n;
            above = λ x b. back x
                (λ e. laws.irrefl t.key (subst (less t.key) e b)) (h x b);
          }

      pick : ¬ IsZero p (coefficient_by same (t ∷ f) t.key) → (k : K)
          → IsLeadingKey same less p (without same t.key f) k → less t.key k
          ⊎ ((t.key ≡ k) ⊎ less k t.key) → (k : K) × IsLeadingKey same less p (t ∷ f) k
      pick n k d (inl b) = (k, keep k d (inr b))
      pick n k d (inr (inl e)) = absurd (differs k d (sym e))
      pick n k d (inr (inr b)) = (t.key, self n (λ x h. d.above x (laws.trans k t.key x b h)))

      go : IsZero p (coefficient_by same (t ∷ f) t.key)
          ⊎ ¬ IsZero p (coefficient_by same (t ∷ f) t.key)
          → ((x : K) → IsZero p (coefficient_by same (without same t.key f) x))
          ⊎ ((k : K) × IsLeadingKey same less p (without same t.key f) k)
          → ((x : K) → IsZero p (coefficient_by same (t ∷ f) x))
          ⊎ ((k : K) × IsLeadingKey same less p (t ∷ f) k)
      go (inl z) (inl h) = inl (λ x. all z h x (key_dec x t.key))
      go (inl z) (inr (k, d)) = inr (k, keep k d (inl z))
      go (inr n) (inl h) = inr (t.key, self n (λ x b. h x))
      go (inr n) (inr (k, d)) = inr (pick n k d (laws.total t.key k))

  pub top : (p : ℕ) (f : List (Term K)) → ((x : K) → IsZero p (coefficient_by same f x))
      ⊎ ((k : K) × IsLeadingKey same less p f k)
  top p f = top_up p (length f) f (omega arith)

  pub lead_unique : (p : ℕ) (f : List (Term K)) (k l : K) → IsLeadingKey same less p f k
      → IsLeadingKey same less p f l → k ≡ l
  lead_unique p f k l d e = go (laws.total k l)
    where
      go : less k l ⊎ ((k ≡ l) ⊎ less l k) → k ≡ l
      go (inl h) = absurd (e.nonzero (d.above l h))
      go (inr (inl h)) = h
      go (inr (inr h)) = absurd (d.nonzero (e.above k h))

  -- a key with a coefficient is at most the greatest
  pub below_lead : (p : ℕ) (f : List (Term K)) (k x : K) → IsLeadingKey same less p f k
      → ¬ IsZero p (coefficient_by same f x) → (x ≡ k) ⊎ less x k
  below_lead p f k x d n = go (laws.total k x)
    where
      go : less k x ⊎ ((k ≡ x) ⊎ less x k) → (x ≡ k) ⊎ less x k
      go (inl h) = absurd (n (d.above x h))
      go (inr (inl e)) = inl (sym e)
      go (inr (inr h)) = inr h

pub same_plus_zero : (p a b r : ℕ) → a ≡ b + r → IsZero p r → a % p ≡ b % p
same_plus_zero p a b r e z =
    ap (λ n. n % p) e ∙ (add-mod b r p
    ∙ (ap (λ n. (b % p + n) % p) z ∙ (ap (λ n. n % p) (add-zero (b % p)) ∙ mod-mod b p)))

pub zero_by_same : (p a b : ℕ) → a % p ≡ b % p → IsZero p b → IsZero p a
zero_by_same p a b e z = e ∙ z

-- modulo a prime a product is zero only where a factor is
pub domain : (p : ℕ) → IsField p → (a b : ℕ) → ¬ IsZero p a → IsZero p (a * b) → IsZero p b
domain p field a b n z = product (field.inverse a n)
  where
    product : (c : ℕ) × (a * c % p ≡ 1) → IsZero p b
    product (c, e) =
        sym (same_plus_zero p (a * c * b) b (p * ((a * c / p) * b))
        (omega (arith, ap (λ n. n * b) (sym (div-add-mod (a * c) p)), ap (λ n. n * b) e))
        (zero_mul p p ((a * c / p) * b)
        (mod-eq-zero_of_dvd p (subst (λ n. p ∣ n) (mul-one p) (dvd-mul_right p 1)))))
        ∙ subst (IsZero p) (omega arith) (zero_mul p (a * b) c z)

module _ {K L : Type 0} (same : K → K → Bool) (less : K → K → Type 0) (laws : KeyLaws same less)
    (same' : L → L → Bool) (less' : L → L → Type 0) (laws' : KeyLaws same' less') where
  coefficient-substitute : (g : List (Term K)) (φ : K → List (Term L)) (y : L)
      → coefficient_by same' (substitute g φ) y ≡ linear_sum (λ x. coefficient_by same' (φ x) y) g
  coefficient-substitute g φ y = linear_sum-substitute (is_at same' y) φ g

  -- what a sum of sums has at its greatest key
  pub coefficient_substitute_leading : (p : ℕ) (g : List (Term K)) (k : K) (φ : K → List (Term L))
      (ψ : K → L) → ((x y : K) → less x y → less' (ψ x) (ψ y))
      → ((x : K) → IsLeadingKey same' less' p (φ x) (ψ x)) → IsLeadingKey same less p g k
      → coefficient_by same' (substitute g φ) (ψ k) % p ≡ coefficient_by same g k * coefficient_by
      same' (φ k) (ψ k) % p
  coefficient_substitute_leading p g k φ ψ up leads d =
      go (linear_sum_one same less laws p (λ x. coefficient_by same' (φ x) (ψ k)) g k each)
    where
      below : (x : K) → x ≢ k → (x ≡ k) ⊎ less x k → IsZero p (coefficient_by same' (φ x) (ψ k))
      below x n (inl e) = absurd (n e)
      below x n (inr h) = (leads x).above (ψ k) (up x k h)

      each : (x : K) → x ≢ k → IsZero p (coefficient_by same g x)
          ⊎ IsZero p (coefficient_by same' (φ x) (ψ k))
      each x n =
          elim (zero_dec p (coefficient_by same g x))
          [ inl z ↦ inl z | inr nz ↦ inr (below x n (below_lead same less laws p g k x d nz)) ]

      go : (r : ℕ) × (linear_sum (λ x. coefficient_by same' (φ x) (ψ k)) g ≡ coefficient_by same g k
          * coefficient_by same' (φ k) (ψ k) + r) × IsZero p r
          → coefficient_by same' (substitute g φ) (ψ k) % p ≡ coefficient_by same g k
          * coefficient_by same' (φ k) (ψ k) % p
      go (r, e, z) = same_plus_zero p _ _ r (coefficient-substitute g φ (ψ k) ∙ e) z

  pub leads_substitute : (p : ℕ) → IsField p
      → (g : List (Term K)) (k : K) (φ : K → List (Term L)) (ψ : K → L)
      → ((x y : K) → less x y → less' (ψ x) (ψ y))
      → ((x : K) → IsLeadingKey same' less' p (φ x) (ψ x)) → IsLeadingKey same less p g k
      → IsLeadingKey same' less' p (substitute g φ) (ψ k)
  leads_substitute p field g k φ ψ up leads d = record {
    nonzero =
        λ z. (leads k).nonzero (domain p field (coefficient_by same g k) _ d.nonzero
        (sym (coefficient_substitute_leading p g k φ ψ up leads d) ∙ z));
    above = λ y h. subst (IsZero p) (sym (coefficient-substitute g φ y))
        (linear_sum_zero same less laws p (λ x. coefficient_by same' (φ x) y) g (each y h));
  }
    where
      below : (y : L) → less' (ψ k) y → (x : K) → (x ≡ k) ⊎ less x k
          → IsZero p (coefficient_by same' (φ x) y)
      below y h x (inl e) = (leads x).above y (subst (λ z. less' (ψ z) y) (sym e) h)
      below y h x (inr b) = (leads x).above y (laws'.trans (ψ x) (ψ k) y (up x k b) h)

      each : (y : L) → less' (ψ k) y → (x : K) → IsZero p (coefficient_by same g x)
          ⊎ IsZero p (coefficient_by same' (φ x) y)
      each y h x =
          elim (zero_dec p (coefficient_by same g x))
          [ inl z ↦ inl z | inr nz ↦ inr (below y h x (below_lead same less laws p g k x d nz)) ]

  -- a key moved by an order keeping map has its coefficient
  pub coefficient_map_keys : (p : ℕ) (g : List (Term K)) (k : K) (φ : K → L)
      → ((x y : K) → less x y → less' (φ x) (φ y))
      → coefficient_by same' (map_keys φ g) (φ k) % p ≡ coefficient_by same g k % p
  coefficient_map_keys p g k φ up =
      go (linear_sum_one same less laws p (λ x. is_at same' (φ k) (φ x)) g k
      (λ x n. inr (subst (IsZero p) (sym (at_other same' less' laws' (φ k) (φ x)
      (λ e. apart x n e (laws.total x k)))) (zero_number p))))
    where
      apart : (x : K) → x ≢ k → φ k ≡ φ x → less x k ⊎ ((x ≡ k) ⊎ less k x) → ⊥
      apart x n e (inl h) = laws'.irrefl (φ k) (subst (λ y. less' y (φ k)) (sym e) (up x k h))
      apart x n e (inr (inl d)) = n d
      apart x n e (inr (inr h)) = laws'.irrefl (φ k) (subst (less' (φ k)) (sym e) (up k x h))

      go : (r : ℕ) × (linear_sum (λ x. is_at same' (φ k) (φ x)) g ≡ coefficient_by same g k
          * is_at same' (φ k) (φ k) + r) × IsZero p r
          → coefficient_by same' (map_keys φ g) (φ k) % p ≡ coefficient_by same g k % p
      go (r, e, z) =
          same_plus_zero p _ _ r (linear_sum-map_keys (is_at same' (φ k)) φ g
          ∙ (e ∙ ap (λ n. n + r) (ap (λ n. coefficient_by same g k * n)
          (at_self same' less' laws' (φ k)) ∙ mul-one _))) z

  pub leads_map_keys : (p : ℕ) (g : List (Term K)) (k : K) (φ : K → L)
      → ((x y : K) → less x y → less' (φ x) (φ y)) → IsLeadingKey same less p g k
      → IsLeadingKey same' less' p (map_keys φ g) (φ k)
  leads_map_keys p g k φ up d = record {
    nonzero = λ z. d.nonzero (sym (coefficient_map_keys p g k φ up) ∙ z);
    above = λ y h. subst (IsZero p) (sym (linear_sum-map_keys (is_at same' y) φ g))
        (linear_sum_zero same less laws p (λ x. is_at same' y (φ x)) g (each y h));
  }
    where
      below : (y : L) → less' (φ k) y → (x : K) → (x ≡ k) ⊎ less x k → less' (φ x) y
      below y h x (inl e) = subst (λ z. less' (φ z) y) (sym e) h
      below y h x (inr b) = laws'.trans (φ x) (φ k) y (up x k b) h

      other : (y : L) (x : K) → less' (φ x) y → IsZero p (is_at same' y (φ x))
      other y x h =
          subst (IsZero p) (sym (at_other same' less' laws' y (φ x)
          (λ e. laws'.irrefl y (subst (λ z. less' z y) (sym e) h)))) (zero_number p)

      each : (y : L) → less' (φ k) y → (x : K) → IsZero p (coefficient_by same g x)
          ⊎ IsZero p (is_at same' y (φ x))
      each y h x =
          elim (zero_dec p (coefficient_by same g x)) [
            | inl z ↦ inl z
            | inr nz ↦ inr
                (other y x (below y h x (below_lead same less laws p g k x d nz)))
          ]
