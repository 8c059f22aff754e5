-- Modulo a prime each number that is not zero has an inverse.
-- Divide p by a. The quotient, and the inverse of the remainder, give the inverse of a (`step`).
-- The remainder is less than a, and it is not 0 unless a is 1, since p is a prime. So induction
-- applies (`inverse_below`); `field_from_prime` is for numbers of any size.
use Rattle.nc_algebra.proofs.Orders.{nat_ind, nat_order}
use Rattle.nc_algebra.specs.Primes.{IsField, IsPrime, IsZero}
use Rattle.std.proofs.Common.{◌≡◌, ℕ, ◌+◌, ◌-◌, ◌*◌, ◌/◌, ◌%◌, ◌<◌, ◌⊎◌, zero, suc, refl, sym, ap, ◌∙◌, inl, inr, arith}
use Rattle.std.proofs.Math.Nat.{dvd_of_mod-eq-zero, mod-lt, div-add-mod, mod-eq_of_lt, add-mul-mod_self_left}
use Rattle.std.proofs.lemmas.Nat.{mul-mod_first}

shape : (a k q m r i p : ℕ) → a * k ≡ m + 1 → q ≡ m + r → p ≡ (m + 1) + r
    → a * (q * k * i) ≡ r * i + p * (m * i)
shape a k q m r i p e d c =
    regroup ∙ (ap (λ n. n * (q * i)) e
    ∙ (ap (λ n. (m + 1) * (n * i)) d ∙ (spread ∙ sym (ap (λ n. r * i + n * (m * i)) c))))
  where
    regroup : a * (q * k * i) ≡ (a * k) * (q * i)
    regroup = omega arith

    spread : (m + 1) * ((m + r) * i) ≡ r * i + ((m + 1) + r) * (m * i)
    spread = omega arith

-- the quotient and the remainder of p by a give the inverse of a from that of the remainder
step : (p a i : ℕ) → 0 < a → a < p → (p % a) * i % p ≡ 1 → a * ((p - 1) * (p / a) * i) % p ≡ 1
step p a i l h e =
    ap (λ n. n % p) (form (p - 1) (a * (p / a) - 1) (omega arith)
    (omega (arith, div-add-mod p a, mod-lt p l)))
    ∙ (add-mul-mod_self_left ((p % a) * i) p ((a * (p / a) - 1) * i) ∙ e)
  where
    form : (q m : ℕ) → p ≡ q + 1 → a * (p / a) ≡ m + 1
        → a * (q * (p / a) * i) ≡ (p % a) * i + p * (m * i)
    form q m d f =
        shape a (p / a) q m (p % a) i p f (omega (arith, d, f, div-add-mod p a))
        (omega (arith, f, div-add-mod p a))

pub inverse_below : (p : ℕ) → IsPrime p → (a : ℕ) → 0 < a → a < p → (i : ℕ) × (a * i % p ≡ 1)
inverse_below p prime = nat_ind (λ a. 0 < a → a < p → (i : ℕ) × (a * i % p ≡ 1)) each
  where
    each : (a : ℕ) → ((b : ℕ) → b < a → 0 < b → b < p → (i : ℕ) × (b * i % p ≡ 1)) → 0 < a → a < p
        → (i : ℕ) × (a * i % p ≡ 1)
    each a before l h = go (nat_order a 1) (p % a) refl
      where
        go : (a < 1) ⊎ ((a ≡ 1) ⊎ (1 < a)) → (r : ℕ) → p % a ≡ r → (i : ℕ) × (a * i % p ≡ 1)
        go (inl b) r e = absurd (omega arith)
        go (inr (inl b)) r e =
            (1, ap (λ n. n % p) (omega (arith, b)) ∙ mod-eq_of_lt prime.above_one)
        go (inr (inr b)) zero e = absurd (no_divisor (prime.divisors a (dvd_of_mod-eq-zero a e)))
          where
            no_divisor : (a ≡ 1) ⊎ (a ≡ p) → ⊥
            no_divisor (inl d) = omega arith
            no_divisor (inr d) = omega arith
        go (inr (inr b)) (suc r) e =
            let below : p % a < a =
            mod-lt p l in let t : (i : ℕ) × ((p % a) * i % p ≡ 1) =
            before (p % a) below (omega arith) (omega arith) in
            ((p - 1) * (p / a) * t.0, step p a t.0 l h t.1)

pub field_from_prime : (p : ℕ) → IsPrime p → IsField p
field_from_prime p prime = record { above_one = prime.above_one; inverse = each }
  where
    each : (a : ℕ) → ¬ IsZero p a → (i : ℕ) × (a * i % p ≡ 1)
    each a n =
        let below : a % p < p =
        mod-lt a (omega (arith, prime.above_one)) in let t : (i : ℕ) × ((a % p) * i % p ≡ 1) =
        inverse_below p prime (a % p) (positive (a % p) n) below in
        (t.0, sym (mul-mod_first a t.0 p) ∙ t.1)
      where
        positive : (m : ℕ) → ¬ (m ≡ 0) → 0 < m
        positive zero k = absurd (k refl)
        positive (suc m) k = omega arith
