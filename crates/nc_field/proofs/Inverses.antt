-- The loop of `Prime::inverse`, which is Euclid's extended algorithm.
-- `IsStep` is its invariant: modulo p, s times a is the dividend m and t times a the divisor n; m
-- and n have no common divisor, and 0 < n < m. It holds at first (`first_step`) and after each turn
-- (`next_step`; `rest_factor` is the arithmetic). The remainder is not 0 while n is not 1
-- (`rest_some`), so n falls to 1, where t is the inverse of a.
use Rattle.nc_algebra.specs.Primes.{IsPrime}
use Rattle.nc_field.proofs.Residues.{same_add_right, same_cancel, same_mul}
use Rattle.std.proofs.Common.{◌≡◌, ℕ, ◌+◌, ◌-◌, ◌*◌, ◌/◌, ◌%◌, ◌<◌, ◌≤◌, ◌⊎◌, zero, suc, sym, ap, ◌∙◌, subst, inl, inr, arith, refl}
use Rattle.std.proofs.Math.Nat.{add-mul-mod_self_left, div-add-mod, dvd-add, dvd-mul_right_of_dvd, mod-lt, mod_self, zero-mod}
use Rattle.std.proofs.lemmas.Nat.{div-add-mod', mul-mod_second}
use Rattle.std.proofs.lemmas.Nat.Gcd.{dvd_of_mod-eq-zero, dvd_refl, le_of_dvd}
use Rattle.std.specs.Int.{◌∣◌}

-- no number but 1 divides both
pub record AreCoprime (a b : ℕ) : Type 0 where
  pub divisors : (d : ℕ) → d ∣ a → d ∣ b → d ≡ 1

pub coprime_below : (p a : ℕ) → IsPrime p → 0 < a → a < p → AreCoprime p a
coprime_below p a prime some below = record { divisors = λ d h k. by_case d k (prime.divisors d h) }
  where
    by_case : (d : ℕ) → d ∣ a → (d ≡ 1) ⊎ (d ≡ p) → d ≡ 1
    by_case d k (inl e) = e
    by_case d k (inr e) = let most : d ≤ a = le_of_dvd some k in absurd (omega arith)

pub coprime_rest : (m n : ℕ) → AreCoprime m n → AreCoprime n (m % n)
coprime_rest m n h = record {
  divisors =
      λ d k r. h.divisors d (subst (λ x. d ∣ x) (div-add-mod m n)
      (dvd-add d (dvd-mul_right_of_dvd d k (m / n)) r)) k;
}

pub rest_some : (m n : ℕ) → AreCoprime m n → (n ≡ 1 → ⊥) → 0 < m % n
rest_some m n h other =
    positive (m % n) (λ e. other (h.divisors n (dvd_of_mod-eq-zero n e) (dvd_refl n)))
  where
    positive : (k : ℕ) → (k ≡ 0 → ⊥) → 0 < k
    positive zero none = absurd (none refl)
    positive (suc k) none = omega arith

-- the factor of the rest: s is that of m, t that of n, and x that of the multiple of n
rest_factor : (p a m n s t x : ℕ) → x < p → x ≡ (m / n * t) % p → (a * s) % p ≡ m % p
    → (a * t) % p ≡ n % p → (a * ((s + (p - x)) % p)) % p ≡ (m % n) % p
rest_factor p a m n s t x below is of_m of_n =
    mul-mod_second a (s + (p - x)) p ∙ same_cancel p (a * (s + (p - x))) (m % n) (m / n * n)
    (omega arith) (left ∙ sym right)
  where
    multiple : (m / n * n) % p ≡ (a * x) % p
    multiple =
        same_mul p (m / n) n (a * t) (sym of_n)
        ∙ (ap (λ k. k % p) (regroup (m / n))
        ∙ (sym (mul-mod_second a (m / n * t) p) ∙ ap (λ k. (a * k) % p) (sym is)))
      where
        regroup : (q : ℕ) → q * (a * t) ≡ a * (q * t)
        regroup q = omega arith

    whole : a * (s + (p - x)) + a * x ≡ a * s + p * a
    whole = spread (p - x) ∙ ap (λ k. a * s + k * a) sum
      where
        spread : (w : ℕ) → a * (s + w) + a * x ≡ a * s + (w + x) * a
        spread w = omega arith

        sum : (p - x) + x ≡ p
        sum = omega arith

    left : (a * (s + (p - x)) + m / n * n) % p ≡ m % p
    left =
        same_add_right p (m / n * n) (a * x) (a * (s + (p - x))) multiple
        ∙ (ap (λ k. k % p) whole ∙ (add-mul-mod_self_left (a * s) p a ∙ of_m))

    right : (m % n + m / n * n) % p ≡ m % p
    right = ap (λ k. k % p) (omega (arith, div-add-mod' m n))

-- what holds before each step for the number a: s takes it to m modulo p, and t to n
pub record IsStep (p a m s n t : ℕ) : Type 0 where
  pub dividend_below : s < p
  pub divisor_below : t < p
  pub to_dividend : (a * s) % p ≡ m % p
  pub to_divisor : (a * t) % p ≡ n % p
  pub some : 0 < n
  pub falls : n < m
  pub within : m ≤ p
  pub coprime : AreCoprime m n

pub first_step : (p a : ℕ) → IsPrime p → 0 < a → a < p → IsStep p a p 0 a 1
first_step p a prime some below = record {
  dividend_below = omega (arith, prime.above_one);
  divisor_below = prime.above_one;
  to_dividend = ap (λ k. k % p) zero_there ∙ (zero-mod p ∙ sym (mod_self p));
  to_divisor = ap (λ k. k % p) (omega arith);
  some = some;
  falls = below;
  within = omega arith;
  coprime = coprime_below p a prime some below;
}
  where
    zero_there : a * 0 ≡ 0
    zero_there = omega arith

pub next_step : (p a m s n t x u : ℕ) → IsStep p a m s n t → (n ≡ 1 → ⊥) → x < p
    → x ≡ (m / n * t) % p → u < p → u ≡ (s + (p - x)) % p → IsStep p a n t (m % n) u
next_step p a m s n t x u h other x_below x_is u_below u_is = record {
  dividend_below = h.divisor_below;
  divisor_below = u_below;
  to_dividend = h.to_divisor;
  to_divisor =
      ap (λ k. (a * k) % p) u_is ∙ rest_factor p a m n s t x x_below x_is h.to_dividend
      h.to_divisor;
  some = rest_some m n h.coprime other;
  falls = mod-lt m h.some;
  within = omega (arith, h.falls, h.within);
  coprime = coprime_rest m n h.coprime;
}
