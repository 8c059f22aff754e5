-- Each number of the list of primes is a prime.
-- `none_divides p d` tests by computation that no number from 2 to d + 1 divides p. With d + 2
-- equal to p this makes p a prime (`prime_by_test`). The checker runs the test for each listed
-- number (`listed_is_prime`).
use Rattle.nc_algebra.specs.Primes.{IsPrime, is_listed_prime}
use Rattle.std.proofs.Common.{◌≡◌, ℕ, ◌+◌, ◌%◌, ◌<◌, ◌≤◌, ◌⊎◌, ◌&&◌, ◌||◌, Bool, true, false, zero, suc, refl, sym, ap, ◌∙◌, subst, inl, inr, arith, not, nat_eq}
use Rattle.std.proofs.Math.Nat.{eq-zero_of_zero-dvd}
use Rattle.std.proofs.lemmas.Bool.{cases_lt}
use Rattle.std.proofs.lemmas.Bool.Decides.{Decides-eqb}
use Rattle.std.proofs.lemmas.Nat.Gcd.{le_of_dvd, mod-eq-zero_of_dvd}
use Rattle.std.specs.Int.{◌∣◌}

-- no number from 2 to d + 1 divides p
abbrev none_divides : ℕ → ℕ → Bool
none_divides p zero = true
none_divides p (suc d) = not (nat_eq (p % suc (suc d)) 0) && none_divides p d

both_true : (a b : Bool) → (a && b) ≡ true → (a ≡ true) × (b ≡ true)
both_true true b h = (refl, h)
both_true false b h = cc

not_true : (a : Bool) → not a ≡ true → a ≡ true → ⊥
not_true true h e = cc
not_true false h e = cc

none_divides_at : (p d k : ℕ) → none_divides p d ≡ true → 1 < k → k ≤ d + 1 → p % k ≡ 0 → ⊥
none_divides_at p zero k h one few e = omega arith
none_divides_at p (suc d) k h one few e =
    let parts = both_true (not (nat_eq (p % suc (suc d)) 0)) (none_divides p d) h in
    by_place parts.0 (none_divides_at p d k parts.1 one) (cases_lt (d + 1) k)
  where
    by_place : not (nat_eq (p % suc (suc d)) 0) ≡ true → (k ≤ d + 1 → p % k ≡ 0 → ⊥) → (d + 1 < k)
        ⊎ (k ≤ d + 1) → ⊥
    by_place top below (inr q) = below q e
    by_place top below (inl q) =
        let same : k ≡ suc (suc d) = omega arith in
        not_true (nat_eq (p % suc (suc d)) 0) top
        ((Decides-eqb (p % suc (suc d)) 0).1 (sym (ap (λ n. p % n) same) ∙ e))

-- a number with no divisor between 1 and itself is a prime
prime_by_test : (p d : ℕ) → p ≡ d + 2 → none_divides p d ≡ true → IsPrime p
prime_by_test p d size test = record { above_one = omega arith; divisors = each }
  where
    each : (k : ℕ) → k ∣ p → (k ≡ 1) ⊎ (k ≡ p)
    each zero h = let none : p ≡ 0 = eq-zero_of_zero-dvd h in absurd (omega arith)
    each (suc k) h = by_size (cases_lt 1 (suc k)) (cases_lt (suc k) p)
      where
        by_size : (1 < suc k) ⊎ (suc k ≤ 1) → (suc k < p) ⊎ (p ≤ suc k) → (suc k ≡ 1) ⊎ (suc k ≡ p)
        by_size (inr low) other = inl (omega arith)
        by_size (inl high) (inl low) =
            absurd (none_divides_at p d (suc k) test high (omega arith)
            (mod-eq-zero_of_dvd (suc k) h))
        by_size (inl high) (inr top) =
            let most : suc k ≤ p = le_of_dvd (omega arith) h in inr (omega arith)

-- what holds of each number of the list
module _ (P : ℕ → Type 0) (p : ℕ) where
  is : (n : ℕ) → P n → nat_eq p n ≡ true → P p
  is n h e = subst P (sym ((Decides-eqb p n).0 e)) h

  or : (n : ℕ) (rest : Bool) → P n → (rest ≡ true → P p) → (nat_eq p n || rest) ≡ true → P p
  or n rest h more e = by_test (nat_eq p n) refl e
    where
      by_test : (b : Bool) → nat_eq p n ≡ b → (b || rest) ≡ true → P p
      by_test true d f = is n h d
      by_test false d f = more f

  listed_all : P 2 → P 3 → P 5 → P 7 → P 101 → P 251 → P 32003 → P 65521 → is_listed_prime p ≡ true
      → P p
  listed_all two three five seven a b c d =
      or 2 _ two (or 3 _ three (or 5 _ five
      (or 7 _ seven (or 101 _ a (or 251 _ b (or 32003 _ c (is 65521 d)))))))

pub listed_is_prime : (p : ℕ) → is_listed_prime p ≡ true → IsPrime p
listed_is_prime p =
    listed_all IsPrime p
    (prime_by_test 2 0 refl refl)
    (prime_by_test 3 1 refl refl)
    (prime_by_test 5 3 refl refl)
    (prime_by_test 7 5 refl refl)
    (prime_by_test 101 99 refl refl)
    (prime_by_test 251 249 refl refl)
    (prime_by_test 32003 32001 refl refl)
    (prime_by_test 65521 65519 refl refl)

pub listed_is_small : (p : ℕ) → is_listed_prime p ≡ true → p < 65536
listed_is_small p =
    listed_all (λ n. n < 65536) p (omega arith) (omega arith) (omega arith) (omega arith)
    (omega arith) (omega arith) (omega arith) (omega arith)
