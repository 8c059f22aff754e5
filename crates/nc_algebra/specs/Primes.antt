-- Numbers modulo a prime, and the primes that the program works with.
--
-- Coefficients are natural numbers, and count modulo a prime p. There are no negative numbers:
-- `p - 1` times a number stands for its negative. A residue is a number less than p.
--
-- `IsPrime` is the usual definition. `IsField` is what the arithmetic uses: inverses. The law
-- `Inverses` derives them from `IsPrime`.
use Rattle.std.specs.Int.{◌∣◌}
use Rattle.std.specs.Prelude.{Bool, nat_eq, ℕ, ◌%◌, ◌*◌, ◌<◌, ◌||◌, ◌≡◌, ◌⊎◌}

-- n is zero modulo p
abbrev pub IsZero : ℕ → ℕ → Type 0
IsZero p n = n % p ≡ 0

-- p is a prime
pub record IsPrime (p : ℕ) : Type 0 where
  pub above_one : 1 < p
  pub divisors : (d : ℕ) → d ∣ p → (d ≡ 1) ⊎ (d ≡ p)

-- p is prime, in the form that is used: each number that p does not divide has an inverse modulo p
pub record IsField (p : ℕ) : Type 0 where
  pub above_one : 1 < p
  pub inverse : (a : ℕ) → ¬ IsZero p a → (b : ℕ) × (a * b % p ≡ 1)

-- the primes of the list
abbrev pub is_listed_prime : ℕ → Bool
is_listed_prime n =
    nat_eq n 2 || (nat_eq n 3 || (nat_eq n 5
    || (nat_eq n 7 || (nat_eq n 101 || (nat_eq n 251 || (nat_eq n 32003 || nat_eq n 65521))))))
