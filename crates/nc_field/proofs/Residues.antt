-- Sums and products of residues.
use Rattle.std.proofs.Common.{◌≡◌, ℕ, ◌+◌, ◌-◌, ◌*◌, ◌%◌, ◌^◌, ◌<◌, sym, ap, ◌∙◌, arith}
use Rattle.std.proofs.Math.Nat.{add-mul-mod_self_left, mod-add-mod}
use Rattle.std.proofs.lemmas.Nat.{mul-lt, mul-mod_second}

-- the product of two residues fits in 32 bits
pub product_fits : (a b : ℕ) → a < 65536 → b < 65536 → a * b < 2 ^ 32
product_fits a b h k = omega (arith, mul-lt a b 65536 65536 h k)

pub same_add : (p x y z : ℕ) → x % p ≡ y % p → (x + z) % p ≡ (y + z) % p
same_add p x y z e = sym (mod-add-mod x p z) ∙ ap (λ n. (n + z) % p) e ∙ mod-add-mod y p z

pub same_add_right : (p x y z : ℕ) → x % p ≡ y % p → (z + x) % p ≡ (z + y) % p
same_add_right p x y z e =
    ap (λ n. n % p) (omega arith) ∙ same_add p x y z e ∙ ap (λ n. n % p) (omega arith)

pub same_mul : (p c x y : ℕ) → x % p ≡ y % p → (c * x) % p ≡ (c * y) % p
same_mul p c x y e = sym (mul-mod_second c x p) ∙ ap (λ n. (c * n) % p) e ∙ mul-mod_second c y p

pub same_cancel : (p x y z : ℕ) → 0 < p → (x + z) % p ≡ (y + z) % p → x % p ≡ y % p
same_cancel p x y z some e = back x ∙ same_add p (x + z) (y + z) ((p - 1) * z) e ∙ sym (back y)
  where
    spread : (q n : ℕ) → n + (q + 1) * z ≡ (n + z) + q * z
    spread q n = omega arith

    whole : (n : ℕ) → n + p * z ≡ (n + z) + (p - 1) * z
    whole n =
        let one_more : p ≡ (p - 1) + 1 =
        omega arith in ap (λ m. n + m * z) one_more ∙ spread (p - 1) n

    back : (n : ℕ) → n % p ≡ ((n + z) + (p - 1) * z) % p
    back n = sym (add-mul-mod_self_left n p z) ∙ ap (λ m. m % p) (whole n)
