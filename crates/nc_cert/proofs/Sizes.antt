-- The charge of a part from the number of words that it multiplies and their letters.
-- Both numbers are kept beside each value, so the charge is found without a look at the value
-- (`products_is`).
use Rattle.nc_algebra.specs.Certificates.{item}
use Rattle.nc_algebra.specs.Elements.{Setting, generator}
use Rattle.nc_algebra.specs.Polynomials.{Polynomial}
use Rattle.nc_algebra.specs.Sums.{Term}
use Rattle.nc_algebra.specs.Words.{Word}
use Rattle.nc_cert.specs.Charges.{products_charge}
use Rattle.nc_cert.specs.Spent.{letter_count}
use Rattle.std.proofs.Common.{List, [], ap, arith, get_or, length, map, refl, suc, sym, take, zero, ℕ, ◌*◌, ◌+◌, ◌<◌, ◌∙◌, ◌∷◌, ◌≡◌, ◌≤◌}
use Rattle.std.proofs.Math.ListN.{get_or-map}
use Rattle.std.proofs.Math.Nat.{mul-le-mul_left}
use Rattle.std.proofs.lemmas.List.Sums.{sum_by-cons, sum_by_more}
use Rattle.std.proofs.lemmas.List.Elements.{recursion_from_All}
use Rattle.std.specs.List.{All, AllByRecursion}

-- one word more
pub letters_more : (f : Polynomial) (i : ℕ) (t : Term Word) → i < length f → t ≡ get_or f i t
    → letter_count (take (i + 1) f) ≡ letter_count (take i f) + length t.key
letters_more f i t within at =
    sum_by_more (λ t. length t.key) f i t within
    ∙ ap (λ (u : Term Word). letter_count (take i f) + length u.key) (sym at)

-- ---- products

pub products_is : (a : Word) (f : Polynomial) (b : Word)
    → products_charge a f b ≡ length f * (1 + length a + length b) + letter_count f
products_is a [] b = omega arith
products_is a (t ∷ f) b =
    sum_by-cons (λ t. 1 + length a + length t.key + length b) t f
    ∙ (step (length a) (length t.key) (length b) (length f) (letter_count f) (products_charge a f b)
    (products_is a f b)
    ∙ ap (λ n. suc (length f) * (1 + length a + length b) + n)
    (sym (sum_by-cons (λ t. length t.key) t f)))
  where
    step : (k l m n r c : ℕ) → c ≡ n * (1 + k + m) + r
        → 1 + k + l + m + c ≡ suc n * (1 + k + m) + (l + r)
    step k l m n r c e = omega (arith, e)

few_letters : (a : Word) (f : Polynomial) (b : Word)
    → AllByRecursion (λ t. length a + length t.key + length b ≤ 200000) f
    → letter_count f ≤ 200000 * length f
few_letters a [] b h = omega arith
few_letters a (t ∷ f) b h =
    omega (arith, h.0, few_letters a f b h.1, sum_by-cons (λ t. length t.key) t f)

pub letters_few : (a : Word) (f : Polynomial) (b : Word)
    → All (λ t. length a + length t.key + length b ≤ 200000) f → letter_count f ≤ 200000 * length f
letters_few a f b h =
    few_letters a f b (recursion_from_All (λ t. length a + length t.key + length b ≤ 200000) f h)

pub charge_few : (n k m r : ℕ) → k ≤ 200000 → m ≤ 200000 → r ≤ 200000 * n
    → n * (1 + k + m) + r ≤ 600001 * n
charge_few n k m r left right few =
    let each : 1 + k + m ≤ 400001 =
    omega (arith, left, right) in omega (arith, mul-le-mul_left n each, few)

-- ---- what a part multiplies

item_letters : (values : List Polynomial) (k : ℕ)
    → item 0 (map letter_count values) k ≡ letter_count (item [] values k)
item_letters values zero = refl
item_letters values (suc k) = get_or-map letter_count values k []

generator_item : (s : Setting) (i : ℕ) → generator s i ≡ item [] s.generators i
unfolding generator
generator_item s zero = refl
generator_item s (suc i) = refl

pub generator_letters : (s : Setting) (i j : ℕ) (letters : List ℕ) → i ≡ suc j
    → letters ≡ map letter_count s.generators → get_or letters j 0 ≡ letter_count (generator s i)
generator_letters s i j letters is e =
    ap (λ (l : List ℕ). get_or l j 0) e
    ∙ (item_letters s.generators (suc j)
    ∙ ap letter_count (sym (ap (generator s) is ∙ generator_item s (suc j))))
