-- Each polynomial has one normal form, and `normal_form` computes it.
-- `with_term` adds one term and keeps words descending, coefficients residues, and the sum. Two
-- normal forms of one polynomial begin with the same word and the same residue, and their tails are
-- equal polynomials again (`unique_up`).
use Rattle.nc_algebra.proofs.Lists.{same-refl, same-sym, same-trans}
use Rattle.nc_algebra.proofs.Sums.{at_other, at_self, key_dec, lead_unique, zero_number}
use Rattle.nc_algebra.proofs.Words.{word_irrefl, word_laws, word_trans, words_compare}
use Rattle.nc_algebra.specs.Polynomials.{AllLess, IsDescending, IsNormal, Polynomial, coefficient, led_by, normal_form, placed, with_term}
use Rattle.nc_algebra.specs.Primes.{IsZero}
use Rattle.nc_algebra.specs.Sums.{IsLeadingKey, SameSum, Term, is_at}
use Rattle.nc_algebra.specs.Words.{IsWordLess, Word, compare_words, same_word}
use Rattle.std.proofs.Common.{Bool, Equal, Greater, Less, Ordering, [], ap, ap₂, arith, cond, false, inl, inr, nat_eq, refl, subst, suc, sym, true, zero, ℕ, ◌%◌, ◌*◌, ◌+◌, ◌<◌, ◌∙◌, ◌∷◌, ◌≡◌, ◌≢◌, ◌⊎◌}
use Rattle.std.proofs.Math.Nat.{add-mod, mod-eq_of_lt, mod-lt}
use Rattle.std.proofs.lemmas.Nat.{mul-mod_first}
use Rattle.std.proofs.lemmas.Bool.{eqb-true, false≢true}
use Rattle.std.proofs.lemmas.List.Elements.{All-from_recursion, recursion_from_All}
use Rattle.std.specs.List.{AllByRecursion}
use Rattle.std.specs.Ordering.{MatchOrdering}

-- the same word, or a greater one
abbrev pub IsUpFrom : Word → Word → Type 0
IsUpFrom w x = (x ≡ w) ⊎ IsWordLess w x

-- nothing stands at a word that is not less
pub nothing_above : (w : Word) (f : Polynomial) → AllLess w f → (x : Word) → IsUpFrom w x
    → coefficient f x ≡ 0
nothing_above w [] a x o = refl
nothing_above w (t ∷ f) a x o =
    omega (
      arith,
      ap (λ n. t.coefficient * n)
          (at_other same_word IsWordLess word_laws x t.key (apart o)),
      nothing_above w f a.1 x o,
    )
  where
    apart : IsUpFrom w x → x ≢ t.key
    apart (inl e) i = word_irrefl w (subst (λ y. IsWordLess y w) (sym i ∙ e) a.0)
    apart (inr l) i = word_irrefl w (word_trans w x w l (subst (λ y. IsWordLess y w) (sym i) a.0))

pub first_coefficient : (t : Term Word) (f : Polynomial) → AllLess t.key f
    → coefficient (t ∷ f) t.key ≡ t.coefficient
first_coefficient t f a =
    omega (
      arith,
      ap (λ n. t.coefficient * n) (at_self same_word IsWordLess word_laws t.key),
      nothing_above t.key f a t.key (inl refl),
    )

pub other_coefficient : (t : Term Word) (f : Polynomial) (x : Word) → x ≢ t.key
    → coefficient (t ∷ f) x ≡ coefficient f x
other_coefficient t f x n =
    omega (arith, ap (λ m. t.coefficient * m) (at_other same_word IsWordLess word_laws x t.key n))

-- what the test does not find to be 0 is more
pub positive : (n : ℕ) → nat_eq n 0 ≡ false → 0 < n
positive zero e = absurd (false≢true (sym e))
positive (suc n) e = omega arith

module _ (p : ℕ) where
  residue_not_zero : (c : ℕ) → c < p → 0 < c → ¬ IsZero p c
  residue_not_zero c a b z = let e : c % p ≡ c = mod-eq_of_lt a in omega (arith, e, z)

  -- the first word of a normal form is its leading word
  pub normal_leads : (t : Term Word) (f : Polynomial) → IsDescending (t ∷ f) → t.coefficient < p
      → IsLeadingKey same_word IsWordLess p (t ∷ f) t.key
  normal_leads t f n small = record {
    nonzero =
        λ z. residue_not_zero t.coefficient small n.0
        (subst (IsZero p) (first_coefficient t f n.1) z);
    above = λ x l. subst (IsZero p)
        (sym (other_coefficient t f x (λ e. word_irrefl t.key (subst (IsWordLess t.key) e l))
        ∙ nothing_above t.key f n.1 x (inr l))) (zero_number p);
  }

  unique_up : (f g : Polynomial) → IsDescending f → AllByRecursion (λ t. t.coefficient < p) f
      → IsDescending g → AllByRecursion (λ t. t.coefficient < p) g → SameSum same_word p f g → f ≡ g
  unique_up [] [] n a m b e = refl
  unique_up [] (t ∷ g) n a m b e =
      absurd ((normal_leads t g m b.0).nonzero (sym (e.at t.key) ∙ zero_number p))
  unique_up (t ∷ f) [] n a m b e =
      absurd ((normal_leads t f n a.0).nonzero (e.at t.key ∙ zero_number p))
  unique_up (t ∷ f) (u ∷ g) n a m b e =
      ap₂ (λ x y. x ∷ y) term (unique_up f g n.2 a.1 m.2 b.1 tails)
    where
      moved : IsLeadingKey same_word IsWordLess p (u ∷ g) t.key
      moved = record {
        nonzero = λ z. (normal_leads t f n a.0).nonzero (e.at t.key ∙ z);
        above = λ x l. sym (e.at x) ∙ (normal_leads t f n a.0).above x l;
      }

      keys : t.key ≡ u.key
      keys = lead_unique same_word IsWordLess word_laws p (u ∷ g) t.key u.key moved
          (normal_leads u g m b.0)

      coefs : t.coefficient ≡ u.coefficient
      coefs = sym (mod-eq_of_lt a.0)
          ∙ (ap (λ c. c % p) (sym (first_coefficient t f n.1))
          ∙ (e.at t.key ∙ (ap (λ x. coefficient (u ∷ g) x % p) keys
          ∙ (ap (λ c. c % p) (first_coefficient u g m.1) ∙ mod-eq_of_lt b.0))))

      term : t ≡ u
      term = λ i. record { coefficient = coefs i; key = keys i }

      tail : (x : Word) → coefficient f x % p ≡ coefficient g x % p
      tail x = go (key_dec same_word IsWordLess word_laws x t.key)
        where
          go : (x ≡ t.key) ⊎ (x ≢ t.key) → coefficient f x % p ≡ coefficient g x % p
          go (inl i) =
              ap (λ c. c % p) (nothing_above t.key f n.1 x (inl i)
              ∙ sym (nothing_above u.key g m.1 x (inl (i ∙ keys))))
          go (inr d) =
              ap (λ c. c % p) (sym (other_coefficient t f x d))
              ∙ (e.at x ∙ ap (λ c. c % p) (other_coefficient u g x (λ i. d (i ∙ sym keys))))

      tails : SameSum same_word p f g
      tails = record { at = tail }

  -- equal polynomials in normal form are one list
  pub normal_unique : (f g : Polynomial) → IsNormal p f → IsNormal p g → SameSum same_word p f g
      → f ≡ g
  normal_unique f g n m e =
      unique_up f g n.0 (recursion_from_All (λ t. t.coefficient < p) f n.1) m.0
      (recursion_from_All (λ t. t.coefficient < p) g m.1) e

  -- ---- the normal form that is computed

  -- a coefficient counts modulo p
  pub scaled : (c a s : ℕ) → ((c % p) * a + s) % p ≡ (c * a + s) % p
  scaled c a s =
      add-mod ((c % p) * a) s p ∙ (ap (λ n. (n + s % p) % p) (mul-mod_first c a p)
      ∙ sym (add-mod (c * a) s p))

  -- what a term before f adds
  led_same : (c : ℕ) (v : Word) (f : Polynomial) (x : Word)
      → coefficient (led_by p c v f) x % p ≡ (c * is_at same_word x v + coefficient f x) % p
  led_same c v f x = go (nat_eq (c % p) 0) refl
    where
      go : (b : Bool) → nat_eq (c % p) 0 ≡ b
          → coefficient (cond b f (record { coefficient = c % p; key = v } ∷ f)) x
          % p ≡ (c * is_at same_word x v + coefficient f x) % p
      go true e =
          sym (sym (scaled c (is_at same_word x v) (coefficient f x))
          ∙ ap (λ n. n % p) (let z : c % p ≡ 0 = eqb-true (c % p) 0 e in
          omega (arith, ap (λ n. n * is_at same_word x v) z)))
      go false e = scaled c (is_at same_word x v) (coefficient f x)

  led_less : (w : Word) (c : ℕ) (v : Word) (f : Polynomial) → IsWordLess v w → AllLess w f
      → AllLess w (led_by p c v f)
  led_less w c v f l a = go (nat_eq (c % p) 0)
    where
      go : (b : Bool) → AllLess w (cond b f (record { coefficient = c % p; key = v } ∷ f))
      go true = a
      go false = (l, a)

  led_descends : (c : ℕ) (v : Word) (f : Polynomial) → AllLess v f → IsDescending f
      → IsDescending (led_by p c v f)
  led_descends c v f a d = go (nat_eq (c % p) 0) refl
    where
      go : (b : Bool) → nat_eq (c % p) 0 ≡ b
          → IsDescending (cond b f (record { coefficient = c % p; key = v } ∷ f))
      go true e = d
      go false e = (positive (c % p) e, a, d)

  led_residues : (c : ℕ) (v : Word) (f : Polynomial) → 0 < p
      → AllByRecursion (λ t. t.coefficient < p) f
      → AllByRecursion (λ t. t.coefficient < p) (led_by p c v f)
  led_residues c v f some r = go (nat_eq (c % p) 0)
    where
      go : (b : Bool) → AllByRecursion (λ t. t.coefficient < p)
          (cond b f (record { coefficient = c % p; key = v } ∷ f))
      go true = r
      go false = (mod-lt c some, r)

  all_less_trans : (w v : Word) (f : Polynomial) → IsWordLess w v → AllLess w f → AllLess v f
  all_less_trans w v [] l a = tt
  all_less_trans w v (t ∷ f) l a = (word_trans t.key w v a.0 l, all_less_trans w v f l a.1)

  with_term_less : (w : Word) (t : Term Word) (f : Polynomial) → IsWordLess t.key w → AllLess w f
      → AllLess w (with_term p t f)
  unfolding with_term
  with_term_less w t [] l a = led_less w t.coefficient t.key [] l tt
  with_term_less w t (u ∷ f) l a = go (compare_words t.key u.key) (with_term_less w t f l a.1)
    where
      go : (o : Ordering) → AllLess w (with_term p t f)
          → AllLess w (placed p t u f (with_term p t f) o)
      go Less h = (a.0, h)
      go Equal h = led_less w (t.coefficient + u.coefficient) u.key f a.0 a.1
      go Greater h = led_less w t.coefficient t.key (u ∷ f) l a

  with_term_descends : (t : Term Word) (f : Polynomial) → IsDescending f
      → IsDescending (with_term p t f)
  unfolding with_term
  with_term_descends t [] d = led_descends t.coefficient t.key [] tt tt
  with_term_descends t (u ∷ f) d =
      go (compare_words t.key u.key) (words_compare t.key u.key) (with_term_descends t f d.2)
      (λ l. with_term_less u.key t f l d.1)
    where
      go : (o : Ordering) → MatchOrdering o (IsWordLess t.key u.key) (t.key ≡ u.key)
          (IsWordLess u.key t.key) → IsDescending (with_term p t f)
          → (IsWordLess t.key u.key → AllLess u.key (with_term p t f))
          → IsDescending (placed p t u f (with_term p t f) o)
      go Less m h less = (d.0, less m, h)
      go Equal m h less = led_descends (t.coefficient + u.coefficient) u.key f d.1 d.2
      go Greater m h less =
          led_descends t.coefficient t.key (u ∷ f) (m, all_less_trans u.key t.key f m d.1) d

  with_term_residues : (t : Term Word) (f : Polynomial) → 0 < p
      → AllByRecursion (λ t. t.coefficient < p) f
      → AllByRecursion (λ t. t.coefficient < p) (with_term p t f)
  unfolding with_term
  with_term_residues t [] some r = led_residues t.coefficient t.key [] some tt
  with_term_residues t (u ∷ f) some r =
      go (compare_words t.key u.key) (with_term_residues t f some r.1)
    where
      go : (o : Ordering) → AllByRecursion (λ t. t.coefficient < p) (with_term p t f)
          → AllByRecursion (λ t. t.coefficient < p) (placed p t u f (with_term p t f) o)
      go Less h = (r.0, h)
      go Equal h = led_residues (t.coefficient + u.coefficient) u.key f some r.1
      go Greater h = led_residues t.coefficient t.key (u ∷ f) some r

  with_term_same : (t : Term Word) (f : Polynomial) (x : Word)
      → coefficient (with_term p t f) x % p ≡ coefficient (t ∷ f) x % p
  unfolding with_term
  with_term_same t [] x = led_same t.coefficient t.key [] x
  with_term_same t (u ∷ f) x =
      go (compare_words t.key u.key) (words_compare t.key u.key) (with_term_same t f x)
    where
      at : Word → ℕ
      at w = is_at same_word x w

      go : (o : Ordering) → MatchOrdering o (IsWordLess t.key u.key) (t.key ≡ u.key)
          (IsWordLess u.key t.key) → coefficient (with_term p t f) x % p ≡ coefficient (t ∷ f) x % p
          → coefficient (placed p t u f (with_term p t f) o) x % p ≡ coefficient (t ∷ u ∷ f) x % p
      go Less m h =
          add-mod (u.coefficient * is_at same_word x u.key) (coefficient (with_term p t f) x) p
          ∙ (ap (λ n. ((u.coefficient * is_at same_word x u.key) % p + n) % p) h
          ∙ (sym (add-mod (u.coefficient * is_at same_word x u.key) (coefficient (t ∷ f) x) p)
          ∙ ap (λ n. n % p) (omega arith)))
      go Equal m h =
          led_same (t.coefficient + u.coefficient) u.key f x
          ∙ ap (λ n. n % p) (let e : is_at same_word x t.key ≡ is_at same_word x
          u.key = ap (is_at same_word x) m in omega (arith, ap (λ n. t.coefficient * n) e))
      go Greater m h = led_same t.coefficient t.key (u ∷ f) x

  pub normal_form_descends : (f : Polynomial) → IsDescending (normal_form p f)
  unfolding normal_form
  normal_form_descends [] = tt
  normal_form_descends (t ∷ f) = with_term_descends t (normal_form p f) (normal_form_descends f)

  normal_form_residues : (f : Polynomial) → 0 < p
      → AllByRecursion (λ t. t.coefficient < p) (normal_form p f)
  unfolding normal_form
  normal_form_residues [] some = tt
  normal_form_residues (t ∷ f) some =
      with_term_residues t (normal_form p f) some (normal_form_residues f some)

  normal_form_at : (f : Polynomial) (x : Word)
      → coefficient (normal_form p f) x % p ≡ coefficient f x % p
  unfolding normal_form
  normal_form_at [] x = refl
  normal_form_at (t ∷ f) x =
      with_term_same t (normal_form p f) x
      ∙ (add-mod (t.coefficient * is_at same_word x t.key) (coefficient (normal_form p f) x) p
      ∙ (ap (λ n. ((t.coefficient * is_at same_word x t.key) % p + n) % p) (normal_form_at f x)
      ∙ sym (add-mod (t.coefficient * is_at same_word x t.key) (coefficient f x) p)))

-- ---- the normal form lists no other words

module _ (P : Word → Type 0) (p : ℕ) where
  -- each listed word has the property
  abbrev pub AreListed : Polynomial → Type 0
  AreListed f = AllByRecursion (λ t. P t.key) f

  led_listed : (c : ℕ) (w : Word) (f : Polynomial) → P w → AreListed f → AreListed (led_by p c w f)
  led_listed c w f h a = go (nat_eq (c % p) 0)
    where
      go : (b : Bool) → AreListed (cond b f (record { coefficient = c % p; key = w } ∷ f))
      go true = a
      go false = (h, a)

  with_term_listed : (t : Term Word) (f : Polynomial) → P t.key → AreListed f
      → AreListed (with_term p t f)
  unfolding with_term
  with_term_listed t [] h a = led_listed t.coefficient t.key [] h tt
  with_term_listed t (u ∷ f) h a = go (compare_words t.key u.key) (with_term_listed t f h a.1)
    where
      go : (o : Ordering) → AreListed (with_term p t f)
          → AreListed (placed p t u f (with_term p t f) o)
      go Less b = (a.0, b)
      go Equal b = led_listed (t.coefficient + u.coefficient) u.key f a.0 a.1
      go Greater b = led_listed t.coefficient t.key (u ∷ f) h a

  pub normal_form_listed : (f : Polynomial) → AreListed f → AreListed (normal_form p f)
  unfolding normal_form
  normal_form_listed [] a = tt
  normal_form_listed (t ∷ f) a = with_term_listed t (normal_form p f) a.0 (normal_form_listed f a.1)

-- it is a normal form
pub normal_form_normal : (p : ℕ) (f : Polynomial) → 0 < p → IsNormal p (normal_form p f)
normal_form_normal p f some = (
  normal_form_descends p f,
  All-from_recursion (λ t. t.coefficient < p) (normal_form p f)
      (normal_form_residues p f some),
)

-- of the same polynomial
pub normal_form_same : (p : ℕ) (f : Polynomial) → SameSum same_word p (normal_form p f) f
normal_form_same p f = record { at = normal_form_at p f }

-- and the only one
pub normal_form_only : (p : ℕ) (f g : Polynomial) → 0 < p → IsNormal p g → SameSum same_word p g f
    → g ≡ normal_form p f
normal_form_only p f g some n e =
    normal_unique p g (normal_form p f) n (normal_form_normal p f some)
    (same-trans same_word p g f (normal_form p f) e
    (same-sym same_word p (normal_form p f) f (normal_form_same p f)))

-- a normal form is its own
pub normal_form-normal : (p : ℕ) (f : Polynomial) → 0 < p → IsNormal p f → normal_form p f ≡ f
normal_form-normal p f some n = sym (normal_form_only p f f some n (same-refl same_word p f))

-- equal polynomials have one normal form
pub normal_form_equal : (p : ℕ) (f g : Polynomial) → 0 < p → SameSum same_word p f g
    → normal_form p f ≡ normal_form p g
normal_form_equal p f g some e =
    normal_form_only p g (normal_form p f) some (normal_form_normal p f some)
    (same-trans same_word p (normal_form p f) f g (normal_form_same p f) e)
