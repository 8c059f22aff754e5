-- What a reduction keeps.
-- Each step takes the greatest word off whole (`take_off`). On it rest `kept_up` (nothing is kept
-- on a set of words that is closed upwards and on which the polynomial is zero), `kept_clear` (no
-- kept word has a divisor in the set), `kept_leads` (the first kept term leads) and `kept_less`
-- (all kept words are less than a leading word with a divisor in the set).
use Rattle.nc_algebra.proofs.Elements.{polynomial_times_coefficient, polynomial_times_leads}
use Rattle.nc_algebra.proofs.Leading.{lead_leads}
use Rattle.nc_algebra.proofs.Sums.{at_other, at_self, key_dec, lead_unique, zero_add, zero_from_same, zero_mul_left, zero_number, zero_rest}
use Rattle.nc_algebra.proofs.Words.{word_irrefl, word_laws, word_total, word_trans}
use Rattle.nc_algebra.specs.Elements.{IsLeadingWord, IsZeroPolynomial, Setting}
use Rattle.nc_algebra.specs.Monomials.{Monomial}
use Rattle.nc_algebra.specs.Polynomials.{Polynomial, coefficient, leading}
use Rattle.nc_algebra.specs.Primes.{IsField, IsZero}
use Rattle.nc_algebra.specs.Sums.{Term, is_at, minus}
use Rattle.nc_algebra.specs.Words.{IsWordLess, Word, same_word}
use Rattle.nc_theory.proofs.Chains.{coefficient_polynomial_minus, times_mod}
use Rattle.nc_theory.proofs.Relisted.{respelled}
use Rattle.nc_theory.specs.Divisors.{Divisor, multiple_at, signature_at}
use Rattle.nc_theory.specs.Reductions.{Reduction}
use Rattle.nc_theory.specs.States.{Entry, Step}
use Rattle.std.proofs.Common.{◌≡◌, ℕ, ◌-◌, ◌*◌, ◌%◌, ◌<◌, ◌⊎◌, ◌≢◌, List, [], ◌∷◌, refl, sym, ap, ◌∙◌, subst, inl, inr, arith, Contains}
use Rattle.std.proofs.Math.Nat.{mod-mod}

abbrev pub OnUp : (Word → Type 0) → Type 0
OnUp U = (x y : Word) → U x → IsWordLess x y → U y

abbrev pub From : Word → Word → Type 0
From w x = (x ≡ w) ⊎ IsWordLess w x

pub from_up : (w : Word) → OnUp (From w)
from_up w x y (inl e) l = inr (subst (λ z. IsWordLess z y) e l)
from_up w x y (inr h) l = inr (word_trans w x y h l)

module _ (s : Setting) (field : IsField s.prime) (entries : List Entry) (nonzero : (e : Entry)
    → Contains entries e → ¬ IsZeroPolynomial s e.polynomial) (set : Monomial → Type 0) where
  pub multiple_leads_at : (w : Word) (d : Divisor s entries w)
      → IsLeadingWord s (multiple_at s entries w d) w
  multiple_leads_at w d =
      subst (IsLeadingWord s (multiple_at s entries w d)) d.spells
      (polynomial_times_leads s d.left d.entry.polynomial d.right
      (leading s.prime d.entry.polynomial)
      (lead_leads s.prime d.entry.polynomial (nonzero d.entry d.listed)))

  positive : 0 < s.prime
  positive = omega (arith, field.above_one)

  -- a term by itself
  single_at : (c : ℕ) (w : Word) → coefficient (record { coefficient = c; key = w } ∷ []) w ≡ c
  single_at c w = omega (arith, ap (λ n. c * n) (at_self same_word IsWordLess word_laws w))

  single_whole : (c : ℕ) (w : Word) → c * is_at same_word w w ≡ c
  single_whole c w = omega (arith, ap (λ n. c * n) (at_self same_word IsWordLess word_laws w))

  single_other : (c : ℕ) (w y : Word) → y ≢ w → c * is_at same_word y w ≡ 0
  single_other c w y n =
      omega (arith, ap (λ n. c * n) (at_other same_word IsWordLess word_laws y w n))

  above_other : (w y : Word) → IsWordLess w y → y ≢ w
  above_other w y l e = word_irrefl w (subst (IsWordLess w) e l)

  pub single_over : (c : ℕ) (w : Word) → (x : Word) → IsWordLess w x
      → IsZero s.prime (coefficient (record { coefficient = c; key = w } ∷ []) x)
  single_over c w x l =
      subst (IsZero s.prime) (sym (omega (arith, single_other c w x (above_other w x l))))
      (zero_number s.prime)

  -- the greatest word is taken off whole
  pub take_off : (f : Polynomial) (w : Word) → IsLeadingWord s f w → (k : ℕ) (g : Polynomial)
      → ((x : Word) → IsWordLess w x → IsZero s.prime (coefficient g x))
      → k * coefficient g w % s.prime ≡ coefficient f w % s.prime → (x : Word) → From w x
      → IsZero s.prime (coefficient (minus s.prime f k g) x)
  take_off f w d k g over q x (inl i) =
      subst (λ y. IsZero s.prime (coefficient (minus s.prime f k g) y)) (sym i)
      (subst (IsZero s.prime) (sym (coefficient_polynomial_minus s f k g w ∙ omega arith))
      (zero_from_same s.prime (coefficient f w) (k * coefficient g w) positive (sym q)))
  take_off f w d k g over q x (inr l) =
      subst (IsZero s.prime) (sym (coefficient_polynomial_minus s f k g x))
      (zero_add s.prime (coefficient f x) ((s.prime - 1) * k * coefficient g x) (d.above x l)
      (zero_mul_left s.prime ((s.prime - 1) * k) (coefficient g x) (over x l)))

  pub subtract_whole : (f : Polynomial) (w : Word) (v : Divisor s entries w) (c : ℕ)
      → c * coefficient v.entry.polynomial (leading s.prime v.entry.polynomial) % s.prime
      ≡ coefficient f w % s.prime → c * coefficient (multiple_at s entries w v) w % s.prime
      ≡ coefficient f w % s.prime
  subtract_whole f w v c q =
      times_mod s.prime c (coefficient (multiple_at s entries w v) w)
      (coefficient v.entry.polynomial (leading s.prime v.entry.polynomial))
      (subst (λ x. coefficient (multiple_at s entries w v) x % s.prime ≡ coefficient
      v.entry.polynomial (leading s.prime v.entry.polynomial) % s.prime) v.spells
      (polynomial_times_coefficient s v.left v.entry.polynomial v.right
      (leading s.prime v.entry.polynomial))) ∙ q

  pub keep_whole : (f : Polynomial) (w : Word) (c : ℕ) → c ≡ coefficient f w % s.prime
      → 1 * coefficient (record { coefficient = c; key = w } ∷ []) w % s.prime ≡ coefficient f w
      % s.prime
  keep_whole f w c e =
      ap (λ n. n % s.prime) (omega (arith, single_at c w, e)) ∙ mod-mod (coefficient f w) s.prime

  -- where f has nothing, nothing comes up, since what is taken off begins at the greatest word of f
  off_up : (U : Word → Type 0) → OnUp U → (f : Polynomial) (w : Word) → IsLeadingWord s f w
      → (k : ℕ) (g : Polynomial) → ((x : Word) → IsWordLess w x → IsZero s.prime (coefficient g x))
      → ((x : Word) → U x → IsZero s.prime (coefficient f x)) → (x : Word) → U x
      → IsZero s.prime (coefficient (minus s.prime f k g) x)
  off_up U up f w d k g over h x u = go (word_total x w)
    where
      go : IsWordLess x w ⊎ ((x ≡ w) ⊎ IsWordLess w x)
          → IsZero s.prime (coefficient (minus s.prime f k g) x)
      go (inl l) = absurd (d.nonzero (h w (up x w u l)))
      go (inr (inl e)) = absurd (d.nonzero (h w (subst U e u)))
      go (inr (inr l)) =
          subst (IsZero s.prime) (sym (coefficient_polynomial_minus s f k g x))
          (zero_add s.prime (coefficient f x) ((s.prime - 1) * k * coefficient g x) (h x u)
          (zero_mul_left s.prime ((s.prime - 1) * k) (coefficient g x) (over x l)))

  -- where f has nothing on a set of words closed upwards, nothing is kept there
  pub kept_up : (U : Word → Type 0) → OnUp U → {f kept : Polynomial} {steps : List Step}
      → Reduction s entries set f kept steps → ((x : Word) → U x → IsZero s.prime (coefficient f x))
      → (x : Word) → U x → IsZero s.prime (coefficient kept x)
  kept_up U up (Reduction.finished n) h x u = zero_number s.prime
  kept_up U up (Reduction.subtract {f = f} w d v chosen c small q rest) h x u =
      kept_up U up rest (off_up U up f w d c (multiple_at s entries w v)
      (multiple_leads_at w v).above h) x u
  kept_up U up (Reduction.keep {f = f} {kept = kept} w d not_any c e rest) h x u =
      subst (IsZero s.prime) (sym (omega (arith, single_other c w x other)))
      (kept_up U up rest (off_up U up f w d 1 (record { coefficient = c; key = w } ∷ [])
      (single_over c w) h) x u)
    where
      other : x ≢ w
      other i = d.nonzero (h w (subst U i u))

  -- no kept word has a divisor in the set
  pub kept_clear : {f kept : Polynomial} {steps : List Step} → Reduction s entries set f kept steps
      → (x : Word) → ¬ IsZero s.prime (coefficient kept x) → (d : Divisor s entries x)
      → ¬ set (signature_at s entries x d)
  kept_clear (Reduction.finished n) x nz v a = nz (zero_number s.prime)
  kept_clear (Reduction.subtract w d v' chosen c small q rest) x nz v a = kept_clear rest x nz v a
  kept_clear (Reduction.keep {kept = kept} w d not_any c e rest) x nz v a =
      go (key_dec same_word IsWordLess word_laws x w) (kept_clear rest x)
    where
      go : (x ≡ w) ⊎ (x ≢ w) → (¬ IsZero s.prime (coefficient kept x) → (d : Divisor s entries x)
          → ¬ set (signature_at s entries x d)) → ⊥
      go (inl i) f =
          not_any (respelled v i) a
      go (inr n) f =
          f (λ z. nz (subst (IsZero s.prime) (sym (omega (arith, single_other c w x n))) z)) v a

  -- the first kept term leads
  pub kept_leads : {f kept : Polynomial} {steps : List Step} → Reduction s entries set f kept steps
      → (t : Term Word) (tail : Polynomial) → kept ≡ t ∷ tail → IsLeadingWord s (t ∷ tail) t.key
  kept_leads (Reduction.finished n) t tail i = let none : ⊥ = cc in absurd none
  kept_leads (Reduction.subtract w d v chosen c small q rest) t tail i = kept_leads rest t tail i
  kept_leads (Reduction.keep {f = f} {kept = kept} w d not_any c e rest) t tail i =
      subst (λ g. IsLeadingWord s g t.key) i
      (subst (IsLeadingWord s (record { coefficient = c; key = w } ∷ kept)) (cc) (record {
        nonzero =
            λ z. d.nonzero (sym (mod-mod (coefficient f w) s.prime)
            ∙ (ap (λ n. n % s.prime) (sym e) ∙ subst (IsZero s.prime) (single_whole c w)
            (zero_rest s.prime (coefficient kept w) (c * is_at same_word w w)
            (subst (IsZero s.prime) (omega arith) z) (low w (inl refl)))));
        above = λ x l. subst (IsZero s.prime)
            (sym (omega (arith, single_other c w x (above_other w x l)))) (low x (inr l));
      }))
    where
      low : (x : Word) → From w x → IsZero s.prime (coefficient kept x)
      low = kept_up (From w) (from_up w) rest
          (take_off f w d 1 (record { coefficient = c; key = w } ∷ []) (single_over c w)
          (keep_whole f w c e))

  -- where the greatest word has a divisor in the set, all that is kept is less
  pub kept_less : {f kept : Polynomial} {steps : List Step} → Reduction s entries set f kept steps
      → (w : Word) → IsLeadingWord s f w → (v : Divisor s entries w)
      → set (signature_at s entries w v) → (x : Word) → From w x
      → IsZero s.prime (coefficient kept x)
  kept_less (Reduction.finished n) w d v a x u = zero_number s.prime
  kept_less (Reduction.subtract {f = f} w' d' v' chosen c small q rest) w d v a x u =
      kept_up (From w) (from_up w) rest
      (λ y k. take_off f w' d' c (multiple_at s entries w' v') (multiple_leads_at w' v').above
      (subtract_whole f w' v' c q) y
      (subst (λ z. From z y) (lead_unique same_word IsWordLess word_laws s.prime f w w' d d') k))
      x u
  kept_less (Reduction.keep {f = f} w' d' not_any c e rest) w d v a x u =
      absurd (not_any
      (respelled v (lead_unique same_word IsWordLess word_laws s.prime f w w' d d')) a)

  -- a word kept after w is a word of the whole
  pub kept_tail : (f kept : Polynomial) (steps : List Step) (w : Word) → IsLeadingWord s f w
      → (c : ℕ) → c ≡ coefficient f w % s.prime
      → Reduction s entries set (minus s.prime f 1 (record { coefficient = c; key = w } ∷ [])) kept
      steps → (x : Word) → ¬ IsZero s.prime (coefficient kept x)
      → ¬ IsZero s.prime (coefficient (record { coefficient = c; key = w } ∷ kept) x)
  kept_tail f kept steps w d c e rest x nz z = go (key_dec same_word IsWordLess word_laws x w)
    where
      go : (x ≡ w) ⊎ (x ≢ w) → ⊥
      go (inl i) =
          nz (kept_up (From w) (from_up w) rest
          (take_off f w d 1 (record { coefficient = c; key = w } ∷ []) (single_over c w)
          (keep_whole f w c e)) x (inl i))
      go (inr n) = nz (subst (IsZero s.prime) (omega (arith, single_other c w x n)) z)
