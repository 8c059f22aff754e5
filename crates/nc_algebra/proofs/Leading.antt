-- The leading word that is computed is the greatest one.
-- `lead_leads` says so of each polynomial that is not zero, and `leading_greatest` of all; for a
-- normal form it is the first word (`leading-normal`).
use Rattle.nc_algebra.proofs.NormalForms.{normal_leads}
use Rattle.nc_algebra.proofs.Sums.{at_other, key_dec, lead_unique, top, zero_number}
use Rattle.nc_algebra.proofs.Words.{not_below_empty, word_laws, word_less_complete, word_less_sound, word_total, word_trans}
use Rattle.nc_algebra.specs.Laws.{LeadingIsGreatest}
use Rattle.nc_algebra.specs.Polynomials.{IsNormal, Polynomial, coefficient, leading, leading_among}
use Rattle.nc_algebra.specs.Primes.{IsZero}
use Rattle.nc_algebra.specs.Sums.{IsLeadingKey, Term}
use Rattle.nc_algebra.specs.Words.{IsWordLess, Word, compare_words, same_word}
use Rattle.std.proofs.Common.{◌≡◌, ℕ, ◌*◌, ◌%◌, ◌<◌, ◌⊎◌, ◌≢◌, Bool, true, false, is_lt, nat_eq, [], ◌∷◌, refl, sym, ap, ◌∙◌, subst, inl, inr, arith}
use Rattle.std.proofs.lemmas.List.Elements.{recursion_from_All}
use Rattle.std.proofs.lemmas.Bool.{false≢true, eq-eqb, eqb-true}

Occurs : Word → Polynomial → Type 0
Occurs x [] = ⊥
Occurs x (t ∷ f) = (x ≡ t.key) ⊎ Occurs x f

occurs : (p : ℕ) (f : Polynomial) (x : Word) → ¬ IsZero p (coefficient f x) → Occurs x f
unfolding Occurs
occurs p [] x n = absurd (n (zero_number p))
occurs p (t ∷ f) x n = go (key_dec same_word IsWordLess word_laws x t.key) (occurs p f x)
  where
    go : (x ≡ t.key) ⊎ (x ≢ t.key) → (¬ IsZero p (coefficient f x) → Occurs x f) → Occurs x (t ∷ f)
    go (inl e) h = inl e
    go (inr d) h =
        inr (h (λ z. n (subst (IsZero p)
        (sym (omega (
          arith,
          ap (λ m. t.coefficient * m)
              (at_other same_word IsWordLess word_laws x t.key d),
        ))) z)))

abbrev IsAtMost : Word → Word → Type 0
IsAtMost x y = (x ≡ y) ⊎ IsWordLess x y

among_most : (p : ℕ) (f g : Polynomial) (x : Word) → ¬ IsZero p (coefficient f x) → Occurs x g
    → IsAtMost x (leading_among p f g)
unfolding Occurs
among_most p f [] x n o = absurd o
among_most p f (t ∷ g) x n o =
    go (nat_eq (coefficient f t.key % p) 0) refl (is_lt (compare_words t.key (leading_among p f g)))
    refl o (among_most p f g x n)
  where
    last : is_lt (compare_words t.key (leading_among p f g)) ≡ false
        → IsAtMost x (leading_among p f g) → IsWordLess t.key (leading_among p f g)
        ⊎ ((t.key ≡ leading_among p f g) ⊎ IsWordLess (leading_among p f g) t.key)
        → IsAtMost x t.key
    last d k (inl l) =
        absurd (false≢true (sym d ∙ word_less_complete t.key (leading_among p f g) l))
    last d k (inr (inl e)) = subst (IsAtMost x) (sym e) k
    last d (inl e) (inr (inr l)) = inr (subst (λ y. IsWordLess y t.key) (sym e) l)
    last d (inr h) (inr (inr l)) = inr (word_trans x (leading_among p f g) t.key h l)

    go : (b : Bool) → nat_eq (coefficient f t.key % p) 0 ≡ b → (c : Bool)
        → is_lt (compare_words t.key (leading_among p f g)) ≡ c → (x ≡ t.key) ⊎ Occurs x g
        → (Occurs x g → IsAtMost x (leading_among p f g)) → IsAtMost x (leading_among p f (t ∷ g))
    go true e c d (inl i) h =
        absurd (n (subst (λ y. IsZero p (coefficient f y)) (sym i)
        (eqb-true (coefficient f t.key % p) 0 e)))
    go true e c d (inr k) h = rw e (h k)
    go false e true d (inl i) h =
        rw (e, d) (inr (subst (λ y. IsWordLess y (leading_among p f g)) (sym i)
        (word_less_sound t.key (leading_among p f g) d)))
    go false e true d (inr k) h = rw (e, d) (h k)
    go false e false d (inl i) h = rw (e, d) (inl i)
    go false e false d (inr k) h = rw (e, d) (last d (h k) (word_total t.key (leading_among p f g)))

among_counts : (p : ℕ) (f g : Polynomial) → (leading_among p f g ≡ [])
    ⊎ ¬ IsZero p (coefficient f (leading_among p f g))
among_counts p f [] = inl refl
among_counts p f (t ∷ g) =
    go (nat_eq (coefficient f t.key % p) 0) refl (is_lt (compare_words t.key (leading_among p f g)))
    refl (among_counts p f g)
  where
    Goal : Word → Type 0
    Goal w = (w ≡ []) ⊎ ¬ IsZero p (coefficient f w)

    go : (b : Bool) → nat_eq (coefficient f t.key % p) 0 ≡ b → (c : Bool)
        → is_lt (compare_words t.key (leading_among p f g)) ≡ c → (leading_among p f g ≡ [])
        ⊎ ¬ IsZero p (coefficient f (leading_among p f g)) → (leading_among p f (t ∷ g) ≡ [])
        ⊎ ¬ IsZero p (coefficient f (leading_among p f (t ∷ g)))
    go true e c d h = rw e h
    go false e true d h = rw (e, d) h
    go false e false d h =
        rw (e, d) (inr (λ z. false≢true (sym e ∙ eq-eqb (coefficient f t.key % p) 0 z)))

pub lead_leads : (p : ℕ) (f : Polynomial) → ¬ ((w : Word) → IsZero p (coefficient f w))
    → IsLeadingKey same_word IsWordLess p f (leading p f)
unfolding leading
lead_leads p f n = go (top same_word IsWordLess word_laws p f)
  where
    place : (k : Word) → IsLeadingKey same_word IsWordLess p f k → IsAtMost k (leading_among p f f)
        → (leading_among p f f ≡ []) ⊎ ¬ IsZero p (coefficient f (leading_among p f f))
        → IsLeadingKey same_word IsWordLess p f (leading_among p f f)
    place k d (inl e) o = subst (IsLeadingKey same_word IsWordLess p f) e d
    place k d (inr h) (inl e) = absurd (not_below_empty k (subst (IsWordLess k) e h))
    place k d (inr h) (inr m) = absurd (m (d.above (leading_among p f f) h))

    go : ((w : Word) → IsZero p (coefficient f w))
        ⊎ ((k : Word) × IsLeadingKey same_word IsWordLess p f k)
        → IsLeadingKey same_word IsWordLess p f (leading_among p f f)
    go (inl z) = absurd (n z)
    go (inr (k, d)) =
        place k d (among_most p f f k d.nonzero (occurs p f k d.nonzero)) (among_counts p f f)

-- the leading word is the greatest one that counts, and empty where there is none
pub leading_greatest : (p : ℕ) (f : Polynomial) → LeadingIsGreatest p f
unfolding leading
leading_greatest p f =
    record { counts = λ w n. (leads w n).nonzero; greatest = greatest; none = none }
  where
    leads : (w : Word) → ¬ IsZero p (coefficient f w)
        → IsLeadingKey same_word IsWordLess p f (leading p f)
    leads w n = lead_leads p f (λ z. n (z w))

    greatest : (w : Word) → ¬ IsZero p (coefficient f w) → IsAtMost w (leading p f)
    greatest w n = go (word_total w (leading p f))
      where
        go : IsWordLess w (leading p f) ⊎ ((w ≡ leading p f) ⊎ IsWordLess (leading p f) w)
            → IsAtMost w (leading p f)
        go (inl l) = inr l
        go (inr (inl e)) = inl e
        go (inr (inr l)) = absurd (n ((leads w n).above w l))

    none : ((w : Word) → IsZero p (coefficient f w)) → leading p f ≡ []
    none z = go (among_counts p f f)
      where
        go : (leading p f ≡ []) ⊎ ¬ IsZero p (coefficient f (leading p f)) → leading p f ≡ []
        go (inl e) = e
        go (inr m) = absurd (m (z (leading p f)))

-- the leading word of a normal form is its first word
pub leading-normal : (p : ℕ) (t : Term Word) (f : Polynomial) → IsNormal p (t ∷ f)
    → leading p (t ∷ f) ≡ t.key
leading-normal p t f n =
    lead_unique same_word IsWordLess word_laws p (t ∷ f) (leading p (t ∷ f)) t.key
    (lead_leads p (t ∷ f) (λ z. first.nonzero (z t.key))) first
  where
    first : IsLeadingKey same_word IsWordLess p (t ∷ f) t.key
    first = normal_leads p t f n.0 (recursion_from_All (λ u. u.coefficient < p) (t ∷ f) n.1).0
