-- Collecting terms with one word gives the normal form.
-- The proof uses uniqueness and does not follow the definition. Carrying keeps each coefficient
-- modulo p (`carried_at`), dropping zeros keeps them too (`filter_at`), and a permutation is the
-- same sum. Where two neighbours have different words, these descend strictly; where they have one
-- word, the first of the two is dropped (`descends`). So the result is a normal form of the same
-- polynomial, and there is only one (`collected_is`).
use Rattle.nc_algebra.proofs.Lists.{same-permutation}
use Rattle.nc_algebra.proofs.NormalForms.{normal_form_only, positive, scaled}
use Rattle.nc_algebra.proofs.Words.{word_laws, word_trans}
use Rattle.nc_algebra.specs.Polynomials.{AllLess, AreResidues, IsDescending, IsNormal, Polynomial, coefficient, normal_form}
use Rattle.nc_algebra.specs.Sums.{Term, is_at}
use Rattle.nc_algebra.specs.Words.{IsWordLess, Word, same_word}
use Rattle.nc_poly.specs.Collecting.{AllUpTo, IsFalling, carried_behind, collected, gained, has_coefficient, left_of}
use Rattle.std.proofs.Common.{Bool, [], ap, arith, cond, false, inl, inr, nat_eq, not, refl, subst, sym, true, ℕ, ◌%◌, ◌*◌, ◌+◌, ◌<◌, ◌∙◌, ◌∷◌, ◌≡◌, ◌⊎◌}
use Rattle.std.proofs.Math.Nat.{add-mod, mod-lt}
use Rattle.std.proofs.lemmas.Bool.{eqb-true, false≢true}
use Rattle.std.proofs.lemmas.List.Elements.{All-filter, All-from_recursion, recursion_from_All}
use Rattle.std.proofs.lemmas.List.Sorted.{All-permutation, length_permutation}
use Rattle.std.specs.List.{AllByRecursion, filter}
use Rattle.std.specs.List.Sorted.{IsPermutation}

-- ---- what is carried on

abbrev IsUpTo : Word → Word → Type 0
IsUpTo w v = (w ≡ v) ⊎ IsWordLess w v

gained_key : (p : ℕ) (t u : Term Word) → (gained p t u).key ≡ u.key
gained_key p t u = go (same_word t.key u.key)
  where
    go : (b : Bool) → (cond b (record {
      coefficient = (t.coefficient + u.coefficient) % p;
      key = u.key;
    }) u).key ≡ u.key
    go true = refl
    go false = refl

left_key : (t u : Term Word) → (left_of t u).key ≡ t.key
left_key t u = go (same_word t.key u.key)
  where
    go : (b : Bool) → (cond b (record { coefficient = 0; key = t.key }) t).key ≡ t.key
    go true = refl
    go false = refl

carried_up_to : (p : ℕ) (w : Word) (t : Term Word) (f : Polynomial) → IsUpTo t.key w → AllUpTo w f
    → AllUpTo w (carried_behind p t f)
carried_up_to p w t [] h a = (h, tt)
carried_up_to p w t (u ∷ f) h a = (
  subst (λ v. IsUpTo v w) (sym (left_key t u)) h,
  carried_up_to p w (gained p t u) f (subst (λ v. IsUpTo v w) (sym (gained_key p t u)) a.0) a.1,
)

-- the sum stays
pair_same : (p : ℕ) (t u : Term Word) (s : ℕ) (x : Word)
    → ((left_of t u).coefficient * is_at same_word x (left_of t u).key
    + ((gained p t u).coefficient * is_at same_word x (gained p t u).key + s))
    % p ≡ (t.coefficient * is_at same_word x t.key + (u.coefficient * is_at same_word x u.key + s))
    % p
pair_same p t u s x = go (same_word t.key u.key) refl
  where
    at : Word → ℕ
    at w = is_at same_word x w

    go : (b : Bool) → same_word t.key u.key ≡ b
        → ((cond b (record { coefficient = 0; key = t.key }) t).coefficient * is_at same_word x
        (cond b (record { coefficient = 0; key = t.key }) t).key
        + ((cond b (record { coefficient = (t.coefficient + u.coefficient) % p; key = u.key })
        u).coefficient * is_at same_word x
        (cond b (record { coefficient = (t.coefficient + u.coefficient) % p; key = u.key })
        u).key + s)) % p ≡ (t.coefficient * is_at same_word x t.key
        + (u.coefficient * is_at same_word x u.key + s)) % p
    go false e = refl
    go true e =
        let keys : is_at same_word x t.key ≡ is_at same_word x u.key =
        ap (is_at same_word x) (word_laws.same_eq t.key u.key e) in
        ap (λ n. n % p) (omega arith) ∙ (scaled p (t.coefficient + u.coefficient)
        (is_at same_word x u.key) s ∙ ap (λ n. n % p)
        (omega (arith, ap (λ n. t.coefficient * n) keys)))

carried_at : (p : ℕ) (t : Term Word) (f : Polynomial) (x : Word)
    → coefficient (carried_behind p t f) x % p ≡ coefficient (t ∷ f) x % p
carried_at p t [] x = refl
carried_at p t (u ∷ f) x =
    add-mod ((left_of t u).coefficient * is_at same_word x (left_of t u).key)
    (coefficient (carried_behind p (gained p t u) f) x) p
    ∙ (ap (λ n. (((left_of t u).coefficient * is_at same_word x (left_of t u).key) % p + n) % p)
    (carried_at p (gained p t u) f x)
    ∙ (sym (add-mod ((left_of t u).coefficient * is_at same_word x (left_of t u).key)
    (coefficient (gained p t u ∷ f) x) p) ∙ pair_same p t u (coefficient f x) x))

-- and coefficients stay residues
left_residue : (p : ℕ) (t u : Term Word) → t.coefficient < p → (left_of t u).coefficient < p
left_residue p t u h = go (same_word t.key u.key)
  where
    go : (b : Bool) → (cond b (record { coefficient = 0; key = t.key }) t).coefficient < p
    go true = omega arith
    go false = h

gained_residue : (p : ℕ) (t u : Term Word) → t.coefficient < p → u.coefficient < p
    → (gained p t u).coefficient < p
gained_residue p t u h k = go (same_word t.key u.key)
  where
    go : (b : Bool) → (cond b (record {
      coefficient = (t.coefficient + u.coefficient) % p;
      key = u.key;
    }) u).coefficient < p
    go true = mod-lt (t.coefficient + u.coefficient) (omega arith)
    go false = k

carried_residues : (p : ℕ) (t : Term Word) (f : Polynomial) → t.coefficient < p
    → AllByRecursion (λ u. u.coefficient < p) f
    → AllByRecursion (λ u. u.coefficient < p) (carried_behind p t f)
carried_residues p t [] h a = (h, tt)
carried_residues p t (u ∷ f) h a =
    (left_residue p t u h, carried_residues p (gained p t u) f (gained_residue p t u h a.0) a.1)

-- ---- what has a coefficient

filter_at : (f : Polynomial) (x : Word) → coefficient (filter has_coefficient f) x ≡ coefficient f x
filter_at [] x = refl
filter_at (t ∷ f) x = go (nat_eq t.coefficient 0) refl (filter_at f x)
  where
    go : (b : Bool) → nat_eq t.coefficient 0 ≡ b
        → coefficient (filter has_coefficient f) x ≡ coefficient f x
        → coefficient (cond (not b) (t ∷ filter has_coefficient f) (filter has_coefficient f)) x
        ≡ coefficient (t ∷ f) x
    go true e h =
        let z : t.coefficient ≡ 0 =
        eqb-true t.coefficient 0 e in omega (arith, h, ap (λ n. n * is_at same_word x t.key) z)
    go false e h = omega (arith, h)

filter_less : (w v : Word) (f : Polynomial) → IsWordLess w v → AllUpTo w f
    → AllLess v (filter has_coefficient f)
filter_less w v [] l a = tt
filter_less w v (t ∷ f) l a = go (nat_eq t.coefficient 0) (filter_less w v f l a.1)
  where
    first : IsUpTo t.key w → IsWordLess t.key v
    first (inl e) = subst (λ y. IsWordLess y v) (sym e) l
    first (inr m) = word_trans t.key w v m l

    go : (b : Bool) → AllLess v (filter has_coefficient f)
        → AllLess v (cond (not b) (t ∷ filter has_coefficient f) (filter has_coefficient f))
    go true h = h
    go false h = (first a.0, h)

descends : (p : ℕ) (t : Term Word) (f : Polynomial) → IsFalling (t ∷ f)
    → IsDescending (filter has_coefficient (carried_behind p t f))
descends p t [] h = go (nat_eq t.coefficient 0) refl
  where
    go : (b : Bool) → nat_eq t.coefficient 0 ≡ b → IsDescending (cond (not b) (t ∷ []) [])
    go true e = tt
    go false e = (positive t.coefficient e, tt, tt)
descends p t (u ∷ f) h =
    go (same_word t.key u.key) refl
    (descends p (gained p t u) f (subst (λ w. AllUpTo w f) (sym (gained_key p t u)) h.1.0, h.1.1))
    (carried_up_to p u.key (gained p t u) f (inl (gained_key p t u)) h.1.0)
  where
    less : same_word t.key u.key ≡ false → IsUpTo u.key t.key → IsWordLess u.key t.key
    less e (inl i) =
        absurd (false≢true (sym e ∙ subst (λ w. same_word t.key w ≡ true) (sym i)
        (word_laws.same_refl t.key)))
    less e (inr l) = l

    last : (b : Bool) → nat_eq t.coefficient 0 ≡ b → IsWordLess u.key t.key → (rest : Polynomial)
        → AllLess t.key rest → IsDescending rest → IsDescending (cond (not b) (t ∷ rest) rest)
    last true e l rest a d = d
    last false e l rest a d = (positive t.coefficient e, a, d)

    go : (b : Bool) → same_word t.key u.key ≡ b
        → IsDescending (filter has_coefficient (carried_behind p (gained p t u) f))
        → AllUpTo u.key (carried_behind p (gained p t u) f)
        → IsDescending (filter has_coefficient
        (cond b (record { coefficient = 0; key = t.key }) t ∷ carried_behind p (gained p t u) f))
    go true e d a = d
    go false e d a =
        last (nat_eq t.coefficient 0) refl (less e h.0.0)
        (filter has_coefficient (carried_behind p (gained p t u) f))
        (filter_less u.key t.key (carried_behind p (gained p t u) f) (less e h.0.0) a) d

-- ---- collecting

collected_at : (p : ℕ) (f : Polynomial) (x : Word)
    → coefficient (collected p f) x % p ≡ coefficient f x % p
collected_at p [] x = refl
collected_at p (t ∷ f) x = ap (λ n. n % p) (filter_at (carried_behind p t f) x) ∙ carried_at p t f x

collected_normal : (p : ℕ) (f : Polynomial) → IsFalling f
    → AllByRecursion (λ t. t.coefficient < p) f → IsNormal p (collected p f)
collected_normal p [] h a = (tt, All-from_recursion (λ t. t.coefficient < p) [] tt)
collected_normal p (t ∷ f) h a = (
  descends p t f h,
  All-filter has_coefficient (λ t. t.coefficient < p) (carried_behind p t f)
      (All-from_recursion (λ t. t.coefficient < p) (carried_behind p t f)
      (carried_residues p t f a.0 a.1)),
)

-- sorted and collected, a list of terms is in normal form
pub collected_is : (p : ℕ) (f g : Polynomial) → AreResidues p f → IsPermutation f g → IsFalling g
    → collected p g ≡ normal_form p f
unfolding normal_form
collected_is p [] [] a h d = refl
collected_is p [] (t ∷ g) a h d = absurd (omega (arith, length_permutation [] (t ∷ g) h))
collected_is p (t ∷ f) g a h d =
    let small = (recursion_from_All (λ u. u.coefficient < p) (t ∷ f) a).0 in
    normal_form_only p (t ∷ f) (collected p g) (omega arith)
    (collected_normal p g d (recursion_from_All (λ u. u.coefficient < p) g
    (All-permutation (λ u. u.coefficient < p) (t ∷ f) g h a))) record
    { at = λ x. collected_at p g x ∙ sym ((same-permutation same_word p (t ∷ f) g h).at x) }
