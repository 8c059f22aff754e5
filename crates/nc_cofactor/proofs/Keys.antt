-- Terms whose keys descend: what a coefficient is, and where the keys of an equal sum come from.
-- What holds of the keys of a sum holds of those of an equal one that descends (`keys_kept`). Two
-- such lists of residues other than zero with the same sum have the same leading term, hence are
-- one list (`one_list`).
use Rattle.nc_algebra.proofs.Orders.{KeyLaws}
use Rattle.nc_algebra.proofs.Sums.{at_other, at_self, key_dec, lead_unique, zero_number}
use Rattle.nc_algebra.specs.Lists.{Among}
use Rattle.nc_algebra.specs.Primes.{IsZero}
use Rattle.nc_algebra.specs.Sums.{IsLeadingKey, SameSum, Term, coefficient_by}
use Rattle.nc_poly.specs.Ordered.{AllBelow, Descends}
use Rattle.std.proofs.Common.{Less, List, Ordering, [], ap, ap₂, arith, inl, inr, refl, subst, sym, ℕ, ◌%◌, ◌*◌, ◌<◌, ◌∙◌, ◌∷◌, ◌≡◌, ◌≢◌, ◌⊎◌}
use Rattle.std.proofs.Math.Nat.{mod-eq_of_lt}
use Rattle.std.specs.List.{AllByRecursion}
use Rattle.std.specs.Ordering.{eq_by_cmp}

-- what holds of each element
pub all_among : {X : Type 0} (P : X → Type 0) (xs : List X) → AllByRecursion P xs → (x : X)
    → Among x xs → P x
all_among P [] a x h = absurd h
all_among P (y ∷ ys) a x (inl e) = subst P (sym e) a.0
all_among P (y ∷ ys) a x (inr h) = all_among P ys a.1 x h

pub among_all : {X : Type 0} (P : X → Type 0) (xs : List X) → ((x : X) → Among x xs → P x)
    → AllByRecursion P xs
among_all P [] h = tt
among_all P (y ∷ ys) h = (h y (inl refl), among_all P ys (λ x k. h x (inr k)))

module _ {K : Type 0} (cmp : K → K → Ordering)
    (laws : KeyLaws (eq_by_cmp cmp) (λ x y. cmp x y ≡ Less)) where
  pub below_among : (k : K) (f : List (Term K)) (t : Term K) → AllBelow cmp k f → Among t f
      → cmp t.key k ≡ Less
  below_among k [] t b h = absurd h
  below_among k (x ∷ f) t b (inl e) = subst (λ (y : Term K). cmp y.key k ≡ Less) (sym e) b.0
  below_among k (x ∷ f) t b (inr h) = below_among k f t b.1 h

  -- greater keys have the coefficient 0
  absent : (k : K) (f : List (Term K)) → AllBelow cmp k f → coefficient_by (eq_by_cmp cmp) f k ≡ 0
  absent k [] b = refl
  absent k (x ∷ f) b =
      let n : k ≢ x.key = λ e. laws.irrefl k (subst (λ y. cmp y k ≡ Less) (sym e) b.0) in
      omega (
        arith,
        ap (λ n. x.coefficient * n)
            (at_other (eq_by_cmp cmp) (λ x y. cmp x y ≡ Less) laws k x.key n),
        absent k f b.1,
      )

  -- a listed term has its coefficient
  pub own : (f : List (Term K)) → Descends cmp f → (t : Term K) → Among t f
      → coefficient_by (eq_by_cmp cmp) f t.key ≡ t.coefficient
  own [] d t h = absurd h
  own (x ∷ f) d t (inl e) =
      subst (λ (y : Term K). coefficient_by (eq_by_cmp cmp) (x ∷ f) y.key ≡ y.coefficient) (sym e)
      (omega (
        arith,
        ap (λ n. x.coefficient * n)
            (at_self (eq_by_cmp cmp) (λ x y. cmp x y ≡ Less) laws x.key),
        absent x.key f d.1,
      ))
  own (x ∷ f) d t (inr h) =
      let n : t.key ≢ x.key =
      λ e. laws.irrefl x.key (subst (λ y. cmp y x.key ≡ Less) e (below_among x.key f t d.1 h))
      in
      omega (
        arith,
        ap (λ n. x.coefficient * n)
            (at_other (eq_by_cmp cmp) (λ x y. cmp x y ≡ Less) laws t.key x.key n),
        own f d.2 t h,
      )

  pub positive : (f : List (Term K)) → Descends cmp f → (t : Term K) → Among t f → 0 < t.coefficient
  positive [] d t h = absurd h
  positive (x ∷ f) d t (inl e) = subst (λ (y : Term K). 0 < y.coefficient) (sym e) d.0
  positive (x ∷ f) d t (inr h) = positive f d.2 t h

  -- a key with a coefficient is listed
  pub found : (P : K → Type 0) (p : ℕ) (f : List (Term K)) → AllByRecursion (λ t. P t.key) f
      → (k : K) → ¬ IsZero p (coefficient_by (eq_by_cmp cmp) f k) → P k
  found P p [] a k n = absurd (n (zero_number p))
  found P p (x ∷ f) a k n =
      go (found P p f a.1 k) (key_dec (eq_by_cmp cmp) (λ x y. cmp x y ≡ Less) laws k x.key)
    where
      go : (¬ IsZero p (coefficient_by (eq_by_cmp cmp) f k) → P k) → (k ≡ x.key) ⊎ (k ≢ x.key) → P k
      go rest (inl e) = subst P (sym e) a.0
      go rest (inr d) =
          rest (λ z. n (subst (IsZero p)
          (omega (
            arith,
            ap (λ n. x.coefficient * n)
                (at_other (eq_by_cmp cmp) (λ x y. cmp x y ≡ Less) laws k x.key d),
          )) z))

  -- a listed term of residues has a coefficient other than 0
  pub listed_nonzero : (p : ℕ) (f : List (Term K)) → Descends cmp f
      → AllByRecursion (λ t. t.coefficient < p) f → (t : Term K) → Among t f
      → ¬ IsZero p (coefficient_by (eq_by_cmp cmp) f t.key)
  listed_nonzero p f d small t h z =
      let one : t.coefficient % p ≡ t.coefficient =
      mod-eq_of_lt (all_among (λ (y : Term K). y.coefficient < p) f small t h) in
      omega (arith, one, ap (λ n. n % p) (own f d t h), z, positive f d t h)

  -- what holds of the keys of a sum holds of those of an equal one
  pub keys_kept : (P : K → Type 0) (p : ℕ) (src new : List (Term K))
      → AllByRecursion (λ t. P t.key) src → SameSum (eq_by_cmp cmp) p new src → Descends cmp new
      → AllByRecursion (λ t. t.coefficient < p) new → AllByRecursion (λ t. P t.key) new
  keys_kept P p src new a e d small =
      among_all (λ (t : Term K). P t.key) new
      (λ t h. found P p src a t.key (λ z. listed_nonzero p new d small t h (e.at t.key ∙ z)))

  -- ---- one list

  all_below : (k x : K) (f : List (Term K)) → cmp k x ≡ Less → AllBelow cmp k f → AllBelow cmp x f
  all_below k x [] l b = tt
  all_below k x (t ∷ f) l b = (laws.trans t.key k x b.0 l, all_below k x f l b.1)

  pub rest_at : (t : Term K) (f : List (Term K)) (x : K) → x ≢ t.key
      → coefficient_by (eq_by_cmp cmp) (t ∷ f) x ≡ coefficient_by (eq_by_cmp cmp) f x
  rest_at t f x n =
      omega (
        arith,
        ap (λ i. t.coefficient * i)
            (at_other (eq_by_cmp cmp) (λ x y. cmp x y ≡ Less) laws x t.key n),
      )

  first_leads : (p : ℕ) (t : Term K) (f : List (Term K)) → Descends cmp (t ∷ f)
      → AllByRecursion (λ t. t.coefficient < p) (t ∷ f)
      → IsLeadingKey (eq_by_cmp cmp) (λ x y. cmp x y ≡ Less) p (t ∷ f) t.key
  first_leads p t f d small = record {
    nonzero = listed_nonzero p (t ∷ f) d small t (inl refl);
    above = λ x l. subst (IsZero p) (sym (absent x (t ∷ f) (l, all_below t.key x f l d.1)))
        (zero_number p);
  }

  -- lists whose keys descend, of residues other than 0 and with the same sum, are one
  pub one_list : (p : ℕ) (f g : List (Term K)) → Descends cmp f
      → AllByRecursion (λ t. t.coefficient < p) f → Descends cmp g
      → AllByRecursion (λ t. t.coefficient < p) g → SameSum (eq_by_cmp cmp) p f g → f ≡ g
  one_list p [] [] d a c b e = refl
  one_list p [] (u ∷ g) d a c b e =
      absurd (listed_nonzero p (u ∷ g) c b u (inl refl) (sym (e.at u.key) ∙ zero_number p))
  one_list p (t ∷ f) [] d a c b e =
      absurd (listed_nonzero p (t ∷ f) d a t (inl refl) (e.at t.key ∙ zero_number p))
  one_list p (t ∷ f) (u ∷ g) d a c b e =
      ap₂ (λ x y. x ∷ y) term (one_list p f g d.2 a.1 c.2 b.1
      (record {
        at = λ x. rest x (key_dec (eq_by_cmp cmp) (λ x y. cmp x y ≡ Less) laws x t.key);
      }))
    where
      moved : IsLeadingKey (eq_by_cmp cmp) (λ x y. cmp x y ≡ Less) p (u ∷ g) t.key
      moved = record {
        nonzero = λ z. (first_leads p t f d a).nonzero (e.at t.key ∙ z);
        above = λ x l. sym (e.at x) ∙ (first_leads p t f d a).above x l;
      }

      keys : t.key ≡ u.key
      keys = lead_unique (eq_by_cmp cmp) (λ x y. cmp x y ≡ Less) laws p (u ∷ g) t.key u.key moved
          (first_leads p u g c b)

      coefficients : t.coefficient ≡ u.coefficient
      coefficients =
          sym (mod-eq_of_lt a.0) ∙ (ap (λ n. n % p) (sym (own (t ∷ f) d t (inl refl)))
          ∙ (e.at t.key ∙ (ap (λ x. coefficient_by (eq_by_cmp cmp) (u ∷ g) x % p) keys
          ∙ (ap (λ n. n % p) (own (u ∷ g) c u (inl refl)) ∙ mod-eq_of_lt b.0))))

      term : t ≡ u
      term = λ i. record { coefficient = coefficients i; key = keys i }

      rest : (x : K) → (x ≡ t.key) ⊎ (x ≢ t.key)
          → coefficient_by (eq_by_cmp cmp) f x % p ≡ coefficient_by (eq_by_cmp cmp) g x % p
      rest x (inl i) =
          ap (λ n. n % p) (ap (coefficient_by (eq_by_cmp cmp) f) i
          ∙ (absent t.key f d.1 ∙ sym (ap (coefficient_by (eq_by_cmp cmp) g) (i ∙ keys)
          ∙ absent u.key g c.1)))
      rest x (inr n) =
          ap (λ i. i % p) (sym (rest_at t f x n))
          ∙ (e.at x ∙ ap (λ i. i % p) (rest_at u g x (λ i. n (i ∙ sym keys))))
