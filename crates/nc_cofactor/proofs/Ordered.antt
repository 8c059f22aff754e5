-- Each list of terms has a normal form.
-- The greatest key with a coefficient comes first, and behind it the normal form of the other
-- terms. Their coefficients have a lesser sum, so this is an induction (`has_normal`).
use Rattle.nc_algebra.proofs.Orders.{KeyLaws}
use Rattle.nc_algebra.proofs.Sums.{below_lead, coef_without_other, coef_without_self, key_dec, linear_sum-without, top, without, zero_number}
use Rattle.nc_algebra.specs.Lists.{Among}
use Rattle.nc_algebra.specs.Primes.{IsZero}
use Rattle.nc_algebra.specs.Sums.{IsLeadingKey, SameSum, Term, coefficient_by, linear_sum}
use Rattle.nc_cofactor.proofs.Keys.{listed_nonzero, own, rest_at}
use Rattle.nc_poly.specs.Ordered.{AllBelow, Descends}
use Rattle.std.proofs.Common.{Less, List, Ordering, [], ap, arith, inl, inr, refl, subst, suc, sym, zero, ℕ, ◌%◌, ◌<◌, ◌∙◌, ◌∷◌, ◌≡◌, ◌≢◌, ◌⊎◌}
use Rattle.std.proofs.Math.Nat.{mod-lt, mod-mod}
use Rattle.std.specs.List.{AllByRecursion}
use Rattle.std.specs.Ordering.{eq_by_cmp}

module _ {K : Type 0} (cmp : K → K → Ordering)
    (laws : KeyLaws (eq_by_cmp cmp) (λ x y. cmp x y ≡ Less)) (p : ℕ) (some : 0 < p) where
  -- a list, and the same sum with keys that descend and residues other than 0
  pub record HasNormal (f : List (Term K)) : Type 0 where
    pub normal : List (Term K)
    pub same : SameSum (eq_by_cmp cmp) p normal f
    pub descends : Descends cmp normal
    pub residues : AllByRecursion (λ t. t.coefficient < p) normal

  -- the sum of all coefficients
  abbrev size : List (Term K) → ℕ
  size f = linear_sum (λ x. 1) f

  positive : (n : ℕ) → ¬ IsZero p n → 0 < n
  positive zero n = absurd (n (zero_number p))
  positive (suc m) n = omega arith

  -- it is less without a key that has a coefficient
  smaller : (k : K) (f : List (Term K)) → ¬ IsZero p (coefficient_by (eq_by_cmp cmp) f k)
      → size (without (eq_by_cmp cmp) k f) < size f
  smaller k f n =
      omega (
        arith,
        linear_sum-without (eq_by_cmp cmp) (λ x y. cmp x y ≡ Less) laws (λ x. 1) k f,
        positive (coefficient_by (eq_by_cmp cmp) f k) n,
      )

  below : (k : K) (f : List (Term K)) → ((t : Term K) → Among t f → cmp t.key k ≡ Less)
      → AllBelow cmp k f
  below k [] h = tt
  below k (t ∷ f) h = (h t (inl refl), below k f (λ u m. h u (inr m)))

  led : (f : List (Term K)) (k : K) → IsLeadingKey (eq_by_cmp cmp) (λ x y. cmp x y ≡ Less) p f k
      → HasNormal (without (eq_by_cmp cmp) k f) → HasNormal f
  led f k leads r =
      record {
        normal = new;
        same = record
            { at = λ x. at x (key_dec (eq_by_cmp cmp) (λ x y. cmp x y ≡ Less) laws x k) };
        descends = falls;
        residues = (mod-lt (coefficient_by (eq_by_cmp cmp) f k) some, r.residues);
      }
    where
      first : Term K
      first = record { coefficient = coefficient_by (eq_by_cmp cmp) f k % p; key = k }

      new : List (Term K)
      new = first ∷ r.normal

      leading : 0 < coefficient_by (eq_by_cmp cmp) f k % p
      leading =
          positive (coefficient_by (eq_by_cmp cmp) f k % p)
          (λ z. leads.nonzero (sym (mod-mod (coefficient_by (eq_by_cmp cmp) f k) p) ∙ z))

      lesser : (t : Term K) → Among t r.normal → cmp t.key k ≡ Less
      lesser t m = go (key_dec (eq_by_cmp cmp) (λ x y. cmp x y ≡ Less) laws t.key k)
        where
          counts : ¬ IsZero p (coefficient_by (eq_by_cmp cmp) (without (eq_by_cmp cmp) k f) t.key)
          counts z =
              listed_nonzero cmp laws p r.normal r.descends r.residues t m (r.same.at t.key ∙ z)

          under : (t.key ≡ k) ⊎ (cmp t.key k ≡ Less) → t.key ≢ k → cmp t.key k ≡ Less
          under (inl e) n = absurd (n e)
          under (inr l) n = l

          go : (t.key ≡ k) ⊎ (t.key ≢ k) → cmp t.key k ≡ Less
          go (inl e) =
              absurd (counts (subst (IsZero p)
              (sym (ap (coefficient_by (eq_by_cmp cmp) (without (eq_by_cmp cmp) k f)) e
              ∙ coef_without_self (eq_by_cmp cmp) (λ x y. cmp x y ≡ Less) laws k f))
              (zero_number p)))
          go (inr n) =
              under (below_lead (eq_by_cmp cmp) (λ x y. cmp x y ≡ Less) laws p f k t.key leads
              (λ z. counts (subst (IsZero p)
              (sym (coef_without_other (eq_by_cmp cmp) (λ x y. cmp x y ≡ Less) laws k t.key f
              n)) z))) n

      falls : Descends cmp new
      falls = (leading, below k r.normal lesser, r.descends)

      at : (x : K) → (x ≡ k) ⊎ (x ≢ k)
          → coefficient_by (eq_by_cmp cmp) new x % p ≡ coefficient_by (eq_by_cmp cmp) f x % p
      at x (inl e) =
          subst (λ y. coefficient_by (eq_by_cmp cmp) new y % p ≡ coefficient_by (eq_by_cmp cmp) f y
          % p) (sym e)
          (ap (λ n. n % p) (own cmp laws new falls first (inl refl))
          ∙ mod-mod (coefficient_by (eq_by_cmp cmp) f k) p)
      at x (inr n) =
          ap (λ i. i % p) (rest_at cmp laws first r.normal x n)
          ∙ (r.same.at x ∙ ap (λ i. i % p)
          (coef_without_other (eq_by_cmp cmp) (λ x y. cmp x y ≡ Less) laws k x f n))

  one_more : (f : List (Term K)) → ((g : List (Term K)) → size g < size f → HasNormal g)
      → HasNormal f
  one_more f before = go (top (eq_by_cmp cmp) (λ x y. cmp x y ≡ Less) laws p f)
    where
      go : ((x : K) → IsZero p (coefficient_by (eq_by_cmp cmp) f x))
          ⊎ ((k : K) × IsLeadingKey (eq_by_cmp cmp) (λ x y. cmp x y ≡ Less) p f k) → HasNormal f
      go (inl z) =
          record {
            normal = [];
            same = record { at = λ x. zero_number p ∙ sym (z x) };
            descends = tt;
            residues = tt;
          }
      go (inr (k, leads)) =
          led f k leads (before (without (eq_by_cmp cmp) k f) (smaller k f leads.nonzero))

  up_to : (n : ℕ) (f : List (Term K)) → size f < n → HasNormal f
  up_to zero f l = absurd (omega (arith, l))
  up_to (suc n) f l = one_more f (λ g m. up_to n g (omega (arith, l, m)))

  pub has_normal : (f : List (Term K)) → HasNormal f
  has_normal f = up_to (suc (size f)) f (omega arith)
