-- What the handling of a signature asks can be decided.
-- Whether a monomial divides another (`divides_dec`), a word has a regular divisor (`regular_dec`),
-- a signature is covered (`covered_dec`). The best multiple is found entry after entry
-- (`best_exists`).
use Rattle.nc_algebra.proofs.Monomials.{monomial_laws, times-times}
use Rattle.nc_algebra.proofs.Orders.{Decided, least, nat_dec, nat_order}
use Rattle.nc_algebra.proofs.Sums.{key_dec}
use Rattle.nc_algebra.proofs.Words.{begins, split, word_laws, word_total, word_trans}
use Rattle.nc_algebra.specs.Elements.{IsLess, IsZeroPolynomial, Setting, generator_weight}
use Rattle.nc_algebra.specs.Monomials.{Divides, Monomial, times}
use Rattle.nc_algebra.specs.Polynomials.{leading}
use Rattle.nc_algebra.specs.Primes.{IsField}
use Rattle.nc_algebra.specs.Words.{IsWordLess, Word, same_word}
use Rattle.nc_theory.proofs.Determinism.{fronts_same, listed_same, one_multiple}
use Rattle.nc_theory.proofs.Existence.{choose, listed_at, nobody}
use Rattle.nc_theory.proofs.Traces.{only_one}
use Rattle.nc_theory.specs.Divisors.{Divisor, IsBestMultiple, IsChosenDivisor, Multiple, RegularDivisor, signature_at}
use Rattle.nc_theory.specs.States.{Entry, State, Syzygy}
use Rattle.nc_theory.specs.Syzygies.{Covered, IsSyzygySignature}
use Rattle.std.proofs.Common.{Contains, List, [], ap, ap₂, append-nil, append_assoc, arith, get_or, inl, inr, length, length-append, refl, subst, subst₂, suc, sym, zero, ℕ, ◌+◌, ◌++◌, ◌-◌, ◌<◌, ◌∙◌, ◌∷◌, ◌≡◌, ◌≤◌, ◌⊎◌}
use Rattle.std.proofs.lemmas.List.Elements.{Contains-append_cases, Contains-append_right}
use Rattle.std.proofs.lemmas.List.{append_cancel_left, append_cancel_right}

-- whether an element of a list has a property
pub any : {X : Type 0} → (P : X → Type 0) → ((x : X) → Decided (P x)) → (xs : List X)
    → Decided ((x : X) × Contains xs x × P x)
any P dec [] = inr (λ t. omega (arith, t.1.1))
any P dec (x ∷ xs) = go (dec x) (any P dec xs)
  where
    go : Decided (P x) → Decided ((y : _) × Contains xs y × P y)
        → Decided ((y : _) × Contains (x ∷ xs) y × P y)
    go (inl p) d = inl (x, (0, omega arith, refl), p)
    go (inr n) (inl (y, c, p)) = inl (y, Contains-append_right (x ∷ []) xs y c, p)
    go (inr n) (inr m) = inr (λ t. here t (Contains-append_cases (x ∷ []) xs t.0 t.1))
      where
        here : (t : (y : _) × Contains (x ∷ xs) y × P y) → Contains (x ∷ []) t.0 ⊎ Contains xs t.0
            → ⊥
        here t (inl c) = n (subst P (sym (only_one x t.0 c)) t.2)
        here t (inr c) = m (t.0, c, t.2)

-- both of two facts
pub pair_dec : {A B : Type 0} → Decided A → Decided B → Decided (A × B)
pair_dec (inl a) (inl b) = inl (a, b)
pair_dec (inr n) o = inr (λ t. n t.0)
pair_dec (inl a) (inr n) = inr (λ t. n t.1)

pub word_dec : (u v : Word) → Decided (u ≡ v)
word_dec u v = key_dec same_word (λ a b. IsWordLess a b) word_laws u v

-- whether a list ends with another
ends : (a b : Word) → Decided ((r : Word) × (r ++ a ≡ b))
ends a b = go (nat_order (length a) (length b))
  where
    at : (q : ℕ) → q + length a ≡ length b → Decided ((r : Word) × (r ++ a ≡ b))
    at q e = parts (split q b (omega (arith, e)))
      where
        parts : (x : Word) × (y : Word) × (x ++ y ≡ b) × (length x ≡ q)
            → Decided ((r : Word) × (r ++ a ≡ b))
        parts (x, y, i, n) = same (word_dec y a)
          where
            same : Decided (y ≡ a) → Decided ((r : Word) × (r ++ a ≡ b))
            same (inl j) = inl (x, ap (λ z. x ++ z) (sym j) ∙ i)
            same (inr m) =
                inr (λ t. m (append_cancel_left x y a
                (i ∙ (sym t.1 ∙ ap (λ z. z ++ a)
                (fronts_same t.0 a x y (t.1 ∙ sym i)
                (omega (arith, e, n, ap length t.1, length-append t.0 a)))))))

    go : (length a < length b) ⊎ ((length a ≡ length b) ⊎ (length b < length a))
        → Decided ((r : Word) × (r ++ a ≡ b))
    go (inl l) = at (length b - length a) (omega arith)
    go (inr (inl e)) = at 0 (omega (arith, e))
    go (inr (inr l)) = inr (λ t. omega (arith, l, ap length t.1, length-append t.0 a))

pub divides_dec : (σ τ : Monomial) → Decided (Divides σ τ)
divides_dec σ τ = go (ends σ.left τ.left) (nat_dec σ.generator τ.generator) (begins σ.right τ.right)
  where
    go : Decided ((r : Word) × (r ++ σ.left ≡ τ.left)) → Decided (σ.generator ≡ τ.generator)
        → Decided ((r : Word) × (σ.right ++ r ≡ τ.right)) → Decided (Divides σ τ)
    go (inl (u, a)) (inl g) (inl (v, b)) =
        inl (u, v, λ i. record { left = a i; generator = g i; right = b i })
    go (inr n) o q = inr (λ t. n (t.0, ap (λ ρ. ρ.left) t.2))
    go (inl t) (inr n) q = inr (λ d. n (ap (λ ρ. ρ.generator) d.2))
    go (inl t) (inl g) (inr n) = inr (λ d. n (d.1, ap (λ ρ. ρ.right) d.2))

pub less_dec : (s : Setting) (σ τ : Monomial) → Decided (IsLess s σ τ)
less_dec s σ τ = go ((monomial_laws (generator_weight s)).total σ τ)
  where
    go : IsLess s σ τ ⊎ ((σ ≡ τ) ⊎ IsLess s τ σ) → Decided (IsLess s σ τ)
    go (inl l) = inl l
    go (inr (inl e)) =
        inr (λ l. (monomial_laws (generator_weight s)).irrefl τ (subst (λ κ. IsLess s κ τ) e l))
    go (inr (inr m)) =
        inr (λ l. (monomial_laws (generator_weight s)).irrefl τ
        ((monomial_laws (generator_weight s)).trans τ σ τ m l))

module _ (s : Setting) (field : IsField s.prime) (state : State) (nonzero : (e : Entry)
    → Contains state.entries e → ¬ IsZeroPolynomial s e.polynomial) (τ : Monomial) where
  pub regular_dec : (w : Word) → Decided (RegularDivisor s state.entries τ w)
  regular_dec w =
      go (choose s field state.entries nonzero (λ σ. IsLess s σ τ) (λ σ. less_dec s σ τ) w)
    where
      go : ((d : Divisor s state.entries w)
          × IsChosenDivisor s state.entries (λ σ. IsLess s σ τ) w d)
          ⊎ ((d : Divisor s state.entries w) → ¬ IsLess s (signature_at s state.entries w d) τ)
          → Decided (RegularDivisor s state.entries τ w)
      go (inl (d, c)) = inl (record { divisor = d; below = c.allowed })
      go (inr n) = inr (λ r. n r.divisor r.below)

  -- ---- the best multiple

  -- among the entries numbered below n
  abbrev BestBelow : ℕ → Word → Type 0
  BestBelow n w =
      (d : Divisor s state.entries w) × (signature_at s state.entries w d ≡ τ) × (d.listed.0 < n)
      × ((v : Word) (e : Divisor s state.entries v) → signature_at s state.entries v e ≡ τ
      → e.listed.0 < n → IsWordLess w v ⊎ ((w ≡ v) × (d.listed.0 + 1 ≤ e.listed.0 + 1)))

  abbrev NoneBelow : ℕ → Type 0
  NoneBelow n =
      (v : Word) (e : Divisor s state.entries v) → signature_at s state.entries v e ≡ τ
      → ¬ (e.listed.0 < n)

  -- the multiple of one entry
  abbrev At : ℕ → Type 0
  At n = (w : Word) × (d : Divisor s state.entries w) × (signature_at s state.entries w d ≡ τ)
      × (d.listed.0 ≡ n)

  at_dec : (n : ℕ) → Decided (At n)
  at_dec n = inside (nat_order n (length state.entries))
    where
      found : n < length state.entries
          → Decided (Divides (get_or state.entries n nobody).signature τ) → Decided (At n)
      found l (inl (u, v, e)) =
          inl (
            u ++ (leading s.prime (get_or state.entries n nobody).polynomial ++ v),
            record {
              entry = get_or state.entries n nobody;
              listed = listed_at state.entries n l;
              left = u;
              right = v;
              spells = refl;
            },
            e,
            refl,
          )
      found l (inr m) =
          inr (λ t. m (
            t.1.left,
            t.1.right,
            ap (λ x. times t.1.left x.signature t.1.right)
                (listed_same state.entries (get_or state.entries n nobody) t.1.entry
                (listed_at state.entries n l) t.1.listed (sym t.3)) ∙ t.2,
          ))

      inside : (n < length state.entries)
          ⊎ ((n ≡ length state.entries) ⊎ (length state.entries < n)) → Decided (At n)
      inside (inl l) = found l (divides_dec (get_or state.entries n nobody).signature τ)
      inside (inr (inl e)) = inr (λ t. omega (arith, e, t.3, t.1.listed.1))
      inside (inr (inr l)) = inr (λ t. omega (arith, l, t.3, t.1.listed.1))

  -- one entry's multiple with signature τ has one word
  one_word : (w v : Word) (d : Divisor s state.entries w) (e : Divisor s state.entries v)
      → signature_at s state.entries w d ≡ τ → signature_at s state.entries v e ≡ τ
      → d.listed.0 ≡ e.listed.0 → w ≡ v
  one_word w v d e i j k = (one_multiple s state.entries τ w v d e i j k).0

  best_below : (n : ℕ) → ((w : Word) × BestBelow n w) ⊎ NoneBelow n
  best_below zero = inr (λ v e i l. omega arith)
  best_below (suc n) = go (best_below n) (at_dec n)
    where
      go : ((w : Word) × BestBelow n w) ⊎ NoneBelow n → Decided (At n)
          → ((w : Word) × BestBelow (suc n) w) ⊎ NoneBelow (suc n)
      go (inl (w, (d, i, l, m))) (inr none) =
          inl (w, (d, i, omega arith, λ v e j k. rest v e j (nat_order e.listed.0 n) k))
        where
          rest : (v : Word) (e : Divisor s state.entries v) → signature_at s state.entries v e ≡ τ
              → (e.listed.0 < n) ⊎ ((e.listed.0 ≡ n) ⊎ (n < e.listed.0)) → e.listed.0 < suc n
              → IsWordLess w v ⊎ ((w ≡ v) × (d.listed.0 + 1 ≤ e.listed.0 + 1))
          rest v e j (inl k) h = m v e j k
          rest v e j (inr (inl k)) h = absurd (none (v, e, j, k))
          rest v e j (inr (inr k)) h = absurd (omega arith)
      go (inr none) (inr m) = inr (λ v e j k. rest v e j (nat_order e.listed.0 n) k)
        where
          rest : (v : Word) (e : Divisor s state.entries v) → signature_at s state.entries v e ≡ τ
              → (e.listed.0 < n) ⊎ ((e.listed.0 ≡ n) ⊎ (n < e.listed.0)) → ¬ (e.listed.0 < suc n)
          rest v e j (inl k) h = none v e j k
          rest v e j (inr (inl k)) h = m (v, e, j, k)
          rest v e j (inr (inr k)) h = omega arith
      go (inr none) (inl (w, d, i, k)) =
          inl (w, (d, i, omega (arith, k), λ v e j h. rest v e j (nat_order e.listed.0 n) h))
        where
          rest : (v : Word) (e : Divisor s state.entries v) → signature_at s state.entries v e ≡ τ
              → (e.listed.0 < n) ⊎ ((e.listed.0 ≡ n) ⊎ (n < e.listed.0)) → e.listed.0 < suc n
              → IsWordLess w v ⊎ ((w ≡ v) × (d.listed.0 + 1 ≤ e.listed.0 + 1))
          rest v e j (inl g) h = absurd (none v e j g)
          rest v e j (inr (inl g)) h = inr (one_word w v d e i j (k ∙ sym g), omega (arith, k, g))
          rest v e j (inr (inr g)) h = absurd (omega arith)
      go (inl (w, (d, i, l, m))) (inl (w', d', i', k')) = pick (word_total w w')
        where
          pick : IsWordLess w w' ⊎ ((w ≡ w') ⊎ IsWordLess w' w) → ((v : Word) × BestBelow (suc n) v)
              ⊎ NoneBelow (suc n)
          pick (inl b) =
              inl (w, (d, i, omega arith, λ v e j h. rest v e j (nat_order e.listed.0 n) h))
            where
              rest : (v : Word) (e : Divisor s state.entries v)
                  → signature_at s state.entries v e ≡ τ → (e.listed.0 < n)
                  ⊎ ((e.listed.0 ≡ n) ⊎ (n < e.listed.0)) → e.listed.0 < suc n → IsWordLess w v
                  ⊎ ((w ≡ v) × (d.listed.0 + 1 ≤ e.listed.0 + 1))
              rest v e j (inl g) h = m v e j g
              rest v e j (inr (inl g)) h =
                  inl (subst (IsWordLess w) (one_word w' v d' e i' j (k' ∙ sym g)) b)
              rest v e j (inr (inr g)) h = absurd (omega arith)
          pick (inr (inl b)) =
              inl (w, (d, i, omega arith, λ v e j h. rest v e j (nat_order e.listed.0 n) h))
            where
              rest : (v : Word) (e : Divisor s state.entries v)
                  → signature_at s state.entries v e ≡ τ → (e.listed.0 < n)
                  ⊎ ((e.listed.0 ≡ n) ⊎ (n < e.listed.0)) → e.listed.0 < suc n → IsWordLess w v
                  ⊎ ((w ≡ v) × (d.listed.0 + 1 ≤ e.listed.0 + 1))
              rest v e j (inl g) h = m v e j g
              rest v e j (inr (inl g)) h =
                  inr (b ∙ one_word w' v d' e i' j (k' ∙ sym g), omega (arith, l, g))
              rest v e j (inr (inr g)) h = absurd (omega arith)
          pick (inr (inr b)) =
              inl (
                w',
                (
                  d',
                  i',
                  omega (arith, k'),
                  λ v e j h. rest v e j (nat_order e.listed.0 n) h,
                ),
              )
            where
              over : (v : Word) (e : Divisor s state.entries v) → IsWordLess w v
                  ⊎ ((w ≡ v) × (d.listed.0 + 1 ≤ e.listed.0 + 1)) → IsWordLess w' v
              over v e (inl q) = word_trans w' w v b q
              over v e (inr q) = subst (IsWordLess w') q.0 b

              rest : (v : Word) (e : Divisor s state.entries v)
                  → signature_at s state.entries v e ≡ τ → (e.listed.0 < n)
                  ⊎ ((e.listed.0 ≡ n) ⊎ (n < e.listed.0)) → e.listed.0 < suc n → IsWordLess w' v
                  ⊎ ((w' ≡ v) × (d'.listed.0 + 1 ≤ e.listed.0 + 1))
              rest v e j (inl g) h = inl (over v e (m v e j g))
              rest v e j (inr (inl g)) h =
                  inr (one_word w' v d' e i' j (k' ∙ sym g), omega (arith, k', g))
              rest v e j (inr (inr g)) h = absurd (omega arith)

  pub best_exists : ((w : Word) × (d : Divisor s state.entries w)
      × IsBestMultiple s state.entries τ w d) ⊎ ((w : Word) → ¬ Multiple s state.entries τ w)
  best_exists = go (best_below (length state.entries))
    where
      go : ((w : Word) × BestBelow (length state.entries) w) ⊎ NoneBelow (length state.entries)
          → ((w : Word) × (d : Divisor s state.entries w) × IsBestMultiple s state.entries τ w d)
          ⊎ ((w : Word) → ¬ Multiple s state.entries τ w)
      go (inl (w, (d, i, l, m))) =
          inl (w, d, record { signed = i; least = λ v e j. m v e j e.listed.1 })
      go (inr n) = inr (λ w m. n w m.divisor m.signed m.divisor.listed.1)

-- a list with another inside it: whether some split of y around l has a property of its first part
around : (l y : Word) → (Good : Word → Word → Type 0) → ((m v : Word) → Decided (Good m v))
    → Decided ((m : Word) × (v : Word) × (m ++ (l ++ v) ≡ y) × Good m v)
around l y Good good = go (least At at_dec (suc (length y)))
  where
    At : ℕ → Type 0
    At k = (m : Word) × (v : Word) × (m ++ (l ++ v) ≡ y) × Good m v × (length m ≡ k)

    at_dec : (k : ℕ) → Decided (At k)
    at_dec k = bounds (nat_order k (length y))
      where
        inside : k ≤ length y → Decided (At k)
        inside h = parts (split k y h)
          where
            parts : (a : Word) × (b : Word) × (a ++ b ≡ y) × (length a ≡ k) → Decided (At k)
            parts (a, b, e, n) = rest (begins l b)
              where
                front : (t : At k) → t.0 ≡ a
                front t = fronts_same t.0 (l ++ t.1) a b (t.2 ∙ sym e) (t.4 ∙ sym n)

                back : (t : At k) → l ++ t.1 ≡ b
                back t =
                    append_cancel_left a (l ++ t.1) b (ap (λ z. z ++ (l ++ t.1)) (sym (front t))
                    ∙ (t.2 ∙ sym e))

                rest : Decided ((r : Word) × (l ++ r ≡ b)) → Decided (At k)
                rest (inr m) = inr (λ t. m (t.1, back t))
                rest (inl (r, i)) = last (good a r)
                  where
                    last : Decided (Good a r) → Decided (At k)
                    last (inl g) = inl (a, r, ap (λ z. a ++ z) i ∙ e, g, n)
                    last (inr m) =
                        inr (λ t. m (subst₂ Good (front t)
                        (append_cancel_left l t.1 r (back t ∙ sym i)) t.3))

        bounds : (k < length y) ⊎ ((k ≡ length y) ⊎ (length y < k)) → Decided (At k)
        bounds (inl h) = inside (omega arith)
        bounds (inr (inl h)) = inside (omega (arith, h))
        bounds (inr (inr h)) =
            inr (λ t. omega (arith, h, t.4, ap length t.2, length-append t.0 (l ++ t.1)))

    go : ((k : ℕ) × (k < suc (length y)) × At k × ((j : ℕ) → j < k → ¬ At j))
        ⊎ ((k : ℕ) → k < suc (length y) → ¬ At k)
        → Decided ((m : Word) × (v : Word) × (m ++ (l ++ v) ≡ y) × Good m v)
    go (inl (k, h, (m, v, e, g, n), f)) = inl (m, v, e, g)
    go (inr none) =
        inr (λ t. none (length t.0) (omega (arith, ap length t.2, length-append t.0 (l ++ t.1)))
        (t.0, t.1, t.2, t.3, refl))

module _ (s : Setting) (state : State) (τ : Monomial) where
  abbrev side1 : Entry → Entry → Word → Monomial
  side1 i j m = times [] i.signature (m ++ leading s.prime j.polynomial)

  abbrev side2 : Entry → Entry → Word → Monomial
  side2 i j m = times (leading s.prime i.polynomial ++ m) j.signature []

  abbrev First : Entry → Entry → Type 0
  First i j = (m : Word) × IsLess s (side2 i j m) (side1 i j m) × Divides (side1 i j m) τ

  abbrev Second : Entry → Entry → Type 0
  Second i j = (m : Word) × IsLess s (side1 i j m) (side2 i j m) × Divides (side2 i j m) τ

  first_dec : (i j : Entry) → Decided (First i j)
  first_dec i j = go (divides_dec i.signature τ)
    where
      apart : (m u v : Word) → times u (side1 i j m) v ≡ times (u ++ []) i.signature
          (m ++ (leading s.prime j.polynomial ++ v))
      apart m u v =
          times-times u [] (m ++ leading s.prime j.polynomial) v i.signature
          ∙ ap (λ z. times (u ++ []) i.signature z)
          (append_assoc m (leading s.prime j.polynomial) v)

      go : Decided (Divides i.signature τ) → Decided (First i j)
      go (inr n) =
          inr (λ t. n (
            t.2.0 ++ [],
            t.0 ++ (leading s.prime j.polynomial ++ t.2.1),
            sym (apart t.0 t.2.0 t.2.1) ∙ t.2.2,
          ))
      go (inl (u, y, e)) =
          rest (around (leading s.prime j.polynomial) y
          (λ m v. IsLess s (side2 i j m) (side1 i j m))
          (λ m v. less_dec s (side2 i j m) (side1 i j m)))
        where
          rest : Decided ((m : Word) × (v : Word) × (m ++ (leading s.prime j.polynomial ++ v) ≡ y)
              × IsLess s (side2 i j m) (side1 i j m)) → Decided (First i j)
          rest (inl (m, v, f, l)) =
              inl (
                m,
                l,
                (
                  u,
                  v,
                  apart m u v ∙ (ap₂ (λ a b. times a i.signature b) (append-nil u) f
                      ∙ e),
                ),
              )
          rest (inr none) =
              inr (λ t. none (
                t.0,
                t.2.1,
                append_cancel_left i.signature.right
                    (t.0 ++ (leading s.prime j.polynomial ++ t.2.1)) y
                    (ap (λ ρ. ρ.right) (sym (apart t.0 t.2.0 t.2.1) ∙ (t.2.2 ∙ sym e))),
                t.1,
              ))

  second_dec : (i j : Entry) → Decided (Second i j)
  second_dec i j = go (divides_dec j.signature τ)
    where
      apart : (m u v : Word) → times u (side2 i j m) v
          ≡ times (u ++ (leading s.prime i.polynomial ++ m)) j.signature v
      apart m u v = times-times u (leading s.prime i.polynomial ++ m) [] v j.signature

      -- the place of the leading word in the left part, with the word after it
      place : (x : Word) → Decided ((u : Word) × (m : Word)
          × (u ++ (leading s.prime i.polynomial ++ m) ≡ x) × IsLess s (side1 i j m) (side2 i j m))
      place x =
          around (leading s.prime i.polynomial) x (λ u m. IsLess s (side1 i j m) (side2 i j m))
          (λ u m. less_dec s (side1 i j m) (side2 i j m))

      go : Decided (Divides j.signature τ) → Decided (Second i j)
      go (inr n) =
          inr (λ t. n (
            t.2.0 ++ (leading s.prime i.polynomial ++ t.0),
            t.2.1,
            sym (apart t.0 t.2.0 t.2.1) ∙ t.2.2,
          ))
      go (inl (x, v, e)) = rest (place x)
        where
          rest : Decided ((u : Word) × (m : Word) × (u ++ (leading s.prime i.polynomial ++ m) ≡ x)
              × IsLess s (side1 i j m) (side2 i j m)) → Decided (Second i j)
          rest (inl (u, m, f, l)) =
              inl (m, l, (u, v, apart m u v ∙ (ap (λ a. times a j.signature v) f ∙ e)))
          rest (inr none) =
              inr (λ t. none (
                t.2.0,
                t.0,
                append_cancel_right
                    (t.2.0 ++ (leading s.prime i.polynomial ++ t.0)) x j.signature.left
                    (ap (λ ρ. ρ.left) (sym (apart t.0 t.2.0 t.2.1) ∙ (t.2.2 ∙ sym e))),
                t.1,
              ))

  pub covered_dec : Decided (Covered s state τ)
  covered_dec =
      go (any (λ h. Divides h.signature τ) (λ h. divides_dec h.signature τ) state.syzygies)
      (any (λ i. (j : Entry) × Contains state.entries j × (First i j ⊎ Second i j))
      (λ i. any (λ j. First i j ⊎ Second i j) (λ j. either (first_dec i j) (second_dec i j))
      state.entries) state.entries)
    where
      either : {A B : Type 0} → Decided A → Decided B → Decided (A ⊎ B)
      either (inl a) d = inl (inl a)
      either (inr n) (inl b) = inl (inr b)
      either (inr n) (inr m) = inr (λ o. elim o [ inl a ↦ n a | inr b ↦ m b ])

      from : (i : Entry) → Contains state.entries i → (j : Entry) → Contains state.entries j
          → First i j ⊎ Second i j → Covered s state τ
      from i c j d (inl (m, l, q)) =
          record {
            by = side1 i j m;
            is_syzygy = inr
                (record {
                  first = i;
                  first_listed = c;
                  second = j;
                  second_listed = d;
                  m = m;
                  greater = inl (l, refl);
                });
            divides = q;
          }
      from i c j d (inr (m, l, q)) =
          record {
            by = side2 i j m;
            is_syzygy = inr
                (record {
                  first = i;
                  first_listed = c;
                  second = j;
                  second_listed = d;
                  m = m;
                  greater = inr (l, refl);
                });
            divides = q;
          }

      go : Decided ((h : Syzygy) × Contains state.syzygies h × Divides h.signature τ)
          → Decided ((i : Entry) × Contains state.entries i
          × ((j : Entry) × Contains state.entries j × (First i j ⊎ Second i j)))
          → Decided (Covered s state τ)
      go (inl (h, c, d)) o =
          inl (record { by = h.signature; is_syzygy = inl (h, c, refl); divides = d })
      go (inr n) (inl (i, c, (j, d, o))) = inl (from i c j d o)
      go (inr n) (inr m) = inr (λ k. neither k k.is_syzygy)
        where
          neither : (k : Covered s state τ) → IsSyzygySignature s state k.by → ⊥
          neither k (inl (h, c, e)) = n (h, c, subst (λ ρ. Divides ρ τ) (sym e) k.divides)
          neither k (inr t) =
              m (t.first, t.first_listed, (t.second, t.second_listed, greater t.greater))
            where
              greater : (IsLess s (side2 t.first t.second t.m) (side1 t.first t.second t.m)
                  × (k.by ≡ side1 t.first t.second t.m))
                  ⊎ (IsLess s (side1 t.first t.second t.m) (side2 t.first t.second t.m)
                  × (k.by ≡ side2 t.first t.second t.m)) → First t.first t.second
                  ⊎ Second t.first t.second
              greater (inl (l, e)) = inl (t.m, l, subst (λ ρ. Divides ρ τ) e k.divides)
              greater (inr (l, e)) = inr (t.m, l, subst (λ ρ. Divides ρ τ) e k.divides)
