-- Each polynomial has a reduction.
-- The chosen divisor is found by search, through the numbers of entries (`number_dec`) and the
-- places in the word (`place_dec`). Then `reduce_below` is an induction on a word w such that all
-- words of the polynomial are less than w.
use Rattle.nc_algebra.proofs.Leading.{lead_leads}
use Rattle.nc_algebra.proofs.Orders.{Decided, least, nat_order}
use Rattle.nc_algebra.proofs.Sums.{top}
use Rattle.nc_algebra.proofs.Words.{begins, first_letter, no_greatest, split, word_ind, word_laws, word_total, word_trans}
use Rattle.nc_algebra.specs.Elements.{IsLeadingWord, IsZeroPolynomial, Setting}
use Rattle.nc_algebra.specs.Monomials.{Monomial, times, unit_monomial}
use Rattle.nc_algebra.specs.Polynomials.{Polynomial, coefficient, leading}
use Rattle.nc_algebra.specs.Primes.{IsField, IsZero}
use Rattle.nc_algebra.specs.Sums.{minus}
use Rattle.nc_algebra.specs.Words.{IsWordLess, Word, same_word}
use Rattle.nc_theory.proofs.Closure.{divided}
use Rattle.nc_theory.proofs.Determinism.{fronts_same, listed_same, parts_same}
use Rattle.nc_theory.proofs.Reductions.{From, keep_whole, multiple_leads_at, single_over, subtract_whole, take_off}
use Rattle.nc_theory.specs.Divisors.{Divisor, IsChosenDivisor, multiple_at, signature_at}
use Rattle.nc_theory.specs.Reductions.{Reduction}
use Rattle.nc_theory.specs.States.{Entry, Start, Step}
use Rattle.std.proofs.lemmas.Nat.{mul-mod_first}
use Rattle.std.proofs.Common.{Contains, List, [], ap, ap₂, arith, get_or, inl, inr, length, length-append, refl, subst, suc, sym, ℕ, ◌%◌, ◌*◌, ◌+◌, ◌++◌, ◌<◌, ◌∙◌, ◌∷◌, ◌≡◌, ◌≤◌, ◌⊎◌}
use Rattle.std.proofs.Math.Nat.{mod-lt}
use Rattle.std.proofs.lemmas.List.{append_cancel_left, get_or_default}

-- an entry, for an index where a list has none
abbrev pub nobody : Entry
nobody =
    record {
      signature = unit_monomial 0;
      polynomial = [];
      trace = record { start = Start.a_generator 0; steps = [] };
    }

abbrev pub listed_at : (entries : List Entry) (k : ℕ) → k < length entries
    → Contains entries (get_or entries k nobody)
listed_at entries k l = (k, l, get_or_default entries k (get_or entries k nobody) nobody l)

module _ (s : Setting) (field : IsField s.prime) (entries : List Entry) (nonzero : (e : Entry)
    → Contains entries e → ¬ IsZeroPolynomial s e.polynomial) (set : Monomial → Type 0)
    (decide : (σ : Monomial) → Decided (set σ)) where
  -- a divisor of w in the set by entry number k, and one at place q
  abbrev AtNumber : Word → ℕ → Type 0
  AtNumber w k = (d : Divisor s entries w) × set (signature_at s entries w d) × (d.listed.0 ≡ k)

  abbrev AtPlace : Word → ℕ → ℕ → Type 0
  AtPlace w k q =
      (d : Divisor s entries w) × set (signature_at s entries w d) × (d.listed.0 ≡ k)
      × (length d.left ≡ q)

  place_dec : (w : Word) (k q : ℕ) → Decided (AtPlace w k q)
  place_dec w k q = bounds (nat_order k (length entries)) (nat_order q (length w))
    where
      too_far : (d : Divisor s entries w) → length d.left ≤ length w
      too_far d =
          omega (
            arith,
            ap length d.spells,
            length-append d.left (leading s.prime d.entry.polynomial ++ d.right),
          )

      inside : k < length entries → q ≤ length w → Decided (AtPlace w k q)
      inside l m = parts (split q w m)
        where
          parts : (a : Word) × (b : Word) × (a ++ b ≡ w) × (length a ≡ q) → Decided (AtPlace w k q)
          parts (a, b, e, n) =
              ends (begins (leading s.prime (get_or entries k nobody).polynomial) b)
            where
              left_is : (d : Divisor s entries w) → length d.left ≡ q → d.left ≡ a
              left_is d i =
                  fronts_same d.left (leading s.prime d.entry.polynomial ++ d.right) a b
                  (d.spells ∙ sym e) (i ∙ sym n)

              ends : Decided ((r : Word) × (leading s.prime (get_or entries k nobody).polynomial
                  ++ r ≡ b)) → Decided (AtPlace w k q)
              ends (inr none) =
                  inr (λ t. none (
                    t.0.right,
                    append_cancel_left a
                        (leading s.prime (get_or entries k nobody).polynomial ++ t.0.right) b
                        (ap₂ (λ x y. x ++ (leading s.prime y.polynomial ++ t.0.right))
                        (sym (left_is t.0 t.3)) (listed_same entries (get_or entries k nobody)
                        t.0.entry (listed_at entries k l) t.0.listed (sym t.2))
                        ∙ (t.0.spells ∙ sym e)),
                  ))
              ends (inl (r, i)) = tried (decide (times a (get_or entries k nobody).signature r))
                where
                  d0 : Divisor s entries w
                  d0 = record {
                    entry = get_or entries k nobody;
                    listed = listed_at entries k l;
                    left = a;
                    right = r;
                    spells = ap (λ z. a ++ z) i ∙ e;
                  }

                  other : (d : Divisor s entries w) → d.listed.0 ≡ k → length d.left ≡ q
                      → signature_at s entries w d ≡ times a (get_or entries k nobody).signature r
                  other d x y =
                      let p : (d.entry ≡ get_or entries k nobody) × (d.right ≡ r) =
                      parts_same s field entries w d d0 x (left_is d y) in
                      (λ j. times (left_is d y j) (p.0 j).signature (p.1 j))

                  tried : Decided (set (times a (get_or entries k nobody).signature r))
                      → Decided (AtPlace w k q)
                  tried (inl p) = inl (d0, p, refl, n)
                  tried (inr np) = inr (λ t. np (subst set (other t.0 t.2 t.3) t.1))

      bounds : (k < length entries) ⊎ ((k ≡ length entries) ⊎ (length entries < k)) → (q < length w)
          ⊎ ((q ≡ length w) ⊎ (length w < q)) → Decided (AtPlace w k q)
      bounds (inl l) (inl m) = inside l (omega arith)
      bounds (inl l) (inr (inl m)) = inside l (omega (arith, m))
      bounds (inl l) (inr (inr m)) =
          inr (λ t. let b : length t.0.left ≤ length w = too_far t.0 in omega (arith, m, t.3, b))
      bounds (inr (inl l)) o = inr (λ t. omega (arith, l, t.2, t.0.listed.1))
      bounds (inr (inr l)) o = inr (λ t. omega (arith, l, t.2, t.0.listed.1))

  number_dec : (w : Word) (k : ℕ) → Decided (AtNumber w k)
  number_dec w k = go (least (AtPlace w k) (place_dec w k) (suc (length w)))
    where
      go : ((q : ℕ) × (q < suc (length w)) × AtPlace w k q × ((j : ℕ) → j < q → ¬ AtPlace w k j))
          ⊎ ((q : ℕ) → q < suc (length w) → ¬ AtPlace w k q) → Decided (AtNumber w k)
      go (inl (q, l, (d, a, i, j), m)) = inl (d, a, i)
      go (inr none) =
          inr (λ t. none (length t.0.left)
          (omega (
            arith,
            ap length t.0.spells,
            length-append t.0.left (leading s.prime t.0.entry.polynomial ++ t.0.right),
          ))
          (t.0, t.1, t.2, refl))

  pub choose : (w : Word) → ((d : Divisor s entries w) × IsChosenDivisor s entries set w d)
      ⊎ ((d : Divisor s entries w) → ¬ set (signature_at s entries w d))
  choose w = go (least (AtNumber w) (number_dec w) (length entries))
    where
      leftmost : (k : ℕ) → AtNumber w k → ((j : ℕ) → j < k → ¬ AtNumber w j)
          → ((q : ℕ) × (q < suc (length w)) × AtPlace w k q × ((j : ℕ) → j < q → ¬ AtPlace w k j))
          ⊎ ((q : ℕ) → q < suc (length w) → ¬ AtPlace w k q) → (d : Divisor s entries w)
          × IsChosenDivisor s entries set w d
      leftmost k t first (inr none) =
          absurd (none (length t.0.left)
          (omega (
            arith,
            ap length t.0.spells,
            length-append t.0.left (leading s.prime t.0.entry.polynomial ++ t.0.right),
          ))
          (t.0, t.1, t.2, refl))
      leftmost k t first (inl (q, l, (d, a, i, j), m)) =
          (d, record { allowed = a; least = λ e b. at e b (nat_order e.listed.0 k) })
        where
          at : (e : Divisor s entries w) → set (signature_at s entries w e) → (e.listed.0 < k)
              ⊎ ((e.listed.0 ≡ k) ⊎ (k < e.listed.0)) → (d.listed.0 + 1 < e.listed.0 + 1)
              ⊎ ((d.listed.0 + 1 ≡ e.listed.0 + 1) × (length d.left ≤ length e.left))
          at e b (inl h) = absurd (first e.listed.0 h (e, b, refl))
          at e b (inr (inr h)) = inl (omega (arith, h, i))
          at e b (inr (inl h)) = inr (omega (arith, h, i), lefter (nat_order (length e.left) q))
            where
              lefter : (length e.left < q) ⊎ ((length e.left ≡ q) ⊎ (q < length e.left))
                  → length d.left ≤ length e.left
              lefter (inl g) = absurd (m (length e.left) g (e, b, h, refl))
              lefter (inr (inl g)) = omega (arith, g, j)
              lefter (inr (inr g)) = omega (arith, g, j)

      go : ((k : ℕ) × (k < length entries) × AtNumber w k × ((j : ℕ) → j < k → ¬ AtNumber w j))
          ⊎ ((k : ℕ) → k < length entries → ¬ AtNumber w k)
          → ((d : Divisor s entries w) × IsChosenDivisor s entries set w d)
          ⊎ ((d : Divisor s entries w) → ¬ set (signature_at s entries w d))
      go (inl (k, l, t, m)) =
          inl (leftmost k t m (least (AtPlace w k) (place_dec w k) (suc (length w))))
      go (inr none) = inr (λ d a. none d.listed.0 d.listed.1 (d, a, refl))

  -- a polynomial with nothing from w on has a reduction
  pub reduce_below : (w : Word) → (f : Polynomial)
      → ((x : Word) → From w x → IsZero s.prime (coefficient f x)) → (kept : Polynomial)
      × (steps : List Step) × Reduction s entries set f kept steps
  reduce_below =
      word_ind (λ w. (f : Polynomial) → ((x : Word) → From w x → IsZero s.prime (coefficient f x))
      → (kept : Polynomial) × (steps : List Step) × Reduction s entries set f kept steps) each
    where
      each : (w : Word) → ((v : Word) → IsWordLess v w → (f : Polynomial)
          → ((x : Word) → From v x → IsZero s.prime (coefficient f x)) → (kept : Polynomial)
          × (steps : List Step) × Reduction s entries set f kept steps) → (f : Polynomial)
          → ((x : Word) → From w x → IsZero s.prime (coefficient f x)) → (kept : Polynomial)
          × (steps : List Step) × Reduction s entries set f kept steps
      each w before f above = go (top same_word IsWordLess word_laws s.prime f)
        where
          at : (v : Word) → IsLeadingWord s f v → IsWordLess v w
              → ((d : Divisor s entries v) × IsChosenDivisor s entries set v d)
              ⊎ ((d : Divisor s entries v) → ¬ set (signature_at s entries v d))
              → (kept : Polynomial) × (steps : List Step) × Reduction s entries set f kept steps
          at v d l (inl (e, chosen)) =
              divide (field.inverse (coefficient e.entry.polynomial
              (leading s.prime e.entry.polynomial))
              (lead_leads s.prime e.entry.polynomial (nonzero e.entry e.listed)).nonzero)
            where
              divide : (i : ℕ) × (coefficient e.entry.polynomial
                  (leading s.prime e.entry.polynomial) * i % s.prime ≡ 1) → (kept : Polynomial)
                  × (steps : List Step) × Reduction s entries set f kept steps
              divide (i, q) =
                  let t : (kept : Polynomial) × (steps : List Step)
                  × Reduction s entries set (minus s.prime f (coefficient f v * i % s.prime)
                  (multiple_at s entries v e)) kept steps =
                  before v l (minus s.prime f (coefficient f v * i % s.prime)
                  (multiple_at s entries v e)) (take_off s field entries nonzero set f v d
                  (coefficient f v * i % s.prime) (multiple_at s entries v e)
                  (multiple_leads_at s field entries nonzero set v e).above
                  (subtract_whole s field entries nonzero set f v e
                  (coefficient f v * i % s.prime) whole)) in (
                    t.0,
                    record {
                      coefficient = coefficient f v * i % s.prime;
                      left = e.left;
                      number = e.listed.0 + 1;
                      right = e.right;
                    } ∷ t.1,
                    Reduction.subtract v d e chosen (coefficient f v * i % s.prime)
                        (mod-lt (coefficient f v * i) (omega (arith, field.above_one))) whole t.2,
                  )
                where
                  whole : coefficient f v * i % s.prime * coefficient e.entry.polynomial
                      (leading s.prime e.entry.polynomial) % s.prime ≡ coefficient f v % s.prime
                  whole = mul-mod_first (coefficient f v * i)
                      (coefficient e.entry.polynomial (leading s.prime e.entry.polynomial)) s.prime
                      ∙ sym (divided s.prime (coefficient f v) i
                      (coefficient e.entry.polynomial (leading s.prime e.entry.polynomial)) q
                      field.above_one)
          at v d l (inr none) =
              let t : (kept : Polynomial) × (steps : List Step)
              × Reduction s entries set (minus s.prime f 1
              (record { coefficient = coefficient f v % s.prime; key = v } ∷ [])) kept steps =
              before v l (minus s.prime f 1 (record {
                coefficient = coefficient f v % s.prime;
                key = v;
              } ∷ [])) (take_off s field entries nonzero set f v d 1
              (record { coefficient = coefficient f v % s.prime; key = v } ∷ [])
              (single_over s field entries nonzero set (coefficient f v % s.prime) v)
              (keep_whole s field entries nonzero set f v (coefficient f v % s.prime) refl))
              in (
                record { coefficient = coefficient f v % s.prime; key = v } ∷ t.0,
                t.1,
                Reduction.keep v d none (coefficient f v % s.prime) refl t.2,
              )

          under : (v : Word) → IsLeadingWord s f v → IsWordLess v w ⊎ ((v ≡ w) ⊎ IsWordLess w v)
              → IsWordLess v w
          under v d (inl l) = l
          under v d (inr (inl e)) = absurd (d.nonzero (above v (inl e)))
          under v d (inr (inr l)) = absurd (d.nonzero (above v (inr l)))

          go : ((x : Word) → IsZero s.prime (coefficient f x)) ⊎ ((v : Word) × IsLeadingWord s f v)
              → (kept : Polynomial) × (steps : List Step) × Reduction s entries set f kept steps
          go (inl z) = ([], [], Reduction.finished z)
          go (inr (v, d)) = at v d (under v d (word_total v w)) (choose v)

  -- each polynomial has a reduction
  pub reduce_exists : (f : Polynomial) → (kept : Polynomial) × (steps : List Step)
      × Reduction s entries set f kept steps
  reduce_exists f = go (top same_word IsWordLess word_laws s.prime f)
    where
      go : ((x : Word) → IsZero s.prime (coefficient f x)) ⊎ ((v : Word) × IsLeadingWord s f v)
          → (kept : Polynomial) × (steps : List Step) × Reduction s entries set f kept steps
      go (inl z) = ([], [], Reduction.finished z)
      go (inr (v, d)) = reduce_below (first_letter ∷ v) f (λ x o. d.above x (beyond x o))
        where
          longer : IsWordLess v (first_letter ∷ v)
          longer = no_greatest v

          beyond : (x : Word) → From (first_letter ∷ v) x → IsWordLess v x
          beyond x (inl e) = subst (IsWordLess v) (sym e) longer
          beyond x (inr l) = word_trans v (first_letter ∷ v) x longer l
