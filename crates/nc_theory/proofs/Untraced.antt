-- Lists of entries with the same signatures and polynomials have the same divisors, and so the same
-- reductions. An entry of the one list has one at the same index in the other (`in_place`), so a
-- divisor is carried over with its number and the words around it (`moved`). Choices, best
-- multiples, reductions, starts and trivial syzygies are stated by divisors and go with them; what
-- is denied goes back the other way. A new ambiguity names the newest entry by its index, so it is
-- carried over like any other.
use Rattle.nc_algebra.specs.Elements.{IsLess, Setting}
use Rattle.nc_algebra.specs.Monomials.{Monomial, times}
use Rattle.nc_algebra.specs.Polynomials.{Polynomial, coefficient, leading, polynomial_times}
use Rattle.nc_algebra.specs.Sums.{minus}
use Rattle.nc_algebra.specs.Words.{IsWordLess, Word}
use Rattle.nc_theory.specs.Untraced.{IsSameDivisor, SameEntries, untraced_entry}
use Rattle.nc_theory.specs.Ambiguities.{Ambiguity, NewAmbiguity}
use Rattle.nc_theory.specs.Divisors.{Divisor, IsBestMultiple, IsChosenDivisor, Multiple, RegularDivisor, leading_at, multiple_at, number_of, signature_at}
use Rattle.nc_theory.specs.Reductions.{Reduction}
use Rattle.nc_theory.specs.Runs.{Starts}
use Rattle.nc_theory.specs.States.{Entry, Start, Step}
use Rattle.nc_theory.specs.Syzygies.{TrivialSyzygy, first_side, second_side}
use Rattle.std.proofs.Common.{Contains, List, [], ap, ap₂, arith, get_or, inl, inr, length, map, refl, subst, subst₂, sym, ◌%◌, ◌*◌, ◌++◌, ◌<◌, ◌∙◌, ◌∷◌, ◌≡◌, ◌≤◌, ◌⊎◌}
use Rattle.std.proofs.lemmas.List.{get_or-map, get_or_default, length-map, map-append}

-- ---- the item at the same index

module _ {X Y : Type 0} (f : X → Y) (xs xs' : List X) (same : map f xs ≡ map f xs') where
  pub same_length : length xs ≡ length xs'
  same_length = sym (length-map xs f) ∙ (ap length same ∙ length-map xs' f)

  -- where the one list has x, the other has one that f does not tell from it
  abbrev pub in_place : (x : X) → Contains xs x → X
  in_place x c = get_or xs' c.0 x

  pub in_bounds : (x : X) (c : Contains xs x) → c.0 < length xs'
  in_bounds x c = omega (arith, c.1, same_length)

  abbrev pub in_place_listed : (x : X) (c : Contains xs x) → Contains xs' (in_place x c)
  in_place_listed x c =
      (c.0, in_bounds x c, get_or_default xs' c.0 (in_place x c) x (in_bounds x c))

  pub in_place_alike : (x : X) (c : Contains xs x) → f x ≡ f (in_place x c)
  in_place_alike x c =
      sym (ap f c.2) ∙ (sym (get_or-map f xs c.0 x (f x) c.1)
      ∙ (ap (λ ys. get_or ys c.0 (f x)) same ∙ get_or-map f xs' c.0 x (f x) (in_bounds x c)))

  -- what holds of each of the other list, as f sees it, holds of each of the one
  pub each_alike : (Good : Y → Type 0) → ((x : X) → Contains xs' x → Good (f x)) → (x : X)
      → Contains xs x → Good (f x)
  each_alike Good each x c =
      subst Good (sym (in_place_alike x c)) (each (in_place x c) (in_place_listed x c))

  pub ascend_alike : (Less : Y → Y → Type 0)
      → ((x y : X) (c : Contains xs' x) (d : Contains xs' y) → c.0 < d.0 → Less (f x) (f y))
      → (x y : X) (c : Contains xs x) (d : Contains xs y) → c.0 < d.0 → Less (f x) (f y)
  ascend_alike Less ascend x y c d l =
      subst₂ Less (sym (in_place_alike x c)) (sym (in_place_alike y d))
      (ascend (in_place x c) (in_place y d) (in_place_listed x c) (in_place_listed y d) l)

-- ---- divisors

module _ (s : Setting) (es es' : List Entry) (same : SameEntries es es') where
  abbrev pub other : (w : Word) → Divisor s es w → Entry
  other w d = in_place untraced_entry es es' same d.entry d.listed

  pub other_alike : (w : Word) (d : Divisor s es w)
      → untraced_entry d.entry ≡ untraced_entry (other w d)
  other_alike w d = in_place_alike untraced_entry es es' same d.entry d.listed

  abbrev pub moved : (w : Word) → Divisor s es w → Divisor s es' w
  moved w d =
      record {
        entry = other w d;
        listed = in_place_listed untraced_entry es es' same d.entry
            d.listed;
        left = d.left;
        right = d.right;
        spells = subst (λ (e : Entry). d.left ++ (leading s.prime e.polynomial ++ d.right) ≡ w)
            (other_alike w d) d.spells;
      }

  pub moved_same : (w : Word) (d : Divisor s es w) → IsSameDivisor s es es' w d (moved w d)
  moved_same w d =
      record {
        number = refl;
        left = refl;
        right = refl;
        signature = ap (λ (e : Entry). e.signature) (other_alike w d);
        polynomial = ap (λ (e : Entry). e.polynomial) (other_alike w d);
      }

module _ (s : Setting) (es es' : List Entry) (w : Word) (d : Divisor s es w) (d' : Divisor s es' w)
    (same : IsSameDivisor s es es' w d d') where
  pub same_signature : signature_at s es w d ≡ signature_at s es' w d'
  same_signature = λ i. times (same.left i) (same.signature i) (same.right i)

  pub same_multiple : multiple_at s es w d ≡ multiple_at s es' w d'
  same_multiple = λ i. polynomial_times (same.left i) (same.polynomial i) (same.right i)

  pub other_side : IsSameDivisor s es' es w d' d
  other_side =
      record {
        number = sym same.number;
        left = sym same.left;
        right = sym same.right;
        signature = sym same.signature;
        polynomial = sym same.polynomial;
      }

module _ (s : Setting) (es es' : List Entry) (same : SameEntries es es') where
  abbrev pub back : (w : Word) → Divisor s es' w → Divisor s es w
  back = moved s es' es (sym same)

  back_signature : (w : Word) (d : Divisor s es' w)
      → signature_at s es' w d ≡ signature_at s es w (back w d)
  back_signature w d = same_signature s es' es w d (back w d) (moved_same s es' es (sym same) w d)

  pub moved_signature : (w : Word) (d : Divisor s es w)
      → signature_at s es w d ≡ signature_at s es' w (moved s es es' same w d)
  moved_signature w d =
      same_signature s es es' w d (moved s es es' same w d) (moved_same s es es' same w d)

  pub moved_chosen : (set : Monomial → Type 0) (w : Word) (d : Divisor s es w)
      → IsChosenDivisor s es set w d → (d' : Divisor s es' w) → IsSameDivisor s es es' w d d'
      → IsChosenDivisor s es' set w d'
  moved_chosen set w d c d' k = record {
    allowed = subst set (same_signature s es es' w d d' k) c.allowed;
    least = λ e m. least e (c.least (back w e) (subst set (back_signature w e) m));
  }
    where
      least : (e : Divisor s es' w) → (number_of s es w d < number_of s es w (back w e))
          ⊎ ((number_of s es w d ≡ number_of s es w (back w e))
          × (length d.left ≤ length (back w e).left))
          → (number_of s es' w d' < number_of s es' w e)
          ⊎ ((number_of s es' w d' ≡ number_of s es' w e) × (length d'.left ≤ length e.left))
      least e (inl l) = inl (omega (arith, l, k.number))
      least e (inr (i, l)) = inr (sym k.number ∙ i, omega (arith, l, ap length k.left))

  pub moved_best : (τ : Monomial) (w : Word) (d : Divisor s es w) → IsBestMultiple s es τ w d
      → (d' : Divisor s es' w) → IsSameDivisor s es es' w d d' → IsBestMultiple s es' τ w d'
  moved_best τ w d b d' k = record {
    signed = sym (same_signature s es es' w d d' k) ∙ b.signed;
    least = λ v e m. least v e (b.least v (back v e) (sym (back_signature v e) ∙ m));
  }
    where
      least : (v : Word) (e : Divisor s es' v) → IsWordLess w v
          ⊎ ((w ≡ v) × (number_of s es w d ≤ number_of s es v (back v e))) → IsWordLess w v
          ⊎ ((w ≡ v) × (number_of s es' w d' ≤ number_of s es' v e))
      least v e (inl l) = inl l
      least v e (inr (i, l)) = inr (i, omega (arith, l, k.number))

  abbrev pub moved_regular : (τ : Monomial) (w : Word) → RegularDivisor s es τ w
      → RegularDivisor s es' τ w
  moved_regular τ w r =
      record {
        divisor = moved s es es' same w r.divisor;
        below = subst (λ σ. IsLess s σ τ) (moved_signature w r.divisor) r.below;
      }

  abbrev pub moved_multiple : (τ : Monomial) (w : Word) → Multiple s es τ w → Multiple s es' τ w
  moved_multiple τ w m =
      record {
        divisor = moved s es es' same w m.divisor;
        signed = sym (moved_signature w m.divisor) ∙ m.signed;
      }

  -- ---- reductions

  pub moved_reduction : (set : Monomial → Type 0) → {f kept : Polynomial} {steps : List Step}
      → Reduction s es set f kept steps → Reduction s es' set f kept steps
  moved_reduction set (Reduction.finished z) = Reduction.finished z
  moved_reduction set (Reduction.subtract {f = f} {kept = kept} {steps = steps} w l d chosen c small
      q rest) =
      Reduction.subtract w l (moved s es es' same w d)
      (moved_chosen set w d chosen (moved s es es' same w d) (moved_same s es es' same w d)) c
      small
      (subst (λ (e : Entry). c * coefficient e.polynomial (leading s.prime e.polynomial) % s.prime
      ≡ coefficient f w % s.prime) (other_alike s es es' same w d) q)
      (subst (λ g. Reduction s es' set (minus s.prime f c g) kept steps)
      (same_multiple s es es' w d (moved s es es' same w d) (moved_same s es es' same w d))
      (moved_reduction set rest))
  moved_reduction set (Reduction.keep w l none c q rest) =
      Reduction.keep w l (λ d m. none (back w d) (subst set (back_signature w d) m)) c q
      (moved_reduction set rest)

  pub moved_start : (τ : Monomial) → {f : Polynomial} {a : Start} → Starts s es τ f a
      → Starts s es' τ f a
  moved_start τ (Starts.at_generator i e) = Starts.at_generator i e
  moved_start τ (Starts.at_multiple n w d best r) =
      subst (λ g. Starts s es' τ g (Start.a_multiple d.left (number_of s es w d) d.right))
      (sym (same_multiple s es es' w d (moved s es es' same w d)
      (moved_same s es es' same w d)))
      (Starts.at_multiple n w (moved s es es' same w d)
      (moved_best τ w d best (moved s es es' same w d) (moved_same s es es' same w d))
      (moved_regular τ w r))

  -- ---- what covers

  abbrev Greater : Monomial → Word → Entry → Entry → Type 0
  Greater ρ m i j =
      (IsLess s (second_side s i m j) (first_side s i m j) × (ρ ≡ first_side s i m j))
      ⊎ (IsLess s (first_side s i m j) (second_side s i m j) × (ρ ≡ second_side s i m j))

  abbrev pub moved_trivial : (ρ : Monomial) → TrivialSyzygy s es ρ → TrivialSyzygy s es' ρ
  moved_trivial ρ t = record {
    first = in_place untraced_entry es es' same t.first t.first_listed;
    first_listed = in_place_listed untraced_entry es es' same t.first t.first_listed;
    second = in_place untraced_entry es es' same t.second t.second_listed;
    second_listed = in_place_listed untraced_entry es es' same t.second t.second_listed;
    m = t.m;
    greater =
        subst (λ (j : Entry). Greater ρ t.m
        (in_place untraced_entry es es' same t.first t.first_listed) j)
        (in_place_alike untraced_entry es es' same t.second t.second_listed)
        (subst (λ (i : Entry). Greater ρ t.m i t.second)
        (in_place_alike untraced_entry es es' same t.first t.first_listed) t.greater);
  }

-- ---- ambiguities

-- the same place and the same multiple
pub record IsAlike (s : Setting) (es es' : List Entry) (w : Word) (d : Divisor s es w)
    (d' : Divisor s es' w) : Type 0 where
  pub left : d.left ≡ d'.left
  pub right : d.right ≡ d'.right
  pub entry : untraced_entry d.entry ≡ untraced_entry d'.entry

module _ (s : Setting) (es es' : List Entry) (ρ : Monomial) (w : Word) (a : Ambiguity s es ρ w)
    (high low : Divisor s es' w) (h : IsAlike s es es' w a.high high)
    (l : IsAlike s es es' w a.low low) where
  pub high_signature : signature_at s es w a.high ≡ signature_at s es' w high
  high_signature = λ i. times (h.left i) (h.entry i).signature (h.right i)

  pub low_signature : signature_at s es w a.low ≡ signature_at s es' w low
  low_signature = λ i. times (l.left i) (l.entry i).signature (l.right i)

  pub high_leading : leading_at s es w a.high ≡ leading_at s es' w high
  high_leading = ap (λ (e : Entry). leading s.prime e.polynomial) h.entry

  pub low_leading : leading_at s es w a.low ≡ leading_at s es' w low
  low_leading = ap (λ (e : Entry). leading s.prime e.polynomial) l.entry

  abbrev like_ambiguity : Ambiguity s es' ρ w
  like_ambiguity = record {
    high = high;
    low = low;
    spans_front =
        subst (λ u. (u ≡ []) ⊎ (low.left ≡ [])) h.left
        (subst (λ u. (a.high.left ≡ []) ⊎ (u ≡ [])) l.left a.spans_front);
    spans_back =
        subst (λ u. (u ≡ []) ⊎ (low.right ≡ [])) h.right
        (subst (λ u. (a.high.right ≡ []) ⊎ (u ≡ [])) l.right a.spans_back);
    high_begins =
        omega (arith, a.high_begins, ap length h.left, ap length l.left, ap length low_leading);
    low_begins =
        omega (arith, a.low_begins, ap length h.left, ap length l.left, ap length high_leading);
    below = subst (λ σ. IsLess s (signature_at s es' w low) σ) high_signature
        (subst (λ σ. IsLess s σ (signature_at s es w a.high)) low_signature a.below);
    signed = sym high_signature ∙ a.signed;
  }

abbrev pub moved_ambiguity : (s : Setting) (es es' : List Entry) → SameEntries es es'
    → (ρ : Monomial) (w : Word) → Ambiguity s es ρ w → Ambiguity s es' ρ w
moved_ambiguity s es es' same ρ w a =
    like_ambiguity s es es' ρ w a (moved s es es' same w a.high) (moved s es es' same w a.low)
    (record { left = refl; right = refl; entry = other_alike s es es' same w a.high })
    (record { left = refl; right = refl; entry = other_alike s es es' same w a.low })

pub more_same : (es es' : List Entry) (e e' : Entry) → SameEntries es es'
    → untraced_entry e ≡ untraced_entry e' → SameEntries (es ++ (e ∷ [])) (es' ++ (e' ∷ []))
more_same es es' e e' same alike =
    map-append untraced_entry es (e ∷ [])
    ∙ (ap₂ (λ xs x. xs ++ (x ∷ [])) same alike ∙ sym (map-append untraced_entry es' (e' ∷ [])))

pub moved_new : (s : Setting) (es es' : List Entry) (e e' : Entry) → SameEntries es es'
    → untraced_entry e ≡ untraced_entry e' → (ρ : Monomial) → NewAmbiguity s es e ρ
    → NewAmbiguity s es' e' ρ
moved_new s es es' e e' same alike ρ n =
    record {
      word = n.word;
      ambiguity =
          moved_ambiguity s (es ++ (e ∷ [])) (es' ++ (e' ∷ [])) more ρ n.word n.ambiguity;
      newest =
          subst (λ k. (k ≤ n.ambiguity.high.listed.0) ⊎ (k ≤ n.ambiguity.low.listed.0))
          (same_length untraced_entry es es' same) n.newest;
    }
  where
    more : SameEntries (es ++ (e ∷ [])) (es' ++ (e' ∷ []))
    more = more_same es es' e e' same alike
