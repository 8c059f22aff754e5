-- The ambiguities of two entries, listed.
-- Either side may be the one in front, and the other one ends within it or goes past it: four ways
-- to meet (`Way`). On each way they are listed by how far one leading word begins behind the other
-- (`on_way`), and none is missing (`in_pair`).
use Rattle.nc_algebra.proofs.Orders.{Decided, lt_dec, nat_order}
use Rattle.nc_algebra.proofs.Words.{begins, split}
use Rattle.nc_algebra.specs.Elements.{IsLess, Setting}
use Rattle.nc_algebra.specs.Monomials.{Monomial, times, unit_monomial}
use Rattle.nc_algebra.specs.Polynomials.{leading}
use Rattle.nc_algebra.specs.Words.{Word}
use Rattle.nc_theory.proofs.Decisions.{less_dec}
use Rattle.nc_theory.proofs.Determinism.{fronts_same}
use Rattle.nc_theory.proofs.OnePlace.{one_place}
use Rattle.nc_theory.specs.Ambiguities.{Ambiguity}
use Rattle.nc_theory.specs.States.{Entry}
use Rattle.std.proofs.lemmas.List.Elements.{Contains-append_left, Contains-append_right}
use Rattle.std.proofs.lemmas.List.{append_cancel_left}
use Rattle.std.proofs.Common.{Contains, List, [], ap, ap₂, append-nil, append_assoc, arith, inl, inr, length, length-append, refl, subst, subst₂, suc, sym, zero, ℕ, ◌+◌, ◌++◌, ◌<◌, ◌∙◌, ◌∷◌, ◌≡◌, ◌≤◌, ◌⊎◌}

-- whether u stands in w at q, with a property of what is before it and after it
at_place : (u w : Word) (q : ℕ) → (Good : Word → Word → Type 0)
    → ((x g : Word) → Decided (Good x g))
    → Decided ((x : Word) × (g : Word) × (x ++ (u ++ g) ≡ w) × Good x g × (length x ≡ q))
at_place u w q Good good = bounds (nat_order q (length w))
  where
    inside : q ≤ length w → Decided ((x : Word) × (g : Word) × (x ++ (u ++ g) ≡ w) × Good x g
        × (length x ≡ q))
    inside l = parts (split q w l)
      where
        parts : (x : Word) × (y : Word) × (x ++ y ≡ w) × (length x ≡ q)
            → Decided ((x : Word) × (g : Word) × (x ++ (u ++ g) ≡ w) × Good x g × (length x ≡ q))
        parts (x, y, e, n) = go (begins u y)
          where
            front : (t : (x : Word) × (g : Word) × (x ++ (u ++ g) ≡ w) × Good x g × (length x ≡ q))
                → t.0 ≡ x
            front t = fronts_same t.0 (u ++ t.1) x y (t.2 ∙ sym e) (t.4 ∙ sym n)

            back : (t : (x : Word) × (g : Word) × (x ++ (u ++ g) ≡ w) × Good x g × (length x ≡ q))
                → u ++ t.1 ≡ y
            back t =
                append_cancel_left x (u ++ t.1) y (ap (λ z. z ++ (u ++ t.1)) (sym (front t))
                ∙ (t.2 ∙ sym e))

            go : Decided ((r : Word) × (u ++ r ≡ y))
                → Decided ((x : Word) × (g : Word) × (x ++ (u ++ g) ≡ w) × Good x g
                × (length x ≡ q))
            go (inr m) = inr (λ t. m (t.1, back t))
            go (inl (r, i)) = last (good x r)
              where
                last : Decided (Good x r) → Decided ((x : Word) × (g : Word) × (x ++ (u ++ g) ≡ w)
                    × Good x g × (length x ≡ q))
                last (inl p) = inl (x, r, ap (λ z. x ++ z) i ∙ e, p, n)
                last (inr m) =
                    inr (λ t. m (subst₂ Good (front t) (append_cancel_left u t.1 r (back t ∙ sym i))
                    t.3))

    bounds : (q < length w) ⊎ ((q ≡ length w) ⊎ (length w < q))
        → Decided ((x : Word) × (g : Word) × (x ++ (u ++ g) ≡ w) × Good x g × (length x ≡ q))
    bounds (inl h) = inside (omega arith)
    bounds (inr (inl h)) = inside (omega (arith, h))
    bounds (inr (inr h)) =
        inr (λ t. omega (arith, h, t.4, ap length t.2, length-append t.0 (u ++ t.1)))

-- whether v, at q of u, covers the end of u and goes on, with a property
over_end : (u v : Word) (q : ℕ) → (Good : Word → Word → Type 0)
    → ((x f : Word) → Decided (Good x f)) → q ≤ length u
    → Decided ((x : Word) × (f : Word) × (x ++ v ≡ u ++ f) × Good x f × (length x ≡ q))
over_end u v q Good good l = parts (split q u l)
  where
    parts : (x : Word) × (y : Word) × (x ++ y ≡ u) × (length x ≡ q)
        → Decided ((x : Word) × (f : Word) × (x ++ v ≡ u ++ f) × Good x f × (length x ≡ q))
    parts (x, y, e, n) = go (begins y v)
      where
        long : (t : (x : Word) × (f : Word) × (x ++ v ≡ u ++ f) × Good x f × (length x ≡ q))
            → t.0 ++ v ≡ x ++ (y ++ t.1)
        long t = t.2 ∙ (ap (λ z. z ++ t.1) (sym e) ∙ append_assoc x y t.1)

        front : (t : (x : Word) × (f : Word) × (x ++ v ≡ u ++ f) × Good x f × (length x ≡ q))
            → t.0 ≡ x
        front t = fronts_same t.0 v x (y ++ t.1) (long t) (t.4 ∙ sym n)

        back : (t : (x : Word) × (f : Word) × (x ++ v ≡ u ++ f) × Good x f × (length x ≡ q))
            → y ++ t.1 ≡ v
        back t = append_cancel_left x (y ++ t.1) v (sym (long t) ∙ ap (λ z. z ++ v) (front t))

        go : Decided ((r : Word) × (y ++ r ≡ v))
            → Decided ((x : Word) × (f : Word) × (x ++ v ≡ u ++ f) × Good x f × (length x ≡ q))
        go (inr m) = inr (λ t. m (t.1, back t))
        go (inl (r, i)) = last (good x r)
          where
            last : Decided (Good x r) → Decided ((x : Word) × (f : Word) × (x ++ v ≡ u ++ f)
                × Good x f × (length x ≡ q))
            last (inl p) =
                inl (
                  x,
                  r,
                  ap (λ z. x ++ z) (sym i)
                      ∙ (sym (append_assoc x y r) ∙ ap (λ z. z ++ r) e),
                  p,
                  n,
                )
            last (inr m) =
                inr (λ t. m (subst₂ Good (front t) (append_cancel_left y t.1 r (back t ∙ sym i))
                t.3))

-- ---- the ambiguities of two entries, listed

-- a signature with the generator or the ambiguity behind it
abbrev pub FoundAmbiguity : Setting → List Entry → Type 0
FoundAmbiguity s entries =
    (ρ : Monomial) × (((i : ℕ) × (ρ ≡ unit_monomial i)) ⊎ ((w : Word) × Ambiguity s entries ρ w))

-- what is found at the numbers below n
collect : (s : Setting) (entries : List Entry) (Q : ℕ → Type 0) → ((k : ℕ) → Decided (Q k))
    → ((k : ℕ) → Q k → FoundAmbiguity s entries) → ℕ → List (FoundAmbiguity s entries)
collect s entries Q dec make zero = []
collect s entries Q dec make (suc n) =
    elim (dec n) [
      | inl q ↦ make n q ∷ collect s entries Q dec make n
      | inr m ↦ collect s entries Q
          dec make n
    ]

in_collect : (s : Setting) (entries : List Entry) (Q : ℕ → Type 0) (dec : (k : ℕ) → Decided (Q k))
    (make : (k : ℕ) → Q k → FoundAmbiguity s entries)
    → ((k : ℕ) (p q : Q k) → (make k p).0 ≡ (make k q).0) → (n k : ℕ) → k < n → (q : Q k)
    → (x : FoundAmbiguity s entries) × Contains (collect s entries Q dec make n) x
    × (x.0 ≡ (make k q).0)
unfolding collect
in_collect s entries Q dec make same zero k l q = absurd (omega arith)
in_collect s entries Q dec make same (suc n) k l q =
    go (dec n) (nat_order k n) (in_collect s entries Q dec make same n k)
  where
    go : (o : Decided (Q n)) → (k < n) ⊎ ((k ≡ n) ⊎ (n < k))
        → (k < n → (q : Q k) → (x : FoundAmbiguity s entries)
        × Contains (collect s entries Q dec make n) x × (x.0 ≡ (make k q).0))
        → (x : FoundAmbiguity s entries)
        × Contains (elim o [
          | inl q ↦ make n q ∷ collect s entries Q dec make n
          | inr m ↦ collect s
              entries Q dec make n
        ]) x × (x.0 ≡ (make k q).0)
    go (inl p) (inl h) f =
        let t : (x : FoundAmbiguity s entries) × Contains (collect s entries Q dec make n) x
        × (x.0 ≡ (make k q).0) =
        f h q in (
          t.0,
          Contains-append_right (make n p ∷ []) (collect s entries Q dec make n)
              t.0 t.1,
          t.2,
        )
    go (inr m) (inl h) f = f h q
    go (inl p) (inr (inl e)) f = (make n p, (0, omega arith, refl), at k e q)
      where
        at : (k : ℕ) → k ≡ n → (q : Q k) → (make n p).0 ≡ (make k q).0
        at k e = subst (λ j. (q : Q j) → (make n p).0 ≡ (make j q).0) (sym e) (same n p)
    go (inr m) (inr (inl e)) f = absurd (m (subst Q e q))
    go o (inr (inr h)) f = absurd (omega arith)

-- where u stands behind x, and v, which begins with x, ends with what u goes on with: the same x
past_one : (v u x f y g : Word) → x ++ v ≡ u ++ f → y ++ v ≡ u ++ g → length x ≡ length y
    → length x < length u → (x ≡ y) × (f ≡ g)
past_one v u x f y g e d n l = go (split (length x) u (omega arith))
  where
    go : (z : Word) × (r : Word) × (z ++ r ≡ u) × (length z ≡ length x) → (x ≡ y) × (f ≡ g)
    go (z, r, i, k) =
        let front : x ≡ y =
        fronts_same x v z (r ++ f) (e ∙ (ap (λ t. t ++ f) (sym i) ∙ append_assoc z r f)) (sym k)
        ∙ sym (fronts_same y v z (r ++ g) (d ∙ (ap (λ t. t ++ g) (sym i) ∙ append_assoc z r g))
        (sym n ∙ sym k)) in
        (front, append_cancel_left u f g (sym e ∙ (ap (λ t. t ++ v) front ∙ d)))

-- one way for two leading words to meet: x stands before the second one, and f behind. Each way
-- spells the word that they span, and gives signatures to both sides
pub record Way (s : Setting) (entries : List Entry) : Type 1 where
  pub spells : Word → Word → Type 0
  pub low : Word → Word → Monomial
  pub high : Word → Word → Monomial
  -- how many letters x has at most, and how many it and something else have at least
  pub most : ℕ
  pub some : ℕ
  pub decide : (Good : Word → Word → Type 0) → ((x f : Word) → Decided (Good x f)) → (q : ℕ)
      → q < most → Decided ((x : Word) × (f : Word) × spells x f × Good x f × (length x ≡ q))
  pub one : (x f y g : Word) → spells x f → spells y g → length x ≡ length y → length x < most
      → (x ≡ y) × (f ≡ g)
  pub ambiguity : (x f : Word) → spells x f → IsLess s (low x f) (high x f) → length x < most
      → 0 < length x + some → (w : Word) × Ambiguity s entries (high x f) w

module _ (s : Setting) (entries : List Entry) where
  abbrev Has : List (FoundAmbiguity s entries) → Monomial → Type 0
  Has xs ρ = (x : FoundAmbiguity s entries) × Contains xs x × (x.0 ≡ ρ)

  has_left : (xs ys : List (FoundAmbiguity s entries)) (ρ : Monomial) → Has xs ρ → Has (xs ++ ys) ρ
  has_left xs ys ρ t = (t.0, Contains-append_left xs ys t.0 t.1, t.2)

  has_right : (xs ys : List (FoundAmbiguity s entries)) (ρ : Monomial) → Has ys ρ → Has (xs ++ ys) ρ
  has_right xs ys ρ t = (t.0, Contains-append_right xs ys t.0 t.1, t.2)

module _ (s : Setting) (entries : List Entry) (way : Way s entries) where
  -- a place with q letters before it
  abbrev Place : ℕ → Type 0
  Place q =
      (x : Word) × (f : Word) × way.spells x f × IsLess s (way.low x f) (way.high x f)
      × (length x ≡ q) × (q < way.most) × (0 < q + way.some)

  place_dec : (q : ℕ) → Decided (Place q)
  place_dec q = go (lt_dec q way.most) (lt_dec 0 (q + way.some))
    where
      go : Decided (q < way.most) → Decided (0 < q + way.some) → Decided (Place q)
      go (inr l) m = inr (λ k. l k.5)
      go (inl l) (inr m) = inr (λ k. m k.6)
      go (inl l) (inl m) =
          elim (way.decide (λ x f. IsLess s (way.low x f) (way.high x f))
          (λ x f. less_dec s (way.low x f) (way.high x f)) q l) [
            | inl t ↦ inl (t.0, t.1, t.2, t.3, t.4, l, m)
            | inr n ↦ inr (λ k. n (k.0, k.1, k.2, k.3, k.4))
          ]

  found_at : (q : ℕ) → Place q → FoundAmbiguity s entries
  found_at q (x, f, e, less, n, l, m) = (
    way.high x f,
    inr (way.ambiguity x f e less (omega (arith, n, l)) (omega (arith, n, m))),
  )

  found_same : (q : ℕ) (p r : Place q) → (found_at q p).0 ≡ (found_at q r).0
  unfolding found_at
  found_same q p r =
      let t : (p.0 ≡ r.0) × (p.1 ≡ r.1) =
      way.one p.0 p.1 r.0 r.1 p.2 r.2 (p.4 ∙ sym r.4) (omega (arith, p.4, p.5)) in
      ap₂ way.high t.0 t.1

  on_way : List (FoundAmbiguity s entries)
  on_way = collect s entries Place place_dec found_at way.most

  in_way : (x f : Word) → way.spells x f → IsLess s (way.low x f) (way.high x f)
      → length x < way.most → 0 < length x + way.some → Has s entries on_way (way.high x f)
  unfolding on_way found_at
  in_way x f e less l m =
      in_collect s entries Place place_dec found_at found_same way.most (length x) l
      (x, f, e, less, refl, l, m)

module _ (s : Setting) (entries : List Entry) (i : Entry) (c : Contains entries i) (j : Entry)
    (d : Contains entries j) where
  abbrev a : Word
  a = leading s.prime i.polynomial

  abbrev b : Word
  b = leading s.prime j.polynomial

  -- an ambiguity with i as the high side and j as the low one
  abbrev meets : (u f x g w : Word) → u ++ (a ++ f) ≡ w → x ++ (b ++ g) ≡ w → (u ≡ []) ⊎ (x ≡ [])
      → (f ≡ []) ⊎ (g ≡ []) → IsLess s (times x j.signature g) (times u i.signature f)
      → length u < length x + length b → length x < length u + length a → (w : Word)
      × Ambiguity s entries (times u i.signature f) w
  meets u f x g w high low fronts backs less h k = (
    w,
    record {
      high = record { entry = i; listed = c; left = u; right = f; spells = high };
      low = record { entry = j; listed = d; left = x; right = g; spells = low };
      spans_front = fronts;
      spans_back = backs;
      high_begins = h;
      low_begins = k;
      below = less;
      signed = refl;
    },
  )

  -- i is at the front, and j ends within it
  abbrev front_within : Way s entries
  front_within =
      record {
        spells = λ x g. x ++ (b ++ g) ≡ a;
        low = λ x g. times x j.signature g;
        high = λ x g. times [] i.signature [];
        most = length a;
        some = length b;
        decide = λ Good good q l. at_place b a q Good good;
        one = λ x f y g e d n l. one_place b a x f y g e d n;
        ambiguity = λ x g e less l m. meets [] [] x g a (append-nil a) e (inl refl) (inl refl) less
            m (omega (arith, l));
      }

  -- or goes on past it
  abbrev front_past : Way s entries
  front_past =
      record {
        spells = λ x f. x ++ b ≡ a ++ f;
        low = λ x f. times x j.signature [];
        high = λ x f. times [] i.signature f;
        most = length a;
        some = length b;
        decide = λ Good good q l. over_end a b q Good good (omega (arith, l));
        one = past_one b a;
        ambiguity = λ x f e less l m. meets [] f x [] (a ++ f) refl
            (ap (λ z. x ++ z) (append-nil b) ∙ e) (inl refl) (inr refl) less m (omega (arith, l));
      }

  -- j is at the front, and i ends within it
  abbrev back_within : Way s entries
  back_within =
      record {
        spells = λ x f. x ++ (a ++ f) ≡ b;
        low = λ x f. times [] j.signature [];
        high = λ x f. times x i.signature f;
        most = length b;
        some = length a;
        decide = λ Good good q l. at_place a b q Good good;
        one = λ x f y g e d n l. one_place a b x f y g e d n;
        ambiguity = λ x f e less l m. meets x f [] [] b e (append-nil b) (inr refl) (inr refl) less
            (omega (arith, l)) m;
      }

  -- or goes on past it
  abbrev back_past : Way s entries
  back_past =
      record {
        spells = λ x g. x ++ a ≡ b ++ g;
        low = λ x g. times [] j.signature g;
        high = λ x g. times x i.signature [];
        most = length b;
        some = length a;
        decide = λ Good good q l. over_end b a q Good good (omega (arith, l));
        one = past_one a b;
        ambiguity = λ x g e less l m. meets x [] [] g (b ++ g)
            (ap (λ z. x ++ z) (append-nil a) ∙ e) refl (inr refl) (inl refl) less
            (omega (arith, l)) m;
      }

  abbrev fronts : List (FoundAmbiguity s entries)
  fronts = on_way s entries front_within ++ on_way s entries front_past

  abbrev backs : List (FoundAmbiguity s entries)
  backs = on_way s entries back_within ++ on_way s entries back_past

  pub pair : List (FoundAmbiguity s entries)
  pair = fronts ++ backs

  pub in_pair : (u f x g : Word) → u ++ (a ++ f) ≡ x ++ (b ++ g) → (u ≡ []) ⊎ (x ≡ []) → (f ≡ [])
      ⊎ (g ≡ []) → length u < length x + length b → length x < length u + length a
      → IsLess s (times x j.signature g) (times u i.signature f)
      → Has s entries pair (times u i.signature f)
  unfolding pair
  in_pair u f x g e (inl p) back h k less =
      has_left s entries fronts backs (times u i.signature f)
      (subst (λ y. Has s entries fronts (times y i.signature f)) (sym p) (go back))
    where
      l : length x < length a
      l = omega (arith, k, ap length p)

      m : 0 < length x + length b
      m = omega (arith, h, ap length p)

      go : (f ≡ []) ⊎ (g ≡ []) → Has s entries fronts (times [] i.signature f)
      go (inl q) =
          has_left s entries (on_way s entries front_within) (on_way s entries front_past)
          (times [] i.signature f) (subst (λ z. Has s entries (on_way s entries front_within)
          (times [] i.signature z)) (sym q)
          (in_way s entries front_within x g
          (sym e ∙ (ap₂ (λ y z. y ++ (a ++ z)) p q ∙ append-nil a))
          (subst₂ (λ y z. IsLess s (times x j.signature g) (times y i.signature z)) p q less) l m))
      go (inr q) =
          has_right s entries (on_way s entries front_within) (on_way s entries front_past)
          (times [] i.signature f) (in_way s entries front_past x f
          (ap (λ z. x ++ z) (sym (append-nil b))
          ∙ (ap (λ z. x ++ (b ++ z)) (sym q) ∙ (sym e ∙ ap (λ z. z ++ (a ++ f)) p)))
          (subst₂ (λ y z. IsLess s (times x j.signature z) (times y i.signature f)) p q less) l m)
  in_pair u f x g e (inr p) back h k less =
      has_right s entries fronts backs (times u i.signature f) (go back)
    where
      l : length u < length b
      l = omega (arith, h, ap length p)

      m : 0 < length u + length a
      m = omega (arith, k, ap length p)

      go : (f ≡ []) ⊎ (g ≡ []) → Has s entries backs (times u i.signature f)
      go (inr q) =
          has_left s entries (on_way s entries back_within) (on_way s entries back_past)
          (times u i.signature f) (in_way s entries back_within u f
          (e ∙ (ap₂ (λ y z. y ++ (b ++ z)) p q ∙ append-nil b))
          (subst₂ (λ y z. IsLess s (times y j.signature z) (times u i.signature f)) p q less) l m)
      go (inl q) =
          has_right s entries (on_way s entries back_within) (on_way s entries back_past)
          (times u i.signature f) (subst (λ z. Has s entries (on_way s entries back_past)
          (times u i.signature z)) (sym q)
          (in_way s entries back_past u g (ap (λ z. u ++ z) (sym (append-nil a))
          ∙ (ap (λ z. u ++ (a ++ z)) (sym q) ∙ (e ∙ ap (λ z. z ++ (b ++ g)) p)))
          (subst₂ (λ y z. IsLess s (times y j.signature g) (times u i.signature z)) p q less) l m))
