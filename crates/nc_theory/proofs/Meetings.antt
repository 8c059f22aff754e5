-- Two words that meet, and the signature where two entries' leading words do.
-- What stands around two words is known by the place where the second one begins (`around_made`,
-- `around_parts`). So at each place at most one signature is found (`met`, `unmet`).
use Rattle.nc_algebra.proofs.Monomials.{monomial_irrefl, monomial_trans, monomials_compare}
use Rattle.nc_algebra.proofs.Orders.{equal_from_compare, greater_from_compare, less_from_compare, nat_order}
use Rattle.nc_algebra.proofs.Words.{length_at_most}
use Rattle.nc_algebra.specs.Elements.{IsLess, Setting, degree, generator_weight}
use Rattle.nc_algebra.specs.Monomials.{IsMonomialLess, Monomial, compare_monomials, times}
use Rattle.nc_algebra.specs.Polynomials.{leading}
use Rattle.nc_algebra.specs.Words.{Word}
use Rattle.nc_theory.proofs.Small.{usable_lead}
use Rattle.nc_theory.specs.Found.{Meeting}
use Rattle.nc_theory.specs.Meetings.{AreAround, IsGreaterOf, IsMeeting, IsOnly, MeetAt}
use Rattle.nc_theory.specs.Usable.{IsUsable}
use Rattle.nc_theory.proofs.Determinism.{fronts_same}
use Rattle.nc_theory.specs.States.{Entry}
use Rattle.std.proofs.Common.{Bool, Equal, false, ◌==◌, ◌∷◌, Greater, Less, None, Option, Some, [], ap, append-nil, append_assoc, arith, drop, inl, inr, length, length-append, min, refl, subst, sym, take, ℕ, ◌+◌, ◌++◌, ◌<◌, ◌∙◌, ◌≡◌, ◌≤◌, ◌⊎◌}
use Rattle.std.proofs.Math.ListN.{drop_of_length-le}
use Rattle.std.proofs.Math.Seq.{drop-append_seam, take-append_seam}
use Rattle.std.proofs.lemmas.Bool.{false≢true}
use Rattle.std.proofs.lemmas.List.{append_cancel_left, drop-append-le, length-take-le, nil_from_length, take-append-drop, take-append-le}

-- ---- words

-- where the first n letters are all of p
whole : (n : ℕ) (p : Word) → length p ≤ n → take n p ≡ p
whole n p h =
    sym (append-nil (take n p)) ∙ (ap (λ z. take n p ++ z) (sym (drop_of_length-le p h))
    ∙ take-append-drop n p)

shorter_made : (p v : Word) (n : ℕ) → length p ≤ n → take n p ≡ take n v
    → p ++ drop n v ≡ v ++ drop n p
shorter_made p v n h e =
    ap (λ z. z ++ drop n v) (sym (whole n p h) ∙ e)
    ∙ (take-append-drop n v ∙ (sym (append-nil v) ∙ ap (λ z. v ++ z) (sym (drop_of_length-le p h))))

shorter_parts : (p v y z : Word) (n : ℕ) → n ≡ length p → length p ≤ length v → p ++ y ≡ v ++ z
    → (y ≡ []) ⊎ (z ≡ []) → (take n p ≡ take n v) × (y ≡ drop n v) × (z ≡ drop n p)
shorter_parts p v y z n is h e d =
    subst (λ m. (take m p ≡ take m v) × (y ≡ drop m v) × (z ≡ drop m p)) (sym is) (
      front,
      back,
      none ∙ sym (drop_of_length-le p (omega arith)),
    )
  where
    empty : (y ≡ []) ⊎ (z ≡ []) → z ≡ []
    empty (inl i) =
        nil_from_length z (omega (
          arith,
          h,
          ap length e,
          length-append p y,
          length-append v z,
          ap length i,
        ))
    empty (inr i) = i

    none : z ≡ []
    none = empty d

    front : take (length p) p ≡ take (length p) v
    front = whole (length p) p (omega arith)
        ∙ (sym (take-append_seam p y) ∙ (ap (take (length p)) e ∙ take-append-le (length p) v z h))

    back : y ≡ drop (length p) v
    back = sym (drop-append_seam p y)
        ∙ (ap (drop (length p)) e ∙ (drop-append-le (length p) v z h
        ∙ (ap (λ a. drop (length p) v ++ a) none ∙ append-nil (drop (length p) v))))

pub not_empty : (v : Word) (b : Bool) → b ≡ (length v == 0) → b ≡ false → 0 < length v
not_empty [] b e d = absurd (false≢true (sym d ∙ e))
not_empty (x ∷ v) b e d = omega arith

pub swap : {A B : Type 0} → A ⊎ B → B ⊎ A
swap (inl a) = inr a
swap (inr b) = inl b

ordered : (a b : ℕ) → (a ≤ b) ⊎ (b ≤ a)
ordered a b = go (nat_order a b)
  where
    go : (a < b) ⊎ ((a ≡ b) ⊎ (b < a)) → (a ≤ b) ⊎ (b ≤ a)
    go (inl h) = inl (omega arith)
    go (inr (inl h)) = inl (omega arith)
    go (inr (inr h)) = inr (omega arith)

made : (p v : Word) (n : ℕ) → n ≡ min (length p) (length v) → take n p ≡ take n v
    → (p ++ drop n v ≡ v ++ drop n p) × ((drop n v ≡ []) ⊎ (drop n p ≡ []))
made p v n is e = go (ordered (length p) (length v))
  where
    go : (length p ≤ length v) ⊎ (length v ≤ length p) → (p ++ drop n v ≡ v ++ drop n p)
        × ((drop n v ≡ []) ⊎ (drop n p ≡ []))
    go (inl h) =
        let l : length p ≤ n = omega arith in (shorter_made p v n l e, inr (drop_of_length-le p l))
    go (inr h) =
        let l : length v ≤ n =
        omega arith in (sym (shorter_made v p n l (sym e)), inl (drop_of_length-le v l))

parts : (p v y z : Word) (n : ℕ) → n ≡ min (length p) (length v) → p ++ y ≡ v ++ z → (y ≡ [])
    ⊎ (z ≡ []) → (take n p ≡ take n v) × (y ≡ drop n v) × (z ≡ drop n p)
parts p v y z n is e d = go (ordered (length p) (length v))
  where
    go : (length p ≤ length v) ⊎ (length v ≤ length p) → (take n p ≡ take n v) × (y ≡ drop n v)
        × (z ≡ drop n p)
    go (inl h) = shorter_parts p v y z n (omega arith) h e d
    go (inr h) =
        let t : (take n v ≡ take n p) × (z ≡ drop n p) × (y ≡ drop n v) =
        shorter_parts v p z y n (omega arith) h (sym e) (swap d) in (sym t.0, t.2, t.1)

-- where the letters agree, what is around
pub around_made : (u v : Word) (k n : ℕ) → k ≤ length u → n ≡ min (length (drop k u)) (length v)
    → take n (drop k u) ≡ take n v → AreAround u v k (take k u) (drop n v) (drop n (drop k u))
around_made u v k n h is e =
    let t : (drop k u ++ drop n v ≡ v ++ drop n (drop k u))
    × ((drop n v ≡ []) ⊎ (drop n (drop k u) ≡ [])) = made (drop k u) v n is e in (
      ap (λ a. a ++ drop n v) (sym (take-append-drop k u))
          ∙ (append_assoc (take k u) (drop k u) (drop n v) ∙ ap (λ a. take k u ++ a) t.0),
      t.1,
      length-take-le k u h,
    )

-- what is around is known by the place, and the letters agree
pub around_parts : (u v : Word) (k n : ℕ) (x y z : Word) → k ≤ length u
    → n ≡ min (length (drop k u)) (length v) → AreAround u v k x y z
    → (take n (drop k u) ≡ take n v) × (x ≡ take k u) × (y ≡ drop n v) × (z ≡ drop n (drop k u))
around_parts u v k n x y z h is a = (t.0, sym front, t.1, t.2)
  where
    pieces : take k u ++ (drop k u ++ y) ≡ x ++ (v ++ z)
    pieces =
        sym (append_assoc (take k u) (drop k u) y) ∙ (ap (λ b. b ++ y) (take-append-drop k u) ∙ a.0)

    front : take k u ≡ x
    front = fronts_same (take k u) (drop k u ++ y) x (v ++ z) pieces
        (length-take-le k u h ∙ sym a.2)

    t : (take n (drop k u) ≡ take n v) × (y ≡ drop n v) × (z ≡ drop n (drop k u))
    t = parts (drop k u) v y z n is
        (append_cancel_left x (drop k u ++ y) (v ++ z) (ap (λ b. b ++ (drop k u ++ y)) (sym front)
        ∙ pieces)) a.1

pub one_around : (u v : Word) (k : ℕ) (x y z x' y' z' : Word) → k ≤ length u → AreAround u v k x y z
    → AreAround u v k x' y' z' → (x ≡ x') × (y ≡ y') × (z ≡ z')
one_around u v k x y z x' y' z' h a b =
    let p = around_parts u v k (min (length (drop k u)) (length v)) x y z h refl a in
    let q = around_parts u v k (min (length (drop k u)) (length v)) x' y' z' h refl b in
    (p.1 ∙ sym q.1, p.2 ∙ sym q.2, p.3 ∙ sym q.3)

-- what is around is no longer than the words
pub around_short : (u v : Word) (k : ℕ) (x y z : Word) → k ≤ length u → AreAround u v k x y z
    → (length x ≤ length u) × (length y ≤ length v) × (length z ≤ length u)
around_short u v k x y z h a = go a.1
  where
    sum : length u + length y ≡ length x + (length v + length z)
    sum = omega (
      arith,
      ap length a.0,
      length-append u y,
      length-append x (v ++ z),
      length-append v z,
    )

    go : (y ≡ []) ⊎ (z ≡ []) → (length x ≤ length u) × (length y ≤ length v) × (length z ≤ length u)
    go (inl i) = (omega (arith, a.2), omega (arith, ap length i), omega (arith, sum, ap length i))
    go (inr i) =
        (omega (arith, a.2), omega (arith, sum, a.2, ap length i), omega (arith, ap length i))

-- ---- the greater side

module _ (s : Setting) where
  pub less_only : (σ τ : Monomial) → compare_monomials (generator_weight s) σ τ ≡ Less
      → IsOnly (IsGreaterOf s σ τ) (Some τ)
  less_only σ τ e = (inl (l, refl), only)
    where
      l : IsLess s σ τ
      l = less_from_compare (compare_monomials (generator_weight s))
          (IsMonomialLess (generator_weight s)) (monomials_compare (generator_weight s)) σ τ e

      only : (ρ : Monomial) → IsGreaterOf s σ τ ρ → ρ ≡ τ
      only ρ (inl g) = g.1
      only ρ (inr g) =
          absurd (monomial_irrefl (generator_weight s) σ
          (monomial_trans (generator_weight s) σ τ σ l g.0))

  pub greater_only : (σ τ : Monomial) → compare_monomials (generator_weight s) σ τ ≡ Greater
      → IsOnly (IsGreaterOf s σ τ) (Some σ)
  greater_only σ τ e = (inr (l, refl), only)
    where
      l : IsLess s τ σ
      l = greater_from_compare (compare_monomials (generator_weight s))
          (IsMonomialLess (generator_weight s)) (monomials_compare (generator_weight s)) σ τ e

      only : (ρ : Monomial) → IsGreaterOf s σ τ ρ → ρ ≡ σ
      only ρ (inl g) =
          absurd (monomial_irrefl (generator_weight s) σ
          (monomial_trans (generator_weight s) σ τ σ g.0 l))
      only ρ (inr g) = g.1

  pub equal_only : (σ τ : Monomial) → compare_monomials (generator_weight s) σ τ ≡ Equal
      → IsOnly (IsGreaterOf s σ τ) None
  equal_only σ τ e ρ = go
    where
      same : σ ≡ τ
      same = equal_from_compare (compare_monomials (generator_weight s))
          (IsMonomialLess (generator_weight s)) (monomials_compare (generator_weight s)) σ τ e

      go : IsGreaterOf s σ τ ρ → ⊥
      go (inl g) = monomial_irrefl (generator_weight s) τ (subst (λ z. IsLess s z τ) same g.0)
      go (inr g) = monomial_irrefl (generator_weight s) τ (subst (λ z. IsLess s τ z) same g.0)

  -- ---- leading words

  pub lead_short : (e : Entry) (n : ℕ) → IsUsable s e → degree s e.signature ≤ n
      → length (leading s.prime e.polynomial) ≤ n
  lead_short e n u h =
      omega (
        arith,
        h,
        u.light (leading s.prime e.polynomial) (usable_lead s e u).nonzero,
        length_at_most (leading s.prime e.polynomial),
      )

  pub sides_short : (σ : Monomial) (n : ℕ) → degree s σ ≤ n → (length σ.left ≤ n)
      × (length σ.right ≤ n)
  sides_short σ n h =
      (omega (arith, h, length_at_most σ.left), omega (arith, h, length_at_most σ.right))

  module _ (e f : Entry) (k : ℕ) where
    pub around_leads : (u v : Word) → u ≡ leading s.prime e.polynomial
        → v ≡ leading s.prime f.polynomial → (o : Option Meeting) (m : Meeting) → o ≡ Some m
        → IsMeeting u v k o → AreAround (leading s.prime e.polynomial)
        (leading s.prime f.polynomial) k m.before m.behind_first m.behind_second
    around_leads u v i j o m h a =
        subst (λ b. AreAround b (leading s.prime f.polynomial) k m.before m.behind_first
        m.behind_second) i (subst (λ b. AreAround u b k m.before m.behind_first m.behind_second) j
        (subst (IsMeeting u v k) h a))

    -- the words of both sides have few letters
    sides_fit : (x y z : Word) (n : ℕ) → IsUsable s e → IsUsable s f → degree s e.signature ≤ n
        → degree s f.signature ≤ n → AreAround (leading s.prime e.polynomial)
        (leading s.prime f.polynomial) k x y z → k < length (leading s.prime e.polynomial)
        → (length e.signature.left ≤ n) × (length e.signature.right + length y ≤ n + n)
        × (length x + length f.signature.left ≤ n + n)
        × (length f.signature.right + length z ≤ n + n)
    sides_fit x y z n a b g h m l =
        let around : (length x ≤ length (leading s.prime e.polynomial))
        × (length y ≤ length (leading s.prime f.polynomial))
        × (length z ≤ length (leading s.prime e.polynomial)) =
        around_short (leading s.prime e.polynomial) (leading s.prime f.polynomial) k x y z
        (omega (arith, l)) m in
        let one : (length e.signature.left ≤ n) × (length e.signature.right ≤ n) =
        sides_short e.signature n g in
        let two : (length f.signature.left ≤ n) × (length f.signature.right ≤ n) =
        sides_short f.signature n h in
        let first : length (leading s.prime e.polynomial) ≤ n = lead_short e n a g in
        let second : length (leading s.prime f.polynomial) ≤ n = lead_short f n b h in
        (one.0, omega arith, omega arith, omega arith)

    -- they do not meet
    pub unmet : (u v : Word) → u ≡ leading s.prime e.polynomial → v ≡ leading s.prime f.polynomial
        → IsMeeting u v k None → IsOnly (MeetAt s e f k) None
    unmet u v i j none σ m =
        subst (λ a. IsMeeting a v k None) i none m.before m.behind_first m.behind_second
        (subst (λ b. AreAround (leading s.prime e.polynomial) b k m.before m.behind_first
        m.behind_second) (sym j) m.around)

    pub met : (x y z : Word) (one two : Monomial)
        → AreAround (leading s.prime e.polynomial) (leading s.prime f.polynomial) k x y z
        → k < length (leading s.prime e.polynomial) → 0 < k + length (leading s.prime f.polynomial)
        → one ≡ times [] e.signature y → two ≡ times x f.signature z → (o : Option Monomial)
        → IsOnly (IsGreaterOf s one two) o → IsOnly (MeetAt s e f k) o
    met x y z one two a h g i j o p =
        go o (subst (λ σ. IsOnly (IsGreaterOf s (times [] e.signature y) σ) o) j
        (subst (λ σ. IsOnly (IsGreaterOf s σ two) o) i p))
      where
        side : (σ : Monomial) → MeetAt s e f k σ
            → IsGreaterOf s (times [] e.signature y) (times x f.signature z) σ
        side σ m =
            let t = one_around (leading s.prime e.polynomial) (leading s.prime f.polynomial) k
            m.before m.behind_first m.behind_second x y z (omega (arith, h)) m.around a in
            subst (λ b. IsGreaterOf s (times [] e.signature y) (times b f.signature z) σ) t.0
            (subst (λ b. IsGreaterOf s (times [] e.signature y) (times m.before f.signature b) σ)
            t.2
            (subst (λ b. IsGreaterOf s (times [] e.signature b)
            (times m.before f.signature m.behind_second) σ) t.1 m.greater))

        go : (o : Option Monomial) → IsOnly
            (IsGreaterOf s (times [] e.signature y) (times x f.signature z)) o
            → IsOnly (MeetAt s e f k) o
        go None none = λ σ m. none σ (side σ m)
        go (Some τ) q = (
          record {
            before = x;
            behind_first = y;
            behind_second = z;
            around = a;
            within = h;
            some = g;
            greater = q.0;
          },
          λ σ m. q.1 σ (side σ m),
        )
