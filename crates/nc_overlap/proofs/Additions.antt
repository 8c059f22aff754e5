-- Lists to which signatures are added, one kind after another.
-- What stands before a place adds to the degree of the second entry's multiple. So a place far
-- behind leaves no room within the bound, and neither does any place after it (`room`); these are
-- not looked at.
use Rattle.nc_algebra.proofs.Degrees.{degree_within, degrees}
use Rattle.nc_algebra.proofs.Monomials.{degree-times}
use Rattle.nc_algebra.proofs.Words.{length_at_most}
use Rattle.nc_algebra.specs.Elements.{HasDegree, degree, generator_weight}
use Rattle.nc_algebra.specs.Monomials.{Monomial, Sig, monomial_of, times}
use Rattle.nc_algebra.specs.Polynomials.{leading}
use Rattle.nc_algebra.specs.Problems.{IsWithin, Problem, bound_degree}
use Rattle.nc_overlap.specs.Overlaps.{AddsAmbiguities, IsEnough, MeetsEither}
use Rattle.nc_theory.proofs.Indexed.{Before, OfEntry}
use Rattle.nc_theory.specs.Meetings.{IsGreaterOf, IsOnly, MeetAt, MeetSomewhere}
use Rattle.nc_theory.proofs.Determinism.{listed_same}
use Rattle.nc_theory.specs.States.{Entry}
use Rattle.std.proofs.Common.{Contains, List, Some, [], ap, arith, get_or, inl, inr, length, map, refl, subst, sym, ℕ, ◌+◌, ◌++◌, ◌<◌, ◌∷◌, ◌≡◌, ◌≤◌, ◌⊎◌}
use Rattle.std.proofs.lemmas.List.Elements.{All-push, Contains-append_left, Contains-push, Contains-push_cases}
use Rattle.std.proofs.lemmas.List.{get_or_default, map-append}

module _ (P : Problem) where
  pub adds_none : (set : Monomial → Type 0) (l : List Sig)
      → ((ρ : Monomial) → IsWithin P ρ → ¬ set ρ) → AddsAmbiguities P set l l
  adds_none set l none = record { degrees = λ a. a; exact = λ ρ. (λ c. inl c, back ρ) }
    where
      back : (ρ : Monomial) → Contains (map monomial_of l) ρ ⊎ (IsWithin P ρ × set ρ)
          → Contains (map monomial_of l) ρ
      back ρ (inl c) = c
      back ρ (inr w) = absurd (none ρ w.0 w.1)

  pub adds_one : (l : List Sig) (σ : Sig) → HasDegree P.setting σ → IsWithin P (monomial_of σ)
      → AddsAmbiguities P (λ ρ. ρ ≡ monomial_of σ) l (l ++ σ ∷ [])
  adds_one l σ h w =
      record {
        degrees = λ a. All-push (HasDegree P.setting) l σ a h;
        exact = λ ρ. (forth ρ, back ρ);
      }
    where
      pushed : map monomial_of (l ++ σ ∷ []) ≡ map monomial_of l ++ monomial_of σ ∷ []
      pushed = map-append monomial_of l (σ ∷ [])

      forth : (ρ : Monomial) → Contains (map monomial_of (l ++ σ ∷ [])) ρ
          → Contains (map monomial_of l) ρ ⊎ (IsWithin P ρ × (ρ ≡ monomial_of σ))
      forth ρ c =
          go (Contains-push_cases (map monomial_of l) (monomial_of σ) ρ
          (subst (λ x. Contains x ρ) pushed c))
        where
          go : Contains (map monomial_of l) ρ ⊎ (monomial_of σ ≡ ρ) → Contains (map monomial_of l) ρ
              ⊎ (IsWithin P ρ × (ρ ≡ monomial_of σ))
          go (inl d) = inl d
          go (inr e) = inr (subst (IsWithin P) e w, sym e)

      back : (ρ : Monomial) → Contains (map monomial_of l) ρ ⊎ (IsWithin P ρ × (ρ ≡ monomial_of σ))
          → Contains (map monomial_of (l ++ σ ∷ [])) ρ
      back ρ (inl c) =
          subst (λ x. Contains x ρ) (sym pushed)
          (Contains-append_left (map monomial_of l) (monomial_of σ ∷ []) ρ c)
      back ρ (inr e) =
          subst (λ x. Contains x ρ) (sym pushed)
          (subst (Contains (map monomial_of l ++ monomial_of σ ∷ [])) (sym e.1)
          (Contains-push (map monomial_of l) (monomial_of σ)))

  -- another set with the same ones within the bound
  pub adds_same : (A B : Monomial → Type 0) (x y : List Sig) → ((ρ : Monomial) → A ρ → B ρ)
      → ((ρ : Monomial) → IsWithin P ρ → B ρ → A ρ) → AddsAmbiguities P A x y
      → AddsAmbiguities P B x y
  adds_same A B x y to from a =
      record {
        degrees = a.degrees;
        exact = λ ρ. (
          λ c. forth ρ ((a.exact ρ).0 c),
          λ c. (a.exact ρ).1 (back ρ c),
        );
      }
    where
      forth : (ρ : Monomial) → Contains (map monomial_of x) ρ ⊎ (IsWithin P ρ × A ρ)
          → Contains (map monomial_of x) ρ ⊎ (IsWithin P ρ × B ρ)
      forth ρ (inl c) = inl c
      forth ρ (inr w) = inr (w.0, to ρ w.1)

      back : (ρ : Monomial) → Contains (map monomial_of x) ρ ⊎ (IsWithin P ρ × B ρ)
          → Contains (map monomial_of x) ρ ⊎ (IsWithin P ρ × A ρ)
      back ρ (inl c) = inl c
      back ρ (inr w) = inr (w.0, from ρ w.0 w.1)

  -- one after the other
  pub adds_both : (A B : Monomial → Type 0) (x y z : List Sig) → AddsAmbiguities P A x y
      → AddsAmbiguities P B y z → AddsAmbiguities P (λ ρ. A ρ ⊎ B ρ) x z
  adds_both A B x y z a b =
      record {
        degrees = λ all. b.degrees (a.degrees all);
        exact = λ ρ. (λ c. forth ρ ((b.exact ρ).0 c), back ρ);
      }
    where
      first : (ρ : Monomial) → Contains (map monomial_of x) ρ ⊎ (IsWithin P ρ × A ρ)
          → Contains (map monomial_of x) ρ ⊎ (IsWithin P ρ × (A ρ ⊎ B ρ))
      first ρ (inl c) = inl c
      first ρ (inr w) = inr (w.0, inl w.1)

      forth : (ρ : Monomial) → Contains (map monomial_of y) ρ ⊎ (IsWithin P ρ × B ρ)
          → Contains (map monomial_of x) ρ ⊎ (IsWithin P ρ × (A ρ ⊎ B ρ))
      forth ρ (inl c) = first ρ ((a.exact ρ).0 c)
      forth ρ (inr w) = inr (w.0, inr w.1)

      back : (ρ : Monomial) → Contains (map monomial_of x) ρ ⊎ (IsWithin P ρ × (A ρ ⊎ B ρ))
          → Contains (map monomial_of z) ρ
      back ρ (inl c) = (b.exact ρ).1 (inl ((a.exact ρ).1 (inl c)))
      back ρ (inr (w, inl h)) = (b.exact ρ).1 (inl ((a.exact ρ).1 (inr (w, h))))
      back ρ (inr (w, inr h)) = (b.exact ρ).1 (inr (w, h))

  -- the only one of a set
  pub adds_only : (set : Monomial → Type 0) (μ : Monomial) (x y : List Sig) → IsOnly set (Some μ)
      → AddsAmbiguities P (λ ρ. ρ ≡ μ) x y → AddsAmbiguities P set x y
  adds_only set μ x y only =
      adds_same (λ ρ. ρ ≡ μ) set x y (λ ρ e. subst set (sym e) only.0) (λ ρ w h. only.1 ρ h)

  -- ---- one kind after another

  pub adds_start : (kind : ℕ → Monomial → Type 0) (l : List Sig)
      → AddsAmbiguities P (Before kind 0) l l
  adds_start kind l = adds_none (Before kind 0) l (λ ρ w b. omega (arith, b.1))

  pub adds_step : (kind : ℕ → Monomial → Type 0) (n : ℕ) (x y z : List Sig)
      → AddsAmbiguities P (Before kind n) x y → AddsAmbiguities P (kind n) y z
      → AddsAmbiguities P (Before kind (n + 1)) x z
  adds_step kind n x y z a b =
      adds_same (λ ρ. Before kind n ρ ⊎ kind n ρ) (Before kind (n + 1)) x z to (λ ρ w. from ρ)
      (adds_both (Before kind n) (kind n) x y z a b)
    where
      to : (ρ : Monomial) → Before kind n ρ ⊎ kind n ρ → Before kind (n + 1) ρ
      to ρ (inl h) = (h.0, omega (arith, h.1), h.2)
      to ρ (inr h) = (n, omega arith, h)

      from : (ρ : Monomial) → Before kind (n + 1) ρ → Before kind n ρ ⊎ kind n ρ
      from ρ (k, l, h) = go (split k n l)
        where
          split : (k n : ℕ) → k < n + 1 → (k < n) ⊎ (k ≡ n)
          split k n l = grind arith

          go : (k < n) ⊎ (k ≡ n) → Before kind n ρ ⊎ kind n ρ
          go (inl m) = inl (k, m, h)
          go (inr m) = inr (subst (λ j. kind j ρ) m h)

  -- a place with no room behind it has no signature within the bound
  room : (e f : Entry) (n k : ℕ) (ρ : Monomial)
      → bound_degree P.setting P.bound < n + degree P.setting f.signature → IsWithin P ρ
      → MeetAt P.setting e f k ρ → k < n
  room e f n k ρ past w m =
      omega (
        arith,
        past,
        m.around.2,
        degree_within P.setting P.bound ρ w.1,
        length_at_most m.before,
        degree-times (generator_weight P.setting) m.before m.behind_second
            f.signature,
        at_least m.greater,
      )
    where
      at_least : IsGreaterOf P.setting (times [] e.signature m.behind_first)
          (times m.before f.signature m.behind_second) ρ
          → degree P.setting (times m.before f.signature m.behind_second) ≤ degree P.setting ρ
      at_least (inl g) =
          let same : degree P.setting ρ ≡ degree P.setting
          (times m.before f.signature m.behind_second) =
          ap (degree P.setting) g.1 in omega (arith, same)
      at_least (inr g) =
          let same : degree P.setting ρ ≡ degree P.setting (times [] e.signature m.behind_first) =
          ap (degree P.setting) g.1 in
          omega (
            arith,
            same,
            degrees P.setting (times m.before f.signature m.behind_second)
                (times [] e.signature m.behind_first) (inr g.0),
          )

  -- all places where one leading word begins within another
  pub adds_places : (e f : Entry) (n : ℕ) (x y : List Sig)
      → IsEnough P (length (leading P.setting.prime e.polynomial)) (degree P.setting f.signature) n
      → AddsAmbiguities P (Before (MeetAt P.setting e f) n) x y
      → AddsAmbiguities P (MeetSomewhere P.setting e f) x y
  adds_places e f n x y (inl h) =
      adds_same (Before (MeetAt P.setting e f) n) (MeetSomewhere P.setting e f) x y
      (λ ρ b. (b.0, b.2)) (λ ρ w m. (m.0, omega (arith, h, m.1.within), m.1))
  adds_places e f n x y (inr h) =
      adds_same (Before (MeetAt P.setting e f) n) (MeetSomewhere P.setting e f) x y
      (λ ρ b. (b.0, b.2)) (λ ρ w m. (m.0, room e f n m.0 ρ h w m.1, m.1))

  pub enough_more : (all all' d d' n m : ℕ) → all' ≡ all → d' ≡ d → n ≤ m → IsEnough P all d n
      → IsEnough P all' d' m
  enough_more all all' d d' n m a b l (inl h) = inl (omega (arith, a, l, h))
  enough_more all all' d d' n m a b l (inr h) = inr (omega (arith, b, l, h))

  -- the entry at one index, and all entries
  abbrev Either : Entry → Entry → Monomial → Type 0
  Either new e ρ = MeetSomewhere P.setting e new ρ ⊎ MeetSomewhere P.setting new e ρ

  pub adds_entry : (entries : List Entry) (new : Entry) (k : ℕ) (x y z : List Sig)
      → k < length entries → AddsAmbiguities P (MeetSomewhere P.setting (get_or entries k new) new)
      x y → AddsAmbiguities P (MeetSomewhere P.setting new (get_or entries k new)) y z
      → AddsAmbiguities P (OfEntry entries (λ e ρ. MeetSomewhere P.setting e new ρ
      ⊎ MeetSomewhere P.setting new e ρ) k) x z
  adds_entry entries new k x y z h a b =
      adds_same (Either new e) (OfEntry entries (Either new) k) x z
      (λ ρ m. (e, (k, h, found), refl, m))
      (λ ρ w m. subst (λ (d : Entry). Either new d ρ)
      (listed_same entries m.0 e m.1 (k, h, found) m.2) m.3)
      (adds_both (MeetSomewhere P.setting e new) (MeetSomewhere P.setting new e) x y z a b)
    where
      e : Entry
      e = get_or entries k new

      found : get_or entries k (get_or entries k new) ≡ get_or entries k new
      found = get_or_default entries k (get_or entries k new) new h

  pub adds_entries : (entries : List Entry) (new : Entry) (n : ℕ) (x y : List Sig)
      → length entries ≤ n → AddsAmbiguities P
      (Before (OfEntry entries (λ e ρ. MeetSomewhere P.setting e new ρ
      ⊎ MeetSomewhere P.setting new e ρ)) n) x y
      → AddsAmbiguities P (MeetsEither P.setting entries new) x y
  adds_entries entries new n x y h =
      adds_same (Before (OfEntry entries (Either new)) n) (MeetsEither P.setting entries new) x y
      (λ ρ b. (b.2.0, b.2.1, b.2.3))
      (λ ρ w m. (m.1.0, omega (arith, h, m.1.1), (m.0, m.1, refl, m.2)))
