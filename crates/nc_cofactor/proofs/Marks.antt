-- Marks of the entries that numbers, steps and traces name.
use Rattle.nc_cofactor.specs.Needed.{IsMarked, MarksMore}
use Rattle.nc_cofactor.specs.Terms.{Names}
use Rattle.nc_theory.specs.States.{Step, Trace}
use Rattle.std.proofs.Common.{Bool, Contains, List, [], ap, arith, false, get_or, inl, inr, length, refl, subst, sym, take, true, ℕ, ◌+◌, ◌++◌, ◌-◌, ◌<◌, ◌∙◌, ◌∷◌, ◌≡◌, ◌≤◌, ◌↔◌, ◌⊎◌}
use Rattle.std.proofs.lemmas.Bool.{false≢true}
use Rattle.std.proofs.lemmas.List.{take_all, take_more}
use Rattle.std.proofs.lemmas.List.Elements.{Contains-append_left, Contains-get_or, Contains-push, Contains-push_cases}
use Rattle.std.proofs.lemmas.Option.{get_or_from_slice_get, slice_get_within}
use Rattle.std.specs.List.{All}

-- ---- the loop over numbers, and over steps

-- one of these has the number j
abbrev pub SomeHas : {X : Type 0} → (X → ℕ) → List X → ℕ → Type 0
SomeHas {X} number xs j = (x : X) × Contains xs x × (number x ≡ j)

module _ {X : Type 0} (number : X → ℕ) where
  pub marks_begin : (marks now : List Bool) (xs : List X) → now ≡ marks
      → MarksMore marks now (SomeHas number (take 0 xs))
  marks_begin marks now xs same j one =
      (λ m. inl (subst (λ (l : List Bool). IsMarked l j) same m), λ k. back k)
    where
      back : IsMarked marks j ⊎ SomeHas number (take 0 xs) j → IsMarked now j
      back (inl m) = subst (λ (l : List Bool). IsMarked l j) (sym same) m
      back (inr (x, c, e)) = absurd (omega (arith, c.1))

  pub marks_more : (first old new : List Bool) (xs : List X) (i : ℕ) (t : X) → i < length xs
      → t ≡ get_or xs i t → MarksMore first old (SomeHas number (take i xs))
      → MarksMore old new (λ j. number t ≡ j)
      → MarksMore first new (SomeHas number (take (i + 1) xs))
  marks_more first old new xs i t within is so_far more j one = (forth, back)
    where
      whole : take (i + 1) xs ≡ take i xs ++ t ∷ []
      whole = take_more xs i t within ∙ ap (λ (x : X). take i xs ++ (x ∷ [])) (sym is)

      earlier : SomeHas number (take i xs) j → SomeHas number (take (i + 1) xs) j
      earlier (x, c, e) = (
        x,
        subst (λ (l : List X). Contains l x) (sym whole)
            (Contains-append_left (take i xs) (t ∷ []) x c),
        e,
      )

      this : number t ≡ j → SomeHas number (take (i + 1) xs) j
      this e =
          (t, subst (λ (l : List X). Contains l t) (sym whole) (Contains-push (take i xs) t), e)

      forth : IsMarked new j → IsMarked first j ⊎ SomeHas number (take (i + 1) xs) j
      forth m = go ((more j one).0 m)
        where
          go : IsMarked old j ⊎ (number t ≡ j) → IsMarked first j
              ⊎ SomeHas number (take (i + 1) xs) j
          go (inl k) = elim ((so_far j one).0 k) [ inl f ↦ inl f | inr n ↦ inr (earlier n) ]
          go (inr e) = inr (this e)

      split : SomeHas number (take (i + 1) xs) j → SomeHas number (take i xs) j ⊎ (number t ≡ j)
      split (x, c, e) =
          go (Contains-push_cases (take i xs) t x (subst (λ (l : List X). Contains l x) whole c))
        where
          go : Contains (take i xs) x ⊎ (t ≡ x) → SomeHas number (take i xs) j ⊎ (number t ≡ j)
          go (inl k) = inl (x, k, e)
          go (inr same) = inr (ap number same ∙ e)

      back : IsMarked first j ⊎ SomeHas number (take (i + 1) xs) j → IsMarked new j
      back (inl f) = (more j one).1 (inl ((so_far j one).1 (inl f)))
      back (inr n) =
          elim (split n) [
            | inl k ↦ (more j one).1 (inl ((so_far j one).1 (inr k)))
            | inr e ↦
                (more j one).1 (inr e)
          ]

  pub marks_end : (first now : List Bool) (xs : List X) (i : ℕ) → length xs ≤ i
      → MarksMore first now (SomeHas number (take i xs)) → MarksMore first now (SomeHas number xs)
  marks_end first now xs i long h =
      subst (λ (l : List X). MarksMore first now (SomeHas number l)) (take_all i xs long) h

-- numbers by themselves
pub numbers_mark : (first now : List Bool) (numbers : List ℕ)
    → MarksMore first now (SomeHas (λ n. n) numbers) → MarksMore first now (Contains numbers)
numbers_mark first now numbers h j one = (
  λ m. elim ((h j one).0 m) [ inl k ↦ inl k | inr k ↦ inr (subst (Contains numbers) k.2 k.1) ],
  back,
)
  where
    back : IsMarked first j ⊎ Contains numbers j → IsMarked now j
    back (inl k) = (h j one).1 (inl k)
    back (inr k) = (h j one).1 (inr (j, k, refl))

-- where no mark was set before, only these are
pub only_marked : (old new : List Bool) (named : ℕ → Type 0) → All (λ mark. mark ≡ false) old
    → MarksMore old new named → (j : ℕ) → 1 ≤ j → IsMarked new j ↔ named j
only_marked old new named none more j one = (
  λ m. elim ((more j one).0 m) [ inl k ↦ absurd (unmarked k) | inr k ↦ k ],
  λ k. (more j one).1 (inr k),
)
  where
    unmarked : ¬ IsMarked old j
    unmarked m =
        false≢true (sym (none (j - 1) true (slice_get_within old (j - 1) true m))
        ∙ get_or_from_slice_get old (j - 1) true true m)

-- ---- a trace

-- what a trace names, step by step
pub steps_low : (t : Trace) (steps : List Step) (count : ℕ) → steps ≡ t.steps
    → ((j : ℕ) → Names t j → (1 ≤ j) × (j ≤ count)) → All (λ step. 1 ≤ step.number) steps
steps_low t steps count same h k d within =
    (h (get_or steps k d).number (inr (
      get_or steps k d,
      subst (λ (l : List Step). Contains l (get_or steps k d)) same
          (Contains-get_or steps k d within),
      refl,
    ))).0

pub steps_high : (t : Trace) (steps : List Step) (count : ℕ) → steps ≡ t.steps
    → ((j : ℕ) → Names t j → (1 ≤ j) × (j ≤ count)) → All (λ step. step.number ≤ count) steps
steps_high t steps count same h k d within =
    (h (get_or steps k d).number (inr (
      get_or steps k d,
      subst (λ (l : List Step). Contains l (get_or steps k d)) same
          (Contains-get_or steps k d within),
      refl,
    ))).1
