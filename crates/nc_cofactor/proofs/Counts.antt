-- Lists without repetition that have the same elements have the same length.
use Rattle.nc_algebra.specs.Lists.{Among, IsDistinct}
use Rattle.std.proofs.Common.{List, [], arith, inl, inr, length, subst, sym, ◌+◌, ◌∙◌, ◌∷◌, ◌≡◌, ◌≢◌, ◌≤◌}

module _ {X : Type 0} where
  -- a list without one of its elements
  pub record Without (x : X) (ys : List X) : Type 0 where
    pub rest : List X
    pub one_less : length ys ≡ length rest + 1
    pub others : (y : X) → y ≢ x → Among y ys → Among y rest

  without : (x : X) (ys : List X) → Among x ys → Without x ys
  without x [] h = absurd h
  without x (z ∷ ys) (inl e) =
      record {
        rest = ys;
        one_less = omega arith;
        others = λ y n h. elim h [ inl d ↦ absurd (n (d ∙ sym e)) | inr k ↦ k ];
      }
  without x (z ∷ ys) (inr h) =
      let w = without x ys h in record {
        rest = z ∷ w.rest;
        one_less = omega (arith, w.one_less);
        others = λ y n h. elim h [ inl d ↦ inl d | inr k ↦ inr (w.others y n k) ];
      }

  pub at_most : (xs ys : List X) → IsDistinct xs → ((x : X) → Among x xs → Among x ys)
      → length xs ≤ length ys
  at_most [] ys d h = omega arith
  at_most (x ∷ xs) ys d h =
      let w : Without x ys = without x ys (h x (inl (λ _. x))) in
      omega (
        arith,
        w.one_less,
        at_most xs w.rest d.1
            (λ y k. w.others y (λ e. d.0 (subst (λ z. Among z xs) e k)) (h y (inr k))),
      )
