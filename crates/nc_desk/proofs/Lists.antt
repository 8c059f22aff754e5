-- Ascending signatures, by their first one.
use Rattle.nc_algebra.proofs.Finite.{among_contains, contains_among}
use Rattle.nc_algebra.specs.Lists.{Among}
use Rattle.nc_algebra.specs.Monomials.{Sig, compare_sigs}
use Rattle.nc_queue.specs.Queues.{IsAscending}
use Rattle.nc_sig.specs.Orders.{sigs_order}
use Rattle.std.proofs.Common.{Contains, Equal, Greater, Less, List, Ordering, [], arith, inl, inr, subst, sym, ◌∷◌, ◌≡◌, ◌≢◌, ◌⊎◌}
use Rattle.std.proofs.lemmas.Map.Keys.{sorted_head}
use Rattle.std.specs.List.{AllByRecursion}
use Rattle.std.specs.Ordering.{ordering_reverse}

-- of two signatures one at most is less
pub not_both : (σ τ : Sig) → compare_sigs σ τ ≡ Less → compare_sigs τ σ ≡ Less → ⊥
not_both σ τ e f = apart (compare_sigs σ τ) (compare_sigs τ σ) (sigs_order.antisymm σ τ) e f
  where
    apart : (a b : Ordering) → a ≡ ordering_reverse b → a ≡ Less → b ≡ Less → ⊥
    apart a Less h e f = grind (arith, h, e, f)
    apart a Equal h e f = grind (arith, h, e, f)
    apart a Greater h e f = grind (arith, h, e, f)

each : (σ : Sig) (xs : List Sig) (q : Sig) → AllByRecursion (λ y. compare_sigs σ y ≡ Less) xs
    → Among q xs → compare_sigs σ q ≡ Less
each σ [] q a h = absurd h
each σ (x ∷ xs) q a (inl e) = subst (λ y. compare_sigs σ y ≡ Less) (sym e) a.0
each σ (x ∷ xs) q a (inr h) = each σ xs q a.1 h

module _ (σ : Sig) (others : List Sig) (ascending : IsAscending (σ ∷ others)) where
  behind : (q : Sig) → Among q others → compare_sigs σ q ≡ Less
  behind q h = each σ others q (sorted_head compare_sigs σ others ascending) h

  -- the first one is less than each other one
  pub first_less : (q : Sig) → Contains (σ ∷ others) q → (q ≡ σ) ⊎ (compare_sigs σ q ≡ Less)
  first_less q c =
      elim (contains_among q (σ ∷ others) c) [ inl e ↦ inl e | inr h ↦ inr (behind q h) ]

  -- the others are those that are not the first one
  pub others_other : (q : Sig) → Contains others q → Contains (σ ∷ others) q × (q ≢ σ)
  others_other q c =
      let h = contains_among q others c in (
        among_contains q (σ ∷ others) (inr h),
        λ e. let l = subst (λ y. compare_sigs σ y ≡ Less) e (behind q h) in not_both σ σ l l,
      )

  pub other_others : (q : Sig) → Contains (σ ∷ others) q → q ≢ σ → Contains others q
  other_others q c n =
      elim (contains_among q (σ ∷ others) c)
      [ inl e ↦ absurd (n e) | inr h ↦ among_contains q others h ]
