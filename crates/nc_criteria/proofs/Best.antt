-- The best multiple among some of the entries.
use Rattle.nc_algebra.proofs.Orders.{nat_order}
use Rattle.nc_algebra.specs.Elements.{Setting}
use Rattle.nc_algebra.specs.Monomials.{Monomial, monomial_of, times}
use Rattle.nc_algebra.specs.Words.{Word}
use Rattle.nc_snapshot.specs.Leads.{IsLeadAt}
use Rattle.nc_criteria.specs.Multiples.{BestMultipleLaw, IsBestWithin, IsMultipleWithin}
use Rattle.nc_criteria.specs.Searches.{IsBestBetween}
use Rattle.nc_snapshot.specs.declared.lead.Lead.{Lead}
use Rattle.nc_criteria.specs.declared.multiple.Multiple.{Multiple}
use Rattle.nc_theory.proofs.Quotients.{IsWithNext, at_found, better_step}
use Rattle.nc_theory.specs.Best.{IsMultipleAt, best_of}
use Rattle.nc_theory.specs.Found.{Best}
use Rattle.nc_theory.specs.Divisors.{Divisor, signature_at}
use Rattle.nc_theory.specs.States.{Entry}
use Rattle.std.proofs.Common.{List, None, Option, Some, ap, arith, drop, inl, inr, length, length-append, min, sym, take, ℕ, ◌+◌, ◌++◌, ◌-◌, ◌<◌, ◌∙◌, ◌≡◌, ◌≤◌, ◌⊎◌}
use Rattle.std.proofs.lemmas.List.{drop_at, take_at}
use Rattle.std.proofs.lemmas.Option.{get_or_from_slice_get, slice_get_within}

module _ (s : Setting) (entries : List Entry) (τ : Monomial) where
  -- ---- the multiple of one entry

  pub lead_found : (n : ℕ) (l : Lead) (b : Best) → IsLeadAt s entries n l
      → times b.left (monomial_of l.sig.now) b.right ≡ τ
      → b.word ≡ b.left ++ (l.word.now ++ b.right) → b.number ≡ n + 1
      → IsMultipleAt s entries τ n (Some b)
  lead_found n l b lead signed spells number =
      at_found s entries τ n lead.entry b (slice_get_within entries n lead.entry lead.stands)
      (sym (get_or_from_slice_get entries n lead.entry lead.entry lead.stands))
      (ap (λ σ. times b.left σ b.right) lead.signed ∙ signed)
      (spells ∙ ap (λ x. b.left ++ (x ++ b.right)) (sym lead.leads)) number

  -- ---- one after another

  module _ (after : ℕ) where
    -- the multiples up to n + 1 are those up to n and that of the next entry
    next_within : (n : ℕ) → after ≤ n
        → IsWithNext s entries τ n (IsMultipleWithin s entries τ after n)
        (IsMultipleWithin s entries τ after (n + 1))
    next_within n h = record {
      signed = λ w d m. m.signed;
      earlier = λ w d m. omega (arith, m.within);
      more = λ w d m. record {
        signed = m.signed;
        later = m.later;
        within = omega (arith, m.within);
      };
      here = λ w d signed i. record {
        signed = signed;
        later = omega (arith, h, i);
        within = omega (arith, i);
      };
      either = λ w d m. go w d m (nat_order d.listed.0 n);
    }
      where
        go : (w : Word) (d : Divisor s entries w) → IsMultipleWithin s entries τ after (n + 1) w d
            → (d.listed.0 < n) ⊎ ((d.listed.0 ≡ n) ⊎ (n < d.listed.0))
            → IsMultipleWithin s entries τ after n w d ⊎ (d.listed.0 ≡ n)
        go w d m (inl k) =
            inl (record { signed = m.signed; later = m.later; within = omega (arith, k) })
        go w d m (inr (inl k)) = inr k
        go w d m (inr (inr k)) = absurd (omega (arith, m.within, k))

    pub best_start : IsBestBetween s entries τ after after None
    best_start w d m = omega (arith, m.later, m.within)

    pub best_further : (n : ℕ) (best next : Option Best) → after ≤ n
        → IsBestBetween s entries τ after n best → IsMultipleAt s entries τ n next
        → IsBestBetween s entries τ after (n + 1) (best_of best next)
    best_further n best next h =
        better_step s entries τ n (IsMultipleWithin s entries τ after n)
        (IsMultipleWithin s entries τ after (n + 1)) (next_within n h) best next

    -- ---- up to the last entry or the one that is given

    module _ (until last : ℕ) (is : last ≡ min until (length entries)) where
      bounded : (w : Word) (d : Divisor s entries w) → IsMultipleWithin s entries τ after until w d
          → IsMultipleWithin s entries τ after last w d
      bounded w d m =
          record {
            signed = m.signed;
            later = m.later;
            within = omega (arith, is, m.within, d.listed.1);
          }

      unbounded : (w : Word) (d : Divisor s entries w) → IsMultipleWithin s entries τ after last w d
          → IsMultipleWithin s entries τ after until w d
      unbounded w d m =
          record { signed = m.signed; later = m.later; within = omega (arith, is, m.within) }

      pub none_between : last ≤ after → IsBestWithin s entries τ after until None
      none_between h w d m = omega (arith, h, (bounded w d m).later, (bounded w d m).within)

      pub none_within : IsBestBetween s entries τ after last None
          → IsBestWithin s entries τ after until None
      none_within none w d m = none w d (bounded w d m)

      -- what stands behind is a part of the right word
      pub right_fits : (b : Best) → IsBestBetween s entries τ after last (Some b)
          → length b.right ≤ length τ.right
      right_fits b (d, multiple, least, left, number, right) =
          omega (
            arith,
            ap length right,
            ap (λ (σ : Monomial). length σ.right) multiple.signed,
            length-append d.entry.signature.right d.right,
          )

      pub best_within : (b : Best) (m : Multiple) → IsBestBetween s entries τ after last (Some b)
          → m.number ≡ b.number → m.left ≡ length b.left → m.right ≡ length τ.right - length b.right
          → IsBestWithin s entries τ after until (Some m)
      best_within b m (d, multiple, least, left, number, right) i j k =
          let lefts : d.left ++ d.entry.signature.left ≡ τ.left =
          ap (λ (σ : Monomial). σ.left) multiple.signed in
          let rights : d.entry.signature.right ++ d.right ≡ τ.right =
          ap (λ (σ : Monomial). σ.right) multiple.signed in (
            b.word,
            d,
            record {
              multiple = unbounded b.word d multiple;
              least = λ v e f. least v e (bounded v e f);
            },
            number ∙ sym i,
            sym (ap (take m.left) (sym lefts) ∙ take_at d.left d.entry.signature.left m.left
                (ap length left ∙ sym j)),
            sym (ap (drop m.right) (sym rights) ∙ drop_at d.entry.signature.right d.right m.right
                (omega (
                  arith,
                  k,
                  ap length right,
                  ap length rights,
                  length-append d.entry.signature.right d.right,
                ))),
            omega (
              arith,
              j,
              ap length left,
              ap length lefts,
              length-append d.left d.entry.signature.left,
            ),
            omega (arith, k),
          )

-- among all entries the best multiple is that of the definitions
pub best_of_all : BestMultipleLaw
best_of_all s entries τ = (
  (
    λ none w m. none w m.divisor (whole w m.divisor m.signed),
    λ none w d m. none w (record { divisor = d; signed = m.signed }),
  ),
  λ w d. (
    λ b. record { signed = b.multiple.signed; least = λ v e i. b.least v e (whole v e i) },
    λ b. record { multiple = whole w d b.signed; least = λ v e m. b.least v e m.signed },
  ),
)
  where
    whole : (w : Word) (d : Divisor s entries w) → signature_at s entries w d ≡ τ
        → IsMultipleWithin s entries τ 0 (length entries) w d
    whole w d i = record { signed = i; later = omega arith; within = omega (arith, d.listed.1) }
