-- The first item whose label has more terms than a limit: there is one or none (`first_or_within`),
-- never both (`not_both`), and one alone (`one_alone`).
use Rattle.nc_algebra.proofs.Orders.{Decided, least, nat_order}
use Rattle.nc_cofactor.specs.Firsts.{AreWithin, IsFirstPast, Precedes}
use Rattle.nc_snapshot.specs.declared.outcome.Listed.{Listed}
use Rattle.nc_snapshot.specs.declared.outcome.Listed.TheVariants.{Claim, Entry as EntryOf, Syzygy as SyzygyOf}
use Rattle.std.proofs.Common.{ap, arith, inl, inr, refl, subst, sym, ℕ, ◌<◌, ◌≡◌, ◌≤◌, ◌⊎◌}
use Rattle.std.proofs.lemmas.Bool.{cases_lt}

compared : (a b : Listed) → Precedes a b ⊎ ((a ≡ b) ⊎ Precedes b a)
compared (EntryOf j) (EntryOf k) =
    elim (nat_order j k)
    [ inl l ↦ inl l | inr o ↦ elim o [ inl e ↦ inr (inl (ap EntryOf e)) | inr l ↦ inr (inr l) ] ]
compared (EntryOf j) (SyzygyOf k) = inl tt
compared (EntryOf j) Claim = inl tt
compared (SyzygyOf j) (EntryOf k) = inr (inr tt)
compared (SyzygyOf j) (SyzygyOf k) =
    elim (nat_order j k)
    [ inl l ↦ inl l | inr o ↦ elim o [ inl e ↦ inr (inl (ap SyzygyOf e)) | inr l ↦ inr (inr l) ] ]
compared (SyzygyOf j) Claim = inl tt
compared Claim (EntryOf k) = inr (inr tt)
compared Claim (SyzygyOf k) = inr (inr tt)
compared Claim Claim = inr (inl refl)

module _ (Has : Listed → ℕ → Type 0) (limit : ℕ) where
  -- before an entry stand entries alone
  pub entry_first : (k terms : ℕ) → Has (EntryOf k) terms → limit < terms
      → ((j m : ℕ) → j < k → Has (EntryOf j) m → m ≤ limit)
      → IsFirstPast Has limit (EntryOf k) terms
  entry_first k terms has many lesser =
      record { has = has; many = many; before = before }
    where
      before : (other : Listed) (m : ℕ) → Precedes other (EntryOf k) → Has other m → m ≤ limit
      before (EntryOf j) m l h = lesser j m l h
      before (SyzygyOf j) m l h = absurd l
      before Claim m l h = absurd l

  pub not_both : (named : Listed) (n : ℕ) → AreWithin Has limit → IsFirstPast Has limit named n → ⊥
  not_both named n within first = omega (arith, first.many, within named n first.has)

  module _ (once : (listed : Listed) (n n' : ℕ) → Has listed n → Has listed n' → n ≡ n') where
    pub one_alone : (named named' : Listed) (n n' : ℕ) → IsFirstPast Has limit named n
        → IsFirstPast Has limit named' n' → (named ≡ named') × (n ≡ n')
    one_alone named named' n n' a b = go (compared named named')
      where
        go : Precedes named named' ⊎ ((named ≡ named') ⊎ Precedes named' named)
            → (named ≡ named') × (n ≡ n')
        go (inl l) = absurd (omega (arith, a.many, b.before named n l a.has))
        go (inr (inl e)) =
            (e, once named n n' a.has (subst (λ (x : Listed). Has x n') (sym e) b.has))
        go (inr (inr l)) = absurd (omega (arith, b.many, a.before named' n' l b.has))

    -- ---- there is a first one, or none

    module _ (has_dec : (listed : Listed) → Decided ((n : ℕ) × Has listed n)) where
      -- an item has more terms
      abbrev IsMany : Listed → Type 0
      IsMany listed = (n : ℕ) × Has listed n × (limit < n)

      many_dec : (listed : Listed) → Decided (IsMany listed)
      many_dec listed = go (has_dec listed)
        where
          at : (n : ℕ) → Has listed n → (limit < n) ⊎ (n ≤ limit) → Decided (IsMany listed)
          at n h (inl more) = inl (n, h, more)
          at n h (inr l) = inr (λ (m, k, more). omega (arith, once listed n m h k, l, more))

          go : Decided ((n : ℕ) × Has listed n) → Decided (IsMany listed)
          go (inl (n, h)) = at n h (cases_lt limit n)
          go (inr none) = inr (λ (m, k, more). none (m, k))

      few : (listed : Listed) (n : ℕ) → ¬ IsMany listed → Has listed n → n ≤ limit
      few listed n none h = go (cases_lt limit n)
        where
          go : (limit < n) ⊎ (n ≤ limit) → n ≤ limit
          go (inl more) = absurd (none (n, h, more))
          go (inr l) = l

      module _ (entries syzygies : ℕ) (entry_below : (k n : ℕ) → Has (EntryOf k) n → k < entries)
          (syzygy_below : (k n : ℕ) → Has (SyzygyOf k) n → k < syzygies) where
        abbrev Found : Type 0
        Found = AreWithin Has limit
            ⊎ ((named : Listed) × (n : ℕ) × IsFirstPast Has limit named n)

        no_entry : ((k : ℕ) → k < entries → ¬ IsMany (EntryOf k)) → (k n : ℕ) → Has (EntryOf k) n
            → n ≤ limit
        no_entry none k n h = few (EntryOf k) n (none k (entry_below k n h)) h

        no_syzygy : ((k : ℕ) → k < syzygies → ¬ IsMany (SyzygyOf k)) → (k n : ℕ)
            → Has (SyzygyOf k) n → n ≤ limit
        no_syzygy none k n h = few (SyzygyOf k) n (none k (syzygy_below k n h)) h

        by_claim : ((k n : ℕ) → Has (EntryOf k) n → n ≤ limit)
            → ((k n : ℕ) → Has (SyzygyOf k) n → n ≤ limit) → Decided (IsMany Claim) → Found
        by_claim entry syzygy (inl (n, h, more)) =
            inr (Claim, n, record { has = h; many = more; before = before })
          where
            before : (other : Listed) (m : ℕ) → Precedes other Claim → Has other m → m ≤ limit
            before (EntryOf j) m l h = entry j m h
            before (SyzygyOf j) m l h = syzygy j m h
            before Claim m l h = absurd l
        by_claim entry syzygy (inr none) = inl within
          where
            within : AreWithin Has limit
            within (EntryOf k) n h = entry k n h
            within (SyzygyOf k) n h = syzygy k n h
            within Claim n h = few Claim n none h

        by_syzygy : ((k n : ℕ) → Has (EntryOf k) n → n ≤ limit)
            → ((k : ℕ) × (k < syzygies) × IsMany (SyzygyOf k)
            × ((j : ℕ) → j < k → ¬ IsMany (SyzygyOf j)))
            ⊎ ((k : ℕ) → k < syzygies → ¬ IsMany (SyzygyOf k)) → Found
        by_syzygy entry (inl (k, l, (n, h, more), lesser)) =
            inr (SyzygyOf k, n, record { has = h; many = more; before = before })
          where
            before : (other : Listed) (m : ℕ) → Precedes other (SyzygyOf k) → Has other m
                → m ≤ limit
            before (EntryOf j) m b h = entry j m h
            before (SyzygyOf j) m b h = few (SyzygyOf j) m (lesser j b) h
            before Claim m b h = absurd b
        by_syzygy entry (inr none) = by_claim entry (no_syzygy none) (many_dec Claim)

        by_entry : ((k : ℕ) × (k < entries) × IsMany (EntryOf k)
            × ((j : ℕ) → j < k → ¬ IsMany (EntryOf j)))
            ⊎ ((k : ℕ) → k < entries → ¬ IsMany (EntryOf k)) → Found
        by_entry (inl (k, l, (n, h, more), lesser)) =
            inr (
              EntryOf k,
              n,
              entry_first k n h more (λ j m b t. few (EntryOf j) m (lesser j b) t),
            )
        by_entry (inr none) =
            by_syzygy (no_entry none)
            (least (λ k. IsMany (SyzygyOf k)) (λ k. many_dec (SyzygyOf k)) syzygies)

        pub first_or_within : Found
        first_or_within =
            by_entry (least (λ k. IsMany (EntryOf k)) (λ k. many_dec (EntryOf k)) entries)
