-- The greatest term of a sum, and the order of the others.
-- The keys of the tree ascend, so the terms descend (`terms_descend`). The last entry always has a
-- coefficient, so it is the first term, to be looked at (`top_shown`), taken out (`taken`), or
-- preceded by a greater one (`pushed`).
use Rattle.nc_algebra.proofs.NormalForms.{positive}
use Rattle.nc_algebra.specs.Sums.{Term}
use Rattle.nc_poly.proofs.Entries.{shown_some, terms_push}
use Rattle.nc_poly.proofs.Passes.{snoc_same, split_last}
use Rattle.nc_poly.specs.Keeping.{IsTopped, now_of, shown, terms_by}
use Rattle.nc_poly.specs.Ordered.{AllBelow, Descends}
use Rattle.nc_poly.specs.declared.sum.Slot.{Slot}
use Rattle.std.proofs.Common.{Bool, Greater, Less, List, Ordering, Some, [], ap, cond, false, length, nat_eq, refl, subst, true, ℕ, ◌++◌, ◌-◌, ◌<◌, ◌∙◌, ◌∷◌, ◌≡◌}
use Rattle.std.proofs.lemmas.Map.Keys.{sorted_head, sorted_tail}
use Rattle.std.specs.BTreeMap.{insert_entry}
use Rattle.std.specs.Cmp.{IsTotalOrder}
use Rattle.std.specs.List.{AllByRecursion, slice_get}
use Rattle.std.specs.List.Sorted.{IsStrictlySortedBy}
use Rattle.std.specs.Map.{keys_of}
use Rattle.std.specs.Ordering.{match_ordering, ordering_reverse}

module _ {K : Type 0} where
  -- an entry with a coefficient behind the others gives the first term
  pub first_term : (old new : List (K × Slot)) (k : K) (s : Slot) → old ≡ new ++ (k, s) ∷ []
      → 0 < s.now → terms_by now_of old ≡ record {
        coefficient = s.now;
        key = k;
      } ∷ terms_by now_of new
  first_term old new k s is some =
      ap (terms_by now_of) is ∙ (terms_push now_of new (k, s)
      ∙ ap (λ (l : List (Term K)). l ++ terms_by now_of new) (shown_some s.now k some))

  -- the last entry that goes
  pub taken : (old new : List (K × Slot)) (k : K) (s : Slot) → IsTopped old
      → old ≡ new ++ (k, s) ∷ [] → terms_by now_of old ≡ record { coefficient = s.now; key = k }
      ∷ terms_by now_of new
  taken old new k s top is = first_term old new k s is (top new (k, s) is)

  -- the last entry that is looked at
  pub top_shown : (es : List (K × Slot)) (k : K) (s : Slot) → IsTopped es
      → slice_get es (length es - 1) ≡ Some (k, s) → (others : List (Term K))
      × (terms_by now_of es ≡ record { coefficient = s.now; key = k } ∷ others)
  top_shown es k s top h =
      let parts : (front : List (K × Slot)) × (es ≡ front ++ (k, s) ∷ []) =
      split_last es (k, s) h in (terms_by now_of parts.0, taken es parts.0 k s top parts.1)

  pub topped_push : (old new : List (K × Slot)) (k : K) (s : Slot) → new ≡ old ++ (k, s) ∷ []
      → 0 < s.now → IsTopped new
  topped_push old new k s is some front e at =
      subst (λ n. 0 < n) (ap (λ (y : K × Slot). y.1.now) (snoc_same new old front (k, s) e is at))
      some

-- ---- the order

module _ {K S : Type 0} (cmp : K → K → Ordering) (φ : S → ℕ) where
  -- the terms have no other keys
  keys_above : (k : K) (es : List (K × S)) → AllByRecursion (λ x. cmp k x ≡ Less) (keys_of es)
      → AllByRecursion (λ t. cmp k t.key ≡ Less) (terms_by φ es)
  keys_above k [] a = tt
  keys_above k (e ∷ es) a = both (terms_by φ es) (keys_above k es a.1)
    where
      last : (b : Bool) → AllByRecursion (λ t. cmp k t.key ≡ Less)
          (cond {A = List (Term K)} b [] (record { coefficient = φ e.1; key = e.0 } ∷ []))
      last true = tt
      last false = (a.0, tt)

      both : (f : List (Term K)) → AllByRecursion (λ t. cmp k t.key ≡ Less) f
          → AllByRecursion (λ t. cmp k t.key ≡ Less) (f ++ shown (φ e.1) e.0)
      both [] h = last (nat_eq (φ e.1) 0)
      both (t ∷ f) h = (h.0, both f h.1)

  -- a lesser term behind the others
  module _ (c : ℕ) (k : K) where
    below_push : (w : K) (f : List (Term K)) → cmp k w ≡ Less → AllBelow cmp w f
        → AllBelow cmp w (f ++ shown c k)
    below_push w [] l a = go (nat_eq c 0)
      where
        go : (b : Bool) → AllBelow cmp w
            (cond {A = List (Term K)} b [] (record { coefficient = c; key = k } ∷ []))
        go true = tt
        go false = (l, tt)
    below_push w (t ∷ f) l a = (a.0, below_push w f l a.1)

    descends_push : (f : List (Term K)) → Descends cmp f
        → AllByRecursion (λ t. cmp k t.key ≡ Less) f → Descends cmp (f ++ shown c k)
    descends_push [] d a = go (nat_eq c 0) refl
      where
        go : (b : Bool) → nat_eq c 0 ≡ b
            → Descends cmp (cond {A = List (Term K)} b []
            (record { coefficient = c; key = k } ∷ []))
        go true e = tt
        go false e = (positive c e, tt, tt)
    descends_push (t ∷ f) d a = (d.0, below_push t.key f a.0 d.1, descends_push f d.2 a.1)

  pub terms_descend : (es : List (K × S)) → IsStrictlySortedBy cmp (keys_of es)
      → Descends cmp (terms_by φ es)
  terms_descend [] s = tt
  terms_descend (e ∷ es) s =
      descends_push (φ e.1) e.0 (terms_by φ es)
      (terms_descend es (sorted_tail cmp e.0 (keys_of es) s))
      (keys_above e.0 es (sorted_head cmp e.0 (keys_of es) s))

-- ---- a greatest key

module _ {K : Type 0} {cmp : K → K → Ordering} (o : IsTotalOrder cmp) (k : K) (s : Slot) where
  flipped : (x : K) → cmp x k ≡ Less → cmp k x ≡ Greater
  flipped x e = o.antisymm k x ∙ ap ordering_reverse e

  below_front : (f g : List (Term K)) → AllBelow cmp k (f ++ g) → AllBelow cmp k f
  below_front [] g a = tt
  below_front (t ∷ f) g a = (a.0, below_front f g a.1)

  above : (es : List (K × Slot)) → IsTopped es → IsStrictlySortedBy cmp (keys_of es)
      → AllBelow cmp k (terms_by now_of es) → AllByRecursion (λ e. cmp k e.0 ≡ Greater) es
  above [] top h b = tt
  above (e ∷ []) top h b =
      (flipped e.0 (subst (AllBelow cmp k) (shown_some e.1.now e.0 (top [] e refl)) b).0, tt)
  above (e ∷ (d ∷ es)) top h b =
      let rest =
      above (d ∷ es) (λ front x is. top (e ∷ front) x (ap (λ l. e ∷ l) is))
      (sorted_tail cmp e.0 (keys_of (d ∷ es)) h)
      (below_front (terms_by now_of (d ∷ es)) (shown e.1.now e.0) b) in (
        flipped e.0 (o.trans e.0 d.0 k (sorted_head cmp e.0 (keys_of (d ∷ es)) h).0
            (o.antisymm d.0 k ∙ ap ordering_reverse rest.0)),
        rest,
      )

  appended : (es : List (K × Slot)) → AllByRecursion (λ e. cmp k e.0 ≡ Greater) es
      → insert_entry cmp es k s ≡ es ++ (k, s) ∷ []
  appended [] a = refl
  appended (e ∷ es) a =
      ap (λ r. match_ordering r ((k, s) ∷ e ∷ es) ((e.0, s) ∷ es) (e ∷ insert_entry cmp es k s)) a.0
      ∙ ap (λ l. e ∷ l) (appended es a.1)

  -- it goes behind the others
  pub pushed : (es : List (K × Slot)) → IsTopped es → IsStrictlySortedBy cmp (keys_of es)
      → AllBelow cmp k (terms_by now_of es) → insert_entry cmp es k s ≡ es ++ (k, s) ∷ []
  pushed es top h b = appended es (above es top h b)
