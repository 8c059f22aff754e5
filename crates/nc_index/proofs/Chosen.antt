-- Places of pairs and divisors.
use Rattle.nc_algebra.specs.Elements.{Setting}
use Rattle.nc_algebra.specs.Laws.{SigLaw}
use Rattle.nc_algebra.specs.Monomials.{Sig, compare_sigs, sig_times}
use Rattle.nc_algebra.specs.Words.{Word}
use Rattle.nc_index.specs.Chosen.{HasDivisorAfter, IsBelowSig, IsChosen, lead_of, leads_of}
use Rattle.nc_index.specs.Pairs.{HasRegularAfter, IsFirstRegular, Lead, RegularAt}
use Rattle.nc_index.specs.declared.hit.Hit.{Hit}
use Rattle.nc_theory.specs.Divisors.{Divisor, number_of, signature_at}
use Rattle.nc_theory.specs.States.{Entry}
use Rattle.std.proofs.Common.{◌↔◌, ◌≡◌, ℕ, ◌<◌, ◌≤◌, ◌++◌, ◌∷◌, [], List, length, map, ap, sym, refl, ◌∙◌, arith, None, Some, Option, ◌⊎◌, inl, inr, zero, suc}
use Rattle.std.specs.List.{slice_get}
use Rattle.std.proofs.lemmas.Option.{slice_get-get_or, slice_get_within, get_or_from_slice_get}

slice_get_mapped : {A B : Type 0} (f : A → B) (xs : List A) (k : ℕ) (x : A)
    → slice_get xs k ≡ Some x → slice_get (map f xs) k ≡ Some (f x)
slice_get_mapped f [] k x e = cc
slice_get_mapped f (y ∷ ys) zero x e = let d : y ≡ x = cc in ap (λ z. Some (f z)) d
slice_get_mapped f (y ∷ ys) (suc k) x e = slice_get_mapped f ys k x e

slice_get_source : {A B : Type 0} (f : A → B) (xs : List A) (k : ℕ) (y : B)
    → slice_get (map f xs) k ≡ Some y → (x : A) × (slice_get xs k ≡ Some x) × (f x ≡ y)
slice_get_source f [] k y e = cc
slice_get_source f (x ∷ xs) zero y e = (x, refl, cc)
slice_get_source f (x ∷ xs) (suc k) y e = slice_get_source f xs k y e

module _ (s : Setting) (law : SigLaw s) (entries : List Entry) (w : Word) (β : Sig) where
  -- a divisor below β is a place of its entry's pair
  pub place_of : (d : Divisor s entries w) → IsBelowSig s β (signature_at s entries w d)
      → RegularAt (leads_of s entries) w β d.listed.0 d.left d.right
  place_of d below =
      record {
        lead = lead_of s d.entry;
        stands =
            slice_get_mapped (lead_of s) entries d.listed.0 d.entry
            (slice_get-get_or entries d.listed.0 d.entry d.listed.1 ∙ ap (λ e. Some e) d.listed.2);
        regular =
            record {
              spells = d.spells;
              below = ap (λ σ. compare_sigs σ β)
                  (sym (law.multiples d.left d.right d.entry.signature)) ∙ below;
            };
      }

  -- a place of a pair is a divisor below β of its entry
  pub record DivisorAt (i : ℕ) (u v : Word) : Type 0 where
    pub divisor : Divisor s entries w
    pub index : divisor.listed.0 ≡ i
    pub left : divisor.left ≡ u
    pub below : IsBelowSig s β (signature_at s entries w divisor)

  pub divisor_at : (i : ℕ) (u v : Word) → RegularAt (leads_of s entries) w β i u v → DivisorAt i u v
  divisor_at i u v r = go (slice_get_source (lead_of s) entries i r.lead r.stands)
    where
      go : (e : Entry) × (slice_get entries i ≡ Some e) × (lead_of s e ≡ r.lead) → DivisorAt i u v
      go (e, found, same) =
          record {
            divisor = record {
              entry = e;
              listed = (
                i,
                slice_get_within entries i e found,
                get_or_from_slice_get entries i e e found,
              );
              left = u;
              right = v;
              spells = ap (λ (l : Lead). u ++ (l.word ++ v)) same ∙ r.regular.spells;
            };
            index = refl;
            left = refl;
            below = ap (λ z. compare_sigs z β) (law.multiples u v e.signature)
                ∙ (ap (λ (l : Lead). compare_sigs (sig_times u l.signature v) β) same
                ∙ r.regular.below);
          }

  pub chosen : (answer : Option Hit) → IsFirstRegular (leads_of s entries) w β answer
      → IsChosen s entries w β answer
  chosen None none = λ d below. none d.listed.0 d.left d.right (place_of d below)
  chosen (Some h) (i, u, v, first, number, place) = (
    at.divisor,
    record {
      allowed = at.below;
      least = λ e below. go e (first.least e.listed.0 e.left e.right (place_of e below));
    },
    omega (arith, number, at.index),
    ap length at.left ∙ sym place,
  )
    where
      at : DivisorAt i u v
      at = divisor_at i u v first.regular

      go : (e : Divisor s entries w) → (i < e.listed.0)
          ⊎ ((i ≡ e.listed.0) × (length u ≤ length e.left))
          → (number_of s entries w at.divisor < number_of s entries w e)
          ⊎ ((number_of s entries w at.divisor ≡ number_of s entries w e)
          × (length at.divisor.left ≤ length e.left))
      go e (inl l) = inl (omega (arith, at.index, l))
      go e (inr (same, l)) =
          inr (omega (arith, at.index, same), omega (arith, ap length at.left, l))

  -- a newer pair that stands is a newer entry's divisor, and the other way round
  pub newer : (n : ℕ) → HasRegularAfter (leads_of s entries) n w β ↔ HasDivisorAfter s entries n w β
  newer n = (λ h. back h, λ h. (h.0.listed.0, h.0.left, h.0.right, place_of h.0 h.1, h.2))
    where
      back : HasRegularAfter (leads_of s entries) n w β → HasDivisorAfter s entries n w β
      back (i, u, v, r, m) =
          let at = divisor_at i u v r in (at.divisor, at.below, omega (arith, at.index, m))
