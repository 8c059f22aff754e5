-- What a turn makes of the search's answer.
use Rattle.nc_algebra.proofs.Leading.{leading-normal}
use Rattle.nc_algebra.proofs.NormalForms.{first_coefficient}
use Rattle.nc_algebra.proofs.Words.{weight-append}
use Rattle.nc_algebra.specs.Elements.{IsLeadingWord, Setting}
use Rattle.nc_algebra.specs.Monomials.{Monomial}
use Rattle.nc_algebra.specs.Polynomials.{IsNormal, Polynomial, coefficient, leading, normal_form, polynomial_times}
use Rattle.nc_algebra.specs.Sums.{Term, minus}
use Rattle.nc_algebra.specs.Words.{Word, word_weight}
use Rattle.nc_theory.proofs.Small.{few_letters, first_leads, first_residue}
use Rattle.nc_theory.specs.Found.{Chosen}
use Rattle.nc_theory.specs.Places.{IsChoiceOf}
use Rattle.nc_theory.specs.Turns.{IsKept, IsSubtracted}
use Rattle.nc_theory.specs.Usable.{HasSmallWords, IsUsable}
use Rattle.nc_theory.proofs.Determinism.{listed_same}
use Rattle.nc_theory.specs.States.{Entry}
use Rattle.std.proofs.Common.{List, None, Some, [], ap, ap₂, arith, get_or, length, refl, subst, sym, ℕ, ◌%◌, ◌*◌, ◌+◌, ◌++◌, ◌-◌, ◌<◌, ◌∙◌, ◌∷◌, ◌≡◌, ◌≤◌}
use Rattle.std.proofs.Math.Nat.{mod-eq_of_lt}
use Rattle.std.specs.List.{All}

module _ (s : Setting) (entries : List Entry) (usable : All (IsUsable s) entries) (set : Monomial
    → Type 0) (old : Polynomial) (t : Term Word) (others : Polynomial) (parts : old ≡ t ∷ others)
    (normal : IsNormal s.prime old) where
  normal_parts : IsNormal s.prime (t ∷ others)
  normal_parts = subst (IsNormal s.prime) parts normal

  old_leads : IsLeadingWord s old t.key
  old_leads = subst (λ f. IsLeadingWord s f t.key) (sym parts) (first_leads s t others normal_parts)

  pub lead_residue : t.coefficient < s.prime
  lead_residue = first_residue s.prime t others normal_parts

  whole : t.coefficient ≡ coefficient old t.key % s.prime
  whole = sym (ap (λ f. coefficient f t.key % s.prime) parts
      ∙ (ap (λ n. n % s.prime) (first_coefficient t others normal_parts.0.1)
      ∙ mod-eq_of_lt lead_residue))

  pub kept_turn : (w : Word) (new : Polynomial) → w ≡ t.key → IsChoiceOf s entries set w None
      → new ≡ normal_form s.prime (minus s.prime old 1 (t ∷ [])) → IsKept s entries set old new t
  kept_turn w new e none rest =
      let clear : IsChoiceOf s entries set t.key None =
      subst (λ x. IsChoiceOf s entries set x None) e none in
      record { leads = old_leads; clear = clear; whole = whole; rest = rest }

  module _ (w : Word) (is_lead : w ≡ t.key) (c : Chosen)
      (found : IsChoiceOf s entries set w (Some c)) (e : Entry)
      (read : e ≡ get_or entries (c.number - 1) e) (f : Polynomial) (of_entry : f ≡ e.polynomial)
    where
      at_lead : IsChoiceOf s entries set t.key (Some c)
      at_lead = subst (λ x. IsChoiceOf s entries set x (Some c)) is_lead found

      entry_is : e ≡ at_lead.0.entry
      entry_is =
          let place : c.number - 1 ≡ at_lead.0.listed.0 = omega (arith, at_lead.3) in
          listed_same entries e at_lead.0.entry (
            at_lead.0.listed.0,
            at_lead.0.listed.1,
            ap (λ k. get_or entries k e) (sym place) ∙ sym read,
          ) at_lead.0.listed refl

      pub chosen_usable : IsUsable s e
      chosen_usable =
          subst (IsUsable s) (sym (entry_is ∙ sym at_lead.0.listed.2))
          (usable at_lead.0.listed.0 at_lead.0.entry at_lead.0.listed.1)

      pub chosen_normal : IsNormal s.prime f
      chosen_normal = subst (IsNormal s.prime) (sym of_entry) chosen_usable.normal

      pub chosen_some : ¬ (f ≡ [])
      chosen_some i = chosen_usable.some (sym of_entry ∙ i)

      f_is : f ≡ at_lead.0.entry.polynomial
      f_is = of_entry ∙ ap (λ (x : Entry). x.polynomial) entry_is

      pub chosen_few : (u v : Word) → u ≡ c.left → v ≡ c.right → HasSmallWords s old
          → All (λ x. length u + length x.key + length v ≤ 200000) f
      chosen_few u v a b small = go f refl
        where
          go : (g : Polynomial) → f ≡ g → All (λ x. length u + length x.key + length v ≤ 200000) f
          go [] i = absurd (chosen_some i)
          go (y ∷ g) i =
              let n : IsNormal s.prime (y ∷ g) = subst (IsNormal s.prime) i chosen_normal in
              let lead : leading s.prime at_lead.0.entry.polynomial ≡ y.key =
              ap (leading s.prime) (sym f_is ∙ i) ∙ leading-normal s.prime y g n in
              let spells : u ++ (y.key ++ v) ≡ t.key =
              ap₂ (λ x z. x ++ z) (a ∙ sym at_lead.2)
              (ap₂ (λ x z. x ++ z) (sym lead) (b ∙ sym at_lead.4)) ∙ at_lead.0.spells in
              subst (λ (h : Polynomial). All (λ x. length u + length x.key + length v ≤ 200000) h)
              (sym i)
              (few_letters u v y g 200000 n.0.1
              (omega (
                arith,
                (small t.key old_leads.nonzero).0,
                ap word_weight spells,
                weight-append u (y.key ++ v),
                weight-append y.key v,
              )))

      pub subtracted_turn : (new : Polynomial) (q : ℕ) (u v : Word) → q < s.prime
          → q * coefficient f (leading s.prime f) % s.prime ≡ t.coefficient → u ≡ c.left
          → v ≡ c.right
          → new ≡ normal_form s.prime (minus s.prime old q (polynomial_times u f v))
          → IsSubtracted s entries set old new
          (record { coefficient = q; left = c.left; number = c.number; right = c.right })
      subtracted_turn new q u v small cancels a b rest = record {
        word = t.key;
        leads = old_leads;
        divisor = at_lead.0;
        chosen = at_lead.1;
        below = small;
        cancels =
            ap (λ (g : Polynomial). q * coefficient g (leading s.prime g) % s.prime) (sym f_is)
            ∙ (cancels ∙ whole);
        left = sym at_lead.2;
        number = sym at_lead.3;
        right = sym at_lead.4;
        rest = rest ∙ ap (λ g. normal_form s.prime (minus s.prime old q g))
            (ap₂ (λ x z. polynomial_times x f z) (a ∙ sym at_lead.2) (b ∙ sym at_lead.4)
            ∙ ap (λ g. polynomial_times at_lead.0.left g at_lead.0.right) f_is);
      }
