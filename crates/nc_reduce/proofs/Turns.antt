-- What a turn of a reduction does and leaves.
-- The lemmas of `nc_theory` on turns, with the leading term taken out of the tree where it is kept
-- (`rest_is`), and the chosen divisor by the law of `nc_index` (`none_turn`, `hit_within`). Turns in
-- a row make a reduction (`is_turned`, `ended`).
use Rattle.nc_algebra.proofs.NormalForms.{normal_form_only}
use Rattle.nc_algebra.proofs.Sums.{coefficient-minus}
use Rattle.nc_algebra.proofs.Words.{word_laws}
use Rattle.nc_algebra.specs.Elements.{Setting}
use Rattle.nc_algebra.specs.Monomials.{Sig}
use Rattle.nc_algebra.specs.Polynomials.{AreResidues, IsNormal, Polynomial, coefficient, leading, normal_form, polynomial_times}
use Rattle.nc_algebra.specs.Sums.{Term, is_at, minus}
use Rattle.nc_algebra.specs.Words.{IsWordLess, OccursAt, Word, same_word}
use Rattle.nc_index.specs.Chosen.{IsBelowSig, IsChosen, LeadsLaw}
use Rattle.nc_index.specs.Pairs.{IsFirstRegular, Lead}
use Rattle.nc_index.specs.declared.hit.Hit.{Hit}
use Rattle.nc_reduce.proofs.Choices.{hit_choice, hit_stands, number_within}
use Rattle.nc_snapshot.proofs.Snapshots.{snapshot_field, snapshot_usable}
use Rattle.nc_snapshot.specs.Snapshots.{IsSnapshot, Signed, Snapshot, entry_of}
use Rattle.nc_theory.proofs.Small.{usable_at}
use Rattle.nc_reduce.specs.Leads.{LeadsOf}
use Rattle.nc_reduce.specs.Steps.{IsStepAt}
use Rattle.nc_reduce.specs.Turns.{IsTurn}
use Rattle.nc_reduce.specs.declared.turn.Turn.{Turn}
use Rattle.nc_reduce.specs.declared.turn.Turn.TheVariants.{Kept, Subtracted}
use Rattle.nc_theory.proofs.Choices.{chosen_few, kept_turn, lead_residue, subtracted_turn}
use Rattle.nc_theory.proofs.Loops.{ReducedTo}
use Rattle.nc_theory.proofs.Runs.{whole, whole_normal}
use Rattle.nc_theory.proofs.Turns.{IsLeft, kept_leaves, size_of, subtracted_leaves, turn_keeps, turn_subtracts}
use Rattle.nc_theory.specs.Found.{Chosen}
use Rattle.nc_theory.specs.Places.{IsChoiceOf}
use Rattle.nc_theory.specs.Reductions.{Reduction}
use Rattle.nc_theory.specs.Turns.{IsKept, IsSubtracted}
use Rattle.nc_theory.specs.Usable.{HasSmallWords, IsUsable}
use Rattle.nc_theory.specs.States.{Entry, Step}
use Rattle.std.proofs.Common.{List, None, Option, Some, [], ap, arith, get_or, length, refl, subst, sym, ℕ, ◌%◌, ◌*◌, ◌+◌, ◌++◌, ◌-◌, ◌<◌, ◌∙◌, ◌∷◌, ◌≡◌, ◌≤◌}
use Rattle.std.proofs.Math.Nat.{add-mul-mod_self_left}
use Rattle.std.proofs.lemmas.List.Elements.{All-from_recursion, recursion_from_All}
use Rattle.std.proofs.lemmas.Option.{get_or_from_slice_get}
use Rattle.std.specs.List.{All, slice_get}

-- what stands behind the first term of a normal form is what the difference with that term has as
-- its own
rest_is : (p : ℕ) (t : Term Word) (f : Polynomial) → IsNormal p (t ∷ f)
    → f ≡ normal_form p (minus p (t ∷ f) 1 (t ∷ []))
rest_is p t f n =
    normal_form_only p (minus p (t ∷ f) 1 (t ∷ [])) f some (
      n.0.2,
      All-from_recursion (λ u. u.coefficient < p) f
          (recursion_from_All (λ u. u.coefficient < p) (t ∷ f) n.1).1,
    ) (record { at = same })
  where
    some : 0 < p
    some = omega (arith, (recursion_from_All (λ u. u.coefficient < p) (t ∷ f) n.1).0)

    whole : (q a c : ℕ) → p ≡ q + 1 → a + c + q * 1 * (a + 0) ≡ c + p * a
    whole q a c e = omega (arith, ap (λ n. n * a) e)

    same : (w : Word) → coefficient f w % p ≡ coefficient (minus p (t ∷ f) 1 (t ∷ [])) w % p
    same w =
        sym (ap (λ n. n % p) (coefficient-minus same_word IsWordLess word_laws p (t ∷ f) 1 (t ∷ [])
        w ∙ whole (p - 1) (t.coefficient * is_at same_word w t.key) (coefficient f w)
        (omega (arith, some))) ∙ add-mul-mod_self_left _ _ _)

-- what is known where a turn begins: t is the greatest term of what is left
pub record IsTurning (x : Snapshot) (leads : List Lead) (old : Polynomial) (t : Term Word) : Type 0
  where
    pub law : LeadsLaw
    pub is : IsSnapshot x
    pub listed : LeadsOf x leads
    pub normal : IsNormal x.problem.problem.setting.prime old
    pub others : Polynomial
    pub parts : old ≡ t ∷ others

-- what holds of the entry that the hit names, with polynomial f
pub record IsDivisorOf (p : ℕ) (t : Term Word) (h : Hit) (f : Polynomial) : Type 0 where
  pub residue : t.coefficient < p
  pub normal : IsNormal p f
  pub stands : OccursAt (leading p f) t.key h.place

-- the turn, with the leads' answer for the greatest word w
module _ (x : Snapshot) (leads : List Lead) (old : Polynomial) (t : Term Word)
    (turning : IsTurning x leads old t) (β : Sig) (w : Word) (is_word : w ≡ t.key) where
  abbrev s : Setting
  s = x.problem.problem.setting

  abbrev entries : List Entry
  entries = x.state.entries

  usable : All (IsUsable s) entries
  usable = snapshot_usable x turning.is

  chosen : (answer : Option Hit) → IsFirstRegular leads w β answer
      → IsChosen s entries t.key β answer
  chosen answer first =
      turning.law s entries t.key β answer
      (subst (λ l. IsFirstRegular l t.key β answer) turning.listed
      (subst (λ v. IsFirstRegular leads v β answer) is_word first))

  pub none_turn : IsFirstRegular leads w β None → (u : Term Word) (new : Polynomial)
      → old ≡ u ∷ new → IsKept s entries (IsBelowSig s β) old new u
  none_turn none u new e =
      let same : t.key ≡ u.key =
      ap (λ (y : Term Word). y.key) (let h : t ∷ turning.others ≡ u ∷ new =
      sym turning.parts ∙ e in let i : t ≡ u = cc in i) in
      kept_turn s entries usable (IsBelowSig s β) old u new e turning.normal t.key new same
      (chosen None none)
      (rest_is s.prime u new (subst (IsNormal s.prime) e turning.normal)
      ∙ ap (λ f. normal_form s.prime (minus s.prime f 1 (u ∷ []))) (sym e))

  module _ (h : Hit) (first : IsFirstRegular leads w β (Some h)) where
    found : IsChosen s entries t.key β (Some h)
    found = chosen (Some h) first

    pub hit_within : h.number ≤ length entries
    hit_within = number_within s entries β t.key h found

    -- its entry, and the setting's prime p, as code reads them
    module _ (e : Signed) (at : slice_get entries (h.number - 1) ≡ Some (entry_of e)) (p : ℕ)
        (is_prime : p ≡ s.prime) where
      pub hit_divides : IsDivisorOf p t h e.polynomial
      hit_divides =
          subst (λ q. IsDivisorOf q t h e.polynomial) (sym is_prime)
          (record {
            residue = lead_residue s entries usable (IsBelowSig s β) old t turning.others
                turning.parts turning.normal;
            normal = (usable_at s entries usable (h.number - 1) (entry_of e) at).normal;
            stands = hit_stands s entries β t.key h found (entry_of e) at;
          })

      -- and a step that was made of them
      module _ (step : Step) (made : IsStepAt p t e.polynomial h step) where
        over : IsStepAt s.prime t e.polynomial h step
        over = subst (λ q. IsStepAt q t e.polynomial h step) is_prime made

        abbrev choice : Chosen
        choice = record { left = step.left; number = step.number; right = step.right }

        is_choice : IsChoiceOf s entries (IsBelowSig s β) t.key (Some choice)
        is_choice =
            hit_choice s entries β t.key h found (entry_of e) at step.left step.number step.right
            over.spells over.place over.number

        read : entry_of e ≡ get_or entries (step.number - 1) (entry_of e)
        read = sym (get_or_from_slice_get entries (step.number - 1) (entry_of e) (entry_of e)
            (ap (λ n. slice_get entries (n - 1)) over.number ∙ at))

        -- the divisor's polynomial f, as code reads it
        module _ (f : Polynomial) (of_entry : f ≡ e.polynomial) where
          pub step_few : HasSmallWords s old
              → All (λ y. length step.left + length y.key + length step.right ≤ 200000) f
          step_few small =
              chosen_few s entries usable (IsBelowSig s β) old t turning.others turning.parts
              turning.normal t.key refl choice is_choice (entry_of e) read f of_entry step.left
              step.right refl refl small

          pub hit_turn : (new : Polynomial) → new ≡ normal_form p
              (minus p old step.coefficient (polynomial_times step.left f step.right))
              → IsSubtracted s entries (IsBelowSig s β) old new step
          hit_turn new rest =
              subtracted_turn s entries usable (IsBelowSig s β) old t turning.others turning.parts
              turning.normal t.key refl choice is_choice (entry_of e) read f of_entry new
              step.coefficient step.left step.right over.below
              (ap (λ g. step.coefficient * coefficient g (leading s.prime g) % s.prime) of_entry
              ∙ over.cancels) refl refl
              (rest ∙ ap (λ q. normal_form q
              (minus q old step.coefficient (polynomial_times step.left f step.right))) is_prime)

-- ---- a loop of turns

-- of f so much was kept and subtracted, and this is left
pub record IsReduced (x : Snapshot) (β : Sig) (f kept : Polynomial) (steps : List Step)
    (rest : Polynomial) : Type 0 where
  pub reached : ReducedTo x.problem.problem.setting x.state.entries
      (IsBelowSig x.problem.problem.setting β) f kept steps rest
  pub normal : IsNormal x.problem.problem.setting.prime rest
  pub small : HasSmallWords x.problem.problem.setting rest

-- what a turn does to it
pub record IsTurned (x : Snapshot) (β : Sig) (f kept : Polynomial) (steps : List Step)
    (old new : Polynomial) (turn : Turn) : Type 0 where
  pub falls : size_of new < size_of old
  pub keeps : (t : Term Word) → turn ≡ Kept t → IsReduced x β f (kept ++ t ∷ []) steps new
  pub subtracts : (step : Step) → turn ≡ Subtracted step
      → IsReduced x β f kept (steps ++ step ∷ []) new

module _ (x : Snapshot) (is : IsSnapshot x) (β : Sig) (f kept : Polynomial) (steps : List Step)
    (old : Polynomial) (reduced : IsReduced x β f kept steps old) where
  leaves : (new : Polynomial) (turn : Turn)
      → IsTurn x.problem.problem.setting x.state.entries β old new turn
      → IsLeft x.problem.problem.setting (snapshot_field x is) x.state.entries
      (snapshot_usable x is) (IsBelowSig x.problem.problem.setting β) old new
  leaves new (Kept t) turned =
      kept_leaves x.problem.problem.setting (snapshot_field x is) x.state.entries
      (snapshot_usable x is) (IsBelowSig x.problem.problem.setting β) old new t turned
      reduced.normal reduced.small
  leaves new (Subtracted step) turned =
      subtracted_leaves x.problem.problem.setting (snapshot_field x is) x.state.entries
      (snapshot_usable x is) (IsBelowSig x.problem.problem.setting β) old new step turned
      reduced.normal reduced.small

  pub is_turned : (new : Polynomial) (turn : Turn)
      → IsTurn x.problem.problem.setting x.state.entries β old new turn
      → IsTurned x β f kept steps old new turn
  is_turned new turn turned = record {
    falls = left.falls;
    keeps = λ t e. record {
      reached = turn_keeps x.problem.problem.setting (snapshot_field x is) x.state.entries
          (snapshot_usable x is) (IsBelowSig x.problem.problem.setting β) f kept steps old new t
          (subst (IsTurn x.problem.problem.setting x.state.entries β old new) e turned)
          reduced.reached;
      normal = left.normal;
      small = left.small;
    };
    subtracts = λ step e. record {
      reached = turn_subtracts x.problem.problem.setting (snapshot_field x is) x.state.entries
          (snapshot_usable x is) (IsBelowSig x.problem.problem.setting β) f kept steps old new
          step (subst (IsTurn x.problem.problem.setting x.state.entries β old new) e turned)
          reduced.reached;
      normal = left.normal;
      small = left.small;
    };
  }
    where
      left : IsLeft x.problem.problem.setting (snapshot_field x is) x.state.entries
          (snapshot_usable x is) (IsBelowSig x.problem.problem.setting β) old new
      left = leaves new turn turned

  -- where nothing is left
  module _ (nothing : old ≡ []) where
    pub ended_residues : AreResidues x.problem.problem.setting.prime kept
    ended_residues =
        (whole_normal x.problem.problem.setting (snapshot_field x is) x.state.entries
        (snapshot_usable x is) (IsBelowSig x.problem.problem.setting β) f kept steps old
        reduced.reached nothing).1

    pub ended : (g : Polynomial) → g ≡ normal_form x.problem.problem.setting.prime kept
        → Reduction x.problem.problem.setting x.state.entries
        (IsBelowSig x.problem.problem.setting β) f g steps
    ended =
        whole x.problem.problem.setting (snapshot_field x is) x.state.entries
        (snapshot_usable x is) (IsBelowSig x.problem.problem.setting β) f kept steps old
        reduced.reached nothing
