-- Lines that are written item after item, each with its number.
use Rattle.nc_print.specs.Printing.{ended}
use Rattle.nc_report.specs.Reports.{ending_line, numbered}
use Rattle.nc_theory.specs.Runs.{End}
use Rattle.std.proofs.Common.{Err, List, None, Ok, Result, Some, [], ap, append_assoc, arith, get_or, inl, inr, length, slice_get, subst, sym, take, ℕ, ◌+◌, ◌++◌, ◌-◌, ◌<◌, ◌∙◌, ◌∷◌, ◌≡◌, ◌≤◌, ◌⊎◌}
use Rattle.std.proofs.lemmas.List.{append-nil, length-take-le, take_more}
use Rattle.std.proofs.lemmas.List.Concat.{flat_map-append}
use Rattle.std.proofs.lemmas.Option.{get_or_from_slice_get, slice_get_cases}
use Rattle.std.specs.Result.{OnOk}

module _ {X : Type 0} (lines : ℕ → X → List (List ℕ)) where
  numbered-append : (k : ℕ) (xs ys : List X) → numbered lines k (xs ++ ys) ≡ numbered lines k xs
      ++ numbered lines (k + length xs) ys
  numbered-append k [] ys = ap (λ (m : ℕ). numbered lines m ys) (omega arith)
  numbered-append k (x ∷ xs) ys =
      ap (λ (ls : List (List ℕ)). lines k x ++ ls) (numbered-append (k + 1) xs ys
      ∙ ap (λ (m : ℕ). numbered lines (k + 1) xs ++ numbered lines m ys) (omega arith))
      ∙ sym (append_assoc (lines k x) (numbered lines (k + 1) xs)
      (numbered lines (k + length (x ∷ xs)) ys))

  module _ (xs : List X) (i : ℕ) (x : X) (within : i < length xs)
      (at : slice_get xs (i + 1 - 1) ≡ Some x) where
    here : slice_get xs i ≡ Some x
    here = subst (λ (j : ℕ). slice_get xs j ≡ Some x) (omega arith) at

    numbered_more : numbered lines 1 (take (i + 1) xs) ≡ numbered lines 1 (take i xs)
        ++ lines (i + 1) x
    numbered_more =
        ap (numbered lines 1) (take_more xs i x within)
        ∙ (numbered-append 1 (take i xs) (get_or xs i x ∷ [])
        ∙ ap (λ (ls : List (List ℕ)). numbered lines 1 (take i xs) ++ ls)
        (append-nil (lines (1 + length (take i xs)) (get_or xs i x))
        ∙ (λ j. lines (place j) (get_or_from_slice_get xs i x x here j))))
      where
        place : 1 + length (take i xs) ≡ i + 1
        place = omega (arith, length-take-le i xs (omega (arith, within)), within)

    -- the lines of one more item behind those that were written
    pub written_more : (old before after : List ℕ)
        → before ≡ old ++ ended (numbered lines 1 (take i xs))
        → after ≡ before ++ ended (lines (i + 1) x)
        → after ≡ old ++ ended (numbered lines 1 (take (i + 1) xs))
    written_more old before after so_far now =
        now ∙ (ap (λ (l : List ℕ). l ++ ended (lines (i + 1) x)) so_far
        ∙ (append_assoc old (ended (numbered lines 1 (take i xs))) (ended (lines (i + 1) x))
        ∙ ap (λ (l : List ℕ). old ++ l)
        (sym (ap ended numbered_more ∙ flat_map-append (λ (l : List ℕ). l ++ 10 ∷ [])
        (numbered lines 1 (take i xs)) (lines (i + 1) x)))))

  -- the same where the lines of the next item are known, whatever it is
  pub written_next : (xs : List X) (i : ℕ) → i < length xs → (old before after : List ℕ)
      → before ≡ old ++ ended (numbered lines 1 (take i xs))
      → ((x : X) → slice_get xs (i + 1 - 1) ≡ Some x → after ≡ before ++ ended (lines (i + 1) x))
      → after ≡ old ++ ended (numbered lines 1 (take (i + 1) xs))
  written_next xs i within old before after so_far more = go (slice_get_cases xs i).1
    where
      go : ((x : X) × (i < length xs) × (slice_get xs i ≡ Some x) × (get_or xs i x ≡ x))
          ⊎ ((length xs ≤ i) × (slice_get xs i ≡ None))
          → after ≡ old ++ ended (numbered lines 1 (take (i + 1) xs))
      go (inl (x, here, at, same)) =
          let place : slice_get xs (i + 1 - 1) ≡ Some x =
          subst (λ (j : ℕ). slice_get xs j ≡ Some x) (omega arith) at in
          written_more xs i x within place old before after so_far (more x place)
      go (inr (past, none)) = absurd (omega (arith, past, within))

-- the end line of a complete run
pub complete_line : {T E : Type 0} (r : Result T E) (new old : List ℕ) (names : List (List ℕ))
    (ending : End) → End.complete ≡ ending
    → OnOk r ((any : List (List ℕ)) → new ≡ old ++ (ending_line any End.complete ++ 10 ∷ []))
    → OnOk r (new ≡ old ++ (ending_line names ending ++ 10 ∷ []))
complete_line (Ok x) new old names ending is all =
    all names ∙ ap (λ (e : End). old ++ (ending_line names e ++ 10 ∷ [])) is
complete_line (Err e) new old names ending is all = tt
