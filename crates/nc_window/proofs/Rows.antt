-- Laws of rows alone, for those who read a window's contracts.
use Rattle.nc_algebra.specs.Monomials.{Sig, compare_sigs}
use Rattle.nc_sig.proofs.Equality.{sigs_decide}
use Rattle.nc_window.specs.Rows.{generation_at, insert_row, row_at, row_of, row_with, with_item, without_row}
use Rattle.nc_window.specs.Windows.{Row}
use Rattle.std.proofs.Common.{All, Bool, List, None, Some, [], ap, cond, false, map, nat_eq, refl, sym, true, ℕ, ◌∷◌, ◌∙◌, ◌≡◌, ◌≢◌}
use Rattle.std.proofs.lemmas.List.Elements.{All-cons, All-head, All-nil, All-tail}
use Rattle.std.specs.Option.{option_map}
use Rattle.std.specs.Ordering.{is_eq, is_lt}

module _ {T : Type 0} where
  abbrev Unlike : Sig → Row T → Type 0
  Unlike σ r = r.signature ≢ σ

  -- where no row is found, none has the signature
  pub row_of-none : (rows : List (Row T)) (σ : Sig) → row_of rows σ ≡ None
      → All (λ r. r.signature ≢ σ) rows
  row_of-none [] σ e = All-nil (Unlike σ)
  row_of-none (r ∷ rs) σ e = by_test (is_eq (compare_sigs r.signature σ)) refl (row_of-none rs σ)
    where
      by_test : (b : Bool) → is_eq (compare_sigs r.signature σ) ≡ b
          → (row_of rs σ ≡ None → All (Unlike σ) rs) → All (Unlike σ) (r ∷ rs)
      by_test true t again =
          let found : Some r ≡ None =
          sym (ap (λ b. cond b (Some r) (row_of rs σ)) t) ∙ e in
          let no : ⊥ = cc in absurd no
      by_test false t again =
          All-cons (Unlike σ) r rs (λ s. let f : false ≡ true =
          sym t ∙ (sigs_decide r.signature σ).1 s in
          let no : ⊥ = cc in no)
          (again (sym (ap (λ b. cond b (Some r) (row_of rs σ)) t) ∙ e))

  -- and the other way round
  pub row_of-lacking : (rows : List (Row T)) (σ : Sig) → All (λ r. r.signature ≢ σ) rows
      → row_of rows σ ≡ None
  row_of-lacking [] σ h = refl
  row_of-lacking (r ∷ rs) σ h = by_test (is_eq (compare_sigs r.signature σ)) refl
      (row_of-lacking rs σ (All-tail (Unlike σ) r rs h))
    where
      by_test : (b : Bool) → is_eq (compare_sigs r.signature σ) ≡ b → row_of rs σ ≡ None
          → row_of (r ∷ rs) σ ≡ None
      by_test true t again =
          absurd (All-head (Unlike σ) r rs h ((sigs_decide r.signature σ).0 t))
      by_test false t again = ap (λ b. cond b (Some r) (row_of rs σ)) t ∙ again

-- a function of a choice
choice : {A B : Type 0} (h : A → B) (b : Bool) (x y : A) → cond b (h x) (h y) ≡ h (cond b x y)
choice h true x y = refl
choice h false x y = refl

module _ {T U : Type 0} where
  -- the row with its item changed
  abbrev pub row_map : (T → U) → Row T → Row U
  row_map f r =
      record {
        signature = r.signature;
        index = r.index;
        generation = r.generation;
        item = f r.item;
      }

  pub generation_at-map : (f : T → U) (rows : List (Row T)) (i : ℕ)
      → generation_at (map (row_map f) rows) i ≡ generation_at rows i
  generation_at-map f [] i = refl
  generation_at-map f (r ∷ rs) i =
      ap (λ g. cond (nat_eq r.index i) r.generation g) (generation_at-map f rs i)

  pub row_at-map : (f : T → U) (rows : List (Row T)) (i : ℕ)
      → row_at (map (row_map f) rows) i ≡ option_map (row_map f) (row_at rows i)
  row_at-map f [] i = refl
  row_at-map f (r ∷ rs) i =
      ap (λ o. cond (nat_eq r.index i) (Some (row_map f r)) o) (row_at-map f rs i)
      ∙ choice (option_map (row_map f)) (nat_eq r.index i) (Some r) (row_at rs i)

  pub without_row-map : (f : T → U) (rows : List (Row T)) (i : ℕ)
      → without_row i (map (row_map f) rows) ≡ map (row_map f) (without_row i rows)
  without_row-map f [] i = refl
  without_row-map f (r ∷ rs) i =
      ap (λ l. cond (nat_eq r.index i) (map (row_map f) rs) (row_map f r ∷ l))
      (without_row-map f rs i)
      ∙ choice (map (row_map f)) (nat_eq r.index i) rs (r ∷ without_row i rs)

  pub with_item-map : (f : T → U) (rows : List (Row T)) (i g : ℕ) (x : T)
      → with_item i g (f x) (map (row_map f) rows) ≡ map (row_map f) (with_item i g x rows)
  with_item-map f [] i g x = refl
  with_item-map f (r ∷ rs) i g x =
      ap (λ l. cond (nat_eq r.index i) (row_with g (f x) (row_map f r) ∷ map (row_map f) rs)
      (row_map f r ∷ l)) (with_item-map f rs i g x)
      ∙ choice (map (row_map f)) (nat_eq r.index i) (row_with g x r ∷ rs)
      (r ∷ with_item i g x rs)

  pub insert_row-map : (f : T → U) (rows : List (Row T)) (r : Row T)
      → insert_row (row_map f r) (map (row_map f) rows) ≡ map (row_map f) (insert_row r rows)
  insert_row-map f [] r = refl
  insert_row-map f (s ∷ rows) r =
      ap (λ l. cond (is_lt (compare_sigs r.signature s.signature))
      (row_map f r ∷ row_map f s ∷ map (row_map f) rows) (row_map f s ∷ l))
      (insert_row-map f rows r)
      ∙ choice (map (row_map f)) (is_lt (compare_sigs r.signature s.signature)) (r ∷ s ∷ rows)
      (s ∷ insert_row r rows)
