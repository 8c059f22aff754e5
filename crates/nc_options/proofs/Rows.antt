-- The rows that `clap` keeps of uses, and what one more use does to them.
use Rattle.std.proofs.Common.{◌≡◌, ◌∙◌, ◌&&◌, ◌||◌, ℕ, Bool, cond, true, false, refl, ap, List, [], ◌∷◌, ◌++◌, Option, Some, None, append-nil}
use Rattle.std.specs.Prelude.{find, option_map, option_and_then, slice_get, if◌then◌else◌}
use Rattle.std.specs.Str.{bytes_eq}
use Rattle.clap.specs.Walk.{Row, used, at_row, more_values, has_row, first_of}
use Rattle.clap.specs.Kinds.{or_else}
use Rattle.clap.specs.Faults.{use_fault}
use Rattle.clap.specs.declared.builder.value_parser.Reading.TheVariants.{AsWritten}
use Rattle.clap.specs.declared.parser.matches.ValueSource.TheVariants.{CommandLine}
use Rattle.clap.specs.declared.error.kind.ErrorKind.TheVariants as kind
use Rattle.std.proofs.lemmas.Bool.{or_parts}
use Rattle.nc_options.specs.Pieces.{Text}
use Rattle.nc_options.specs.Uses.{Use, value_of}
use Rattle.nc_options.proofs.Tables.{usual_rule}
use Rattle.nc_options.proofs.Distinct.{has_name}

abbrev pub row_for : Use → Row
row_for u =
    record {
      id = u.0;
      values = u.1 ∷ [];
      count = None;
      source = Some CommandLine;
      reading = AsWritten;
    }

abbrev pub rows_for : List Use → List Row
rows_for [] = []
rows_for (u ∷ us) = row_for u ∷ rows_for us

pub has_row_for : (id : Text) (us : List Use) → has_row id (rows_for us) ≡ has_name id us
has_row_for id [] = refl
has_row_for id (u ∷ us) = ap (λ b. bytes_eq u.0 id || b) (has_row_for id us)

pub first_of_for : (id : Text) (us : List Use) → first_of id (rows_for us) ≡ value_of id us
first_of_for id [] = refl
first_of_for id (u ∷ us) = go (bytes_eq u.0 id) (first_of_for id us)
  where
    go : (b : Bool) → first_of id (rows_for us) ≡ value_of id us
        → option_and_then (λ (r : Row). slice_get r.values 0)
        (cond b (Some (row_for u)) (find (λ r. bytes_eq r.id id) (rows_for us)))
        ≡ option_map (λ (v : Use). v.1) (cond b (Some u) (find (λ v. bytes_eq v.0 id) us))
    go true e = refl
    go false e = e

rows_push : (us : List Use) (u : Use) → rows_for us ++ (row_for u ∷ []) ≡ rows_for (us ++ u ∷ [])
rows_push [] u = refl
rows_push (v ∷ us) u = ap (λ rs. row_for v ∷ rs) (rows_push us u)

at_none : (id : Text) (change : Row → List Row) (missing : List Row) (us : List Use)
    → has_name id us ≡ false → at_row id change missing (rows_for us) ≡ rows_for us ++ missing
at_none id change missing [] none = refl
at_none id change missing (u ∷ us) none =
    ap (λ b. cond b (change (row_for u) ++ rows_for us)
    (row_for u ∷ at_row id change missing (rows_for us)))
    (or_parts (bytes_eq u.0 id) _ none).0
    ∙ ap (λ rs. row_for u ∷ rs) (at_none id change missing us (or_parts (bytes_eq u.0 id) _ none).1)

-- a use of an argument that was not used joins the rows
pub used_new : (id v : Text) (l : Option Text) (i : Option ℕ) (us : List Use)
    → has_name id us ≡ false
    → used (usual_rule id l i) (v ∷ []) (rows_for us) ≡ rows_for (us ++ (id, v) ∷ [])
used_new id v l i us none =
    ap (λ rs. at_row id (more_values CommandLine (v ∷ [])) (row_for (id, v) ∷ []) rs)
    (at_none id (λ _. []) [] us none ∙ append-nil (rows_for us))
    ∙ at_none id (more_values CommandLine (v ∷ [])) (row_for (id, v) ∷ []) us none
    ∙ rows_push us (id, v)

pub use_fault_new : (id v : Text) (l : Option Text) (i : Option ℕ) (us : List Use)
    → has_name id us ≡ false
    → use_fault false (usual_rule id l i) (v ∷ []) (rows_for us) ≡ []
use_fault_new id v l i us none =
    ap (λ b. or_else (if b && true then kind.ArgumentConflict ∷ [] else []) [])
    (has_row_for id us ∙ none)

pub use_fault_again : (id v : Text) (l : Option Text) (i : Option ℕ) (us : List Use)
    → has_name id us ≡ true
    → use_fault false (usual_rule id l i) (v ∷ []) (rows_for us) ≡ kind.ArgumentConflict ∷ []
use_fault_again id v l i us some =
    ap (λ b. or_else (if b && true then kind.ArgumentConflict ∷ [] else []) [])
    (has_row_for id us ∙ some)
