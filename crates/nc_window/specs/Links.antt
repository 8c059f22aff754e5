-- What contracts see of a node: what it holds, and its links.
use Rattle.nc_algebra.specs.Monomials.{Sig}
use Rattle.nc_window.specs.Rows.{row_at}
use Rattle.nc_window.specs.Windows.{Row, Shown}
use Rattle.std.specs.Option.{is_some}
use Rattle.std.specs.Prelude.{List, None, Option, Some, [], cond, nat_eq, ℕ, ◌∷◌}

-- one node: what it holds where it is not free, its generation, which is 0 where it is free, and
-- the indices of the nodes before and after it
pub record Slot (T : Type 0) : Type 0 where
  pub held : Option (Sig × T)
  pub generation : ℕ
  pub previous : Option ℕ
  pub next : Option ℕ

abbrev pub first_free : List ℕ → Option ℕ
first_free [] = None
first_free (i ∷ _) = Some i

-- the free index that is taken after this one
abbrev pub free_after : List ℕ → ℕ → Option ℕ
free_after [] i = None
free_after (j ∷ js) i = cond (nat_eq j i) (first_free js) (free_after js i)

module _ {T : Type 0} where
  -- the index of the first row, and `after` where there is none
  abbrev pub first_of : List (Row T) → Option ℕ → Option ℕ
  first_of [] after = after
  first_of (r ∷ _) _ = Some r.index

  -- the index in front of this row's, where `before` stands in front of the first
  abbrev pub index_before : Option ℕ → List (Row T) → ℕ → Option ℕ
  index_before before [] i = None
  index_before before (r ∷ rs) i = cond (nat_eq r.index i) before (index_before (Some r.index) rs i)

  -- the index behind this row's
  abbrev pub index_after : List (Row T) → ℕ → Option ℕ
  index_after [] i = None
  index_after (r ∷ rs) i = cond (nat_eq r.index i) (first_of rs None) (index_after rs i)

  -- the two links of the node with this index: a row's leads to those of the rows around it, and a
  -- free one to the index that is taken after it
  abbrev pub links_at : Shown T → ℕ → Option ℕ × Option ℕ
  links_at v i = (
    index_before None v.live i,
    cond (is_some (row_at v.live i)) (index_after v.live i) (free_after v.free i),
  )
