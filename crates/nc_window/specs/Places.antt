-- The place of a signature among the rows. No public clause cites this module.
use Rattle.nc_algebra.specs.Monomials.{Sig, compare_sigs}
use Rattle.nc_window.specs.Links.{Slot, first_of}
use Rattle.nc_window.specs.Windows.{Row}
use Rattle.std.specs.Ordering.{is_lt}
use Rattle.std.specs.Prelude.{IfSome, List, None, Option, Some, [], false, length, ℕ, ◌++◌, ◌∷◌, ◌≡◌}
use Rattle.std.specs.declared.cmp.Ordering.{Ordering}
use Rattle.std.specs.declared.cmp.Ordering.TheVariants.{Less}

module _ {T : Type 0} where
  -- how the signature that the node holds compares with this one
  abbrev pub Compares : Slot T → Sig → Ordering → Type 0
  Compares n σ o = IfSome n.held (λ h. o ≡ compare_sigs h.0 σ)

  -- the index of the last row, and `before` where there is none
  abbrev pub last_of : Option ℕ → List (Row T) → Option ℕ
  last_of before [] = before
  last_of before (r ∷ rs) = last_of (Some r.index) rs

  -- the rows' signatures are less than this one
  abbrev pub Below : List (Row T) → Sig → Type 0
  Below [] σ = Unit
  Below (r ∷ rs) σ = (compare_sigs r.signature σ ≡ Less) × Below rs σ

  -- the first row's is not
  abbrev pub StartsNotBelow : List (Row T) → Sig → Type 0
  StartsNotBelow [] σ = Unit
  StartsNotBelow (r ∷ _) σ = is_lt (compare_sigs r.signature σ) ≡ false

  -- k rows were passed: the last of them and the next one have these indices
  pub record Walks (live : List (Row T)) (σ : Sig) (before at : Option ℕ) (k : ℕ) : Type 0 where
    pub front : List (Row T)
    pub rest : List (Row T)
    pub split : live ≡ front ++ rest
    pub behind : before ≡ last_of None front
    pub ahead : at ≡ first_of rest None
    pub passed : length front ≡ k
    pub below : Below front σ

  -- the signature's place is between the rows with these indices
  pub record IsPlace (live : List (Row T)) (σ : Sig) (before at : Option ℕ) : Type 0 where
    pub front : List (Row T)
    pub rest : List (Row T)
    pub split : live ≡ front ++ rest
    pub behind : before ≡ last_of None front
    pub ahead : at ≡ first_of rest None
    pub below : Below front σ
    pub starts : StartsNotBelow rest σ
