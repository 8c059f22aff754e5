-- Pairs of a leading word and a signature, and the first one that stands in a word.
--
-- A search for a reducer reads no more of an entry than this pair. It goes through the pairs in
-- order, and through the places from the left, and takes the first one whose multiple has a
-- signature below the bound β. So the definitions need no run and no setting. Pairs count from 0
-- here, and the number in an answer counts from 1, as numbers of entries do.
use Rattle.nc_algebra.specs.Monomials.{Sig, compare_sigs, sig_times}
use Rattle.nc_algebra.specs.Words.{Word}
use Rattle.nc_index.specs.declared.hit.Hit.{Hit}
use Rattle.std.specs.Prelude.{List, None, Option, Some, length, slice_get, ℕ, ◌++◌, ◌+◌, ◌<◌, ◌≡◌, ◌≤◌, ◌⊎◌}
use Rattle.std.specs.declared.cmp.Ordering.TheVariants.{Less}

-- what the search reads of an entry: its leading word and its signature
pub record Lead : Type 0 where
  pub word : Word
  pub signature : Sig

-- the word of l stands in w with u before it and v behind it, and the multiple there has a
-- signature below β
pub record IsRegular (l : Lead) (w : Word) (β : Sig) (u v : Word) : Type 0 where
  pub spells : u ++ (l.word ++ v) ≡ w
  pub below : compare_sigs (sig_times u l.signature v) β ≡ Less

-- it stands so with q letters before it
abbrev pub RegularPlace : Lead → Word → Sig → ℕ → Type 0
RegularPlace l w β q = (u : Word) × (v : Word) × IsRegular l w β u v × (length u ≡ q)

-- the leftmost such place, and None exactly where there is none
abbrev pub IsFirstPlace : Lead → Word → Sig → Option ℕ → Type 0
IsFirstPlace l w β None = (q : ℕ) → ¬ (RegularPlace l w β q)
IsFirstPlace l w β (Some q) = RegularPlace l w β q × ((r : ℕ) → RegularPlace l w β r → q ≤ r)

-- so stands the word of the pair with this index, counted from 0
pub record RegularAt (leads : List Lead) (w : Word) (β : Sig) (i : ℕ) (u v : Word) : Type 0 where
  pub lead : Lead
  pub stands : slice_get leads i ≡ Some lead
  pub regular : IsRegular lead w β u v

-- no pair before this one stands so, and this one nowhere further to the left
pub record IsFirst (leads : List Lead) (w : Word) (β : Sig) (i : ℕ) (u v : Word) : Type 0 where
  pub regular : RegularAt leads w β i u v
  pub least : (j : ℕ) (x y : Word) → RegularAt leads w β j x y → (i < j)
      ⊎ ((i ≡ j) × (length u ≤ length x))

-- the first pair that stands so, by its number, counted from 1, and its leftmost place; None
-- exactly where there is none
abbrev pub IsFirstRegular : List Lead → Word → Sig → Option Hit → Type 0
IsFirstRegular leads w β None = (i : ℕ) (u v : Word) → ¬ (RegularAt leads w β i u v)
IsFirstRegular leads w β (Some h) =
    (i : ℕ) × (u : Word) × (v : Word) × IsFirst leads w β i u v × (h.number ≡ i + 1)
    × (h.place ≡ length u)

-- some pair behind the first n stands so
abbrev pub HasRegularAfter : List Lead → ℕ → Word → Sig → Type 0
HasRegularAfter leads n w β =
    (i : ℕ) × (u : Word) × (v : Word) × RegularAt leads w β i u v × (n ≤ i)
