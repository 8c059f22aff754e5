-- The first of several items whose labels have more terms than a limit.
--
-- `Has listed n` says that a label of this item counts, and that it has n terms. Where several have
-- more terms than the limit the least entry is named, a syzygy only where no entry has, and the
-- claim last.
use Rattle.nc_snapshot.specs.declared.outcome.Listed.{Listed}
use Rattle.nc_snapshot.specs.declared.outcome.Listed.TheVariants.{Claim, Entry as EntryOf, Syzygy as SyzygyOf}
use Rattle.std.specs.Prelude.{ℕ, ◌<◌, ◌≤◌}

-- the entries by number, then the syzygies by number, then the claim
abbrev pub Precedes : Listed → Listed → Type 0
Precedes (EntryOf j) (EntryOf k) = j < k
Precedes (EntryOf j) (SyzygyOf k) = Unit {0}
Precedes (EntryOf j) Claim = Unit {0}
Precedes (SyzygyOf j) (EntryOf k) = ⊥
Precedes (SyzygyOf j) (SyzygyOf k) = j < k
Precedes (SyzygyOf j) Claim = Unit {0}
Precedes Claim other = ⊥

-- none of them has more terms
abbrev pub AreWithin : (Listed → ℕ → Type 0) → ℕ → Type 0
AreWithin Has limit = (listed : Listed) (n : ℕ) → Has listed n → n ≤ limit

-- the item named is the first that has more, and has so many
pub record IsFirstPast (Has : Listed → ℕ → Type 0) (limit : ℕ) (named : Listed)
    (terms : ℕ) : Type 0 where
  pub has : Has named terms
  pub many : limit < terms
  pub before : (other : Listed) (m : ℕ) → Precedes other named → Has other m → m ≤ limit
