-- Changes of single nodes, and the steps by which a row's node is linked in and out. No public
-- clause cites this module.
use Rattle.nc_window.specs.Arena.{free_slot, slot_of}
use Rattle.nc_window.specs.Links.{Slot}
use Rattle.nc_window.specs.Windows.{Row}
use Rattle.std.specs.Option.{option_map}
use Rattle.std.specs.Prelude.{List, None, Option, Some, length, slice_get, ℕ, ◌≡◌}

-- the link to the first row, where the node behind `before` was linked to another
abbrev pub relinked : Option ℕ → Option ℕ → Option ℕ → Option ℕ
relinked None first link = link
relinked (Some _) first link = first

module _ {T : Type 0} where
  -- one node, if `target` names one, was changed in this way, and no other
  pub record Edits (old new : List (Slot T)) (target : Option ℕ) (change : Slot T → Slot T)
      : Type 0 where
    pub len : length new ≡ length old
    pub at : (i : ℕ) (n : Slot T) → target ≡ Some i → slice_get old i ≡ Some n
        → slice_get new i ≡ Some (change n)
    pub others : (i : ℕ) → ¬ (target ≡ Some i) → slice_get new i ≡ slice_get old i

  abbrev pub next_set : Option ℕ → Slot T → Slot T
  next_set link n =
      record { held = n.held; generation = n.generation; previous = n.previous; next = link }

  abbrev pub previous_set : Option ℕ → Slot T → Slot T
  previous_set link n =
      record { held = n.held; generation = n.generation; previous = link; next = n.next }

  abbrev pub item_set : ℕ → T → Slot T → Slot T
  item_set g x n =
      record {
        held = option_map (λ h. (h.0, x)) n.held;
        generation = g;
        previous = n.previous;
        next = n.next;
      }

  -- the row's node was filled, and those around it were linked to it
  pub record LinksIn (old new : List (Slot T)) (r : Row T) (before after : Option ℕ)
      : Type 0 where
    pub filled : List (Slot T)
    pub linked : List (Slot T)
    pub fills : Edits old filled (Some r.index) (λ _. slot_of r before after)
    pub behind : Edits filled linked before (next_set (Some r.index))
    pub ahead : Edits linked new after (previous_set (Some r.index))

  -- the nodes around the one with this index were linked to each other, and it was freed
  pub record LinksOut (old new : List (Slot T)) (i : ℕ) (before after link : Option ℕ)
      : Type 0 where
    pub behind_linked : List (Slot T)
    pub both_linked : List (Slot T)
    pub behind : Edits old behind_linked before (next_set after)
    pub ahead : Edits behind_linked both_linked after (previous_set before)
    pub frees : Edits both_linked new (Some i) (λ _. free_slot link)
