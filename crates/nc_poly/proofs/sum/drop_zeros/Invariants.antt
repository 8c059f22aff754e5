use Rattle.nc_poly.specs.Keeping.{now_of, terms_by}
use Rattle.std.proofs.Common.{All, ℕ, ◌≡◌, ◌≤◌}
use Rattle.std.specs.BTreeMap.{btree_map_len}
use Rattle.nc_poly.proofs.sum.drop_zeros.Given as goal

abbrev pub invariant-loop-map : goal.invariant-loop-map
invariant-loop-map g l = record {
  terms : terms_by now_of l.map.entries ≡ terms_by now_of l.initial.map.entries;
  stamps : (pass : ℕ) → All (λ e. e.1.pass ≤ pass) l.initial.map.entries
      → All (λ e. e.1.pass ≤ pass) l.map.entries;
}

abbrev pub decreases-loop-map : goal.decreases-loop-map
decreases-loop-map g l = btree_map_len l.map
