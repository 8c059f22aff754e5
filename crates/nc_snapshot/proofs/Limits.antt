-- What is counted in a snapshot.
-- The counts are those of the run (`snapshot_counts`), and a problem has at most 1,000,000,000
-- steps, so they fit.
use Rattle.nc_theory.specs.Untraced.{untraced_entry, untraced_syzygy}
use Rattle.nc_snapshot.specs.Snapshots.{Found, IsSnapshot, Snapshot, entry_of, state_of, syzygy_of}
use Rattle.nc_theory.proofs.Counting.{counts}
use Rattle.std.proofs.Common.{ap, arith, length, ◌+◌, ◌∙◌, ◌≡◌, ◌≤◌}
use Rattle.std.proofs.lemmas.List.{length-map}

-- each handled signature is counted once, and a problem has at most 1,000,000,000 steps
pub snapshot_counts : (s : Snapshot) → IsSnapshot s
    → s.state.covered + s.state.settled + length s.state.entries + length s.state.syzygies
    ≤ 1000000000
snapshot_counts s h =
    let c : s.state.covered ≡ h.run.run.covered = ap (λ x. x.covered) h.run.stands in
    let d : s.state.settled ≡ h.run.run.settled = ap (λ x. x.settled) h.run.stands in
    let e : length s.state.entries ≡ length h.run.run.entries =
    ap (λ x. length x.entries) h.run.stands ∙ length-map h.run.run.entries untraced_entry in
    let z : length s.state.syzygies ≡ length h.run.run.syzygies =
    ap (λ x. length x.syzygies) h.run.stands ∙ length-map h.run.run.syzygies untraced_syzygy in
    omega (arith, counts s.problem.problem h.run.runs, h.few, h.problem.few, c, d, e, z)

-- the same of what is kept
pub found_counts : (s : Snapshot) (f : Found) → s.state ≡ state_of f → IsSnapshot s
    → f.covered + f.settled + length f.entries + length f.syzygies ≤ 1000000000
found_counts s f is h =
    let c : s.state.covered ≡ f.covered = ap (λ x. x.covered) is in
    let d : s.state.settled ≡ f.settled = ap (λ x. x.settled) is in
    let e : length s.state.entries ≡ length f.entries =
    ap (λ x. length x.entries) is ∙ length-map f.entries entry_of in
    let z : length s.state.syzygies ≡ length f.syzygies =
    ap (λ x. length x.syzygies) is ∙ length-map f.syzygies syzygy_of in
    omega (arith, snapshot_counts s h, c, d, e, z)
