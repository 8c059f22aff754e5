use Rattle.nc_algebra.specs.Polynomials.{polynomial_times}
use Rattle.nc_reduce.proofs.Starts.{polynomial_at}
use Rattle.nc_reduce.specs.Starts.{IsReadable, polynomial_of, start_polynomial}
use Rattle.nc_snapshot.specs.Snapshots.{entry_of}
use Rattle.nc_snapshot.specs.Traces.{start_of}
use Rattle.nc_snapshot.specs.declared.trace.Start.{Start}
use Rattle.nc_snapshot.specs.declared.trace.Start.TheVariants.{Multiple}
use Rattle.std.proofs.Common.{IfOk, ap, subst, sym, ◌∙◌, ◌≡◌}
use Rattle.nc_reduce.proofs.start.start_poly.Goals.{After-poly-f}
use Rattle.nc_reduce.proofs.start.start_poly.Goals as goal

-- the multiple can be read, and the polynomial that code reads is that of its entry
record IsRead (c : After-poly-f) : Type 0 where
  readable : IsReadable c.args.snapshot.now.problem.problem.setting
      c.args.snapshot.now.state.entries
      (start_of (Multiple c.in-Multiple.left c.in-Multiple.number c.in-Multiple.right))
  reads : polynomial_of c.args.snapshot.now.state.entries c.in-Multiple.number
      ≡ c.poly-f.result.now

read : (c : After-poly-f) → IsRead c
read c =
    let readable : IsReadable c.args.snapshot.now.problem.problem.setting
    c.args.snapshot.now.state.entries
    (start_of (Multiple c.in-Multiple.left c.in-Multiple.number c.in-Multiple.right)) =
    subst (λ (x : Start). IsReadable c.args.snapshot.now.problem.problem.setting
    c.args.snapshot.now.state.entries (start_of x)) c.in-Multiple.is c.requires in
    record {
      readable = readable;
      reads = polynomial_at c.args.snapshot.now.state.entries c.in-Multiple.number
          (entry_of c.entry.result.now) readable.0 c.entry.ensures.entry ∙ sym c.poly-f.ensures;
    }

pub shifted-requires : goal.shifted-requires
shifted-requires c =
    let known = read (goal.at.shifted-requires c).After-poly-f in
    record {
      few = rw (c.letters.ensures.letters, c.letters-in-Multiple.ensures.letters, ← known.reads)
          known.readable.2;
    }

pub returns-in-Multiple : goal.returns-in-Multiple
returns-in-Multiple c =
    let known = read (goal.at.returns-in-Multiple c).After-poly-f in
    let shifted : polynomial_times c.letters.result.now c.poly-f.result.now
    c.letters-in-Multiple.result.now ≡ start_polynomial
    c.args.snapshot.now.problem.problem.setting c.args.snapshot.now.state.entries
    (start_of c.args.start.now) =
    rw (c.letters.ensures.letters, c.letters-in-Multiple.ensures.letters, ← known.reads)
    (ap (λ (x : Start). start_polynomial c.args.snapshot.now.problem.problem.setting
    c.args.snapshot.now.state.entries (start_of x)) (sym c.in-Multiple.is)) in
    subst (λ g. IfOk c.shifted.result (λ f. f ≡ g)) shifted c.shifted.ensures
