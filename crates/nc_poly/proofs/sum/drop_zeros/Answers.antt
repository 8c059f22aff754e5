use Rattle.nc_poly.proofs.Passes.{All-front, dropped_last, given, some_pushed}
use Rattle.std.proofs.Common.{[], ◌∙◌, ◌∷◌, ◌≤◌, refl}
use Rattle.nc_poly.proofs.sum.drop_zeros.Goals as goal

pub loop-map-preserved-in-loop-map : goal.loop-map-preserved-in-loop-map
loop-map-preserved-in-loop-map g c =
    let old = c.loop-map.map.entries in
    let new = c.pop_last.new.self.entries in
    let last = c.loop-map-test.ensures.yes refl in
    let popped =
    given _ c.pop_last.result (c.pop_last.ensures.variant.1
    (some_pushed old last.0 last.1 last.2)) c.pop_last.ensures.removal in
    record {
      terms = dropped_last old new last.0 popped.0 last.1 popped.2 last.2 last.3
          ∙ c.loop-map.invariant.terms;
      stamps =
          λ pass a. All-front (λ e. e.1.pass ≤ pass) old new (popped.0 ∷ []) popped.2
          (c.loop-map.invariant.stamps pass a);
    }
