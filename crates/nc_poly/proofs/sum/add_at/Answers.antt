use Rattle.nc_poly.proofs.Entries.{slot_residue}
use Rattle.nc_poly.specs.declared.sum.Slot.{Slot}
use Rattle.std.proofs.Common.{Option, ap₂, arith, subst, sym, ◌<◌, ◌∙◌}
use Rattle.std.specs.Option.{unwrap_or}
use Rattle.nc_poly.proofs.sum.add_at.Goals as goal

pub add-requires-clause-first : goal.add-requires-clause-first
add-requires-clause-first g c =
    subst (λ (s : Slot). s.now < c.args.p)
    (sym (c.or_insert-slot.ensures.value ∙ ap₂ (λ (o : Option Slot) (d : Slot). unwrap_or o d)
    c.in_ok-map.ensures.value c.fresh.ensures))
    (slot_residue g.met.K.Ord.total c.args.p c.args.pass c.args.key c.args.c c.args.map.now.entries
    (omega arith) c.requires.residues)
