use Rattle.nc_index.proofs.Regular.{first_of_all, none_regular}
use Rattle.nc_index.proofs.lead.Lead.first_place.Goals as goal

pub returns-in-Less : goal.returns-in-Less
returns-in-Less c =
    first_of_all c.args.self.now c.args.word.now c.args.bound.now c.args.weight c.requires.weight
    c.in-Less.ensures c.place_of.result (rw (← c.letters.ensures) c.place_of.ensures)

pub returns-in-Greater : goal.returns-in-Greater
returns-in-Greater c =
    none_regular c.args.self.now c.args.word.now c.args.bound.now c.args.weight c.requires.weight
    c.in-Greater.ensures
