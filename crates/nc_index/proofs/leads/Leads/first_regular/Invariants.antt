use Rattle.nc_index.proofs.Regular.{NonePairBefore}
use Rattle.nc_index.proofs.leads.Leads.first_regular.Given as goal

abbrev pub invariant-loop-index : goal.invariant-loop-index
invariant-loop-index l = NonePairBefore l.self l.word l.bound 0 l.index
