use Rattle.nc_member.proofs.Places.{count_point, rises}
use Rattle.std.proofs.Common.{nat_le, rules}
use Rattle.std.proofs.lemmas.List.Sorted.{IsPartitionPoint-from_clause, IsPartitionedBy-leb}
use Rattle.nc_member.proofs.lines.line_number.Goals as goal

pub returns : goal.returns
returns c =
    count_point c.args.number c.args.entries.now c.partition_point.result
    c.partition_point.ensures.bound
    (IsPartitionPoint-from_clause (λ k. nat_le k c.args.number) c.args.entries.now
    c.partition_point.result c.partition_point.ensures.partitioned
    (IsPartitionedBy-leb (λ k. k) c.args.entries.now c.args.number
    (rises c.args.entries.now c.requires.ascending)) (λ a r f' k. search rules))
