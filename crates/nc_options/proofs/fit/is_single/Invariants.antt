use Rattle.std.proofs.Common.{◌≡◌, ◌≤◌, take, string_bytes}
use Rattle.std.specs.List.{count_by}
use Rattle.nc_options.specs.Fit.{names_option}
use Rattle.nc_options.proofs.fit.is_single.Given as goal

abbrev pub invariant-loop-word : goal.invariant-loop-word
invariant-loop-word l = record {
  counts : l.count ≡ count_by (λ w. names_option l.name (string_bytes w))
      (take l.word-index l.words);
  few : l.count ≤ l.word-index;
}
