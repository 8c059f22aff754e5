use Rattle.nc_algebra.specs.Words.{compare_letters}
use Rattle.nc_words.specs.Products.{joined_word}
use Rattle.std.proofs.Common.{[], length, ◌≡◌}
use Rattle.std.specs.Cmp.Lexicographic.{slice_cmp}
use Rattle.nc_words.proofs.joined.Joined.compare_letters.Given as goal

abbrev pub invariant-loop-count : goal.invariant-loop-count
invariant-loop-count l = record {
  same : slice_cmp compare_letters (joined_word l.self) (joined_word l.other) ≡ slice_cmp
      compare_letters (joined_word l.a) (joined_word l.b);
  first : l.a.first.now ≡ [] → joined_word l.a ≡ [];
  second : l.b.first.now ≡ [] → joined_word l.b ≡ [];
}

abbrev pub decreases-loop-count : goal.decreases-loop-count
decreases-loop-count l = length (joined_word l.a)
