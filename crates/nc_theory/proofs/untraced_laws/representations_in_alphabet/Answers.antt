use Rattle.nc_algebra.specs.Problems.{IsWithinBound}
use Rattle.nc_theory.proofs.OwnLetters.{in_alphabet}
use Rattle.nc_theory.proofs.untraced_laws.representations_in_alphabet.Goals as goal

pub returns : goal.returns
returns c s is b f words = in_alphabet s is (IsWithinBound s.setting b) f words
