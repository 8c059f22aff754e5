use Rattle.nc_theory.proofs.Named.{over_alphabet}
use Rattle.nc_theory.proofs.untraced_laws.alphabet_law.Goals as goal

pub returns : goal.returns
returns c P is prime n state r = over_alphabet P is prime n state r
