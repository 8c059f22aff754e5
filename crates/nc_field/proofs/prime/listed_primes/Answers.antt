use Rattle.nc_field.proofs.Primes.{listed_is_prime}
use Rattle.nc_field.proofs.prime.listed_primes.Goals as goal

pub returns : goal.returns
returns c = listed_is_prime
