use Rattle.nc_field.proofs.Primes.{listed_is_prime, listed_is_small}
use Rattle.nc_field.proofs.prime.Prime.recall_rule.Goals as goal

pub returns-clause-prime : goal.returns-clause-prime
returns-clause-prime c = rw (← c.self.view_is) (listed_is_prime _ c.self.invariant)

pub returns-clause-small : goal.returns-clause-small
returns-clause-small c = rw (← c.self.view_is) (listed_is_small _ c.self.invariant)
