use Rattle.nc_algebra.proofs.Leading.{lead_leads}
use Rattle.nc_algebra.proofs.Primes.{field_from_prime}
use Rattle.nc_algebra.specs.Elements.{IsLess}
use Rattle.nc_algebra.specs.Monomials.{Monomial}
use Rattle.nc_algebra.specs.Polynomials.{leading}
use Rattle.nc_algebra.specs.Primes.{IsField}
use Rattle.nc_algebra.specs.Problems.{Problem}
use Rattle.nc_theory.proofs.Completeness.{invariant, whole_multiple}
use Rattle.nc_theory.proofs.Rebuilding.{rebuilt}
use Rattle.nc_theory.specs.Runs.{SequentialRun}
use Rattle.nc_theory.specs.States.{Entry, State}
use Rattle.std.proofs.Common.{Contains, Option, [], append-nil, subst, sym, ℕ, ◌<◌, ◌∙◌, ◌≢◌}
use Rattle.nc_theory.proofs.run_laws.runs_ascend.Goals as goal

-- the earlier entry would give a regular divisor of the later one's leading word
leading_differ : (P : Problem) → IsField P.setting.prime
    → {n : ℕ} {state : State} {last : Option Monomial} → SequentialRun P n state last
    → (e e' : Entry) (k : Contains state.entries e) (k' : Contains state.entries e') → k.0 < k'.0
    → leading P.setting.prime e.polynomial ≢ leading P.setting.prime e'.polynomial
leading_differ P field run e e' k k' l i =
    (invariant P field run).clear e' k' (leading P.setting.prime e'.polynomial)
    (lead_leads P.setting.prime e'.polynomial ((invariant P field run).sound.nonzero e' k')).nonzero
    (record {
      divisor =
          record {
            entry = e;
            listed = k;
            left = [];
            right = [];
            spells = append-nil (leading P.setting.prime e.polynomial) ∙ i;
          };
      below = subst (λ σ. IsLess P.setting σ e'.signature) (sym (whole_multiple e.signature))
          ((rebuilt P field run).entries_ascend e e' k k' l);
    })

pub returns : goal.returns
returns c P prime n state last run = (
  (rebuilt P (field_from_prime P.setting.prime prime) run).entries_ascend,
  (rebuilt P (field_from_prime P.setting.prime prime) run).syzygies_ascend,
  leading_differ P (field_from_prime P.setting.prime prime) run,
)
