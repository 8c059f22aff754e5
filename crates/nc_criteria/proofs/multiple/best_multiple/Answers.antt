use Rattle.nc_algebra.specs.Monomials.{Sig, monomial_of}
use Rattle.nc_criteria.proofs.Best.{best_within, none_within}
use Rattle.nc_criteria.specs.Searches.{found_of}
use Rattle.nc_criteria.specs.declared.multiple.Multiple.{Multiple}
use Rattle.std.proofs.Common.{ap, length, min, refl, ◌-◌, ◌∙◌, ◌≡◌}
use Rattle.nc_algebra.specs.Words.{Word}
use Rattle.nc_criteria.proofs.multiple.best_multiple.Goals as goal

pub returns-in_err-found : goal.returns-in_err-found
returns-in_err-found c =
    let last : c.min-last.result ≡ min c.args.until (length c.args.snapshot.now.state.entries) =
    c.min-last.ensures ∙ ap (min c.args.until) c.entries.ensures.count in
    rw c.from_residual.ensures (none_within c.args.snapshot.now.problem.problem.setting
    c.args.snapshot.now.state.entries (monomial_of c.args.sig.now) c.args.after c.args.until
    c.min-last.result last c.in_err-found.ensures)

pub returns : goal.returns
returns c =
    let last : c.min-last.result ≡ min c.args.until (length c.args.snapshot.now.state.entries) =
    c.min-last.ensures ∙ ap (min c.args.until) c.entries.ensures.count in
    let right : c.letters.result.now ≡ c.args.sig.now.right =
    c.letters.ensures.letters ∙ ap (λ (σ : Sig). σ.right) c.sig.view_is in
    let m : Multiple =
    record {
      number = c.in_ok-found.found.number;
      left = length c.in_ok-found.found.word.first.now;
      right = length c.letters.result.now - length c.in_ok-found.found.word.third.now;
    } in
    best_within c.args.snapshot.now.problem.problem.setting c.args.snapshot.now.state.entries
    (monomial_of c.args.sig.now) c.args.after c.args.until c.min-last.result last
    (found_of c.in_ok-found.found) m c.in_ok-found.ensures refl refl
    (ap (λ (w : Word). length w - length c.in_ok-found.found.word.third.now) right)
