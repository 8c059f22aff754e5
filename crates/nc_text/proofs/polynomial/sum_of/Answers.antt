use Rattle.std.proofs.Common.{ap, arith, false, length, refl, true, ◌<◌}
use Rattle.std.proofs.lemmas.List.Elements.{All-nil, All-push}
use Rattle.std.proofs.lemmas.Result.{err_from_is_err_and}
use Rattle.nc_tokens.specs.Tokens.{Minus, Plus}
use Rattle.nc_text.proofs.Polynomials.{begins, goes_on, ends, is_wrong, term_fails}
use Rattle.nc_text.proofs.Shorter.{term_shorter}
use Rattle.nc_text.proofs.polynomial.sum_of.Goals as goal

pub terms-init : goal.terms-init
terms-init c =
    rw c.new-terms.ensures.items (record {
      reads = begins _ _ _ _ _ c.takes_sign-negative.ensures;
      residues = All-nil (λ t. t.coefficient < c.args.prime);
    })

pub returns-in_err-term-clause-reads : goal.returns-in_err-term-clause-reads
returns-in_err-term-clause-reads c =
    let p = err_from_is_err_and c.from_residual.result c.from_residual.ensures.1 in
    rw (p.1, p.2) (term_fails _ _ _ _ _ _ _ c.in_err-term.ensures.reads c.terms.invariant.reads)

pub returns-in-End-clause-reads : goal.returns-in-End-clause-reads
returns-in-End-clause-reads c =
    rw c.in_ok-push.ensures.items (ends _ _ _ _ _ _ _ _ c.in_ok-term.ensures.reads c.in-End.ensures
    c.terms.invariant.reads)

pub terms-smaller-in-Plus : goal.terms-smaller-in-Plus
terms-smaller-in-Plus c =
    omega (arith, ap length c.in-Plus.ensures, term_shorter _ _ _ _ _ c.in_ok-term.ensures.reads)

pub terms-preserved-in-Plus : goal.terms-preserved-in-Plus
terms-preserved-in-Plus c =
    rw c.in_ok-push.ensures.items (record {
      reads = goes_on _ _ _ _ _ _ _ _ _ Plus false (λ next. refl)
          c.in_ok-term.ensures.reads c.in-Plus.ensures
          c.terms.invariant.reads;
      residues = All-push (λ t. t.coefficient < c.args.prime) _ _
          c.terms.invariant.residues c.in_ok-term.ensures.residue;
    })

pub terms-smaller : goal.terms-smaller
terms-smaller c =
    omega (arith, ap length c.in-Minus.ensures, term_shorter _ _ _ _ _ c.in_ok-term.ensures.reads)

pub terms-preserved : goal.terms-preserved
terms-preserved c =
    rw c.in_ok-push.ensures.items (record {
      reads = goes_on _ _ _ _ _ _ _ _ _ Minus true (λ next. refl)
          c.in_ok-term.ensures.reads c.in-Minus.ensures
          c.terms.invariant.reads;
      residues = All-push (λ t. t.coefficient < c.args.prime) _ _
          c.terms.invariant.residues c.in_ok-term.ensures.residue;
    })

pub returns-in_default-clause-reads : goal.returns-in_default-clause-reads
returns-in_default-clause-reads c =
    is_wrong _ _ _ _ _ _ _ _ c.take.new.self c.take.result c.misplaced.result
    c.in_ok-term.ensures.reads c.take.ensures c.in_default.not-End c.in_default.not-Plus
    c.in_default.not-Minus c.misplaced.ensures c.terms.invariant.reads
