use Rattle.std.proofs.Common.{length, ap, arith}
use Rattle.std.proofs.lemmas.Result.{err_from_is_err_and}
use Rattle.nc_text.proofs.Words.{first_factor, first_fails, next_factor, next_fails, last_factor}
use Rattle.nc_text.proofs.Shorter.{factor_shorter}
use Rattle.nc_text.proofs.word.letters_of_word.Goals as goal

pub returns-in_err-factor-clause-reads : goal.returns-in_err-factor-clause-reads
returns-in_err-factor-clause-reads c =
    let p = err_from_is_err_and c.from_residual.result c.from_residual.ensures.1 in
    rw (p.1, p.2) ((first_fails _ _ _
    (rw c.new-word.ensures.items at c.in_err-factor.ensures.reads)))

pub factors-init : goal.factors-init
factors-init c =
    record {
      reads = first_factor _ _ _
          (rw c.new-word.ensures.items at c.in_ok-factor.ensures.reads);
      short = c.in_ok-factor.ensures.short;
    }

pub factors-smaller : goal.factors-smaller
factors-smaller c =
    omega (
      arith,
      ap length c.factors-test.ensures,
      factor_shorter _ _ _ _ c.in_ok-factor-2.ensures.reads,
    )

pub factors-preserved : goal.factors-preserved
factors-preserved c = record {
  reads = next_factor _ _ _ _ _ _ c.factors-test.ensures c.in_ok-factor-2.ensures.reads
      c.factors.invariant.reads;
  short = c.in_ok-factor-2.ensures.short;
}

pub returns-in_err-factor-2-clause-reads : goal.returns-in_err-factor-2-clause-reads
returns-in_err-factor-2-clause-reads c =
    let p = err_from_is_err_and c.from_residual-in_err-factor-2.result
    c.from_residual-in_err-factor-2.ensures.1 in
    rw (p.1, p.2) ((next_fails _ _ _ _ _ _ c.factors-test.ensures c.in_err-factor-2.ensures.reads
    c.factors.invariant.reads))

pub returns-clause-reads : goal.returns-clause-reads
returns-clause-reads c = last_factor _ _ _ _ _ c.factors-test.ensures c.factors.invariant.reads
