use Rattle.std.proofs.Common.{◌≡◌, ℕ, ◌∷◌, [], length, List, Bool, cond, nat_eq, Ok, Err, vec_len, ap, ◌∙◌, sym, arith}
use Rattle.std.proofs.lemmas.List.{length-append}
use Rattle.std.proofs.lemmas.Result.{err_from_is_err_and}
use Rattle.nc_tokens.specs.declared.fault.Kind.TheVariants.{Syntax}
use Rattle.nc_text.proofs.Letters.{goes_on, name_fails, ends, is_wrong}
use Rattle.nc_text.proofs.rows.letter_names.Goals as goal

-- no names are a fault
some_names : (names : List (List ℕ)) (n : ℕ) (b : Bool) → length names ≡ n → b ≡ nat_eq n 0
    → cond (nat_eq (length names) 0) (Err Syntax) (Ok names) ≡ cond b (Err Syntax) (Ok names)
some_names names n b long is =
    ap (λ (e : Bool). cond e (Err Syntax) (Ok names)) (ap (λ (m : ℕ). nat_eq m 0) long ∙ sym is)

pub returns-then-is_empty-clause-reads : goal.returns-then-is_empty-clause-reads
returns-then-is_empty-clause-reads c =
    ends _ _ _ c.in-End.ensures c.names.invariant.reads
    ∙ some_names _ (vec_len c.names.names) _ (omega (arith, c.names.names.ok.0))
    c.if-is_empty.ensures

pub returns-in-End-clause-reads : goal.returns-in-End-clause-reads
returns-in-End-clause-reads c =
    ends _ _ _ c.in-End.ensures c.names.invariant.reads
    ∙ some_names _ (vec_len c.names.names) _ (omega (arith, c.names.names.ok.0))
    c.if-is_empty.ensures

pub returns-in_err-name-in-Name-clause-reads : goal.returns-in_err-name-in-Name-clause-reads
returns-in_err-name-in-Name-clause-reads c =
    let p = err_from_is_err_and c.from_residual.result c.from_residual.ensures.1 in
    rw (p.1, p.2) (name_fails _ _ _ _ _ _ c.in-Name.ensures
    (rw c.deref.ensures.value at c.in_err-name-in-Name.ensures.reads) c.names.invariant.reads)

pub names-preserved : goal.names-preserved
names-preserved c = record {
  reads = rw c.in_ok-push-in-Name.ensures.items
      (goes_on _ _ _ _ _ _ c.in-Name.ensures
      (rw c.deref.ensures.value at c.in_ok-name-in-Name.ensures.reads) c.names.invariant.reads);
  few = rw c.in_ok-push-in-Name.ensures.items
      (omega (
        arith,
        length-append c.names.names.items (c.in_ok-name-in-Name.name ∷ []),
        c.in_ok-name-in-Name.ensures.room,
      ));
}

pub returns-in_default-clause-reads : goal.returns-in_default-clause-reads
returns-in_default-clause-reads c =
    is_wrong _ _ _ _ _ c.take.ensures c.in_default.not-End c.in_default.not-Name
    c.names.invariant.reads
