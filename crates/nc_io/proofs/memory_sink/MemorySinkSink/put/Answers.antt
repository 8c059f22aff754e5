use Rattle.std.proofs.Common.{rules, arith, inl, inr, refl, sym, ◌∙◌, ◌≡◌, true}
use Rattle.nc_io.proofs.memory_sink.MemorySinkSink.put.Goals as goal
use Rattle.nc_io.proofs.memory_sink.MemorySinkSink.put.Goals.{then-self-eq0, else-self-eq0}

pub returns-then-contains-clause-fails : goal.returns-then-contains-clause-fails
returns-then-contains-clause-fails c = (
  (λ _. (
    omega arith,
    elim c.if-self-eq0.branch [
      | then-self-eq0 w ↦ inl (omega arith)
      | else-self-eq0 w ↦ inr (let yes : w.contains.result ≡ true = sym w.value-is
          ∙ c.if-contains.true in search rules)
    ],
  )),
  (λ _. refl),
)
