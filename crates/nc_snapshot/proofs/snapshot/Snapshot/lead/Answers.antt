use Rattle.nc_algebra.specs.Elements.{HasDegree, IsGenerator}
use Rattle.nc_algebra.specs.Monomials.{Sig, monomial_of}
use Rattle.nc_snapshot.proofs.Snapshots.{entry_generator, entry_usable}
use Rattle.nc_snapshot.specs.Snapshots.{Snapshot, entry_of}
use Rattle.nc_theory.specs.States.{Entry}
use Rattle.std.proofs.Common.{ap, subst, sym, ◌-◌, ◌∙◌, ◌≡◌}
use Rattle.nc_snapshot.proofs.snapshot.Snapshot.lead.Goals as goal

pub returns : goal.returns
returns c =
    let s : Snapshot = c.args.self.now in
    let is = c.recall_rule.ensures.snapshot in
    let e : Entry = entry_of c.entry-entry.result.now in
    let signed : c.entry-entry.result.now.sig ≡ c.deref.result.now =
    sym (c.deref.ensures ∙ c.sig.ensures) in
    record {
      entry = e;
      stands = c.entry-entry.ensures.entry;
      leads = c.lead.ensures.leads s.problem.problem.setting.prime
          (entry_usable s is (c.args.n - 1) e c.entry-entry.ensures.entry).normal;
      signed = ap monomial_of signed;
      degree = subst (HasDegree s.problem.problem.setting) signed c.entry-entry.ensures.degree;
      generator = subst (λ (σ : Sig). IsGenerator s.problem.problem.setting σ.generator) signed
          (entry_generator s is (c.args.n - 1) e c.entry-entry.ensures.entry);
    }
