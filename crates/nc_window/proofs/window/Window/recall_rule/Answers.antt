use Rattle.nc_window.proofs.Lookups.{opened}
use Rattle.nc_window.proofs.Rule.{rule}
use Rattle.nc_window.proofs.window.Window.recall_rule.Goals as goal

pub returns : goal.returns
returns g c = record {
  window = rule _ _ _ _ _ (opened _ _ _ _ _ c.self.view_is c.self.invariant);
}
