use Rattle.nc_text.proofs.Generators.{is_setting}
use Rattle.nc_text.proofs.setting.setting_of.Goals as goal

pub of-requires : goal.of-requires
of-requires c =
    is_setting _ _ _ _ _ _ _ c.in_ok-prime.ensures c.in_ok-alphabet.ensures
    c.in_ok-generators.ensures
