-- A command that grows by one argument.
-- `option_added` and `number_added`: for any list of names, adding an argument gives the command of
-- the longer list.
use Rattle.std.proofs.Common.{◌≡◌, true, false, refl, ap, List, [], ◌∷◌, ◌++◌}
use Rattle.nc_options.specs.Pieces.{Text}
use Rattle.nc_options.specs.Commands.{args_for, command_for, option_arg, number_arg}
use Rattle.clap.specs.Simple.{with_rule, new_shape}

option_joins : (ns : List Text) (n : Text)
    → args_for ns false ++ option_arg n ∷ [] ≡ args_for (ns ++ n ∷ []) false
option_joins [] n = refl
option_joins (m ∷ ms) n = ap (λ rs. option_arg m ∷ rs) (option_joins ms n)

number_joins : (ns : List Text) → args_for ns false ++ number_arg ∷ [] ≡ args_for ns true
number_joins [] = refl
number_joins (m ∷ ms) = ap (λ rs. option_arg m ∷ rs) (number_joins ms)

pub option_added : (name : Text) (ns : List Text) (n : Text)
    → with_rule (command_for name ns false) (option_arg n) ≡ command_for name (ns ++ n ∷ []) false
option_added name ns n =
    ap (λ rs. record {
      top = record (new_shape name) { rules = rs; disable_help_flag = true };
      subs = [];
    }) (option_joins ns n)

pub number_added : (name : Text) (ns : List Text) → with_rule (command_for name ns false) number_arg
    ≡ command_for name ns true
number_added name ns =
    ap (λ rs. record {
      top = record (new_shape name) { rules = rs; disable_help_flag = true };
      subs = [];
    }) (number_joins ns)
