use Rattle.std.proofs.Common.{◌≡◌, ◌∙◌, ap, ap₂, sym, false, [], map, take, List, ℕ, Bor, arith}
use Rattle.std.proofs.lemmas.List.{map_more, take_all}
use Rattle.nc_options.specs.Commands.{command_for}
use Rattle.nc_options.proofs.Growing.{option_added, number_added}
use Rattle.clap.specs.Words.{app_of, with_rule}
use Rattle.nc_options.proofs.split.command.Goals as goal
use Rattle.nc_options.proofs.split.command.Goals.{then-takes_number+in_ok-command-2, else-takes_number}

pub loop-option_name-preserved : goal.loop-option_name-preserved
loop-option_name-preserved c =
    let i = c.loop-option_name.option_name-index in
    c.in_ok-command.ensures.shape c.option.ensures.local
    ∙ ap₂ with_rule c.loop-option_name.invariant c.option.ensures.rule
    ∙ option_added c.args.name.now (map (λ n. n.now) (take i c.args.names.now)) _
    ∙ ap (λ ns. command_for c.args.name.now ns false)
    (sym (map_more (λ (n : Bor (List ℕ)). n.now) c.args.names.now i
    (record { ref_ptr = (0, 0); now = [] }) (omega arith)))

pub returns : goal.returns
returns c =
    let all : map (λ (n : Bor (List ℕ)). n.now)
    (take c.loop-option_name.option_name-index c.args.names.now)
    ≡ map (λ (n : Bor (List ℕ)). n.now) c.args.names.now =
    ap (map (λ (n : Bor (List ℕ)). n.now))
    (take_all c.loop-option_name.option_name-index c.args.names.now (omega arith)) in
    elim c.if-takes_number.branch [
      | then-takes_number+in_ok-command-2 w ↦
          ap app_of w.command-is ∙ w.in_ok-command-2.ensures.shape w.number.ensures.local
          ∙ ap₂ with_rule c.loop-option_name.invariant w.number.ensures.rule
          ∙ number_added c.args.name.now
          (map (λ n. n.now) (take c.loop-option_name.option_name-index c.args.names.now))
          ∙ ap₂ (λ ns b. command_for c.args.name.now ns b) all (sym w.if-takes_number.true)
      | else-takes_number w ↦ ap app_of w.command-is ∙ c.loop-option_name.invariant
          ∙ ap₂ (λ ns b. command_for c.args.name.now ns b) all (sym w.if-takes_number.false)
    ]
