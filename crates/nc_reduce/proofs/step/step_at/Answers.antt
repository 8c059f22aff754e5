use Rattle.nc_algebra.specs.Polynomials.{leading}
use Rattle.std.proofs.Common.{ap, ap₂, length, refl, sym, ◌%◌, ◌*◌, ◌++◌, ◌∙◌, ◌≡◌}
use Rattle.nc_reduce.proofs.step.step_at.Goals as goal

pub quotient-coefficient-requires-clause-second : goal.quotient-coefficient-requires-clause-second
quotient-coefficient-requires-clause-second c =
    c.lead_coefficient.ensures.residue c.args.p c.requires.normal

pub around-requires : goal.around-requires
around-requires c =
    rw (
      c.letters.ensures.letters,
      c.letters-2.ensures.letters,
      ← c.lead-lead.ensures.leads c.args.p c.requires.normal,
    ) c.requires.stands

pub returns : goal.returns
returns c =
    let lead : leading c.args.p c.args.divisor.now.polynomial ≡ c.letters-2.result.now =
    c.lead-lead.ensures.leads c.args.p c.requires.normal ∙ sym c.letters-2.ensures.letters in
    record {
      spells = ap₂ (λ u v. u ++ (leading c.args.p c.args.divisor.now.polynomial ++ v))
          c.in_ok-left.ensures c.in_ok-right.ensures
          ∙ (ap (λ w. c.around.result.0.now ++ (w ++ c.around.result.1.now)) lead
          ∙ (c.around.ensures.spells ∙ c.letters.ensures.letters));
      place = ap length c.in_ok-left.ensures ∙ c.around.ensures.place;
      number = refl;
      below = c.quotient-coefficient.ensures.below;
      cancels =
          ap (λ n. c.quotient-coefficient.result * n % c.args.p)
          (sym (c.lead_coefficient.ensures.leads c.args.p c.requires.normal))
          ∙ c.quotient-coefficient.ensures.quotient;
    }
