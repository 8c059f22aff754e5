use Rattle.nc_algebra.specs.Certificates.{AreLines, Line, line_value, rest_of}
use Rattle.nc_algebra.specs.Polynomials.{Polynomial, normal_form}
use Rattle.nc_algebra.specs.Sums.{minus}
use Rattle.nc_cert.proofs.Charges.{too_much_before, too_much_last, within_last}
use Rattle.nc_cert.proofs.Lines.{lines_before}
use Rattle.nc_cert.proofs.Rests.{rest_of_claim, rest_of_lines}
use Rattle.nc_cert.proofs.Values.{ready_behind}
use Rattle.nc_cert.specs.Charges.{IsTooMuch, IsChargeWithin, charges_after, charges_of}
use Rattle.nc_cert.specs.Checking.{IsTaken}
use Rattle.nc_cert.specs.Ready.{IsReadyPart}
use Rattle.std.proofs.Common.{List, [], ap, arith, subst, sym, ◌++◌, ◌∙◌, ◌∷◌, ◌≡◌}
use Rattle.std.proofs.lemmas.List.{nil_from_length}
use Rattle.std.specs.List.{All}
use Rattle.nc_cert.proofs.checking.rest_within.Goals as goal

pub returns-in-None : goal.returns-in-None
unfolding charges_after
returns-in-None c =
    let none : c.args.lines.now ≡ [] = nil_from_length c.args.lines.now c.in-None.ensures.cases in (
      subst (λ (lines : List Line). IsChargeWithin c.args.limit
          (charges_of c.args.setting.now.setting lines)) (sym none) (omega arith),
      c.in_ok-copy-in-None.ensures
          ∙ (rest_of_claim c.args.setting.now c.requires.setting c.args.claim.now c.requires.claim
          ∙ ap (λ (lines : List Line). rest_of c.args.setting.now.setting c.args.claim.now lines)
          (sym none)),
    )

pub take_lines-requires-clause-lines : goal.take_lines-requires-clause-lines
take_lines-requires-clause-lines c =
    lines_before c.args.setting.now [] c.in-Some.parts.1.now (c.in-Some.parts.0.now ∷ [])
    (subst (AreLines c.args.setting.now []) c.in-Some.ensures.cases.0 c.requires.lines)

pub returns-in-TooMuch : goal.returns-in-TooMuch
returns-in-TooMuch c =
    let whole : c.args.lines.now ≡ c.in-Some.parts.1.now ++ c.in-Some.parts.0.now ∷ [] =
    c.in-Some.ensures.cases.0 in
    subst (λ (lines : List Line). IsTooMuch c.args.limit
    (charges_of c.args.setting.now.setting lines) c.in-TooMuch.line c.in-TooMuch.charge)
    (sym whole)
    (too_much_before c.args.setting.now.setting c.args.limit c.in-Some.parts.1.now
    (c.in-Some.parts.0.now ∷ []) c.in-TooMuch.line c.in-TooMuch.charge
    (subst (IsTaken c.args.limit c.args.setting.now.setting c.in-Some.parts.1.now) c.in-TooMuch.is
    c.in_ok-kept.ensures))

pub spend-requires-clause-ready : goal.spend-requires-clause-ready
spend-requires-clause-ready c =
    let taken =
    subst (IsTaken c.args.limit c.args.setting.now.setting c.in-Some.parts.1.now) c.in-All.is
    c.in_ok-kept.ensures in
    subst (λ (values : List Polynomial). All (IsReadyPart c.args.setting.now.setting values)
    c.in-Some.parts.0.now) (sym (c.deref-2.ensures.value ∙ taken.0))
    (ready_behind c.args.setting.now c.requires.setting c.in-Some.parts.1.now c.in-Some.parts.0.now
    [] (subst (AreLines c.args.setting.now []) c.in-Some.ensures.cases.0 c.requires.lines))

pub returns-in-Beyond : goal.returns-in-Beyond
returns-in-Beyond c =
    let taken =
    subst (IsTaken c.args.limit c.args.setting.now.setting c.in-Some.parts.1.now) c.in-All.is
    c.in_ok-kept.ensures in
    too_much_last c.args.setting.now c.requires.setting c.args.limit c.args.lines.now
    c.in-Some.parts.1.now c.in-Some.parts.0.now c.deref-2.result.now c.in-All.kept.spent _
    c.in-Beyond.charge
    c.in-Some.ensures.cases.0 (omega arith) (c.deref-2.ensures.value ∙ taken.0) taken.2
    c.in-Beyond.ensures

pub minus_line-requires-clause-ready : goal.minus_line-requires-clause-ready
minus_line-requires-clause-ready c =
    let taken =
    subst (IsTaken c.args.limit c.args.setting.now.setting c.in-Some.parts.1.now) c.in-All.is
    c.in_ok-kept.ensures in
    subst (λ (values : List Polynomial). All (IsReadyPart c.args.setting.now.setting values)
    c.in-Some.parts.0.now) (sym (c.deref-in-Within.ensures.value ∙ taken.0))
    (ready_behind c.args.setting.now c.requires.setting c.in-Some.parts.1.now c.in-Some.parts.0.now
    [] (subst (AreLines c.args.setting.now []) c.in-Some.ensures.cases.0 c.requires.lines))

pub returns : goal.returns
returns c =
    let s = c.args.setting.now.setting in
    let taken =
    subst (IsTaken c.args.limit c.args.setting.now.setting c.in-Some.parts.1.now) c.in-All.is
    c.in_ok-kept.ensures in (
      within_last c.args.setting.now c.requires.setting c.args.limit c.args.lines.now
          c.in-Some.parts.1.now c.in-Some.parts.0.now c.deref-2.result.now c.in-All.kept.spent
          c.in-Within.field-0
          c.in-Some.ensures.cases.0 (c.deref-2.ensures.value ∙ taken.0) taken.2
          c.in-Within.ensures.0 c.in-Within.ensures.1,
      c.in_ok-rest-in-Within.ensures
          ∙ (ap (λ (g : Polynomial). normal_form s.prime
          (minus s.prime g 1 (line_value s c.deref-in-Within.result.now
          c.in-Some.parts.0.now))) c.in_ok-copy-in-Within.ensures
          ∙ (ap (λ (values : List Polynomial). normal_form s.prime
          (minus s.prime c.args.claim.now 1 (line_value s values c.in-Some.parts.0.now)))
          (c.deref-in-Within.ensures.value ∙ taken.0)
          ∙ (rest_of_lines c.args.setting.now c.requires.setting c.args.claim.now
          c.in-Some.parts.1.now c.in-Some.parts.0.now
          ∙ ap (λ (lines : List Line). rest_of s c.args.claim.now lines)
          (sym c.in-Some.ensures.cases.0)))),
    )
