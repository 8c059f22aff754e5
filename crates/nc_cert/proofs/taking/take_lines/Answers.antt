use Rattle.nc_algebra.specs.Certificates.{line_value, values_after}
use Rattle.nc_algebra.specs.Polynomials.{Polynomial, normal_form}
use Rattle.nc_algebra.specs.Sums.{minus}
use Rattle.nc_cert.proofs.Charges.{place, spent_step, too_much_at}
use Rattle.nc_cert.proofs.Values.{ready_at, value_step}
use Rattle.nc_cert.specs.Charges.{charges_after}
use Rattle.nc_cert.specs.Ready.{IsReadyPart}
use Rattle.nc_cert.specs.Spent.{IsBeyond, kept_charge, letter_count}
use Rattle.std.proofs.Common.{List, [], ap, ap₂, arith, map, refl, subst, sum_by, sym, ℕ, ◌%◌, ◌+◌, ◌++◌, ◌-◌, ◌∙◌, ◌∷◌}
use Rattle.std.proofs.lemmas.List.{map-append}
use Rattle.std.specs.List.{All}
use Rattle.nc_cert.proofs.taking.take_lines.Goals as goal

pub loop-line-init : goal.loop-line-init
unfolding values_after charges_after
loop-line-init c = record {
  values = c.in_ok-values.ensures.items;
  letters =
      c.in_ok-letters.ensures.items ∙ sym (ap (map letter_count) c.in_ok-values.ensures.items);
  spent = refl;
  within = omega arith;
}

pub spend-requires-clause-ready : goal.spend-requires-clause-ready
spend-requires-clause-ready c =
    subst (λ (values : List Polynomial). All (IsReadyPart c.args.setting.now.setting values)
    c.line-item.result) (sym (c.deref.ensures.value ∙ c.loop-line.invariant.values))
    (ready_at c.args.setting.now c.prime.ensures.setting c.args.lines.now c.loop-line.line-index
    c.line-item.result (omega arith) c.line-item.is c.requires.lines)

pub overflow_cast-line : goal.overflow_cast-line
overflow_cast-line c =
    omega (
      arith,
      place c.args.setting.now c.prime.ensures.setting c.args.lines.now
          c.loop-line.line-index c.loop-line.values.items (omega arith)
          c.loop-line.invariant.values,
    )

pub overflow_add-line : goal.overflow_add-line
overflow_add-line c =
    omega (
      arith,
      place c.args.setting.now c.prime.ensures.setting c.args.lines.now
          c.loop-line.line-index c.loop-line.values.items (omega arith)
          c.loop-line.invariant.values,
    )

pub returns-in-Beyond : goal.returns-in-Beyond
returns-in-Beyond c =
    too_much_at c.args.setting.now c.prime.ensures.setting c.args.limit c.args.lines.now
    c.loop-line.line-index c.line-item.result c.loop-line.values.items c.loop-line.spent
    (c.len.result + 1) c.in-Beyond.charge
    (omega arith) c.line-item.is c.loop-line.invariant.values c.loop-line.invariant.spent
    (omega arith)
    (subst (λ (values : List Polynomial). IsBeyond c.args.limit c.loop-line.spent
    (kept_charge c.args.setting.now.setting values) c.line-item.result c.in-Beyond.charge)
    c.deref.ensures.value c.in-Beyond.ensures)

pub minus_line-requires-clause-ready : goal.minus_line-requires-clause-ready
minus_line-requires-clause-ready c =
    subst (λ (values : List Polynomial). All (IsReadyPart c.args.setting.now.setting values)
    c.line-item.result) (sym (c.deref-in-loop-line-2.ensures.value
    ∙ c.loop-line.invariant.values))
    (ready_at c.args.setting.now c.prime.ensures.setting c.args.lines.now c.loop-line.line-index
    c.line-item.result (omega arith) c.line-item.is c.requires.lines)

pub loop-line-preserved : goal.loop-line-preserved
loop-line-preserved c =
    let s = c.args.setting.now.setting in
    let value : Polynomial = c.in_ok-value.value in
    record {
      values =
          c.in_ok-push-2.ensures.items
          ∙ (ap (λ (values : List Polynomial). values ++ value ∷ []) c.loop-line.invariant.values
          ∙ value_step c.args.setting.now c.prime.ensures.setting c.args.lines.now
          c.loop-line.line-index c.line-item.result value (omega arith) c.line-item.is
          (c.in_ok-value.ensures
          ∙ (ap (λ (f : Polynomial). normal_form s.prime
          (minus s.prime f c.neg-minus_one.result
          (line_value s c.deref-in-loop-line-2.result.now c.line-item.result)))
          c.zero.ensures
          ∙ (ap (λ n. normal_form s.prime
          (minus s.prime [] n (line_value s c.deref-in-loop-line-2.result.now
          c.line-item.result))) (c.neg-minus_one.ensures.value
          ∙ ap (λ p. (p - 1) % p) c.prime.ensures.prime)
          ∙ ap (λ (values : List Polynomial). normal_form s.prime
          (minus s.prime [] ((s.prime - 1) % s.prime)
          (line_value s values c.line-item.result))) (c.deref-in-loop-line-2.ensures.value
          ∙ c.loop-line.invariant.values)))));
      letters =
          c.in_ok-push.ensures.items
          ∙ (ap₂ (λ (letters : List ℕ) n. letters ++ n ∷ []) c.loop-line.invariant.letters
          c.letter_count.ensures
          ∙ (sym (map-append letter_count c.loop-line.values.items (value ∷ []))
          ∙ ap (map letter_count) (sym c.in_ok-push-2.ensures.items)));
      spent =
          spent_step c.args.setting.now c.prime.ensures.setting c.args.lines.now
          c.loop-line.line-index c.line-item.result c.loop-line.values.items c.loop-line.spent
          c.in-Within.now
          (omega arith) c.line-item.is c.loop-line.invariant.values c.loop-line.invariant.spent
          (c.in-Within.ensures.0 ∙ ap (λ (values : List Polynomial). c.loop-line.spent
          + sum_by (kept_charge s values) c.line-item.result) c.deref.ensures.value);
      within = c.in-Within.ensures.1;
    }
