use Rattle.nc_algebra.specs.Monomials.{Monomial, monomial_of}
use Rattle.nc_algebra.specs.Words.{word_weight}
use Rattle.nc_sig.proofs.Quotients.{back_apart, back_is, divided, front_apart, front_is, no_divisor}
use Rattle.std.proofs.Common.{ap, arith, inl, inr, sym, ◌++◌, ◌∙◌, ◌≡◌}
use Rattle.nc_sig.proofs.sig.Sig.divide.Goals.{then-self-by-via-then-self-by, then-self-by-via-else-self-by+then-weight, then-self-by-via-else-self-by+else-weight+then-weight-2}
use Rattle.nc_sig.proofs.sig.Sig.divide.Goals as goal

pub returns-then-self-by : goal.returns-then-self-by
returns-then-self-by c =
    no_divisor (monomial_of c.args.by.now) (monomial_of c.args.self.now)
    (elim c.then-self-by.branch [
      | then-self-by-via-then-self-by w ↦ inl
          (λ e. w.if-self-by.true (ap (λ s. s.generator) c.self.view_is
          ∙ (e ∙ sym (ap (λ s. s.generator) c.by.view_is))))
      | then-self-by-via-else-self-by+then-weight w ↦ inr
          (inl (omega (
            arith,
            w.if-weight.true,
            w.weight.ensures.weight,
            w.weight-else-self-by.ensures.weight,
            ap (λ s. word_weight s.left) c.self.view_is,
            ap (λ s. word_weight s.left) c.by.view_is,
          )))
      | then-self-by-via-else-self-by+else-weight+then-weight-2 w ↦ inr
          (inr (omega (
            arith,
            w.if-weight-2.true,
            w.weight-else-weight.ensures.weight,
            w.weight-else-weight-2.ensures.weight,
            ap (λ s. word_weight s.right) c.self.view_is,
            ap (λ s. word_weight s.right) c.by.view_is,
          )))
    ])

pub returns-in_default : goal.returns-in_default
returns-in_default c =
    front_apart (monomial_of c.args.by.now) (monomial_of c.args.self.now) c.letters-2.result.now
    c.letters.result.now (c.letters-2.ensures.letters ∙ ap (λ s. s.left) c.by.view_is)
    (c.letters.ensures.letters ∙ ap (λ s. s.left) c.self.view_is) c.in_default.ensures.cases

pub returns-in_default-strip_prefix : goal.returns-in_default-strip_prefix
returns-in_default-strip_prefix c =
    back_apart (monomial_of c.args.by.now) (monomial_of c.args.self.now) c.letters-4.result.now
    c.letters-3.result.now (c.letters-4.ensures.letters ∙ ap (λ s. s.right) c.by.view_is)
    (c.letters-3.ensures.letters ∙ ap (λ s. s.right) c.self.view_is)
    c.in_default-strip_prefix.ensures.cases

pub returns : goal.returns
returns c =
    let σ : Monomial = monomial_of c.args.by.now in
    let τ : Monomial = monomial_of c.args.self.now in
    let front : c.in-Some.before.now ++ c.letters-2.result.now ≡ c.letters.result.now =
    front_is c.letters-2.result.now c.letters.result.now c.in-Some.before.now
    c.in-Some.ensures.cases.0 c.in-Some.ensures.cases.1 in
    let back : c.letters-4.result.now ++ c.in-Some-strip_prefix.behind.now
    ≡ c.letters-3.result.now =
    back_is c.letters-4.result.now c.letters-3.result.now c.in-Some-strip_prefix.behind.now
    c.in-Some-strip_prefix.ensures.cases.0 c.in-Some-strip_prefix.ensures.cases.1 in
    divided σ τ c.in-Some.before.now c.in-Some-strip_prefix.behind.now
    (sym (ap (λ s. s.generator) c.self.view_is)
    ∙ (c.if-self-by.false ∙ ap (λ s. s.generator) c.by.view_is))
    (ap (λ z. c.in-Some.before.now ++ z)
    (sym (c.letters-2.ensures.letters ∙ ap (λ s. s.left) c.by.view_is))
    ∙ (front ∙ (c.letters.ensures.letters ∙ ap (λ s. s.left) c.self.view_is)))
    (ap (λ z. z ++ c.in-Some-strip_prefix.behind.now)
    (sym (c.letters-4.ensures.letters ∙ ap (λ s. s.right) c.by.view_is))
    ∙ (back ∙ (c.letters-3.ensures.letters ∙ ap (λ s. s.right) c.self.view_is)))
