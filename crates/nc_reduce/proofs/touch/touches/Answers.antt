use Rattle.nc_algebra.proofs.Orders.{nat_order}
use Rattle.nc_algebra.specs.Polynomials.{Polynomial}
use Rattle.nc_algebra.specs.Sums.{Term}
use Rattle.nc_algebra.specs.Words.{Word}
use Rattle.nc_index.specs.Pairs.{HasRegularAfter}
use Rattle.nc_reduce.specs.Touches.{IsTouched}
use Rattle.std.proofs.Common.{Some, ap, arith, refl, slice_get, subst, sym, ◌<◌, ◌∙◌, ◌≡◌, ◌⊎◌, inl, inr}
use Rattle.std.proofs.lemmas.Bool.{false≢true}
use Rattle.std.proofs.lemmas.Option.{slice_get-get_or, slice_get_read}
use Rattle.nc_reduce.proofs.touch.touches.Goals.{After-regular_after}
use Rattle.nc_reduce.proofs.touch.touches.Goals as goal

-- the term that is looked at
here : (c : After-regular_after)
    → slice_get c.terms-term-items.result.now c.loop-term.term-index ≡ Some c.term-item.result
here c =
    slice_get_read c.terms-term-items.result.now _ c.loop-term.term-index c.term-item.result refl
    c.loop-term-test.true c.term-item.is

pub loop-term-init : goal.loop-term-init
loop-term-init c k t less at = absurd (omega (arith, less))

pub loop-term-preserved : goal.loop-term-preserved
loop-term-preserved c k t less at = go (nat_order k c.loop-term.term-index)
  where
    go : (k < c.loop-term.term-index) ⊎ ((k ≡ c.loop-term.term-index)
        ⊎ (c.loop-term.term-index < k))
        → ¬ HasRegularAfter c.args.leads.now c.args.after t.key c.args.bound.now
    go (inl l) h = c.loop-term.invariant k t l at h
    go (inr (inl e)) h =
        let own = here (goal.at.loop-term-preserved c).After-regular_after in
        let same : c.term-item.result ≡ t = cc in
        false≢true (sym c.if-regular_after.false
        ∙ c.regular_after.ensures.1 (subst (λ w. HasRegularAfter c.args.leads.now c.args.after w
        c.args.bound.now) (ap (λ (x : Term Word). x.key) (sym same)
        ∙ sym c.letters.ensures.letters) h))
    go (inr (inr m)) h = absurd (omega (arith, less, m))

pub returns-then-regular_after : goal.returns-then-regular_after
returns-then-regular_after c = (
  λ _. subst (λ (f : Polynomial). IsTouched c.args.leads.now c.args.after f c.args.bound.now)
      c.terms-term-items.ensures.terms (
        c.term-item.result,
        (c.loop-term.term-index, c.loop-term-test.true, sym c.term-item.is),
        subst (λ w. HasRegularAfter c.args.leads.now c.args.after w c.args.bound.now)
            c.letters.ensures.letters (c.regular_after.ensures.0 c.if-regular_after.true),
      ),
  λ _. refl,
)

pub returns : goal.returns
returns c = (
  λ t. absurd (false≢true t),
  λ h. absurd (none (subst (λ (f : Polynomial). IsTouched c.args.leads.now c.args.after f
      c.args.bound.now) (sym c.terms-term-items.ensures.terms) h)),
)
  where
    none : ¬ IsTouched c.args.leads.now c.args.after c.terms-term-items.result.now c.args.bound.now
    none (t, k, h) =
        c.loop-term.invariant k.0 t (omega (arith, k.1))
        (slice_get-get_or c.terms-term-items.result.now k.0 t k.1 ∙ ap (λ x. Some x) k.2) h
