use Rattle.nc_algebra.specs.Monomials.{Divides, monomial_of}
use Rattle.nc_criteria.proofs.Divisors.{listed_found, listed_further, none_listed, quotient_divides}
use Rattle.std.proofs.Common.{arith, refl, subst, sym, ◌∙◌}
use Rattle.std.proofs.lemmas.Bool.{false≢true}
use Rattle.nc_criteria.proofs.syzygy.is_listed.Goals as goal

pub returns-then-is_some : goal.returns-then-is_some
returns-then-is_some c =
    let divides : Divides (monomial_of c.deref.result.now) (monomial_of c.args.sig.now) =
    (quotient_divides (monomial_of c.deref.result.now) (monomial_of c.args.sig.now)
    c.divide.result c.divide.ensures).0 (sym c.is_some.ensures ∙ c.if-is_some.true) in (
      λ t. listed_found c.args.snapshot.now.state.syzygies (monomial_of c.args.sig.now)
          c.args.after c.loop-index.index c.syzygy.result.now c.syzygy.ensures.syzygy
          c.loop-index.auto.index
          (subst (λ σ. Divides (monomial_of σ) (monomial_of c.args.sig.now))
          (c.deref.ensures ∙ c.sig.ensures) divides),
      λ h. refl,
    )

pub loop-index-preserved : goal.loop-index-preserved
loop-index-preserved c =
    let none : ¬ Divides (monomial_of c.deref.result.now) (monomial_of c.args.sig.now) =
    (λ d. false≢true (sym c.if-is_some.false
    ∙ (c.is_some.ensures ∙ (quotient_divides (monomial_of c.deref.result.now)
    (monomial_of c.args.sig.now) c.divide.result c.divide.ensures).1 d))) in
    listed_further c.args.snapshot.now.state.syzygies (monomial_of c.args.sig.now)
    c.args.after c.loop-index.index c.syzygy.result.now c.syzygy.ensures.syzygy c.loop-index.invariant
    (subst (λ σ. ¬ Divides (monomial_of σ) (monomial_of c.args.sig.now))
    (c.deref.ensures ∙ c.sig.ensures) none)

pub returns : goal.returns
returns c = (
  λ t. absurd (false≢true t),
  λ h. absurd
      (none_listed c.args.snapshot.now.state.syzygies (monomial_of c.args.sig.now)
      c.args.after c.loop-index.index (omega arith) c.loop-index.invariant h),
)
