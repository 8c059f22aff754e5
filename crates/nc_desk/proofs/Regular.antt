-- The search among the leads tells whether a word has a regular divisor.
use Rattle.nc_algebra.specs.Elements.{HasDegree, Setting, generator_weight}
use Rattle.nc_algebra.specs.Monomials.{Sig, monomial_of, sig_of}
use Rattle.nc_algebra.specs.Words.{Word}
use Rattle.nc_index.specs.Chosen.{IsChosen}
use Rattle.nc_index.specs.declared.hit.Hit.{Hit}
use Rattle.nc_module.proofs.Bounds.{less_from_sigs, sigs_from_less}
use Rattle.nc_theory.specs.Divisors.{RegularDivisor, signature_at}
use Rattle.nc_theory.specs.States.{Entry}
use Rattle.std.proofs.Common.{List, None, Option, Some, refl}
use Rattle.std.proofs.lemmas.Bool.{false≢true}
use Rattle.std.specs.Option.{is_some}
use Rattle.std.specs.Prelude.{IsTrue, ◌↔◌}

pub chosen_regular : (s : Setting) (entries : List Entry) (β : Sig) → HasDegree s β
    → (w : Word) (answer : Option Hit) → IsChosen s entries w β answer → IsTrue (is_some answer)
    ↔ RegularDivisor s entries (monomial_of β) w
chosen_regular s entries β degree w None none = (
  λ t. absurd (false≢true t),
  λ r. absurd
      (none r.divisor (sigs_from_less s
      (sig_of (generator_weight s) (signature_at s entries w r.divisor)) β refl degree
      r.below)),
)
chosen_regular s entries β degree w (Some h) found = (
  λ t. record {
    divisor = found.0;
    below = less_from_sigs s (sig_of (generator_weight s) (signature_at s entries w found.0)) β
        refl degree found.1.allowed;
  },
  λ r. refl,
)
