-- Leading words of a snapshot's entries.
use Rattle.nc_algebra.proofs.Leading.{leading-normal}
use Rattle.nc_algebra.specs.Elements.{Setting}
use Rattle.nc_algebra.specs.Monomials.{Monomial}
use Rattle.nc_algebra.specs.Polynomials.{leading}
use Rattle.nc_algebra.specs.Sums.{Term}
use Rattle.nc_algebra.specs.Words.{Word}
use Rattle.nc_overlap.specs.Overlaps.{IsLedBy, IsSignatureOver}
use Rattle.nc_snapshot.specs.Leads.{IsLeadAt}
use Rattle.nc_snapshot.specs.declared.lead.Lead.{Lead}
use Rattle.nc_theory.specs.Untraced.{no_trace}
use Rattle.nc_theory.specs.States.{Entry}
use Rattle.std.proofs.Common.{List, [], arith, get_or, refl, subst, sym, ℕ, ◌<◌, ◌∷◌, ◌≡◌}
use Rattle.std.proofs.lemmas.List.Elements.{All-from_recursion}
use Rattle.std.proofs.lemmas.Option.{get_or_from_slice_get}

module _ (s : Setting) (entries : List Entry) (n : ℕ) (l : Lead) (at : IsLeadAt s entries n l) where
  pub led : (d : Entry) → IsLedBy s l (get_or entries n d)
  led d =
      subst (IsLedBy s l) (sym (get_or_from_slice_get entries n at.entry d at.stands))
      (record { lead = at.leads; signed = at.signed })

  pub over : IsSignatureOver s l.sig.now
  over = record { degree = at.degree; generator = at.generator }

-- an entry with this leading word and this signature
pub some_entry : (p : ℕ) → 1 < p → (w : Word) (σ : Monomial) → (e : Entry)
    × (leading p e.polynomial ≡ w) × (e.signature ≡ σ)
some_entry p h w σ = (
  record { signature = σ; polynomial = one ∷ []; trace = no_trace },
  leading-normal p one [] (
    (omega arith, tt, tt),
    All-from_recursion (λ (t : Term Word). t.coefficient < p) (one ∷ []) (h, tt),
  ),
  refl,
)
  where
    one : Term Word
    one = record { coefficient = 1; key = w }
