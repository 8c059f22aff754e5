-- States with the same items up to traces have the same bases and the same canonical entries.
-- Closed states, chains to zero and canonical polynomials are stated by divisors, so they carry
-- over for every set of monomials (`moved_bases`, `moved_canonical`).
use Rattle.nc_algebra.specs.Elements.{IsLess, SamePolynomial, Setting}
use Rattle.nc_algebra.specs.Monomials.{Monomial, unit_monomial}
use Rattle.nc_algebra.specs.Polynomials.{Polynomial, coefficient, leading}
use Rattle.nc_algebra.specs.Problems.{IsWithin, IsWithinBelow, Problem}
use Rattle.nc_algebra.specs.Sums.{minus}
use Rattle.nc_algebra.specs.Words.{IsWordLess, Word}
use Rattle.nc_theory.proofs.Untraced.{in_place, in_place_alike, in_place_listed, moved, moved_ambiguity, moved_multiple, moved_regular, moved_same, moved_signature, other_alike, same_multiple}
use Rattle.nc_theory.proofs.UntracedStates.{SameStates, moved_covered, same_entries}
use Rattle.nc_theory.specs.EndBases.{AreCanonical, HasBases, HasBasesAt}
use Rattle.nc_theory.specs.Untraced.{SameEntries, untraced_entry}
use Rattle.nc_theory.specs.Bases.{IsCanonical, IsClosed, ReducesToZero}
use Rattle.nc_theory.specs.Divisors.{Multiple}
use Rattle.nc_theory.specs.Runs.{End}
use Rattle.nc_theory.specs.States.{Entry, State}
use Rattle.nc_theory.specs.Syzygies.{Covered}
use Rattle.std.proofs.Common.{Contains, List, ap, inl, inr, subst, sym, ℕ, ◌%◌, ◌*◌, ◌∙◌, ◌≡◌, ◌⊎◌}

module _ (s : Setting) (es es' : List Entry) (same : SameEntries es es') where
  moved_chain : (τ : Monomial) → {f : Polynomial} → ReducesToZero s es τ f → ReducesToZero s es' τ f
  moved_chain τ (ReducesToZero.done z) = ReducesToZero.done z
  moved_chain τ (ReducesToZero.step {f = f} w l d below c q rest) =
      ReducesToZero.step w l (moved s es es' same w d)
      (subst (λ σ. (σ ≡ τ) ⊎ IsLess s σ τ) (moved_signature s es es' same w d) below) c
      (subst (λ (e : Entry). c * coefficient e.polynomial (leading s.prime e.polynomial) % s.prime
      ≡ coefficient f w % s.prime) (other_alike s es es' same w d) q)
      (subst (λ g. ReducesToZero s es' τ (minus s.prime f c g))
      (same_multiple s es es' w d (moved s es es' same w d) (moved_same s es es' same w d))
      (moved_chain τ rest))

  moved_one : (τ : Monomial) (f : Polynomial) → IsCanonical s es τ f → IsCanonical s es' τ f
  moved_one τ f c =
      record {
        label = c.label;
        labelled = c.labelled;
        clear = λ w n r. c.clear w n (moved_regular s es' es (sym same) τ w r);
      }

module _ (s : Setting) (state state' : State) (same : SameStates state state') where
  es : SameEntries state.entries state'.entries
  es = same_entries state state' same

  moved_closed : (set : Monomial → Type 0) → IsClosed s state set → IsClosed s state' set
  moved_closed set c = record {
    generators = λ i m. unit i (c.generators i m);
    ambiguities =
        λ ρ w a m. settled ρ w (c.ambiguities ρ w
        (moved_ambiguity s state'.entries state.entries (sym es) ρ w a) m);
  }
    where
      unit : (i : ℕ) → ((e : Entry) × Contains state.entries e × (e.signature ≡ unit_monomial i))
          ⊎ Covered s state (unit_monomial i)
          → ((e : Entry) × Contains state'.entries e × (e.signature ≡ unit_monomial i))
          ⊎ Covered s state' (unit_monomial i)
      unit i (inl (e, k, u)) =
          inl (
            in_place untraced_entry state.entries state'.entries es e k,
            in_place_listed untraced_entry state.entries state'.entries es e k,
            sym (ap (λ (x : Entry). x.signature)
                (in_place_alike untraced_entry state.entries state'.entries es e k)) ∙ u,
          )
      unit i (inr k) = inr (moved_covered s state state' same (unit_monomial i) k)

      settled : (ρ : Monomial) (w : Word) → Covered s state ρ
          ⊎ ((v : Word) × IsWordLess v w × Multiple s state.entries ρ v) → Covered s state' ρ
          ⊎ ((v : Word) × IsWordLess v w × Multiple s state'.entries ρ v)
      settled ρ w (inl k) = inl (moved_covered s state state' same ρ k)
      settled ρ w (inr (v, l, m)) =
          inr (v, l, moved_multiple s state.entries state'.entries es ρ v m)

  pub moved_bases : (set : Monomial → Type 0) → HasBases s state set → HasBases s state' set
  moved_bases set h = record {
    closed = moved_closed set h.closed;
    basis = λ α σ lies leads. moved_chain s state.entries state'.entries es σ
        (h.basis α σ lies leads);
    syzygies =
        λ α σ lies leads zero. moved_covered s state state' same σ (h.syzygies α σ lies leads zero);
  }

  pub moved_canonical : AreCanonical s state → AreCanonical s state'
  moved_canonical h e k =
      subst (λ (x : Entry). Is x) (sym (in_place_alike untraced_entry state'.entries state.entries
      (sym es) e k)) (here (h d listed))
    where
      Is : Entry → Type 0
      Is x = IsCanonical s state'.entries x.signature x.polynomial
          × ((f : Polynomial) → IsCanonical s state'.entries x.signature f
          → SamePolynomial s f x.polynomial)

      d : Entry
      d = in_place untraced_entry state'.entries state.entries (sym es) e k

      listed : Contains state.entries d
      listed = in_place_listed untraced_entry state'.entries state.entries (sym es) e k

      here : IsCanonical s state.entries d.signature d.polynomial
          × ((f : Polynomial) → IsCanonical s state.entries d.signature f
          → SamePolynomial s f d.polynomial) → Is d
      here (c, one) = (
        moved_one s state.entries state'.entries es d.signature d.polynomial c,
        λ f g. one f (moved_one s state'.entries state.entries (sym es) d.signature f g),
      )

pub moved_bases_at : (P : Problem) (state state' : State) → SameStates state state' → (ending : End)
    → HasBasesAt P state ending → HasBasesAt P state' ending
moved_bases_at P state state' same End.complete =
    moved_bases P.setting state state' same (IsWithin P)
moved_bases_at P state state' same (End.budget τ) =
    moved_bases P.setting state state' same (IsWithinBelow P τ)
