-- An ambiguity is a place where the leading words of two entries meet.
-- Its word begins with one of the two leading words, and the place is where the other one begins.
-- So the places of all pairs give exactly the signatures of ambiguities (`from_meeting`,
-- `to_meeting`).
use Rattle.nc_algebra.specs.Elements.{IsLess, Setting}
use Rattle.nc_algebra.specs.Monomials.{Monomial, times}
use Rattle.nc_algebra.specs.Polynomials.{leading}
use Rattle.nc_algebra.specs.Words.{Word}
use Rattle.nc_theory.proofs.Meetings.{swap}
use Rattle.nc_theory.specs.Meetings.{IsGreaterOf, MeetSomewhere}
use Rattle.nc_theory.specs.Ambiguities.{Ambiguity}
use Rattle.nc_theory.specs.Divisors.{Divisor}
use Rattle.nc_theory.specs.States.{Entry}
use Rattle.std.proofs.Common.{Contains, List, [], ap, arith, inl, inr, length, refl, subst, sym, ◌++◌, ◌∙◌, ◌≡◌, ◌⊎◌}

module _ (s : Setting) (entries : List Entry) (σ : Monomial) where
  -- where two entries meet, they have an ambiguity, of the two places in the list
  pub from_meeting : (e f : Entry) (c : Contains entries e) (d : Contains entries f)
      → MeetSomewhere s e f σ → (w : Word) × (a : Ambiguity s entries σ w)
      × (((a.high.listed.0 ≡ c.0) × (a.low.listed.0 ≡ d.0))
      ⊎ ((a.high.listed.0 ≡ d.0) × (a.low.listed.0 ≡ c.0)))
  from_meeting e f c d (k, m) =
      let r = go m.greater in (leading s.prime e.polynomial ++ m.behind_first, r.0, r.1)
    where
      first : Divisor s entries (leading s.prime e.polynomial ++ m.behind_first)
      first = record { entry = e; listed = c; left = []; right = m.behind_first; spells = refl }

      second : Divisor s entries (leading s.prime e.polynomial ++ m.behind_first)
      second =
          record {
            entry = f;
            listed = d;
            left = m.before;
            right = m.behind_second;
            spells = sym m.around.0;
          }

      go : IsGreaterOf s (times [] e.signature m.behind_first)
          (times m.before f.signature m.behind_second) σ
          → (a : Ambiguity s entries σ (leading s.prime e.polynomial ++ m.behind_first))
          × (((a.high.listed.0 ≡ c.0) × (a.low.listed.0 ≡ d.0))
          ⊎ ((a.high.listed.0 ≡ d.0) × (a.low.listed.0 ≡ c.0)))
      go (inl g) = (
        record {
          high = second;
          low = first;
          spans_front = inr refl;
          spans_back = swap m.around.1;
          high_begins = omega (arith, m.within, m.around.2);
          low_begins = omega (arith, m.some, m.around.2);
          below = g.0;
          signed = sym g.1;
        },
        inr (refl, refl),
      )
      go (inr g) = (
        record {
          high = first;
          low = second;
          spans_front = inl refl;
          spans_back = m.around.1;
          high_begins = omega (arith, m.some, m.around.2);
          low_begins = omega (arith, m.within, m.around.2);
          below = g.0;
          signed = sym g.1;
        },
        inl (refl, refl),
      )

  -- where they have an ambiguity, they meet
  pub to_meeting : (w : Word) (a : Ambiguity s entries σ w)
      → MeetSomewhere s a.high.entry a.low.entry σ ⊎ MeetSomewhere s a.low.entry a.high.entry σ
  to_meeting w a = go a.spans_front
    where
      go : (a.high.left ≡ []) ⊎ (a.low.left ≡ []) → MeetSomewhere s a.high.entry a.low.entry σ
          ⊎ MeetSomewhere s a.low.entry a.high.entry σ
      go (inl i) = inl (
        length a.low.left,
        record {
          before = a.low.left;
          behind_first = a.high.right;
          behind_second = a.low.right;
          around = (
            ap (λ x. x ++ (leading s.prime a.high.entry.polynomial ++ a.high.right)) (sym i)
                ∙ (a.high.spells ∙ sym a.low.spells),
            a.spans_back,
            refl,
          );
          within = omega (arith, a.low_begins, ap length i);
          some = omega (arith, a.high_begins);
          greater =
              inr (
                subst (λ x. IsLess s (times a.low.left a.low.entry.signature a.low.right)
                    (times x a.high.entry.signature a.high.right)) i a.below,
                sym a.signed ∙ ap (λ x. times x a.high.entry.signature a.high.right) i,
              );
        },
      )
      go (inr i) = inr (
        length a.high.left,
        record {
          before = a.high.left;
          behind_first = a.low.right;
          behind_second = a.high.right;
          around = (
            ap (λ x. x ++ (leading s.prime a.low.entry.polynomial ++ a.low.right)) (sym i)
                ∙ (a.low.spells ∙ sym a.high.spells),
            swap a.spans_back,
            refl,
          );
          within = omega (arith, a.high_begins, ap length i);
          some = omega (arith, a.low_begins);
          greater =
              inl (
                subst (λ x. IsLess s (times x a.low.entry.signature a.low.right)
                    (times a.high.left a.high.entry.signature a.high.right)) i a.below,
                sym a.signed,
              );
        },
      )
