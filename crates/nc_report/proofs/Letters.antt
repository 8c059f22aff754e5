-- The letters of what a run of a named problem has found have names.
use Rattle.nc_algebra.specs.Alphabets.{Alphabet, AreWordsIn, IsWordIn}
use Rattle.nc_algebra.specs.Monomials.{Monomial}
use Rattle.nc_algebra.specs.Polynomials.{Polynomial}
use Rattle.nc_algebra.specs.Words.{Word}
use Rattle.nc_desk.specs.Ends.{IsEndAt}
use Rattle.nc_theory.proofs.Named.{over_alphabet}
use Rattle.nc_theory.proofs.UntracedRuns.{same_run}
use Rattle.nc_theory.proofs.UntracedStates.{moved_candidate}
use Rattle.nc_theory.specs.Named.{IsMonomialIn, IsOverAlphabet}
use Rattle.nc_report.specs.Letters.{IsMonomialNamed}
use Rattle.nc_snapshot.proofs.Snapshots.{snapshot_prime}
use Rattle.nc_snapshot.specs.Snapshots.{IsSnapshot, Snapshot}
use Rattle.nc_theory.specs.Runs.{End, IsEnd}
use Rattle.nc_theory.specs.States.{Entry, Syzygy}
use Rattle.std.proofs.Common.{All, Contains, List, Some, length, slice_get, subst, sym, ℕ, ◌<◌, ◌≡◌}
use Rattle.std.proofs.lemmas.Option.{get_or_from_slice_get, slice_get_within}

-- a name for each letter of the word
abbrev pub IsNamed : Alphabet → Word → Type 0
IsNamed a w = All (λ x. x.index < length a.names) w

pub named : (a : Alphabet) (w : Word) → IsWordIn a w → IsNamed a w
named a w over k d l = (over k d l).0

pub words_named : (a : Alphabet) (f : Polynomial) → AreWordsIn a f → All (λ t. IsNamed a t.key) f
words_named a f over k d l = named a _ (over k d l)

monomial_named : (a : Alphabet) (τ : Monomial) → IsMonomialIn a τ
    → IsMonomialNamed (length a.names) τ
monomial_named a τ over =
    record { left = named a τ.left over.0; right = named a τ.right over.1 }

listed : {X : Type 0} (xs : List X) (n : ℕ) (x : X) → slice_get xs n ≡ Some x → Contains xs x
listed xs n x at = (n, slice_get_within xs n x at, get_or_from_slice_get xs n x x at)

module _ (s : Snapshot) (h : IsSnapshot s) where
  over : IsOverAlphabet s.problem s.state
  over = over_alphabet s.problem h.problem (snapshot_prime s h) s.handled s.state h.run

  module _ (n : ℕ) (e : Entry) (at : slice_get s.state.entries n ≡ Some e) where
    entry_over : IsMonomialIn s.problem.alphabet e.signature
        × AreWordsIn s.problem.alphabet e.polynomial
    entry_over = over.entries e (listed s.state.entries n e at)

    pub entry_named : IsMonomialNamed (length s.problem.alphabet.names) e.signature
    entry_named = monomial_named s.problem.alphabet e.signature entry_over.0

    pub entry_words : All (λ t. IsNamed s.problem.alphabet t.key) e.polynomial
    entry_words = words_named s.problem.alphabet e.polynomial entry_over.1

  module _ (n : ℕ) (g : Syzygy) (at : slice_get s.state.syzygies n ≡ Some g) where
    syzygy_over : IsMonomialIn s.problem.alphabet g.signature
    syzygy_over = over.syzygies g (listed s.state.syzygies n g at)

    pub syzygy_named : IsMonomialNamed (length s.problem.alphabet.names) g.signature
    syzygy_named = monomial_named s.problem.alphabet g.signature syzygy_over

  module _ (τ : Monomial) (e : IsEndAt s (End.budget τ)) where
    next_over : IsMonomialIn s.problem.alphabet τ
    next_over = go e.ends
      where
        go : IsEnd s.problem.problem s.handled e.run (End.budget τ)
            → IsMonomialIn s.problem.alphabet τ
        go (IsEnd.is_budget i runs σ next) =
            over.candidates τ (moved_candidate s.problem.problem e.run s.state
            (sym (same_run s.state e.run e.stands)) τ next.candidate)

  -- the next signature of a run whose steps were used up
  pub budget_named : (ending : End) → IsEndAt s ending → (τ : Monomial) → End.budget τ ≡ ending
      → (names : List (List ℕ)) → names ≡ s.problem.alphabet.names
      → IsMonomialNamed (length names) τ
  budget_named ending e τ is names same =
      subst (λ (ns : List (List ℕ)). IsMonomialNamed (length ns) τ) (sym same)
      (monomial_named s.problem.alphabet τ (next_over τ (subst (IsEndAt s) (sym is) e)))
