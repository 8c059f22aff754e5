-- A run of a named problem: its words are over the alphabet, and with enough steps it is complete.
use Rattle.nc_algebra.proofs.Primes.{field_from_prime}
use Rattle.nc_algebra.specs.Alphabets.{AreWordsIn}
use Rattle.nc_algebra.specs.Elements.{WordsAre, generator}
use Rattle.nc_algebra.specs.Finite.{IsOver, monomials_within}
use Rattle.nc_algebra.specs.Monomials.{Monomial}
use Rattle.nc_algebra.specs.Primes.{IsField, IsPrime}
use Rattle.nc_algebra.specs.Problems.{IsProblem, NamedProblem, setting_of}
use Rattle.nc_theory.proofs.OverAlphabet.{generator_over, polynomial_in, word_in}
use Rattle.nc_theory.proofs.Snapshots.{facts}
use Rattle.nc_theory.proofs.Untraced.{each_alike}
use Rattle.nc_theory.proofs.UntracedRuns.{same_run}
use Rattle.nc_theory.proofs.UntracedStates.{SameStates, moved_candidate, same_entries, same_syzygies}
use Rattle.nc_theory.specs.Named.{IsMonomialIn, IsOverAlphabet, alphabet_letters}
use Rattle.nc_theory.specs.Untraced.{IsEndOf, IsRunOf, untraced_entry, untraced_syzygy}
use Rattle.nc_theory.specs.Usable.{IsUsable}
use Rattle.nc_theory.proofs.Completeness.{invariant}
use Rattle.nc_theory.proofs.Steps.{candidate_over, enough_steps, run_over, syzygies_are}
use Rattle.nc_theory.specs.Letters.{AreOver}
use Rattle.nc_theory.specs.Runs.{End}
use Rattle.nc_theory.specs.States.{Entry, State, Syzygy}
use Rattle.std.proofs.Common.{Contains, List, length, subst, ℕ, ◌≡◌, ◌≤◌}
use Rattle.nc_algebra.specs.Words.{Letter}

module _ (P : NamedProblem) (is : IsProblem P) (prime : IsPrime P.problem.setting.prime) where
  field : IsField P.problem.setting.prime
  field = field_from_prime P.problem.setting.prime prime

  abbrev letters : List Letter
  letters = alphabet_letters P.alphabet

  inputs : (i : ℕ) → WordsAre P.problem.setting (IsOver letters) (generator P.problem.setting i)
  inputs = generator_over (setting_of P) is.setting

  monomial_in : (σ : Monomial) → IsOver letters σ.left × IsOver letters σ.right
      → IsMonomialIn P.alphabet σ
  monomial_in σ o = (word_in P.alphabet σ.left o.0, word_in P.alphabet σ.right o.1)

  module _ (n : ℕ) (state : State) (r : IsRunOf P.problem n state) where
    same : SameStates state r.run
    same = same_run state r.run r.stands

    over : AreOver P.problem.setting letters r.run.entries
    over = run_over P.problem field letters inputs r.runs

    entry_in : (e : Entry) → Contains state.entries e → IsMonomialIn P.alphabet e.signature
        × AreWordsIn P.alphabet e.polynomial
    entry_in e k = (
      monomial_in e.signature ends,
      polynomial_in P.alphabet P.problem.setting e.polynomial usable.normal words,
    )
      where
        ends : IsOver letters e.signature.left × IsOver letters e.signature.right
        ends = each_alike untraced_entry state.entries r.run.entries (same_entries state r.run same)
            (λ (x : Entry). IsOver letters x.signature.left × IsOver letters x.signature.right)
            (λ d c. (over.left d c, over.right d c)) e k

        words : WordsAre P.problem.setting (IsOver letters) e.polynomial
        words = each_alike untraced_entry state.entries r.run.entries
            (same_entries state r.run same)
            (λ (x : Entry). WordsAre P.problem.setting (IsOver letters) x.polynomial) over.words e k

        usable : IsUsable P.problem.setting e
        usable =
            subst (IsUsable P.problem.setting) k.2 ((facts P is prime n state r).usable k.0 e k.1)

    syzygy_in : (h : Syzygy) → Contains state.syzygies h → IsMonomialIn P.alphabet h.signature
    syzygy_in h k =
        monomial_in h.signature (each_alike untraced_syzygy state.syzygies r.run.syzygies
        (same_syzygies state r.run same)
        (λ (x : Syzygy). IsOver letters x.signature.left × IsOver letters x.signature.right)
        (syzygies_are P.problem (λ σ. IsOver letters σ.left × IsOver letters σ.right)
        (λ k before since q. candidate_over P.problem field letters inputs before
        (invariant P.problem field q).sound.nonzero
        (run_over P.problem field letters inputs q)) r.runs) h k)

    pub over_alphabet : IsOverAlphabet P state
    over_alphabet = record {
      entries = entry_in;
      syzygies = syzygy_in;
      candidates =
          λ τ c. monomial_in τ (candidate_over P.problem field letters inputs r.run
          (invariant P.problem field r.runs).sound.nonzero over τ
          (moved_candidate P.problem state r.run same τ c));
    }

  pub complete : length (monomials_within P.problem.setting P.problem.bound letters)
      ≤ P.problem.steps → (n : ℕ) (state : State) (ending : End) → IsEndOf P.problem n state ending
      → ending ≡ End.complete
  complete h n state ending e = enough_steps P.problem field letters inputs h e.ends
