-- What a run over a program's setting reaches: entries that can be used, and signatures that can be
-- handled. Entries are in normal form and not zero, by the invariants of the run. Their words weigh
-- at most the degree of their signatures, since they have labels, and are over the letters of the
-- setting (`run_usable`). Each candidate can be handled (`candidate_usable`).
use Rattle.nc_algebra.proofs.Degrees.{degree_within, labelled_limited}
use Rattle.nc_algebra.proofs.Ranks.{over_letters}
use Rattle.nc_algebra.proofs.Sums.{zero_number}
use Rattle.nc_algebra.specs.Elements.{Element, IsLabelled, IsLess, IsZeroPolynomial, Setting, WordsAre, generator}
use Rattle.nc_algebra.specs.Finite.{AreLetters, IsOver}
use Rattle.nc_algebra.specs.Monomials.{Monomial}
use Rattle.nc_algebra.specs.Polynomials.{IsNormal}
use Rattle.nc_algebra.specs.Primes.{IsField}
use Rattle.nc_algebra.specs.Problems.{IsWithin, Problem, bound_degree}
use Rattle.nc_algebra.specs.Settings.{IsSetting, NamedSetting}
use Rattle.nc_algebra.specs.Words.{Word}
use Rattle.nc_theory.proofs.OverAlphabet.{generator_over, letter_of}
use Rattle.nc_theory.specs.Named.{alphabet_letters}
use Rattle.nc_theory.specs.Usable.{IsUsable, IsUsableSignature}
use Rattle.nc_theory.proofs.Completeness.{invariant}
use Rattle.nc_theory.proofs.Normal.{kept_normal}
use Rattle.nc_theory.proofs.Rebuilding.{rebuilt}
use Rattle.nc_theory.proofs.Steps.{candidate_over, run_over, syzygies_are}
use Rattle.nc_theory.specs.Letters.{AreOver}
use Rattle.nc_theory.specs.Rebuilding.{Rebuilds}
use Rattle.nc_theory.specs.Runs.{IsCandidate, SequentialRun}
use Rattle.nc_theory.specs.States.{Entry, State, Syzygy}
use Rattle.std.proofs.Common.{Contains, List, Option, arith, get_or, length, subst, sym, ℕ, ◌<◌, ◌≡◌, ◌≤◌}
use Rattle.std.proofs.lemmas.List.Elements.{Contains-append_left}
use Rattle.std.proofs.lemmas.List.{get_or_default}
use Rattle.std.specs.List.{All}

-- ---- a run

module _ (s : NamedSetting) (setting : IsSetting s) (prime_field : IsField s.setting.prime)
    (P : Problem) (same : P.setting ≡ s.setting) (limit : bound_degree P.setting P.bound ≤ 100000)
    {n : ℕ} {state : State} {last : Option Monomial} (run : SequentialRun P n state last) where
  field : IsField P.setting.prime
  field = subst (λ (t : Setting). IsField t.prime) (sym same) prime_field

  inputs : (i : ℕ) → WordsAre P.setting (IsOver (alphabet_letters s.alphabet))
      (generator P.setting i)
  inputs i =
      subst (λ (t : Setting). WordsAre t (IsOver (alphabet_letters s.alphabet)) (generator t i))
      (sym same) (generator_over s setting i)

  over : AreOver P.setting (alphabet_letters s.alphabet) state.entries
  over = run_over P field (alphabet_letters s.alphabet) inputs run

  alive : (e : Entry) → Contains state.entries e → ¬ IsZeroPolynomial P.setting e.polynomial
  alive = (invariant P field run).sound.nonzero

  letters : (w : Word) → IsOver (alphabet_letters s.alphabet) w → AreLetters 64 100 w
  letters w o =
      over_letters 64 100 (alphabet_letters s.alphabet) (letter_of s.alphabet setting.alphabet) w o

  entry_normal : (e : Entry) → Contains state.entries e → IsNormal P.setting.prime e.polynomial
  entry_normal e k = go ((rebuilt P field run).entries e k)
    where
      go : Rebuilds P.setting state.entries e.signature e.trace e.polynomial
          → IsNormal P.setting.prime e.polynomial
      go r = kept_normal P.setting field r.first
          (λ d c. alive d (subst (λ (es : List Entry). Contains es d) (sym r.splits)
          (Contains-append_left r.first r.rest d c))) (λ σ. IsLess P.setting σ e.signature)
          r.reduces

  entry_usable : (e : Entry) → Contains state.entries e → IsUsable P.setting e
  entry_usable e k = record {
    normal = entry_normal e k;
    some = λ i. alive e k (subst (IsZeroPolynomial P.setting) (sym i)
        (λ w. zero_number P.setting.prime));
    letters = λ w m. letters w (over.words e k w m);
    light = (let l : (α : Element)
        × IsLabelled P.setting e.signature e.polynomial α = (invariant P field run).sound.entries
        e k in labelled_limited P.setting e.signature e.polynomial l.0 l.1);
  }

  listed : (k : ℕ) (e : Entry) → k < length state.entries
      → Contains state.entries (get_or state.entries k e)
  listed k e l = (k, l, get_or_default state.entries k (get_or state.entries k e) e l)

  pub run_usable : All (IsUsable P.setting) state.entries
  run_usable k e l = entry_usable (get_or state.entries k e) (listed k e l)

  pub signature_usable : (σ : Monomial) → IsWithin P σ → IsOver (alphabet_letters s.alphabet) σ.left
      × IsOver (alphabet_letters s.alphabet) σ.right → IsUsableSignature P.setting σ
  signature_usable σ within o =
      record {
        limited = omega (arith, limit, degree_within P.setting P.bound σ within.1);
        left = letters σ.left o.0;
        right = letters σ.right o.1;
      }

  pub candidate_usable : (σ : Monomial) → IsCandidate P state σ → IsUsableSignature P.setting σ
  candidate_usable σ c =
      signature_usable σ c.0 (candidate_over P field (alphabet_letters s.alphabet) inputs state
      alive over σ c)

  pub entry_signed : (e : Entry) → Contains state.entries e
      → IsUsableSignature P.setting e.signature
  entry_signed e k =
      signature_usable e.signature ((invariant P field run).within e k) (
        over.left e k,
        over.right e k,
      )

  pub syzygy_signed : (h : Syzygy) → Contains state.syzygies h → IsWithin P h.signature
      × IsUsableSignature P.setting h.signature
  syzygy_signed h k = (
    syzygies_are P (IsWithin P) (λ k before since r σ d. d.0) run h k,
    signature_usable h.signature (syzygies_are P (IsWithin P) (λ k before since r σ d. d.0) run h k)
        (syzygies_are P (λ σ. IsOver (alphabet_letters s.alphabet) σ.left
        × IsOver (alphabet_letters s.alphabet) σ.right)
        (λ k before since r. candidate_over P field (alphabet_letters s.alphabet) inputs
        before (invariant P field r).sound.nonzero
        (run_over P field (alphabet_letters s.alphabet) inputs r)) run h k),
  )
