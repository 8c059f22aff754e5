-- What the trace of a listed item names: entries with lesser signatures, whose multiples are within
-- the bound. `rebuilds_named` says so of what is rebuilt. An entry with a lesser signature is an
-- earlier one (`names_earlier`).
use Rattle.nc_algebra.proofs.Degrees.{degree_within, degrees}
use Rattle.nc_algebra.proofs.Finite.{contains_among}
use Rattle.nc_algebra.proofs.Monomials.{monomial_irrefl, monomial_trans}
use Rattle.nc_algebra.specs.Elements.{IsGenerator, IsLess, Setting, degree, generator_weight}
use Rattle.nc_algebra.specs.Monomials.{Monomial, times}
use Rattle.nc_algebra.specs.Polynomials.{Polynomial}
use Rattle.nc_algebra.specs.Primes.{IsField}
use Rattle.nc_algebra.specs.Problems.{IsWithin, Problem, bound_degree}
use Rattle.nc_algebra.specs.Words.{Word}
use Rattle.nc_cofactor.proofs.Keys.{all_among}
use Rattle.nc_cofactor.specs.Terms.{Names, StartNames}
use Rattle.nc_cofactor.specs.Traces.{IsTraceIn}
use Rattle.nc_snapshot.specs.declared.outcome.Listed.{Listed}
use Rattle.nc_snapshot.specs.declared.outcome.Listed.TheVariants.{Claim, Entry as EntryOf, Syzygy as SyzygyOf}
use Rattle.nc_theory.proofs.Completeness.{invariant}
use Rattle.nc_theory.proofs.Rebuilding.{rebuilt}
use Rattle.nc_theory.proofs.Steps.{syzygies_are}
use Rattle.nc_theory.specs.Rebuilding.{Rebuilds}
use Rattle.nc_theory.specs.Reductions.{Reduction, ReductionAt}
use Rattle.nc_theory.specs.Runs.{SequentialRun, Starts}
use Rattle.nc_theory.specs.States.{Entry, Start, State, Step, Syzygy, Trace}
use Rattle.std.proofs.Common.{Contains, List, Option, Some, [], ap, arith, inl, inr, length, length-append, refl, subst, sym, ℕ, ◌+◌, ◌++◌, ◌-◌, ◌<◌, ◌∙◌, ◌≡◌, ◌≤◌, ◌⊎◌}
use Rattle.std.proofs.lemmas.List.{get_or_append_left}
use Rattle.std.proofs.lemmas.Option.{get_or_from_slice_get, slice_get_read, slice_get_within}
use Rattle.std.specs.List.{AllByRecursion, slice_get}

-- entry j has a signature below τ, and its multiple one of at most the degree of τ
pub record IsNamed (s : Setting) (entries : List Entry) (τ : Monomial) (u : Word) (j : ℕ)
    (v : Word) : Type 0 where
  pub some : 1 ≤ j
  pub entry : Entry
  pub at : slice_get entries (j - 1) ≡ Some entry
  pub lesser : IsLess s entry.signature τ
  pub light : degree s (times u entry.signature v) ≤ degree s τ

abbrev pub IsStartNamed : Setting → List Entry → Monomial → Start → Type 0
IsStartNamed s entries τ (Start.a_generator i) = IsGenerator s i
IsStartNamed s entries τ (Start.a_multiple u j v) = IsNamed s entries τ u j v

pub record AreNamed (s : Setting) (entries : List Entry) (τ : Monomial) (t : Trace) : Type 0 where
  pub start : IsStartNamed s entries τ t.start
  pub residues : AllByRecursion (λ step. step.coefficient < s.prime) t.steps
  pub steps : AllByRecursion (λ step. IsNamed s entries τ step.left step.number step.right) t.steps

-- an element at its place
abbrev pub contains_at : {X : Type 0} (xs : List X) (k : ℕ) (x : X) → slice_get xs k ≡ Some x
    → Contains xs x
contains_at xs k x e = (k, slice_get_within xs k x e, get_or_from_slice_get xs k x x e)

pub at_contains : {X : Type 0} (xs : List X) (x : X) (c : Contains xs x) → slice_get xs c.0 ≡ Some x
at_contains xs x c = slice_get_read xs (length xs) c.0 x refl c.1 (sym c.2)

module _ (s : Setting) (entries first rest : List Entry) (τ : Monomial)
    (splits : entries ≡ first ++ rest) (lesser : (e : Entry) → Contains first e
    → IsLess s e.signature τ) where
  at_front : (e : Entry) (c : Contains first e) → slice_get entries (c.0 + 1 - 1) ≡ Some e
  at_front e c =
      let within : c.0 < length (first ++ rest) = omega (arith, c.1, length-append first rest) in
      subst (λ (l : List Entry). slice_get l (c.0 + 1 - 1) ≡ Some e) (sym splits)
      (subst (λ n. slice_get (first ++ rest) n ≡ Some e) (omega arith)
      (slice_get_read (first ++ rest) (length (first ++ rest)) c.0 e refl within
      (sym (get_or_append_left first rest e c.0 c.1 ∙ c.2))))

  named : (u v : Word) (e : Entry) (c : Contains first e) → (times u e.signature v ≡ τ)
      ⊎ IsLess s (times u e.signature v) τ → IsNamed s entries τ u (c.0 + 1) v
  named u v e c below =
      record {
        some = omega arith;
        entry = e;
        at = at_front e c;
        lesser = lesser e c;
        light = degrees s (times u e.signature v) τ below;
      }

  start_named : IsGenerator s τ.generator → {f : Polynomial} {start : Start}
      → Starts s first τ f start → IsStartNamed s entries τ start
  start_named inside (Starts.at_generator i e) =
      subst (λ (σ : Monomial). IsGenerator s σ.generator) e inside
  start_named inside (Starts.at_multiple n w d best regular) =
      named d.left d.right d.entry d.listed (inl best.signed)

  steps_small : {f kept : Polynomial} {steps : List Step} → ReductionAt s first τ f kept steps
      → AllByRecursion (λ step. step.coefficient < s.prime) steps
  steps_small (Reduction.finished n) = tt
  steps_small (Reduction.subtract w l d chosen c small q r) = (small, steps_small r)
  steps_small (Reduction.keep w l n c e r) = steps_small r

  steps_named : {f kept : Polynomial} {steps : List Step} → ReductionAt s first τ f kept steps
      → AllByRecursion (λ step. IsNamed s entries τ step.left step.number step.right) steps
  steps_named (Reduction.finished n) = tt
  steps_named (Reduction.subtract w l d chosen c small q r) =
      (named d.left d.right d.entry d.listed (inr chosen.allowed), steps_named r)
  steps_named (Reduction.keep w l n c e r) = steps_named r

pub rebuilds_named : (s : Setting) (entries : List Entry) (τ : Monomial) (t : Trace)
    (f : Polynomial) → IsGenerator s τ.generator → Rebuilds s entries τ t f → AreNamed s entries τ t
rebuilds_named s entries τ t f inside r = record {
  start = start_named s entries r.first r.rest τ r.splits r.lesser inside r.starts;
  residues = steps_small s entries r.first r.rest τ r.splits r.lesser r.reduces;
  steps = steps_named s entries r.first r.rest τ r.splits r.lesser r.reduces;
}

-- ---- what is named

-- some multiple of entry j
pub record IsAnyNamed (s : Setting) (entries : List Entry) (τ : Monomial) (j : ℕ) : Type 0 where
  pub u : Word
  pub v : Word
  pub named : IsNamed s entries τ u j v

pub any_named : (s : Setting) (entries : List Entry) (τ : Monomial) (t : Trace) (j : ℕ)
    → AreNamed s entries τ t → Names t j → IsAnyNamed s entries τ j
any_named s entries τ t j a (inl h) = in_start t.start a.start h
  where
    in_start : (start : Start) → IsStartNamed s entries τ start → StartNames start j
        → IsAnyNamed s entries τ j
    in_start (Start.a_generator i) n h = absurd h
    in_start (Start.a_multiple u k v) n h =
        record { u = u; v = v; named = subst (λ i. IsNamed s entries τ u i v) h n }
any_named s entries τ t j a (inr (step, c, e)) = record {
  u = step.left;
  v = step.right;
  named = subst (λ i. IsNamed s entries τ step.left i step.right) e
      (all_among (λ (y : Step). IsNamed s entries τ y.left y.number y.right) t.steps a.steps step
      (contains_among step t.steps c));
}

-- ---- runs

-- entry j, whose multiple is one of at most the degree of the bound
pub record IsLight (P : Problem) (entries : List Entry) (u : Word) (j : ℕ) (v : Word) : Type 0 where
  pub some : 1 ≤ j
  pub entry : Entry
  pub at : slice_get entries (j - 1) ≡ Some entry
  pub light : degree P.setting (times u entry.signature v) ≤ bound_degree P.setting P.bound

pub named_light : (P : Problem) (entries : List Entry) (τ : Monomial) (u : Word) (j : ℕ) (v : Word)
    → IsWithin P τ → IsNamed P.setting entries τ u j v → IsLight P entries u j v
named_light P entries τ u j v within n =
    record {
      some = n.some;
      entry = n.entry;
      at = n.at;
      light = omega (arith, n.light, degree_within P.setting P.bound τ within.1);
    }

-- residues, and entries whose multiples are light
pub record AreLight (P : Problem) (entries : List Entry) (steps : List Step) : Type 0 where
  pub residues : AllByRecursion (λ step. step.coefficient < P.setting.prime) steps
  pub light : AllByRecursion (λ step. IsLight P entries step.left step.number step.right) steps

-- the signature of a listed item
pub record IsSigned (P : Problem) (run : State) (listed : Listed) (t : Trace) : Type 0 where
  pub signature : Monomial
  pub within : IsWithin P signature
  pub named : AreNamed P.setting run.entries signature t

module _ (P : Problem) (field : IsField P.setting.prime) {n : ℕ} {run : State}
    {last : Option Monomial} (runs : SequentialRun P n run last) where
  entry_named : (e : Entry) (c : Contains run.entries e)
      → AreNamed P.setting run.entries e.signature e.trace
  entry_named e c =
      rebuilds_named P.setting run.entries e.signature e.trace e.polynomial
      ((invariant P field runs).within e c).0 ((rebuilt P field runs).entries e c)

  syzygy_within : (h : Syzygy) → Contains run.syzygies h → IsWithin P h.signature
  syzygy_within h c = syzygies_are P (IsWithin P) (λ k before since r σ d. d.0) runs h c

  pub signed : (listed : Listed) (t : Trace) → IsTraceIn run listed t → IsSigned P run listed t
  signed (EntryOf k) t (e, some, at, is) =
      let c = contains_at run.entries (k - 1) e at in
      record {
        signature = e.signature;
        within = (invariant P field runs).within e c;
        named = subst (AreNamed P.setting run.entries e.signature) is (entry_named e c);
      }
  signed (SyzygyOf k) t (h, some, at, is) =
      let c = contains_at run.syzygies (k - 1) h at in
      record {
        signature = h.signature;
        within = syzygy_within h c;
        named = subst (AreNamed P.setting run.entries h.signature)
            is (rebuilds_named P.setting run.entries h.signature h.trace [] (syzygy_within h c).0
            ((rebuilt P field runs).syzygies h c));
      }
  signed Claim t h = absurd h

  -- an entry with a lesser signature is an earlier one
  earlier : (j k : ℕ) (d e : Entry) → 1 ≤ j → 1 ≤ k → slice_get run.entries (j - 1) ≡ Some d
      → slice_get run.entries (k - 1) ≡ Some e → IsLess P.setting d.signature e.signature → j < k
  earlier j k d e a b at_j at_k less = go (order j k)
    where
      order : (j k : ℕ) → (j < k) ⊎ ((j ≡ k) ⊎ (k < j))
      order j k = grind arith

      go : (j < k) ⊎ ((j ≡ k) ⊎ (k < j)) → j < k
      go (inl l) = l
      go (inr (inl i)) =
          let same : Some d ≡ Some e =
          sym at_j ∙ (ap (λ n. slice_get run.entries (n - 1)) i ∙ at_k) in
          let one : d ≡ e = cc in
          absurd (monomial_irrefl (generator_weight P.setting) e.signature
          (subst (λ (x : Entry). IsLess P.setting x.signature e.signature) one less))
      go (inr (inr l)) =
          absurd (monomial_irrefl (generator_weight P.setting) d.signature
          (monomial_trans (generator_weight P.setting) d.signature e.signature d.signature less
          ((rebuilt P field runs).entries_ascend e d (contains_at run.entries (k - 1) e at_k)
          (contains_at run.entries (j - 1) d at_j) (omega arith))))

  -- an entry's trace names earlier entries
  pub names_earlier : (k j : ℕ) (e : Entry) → 1 ≤ k → slice_get run.entries (k - 1) ≡ Some e
      → Names e.trace j → (1 ≤ j) × (j < k)
  names_earlier k j e some at h =
      let n = any_named P.setting run.entries e.signature e.trace j
      (entry_named e (contains_at run.entries (k - 1) e at)) h in
      (n.named.some, earlier j k n.named.entry e n.named.some some n.named.at at n.named.lesser)
