-- What is needed for the steps of a claim: entries of the run, in ascending order, and so not too
-- many.
use Rattle.nc_algebra.specs.Certificates.{Line}
use Rattle.nc_algebra.specs.Elements.{Setting}
use Rattle.nc_algebra.specs.Monomials.{Monomial}
use Rattle.nc_algebra.specs.Polynomials.{Polynomial}
use Rattle.nc_algebra.specs.Problems.{IsProblem, NamedProblem, Problem}
use Rattle.nc_cofactor.proofs.Labelled.{problem_field}
use Rattle.nc_cofactor.proofs.Named.{IsSigned, signed}
use Rattle.nc_cofactor.proofs.Runs.{run_at}
use Rattle.nc_cofactor.specs.Claims.{AreNeededTraces, AreSubtracted, numbers_of}
use Rattle.nc_cofactor.specs.Terms.{IsNeeded}
use Rattle.nc_cofactor.specs.Traces.{IsTraceIn}
use Rattle.nc_member.proofs.Places.{Ascends, ascends}
use Rattle.nc_member.specs.Found.{AreProofLines, AreUsable, HasResidues, entries_of}
use Rattle.nc_theory.specs.Untraced.{IsRunOf}
use Rattle.nc_snapshot.specs.declared.outcome.Listed.TheVariants.{Entry as EntryOf}
use Rattle.nc_theory.proofs.Counting.{counts}
use Rattle.nc_theory.specs.Reductions.{Reduction}
use Rattle.nc_theory.specs.States.{Entry, State, Step, Trace}
use Rattle.std.proofs.Common.{Contains, List, [], arith, length, subst, sym, ℕ, ◌-◌, ◌<◌, ◌∷◌, ◌≡◌, ◌≤◌}
use Rattle.std.proofs.lemmas.List.{length-map}
use Rattle.std.proofs.lemmas.List.Elements.{All-from_recursion, recursion_from_All}
use Rattle.std.proofs.lemmas.Option.{slice_get_within}
use Rattle.std.specs.List.{All, AllByRecursion}

-- ---- the entries that are named

named : (s : Setting) (entries : List Entry) (set : Monomial → Type 0)
    → {f kept : Polynomial} {steps : List Step} → Reduction s entries set f kept steps
    → AllByRecursion (λ j. (1 ≤ j) × (j ≤ length entries)) (numbers_of steps)
named s entries set (Reduction.finished z) = tt
named s entries set (Reduction.subtract w l d chosen c small q rest) =
    ((omega arith, omega (arith, d.listed.1)), named s entries set rest)
named s entries set (Reduction.keep w l none c e rest) = named s entries set rest

pub subtracted_named : (P : Problem) (entries : List Entry) (steps : List Step)
    → AreSubtracted P entries steps → All (λ j. (1 ≤ j) × (j ≤ length entries)) (numbers_of steps)
subtracted_named P entries steps (f, rest, r) =
    All-from_recursion (λ j. (1 ≤ j) × (j ≤ length entries)) (numbers_of steps)
    (named P.setting entries _ r)

-- ---- ascending numbers within a limit

raised : (x low bound : ℕ) (xs : List ℕ) → AllByRecursion (λ y. x < y) xs
    → AllByRecursion (λ y. (low < y) × (y ≤ bound)) xs
    → AllByRecursion (λ y. (x < y) × (y ≤ bound)) xs
raised x low bound [] a h = tt
raised x low bound (y ∷ xs) a h = ((a.0, h.0.1), raised x low bound xs a.1 h.1)

few_numbers : (low bound : ℕ) (xs : List ℕ) → Ascends xs
    → AllByRecursion (λ y. (low < y) × (y ≤ bound)) xs → length xs ≤ bound - low
few_numbers low bound [] a h = omega arith
few_numbers low bound (x ∷ xs) a h =
    omega (arith, few_numbers x bound xs a.1 (raised x low bound xs a.0 h.1), h.0.0, h.0.1)

-- ---- the needed entries

module _ (P : NamedProblem) (is : IsProblem P) (n : ℕ) (few : n ≤ P.problem.steps)
    (numbers : List ℕ) (needed : List (ℕ × Trace)) (h : AreNeededTraces P.problem n numbers needed)
  where
    within : (list : List (ℕ × Trace))
        → AllByRecursion (λ x. IsTraceIn h.at.run (EntryOf x.0) x.1) list
        → AllByRecursion (λ j. (0 < j) × (j ≤ length h.at.run.entries)) (entries_of list)
    within [] a = tt
    within (x ∷ list) a = (go a.0, within list a.1)
      where
        go : IsTraceIn h.at.run (EntryOf x.0) x.1 → (0 < x.0) × (x.0 ≤ length h.at.run.entries)
        go (e, some, at, i) = (
          omega (arith, some),
          omega (
            arith,
            slice_get_within h.at.run.entries (x.0 - 1) e at,
            some,
          ),
        )

    residues : (list : List (ℕ × Trace))
        → AllByRecursion (λ x. IsTraceIn h.at.run (EntryOf x.0) x.1) list
        → AllByRecursion (λ x. HasResidues P.problem.setting.prime x.1) list
    residues [] a = tt
    residues (x ∷ list) a =
        let g : IsSigned P.problem h.at.run (EntryOf x.0) x.1 =
        signed P.problem (problem_field P is) h.at.runs (EntryOf x.0) x.1 a.0 in (
          All-from_recursion (λ step. step.coefficient < P.problem.setting.prime) x.1.steps
              g.named.residues,
          residues list a.1,
        )

    pub usable : AreUsable P.problem n numbers needed
    usable =
        let listed : AllByRecursion (λ x. IsTraceIn h.at.run (EntryOf x.0) x.1) needed =
        recursion_from_All (λ x. IsTraceIn h.at.run (EntryOf x.0) x.1) needed h.traces in
        record {
          traces = h;
          residues =
              All-from_recursion (λ x. HasResidues P.problem.setting.prime x.1) needed
              (residues needed listed);
          ascending = h.lists.ascending;
          few = omega (
            arith,
            few_numbers 0 (length h.at.run.entries) (entries_of needed)
                (ascends (entries_of needed) h.lists.ascending) (within needed listed),
            length-map needed (λ (x : ℕ × Trace). x.0),
            counts P.problem h.at.runs,
            few,
            is.few,
          );
        }

-- ---- where nothing is needed

none_needed : (entries : List Entry) {j : ℕ} → IsNeeded entries (Contains []) j → ⊥
none_needed entries (IsNeeded.given c) = omega (arith, c.1)
none_needed entries (IsNeeded.through h e at m) = none_needed entries h

pub no_lines : (P : Problem) (n : ℕ) (state : State) → IsRunOf P n state → (steps : List Step)
    → steps ≡ [] → (lines : List Line) → lines ≡ [] → AreProofLines P n steps lines
no_lines P n state r steps none lines empty =
    subst (λ (l : List Step). AreProofLines P n l lines) (sym none) (record {
      needed = [];
      traces = record {
        at = run_at r;
        lists = record {
          ascending = λ k h. absurd (omega (arith, h));
          exact = λ j. (
            λ c. absurd (omega (arith, c.1)),
            λ h. absurd (none_needed r.run.entries h),
          );
        };
        traces = λ k x h. absurd (omega (arith, h));
      };
      are = empty;
    })
