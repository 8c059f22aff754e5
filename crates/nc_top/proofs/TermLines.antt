-- The terms of a representation, as the parts of one line, keep the rule of certificates.
-- Each term lies within the bound, whose degree is at most 80,000. A word has no more letters than
-- it weighs, so with the 255 letters of a generator's word a part does not reach beyond 100,000
-- (`part_is`).
use Rattle.nc_algebra.proofs.Degrees.{degree_within}
use Rattle.nc_algebra.proofs.Sums.{zero_by_same}
use Rattle.nc_algebra.proofs.Words.{length_at_most}
use Rattle.nc_algebra.specs.Alphabets.{IsPolynomialIn, IsWordIn}
use Rattle.nc_algebra.specs.Certificates.{AreLines, IsCertificate, IsPart, Part, element_lines, term_part}
use Rattle.nc_algebra.specs.Elements.{Element, IsIn, degree}
use Rattle.nc_algebra.specs.Lists.{Among}
use Rattle.nc_algebra.specs.Monomials.{Monomial, Sig, monomial_of, same_monomial}
use Rattle.nc_algebra.specs.Polynomials.{Polynomial}
use Rattle.nc_algebra.specs.Problems.{IsProblem, IsWithin, NamedProblem, bound_degree, setting_of}
use Rattle.nc_algebra.specs.Sums.{Term, coefficient_by}
use Rattle.nc_cofactor.proofs.Keys.{all_among, among_all}
use Rattle.nc_cofactor.proofs.Terms.{listed_counts}
use Rattle.nc_cofactor.specs.Sums.{IsSum}
use Rattle.nc_module.specs.Modules.{element_of}
use Rattle.nc_algebra.proofs.Generators.{generator_longest}
use Rattle.nc_theory.specs.Labels.{labels_of, step_multiples}
use Rattle.nc_theory.specs.Reductions.{Reduction}
use Rattle.nc_theory.specs.Runs.{SequentialRun}
use Rattle.nc_theory.specs.States.{State, Step}
use Rattle.nc_top.proofs.Claims.{terms_in}
use Rattle.std.proofs.Common.{List, Option, [], arith, map, sym, ℕ, ◌<◌, ◌∷◌, ◌≤◌}
use Rattle.std.proofs.lemmas.List.Elements.{All-from_recursion, recursion_from_All}
use Rattle.std.specs.List.{All, AllByRecursion}

module _ (P : NamedProblem) (is : IsProblem P) {n : ℕ} {run : State} {last : Option Monomial}
    (runs : SequentialRun P.problem n run last) (claim : Polynomial)
    (in_words : IsPolynomialIn P.alphabet P.problem.setting.prime claim) {rest : Polynomial}
    {steps : List Step} (reduces : Reduction P.problem.setting run.entries (IsWithin P.problem)
    claim rest steps) (m : List (Term Sig))
    (sum : IsSum P.problem.setting
    (step_multiples (labels_of P.problem.setting.prime run.entries) steps) m)
    (lies : IsIn P.problem.setting (element_of m) (IsWithin P.problem)) where
  abbrev multiples : Element
  multiples = step_multiples (labels_of P.problem.setting.prime run.entries) steps

  over : All (λ t. IsWordIn P.alphabet t.key.left) m × All (λ t. IsWordIn P.alphabet t.key.right) m
  over = terms_in P is runs claim in_words reduces m sum

  abbrev part_of : Term Sig → Part
  part_of t = term_part (record { coefficient = t.coefficient; key = monomial_of t.key })

  within : (t : Term Sig) → Among t m → IsWithin P.problem (monomial_of t.key)
  within t k =
      lies (monomial_of t.key)
      (λ z. listed_counts P.problem.setting multiples m sum t k
      (zero_by_same P.problem.setting.prime
      (coefficient_by same_monomial multiples (monomial_of t.key))
      (coefficient_by same_monomial (element_of m) (monomial_of t.key))
      (sym (sum.same.at (monomial_of t.key))) z))

  light : (t : Term Sig) → Among t m → degree P.problem.setting (monomial_of t.key) ≤ 80000
  light t k =
      let low : degree P.problem.setting (monomial_of t.key)
      ≤ bound_degree P.problem.setting P.problem.bound =
      degree_within P.problem.setting P.problem.bound (monomial_of t.key) (within t k).1 in
      omega (arith, low, is.limited)

  part_is : (t : Term Sig) → Among t m → IsPart (setting_of P) [] (part_of t)
  part_is t k = record {
    residue =
        all_among (λ (x : Term Sig). x.coefficient < P.problem.setting.prime) m
        (recursion_from_All (λ (x : Term Sig). x.coefficient < P.problem.setting.prime) m
        sum.residues) t k;
    factor = (within t k).0;
    left =
        all_among (λ (x : Term Sig). IsWordIn P.alphabet x.key.left) m
        (recursion_from_All (λ (x : Term Sig). IsWordIn P.alphabet x.key.left) m over.0) t k;
    right =
        all_among (λ (x : Term Sig). IsWordIn P.alphabet x.key.right) m
        (recursion_from_All (λ (x : Term Sig). IsWordIn P.alphabet x.key.right) m over.1) t k;
    short = omega (
      arith,
      light t k,
      length_at_most t.key.left,
      length_at_most t.key.right,
      generator_longest (setting_of P) t.key.generator is.setting (within t k).0,
    );
  }

  parts_are : (ts : List (Term Sig))
      → AllByRecursion (λ t. IsPart (setting_of P) [] (part_of t)) ts
      → AllByRecursion (IsPart (setting_of P) []) (map term_part (element_of ts))
  parts_are [] h = tt
  parts_are (t ∷ ts) h = (h.0, parts_are ts h.1)

  all_parts : All (IsPart (setting_of P) []) (map term_part (element_of m))
  all_parts =
      All-from_recursion (IsPart (setting_of P) []) (map term_part (element_of m))
      (parts_are m (among_all (λ t. IsPart (setting_of P) [] (part_of t)) m part_is))

  pub terms_keep : IsCertificate (record {
    setting = setting_of P;
    claim = claim;
    lines = element_lines (element_of m);
  })
  terms_keep = record {
    setting = is.setting;
    claim = in_words;
    lines = as_lines m all_parts;
  }
    where
      as_lines : (ts : List (Term Sig))
          → All (IsPart (setting_of P) []) (map term_part (element_of ts))
          → AreLines (setting_of P) [] (element_lines (element_of ts))
      as_lines [] h = tt
      as_lines (t ∷ ts) h = (h, tt)
