-- What a trace sums up to, over labels that stand in their places, is the label of its item.
-- A listed monomial of a label has a coefficient, so its degree is at most that of the signature,
-- and multiples keep within the limits of words (`light`). `labelled` puts this together with the
-- sums of `Sums.antt`.
use Rattle.nc_algebra.proofs.Degrees.{degrees}
use Rattle.nc_algebra.proofs.Finite.{among_contains}
use Rattle.nc_algebra.proofs.Lists.{same-trans}
use Rattle.nc_algebra.proofs.Monomials.{degree-times, monomial_laws}
use Rattle.nc_algebra.proofs.Primes.{field_from_prime}
use Rattle.nc_algebra.proofs.Sums.{below_lead}
use Rattle.nc_algebra.specs.Elements.{Element, HasDegree, IsLabelled, IsLess, Setting, degree, generator_weight}
use Rattle.nc_algebra.specs.Lists.{Among}
use Rattle.nc_algebra.specs.Monomials.{Monomial, Sig, monomial_of, same_monomial}
use Rattle.nc_algebra.specs.Primes.{IsField}
use Rattle.nc_algebra.specs.Problems.{IsProblem, IsWithin, NamedProblem}
use Rattle.nc_algebra.specs.Sums.{SameSum, Term}
use Rattle.nc_algebra.specs.Words.{Word, word_weight}
use Rattle.nc_cofactor.proofs.Keys.{all_among, among_all}
use Rattle.nc_cofactor.proofs.Listing.{alike_label, alike_multiples, label_by_trace}
use Rattle.nc_cofactor.proofs.Named.{AreLight, IsLight, IsNamed, IsSigned, IsStartNamed, contains_at, named_light, names_earlier, signed}
use Rattle.nc_cofactor.proofs.Terms.{listed_counts}
use Rattle.nc_cofactor.specs.Labels.{IsLabelOf}
use Rattle.nc_cofactor.specs.Needed.{StepsName}
use Rattle.nc_cofactor.specs.Sums.{AreSummable, IsAddable, IsPlaced, IsStartPlaced, IsSum, IsSummable, IsTraceSum, elements_of}
use Rattle.nc_cofactor.specs.Terms.{Names, StartNames}
use Rattle.nc_cofactor.specs.Traces.{IsTraceIn}
use Rattle.nc_field.proofs.Primes.{listed_is_prime}
use Rattle.nc_module.specs.Modules.{element_of}
use Rattle.nc_snapshot.specs.declared.outcome.Listed.{Listed}
use Rattle.nc_snapshot.specs.declared.outcome.Listed.TheVariants.{Claim, Entry as EntryOf, Syzygy as SyzygyOf}
use Rattle.nc_theory.proofs.Traces.{labels_hold}
use Rattle.nc_theory.specs.Labels.{label_at, labels_of, step_multiples, trace_label}
use Rattle.nc_theory.specs.Runs.{SequentialRun}
use Rattle.nc_theory.specs.States.{Entry, Start, State, Step, Trace}
use Rattle.std.proofs.Common.{List, Option, Some, [], ap, arith, get_or, inl, inr, length, refl, subst, sym, ℕ, ◌+◌, ◌-◌, ◌<◌, ◌∙◌, ◌≡◌, ◌≤◌, ◌⊎◌}
use Rattle.std.proofs.Math.ListN.{get_or-map}
use Rattle.std.proofs.lemmas.List.Elements.{All-from_recursion, recursion_from_All}
use Rattle.std.proofs.lemmas.Option.{get_or_from_slice_get, slice_get_within}
use Rattle.std.specs.List.{slice_get}

pub problem_field : (P : NamedProblem) → IsProblem P → IsField P.problem.setting.prime
problem_field P is =
    field_from_prime P.problem.setting.prime
    (listed_is_prime P.problem.setting.prime is.setting.prime)

-- a label is a sum in normal form
pub label_sum : (s : Setting) (run : State) (listed : Listed) (m : List (Term Sig))
    (l : IsLabelOf s run listed m) → IsSum s l.label m
label_sum s run listed m l =
    record { same = l.same; descends = l.descends; residues = l.residues; degrees = l.degrees }

-- the label of entry j stands in place j
pub record StandsAt (s : Setting) (run : State) (labels : List (List (Term Sig))) (j : ℕ) : Type 0
  where
    pub label : List (Term Sig)
    pub at : slice_get labels (j - 1) ≡ Some label
    pub is : IsLabelOf s run (EntryOf j) label

module _ (P : NamedProblem) (problem : IsProblem P) {n : ℕ} {run : State} {last : Option Monomial}
    (runs : SequentialRun P.problem n run last) (labels : List (List (Term Sig))) where
  labelled_at : (j : ℕ) (e : Entry) → 1 ≤ j → slice_get run.entries (j - 1) ≡ Some e
      → IsLabelled P.problem.setting e.signature e.polynomial
      (label_at (labels_of P.problem.setting.prime run.entries) j)
  labelled_at j e some at =
      subst (λ i. IsLabelled P.problem.setting e.signature e.polynomial
      (label_at (labels_of P.problem.setting.prime run.entries) i)) (omega arith)
      ((labels_hold P.problem (problem_field P problem) runs).entries e
      (contains_at run.entries (j - 1) e at))

  -- the monomials of a label have at most the degree of its signature
  light : (u : Word) (j : ℕ) (v : Word) → IsLight P.problem run.entries u j v
      → (m : List (Term Sig)) → IsLabelOf P.problem.setting run (EntryOf j) m → (t : Term Sig)
      → Among t m → t.key.degree ≡ degree P.problem.setting (monomial_of t.key)
      → word_weight u + t.key.degree + word_weight v ≤ 100000
  light u j v n m l t k has =
      let σ : Monomial = n.entry.signature in
      let below : (monomial_of t.key ≡ σ) ⊎ IsLess P.problem.setting (monomial_of t.key) σ =
      below_lead same_monomial (IsLess P.problem.setting)
      (monomial_laws (generator_weight P.problem.setting)) P.problem.setting.prime l.label σ
      (monomial_of t.key)
      (subst (λ (α : Element). IsLabelled P.problem.setting σ n.entry.polynomial α) (sym l.is.2)
      (labelled_at j n.entry n.some n.at)).leads
      (listed_counts P.problem.setting l.label m (label_sum P.problem.setting run (EntryOf j) m l) t
      k) in
      let low : degree P.problem.setting (monomial_of t.key) ≤ degree P.problem.setting σ =
      degrees P.problem.setting (monomial_of t.key) σ below in
      omega (
        arith,
        has,
        low,
        degree-times (generator_weight P.problem.setting) u v σ,
        n.light,
        problem.limited,
      )

  placed : (u : Word) (j : ℕ) (v : Word) → IsLight P.problem run.entries u j v
      → StandsAt P.problem.setting run labels j → IsPlaced P.problem.setting labels u j v
  placed u j v n stands =
      let m : List (Term Sig) = stands.label in
      let here : m ≡ get_or labels (j - 1) [] =
      sym (get_or_from_slice_get labels (j - 1) m [] stands.at) in
      let there : j - 1 < length labels = slice_get_within labels (j - 1) m stands.at in
      record {
        some = n.some;
        within = omega (arith, there, n.some);
        addable = subst (λ (l : List (Term Sig)). IsAddable P.problem.setting u l v) here (record {
          residues = stands.is.residues;
          degrees = stands.is.degrees;
          light = All-from_recursion (λ (t : Term Sig). word_weight u + t.key.degree + word_weight v
              ≤ 100000) m (among_all (λ (t : Term Sig). word_weight u + t.key.degree
              + word_weight v ≤ 100000) m (λ t k. light u j v n m stands.is t k
              (degree_is t k)));
        });
      }
    where
      degree_is : (t : Term Sig) → Among t stands.label
          → t.key.degree ≡ degree P.problem.setting (monomial_of t.key)
      degree_is t k =
          ap (λ (ρ : Sig). ρ.degree) (all_among
          (λ (t : Term Sig). HasDegree P.problem.setting t.key) stands.label
          (recursion_from_All (λ (t : Term Sig). HasDegree P.problem.setting t.key) stands.label
          stands.is.degrees) t k)

  start_placed : (τ : Monomial) (start : Start) → IsWithin P.problem τ
      → IsStartNamed P.problem.setting run.entries τ start
      → ((j : ℕ) → StartNames start j → StandsAt P.problem.setting run labels j)
      → IsStartPlaced P.problem.setting labels start
  start_placed τ (Start.a_generator i) within n stands = n
  start_placed τ (Start.a_multiple u j v) within n stands =
      placed u j v (named_light P.problem run.entries τ u j v within n) (stands j refl)

  -- light multiples can be added up
  pub addable_steps : (steps : List Step) → AreLight P.problem run.entries steps
      → ((j : ℕ) → StepsName steps j → StandsAt P.problem.setting run labels j)
      → AreSummable P.problem.setting labels steps
  addable_steps steps are stands = record {
    residues =
        All-from_recursion (λ (step : Step). step.coefficient < P.problem.setting.prime) steps
        are.residues;
    placed =
        All-from_recursion (λ (step : Step). IsPlaced P.problem.setting labels step.left step.number
        step.right) steps (among_all (λ (step : Step). IsPlaced P.problem.setting labels step.left
        step.number step.right) steps (λ step k. placed step.left step.number step.right
        (all_among (λ (step : Step). IsLight P.problem run.entries step.left step.number
        step.right) steps are.light step k)
        (stands step.number (step, among_contains step steps k, refl))));
  }

  -- the trace can be summed up
  pub summable : (listed : Listed) (t : Trace) → IsTraceIn run listed t
      → ((j : ℕ) → Names t j → StandsAt P.problem.setting run labels j)
      → IsSummable P.problem.setting labels t
  summable listed t is stands =
      let g : IsSigned P.problem run listed t =
      signed P.problem (problem_field P problem) runs listed t is in
      let are : AreLight P.problem run.entries t.steps =
      record {
        residues = g.named.residues;
        light = among_all (λ (step : Step). IsLight P.problem run.entries step.left step.number
            step.right) t.steps (λ step k. named_light P.problem run.entries g.signature step.left
            step.number step.right g.within
            (all_among (λ (step : Step). IsNamed P.problem.setting run.entries g.signature
            step.left step.number step.right) t.steps g.named.steps step k));
      } in
      let all : AreSummable P.problem.setting labels t.steps =
      addable_steps t.steps are (λ j k. stands j (inr k)) in
      record {
        start = start_placed g.signature t.start g.within g.named.start
            (λ j k. stands j (inl k));
        residues = all.residues;
        steps = all.placed;
      }

  -- what stands there is the label of the theory
  alike : (j : ℕ) → StandsAt P.problem.setting run labels j
      → SameSum same_monomial P.problem.setting.prime (label_at (elements_of labels) j)
      (label_at (labels_of P.problem.setting.prime run.entries) j)
  alike j stands =
      let here : label_at (elements_of labels) j ≡ element_of stands.label =
      get_or-map element_of labels (j - 1) []
      ∙ ap element_of (get_or_from_slice_get labels (j - 1) stands.label [] stands.at) in
      subst (λ (α : Element). SameSum same_monomial P.problem.setting.prime
      (label_at (elements_of labels) j) α) stands.is.is.2
      (subst (λ (α : Element). SameSum same_monomial P.problem.setting.prime α stands.is.label)
      (sym here) stands.is.same)

  whole : (t : Trace) (m : List (Term Sig))
      → ((j : ℕ) → Names t j → StandsAt P.problem.setting run labels j)
      → IsTraceSum P.problem.setting labels t m
      → SameSum same_monomial P.problem.setting.prime (element_of m)
      (trace_label P.problem.setting.prime (labels_of P.problem.setting.prime run.entries) t)
  whole t m stands sum =
      same-trans same_monomial P.problem.setting.prime (element_of m)
      (trace_label P.problem.setting.prime (elements_of labels) t)
      (trace_label P.problem.setting.prime (labels_of P.problem.setting.prime run.entries) t)
      sum.same
      (alike_label P.problem.setting.prime
      (let one : 1 < P.problem.setting.prime = (problem_field P problem).above_one in
      omega arith) (elements_of labels) (labels_of P.problem.setting.prime run.entries) t
      (λ j k. alike j (stands j k)))

  -- the sum of multiples is that of the theory
  pub steps_whole : (steps : List Step) (m : List (Term Sig))
      → ((j : ℕ) → StepsName steps j → StandsAt P.problem.setting run labels j)
      → IsSum P.problem.setting (step_multiples (elements_of labels) steps) m
      → IsSum P.problem.setting (step_multiples (labels_of P.problem.setting.prime run.entries)
      steps) m
  steps_whole steps m stands sum = record {
    same =
        same-trans same_monomial P.problem.setting.prime (element_of m)
        (step_multiples (elements_of labels) steps)
        (step_multiples (labels_of P.problem.setting.prime run.entries) steps) sum.same
        (alike_multiples P.problem.setting.prime
        (let one : 1 < P.problem.setting.prime = (problem_field P problem).above_one in
        omega arith) (elements_of labels) (labels_of P.problem.setting.prime run.entries)
        steps
        (among_all (λ (t : Step). SameSum same_monomial P.problem.setting.prime
        (label_at (elements_of labels) t.number)
        (label_at (labels_of P.problem.setting.prime run.entries) t.number)) steps
        (λ step k. alike step.number (stands step.number (
          step,
          among_contains step steps k,
          refl,
        )))));
    descends = sum.descends;
    residues = sum.residues;
    degrees = sum.degrees;
  }

  -- and the sum is the label
  pub labelled : (listed : Listed) (t : Trace) (m : List (Term Sig)) → IsTraceIn run listed t
      → ((j : ℕ) → Names t j → StandsAt P.problem.setting run labels j)
      → IsTraceSum P.problem.setting labels t m → IsLabelOf P.problem.setting run listed m
  labelled (EntryOf k) t m (e, some, at, is) stands sum =
      let by : label_at (labels_of P.problem.setting.prime run.entries) k ≡ trace_label
      P.problem.setting.prime (labels_of P.problem.setting.prime run.entries) t =
      label_by_trace P.problem.setting.prime run.entries k e some at
      (λ j h. names_earlier P.problem (problem_field P problem) runs k j e some at h)
      ∙ ap (λ (x : Trace). trace_label P.problem.setting.prime
      (labels_of P.problem.setting.prime run.entries) x) is in
      let there : k - 1 < length run.entries = slice_get_within run.entries (k - 1) e at in
      record {
        label = label_at (labels_of P.problem.setting.prime run.entries) k;
        is = (some, omega (arith, there, some), refl);
        same = subst (λ (α : Element). SameSum same_monomial P.problem.setting.prime (element_of m)
            α) (sym by) (whole t m stands sum);
        descends = sum.descends;
        residues = sum.residues;
        degrees = sum.degrees;
      }
  labelled (SyzygyOf k) t m is stands sum = record {
    label = trace_label P.problem.setting.prime (labels_of P.problem.setting.prime run.entries) t;
    is = (t, is, refl);
    same = whole t m stands sum;
    descends = sum.descends;
    residues = sum.residues;
    degrees = sum.degrees;
  }
  labelled Claim t m is stands sum = absurd is
