-- The lines of the needed entries, one after the other, and that of the claim behind them.
-- `IsBehind` is the invariant of going up: the lines so far have the right values and reaches. What
-- a trace names is needed too, so its line is there and earlier. `lines_prove`: all lines keep the
-- rule of certificates, and the claim is the value of the last one.
use Rattle.nc_algebra.proofs.Degrees.{degree_within}
use Rattle.nc_algebra.proofs.Primes.{field_from_prime}
use Rattle.nc_algebra.specs.Certificates.{AreLines, IsPart, Line, item, line_reach, line_value, part_reach, values_after}
use Rattle.nc_algebra.specs.Elements.{SamePolynomial, Setting, WordsAre, degree, generator}
use Rattle.nc_algebra.specs.Finite.{IsOver}
use Rattle.nc_algebra.specs.Alphabets.{IsPolynomialIn, IsWordIn}
use Rattle.nc_algebra.specs.Monomials.{Monomial}
use Rattle.nc_algebra.specs.Polynomials.{Polynomial, coefficient}
use Rattle.nc_algebra.specs.Primes.{IsField, IsPrime}
use Rattle.nc_algebra.specs.Problems.{IsProblem, IsWithin, NamedProblem, bound_degree, setting_of}
use Rattle.nc_algebra.specs.Settings.{IsSetting, NamedSetting}
use Rattle.nc_algebra.specs.Words.{Word}
use Rattle.nc_cofactor.proofs.Letters.{trace_over}
use Rattle.nc_cofactor.proofs.Named.{AreNamed, IsNamed, IsStartNamed, at_contains, contains_at, names_earlier, rebuilds_named}
use Rattle.nc_cofactor.specs.Claims.{ListsNeeded, numbers_of}
use Rattle.nc_cofactor.specs.Letters.{IsStartIn, IsTraceOver}
use Rattle.nc_cofactor.specs.Terms.{IsNeeded, Names, StartNames}
use Rattle.nc_cofactor.specs.Traces.{IsTraceIn}
use Rattle.nc_member.proofs.Places.{Ascends, ascends, item_before, item_last, line_at, stands_before}
use Rattle.nc_member.proofs.Reaches.{IsLight, IsReached, IsShort, generator_part, line_part, line_short}
use Rattle.nc_member.proofs.Values.{IsStartValued, IsValued, claim_value, trace_value}
use Rattle.nc_member.specs.Lines.{line_of_claim, line_of, start_part, step_part, trace_line}
use Rattle.nc_theory.proofs.OverAlphabet.{generator_over, polynomial_over, word_in}
use Rattle.nc_theory.specs.Named.{alphabet_letters}
use Rattle.nc_snapshot.specs.declared.outcome.Listed.TheVariants.{Entry as EntryOf}
use Rattle.nc_theory.proofs.Completeness.{invariant}
use Rattle.nc_theory.proofs.Letters.{StepOver, subtracted_over}
use Rattle.nc_theory.proofs.Rebuilding.{rebuilt}
use Rattle.nc_theory.specs.Rebuilding.{Rebuilds}
use Rattle.nc_theory.specs.Reductions.{Reduction}
use Rattle.nc_theory.specs.Runs.{SequentialRun}
use Rattle.nc_theory.specs.States.{Entry, Start, State, Step, Trace}
use Rattle.std.proofs.Common.{Contains, List, Option, Some, [], ap, append-nil, append_assoc, arith, inl, inr, length, length-append, map, refl, subst, suc, sym, ℕ, ◌%◌, ◌+◌, ◌++◌, ◌-◌, ◌<◌, ◌∙◌, ◌∷◌, ◌≡◌, ◌≤◌, ◌⊎◌}
use Rattle.std.proofs.Math.ListN.{get_or-map}
use Rattle.std.proofs.Math.Nat.{mod-lt}
use Rattle.std.proofs.lemmas.List.{get_or_append_left, get_or_at, length-map}
use Rattle.std.proofs.lemmas.List.Elements.{All-from_recursion, Contains-push_cases, recursion_from_All}
use Rattle.std.proofs.lemmas.Option.{slice_get_read}
use Rattle.std.specs.List.{All, AllByRecursion, slice_get}

-- ---- lists

-- what holds of each element
each_listed : {X : Type 0} (A : X → Type 0) (xs : List X) → ((x : X) → Contains xs x → A x)
    → AllByRecursion A xs
each_listed A [] h = tt
each_listed A (x ∷ xs) h =
    (h x (0, omega arith, refl), each_listed A xs (λ y c. h y (suc c.0, omega (arith, c.1), c.2)))

number_listed : (steps : List Step) (step : Step) → Contains steps step
    → Contains (numbers_of steps) step.number
number_listed steps step c = (
  c.0,
  omega (arith, c.1, length-map steps (λ (t : Step). t.number)),
  get_or-map (λ (t : Step). t.number) steps c.0 step ∙ ap (λ (t : Step). t.number) c.2,
)

contains_middle : {X : Type 0} (done : List X) (x : X) (later : List X)
    → Contains (done ++ x ∷ later) x
contains_middle done x later = (
  length done,
  omega (arith, length-append done (x ∷ later)),
  get_or_at done x later x (length done) refl,
)

-- ---- one line

-- what stands before a line: the lines of these entries
pub record IsBehind (s : Setting) (entries : List Entry) (needed done : List ℕ)
    (values : List Polynomial) (reaches : List ℕ) : Type 0 where
  pub many : length values ≡ length done
  pub long : length reaches ≡ length done
  pub valued : (j : ℕ) → Contains done j → IsValued s entries needed values j
  pub reached : (j : ℕ) → Contains done j → IsReached s entries needed reaches j

module _ (s : Setting) (entries : List Entry) (needed done : List ℕ) (values : List Polynomial)
    (reaches : List ℕ) (behind : IsBehind s entries needed done values reaches) (j : ℕ)
    (place : line_of needed j ≡ length done + 1) (value : Polynomial) (reach : ℕ)
    (same : (e : Entry) → slice_get entries (j - 1) ≡ Some e → SamePolynomial s value e.polynomial)
    (short : (e : Entry) → slice_get entries (j - 1) ≡ Some e → reach ≤ degree s e.signature + 255)
  where
    more_valued : (k : ℕ) → Contains done k ⊎ (j ≡ k)
        → IsValued s entries needed (values ++ value ∷ []) k
    more_valued k (inl c) =
        let old : IsReached s entries needed reaches k = behind.reached k c in
        record {
          same = λ e at. subst (λ (f : Polynomial). SamePolynomial s f e.polynomial)
              (sym (item_before [] values value (line_of needed k)
              (omega (arith, old.within, behind.many, behind.long))))
              ((behind.valued k c).same e at);
        }
    more_valued k (inr i) =
        subst (IsValued s entries needed (values ++ value ∷ [])) i
        (record {
          same = λ e at. subst (λ (f : Polynomial). SamePolynomial s f e.polynomial)
              (sym (item_last [] values value (line_of needed j)
              (omega (arith, place, behind.many))))
              (same e at);
        })

    more_reached : (k : ℕ) → Contains done k ⊎ (j ≡ k)
        → IsReached s entries needed (reaches ++ reach ∷ []) k
    more_reached k (inl c) =
        let old : IsReached s entries needed reaches k = behind.reached k c in
        record {
          some = old.some;
          within = omega (
            arith,
            old.within,
            length-append reaches (reach ∷ []),
          );
          short = λ e at. omega (
            arith,
            item_before 0 reaches reach (line_of needed k) old.within,
            old.short e at,
          );
        }
    more_reached k (inr i) =
        subst (IsReached s entries needed (reaches ++ reach ∷ [])) i
        (record {
          some = omega (arith, place);
          within = omega (arith, place, behind.long, length-append reaches (reach ∷ []));
          short = λ e at. omega (
            arith,
            item_last 0 reaches reach (line_of needed j)
                (omega (arith, place, behind.long)),
            short e at,
          );
        })

    behind_more : IsBehind s entries needed (done ++ j ∷ []) (values ++ value ∷ [])
        (reaches ++ reach ∷ [])
    behind_more = record {
      many = omega (
        arith,
        behind.many,
        length-append values (value ∷ []),
        length-append done (j ∷ []),
      );
      long = omega (
        arith,
        behind.long,
        length-append reaches (reach ∷ []),
        length-append done (j ∷ []),
      );
      valued = λ k c. more_valued k (Contains-push_cases done j k c);
      reached = λ k c. more_reached k (Contains-push_cases done j k c);
    }

-- ---- the parts of a line

module _ (s : NamedSetting) (is : IsSetting s) (one : 1 < s.setting.prime) (entries : List Entry)
    (needed reaches : List ℕ) (d : ℕ) (low : d ≤ 80000) where
  -- a step that may stand in a line
  abbrev IsReady : Step → Type 0
  IsReady step =
      (step.coefficient < s.setting.prime)
      × (IsWordIn s.alphabet step.left × IsWordIn s.alphabet step.right)
      × (IsLight s.setting entries d step.left step.number step.right
      × IsReached s.setting entries needed reaches step.number)

  step_parts : (sign : ℕ → ℕ) → ((c : ℕ) → c < s.setting.prime → sign c < s.setting.prime)
      → (steps : List Step) → AllByRecursion IsReady steps
      → AllByRecursion (IsShort s reaches (d + 255))
      (map (λ step. step_part needed (sign step.coefficient) step) steps)
  step_parts sign small [] a = tt
  step_parts sign small (step ∷ steps) a = (
    line_part s is entries needed reaches d low (sign step.coefficient) step.left step.number
        step.right (small step.coefficient a.0.0) a.0.1.0 a.0.1.1 a.0.2.0 a.0.2.1,
    step_parts sign small steps a.1,
  )

  light_named : (τ : Monomial) → degree s.setting τ ≡ d → (u : Word) (j : ℕ) (v : Word)
      → IsNamed s.setting entries τ u j v → IsLight s.setting entries d u j v
  light_named τ e u j v n = record { entry = n.entry; at = n.at; light = omega (arith, n.light, e) }

  start_parts : (τ : Monomial) → degree s.setting τ ≡ d → (start : Start)
      → IsStartNamed s.setting entries τ start → IsStartIn s.alphabet start
      → ((k : ℕ) → StartNames start k → IsReached s.setting entries needed reaches k)
      → IsShort s reaches (d + 255) (start_part needed start)
  start_parts τ e (Start.a_generator i) n o r = generator_part s is reaches d i one n low
  start_parts τ e (Start.a_multiple u j v) n o r =
      line_part s is entries needed reaches d low 1 u j v one o.0 o.1 (light_named τ e u j v n)
      (r j refl)

parts_are : (s : NamedSetting) (reaches : List ℕ) (n : ℕ) (line : Line)
    → AllByRecursion (IsShort s reaches n) line → AllByRecursion (IsPart s reaches) line
parts_are s reaches n [] a = tt
parts_are s reaches n (part ∷ line) a =
    let first : IsShort s reaches n part = a.0 in (first.is, parts_are s reaches n line a.1)

parts_short : (s : NamedSetting) (reaches : List ℕ) (n : ℕ) (line : Line)
    → AllByRecursion (IsShort s reaches n) line
    → AllByRecursion (λ part. part_reach s.setting reaches part ≤ n) line
parts_short s reaches n [] a = tt
parts_short s reaches n (part ∷ line) a =
    let first : IsShort s reaches n part = a.0 in (first.short, parts_short s reaches n line a.1)

-- ---- runs

module _ (P : NamedProblem) (is : IsProblem P) (prime : IsPrime P.problem.setting.prime) {n : ℕ}
    {run : State} {last : Option Monomial} (runs : SequentialRun P.problem n run last)
    (numbers needed : List ℕ) (lists : ListsNeeded run.entries numbers needed) where
  field : IsField P.problem.setting.prime
  field = field_from_prime P.problem.setting.prime prime

  positive : 0 < P.problem.setting.prime
  positive = omega (arith, field.above_one)

  negative_small : (c : ℕ) → c < P.problem.setting.prime
      → (P.problem.setting.prime - c) % P.problem.setting.prime < P.problem.setting.prime
  negative_small c h = mod-lt (P.problem.setting.prime - c) positive

  -- ---- the line of an entry

  pub record IsEntryLine (values : List Polynomial) (reaches : List ℕ) (e : Entry)
      (t : Trace) : Type 0 where
    pub value : SamePolynomial P.problem.setting
        (line_value P.problem.setting values (trace_line P.problem.setting.prime needed t))
        e.polynomial
    pub parts : AllByRecursion (IsShort (setting_of P) reaches
        (degree P.problem.setting e.signature + 255))
        (trace_line P.problem.setting.prime needed t)

  module _ (done later : List ℕ) (j : ℕ) (splits : needed ≡ done ++ j ∷ later)
      (values : List Polynomial) (reaches : List ℕ)
      (behind : IsBehind P.problem.setting run.entries needed done values reaches) (e : Entry)
      (some : 1 ≤ j) (at : slice_get run.entries (j - 1) ≡ Some e) where
    ordered : Ascends (done ++ j ∷ later)
    ordered = subst Ascends splits (ascends needed lists.ascending)

    -- what the entry names stands before it
    before : (k : ℕ) → Names e.trace k → Contains done k
    before k m =
        let here : IsNeeded run.entries (Contains numbers) j =
        (lists.exact j).0 (subst (λ (l : List ℕ). Contains l j) (sym splits)
        (contains_middle done j later)) in
        let there : Contains needed k = (lists.exact k).1 (IsNeeded.through here e at m) in
        stands_before done j later k ordered (subst (λ (l : List ℕ). Contains l k) splits there)
        (names_earlier P.problem field runs j k e some at m).1

    listed : Contains run.entries e
    listed = contains_at run.entries (j - 1) e at

    again : Rebuilds P.problem.setting run.entries e.signature e.trace e.polynomial
    again = (rebuilt P.problem field runs).entries e listed

    named : AreNamed P.problem.setting run.entries e.signature e.trace
    named = rebuilds_named P.problem.setting run.entries e.signature e.trace e.polynomial
        ((invariant P.problem field runs).within e listed).0 again

    over : IsTraceOver P.alphabet e.trace
    over = trace_over P is prime runs (EntryOf j) e.trace (e, some, at, refl)

    low : degree P.problem.setting e.signature ≤ 80000
    low = omega (
      arith,
      degree_within P.problem.setting P.problem.bound e.signature
          ((invariant P.problem field runs).within e listed).1,
      is.limited,
    )

    first_at : (x : Entry) (c : Contains again.first x)
        → slice_get run.entries (c.0 + 1 - 1) ≡ Some x
    first_at x c =
        let within : c.0 < length (again.first ++ again.rest) =
        omega (arith, c.1, length-append again.first again.rest) in
        subst (λ (l : List Entry). slice_get l (c.0 + 1 - 1) ≡ Some x) (sym again.splits)
        (subst (λ i. slice_get (again.first ++ again.rest) i ≡ Some x) (omega arith)
        (slice_get_read (again.first ++ again.rest) (length (again.first ++ again.rest)) c.0 x refl
        within (sym (get_or_append_left again.first again.rest x c.0 c.1 ∙ c.2))))

    start_valued : (start : Start) → ((k : ℕ) → StartNames start k → Contains done k)
        → IsStartValued P.problem.setting run.entries needed values start
    start_valued (Start.a_generator i) h = tt
    start_valued (Start.a_multiple u k v) h = behind.valued k (h k refl)

    steps_ready : AllByRecursion (IsReady (setting_of P) is.setting field.above_one run.entries
        needed reaches (degree P.problem.setting e.signature) low) e.trace.steps
    steps_ready =
        each_listed (IsReady (setting_of P) is.setting field.above_one run.entries needed reaches
        (degree P.problem.setting e.signature) low) e.trace.steps (λ step c. (
          subst (λ (t : Step). t.coefficient < P.problem.setting.prime) c.2
              (All-from_recursion (λ (t : Step). t.coefficient < P.problem.setting.prime)
              e.trace.steps
              named.residues c.0 step c.1),
          (
            subst (λ (t : Step). IsWordIn P.alphabet t.left) c.2 (over.left c.0 step c.1),
            subst (λ (t : Step). IsWordIn P.alphabet t.right) c.2 (over.right c.0 step c.1),
          ),
          (
            light_named (setting_of P) is.setting field.above_one run.entries needed reaches
                (degree P.problem.setting e.signature) low e.signature refl step.left step.number
                step.right (subst (λ (t : Step). IsNamed P.problem.setting run.entries e.signature
                t.left t.number t.right) c.2 (All-from_recursion
                (λ (t : Step). IsNamed P.problem.setting run.entries e.signature t.left t.number
                t.right) e.trace.steps named.steps c.0 step c.1)),
            behind.reached step.number (before step.number (inr (step, c, refl))),
          ),
        ))

    own_line : IsEntryLine values reaches e e.trace
    own_line = record {
      value = trace_value P.problem.setting positive run.entries needed values again.first first_at
          e.signature again.starts again.reduces named.residues
          (start_valued e.trace.start (λ k m. before k (inl m)))
          (each_listed (λ step. IsValued P.problem.setting run.entries needed values step.number)
          e.trace.steps (λ step c. behind.valued step.number
          (before step.number (inr (step, c, refl)))));
      parts = (
        start_parts (setting_of P) is.setting field.above_one run.entries needed reaches
            (degree P.problem.setting e.signature) low e.signature refl e.trace.start named.start
            over.start (λ k m. behind.reached k (before k (inl m))),
        step_parts (setting_of P) is.setting field.above_one run.entries needed reaches
            (degree P.problem.setting e.signature) low
            (λ c. (P.problem.setting.prime - c) % P.problem.setting.prime) negative_small
            e.trace.steps steps_ready,
      );
    }

    entry_line : (t : Trace) → e.trace ≡ t → IsEntryLine values reaches e t
    entry_line t i = subst (IsEntryLine values reaches e) i own_line

  -- ---- the line of the claim

  module _ (f : Polynomial) (steps : List Step)
      (reduces : Reduction P.problem.setting run.entries (IsWithin P.problem) f [] steps) where
    itself_at : (x : Entry) (c : Contains run.entries x)
        → slice_get run.entries (c.0 + 1 - 1) ≡ Some x
    itself_at x c =
        subst (λ i. slice_get run.entries i ≡ Some x) (omega arith) (at_contains run.entries x c)

    claim_residues : {g kept : Polynomial} {list : List Step}
        → Reduction P.problem.setting run.entries (IsWithin P.problem) g kept list
        → AllByRecursion (λ step. step.coefficient < P.problem.setting.prime) list
    claim_residues (Reduction.finished z) = tt
    claim_residues (Reduction.subtract w l d chosen c small q rest) = (small, claim_residues rest)
    claim_residues (Reduction.keep w l none c e rest) = claim_residues rest

    claim_lights : {g kept : Polynomial} {list : List Step}
        → Reduction P.problem.setting run.entries (IsWithin P.problem) g kept list
        → AllByRecursion (λ step. IsLight P.problem.setting run.entries
        (bound_degree P.problem.setting P.problem.bound) step.left step.number step.right) list
    claim_lights (Reduction.finished z) = tt
    claim_lights (Reduction.subtract w l d chosen c small q rest) = (
      record {
        entry = d.entry;
        at = itself_at d.entry d.listed;
        light = degree_within P.problem.setting P.problem.bound _ chosen.allowed.1;
      },
      claim_lights rest,
    )
    claim_lights (Reduction.keep w l none c e rest) = claim_lights rest

    claim_listed : numbers ≡ numbers_of steps → (step : Step) → Contains steps step
        → Contains needed step.number
    claim_listed e step c =
        (lists.exact step.number).1 (IsNeeded.given
        (subst (λ (l : List ℕ). Contains l step.number) (sym e) (number_listed steps step c)))

    module _ (given : numbers ≡ numbers_of steps)
        (in_it : IsPolynomialIn P.alphabet P.problem.setting.prime f) where
      inputs : (i : ℕ) → WordsAre P.problem.setting (IsOver (alphabet_letters P.alphabet))
          (generator P.problem.setting i)
      inputs = generator_over (setting_of P) is.setting

      claim_sides : AllByRecursion (StepOver (alphabet_letters P.alphabet)) steps
      claim_sides =
          subtracted_over P.problem field (alphabet_letters P.alphabet) inputs runs
          (IsWithin P.problem) reduces (polynomial_over P.alphabet P.problem.setting f in_it.words)

      -- the lines behind which it stands are those of all needed entries
      module _ (values : List Polynomial) (reaches : List ℕ)
          (behind : IsBehind P.problem.setting run.entries needed needed values reaches) where
        claim_ready : AllByRecursion (IsReady (setting_of P) is.setting field.above_one run.entries
            needed reaches (bound_degree P.problem.setting P.problem.bound) is.limited) steps
        claim_ready =
            each_listed (IsReady (setting_of P) is.setting field.above_one run.entries needed
            reaches (bound_degree P.problem.setting P.problem.bound) is.limited) steps (λ step c.
            let sides : StepOver (alphabet_letters P.alphabet) step =
            subst (StepOver (alphabet_letters P.alphabet)) c.2
            (All-from_recursion (StepOver (alphabet_letters P.alphabet)) steps claim_sides c.0
            step c.1) in (
              subst (λ (t : Step). t.coefficient < P.problem.setting.prime) c.2
                  (All-from_recursion (λ (t : Step). t.coefficient < P.problem.setting.prime) steps
                  (claim_residues reduces) c.0 step c.1),
              (word_in P.alphabet step.left sides.0, word_in P.alphabet step.right sides.1),
              (
                subst (λ (t : Step). IsLight P.problem.setting run.entries
                    (bound_degree P.problem.setting P.problem.bound) t.left t.number t.right) c.2
                    (All-from_recursion (λ (t : Step). IsLight P.problem.setting run.entries
                    (bound_degree P.problem.setting P.problem.bound) t.left t.number t.right)
                    steps (claim_lights reduces) c.0 step c.1),
                behind.reached step.number (claim_listed given step c),
              ),
            ))

        claim_parts : AllByRecursion (IsPart (setting_of P) reaches) (line_of_claim needed steps)
        claim_parts =
            parts_are (setting_of P) reaches (bound_degree P.problem.setting P.problem.bound + 255)
            (line_of_claim needed steps) (step_parts (setting_of P) is.setting field.above_one
            run.entries needed reaches (bound_degree P.problem.setting P.problem.bound) is.limited
            (λ c. c) (λ c h. h) steps claim_ready)

        claim_same : SamePolynomial P.problem.setting
            (line_value P.problem.setting values (line_of_claim needed steps)) f
        claim_same =
            record {
              at = λ y. ap (λ m. m % P.problem.setting.prime)
                  (no_more (coefficient (line_value P.problem.setting values
                  (line_of_claim needed steps)) y))
                  ∙ sym (claim_value P.problem.setting positive run.entries needed values
                  run.entries
                  itself_at (IsWithin P.problem) reduces
                  (each_listed (λ step. IsValued P.problem.setting run.entries needed values
                  step.number) steps (λ step c. behind.valued step.number
                  (claim_listed given step c))) y);
            }
          where
            no_more : (m : ℕ) → m ≡ m + 0
            no_more m = omega arith

      -- ---- all of them

      abbrev entry_lines : List (ℕ × Trace) → List Line
      entry_lines rest = map (λ x. trace_line P.problem.setting.prime needed x.1) rest

      pub record IsDone (values : List Polynomial) (reaches : List ℕ) (lines : List Line)
          (count : ℕ) : Type 0 where
        pub value : SamePolynomial P.problem.setting
            (item [] (values_after P.problem.setting values lines) count) f
        pub keeps : AreLines (setting_of P) reaches lines

      all_lines : (values : List Polynomial) (reaches : List ℕ) (done : List ℕ)
          (rest : List (ℕ × Trace)) → needed ≡ done ++ map (λ x. x.0) rest
          → IsBehind P.problem.setting run.entries needed done values reaches
          → AllByRecursion (λ x. IsTraceIn run (EntryOf x.0) x.1) rest
          → IsDone values reaches (entry_lines rest ++ (line_of_claim needed steps ∷ []))
          (length values + (length rest + 1))
      unfolding values_after
      all_lines values reaches done [] e behind a =
          let here : IsBehind P.problem.setting run.entries needed needed values reaches =
          subst (λ (l : List ℕ). IsBehind P.problem.setting run.entries needed l values reaches)
          (sym (append-nil done) ∙ sym e) behind in
          record {
            value = subst (λ (g : Polynomial). SamePolynomial P.problem.setting g f)
                (sym (item_last [] values (line_value P.problem.setting values
                (line_of_claim needed steps)) (length values + (0 + 1)) (omega arith)))
                (claim_same values reaches here);
            keeps = (
              All-from_recursion (IsPart (setting_of P) reaches) (line_of_claim needed steps)
                  (claim_parts values reaches here),
              tt,
            );
          }
      all_lines values reaches done (x ∷ rest) e behind a =
          go (λ more far before splits stands. all_lines more far before rest splits stands a.1) a.0
        where
          line : Line
          line = trace_line P.problem.setting.prime needed x.1

          value : Polynomial
          value = line_value P.problem.setting values line

          reach : ℕ
          reach = line_reach P.problem.setting reaches line

          go : ((more : List Polynomial) (far before : List ℕ)
              → needed ≡ before ++ map (λ y. y.0) rest
              → IsBehind P.problem.setting run.entries needed before more far
              → IsDone more far (entry_lines rest ++ (line_of_claim needed steps ∷ []))
              (length more + (length rest + 1))) → IsTraceIn run (EntryOf x.0) x.1
              → IsDone values reaches (line ∷ (entry_lines rest
              ++ (line_of_claim needed steps ∷ []))) (length values + (length (x ∷ rest) + 1))
          go others (entry, some, at, i) =
              record {
                value = later.value;
                keeps = (
                  All-from_recursion
                      (IsPart (setting_of P) reaches) line
                      (parts_are (setting_of P) reaches
                      (degree P.problem.setting entry.signature + 255)
                      line own.parts),
                  later.keeps,
                );
              }
            where
              own : IsEntryLine values reaches entry x.1
              own = entry_line done (map (λ y. y.0) rest) x.0 e values reaches behind entry some at
                  x.1 i

              one_entry : (y : Entry) → slice_get run.entries (x.0 - 1) ≡ Some y → entry ≡ y
              one_entry y there = let both : Some entry ≡ Some y = sym at ∙ there in cc

              next : IsBehind P.problem.setting run.entries needed (done ++ x.0 ∷ [])
                  (values ++ value ∷ []) (reaches ++ reach ∷ [])
              next = behind_more P.problem.setting run.entries needed done values reaches behind x.0
                  (ap (λ (l : List ℕ). line_of l x.0) e ∙ line_at done x.0 (map (λ y. y.0) rest)
                  (subst Ascends e (ascends needed lists.ascending))) value reach
                  (λ y there. subst (λ (z : Entry). SamePolynomial P.problem.setting value
                  z.polynomial) (one_entry y there) own.value)
                  (λ y there. subst (λ (z : Entry). reach ≤ degree P.problem.setting z.signature
                  + 255) (one_entry y there) (line_short P.problem.setting reaches
                  (degree P.problem.setting entry.signature + 255) line
                  (parts_short (setting_of P) reaches
                  (degree P.problem.setting entry.signature + 255) line own.parts)))

              later : IsDone (values ++ value ∷ []) (reaches ++ reach ∷ [])
                  (entry_lines rest ++ (line_of_claim needed steps ∷ []))
                  (length values + (length (x ∷ rest) + 1))
              later = subst (IsDone (values ++ value ∷ []) (reaches ++ reach ∷ [])
                  (entry_lines rest ++ (line_of_claim needed steps ∷ [])))
                  (omega (arith, length-append values (value ∷ [])))
                  (others (values ++ value ∷ []) (reaches ++ reach ∷ []) (done ++ x.0 ∷ [])
                  (e ∙ sym (append_assoc done (x.0 ∷ []) (map (λ y. y.0) rest))) next)

      pub lines_prove : (traces : List (ℕ × Trace)) → needed ≡ map (λ x. x.0) traces
          → All (λ x. IsTraceIn run (EntryOf x.0) x.1) traces
          → IsDone [] [] (entry_lines traces ++ (line_of_claim needed steps ∷ []))
          (length (entry_lines traces ++ (line_of_claim needed steps ∷ [])))
      lines_prove traces e a =
          subst (IsDone [] [] (entry_lines traces ++ (line_of_claim needed steps ∷ [])))
          (omega (
            arith,
            length-append (entry_lines traces) (line_of_claim needed steps ∷ []),
            length-map traces (λ (x : ℕ × Trace). trace_line P.problem.setting.prime needed x.1),
          ))
          (all_lines [] [] [] traces e (record {
            many = refl;
            long = refl;
            valued = λ j c. absurd (omega (arith, c.1));
            reached = λ j c. absurd (omega (arith, c.1));
          })
          (recursion_from_All (λ x. IsTraceIn run (EntryOf x.0) x.1) traces a))
