-- The claim of a problem text, and the letters of what is left of it, of its representation and of
-- the lines that prove it.
use Rattle.nc_algebra.proofs.Alphabets.{text_word_light}
use Rattle.nc_algebra.specs.Alphabets.{Alphabet, IsPolynomialIn, IsTextPolynomial, IsTextWord, IsWordIn}
use Rattle.nc_algebra.specs.Elements.{IsZeroPolynomial, WordsAre, generator}
use Rattle.nc_algebra.specs.Finite.{IsOver}
use Rattle.nc_algebra.specs.Monomials.{Monomial, Sig}
use Rattle.nc_algebra.specs.Polynomials.{Polynomial}
use Rattle.nc_algebra.specs.Primes.{IsField}
use Rattle.nc_algebra.specs.Problems.{IsProblem, IsWithin, NamedProblem, setting_of}
use Rattle.nc_algebra.specs.Sums.{Term}
use Rattle.nc_algebra.specs.Words.{Letter, word_weight}
use Rattle.nc_cofactor.proofs.Letters.{sum_over}
use Rattle.nc_cofactor.specs.Sums.{IsSum}
use Rattle.nc_theory.proofs.Normal.{kept_normal}
use Rattle.nc_theory.proofs.OverAlphabet.{generator_over, polynomial_in, polynomial_over}
use Rattle.nc_theory.specs.Named.{alphabet_letters}
use Rattle.nc_text.proofs.ReadCertificates.{claim_line_reads, setting_lines_read}
use Rattle.nc_text.specs.Certificates.{claim_line}
use Rattle.nc_text.specs.Problems.{ProblemText, bound_line, problem_at, steps_line, wanted_claim}
use Rattle.nc_text.specs.Settings.{setting_lines}
use Rattle.nc_theory.proofs.Completeness.{invariant}
use Rattle.nc_theory.proofs.Letters.{multiples_over}
use Rattle.nc_theory.proofs.Steps.{reduction_over, run_over}
use Rattle.nc_theory.specs.Labels.{labels_of, step_multiples}
use Rattle.nc_theory.specs.Reductions.{Reduction}
use Rattle.nc_theory.specs.Runs.{SequentialRun}
use Rattle.nc_theory.specs.States.{Entry, State, Step}
use Rattle.nc_tokens.proofs.Steps.{on_any, on_bind}
use Rattle.nc_tokens.specs.Lines.{Written, lines, the_end, written}
use Rattle.nc_tokens.specs.declared.fault.TextFault.{TextFault}
use Rattle.nc_field.proofs.Primes.{listed_is_prime}
use Rattle.nc_top.proofs.BasisAnswers.{field_of}
use Rattle.nc_report.proofs.Letters.{IsNamed, named, words_named}
use Rattle.nc_top.specs.Member.{IsClaimText, reads_claim}
use Rattle.nc_text.proofs.ReadProblems.{reads_problems}
use Rattle.std.proofs.Common.{All, Contains, IfOk, List, None, Ok, Option, Result, Some, arith, length, refl, subst, sym, true, ℕ, ◌<◌, ◌∙◌, ◌≡◌, ◌≤◌}
use Rattle.std.proofs.lemmas.List.Elements.{All-weaker}

-- ---- what is read

-- a claim that may stand in a text
abbrev IsClaimOf : ProblemText → Polynomial → Type 0
IsClaimOf t f =
    (t.claim ≡ Some f) × IsTextPolynomial t.problem.alphabet t.problem.problem.setting.prime f

wanted_reads : (p : ℕ) (a : Alphabet) (w : Written) → 0 < p
    → IfOk (wanted_claim p a w) (λ x. (f : Polynomial) × (x.0 ≡ Some f) × IsTextPolynomial a p f)
unfolding wanted_claim
wanted_reads p a w some =
    on_bind _ _ (claim_line p a w) _ (claim_line_reads p a w some)
    (λ claim text. (claim.0, refl, text))

claim_reads : (w : Written) → IfOk (problem_at true w) (λ t. (f : Polynomial) × IsClaimOf t f)
unfolding problem_at
claim_reads w =
    on_bind _ _ (setting_lines w) _ (setting_lines_read w) (λ setting is.
    on_bind _ _ (bound_line setting.0.alphabet (length setting.0.setting.generators) setting.1) _
    (on_any (bound_line setting.0.alphabet (length setting.0.setting.generators) setting.1))
    (λ bound _.
    on_bind _ _ (steps_line bound.1) _ (on_any (steps_line bound.1)) (λ steps _.
    on_bind _ _ (wanted_claim setting.0.setting.prime setting.0.alphabet steps.1) _
    (wanted_reads setting.0.setting.prime setting.0.alphabet steps.1
    (omega (arith, (listed_is_prime setting.0.setting.prime is.prime).above_one))) (λ claim h.
    on_bind _ _ (the_end claim.1) _ (on_any (the_end claim.1)) (λ _ _. (h.0, (h.1, h.2)))))))

-- what is read has a claim
pub has_claim : (bytes : List ℕ) (t : ProblemText) → reads_claim bytes ≡ Ok t → (f : Polynomial)
    × IsClaimOf t f
has_claim bytes t read =
    subst (λ (r : Result ProblemText TextFault). IfOk r (λ x. (f : Polynomial) × IsClaimOf x f))
    read (claim_reads (written 1 (lines bytes)))

pub never_without : (bytes : List ℕ) (t : ProblemText) → reads_claim bytes ≡ Ok t → t.claim ≡ None
    → ⊥
never_without bytes t read none =
    let c = has_claim bytes t read in let clash : None ≡ Some c.0 = sym none ∙ c.1.0 in absurd cc

module _ (bytes : List ℕ) (P : NamedProblem) (claim : Polynomial) (text : IsClaimText bytes P claim)
  where
    pub problem_is : IsProblem P
    problem_is = reads_problems true bytes (record { problem = P; claim = Some claim }) text.read

    pub text_claim : IsTextPolynomial P.alphabet P.problem.setting.prime claim
    text_claim = go (has_claim bytes (record { problem = P; claim = Some claim }) text.read)
      where
        go : (f : Polynomial) × IsClaimOf (record { problem = P; claim = Some claim }) f
            → IsTextPolynomial P.alphabet P.problem.setting.prime claim
        go (f, h) =
            let e : Some claim ≡ Some f =
            h.0 in let same : f ≡ claim =
            cc in subst (IsTextPolynomial P.alphabet P.problem.setting.prime) same h.1

    pub claim_in : IsPolynomialIn P.alphabet P.problem.setting.prime claim
    claim_in =
        record {
          normal = text_claim.normal;
          words = All-weaker (λ t. IsTextWord P.alphabet t.key) (λ t. IsWordIn P.alphabet t.key)
              (λ t is. is.letters) claim text_claim.words;
        }

    pub claim_light : All (λ t. word_weight t.key ≤ 200000) claim
    claim_light =
        All-weaker (λ t. IsTextWord P.alphabet t.key) (λ t. word_weight t.key ≤ 200000)
        (λ t is. omega (arith, text_word_light P.alphabet problem_is.setting.alphabet t.key is))
        claim
        text_claim.words

    pub claim_named : All (λ t. IsNamed P.alphabet t.key) claim
    claim_named = words_named P.alphabet claim claim_in.words

-- ---- letters of what is left, and of what was subtracted

module _ (P : NamedProblem) (is : IsProblem P) {n : ℕ} {run : State} {last : Option Monomial}
    (runs : SequentialRun P.problem n run last) (claim : Polynomial)
    (in_words : IsPolynomialIn P.alphabet P.problem.setting.prime claim) {rest : Polynomial}
    {steps : List Step} (reduces : Reduction P.problem.setting run.entries (IsWithin P.problem)
    claim rest steps) where
  field : IsField P.problem.setting.prime
  field = field_of P is

  abbrev letters : List Letter
  letters = alphabet_letters P.alphabet

  inputs : (i : ℕ) → WordsAre P.problem.setting (IsOver letters) (generator P.problem.setting i)
  inputs = generator_over (setting_of P) is.setting

  alive : (e : Entry) → Contains run.entries e → ¬ IsZeroPolynomial P.problem.setting e.polynomial
  alive = (invariant P.problem field runs).sound.nonzero

  claim_over : WordsAre P.problem.setting (IsOver letters) claim
  claim_over = polynomial_over P.alphabet P.problem.setting claim in_words.words

  -- what is left is in normal form over the alphabet
  pub rest_named : All (λ t. IsNamed P.alphabet t.key) rest
  rest_named =
      words_named P.alphabet rest (polynomial_in P.alphabet P.problem.setting rest
      (kept_normal P.problem.setting field run.entries alive (IsWithin P.problem) reduces)
      (reduction_over P.problem.setting letters inputs run.entries alive
      (run_over P.problem field letters inputs runs) (IsWithin P.problem) reduces claim_over))

  module _ (m : List (Term Sig))
      (sum : IsSum P.problem.setting
      (step_multiples (labels_of P.problem.setting.prime run.entries) steps) m) where
    pub terms_in : All (λ t. IsWordIn P.alphabet t.key.left) m
        × All (λ t. IsWordIn P.alphabet t.key.right) m
    terms_in = sum_over P (step_multiples (labels_of P.problem.setting.prime run.entries) steps)
        (multiples_over P.problem field letters inputs runs (IsWithin P.problem) reduces claim_over)
        m sum

    pub terms_left : All (λ t. IsNamed P.alphabet t.key.left) m
    terms_left =
        All-weaker (λ (t : Term Sig). IsWordIn P.alphabet t.key.left)
        (λ (t : Term Sig). IsNamed P.alphabet t.key.left) (λ t k. named P.alphabet t.key.left k) m
        terms_in.0

    pub terms_right : All (λ t. IsNamed P.alphabet t.key.right) m
    terms_right =
        All-weaker (λ (t : Term Sig). IsWordIn P.alphabet t.key.right)
        (λ (t : Term Sig). IsNamed P.alphabet t.key.right) (λ t k. named P.alphabet t.key.right k) m
        terms_in.1
