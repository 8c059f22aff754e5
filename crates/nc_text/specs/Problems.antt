-- Reading a problem text, line after line.
--
-- The lines come in a fixed order: those of the setting, `bound`, `steps`, `claim`. The last two
-- may be missing, except that the line `claim` must be there where a claim is wanted. A text with a
-- claim is also a text of a problem: the command that has no use for the claim ignores it. What is
-- read is within the limits of `IsProblem`, by the law `ReadsProblems`.
use Rattle.nc_algebra.specs.Alphabets.{Alphabet}
use Rattle.nc_algebra.specs.Polynomials.{Polynomial}
use Rattle.nc_algebra.specs.Problems.{Bound, NamedProblem}
use Rattle.nc_tokens.specs.Lines.{Row, Written, a_line, at_line, lines, the_end, the_line, written}
use Rattle.nc_tokens.specs.Wanted.{◌>>=◌}
use Rattle.nc_tokens.specs.declared.fault.TextFault.{TextFault}
use Rattle.nc_text.specs.Certificates.{claim_line}
use Rattle.nc_text.specs.Reading.{poly_at}
use Rattle.nc_text.specs.Rows.{bound_at, steps_at}
use Rattle.nc_text.specs.Settings.{setting_lines}
use Rattle.std.specs.Prelude.{Bool, List, None, Ok, Option, Result, Some, codes, if◌then◌else◌, length, ℕ}

-- a problem, and the claim that stands in its text
pub record ProblemText : Type 0 where
  pub problem : NamedProblem
  pub claim : Option Polynomial

-- the line `bound` over so many generators
unfoldable pub bound_line : Alphabet → ℕ → Written → Result (Bound × Written) TextFault
bound_line a generators w = do
  line ← the_line (codes "bound") w
  bound ← at_line line.number (bound_at a generators line.tokens)
  Ok (bound, line.after)

-- the line `steps`, if it comes next; else 1,000,000 signatures may be handled
abbrev pub steps_in : Written → Option Row → Result (ℕ × Written) TextFault
steps_in w None = Ok (1000000, w)
steps_in w (Some line) =
    at_line line.number (steps_at line.tokens) >>= λ steps. Ok (steps, line.after)

-- the line `steps`, where it may come next
unfoldable pub steps_line : Written → Result (ℕ × Written) TextFault
steps_line w = steps_in w (a_line (codes "steps") w)

-- the line `claim`, if it comes next
abbrev pub claim_in : ℕ → Alphabet → Written → Option Row
    → Result (Option Polynomial × Written) TextFault
claim_in p a w None = Ok (None, w)
claim_in p a w (Some line) =
    at_line line.number (poly_at p a line.tokens) >>= λ f. Ok (Some f, line.after)

-- the line `claim`, where it may come next
unfoldable pub optional_claim : ℕ → Alphabet → Written
    → Result (Option Polynomial × Written) TextFault
optional_claim p a w = claim_in p a w (a_line (codes "claim") w)

-- the line `claim`, which must come next
unfoldable pub wanted_claim : ℕ → Alphabet → Written
    → Result (Option Polynomial × Written) TextFault
wanted_claim p a w = do
  claim ← claim_line p a w
  Ok (Some claim.0, claim.1)

-- one of the two
abbrev pub claim_at : Bool → ℕ → Alphabet → Written → Result (Option Polynomial × Written) TextFault
claim_at wants_claim p a w = if wants_claim then wanted_claim p a w else optional_claim p a w

-- all lines of a problem, with a claim where one is wanted
unfoldable pub problem_at : Bool → Written → Result ProblemText TextFault
problem_at wants_claim w = do
  setting ← setting_lines w
  bound ← bound_line setting.0.alphabet (length setting.0.setting.generators) setting.1
  steps ← steps_line bound.1
  claim ← claim_at wants_claim setting.0.setting.prime setting.0.alphabet steps.1
  _ ← the_end claim.1
  Ok (record {
    problem = record {
      problem = record {
        setting = setting.0.setting;
        bound = bound.0;
        steps = steps.0;
      };
      alphabet = setting.0.alphabet;
    };
    claim = claim.0;
  })

-- the problem that a text is, with a claim where one is wanted, or the text's first fault
abbrev pub reads_problem : Bool → List ℕ → Result ProblemText TextFault
reads_problem wants_claim bytes = problem_at wants_claim (written 1 (lines bytes))
