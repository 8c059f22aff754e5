-- What is read of a problem text is a problem.
-- A monomial of a text has two words of at most 255 letters, and so does the leading word of its
-- generator; a letter weighs at most 100. So its degree is at most 80,000 (`monomial_light`).
use Rattle.nc_algebra.proofs.Alphabets.{text_word_light}
use Rattle.nc_algebra.specs.Elements.{degree}
use Rattle.nc_algebra.specs.Monomials.{Monomial}
use Rattle.nc_algebra.specs.Problems.{Bound, IsBoundOver, IsProblem, bound_degree}
use Rattle.nc_algebra.specs.Settings.{IsSetting, NamedSetting}
use Rattle.nc_module.proofs.Settings.{generator_weighs}
use Rattle.nc_text.proofs.ReadCertificates.{at_line_reads, setting_lines_read}
use Rattle.nc_text.proofs.ReadRows.{IsTextMonomial, checked_reads, mono_reads}
use Rattle.nc_text.specs.Laws.{ReadsProblems}
use Rattle.nc_text.specs.Problems.{ProblemText, bound_line, claim_at, problem_at, steps_in, steps_line}
use Rattle.nc_text.specs.Rows.{below_at, bound_at, checked, degree_at, mono_at, steps_at}
use Rattle.nc_text.specs.Settings.{setting_lines}
use Rattle.nc_tokens.proofs.Steps.{on_any, on_bind, on_choice, on_weaker}
use Rattle.nc_tokens.specs.Lines.{Row, Written, a_line, at_line, lines, the_end, the_line, written}
use Rattle.nc_tokens.specs.Tokens.{Name, Token}
use Rattle.nc_tokens.specs.Wanted.{end_at, literal_at}
use Rattle.nc_tokens.specs.declared.fault.Kind.{Kind}
use Rattle.nc_tokens.specs.declared.fault.TextFault.{TextFault}
use Rattle.std.proofs.Common.{Bool, IfOk, List, None, Ok, Option, Result, Some, arith, bytes_eq, codes, length, ltb, subst, ℕ, ◌+◌, ◌∷◌, ◌≡◌, ◌≤◌}
use Rattle.std.proofs.lemmas.Bool.{ltb-true}

-- a bound of a problem over the setting
record IsBound (s : NamedSetting) (b : Bound) : Type 0 where
  over : IsBoundOver s b
  limited : bound_degree s.setting b ≤ 80000

limit_reads : (most n : ℕ) (k : Kind) → IfOk (checked (ltb n (most + 1)) k n) (λ m. m ≤ most)
limit_reads most n k =
    on_weaker _ _ (checked (ltb n (most + 1)) k n) (λ m is. let low = ltb-true n (most + 1) is.0 in
    omega (arith, is.1)) (checked_reads (ltb n (most + 1)) k n)

degree_reads : (s : NamedSetting) (ts : List Token) → IfOk (degree_at ts) (IsBound s)
unfolding degree_at
degree_reads s ts =
    on_bind _ _ (literal_at ts) _ (on_any (literal_at ts))
    (λ n _. on_bind _ _ (checked (ltb n.0 1001) _ n.0) _ (limit_reads 1000 n.0 _) (λ d few.
    on_bind _ _ (end_at n.1) _ (on_any (end_at n.1))
    (λ _ _. record { over = tt; limited = omega (arith, few) })))

monomial_light : (s : NamedSetting) (σ : Monomial) → IsSetting s
    → IsTextMonomial s.alphabet (length s.setting.generators) σ → degree s.setting σ ≤ 80000
monomial_light s σ is h =
    omega (
      arith,
      text_word_light s.alphabet is.alphabet σ.left h.left,
      text_word_light s.alphabet is.alphabet σ.right h.right,
      generator_weighs s σ.generator is (h.some, h.listed),
    )

below_reads : (s : NamedSetting) (ts : List Token) → IsSetting s
    → IfOk (below_at s.alphabet (length s.setting.generators) ts) (IsBound s)
unfolding below_at
below_reads s ts is =
    on_bind _ _ (mono_at s.alphabet (length s.setting.generators) ts) _
    (mono_reads s.alphabet (length s.setting.generators) ts)
    (λ σ h. record {
      over = ((h.some, h.listed), h.left.letters, h.right.letters);
      limited = monomial_light s σ is h;
    })

bound_reads : (s : NamedSetting) (ts : List Token) → IsSetting s
    → IfOk (bound_at s.alphabet (length s.setting.generators) ts) (IsBound s)
unfolding bound_at
bound_reads s (Name word ∷ rest) is =
    on_choice _ (bytes_eq word (codes "degree")) _ _ (λ yes. degree_reads s rest)
    (λ no. on_choice _ (bytes_eq word (codes "below")) _ _
    (λ yes. below_reads s rest is) (λ other. tt))
bound_reads s ts is = tt

bound_line_reads : (s : NamedSetting) (w : Written) → IsSetting s
    → IfOk (bound_line s.alphabet (length s.setting.generators) w) (λ x. IsBound s x.0)
unfolding bound_line
bound_line_reads s w is =
    on_bind _ _ (the_line (codes "bound") w) _ (on_any (the_line (codes "bound") w)) (λ line _.
    on_bind _ _ (at_line line.number
    (bound_at s.alphabet (length s.setting.generators) line.tokens)) _
    (at_line_reads _ line.number (bound_at s.alphabet (length s.setting.generators) line.tokens)
    (bound_reads s line.tokens is)) (λ b h. h))

steps_read : (ts : List Token) → IfOk (steps_at ts) (λ n. n ≤ 1000000000)
unfolding steps_at
steps_read ts =
    on_bind _ _ (literal_at ts) _ (on_any (literal_at ts))
    (λ n _. on_bind _ _ (checked (ltb n.0 1000000001) _ n.0) _ (limit_reads 1000000000 n.0 _)
    (λ steps few.
    on_bind _ _ (end_at n.1) _ (on_any (end_at n.1)) (λ _ _. few)))

steps_in_read : (w : Written) (o : Option Row) → IfOk (steps_in w o) (λ x. x.0 ≤ 1000000000)
steps_in_read w None = omega arith
steps_in_read w (Some line) =
    on_bind _ _ (at_line line.number (steps_at line.tokens)) _
    (at_line_reads _ line.number (steps_at line.tokens) (steps_read line.tokens)) (λ n few. few)

steps_line_reads : (w : Written) → IfOk (steps_line w) (λ x. x.0 ≤ 1000000000)
unfolding steps_line
steps_line_reads w = steps_in_read w (a_line (codes "steps") w)

-- what the lines give is a problem
pub is_problem : (s : NamedSetting) (b : Bound) (n : ℕ) (w one two three : Written)
    → setting_lines w ≡ Ok (s, one) → bound_line s.alphabet (length s.setting.generators) one
    ≡ Ok (b, two) → steps_line two ≡ Ok (n, three)
    → IsProblem (record {
      problem = record { setting = s.setting; bound = b; steps = n };
      alphabet = s.alphabet;
    })
is_problem s b n w one two three e f g =
    let is : IsSetting s =
    subst (λ (r : Result (NamedSetting × Written) TextFault). IfOk r (λ x. IsSetting x.0)) e
    (setting_lines_read w) in
    let bound : IsBound s b =
    subst (λ (r : Result (Bound × Written) TextFault). IfOk r (λ x. IsBound s x.0)) f
    (bound_line_reads s one is) in
    record {
      setting = is;
      bound = bound.over;
      limited = bound.limited;
      few = subst
          (λ (r : Result (ℕ × Written) TextFault). IfOk r (λ x. x.0 ≤ 1000000000)) g
          (steps_line_reads two);
    }

problem_reads : (wants_claim : Bool) (w : Written)
    → IfOk (problem_at wants_claim w) (λ t. IsProblem t.problem)
unfolding problem_at
problem_reads wants_claim w =
    on_bind _ _ (setting_lines w) _ (setting_lines_read w) (λ setting is.
    on_bind _ _ (bound_line setting.0.alphabet (length setting.0.setting.generators) setting.1) _
    (bound_line_reads setting.0 setting.1 is) (λ bound h.
    on_bind _ _ (steps_line bound.1) _ (steps_line_reads bound.1) (λ steps few.
    on_bind _ _ (claim_at wants_claim setting.0.setting.prime setting.0.alphabet steps.1) _
    (on_any (claim_at wants_claim setting.0.setting.prime setting.0.alphabet steps.1))
    (λ claim _.
    on_bind _ _ (the_end claim.1) _ (on_any (the_end claim.1))
    (λ _ _. record { setting = is; bound = h.over; limited = h.limited; few = few })))))

pub reads_problems : ReadsProblems
reads_problems wants_claim bytes t e =
    subst (λ (r : Result ProblemText TextFault). IfOk r (λ x. IsProblem x.problem)) e
    (problem_reads wants_claim (written 1 (lines bytes)))
