-- How many tokens a word and a term leave, where they tell no fault.
-- Each takes at least one (`factor_shorter`, `term_shorter`), so the budgets of the definitions do
-- not run out.
use Rattle.nc_algebra.specs.Alphabets.{Alphabet, letter_at}
use Rattle.nc_algebra.specs.Sums.{Term}
use Rattle.nc_algebra.specs.Words.{Word}
use Rattle.nc_text.specs.Reading.{after_factor, factor_at, factors_at, lengthened, letter_of, term_at, word_at, word_behind}
use Rattle.nc_tokens.proofs.Steps.{on_any, on_bind}
use Rattle.nc_tokens.proofs.Takes.{behind, below, exponent_takes, name_takes, of_ok, takes_of_rest}
use Rattle.nc_tokens.specs.Tokens.{Literal, Times, Token}
use Rattle.nc_tokens.specs.Wanted.{exponent_at, name_at}
use Rattle.nc_tokens.specs.declared.fault.Kind.{Kind}
use Rattle.std.proofs.Common.{Bool, IfOk, List, Ok, Result, [], arith, length, suc, zero, ℕ, ◌<◌, ◌∷◌, ◌≡◌, ◌≤◌}

factor_takes : (a : Alphabet) (w : Word) (ts : List Token)
    → IfOk (factor_at a w ts) (λ x. behind x < length ts)
unfolding factor_at
factor_takes a w ts =
    on_bind _ _ (name_at ts) _ (name_takes ts)
    (λ name h. on_bind _ _ (letter_of a.names name.0) _ (on_any (letter_of a.names name.0))
    (λ letter _. on_bind _ _ (exponent_at name.1) _ (exponent_takes name.1) (λ exponent k.
    on_bind _ _ (lengthened w (letter_at a letter) exponent.0) _
    (on_any (lengthened w (letter_at a letter) exponent.0)) (λ longer _. omega arith))))

after_takes : (further : Word → List Token → Result (Word × List Token) Kind) (w : Word)
    (ts : List Token) → ((ts : List Token) → IfOk (further w ts) (λ x. behind x < length ts))
    → IfOk (after_factor further w ts) (λ x. behind x ≤ length ts)
after_takes further w [] more = omega arith
after_takes further w (Times ∷ rest) more = takes_of_rest Times rest (further w rest) (more rest)
after_takes further w (t ∷ rest) more = omega arith

factors_take : (n : ℕ) (a : Alphabet) (w : Word) (ts : List Token)
    → IfOk (factors_at n a w ts) (λ x. behind x < length ts)
unfolding factors_at
factors_take zero a w ts = tt
factors_take (suc n) a w ts =
    on_bind _ _ (factor_at a w ts) _ (factor_takes a w ts) (λ factor h.
    below (length factor.1) (length ts) (after_factor (factors_at n a) factor.0 factor.1) h
    (after_takes (factors_at n a) factor.0 factor.1 (λ rest. factors_take n a factor.0 rest)))

word_takes : (a : Alphabet) (ts : List Token) → IfOk (word_at a ts) (λ x. behind x < length ts)
word_takes a ts = factors_take (length ts) a [] ts

behind_takes : (a : Alphabet) (ts : List Token)
    → IfOk (word_behind a ts) (λ x. behind x ≤ length ts)
unfolding word_behind
behind_takes a [] = omega arith
behind_takes a (Times ∷ rest) = takes_of_rest Times rest (word_at a rest) (word_takes a rest)
behind_takes a (t ∷ rest) = omega arith

term_takes : (p : ℕ) (a : Alphabet) (negative : Bool) (ts : List Token)
    → IfOk (term_at p a negative ts) (λ x. behind x < length ts)
unfolding term_at
term_takes p a negative [] = on_bind _ _ (word_at a []) _ (word_takes a []) (λ word h. h)
term_takes p a negative (Literal n ∷ rest) =
    on_bind _ _ (word_behind a rest) _ (behind_takes a rest) (λ word h. omega arith)
term_takes p a negative (t ∷ rest) =
    on_bind _ _ (word_at a (t ∷ rest)) _ (word_takes a (t ∷ rest)) (λ word h. h)

-- ---- what is left behind a factor and a term

pub factor_shorter : (a : Alphabet) (w : Word) (ts : List Token) (x : Word × List Token)
    → factor_at a w ts ≡ Ok x → length x.1 < length ts
factor_shorter a w ts x e =
    of_ok (λ x. behind x < length ts) (factor_at a w ts) x e (factor_takes a w ts)

pub term_shorter : (p : ℕ) (a : Alphabet) (negative : Bool) (ts : List Token) (x : Term Word
    × List Token) → term_at p a negative ts ≡ Ok x → length x.1 < length ts
term_shorter p a negative ts x e =
    of_ok (λ x. behind x < length ts) (term_at p a negative ts) x e (term_takes p a negative ts)
