-- Reading a word factor after factor, as a loop does.
-- `IsOnTheWay` is the invariant: reading on from here, behind the word so far, gives the whole. The
-- definition recurs on a budget of factors, which starts with the number of tokens; a factor takes
-- a token, so it never runs out.
use Rattle.nc_algebra.specs.Alphabets.{Alphabet}
use Rattle.std.proofs.Common.{◌≡◌, ℕ, zero, suc, ◌≤◌, true, false, List, [], ◌∷◌, length, Result, Ok, refl, sym, ap, subst, ◌∙◌, arith}
use Rattle.nc_tokens.specs.declared.fault.Kind.{Kind}
use Rattle.nc_tokens.specs.declared.fault.LineError.{LineError}
use Rattle.nc_tokens.specs.Tokens.{Token, Times}
use Rattle.nc_algebra.specs.Words.{Word}
use Rattle.nc_tokens.specs.Gives.{Fails}
use Rattle.nc_tokens.specs.Shown.{IsTakenToken}
use Rattle.nc_tokens.specs.Wanted.{◌>>=◌, name_at}
use Rattle.nc_text.specs.Reading.{factor_at, after_factor, factors_at, word_at}
use Rattle.nc_tokens.proofs.Takes.{bind_fails}
use Rattle.nc_text.proofs.Shorter.{factor_shorter}

abbrev Read : Type 0
Read = Result (Word × List Token) Kind

-- the word so far, and what follows, are on the way to the whole
pub record IsOnTheWay (a : Alphabet) (w : Word) (ts : List Token) (whole : Read) : Type 0 where
  pub budget : ℕ
  pub enough : length ts ≤ budget
  pub same : after_factor (factors_at budget a) w ts ≡ whole

pub first_factor : (a : Alphabet) (ts : List Token) (x : Word × List Token)
    → factor_at a [] ts ≡ Ok x → IsOnTheWay a x.0 x.1 (word_at a ts)
unfolding factors_at
first_factor a [] x e = absurd (omega (arith, factor_shorter a [] [] x e))
first_factor a (t ∷ ts) x e = record {
  budget = length ts;
  enough = omega (arith, factor_shorter a [] (t ∷ ts) x e);
  same = sym (ap (λ (r : Read). r >>= λ y. after_factor (factors_at (length ts) a) y.0 y.1) e);
}

pub first_fails : (f : LineError) (a : Alphabet) (ts : List Token) → Fails f (factor_at a [] ts)
    → Fails f (word_at a ts)
unfolding factors_at factor_at name_at
first_fails f a [] h = h
first_fails f a (t ∷ ts) h = bind_fails f (factor_at a [] (t ∷ ts)) _ h

pub next_factor : (a : Alphabet) (w : Word) (ts rest : List Token) (whole : Read) (x : Word
    × List Token) → IsTakenToken Times ts rest true → factor_at a w rest ≡ Ok x
    → IsOnTheWay a w ts whole → IsOnTheWay a x.0 x.1 whole
unfolding factors_at
next_factor a w ts rest whole x taken e h = by_budget h.budget h.enough h.same
  where
    by_budget : (n : ℕ) → length ts ≤ n → after_factor (factors_at n a) w ts ≡ whole
        → IsOnTheWay a x.0 x.1 whole
    by_budget zero enough same = absurd (omega (arith, ap length taken))
    by_budget (suc n) enough same = record {
      budget = n;
      enough = omega (arith, ap length taken, factor_shorter a w rest x e);
      same = sym (ap (λ (r : Read). r >>= λ y. after_factor (factors_at n a) y.0 y.1) e)
          ∙ ap (λ (l : List Token). after_factor (factors_at (suc n) a) w l) (sym taken) ∙ same;
    }

pub next_fails : (f : LineError) (a : Alphabet) (w : Word) (ts rest : List Token) (whole : Read)
    → IsTakenToken Times ts rest true → Fails f (factor_at a w rest)
    → IsOnTheWay a w ts whole → Fails f whole
unfolding factors_at
next_fails f a w ts rest whole taken fails h = by_budget h.budget h.enough h.same
  where
    by_budget : (n : ℕ) → length ts ≤ n → after_factor (factors_at n a) w ts ≡ whole → Fails f whole
    by_budget zero enough same = absurd (omega (arith, ap length taken))
    by_budget (suc n) enough same =
        subst (λ (r : Read). Fails f r)
        (ap (λ (l : List Token). after_factor (factors_at (suc n) a) w l) (sym taken) ∙ same)
        (bind_fails f (factor_at a w rest) _ fails)

not_times : (further : Word → List Token → Read) (w : Word) (ts : List Token)
    → ((rest : List Token) → ts ≡ Times ∷ rest → ⊥) → after_factor further w ts ≡ Ok (w, ts)
not_times further w (Times ∷ rest) h = absurd (h rest refl)
not_times further w ts h = refl

pub last_factor : (a : Alphabet) (w : Word) (ts rest : List Token) (whole : Read)
    → IsTakenToken Times ts rest false → IsOnTheWay a w ts whole → whole ≡ Ok (w, rest)
last_factor a w ts rest whole taken h =
    sym h.same ∙ not_times (factors_at h.budget a) w ts taken.1
    ∙ ap (λ (l : List Token). Ok (w, l)) (sym taken.0)
