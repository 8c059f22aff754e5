-- Reading a polynomial term after term, as a loop does.
-- `IsOnTheWay` is the invariant, with the terms so far in front and a budget as in `Words.antt`.
use Rattle.nc_algebra.specs.Alphabets.{Alphabet}
use Rattle.std.proofs.Common.{◌≡◌, ℕ, zero, suc, ◌≤◌, Bool, List, [], ◌∷◌, ◌++◌, length, Result, Ok, Err, refl, sym, ap, subst, ◌∙◌, append_assoc, arith}
use Rattle.std.proofs.lemmas.List.{append-nil, nil_from_length}
use Rattle.nc_tokens.specs.declared.fault.Kind.{Kind}
use Rattle.nc_tokens.specs.declared.fault.LineError.{LineError}
use Rattle.nc_tokens.specs.declared.fault.LineError.TheVariants as errors
use Rattle.nc_tokens.specs.declared.token.Token as shown
use Rattle.nc_tokens.specs.declared.token.Token.TheVariants as code
use Rattle.nc_algebra.specs.Polynomials.{Polynomial}
use Rattle.nc_algebra.specs.Sums.{Term}
use Rattle.nc_algebra.specs.Words.{Word}
use Rattle.nc_tokens.specs.Gives.{Fails}
use Rattle.nc_tokens.specs.Shown.{IsMisplaced, before}
use Rattle.nc_tokens.specs.Tokens.{Token}
use Rattle.nc_tokens.specs.Wanted.{◌>>=◌, misplaced, sign_at}
use Rattle.nc_text.specs.Reading.{factors_at, term_at, after_term, terms_at, sum_at}
use Rattle.nc_tokens.proofs.Takes.{bind_fails}
use Rattle.nc_text.proofs.Shorter.{term_shorter}

abbrev Read : Type 0
Read = Result (Polynomial) Kind

-- terms in front of those that are read
abbrev with_front : Polynomial → Read → Read
with_front front read = read >>= λ others. Ok (front ++ others)

-- the terms so far, and those that follow, are on the way to the whole
pub record IsOnTheWay (p : ℕ) (a : Alphabet) (front : Polynomial) (negative : Bool)
    (ts : List Token) (whole : Read) : Type 0 where
  pub budget : ℕ
  pub enough : length ts ≤ budget
  pub same : with_front front (terms_at budget p a negative ts) ≡ whole

no_front : (r : Read) → with_front [] r ≡ r
no_front (Ok x) = refl
no_front (Err e) = refl

regroup : (front : Polynomial) (t : Term Word) (r : Read)
    → with_front front (r >>= λ others. Ok (t ∷ others)) ≡ with_front (front ++ t ∷ []) r
regroup front t (Ok x) = ap (λ (l : Polynomial). Ok l) (sym (append_assoc front (t ∷ []) x))
regroup front t (Err f) = refl

pub begins : (p : ℕ) (a : Alphabet) (ts rest : List Token) (negative : Bool)
    → sign_at ts ≡ (negative, rest) → IsOnTheWay p a [] negative rest (sum_at p a ts)
begins p a ts rest negative e =
    rw e (record {
      budget = length rest;
      enough = omega arith;
      same = no_front (terms_at (length rest) p a negative rest);
    })

-- a term is read, and the same holds of what follows it
record IsBehindTerm (p : ℕ) (a : Alphabet) (front : Polynomial) (ts : List Token)
    (whole : Read) : Type 0 where
  pub budget : ℕ
  pub enough : length ts ≤ budget
  pub same : with_front front (after_term (terms_at budget p a) ts) ≡ whole

behind_term : (p : ℕ) (a : Alphabet) (front : Polynomial) (negative : Bool) (ts : List Token)
    (whole : Read) (x : Term Word × List Token) → term_at p a negative ts ≡ Ok x
    → IsOnTheWay p a front negative ts whole → IsBehindTerm p a (front ++ x.0 ∷ []) x.1 whole
unfolding terms_at
behind_term p a front negative ts whole x e h = by_budget h.budget h.enough h.same
  where
    by_budget : (n : ℕ) → length ts ≤ n → with_front front (terms_at n p a negative ts) ≡ whole
        → IsBehindTerm p a (front ++ x.0 ∷ []) x.1 whole
    by_budget zero enough same = absurd (omega (arith, term_shorter p a negative ts x e))
    by_budget (suc n) enough same =
        let r = after_term (terms_at n p a) x.1 in
        let one : terms_at (suc n) p a negative ts ≡ (r >>= λ others. Ok (x.0 ∷ others)) =
        ap (λ (r : Result (Term Word × List Token) Kind). r >>= λ term. after_term
        (terms_at n p a) term.1 >>= λ others. Ok (term.0 ∷ others)) e in
        record {
          budget = n;
          enough = omega (arith, term_shorter p a negative ts x e);
          same = sym (regroup front x.0 r) ∙ ap (with_front front) (sym one) ∙ same;
        }

-- behind a term a sign leads to the next one
pub goes_on : (p : ℕ) (a : Alphabet) (front : Polynomial) (negative : Bool) (ts : List Token)
    (whole : Read) (t : Term Word) (us rest : List Token) (sign : Token) (less : Bool)
    → ((next : Bool → List Token → Read) → after_term next (sign ∷ rest) ≡ next less rest)
    → term_at p a negative ts ≡ Ok (t, us) → us ≡ sign ∷ rest
    → IsOnTheWay p a front negative ts whole → IsOnTheWay p a (front ++ t ∷ []) less rest whole
goes_on p a front negative ts whole t us rest sign less leads e is h =
    let b = behind_term p a front negative ts whole (t, us) e h in
    let next = terms_at b.budget p a in
    record {
      budget = b.budget;
      enough = omega (arith, b.enough, ap length is);
      same = ap (with_front (front ++ t ∷ []))
          (sym (leads next) ∙ ap (after_term next) (sym is)) ∙ b.same;
    }

pub ends : (p : ℕ) (a : Alphabet) (front : Polynomial) (negative : Bool) (ts : List Token)
    (whole : Read) (t : Term Word) (us : List Token) → term_at p a negative ts ≡ Ok (t, us)
    → us ≡ [] → IsOnTheWay p a front negative ts whole → whole ≡ Ok (front ++ t ∷ [])
ends p a front negative ts whole t us e end h =
    let b = behind_term p a front negative ts whole (t, us) e h in
    sym b.same ∙ ap (λ (l : List Token). with_front (front ++ t ∷ [])
    (after_term (terms_at b.budget p a) l)) end
    ∙ ap (λ (l : Polynomial). Ok l) (append-nil (front ++ t ∷ []))

wrong : (further : Bool → List Token → Read) (token : shown.Token) (rest : List Token)
    → (token ≡ code.End → ⊥) → (token ≡ code.Plus → ⊥) → (token ≡ code.Minus → ⊥)
    → after_term further (before token rest) ≡ Err (misplaced (before token rest))
wrong further (code.Literal n) rest a b c = refl
wrong further code.Long rest a b c = refl
wrong further (code.Name n) rest a b c = refl
wrong further code.Plus rest a b c = absurd (b refl)
wrong further code.Minus rest a b c = absurd (c refl)
wrong further code.Times rest a b c = refl
wrong further code.Power rest a b c = refl
wrong further code.Open rest a b c = refl
wrong further code.Close rest a b c = refl
wrong further code.OpenBrace rest a b c = refl
wrong further code.CloseBrace rest a b c = refl
wrong further code.Bad rest a b c = refl
wrong further code.End rest a b c = absurd (a refl)

pub is_wrong : (p : ℕ) (a : Alphabet) (front : Polynomial) (negative : Bool) (ts : List Token)
    (whole : Read) (t : Term Word) (us rest : List Token) (token : shown.Token) (f : LineError)
    → term_at p a negative ts ≡ Ok (t, us) → us ≡ before token rest → (token ≡ code.End → ⊥)
    → (token ≡ code.Plus → ⊥) → (token ≡ code.Minus → ⊥) → IsMisplaced token f
    → IsOnTheWay p a front negative ts whole → Fails f whole
is_wrong p a front negative ts whole t us rest token f e is not_end not_plus not_minus wrong_here
    h =
    let b = behind_term p a front negative ts whole (t, us) e h in
    let k : whole ≡ Err (misplaced (before token rest)) =
    sym b.same ∙ ap (λ (l : List Token). with_front (front ++ t ∷ [])
    (after_term (terms_at b.budget p a) l)) is
    ∙ ap (with_front (front ++ t ∷ []))
    (wrong (terms_at b.budget p a) token rest not_end not_plus not_minus) in
    rw (wrong_here rest) k

none_at : (p : ℕ) (a : Alphabet) (negative : Bool) → term_at p a negative [] ≡ Err (misplaced [])
unfolding term_at factors_at
none_at p a negative = refl

abbrev term_error : List Token → Result (Term Word × List Token) Kind
term_error ts = Err (misplaced ts)

abbrev poly_error : List Token → Read
poly_error ts = Err (misplaced ts)

same_error : (f : LineError) (ts : List Token) → Fails f (term_error ts) → Fails f (poly_error ts)
same_error errors.Memory ts h = tt
same_error (errors.Fault k) ts h = let same : misplaced ts ≡ k = cc in cc

pub term_fails : (f : LineError) (p : ℕ) (a : Alphabet) (front : Polynomial) (negative : Bool)
    (ts : List Token) (whole : Read) → Fails f (term_at p a negative ts)
    → IsOnTheWay p a front negative ts whole → Fails f whole
unfolding terms_at
term_fails f p a front negative ts whole fails h = by_budget h.budget h.enough h.same
  where
    by_budget : (n : ℕ) → length ts ≤ n → with_front front (terms_at n p a negative ts) ≡ whole
        → Fails f whole
    by_budget zero enough same =
        let e : ts ≡ [] = nil_from_length ts (omega arith) in
        let none : term_at p a negative ts ≡ Err (misplaced ts) = rw e (none_at p a negative) in
        let given : Fails f (term_error ts) =
        subst (λ (r : Result (Term Word × List Token) Kind). Fails f r) none fails in
        subst (λ (r : Read). Fails f r) same
        (bind_fails f (poly_error ts) (λ others. Ok (front ++ others)) (same_error f ts given))
    by_budget (suc n) enough same =
        subst (λ (r : Read). Fails f r) same
        (bind_fails f (term_at p a negative ts >>= λ term. after_term (terms_at n p a) term.1 >>=
        λ others. Ok (term.0 ∷ others)) _ (bind_fails f (term_at p a negative ts) _ fails))
