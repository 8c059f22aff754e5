-- Reading weights one after the other, as a loop does.
-- There is one for each letter. `IsOnTheWay` is the invariant, with the weights so far and how many
-- are still to come.
use Rattle.nc_text.specs.Rows.{weight_at, weights_at}
use Rattle.nc_tokens.proofs.Takes.{bind_fails}
use Rattle.nc_tokens.specs.Gives.{Fails}
use Rattle.nc_tokens.specs.Tokens.{Token}
use Rattle.nc_tokens.specs.Wanted.{end_at, ◌>>=◌}
use Rattle.nc_tokens.specs.declared.fault.Kind.{Kind}
use Rattle.nc_tokens.specs.declared.fault.LineError.{LineError}
use Rattle.std.proofs.Common.{Err, List, Ok, Result, [], ap, append_assoc, arith, refl, subst, suc, sym, ℕ, ◌++◌, ◌+◌, ◌∙◌, ◌∷◌, ◌≡◌}
use Rattle.std.proofs.lemmas.List.{append-nil}

abbrev Read : Type 0
Read = Result (List ℕ) Kind

-- weights in front of those that are read
abbrev with_front : List ℕ → Read → Read
with_front front read = read >>= λ ms. Ok (front ++ ms)

no_front : (r : Read) → with_front [] r ≡ r
no_front (Ok x) = refl
no_front (Err e) = refl

regroup : (front : List ℕ) (m : ℕ) (r : Read)
    → with_front front (r >>= λ ms. Ok (m ∷ ms)) ≡ with_front (front ++ m ∷ []) r
regroup front m (Ok ms) = ap Ok (sym (append_assoc front (m ∷ []) ms))
regroup front m (Err e) = refl

-- the weights so far, with so many to come, and the tokens that follow are on the way to the whole
pub record IsOnTheWay (front : List ℕ) (left : ℕ) (ts : List Token) (whole : Read) : Type 0 where
  pub same : with_front front (weights_at left ts) ≡ whole

pub begins : (n : ℕ) (ts : List Token) → IsOnTheWay [] n ts (weights_at n ts)
begins n ts = record { same = no_front (weights_at n ts) }

module _ (front : List ℕ) (left k : ℕ) (more : left ≡ k + 1) (ts : List Token) (whole : Read) where
  next : weights_at left ts ≡ (weight_at ts >>= λ first. weights_at k first.1 >>= λ others. Ok
      (first.0 ∷ others))
  unfolding weights_at
  next = let e : left ≡ suc k = omega (arith, more) in ap (λ n. weights_at n ts) e

  pub goes_on : (m : ℕ) (rest : List Token) → weight_at ts ≡ Ok (m, rest)
      → IsOnTheWay front left ts whole → IsOnTheWay (front ++ m ∷ []) k rest whole
  goes_on m rest e h =
      record {
        same = sym (ap (with_front front)
            (next ∙ ap (λ (r : Result (ℕ × List Token) Kind). r >>= λ first. weights_at k first.1
            >>=
            λ others. Ok (first.0 ∷ others)) e) ∙ regroup front m (weights_at k rest)) ∙ h.same;
      }

  pub fails : (f : LineError) → Fails f (weight_at ts) → IsOnTheWay front left ts whole
      → Fails f whole
  fails f k' h =
      subst (λ (r : Read). Fails f r) h.same
      (bind_fails f (weights_at left ts) _
      (subst (λ (r : Read). Fails f r) (sym next) (bind_fails f (weight_at ts) _ k')))

none_left : (ts : List Token) → weights_at 0 ts ≡ (end_at ts >>= λ _. Ok [])
unfolding weights_at
none_left ts = refl

pub ends : (front : List ℕ) (left : ℕ) (ts : List Token) (whole : Read) (u : Unit {0}) → left ≡ 0
    → end_at ts ≡ Ok u → IsOnTheWay front left ts whole → whole ≡ Ok front
ends front left ts whole u none e h =
    sym h.same ∙ ap (with_front front) (ap (λ n. weights_at n ts) none ∙ none_left ts
    ∙ ap (λ (r : Result (Unit {0}) Kind). r >>= λ _. Ok []) e) ∙ ap Ok (append-nil front)

pub end_fails : (front : List ℕ) (left : ℕ) (ts : List Token) (whole : Read) (f : LineError)
    → left ≡ 0 → Fails f (end_at ts) → IsOnTheWay front left ts whole → Fails f whole
end_fails front left ts whole f none k h =
    subst (λ (r : Read). Fails f r) h.same
    (bind_fails f (weights_at left ts) _
    (subst (λ (r : Read). Fails f r) (sym (ap (λ n. weights_at n ts) none ∙ none_left ts))
    (bind_fails f (end_at ts) _ k)))
