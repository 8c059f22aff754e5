-- How many tokens the steps of reading leave, where they tell no fault; and a fault of a step is
-- the fault of the whole.
use Rattle.nc_tokens.specs.Gives.{Fails}
use Rattle.nc_tokens.specs.Tokens.{Literal, Name, Power, Token}
use Rattle.nc_tokens.specs.Wanted.{exponent_at, literal_at, name_at, ◌>>=◌}
use Rattle.nc_tokens.specs.declared.fault.Kind.{Kind}
use Rattle.nc_tokens.specs.declared.fault.LineError.TheVariants as errors
use Rattle.nc_tokens.specs.declared.fault.LineError.{LineError}
use Rattle.std.proofs.Common.{Err, IfOk, List, Ok, Result, [], ap, arith, length, subst, ℕ, ◌<◌, ◌∷◌, ◌≡◌, ◌≤◌}

-- a step that failed
pub bind_fails : {A B : Type 0} (e : LineError) (r : Result A Kind) (f : A → Result B Kind)
    → Fails e r → Fails e (r >>= f)
bind_fails errors.Memory r f h = tt
bind_fails (errors.Fault k) r f h = ap (λ x. x >>= f) h

-- what holds of the value of a step that told no fault
pub of_ok : {A : Type 0} (P : A → Type 0) (r : Result A Kind) (x : A) → r ≡ Ok x → IfOk r P → P x
of_ok P r x e h = subst (λ (s : Result _ Kind). IfOk s P) e h

-- ---- tokens that a step takes

-- how many tokens are behind what was read
abbrev pub behind : {A : Type 0} → A × List Token → ℕ
behind x = length x.1

-- a step that takes a token of a rest takes no fewer of the whole
pub takes_of_rest : {A : Type 0} (t : Token) (rest : List Token) (r : Result (A × List Token) Kind)
    → IfOk r (λ x. behind x < length rest) → IfOk r (λ x. behind x ≤ length (t ∷ rest))
takes_of_rest t rest (Ok x) h = omega arith
takes_of_rest t rest (Err e) h = tt

pub literal_takes : (ts : List Token) → IfOk (literal_at ts) (λ x. behind x < length ts)
unfolding literal_at
literal_takes [] = tt
literal_takes (Literal n ∷ rest) = omega arith
literal_takes (t ∷ rest) = tt

pub name_takes : (ts : List Token) → IfOk (name_at ts) (λ x. behind x < length ts)
unfolding name_at
name_takes [] = tt
name_takes (Name n ∷ rest) = omega arith
name_takes (t ∷ rest) = tt

pub exponent_takes : (ts : List Token) → IfOk (exponent_at ts) (λ x. behind x ≤ length ts)
unfolding exponent_at
exponent_takes [] = omega arith
exponent_takes (Power ∷ rest) = takes_of_rest Power rest (literal_at rest) (literal_takes rest)
exponent_takes (t ∷ rest) = omega arith

pub below : {A : Type 0} (m n : ℕ) (r : Result (A × List Token) Kind) → m < n
    → IfOk r (λ x. behind x ≤ m) → IfOk r (λ x. behind x < n)
below m n (Ok x) less h = omega arith
below m n (Err e) less h = tt
