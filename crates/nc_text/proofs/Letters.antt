-- Reading names one after the other, as a loop does.
-- `IsOnTheWay` is the invariant: reading on behind the names so far gives the whole.
use Rattle.std.proofs.Common.{◌≡◌, ℕ, cond, nat_eq, Bor, List, [], ◌∷◌, ◌++◌, length, Result, Ok, Err, refl, sym, ap, subst, ◌∙◌}
use Rattle.nc_tokens.specs.declared.fault.Kind.{Kind}
use Rattle.nc_tokens.specs.declared.fault.Kind.TheVariants.{Syntax, BadName}
use Rattle.nc_tokens.specs.declared.fault.LineError.{LineError}
use Rattle.nc_tokens.specs.declared.token.Token as shown
use Rattle.nc_tokens.specs.declared.token.Token.TheVariants as code
use Rattle.nc_tokens.specs.Tokens.{Token, Name}
use Rattle.nc_tokens.specs.Gives.{Fails}
use Rattle.nc_tokens.specs.Wanted.{◌>>=◌}
use Rattle.nc_tokens.specs.Shown.{before}
use Rattle.nc_text.specs.Rows.{further_name, letters_at}
use Rattle.nc_tokens.proofs.Takes.{bind_fails}

abbrev Read : Type 0
Read = Result (List (List ℕ)) Kind

-- the names so far, and the tokens that follow, are on the way to the whole
pub record IsOnTheWay (names : List (List ℕ)) (ts : List Token) (whole : Read) : Type 0 where
  pub same : letters_at names ts ≡ whole

pub goes_on : (names : List (List ℕ)) (ts rest : List Token) (bytes name : List ℕ) (whole : Read)
    → ts ≡ Name bytes ∷ rest → further_name names bytes ≡ Ok name
    → IsOnTheWay names ts whole → IsOnTheWay (names ++ name ∷ []) rest whole
unfolding letters_at
goes_on names ts rest bytes name whole is further h =
    record {
      same = sym (ap (λ (r : Result (List ℕ) Kind). r >>= λ further. letters_at
          (names ++ further ∷ []) rest) further) ∙ sym (ap (letters_at names) is) ∙ h.same;
    }

pub name_fails : (f : LineError) (names : List (List ℕ)) (ts rest : List Token) (bytes : List ℕ)
    (whole : Read) → ts ≡ Name bytes ∷ rest → Fails f (further_name names bytes)
    → IsOnTheWay names ts whole → Fails f whole
unfolding letters_at
name_fails f names ts rest bytes whole is fails h =
    subst (λ (r : Read). Fails f r) (sym (ap (letters_at names) is) ∙ h.same)
    (bind_fails f (further_name names bytes) _ fails)

pub ends : (names : List (List ℕ)) (ts : List Token) (whole : Read) → ts ≡ []
    → IsOnTheWay names ts whole → whole ≡ cond (nat_eq (length names) 0) (Err Syntax) (Ok names)
unfolding letters_at
ends names ts whole is h = sym h.same ∙ ap (letters_at names) is

wrong : (names : List (List ℕ)) (token : shown.Token) (rest : List Token) → (token ≡ code.End → ⊥)
    → ((bytes : Bor (List ℕ)) → token ≡ code.Name bytes → ⊥)
    → letters_at names (before token rest) ≡ Err BadName
unfolding letters_at
wrong names (code.Literal n) rest a b = refl
wrong names code.Long rest a b = refl
wrong names (code.Name n) rest a b = absurd (b n refl)
wrong names code.Plus rest a b = refl
wrong names code.Minus rest a b = refl
wrong names code.Times rest a b = refl
wrong names code.Power rest a b = refl
wrong names code.Open rest a b = refl
wrong names code.Close rest a b = refl
wrong names code.OpenBrace rest a b = refl
wrong names code.CloseBrace rest a b = refl
wrong names code.Bad rest a b = refl
wrong names code.End rest a b = absurd (a refl)

pub is_wrong : (names : List (List ℕ)) (ts rest : List Token) (token : shown.Token) (whole : Read)
    → ts ≡ before token rest → (token ≡ code.End → ⊥)
    → ((bytes : Bor (List ℕ)) → token ≡ code.Name bytes → ⊥)
    → IsOnTheWay names ts whole → whole ≡ Err BadName
is_wrong names ts rest token whole is not_end not_name h =
    sym h.same ∙ ap (letters_at names) is ∙ wrong names token rest not_end not_name
