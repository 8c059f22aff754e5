-- How the definitions see the tokens of the code.
--
-- The definitions have a list of all tokens of a line. Code reads them one by one, and has a token
-- of its own for the end of a line. `IsTakenToken` and `IsTakenLiteral` are on calls that take a
-- token only if it is the wanted one.
use Rattle.nc_tokens.specs.declared.fault.LineError.{LineError}
use Rattle.nc_tokens.specs.declared.fault.LineError.TheVariants as errors
use Rattle.nc_tokens.specs.declared.token.Token as shown
use Rattle.nc_tokens.specs.declared.token.Token.TheVariants as code
use Rattle.nc_tokens.specs.Wanted.{misplaced}
use Rattle.nc_tokens.specs.Tokens.{Bad, Close, CloseBrace, Literal, Long, Minus, Name, Open, OpenBrace, Plus, Power, Times, Token}
use Rattle.std.specs.Prelude.{Bool, List, None, Option, Some, [], false, true, ℕ, ◌∷◌, ◌≡◌}

-- a token of the code; the end of a line is none
abbrev pub seen : shown.Token → Token
seen (code.Literal n) = Literal n
seen code.Long = Long
seen (code.Name name) = Name name.now
seen code.Plus = Plus
seen code.Minus = Minus
seen code.Times = Times
seen code.Power = Power
seen code.Open = Open
seen code.Close = Close
seen code.OpenBrace = OpenBrace
seen code.CloseBrace = CloseBrace
seen code.Bad = Bad
seen code.End = Bad

-- a token of the code in front of tokens
abbrev pub before : shown.Token → List Token → List Token
before code.End rest = []
before token rest = seen token ∷ rest

-- a token of the code that is seen as this one
abbrev pub IsShownAs : shown.Token → Token → Type 0
IsShownAs token as_seen = (rest : List Token) → before token rest ≡ as_seen ∷ rest

-- the fault of a token of the code that stands in a wrong place
abbrev pub IsMisplaced : shown.Token → LineError → Type 0
IsMisplaced token fault = (rest : List Token) → fault ≡ errors.Fault (misplaced (before token rest))

-- a token is taken if it comes next
abbrev pub IsTakenToken : Token → List Token → List Token → Bool → Type 0
IsTakenToken token old new true = old ≡ token ∷ new
IsTakenToken token old new false = (new ≡ old) × ((rest : List Token) → old ≡ token ∷ rest → ⊥)

-- a literal is taken if it comes next
abbrev pub IsTakenLiteral : List Token → List Token → Option ℕ → Type 0
IsTakenLiteral old new (Some n) = old ≡ Literal n ∷ new
IsTakenLiteral old new None =
    (new ≡ old) × ((n : ℕ) (rest : List Token) → old ≡ Literal n ∷ rest → ⊥)
