-- What is wanted next in a line: a value and the tokens behind it, or the first fault.
--
-- The grammar is read by steps. Each one looks at the tokens that are left, and gives a value with
-- the tokens behind it, or a fault. `>>=` puts steps one after the other, and the first fault ends
-- them. So a line has one value or one first fault.
use Rattle.nc_tokens.specs.Tokens.{Close, CloseBrace, Literal, Long, Minus, Name, Open, Plus, Power, Token}
use Rattle.nc_tokens.specs.declared.fault.Kind.TheVariants.{LongLiteral, Syntax}
use Rattle.nc_tokens.specs.declared.fault.Kind.{Kind}
use Rattle.std.specs.Prelude.{Bool, Err, List, Ok, Result, [], false, true, ℕ, ◌∷◌}

infixl 10 ◌>>=◌
-- what comes after a step that told no fault
abbrev pub ◌>>=◌ : {A B E : Type 0} → Result A E → (A → Result B E) → Result B E
(Ok x) >>= f = f x
(Err e) >>= f = Err e

-- the fault of a token, or of a line's end, where the grammar wants something else
abbrev pub misplaced : List Token → Kind
misplaced (Long ∷ _) = LongLiteral
misplaced _ = Syntax

-- a literal
unfoldable pub literal_at : List Token → Result (ℕ × List Token) Kind
literal_at (Literal n ∷ rest) = Ok (n, rest)
literal_at ts = Err (misplaced ts)

-- a name
unfoldable pub name_at : List Token → Result (List ℕ × List Token) Kind
name_at (Name name ∷ rest) = Ok (name, rest)
name_at ts = Err (misplaced ts)

-- the end of the line
unfoldable pub end_at : List Token → Result (Unit {0}) Kind
end_at [] = Ok tt
end_at ts = Err (misplaced ts)

-- the exponent, 1 where no `^` follows
unfoldable pub exponent_at : List Token → Result (ℕ × List Token) Kind
exponent_at (Power ∷ rest) = literal_at rest
exponent_at ts = Ok (1, ts)

-- the sign that may stand before the first term
unfoldable pub sign_at : List Token → Bool × List Token
sign_at (Plus ∷ rest) = (false, rest)
sign_at (Minus ∷ rest) = (true, rest)
sign_at ts = (false, ts)

-- the bracket before a generator's number
unfoldable pub open_at : List Token → Result (List Token) Kind
open_at (Open ∷ rest) = Ok rest
open_at ts = Err (misplaced ts)

-- the bracket behind it
unfoldable pub close_at : List Token → Result (List Token) Kind
close_at (Close ∷ rest) = Ok rest
close_at ts = Err (misplaced ts)

-- the brace behind a line's number
unfoldable pub close_brace_at : List Token → Result (List Token) Kind
close_brace_at (CloseBrace ∷ rest) = Ok rest
close_brace_at ts = Err (misplaced ts)
