-- What a run writes, for each of its answers.
--
-- A report is a function of what was found, so an answer that fixes what was found fixes the bytes.
-- `Basis.antt`, `Member.antt` and `Check.antt` say when each report is written, and docs/FORMATS.md
-- shows them to users. Each line ends with a line feed.
use Rattle.nc_algebra.specs.Polynomials.{Polynomial}
use Rattle.nc_algebra.specs.Monomials.{Monomial}
use Rattle.nc_print.specs.Printing.{poly_text, sig_text}
use Rattle.nc_snapshot.specs.declared.outcome.Listed.{Listed}
use Rattle.nc_snapshot.specs.declared.outcome.Listed.TheVariants.{Claim, Entry as EntryOf, Syzygy as SyzygyOf}
use Rattle.std.specs.Prelude.{List, codes, decimal, ℕ, ◌++◌}

-- the line `invalid`, and what is left of the claim
abbrev pub invalid_report : List (List ℕ) → Polynomial → List ℕ
invalid_report names rest = codes "invalid\nrest " ++ (poly_text names rest ++ codes "\n")

-- the line of the first fault, and the number of its kind
abbrev pub bad_text_report : ℕ → ℕ → List ℕ
bad_text_report line kind =
    codes "bad text line " ++ (decimal line ++ (codes " kind " ++ (decimal kind ++ codes "\n")))

-- the line of the first part that passes the limit on work, and the charge up to it
abbrev pub too_much_report : ℕ → ℕ → List ℕ
too_much_report line charge =
    codes "too much work: line " ++ (decimal line
    ++ (codes " needs " ++ (decimal charge ++ codes "\n")))

-- ---- claims

-- what is left of the claim
abbrev pub remainder_line : List (List ℕ) → Polynomial → List ℕ
remainder_line names rest = codes "remainder " ++ (poly_text names rest ++ codes "\n")

-- the claim has no representation below the bound
abbrev pub not_below_report : List (List ℕ) → Polynomial → List ℕ
not_below_report names rest =
    codes "no representation below the bound\n" ++ remainder_line names rest

-- the next signature, and what is left of the claim
abbrev pub undecided_report : List (List ℕ) → Monomial → Polynomial → List ℕ
undecided_report names next rest =
    codes "undecided\nnext " ++ (sig_text names next ++ (codes "\n" ++ remainder_line names rest))

-- ---- runs

-- an item
abbrev pub item_text : Listed → ℕ → List ℕ
item_text (EntryOf k) terms = codes "entry " ++ (decimal k ++ (codes " has " ++ decimal terms))
item_text (SyzygyOf k) terms = codes "syzygy " ++ (decimal k ++ (codes " has " ++ decimal terms))
item_text Claim terms = codes "claim has " ++ decimal terms

-- the item whose label has more terms than the limit, and how many
abbrev pub too_many_report : Listed → ℕ → List ℕ
too_many_report listed terms = codes "too many terms: " ++ (item_text listed terms ++ codes "\n")
