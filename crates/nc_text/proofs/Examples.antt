-- Texts, and what they are read as: a certificate, a bound, or the first fault.
use Rattle.nc_algebra.specs.Alphabets.{Alphabet, letter_at}
use Rattle.nc_algebra.specs.Certificates.{Certificate, Factor, element_lines, line_reach}
use Rattle.nc_algebra.specs.Elements.{Element, generator}
use Rattle.nc_algebra.specs.Polynomials.{Polynomial, normal_form, with_term}
use Rattle.nc_algebra.specs.Problems.{Bound}
use Rattle.nc_algebra.specs.Settings.{NamedSetting}
use Rattle.nc_algebra.specs.Words.{Word}
use Rattle.nc_text.specs.Certificates.{certificate_at, claim_line, end_line, form_line, line_lines, part_lines, reads_certificate, term_lines, terms_line}
use Rattle.nc_text.specs.Settings.{alphabet_lines, field_line, generator_lines, letters_line, setting_lines, weights_line}
use Rattle.nc_tokens.specs.Lines.{a_line, fault_at, lines, the_end, the_line, written}
use Rattle.nc_print.specs.Printing.{certificate_text, terms_text}
use Rattle.nc_tokens.specs.Wanted.{close_at, close_brace_at, end_at, exponent_at, literal_at, name_at, open_at, sign_at}
use Rattle.nc_text.specs.Reading.{factor_at, factors_at, poly_at, term_at, terms_at, word_behind}
use Rattle.nc_text.specs.Rows.{below_at, bound_at, degree_at, field_at, form_at, generator_at, generator_number_at, letters_at, line_number_at, mono_at, multiplied_at, part_at, side_at, steps_at, term_row_at, weights_at}
use Rattle.nc_tokens.specs.Tokens.{pieces, tokens}
use Rattle.nc_tokens.specs.declared.fault.Kind.{Kind}
use Rattle.nc_tokens.specs.declared.fault.Kind.TheVariants.{BadByte, BadName, BadPrime, DoubleName, LongLiteral, LongWord, Missing, OutOfRange, Syntax, TooManyGenerators, UnknownName, WrongLine, ZeroGenerator}
use Rattle.std.proofs.Common.{Err, List, Ok, Result, [], codes, refl, ℕ, ◌++◌, ◌∷◌, ◌≡◌}
use Rattle.std.specs.Fmt.{digits}

-- the letters x and y with these weights
abbrev weighted : List ℕ → Alphabet
weighted weights = record { names = codes "x" ∷ codes "y" ∷ []; weights = weights }

abbrev plain : Alphabet
plain = weighted (1 ∷ 1 ∷ [])

abbrev one : Word
one = []

abbrev x : Alphabet → Word
x a = letter_at a 0 ∷ []

abbrev y : Alphabet → Word
y a = letter_at a 1 ∷ []

-- ---- form 1: y = (x + 1) y - x y, modulo 101

abbrev difference : NamedSetting
difference = record {
  alphabet = plain;
  setting = record {
    prime = 101;
    generators =
        (record { coefficient = 1; key = x plain } ∷ [])
        ∷ (record { coefficient = 1; key = x plain } ∷ record { coefficient = 1; key = one } ∷ [])
        ∷ [];
  };
}

abbrev claim : Polynomial
claim = record { coefficient = 1; key = y plain } ∷ []

abbrev terms : Element
terms = record { coefficient = 1; key = record { left = one; generator = 2; right = y plain } }
    ∷ record { coefficient = 100; key = record { left = one; generator = 1; right = y plain } } ∷ []

abbrev text : List ℕ
text =
    codes "certificate 1\nfield 101\nletters x y\ngenerator x\ngenerator x + 1\n"
    ++ codes "claim y\nterm 1 1 [2] y\nterm 100 1 [1] y\nend\n"

printed : terms_text difference claim terms ≡ text
unfolding digits
printed = refl

read : reads_certificate text ≡ Ok (record {
  setting = difference;
  claim = claim;
  lines = element_lines terms;
})
unfolding certificate_at claim_line end_line field_line form_line generator_lines letters_line
    weights_line alphabet_lines setting_lines term_lines terms_line lines a_line the_end the_line
    written end_at exponent_at factor_at factors_at literal_at name_at poly_at sign_at term_at
    terms_at word_behind close_at field_at form_at generator_at generator_number_at letters_at
    mono_at term_row_at open_at side_at pieces tokens normal_form with_term
read = refl

-- ---- form 2: x y - y x = -(x f - f x) with f = x x - y, modulo 101

abbrev commutator : List ℕ → Certificate
commutator weights =
    let a = weighted weights in
    record {
      setting =
          record {
            alphabet = a;
            setting = record {
              prime = 101;
              generators = (record {
                coefficient = 1;
                key = x a ++ x a;
              } ∷ record { coefficient = 100; key = y a } ∷ []) ∷ [];
            };
          };
      claim = record {
        coefficient = 100;
        key = y a ++ x a;
      } ∷ record { coefficient = 1; key = x a ++ y a } ∷ [];
      lines =
          (record { coefficient = 1; left = one; of = Factor.a_generator 1; right = one } ∷ [])
          ∷ (record {
            coefficient = 1;
            left = x a;
            of = Factor.a_line 1;
            right = one;
          } ∷ record {
            coefficient = 100;
            left = one;
            of = Factor.a_line 1;
            right = x a;
          } ∷ [])
          ∷ (record { coefficient = 100; left = one; of = Factor.a_line 2; right = one } ∷ [])
          ∷ [];
    }

-- with this line behind the letters
abbrev by_lines : List ℕ → List ℕ
by_lines weights =
    codes "certificate 2\nfield 101\nletters x y\n" ++ (weights
    ++ (codes "generator x*x + 100*y\nclaim 100*y*x + x*y\nline\npart 1 1 [1] 1\nline\n"
    ++ codes "part 1 x {1} 1\npart 100 1 {1} x\nline\npart 100 1 {2} 1\nend\n"))

printed_by_lines : (certificate_text (commutator (1 ∷ 1 ∷ [])) ≡ by_lines [])
    × (certificate_text (commutator (2 ∷ 3 ∷ [])) ≡ by_lines (codes "weights 2 3\n"))
unfolding digits
printed_by_lines = (refl, refl)

-- few spaces are wanted, and signs may stand in front of terms
abbrev spare : List ℕ
spare =
    codes "certificate 2\nfield 101\nletters x y\nweights 2 3\ngenerator x^2-y\nclaim x*y-y*x\n"
    ++ codes "line\npart 1 1[1]1\nline\npart 1 x{1}1\npart 100 1{1}x\nline\npart 100 1{2}1\nend"

-- ---- the first fault of a text is told, with its line

abbrev TellsFault : List ℕ → ℕ → Kind → Type 0
TellsFault bytes line kind = reads_certificate bytes ≡ Err (fault_at line kind)

faults :
    TellsFault (codes "certificate 1\n\n # field\n") 4 Missing
    × TellsFault (codes "\tcertificate 1\r\nletters") 2 WrongLine
    × TellsFault (codes "certificate 1 1\u{7}") 1 BadByte
unfolding certificate_at claim_line end_line field_line form_line generator_lines letters_line
    weights_line alphabet_lines setting_lines lines a_line the_end the_line written end_at
    exponent_at factor_at factors_at literal_at name_at poly_at sign_at term_at terms_at word_behind
    field_at form_at generator_at letters_at weights_at pieces tokens normal_form with_term
faults = (refl, refl, refl)

abbrev behind_claim : List ℕ → List ℕ
behind_claim body = codes "certificate 2\nfield 101\nletters x\ngenerator x\nclaim x\n" ++ body

-- lines are read, and a part names an earlier line and stands behind a line `line`
lines_read : (reads_certificate spare ≡ Ok (commutator (2 ∷ 3 ∷ [])))
    × TellsFault (behind_claim (codes "line\npart 1 1 {1} 1\nend")) 7 OutOfRange
    × TellsFault (behind_claim (codes "line\npart 1 1 [2] 1\nend")) 7 OutOfRange
    × TellsFault (behind_claim (codes "line\npart 1 1 [1} 1\nend")) 7 Syntax
    × TellsFault (behind_claim (codes "line 1\nend")) 6 Syntax
    × TellsFault (behind_claim (codes "part 1 1 [1] 1\nend")) 6 WrongLine
    × TellsFault (behind_claim (codes "term 1 1 [1] 1\nend")) 6 WrongLine
unfolding certificate_at claim_line end_line field_line form_line generator_lines letters_line
    weights_line alphabet_lines setting_lines line_lines part_lines lines a_line the_end the_line
    written end_at exponent_at factor_at factors_at literal_at name_at poly_at sign_at term_at
    terms_at word_behind close_at close_brace_at field_at form_at generator_at generator_number_at
    letters_at weights_at line_number_at multiplied_at part_at open_at side_at pieces tokens
    normal_form with_term generator line_reach
lines_read = (refl, refl, refl, refl, refl, refl, refl)

-- blanks, comments and carriage returns say nothing
otherwise : reads_certificate (codes
    "\n certificate 01 # form\r\nfield 101\r\nletters x\nclaim-100*x^1\nend\n\n")
    ≡ reads_certificate (codes "certificate 1\nfield 101\nletters x\nclaim x\nend")
unfolding certificate_at claim_line end_line field_line form_line generator_lines letters_line
    weights_line alphabet_lines setting_lines term_lines terms_line lines a_line the_end the_line
    written end_at exponent_at factor_at factors_at literal_at name_at poly_at sign_at term_at
    terms_at word_behind field_at form_at letters_at pieces tokens normal_form with_term
otherwise = refl

-- ---- the first fault of a line is told

forms : (form_at (tokens (codes "01")) ≡ Ok 1) × (form_at (tokens (codes "2")) ≡ Ok 2)
    × (form_at (tokens (codes "3 x")) ≡ Err OutOfRange)
    × (form_at (tokens (codes "x")) ≡ Err Syntax)
unfolding form_at literal_at end_at tokens pieces
forms = (refl, refl, refl, refl)

fields : (field_at (tokens (codes "4 x")) ≡ Err BadPrime)
    × (field_at (tokens (codes "7 7")) ≡ Err Syntax)
    × (field_at (tokens (codes "1000000000000000000")) ≡ Err LongLiteral)
unfolding field_at literal_at end_at tokens pieces
fields = (refl, refl, refl)

letters : (letters_at [] (tokens (codes " ")) ≡ Err Syntax)
    × (letters_at [] (tokens (codes "x 7")) ≡ Err BadName)
    × (letters_at [] (tokens (codes "x y x 2")) ≡ Err DoubleName)
unfolding letters_at tokens pieces
letters = (refl, refl, refl)

-- of two letters
abbrev weights : List ℕ → Result (List ℕ) Kind
weights bytes = weights_at 2 (tokens bytes)

weight_lists : (weights (codes "01 100") ≡ Ok (1 ∷ 100 ∷ [])) × (weights (codes "1") ≡ Err Syntax)
    × (weights (codes "1 2 3") ≡ Err Syntax) × (weights (codes "1 0") ≡ Err OutOfRange)
    × (weights (codes "1 101") ≡ Err OutOfRange)
unfolding weights_at literal_at end_at tokens pieces
weight_lists = (refl, refl, refl, refl, refl)

abbrev generator_of : List ℕ → Result Polynomial Kind
generator_of bytes = generator_at 101 plain 1000 (tokens bytes)

generators : (generator_of (codes "102*x^1*y^0")
    ≡ Ok (record { coefficient = 1; key = x plain } ∷ []))
    × (generator_of (codes "-100+x")
    ≡ Ok (record { coefficient = 1; key = x plain } ∷ record { coefficient = 1; key = one }
    ∷ []))
    × (generator_of (codes "x-x") ≡ Err ZeroGenerator)
    × (generator_of (codes "x-x $") ≡ Err Syntax)
    × (generator_of (codes "x^255*z") ≡ Err UnknownName)
    × (generator_of (codes "x^255*y 7") ≡ Err LongWord)
    × (generator_of (codes "0*x^256") ≡ Err LongWord)
    × (generator_at 101 plain 0 (tokens (codes "z")) ≡ Err TooManyGenerators)
unfolding generator_at poly_at sign_at terms_at term_at word_behind factors_at factor_at name_at
    exponent_at literal_at tokens pieces normal_form with_term
generators = (refl, refl, refl, refl, refl, refl, refl, refl)

-- over one generator
abbrev bound : List ℕ → Result Bound Kind
bound bytes = bound_at plain 1 (tokens bytes)

bounds : (bound (codes "degree 1000") ≡ Ok (Bound.to_degree 1000))
    × (bound (codes "below x [1] x")
    ≡ Ok (Bound.under (record { left = x plain; generator = 1; right = x plain })))
    × (bound (codes "degree 1001 x") ≡ Err OutOfRange)
    × (bound (codes "degree4") ≡ Err Syntax)
    × (bound (codes "below x [2] x") ≡ Err OutOfRange)
unfolding bound_at degree_at below_at mono_at side_at generator_number_at open_at close_at end_at
    factors_at factor_at name_at exponent_at literal_at tokens pieces
bounds = (refl, refl, refl, refl, refl)

step_counts : (steps_at (tokens (codes "1000000000")) ≡ Ok 1000000000)
    × (steps_at (tokens (codes "1000000001")) ≡ Err OutOfRange)
unfolding steps_at literal_at end_at tokens pieces
step_counts = (refl, refl)
