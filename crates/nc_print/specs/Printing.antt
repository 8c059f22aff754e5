-- The printed forms of words, polynomials, monomials, module elements and certificates.
--
-- Each value that may stand in a text has one printed form, and the laws of nc_text say that
-- reading gives it back. The reader accepts more than printed forms. Terms come in the order in
-- which they are listed, so the terms of a normal form descend. Zero is `0`, and the empty word is
-- `1`.
--
-- A certificate is printed in form 2. The terms of a module element have a printed form as well: a
-- certificate of form 1. docs/FORMATS.md shows both forms to users.
--
-- The functions take the names of the letters, by their numbers. A letter without a name would have
-- an empty one.
use Rattle.nc_algebra.specs.Alphabets.{Alphabet}
use Rattle.nc_algebra.specs.Certificates.{Certificate, Factor, Part}
use Rattle.nc_algebra.specs.Elements.{Element}
use Rattle.nc_algebra.specs.Monomials.{Monomial}
use Rattle.nc_algebra.specs.Polynomials.{Polynomial}
use Rattle.nc_algebra.specs.Settings.{NamedSetting}
use Rattle.nc_algebra.specs.Sums.{Term}
use Rattle.nc_algebra.specs.Words.{Letter, Word}
use Rattle.std.specs.List.{list_all}
use Rattle.std.specs.Prelude.{List, [], codes, decimal, flat_map, if◌then◌else◌, map, slice_index_or, ℕ, ◌++◌, ◌==◌, ◌∷◌}

-- a letter's name
abbrev pub name_of : List (List ℕ) → Letter → List ℕ
name_of names x = slice_index_or names x.index []

-- the pieces with a separator between them
abbrev pub joined : List ℕ → List (List ℕ) → List ℕ
joined separator [] = []
joined separator (x ∷ xs) = x ++ flat_map (λ y. separator ++ y) xs

-- the letters' names joined by `*`; the empty word is `1`
abbrev pub word_text : List (List ℕ) → Word → List ℕ
word_text names [] = codes "1"
word_text names (x ∷ w) = joined (codes "*") (map (name_of names) (x ∷ w))

-- the word alone where the coefficient is 1, the coefficient alone where the word is empty, else
-- both
abbrev pub coefficient_and_word : List (List ℕ) → ℕ → Word → List ℕ
coefficient_and_word names c [] = decimal c
coefficient_and_word names c (x ∷ w) =
    (if c == 1 then [] else decimal c ++ codes "*") ++ word_text names (x ∷ w)

-- a term, as above
abbrev pub term_text : List (List ℕ) → Term Word → List ℕ
term_text names t = coefficient_and_word names t.coefficient t.key

-- the terms joined by ` + `; zero is `0`
abbrev pub poly_text : List (List ℕ) → Polynomial → List ℕ
poly_text names [] = codes "0"
poly_text names (t ∷ f) = joined (codes " + ") (map (term_text names) (t ∷ f))

-- the left word, the generator's number in brackets, the right word
abbrev pub sig_text : List (List ℕ) → Monomial → List ℕ
sig_text names σ =
    word_text names σ.left ++ (codes " ["
    ++ (decimal σ.generator ++ (codes "] " ++ word_text names σ.right)))

-- the monomial alone where the coefficient is 1, else behind the coefficient
abbrev pub module_term_text : List (List ℕ) → Term Monomial → List ℕ
module_term_text names t =
    (if t.coefficient == 1 then [] else decimal t.coefficient ++ codes "*") ++ sig_text names t.key

-- the terms joined by ` + `; zero is `0`
abbrev pub module_text : List (List ℕ) → Element → List ℕ
module_text names [] = codes "0"
module_text names (t ∷ α) = joined (codes " + ") (map (module_term_text names) (t ∷ α))

-- ---- the lines of a certificate

-- the names, each after one space
abbrev pub names_line : List (List ℕ) → List ℕ
names_line names = codes "letters" ++ flat_map (λ name. codes " " ++ name) names

-- the weights, each after one space
abbrev pub printed_weights : List ℕ → List ℕ
printed_weights weights = codes "weights" ++ flat_map (λ m. codes " " ++ decimal m) weights

-- the lines `letters` and, where some weight is not 1, `weights`
abbrev pub printed_alphabet : Alphabet → List (List ℕ)
printed_alphabet a =
    names_line a.names ∷ (if list_all (λ m. m == 1) a.weights then [] else printed_weights a.weights
    ∷ [])

-- a generator behind its keyword
abbrev pub generator_line : List (List ℕ) → Polynomial → List ℕ
generator_line names f = codes "generator " ++ poly_text names f

-- the lines `field`, `letters`, `weights` and `generator`
abbrev pub printed_setting : NamedSetting → List (List ℕ)
printed_setting s =
    (codes "field " ++ decimal s.setting.prime)
    ∷ (printed_alphabet s.alphabet ++ map (generator_line s.alphabet.names) s.setting.generators)

-- a generator's number in brackets, or a line's in braces
abbrev pub factor_text : Factor → List ℕ
factor_text (Factor.a_generator i) = codes " [" ++ (decimal i ++ codes "] ")
factor_text (Factor.a_line k) = codes " {" ++ (decimal k ++ codes "} ")

-- a part: the coefficient as it is, the left word, what is multiplied, the right word
abbrev pub part_line : List (List ℕ) → Part → List ℕ
part_line names part =
    codes "part " ++ (decimal part.coefficient
    ++ (codes " " ++ (word_text names part.left
    ++ (factor_text part.of ++ word_text names part.right))))

-- the line `line`, and the parts
abbrev pub printed_line : List (List ℕ) → List Part → List (List ℕ)
printed_line names parts = codes "line" ∷ map (part_line names) parts

-- all lines, in their order
abbrev pub certificate_lines : Certificate → List (List ℕ)
certificate_lines c =
    codes "certificate 2"
    ∷ (printed_setting c.setting
    ++ (codes "claim " ++ poly_text c.setting.alphabet.names c.claim)
    ∷ (flat_map (printed_line c.setting.alphabet.names) c.lines
    ++ codes "end" ∷ []))

-- each line is ended by a line feed
abbrev pub ended : List (List ℕ) → List ℕ
ended lines = flat_map (λ line. line ++ 10 ∷ []) lines

-- the certificate as a text
abbrev pub certificate_text : Certificate → List ℕ
certificate_text c = ended (certificate_lines c)

-- ---- form 1: the terms of a module element

-- the coefficient as it is, and the monomial
abbrev pub term_line : List (List ℕ) → Term Monomial → List ℕ
term_line names t = codes "term " ++ (decimal t.coefficient ++ (codes " " ++ sig_text names t.key))

-- all lines, in their order
abbrev pub terms_lines : NamedSetting → Polynomial → Element → List (List ℕ)
terms_lines s claim terms =
    codes "certificate 1"
    ∷ (printed_setting s
    ++ (codes "claim " ++ poly_text s.alphabet.names claim)
    ∷ (map (term_line s.alphabet.names) terms
    ++ codes "end" ∷ []))

-- the claim and its terms as a text
abbrev pub terms_text : NamedSetting → Polynomial → Element → List ℕ
terms_text s claim terms = ended (terms_lines s claim terms)
