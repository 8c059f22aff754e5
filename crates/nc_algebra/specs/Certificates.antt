-- Certificates of ideal membership: lines, each a sum of multiples of generators and earlier lines.
--
-- A certificate shows that its claim lies in the ideal of the generators. A part c a f b has a
-- generator or the value of an earlier line as its factor f, and a line is the sum of its parts.
-- Later lines may use a line any number of times, so a certificate can be much shorter than its
-- claim written out in generators. Values are lists of terms, not normal forms. Generators and
-- lines are counted from 1, and the value of a number out of range is zero.
--
-- The reach of a line limits the letters of the words in its value, and is told without making the
-- value. The rule of certificates bounds it, so that a check knows the length of its words
-- beforehand.
--
-- A line also stands for a module element: itself with all lines before it written out in
-- generators. By the law `Cofactors` it evaluates to the value of the line, so a valid certificate
-- has cofactors of its claim. In turn, the terms of a module element are a certificate of one line.
use Rattle.nc_algebra.specs.Alphabets.{IsPolynomialIn, IsTextPolynomial, IsTextWord, IsWordIn}
use Rattle.nc_algebra.specs.Elements.{Element, IsGenerator, SamePolynomial, Setting, element_times, generator}
use Rattle.nc_algebra.specs.Limits.{max_reach}
use Rattle.nc_algebra.specs.Monomials.{Monomial, unit_monomial}
use Rattle.nc_algebra.specs.Polynomials.{Polynomial, normal_form, polynomial_times}
use Rattle.nc_algebra.specs.Settings.{IsSetting, NamedSetting}
use Rattle.nc_algebra.specs.Sums.{Term, minus, scale}
use Rattle.nc_algebra.specs.Words.{Word}
use Rattle.std.specs.Prelude.{All, List, [], get_or, length, map, max, suc, zero, ℕ, ◌++◌, ◌+◌, ◌<◌, ◌∷◌, ◌≤◌}

-- ---- lines

-- what is multiplied: a generator, or the value of a line; both are counted from 1
pub data Factor : Type 0 where
  a_generator : ℕ → Factor
  a_line : ℕ → Factor

-- c a f b
pub record Part : Type 0 where
  pub coefficient : ℕ
  pub left : Word
  pub of : Factor
  pub right : Word

-- the sum of its parts
abbrev pub Line : Type 0
Line = List Part

-- ---- values

-- item k of a list that is counted from 1
abbrev pub item : {X : Type 0} → X → List X → ℕ → X
item none xs zero = none
item none xs (suc k) = get_or xs k none

-- the polynomial of a factor, over the values of the lines before it
abbrev pub factor_value : Setting → List Polynomial → Factor → Polynomial
factor_value s values (Factor.a_generator i) = generator s i
factor_value s values (Factor.a_line k) = item [] values k

-- the value of a part
abbrev pub part_value : Setting → List Polynomial → Part → Polynomial
part_value s values part =
    scale part.coefficient (polynomial_times part.left (factor_value s values part.of) part.right)

-- the value of a line: the sum of the values of its parts
unfoldable pub line_value : Setting → List Polynomial → Line → Polynomial
line_value s values [] = []
line_value s values (part ∷ line) = part_value s values part ++ line_value s values line

-- the values so far, and then those of the lines, each over all before it
unfoldable pub values_after : Setting → List Polynomial → List Line → List Polynomial
values_after s values [] = values
values_after s values (line ∷ lines) =
    values_after s (values ++ line_value s values line ∷ []) lines

-- the values of lines
abbrev pub values_of : Setting → List Line → List Polynomial
values_of s = values_after s []

-- the value of the last line, and zero where there is none
abbrev pub lines_value : Setting → List Line → Polynomial
lines_value s lines = item [] (values_of s lines) (length lines)

-- ---- certificates

-- a setting, a claim, and the lines of which the last one is to have the claim's value
pub record Certificate : Type 0 where
  pub setting : NamedSetting
  pub claim : Polynomial
  pub lines : List Line

-- the last line's value is the claim; where there is no line the claim is zero
abbrev pub IsValid : Setting → Polynomial → List Line → Type 0
IsValid s claim lines = SamePolynomial s (lines_value s lines) claim

-- the rest: the claim minus the value of the last line
abbrev pub rest_of : Setting → Polynomial → List Line → Polynomial
rest_of s claim lines = normal_form s.prime (minus s.prime claim 1 (lines_value s lines))

-- ---- reach: how many letters a word of a value can have

-- the most letters of a word of f
abbrev pub longest : Polynomial → ℕ
longest [] = 0
longest (t ∷ f) = max (length t.key) (longest f)

-- the reach of a factor, over the reaches of the lines before it
abbrev pub factor_reach : Setting → List ℕ → Factor → ℕ
factor_reach s reaches (Factor.a_generator i) = longest (generator s i)
factor_reach s reaches (Factor.a_line k) = item 0 reaches k

-- the reach of a part
abbrev pub part_reach : Setting → List ℕ → Part → ℕ
part_reach s reaches part = length part.left + factor_reach s reaches part.of + length part.right

-- the reach of a line: the greatest of its parts
unfoldable pub line_reach : Setting → List ℕ → Line → ℕ
line_reach s reaches [] = 0
line_reach s reaches (part ∷ line) = max (part_reach s reaches part) (line_reach s reaches line)

-- ---- the rule of certificates

-- a generator of the setting, or one of so many lines
abbrev pub IsFactor : Setting → ℕ → Factor → Type 0
IsFactor s lines (Factor.a_generator i) = IsGenerator s i
IsFactor s lines (Factor.a_line k) = (1 ≤ k) × (k ≤ lines)

-- a part of a line behind those with these reaches
pub record IsPart (s : NamedSetting) (reaches : List ℕ) (part : Part) : Type 0 where
  pub residue : part.coefficient < s.setting.prime
  pub factor : IsFactor s.setting (length reaches) part.of
  pub left : IsWordIn s.alphabet part.left
  pub right : IsWordIn s.alphabet part.right
  pub short : part_reach s.setting reaches part ≤ max_reach

-- lines behind those with these reaches
abbrev pub AreLines : NamedSetting → List ℕ → List Line → Type 0
AreLines s reaches [] = Unit {0}
AreLines s reaches (line ∷ lines) =
    All (IsPart s reaches) line × AreLines s (reaches ++ line_reach s.setting reaches line ∷ [])
    lines

-- a certificate: its lines name generators of the setting and earlier lines, and no word of a value
-- is longer than 100,000
pub record IsCertificate (c : Certificate) : Type 0 where
  pub setting : IsSetting c.setting
  pub claim : IsPolynomialIn c.setting.alphabet c.setting.setting.prime c.claim
  pub lines : AreLines c.setting [] c.lines

-- ---- certificates of a text

-- the words of a part may stand in a text
pub record HasTextWords (s : NamedSetting) (part : Part) : Type 0 where
  pub left : IsTextWord s.alphabet part.left
  pub right : IsTextWord s.alphabet part.right

-- a certificate that has a printed form: its words have at most 255 letters
pub record IsTextCertificate (c : Certificate) : Type 0 where
  pub certificate : IsCertificate c
  pub claim : IsTextPolynomial c.setting.alphabet c.setting.setting.prime c.claim
  pub words : All (λ line. All (HasTextWords c.setting) line) c.lines

-- ---- lines and module elements

-- the element of a factor, over those of the lines before it
abbrev pub factor_element : List Element → Factor → Element
factor_element elements (Factor.a_generator i) =
    record { coefficient = 1; key = unit_monomial i } ∷ []
factor_element elements (Factor.a_line k) = item [] elements k

-- the element of a part
abbrev pub part_element : List Element → Part → Element
part_element elements part =
    scale part.coefficient (element_times part.left (factor_element elements part.of) part.right)

-- the element of a line
unfoldable pub line_element : List Element → Line → Element
line_element elements [] = []
line_element elements (part ∷ line) = part_element elements part ++ line_element elements line

-- the elements so far, and then those of the lines
unfoldable pub elements_after : List Element → List Line → List Element
elements_after elements [] = elements
elements_after elements (line ∷ lines) =
    elements_after (elements ++ line_element elements line ∷ []) lines

-- the cofactors that the last line stands for: the lines before it written out in generators
abbrev pub lines_element : List Line → Element
lines_element lines = item [] (elements_after [] lines) (length lines)

-- a term as a part
abbrev pub term_part : Term Monomial → Part
term_part t =
    record {
      coefficient = t.coefficient;
      left = t.key.left;
      of = Factor.a_generator t.key.generator;
      right = t.key.right;
    }

-- the terms of an element as the parts of one line, and no line where there is no term
abbrev pub element_lines : Element → List Line
element_lines [] = []
element_lines (t ∷ α) = map term_part (t ∷ α) ∷ []
