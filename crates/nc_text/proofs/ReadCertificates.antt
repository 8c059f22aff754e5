-- What is read of a text is a certificate.
-- The lines are taken in their order, up to `certificate_reads`, which is the law
-- `reads_certificates`.
use Rattle.nc_algebra.specs.Alphabets.{Alphabet, IsAlphabet, IsTextGenerator, IsPolynomialIn, IsTextPolynomial, IsTextWord, IsWeight, IsWordIn}
use Rattle.nc_algebra.specs.Certificates as certificates
use Rattle.nc_algebra.specs.Certificates.{AreLines, Certificate, HasTextWords, IsPart, IsTextCertificate, Part, line_reach}
use Rattle.nc_algebra.specs.Polynomials.{Polynomial}
use Rattle.nc_algebra.specs.Primes.{is_listed_prime}
use Rattle.nc_algebra.specs.Settings.{IsSetting, NamedSetting}
use Rattle.nc_field.proofs.Primes.{listed_is_prime}
use Rattle.nc_text.proofs.ReadRows.{AreLetterNames, IsTextPart, field_reads, generator_reads, letters_read, no_names, part_reads, term_reads, weights_read}
use Rattle.nc_text.proofs.ReadWords.{poly_reads}
use Rattle.nc_text.specs.Certificates.{body_lines, certificate_at, claim_line, end_line, form_line, line_lines, line_lines_in, one_line, part_lines, term_lines, terms_line}
use Rattle.nc_text.specs.Laws.{ReadsCertificates}
use Rattle.nc_text.specs.Reading.{poly_at}
use Rattle.nc_text.specs.Rows.{field_at, generator_at, letters_at, part_at, term_row_at, weights_at}
use Rattle.nc_text.specs.Settings.{alphabet_lines, field_line, generator_lines, letters_line, setting_lines, weights_in, weights_line}
use Rattle.nc_tokens.proofs.Steps.{on_any, on_bind, on_choice}
use Rattle.nc_tokens.specs.Lines.{End, Line, Row, Written, a_line, at_line, begins, behind, lines, the_line, written}
use Rattle.nc_tokens.specs.Wanted.{end_at}
use Rattle.nc_tokens.specs.declared.fault.Kind.{Kind}
use Rattle.nc_tokens.specs.declared.fault.TextFault.{TextFault}
use Rattle.std.proofs.Common.{All, Err, IfOk, List, None, Ok, Option, Result, Some, [], arith, codes, eqb, length, subst, true, ℕ, ◌&&◌, ◌++◌, ◌-◌, ◌<◌, ◌∷◌, ◌≡◌, ◌≤◌}
use Rattle.std.proofs.lemmas.List.Elements.{All-cons, All-nil, All-push, All-replicate, All-weaker}
use Rattle.std.proofs.lemmas.List.{length-replicate}

-- a listed prime is not 0
listed_positive : (p : ℕ) → is_listed_prime p ≡ true → 0 < p
listed_positive p listed =
    let one : 1 < p = (listed_is_prime p listed).above_one in omega (arith, one)

pub at_line_reads : {A : Type 0} (P : A → Type 0) (n : ℕ) (r : Result A Kind) → IfOk r P
    → IfOk (at_line n r) P
at_line_reads P n (Ok x) h = h
at_line_reads P n (Err e) h = tt

-- ---- the setting

field_line_reads : (w : Written) → IfOk (field_line w) (λ x. is_listed_prime x.0 ≡ true)
unfolding field_line
field_line_reads w =
    on_bind _ _ (the_line (codes "field") w) _ (on_any (the_line (codes "field") w)) (λ line _.
    on_bind _ _ (at_line line.number (field_at line.tokens)) _
    (at_line_reads _ line.number (field_at line.tokens) (field_reads line.tokens)) (λ p is. is))

letters_line_reads : (w : Written)
    → IfOk (letters_line w) (λ x. AreLetterNames x.0 × (0 < length x.0))
unfolding letters_line
letters_line_reads w =
    on_bind _ _ (the_line (codes "letters") w) _ (on_any (the_line (codes "letters") w)) (λ line _.
    on_bind _ _ (at_line line.number (letters_at [] line.tokens)) _
    (at_line_reads _ line.number (letters_at [] line.tokens)
    (letters_read [] line.tokens no_names)) (λ names are. are))

-- weights for so many letters
abbrev AreWeights : ℕ → List ℕ → Type 0
AreWeights letters weights = (length weights ≡ letters) × All IsWeight weights

weights_in_reads : (letters : ℕ) (w : Written) (o : Option Row)
    → IfOk (weights_in letters w o) (λ x. AreWeights letters x.0)
weights_in_reads letters w None =
    (length-replicate letters 1, All-replicate IsWeight letters 1 (omega arith, omega arith))
weights_in_reads letters w (Some line) =
    on_bind _ _ (at_line line.number (weights_at letters line.tokens)) _
    (at_line_reads _ line.number (weights_at letters line.tokens)
    (weights_read letters line.tokens)) (λ weights are. are)

pub alphabet_lines_read : (w : Written) → IfOk (alphabet_lines w) (λ x. IsAlphabet x.0)
unfolding alphabet_lines weights_line
alphabet_lines_read w =
    on_bind _ _ (letters_line w) _ (letters_line_reads w)
    (λ names are. on_bind _ _ (weights_line (length names.0) names.1) _
    (weights_in_reads (length names.0) names.1 (a_line (codes "weights") names.1))
    (λ weights each. record {
      some = are.1;
      few = are.0.few;
      named = are.0.named;
      apart = are.0.apart;
      each = each.0;
      weights = each.1;
    }))

generator_lines_read : (p : ℕ) (a : Alphabet) (room : ℕ) (w : Written) → 0 < p
    → IfOk (generator_lines p a room w) (λ x. (length x.0 ≤ room) × All (IsTextGenerator a p) x.0)
unfolding generator_lines
generator_lines_read p a room (End n) some = (omega arith, All-nil (IsTextGenerator a p))
generator_lines_read p a room (Line n clean ts after) some =
    on_choice _ (clean && begins (codes "generator") ts) _ _
    (λ begun. on_bind _ _ (at_line n (generator_at p a room (behind ts))) _
    (at_line_reads _ n (generator_at p a room (behind ts))
    (generator_reads p a room (behind ts) some)) (λ first is.
    on_bind _ _ (generator_lines p a (room - 1) after) _
    (generator_lines_read p a (room - 1) after some) (λ others are. (
      (let r = is.0 in let k = are.0 in omega arith),
      All-cons (IsTextGenerator a p) first others.0 is.1 are.1,
    ))))
    (λ other. (omega arith, All-nil (IsTextGenerator a p)))

pub setting_lines_read : (w : Written) → IfOk (setting_lines w) (λ x. IsSetting x.0)
unfolding setting_lines
setting_lines_read w =
    on_bind _ _ (field_line w) _ (field_line_reads w)
    (λ field listed. on_bind _ _ (alphabet_lines field.1) _ (alphabet_lines_read field.1)
    (λ alphabet is.
    on_bind _ _ (generator_lines field.0 alphabet.0 1000 alphabet.1) _
    (generator_lines_read field.0 alphabet.0 1000 alphabet.1 (listed_positive field.0 listed))
    (λ generators each. record {
      prime = listed;
      alphabet = is;
      few = each.0;
      each = each.1;
    })))

-- ---- the claim

pub claim_line_reads : (p : ℕ) (a : Alphabet) (w : Written) → 0 < p
    → IfOk (claim_line p a w) (λ x. IsTextPolynomial a p x.0)
unfolding claim_line
claim_line_reads p a w some =
    on_bind _ _ (the_line (codes "claim") w) _ (on_any (the_line (codes "claim") w)) (λ line _.
    on_bind _ _ (at_line line.number (poly_at p a line.tokens)) _
    (at_line_reads _ line.number (poly_at p a line.tokens) (poly_reads p a line.tokens some))
    (λ f text. text))

-- ---- the lines

-- lines that may stand in a text, behind those with these reaches
pub record AreTextLines (s : NamedSetting) (reaches : List ℕ) (all : List certificates.Line) : Type
    0 where
  pub lines : AreLines s reaches all
  pub words : All (λ line. All (HasTextWords s) line) all

module _ (s : NamedSetting) (is : IsSetting s) (some : 0 < s.setting.prime) where
  no_lines : (reaches : List ℕ) → AreTextLines s reaches []
  no_lines reaches = record { lines = tt; words = All-nil (λ line. All (HasTextWords s) line) }

  parts_of : (reaches : List ℕ) (parts : List Part) → All (IsTextPart s reaches) parts
      → All (IsPart s reaches) parts
  parts_of reaches parts h =
      All-weaker (IsTextPart s reaches) (IsPart s reaches) (λ part k. k.rule) parts h

  words_of : (reaches : List ℕ) (parts : List Part) → All (IsTextPart s reaches) parts
      → All (HasTextWords s) parts
  words_of reaches parts h =
      All-weaker (IsTextPart s reaches) (HasTextWords s) (λ part k. k.words) parts h

  one_more_line : (reaches : List ℕ) (parts : List Part) (others : List certificates.Line)
      → All (IsTextPart s reaches) parts
      → AreTextLines s (reaches ++ line_reach s.setting reaches parts ∷ []) others
      → AreTextLines s reaches (parts ∷ others)
  one_more_line reaches parts others h rest = record {
    lines = (parts_of reaches parts h, rest.lines);
    words = All-cons (λ line. All (HasTextWords s) line) parts others (words_of reaches parts h)
        rest.words;
  }

  term_lines_read : (w : Written)
      → IfOk (term_lines s.setting.prime s.alphabet (length s.setting.generators) w)
      (λ x. All (IsTextPart s []) x.0)
  unfolding term_lines
  term_lines_read (End n) = All-nil (IsTextPart s [])
  term_lines_read (Line n clean ts after) =
      on_choice _ (clean && begins (codes "term") ts) _ _
      (λ begun. on_bind _ _ (at_line n
      (term_row_at s.setting.prime s.alphabet (length s.setting.generators) (behind ts))) _
      (at_line_reads _ n (term_row_at s.setting.prime s.alphabet (length s.setting.generators)
      (behind ts)) (term_reads s (behind ts) is some)) (λ first h.
      on_bind _ _ (term_lines s.setting.prime s.alphabet (length s.setting.generators) after) _
      (term_lines_read after) (λ others are. All-cons (IsTextPart s []) first others.0 h are)))
      (λ other. All-nil (IsTextPart s []))

  one_line_reads : (parts : List Part) → All (IsTextPart s []) parts
      → AreTextLines s [] (one_line parts)
  one_line_reads [] h = no_lines []
  one_line_reads (part ∷ parts) h =
      one_more_line [] (part ∷ parts) [] h (no_lines (line_reach s.setting [] (part ∷ parts) ∷ []))

  terms_line_reads : (w : Written) → IfOk (terms_line s w) (λ x. AreTextLines s [] x.0)
  unfolding terms_line
  terms_line_reads w =
      on_bind _ _ (term_lines s.setting.prime s.alphabet (length s.setting.generators) w) _
      (term_lines_read w) (λ parts h. one_line_reads parts.0 h)

  part_lines_read : (reaches : List ℕ) (parts : List Part) (w : Written)
      → All (IsTextPart s reaches) parts
      → IfOk (part_lines s reaches parts w) (λ x. AreTextLines s reaches x.0)
  unfolding part_lines
  part_lines_read reaches parts (End n) h = one_more_line reaches parts [] h (no_lines _)
  part_lines_read reaches parts (Line n clean ts after) h =
      on_choice _ (clean && begins (codes "part") ts) _ _
      (λ begun. on_bind _ _ (at_line n (part_at s reaches (behind ts))) _
      (at_line_reads _ n (part_at s reaches (behind ts))
      (part_reads s reaches (behind ts) some)) (λ part k.
      part_lines_read reaches (parts ++ part ∷ []) after
      (All-push (IsTextPart s reaches) parts part h k)))
      (λ other. on_choice _ (clean && begins (codes "line") ts) _ _
      (λ begun. on_bind _ _ (at_line n (end_at (behind ts))) _
      (on_any (at_line n (end_at (behind ts)))) (λ _ _.
      on_bind _ _ (part_lines s (reaches ++ line_reach s.setting reaches parts ∷ []) [] after) _
      (part_lines_read (reaches ++ line_reach s.setting reaches parts ∷ []) [] after
      (All-nil (IsTextPart s (reaches ++ line_reach s.setting reaches parts ∷ []))))
      (λ others are. one_more_line reaches parts others.0 h are)))
      (λ last. one_more_line reaches parts [] h (no_lines _)))

  line_lines_in_read : (w : Written) (o : Option Row)
      → IfOk (line_lines_in s w o) (λ x. AreTextLines s [] x.0)
  line_lines_in_read w None = no_lines []
  line_lines_in_read w (Some line) =
      on_bind _ _ (at_line line.number (end_at line.tokens)) _
      (on_any (at_line line.number (end_at line.tokens)))
      (λ _ _. part_lines_read [] [] line.after (All-nil (IsTextPart s [])))

  line_lines_read : (w : Written) → IfOk (line_lines s w) (λ x. AreTextLines s [] x.0)
  unfolding line_lines
  line_lines_read w = line_lines_in_read w (a_line (codes "line") w)

  body_lines_read : (form : ℕ) (w : Written)
      → IfOk (body_lines form s w) (λ x. AreTextLines s [] x.0)
  body_lines_read form w =
      on_choice _ (eqb form 1) _ _ (λ first. terms_line_reads w) (λ second. line_lines_read w)

text_in : (a : Alphabet) (p : ℕ) (f : Polynomial) → IsTextPolynomial a p f → IsPolynomialIn a p f
text_in a p f h =
    record {
      normal = h.normal;
      words = All-weaker (λ t. IsTextWord a t.key) (λ t. IsWordIn a t.key)
          (λ t k. k.letters) f h.words;
    }

pub certificate_reads : (w : Written) → IfOk (certificate_at w) IsTextCertificate
unfolding certificate_at
certificate_reads w =
    on_bind _ _ (form_line w) _ (on_any (form_line w))
    (λ form _. on_bind _ _ (setting_lines form.1) _ (setting_lines_read form.1) (λ setting is.
    let some = listed_positive setting.0.setting.prime is.prime in
    on_bind _ _ (claim_line setting.0.setting.prime setting.0.alphabet setting.1) _
    (claim_line_reads setting.0.setting.prime setting.0.alphabet setting.1 some) (λ claim text.
    on_bind _ _ (body_lines form.0 setting.0 claim.1) _
    (body_lines_read setting.0 is some form.0 claim.1) (λ body are.
    on_bind _ _ (end_line body.1) _ (on_any (end_line body.1)) (λ _ _. record {
      certificate =
          record {
            setting = is;
            claim = text_in setting.0.alphabet setting.0.setting.prime claim.0
                text;
            lines = are.lines;
          };
      claim = text;
      words = are.words;
    })))))

pub reads_certificates : ReadsCertificates
reads_certificates bytes c e =
    subst (λ (r : Result Certificate TextFault). IfOk r IsTextCertificate) e
    (certificate_reads (written 1 (lines bytes)))
