-- The lines behind the claim that are printed are read again.
-- The lines `line` and `part` one after the other (`line_lines_again`), and the lines `term` of
-- form 1 as one line (`terms_line_again`). The number of a line is read where it has at most 18
-- digits, so the law asks for at most 4,000,000,000 lines.
use Rattle.nc_algebra.specs.Certificates as certificates
use Rattle.nc_algebra.specs.Certificates.{AreLines, HasTextWords, IsPart, Part, element_lines, line_reach, term_part}
use Rattle.nc_algebra.specs.Elements.{Element}
use Rattle.nc_algebra.specs.Monomials.{Monomial}
use Rattle.nc_algebra.specs.Settings.{IsSetting, NamedSetting}
use Rattle.nc_algebra.specs.Sums.{Term}
use Rattle.nc_print.specs.Printing as printing
use Rattle.nc_print.specs.Printing.{part_line, sig_text, term_line}
use Rattle.nc_text.proofs.PartLines.{line_next, other_next, part_next}
use Rattle.nc_text.proofs.PlainText.{part_plain, sig_plain}
use Rattle.nc_text.proofs.PrintedLines.{all_printed, found, not_found}
use Rattle.nc_text.proofs.ReadRows.{IsTextPart}
use Rattle.nc_text.proofs.RoundTripRows.{factor_small, part_again, part_text, term_monomial, term_row_again}
use Rattle.nc_text.proofs.RoundTripSettings.{names_are, small}
use Rattle.nc_text.proofs.Terms.{are_lines}
use Rattle.nc_text.specs.Certificates.{line_lines, line_lines_in, one_line, part_lines, term_lines, terms_line}
use Rattle.nc_tokens.proofs.KeywordLines.{IsLineOf, keyword_line, spaced_line}
use Rattle.nc_tokens.proofs.PlainBytes.{decimal_plain, plain_append}
use Rattle.nc_tokens.proofs.PlainLines.{IsPrintedLine}
use Rattle.nc_tokens.proofs.PrintedTokens.{nothing}
use Rattle.nc_tokens.specs.Lines.{at_line, row, written}
use Rattle.nc_tokens.specs.Tokens.{tokens}
use Rattle.nc_tokens.specs.Wanted.{end_at, ◌>>=◌}
use Rattle.nc_tokens.specs.declared.fault.Kind.{Kind}
use Rattle.std.proofs.Common.{All, List, Ok, Result, [], ap, ap₂, append_assoc, append-nil, arith, codes, decimal, flat_map, length, map, refl, sym, ℕ, ◌++◌, ◌+◌, ◌∙◌, ◌∷◌, ◌≡◌, ◌≤◌}
use Rattle.std.proofs.lemmas.List.Elements.{recursion_from_All}
use Rattle.std.proofs.lemmas.List.{length-append, length-map}
use Rattle.std.specs.List.{AllByRecursion}

line_is : IsLineOf (codes "line") (tokens []) (codes "line")
line_is = keyword_line (codes "line") [] (record { name = refl; begun = λ rest. refl }) tt refl

pub end_is : IsLineOf (codes "end") (tokens []) (codes "end")
end_is = keyword_line (codes "end") [] (record { name = refl; begun = λ rest. refl }) tt refl

abbrev pub the_last : List (List ℕ)
the_last = codes "end" ∷ []

nothing_behind : (n : ℕ) → at_line n (end_at (tokens [])) ≡ Ok tt
unfolding end_at
nothing_behind n = rw nothing refl

module _ (s : NamedSetting) (is : IsSetting s) where
  abbrev names : List (List ℕ)
  names = s.alphabet.names

  abbrev pub AreTextParts : List ℕ → List Part → Type 0
  AreTextParts reaches parts = AllByRecursion (IsTextPart s reaches) parts

  -- lines that may stand in a text, behind those with these reaches
  abbrev pub AreRead : List ℕ → List certificates.Line → Type 0
  AreRead reaches [] = Unit {0}
  AreRead reaches (line ∷ lines) =
      AreTextParts reaches line × AreRead (reaches ++ line_reach s.setting reaches line ∷ []) lines

  parts_are : (reaches : List ℕ) (parts : List Part) → AllByRecursion (IsPart s reaches) parts
      → AllByRecursion (HasTextWords s) parts → AreTextParts reaches parts
  parts_are reaches [] h k = tt
  parts_are reaches (part ∷ parts) h k =
      (record { rule = h.0; words = k.0 }, parts_are reaches parts h.1 k.1)

  pub are_read : (reaches : List ℕ) (lines : List certificates.Line) → AreLines s reaches lines
      → AllByRecursion (λ line. All (HasTextWords s) line) lines → AreRead reaches lines
  are_read reaches [] h k = tt
  are_read reaches (line ∷ lines) h k = (
    parts_are reaches line (recursion_from_All (IsPart s reaches) line h.0)
        (recursion_from_All (HasTextWords s) line k.0),
    are_read (reaches ++ line_reach s.setting reaches line ∷ []) lines h.1 k.1,
  )

  -- ---- form 2

  part_is : (reaches : List ℕ) (part : Part) → length reaches ≤ 4000000000
      → IsTextPart s reaches part → IsLineOf (codes "part") (tokens (part_text names part))
      (part_line names part)
  part_is reaches part few h =
      spaced_line (codes "part") (part_text names part)
      (record { name = refl; begun = λ rest. refl })
      (part_plain s reaches part (small s is) (names_are s is)
      (factor_small s.setting (length reaches) part.of is.few few h.rule.factor) h)

  parts_again : (n : ℕ) (reaches : List ℕ) (front parts : List Part) (ls : List (List ℕ))
      → length reaches ≤ 4000000000 → AreTextParts reaches parts
      → part_lines s reaches front (written n (map (part_line names) parts ++ ls)) ≡ part_lines s
      reaches (front ++ parts) (written (n + length parts) ls)
  parts_again n reaches front [] ls few all =
      let e : n ≡ n + 0 =
      omega arith in ap₂ (λ (q : List Part) (m : ℕ). part_lines s reaches q (written m ls))
      (sym (append-nil front)) e
  parts_again n reaches front (part ∷ parts) ls few all =
      let rest = map (part_line names) parts ++ ls in
      let read =
      part_again s reaches part (small s is) (names_are s is)
      (factor_small s.setting (length reaches) part.of is.few few all.0.rule.factor) all.0 in
      let e : n + 1 + length parts ≡ n + length (part ∷ parts) = omega arith in
      part_next s reaches front (written n (part_line names part ∷ rest))
      (row n (tokens (part_text names part)) (written (n + 1) rest))
      (found (codes "part") (part_line names part) (tokens (part_text names part)) n rest
      (part_is reaches part few all.0))
      ∙ ap (λ (r : Result Part Kind). at_line n r >>= λ q. part_lines s reaches (front ++ q ∷ [])
      (written (n + 1) rest)) read
      ∙ parts_again (n + 1) reaches (front ++ part ∷ []) parts ls few all.1
      ∙ ap₂ (λ (q : List Part) (m : ℕ). part_lines s reaches q (written m ls))
      (append_assoc front (part ∷ []) parts) e

  -- the lines `line` and `part`
  abbrev pub printed : List certificates.Line → List (List ℕ)
  printed lines = flat_map (printing.printed_line names) lines

  regrouped : (line : List Part) (lines : List certificates.Line)
      → printed (line ∷ lines) ++ the_last ≡ codes "line"
      ∷ (map (part_line names) line ++ (printed lines ++ the_last))
  regrouped line lines =
      ap (λ (l : List (List ℕ)). codes "line" ∷ l)
      (append_assoc (map (part_line names) line) (printed lines) the_last)

  counted : (n : ℕ) (line : List Part) (lines : List certificates.Line)
      → n + 1 + length line + length (printed lines) ≡ n + length (printed (line ∷ lines))
  counted n line lines =
      omega (
        arith,
        length-append (map (part_line names) line) (printed lines),
        length-map line (part_line names),
      )

  lines_again : (n : ℕ) (reaches : List ℕ) (parts : List Part) (lines : List certificates.Line)
      → length reaches + 1 + length lines ≤ 4000000000
      → AreRead (reaches ++ line_reach s.setting reaches parts ∷ []) lines
      → part_lines s reaches parts (written n (printed lines ++ the_last)) ≡ Ok (
        parts ∷ lines,
        written (n + length (printed lines)) the_last,
      )
  lines_again n reaches parts [] few all =
      let e : n ≡ n + 0 = omega arith in
      other_next s reaches parts (written n the_last)
      (not_found (codes "end") (codes "end") (tokens []) n [] (codes "part") end_is refl)
      (not_found (codes "end") (codes "end") (tokens []) n [] (codes "line") end_is refl)
      ∙ ap (λ (m : ℕ). Ok (parts ∷ [], written m the_last)) e
  lines_again n reaches parts (line ∷ lines) few all =
      let further = reaches ++ line_reach s.setting reaches parts ∷ [] in
      let short : length further + length (line ∷ lines) ≤ 4000000000 =
      omega (arith, length-append reaches (line_reach s.setting reaches parts ∷ [])) in
      let rest = map (part_line names) line ++ (printed lines ++ the_last) in
      let others =
      parts_again (n + 1) further [] line (printed lines ++ the_last) (omega arith) all.0
      ∙ lines_again (n + 1 + length line) further line lines (omega arith) all.1 in
      ap (λ (l : List (List ℕ)). part_lines s reaches parts (written n l)) (regrouped line lines)
      ∙ line_next s reaches parts (written n (codes "line" ∷ rest))
      (row n (tokens []) (written (n + 1) rest))
      (not_found (codes "line") (codes "line") (tokens []) n rest (codes "part") line_is refl)
      (found (codes "line") (codes "line") (tokens []) n rest line_is)
      ∙ rw (nothing_behind n, others)
      (ap (λ (m : ℕ). Ok (parts ∷ line ∷ lines, written m the_last)) (counted n line lines))

  pub line_lines_again : (n : ℕ) (lines : List certificates.Line) → length lines ≤ 4000000000
      → AreRead [] lines → line_lines s (written n (printed lines ++ the_last))
      ≡ Ok (lines, written (n + length (printed lines)) the_last)
  unfolding line_lines
  line_lines_again n [] few all =
      let e : n ≡ n + 0 = omega arith in
      ap (line_lines_in s (written n the_last))
      (not_found (codes "end") (codes "end") (tokens []) n [] (codes "line") end_is refl)
      ∙ ap (λ (m : ℕ). Ok ([], written m the_last)) e
  line_lines_again n (line ∷ lines) few all =
      let rest = map (part_line names) line ++ (printed lines ++ the_last) in
      let others =
      parts_again (n + 1) [] [] line (printed lines ++ the_last) (omega arith) all.0
      ∙ lines_again (n + 1 + length line) [] line lines (omega arith) all.1 in
      ap (λ (l : List (List ℕ)). line_lines s (written n l)) (regrouped line lines)
      ∙ ap (line_lines_in s (written n (codes "line" ∷ rest)))
      (found (codes "line") (codes "line") (tokens []) n rest line_is)
      ∙ rw (nothing_behind n, others)
      (ap (λ (m : ℕ). Ok (line ∷ lines, written m the_last)) (counted n line lines))

  parts_printed : (reaches : List ℕ) (parts : List Part) → length reaches ≤ 4000000000
      → AreTextParts reaches parts → AllByRecursion IsPrintedLine (map (part_line names) parts)
  parts_printed reaches [] few all = tt
  parts_printed reaches (part ∷ parts) few all =
      ((part_is reaches part few all.0).printed, parts_printed reaches parts few all.1)

  pub lines_printed : (reaches : List ℕ) (lines : List certificates.Line)
      → length reaches + length lines ≤ 4000000000 → AreRead reaches lines
      → AllByRecursion IsPrintedLine (printed lines)
  lines_printed reaches [] few all = tt
  lines_printed reaches (line ∷ lines) few all =
      let further = reaches ++ line_reach s.setting reaches line ∷ [] in (
        line_is.printed,
        all_printed (map (part_line names) line) (printed lines)
            (parts_printed reaches line (omega arith) all.0)
            (lines_printed further lines (omega (
              arith,
              length-append reaches (line_reach s.setting reaches line ∷ []),
            )) all.1),
      )

  -- ---- form 1

  abbrev AreTerms : Element → Type 0
  AreTerms α = AreTextParts [] (map term_part α)

  pub are_terms : (α : Element) → AreRead [] (element_lines α) → AreTerms α
  are_terms [] h = tt
  are_terms (t ∷ α) h = h.0

  term_is : (t : Term Monomial) → IsTextPart s [] (term_part t)
      → IsLineOf (codes "term") (tokens (decimal t.coefficient ++ 32 ∷ sig_text names t.key))
      (term_line names t)
  term_is t h =
      spaced_line (codes "term") (decimal t.coefficient ++ 32 ∷ sig_text names t.key)
      (record { name = refl; begun = λ rest. refl })
      (plain_append (decimal t.coefficient) (32 ∷ sig_text names t.key)
      (decimal_plain t.coefficient (let k = small s is in let r = h.rule.residue in
      omega arith))
      (sig_plain s.alphabet (length s.setting.generators) t.key (names_are s is) is.few
      (term_monomial s t h)))

  terms_again : (n : ℕ) (α : Element) → AreTerms α
      → term_lines s.setting.prime s.alphabet (length s.setting.generators)
      (written n (map (term_line names) α ++ the_last)) ≡ Ok (
        map term_part α,
        written (n + length α) the_last,
      )
  terms_again n [] all =
      let e : n ≡ n + 0 = omega arith in
      (are_lines s.setting.prime s.alphabet (length s.setting.generators)).none 0
      (written n the_last) (not_found (codes "end") (codes "end") (tokens []) n []
      (codes "term") end_is refl)
      ∙ ap (λ (m : ℕ). Ok ([], written m the_last)) e
  terms_again n (t ∷ α) all =
      let rest = map (term_line names) α ++ the_last in
      let next =
      found (codes "term") (term_line names t)
      (tokens (decimal t.coefficient ++ 32 ∷ sig_text names t.key)) n rest (term_is t all.0) in
      let first = term_row_again s t (small s is) (names_are s is) is.few all.0 in
      let others = terms_again (n + 1) α all.1 in
      let e : n + 1 + length α ≡ n + length (t ∷ α) = omega arith in
      (are_lines s.setting.prime s.alphabet (length s.setting.generators)).more 0
      (written n (term_line names t ∷ rest))
      (row n (tokens (decimal t.coefficient ++ 32 ∷ sig_text names t.key))
      (written (n + 1) rest)) next
      ∙ rw (first, others) (ap (λ (m : ℕ). Ok (map term_part (t ∷ α), written m the_last)) e)

  in_one_line : (α : Element) → one_line (map term_part α) ≡ element_lines α
  in_one_line [] = refl
  in_one_line (t ∷ α) = refl

  pub terms_line_again : (n : ℕ) (α : Element) → AreTerms α
      → terms_line s (written n (map (term_line names) α ++ the_last)) ≡ Ok (
        element_lines α,
        written (n + length α) the_last,
      )
  unfolding terms_line
  terms_line_again n α all =
      rw (terms_again n α all) (ap (λ (l : List certificates.Line). Ok
      (l, written (n + length α) the_last)) (in_one_line α))

  pub terms_printed : (α : Element) → AreTerms α
      → AllByRecursion IsPrintedLine (map (term_line names) α)
  terms_printed [] h = tt
  terms_printed (t ∷ α) h = ((term_is t h.0).printed, terms_printed α h.1)
