-- The lines of a setting that are printed are read again.
-- The lines are taken in their order (`setting_again`). Where all weights are 1 no line `weights`
-- is printed and none comes next, so the reader takes them to be 1 (`ones`, `ones_again`).
use Rattle.nc_algebra.specs.Alphabets.{Alphabet, IsTextGenerator, IsTextPolynomial, IsWeight, is_name}
use Rattle.nc_algebra.specs.Polynomials.{Polynomial}
use Rattle.nc_algebra.specs.Settings.{IsSetting, NamedSetting}
use Rattle.nc_print.specs.Printing as printing
use Rattle.nc_print.specs.Printing.{generator_line, names_line, poly_text}
use Rattle.nc_text.proofs.Generators.{alphabet_is, are_lines, setting_is}
use Rattle.nc_text.proofs.Names.{AreNames, are_names}
use Rattle.nc_text.proofs.PlainText.{names_plain, poly_plain, weights_plain}
use Rattle.nc_text.proofs.PrintedLines.{all_printed, found, not_found}
use Rattle.nc_text.proofs.RoundTripPolynomials.{poly_again, text_is_printed}
use Rattle.nc_text.proofs.RoundTripRows.{AreEachNames, AreWeights, field_again, generator_again, letters_again, names_break, names_text, prime_positive, prime_small, weights_again, weights_break, weights_text}
use Rattle.nc_text.specs.Certificates.{claim_line}
use Rattle.nc_text.specs.Settings.{alphabet_lines, field_line, generator_lines, letters_line, setting_lines, weights_in, weights_line}
use Rattle.nc_tokens.proofs.KeywordLines.{IsLineOf, keyword_line, spaced_line, taken}
use Rattle.nc_tokens.proofs.PlainBytes.{decimal_plain}
use Rattle.nc_tokens.proofs.PlainLines.{IsPrintedLine}
use Rattle.nc_tokens.specs.Lines.{a_line, row, written}
use Rattle.nc_tokens.specs.Tokens.{tokens}
use Rattle.std.proofs.Common.{Bool, List, None, Ok, [], ap, append_assoc, arith, codes, cond, decimal, eqb, false, length, map, refl, replicate, sym, true, ℕ, ◌++◌, ◌+◌, ◌-◌, ◌<◌, ◌∙◌, ◌∷◌, ◌≡◌, ◌≤◌}
use Rattle.std.proofs.lemmas.Bool.{and_parts, eqb-true}
use Rattle.std.proofs.lemmas.List.Elements.{recursion_from_All}
use Rattle.std.specs.List.{AllByRecursion, list_all}

-- weights that are all 1
ones : (weights : List ℕ) → list_all (λ m. eqb m 1) weights ≡ true
    → replicate (length weights) 1 ≡ weights
ones [] h = refl
ones (m ∷ weights) h =
    let k = and_parts (eqb m 1) (list_all (λ m. eqb m 1) weights) h in
    let one : m ≡ 1 = eqb-true m 1 k.0 in
    let others = ones weights k.1 in cc

module _ (s : NamedSetting) (is : IsSetting s) where
  abbrev pub p : ℕ
  p = s.setting.prime

  abbrev pub a : Alphabet
  a = s.alphabet

  abbrev pub names : List (List ℕ)
  names = s.alphabet.names

  abbrev pub IsText : Polynomial → Type 0
  IsText f = IsTextPolynomial a p f

  abbrev AreGenerators : List Polynomial → Type 0
  AreGenerators fs = AllByRecursion (IsTextGenerator a p) fs

  pub small : p < 65536
  small = prime_small s is

  pub names_are : AreNames a
  names_are = are_names a is.alphabet

  each_name : AreEachNames names
  each_name = recursion_from_All (λ name. is_name name ≡ true) names is.alphabet.named

  each_weight : AreWeights a.weights
  each_weight = recursion_from_All IsWeight a.weights is.alphabet.weights

  generators_are : AreGenerators s.setting.generators
  generators_are = recursion_from_All (IsTextGenerator a p) s.setting.generators is.each

  -- ---- the printed lines

  -- the line `claim`
  abbrev pub claim_text : Polynomial → List ℕ
  claim_text f = codes "claim " ++ poly_text names f

  field_is : IsLineOf (codes "field") (tokens (decimal p)) (codes "field " ++ decimal p)
  field_is =
      spaced_line (codes "field") (decimal p) (record { name = refl; begun = λ rest. refl })
      (decimal_plain p (omega (arith, small)))

  letters_is : IsLineOf (codes "letters") (tokens (names_text names)) (names_line names)
  letters_is =
      keyword_line (codes "letters") (names_text names)
      (record { name = refl; begun = λ rest. refl }) (names_break names)
      (names_plain names each_name)

  weights_is : IsLineOf (codes "weights") (tokens (weights_text a.weights))
      (printing.printed_weights a.weights)
  weights_is =
      keyword_line (codes "weights") (weights_text a.weights)
      (record { name = refl; begun = λ rest. refl }) (weights_break a.weights)
      (weights_plain a.weights each_weight)

  generator_is : (f : Polynomial) → IsText f
      → IsLineOf (codes "generator") (tokens (poly_text names f)) (generator_line names f)
  generator_is f text =
      spaced_line (codes "generator") (poly_text names f)
      (record { name = refl; begun = λ rest. refl })
      (poly_plain p a f small names_are (text_is_printed p a f text))

  pub claim_is : (f : Polynomial) → IsText f
      → IsLineOf (codes "claim") (tokens (poly_text names f)) (claim_text f)
  claim_is f text =
      spaced_line (codes "claim") (poly_text names f) (record { name = refl; begun = λ rest. refl })
      (poly_plain p a f small names_are (text_is_printed p a f text))

  -- ---- reading them

  field_again_line : (n : ℕ) (ls : List (List ℕ))
      → field_line (written n ((codes "field " ++ decimal p) ∷ ls)) ≡ Ok (p, written (n + 1) ls)
  unfolding field_line
  field_again_line n ls =
      rw (
        taken (codes "field") (codes "field " ++ decimal p) (tokens (decimal p)) n ls field_is,
        field_again p small is.prime,
      ) refl

  letters_again_line : (n : ℕ) (ls : List (List ℕ))
      → letters_line (written n (names_line names ∷ ls)) ≡ Ok (names, written (n + 1) ls)
  unfolding letters_line
  letters_again_line n ls =
      rw (
        taken (codes "letters") (names_line names) (tokens (names_text names)) n ls letters_is,
        letters_again names each_name is.alphabet.apart is.alphabet.some is.alphabet.few,
      ) refl

  weights_again_line : (n : ℕ) (ls : List (List ℕ))
      → weights_line (length names) (written n (printing.printed_weights a.weights ∷ ls))
      ≡ Ok (a.weights, written (n + 1) ls)
  unfolding weights_line
  weights_again_line n ls =
      ap (weights_in (length names) (written n (printing.printed_weights a.weights ∷ ls)))
      (found (codes "weights") (printing.printed_weights a.weights)
      (tokens (weights_text a.weights)) n ls weights_is)
      ∙ rw (← is.alphabet.each, weights_again a.weights each_weight) refl

  ones_again : (n : ℕ) (ls : List (List ℕ)) → a_line (codes "weights") (written n ls) ≡ None
      → list_all (λ m. eqb m 1) a.weights ≡ true
      → weights_line (length names) (written n ls) ≡ Ok (a.weights, written n ls)
  unfolding weights_line
  ones_again n ls none all =
      ap (weights_in (length names) (written n ls)) none
      ∙ ap (λ (ms : List ℕ). Ok (ms, written n ls))
      (ap (λ (k : ℕ). replicate k 1) (sym is.alphabet.each) ∙ ones a.weights all)

  -- the lines `letters` and `weights`, which no line `weights` follows
  alphabet_again : (n : ℕ) (ls : List (List ℕ))
      → a_line (codes "weights") (written (n + 1) ls) ≡ None
      → alphabet_lines (written n (printing.printed_alphabet a ++ ls))
      ≡ Ok (a, written (n + length (printing.printed_alphabet a)) ls)
  alphabet_again n ls none = by_test (list_all (λ m. eqb m 1) a.weights) refl
    where
      by_test : (b : Bool) → list_all (λ m. eqb m 1) a.weights ≡ b
          → alphabet_lines (written n ((names_line names ∷ cond b []
          (printing.printed_weights a.weights ∷ [])) ++ ls))
          ≡ Ok (
            a,
            written (n + length (names_line names ∷ cond b []
                (printing.printed_weights a.weights ∷ []))) ls,
          )
      by_test true e =
          alphabet_is names a.weights (written n (names_line names ∷ ls)) (written (n + 1) ls)
          (written (n + 1) ls) (letters_again_line n ls) (ones_again (n + 1) ls none e)
      by_test false e =
          let k : n + 1 + 1 ≡ n + 2 = omega arith in
          alphabet_is names a.weights (written n
          (names_line names ∷ printing.printed_weights a.weights ∷ ls))
          (written (n + 1) (printing.printed_weights a.weights ∷ ls)) (written (n + 1 + 1) ls)
          (letters_again_line n (printing.printed_weights a.weights ∷ ls))
          (weights_again_line (n + 1) ls)
          ∙ ap (λ (m : ℕ). Ok (a, written m ls)) k

  generators_again : (room n : ℕ) (fs : List Polynomial) (ls : List (List ℕ)) → AreGenerators fs
      → length fs ≤ room → ((m : ℕ) → a_line (codes "generator") (written m ls) ≡ None)
      → generator_lines p a room (written n (map (generator_line names) fs ++ ls))
      ≡ Ok (fs, written (n + length fs) ls)
  generators_again room n [] ls all few stops =
      let e : n ≡ n + 0 =
      omega arith in (are_lines p a).none room (written n ls) (stops n)
      ∙ ap (λ (m : ℕ). Ok ([], written m ls)) e
  generators_again room n (f ∷ fs) ls all few stops =
      let rest = map (generator_line names) fs ++ ls in
      let next =
      found (codes "generator") (generator_line names f) (tokens (poly_text names f)) n rest
      (generator_is f all.0.polynomial) in
      let first =
      generator_again p a room (tokens (poly_text names f)) f (omega arith) all.0.nonzero
      (poly_again p a f (prime_positive s is) small names_are all.0.polynomial) in
      let others = generators_again (room - 1) (n + 1) fs ls all.1 (omega arith) stops in
      let e : n + 1 + length fs ≡ n + length (f ∷ fs) = omega arith in
      (are_lines p a).more room (written n (generator_line names f ∷ rest))
      (row n (tokens (poly_text names f)) (written (n + 1) rest)) next
      ∙ rw (first, others) (ap (λ (m : ℕ). Ok (f ∷ fs, written m ls)) e)

  pub claim_again : (n : ℕ) (f : Polynomial) (ls : List (List ℕ)) → IsText f
      → claim_line p a (written n (claim_text f ∷ ls)) ≡ Ok (f, written (n + 1) ls)
  unfolding claim_line
  claim_again n f ls text =
      rw (
        taken (codes "claim") (claim_text f) (tokens (poly_text names f)) n ls (claim_is f text),
        poly_again p a f (prime_positive s is) small names_are text,
      ) refl

  no_weights : (n : ℕ) (fs : List Polynomial) (claim : Polynomial) (ls : List (List ℕ))
      → AreGenerators fs → IsText claim
      → a_line (codes "weights") (written n
      (map (generator_line names) fs ++ claim_text claim ∷ ls)) ≡ None
  no_weights n [] claim ls all text =
      not_found (codes "claim") (claim_text claim) (tokens (poly_text names claim)) n ls
      (codes "weights") (claim_is claim text) refl
  no_weights n (f ∷ fs) claim ls all text =
      not_found (codes "generator") (generator_line names f) (tokens (poly_text names f)) n
      (map (generator_line names) fs ++ claim_text claim ∷ ls) (codes "weights")
      (generator_is f all.0.polynomial) refl

  -- the lines of the setting, before a line `claim`
  pub setting_again : (n : ℕ) (claim : Polynomial) (ls : List (List ℕ)) → IsText claim
      → setting_lines (written n (printing.printed_setting s ++ claim_text claim ∷ ls))
      ≡ Ok (
        s,
        written (n + 1 + length (printing.printed_alphabet a)
            + length s.setting.generators) (claim_text claim ∷ ls),
      )
  setting_again n claim ls text =
      let behind = claim_text claim ∷ ls in
      let generators = map (generator_line names) s.setting.generators in
      let letters = printing.printed_alphabet a in
      let stops =
      (λ (m : ℕ). not_found (codes "claim") (claim_text claim) (tokens (poly_text names claim))
      m ls (codes "generator") (claim_is claim text) refl) in
      ap (λ (l : List (List ℕ)). setting_lines (written n ((codes "field " ++ decimal p) ∷ l)))
      (append_assoc letters generators behind)
      ∙ setting_is p a s.setting.generators
      (written n ((codes "field " ++ decimal p) ∷ (letters ++ (generators ++ behind))))
      (written (n + 1) (letters ++ (generators ++ behind)))
      (written (n + 1 + length letters) (generators ++ behind))
      (written (n + 1 + length letters + length s.setting.generators) behind)
      (field_again_line n (letters ++ (generators ++ behind)))
      (alphabet_again (n + 1) (generators ++ behind)
      (no_weights (n + 1 + 1) s.setting.generators claim ls generators_are text))
      (generators_again 1000 (n + 1 + length letters) s.setting.generators behind generators_are
      is.few stops)

  -- ---- they are printed lines

  generators_printed : (fs : List Polynomial) → AreGenerators fs
      → AllByRecursion IsPrintedLine (map (generator_line names) fs)
  generators_printed [] h = tt
  generators_printed (f ∷ fs) h =
      ((generator_is f h.0.polynomial).printed, generators_printed fs h.1)

  alphabet_printed : AllByRecursion IsPrintedLine (printing.printed_alphabet a)
  alphabet_printed = (letters_is.printed, by_test (list_all (λ m. eqb m 1) a.weights))
    where
      by_test : (b : Bool) → AllByRecursion IsPrintedLine
          (cond b [] (printing.printed_weights a.weights ∷ []))
      by_test true = tt
      by_test false = (weights_is.printed, tt)

  pub setting_printed : AllByRecursion IsPrintedLine (printing.printed_setting s)
  setting_printed = (
    field_is.printed,
    all_printed (printing.printed_alphabet a)
        (map (generator_line names) s.setting.generators) alphabet_printed
        (generators_printed s.setting.generators generators_are),
  )
