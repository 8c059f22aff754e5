-- The bytes of printed pieces are plain: 32 to 126 without `#`.
-- `poly_plain` for polynomials, `sig_plain` for monomials, `part_plain` for parts.
use Rattle.nc_algebra.specs.Alphabets.{Alphabet}
use Rattle.nc_algebra.specs.Certificates.{Factor, Part}
use Rattle.nc_algebra.specs.Monomials.{Monomial}
use Rattle.nc_algebra.specs.Polynomials.{Polynomial}
use Rattle.nc_algebra.specs.Settings.{NamedSetting}
use Rattle.nc_algebra.specs.Words.{Word}
use Rattle.nc_text.proofs.Names.{AreNames}
use Rattle.nc_text.proofs.ReadRows.{IsTextMonomial, IsTextPart}
use Rattle.nc_tokens.proofs.PlainBytes.{ArePlain, decimal_plain, name_plain, plain_append}
use Rattle.nc_text.proofs.RoundTripPolynomials.{AreLetters, ArePrinted, are_letters}
use Rattle.nc_text.proofs.RoundTripRows.{AreEachNames, AreWeights, number_in, part_text, weights_text}
use Rattle.nc_print.specs.Printing.{coefficient_and_word, factor_text, name_of, poly_text, sig_text, term_text, word_text}
use Rattle.std.proofs.Common.{Bool, List, [], arith, cond, decimal, eqb, false, flat_map, map, refl, true, ℕ, ◌++◌, ◌<◌, ◌∷◌, ◌≤◌}

pub names_plain : (names : List (List ℕ)) → AreEachNames names
    → ArePlain (flat_map (λ name. (32 ∷ []) ++ name) names)
names_plain [] h = refl
names_plain (name ∷ names) h = plain_append name _ (name_plain name h.0) (names_plain names h.1)

pub weights_plain : (weights : List ℕ) → AreWeights weights → ArePlain (weights_text weights)
weights_plain [] h = refl
weights_plain (m ∷ weights) h =
    plain_append (decimal m) (weights_text weights) (decimal_plain m (let k = h.0.1 in omega arith))
    (weights_plain weights h.1)

tail_plain : (a : Alphabet) (w : Word) → AreNames a → AreLetters a w
    → ArePlain (flat_map (λ y. (42 ∷ []) ++ y) (map (name_of a.names) w))
tail_plain a [] ns all = refl
tail_plain a (x ∷ w) ns all =
    plain_append (name_of a.names x) _ (name_plain (name_of a.names x) (ns.each x all.0))
    (tail_plain a w ns all.1)

word_plain : (a : Alphabet) (w : Word) → AreNames a → AreLetters a w
    → ArePlain (word_text a.names w)
word_plain a [] ns all = refl
word_plain a (x ∷ w) ns all =
    plain_append (name_of a.names x) _ (name_plain (name_of a.names x) (ns.each x all.0))
    (tail_plain a w ns all.1)

term_plain : (a : Alphabet) (c : ℕ) (w : Word) → c < 65536 → AreNames a → AreLetters a w
    → ArePlain (coefficient_and_word a.names c w)
term_plain a c [] small ns all = decimal_plain c (omega (arith, small))
term_plain a c (x ∷ w) small ns all =
    plain_append (cond (eqb c 1) [] (decimal c ++ 42 ∷ [])) (word_text a.names (x ∷ w))
    (by_one (eqb c 1)) (word_plain a (x ∷ w) ns all)
  where
    by_one : (b : Bool) → ArePlain (cond b [] (decimal c ++ 42 ∷ []))
    by_one true = refl
    by_one false = plain_append (decimal c) (42 ∷ []) (decimal_plain c (omega (arith, small))) refl

terms_plain : (p : ℕ) (a : Alphabet) (f : Polynomial) → p < 65536 → AreNames a → ArePrinted p a f
    → ArePlain (flat_map (λ y. (32 ∷ 43 ∷ 32 ∷ []) ++ y) (map (term_text a.names) f))
terms_plain p a [] small ns all = refl
terms_plain p a (t ∷ f) small ns all =
    plain_append (term_text a.names t) _
    (term_plain a t.coefficient t.key (let k = all.0.small in omega arith) ns all.0.letters)
    (terms_plain p a f small ns all.1)

pub poly_plain : (p : ℕ) (a : Alphabet) (f : Polynomial) → p < 65536 → AreNames a → ArePrinted p a f
    → ArePlain (poly_text a.names f)
poly_plain p a [] small ns all = refl
poly_plain p a (t ∷ f) small ns all =
    plain_append (term_text a.names t) _
    (term_plain a t.coefficient t.key (let k = all.0.small in omega arith) ns all.0.letters)
    (terms_plain p a f small ns all.1)

pub sig_plain : (a : Alphabet) (generators : ℕ) (σ : Monomial) → AreNames a → generators ≤ 1000
    → IsTextMonomial a generators σ → ArePlain (sig_text a.names σ)
sig_plain a generators σ ns few h =
    plain_append (word_text a.names σ.left) _ (word_plain a σ.left ns (are_letters a σ.left h.left))
    (plain_append (decimal σ.generator) (93 ∷ 32 ∷ word_text a.names σ.right)
    (decimal_plain σ.generator (let k = h.listed in omega arith))
    (word_plain a σ.right ns (are_letters a σ.right h.right)))

factor_plain : (of : Factor) → number_in of ≤ 4000000000 → ArePlain (factor_text of)
factor_plain (Factor.a_generator i) few =
    plain_append (decimal i) (93 ∷ 32 ∷ []) (decimal_plain i few) refl
factor_plain (Factor.a_line k) few =
    plain_append (decimal k) (125 ∷ 32 ∷ []) (decimal_plain k few) refl

pub part_plain : (s : NamedSetting) (reaches : List ℕ) (part : Part) → s.setting.prime < 65536
    → AreNames s.alphabet → number_in part.of ≤ 4000000000 → IsTextPart s reaches part
    → ArePlain (part_text s.alphabet.names part)
part_plain s reaches part small ns few h =
    let a = s.alphabet in
    plain_append (decimal part.coefficient)
    (32 ∷ (word_text a.names part.left
    ++ (factor_text part.of ++ word_text a.names part.right)))
    (decimal_plain part.coefficient (let k = h.rule.residue in omega arith))
    (plain_append (word_text a.names part.left)
    (factor_text part.of ++ word_text a.names part.right)
    (word_plain a part.left ns (are_letters a part.left h.words.left))
    (plain_append (factor_text part.of) (word_text a.names part.right) (factor_plain part.of few)
    (word_plain a part.right ns (are_letters a part.right h.words.right))))
