-- What is printed behind a keyword is read again.
-- One lemma for each: `field_again`, `letters_again`, `weights_again`, `generator_again`,
-- `mono_again`, `term_row_again`, `part_again`.
use Rattle.nc_algebra.specs.Alphabets.{Alphabet, IsTextWord, IsWeight, is_name}
use Rattle.nc_algebra.specs.Certificates.{Factor, IsFactor, Part, part_reach, term_part}
use Rattle.nc_algebra.specs.Elements.{Setting}
use Rattle.nc_algebra.specs.Lists.{Among, IsDistinct}
use Rattle.nc_algebra.specs.Monomials.{Monomial}
use Rattle.nc_algebra.specs.Polynomials.{Polynomial}
use Rattle.nc_algebra.specs.Primes.{is_listed_prime}
use Rattle.nc_algebra.specs.Settings.{IsSetting, NamedSetting}
use Rattle.nc_algebra.specs.Sums.{Term}
use Rattle.nc_algebra.specs.Words.{Word}
use Rattle.nc_tokens.proofs.Digits.{decimal_is, one_is}
use Rattle.nc_text.proofs.Names.{AreNames}
use Rattle.nc_text.proofs.ReadRows.{IsTextMonomial, IsTextPart}
use Rattle.nc_tokens.proofs.Bytes.{bytes_apart}
use Rattle.nc_tokens.proofs.PrintedTokens.{IsBreak, close_token, literal_token, name_token, nothing, open_token, space_token}
use Rattle.nc_text.proofs.RoundTripPolynomials.{AreLetters, Ends, are_letters, ends_nothing, word_again, word_rest, word_tokens}
use Rattle.nc_print.specs.Printing.{factor_text, name_of, sig_text, word_text}
use Rattle.nc_tokens.specs.Wanted.{close_at, close_brace_at, end_at, exponent_at, literal_at, open_at, ◌>>=◌}
use Rattle.nc_text.specs.Reading.{poly_at, word_behind}
use Rattle.nc_text.specs.Rows.{counted, field_at, further_name, generator_at, generator_number_at, letters_at, line_number_at, mono_at, multiplied_at, part_at, side_at, term_row_at, weights_at, within_reach}
use Rattle.nc_tokens.specs.Tokens.{Close, CloseBrace, Literal, Name, Open, OpenBrace, Token, pieces, tokens}
use Rattle.nc_tokens.specs.declared.fault.Kind.{Kind}
use Rattle.std.proofs.Common.{IsTrue, List, Ok, Result, [], ap, arith, bytes_eq, decimal, eqb, false, flat_map, inl, inr, length, ltb, map, refl, sym, true, ℕ, ◌&&◌, ◌++◌, ◌+◌, ◌<◌, ◌∙◌, ◌∷◌, ◌≡◌, ◌≢◌, ◌≤◌, append_assoc, append-nil}
use Rattle.std.proofs.Math.Nat.{mod-eq_of_lt}
use Rattle.std.proofs.lemmas.Bool.Decides.{nat_tests}
use Rattle.std.proofs.lemmas.Bool.{and_from, le-ltb, lt-ltb, ne_eqb, or_from}
use Rattle.std.proofs.lemmas.List.Folds.{list_any-append}
use Rattle.std.proofs.lemmas.List.{length-append}
use Rattle.std.specs.List.{AllByRecursion, list_any}

-- ---- field

listed_facts : (p : ℕ) → is_listed_prime p ≡ true → (0 < p) × (p < 65536)
listed_facts p e = (grind (arith, nat_tests), grind (arith, nat_tests))

pub prime_positive : (s : NamedSetting) → IsSetting s → 0 < s.setting.prime
prime_positive s is = (listed_facts s.setting.prime is.prime).0

pub prime_small : (s : NamedSetting) → IsSetting s → s.setting.prime < 65536
prime_small s is = (listed_facts s.setting.prime is.prime).1

pub field_again : (p : ℕ) → p < 65536 → is_listed_prime p ≡ true
    → field_at (tokens (decimal p)) ≡ Ok p
unfolding field_at literal_at end_at
field_again p small listed =
    let text : tokens (decimal p) ≡ Literal p ∷ [] =
    ap tokens (sym (append-nil (decimal p)))
    ∙ literal_token (decimal p) [] p (decimal_is p (omega (arith, small))) tt
    ∙ ap (λ (ts : List Token). Literal p ∷ ts) nothing in
    ap field_at text ∙ rw (listed) refl

-- ---- letters

abbrev pub names_text : List (List ℕ) → List ℕ
names_text names = flat_map (λ name. (32 ∷ []) ++ name) names

pub names_break : (names : List (List ℕ)) → IsBreak (names_text names)
names_break [] = tt
names_break (name ∷ names) = (refl, refl)

-- each of them is a name
abbrev pub AreEachNames : List (List ℕ) → Type 0
AreEachNames names = AllByRecursion (λ name. IsTrue (is_name name)) names

names_tokens : (names : List (List ℕ)) → AreEachNames names
    → tokens (names_text names) ≡ map Name names
names_tokens [] named = nothing
names_tokens (name ∷ names) named =
    space_token (name ++ names_text names) ∙ name_token name (names_text names) named.0
    (names_break names) ∙ ap (λ (ts : List Token). Name name ∷ ts) (names_tokens names named.1)

-- each of them differs from those in front
abbrev AreNew : List (List ℕ) → List (List ℕ) → Type 0
AreNew front names = AllByRecursion (λ name. list_any (λ n. bytes_eq n name) front ≡ false) names

nothing_in_front : (names : List (List ℕ)) → AreNew [] names
nothing_in_front [] = tt
nothing_in_front (name ∷ names) = (refl, nothing_in_front names)

still_new : (front : List (List ℕ)) (x : List ℕ) (names : List (List ℕ)) → ¬ Among x names
    → AreNew front names → AreNew (front ++ x ∷ []) names
still_new front x [] apart new = tt
still_new front x (y ∷ names) apart new = (
  list_any-append (λ n. bytes_eq n y) front (x ∷ [])
      ∙ or_from _ _ new.0 (or_from _ _ (bytes_apart x y (λ e. apart (inl e))) refl),
  still_new front x names (λ k. apart (inr k)) new.1,
)

names_again : (front names : List (List ℕ)) → AreEachNames names → IsDistinct names
    → AreNew front names → length front + length names ≤ 64 → 0 < length front + length names
    → letters_at front (map Name names) ≡ Ok (front ++ names)
unfolding letters_at
names_again front [] named distinct new few some =
    let k : eqb (length front) 0 ≡ false = ne_eqb _ _ (omega arith) in
    rw (k) (ap (λ (l : List (List ℕ)). Ok l) (sym (append-nil front)))
names_again front (x ∷ names) named distinct new few some =
    let room : ltb (length front) 64 ≡ true = lt-ltb _ _ (omega arith) in
    let next : further_name front x ≡ Ok x = rw (named.0, room, new.0) refl in
    let again =
    names_again (front ++ x ∷ []) names named.1 distinct.1
    (still_new front x names distinct.0 new.1) (omega (arith, length-append front (x ∷ [])))
    (omega (arith, length-append front (x ∷ []))) in
    ap (λ (r : Result (List ℕ) Kind). r >>= λ further. letters_at (front ++ further ∷ [])
    (map Name names)) next ∙ again
    ∙ ap (λ (l : List (List ℕ)). Ok l) (append_assoc front (x ∷ []) names)

pub letters_again : (names : List (List ℕ)) → AreEachNames names → IsDistinct names
    → 0 < length names → length names ≤ 64 → letters_at [] (tokens (names_text names)) ≡ Ok names
letters_again names named distinct some few =
    ap (letters_at []) (names_tokens names named)
    ∙ names_again [] names named distinct (nothing_in_front names) (omega arith) (omega arith)

-- ---- weights

abbrev pub weights_text : List ℕ → List ℕ
weights_text weights = flat_map (λ m. (32 ∷ []) ++ decimal m) weights

pub weights_break : (weights : List ℕ) → IsBreak (weights_text weights)
weights_break [] = tt
weights_break (m ∷ weights) = (refl, refl)

-- each of them is a weight
abbrev pub AreWeights : List ℕ → Type 0
AreWeights weights = AllByRecursion IsWeight weights

weights_tokens : (weights : List ℕ) → AreWeights weights
    → tokens (weights_text weights) ≡ map Literal weights
weights_tokens [] are = nothing
weights_tokens (m ∷ weights) are =
    space_token (decimal m ++ weights_text weights)
    ∙ literal_token (decimal m) (weights_text weights) m
    (decimal_is m (let k = are.0.1 in omega arith)) (weights_break weights)
    ∙ ap (λ (ts : List Token). Literal m ∷ ts) (weights_tokens weights are.1)

counted_again : (most n : ℕ) → 1 ≤ n → n ≤ most → counted most n ≡ Ok n
counted_again most n some few =
    let inside : (ltb 0 n && ltb n (most + 1)) ≡ true =
    and_from _ _ (lt-ltb 0 n (omega arith)) (lt-ltb n (most + 1) (omega arith)) in
    rw (inside) refl

literals_again : (weights : List ℕ) → AreWeights weights
    → weights_at (length weights) (map Literal weights) ≡ Ok weights
unfolding weights_at literal_at end_at
literals_again [] are = refl
literals_again (m ∷ weights) are =
    let first : counted 100 m ≡ Ok m = counted_again 100 m are.0.0 are.0.1 in
    rw (first, literals_again weights are.1) refl

pub weights_again : (weights : List ℕ) → AreWeights weights
    → weights_at (length weights) (tokens (weights_text weights)) ≡ Ok weights
weights_again weights are =
    ap (weights_at (length weights)) (weights_tokens weights are) ∙ literals_again weights are

-- ---- generator

pub generator_again : (p : ℕ) (a : Alphabet) (room : ℕ) (ts : List Token) (f : Polynomial)
    → 0 < room → f ≢ [] → poly_at p a ts ≡ Ok f → generator_at p a room ts ≡ Ok f
unfolding generator_at
generator_again p a room ts [] some not_zero read = absurd (not_zero refl)
generator_again p a room ts (t ∷ f) some not_zero read =
    let k : eqb room 0 ≡ false = ne_eqb _ _ (omega arith) in
    rw (k, read) refl

-- ---- sides

abbrev pub side_tokens : List (List ℕ) → Word → List Token → List Token
side_tokens names [] rest = Literal 1 ∷ rest
side_tokens names (x ∷ w) rest = Name (name_of names x) ∷ word_rest names w rest

side_text : (a : Alphabet) (w : Word) (bytes : List ℕ) → AreNames a → AreLetters a w → IsBreak bytes
    → tokens (word_text a.names w ++ bytes) ≡ side_tokens a.names w (tokens bytes)
side_text a [] bytes ns all h = literal_token (49 ∷ []) bytes 1 one_is h
side_text a (x ∷ w) bytes ns all h = word_tokens a x w bytes ns all h

last_side_text : (a : Alphabet) (w : Word) → AreNames a → AreLetters a w
    → tokens (word_text a.names w) ≡ side_tokens a.names w []
last_side_text a w ns all =
    ap tokens (sym (append-nil (word_text a.names w))) ∙ side_text a w [] ns all tt
    ∙ ap (side_tokens a.names w) nothing

side_again : (a : Alphabet) (w : Word) (rest : List Token) → AreNames a → IsTextWord a w → Ends rest
    → side_at a (side_tokens a.names w rest) ≡ Ok (w, rest)
unfolding side_at
side_again a [] rest ns text h = refl
side_again a (x ∷ w) rest ns text h =
    word_again a x w rest ns (are_letters a (x ∷ w) text) text.short h

-- ---- what is multiplied

-- a number in brackets or braces
abbrev pub factor_tokens : Factor → List Token → List Token
factor_tokens (Factor.a_generator i) rest = Open ∷ Literal i ∷ Close ∷ rest
factor_tokens (Factor.a_line k) rest = OpenBrace ∷ Literal k ∷ CloseBrace ∷ rest

brackets_text : (i : ℕ) (bytes : List ℕ) → i ≤ 4000000000
    → tokens (32 ∷ 91 ∷ (decimal i ++ 93 ∷ 32 ∷ bytes)) ≡ Open ∷ Literal i ∷ Close ∷ tokens bytes
brackets_text i bytes few =
    let closed : tokens (93 ∷ 32 ∷ bytes) ≡ Close ∷ tokens bytes =
    close_token (32 ∷ bytes) ∙ ap (λ (ts : List Token). Close ∷ ts) (space_token bytes) in
    space_token (91 ∷ (decimal i ++ 93 ∷ 32 ∷ bytes)) ∙ open_token (decimal i ++ 93 ∷ 32 ∷ bytes)
    ∙ ap (λ (ts : List Token). Open ∷ ts)
    (literal_token (decimal i) (93 ∷ 32 ∷ bytes) i (decimal_is i few) (refl, refl)
    ∙ ap (λ (ts : List Token). Literal i ∷ ts) closed)

open_brace_token : (rest : List ℕ) → tokens (123 ∷ rest) ≡ OpenBrace ∷ tokens rest
unfolding tokens pieces
open_brace_token [] = refl
open_brace_token (b ∷ rest) = refl

close_brace_token : (rest : List ℕ) → tokens (125 ∷ rest) ≡ CloseBrace ∷ tokens rest
unfolding tokens pieces
close_brace_token [] = refl
close_brace_token (b ∷ rest) = refl

braces_text : (k : ℕ) (bytes : List ℕ) → k ≤ 4000000000
    → tokens (32 ∷ 123 ∷ (decimal k ++ 125 ∷ 32 ∷ bytes)) ≡ OpenBrace ∷ Literal k ∷ CloseBrace
    ∷ tokens bytes
braces_text k bytes few =
    let closed : tokens (125 ∷ 32 ∷ bytes) ≡ CloseBrace ∷ tokens bytes =
    close_brace_token (32 ∷ bytes) ∙ ap (λ (ts : List Token). CloseBrace ∷ ts)
    (space_token bytes) in
    space_token (123 ∷ (decimal k ++ 125 ∷ 32 ∷ bytes))
    ∙ open_brace_token (decimal k ++ 125 ∷ 32 ∷ bytes)
    ∙ ap (λ (ts : List Token). OpenBrace ∷ ts)
    (literal_token (decimal k) (125 ∷ 32 ∷ bytes) k (decimal_is k few) (refl, refl)
    ∙ ap (λ (ts : List Token). Literal k ∷ ts) closed)

-- the number of a generator or a line
abbrev pub number_in : Factor → ℕ
number_in (Factor.a_generator i) = i
number_in (Factor.a_line k) = k

pub factor_small : (s : Setting) (lines : ℕ) (of : Factor) → length s.generators ≤ 1000
    → lines ≤ 4000000000 → IsFactor s lines of → number_in of ≤ 4000000000
factor_small s lines (Factor.a_generator i) few short is = omega (arith, is.1)
factor_small s lines (Factor.a_line k) few short is = omega (arith, is.1)

factor_tokens_are : (of : Factor) (bytes : List ℕ) → number_in of ≤ 4000000000
    → tokens (factor_text of ++ bytes) ≡ factor_tokens of (tokens bytes)
factor_tokens_are (Factor.a_generator i) bytes few =
    ap (λ (l : List ℕ). tokens (32 ∷ 91 ∷ l)) (append_assoc (decimal i) (93 ∷ 32 ∷ []) bytes)
    ∙ brackets_text i bytes few
factor_tokens_are (Factor.a_line k) bytes few =
    ap (λ (l : List ℕ). tokens (32 ∷ 123 ∷ l)) (append_assoc (decimal k) (125 ∷ 32 ∷ []) bytes)
    ∙ braces_text k bytes few

factor_breaks : (of : Factor) (bytes : List ℕ) → IsBreak (factor_text of ++ bytes)
factor_breaks (Factor.a_generator i) bytes = (refl, refl)
factor_breaks (Factor.a_line k) bytes = (refl, refl)

factor_ends : (of : Factor) (rest : List Token) → Ends (factor_tokens of rest)
unfolding exponent_at word_behind
factor_ends (Factor.a_generator i) rest =
    record { exponent = refl; factor = λ further w. refl; behind = λ a. refl }
factor_ends (Factor.a_line k) rest =
    record { exponent = refl; factor = λ further w. refl; behind = λ a. refl }

generator_number_again : (generators i : ℕ) (rest : List Token) → 1 ≤ i → i ≤ generators
    → generator_number_at generators (Open ∷ Literal i ∷ Close ∷ rest) ≡ Ok (i, rest)
unfolding generator_number_at open_at literal_at close_at
generator_number_again generators i rest some few = rw (counted_again generators i some few) refl

factor_again : (s : Setting) (lines : ℕ) (of : Factor) (rest : List Token) → IsFactor s lines of
    → multiplied_at (length s.generators) lines (factor_tokens of rest) ≡ Ok (of, rest)
unfolding multiplied_at line_number_at literal_at close_brace_at
factor_again s lines (Factor.a_generator i) rest is =
    rw (generator_number_again (length s.generators) i rest is.0 is.1) refl
factor_again s lines (Factor.a_line k) rest is = rw (counted_again lines k is.0 is.1) refl

-- ---- monomials

abbrev pub mono_tokens : List (List ℕ) → Monomial → List Token
mono_tokens names σ =
    side_tokens names σ.left (Open ∷ Literal σ.generator ∷ Close ∷ side_tokens names σ.right [])

pub mono_text : (a : Alphabet) (generators : ℕ) (σ : Monomial) → AreNames a → generators ≤ 1000
    → IsTextMonomial a generators σ → tokens (sig_text a.names σ) ≡ mono_tokens a.names σ
mono_text a generators σ ns few h =
    side_text a σ.left (32 ∷ 91 ∷ (decimal σ.generator ++ 93 ∷ 32 ∷ word_text a.names σ.right)) ns
    (are_letters a σ.left h.left) (refl, refl)
    ∙ ap (side_tokens a.names σ.left)
    (brackets_text σ.generator (word_text a.names σ.right) (let k = h.listed in omega arith)
    ∙ ap (λ (ts : List Token). Open ∷ Literal σ.generator ∷ Close ∷ ts)
    (last_side_text a σ.right ns (are_letters a σ.right h.right)))

pub mono_again : (a : Alphabet) (generators : ℕ) (σ : Monomial) → AreNames a
    → IsTextMonomial a generators σ → mono_at a generators (mono_tokens a.names σ) ≡ Ok σ
unfolding mono_at end_at
mono_again a generators σ ns h =
    rw (
      side_again a σ.left (Open ∷ Literal σ.generator ∷ Close ∷ side_tokens a.names σ.right []) ns
          h.left (factor_ends (Factor.a_generator σ.generator) _),
      generator_number_again generators σ.generator (side_tokens a.names σ.right []) h.some
          h.listed,
      side_again a σ.right [] ns h.right ends_nothing,
    ) refl

-- ---- term

pub term_monomial : (s : NamedSetting) (t : Term Monomial) → IsTextPart s [] (term_part t)
    → IsTextMonomial s.alphabet (length s.setting.generators) t.key
term_monomial s t h =
    record {
      some = h.rule.factor.0;
      listed = h.rule.factor.1;
      left = h.words.left;
      right = h.words.right;
    }

pub term_row_again : (s : NamedSetting) (t : Term Monomial) → s.setting.prime < 65536
    → AreNames s.alphabet → length s.setting.generators ≤ 1000 → IsTextPart s [] (term_part t)
    → term_row_at s.setting.prime s.alphabet (length s.setting.generators)
    (tokens (decimal t.coefficient ++ 32 ∷ sig_text s.alphabet.names t.key)) ≡ Ok (term_part t)
unfolding term_row_at literal_at
term_row_again s t small ns few h =
    let σ = term_monomial s t h in
    let text : tokens (decimal t.coefficient ++ 32 ∷ sig_text s.alphabet.names t.key) ≡ Literal
    t.coefficient ∷ mono_tokens s.alphabet.names t.key =
    literal_token (decimal t.coefficient) (32 ∷ sig_text s.alphabet.names t.key) t.coefficient
    (decimal_is t.coefficient (let k = h.rule.residue in omega arith)) (refl, refl)
    ∙ ap (λ (ts : List Token). Literal t.coefficient ∷ ts)
    (space_token (sig_text s.alphabet.names t.key)
    ∙ mono_text s.alphabet (length s.setting.generators) t.key ns few σ) in
    ap (term_row_at s.setting.prime s.alphabet (length s.setting.generators)) text
    ∙ rw (
      mono_again s.alphabet (length s.setting.generators) t.key ns σ,
      mod-eq_of_lt h.rule.residue,
    ) refl

-- ---- part

-- what is printed behind the keyword `part`
abbrev pub part_text : List (List ℕ) → Part → List ℕ
part_text names part =
    decimal part.coefficient ++ 32
    ∷ (word_text names part.left ++ (factor_text part.of ++ word_text names part.right))

abbrev part_tokens : List (List ℕ) → Part → List Token
part_tokens names part =
    Literal part.coefficient ∷ side_tokens names part.left
    (factor_tokens part.of (side_tokens names part.right []))

part_text_is : (s : NamedSetting) (reaches : List ℕ) (part : Part) → s.setting.prime < 65536
    → AreNames s.alphabet → number_in part.of ≤ 4000000000 → IsTextPart s reaches part
    → tokens (part_text s.alphabet.names part) ≡ part_tokens s.alphabet.names part
part_text_is s reaches part small ns few h =
    let names = s.alphabet.names in
    let right = word_text names part.right in
    let factor = factor_text part.of ++ right in
    literal_token (decimal part.coefficient) (32 ∷ (word_text names part.left ++ factor))
    part.coefficient (decimal_is part.coefficient (let k = h.rule.residue in omega arith))
    (refl, refl)
    ∙ ap (λ (ts : List Token). Literal part.coefficient ∷ ts)
    (space_token (word_text names part.left ++ factor)
    ∙ side_text s.alphabet part.left factor ns (are_letters s.alphabet part.left h.words.left)
    (factor_breaks part.of right)
    ∙ ap (side_tokens names part.left) (factor_tokens_are part.of right few
    ∙ ap (factor_tokens part.of) (last_side_text s.alphabet part.right ns
    (are_letters s.alphabet part.right h.words.right))))

pub part_again : (s : NamedSetting) (reaches : List ℕ) (part : Part) → s.setting.prime < 65536
    → AreNames s.alphabet → number_in part.of ≤ 4000000000 → IsTextPart s reaches part
    → part_at s reaches (tokens (part_text s.alphabet.names part)) ≡ Ok part
unfolding part_at literal_at end_at
part_again s reaches part small ns few h =
    let right = side_tokens s.alphabet.names part.right [] in
    let near : ltb 100000 (part_reach s.setting reaches part) ≡ false = le-ltb _ _ h.rule.short in
    let within : within_reach s.setting reaches part ≡ Ok part = rw (near) refl in
    ap (part_at s reaches) (part_text_is s reaches part small ns few h)
    ∙ rw (
      side_again s.alphabet part.left (factor_tokens part.of right) ns h.words.left
          (factor_ends part.of right),
      factor_again s.setting (length reaches) part.of right h.rule.factor,
      side_again s.alphabet part.right [] ns h.words.right ends_nothing,
      mod-eq_of_lt h.rule.residue,
    ) within
