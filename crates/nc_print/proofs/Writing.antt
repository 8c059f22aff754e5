-- Lemmas on the texts that are written piece after piece.
use Rattle.nc_algebra.specs.Alphabets.{Alphabet, IsPolynomialIn, IsWordIn}
use Rattle.nc_algebra.specs.Certificates.{AreLines, Certificate, IsPart, Line, Part, line_reach}
use Rattle.nc_algebra.specs.Monomials.{Monomial, Sig, monomial_of}
use Rattle.nc_algebra.specs.Polynomials.{Polynomial}
use Rattle.nc_algebra.specs.Settings.{NamedSetting}
use Rattle.nc_algebra.specs.Sums.{Term}
use Rattle.nc_algebra.specs.Words.{Word}
use Rattle.nc_module.specs.Modules.{element_of}
use Rattle.nc_print.specs.Printing.{certificate_text, ended, printed_line, poly_text, printed_setting, term_line, terms_text}
use Rattle.std.proofs.Common.{Err, List, Ok, Result, [], ap, append_assoc, codes, get_or, if◌then◌else◌, is_ok, length, map, refl, sym, take, ℕ, ◌++◌, ◌+◌, ◌<◌, ◌∙◌, ◌∷◌, ◌≡◌, ◌≤◌}
use Rattle.std.proofs.lemmas.List.{append-nil, map-append, take_all, take_more}
use Rattle.std.proofs.lemmas.List.Concat.{flat_map-append}
use Rattle.std.proofs.lemmas.List.Elements.{All-from_recursion}
use Rattle.std.specs.List.{All, AllByRecursion, flat_map}
use Rattle.std.specs.Result.{OnOk}

-- ---- lines

-- the lines up to the next element are those before it, and then its own
ended_more : {X : Type 0} (line : X → List ℕ) (xs : List X) (i : ℕ) (x : X) → i < length xs
    → x ≡ get_or xs i x
    → ended (map line (take i xs)) ++ (line x ++ 10 ∷ []) ≡ ended (map line (take (i + 1) xs))
ended_more line xs i x within is =
    sym (ap (λ (ls : List (List ℕ)). ended ls) (ap (map line) (take_more xs i x within)
    ∙ map-append line (take i xs) (get_or xs i x ∷ []))
    ∙ flat_map-append (λ (l : List ℕ). l ++ 10 ∷ []) (map line (take i xs))
    (line (get_or xs i x) ∷ [])
    ∙ ap (λ (l : List ℕ). ended (map line (take i xs)) ++ l)
    (append-nil (line (get_or xs i x) ++ 10 ∷ []) ∙ ap (λ y. line y ++ 10 ∷ []) (sym is)))

-- one more line behind those that were written
pub written_more : {X : Type 0} (line : X → List ℕ) (xs : List X) (i : ℕ) (x : X)
    (old before after : List ℕ) → i < length xs → x ≡ get_or xs i x
    → before ≡ old ++ ended (map line (take i xs)) → after ≡ before ++ (line x ++ 10 ∷ [])
    → after ≡ old ++ ended (map line (take (i + 1) xs))
written_more line xs i x old before after within is so_far now =
    now ∙ ap (λ (l : List ℕ). l ++ (line x ++ 10 ∷ [])) so_far
    ∙ append_assoc old (ended (map line (take i xs))) (line x ++ 10 ∷ [])
    ∙ ap (λ (l : List ℕ). old ++ l) (ended_more line xs i x within is)

-- ---- letters

-- each letter of a word has a name
abbrev pub AreNamed : ℕ → Word → Type 0
AreNamed n w = All (λ x. x.index < n) w

-- the letters of an alphabet's words have its names
named : (a : Alphabet) (w : Word) → IsWordIn a w → AreNamed (length a.names) w
named a w over k d within = (over k d within).0

-- so for a polynomial
pub polynomial_named : (a : Alphabet) (p : ℕ) (f : Polynomial) → IsPolynomialIn a p f
    → All (λ t. AreNamed (length a.names) t.key) f
polynomial_named a p f is k d within = named a _ (is.words k d within)

-- what holds of each part of lines, wherever they stand
each_part : (s : NamedSetting) (P : Part → Type 0)
    → ((reaches : List ℕ) (part : Part) → IsPart s reaches part → P part)
    → (reaches : List ℕ) (lines : List Line) → AreLines s reaches lines
    → AllByRecursion (λ line. All P line) lines
each_part s P one reaches [] are = tt
each_part s P one reaches (line ∷ lines) are = (
  λ k d within. one reaches (get_or line k d) (are.0 k d within),
  each_part s P one (reaches ++ line_reach s.setting reaches line ∷ []) lines are.1,
)

-- the letters of the words on one side of each part have names
pub words_named : (s : NamedSetting) (side : Part → Word)
    → ((reaches : List ℕ) (part : Part) → IsPart s reaches part → IsWordIn s.alphabet (side part))
    → (names : List (List ℕ)) (lines items : List Line) → names ≡ s.alphabet.names → items ≡ lines
    → AreLines s [] lines
    → All (λ line. All (λ part. AreNamed (length names) (side part)) line) items
words_named s side one names lines items same_names same are =
    let P = λ (part : Part). AreNamed (length s.alphabet.names) (side part) in
    rw (same_names, same) (All-from_recursion (λ line. All P line) lines
    (each_part s P (λ reaches part h. named s.alphabet (side part) (one reaches part h)) []
    lines are))

-- ---- the terms of a module element

-- a term, whose degree is not printed
abbrev pub bare : Term Sig → Term Monomial
bare t = record { coefficient = t.coefficient; key = monomial_of t.key }

bare_all : (write : Term Monomial → List ℕ) (terms : List (Term Sig))
    → map (λ t. write (bare t)) terms ≡ map write (element_of terms)
bare_all write [] = refl
bare_all write (t ∷ terms) =
    ap (λ (ls : List (List ℕ)). write (bare t) ∷ ls) (bare_all write terms)

-- all terms, written by write and put together by join
pub bare_end : (write : Term Monomial → List ℕ) (join : List (List ℕ) → List ℕ)
    (terms : List (Term Sig)) (i : ℕ) (old new : List ℕ) → length terms ≤ i
    → new ≡ old ++ join (map (λ t. write (bare t)) (take i terms))
    → new ≡ old ++ join (map write (element_of terms))
bare_end write join terms i old new long is =
    is ∙ ap (λ (ls : List (List ℕ)). old ++ join ls)
    (ap (map (λ t. write (bare t))) (take_all i terms long) ∙ bare_all write terms)

-- ---- certificates

in_a_row : (old heading claim last : List ℕ) (front back : List (List ℕ))
    → ((((old ++ (heading ++ 10 ∷ [])) ++ ended front) ++ (claim ++ 10 ∷ [])) ++ ended back)
    ++ (last ++ 10 ∷ []) ≡ old ++ ended (heading ∷ (front ++ claim ∷ (back ++ last ∷ [])))
in_a_row old heading claim last front back = simp (flat_map-append, append_assoc, append-nil)

-- The pieces of a certificate in a row are its text: `headed`, `set`, `claimed` and `listed` are
-- what is written up to each of them.
pub written_in_a_row : (s : NamedSetting) (f : Polynomial) (lines items : List Line)
    (c : Certificate) (names : List (List ℕ)) (old headed set claimed listed : List ℕ)
    → record { setting = s; claim = f; lines = lines } ≡ c → names ≡ s.alphabet.names
    → items ≡ lines
    → headed ≡ old ++ codes "certificate 2\n" → set ≡ headed ++ ended (printed_setting s)
    → claimed ≡ set ++ (codes "claim " ++ poly_text names f ++ 10 ∷ [])
    → listed ≡ claimed ++ ended (flat_map (printed_line names) items)
    → listed ++ codes "end\n" ≡ old ++ certificate_text c
written_in_a_row s f lines items c names old headed set claimed listed is same_names same heads sets
    claims lists =
    let claimed_is : claimed ≡ set ++ (codes "claim " ++ poly_text s.alphabet.names f ++ 10 ∷ []) =
    claims ∙ ap (λ (ns : List (List ℕ)). set ++ (codes "claim " ++ poly_text ns f ++ 10 ∷ []))
    same_names in
    let listed_is : listed ≡ claimed ++ ended (flat_map (printed_line s.alphabet.names) lines) =
    lists ∙ ap (λ (ns : List (List ℕ)). claimed ++ ended (flat_map (printed_line ns) items))
    same_names ∙ ap (λ (ls : List Line). claimed
    ++ ended (flat_map (printed_line s.alphabet.names) ls)) same in
    let row =
    in_a_row old (codes "certificate 2") (codes "claim " ++ poly_text s.alphabet.names f)
    (codes "end") (printed_setting s) (flat_map (printed_line s.alphabet.names) lines) in
    ap (λ (l : List ℕ). l ++ codes "end\n") (rw (listed_is, claimed_is, sets, heads) refl) ∙ row
    ∙ ap (λ (d : Certificate). old ++ certificate_text d) is

-- what a last call says that writes a piece, or leaves what was written
pub written_last : {T E : Type 0} (r : Result T E) (new old piece text : List ℕ)
    → new ≡ (if is_ok r then old ++ piece else old) → old ++ piece ≡ text → OnOk r (new ≡ text)
written_last (Ok x) new old piece text is same = is ∙ same
written_last (Err e) new old piece text is same = tt

-- The pieces of a certificate in form 1 in a row are its text, as above.
pub terms_in_a_row : (s : NamedSetting) (f : Polynomial) (terms items : List (Term Sig))
    (names : List (List ℕ)) (old headed set claimed listed : List ℕ)
    → names ≡ s.alphabet.names → items ≡ terms
    → headed ≡ old ++ codes "certificate 1\n" → set ≡ headed ++ ended (printed_setting s)
    → claimed ≡ set ++ (codes "claim " ++ poly_text names f ++ 10 ∷ [])
    → listed ≡ claimed ++ ended (map (term_line names) (element_of items))
    → listed ++ codes "end\n" ≡ old ++ terms_text s f (element_of terms)
terms_in_a_row s f terms items names old headed set claimed listed same_names same heads sets claims
    lists =
    let claimed_is : claimed ≡ set ++ (codes "claim " ++ poly_text s.alphabet.names f ++ 10 ∷ []) =
    claims ∙ ap (λ (ns : List (List ℕ)). set ++ (codes "claim " ++ poly_text ns f ++ 10 ∷ []))
    same_names in
    let listed_is : listed ≡ claimed
    ++ ended (map (term_line s.alphabet.names) (element_of terms)) =
    lists ∙ ap (λ (ns : List (List ℕ)). claimed ++ ended (map (term_line ns) (element_of items)))
    same_names ∙ ap (λ (ts : List (Term Sig)). claimed
    ++ ended (map (term_line s.alphabet.names) (element_of ts))) same in
    let row =
    in_a_row old (codes "certificate 1") (codes "claim " ++ poly_text s.alphabet.names f)
    (codes "end") (printed_setting s) (map (term_line s.alphabet.names) (element_of terms)) in
    ap (λ (l : List ℕ). l ++ codes "end\n") (rw (listed_is, claimed_is, sets, heads) refl) ∙ row
