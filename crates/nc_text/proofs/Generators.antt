-- Lines `generator`, and the alphabet and the setting that are read.
-- The lines are read by the lemmas of `Repeated.antt` in `nc_tokens` (`are_lines`). What is read
-- keeps the rules of the types that code makes of it (`is_alphabet`, `is_setting`).
use Rattle.nc_algebra.specs.Alphabets.{Alphabet, IsAlphabet}
use Rattle.nc_algebra.specs.Settings.{IsSetting, NamedSetting}
use Rattle.nc_algebra.specs.Polynomials.{Polynomial}
use Rattle.nc_text.proofs.ReadCertificates.{alphabet_lines_read, setting_lines_read}
use Rattle.nc_tokens.proofs.Repeated.{AreLines, line_then, passed_by, taken}
use Rattle.nc_tokens.specs.Lines.{End, Line, Row, Written, a_line}
use Rattle.nc_text.specs.Rows.{generator_at}
use Rattle.nc_text.specs.Settings.{alphabet_lines, field_line, generator_lines, letters_line, setting_lines, weights_line}
use Rattle.nc_tokens.specs.declared.fault.TextFault.{TextFault}
use Rattle.std.proofs.Common.{IfOk, List, None, Ok, Result, Some, [], codes, length, refl, subst, ℕ, ◌-◌, ◌≡◌}

one_more : (p : ℕ) (a : Alphabet) (room : ℕ) (w : Written) (r : Row)
    → a_line (codes "generator") w ≡ Some r
    → generator_lines p a room w ≡ line_then r (generator_at p a room r.tokens)
    (generator_lines p a (room - 1) r.after)
unfolding a_line generator_lines
one_more p a room (End n) r e = absurd cc
one_more p a room (Line n clean ts after) r e =
    taken (codes "generator") n clean ts after r
    (λ r. line_then r (generator_at p a room r.tokens) (generator_lines p a (room - 1) r.after))
    (Ok ([], Line n clean ts after)) e

no_more : (p : ℕ) (a : Alphabet) (room : ℕ) (w : Written) → a_line (codes "generator") w ≡ None
    → generator_lines p a room w ≡ Ok ([], w)
unfolding a_line generator_lines
no_more p a room (End n) e = refl
no_more p a room (Line n clean ts after) e =
    passed_by (codes "generator") n clean ts after _ (Ok ([], Line n clean ts after)) e

pub are_lines : (p : ℕ) (a : Alphabet)
    → AreLines (codes "generator") (generator_at p a) (generator_lines p a)
are_lines p a = record { more = one_more p a; none = no_more p a }

abbrev setting_of : ℕ → Alphabet → List Polynomial → NamedSetting
setting_of p a generators =
    record { alphabet = a; setting = record { prime = p; generators = generators } }

pub setting_is : (p : ℕ) (a : Alphabet) (generators : List Polynomial) (w one two three : Written)
    → field_line w ≡ Ok (p, one) → alphabet_lines one ≡ Ok (a, two)
    → generator_lines p a 1000 two ≡ Ok (generators, three)
    → setting_lines w ≡ Ok (setting_of p a generators, three)
unfolding setting_lines
setting_is p a generators w one two three e f g = rw e (rw f (rw g refl))

pub is_setting : (p : ℕ) (a : Alphabet) (generators : List Polynomial) (w one two three : Written)
    → field_line w ≡ Ok (p, one) → alphabet_lines one ≡ Ok (a, two)
    → generator_lines p a 1000 two ≡ Ok (generators, three)
    → IsSetting (setting_of p a generators)
is_setting p a generators w one two three e f g =
    subst (λ (r : Result (NamedSetting × Written) TextFault). IfOk r (λ x. IsSetting x.0))
    (setting_is p a generators w one two three e f g) (setting_lines_read w)

pub alphabet_is : (names : List (List ℕ)) (weights : List ℕ) (w one two : Written)
    → letters_line w ≡ Ok (names, one) → weights_line (length names) one ≡ Ok (weights, two)
    → alphabet_lines w ≡ Ok (record { names = names; weights = weights }, two)
unfolding alphabet_lines
alphabet_is names weights w one two e f = rw e (rw f refl)

pub is_alphabet : (names : List (List ℕ)) (weights : List ℕ) (w one two : Written)
    → letters_line w ≡ Ok (names, one) → weights_line (length names) one ≡ Ok (weights, two)
    → IsAlphabet (record { names = names; weights = weights })
is_alphabet names weights w one two e f =
    subst (λ (r : Result (Alphabet × Written) TextFault). IfOk r (λ x. IsAlphabet x.0))
    (alphabet_is names weights w one two e f) (alphabet_lines_read w)
