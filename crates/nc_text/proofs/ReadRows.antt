-- What is read behind a keyword is part of a certificate.
-- Names are different (`letters_read`), weights lie in their range (`weights_read`), parts name
-- earlier lines and have a small reach (`part_reads`). A term of form 1 needs no test of its reach:
-- its words and those of a generator have at most 255 letters each (`term_reads`).
use Rattle.nc_algebra.specs.Alphabets.{Alphabet, IsTextGenerator, IsTextPolynomial, IsTextWord, IsWeight, is_name}
use Rattle.nc_algebra.specs.Certificates.{HasTextWords, IsFactor, IsPart, Part, part_reach}
use Rattle.nc_algebra.specs.Elements.{Setting}
use Rattle.nc_algebra.specs.Monomials.{Monomial}
use Rattle.nc_algebra.specs.Settings.{IsSetting, NamedSetting}
use Rattle.nc_algebra.specs.Lists.{Among, IsDistinct}
use Rattle.nc_algebra.specs.Polynomials.{Polynomial}
use Rattle.nc_algebra.specs.Primes.{is_listed_prime}
use Rattle.nc_module.proofs.Names.{not_among}
use Rattle.nc_algebra.proofs.Generators.{generator_longest}
use Rattle.nc_text.proofs.ReadWords.{empty_word, poly_reads, word_reads}
use Rattle.nc_tokens.proofs.Steps.{on_any, on_bind, on_choice, on_weaker}
use Rattle.nc_tokens.specs.Wanted.{close_at, close_brace_at, end_at, literal_at, open_at}
use Rattle.nc_text.specs.Reading.{poly_at}
use Rattle.nc_text.specs.Rows.{checked, counted, field_at, further_name, generator_at, generator_number_at, letters_at, line_number_at, mono_at, multiplied_at, nonzero, part_at, side_at, term_row_at, weight_at, weights_at, within_reach}
use Rattle.nc_tokens.specs.Tokens.{Literal, Name, OpenBrace, Token}
use Rattle.nc_tokens.specs.declared.fault.Kind.{Kind}
use Rattle.nc_tokens.specs.declared.fault.Kind.TheVariants.{OutOfRange}
use Rattle.std.proofs.Common.{All, Bool, Err, IfOk, IsTrue, List, Ok, [], ap, arith, bytes_eq, eqb, inl, inr, length, ltb, mod-lt, refl, subst, suc, sym, true, zero, ℕ, ◌%◌, ◌&&◌, ◌++◌, ◌+◌, ◌<◌, ◌∙◌, ◌∷◌, ◌≡◌, ◌≤◌, ◌⊎◌}
use Rattle.std.proofs.lemmas.Bool.{and_parts, eqb-false, ltb-false, ltb-true}
use Rattle.std.proofs.lemmas.List.Elements.{All-cons, All-nil, All-push}
use Rattle.std.proofs.lemmas.List.{length-append}
use Rattle.std.specs.List.{list_any}

pub checked_reads : (b : Bool) (k : Kind) (n : ℕ) → IfOk (checked b k n) (λ m. (b ≡ true) × (m ≡ n))
checked_reads b k n =
    on_choice (λ m. (b ≡ true) × (m ≡ n)) b (Ok n) (Err k) (λ yes. (yes, refl)) (λ no. tt)

-- ---- field

pub field_reads : (ts : List Token) → IfOk (field_at ts) (λ p. is_listed_prime p ≡ true)
unfolding field_at
field_reads ts =
    on_bind _ _ (literal_at ts) _ (on_any (literal_at ts))
    (λ n _. on_bind _ _ (checked (is_listed_prime n.0) _ n.0) _
    (checked_reads (is_listed_prime n.0) _ n.0) (λ p is.
    on_bind _ _ (end_at n.1) _ (on_any (end_at n.1)) (λ _ _. ap is_listed_prime is.1 ∙ is.0)))

-- ---- letters

-- names that `letters` gives: at most 64 different names
pub record AreLetterNames (names : List (List ℕ)) : Type 0 where
  pub named : All (λ name. IsTrue (is_name name)) names
  pub apart : IsDistinct names
  pub few : length names ≤ 64

among_pushed : {X : Type 0} (x y : X) (xs : List X) → Among y (xs ++ x ∷ []) → Among y xs ⊎ (y ≡ x)
among_pushed x y [] (inl e) = inr e
among_pushed x y [] (inr h) = absurd h
among_pushed x y (z ∷ xs) (inl e) = inl (inl e)
among_pushed x y (z ∷ xs) (inr h) = by_place (among_pushed x y xs h)
  where
    by_place : Among y xs ⊎ (y ≡ x) → ((y ≡ z) ⊎ Among y xs) ⊎ (y ≡ x)
    by_place (inl k) = inl (inr k)
    by_place (inr e) = inr e

distinct_pushed : {X : Type 0} (x : X) (xs : List X) → IsDistinct xs → ¬ Among x xs
    → IsDistinct (xs ++ x ∷ [])
distinct_pushed x [] distinct new = (λ h. h, tt)
distinct_pushed x (y ∷ xs) distinct new =
    (λ h. by_place (among_pushed x y xs h), distinct_pushed x xs distinct.1 (λ h. new (inr h)))
  where
    by_place : Among y xs ⊎ (y ≡ x) → ⊥
    by_place (inl h) = distinct.0 h
    by_place (inr e) = new (inl (sym e))

further_reads : (names : List (List ℕ)) (name : List ℕ) → AreLetterNames names
    → IfOk (further_name names name) (λ x. AreLetterNames (names ++ x ∷ []))
further_reads names name so_far =
    on_choice _ (is_name name) _ _
    (λ is. on_choice _ (ltb (length names) 64) _ _
    (λ room. on_choice _ (list_any (λ n. bytes_eq n name) names) _ _ (λ double. tt)
    (λ new. record {
      named = All-push (λ name. IsTrue (is_name name)) names name so_far.named is;
      apart = distinct_pushed name names so_far.apart (not_among name names new);
      few = (let low = ltb-true _ _ room in omega (arith, length-append names (name ∷ [])));
    })) (λ full. tt)) (λ bad. tt)

pub letters_read : (names : List (List ℕ)) (ts : List Token) → AreLetterNames names
    → IfOk (letters_at names ts) (λ all. AreLetterNames all × (0 < length all))
unfolding letters_at
letters_read names [] so_far =
    on_choice _ (eqb (length names) 0) _ _ (λ none. tt)
    (λ some. (so_far, let k = eqb-false _ _ some in omega arith))
letters_read names (Name name ∷ rest) so_far =
    on_bind _ _ (further_name names name) _ (further_reads names name so_far)
    (λ further more. letters_read (names ++ further ∷ []) rest more)
letters_read names (t ∷ rest) so_far = tt

pub no_names : AreLetterNames []
no_names = record { named = All-nil (λ name. IsTrue (is_name name)); apart = tt; few = omega arith }

-- ---- weights

pub counted_reads : (most n : ℕ) → IfOk (counted most n) (λ i. (1 ≤ i) × (i ≤ most))
counted_reads most n =
    on_weaker _ _ (counted most n)
    (λ m is. let k = and_parts (ltb 0 n) (ltb n (most + 1)) is.0 in (
      (let low = ltb-true 0 n k.0 in omega (arith, is.1)),
      (let high = ltb-true n (most + 1) k.1 in omega (arith, is.1)),
    ))
    (checked_reads (ltb 0 n && ltb n (most + 1)) OutOfRange n)

weight_reads : (ts : List Token) → IfOk (weight_at ts) (λ x. IsWeight x.0)
weight_reads ts =
    on_bind _ _ (literal_at ts) _ (on_any (literal_at ts))
    (λ m _. on_bind _ _ (counted 100 m.0) _ (counted_reads 100 m.0) (λ weight is. is))

pub weights_read : (n : ℕ) (ts : List Token)
    → IfOk (weights_at n ts) (λ ms. (length ms ≡ n) × All IsWeight ms)
unfolding weights_at
weights_read zero ts =
    on_bind _ _ (end_at ts) _ (on_any (end_at ts)) (λ _ _. (refl, All-nil IsWeight))
weights_read (suc n) ts =
    on_bind _ _ (weight_at ts) _ (weight_reads ts) (λ first is.
    on_bind _ _ (weights_at n first.1) _ (weights_read n first.1)
    (λ others are. (ap suc are.0, All-cons IsWeight first.0 others is are.1)))

-- ---- generator

nonzero_reads : (a : Alphabet) (p : ℕ) (f : Polynomial) → IsTextPolynomial a p f
    → IfOk (nonzero f) (λ g. IsTextGenerator a p g)
nonzero_reads a p [] text = tt
nonzero_reads a p (t ∷ f) text = record { polynomial = text; nonzero = λ e. absurd cc }

pub generator_reads : (p : ℕ) (a : Alphabet) (room : ℕ) (ts : List Token) → 0 < p
    → IfOk (generator_at p a room ts) (λ f. (0 < room) × IsTextGenerator a p f)
unfolding generator_at
generator_reads p a room ts some =
    on_choice _ (eqb room 0) _ _ (λ full. tt)
    (λ more. on_bind _ _ (poly_at p a ts) _ (poly_reads p a ts some)
    (λ f text. with_room f (let k = eqb-false _ _ more in omega arith)
    (nonzero_reads a p f text)))
  where
    with_room : (f : Polynomial) → 0 < room → IfOk (nonzero f) (λ g. IsTextGenerator a p g)
        → IfOk (nonzero f) (λ g. (0 < room) × IsTextGenerator a p g)
    with_room [] some h = tt
    with_room (t ∷ f) some h = (some, h)

-- ---- monomials

-- a monomial over so many generators that may stand in a text
pub record IsTextMonomial (a : Alphabet) (generators : ℕ) (σ : Monomial) : Type 0 where
  pub some : 1 ≤ σ.generator
  pub listed : σ.generator ≤ generators
  pub left : IsTextWord a σ.left
  pub right : IsTextWord a σ.right

pub side_reads : (a : Alphabet) (ts : List Token) → IfOk (side_at a ts) (λ x. IsTextWord a x.0)
unfolding side_at
side_reads a [] = word_reads a []
side_reads a (Literal n ∷ rest) = on_choice _ (eqb n 1) _ _ (λ one. empty_word a) (λ other. tt)
side_reads a (t ∷ rest) = word_reads a (t ∷ rest)

generator_number_reads : (generators : ℕ) (ts : List Token)
    → IfOk (generator_number_at generators ts) (λ x. (1 ≤ x.0) × (x.0 ≤ generators))
unfolding generator_number_at
generator_number_reads generators ts =
    on_bind _ _ (open_at ts) _ (on_any (open_at ts))
    (λ inside _. on_bind _ _ (literal_at inside) _ (on_any (literal_at inside)) (λ n _.
    on_bind _ _ (counted generators n.0) _ (counted_reads generators n.0)
    (λ i is. on_bind _ _ (close_at n.1) _ (on_any (close_at n.1)) (λ outside _. is))))

line_number_reads : (lines : ℕ) (ts : List Token)
    → IfOk (line_number_at lines ts) (λ x. (1 ≤ x.0) × (x.0 ≤ lines))
unfolding line_number_at
line_number_reads lines ts =
    on_bind _ _ (literal_at ts) _ (on_any (literal_at ts))
    (λ n _. on_bind _ _ (counted lines n.0) _ (counted_reads lines n.0) (λ k is.
    on_bind _ _ (close_brace_at n.1) _ (on_any (close_brace_at n.1)) (λ outside _. is)))

pub mono_reads : (a : Alphabet) (generators : ℕ) (ts : List Token)
    → IfOk (mono_at a generators ts) (λ σ. IsTextMonomial a generators σ)
unfolding mono_at
mono_reads a generators ts =
    on_bind _ _ (side_at a ts) _ (side_reads a ts)
    (λ left left_text. on_bind _ _ (generator_number_at generators left.1) _
    (generator_number_reads generators left.1) (λ number is.
    on_bind _ _ (side_at a number.1) _ (side_reads a number.1)
    (λ right right_text. on_bind _ _ (end_at right.1) _ (on_any (end_at right.1))
    (λ _ _. record { some = is.0; listed = is.1; left = left_text; right = right_text }))))

-- ---- parts

-- a part that may stand in a text
pub record IsTextPart (s : NamedSetting) (reaches : List ℕ) (part : Part) : Type 0 where
  pub rule : IsPart s reaches part
  pub words : HasTextWords s part

pub term_reads : (s : NamedSetting) (ts : List Token) → IsSetting s → 0 < s.setting.prime
    → IfOk (term_row_at s.setting.prime s.alphabet (length s.setting.generators) ts)
    (λ part. IsTextPart s [] part)
unfolding term_row_at
term_reads s ts is some =
    on_bind _ _ (literal_at ts) _ (on_any (literal_at ts))
    (λ c _. on_bind _ _ (mono_at s.alphabet (length s.setting.generators) c.1) _
    (mono_reads s.alphabet (length s.setting.generators) c.1) (λ σ h. record {
      rule = record {
        residue = mod-lt c.0 some;
        factor = (h.some, h.listed);
        left = h.left.letters;
        right = h.right.letters;
        short = omega (
          arith,
          h.left.short,
          h.right.short,
          generator_longest s σ.generator is (h.some, h.listed),
        );
      };
      words = record { left = h.left; right = h.right };
    }))

multiplied_reads : (s : Setting) (lines : ℕ) (ts : List Token)
    → IfOk (multiplied_at (length s.generators) lines ts) (λ x. IsFactor s lines x.0)
unfolding multiplied_at
multiplied_reads s lines (OpenBrace ∷ rest) =
    on_bind _ _ (line_number_at lines rest) _ (line_number_reads lines rest) (λ k is. is)
multiplied_reads s lines ts =
    on_bind _ _ (generator_number_at (length s.generators) ts) _
    (generator_number_reads (length s.generators) ts) (λ i is. is)

within_reads : (s : Setting) (reaches : List ℕ) (part : Part)
    → IfOk (within_reach s reaches part) (λ q. (q ≡ part) × (part_reach s reaches part ≤ 100000))
within_reads s reaches part =
    on_choice _ (ltb 100000 (part_reach s reaches part)) _ _ (λ far. tt)
    (λ near. (refl, let k = ltb-false _ _ near in omega arith))

pub part_reads : (s : NamedSetting) (reaches : List ℕ) (ts : List Token) → 0 < s.setting.prime
    → IfOk (part_at s reaches ts) (λ part. IsTextPart s reaches part)
unfolding part_at
part_reads s reaches ts some =
    on_bind _ _ (literal_at ts) _ (on_any (literal_at ts))
    (λ c _. on_bind _ _ (side_at s.alphabet c.1) _ (side_reads s.alphabet c.1)
    (λ left left_text.
    on_bind _ _ (multiplied_at (length s.setting.generators) (length reaches) left.1) _
    (multiplied_reads s.setting (length reaches) left.1) (λ of is_factor.
    on_bind _ _ (side_at s.alphabet of.1) _ (side_reads s.alphabet of.1)
    (λ right right_text. on_bind _ _ (end_at right.1) _ (on_any (end_at right.1)) (λ _ _.
    let part : Part =
    record { coefficient = c.0 % s.setting.prime; left = left.0; of = of.0; right = right.0 } in
    on_weaker _ _ (within_reach s.setting reaches part)
    (λ q is. subst (λ (r : Part). IsTextPart s reaches r) (sym is.0) (record {
      rule = record {
        residue = mod-lt c.0 some;
        factor = is_factor;
        left = left_text.letters;
        right = right_text.letters;
        short = is.1;
      };
      words = record { left = left_text; right = right_text };
    })) (within_reads s.setting reaches part))))))
