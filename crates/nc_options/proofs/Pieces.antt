-- What `clap` reads of a word, by its piece.
-- A word that is fit is read as the piece that it is (`reads`).
use Rattle.std.proofs.lemmas.Bool.{and_right}
use Rattle.std.proofs.Common.{◌≡◌, ◌∙◌, ◌&&◌, ◌==◌, ℕ, Bool, true, false, refl, sym, ap, subst, List, [], ◌∷◌, Some, None}
use Rattle.std.specs.Prelude.{option_and_then, if◌then◌else◌}
use Rattle.std.specs.Str.{bytes_eq}
use Rattle.nc_options.specs.Pieces.{Text, Piece, joined, named, plain, stray, piece_of, hyphen_piece, long_piece, name_in, value_in, has_equals, is_among}
use Rattle.clap.specs.Lexer.{long_of, long_of_rest, short_of, short_of_rest, strip_byte}

abbrev pub dashes : Text
dashes = 45 ∷ 45 ∷ []

abbrev pub Reads : List Text → Text → Piece → Type 0
Reads names word (joined n v) =
    (bytes_eq word dashes ≡ false) × (long_of word ≡ Some (n, Some v)) × (is_among names n ≡ true)
Reads names word (named n) =
    (bytes_eq word dashes ≡ false) × (long_of word ≡ Some (n, None)) × (is_among names n ≡ true)
Reads names word (plain w) =
    (bytes_eq word dashes ≡ false) × (long_of word ≡ None) × (short_of word ≡ None) × (word ≡ w)
Reads names word stray = Unit {0}

no_hyphen : (names : List Text) (b : ℕ) (bs : Text) → (b == 45) ≡ false
    → Reads names (b ∷ bs) (plain (b ∷ bs))
no_hyphen names b bs off = (
  ap (λ x. x && bytes_eq bs (45 ∷ [])) off,
  ap (λ x. option_and_then long_of_rest
      (option_and_then (strip_byte 45) (if x then Some bs else None))) off,
  ap (λ x. option_and_then short_of_rest (if x then Some bs else None)) off,
  refl,
)

not_dashes : (b c x : ℕ) (xs : Text) → bytes_eq (b ∷ c ∷ x ∷ xs) dashes ≡ false
not_dashes b c x xs =
    ap (λ y. (b == 45) && y) (and_right (c == 45) false refl) ∙ and_right (b == 45) false refl

long_here : (b c x : ℕ) (xs : Text) → (b == 45) ≡ true → (c == 45) ≡ true
    → long_of (b ∷ c ∷ x ∷ xs) ≡ Some (
      name_in (x ∷ xs),
      if has_equals (x ∷ xs) then Some (value_in (x ∷ xs)) else None,
    )
long_here b c x xs e f =
    ap (λ y. option_and_then long_of_rest
    (option_and_then (strip_byte 45) (if y then Some (c ∷ x ∷ xs) else None))) e
    ∙ ap (λ y. option_and_then long_of_rest (if y then Some (x ∷ xs) else None)) f

pub reads : (names : List Text) (word : Text) → is_among names [] ≡ false
    → Reads names word (piece_of names word)
reads names [] none = (refl, refl, refl, refl)
reads names (b ∷ []) none = go (b == 45) refl
  where
    go : (x : Bool) → (b == 45) ≡ x
        → Reads names (b ∷ []) (hyphen_piece names (b ∷ []) (if x then Some [] else None))
    go true e = tt
    go false e = no_hyphen names b [] e
reads names (b ∷ c ∷ []) none = go (b == 45) refl
  where
    all_stray : (w : Bool) → long_piece names (if w then Some [] else None) ≡ stray
    all_stray true = ap (λ z. if z then named [] else stray) none
    all_stray false = refl

    go : (x : Bool) → (b == 45) ≡ x
        → Reads names (b ∷ c ∷ []) (hyphen_piece names (b ∷ c ∷ [])
        (if x then Some (c ∷ []) else None))
    go false e = no_hyphen names b (c ∷ []) e
    go true e = subst (λ p. Reads names (b ∷ c ∷ []) p) (sym (all_stray (c == 45))) tt
reads names (b ∷ c ∷ x ∷ xs) none = go (b == 45) refl
  where
    last : (z h : Bool) → has_equals (x ∷ xs) ≡ h → is_among names (name_in (x ∷ xs)) ≡ z
        → (b == 45) ≡ true → (c == 45) ≡ true
        → Reads names (b ∷ c ∷ x ∷ xs)
        (if z then (if h then joined (name_in (x ∷ xs)) (value_in (x ∷ xs)) else named
        (name_in (x ∷ xs))) else stray)
    last true true h f e e2 = (
      not_dashes b c x xs,
      long_here b c x xs e e2
          ∙ ap (λ y. Some (name_in (x ∷ xs), if y then Some (value_in (x ∷ xs)) else None)) h,
      f,
    )
    last true false h f e e2 = (
      not_dashes b c x xs,
      long_here b c x xs e e2
          ∙ ap (λ y. Some (name_in (x ∷ xs), if y then Some (value_in (x ∷ xs)) else None)) h,
      f,
    )
    last false h g f e e2 = tt

    two : (y : Bool) → (c == 45) ≡ y → (b == 45) ≡ true
        → Reads names (b ∷ c ∷ x ∷ xs) (long_piece names (if y then Some (x ∷ xs) else None))
    two false e2 e = tt
    two true e2 e = last (is_among names (name_in (x ∷ xs))) (has_equals (x ∷ xs)) refl refl e e2

    go : (y : Bool) → (b == 45) ≡ y
        → Reads names (b ∷ c ∷ x ∷ xs)
        (hyphen_piece names (b ∷ c ∷ x ∷ xs) (if y then Some (c ∷ x ∷ xs) else None))
    go false e = no_hyphen names b (c ∷ x ∷ xs) e
    go true e = two (c == 45) refl e
