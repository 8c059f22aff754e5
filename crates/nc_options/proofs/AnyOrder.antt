-- The order of the options is free.
use Rattle.std.proofs.Common.{◌≡◌, ◌∙◌, ◌⊎◌, Bool, true, false, refl, subst, sym, ap, List, [], ◌∷◌, Option, Some, None, inl, inr, codes, true≢false}
use Rattle.std.specs.Prelude.{IsPermutation, if◌then◌else◌, option_and_then, option_map}
use Rattle.std.specs.Str.{bytes_eq}
use Rattle.std.proofs.lemmas.List.Sorted.{IsPermutation-sym}
use Rattle.std.proofs.lemmas.Slice.Eq.{bytes_eq-Decides}
use Rattle.nc_options.proofs.Orders.{distinct-permutation, value_of-permutation}
use Rattle.nc_options.proofs.Spellings.{spelled_splits}
use Rattle.nc_options.specs.CommandLine.{are_names}
use Rattle.nc_options.specs.Pieces.{Text}
use Rattle.nc_options.specs.Spellings.{AreSpelled}
use Rattle.nc_options.specs.Uses.{Use, if_distinct, is_distinct, uses_of, value_of}
use Rattle.nc_options.specs.Laws.{OptionsInAnyOrder, names_of, takes_number}
use Rattle.nc_options.specs.Options.{basis_names, basis_of, check_after, demo_names, demo_of, member_names, member_of, options_of}
use Rattle.nc_options.specs.declared.options.Options.TheVariants.{Basis, Check, Demo, Member}
use Rattle.nc_options.proofs.Commands.{no_command}

-- both lists of words are uses, with the same values, or neither is
pub record AreBoth (names : List Text) (number : Bool) (words words' : List Text) : Type 0 where
  pub uses : List Use
  pub uses' : List Use
  pub first : uses_of names number words ≡ Some uses
  pub second : uses_of names number words' ≡ Some uses'
  pub values : (name : Text) → value_of name uses' ≡ value_of name uses

pub record IsNeither (names : List Text) (number : Bool) (words words' : List Text) : Type 0 where
  pub first : uses_of names number words ≡ None
  pub second : uses_of names number words' ≡ None

both_or_neither : (names : List Text) (number : Bool) (words words' : List Text)
    (uses uses' : List Use) → are_names names ≡ true
    → AreSpelled names number uses words → AreSpelled names number uses' words'
    → IsPermutation uses uses'
    → AreBoth names number words words' ⊎ IsNeither names number words words'
both_or_neither names number words words' uses uses' good s s' p =
    go (is_distinct uses) (is_distinct uses') refl refl
  where
    with : (ws : List Text) (us : List Use) (b : Bool) → AreSpelled names number us ws
        → is_distinct us ≡ b → uses_of names number ws ≡ (if b then Some us else None)
    with ws us b spelled is =
        ap (option_and_then if_distinct) (spelled_splits names number us ws good spelled)
        ∙ ap (λ x. if x then Some us else None) is

    go : (a b : Bool) → is_distinct uses ≡ a → is_distinct uses' ≡ b
        → AreBoth names number words words' ⊎ IsNeither names number words words'
    go true b d d' =
        let e : is_distinct uses' ≡ true = distinct-permutation uses uses' p d in
        inl (record {
          uses = uses;
          uses' = uses';
          first = with words uses true s d;
          second = with words' uses' true s' e;
          values = λ name. value_of-permutation name uses uses' p d;
        })
    go false false d d' =
        inr (record { first = with words uses false s d; second = with words' uses' false s' d' })
    go false true d d' =
        absurd (true≢false (sym (distinct-permutation uses' uses (IsPermutation-sym uses uses' p)
        d') ∙ d))

-- what is read of the values is the same
same_read : {O : Type 0} (read : (Text → Option Text) → Option O) (names : List Text)
    (number : Bool) (words words' : List Text)
    → AreBoth names number words words' ⊎ IsNeither names number words words'
    → option_and_then (λ us. read (λ name. value_of name us)) (uses_of names number words)
    ≡ option_and_then (λ us. read (λ name. value_of name us)) (uses_of names number words')
same_read read names number words words' (inl both) =
    ap (option_and_then (λ us. read (λ name. value_of name us))) both.first
    ∙ ap read (λ i name. sym (both.values name) i)
    ∙ sym (ap (option_and_then (λ us. read (λ name. value_of name us))) both.second)
same_read read names number words words' (inr neither) =
    ap (option_and_then (λ us. read (λ name. value_of name us))) neither.first
    ∙ sym (ap (option_and_then (λ us. read (λ name. value_of name us))) neither.second)

same_check : (words words' : List Text) → AreBoth [] false words words'
    ⊎ IsNeither [] false words words' → check_after words ≡ check_after words'
same_check words words' (inl both) =
    ap (option_map (λ us. Check)) both.first ∙ sym (ap (option_map (λ us. Check)) both.second)
same_check words words' (inr neither) =
    ap (option_map (λ us. Check)) neither.first ∙ sym (ap (option_map (λ us. Check)) neither.second)

-- what is to be shown of a command
abbrev Same : List Text → List Text → List Use → List Use → Text → Type 0
Same words words' uses uses' command =
    AreSpelled (names_of command) (takes_number command) uses words
    → AreSpelled (names_of command) (takes_number command) uses' words'
    → options_of (command ∷ words) ≡ options_of (command ∷ words')

pub any_order : OptionsInAnyOrder
any_order command words words' uses uses' s s' p =
    go (bytes_eq command (codes "basis")) (bytes_eq command (codes "member"))
    (bytes_eq command (codes "check")) (bytes_eq command (codes "demo")) refl refl refl refl
  where
    at : (other : Text) → bytes_eq command other ≡ true → Same words words' uses uses' other
        → options_of (command ∷ words) ≡ options_of (command ∷ words')
    at other is same =
        subst (Same words words' uses uses') (sym ((bytes_eq-Decides command other).0 is)) same s s'

    off : (other : Text) → bytes_eq command other ≡ false → command ≡ other → ⊥
    off other is e = true≢false (sym ((bytes_eq-Decides command other).1 e) ∙ is)

    go : (a b c d : Bool) → bytes_eq command (codes "basis") ≡ a
        → bytes_eq command (codes "member") ≡ b → bytes_eq command (codes "check") ≡ c
        → bytes_eq command (codes "demo") ≡ d
        → options_of (command ∷ words) ≡ options_of (command ∷ words')
    go true b c d is e f g =
        at (codes "basis") is (λ t t'. same_read (λ given. option_map Basis (basis_of given))
        basis_names false words words'
        (both_or_neither basis_names false words words' uses uses' refl t t' p))
    go false true c d e is f g =
        at (codes "member") is (λ t t'. same_read (λ given. option_map Member (member_of given))
        member_names false words words'
        (both_or_neither member_names false words words' uses uses' refl t t' p))
    go false false true d e f is g =
        at (codes "check") is (λ t t'. same_check words words'
        (both_or_neither [] false words words' uses uses' refl t t' p))
    go false false false true e f g is =
        at (codes "demo") is (λ t t'. same_read (λ given. option_map Demo (demo_of given))
        demo_names true words words' (both_or_neither demo_names true words words' uses uses'
        refl t t' p))
    go false false false false e f g h =
        no_command command words (off _ e) (off _ f) (off _ g) (off _ h)
        ∙ sym (no_command command words' (off _ e) (off _ f) (off _ g) (off _ h))
