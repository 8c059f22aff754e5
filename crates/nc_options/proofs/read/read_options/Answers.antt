use Rattle.std.proofs.Common.{◌≡◌, ◌∙◌, ap, map, sym, List, [], ◌∷◌, Some, None, codes}
use Rattle.std.specs.Prelude.{slice_get}
use Rattle.nc_options.specs.Pieces.{Text}
use Rattle.nc_options.specs.Options.{options_of}
use Rattle.nc_options.proofs.Commands.{no_command}
use Rattle.nc_options.proofs.read.read_options.Goals as goal

-- the first word is none of the command words
no_first : {X : Type 0} (bytes : X → Text) (words : List X) (first : X) (text : Text)
    → Some first ≡ slice_get words 0 → text ≡ bytes first
    → (text ≡ codes "basis" → ⊥) → (text ≡ codes "member" → ⊥) → (text ≡ codes "check" → ⊥)
    → (text ≡ codes "demo" → ⊥)
    → options_of (map bytes words) ≡ None
no_first bytes [] first text is same basis member check demo = cc
no_first bytes (word ∷ words) first text is same basis member check demo =
    let same_word : text ≡ bytes word = cc in
    ap (λ t. options_of (t ∷ map bytes words)) (sym same_word)
    ∙ no_command text (map bytes words) basis member check demo

pub returns-in_default-as_str : goal.returns-in_default-as_str
returns-in_default-as_str c =
    let none = c.in_default-as_str in
    no_first _ c.args.words.now c.in-Some.command.now c.as_str.result.now c.in-Some.ensures.value
    c.as_str.ensures.value none.not-basis none.not-member none.not-check none.not-demo
