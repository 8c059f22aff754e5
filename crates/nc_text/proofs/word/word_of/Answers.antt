use Rattle.nc_text.proofs.ReadWords.{read_is_text}
use Rattle.nc_text.proofs.word.word_of.Goals as goal
use Rattle.std.proofs.Common.{◌∙◌, ◌≡◌}
use Rattle.std.proofs.lemmas.List.{append-nil}

pub returns-clause-text : goal.returns-clause-text
returns-clause-text c =
    let same : c.in_ok-word.word ≡ c.in_ok-letters.letters.items =
    c.in_ok-word.ensures.letters ∙ append-nil c.deref.result.now ∙ c.deref.ensures.value in
    rw same (read_is_text _ _ _ _ c.in_ok-letters.ensures.reads)
