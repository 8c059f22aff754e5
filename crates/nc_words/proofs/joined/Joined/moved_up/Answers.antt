use Rattle.nc_algebra.proofs.Words.{no_length}
use Rattle.nc_algebra.specs.Words.{Word}
use Rattle.std.proofs.Common.{[], ap₂, length, sym, ◌++◌, ◌∙◌, ◌≡◌}
use Rattle.std.proofs.lemmas.Bool.{eqb-true}
use Rattle.nc_words.proofs.joined.Joined.moved_up.Goals as goal

pub returns-else-not-is_empty-2-clause-same : goal.returns-else-not-is_empty-2-clause-same
returns-else-not-is_empty-2-clause-same c =
    let a : Word = c.args.self.now.first.now in
    let b : Word = c.args.self.now.second.now in
    let first : a ≡ [] =
    no_length a (eqb-true (length a) 0 (sym c.is_empty.ensures ∙ c.if-not-is_empty.false)) in
    let second : b ≡ [] =
    no_length b (eqb-true (length b) 0 (sym c.is_empty-else-not-is_empty.ensures
    ∙ c.if-not-is_empty-2.false)) in
    c.of_word.ensures.word ∙ sym (ap₂ (λ x y. x ++ (y ++ c.args.self.now.third.now)) first second)
