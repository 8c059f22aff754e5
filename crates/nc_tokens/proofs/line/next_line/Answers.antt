use Rattle.std.proofs.Common.{◌≡◌, true, false, sym, ◌∙◌, arith}
use Rattle.std.specs.List.{list_all}
use Rattle.nc_tokens.specs.Tokens.{is_blank}
use Rattle.nc_tokens.specs.Lines.{content}
use Rattle.nc_tokens.proofs.Lines.{passed, comes, over}
use Rattle.nc_tokens.proofs.line.next_line.Goals as goal

pub returns-then-not-are_blanks : goal.returns-then-not-are_blanks
returns-then-not-are_blanks c =
    let some : list_all is_blank (content c.split_line.result.0.now) ≡ false = cc in (
      rw c.content_of-content.ensures (sym c.loop-rest.invariant.same
          ∙ comes _ _ _ _ c.split_line.ensures.lines some),
      omega arith,
    )

pub loop-rest-preserved : goal.loop-rest-preserved
loop-rest-preserved c =
    let none : list_all is_blank (content c.split_line.result.0.now) ≡ true = cc in
    record {
      same = sym (passed _ _ _ _ c.split_line.ensures.lines none)
          ∙ c.loop-rest.invariant.same;
      within = omega arith;
    }

pub returns : goal.returns
returns c = sym c.loop-rest.invariant.same ∙ over _ _ (cc)
