use Rattle.nc_tokens.proofs.Lines.{split_last, split_whole}
use Rattle.nc_tokens.proofs.line.split_line.Goals as goal

pub returns-then-is_empty-clause-lines : goal.returns-then-is_empty-clause-lines
returns-then-is_empty-clause-lines c =
    split_last _ _ _ _ c.requires c.len_before-len.ensures.value c.split_at.ensures.front
    c.split_at.ensures.back (cc)

pub returns-clause-lines : goal.returns-clause-lines
returns-clause-lines c =
    split_whole _ _ _ _ c.requires c.len_before-len.ensures.value c.split_at.ensures.front
    c.split_at.ensures.back
