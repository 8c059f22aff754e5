use Rattle.nc_tokens.proofs.Repeated.{IsOnTheWay}
use Rattle.nc_tokens.specs.Lines.{lines_left}
use Rattle.nc_text.proofs.Terms.{all_terms}
use Rattle.nc_text.proofs.certificate.terms_of.Given as goal
use Rattle.nc_text.specs.Certificates.{term_lines}
use Rattle.nc_tokens.specs.Unread.{left}
use Rattle.std.proofs.Common.{length}

abbrev pub invariant-terms : goal.invariant-terms
invariant-terms l =
    IsOnTheWay (all_terms l.setting.setting.prime l.setting.alphabet
    (length l.setting.setting.generators)) l.line 0 (left l.text)
    (term_lines l.setting.setting.prime l.setting.alphabet (length l.setting.setting.generators)
    (left l.fn.text))

abbrev pub decreases-terms : goal.decreases-terms
decreases-terms l = lines_left (left l.text)
