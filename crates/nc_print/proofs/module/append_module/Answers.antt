use Rattle.nc_algebra.specs.Monomials.{Sig}
use Rattle.nc_algebra.specs.Sums.{Term}
use Rattle.std.proofs.Common.{length, sym, ◌<◌, ◌∙◌}
use Rattle.std.proofs.lemmas.List.Elements.{All-head, All-rest, All-same}
use Rattle.std.specs.List.{All}
use Rattle.nc_print.proofs.module.append_module.Goals as goal

pub append_term-requires-clause-left : goal.append_term-requires-clause-left
append_term-requires-clause-left c =
    All-head (λ (t : Term Sig). All (λ x. x.index < length c.args.names.now) t.key.left) _ _
    (All-same (λ (t : Term Sig). All (λ x. x.index < length c.args.names.now) t.key.left) _ _
    (sym (sym c.terms.ensures.terms ∙ c.in-Some.ensures.cases.0)) c.requires.left)

pub append_term-requires-clause-right : goal.append_term-requires-clause-right
append_term-requires-clause-right c =
    All-head (λ (t : Term Sig). All (λ x. x.index < length c.args.names.now) t.key.right) _ _
    (All-same (λ (t : Term Sig). All (λ x. x.index < length c.args.names.now) t.key.right) _ _
    (sym (sym c.terms.ensures.terms ∙ c.in-Some.ensures.cases.0)) c.requires.right)

pub append_others-requires-clause-left : goal.append_others-requires-clause-left
append_others-requires-clause-left c =
    All-rest (λ (t : Term Sig). All (λ x. x.index < length c.args.names.now) t.key.left) _ _ _
    (sym c.terms.ensures.terms ∙ c.in-Some.ensures.cases.0) c.requires.left

pub append_others-requires-clause-right : goal.append_others-requires-clause-right
append_others-requires-clause-right c =
    All-rest (λ (t : Term Sig). All (λ x. x.index < length c.args.names.now) t.key.right) _ _ _
    (sym c.terms.ensures.terms ∙ c.in-Some.ensures.cases.0) c.requires.right
