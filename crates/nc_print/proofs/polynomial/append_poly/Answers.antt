use Rattle.std.proofs.Common.{◌<◌, length, sym, ◌∙◌}
use Rattle.std.specs.List.{All}
use Rattle.std.proofs.lemmas.List.Elements.{All-head, All-rest, All-same}
use Rattle.nc_print.proofs.polynomial.append_poly.Goals as goal

pub append_term-requires : goal.append_term-requires
append_term-requires c =
    All-head (λ t. All (λ x. x.index < length c.args.names.now) t.key) _ _
    (All-same (λ t. All (λ x. x.index < length c.args.names.now) t.key) _ _
    (sym (sym c.terms.ensures.terms ∙ c.in-Some.ensures.cases.0)) c.requires)

pub append_others-requires : goal.append_others-requires
append_others-requires c =
    All-rest (λ t. All (λ x. x.index < length c.args.names.now) t.key) _ _ _
    (sym c.terms.ensures.terms ∙ c.in-Some.ensures.cases.0) c.requires
