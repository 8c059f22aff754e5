use Rattle.nc_poly.proofs.Passes.{retained_all, rewritten}
use Rattle.nc_poly.specs.Keeping.{now_of}
use Rattle.std.proofs.Common.{rules, ◌<◌, ◌≤◌}
use Rattle.std.proofs.lemmas.List.Elements.{All-from_recursion, recursion_from_All}
use Rattle.nc_poly.proofs.sum.next_pass.Goals as goal

pub returns-clause-terms : goal.returns-clause-terms
returns-clause-terms g c =
    rewritten _ (λ f. Unit {0}) now_of (λ f k v b w f' i t. search rules) _ c.args.map.now.entries
    c.retain.new.self.entries tt c.retain.ensures.filtered

pub returns-clause-stamps : goal.returns-clause-stamps
returns-clause-stamps g c =
    All-from_recursion (λ e. e.1.pass < 1) c.retain.new.self.entries
    (retained_all _ (λ f. Unit {0}) (λ s. s.pass ≤ c.args.pass) (λ s. s.pass < 1)
    (λ f k v b w f' i t. search rules) _ c.args.map.now.entries c.retain.new.self.entries tt
    c.retain.ensures.filtered (recursion_from_All (λ e. e.1.pass ≤ c.args.pass)
    c.args.map.now.entries c.requires))
