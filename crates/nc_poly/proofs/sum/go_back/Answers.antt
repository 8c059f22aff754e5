use Rattle.nc_poly.proofs.Passes.{retained_all, rewritten}
use Rattle.nc_poly.specs.Keeping.{before_at}
use Rattle.std.proofs.Common.{refl, rules, ◌≡◌, ◌≤◌}
use Rattle.std.proofs.lemmas.List.Elements.{All-from_recursion, recursion_from_All}
use Rattle.nc_poly.proofs.sum.go_back.Goals as goal

pub returns-clause-terms : goal.returns-clause-terms
returns-clause-terms g c =
    rewritten _ (λ f. f.0.now ≡ c.args.pass) (before_at c.args.pass)
    (λ f k v b w f' i t. search rules) _ c.args.map.now.entries c.retain.new.self.entries refl
    c.retain.ensures.filtered

pub returns-clause-stamps : goal.returns-clause-stamps
returns-clause-stamps g c a =
    All-from_recursion (λ e. e.1.pass ≤ c.args.pass) c.retain.new.self.entries
    (retained_all _ (λ f. f.0.now ≡ c.args.pass) (λ s. s.pass ≤ c.args.pass)
    (λ s. s.pass ≤ c.args.pass) (λ f k v b w f' i t. search rules) _ c.args.map.now.entries
    c.retain.new.self.entries refl c.retain.ensures.filtered
    (recursion_from_All (λ e. e.1.pass ≤ c.args.pass) c.args.map.now.entries a))
