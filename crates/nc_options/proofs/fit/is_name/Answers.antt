use Rattle.std.proofs.Common.{rules, ◌∙◌, List, ℕ, Bor}
use Rattle.std.specs.Str.{bytes_eq}
use Rattle.std.proofs.lemmas.Iterator.{YieldsList-from_slice}
use Rattle.std.proofs.lemmas.Iterator.Search.{any_from_yields_List}
use borrow.Author.Tests.{tests}
use Rattle.clap.proofs.WalkLemmas.{list_any-map}
use Rattle.nc_options.proofs.fit.is_name.Goals as goal

pub returns : goal.returns
returns c =
    any_from_yields_List (λ (n : Bor (List ℕ)). bytes_eq n.now c.args.text.now) _ _ _
    c.any.ensures.ran (YieldsList-from_slice c.args.names.now cc)
    (λ x b q k. search (rules, tests))
    ∙ list_any-map (λ (n : List ℕ). bytes_eq n c.args.text.now) (λ (n : Bor (List ℕ)). n.now)
    c.args.names.now
