use Rattle.std.proofs.Common.{rules, ◌∙◌, sym, map, List, ℕ, Bor, string_bytes}
use Rattle.std.proofs.lemmas.List.Folds.{list_all-map}
use Rattle.std.proofs.lemmas.Iterator.{YieldsList-from_slice}
use Rattle.std.proofs.lemmas.Iterator.Search.{all_from_yields_List}
use borrow.Author.Tests.{tests}
use Rattle.nc_options.specs.Fit.{is_fit}
use Rattle.nc_options.proofs.fit.are_fit.Goals as goal

pub returns : goal.returns
returns c =
    all_from_yields_List (λ w. is_fit (map (λ (n : Bor (List ℕ)). n.now) c.args.names.now)
    (string_bytes w)) _ _ _ c.all.ensures.ran (YieldsList-from_slice c.args.words.now cc)
    (λ x b q k. search (rules, tests))
    ∙ sym (list_all-map (is_fit (map (λ (n : Bor (List ℕ)). n.now) c.args.names.now)) string_bytes
    c.args.words.now)
