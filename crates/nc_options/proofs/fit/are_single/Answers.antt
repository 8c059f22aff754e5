use Rattle.std.proofs.Common.{rules, ◌∙◌, sym, map, List, ℕ, Bor, string_bytes}
use Rattle.std.specs.Prelude.{nat_le}
use Rattle.std.specs.List.{count_by}
use Rattle.std.proofs.lemmas.List.Folds.{list_all-map}
use Rattle.std.proofs.lemmas.Iterator.{YieldsList-from_slice}
use Rattle.std.proofs.lemmas.Iterator.Search.{all_from_yields_List}
use borrow.Author.Tests.{tests}
use Rattle.nc_options.specs.Fit.{names_option}
use Rattle.nc_options.proofs.fit.are_single.Goals as goal

pub returns : goal.returns
returns c =
    all_from_yields_List (λ (n : Bor (List ℕ)). nat_le
    (count_by (names_option n.now) (map string_bytes c.args.words.now)) 1) _ _ _
    c.all.ensures.ran (YieldsList-from_slice c.args.names.now cc)
    (λ x b q k. search (rules, tests))
    ∙ sym (list_all-map (λ (n : List ℕ). nat_le
    (count_by (names_option n) (map string_bytes c.args.words.now)) 1)
    (λ (n : Bor (List ℕ)). n.now) c.args.names.now)
