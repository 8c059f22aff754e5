use Rattle.nc_module.proofs.Names.{among, distinct_by_parts, not_among, not_true, parts_of_distinct}
use Rattle.std.proofs.Common.{Bool, List, bytes_eq, drop, length, subst, sym, take, true≢false, ℕ, ◌-◌, ◌∙◌, ◌≡◌}
use Rattle.std.specs.List.{list_any}
use Rattle.nc_module.proofs.alphabet.+are_distinct.Goals.{After-has_name}
use Rattle.nc_module.proofs.alphabet.+are_distinct.Goals as goal

-- the names behind the first
abbrev others : List (List ℕ) → List (List ℕ)
others names = take (length names - 1) (drop 1 names)

-- what is said of the first name among them
stands : (t : ℕ) (c : After-has_name t) (b : Bool) → c.has_name.result ≡ b
    → list_any (λ n. bytes_eq n c.first-item.result) (others c.args.names.now) ≡ b
stands t c b is =
    subst (λ (y : List ℕ). list_any (λ n. bytes_eq n y) (others c.args.names.now) ≡ b)
    c.bytes.ensures.bytes (sym c.has_name.ensures ∙ is)

pub returns-then-not-has_name : goal.returns-then-not-has_name
returns-then-not-has_name t c =
    let names : List (List ℕ) = c.args.names.now in
    let first : List ℕ = c.first-item.result in
    let some = c.in-len1-up.len_at_least in
    let none =
    stands t (goal.at.returns-then-not-has_name t c).After-has_name _ c.if-not-has_name.true in (
      λ yes. distinct_by_parts names first some c.first-item.is
          (not_among first (others names) none) (c.are_distinct.ensures.0 yes),
      λ distinct. c.are_distinct.ensures.1
          (parts_of_distinct names first some c.first-item.is distinct).1,
    )

pub returns-else-not-has_name : goal.returns-else-not-has_name
returns-else-not-has_name t c =
    let names : List (List ℕ) = c.args.names.now in
    let first : List ℕ = c.first-item.result in
    let some = c.in-len1-up.len_at_least in
    let found =
    stands t (goal.at.returns-else-not-has_name t c).After-has_name _ c.if-not-has_name.false in (
      λ yes. absurd (true≢false (sym c.if-not-has_name.false ∙ not_true c.has_name.result yes)),
      λ distinct. absurd ((parts_of_distinct names first some c.first-item.is distinct).0
          (among first (others names) found)),
    )
