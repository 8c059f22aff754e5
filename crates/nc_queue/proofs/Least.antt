-- The first of those that are greater.
use Rattle.nc_algebra.proofs.Orders.{less_from_test}
use Rattle.nc_algebra.specs.Monomials.{Sig, compare_sigs}
use Rattle.nc_queue.proofs.Ascending.{first_passes, none_passes}
use Rattle.nc_queue.specs.Queues.{IsAscending, IsLeastAfter}
use Rattle.nc_sig.proofs.Equality.{sigs_same}
use Rattle.nc_sig.specs.Orders.{sigs_order}
use Rattle.std.proofs.Common.{Bool, Bor, Less, List, None, Option, Some, [], ap, map, option_copied, sym, true, ◌&&◌, ◌∙◌, ◌∷◌, ◌≡◌}
use Rattle.std.proofs.Math.Bool.{and-true}
use Rattle.std.specs.List.{filter}
use Rattle.std.specs.Option.{MatchOption, option_map}
use Rattle.std.specs.Ordering.{is_lt}

-- the test of a range that begins behind σ and has no end
abbrev pub is_after : Sig → Sig → Bool
is_after σ τ = is_lt (compare_sigs σ τ) && true

passes : (σ τ : Sig) → compare_sigs σ τ ≡ Less → is_after σ τ ≡ true
passes σ τ e = and-true (is_lt (compare_sigs σ τ)) ∙ ap is_lt e

less : (σ τ : Sig) → is_after σ τ ≡ true → compare_sigs σ τ ≡ Less
less σ τ e = less_from_test (compare_sigs σ τ) (sym (and-true (is_lt (compare_sigs σ τ))) ∙ e)

pub least_after_first : {A : Type 0} (f : A → Sig) (ss : List Sig) (σ : Sig) (range rest : List A)
    (o : Option (Bor A)) → IsAscending ss → map f range ≡ filter (is_after σ) ss
    → MatchOption o ((range ≡ []) × (rest ≡ [])) (λ x. range ≡ x.now ∷ rest)
    → IsLeastAfter ss σ (option_map f (option_copied o))
least_after_first f ss σ range rest None s e h =
    λ τ c l. none_passes sigs_order sigs_same (is_after σ) ss (sym e ∙ ap (map f) h.0) τ c
    (passes σ τ l)
least_after_first f ss σ range rest (Some x) s e h =
    let t = first_passes sigs_order sigs_same (is_after σ) ss (f x.now) (map f rest) s
    (sym e ∙ ap (map f) h) in
    (t.0, less σ (f x.now) t.1, λ ρ c l. t.2 ρ c (passes σ ρ l))
