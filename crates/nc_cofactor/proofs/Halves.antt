-- The search for the first entry whose signature is not lesser.
-- Entries ascend, so one comparison settles one half of them (`lower_half`, `upper_half`).
use Rattle.nc_algebra.proofs.Monomials.{monomial_total}
use Rattle.nc_algebra.proofs.Orders.{less_from_test}
use Rattle.nc_algebra.specs.Elements.{HasDegree, IsLess, generator_weight}
use Rattle.nc_algebra.specs.Monomials.{Sig, compare_sigs, monomial_of}
use Rattle.nc_cofactor.proofs.Items.{facts, listed_at}
use Rattle.nc_cofactor.proofs.Lesser.{IsLesserTo, IsOtherFrom, lesser_before, others_behind}
use Rattle.nc_module.proofs.Bounds.{less_from_sigs, sigs_from_less}
use Rattle.nc_snapshot.specs.Snapshots.{IsSnapshot, Signed, Snapshot, entry_of}
use Rattle.nc_theory.specs.Rebuilding.{IsAtLeast}
use Rattle.std.proofs.Common.{Bool, Some, ap, arith, false, inl, inr, subst, sym, true, ℕ, ◌+◌, ◌-◌, ◌∙◌, ◌≡◌, ◌⊎◌}
use Rattle.std.proofs.lemmas.Bool.{false≢true}
use Rattle.std.specs.List.{slice_get}
use Rattle.std.specs.Ordering.{is_lt}

-- the entry at place m, counted from 0, and whether its signature is below β
module _ (s : Snapshot) (h : IsSnapshot s) (β : Sig)
    (degree : HasDegree s.problem.problem.setting β) (m : ℕ) (e : Signed)
    (at : slice_get s.state.entries (m + 1 - 1) ≡ Some (entry_of e))
    (own : HasDegree s.problem.problem.setting e.sig)
    (σ : Sig) (is : σ ≡ e.sig) (answer : Bool) (told : answer ≡ is_lt (compare_sigs σ β)) where
  test : answer ≡ is_lt (compare_sigs e.sig β)
  test = told ∙ ap (λ ρ. is_lt (compare_sigs ρ β)) is

  pub lower_half : answer ≡ true
      → IsLesserTo s.problem.problem.setting s.state.entries (monomial_of β) (m + 1)
  lower_half t =
      let here : m + 1 - 1 ≡ m = omega arith in
      subst (λ n. IsLesserTo s.problem.problem.setting s.state.entries (monomial_of β) (n + 1)) here
      (lesser_before s.problem.problem.setting s.state.entries (facts s h).entries_ascend
      (monomial_of β) (entry_of e) (listed_at s.state.entries (m + 1 - 1) (entry_of e) at)
      (less_from_sigs s.problem.problem.setting e.sig β own degree
      (less_from_test (compare_sigs e.sig β) (sym test ∙ t))))

  pub upper_half : answer ≡ false
      → IsOtherFrom s.problem.problem.setting s.state.entries (monomial_of β) m
  upper_half t =
      let here : m + 1 - 1 ≡ m = omega arith in
      subst (IsOtherFrom s.problem.problem.setting s.state.entries (monomial_of β)) here
      (others_behind s.problem.problem.setting s.state.entries (facts s h).entries_ascend
      (monomial_of β) (entry_of e) (listed_at s.state.entries (m + 1 - 1) (entry_of e) at)
      (go (monomial_total (generator_weight s.problem.problem.setting) (monomial_of e.sig)
      (monomial_of β))))
    where
      go : IsLess s.problem.problem.setting (monomial_of e.sig) (monomial_of β)
          ⊎ ((monomial_of e.sig ≡ monomial_of β)
          ⊎ IsLess s.problem.problem.setting (monomial_of β) (monomial_of e.sig))
          → IsAtLeast s.problem.problem.setting (monomial_of β) (entry_of e)
      go (inl l) =
          absurd (false≢true (sym t ∙ (test
          ∙ ap is_lt (sigs_from_less s.problem.problem.setting e.sig β own degree l))))
      go (inr (inl i)) = inl i
      go (inr (inr l)) = inr l
