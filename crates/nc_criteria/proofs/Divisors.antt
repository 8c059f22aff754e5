-- What a division of signatures tells, at an index that is read by its number.
use Rattle.nc_algebra.specs.Monomials.{Divides, Monomial, Sig, monomial_of}
use Rattle.nc_algebra.specs.Words.{Letter}
use Rattle.nc_algebra.proofs.Orders.{nat_order}
use Rattle.nc_theory.proofs.Determinism.{listed_same}
use Rattle.nc_theory.specs.Newer.{IsNewerListed, IsNewerTrivial, IsNewlyCovered}
use Rattle.nc_criteria.specs.Pairs.{IsListedBelow, IsTrivialBelow}
use Rattle.nc_algebra.specs.Elements.{Setting}
use Rattle.nc_sig.specs.Sigs.{IsQuotient}
use Rattle.nc_snapshot.specs.Snapshots.{syzygy_of}
use Rattle.nc_theory.specs.States.{State, Syzygy}
use Rattle.nc_theory.specs.Syzygies.{Covered, IsSyzygySignature}
use Rattle.std.proofs.Common.{Contains, length, ◌<◌, ◌≤◌, IsTrue, List, None, Option, Some, arith, inl, inr, refl, subst, sym, ℕ, ◌+◌, ◌-◌, ◌≡◌, ◌↔◌, ◌⊎◌}
use Rattle.std.proofs.lemmas.Option.{get_or_from_slice_get, slice_get_within}
use Rattle.std.specs.Borrow.{Bor}
use Rattle.std.specs.List.{slice_get}
use Rattle.std.specs.Option.{is_some}

pub quotient_divides : (σ τ : Monomial) (r : Option (Bor (List Letter) × Bor (List Letter)))
    → IsQuotient σ τ r → IsTrue (is_some r) ↔ Divides σ τ
quotient_divides σ τ None h = (λ t. absurd cc, λ d. absurd (h d))
quotient_divides σ τ (Some (u, v)) h = (λ t. (u.now, v.now, h), λ d. refl)

-- the item with number n + 1 stands at index n
pub numbered : {X : Type 0} (xs : List X) (n : ℕ) (x : X) → slice_get xs (n + 1 - 1) ≡ Some x
    → slice_get xs n ≡ Some x
numbered xs n x h =
    let same : n + 1 - 1 ≡ n = omega arith in subst (λ k. slice_get xs k ≡ Some x) same h

-- behind the first k, none before the index has a signature that divides τ
abbrev pub NoneListed : List Syzygy → Monomial → ℕ → ℕ → Type 0
NoneListed hs τ k n =
    (h : Syzygy) (c : Contains hs h) → k ≤ c.0 → c.0 < n → ¬ Divides h.signature τ

pub none_listed : (hs : List Syzygy) (τ : Monomial) (k n : ℕ) → length hs ≤ n
    → NoneListed hs τ k n → ¬ IsListedBelow hs τ k
none_listed hs τ k n h before (g, c, l, d) = before g c l (omega (arith, h, c.1)) d

module _ (hs : List Syzygy) (τ : Monomial) (k n : ℕ) (σ : Sig)
    (stands : slice_get hs (n + 1 - 1) ≡ Some (syzygy_of σ)) where
  abbrev here : Contains hs (syzygy_of σ)
  here = (
    n,
    slice_get_within hs n (syzygy_of σ) (numbered hs n (syzygy_of σ) stands),
    get_or_from_slice_get hs n (syzygy_of σ) (syzygy_of σ) (numbered hs n (syzygy_of σ) stands),
  )

  pub listed_found : k ≤ n → Divides (monomial_of σ) τ → IsListedBelow hs τ k
  listed_found l d = (
    syzygy_of σ,
    here,
    l,
    d,
  )

  pub listed_further : NoneListed hs τ k n → ¬ Divides (monomial_of σ) τ
      → NoneListed hs τ k (n + 1)
  listed_further before none h c l b d = go (nat_order c.0 n)
    where
      go : (c.0 < n) ⊎ ((c.0 ≡ n) ⊎ (n < c.0)) → ⊥
      go (inl m) = before h c l m d
      go (inr (inl e)) =
          none (subst (λ (x : Syzygy). Divides x.signature τ)
          (listed_same hs h (syzygy_of σ) c here e) d)
      go (inr (inr m)) = omega (arith, b, m)

-- what covers is a listed syzygy or a trivial one
module _ (s : Setting) (state : State) (τ : Monomial) where
  pub newly_covered : (n m : ℕ) → IsListedBelow state.syzygies τ m
      ⊎ IsTrivialBelow s state.entries τ n → IsNewlyCovered s state n m τ
  newly_covered n m (inl (h, k, l, d)) =
      record { by = h.signature; is_newer = inl (h, k, l, refl); divides = d }
  newly_covered n m (inr (ρ, t, d)) = record { by = ρ; is_newer = inr t; divides = d }

  pub by_newer : (n m : ℕ) → IsNewlyCovered s state n m τ → IsListedBelow state.syzygies τ m
      ⊎ IsTrivialBelow s state.entries τ n
  by_newer n m c = go c.is_newer
    where
      go : IsNewerListed state.syzygies m c.by ⊎ IsNewerTrivial s state.entries n c.by
          → IsListedBelow state.syzygies τ m ⊎ IsTrivialBelow s state.entries τ n
      go (inl (h, k, l, e)) = inl (h, k, l, subst (λ σ. Divides σ τ) (sym e) c.divides)
      go (inr t) = inr (c.by, t, c.divides)

  -- with nothing before it, all is newer
  pub all_newer : IsNewlyCovered s state 0 0 τ ↔ Covered s state τ
  all_newer = (
    λ c. record { by = c.by; is_syzygy = to c.is_newer; divides = c.divides },
    λ c. record { by = c.by; is_newer = back c.is_syzygy; divides = c.divides },
  )
    where
      to : {ρ : Monomial} → IsNewerListed state.syzygies 0 ρ ⊎ IsNewerTrivial s state.entries 0 ρ
          → IsSyzygySignature s state ρ
      to (inl (h, k, l, e)) = inl (h, k, e)
      to (inr (t, l)) = inr t

      back : {ρ : Monomial} → IsSyzygySignature s state ρ
          → IsNewerListed state.syzygies 0 ρ ⊎ IsNewerTrivial s state.entries 0 ρ
      back (inl (h, k, e)) = inl (h, k, omega arith, e)
      back (inr t) = inr (t, inl (omega arith))
