-- Which label has too many terms for a representation.
-- There is a first one, or none (`within_or_first`), and one alone (`too_many_once`).
use Rattle.nc_algebra.proofs.Orders.{Decided}
use Rattle.nc_algebra.specs.Elements.{Setting}
use Rattle.nc_cofactor.proofs.Existence.{terms_exist}
use Rattle.nc_cofactor.proofs.Firsts.{first_or_within, one_alone}
use Rattle.nc_cofactor.proofs.Terms.{terms_once}
use Rattle.nc_cofactor.specs.Claims.{ClaimTerms, numbers_of}
use Rattle.nc_cofactor.specs.Firsts.{AreWithin, IsFirstPast}
use Rattle.nc_cofactor.specs.Terms.{IsNeeded}
use Rattle.nc_snapshot.specs.declared.outcome.Listed.{Listed}
use Rattle.nc_snapshot.specs.declared.outcome.Listed.TheVariants.{Claim, Entry as EntryOf, Syzygy as SyzygyOf}
use Rattle.nc_theory.specs.Labels.{label_at, labels_of, step_multiples}
use Rattle.nc_theory.specs.States.{State, Step}
use Rattle.std.proofs.Common.{Contains, List, arith, inl, inr, length, ℕ, ◌+◌, ◌<◌, ◌≡◌, ◌≤◌, ◌⊎◌}

module _ (s : Setting) (some : 0 < s.prime) (run : State) (steps : List Step) (limit : ℕ) where
  abbrev Needed : ℕ → Type 0
  Needed j = IsNeeded run.entries (Contains (numbers_of steps)) j

  once : (listed : Listed) (n n' : ℕ) → ClaimTerms steps s.prime run listed n
      → ClaimTerms steps s.prime run listed n' → n ≡ n'
  once (EntryOf k) n n' a b =
      terms_once s.prime (label_at (labels_of s.prime run.entries) k) n n' a.1 b.1
  once (SyzygyOf k) n n' a b = absurd a
  once Claim n n' a b =
      terms_once s.prime (step_multiples (labels_of s.prime run.entries) steps) n n' a b

  -- one alone
  pub too_many_once : (named named' : Listed) (n n' : ℕ)
      → IsFirstPast (ClaimTerms steps s.prime run) limit named n
      → IsFirstPast (ClaimTerms steps s.prime run) limit named' n' → (named ≡ named') × (n ≡ n')
  too_many_once = one_alone (ClaimTerms steps s.prime run) limit once

  -- there is a first one, or none
  module _ (dec : (j : ℕ) → Decided (Needed j)) (within : (j : ℕ) → Needed j
      → j ≤ length run.entries) where
    has_dec : (listed : Listed) → Decided ((n : ℕ) × ClaimTerms steps s.prime run listed n)
    has_dec (EntryOf k) = go (dec k)
      where
        go : Decided (Needed k) → Decided ((n : ℕ) × ClaimTerms steps s.prime run (EntryOf k) n)
        go (inl needs) =
            let t = terms_exist s some (label_at (labels_of s.prime run.entries) k) in
            inl (t.0, (needs, t.1))
        go (inr never) = inr (λ (n, h). never h.0)
    has_dec (SyzygyOf k) = inr (λ (n, h). h)
    has_dec Claim =
        inl (terms_exist s some (step_multiples (labels_of s.prime run.entries) steps))

    pub within_or_first : AreWithin (ClaimTerms steps s.prime run) limit
        ⊎ ((named : Listed) × (terms : ℕ)
        × IsFirstPast (ClaimTerms steps s.prime run) limit named terms)
    within_or_first =
        first_or_within (ClaimTerms steps s.prime run) limit once has_dec (length run.entries + 1) 0
        (λ k n h. omega (arith, within k h.0)) (λ k n h. absurd h)
