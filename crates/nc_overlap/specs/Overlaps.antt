-- The signatures of the ambiguities that a new entry brings, within the bound of a problem.
--
-- The new entry meets each listed entry and itself, either way round. For each pair and each place
-- where the second leading word begins within the first, the two signatures are compared, and the
-- greater one is an ambiguity's signature if it lies within the bound. A search need not try each
-- place: k letters before the second word weigh at least k, so from some place on the signatures
-- pass the bound.
use Rattle.nc_algebra.specs.Elements.{HasDegree, IsGenerator, Setting}
use Rattle.nc_algebra.specs.Monomials.{Monomial, Sig, monomial_of}
use Rattle.nc_algebra.specs.Polynomials.{leading}
use Rattle.nc_algebra.specs.Problems.{IsWithin, Problem, bound_degree}
use Rattle.nc_algebra.specs.Words.{Word}
use Rattle.nc_snapshot.specs.declared.lead.Lead.{Lead}
use Rattle.nc_theory.specs.Meetings.{MeetSomewhere}
use Rattle.nc_theory.specs.Ambiguities.{NewAmbiguity}
use Rattle.nc_theory.specs.States.{Entry}
use Rattle.std.specs.Prelude.{All, Contains, List, map, ℕ, ◌+◌, ◌<◌, ◌↔◌, ◌≡◌, ◌≤◌, ◌⊎◌}

-- the signatures are those, within the bound, of all ambiguities of an entry with signature σ and
-- leading word w
abbrev pub AreNewSignatures : Problem → List Entry → Word → Monomial → List Sig → Type 0
AreNewSignatures P entries w σ found =
    (new : Entry) → new.signature ≡ σ → leading P.setting.prime new.polynomial ≡ w
    → (ρ : Monomial) → Contains (map monomial_of found) ρ
    ↔ (IsWithin P ρ × NewAmbiguity P.setting entries new ρ)

-- the degree beside the signature is its degree in the setting, which has its generator
pub record IsSignatureOver (s : Setting) (σ : Sig) : Type 0 where
  pub degree : HasDegree s σ
  pub generator : IsGenerator s σ.generator

-- the entry has this leading word and this signature
pub record IsLedBy (s : Setting) (l : Lead) (e : Entry) : Type 0 where
  pub lead : leading s.prime e.polynomial ≡ l.word.now
  pub signed : e.signature ≡ monomial_of l.sig.now

-- an entry meets the new one: one of the two leading words begins within the other
abbrev pub MeetsEither : Setting → List Entry → Entry → Monomial → Type 0
MeetsEither s entries new ρ =
    (e : Entry) × Contains entries e × (MeetSomewhere s e new ρ ⊎ MeetSomewhere s new e ρ)

-- the later list has what the earlier one has and what the set has within the bound, each with its
-- degree
pub record AddsAmbiguities (P : Problem) (set : Monomial → Type 0) (old new : List Sig) : Type 0
  where
    pub degrees : All (HasDegree P.setting) old → All (HasDegree P.setting) new
    pub exact : (ρ : Monomial) → Contains (map monomial_of new) ρ
        ↔ (Contains (map monomial_of old) ρ ⊎ (IsWithin P ρ × set ρ))

-- no more than n places count, or those from n on are past the bound for an entry of this degree
abbrev pub IsEnough : Problem → ℕ → ℕ → ℕ → Type 0
IsEnough P all degree n = (all ≤ n) ⊎ (bound_degree P.setting P.bound < n + degree)

-- the later list has what is added where the second leading word begins within the first one
abbrev pub AddsMeetings : Problem → Lead → Lead → List Sig → List Sig → Type 0
AddsMeetings P first second old new =
    (e f : Entry) → IsLedBy P.setting first e → IsLedBy P.setting second f
    → AddsAmbiguities P (MeetSomewhere P.setting e f) old new
