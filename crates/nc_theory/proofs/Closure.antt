-- Below a bound, a closed state has enough entries and enough syzygies.
use Rattle.nc_algebra.proofs.Elements.{HasGenerator, element_times_coefficient, element_times_leads, evaluation-minus, evaluation_times, evaluation_zero, in_minus, in_times, strike_top}
use Rattle.nc_algebra.proofs.Leading.{lead_leads}
use Rattle.nc_algebra.proofs.Monomials.{monomial_ind}
use Rattle.nc_algebra.proofs.Relations.{Relation, trivial_relation}
use Rattle.nc_algebra.proofs.Sums.{zero_mul_left, zero_number}
use Rattle.nc_algebra.proofs.Words.{word_ind}
use Rattle.nc_algebra.specs.Elements.{Element, IsIn, IsLabelled, IsLeadingWord, IsLess, IsSignatureOf, IsZeroPolynomial, SamePolynomial, Setting, element_times, evaluation, generator_weight}
use Rattle.nc_algebra.specs.Monomials.{Monomial, same_monomial, times, unit_monomial}
use Rattle.nc_algebra.specs.Polynomials.{coefficient, leading}
use Rattle.nc_algebra.specs.Primes.{IsField, IsZero}
use Rattle.nc_algebra.specs.Sums.{coefficient_by, minus}
use Rattle.nc_algebra.specs.Words.{IsWordLess, Word}
use Rattle.nc_theory.proofs.Chains.{chain, not_nothing, reduces_same, strike, sum_mod, times_mod, vanishing}
use Rattle.nc_theory.proofs.Places.{at_most_multiple, covered_up, lesser}
use Rattle.nc_theory.specs.Bases.{IsBasisBelow, IsClosed, IsSound, IsSyzygyBasisBelow, ReducesToZero}
use Rattle.nc_theory.specs.Divisors.{Multiple, RegularDivisor, multiple_at}
use Rattle.nc_theory.specs.States.{Entry, State}
use Rattle.nc_theory.specs.Syzygies.{Covered, IsSyzygySignature}
use Rattle.std.proofs.Common.{◌≡◌, ℕ, ◌+◌, ◌-◌, ◌*◌, ◌%◌, ◌<◌, ◌⊎◌, [], ◌++◌, refl, sym, ap, ◌∙◌, subst, inl, inr, arith, append-nil, Contains}
use Rattle.std.proofs.Math.Nat.{add-mul-mod_self_left, mul-one, mod-eq_of_lt}

-- ---- numbers modulo p

-- a is a b d, where d b is 1
pub divided : (p a b d : ℕ) → d * b % p ≡ 1 → 1 < p → a % p ≡ a * b * d % p
divided p a b d e l =
    ap (λ n. n % p) (omega arith) ∙ (times_mod p a 1 (d * b) (mod_one ∙ sym e)
    ∙ ap (λ n. n % p) (omega arith))
  where
    mod_one : 1 % p ≡ 1
    mod_one = mod-eq_of_lt l

-- e and (p - 1) c d and c m, where d is m, are e
pub put_back : (p e c d m : ℕ) → 0 < p → d % p ≡ m % p → e % p ≡ ((e + (p - 1) * c * d) + c * m) % p
put_back p e c d m pos q =
    sym (sum_mod p (e + (p - 1) * c * d) (e + (p - 1) * c * d) (c * m) (c * d) refl
    (times_mod p c m d (sym q)) ∙ (ap (λ n. n % p) (form (p - 1) (omega arith))
    ∙ add-mul-mod_self_left e p (c * d)))
  where
    form : (r : ℕ) → p ≡ r + 1 → (e + r * c * d) + c * d ≡ e + p * (c * d)
    form r k = omega (arith, ap (λ n. n * (c * d)) k)

module _ (s : Setting) (field : IsField s.prime) (state : State) (sound : IsSound s state) where
  positive : 0 < s.prime
  positive = omega (arith, field.above_one)

  entry_leads : (e : Entry) → Contains state.entries e
      → IsLeadingWord s e.polynomial (leading s.prime e.polynomial)
  entry_leads e k = lead_leads s.prime e.polynomial (sound.nonzero e k)

  -- each syzygy signature comes from a relation
  relation : (ρ : Monomial) → IsSyzygySignature s state ρ → Relation s ρ
  relation ρ (inl (h, k, i)) = go (sound.syzygies h k)
    where
      go : (α : Element) × IsLabelled s h.signature [] α → Relation s ρ
      go (α, l) =
          record {
            element = α;
            lies = l.lies;
            leads = subst (IsSignatureOf s α) i l.leads;
            vanishes = λ y. l.evaluates.at y ∙ zero_number s.prime;
          }
  relation ρ (inr t) =
      go (sound.entries t.first t.first_listed) (sound.entries t.second t.second_listed)
    where
      go : (α : Element) × IsLabelled s t.first.signature t.first.polynomial α → (α : Element)
          × IsLabelled s t.second.signature t.second.polynomial α → Relation s ρ
      go (α, l) (α', l') =
          trivial_relation s field ρ t.first.polynomial t.second.polynomial
          (leading s.prime t.first.polynomial) (leading s.prime t.second.polynomial)
          t.first.signature t.second.signature α α' t.m (entry_leads t.first t.first_listed)
          (entry_leads t.second t.second_listed) l l' t.greater

  module _ (bound : Monomial → Type 0) (down : (σ τ : Monomial) → bound τ → IsLess s σ τ
      → HasGenerator s σ → bound σ) (inside : (σ : Monomial) → bound σ → HasGenerator s σ)
      (closed : IsClosed s state bound) where
    -- what is claimed at τ
    pub Claim : Monomial → Type 0
    Claim τ =
        (α : Element) → IsIn s α (HasGenerator s) → IsSignatureOf s α τ → bound τ
        → ReducesToZero s state.entries τ (evaluation s α)
        × (IsZeroPolynomial s (evaluation s α) → Covered s state τ)

    down_divisor : (σ τ : Monomial) → bound τ → (u v : Word) → times u σ v ≡ τ → bound σ
    down_divisor σ τ b u v e = go (at_most_multiple s u v σ)
      where
        go : (σ ≡ times u σ v) ⊎ IsLess s σ (times u σ v) → bound σ
        go (inl i) = subst bound (sym (i ∙ e)) b
        go (inr l) =
            down σ τ b (subst (IsLess s σ) e l) (subst (HasGenerator s) (sym e) (inside τ b))

    -- where a syzygy signature divides τ, its multiple is subtracted
    by_syzygy : (τ : Monomial) → ((σ : Monomial) → IsLess s σ τ → Claim σ) → Covered s state τ
        → (α : Element) → IsIn s α (HasGenerator s) → IsSignatureOf s α τ → bound τ
        → ReducesToZero s state.entries τ (evaluation s α)
    unfolding Claim
    by_syzygy τ before k α lies leads b = go (relation k.by k.is_syzygy)
      where
        go : Relation s k.by → ReducesToZero s state.entries τ (evaluation s α)
        go r = invert (field.inverse (coefficient_by same_monomial δ τ) δ_leads.nonzero)
          where
            δ : Element
            δ = element_times k.divides.0 r.element k.divides.1

            δ_leads : IsSignatureOf s (element_times k.divides.0 r.element k.divides.1) τ
            δ_leads =
                subst (IsSignatureOf s (element_times k.divides.0 r.element k.divides.1))
                k.divides.2 (element_times_leads s k.divides.0 r.element k.divides.1 k.by r.leads)

            vanishes : IsZeroPolynomial s (evaluation s
                (element_times k.divides.0 r.element k.divides.1))
            vanishes y =
                (evaluation_times s k.divides.0 r.element [] k.divides.1 positive
                (record { at = λ z. r.vanishes z ∙ sym (zero_number s.prime) })).at y
                ∙ zero_number s.prime

            same : (c : ℕ) → SamePolynomial s
                (evaluation s (minus s.prime α c (element_times k.divides.0 r.element k.divides.1)))
                (evaluation s α)
            same c =
                record {
                  at = λ y. ap (λ n. n % s.prime) (evaluation-minus s α c δ y)
                      ∙ (sum_mod s.prime (coefficient (evaluation s α) y)
                      (coefficient (evaluation s α) y)
                      ((s.prime - 1) * c * coefficient (evaluation s δ) y) 0 refl
                      (zero_mul_left s.prime ((s.prime - 1) * c) (coefficient (evaluation s δ) y)
                      (vanishes y) ∙ sym (zero_number s.prime))
                      ∙ ap (λ n. n % s.prime) (omega arith));
                }

            rest : (c : ℕ) → ((σ : Monomial)
                → IsZero s.prime (coefficient_by same_monomial
                (minus s.prime α c (element_times k.divides.0 r.element k.divides.1)) σ))
                ⊎ ((σ : Monomial) × IsLess s σ τ
                × IsSignatureOf s (minus s.prime α c
                (element_times k.divides.0 r.element k.divides.1)) σ)
                → ReducesToZero s state.entries τ (evaluation s α)
            rest c (inl z) =
                ReducesToZero.done (λ y. sym ((same c).at y)
                ∙ evaluation_zero s (minus s.prime α c δ) z y)
            rest c (inr (σ, l, d)) =
                let ok : IsIn s (minus s.prime α c δ) (HasGenerator s) =
                in_minus s α c δ lies (in_times s k.divides.0 r.element k.divides.1 r.lies) in
                reduces_same s state.entries σ τ (inr l)
                (before σ l (minus s.prime α c δ) ok d (down σ τ b l (ok σ d.nonzero))).0
                (evaluation s α) (same c)

            invert : (i : ℕ) × (coefficient_by same_monomial
                (element_times k.divides.0 r.element k.divides.1) τ * i % s.prime ≡ 1)
                → ReducesToZero s state.entries τ (evaluation s α)
            invert (i, e) =
                rest (coefficient_by same_monomial α τ * i)
                (strike_top s α (coefficient_by same_monomial α τ * i) δ τ positive leads δ_leads
                (divided s.prime (coefficient_by same_monomial α τ) i
                (coefficient_by same_monomial δ τ) e field.above_one))

    by_multiple : (τ : Monomial) → ((σ : Monomial) → IsLess s σ τ → Claim σ) → (α : Element)
        → IsIn s α (HasGenerator s) → IsSignatureOf s α τ → bound τ → (w : Word)
        → Multiple s state.entries τ w → ReducesToZero s state.entries τ (evaluation s α)
        × (IsZeroPolynomial s (evaluation s α) → Covered s state τ)
    unfolding Claim
    by_multiple τ before α lies leads b =
        word_ind (λ w. Multiple s state.entries τ w
        → ReducesToZero s state.entries τ (evaluation s α)
        × (IsZeroPolynomial s (evaluation s α) → Covered s state τ)) each
      where
        each : (w : Word) → ((v : Word) → IsWordLess v w → Multiple s state.entries τ v
            → ReducesToZero s state.entries τ (evaluation s α)
            × (IsZeroPolynomial s (evaluation s α) → Covered s state τ))
            → Multiple s state.entries τ w → ReducesToZero s state.entries τ (evaluation s α)
            × (IsZeroPolynomial s (evaluation s α) → Covered s state τ)
        each w others t = go (sound.entries t.divisor.entry t.divisor.listed)
          where
            c : ℕ
            c = coefficient_by same_monomial α τ

            first : IsLeadingWord s t.divisor.entry.polynomial
                (leading s.prime t.divisor.entry.polynomial)
            first = entry_leads t.divisor.entry t.divisor.listed

            descend : RegularDivisor s state.entries τ w
                → ReducesToZero s state.entries τ (evaluation s α)
                × (IsZeroPolynomial s (evaluation s α) → Covered s state τ)
            descend r =
                pick (lesser s state bound down_divisor closed τ b w t.divisor t.signed r.divisor
                r.below)
              where
                pick : Covered s state τ ⊎ ((v : Word) × IsWordLess v w
                    × Multiple s state.entries τ v)
                    → ReducesToZero s state.entries τ (evaluation s α)
                    × (IsZeroPolynomial s (evaluation s α) → Covered s state τ)
                pick (inl k) = (by_syzygy τ before k α lies leads b, λ n. k)
                pick (inr (v, l, m)) = others v l m

            go : (β : Element) × IsLabelled s t.divisor.entry.signature t.divisor.entry.polynomial β
                → ReducesToZero s state.entries τ (evaluation s α)
                × (IsZeroPolynomial s (evaluation s α) → Covered s state τ)
            go (β, label) =
                rest (strike_top s α c δ τ positive leads δ_leads
                (ap (λ n. n % s.prime) (sym (mul-one c))
                ∙ times_mod s.prime c 1 (coefficient_by same_monomial δ τ)
                (mod-eq_of_lt field.above_one ∙ sym δ_one)))
              where
                δ : Element
                δ = element_times t.divisor.left β t.divisor.right

                δ_leads : IsSignatureOf s (element_times t.divisor.left β t.divisor.right) τ
                δ_leads =
                    subst (IsSignatureOf s (element_times t.divisor.left β t.divisor.right))
                    t.signed (element_times_leads s t.divisor.left β t.divisor.right
                    t.divisor.entry.signature label.leads)

                δ_one : coefficient_by same_monomial
                    (element_times t.divisor.left β t.divisor.right) τ % s.prime ≡ 1
                δ_one = subst (λ ρ. coefficient_by same_monomial
                    (element_times t.divisor.left β t.divisor.right) ρ % s.prime ≡ 1) t.signed
                    (element_times_coefficient s t.divisor.left β t.divisor.right
                    t.divisor.entry.signature ∙ label.one)

                ok : IsIn s (minus s.prime α c (element_times t.divisor.left β t.divisor.right))
                    (HasGenerator s)
                ok = in_minus s α c δ lies (in_times s t.divisor.left β t.divisor.right label.lies)

                is_sum : (y : Word) → coefficient (evaluation s α) y % s.prime
                    ≡ (coefficient (evaluation s (minus s.prime α c
                    (element_times t.divisor.left β t.divisor.right))) y + c
                    * coefficient (multiple_at s state.entries w t.divisor) y) % s.prime
                is_sum y =
                    put_back s.prime (coefficient (evaluation s α) y) c
                    (coefficient (evaluation s δ) y)
                    (coefficient (multiple_at s state.entries w t.divisor) y) positive
                    ((evaluation_times s t.divisor.left β t.divisor.entry.polynomial t.divisor.right
                    positive label.evaluates).at y)
                    ∙ ap (λ n. (n + c * coefficient (multiple_at s state.entries w t.divisor) y)
                    % s.prime) (sym (evaluation-minus s α c δ y))

                below : (σ : Monomial) → (l : IsLess s σ τ)
                    → ReducesToZero s state.entries σ
                    (evaluation s (minus s.prime α c
                    (element_times t.divisor.left β t.divisor.right)))
                    → ReducesToZero s state.entries τ (evaluation s α)
                    ⊎ RegularDivisor s state.entries τ w
                    → ReducesToZero s state.entries τ (evaluation s α)
                    × (IsZeroPolynomial s (evaluation s α) → Covered s state τ)
                below σ l red (inl r) = (
                  r,
                  λ n. (descend (vanishing s field state.entries τ w t.divisor t.signed first
                      c leads.nonzero σ l red (evaluation s α) is_sum n)).1 n,
                )
                below σ l red (inr reg) = descend reg

                rest : ((σ : Monomial) → IsZero s.prime
                    (coefficient_by same_monomial (minus s.prime α c
                    (element_times t.divisor.left β t.divisor.right)) σ))
                    ⊎ ((σ : Monomial) × IsLess s σ τ
                    × IsSignatureOf s (minus s.prime α c
                    (element_times t.divisor.left β t.divisor.right)) σ)
                    → ReducesToZero s state.entries τ (evaluation s α)
                    × (IsZeroPolynomial s (evaluation s α) → Covered s state τ)
                rest (inl z) =
                    let none : IsZeroPolynomial s (evaluation s (minus s.prime α c δ)) =
                    evaluation_zero s (minus s.prime α c δ) z in (
                      strike s field state.entries τ w t.divisor t.signed first c leads.nonzero
                          (evaluation s α) (evaluation s (minus s.prime α c δ)) is_sum
                          (λ y o. none y)
                          (ReducesToZero.done none),
                      λ n. absurd
                          (not_nothing s field state.entries τ w t.divisor t.signed first c
                          leads.nonzero (evaluation s α) (evaluation s (minus s.prime α c δ)) is_sum
                          n
                          none),
                    )
                rest (inr (σ, l, d)) =
                    let red : ReducesToZero s state.entries σ (evaluation s (minus s.prime α c δ)) =
                    (before σ l (minus s.prime α c δ) ok d (down σ τ b l (ok σ d.nonzero))).0 in
                    below σ l red (chain s field state.entries τ w t.divisor t.signed first c
                    leads.nonzero σ l red (evaluation s α) is_sum)

    pub claim : (τ : Monomial) → Claim τ
    unfolding Claim
    claim = monomial_ind (generator_weight s) Claim each
      where
        each : (τ : Monomial) → ((σ : Monomial) → IsLess s σ τ → Claim σ) → Claim τ
        each τ before α lies leads b =
            go (closed.generators τ.generator
            (down_divisor (unit_monomial τ.generator) τ b τ.left τ.right whole))
          where
            whole : times τ.left (unit_monomial τ.generator) τ.right ≡ τ
            whole = let e : τ.left ++ [] ≡ τ.left =
                append-nil τ.left in λ i. record {
                  left = e i;
                  generator = τ.generator;
                  right = τ.right;
                }

            go : ((e : Entry) × Contains state.entries e
                × (e.signature ≡ unit_monomial τ.generator))
                ⊎ Covered s state (unit_monomial τ.generator)
                → ReducesToZero s state.entries τ (evaluation s α)
                × (IsZeroPolynomial s (evaluation s α) → Covered s state τ)
            go (inl (e, k, i)) =
                by_multiple τ before α lies leads b
                (τ.left ++ (leading s.prime e.polynomial ++ τ.right))
                (record {
                  divisor = record {
                    entry = e;
                    listed = k;
                    left = τ.left;
                    right = τ.right;
                    spells = refl;
                  };
                  signed = ap (λ σ. times τ.left σ τ.right) i ∙ whole;
                })
            go (inr k) =
                let c : Covered s state τ =
                covered_up s state (unit_monomial τ.generator) τ.left τ.right τ whole k in
                (by_syzygy τ before c α lies leads b, λ z. c)

    pub basis_below : IsBasisBelow s state bound
    unfolding Claim
    basis_below α σ lies leads =
        (claim σ α (λ τ n. inside τ (lies τ n)) leads (lies σ leads.nonzero)).0

    pub syzygies_below : IsSyzygyBasisBelow s state bound
    unfolding Claim
    syzygies_below α σ lies leads =
        (claim σ α (λ τ n. inside τ (lies τ n)) leads (lies σ leads.nonzero)).1
