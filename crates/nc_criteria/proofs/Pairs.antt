-- Pairs of entries with a trivial syzygy that divides a signature.
-- One side of the syzygy divides τ. What stands behind or before the signature of that side in τ
-- contains the other leading word, and what is between is the word between the two (`behind_is`,
-- `before_is`).
use Rattle.nc_algebra.proofs.Monomials.{degree-times, times-times}
use Rattle.nc_algebra.proofs.Orders.{nat_order}
use Rattle.nc_algebra.specs.Elements.{HasDegree, IsLess, Setting, generator_weight}
use Rattle.nc_algebra.specs.Monomials.{Divides, Monomial, Sig, monomial_of, sig_of, sig_times, times}
use Rattle.nc_algebra.specs.Polynomials.{leading}
use Rattle.nc_algebra.specs.Words.{Word, word_weight}
use Rattle.nc_criteria.specs.Leads.{IsBefore, IsBehind, IsLesserBefore, IsLesserBehind}
use Rattle.nc_snapshot.specs.Leads.{IsLeadAt}
use Rattle.nc_criteria.specs.Pairs.{IsTrivialBelow, IsTrivialBy, IsTrivialFrom, IsTrivialPair, first_other}
use Rattle.nc_snapshot.specs.declared.lead.Lead.{Lead}
use Rattle.nc_module.proofs.Bounds.{less_from_sigs, sigs_from_less}
use Rattle.nc_theory.specs.States.{Entry}
use Rattle.nc_theory.specs.Syzygies.{first_side, second_side}
use Rattle.std.proofs.Common.{Bool, cond, false, nat_lt, true, Contains, List, Some, [], ap, append-nil, append_assoc, arith, inl, inr, length, refl, subst, subst₂, sym, ℕ, ◌+◌, ◌++◌, ◌<◌, ◌∙◌, ◌≡◌, ◌≤◌, ◌↔◌, ◌⊎◌}
use Rattle.std.proofs.lemmas.Bool.Decides.{nat_tests}
use Rattle.std.proofs.lemmas.List.{append_cancel_left, append_cancel_right}
use Rattle.std.proofs.lemmas.Option.{get_or_from_slice_get, slice_get-get_or, slice_get_within}
use Rattle.std.specs.List.{slice_get}

-- the degree beside a multiple is its degree
times_degree : (s : Setting) (u v : Word) (σ : Sig) → HasDegree s σ → HasDegree s (sig_times u σ v)
times_degree s u v σ h =
    let d : σ.degree ≡ (sig_of (generator_weight s) (monomial_of σ)).degree =
    ap (λ (x : Sig). x.degree) h in
    let whole : word_weight u + σ.degree + word_weight v
    ≡ (sig_of (generator_weight s) (times u (monomial_of σ) v)).degree =
    omega (arith, d, degree-times (generator_weight s) u v (monomial_of σ)) in
    ap (λ n. record {
      degree = n;
      generator = σ.generator;
      left = u ++ σ.left;
      right = σ.right ++ v;
    }) whole

-- what stands in an entry's signature around a multiple's factor
module _ (σ τ : Monomial) (u v : Word) (is : times u σ v ≡ τ) where
  pub behind_is : (m rest : Word) → m ++ rest ≡ v → times u (times [] σ m) rest ≡ τ
  behind_is m rest e =
      times-times u [] m rest σ ∙ (ap (λ x. times x σ (m ++ rest)) (append-nil u)
      ∙ (ap (λ x. times u σ x) e ∙ is))

  pub is_behind : (x y m : Word) → times x (times [] σ m) y ≡ τ → m ++ y ≡ v
  is_behind x y m e =
      append_cancel_left σ.right (m ++ y) v (sym (append_assoc σ.right m y)
      ∙ ap (λ (ρ : Monomial). ρ.right) (e ∙ sym is))

  pub before_is : (rest m : Word) → rest ++ m ≡ u → times rest (times m σ []) v ≡ τ
  before_is rest m e = times-times rest m [] v σ ∙ (ap (λ x. times x σ v) e ∙ is)

  pub is_before : (x y m : Word) → times x (times m σ []) y ≡ τ → x ++ m ≡ u
  is_before x y m e =
      append_cancel_right (x ++ m) u σ.left
      (append_assoc x m σ.left ∙ ap (λ (ρ : Monomial). ρ.left) (e ∙ sym is))

module _ (s : Setting) (entries : List Entry) (τ : Monomial) where
  -- own's signature divides τ
  own_divides : (own other : Entry) → IsTrivialBy s own other τ → Divides own.signature τ
  own_divides own other (inl (m, less, (x, y, e))) = (
    x ++ [],
    (m ++ leading s.prime other.polynomial) ++ y,
    sym (times-times x [] (m ++ leading s.prime other.polynomial) y own.signature) ∙ e,
  )
  own_divides own other (inr (m, less, (x, y, e))) = (
    x ++ (leading s.prime other.polynomial ++ m),
    [] ++ y,
    sym (times-times x (leading s.prime other.polynomial ++ m) [] y own.signature) ∙ e,
  )

  module _ (n j : ℕ) (own other : Lead) (mine : IsLeadAt s entries n own)
      (others : IsLeadAt s entries j other) where
    same_own : (e : Entry) → slice_get entries n ≡ Some e → e ≡ mine.entry
    same_own e h = let d : Some e ≡ Some mine.entry = sym h ∙ mine.stands in cc

    same_other : (e : Entry) → slice_get entries j ≡ Some e → e ≡ others.entry
    same_other e h = let d : Some e ≡ Some others.entry = sym h ∙ others.stands in cc

    lesser_behind : (m : Word) → IsLesserBehind own other m
        ↔ IsLess s (second_side s mine.entry m others.entry)
        (first_side s mine.entry m others.entry)
    lesser_behind m = (
      λ e. subst₂ (IsLess s) (sym second) (sym first)
          (less_from_sigs s (sig_times (own.word.now ++ m) other.sig.now [])
          (sig_times [] own.sig.now (m ++ other.word.now))
          (times_degree s (own.word.now ++ m) [] other.sig.now others.degree)
          (times_degree s [] (m ++ other.word.now) own.sig.now mine.degree) e),
      λ l. sigs_from_less s (sig_times (own.word.now ++ m) other.sig.now [])
          (sig_times [] own.sig.now (m ++ other.word.now))
          (times_degree s (own.word.now ++ m) [] other.sig.now others.degree)
          (times_degree s [] (m ++ other.word.now) own.sig.now mine.degree)
          (subst₂ (IsLess s) second first l),
    )
      where
        second : second_side s mine.entry m others.entry ≡ monomial_of
            (sig_times (own.word.now ++ m) other.sig.now [])
        second =
            ap (λ l. times (l ++ m) others.entry.signature []) mine.leads
            ∙ ap (λ σ. times (own.word.now ++ m) σ []) others.signed

        first : first_side s mine.entry m others.entry ≡ monomial_of
            (sig_times [] own.sig.now (m ++ other.word.now))
        first = ap (λ l. times [] mine.entry.signature (m ++ l)) others.leads
            ∙ ap (λ σ. times [] σ (m ++ other.word.now)) mine.signed

    lesser_before : (m : Word) → IsLesserBefore own other m
        ↔ IsLess s (first_side s others.entry m mine.entry)
        (second_side s others.entry m mine.entry)
    lesser_before m = (
      λ e. subst₂ (IsLess s) (sym first) (sym second)
          (less_from_sigs s (sig_times [] other.sig.now (m ++ own.word.now))
          (sig_times (other.word.now ++ m) own.sig.now [])
          (times_degree s [] (m ++ own.word.now) other.sig.now others.degree)
          (times_degree s (other.word.now ++ m) [] own.sig.now mine.degree) e),
      λ l. sigs_from_less s (sig_times [] other.sig.now (m ++ own.word.now))
          (sig_times (other.word.now ++ m) own.sig.now [])
          (times_degree s [] (m ++ own.word.now) other.sig.now others.degree)
          (times_degree s (other.word.now ++ m) [] own.sig.now mine.degree)
          (subst₂ (IsLess s) first second l),
    )
      where
        second : second_side s others.entry m mine.entry ≡ monomial_of
            (sig_times (other.word.now ++ m) own.sig.now [])
        second =
            ap (λ l. times (l ++ m) mine.entry.signature []) others.leads
            ∙ ap (λ σ. times (other.word.now ++ m) σ []) mine.signed

        first : first_side s others.entry m mine.entry ≡ monomial_of
            (sig_times [] other.sig.now (m ++ own.word.now))
        first = ap (λ l. times [] others.entry.signature (m ++ l)) mine.leads
            ∙ ap (λ σ. times [] σ (m ++ own.word.now)) others.signed

    module _ (u v : Word) (is : times u (monomial_of own.sig.now) v ≡ τ) where
      signed : times u mine.entry.signature v ≡ τ
      signed = ap (λ σ. times u σ v) mine.signed ∙ is

      pub pair_found : IsBehind own other v ⊎ IsBefore own other u → IsTrivialPair s entries τ n j
      pair_found b =
          record {
            own = mine.entry;
            own_stands = mine.stands;
            other = others.entry;
            other_stands = others.stands;
            by = go b;
          }
        where
          go : IsBehind own other v ⊎ IsBefore own other u → IsTrivialBy s mine.entry others.entry τ
          go (inl b) =
              inl (
                b.m,
                (lesser_behind b.m).0 b.lesser,
                (
                  u,
                  b.rest,
                  behind_is mine.entry.signature τ u v signed
                      (b.m ++ leading s.prime others.entry.polynomial) b.rest
                      (ap (λ l. (b.m ++ l) ++ b.rest) others.leads
                      ∙ (append_assoc b.m other.word.now b.rest ∙ b.spells)),
                ),
              )
          go (inr b) =
              inr (
                b.m,
                (lesser_before b.m).0 b.lesser,
                (
                  b.rest,
                  v,
                  before_is mine.entry.signature τ u v signed b.rest
                      (leading s.prime others.entry.polynomial ++ b.m)
                      (ap (λ l. b.rest ++ (l ++ b.m)) others.leads ∙ b.spells),
                ),
              )

      pub pair_is : IsTrivialPair s entries τ n j → IsBehind own other v ⊎ IsBefore own other u
      pair_is p =
          go (subst₂ (λ a b. IsTrivialBy s a b τ) (same_own p.own p.own_stands)
          (same_other p.other p.other_stands) p.by)
        where
          go : IsTrivialBy s mine.entry others.entry τ → IsBehind own other v ⊎ IsBefore own other u
          go (inl (m, less, (x, y, e))) =
              inl (record {
                m = m;
                rest = y;
                spells = sym (append_assoc m other.word.now y)
                    ∙ (ap (λ l. (m ++ l) ++ y) (sym others.leads)
                    ∙ is_behind mine.entry.signature τ u v signed x y
                    (m ++ leading s.prime others.entry.polynomial) e);
                lesser = (lesser_behind m).1 less;
              })
          go (inr (m, less, (x, y, e))) =
              inr (record {
                rest = x;
                m = m;
                spells = ap (λ l. x ++ (l ++ m)) (sym others.leads)
                    ∙ is_before mine.entry.signature τ u v signed x y
                    (leading s.prime others.entry.polynomial ++ m) e;
                lesser = (lesser_before m).1 less;
              })

  -- ---- one after another

  abbrev pub NonePair : ℕ → ℕ → ℕ → Type 0
  NonePair from n count = (j : ℕ) → from ≤ j → j < count → ¬ IsTrivialPair s entries τ n j

  pub none_pair_further : (from n j : ℕ) → NonePair from n j → ¬ IsTrivialPair s entries τ n j
      → NonePair from n (j + 1)
  none_pair_further from n j before here k m l p = go (nat_order k j)
    where
      go : (k < j) ⊎ ((k ≡ j) ⊎ (j < k)) → ⊥
      go (inl q) = before k m q p
      go (inr (inl q)) = here (subst (IsTrivialPair s entries τ n) q p)
      go (inr (inr q)) = omega (arith, l, q)

  pub none_pair : (from n j : ℕ) → length entries ≤ j → NonePair from n j
      → ¬ IsTrivialFrom s entries τ from n
  none_pair from n j h before (k, m, p) =
      before k m (omega (arith, h, slice_get_within entries k p.other p.other_stands)) p

  pub none_divides : (from n : ℕ) (own : Lead) → IsLeadAt s entries n own
      → ¬ Divides (monomial_of own.sig.now) τ → ¬ IsTrivialFrom s entries τ from n
  none_divides from n own mine none (j, _, p) =
      let same : p.own ≡ mine.entry =
      (let d : Some p.own ≡ Some mine.entry = sym p.own_stands ∙ mine.stands in cc) in
      none (subst (λ σ. Divides σ τ) (ap (λ (e : Entry). e.signature) same ∙ mine.signed)
      (own_divides p.own p.other p.by))

  abbrev pub NoneAt : ℕ → ℕ → Type 0
  NoneAt after count =
      (n : ℕ) → n < count → ¬ IsTrivialFrom s entries τ (first_other after n) n

  pub none_at_further : (after n : ℕ) → NoneAt after n
      → ¬ IsTrivialFrom s entries τ (first_other after n) n → NoneAt after (n + 1)
  none_at_further after n before here k l p = go (nat_order k n)
    where
      go : (k < n) ⊎ ((k ≡ n) ⊎ (n < k)) → ⊥
      go (inl q) = before k q p
      go (inr (inl q)) = here (subst (λ i. IsTrivialFrom s entries τ (first_other after i) i) q p)
      go (inr (inr q)) = omega (arith, l, q)

  -- ---- the theory's trivial syzygies

  abbrev listed : (e : Entry) (n : ℕ) → slice_get entries n ≡ Some e → Contains entries e
  listed e n h = (n, slice_get_within entries n e h, get_or_from_slice_get entries n e e h)

  stands : (e : Entry) (k : Contains entries e) → slice_get entries k.0 ≡ Some e
  stands e k = slice_get-get_or entries k.0 e k.1 ∙ ap (λ x. Some x) k.2

  -- one of the two is newer
  other_newer : (after n j : ℕ) → first_other after n ≤ j → (after ≤ n) ⊎ (after ≤ j)
  other_newer after n j l = go (nat_lt n after) refl
    where
      go : (b : Bool) → nat_lt n after ≡ b → (after ≤ n) ⊎ (after ≤ j)
      go true e = inr (subst (λ (c : Bool). cond c after 0 ≤ j) e l)
      go false e = inl (grind (arith, nat_tests))

  newer_other : (after n j : ℕ) → (after ≤ n) ⊎ (after ≤ j) → first_other after n ≤ j
  newer_other after n j o = go (nat_lt n after) refl o
    where
      go : (b : Bool) → nat_lt n after ≡ b → (after ≤ n) ⊎ (after ≤ j)
          → cond (nat_lt n after) after 0 ≤ j
      go true e (inl l) = let m : n < after = grind (arith, nat_tests) in absurd (omega (arith, l, m))
      go true e (inr l) = subst (λ (c : Bool). cond c after 0 ≤ j) (sym e) l
      go false e _ = subst (λ (c : Bool). cond c after 0 ≤ j) (sym e) (omega arith)

  turned : (a b : Type 0) → a ⊎ b → b ⊎ a
  turned a b (inl x) = inr x
  turned a b (inr y) = inl y

  pub trivial_found : (after n : ℕ) → IsTrivialFrom s entries τ (first_other after n) n
      → IsTrivialBelow s entries τ after
  trivial_found after n (j, l, p) = go p.by
    where
      newer : (after ≤ n) ⊎ (after ≤ j)
      newer = other_newer after n j l

      go : IsTrivialBy s p.own p.other τ → IsTrivialBelow s entries τ after
      go (inl (m, less, d)) = (
        first_side s p.own m p.other,
        (
          record {
            first = p.own;
            first_listed = listed p.own n p.own_stands;
            second = p.other;
            second_listed = listed p.other j p.other_stands;
            m = m;
            greater = inl (less, refl);
          },
          newer,
        ),
        d,
      )
      go (inr (m, less, d)) = (
        second_side s p.other m p.own,
        (
          record {
            first = p.other;
            first_listed = listed p.other j p.other_stands;
            second = p.own;
            second_listed = listed p.own n p.own_stands;
            m = m;
            greater = inr (less, refl);
          },
          turned (after ≤ n) (after ≤ j) newer,
        ),
        d,
      )

  pub none_trivial : (after n : ℕ) → length entries ≤ n → NoneAt after n
      → ¬ IsTrivialBelow s entries τ after
  none_trivial after n h before (ρ, (t, newer), d) = go t.greater
    where
      go : (IsLess s (second_side s t.first t.m t.second) (first_side s t.first t.m t.second)
          × (ρ ≡ first_side s t.first t.m t.second))
          ⊎ (IsLess s (first_side s t.first t.m t.second) (second_side s t.first t.m t.second)
          × (ρ ≡ second_side s t.first t.m t.second)) → ⊥
      go (inl (less, i)) =
          before t.first_listed.0 (omega (arith, h, t.first_listed.1)) (
            t.second_listed.0,
            newer_other after t.first_listed.0 t.second_listed.0 newer,
            record {
              own = t.first;
              own_stands = stands t.first t.first_listed;
              other = t.second;
              other_stands = stands t.second t.second_listed;
              by = inl (t.m, less, subst (λ σ. Divides σ τ) i d);
            },
          )
      go (inr (less, i)) =
          before t.second_listed.0 (omega (arith, h, t.second_listed.1)) (
            t.first_listed.0,
            newer_other after t.second_listed.0 t.first_listed.0
                (turned (after ≤ t.first_listed.0) (after ≤ t.second_listed.0) newer),
            record {
              own = t.second;
              own_stands = stands t.second t.second_listed;
              other = t.first;
              other_stands = stands t.first t.first_listed;
              by = inr (t.m, less, subst (λ σ. Divides σ τ) i d);
            },
          )
