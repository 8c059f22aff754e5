-- Names that stand once.
use Rattle.nc_algebra.specs.Lists.{Among, IsDistinct}
use Rattle.std.proofs.Common.{Bool, IsTrue, List, [], ap, arith, drop, false, get_or, inl, inr, length, not, refl, subst, sym, take, true, true≢false, ℕ, ◌-◌, ◌∙◌, ◌∷◌, ◌≡◌, ◌≤◌, ◌⊎◌, ◌||◌}
use Rattle.std.proofs.lemmas.List.{take_all}
use Rattle.std.proofs.lemmas.Bool.{or_parts}
use Rattle.std.proofs.lemmas.Slice.Eq.{bytes_eq-Decides}
use Rattle.std.specs.List.{list_any}
use Rattle.std.specs.Str.{bytes_eq}

-- a name that no test finds is not among the names
pub not_among : (x : List ℕ) (names : List (List ℕ)) → list_any (λ n. bytes_eq n x) names ≡ false
    → ¬ Among x names
not_among x [] e h = h
not_among x (y ∷ names) e h =
    let k = or_parts (bytes_eq y x) (list_any (λ n. bytes_eq n x) names) e in
    by_place k.0 (not_among x names k.1) h
  where
    by_place : bytes_eq y x ≡ false → ¬ Among x names → (x ≡ y) ⊎ Among x names → ⊥
    by_place apart rest (inl e) =
        true≢false (sym ((bytes_eq-Decides x x).1 refl) ∙ ap (λ (n : List ℕ). bytes_eq n x) e
        ∙ apart)
    by_place apart rest (inr h) = rest h

-- and one that a test finds is
pub among : (x : List ℕ) (names : List (List ℕ)) → list_any (λ n. bytes_eq n x) names ≡ true
    → Among x names
among x [] e = absurd (true≢false (sym e))
among x (y ∷ names) e = by_test (bytes_eq y x) refl (among x names)
  where
    by_test : (b : Bool) → bytes_eq y x ≡ b
        → (list_any (λ n. bytes_eq n x) names ≡ true → Among x names) → (x ≡ y) ⊎ Among x names
    by_test true k rest = inl (sym ((bytes_eq-Decides y x).0 k))
    by_test false k rest =
        inr (rest (sym (ap (λ (b : Bool). b || list_any (λ n. bytes_eq n x) names) k) ∙ e))

-- the first of distinct names is not among the others, and these are distinct
module _ (names : List (List ℕ)) (x : List ℕ) (some : 1 ≤ length names)
    (first : x ≡ get_or names 0 x) where
  abbrev others : List (List ℕ)
  others = take (length names - 1) (drop 1 names)

  pub parts_of_distinct : IsDistinct names → (¬ Among x others) × IsDistinct others
  parts_of_distinct = by_names names some first
    where
      by_names : (ns : List (List ℕ)) → 1 ≤ length ns → x ≡ get_or ns 0 x → IsDistinct ns
          → (¬ Among x (take (length ns - 1) (drop 1 ns)))
          × IsDistinct (take (length ns - 1) (drop 1 ns))
      by_names [] h e d = absurd (omega (arith, h))
      by_names (y ∷ ns) h e d =
          let whole : take (length (y ∷ ns) - 1) ns ≡ ns =
          take_all (length (y ∷ ns) - 1) ns (omega arith) in
          subst (λ (rest : List (List ℕ)). (¬ Among x rest) × IsDistinct rest) (sym whole)
          (subst (λ (z : List ℕ). ¬ Among z ns) (sym e) d.0, d.1)

  pub distinct_by_parts : ¬ Among x others → IsDistinct others → IsDistinct names
  distinct_by_parts = by_names names some first
    where
      by_names : (ns : List (List ℕ)) → 1 ≤ length ns → x ≡ get_or ns 0 x
          → ¬ Among x (take (length ns - 1) (drop 1 ns))
          → IsDistinct (take (length ns - 1) (drop 1 ns)) → IsDistinct ns
      by_names [] h e n d = absurd (omega (arith, h))
      by_names (y ∷ ns) h e n d =
          let whole : take (length (y ∷ ns) - 1) ns ≡ ns =
          take_all (length (y ∷ ns) - 1) ns (omega arith) in (
            subst (λ (z : List ℕ). ¬ Among z ns) e
                (subst (λ (rest : List (List ℕ)). ¬ Among x rest) whole n),
            subst IsDistinct whole d,
          )

pub not_true : (b : Bool) → IsTrue (not b) → b ≡ false
not_true true h = absurd (true≢false (sym h))
not_true false h = refl
