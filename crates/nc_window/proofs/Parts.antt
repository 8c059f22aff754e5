-- The free indices and those of the rows are the numbers below the capacity, each once.
use Rattle.nc_window.proofs.Counts.{same_other, same_self}
use Rattle.nc_window.specs.Rules.{AreParts, same, times, uses}
use Rattle.nc_window.specs.Windows.{Row}
use Rattle.std.proofs.Common.{Bool, List, [], ap, arith, cond, false, map, nat_eq, nat_lt, refl, subst, suc, sym, true, zero, ℕ, ◌++◌, ◌+◌, ◌<◌, ◌∙◌, ◌∷◌, ◌≡◌, ◌≢◌, ◌≤◌}
use Rattle.std.proofs.lemmas.Bool.Decides.{nat_tests}
use Rattle.std.proofs.lemmas.List.Sorted.{IsPermutation-cons, IsPermutation-middle, IsPermutation-refl, IsPermutation-sym, IsPermutation-trans}
use Rattle.std.specs.List.{range_with_len}
use Rattle.std.specs.Prelude.{IsPermutation}

times_below : (i k n : ℕ) → i < k → times i (range_with_len k n) ≡ 0
times_below i k zero l = refl
times_below i k (suc n) l =
    let h = times_below i (k + 1) n (omega arith) in
    let s = same_other k i (λ e. omega arith) in omega arith

times_range : (i k n : ℕ) → k ≤ i → times i (range_with_len k n) ≡ cond (nat_lt i (k + n)) 1 0
times_range i k zero l =
    let t : nat_lt i (k + 0) ≡ false = grind (arith, nat_tests) in sym (ap (λ b. cond b 1 0) t)
times_range i k (suc n) l = by_test (nat_eq k i) refl (times_range i (k + 1) n)
  where
    by_test : (b : Bool) → nat_eq k i ≡ b
        → (k + 1 ≤ i → times i (range_with_len (k + 1) n) ≡ cond (nat_lt i (k + 1 + n)) 1 0)
        → same k i + times i (range_with_len (k + 1) n) ≡ cond (nat_lt i (k + suc n)) 1 0
    by_test true e again =
        let own : k ≡ i = grind (arith, nat_tests) in
        let h = times_below i (k + 1) n (omega arith) in
        let s : same k i ≡ 1 = ap (λ b. cond b 1 0) e in
        let t : nat_lt i (k + suc n) ≡ true = grind (arith, nat_tests) in
        let one : ◌≡◌ {A = ℕ} (cond (nat_lt i (k + suc n)) 1 0) 1 = ap (λ b. cond b 1 0) t in
        omega (arith, h, s, one)
    by_test false e again =
        let s : same k i ≡ 0 = ap (λ b. cond b 1 0) e in
        let other : k ≢ i = grind (arith, nat_tests) in
        let h = again (omega (arith, other)) in
        let m : k + 1 + n ≡ k + suc n = omega arith in
        let t : ◌≡◌ {A = ℕ} (cond (nat_lt i (k + 1 + n)) 1 0) (cond (nat_lt i (k + suc n)) 1 0) =
        ap (λ j. cond (nat_lt i j) 1 0) m in
        omega (arith, h, s, t)

-- how often a number stands among those below n
pub times_below_all : (i n : ℕ) → times i (range_with_len 0 n) ≡ cond (nat_lt i n) 1 0
times_below_all i n =
    times_range i 0 n (omega arith)
    ∙ ap (λ m. cond (nat_lt i m) 1 0) (let m : 0 + n ≡ n = omega arith in m)

times-append : (i : ℕ) (xs ys : List ℕ) → times i (xs ++ ys) ≡ times i xs + times i ys
times-append i [] ys = omega arith
times-append i (x ∷ xs) ys = let h = times-append i xs ys in omega arith

-- where a number stands in a list
record Splits (x : ℕ) (ys : List ℕ) : Type 0 where
  pub front : List ℕ
  pub rest : List ℕ
  pub is : ys ≡ front ++ x ∷ rest

splits : (x : ℕ) (ys : List ℕ) → 0 < times x ys → Splits x ys
splits x [] u = absurd (omega arith)
splits x (y ∷ ys) u = by_test (nat_eq y x) refl (splits x ys)
  where
    by_test : (b : Bool) → nat_eq y x ≡ b → (0 < times x ys → Splits x ys) → Splits x (y ∷ ys)
    by_test true e again =
        let f : y ≡ x = grind (arith, nat_tests) in
        record { front = []; rest = ys; is = ap (λ z. z ∷ ys) f }
    by_test false e again =
        let z : same y x ≡ 0 = ap (λ b. cond b 1 0) e in
        let s = again (omega (arith, u, z)) in
        record { front = y ∷ s.front; rest = s.rest; is = ap (λ (l : List ℕ). y ∷ l) s.is }

-- two lists in which each number stands equally often
same_times : (xs ys : List ℕ) → ((i : ℕ) → times i xs ≡ times i ys) → IsPermutation xs ys
same_times [] [] h = IsPermutation-refl []
same_times [] (y ∷ ys) h =
    let k = h y in let s = same_self y in absurd (omega arith)
same_times (x ∷ xs) ys h =
    let k = h x in
    let own = same_self x in
    let s = splits x ys (omega arith) in
    let less : (i : ℕ) → times i xs ≡ times i (s.front ++ s.rest) =
    λ i. let g = h i in let a = times-append i s.front (x ∷ s.rest) in
    let b = times-append i s.front s.rest in let c = ap (λ l. times i l) s.is in omega arith in
    let p = same_times xs (s.front ++ s.rest) less in
    subst (IsPermutation (x ∷ xs)) (sym s.is)
    (IsPermutation-trans (x ∷ xs) (x ∷ (s.front ++ s.rest)) (s.front ++ x ∷ s.rest)
    (IsPermutation-cons x xs (s.front ++ s.rest) p)
    (IsPermutation-sym (s.front ++ x ∷ s.rest) (x ∷ (s.front ++ s.rest))
    (IsPermutation-middle s.front x s.rest)))

at_most_one : (b : Bool) → cond b 1 0 ≤ 1
at_most_one true = omega arith
at_most_one false = omega arith

module _ {T : Type 0} where
  -- no index stands twice
  pub once : (capacity : ℕ) (live : List (Row T)) (free : List ℕ) → AreParts capacity live free
      → (i : ℕ) → times i free + uses i live ≤ 1
  once capacity live free p i =
      let e = p i in let l = at_most_one (nat_lt i capacity) in omega arith

  times-map : (i : ℕ) (rows : List (Row T)) → times i (map (λ r. r.index) rows) ≡ uses i rows
  times-map i [] = refl
  times-map i (r ∷ rs) = let h = times-map i rs in omega arith

  pub parts_permute : (capacity : ℕ) (live : List (Row T)) (free : List ℕ)
      → AreParts capacity live free
      → IsPermutation (range_with_len 0 capacity) (free ++ map (λ r. r.index) live)
  parts_permute capacity live free p =
      same_times (range_with_len 0 capacity) (free ++ map (λ r. r.index) live)
      (λ i. let a = times-append i free (map (λ r. r.index) live) in
      let b = times-map i live in let c = p i in
      let d = times_below_all i capacity in omega arith)
