-- The search for the first part beyond the limit finds it exactly where there is one.
use Rattle.nc_cert.specs.Beyond.{first_beyond}
use Rattle.nc_cert.specs.Charges.{Charge, IsTooMuch, IsChargeWithin, total}
use Rattle.std.proofs.Common.{Bool, List, None, Some, [], ap, ap₂, arith, if◌then◌else◌, ltb, refl, sym, true, false, ℕ, ◌++◌, ◌+◌, ◌<◌, ◌∙◌, ◌∷◌, ◌≡◌, ◌≤◌}
use Rattle.std.proofs.lemmas.Bool.{le-ltb, lt-ltb}
use Rattle.std.proofs.lemmas.List.Sums.{sum_by-cons}

total-cons : (c : Charge) (charges : List Charge) → total (c ∷ charges) ≡ c.amount + total charges
total-cons c charges = sum_by-cons (λ d. d.amount) c charges

passed_by : (limit spent : ℕ) (c : Charge) (charges : List Charge) → spent + c.amount ≤ limit
    → first_beyond limit spent (c ∷ charges) ≡ first_beyond limit (spent + c.amount) charges
passed_by limit spent c charges within =
    let few : ltb limit (spent + c.amount) ≡ false =
    le-ltb limit (spent + c.amount) within in
    ap (λ (b : Bool). if b then Some (record { line = c.line; amount = spent + c.amount }) else
    first_beyond limit (spent + c.amount) charges) few

pub none_beyond : (limit spent : ℕ) (charges : List Charge) → spent + total charges ≤ limit
    → first_beyond limit spent charges ≡ None
none_beyond limit spent [] within = refl
none_beyond limit spent (c ∷ charges) within =
    passed_by limit spent c charges (omega (arith, within, total-cons c charges))
    ∙ none_beyond limit (spent + c.amount) charges (omega (arith, within, total-cons c charges))

found_beyond : (limit spent : ℕ) (before : List Charge) (c : Charge) (after : List Charge)
    → spent + total before ≤ limit → limit < spent + total before + c.amount
    → first_beyond limit spent (before ++ c ∷ after)
    ≡ Some (record { line = c.line; amount = spent + total before + c.amount })
found_beyond limit spent [] c after within beyond =
    let sum : spent + c.amount ≡ spent + total [] + c.amount = omega arith in
    let many : ltb limit (spent + c.amount) ≡ true =
    lt-ltb limit (spent + c.amount) (omega (arith, beyond)) in
    ap (λ (b : Bool). if b then Some (record { line = c.line; amount = spent + c.amount }) else
    first_beyond limit (spent + c.amount) after) many
    ∙ ap (λ n. Some (record { line = c.line; amount = n })) sum
found_beyond limit spent (d ∷ before) c after within beyond =
    let sum : spent + d.amount + total before + c.amount ≡ spent + total (d ∷ before) + c.amount =
    omega (arith, total-cons d before) in
    passed_by limit spent d (before ++ c ∷ after) (omega (arith, within, total-cons d before))
    ∙ found_beyond limit (spent + d.amount) before c after
    (omega (arith, within, total-cons d before)) (omega (arith, beyond, total-cons d before))
    ∙ ap (λ n. Some (record { line = c.line; amount = n })) sum

-- within the limit there is none
pub within_none : (limit : ℕ) (charges : List Charge) → IsChargeWithin limit charges
    → first_beyond limit 0 charges ≡ None
within_none limit charges within = none_beyond limit 0 charges (omega (arith, within))

charge_of : ℕ → ℕ → Charge
charge_of k t = record { line = k; amount = t }

-- else it is the one that is too much
pub much_found : (limit : ℕ) (charges : List Charge) (k t : ℕ) → IsTooMuch limit charges k t
    → first_beyond limit 0 charges ≡ Some (record { line = k; amount = t })
unfolding charge_of
much_found limit charges k t h =
    let l : h.first.line ≡ k = sym h.line in
    let a : 0 + total h.before + h.first.amount ≡ t = omega (arith, h.charge) in
    ap (first_beyond limit 0) h.parts
    ∙ found_beyond limit 0 h.before h.first h.after (omega (arith, h.within))
    (omega (arith, h.beyond, h.charge))
    ∙ ap₂ (λ (i j : ℕ). Some (charge_of i j)) l a
