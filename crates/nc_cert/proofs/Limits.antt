-- Charges are within a limit, or too much at one place.
-- The law `limit_law`: either the total is within the limit, or exactly one part is the first to
-- pass it.
use Rattle.nc_cert.specs.Charges.{Charge, LimitLaw, total}
use Rattle.std.proofs.Common.{List, [], ap, arith, inl, inr, refl, sym, ℕ, ◌+◌, ◌++◌, ◌<◌, ◌∙◌, ◌∷◌, ◌≡◌, ◌≤◌, ◌⊎◌}
use Rattle.std.proofs.lemmas.Bool.{cases_lt}
use Rattle.std.proofs.lemmas.List.Sums.{sum_by-append, sum_by-cons}

more : (c : Charge) (charges : List Charge) → total (c ∷ charges) ≡ c.amount + total charges
more c charges = sum_by-cons (λ (c : Charge). c.amount) c charges

-- the first of these that passes the limit, where so much was spent before
record Passes (limit spent : ℕ) (charges : List Charge) : Type 0 where
  before : List Charge
  first : Charge
  after : List Charge
  parts : charges ≡ before ++ first ∷ after
  within : spent + total before ≤ limit
  beyond : limit < spent + total before + first.amount

either_from : (limit spent : ℕ) (charges : List Charge) → spent ≤ limit
    → (spent + total charges ≤ limit) ⊎ Passes limit spent charges
either_from limit spent [] h = inl (omega arith)
either_from limit spent (c ∷ charges) h = elim (cases_lt limit (spent + c.amount)) [
  | inl high ↦ inr (record {
    before = [];
    first = c;
    after = charges;
    parts = refl;
    within = omega arith;
    beyond = omega arith;
  })
  | inr low ↦
      elim (either_from limit (spent + c.amount) charges low) [
        | inl all ↦ inl (omega (arith, more c charges))
        | inr p ↦ inr (record {
          before = c ∷ p.before;
          first = p.first;
          after = p.after;
          parts = ap (λ (l : List Charge). c ∷ l) p.parts;
          within = omega (arith, more c p.before, p.within);
          beyond = omega (arith, more c p.before, p.beyond);
        })
      ]
]

same_place : (limit spent : ℕ) (front : List Charge) (c : Charge) (back front' : List Charge)
    (d : Charge) (back' : List Charge) → front ++ c ∷ back ≡ front' ++ d ∷ back' →
    spent + total front ≤ limit → limit < spent + total front + c.amount
    → spent + total front' ≤ limit → limit < spent + total front' + d.amount → (c.line ≡ d.line)
    × (total front + c.amount ≡ total front' + d.amount)
same_place limit spent [] c back [] d back' e low high low' high' =
    let same : c ≡ d =
    cc in (ap (λ (c : Charge). c.line) same, ap (λ (c : Charge). total [] + c.amount) same)
same_place limit spent [] c back (y ∷ front') d back' e low high low' high' =
    let same : c ≡ y =
    cc in absurd (omega (arith, high, low', more y front', ap (λ (c : Charge). c.amount) same))
same_place limit spent (x ∷ front) c back [] d back' e low high low' high' =
    let same : x ≡ d =
    cc in absurd (omega (arith, high', low, more x front, ap (λ (c : Charge). c.amount) same))
same_place limit spent (x ∷ front) c back (y ∷ front') d back' e low high low' high' =
    let same : x ≡ y = cc in
    let amounts : x.amount ≡ y.amount = ap (λ (c : Charge). c.amount) same in
    let rest : front ++ c ∷ back ≡ front' ++ d ∷ back' = cc in
    let both : (c.line ≡ d.line) × (total front + c.amount ≡ total front' + d.amount) =
    same_place limit (spent + x.amount) front c back front' d back' rest
    (omega (arith, low, more x front)) (omega (arith, high, more x front))
    (omega (arith, low', more y front', amounts))
    (omega (arith, high', more y front', amounts)) in
    (both.0, omega (arith, both.1, more x front, more y front', amounts))

pub limit_law : (limit : ℕ) (charges : List Charge) → LimitLaw limit charges
limit_law limit charges = record {
  either =
      elim (either_from limit 0 charges (omega arith)) [
        | inl all ↦ inl (omega arith)
        | inr p ↦ inr (
          p.first.line,
          total p.before + p.first.amount,
          record {
            before = p.before;
            first = p.first;
            after = p.after;
            parts = p.parts;
            within = omega (arith, p.within);
            beyond = omega (arith, p.beyond);
            line = refl;
            charge = refl;
          },
        )
      ];
  apart = λ k t h all. omega (
    arith,
    h.beyond,
    h.charge,
    all,
    ap total h.parts,
    sum_by-append (λ (c : Charge). c.amount) h.before (h.first ∷ h.after),
    more h.first h.after,
  );
  one = λ k t l u h g.
      let both : (h.first.line ≡ g.first.line)
      × (total h.before + h.first.amount ≡ total g.before + g.first.amount) =
      same_place limit 0 h.before h.first h.after g.before g.first g.after (sym h.parts ∙ g.parts)
      (omega (arith, h.within)) (omega (arith, h.beyond, h.charge)) (omega (arith, g.within))
      (omega (arith, g.beyond, g.charge)) in
      (h.line ∙ (both.0 ∙ sym g.line), h.charge ∙ (both.1 ∙ sym g.charge));
}
