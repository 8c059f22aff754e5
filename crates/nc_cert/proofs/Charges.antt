-- The charges of lines, from the values that are kept.
-- What is spent so far is the total of the charges of the parts before (`spent_step`); the first
-- part that passes the limit is the one of the definition (`too_much_at`).
use Rattle.nc_algebra.proofs.NormalForms.{normal_form-normal}
use Rattle.nc_algebra.specs.Alphabets.{Alphabet, IsTextGenerator}
use Rattle.nc_algebra.specs.Certificates.{Factor, Line, Part, factor_value, line_value, values_after, values_of}
use Rattle.nc_algebra.specs.Elements.{Setting, generator}
use Rattle.nc_algebra.specs.Polynomials.{Polynomial, normal_form}
use Rattle.nc_algebra.specs.Settings.{IsSetting, NamedSetting}
use Rattle.nc_cert.proofs.Lines.{length-values_after}
use Rattle.nc_cert.proofs.Readiness.{above_one, item-normal}
use Rattle.nc_cert.proofs.Values.{normals, split}
use Rattle.nc_cert.specs.Charges.{Charge, IsTooMuch, IsChargeWithin, charges_after, charges_of, line_charges, part_charge, products_charge, total}
use Rattle.nc_cert.specs.Spent.{IsBeyond, kept_charge}
use Rattle.std.proofs.Common.{List, [], ap, arith, drop, get_or, length, map, refl, subst, suc, sum_by, sym, take, zero, ℕ, ◌+◌, ◌++◌, ◌<◌, ◌∙◌, ◌∷◌, ◌≡◌, ◌≤◌}
use Rattle.std.proofs.lemmas.List.{append_assoc, append-nil, length-map, length-take-le, length_push, map-append, take_more}
use Rattle.std.proofs.lemmas.List.Elements.{All-nil, recursion_from_All}
use Rattle.std.proofs.lemmas.List.Sums.{sum_by-append, sum_by-cons}
use Rattle.std.specs.List.{AllByRecursion}

-- ---- lines behind lines

module _ (s : Setting) where
  charges-append : (values : List Polynomial) (lines more : List Line)
      → charges_after s values (lines ++ more) ≡ charges_after s values lines ++ charges_after s
      (values_after s values lines) more
  unfolding charges_after values_after
  charges-append values [] more = refl
  charges-append values (line ∷ lines) more =
      let next : List Polynomial = values ++ line_value s values line ∷ [] in
      ap (λ (l : List Charge). line_charges s values line ++ l) (charges-append next lines more)
      ∙ sym (append_assoc (line_charges s values line) (charges_after s next lines)
      (charges_after s (values_after s next lines) more))

  charges-line : (lines : List Line) (line : Line) (more : List Line) →
      charges_of s (lines ++ line ∷ more) ≡ charges_of s lines
      ++ (line_charges s (values_of s lines) line ++ charges_after s
      (values_of s lines ++ line_value s (values_of s lines) line ∷ []) more)
  unfolding charges_after
  charges-line lines line more = charges-append [] lines (line ∷ more)

  charges-last : (lines : List Line) (line : Line)
      → charges_of s (lines ++ line ∷ []) ≡ charges_of s lines ++ line_charges s (values_of s lines)
      line
  unfolding charges_after
  charges-last lines line =
      charges-line lines line [] ∙ ap (λ (l : List Charge). charges_of s lines ++ l)
      (append-nil (line_charges s (values_of s lines) line))

  -- what passes the limit does so whatever follows
  pub too_much_before : (limit : ℕ) (lines more : List Line) (k t : ℕ)
      → IsTooMuch limit (charges_of s lines) k t
      → IsTooMuch limit (charges_of s (lines ++ more)) k t
  too_much_before limit lines more k t h =
      let others : List Charge = charges_after s (values_of s lines) more in
      record {
        before = h.before;
        first = h.first;
        after = h.after ++ others;
        parts = charges-append [] lines more
            ∙ (ap (λ (l : List Charge). l ++ others) h.parts
            ∙ append_assoc h.before (h.first ∷ h.after) others);
        within = h.within;
        beyond = h.beyond;
        line = h.line;
        charge = h.charge;
      }

-- ---- charges over the values in normal form

module _ (s : NamedSetting) (is : IsSetting s) where
  listed_normal : (a : Alphabet) (f : List Polynomial) (i : ℕ)
      → AllByRecursion (IsTextGenerator a s.setting.prime) f
      → normal_form s.setting.prime (get_or f i []) ≡ get_or f i []
  listed_normal a [] i h =
      normal_form-normal s.setting.prime [] (omega (arith, above_one s is))
      (tt, All-nil (λ t. t.coefficient < s.setting.prime))
  listed_normal a (g ∷ f) zero h =
      let first : IsTextGenerator a s.setting.prime g =
      h.0 in normal_form-normal s.setting.prime g (omega (arith, above_one s is))
      first.polynomial.normal
  listed_normal a (g ∷ f) (suc i) h = listed_normal a f i h.1

  generator_normal : (i : ℕ) → normal_form s.setting.prime (generator s.setting i) ≡ generator
      s.setting i
  unfolding generator
  generator_normal zero = listed_normal s.alphabet [] 0 tt
  generator_normal (suc i) =
      listed_normal s.alphabet s.setting.generators i
      (recursion_from_All (IsTextGenerator s.alphabet s.setting.prime) s.setting.generators is.each)

  kept_factor : (values : List Polynomial) (f : Factor)
      → factor_value s.setting (map (normal_form s.setting.prime) values) f ≡ normal_form
      s.setting.prime (factor_value s.setting values f)
  kept_factor values (Factor.a_generator i) = sym (generator_normal i)
  kept_factor values (Factor.a_line k) = item-normal s.setting.prime values k

  kept_is : (values : List Polynomial) (part : Part)
      → kept_charge s.setting (map (normal_form s.setting.prime) values) part ≡ part_charge
      s.setting values part
  kept_is values part =
      ap (λ (f : Polynomial). products_charge part.left f part.right) (kept_factor values part.of)

  line_total : (values : List Polynomial) (line : Line)
      → total (line_charges s.setting values line)
      ≡ sum_by (kept_charge s.setting (map (normal_form s.setting.prime) values)) line
  line_total values [] = refl
  line_total values (part ∷ line) =
      let charge : Part → ℕ = kept_charge s.setting (map (normal_form s.setting.prime) values) in
      omega (
        arith,
        sum_by-cons (λ (c : Charge). c.amount)
            (record { line = suc (length values); amount = part_charge s.setting values part })
            (line_charges s.setting values line),
        sum_by-cons charge part line,
        kept_is values part,
        line_total values line,
      )

  -- what is spent after one line more
  pub spent_after : (lines : List Line) (line : Line)
      → total (charges_of s.setting (lines ++ line ∷ [])) ≡ total (charges_of s.setting lines)
      + sum_by (kept_charge s.setting (normals s is lines)) line
  spent_after lines line =
      ap total (charges-last s.setting lines line)
      ∙ (sum_by-append (λ (c : Charge). c.amount) (charges_of s.setting lines)
      (line_charges s.setting (values_of s.setting lines) line)
      ∙ ap (λ n. total (charges_of s.setting lines) + n)
      (line_total (values_of s.setting lines) line))

  -- the part of a line that passes the limit
  pub too_much_here : (limit : ℕ) (lines : List Line) (line : Line) (more : List Line) (k t : ℕ)
      → k ≡ suc (length lines) → IsBeyond limit (total (charges_of s.setting lines))
      (kept_charge s.setting (normals s is lines)) line t
      → IsTooMuch limit (charges_of s.setting (lines ++ line ∷ more)) k t
  too_much_here limit lines line more k t number h =
      let values : List Polynomial = values_of s.setting lines in
      let others : List Charge =
      charges_after s.setting (values ++ line_value s.setting values line ∷ []) more in
      let front : List Charge = line_charges s.setting values h.before in
      let first : Charge =
      record { line = suc (length values); amount = part_charge s.setting values h.first } in
      let back : List Charge = line_charges s.setting values h.after in
      let spent : total (charges_of s.setting lines ++ front) ≡ total (charges_of s.setting lines)
      + sum_by (kept_charge s.setting (normals s is lines)) h.before =
      sum_by-append (λ (c : Charge). c.amount) (charges_of s.setting lines) front
      ∙ ap (λ n. total (charges_of s.setting lines) + n) (line_total values h.before) in
      record {
        before = charges_of s.setting lines ++ front;
        first = first;
        after = back ++ others;
        parts =
            charges-line s.setting lines line more
            ∙ (ap (λ (l : Line). charges_of s.setting lines
            ++ (line_charges s.setting values l ++ others)) h.parts
            ∙ (ap (λ (l : List Charge). charges_of s.setting lines ++ (l ++ others))
            (map-append (λ (part : Part). record {
              line = suc (length values);
              amount = part_charge s.setting values part;
            }) h.before (h.first ∷ h.after))
            ∙ (ap (λ (l : List Charge). charges_of s.setting lines ++ l)
            (append_assoc front (first ∷ back) others)
            ∙ sym (append_assoc (charges_of s.setting lines) front (first ∷ (back ++ others))))));
        within = omega (arith, spent, h.within);
        beyond = h.beyond;
        line = omega (arith, number, length-values_after s.setting [] lines);
        charge = omega (arith, spent, h.charge_is, kept_is values h.first);
      }

  many : (lines : List Line) → length (normals s is lines) ≡ length lines
  many lines =
      omega (
        arith,
        length-map (values_of s.setting lines) (normal_form s.setting.prime),
        length-values_after s.setting [] lines,
      )

  -- the same at a place of lines, over the values that are kept
  pub spent_step : (lines : List Line) (i : ℕ) (line : Line) (values : List Polynomial)
      (spent now : ℕ) → i < length lines → line ≡ get_or lines i line
      → values ≡ normals s is (take i lines) → spent ≡ total (charges_of s.setting (take i lines)) →
      now ≡ spent + sum_by (kept_charge s.setting values) line
      → now ≡ total (charges_of s.setting (take (i + 1) lines))
  spent_step lines i line values spent now within at kept before e =
      e
      ∙ (ap (λ n. n + sum_by (kept_charge s.setting values) line) before
      ∙ (ap (λ (values : List Polynomial). total (charges_of s.setting (take i lines))
      + sum_by (kept_charge s.setting values) line) kept
      ∙ (sym (spent_after (take i lines) line)
      ∙ ap (λ (l : List Line). total (charges_of s.setting l))
      (sym (take_more lines i line within ∙ ap (λ (l : Line). take i lines ++ l ∷ [])
      (sym at))))))

  beyond_kept : (limit : ℕ) (lines : List Line) (line : Line) (values : List Polynomial)
      (spent t : ℕ) → values ≡ normals s is lines → spent ≡ total (charges_of s.setting lines)
      → IsBeyond limit spent (kept_charge s.setting values) line t →
      IsBeyond limit (total (charges_of s.setting lines))
      (kept_charge s.setting (normals s is lines)) line t
  beyond_kept limit lines line values spent t kept before h =
      subst (λ n. IsBeyond limit n (kept_charge s.setting (normals s is lines)) line t) before
      (subst (λ (values : List Polynomial). IsBeyond limit spent (kept_charge s.setting values)
      line t) kept h)

  pub too_much_at : (limit : ℕ) (lines : List Line) (i : ℕ) (line : Line) (values : List Polynomial)
      (spent k t : ℕ) → i < length lines → line ≡ get_or lines i line
      → values ≡ normals s is (take i lines) → spent ≡ total (charges_of s.setting (take i lines)) →
      k ≡ length values + 1 → IsBeyond limit spent (kept_charge s.setting values) line t
      → IsTooMuch limit (charges_of s.setting lines) k t
  too_much_at limit lines i line values spent k t within at kept before number h =
      subst (λ (l : List Line). IsTooMuch limit (charges_of s.setting l) k t)
      (sym (split s is lines i line within at))
      (too_much_here limit (take i lines) line (drop (suc i) lines) k t
      (omega (arith, number, ap length kept, many (take i lines)))
      (beyond_kept limit (take i lines) line values spent t kept before h))

  pub place : (lines : List Line) (i : ℕ) (values : List Polynomial) → i < length lines
      → values ≡ normals s is (take i lines) → length values ≡ i
  place lines i values within kept =
      omega (arith, ap length kept, many (take i lines), length-take-le i lines (omega arith))

  -- and at the last line
  pub too_much_last : (limit : ℕ) (lines before : List Line) (last : Line)
      (values : List Polynomial) (spent k t : ℕ) → lines ≡ before ++ last ∷ [] → k ≡ length lines
      → values ≡ normals s is before → spent ≡ total (charges_of s.setting before) →
      IsBeyond limit spent (kept_charge s.setting values) last t
      → IsTooMuch limit (charges_of s.setting lines) k t
  too_much_last limit lines before last values spent k t whole number kept sum h =
      subst (λ (l : List Line). IsTooMuch limit (charges_of s.setting l) k t) (sym whole)
      (too_much_here limit before last [] k t
      (omega (arith, number, ap length whole, length_push before last))
      (beyond_kept limit before last values spent t kept sum h))

  pub within_last : (limit : ℕ) (lines before : List Line) (last : Line) (values : List Polynomial)
      (spent now : ℕ) → lines ≡ before ++ last ∷ [] → values ≡ normals s is before
      → spent ≡ total (charges_of s.setting before)
      → now ≡ spent + sum_by (kept_charge s.setting values) last → now ≤ limit →
      IsChargeWithin limit (charges_of s.setting lines)
  within_last limit lines before last values spent now whole kept sum e low =
      subst (λ (l : List Line). IsChargeWithin limit (charges_of s.setting l)) (sym whole)
      (omega (
        arith,
        low,
        e,
        sum,
        spent_after before last,
        ap (λ (values : List Polynomial). sum_by (kept_charge s.setting values) last) kept,
      ))
