-- The answer of `check` by its bytes.
-- Status and report are functions of the bytes (`told_by_functions`, with a lemma for each status:
-- `done_told`, `invalid_told`, `bad_text_told`, `many_told`, `much_told`). The other way, what the
-- functions tell is an answer (`by_rest`, `by_work`, `by_text`, `by_size`).
use Rattle.nc_algebra.specs.Certificates.{Certificate, rest_of}
use Rattle.nc_algebra.specs.Polynomials.{Polynomial}
use Rattle.nc_text.proofs.ReadCertificates.{reads_certificates}
use Rattle.nc_text.specs.Certificates.{reads_certificate}
use Rattle.nc_tokens.specs.Kinds.{kind_number}
use Rattle.nc_tokens.specs.declared.fault.TextFault.{TextFault}
use Rattle.nc_cert.proofs.Beyond.{much_found, within_none}
use Rattle.nc_cert.proofs.Limits.{limit_law}
use Rattle.nc_cert.proofs.Rests.{nothing_from_valid, valid_from_nothing}
use Rattle.nc_cert.specs.Beyond.{first_beyond}
use Rattle.nc_cert.specs.Charges.{Charge, IsTooMuch}
use Rattle.nc_cert.specs.Checking.{certificate_charges}
use Rattle.nc_top.proofs.Inputs.{bad_text}
use Rattle.nc_top.specs.Check.{IsCheckAnswer, IsText, IsWithinWork}
use Rattle.nc_top.specs.Reports.{bad_text_report, invalid_report, too_much_report}
use Rattle.nc_top.specs.declared.status.Status.{Status}
use Rattle.nc_top.specs.declared.status.Status.TheVariants.{BadText, Done, Invalid, TooLarge, TooMuch}
use Rattle.std.proofs.Common.{Bool, Err, List, None, Ok, Some, [], ap, ap₂, codes, false, if◌then◌else◌, inl, inr, length, nat_lt, refl, subst, sym, true, ℕ, ◌∙◌, ◌∷◌, ◌<◌, ◌≡◌, ◌≤◌, ◌⊎◌}
use Rattle.std.proofs.lemmas.Bool.{cases_lt, le-ltb, lt-ltb}
use Rattle.std.specs.declared.option.Option.{Option}
use Rattle.std.specs.declared.result.Result.{Result}

-- ---- status and report by functions

-- Done where nothing is left of the claim
abbrev status_of_rest : Polynomial → Status
status_of_rest [] = Done
status_of_rest (t ∷ f) = Invalid

-- TooMuch where a part passes the limit on work
abbrev status_of_work : Option Charge → Polynomial → Status
status_of_work (Some c) rest = TooMuch c.line c.amount
status_of_work None rest = status_of_rest rest

-- the work and what is left of the claim of a certificate, or the fault of a text that is none
abbrev status_of_text : Result Certificate TextFault → Status
status_of_text (Ok c) =
    status_of_work (first_beyond 100000000 0 (certificate_charges c))
    (rest_of c.setting.setting c.claim c.lines)
status_of_text (Err fault) = BadText fault.line (kind_number fault.kind)

-- the size is told before the text is looked at
abbrev status_of : List ℕ → Status
status_of bytes =
    if nat_lt 16777216 (length bytes) then TooLarge else status_of_text (reads_certificate bytes)

abbrev report_of_rest : List (List ℕ) → Polynomial → List ℕ
report_of_rest names [] = codes "valid\n"
report_of_rest names (t ∷ f) = invalid_report names (t ∷ f)

abbrev report_of_work : List (List ℕ) → Option Charge → Polynomial → List ℕ
report_of_work names (Some c) rest = too_much_report c.line c.amount
report_of_work names None rest = report_of_rest names rest

abbrev report_of_text : Result Certificate TextFault → List ℕ
report_of_text (Ok c) =
    report_of_work c.setting.alphabet.names (first_beyond 100000000 0 (certificate_charges c))
    (rest_of c.setting.setting c.claim c.lines)
report_of_text (Err fault) = bad_text_report fault.line (kind_number fault.kind)

abbrev report_of : List ℕ → List ℕ
report_of bytes =
    if nat_lt 16777216 (length bytes) then codes "too large\n" else report_of_text
    (reads_certificate bytes)

-- status and report by functions are these two
abbrev Told : List ℕ → Status → List ℕ → Type 0
Told bytes status report = (status ≡ status_of bytes) × (report ≡ report_of bytes)

-- ---- few bytes, or too many

few_told : (bytes : List ℕ) (r : Result Certificate TextFault) (status : Status) (report : List ℕ)
    → length bytes ≤ 16777216 → reads_certificate bytes ≡ r → status ≡ status_of_text r
    → report ≡ report_of_text r → Told bytes status report
few_told bytes r status report small read told written =
    let few : nat_lt 16777216 (length bytes) ≡ false = le-ltb 16777216 (length bytes) small in (
      told ∙ (ap status_of_text (sym read)
          ∙ ap (λ (b : Bool). if b then TooLarge else status_of_text (reads_certificate bytes))
          (sym few)),
      written ∙ (ap report_of_text (sym read)
          ∙ ap (λ (b : Bool). if b then codes "too large\n" else report_of_text
          (reads_certificate bytes)) (sym few)),
    )

many_told : (bytes : List ℕ) (status : Status) (report : List ℕ) → 16777216 < length bytes
    → status ≡ TooLarge → report ≡ codes "too large\n" → Told bytes status report
many_told bytes status report large told written =
    let many : nat_lt 16777216 (length bytes) ≡ true = lt-ltb 16777216 (length bytes) large in (
      told ∙ ap (λ (b : Bool). if b then TooLarge else status_of_text (reads_certificate bytes))
          (sym many),
      written ∙ ap (λ (b : Bool). if b then codes "too large\n" else report_of_text
          (reads_certificate bytes)) (sym many),
    )

-- ---- work within the limit, or too much

-- the charges of the parts of a certificate
abbrev Charges : Certificate → List Charge
Charges c = certificate_charges c

abbrev beyond : Certificate → Option Charge
beyond c = first_beyond 100000000 0 (Charges c)

within_told : (bytes : List ℕ) (c : Certificate) (status : Status) (report : List ℕ)
    → IsText bytes c → IsWithinWork c
    → status ≡ status_of_rest (rest_of c.setting.setting c.claim c.lines)
    → report ≡ report_of_rest c.setting.alphabet.names (rest_of c.setting.setting c.claim c.lines)
    → Told bytes status report
within_told bytes c status report text within told written =
    let f : Polynomial = rest_of c.setting.setting c.claim c.lines in
    let none : beyond c ≡ None = within_none 100000000 (Charges c) within in
    few_told bytes (Ok c) status report text.small text.read
    (told ∙ ap (λ (o : Option Charge). status_of_work o f) (sym none))
    (written ∙ ap (λ (o : Option Charge). report_of_work c.setting.alphabet.names o f)
    (sym none))

much_told : (bytes : List ℕ) (line charge : ℕ) (report : List ℕ)
    → IsCheckAnswer bytes (TooMuch line charge) report → Told bytes (TooMuch line charge) report
much_told bytes line charge report h =
    let c : Certificate = h.certificate in
    let f : Polynomial = rest_of c.setting.setting c.claim c.lines in
    let found : beyond c ≡ Some (record { line = line; amount = charge }) =
    much_found 100000000 (Charges c) line charge h.much in
    few_told bytes (Ok c) (TooMuch line charge) report h.text.small h.text.read
    (ap (λ (o : Option Charge). status_of_work o f) (sym found))
    (h.written ∙ ap (λ (o : Option Charge). report_of_work c.setting.alphabet.names o f)
    (sym found))

-- ---- valid, or not

done_told : (bytes : List ℕ) (report : List ℕ) → IsCheckAnswer bytes Done report
    → Told bytes Done report
done_told bytes report h =
    let c : Certificate = h.certificate in
    let nothing : rest_of c.setting.setting c.claim c.lines ≡ [] =
    nothing_from_valid c (rest_of c.setting.setting c.claim c.lines)
    (reads_certificates bytes c h.text.read).certificate refl h.valid in
    within_told bytes c Done report h.text h.within (ap status_of_rest (sym nothing))
    (h.written ∙ ap (report_of_rest c.setting.alphabet.names) (sym nothing))

something : (c : Certificate) (f : Polynomial) (report : List ℕ) → ¬ (f ≡ [])
    → report ≡ invalid_report c.setting.alphabet.names f → (Invalid ≡ status_of_rest f)
    × (report ≡ report_of_rest c.setting.alphabet.names f)
something c [] report h e = absurd (h refl)
something c (t ∷ f) report h e = (refl, e)

invalid_told : (bytes : List ℕ) (report : List ℕ) → IsCheckAnswer bytes Invalid report
    → Told bytes Invalid report
invalid_told bytes report h =
    let c : Certificate = h.certificate in
    let f : Polynomial = rest_of c.setting.setting c.claim c.lines in
    let some =
    something c f report (λ e. h.invalid
    (valid_from_nothing c f (reads_certificates bytes c h.text.read).certificate refl e))
    h.written in
    within_told bytes c Invalid report h.text h.within some.0 some.1

bad_text_told : (bytes : List ℕ) (line kind : ℕ) (report : List ℕ)
    → IsCheckAnswer bytes (BadText line kind) report → Told bytes (BadText line kind) report
bad_text_told bytes line kind report h =
    few_told bytes (Err h.fault) (BadText line kind) report h.small h.read
    (ap₂ BadText h.at_line h.of_kind) (h.written ∙ ap₂ bad_text_report h.at_line h.of_kind)

told_by_functions : (bytes : List ℕ) (status : Status) (report : List ℕ)
    → IsCheckAnswer bytes status report → Told bytes status report
told_by_functions bytes Done report h = done_told bytes report h
told_by_functions bytes Invalid report h = invalid_told bytes report h
told_by_functions bytes (BadText line kind) report h = bad_text_told bytes line kind report h
told_by_functions bytes TooLarge report h = many_told bytes TooLarge report h.large refl h.written
told_by_functions bytes (TooMuch line charge) report h = much_told bytes line charge report h
told_by_functions bytes _ report h = absurd h

-- ---- each input has an answer

by_rest : (bytes : List ℕ) (c : Certificate) (f : Polynomial) → IsText bytes c → IsWithinWork c
    → f ≡ rest_of c.setting.setting c.claim c.lines
    → IsCheckAnswer bytes (status_of_rest f) (report_of_rest c.setting.alphabet.names f)
by_rest bytes c [] text within is =
    record {
      certificate = c;
      text = text;
      within = within;
      valid = valid_from_nothing c []
          (reads_certificates bytes c text.read).certificate is refl;
      written = refl;
    }
by_rest bytes c (t ∷ f) text within is =
    record {
      certificate = c;
      text = text;
      within = within;
      invalid = λ valid. none t f
          (nothing_from_valid c (t ∷ f) (reads_certificates bytes c text.read).certificate is
          valid);
      written = ap (invalid_report c.setting.alphabet.names) is;
    }
  where
    none : {A : Type 0} (t : A) (f : List A) → t ∷ f ≡ [] → ⊥
    none t f e = absurd cc

by_work : (bytes : List ℕ) (c : Certificate) → IsText bytes c → IsWithinWork c
    ⊎ ((k : ℕ) × (t : ℕ) × IsTooMuch 100000000 (Charges c) k t)
    → IsCheckAnswer bytes (status_of_work (beyond c) (rest_of c.setting.setting c.claim c.lines))
    (report_of_work c.setting.alphabet.names (beyond c)
    (rest_of c.setting.setting c.claim c.lines))
by_work bytes c text (inl within) =
    let f : Polynomial = rest_of c.setting.setting c.claim c.lines in
    subst (λ (o : Option Charge). IsCheckAnswer bytes (status_of_work o f)
    (report_of_work c.setting.alphabet.names o f))
    (sym (within_none 100000000 (Charges c) within)) (by_rest bytes c f text within refl)
by_work bytes c text (inr (k, t, much)) =
    let f : Polynomial = rest_of c.setting.setting c.claim c.lines in
    subst (λ (o : Option Charge). IsCheckAnswer bytes (status_of_work o f)
    (report_of_work c.setting.alphabet.names o f))
    (sym (much_found 100000000 (Charges c) k t much))
    (record { certificate = c; text = text; much = much; written = refl })

by_text : (bytes : List ℕ) (r : Result Certificate TextFault) → length bytes ≤ 16777216
    → reads_certificate bytes ≡ r → IsCheckAnswer bytes (status_of_text r) (report_of_text r)
by_text bytes (Ok c) small read =
    by_work bytes c record { small = small; read = read } (limit_law 100000000 (Charges c)).either
by_text bytes (Err fault) small read =
    bad_text reads_certificate bytes fault small read

by_size : (bytes : List ℕ) → (16777216 < length bytes) ⊎ (length bytes ≤ 16777216)
    → IsCheckAnswer bytes (status_of bytes) (report_of bytes)
by_size bytes (inr small) =
    let told =
    few_told bytes (reads_certificate bytes) (status_of_text (reads_certificate bytes))
    (report_of_text (reads_certificate bytes)) small refl refl refl in
    subst (IsCheckAnswer bytes (status_of bytes)) told.1
    (subst (λ (s : Status). IsCheckAnswer bytes s (report_of_text (reads_certificate bytes)))
    told.0 (by_text bytes (reads_certificate bytes) small refl))
by_size bytes (inl large) =
    let told = many_told bytes TooLarge (codes "too large\n") large refl refl in
    subst (IsCheckAnswer bytes (status_of bytes)) told.1
    (subst (λ (s : Status). IsCheckAnswer bytes s (codes "too large\n")) told.0 record
    { large = large; written = refl })

-- each input has one answer
pub check_answer : (bytes : List ℕ) → (status : Status) × (report : List ℕ)
    × IsCheckAnswer bytes status report
check_answer bytes =
    (status_of bytes, report_of bytes, by_size bytes (cases_lt 16777216 (length bytes)))

pub one_check : (bytes : List ℕ) (status status' : Status) (report report' : List ℕ)
    → IsCheckAnswer bytes status report → IsCheckAnswer bytes status' report' → (status ≡ status')
    × (report ≡ report')
one_check bytes status status' report report' a b =
    let one = told_by_functions bytes status report a in
    let other = told_by_functions bytes status' report' b in
    (one.0 ∙ sym other.0, one.1 ∙ sym other.1)
