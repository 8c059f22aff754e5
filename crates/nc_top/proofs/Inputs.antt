-- An input is a text or has a fault, and its first fault is told once.
use Rattle.nc_algebra.specs.Limits.{max_bytes}
use Rattle.nc_tokens.specs.Gives.{FailsText}
use Rattle.nc_tokens.specs.Kinds.{kind_number}
use Rattle.nc_tokens.specs.declared.fault.ReadFault.{ReadFault}
use Rattle.nc_tokens.specs.declared.fault.ReadFault.TheVariants.{OutOfMemory as Unread, Text}
use Rattle.nc_tokens.specs.declared.fault.TextFault.{TextFault}
use Rattle.nc_top.specs.Inputs.{IsBadText, IsUnread}
use Rattle.nc_top.specs.Reports.{bad_text_report}
use Rattle.nc_top.specs.declared.status.Status.{Status}
use Rattle.nc_top.specs.declared.status.Status.TheVariants.{BadText}
use Rattle.std.proofs.Common.{Err, List, Ok, ap, ap₂, length, refl, subst, sym, ℕ, ◌∙◌, ◌≡◌, ◌≤◌}
use Rattle.std.specs.declared.result.Result.{Result}

module _ {T : Type 0} where
  pub err_or_ok : {t : T} {fault : TextFault} → Err fault ≡ Ok t → ⊥
  err_or_ok e = absurd cc

  -- a fault is told by its line and its kind
  pub bad_text : (reads : List ℕ → Result T TextFault) (bytes : List ℕ) (fault : TextFault)
      → length bytes ≤ max_bytes → reads bytes ≡ Err fault
      → IsBadText reads bytes fault.line (kind_number fault.kind)
      (bad_text_report fault.line (kind_number fault.kind))
  bad_text reads bytes fault small read = record {
    fault = fault;
    small = small;
    read = read;
    at_line = refl;
    of_kind = refl;
    written = refl;
  }

  -- what is answered where a text was not read
  pub unread_answer : (Answer : Status → List ℕ → Type 0)
      (reads : List ℕ → Result T TextFault) (bytes : List ℕ) (fault : ReadFault)
      → ((line kind : ℕ) (report : List ℕ) → IsBadText reads bytes line kind report
      → Answer (BadText line kind) report)
      → length bytes ≤ max_bytes → FailsText fault (reads bytes) → (status : Status)
      (report : List ℕ) → IsUnread fault status report → Answer status report
  unread_answer Answer reads bytes (Text fault) told small read status report is =
      subst (λ (t : Status). Answer t report) (sym is.0)
      (subst (Answer (BadText fault.line (kind_number fault.kind))) (sym is.1)
      (told fault.line (kind_number fault.kind)
      (bad_text_report fault.line (kind_number fault.kind))
      (bad_text reads bytes fault small read)))
  unread_answer Answer reads bytes Unread told small read status report is = absurd is

  pub same_fault : (reads : List ℕ → Result T TextFault) (bytes : List ℕ) (l k l' k' : ℕ)
      (r r' : List ℕ) → IsBadText reads bytes l k r → IsBadText reads bytes l' k' r'
      → (BadText l k ≡ BadText l' k') × (r ≡ r')
  same_fault reads bytes l k l' k' r r' a b =
      let one : a.fault ≡ b.fault = ap fault_in (sym a.read ∙ b.read) in
      let line : l ≡ l' = a.at_line ∙ (ap (λ (f : TextFault). f.line) one ∙ sym b.at_line) in
      let kind : k ≡ k' =
      a.of_kind ∙ (ap (λ (f : TextFault). kind_number f.kind) one ∙ sym b.of_kind) in
      (ap₂ BadText line kind, a.written ∙ (ap₂ bad_text_report line kind ∙ sym b.written))
    where
      fault_in : Result T TextFault → TextFault
      fault_in (Ok t) = a.fault
      fault_in (Err f) = f
