-- Inputs that are not what a command reads: texts with a fault, and texts that are too long.
--
-- A text has at most 16,777,216 bytes. The length comes first: a text that is too long is not read,
-- whatever it has.
use Rattle.nc_algebra.specs.Limits.{max_bytes}
use Rattle.nc_tokens.specs.Kinds.{kind_number}
use Rattle.nc_tokens.specs.declared.fault.ReadFault.{ReadFault}
use Rattle.nc_tokens.specs.declared.fault.ReadFault.TheVariants.{OutOfMemory, Text}
use Rattle.nc_tokens.specs.declared.fault.TextFault.{TextFault}
use Rattle.nc_top.specs.Reports.{bad_text_report}
use Rattle.nc_top.specs.declared.status.Status.{Status}
use Rattle.nc_top.specs.declared.status.Status.TheVariants.{BadText}
use Rattle.std.specs.Prelude.{Err, List, codes, length, ℕ, ◌<◌, ◌≡◌, ◌≤◌}
use Rattle.std.specs.declared.result.Result.{Result}

-- the bytes are no such text, and are not too many: the first fault
pub record IsBadText {T : Type 0} (reads : List ℕ → Result T TextFault) (bytes : List ℕ)
    (line kind : ℕ) (report : List ℕ) : Type 0 where
  pub fault : TextFault
  pub small : length bytes ≤ max_bytes
  pub read : reads bytes ≡ Err fault
  pub at_line : line ≡ fault.line
  pub of_kind : kind ≡ kind_number fault.kind
  pub written : report ≡ bad_text_report line kind

-- status and report of a text that was not read; there are none where memory ran out
abbrev pub IsUnread : ReadFault → Status → List ℕ → Type 0
IsUnread (Text fault) status report =
    (status ≡ BadText fault.line (kind_number fault.kind))
    × (report ≡ bad_text_report fault.line (kind_number fault.kind))
IsUnread OutOfMemory status report = ⊥

-- the bytes are too many, whatever they are
pub record IsTooLarge (bytes report : List ℕ) : Type 0 where
  pub large : max_bytes < length bytes
  pub written : report ≡ codes "too large\n"
