-- What a run of the program may end with, each with its cause.
--
-- The words give a command, or the run is refused. A command reads its source and writes one report
-- to its sink. A read fault comes only where the count of the source's failures rose, and a write
-- fault only where that of the sink rose. Memory may run out at any time, with nothing written. In
-- all other cases the bytes that were read determine status and report.
--
-- The source is read to one byte beyond the greatest length of a text, so that too long a text is
-- known as such. Where a source does not tell its bytes, the contract speaks of some bytes, without
-- saying which ones the source gave. The command `demo` has options, but no run here carries it
-- out.
use Rattle.nc_algebra.specs.Limits.{max_bytes}
use Rattle.nc_io.specs.Adds.{Adds, AddsFront}
use Rattle.nc_io.specs.Causes.{Rose}
use Rattle.nc_io.specs.Pieces.{TakesWhole}
use Rattle.nc_options.specs.Options.{options_of}
use Rattle.nc_options.specs.declared.options.Options.{Options}
use Rattle.nc_options.specs.declared.options.Options.TheVariants.{Basis, Check, Demo, Member}
use Rattle.nc_top.specs.Basis.{IsBasisAnswer}
use Rattle.nc_top.specs.Check.{IsCheckAnswer}
use Rattle.nc_top.specs.Member.{IsMemberAnswer}
use Rattle.nc_top.specs.declared.status.Status.{Status}
use Rattle.nc_top.specs.declared.status.Status.TheVariants.{OutOfMemory, ReadFault, Usage, WriteFault}
use Rattle.std.specs.Prelude.{List, Some, [], codes, ℕ, ◌+◌, ◌≡◌, ◌⊎◌}
use Rattle.std.specs.declared.option.Option.{Option}

-- `basis`, `member` and `check`
abbrev pub Runs : Options → Type 0
Runs (Basis options) = Unit {0}
Runs (Member options) = Unit {0}
Runs Check = Unit {0}
Runs (Demo options) = ⊥

-- the words give these options, of a command that runs
abbrev pub IsCommand : List (List ℕ) → Options → Type 0
IsCommand words options = (options_of words ≡ Some options) × Runs options

-- the words give some command that runs
abbrev pub IsRun : List (List ℕ) → Type 0
IsRun words = (options : Options) × IsCommand words options

-- status and report for the bytes of an input
abbrev pub IsAnswer : Options → List ℕ → Status → List ℕ → Type 0
IsAnswer (Basis options) bytes status report = IsBasisAnswer options bytes status report
IsAnswer (Member options) bytes status report = IsMemberAnswer options bytes status report
IsAnswer Check bytes status report = IsCheckAnswer bytes status report
IsAnswer (Demo options) bytes status report = ⊥

-- ---- what was read and written

-- a call's use of its source or its sink: what that tells of its bytes, those that are left or
-- those that were written, and how many failures it has counted
pub record StreamUse : Type 0 where
  pub bytes_before : Option (List ℕ)
  pub bytes_after : Option (List ℕ)
  pub faults_before : ℕ
  pub faults_after : ℕ

abbrev pub stream_use : {S : Type 0} → (S → Option (List ℕ)) → (S → ℕ) → S → S → StreamUse
stream_use bytes faults before after = record {
  bytes_before = bytes before;
  bytes_after = bytes after;
  faults_before = faults before;
  faults_after = faults after;
}

-- this text was written, and nothing else
abbrev pub HasWritten : StreamUse → List ℕ → Type 0
HasWritten sink text = Adds sink.bytes_before sink.bytes_after text

-- memory ran out, with nothing written
abbrev pub LackedMemory : StreamUse → Status → Type 0
LackedMemory sink result = (result ≡ OutOfMemory) × HasWritten sink []

-- the report was written, or the count of the sink's failures rose and a front of it was written
abbrev pub IsReported : StreamUse → List ℕ → Status → Status → Type 0
IsReported sink report status result =
    ((result ≡ status) × HasWritten sink report)
    ⊎ ((result ≡ WriteFault) × Rose sink.faults_before sink.faults_after
    × AddsFront sink.bytes_before sink.bytes_after report)

-- `usage` was reported, or memory ran out while the words were read
abbrev pub IsRefused : StreamUse → Status → Type 0
IsRefused sink result =
    LackedMemory sink result ⊎ IsReported sink (codes "usage\n") Usage result

-- the source was read to its end, or as far as 16,777,217 bytes, and status and report are those of
-- its bytes
pub record IsAnswered (options : Options) (source : StreamUse) (sink : StreamUse) (result : Status)
    : Type 0 where
  pub bytes : List ℕ
  pub taken : TakesWhole source.bytes_before source.bytes_after bytes (max_bytes + 1)
  pub status : Status
  pub report : List ℕ
  pub answer : IsAnswer options bytes status report
  pub reported : IsReported sink report status result

-- a read fault only where the count of the source's failures rose, with nothing written; want of
-- memory; or an answer
abbrev pub Ran : Options → StreamUse → StreamUse → Status → Type 0
Ran options source sink result =
    ((result ≡ ReadFault) × Rose source.faults_before source.faults_after × HasWritten sink [])
    ⊎ (LackedMemory sink result
    ⊎ IsAnswered options source sink result)
