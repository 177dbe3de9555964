-- The statuses with which subcommands end that have read a whole stream.
use Rattle.std.specs.Prelude.{◌≡◌, ◌⊎◌, ℕ, ◌==◌, Bool, not, ◌&&◌, nat_lt, if◌then◌else◌, is_some}
use Rattle.field_paths.specs.declared.getting.Answer.{Answer}
use Rattle.field_paths.specs.declared.getting.Answer.TheVariants.{Written, NoItem, Opaque, Malformed, Lacking}
use Rattle.field_paths.specs.declared.getting.Answer.TheVariants.{NoMessage}
use Rattle.stream_lines.specs.declared.report.Report.{Report}
use Rattle.stream_versions.specs.Fits.{fits}

-- That of a dump: 2 if it is strict, and the stream does not fit its version.
abbrev pub dumped_status : Bool → Report → ℕ
dumped_status is_strict found = if is_strict && not (fits found) then 2 else 0

-- That of a stream that was written: 1 if it has bytes, and no item comes before them.
abbrev pub written_status : Report → ℕ
written_status found = if found.rest == 0 then 0 else (if nat_lt 0 found.end then 0 else 1)

-- That of a stream that was renumbered: 1 too if a payload has no other numbers.
abbrev pub renumbered_status : Report → ℕ
renumbered_status found = if is_some found.trouble then 1 else written_status found

-- That of a field that was looked for: 1 if it is not there. Which fields there are may not be said without memory, and
-- then it may be that of a failure.
abbrev pub IsGotStatus : ℕ → Answer → ℕ → Type 0
IsGotStatus failure Written status = status ≡ 0
IsGotStatus failure NoItem status = status ≡ 1
IsGotStatus failure Opaque status = status ≡ 1
IsGotStatus failure Malformed status = status ≡ 1
IsGotStatus failure (Lacking schema rest) status = (status ≡ 1) ⊎ (status ≡ failure)
IsGotStatus failure (NoMessage rest) status = status ≡ 1
