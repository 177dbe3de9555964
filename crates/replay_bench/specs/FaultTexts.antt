-- What the faults of a stream print.
use Rattle.std.specs.Prelude.{ℕ, List, ◌++◌, false, codes, decimal, ◌==◌, if◌then◌else◌}
use Rattle.std.specs.Fmt.{digits}
use Rattle.shared_core_base.specs.MessageType.{debug_name_of}
use Rattle.replay_bench.specs.declared.faults.Fault.{Fault}
use Rattle.replay_bench.specs.declared.faults.FaultReason.{FaultReason}
use Rattle.replay_bench.specs.declared.faults.FaultReason.TheVariants.{UnknownHeader, Malformed, Rest}

-- The text of what is wrong.
abbrev pub reason_text : FaultReason → List ℕ
reason_text (UnknownHeader code) = codes "unknown header 0x" ++ digits 16 false code
reason_text (Malformed ty) = codes "malformed payload of " ++ debug_name_of ty
reason_text (Rest count) =
    if count == 1 then codes "1 byte after the last whole item"
    else decimal count ++ codes " bytes after the last whole item"

-- The text of a fault: where it is, and what is wrong.
abbrev pub fault_text : Fault → List ℕ
fault_text fault = codes "offset " ++ (decimal fault.offset ++ (codes ": " ++ reason_text fault.reason))
