use Rattle.std.proofs.Common.{◌≡◌, length}
use Rattle.std.specs.Option.{is_some}
use Rattle.shared_core_wire.specs.Reader.{sequence_past}
use Rattle.shared_core_codec.specs.Canonicity.{written_varint_at}
use Rattle.shared_core_codec.specs.ProgramRows.{kind_view}
use Rattle.shared_core_codec.proofs.canonical.is_written_run.Given as goal

abbrev pub invariant-loop-rest : goal.invariant-loop-rest
invariant-loop-rest l = is_some (sequence_past (written_varint_at (kind_view l.kind)) 0 l.rest) ≡ is_some
    (sequence_past (written_varint_at (kind_view l.kind)) 0 l.run)

abbrev pub decreases-loop-rest : goal.decreases-loop-rest
decreases-loop-rest l = length l.rest
