use Rattle.std.proofs.Common.{◌≡◌, length}
use Rattle.shared_core_wire.specs.Acceptance.{accepts_payload}
use Rattle.shared_core_codec.specs.Table.{table}
use Rattle.explain_lines.specs.Explanation.{raw}
use Rattle.explain_lines.proofs.payload.is_message.Given as goal

abbrev pub invariant-loop-rest : goal.invariant-loop-rest
invariant-loop-rest l = accepts_payload table l.left raw l.rest ≡ accepts_payload table l.left raw l.bytes

abbrev pub decreases-loop-rest : goal.decreases-loop-rest
decreases-loop-rest l = length l.rest
