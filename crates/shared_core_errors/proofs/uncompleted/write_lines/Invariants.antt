use Rattle.std.proofs.Common.{take}
use Rattle.std.specs.Fmt.{HasWritten, IsPlainFormatter}
use Rattle.std.specs.HashMap.{get}
use Rattle.shared_core_errors.specs.Uncompleted.{lines_text}
use Rattle.shared_core_parts.specs.contracts.notification_template.IdPartialEq.TheImpl as ids
use Rattle.shared_core_errors.proofs.uncompleted.write_lines.Given as goal

abbrev pub invariant-loop-id : goal.invariant-loop-id
invariant-loop-id g l =
    IsPlainFormatter l.initial.f → HasWritten g.W.Write.write_str_gives l.initial.f
    (lines_text (get ids.eq-value.it l.metadata) (take l.id-index l.ids)) l.f
