use Rattle.std.proofs.Common.{◌≡◌, ◌∙◌, Some, None, sym, ap, subst}
use Rattle.shared_core_json_reader.specs.declared.error.Reason.{Reason}
use Rattle.shared_core_json_reader.specs.Reading.{value_payload_in}
use Rattle.shared_core_json_reader.specs.FirstError.{value_error_in}
use Rattle.make_lines.specs.declared.error.LineReason.TheVariants as variant
use Rattle.make_lines.specs.Making.{making}
use Rattle.make_lines.proofs.ItemFaults.{message_rejected}
use Rattle.make_lines.proofs.maker.Maker.message_of.Goals as goal

pub returns-in-Err : goal.returns-in-Err
returns-in-Err g c some =
    let by = making (g.M.LineTable.messages c.args.self.now.messages.now) c.args.self.now.version in
    let other = λ (e : c.in-Err.reason ≡ Reason.OutOfMemory). some (ap variant.Json e) in
    let first = c.in-Err.ensures.error other in
    let s = c.in-Some.schema in
    let m = c.args.message.now in
    let none = subst (λ format. value_payload_in format s m ≡ None) c.table.ensures (c.in-Err.ensures.rejected other) in
    let error = subst (λ format. value_error_in format s m ≡ Some (c.in-Err.reason, first.0)) c.table.ensures first.1 in
    message_rejected by c.args.line.now c.args.coded.code s m c.in-Err.reason first.0 c.requires
    (sym c.schema.ensures ∙ c.in-Some.is) none error
