use Rattle.shared_core_codec.proofs.MergingRecords.{computed_accepted, computed_merged, computed_rejected}
use Rattle.shared_core_codec.proofs.MergingRecords.{message_becomes, message_rejected, no_message}
use Rattle.shared_core_codec.proofs.Keeping.{parts_same}
use Rattle.shared_core_codec.specs.Occurrences.{value_in}
use Rattle.shared_core_codec.proofs.message.AnyFieldKind.merge_value.Goals as goal

pub returns-in_default-clause-malformed : goal.returns-in_default-clause-malformed
returns-in_default-clause-malformed g c e = no_message c.args.field.now.left g.M.WireRecord.schema
    (value_in c.args.field.now) c.in_default.ensures.none

pub returns-clause-ok : goal.returns-clause-ok
returns-clause-ok g c =
    let below = c.in-Some.nested.left in
    let bytes = c.in-Some.nested.bytes.now in
    let s = g.M.WireRecord.schema in
    let v = g.M.WireRecord.parts c.args.self.now in
    let w = g.M.WireRecord.parts c.merge_occurrences.new.target in
    rw c.in-Some.ensures.bytes (message_becomes below c.args.field.now.left s bytes v w c.merge_occurrences.result
    c.in-Some.ensures.left
    (computed_accepted below s _ bytes v c.merge_occurrences.result c.merge_occurrences.ensures.computed)
    (computed_merged below s w bytes v c.merge_occurrences.result c.merge_occurrences.ensures.computed))

pub returns-clause-malformed : goal.returns-clause-malformed
returns-clause-malformed g c e =
    let below = c.in-Some.nested.left in
    let bytes = c.in-Some.nested.bytes.now in
    let s = g.M.WireRecord.schema in
    rw c.in-Some.ensures.bytes (message_rejected below c.args.field.now.left s bytes c.in-Some.ensures.left
    (computed_rejected below s _ bytes (g.M.WireRecord.parts c.args.self.now) c.merge_occurrences.result
    c.merge_occurrences.ensures.computed e))

pub returns-in_default-clause-kept : goal.returns-in_default-clause-kept
returns-in_default-clause-kept g c = parts_same (g.M.WireRecord.parts c.args.self.now)
