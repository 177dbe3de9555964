use Rattle.std.proofs.Common.{◌≡◌, refl, rules}
use Rattle.shared_core_wire.specs.Value.{Number}
use Rattle.shared_core_codec.proofs.FieldElements.{packed_extends, packed_rejected, parts_push}
use Rattle.shared_core_codec.proofs.Keeping.{same_elements, pushed_elements}
use Rattle.shared_core_codec.proofs.packed.merge.Goals as goal

pub returns-in_ok-push-in-Varint-clause-ok : goal.returns-in_ok-push-in-Varint-clause-ok
returns-in_ok-push-in-Varint-clause-ok c = rw (c.in-Varint.is, c.in_ok-push-in-Varint.ensures.items, c.low_32.ensures)
    (refl, parts_push Number c.args.field.now.items _)

pub returns-in-Length-clause-ok : goal.returns-in-Length-clause-ok
returns-in-Length-clause-ok c = rw c.in-Length.is (packed_extends c.args.field.now.items c.merge_run.new.numbers.items
    c.in-Length.content.now c.merge_run.result c.merge_run.ensures.computed)

pub returns-in-Length-clause-malformed : goal.returns-in-Length-clause-malformed
returns-in-Length-clause-malformed c e = rw c.in-Length.is (packed_rejected c.args.field.now.items
    c.merge_run.new.numbers.items c.in-Length.content.now c.merge_run.result c.merge_run.ensures.computed e)

pub returns-in_ok-push-in-Varint-clause-kept : goal.returns-in_ok-push-in-Varint-clause-kept
returns-in_ok-push-in-Varint-clause-kept c = pushed_elements Number c.args.field.now.items _ c.low_32.result
    c.in_ok-push-in-Varint.ensures.items

pub returns-in_err-push-in-Varint-clause-kept : goal.returns-in_err-push-in-Varint-clause-kept
returns-in_err-push-in-Varint-clause-kept c =
    let rested : c.push.new.self.items ≡ c.args.field.now.items = search rules in
    same_elements Number c.args.field.now.items _ rested

pub returns-in_default-clause-kept : goal.returns-in_default-clause-kept
returns-in_default-clause-kept c = same_elements Number c.args.field.now.items _ refl
