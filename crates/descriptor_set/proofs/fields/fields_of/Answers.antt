use Rattle.std.proofs.Common.{◌≡◌}
use Rattle.descriptor_set.specs.FieldReading.{IsField}
use Rattle.descriptor_set.specs.Reading.{contents_left}
use Rattle.descriptor_set.specs.Values.{contents_in}
use Rattle.descriptor_set.proofs.Readings.{lists_all, lists_first, lists_next}
use Rattle.descriptor_set.proofs.fields.fields_of.Goals as goal

pub loop-content-init : goal.loop-content-init
loop-content-init c =
    let e : contents_left c.into_iter-content-iterator.result ≡ contents_in 2 c.args.bytes.now = cc in
    lists_first (IsField c.args.is_proto3) _ _ _ e c.new-fields.ensures.items

pub loop-content-preserved : goal.loop-content-preserved
loop-content-preserved c =
    lists_next (IsField c.args.is_proto3) _ _ _ _ _ _ _ c.in-Some.ensures.steps c.in_ok-push.ensures.items
    c.loop-content.invariant c.in_ok-field.ensures

pub returns : goal.returns
returns c = lists_all (IsField c.args.is_proto3) _ _ _ c.in-None.ensures.steps.0 c.loop-content.invariant
