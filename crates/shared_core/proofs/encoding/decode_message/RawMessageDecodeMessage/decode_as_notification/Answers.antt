use Rattle.std.proofs.Common.{rules}
use Rattle.shared_core_parts.specs.contracts.notification_template.IdOneOf.TheImpl as ids
use Rattle.shared_core_parts.specs.contracts.notification_template.IdOneOf.TheImpl.Laws.{present-law as id_present}
use Rattle.shared_core_parts.specs.contracts.notification_template.ResultOneOf.TheImpl as results
use Rattle.shared_core_parts.specs.contracts.notification_template.ResultOneOf.TheImpl.Laws.{present-law as result_present}
use Rattle.shared_core_codec.specs.FieldParts.{option_part}
use Rattle.shared_core_codec.specs.Table.{notification_template}
use Rattle.shared_core_wire.specs.Value.{Absent}
use Rattle.shared_core.specs.TemplateParts.{template_parts}
use Rattle.shared_core.specs.Typed.{MeansParts}
use Rattle.shared_core.specs.View.{notification_parts}
use Rattle.shared_core.proofs.Views.{lacks_id, lacks_nothing, lacks_result, view_accepts, view_agrees}
use Rattle.shared_core.proofs.encoding.decode_message.RawMessageDecodeMessage.decode_as_notification.Goals as goal

pub returns-in_err-template-clause-accepts : goal.returns-in_err-template-clause-accepts
returns-in_err-template-clause-accepts c s is accepted = view_accepts _ s _ c.requires.first is accepted

pub returns-in_default-clause-lacking : goal.returns-in_default-clause-lacking
returns-in_default-clause-lacking c accepted =
    let means : MeansParts notification_template c.args.self.now.payload
    (template_parts Absent (option_part results.part-value.it c.in_ok-template.template.result)) = search rules in
    lacks_id c.args.self.now _ _ means c.missing.ensures

pub returns-in_default-result-clause-lacking : goal.returns-in_default-result-clause-lacking
returns-in_default-result-clause-lacking c accepted =
    let means : MeansParts notification_template c.args.self.now.payload
    (template_parts (ids.part-value.it c.in-Some.id) Absent) = search rules in
    lacks_result c.args.self.now _ _ means (id_present c.in-Some.id) c.missing-in_default-result.ensures

pub returns-clause-agrees : goal.returns-clause-agrees
returns-clause-agrees c s is accepted =
    let means : MeansParts notification_template c.args.self.now.payload
    (notification_parts (record { id = c.in-Some.id; result = c.in-Some-result.result })) = search rules in
    view_agrees _ s _ _ means c.requires.first is accepted

pub returns-clause-lacking : goal.returns-clause-lacking
returns-clause-lacking c accepted =
    let means : MeansParts notification_template c.args.self.now.payload
    (notification_parts (record { id = c.in-Some.id; result = c.in-Some-result.result })) = search rules in
    lacks_nothing c.args.self.now _ _ _ means (id_present c.in-Some.id) (result_present c.in-Some-result.result)
