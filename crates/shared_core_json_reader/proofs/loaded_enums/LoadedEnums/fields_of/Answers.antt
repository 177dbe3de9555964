use Rattle.std.proofs.Common.{◌∙◌, ap, arith}
use Rattle.shared_core_json_reader.specs.LoadedEnums.{fields_view}
use Rattle.shared_core_json_reader.proofs.EnumLists.{at_index, past_end}
use Rattle.shared_core_json_reader.proofs.loaded_enums.LoadedEnums.fields_of.Goals as goal

pub returns-then-place-len : goal.returns-then-place-len
returns-then-place-len c =
    ap fields_view c.as_slice.ensures.value
    ∙ ap (λ fields. fields_view fields.items) c.index.ensures ∙ at_index (λ fields. fields_view fields.items)
    c.args.self.now.fields.items c.args.schema _ (omega (arith, c.if-place-len.true, c.len.ensures))

pub returns-else-place-len : goal.returns-else-place-len
returns-else-place-len c =
    past_end (λ fields. fields_view fields.items) c.args.self.now.fields.items c.args.schema
    (omega (arith, c.if-place-len.false, c.len.ensures))
