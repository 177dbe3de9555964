use Rattle.std.proofs.Common.{◌∙◌, ap, arith}
use Rattle.shared_core_json_reader.specs.LoadedEnums.{values_view}
use Rattle.shared_core_json_reader.proofs.EnumLists.{at_index, past_end}
use Rattle.shared_core_json_reader.proofs.loaded_enums.LoadedEnums.values_at.Goals as goal

pub returns-then-index-len : goal.returns-then-index-len
returns-then-index-len c =
    ap values_view c.as_slice.ensures.value
    ∙ ap (λ values. values_view values.items) c.index.ensures ∙ at_index (λ values. values_view values.items)
    c.args.self.now.values.items c.args.index _ (omega (arith, c.if-index-len.true, c.len.ensures))

pub returns-else-index-len : goal.returns-else-index-len
returns-else-index-len c =
    past_end (λ values. values_view values.items) c.args.self.now.values.items c.args.index
    (omega (arith, c.if-index-len.false, c.len.ensures))
