use Rattle.std.proofs.Common.{◌∙◌, ap, arith, map}
use Rattle.shared_core_json.specs.LoadedNames.{digits_view, names_view}
use Rattle.shared_core_json.proofs.NamesAt.{at_index, past_end}
use Rattle.shared_core_json_reader.proofs.loaded_table.ReadableTable.names_of.Goals as goal

pub returns-then-place-len-clause-names : goal.returns-then-place-len-clause-names
returns-then-place-len-clause-names g c =
    ap names_view c.as_slice.ensures.value
    ∙ ap (λ names. names_view names.items) c.index.ensures ∙ at_index (λ names. names_view names.items)
    c.args.self.now.names.items c.args.schema _ (omega (arith, c.if-place-len.true, c.len.ensures))

pub returns-then-place-len-clause-digits : goal.returns-then-place-len-clause-digits
returns-then-place-len-clause-digits g c =
    ap (map digits_view) c.as_slice.ensures.value
    ∙ ap (λ names. map digits_view names.items) c.index.ensures ∙ at_index (λ names. map digits_view names.items)
    c.args.self.now.names.items c.args.schema _ (omega (arith, c.if-place-len.true, c.len.ensures))

pub returns-else-place-len-clause-names : goal.returns-else-place-len-clause-names
returns-else-place-len-clause-names g c =
    past_end (λ names. names_view names.items) c.args.self.now.names.items c.args.schema
    (omega (arith, c.if-place-len.false, c.len.ensures))

pub returns-else-place-len-clause-digits : goal.returns-else-place-len-clause-digits
returns-else-place-len-clause-digits g c =
    past_end (λ names. map digits_view names.items) c.args.self.now.names.items c.args.schema
    (omega (arith, c.if-place-len.false, c.len.ensures))
