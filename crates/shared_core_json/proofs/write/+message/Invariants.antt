use Rattle.std.proofs.Common.{◌≡◌, ◌+◌, ◌*◌, ◌++◌}
use Rattle.shared_core_wire.specs.Overlay.{meaning}
use Rattle.shared_core_fields.specs.Fields.{message_fields}
use Rattle.shared_core_fields.specs.Views.{EachIsOf, fields_left, given_left}
use Rattle.shared_core_json.specs.Written.{fields_tokens}
use Rattle.shared_core_json.proofs.Members.{AllLow}
use Rattle.shared_core_json.proofs.write.+message.Given as goal

abbrev pub decreases-write_value : goal.decreases-write_value
decreases-write_value g l = 2 * l.left

abbrev pub decreases-write_within : goal.decreases-write_within
decreases-write_within g l = 2 * l.left + 1

abbrev pub invariant-write_within-loop-field : goal.invariant-write_within-loop-field
invariant-write_within-loop-field g l = record {
  tokens : l.out.tokens ++ fields_tokens (g.T.Tabled.table_of l.schemas) (g.T.NamedSchemas.names l.schemas)
      l.texts (g.T.NamedSchemas.names l.schemas l.schema) l.open_list (fields_left l.field-iterator)
      ≡ l.initial.out.tokens ++ fields_tokens (g.T.Tabled.table_of l.schemas)
      (g.T.NamedSchemas.names l.schemas) l.texts (g.T.NamedSchemas.names l.schemas l.schema) 0
      (message_fields (g.T.Tabled.table_of l.schemas l.schema)
      (meaning (g.T.Tabled.table_of l.schemas) 100 l.schema l.bytes));
  low : AllLow l.left (fields_left l.field-iterator);
  same : EachIsOf l.schemas (given_left l.field-iterator);
  before : l.out.before ≡ l.fn.out.before;
}
