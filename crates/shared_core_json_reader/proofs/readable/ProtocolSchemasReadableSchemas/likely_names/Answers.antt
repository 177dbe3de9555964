use Rattle.std.proofs.Common.{sym, subst}
use Rattle.shared_core_json_reader.specs.Rows.{protocol}
use Rattle.shared_core_json_reader.specs.Places.{AreLikely}
use Rattle.shared_core_json_reader.specs.Readable.{protocol_is_readable}
use Rattle.shared_core_json_reader.proofs.NamesApart.{named_at}
use Rattle.shared_core_json_reader.proofs.readable.ProtocolSchemasReadableSchemas.likely_names.Goals as goal

pub returns : goal.returns
returns c =
    subst (AreLikely protocol c.args.schema) (sym c.names_of.ensures)
    (λ i h. named_at protocol protocol_is_readable c.args.schema i h)
