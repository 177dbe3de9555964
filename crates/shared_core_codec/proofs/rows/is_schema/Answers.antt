use Rattle.std.proofs.Common.{ap, ltb}
use Rattle.shared_core_codec.specs.ProgramRows.{rows_view}
use Rattle.shared_core_codec.proofs.Checked.{schema_count_is}
use Rattle.shared_core_codec.proofs.rows.is_schema.Goals as goal

pub returns : goal.returns
returns c = ap (ltb c.args.schema) (schema_count_is rows_view c.schemas.result.now c.schemas.ensures)
