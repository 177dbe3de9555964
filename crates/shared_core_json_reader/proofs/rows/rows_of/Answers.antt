use Rattle.shared_core_json_reader.proofs.Levels.{with_names}
use Rattle.shared_core_json_reader.proofs.rows.rows_of.Goals as goal

pub returns-clause-named : goal.returns-clause-named
returns-clause-named g c =
    with_names (g.T.ReadableSchemas.format c.args.schemas.now) c.args.schema _ c.rows_of.ensures
