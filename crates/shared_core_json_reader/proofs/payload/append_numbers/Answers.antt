use Rattle.std.proofs.Common.{arith}
use Rattle.shared_core_json_reader.specs.Rows.{in_schema}
use Rattle.shared_core_json_reader.proofs.Levels.{run_end, none_left}
use Rattle.shared_core_json_reader.proofs.FirstErrors.{run_error_end}
use Rattle.shared_core_json_reader.proofs.payload.append_numbers.Goals as goal

pub returns-clause-appended : goal.returns-clause-appended
returns-clause-appended g c =
    let object = c.args.object.now in
    run_end (in_schema (g.T.ReadableSchemas.format object.schemas.now) object.places.schema c.args.field.now)
    c.loop-index.items c.loop-index.walk.out.items _
    (none_left c.loop-index.items (omega arith)) c.loop-index.invariant.0

pub returns-clause-error : goal.returns-clause-error
returns-clause-error g c =
    let object = c.args.object.now in (
      run_error_end (in_schema (g.T.ReadableSchemas.format object.schemas.now) object.places.schema c.args.field.now)
          c.loop-index.items c.loop-index.index _ (none_left c.loop-index.items (omega arith))
          c.loop-index.invariant.1,
      c.loop-index.invariant.2,
    )
