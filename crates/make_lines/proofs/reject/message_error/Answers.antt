use Rattle.std.proofs.Common.{◌≡◌, ◌≢◌, ◌∙◌, Some, sym, codes, rules}
use Rattle.std.specs.String.{string_bytes}
use Rattle.shared_core_json_reader.specs.declared.error.Reason.{Reason}
use Rattle.make_lines.specs.Appending.{message_error}
use Rattle.make_lines.specs.Members.{given}
use Rattle.make_lines.proofs.ItemFaults.{same_error}
use Rattle.make_lines.proofs.reject.message_error.Goals as goal

pub returns-clause-fault : goal.returns-clause-fault
returns-clause-fault g c some =
    let error = c.in-Err.error in
    let format = g.T.ReadableSchemas.format c.args.of.schemas.now in
    let line = c.args.line.now in
    let other : c.args.reason ≢ Reason.OutOfMemory = search rules in
    let found : error.reason ≢ Reason.OutOfMemory = search rules in
    let message : given (codes "message") line ≡ Some c.in-Some.message = sym c.given.ensures ∙ c.in-Some.is in
    let is : message_error format c.args.of.schema line
    ≡ Some (error.reason, string_bytes error.path) =
    rw message (c.in-Err.ensures.error found).0 in
    same_error format c.args.of.schema line c.args.reason (c.requires other).0
    error.reason (string_bytes error.path) _
    (c.requires other).1 is (c.reject_inside.ensures.fault some)
