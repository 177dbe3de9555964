use Rattle.std.proofs.Common.{◌≡◌, Some, rules}
use Rattle.shared_core_message.specs.Schemas.{schema_at}
use Rattle.shared_core_renumber.specs.Payloads.{IsRenumberable}
use Rattle.stream_renumbering.proofs.Payloads.{as_it_is, copied}
use Rattle.stream_renumbering.proofs.stream.Writer.payload_of.Goals as goal

pub returns-in-Err-Malformed : goal.returns-in-Err-Malformed
returns-in-Err-Malformed c =
    let es = c.args.self.now.entries.now in
    let version = c.args.self.now.version in
    let m = c.args.message.now in
    let found : schema_at version m.header.ty ≡ Some c.in-Some.schema = search rules in
    let not : ¬ (IsRenumberable es c.in-Some.schema m.payload) = search rules in
    copied es version m c.copy_of-in-Err-Malformed.result (search rules) (search rules)
    (as_it_is es (schema_at version m.header.ty) c.in-Some.schema m.payload found not)
