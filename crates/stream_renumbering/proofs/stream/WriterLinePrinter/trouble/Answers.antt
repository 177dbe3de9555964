use Rattle.std.proofs.Common.{◌≡◌, Some, sym, ap, ◌∙◌, rules}
use Rattle.shared_core_message.specs.Schemas.{schema_at}
use Rattle.shared_core_renumber.specs.Payloads.{IsRenumberable}
use Rattle.stream_renumbering.specs.Streams.{item_trouble}
use Rattle.stream_renumbering.proofs.Payloads.{no_trouble, trouble}
use Rattle.stream_renumbering.proofs.stream.WriterLinePrinter.trouble.Goals as goal

pub returns-then-is_renumberable : goal.returns-then-is_renumberable
returns-then-is_renumberable c =
    let es = c.args.self.now.entries.now in
    let version = c.args.self.now.version in
    let m = c.in-Message.message in
    let found : schema_at version m.header.ty ≡ Some c.in_ok-schema.schema = search rules in
    let is : IsRenumberable es c.in_ok-schema.schema m.payload = search rules in
    record {
      trouble = sym (ap (item_trouble es version) c.in-Message.is ∙ no_trouble es (schema_at version m.header.ty)
          c.in_ok-schema.schema m found is);
    }

pub returns : goal.returns
returns c =
    let es = c.args.self.now.entries.now in
    let version = c.args.self.now.version in
    let m = c.in-Message.message in
    let found : schema_at version m.header.ty ≡ Some c.in_ok-schema.schema = search rules in
    let not : ¬ (IsRenumberable es c.in_ok-schema.schema m.payload) = search rules in
    record {
      trouble =
          search rules ∙ sym (ap (item_trouble es version) c.in-Message.is ∙ trouble es
          (schema_at version m.header.ty) c.in_ok-schema.schema m found not);
    }
