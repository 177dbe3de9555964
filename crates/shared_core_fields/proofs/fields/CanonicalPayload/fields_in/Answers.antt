use Rattle.std.proofs.Common.{◌∙◌, ap, sym}
use Rattle.shared_core_fields.proofs.fields.CanonicalPayload.fields_in.Goals as goal

pub new-requires-clause-rows : goal.new-requires-clause-rows
new-requires-clause-rows g c =
    c.rows_of-rows.ensures ∙ ap (λ t. t c.args.self.now.schema) (sym (g.met.T.PayloadTable.same
    c.args.self.now.schemas))
