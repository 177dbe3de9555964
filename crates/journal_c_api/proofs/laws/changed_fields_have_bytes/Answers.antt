use Rattle.journal_c_api.proofs.NamedFields.{field_has_bytes}
use Rattle.journal_c_api.proofs.laws.changed_fields_have_bytes.Goals as goal

pub returns : goal.returns
returns c = field_has_bytes
