use Rattle.std.proofs.Common.{ap, ◌∙◌}
use Rattle.shared_core_wire.specs.Acceptance.{accepts_records, some_passes}
use Rattle.shared_core_wire.proofs.Merging.{accepted_payload_records}
use Rattle.shared_core_wire.proofs.RecordLists.{records_again, records_reads}
use Rattle.shared_core_wire.proofs.laws.accepted_payloads_are_record_lists.Goals as goal

pub returns : goal.returns
returns c table left s bytes = (
  λ h. let x = accepted_payload_records table left s bytes h in (x.0, records_reads left bytes x.0 x.1, x.2),
  λ h. ap (some_passes (accepts_records table left s)) (records_again left bytes h.0 h.1) ∙ h.2,
)
