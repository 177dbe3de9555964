use Rattle.std.proofs.Common.{arith}
use Rattle.shared_core_codec.proofs.PayloadLaws.{canonical_is_read_back}
use Rattle.shared_core_codec.proofs.record.WireRecord.encode_payload_into_bytes.Goals as goal

pub returns-clause-reads_back : goal.returns-clause-reads_back
returns-clause-reads_back g c =
    canonical_is_read_back g.Self.WireRecord.schema (g.Self.WireRecord.parts c.args.self.now) c.encoded_len.ensures.fit
    (omega (arith, c.in-Some.ensures.len))
