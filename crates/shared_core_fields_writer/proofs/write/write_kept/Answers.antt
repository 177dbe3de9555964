use Rattle.std.proofs.Common.{◌≡◌, ◌<◌, ℕ, List, length, get_or, arith}
use Rattle.std.proofs.lemmas.List.{length-take-le}
use Rattle.shared_core_fields_writer.proofs.Bytes.{payload_bytes}
use Rattle.shared_core_fields_writer.proofs.Canonical.{payload_is_canonical}
use Rattle.shared_core_fields_writer.proofs.GivenRows.{means_given}
use Rattle.shared_core_fields_writer.proofs.Whole.{front_written, front_kept}
use Rattle.shared_core_fields_writer.proofs.write.write_kept.Goals as goal

pub returns-then-length-out-clause-payload : goal.returns-then-length-out-clause-payload
returns-then-length-out-clause-payload c =
    let payload : List ℕ = c.put.new.out in
    let gives = c.put.ensures in
    let same : c.in_ok-length.length ≡ length payload = omega
    (arith, length-take-le c.in_ok-length.length c.args.out.now c.if-length-out.true) in
    let are : (i d : ℕ) → i < length payload → get_or payload i d < 256 = payload_bytes c.args.schema
    c.args.entries.now c.args.bytes.now payload gives (λ i. omega (arith, c.type_inv.bytes i)) in (
      payload,
      record {
        gives = gives;
        canonical =
            payload_is_canonical c.args.schema c.args.entries.now c.args.bytes.now payload gives are;
        meaning = means_given c.args.schema c.args.entries.now c.args.bytes.now payload gives are;
        has = same;
        written = front_written payload c.args.out.now c.in_ok-length.length same c.if-length-out.true;
      },
    )

pub returns-else-length-out-clause-payload : goal.returns-else-length-out-clause-payload
returns-else-length-out-clause-payload c =
    let w = c.in_ok-length.ensures.payload in
    let are : (i d : ℕ) → i < length w.0 → get_or w.0 i d < 256 = payload_bytes c.args.schema c.args.entries.now
    c.args.bytes.now w.0 w.1.gives (λ i. omega (arith, c.type_inv.bytes i)) in (
      w.0,
      record {
        gives = w.1.gives;
        canonical =
            payload_is_canonical c.args.schema c.args.entries.now c.args.bytes.now w.0 w.1.gives are;
        meaning = means_given c.args.schema c.args.entries.now c.args.bytes.now w.0 w.1.gives are;
        has = w.1.has;
        written = front_kept w.0 c.args.out.now (omega (arith, w.1.has, c.if-length-out.false));
      },
    )
