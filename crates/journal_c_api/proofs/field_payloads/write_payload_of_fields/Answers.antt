use Rattle.std.proofs.Common.{◌≡◌, ◌∙◌, ℕ, List, [], ◌++◌, Bool, true, false, cond, nat_le, length, drop, refl, sym}
use Rattle.std.proofs.Common.{arith}
use Rattle.journal_c_api.specs.FieldPayloads.{Payload, Rejected}
use Rattle.journal_c_api.proofs.field_payloads.write_payload_of_fields.Goals as goal

-- nothing is written over a slice, whether or not there is room for it
nothing : (b : Bool) (old : List ℕ) → old ≡ cond b ([] ++ drop 0 old) old
nothing true old = refl
nothing false old = refl

pub returns-in-Ok : goal.returns-in-Ok
returns-in-Ok c =
    let w = c.in-Ok.ensures.payload in (
      sym c.if-not-is_schema.ensures,
      omega arith,
      Payload w.0,
      (w.1.gives, w.1.canonical),
      w.1.has,
      c.write_over.ensures,
      w.1.written,
    )

pub returns-in_ok-kind-in-Err : goal.returns-in_ok-kind-in-Err
returns-in_ok-kind-in-Err c =
    let e = c.in-Err.ensures in
    let k = c.in_ok-kind-in-Err.ensures in (
      sym c.if-not-is_schema.ensures,
      omega arith,
      Rejected c.in_ok-kind-in-Err.kind c.in-Err.error.index,
      (c.in-Err.error.reason, e.error, e.index, k),
      refl,
      c.write_over-in-Err.ensures,
      e.unchanged ∙ nothing (nat_le 0 (length c.args.out.now)) c.args.out.now,
    )
