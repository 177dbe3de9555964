use Rattle.std.proofs.Common.{◌≡◌, ℕ, ◌++◌, min, length, take, drop, refl, sym, ap, ◌∙◌, subst}
use Rattle.shared_core_codec.proofs.CanonicityExact.{complete}
use Rattle.shared_core_codec.specs.Payloads.{payload_meaning}
use Rattle.shared_core_fields.specs.Checked.{WritesTo}
use Rattle.shared_core_fields.specs.Rows.{table_rows}
use Rattle.shared_core_fields.proofs.Checked.{kept_first}
use Rattle.shared_core_fields.proofs.table.check.write_kept.Goals as goal

pub write_payload-requires-clause-canonical : goal.write_payload-requires-clause-canonical
write_payload-requires-clause-canonical c =
    complete c.args.schema c.args.payload.now (c.in_ok-count.ensures.canonical.0 refl)

pub returns-then-count-kept-clause-rows : goal.returns-then-count-kept-clause-rows
returns-then-count-kept-clause-rows c =
    let payload = c.args.payload.now in
    let rows = table_rows c.args.schema (payload_meaning c.args.schema payload) in
    let front = c.copy_from_slice.new.self in
    let is : front ≡ take (min c.in_ok-count.count (length c.args.out.now)) c.check_payload.new.out =
    c.copy_from_slice.ensures.after ∙ ap (λ (n : ℕ). take n c.check_payload.new.out) c.min-shown.ensures in
    subst (λ (n : ℕ). WritesTo payload rows 0 c.args.out.now (front ++ drop n c.args.out.now) c.in_ok-count.count)
    (sym c.min-shown.ensures)
    (kept_first payload rows _ c.check_payload.new.out c.args.out.now front c.in_ok-count.count
    c.in_ok-count.ensures.rows c.if-count-kept.true is)
