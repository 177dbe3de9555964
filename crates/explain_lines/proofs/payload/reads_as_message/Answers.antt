use Rattle.std.proofs.Common.{◌≡◌, ◌+◌, ◌-◌, ℕ, length, sym, ◌∙◌, arith, ap, Bool, List, not, ◌&&◌}
use Rattle.std.proofs.lemmas.Bool.{ne_eqb}
use Rattle.shared_core_wire.specs.Acceptance.{accepts_message}
use Rattle.shared_core_codec.specs.Table.{table}
use Rattle.shared_core_codec.proofs.Checked.{message_below_in, message_zero_in}
use Rattle.explain_lines.specs.Explanation.{raw, reads_as_message}
use Rattle.explain_lines.proofs.payload.reads_as_message.Goals as goal

-- What some bytes are read as is decided by what is accepted.
reads_some : (left : ℕ) (bytes : List ℕ) → (length bytes ≡ 0 → ⊥) → accepts_message table left raw bytes
    ≡ reads_as_message left bytes
reads_some left bytes h = ap (λ (b : Bool). not b && accepts_message table left raw bytes)
    (sym (ne_eqb (length bytes) 0 h))

pub returns-then-left-eq0 : goal.returns-then-left-eq0
returns-then-left-eq0 c =
    sym (message_zero_in table raw c.args.bytes.now)
    ∙ (ap (λ (n : ℕ). accepts_message table n raw c.args.bytes.now) (sym c.if-left-eq0.true)
    ∙ reads_some c.args.left c.args.bytes.now c.if-bytes-eq0.false)

pub returns : goal.returns
returns c =
    let below : (c.args.left - 1) + 1 ≡ c.args.left = omega (arith, c.if-left-eq0.false) in
    c.is_message.ensures
    ∙ (sym (message_below_in table (c.args.left - 1) c.args.left raw c.args.bytes.now below)
    ∙ reads_some c.args.left c.args.bytes.now c.if-bytes-eq0.false)
