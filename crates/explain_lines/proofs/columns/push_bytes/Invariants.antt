use Rattle.std.proofs.Common.{◌≡◌, ◌++◌, drop}
use Rattle.explain_lines.specs.Lines.{spaced_bytes}
use Rattle.explain_lines.proofs.columns.push_bytes.Given as goal

abbrev pub invariant-loop-byte : goal.invariant-loop-byte
invariant-loop-byte l = l.text.items ++ spaced_bytes (drop l.byte-index l.bytes)
    ≡ l.initial.text.items ++ spaced_bytes l.bytes
