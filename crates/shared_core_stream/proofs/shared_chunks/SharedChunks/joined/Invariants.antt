use Rattle.std.proofs.Common.{◌≡◌, ◌-◌, ◌++◌, length, take}
use Rattle.std.specs.List.{concat}
use Rattle.shared_core_stream.proofs.shared_chunks.SharedChunks.joined.Given as goal

abbrev pub invariant-loop-i : goal.invariant-loop-i
invariant-loop-i l =
    let copied = l.self-inside.front ++ concat (take l.i l.self-inside.after.items) in
    (l.bytes.items ≡ take l.count copied) × (l.wanted ≡ l.count - length copied)
