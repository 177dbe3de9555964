use Rattle.std.proofs.Common.{◌≡◌, ◌≤◌, ◌++◌, take, drop}
use Rattle.encoded_input.specs.Text.{decoded, position_after}
use Rattle.encoded_input.proofs.position.Position.decode.Given as goal

abbrev pub invariant-loop-index : goal.invariant-loop-index
invariant-loop-index l = record {
  few : l.given ≤ l.index;
  bytes : decoded l.fn.self l.fn.text ≡ take l.given l.text ++ decoded l.self (drop l.index l.text);
  position : position_after l.fn.self l.fn.text ≡ position_after l.self (drop l.index l.text);
}
