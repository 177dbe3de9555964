use Rattle.std.proofs.Common.{◌≡◌, ◌++◌}
use Rattle.std.specs.Prelude.{string_bytes, flat_map}
use Rattle.terminal_text.specs.Texts.{written_char}
use Rattle.terminal_text.proofs.texts.push_escaped.Given as goal

abbrev pub invariant-loop-c : goal.invariant-loop-c
invariant-loop-c l = string_bytes l.escaped ≡ string_bytes l.fn.escaped ++ flat_map (written_char l.fn.escapes)
    l.yielded
