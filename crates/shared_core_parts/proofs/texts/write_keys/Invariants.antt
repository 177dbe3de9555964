use Rattle.std.proofs.Common.{◌++◌, take}
use Rattle.std.specs.Fmt.{HasWritten, IsPlainFormatter, comma_space}
use Rattle.std.specs.List.{flat_map}
use Rattle.shared_core_parts.specs.Texts.{state_key_text}
use Rattle.shared_core_parts.proofs.texts.write_keys.Given as goal

-- the keys so far are written, each after `, `
abbrev pub invariant-loop-key : goal.invariant-loop-key
invariant-loop-key g l =
    IsPlainFormatter l.initial.f → HasWritten g.W.Write.write_str_gives l.initial.f
    (flat_map (λ key. comma_space ++ state_key_text key) (take l.key-index l.rest)) l.f
