use Rattle.std.proofs.Common.{◌≡◌, map, take}
use Rattle.std.specs.String.{string_bytes}
use Rattle.shared_core_parts.specs.Texts.{lossy_text}
use Rattle.shared_core_parts.proofs.texts.texts_of_keys.Given as goal

-- the texts of the keys so far
abbrev pub invariant-loop-key : goal.invariant-loop-key
invariant-loop-key l = map string_bytes l.texts.items ≡ map lossy_text (take l.key-index l.keys)
