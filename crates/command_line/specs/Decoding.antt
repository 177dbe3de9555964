-- What an input has left that may be text.
use Rattle.std.specs.Prelude.{List, ℕ, Option}
use Rattle.encoded_input.specs.Known.{bytes_left, fault_left}
use Rattle.encoded_input.specs.declared.fault.Fault.{Fault}
use Rattle.command_line.specs.declared.decoding.Decoding.{Decoding}
use Rattle.command_line.specs.declared.progress.Watched.{Watched}

module _ {R : Type 0} (remaining : R → Option (List ℕ)) where
  -- What the reader in it has left.
  abbrev pub watched_left : Watched R → Option (List ℕ)
  watched_left watched = remaining watched.reader

  -- The bytes that reads will give, where that is known.
  abbrev pub left_to_read : Decoding R → Option (List ℕ)
  left_to_read input = bytes_left watched_left input.decoded

  -- What is wrong with the text.
  abbrev pub fault_to_read : Decoding R → Option (Option Fault)
  fault_to_read input = fault_left watched_left input.decoded
