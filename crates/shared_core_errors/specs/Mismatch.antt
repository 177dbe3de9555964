-- The texts of mismatches between a journal and the code.
use Rattle.std.specs.Prelude.{ℕ, ℤ, ◌++◌, List, codes}
use Rattle.std.specs.Fmt.{signed_decimal}
use Rattle.shared_core_base.specs.declared.header.MessageType.{MessageType}
use Rattle.shared_core_base.specs.CommandType.{message_type_text}

-- The beginning of each text on a mismatch of commands.
abbrev pub mismatch_head : List ℕ
mismatch_head = codes "Found a mismatch between the code paths taken during the previous execution and the paths taken during this execution.\nThis typically happens when some parts of the code are non-deterministic.\n"

-- The text of a mismatch of types at a command index.
abbrev pub command_type_mismatch_text : ℤ → MessageType → MessageType → List ℕ
command_type_mismatch_text index actual expected =
    mismatch_head
    ++ (codes " - The previous execution ran and recorded the following: '" ++ (message_type_text actual
    ++ (codes "' (index '" ++ (signed_decimal index
    ++ (codes "')\n - The current execution attempts to perform the following: '" ++
    (message_type_text expected ++ codes "'"))))))
