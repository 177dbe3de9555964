-- What is said, and with which status a program ends, if its arguments cannot be read.
use Rattle.std.specs.Prelude.{ℕ, List, codes}
use Rattle.command_line.specs.declared.arguments.ArgumentsError.{ArgumentsError}
use Rattle.command_line.specs.declared.arguments.ArgumentsError.TheVariants.{NotText, OutOfMemory}

-- The text of the error.
abbrev pub arguments_text : ArgumentsError → List ℕ
arguments_text NotText = codes "an argument is not UTF-8"
arguments_text OutOfMemory = codes "out of memory"

-- The status: that of invalid arguments, or the program's own status of a failed allocation.
abbrev pub arguments_status : ArgumentsError → ℕ → ℕ
arguments_status NotText failure = 2
arguments_status OutOfMemory failure = failure
