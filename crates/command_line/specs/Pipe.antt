-- An output that its reader may close.
use Rattle.std.specs.Prelude.{ℕ, Bool, true, false, Result, Ok, Err}
use Rattle.std_io.specs.IoError.{error_kind}
use Rattle.std_io.specs.declared.io.error.Error.{Error}
use Rattle.std_io.specs.declared.io.kind.ErrorKind.{ErrorKind}
use Rattle.std_io.specs.declared.io.kind.ErrorKind.TheVariants.{BrokenPipe}

-- Whether the kind of an error is that of a reader that is gone.
abbrev pub is_broken_pipe : ErrorKind → Bool
is_broken_pipe BrokenPipe = true
is_broken_pipe kind = false

-- Whether the reader was found gone, by the last write that failed: as before, after a write that did not.
abbrev pub finds_broken : Bool → Result ℕ Error → Bool
finds_broken before (Ok count) = before
finds_broken before (Err error) = is_broken_pipe (error_kind error)
