-- What writing bytes whole does.
use Rattle.std.specs.Prelude.{ℕ, List, take, Result, Ok, Err}
use Rattle.shared_core_io.specs.declared.output.WriteError.{WriteError}

-- The bytes that are written by a result: all, or as many as the error says.
abbrev pub written : {A : Type 0} → Result A WriteError → List ℕ → List ℕ
written (Ok done) bytes = bytes
written (Err error) bytes = take error.written bytes
