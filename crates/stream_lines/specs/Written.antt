-- What is written of bytes that are to be written whole.
use Rattle.std.specs.Prelude.{◌≡◌, ℕ, List, ◌++◌, Result, Ok, Err}

-- All of the bytes are written, or a prefix of them if the output failed.
abbrev pub IsWritten : {T E : Type 0} → Result T E → List ℕ → List ℕ → Type 0
IsWritten (Ok done) written bytes = written ≡ bytes
IsWritten (Err failed) written bytes = (rest : List ℕ) × (bytes ≡ written ++ rest)
