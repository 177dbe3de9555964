-- What is known of a stream that is opened.
use Rattle.std.specs.Prelude.{◌≡◌, ℕ, List, Option, None, IsSome, option_map, vec_items}
use Rattle.std.specs.Io.Cursor.{cursor_inner}
use Rattle.either.specs.Either.{right}
use Rattle.encoded_input.specs.declared.encoding.Encoding.{Encoding}
use Rattle.journal.specs.declared.diff.inputs.Inputs.{Inputs}
use Rattle.journal.specs.declared.file.FileOptions.{FileOptions}
use Rattle.journal.specs.declared.opened.Opened.{Opened}

-- The bytes of a stream that was made; none of one that is read from a file or the standard input.
abbrev pub made_bytes : Opened → Option (List ℕ)
made_bytes opened = option_map (λ stream. vec_items (cursor_inner stream)) (right opened.source)

-- It is read as this encoding says, up to payloads of this length, and its payloads never had other numbers.
abbrev pub IsReadBy : Option Encoding → ℕ → Opened → Type 0
IsReadBy encoding limit opened = (opened.encoding ≡ encoding) × (opened.limit ≡ limit) × (opened.end ≡ None)

-- It is read from a file or the standard input, as these options say.
abbrev pub IsOpenedBy : FileOptions → Opened → Type 0
IsOpenedBy options opened = (made_bytes opened ≡ None) × IsReadBy options.encoding options.limit opened

-- It was made of a dump, and is read up to the length that these options say.
abbrev pub IsMadeBy : FileOptions → Opened → Type 0
IsMadeBy options opened = IsSome (made_bytes opened) × IsReadBy None options.limit opened

-- It was made of a stream at other numbers, within whose limit all payloads were, and it is known where the trailing
-- bytes of that begin.
abbrev pub IsRenumbered : Opened → Type 0
IsRenumbered opened =
    IsSome (made_bytes opened) × (opened.encoding ≡ None) × (opened.limit ≡ 4294967295) × IsSome opened.end

-- This is so of both journals.
abbrev pub IsSoOfBoth : (Opened → Type 0) → Inputs → Type 0
IsSoOfBoth P inputs = P inputs.recorded × P inputs.replayed
