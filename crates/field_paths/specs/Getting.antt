-- What is written of a field of an item of a stream.
use Rattle.std.specs.Prelude.{◌≡◌, ℕ, List, [], Result, Ok, Err, Option, Some, None}
use Rattle.shared_core_base.specs.declared.version.Version.{Version}
use Rattle.shared_core_stream.specs.declared.encoding.item.Item.{Item}
use Rattle.stream_lines.specs.declared.error.PrintError.{PrintError}
use Rattle.stream_lines.specs.declared.error.PrintError.TheVariants.{Input, Output, OutOfMemory, TooLong}
use Rattle.stream_lines.specs.declared.error.PrintError.TheVariants.{MessageTooLong}
use Rattle.stream_lines.specs.Printing.{Begins}
use Rattle.stream_visits.specs.Visits.{IsItemAt}
use Rattle.show_lines.specs.Contents.{item_held, Holding, OpaqueBytes, Malformed as MalformedBytes, Means}
use Rattle.show_lines.specs.Showing.{IsLong}
use Rattle.field_paths.specs.Paths.{found_at, Found, FoundField, Lacking as FoundLacking, NoMessage as FoundNoMessage}
use Rattle.field_paths.specs.Values.{AreBytes}
use Rattle.field_paths.specs.declared.getting.Answer.{Answer}
use Rattle.field_paths.specs.declared.getting.Answer.TheVariants.{Written, NoItem, Opaque, Malformed, Lacking}
use Rattle.field_paths.specs.declared.getting.Answer.TheVariants.{NoMessage}
use Rattle.field_paths.specs.declared.getting.Request.{Request}

-- The answer about what a path leads to, and what is written: the bytes of a field, or nothing.
abbrev pub IsFoundAnswer : Found → Answer → List ℕ → Type 0
IsFoundAnswer (FoundField field) Written written = AreBytes field written
IsFoundAnswer (FoundLacking s rest) (Lacking schema left) written =
    (schema ≡ s) × (left.now ≡ rest) × (written ≡ [])
IsFoundAnswer (FoundNoMessage rest) (NoMessage left) written = (left.now ≡ rest) × (written ≡ [])
IsFoundAnswer found answer written = ⊥

-- The output failed, and a prefix of the bytes of a field is written.
abbrev pub IsCutOff : Found → List ℕ → Type 0
IsCutOff (FoundField field) written = (bytes : List ℕ) × AreBytes field bytes × Begins written bytes
IsCutOff found written = ⊥

-- The result for what a path leads to, and what is written.
abbrev pub IsGotFrom : Found → Result Answer PrintError → List ℕ → Type 0
IsGotFrom found (Ok answer) written = IsFoundAnswer found answer written
IsGotFrom found (Err Output) written = IsCutOff found written
IsGotFrom found (Err OutOfMemory) written = written ≡ []
IsGotFrom found (Err error) written = ⊥

-- The answer is that an item has no fields.
abbrev pub IsOpaque : Answer → Type 0
IsOpaque Opaque = Unit {0}
IsOpaque answer = ⊥

-- The answer is that the payload of an item is malformed.
abbrev pub IsMalformed : Answer → Type 0
IsMalformed Malformed = Unit {0}
IsMalformed answer = ⊥

-- The answer about what an item holds, and what is written.
abbrev pub IsAnswer : Option Holding → List ℕ → Answer → List ℕ → Type 0
IsAnswer (Some (Means s value)) path answer written = IsFoundAnswer (found_at 101 s value path) answer written
IsAnswer (Some (MalformedBytes bytes)) path answer written = IsMalformed answer × (written ≡ [])
IsAnswer (Some (OpaqueBytes bytes)) path answer written = IsOpaque answer × (written ≡ [])
IsAnswer None path answer written = IsOpaque answer × (written ≡ [])

-- The output failed, and a prefix of the bytes of a field of what an item holds is written.
abbrev pub IsCut : Option Holding → List ℕ → List ℕ → Type 0
IsCut (Some (Means s value)) path written = IsCutOff (found_at 101 s value path) written
IsCut held path written = ⊥

-- The result for an item, and what is written.
abbrev pub IsGotOf : Version → Item → List ℕ → Result Answer PrintError → List ℕ → Type 0
IsGotOf version item path (Ok answer) written = IsAnswer (item_held version item) path answer written
IsGotOf version item path (Err Output) written = IsCut (item_held version item) path written
IsGotOf version item path (Err TooLong) written = IsLong version item × (written ≡ [])
IsGotOf version item path (Err OutOfMemory) written = written ≡ []
IsGotOf version item path (Err error) written = ⊥

-- The item that is wanted is this one.
abbrev pub IsWanted : Request → List ℕ → Option (List ℕ) → Item → Type 0
IsWanted request read left item =
    IsItemAt request.options.version request.options.limit request.index (Ok (Some item)) read left

-- The result for a stream that was read, and what is written.
abbrev pub IsGot : Request → Result Answer PrintError → List ℕ → List ℕ → Option (List ℕ) → Type 0
IsGot request (Ok NoItem) read written left =
    IsItemAt request.options.version request.options.limit request.index (Ok None) read left × (written ≡ [])
IsGot request (Ok answer) read written left = (item : Item) × IsWanted request read left item
    × IsAnswer (item_held request.options.version item) request.path.now answer written
IsGot request (Err Output) read written left = (item : Item) × IsWanted request read left item
    × IsCut (item_held request.options.version item) request.path.now written
IsGot request (Err TooLong) read written left =
    (item : Item) × IsWanted request read left item × IsLong request.options.version item × (written ≡ [])
IsGot request (Err (MessageTooLong error)) read written left =
    IsItemAt request.options.version request.options.limit request.index (Err (MessageTooLong error)) read left
    × (written ≡ [])
IsGot request (Err Input) read written left = written ≡ []
IsGot request (Err OutOfMemory) read written left = written ≡ []
