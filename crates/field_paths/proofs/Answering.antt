-- The result for a stream, by that for the item that is wanted.
use Rattle.std.proofs.Common.{ℕ, List, Option, Some, None, Result, Ok, Err}
use Rattle.shared_core_stream.specs.declared.encoding.item.Item.{Item}
use Rattle.stream_lines.specs.declared.error.PrintError.{PrintError}
use Rattle.stream_lines.specs.declared.error.PrintError.TheVariants.{Input, Output, OutOfMemory, TooLong}
use Rattle.stream_lines.specs.declared.error.PrintError.TheVariants.{MessageTooLong}
use Rattle.show_lines.specs.Contents.{item_held, Holding, OpaqueBytes, Malformed as MalformedBytes, Means}
use Rattle.field_paths.specs.Getting.{IsAnswer, IsFoundAnswer, IsGot, IsGotOf, IsWanted}
use Rattle.field_paths.specs.Paths.{found_at, Found, FoundField, Lacking as FoundLacking, NoMessage as FoundNoMessage}
use Rattle.field_paths.specs.declared.getting.Answer.{Answer}
use Rattle.field_paths.specs.declared.getting.Answer.TheVariants.{Written, NoItem, Opaque, Malformed, Lacking}
use Rattle.field_paths.specs.declared.getting.Answer.TheVariants.{NoMessage}
use Rattle.field_paths.specs.declared.getting.Request.{Request}

no_found : (found : Found) (written : List ℕ) → IsFoundAnswer found NoItem written → ⊥
no_found (FoundField field) written is = is
no_found (FoundLacking s rest) written is = is
no_found (FoundNoMessage rest) written is = is

no_item : (held : Option Holding) (path written : List ℕ) → IsAnswer held path NoItem written → ⊥
no_item (Some (Means s value)) path written is = no_found (found_at 101 s value path) written is
no_item (Some (MalformedBytes bytes)) path written is = is.0
no_item (Some (OpaqueBytes bytes)) path written is = is.0
no_item None path written is = is.0

pub got : (request : Request) (item : Item) (read : List ℕ) (left : Option (List ℕ)) (written : List ℕ)
    → IsWanted request read left item → (result : Result Answer PrintError)
    → IsGotOf request.options.version item request.path.now result written → IsGot request result read written left
got request item read left written wanted (Ok NoItem) is =
    absurd (no_item (item_held request.options.version item) request.path.now written is)
got request item read left written wanted (Ok Written) is = (item, wanted, is)
got request item read left written wanted (Ok Opaque) is = (item, wanted, is)
got request item read left written wanted (Ok Malformed) is = (item, wanted, is)
got request item read left written wanted (Ok (Lacking schema rest)) is = (item, wanted, is)
got request item read left written wanted (Ok (NoMessage rest)) is = (item, wanted, is)
got request item read left written wanted (Err Output) is = (item, wanted, is)
got request item read left written wanted (Err TooLong) is = (item, wanted, is.0, is.1)
got request item read left written wanted (Err OutOfMemory) is = is
got request item read left written wanted (Err Input) is = absurd is
got request item read left written wanted (Err (MessageTooLong error)) is = absurd is
