-- The text of an await that the journal cannot replay.
use Rattle.std.specs.Prelude.{ℕ, List, ◌++◌, Option, Some, None, codes}
use Rattle.std.specs.Fmt.{decimal}
use Rattle.std.specs.List.{flat_map}
use Rattle.std.specs.String.{string_bytes}
use Rattle.shared_core_base.specs.Error.{notification_metadata_text}
use Rattle.shared_core_base.specs.declared.error.NotificationMetadata.{NotificationMetadata}
use Rattle.shared_core_parts.specs.declared.notification_template.Id.{Id}
use Rattle.shared_core_parts.specs.declared.notification_template.Id.TheVariants.{CompletionId, SignalId, SignalName}

-- The text of an awaited id.
abbrev pub id_text : Id → List ℕ
id_text (CompletionId id) = codes "completion id " ++ decimal id
id_text (SignalId id) = codes "signal [" ++ (decimal id ++ codes "]")
id_text (SignalName name) = codes "Named signal: " ++ string_bytes name

-- The line of an awaited id: what is known of it, otherwise the id itself.
abbrev pub line_text : Id → Option NotificationMetadata → List ℕ
line_text id (Some known) = codes "\n - " ++ notification_metadata_text known
line_text id None = codes "\n - " ++ id_text id

-- The lines of awaited ids, by what is known of each.
abbrev pub lines_text : (Id → Option NotificationMetadata) → List Id → List ℕ
lines_text known = flat_map (λ id. line_text id (known id))

-- The beginning of the text of an await.
abbrev pub uncompleted_head : List ℕ
uncompleted_head = codes "Found a mismatch between the code paths taken during the previous execution and the paths taken during this execution.\n'await' could not be replayed. This usually means the code was mutated adding an 'await' without registering a new service revision.\nNotifications awaited on this await point:"

-- The text of an await, with one line per awaited id in turn.
abbrev pub uncompleted_text : (Id → Option NotificationMetadata) → List Id → List ℕ
uncompleted_text known ids = uncompleted_head ++ lines_text known ids
