-- The texts of the errors that have fields.
use Rattle.std.specs.Prelude.{ℕ, List, ◌++◌, Option, Some, codes}
use Rattle.std.specs.Fmt.{decimal, debug_str, ◌++?◌}
use Rattle.shared_core_base.specs.CommandType.{message_type_text}
use Rattle.shared_core_base.specs.Version.{content_type_of}
use Rattle.shared_core_base.specs.declared.header.MessageType.{MessageType}
use Rattle.shared_core_base.specs.declared.version.Version.{Version}

-- The text of a journal that ended before an entry of this type.
abbrev pub unavailable_entry_text : MessageType → List ℕ
unavailable_entry_text expected =
    codes "The execution replay ended unexpectedly. Expecting to read '"
    ++ (message_type_text expected ++ codes
    "' from the recorded journal, but the buffered messages were already drained.")

-- The text of a state in which an event cannot happen, both quoted as `Debug` does; it is unspecified if one of them is
-- not ASCII.
abbrev pub unexpected_state_text : List ℕ → List ℕ → Option (List ℕ)
unexpected_state_text state event =
    Some (codes "Unexpected state '") ++? debug_str state ++? Some (codes "' when invoking '") ++? debug_str event ++?
    Some (codes "'")

-- The text of an eager state key that is not UTF-8.
abbrev pub bad_state_key_text : List ℕ
bad_state_key_text = codes "Cannot convert a eager state key into UTF-8 String: invalid UTF-8"

-- The text of a feature that a version does not have, and of the first version that has it.
abbrev pub unsupported_feature_text : List ℕ → Version → Version → List ℕ
unsupported_feature_text feature current minimum =
    codes "Feature '"
    ++ (feature
    ++ (codes "' is not supported by the negotiated protocol version '"
    ++ (content_type_of current ++ (codes "', the minimum required version is '" ++
    (content_type_of minimum ++ codes "'")))))

-- The text of an acknowledgement of a run that was not proposed, by its completion id.
abbrev pub unproposed_run_text : ℕ → List ℕ
unproposed_run_text id =
    codes "Received a run completion ack for completion id "
    ++ (decimal id ++ codes ", but the related run was not proposed during this attempt.")

-- The text of a state, by its key, that cannot be requested since the input is closed.
abbrev pub closed_input_text : List ℕ → List ℕ
closed_input_text key =
    codes "Cannot get state '"
    ++ (key
    ++ codes "' without recording it in the journal: the input stream is closed, thus Restate cannot answer the request. Getting state without recording it in the journal requires a bidirectional stream between Restate and the service (not available in request/response mode, e.g. AWS Lambda), unless the state value is available in the eager state sent by Restate.")

-- The text of a duration that is too long, with its purpose.
abbrev pub long_duration_text : List ℕ → List ℕ
long_duration_text duration_of =
    codes "The provided duration for '" ++ (duration_of ++ codes "' is out of bounds: value out of range")
