-- How messages and the values of the SDK state machine convert to each other.
use Rattle.std.specs.Prelude.{◌≡◌, ℕ, ◌%◌, ◌^◌, List, [], map, String}
use Rattle.std.specs.String.{string_bytes}
use Rattle.std.specs.declared.alloc.Global.{Global}
use Rattle.std.specs.declared.borrow.CowStr.{CowStr}
use Rattle.std.specs.declared.borrow.CowStr.TheVariants.{Borrowed, Owned}
use Rattle.shared_core_base.specs.declared.values.Header.{Header as RootHeader}
use Rattle.shared_core_base.specs.declared.values.TerminalFailure.{TerminalFailure}
use Rattle.shared_core_base.specs.declared.values.Value.{Value}
use Rattle.shared_core_base.specs.declared.values.Value.TheVariants as value
use Rattle.shared_core_parts.specs.declared.failure.Failure.{Failure}
use Rattle.shared_core_parts.specs.declared.header.Header.{Header}
use Rattle.shared_core_parts.specs.declared.notification_template.Result.{Result}
use Rattle.shared_core_parts.specs.declared.notification_template.Result.TheVariants as result
use Rattle.shared_core_parts.specs.Texts.{lossy_text}

-- What a failure holds, with its texts as they are in memory: the code, the message, and the key and the value of each
-- entry of the metadata.
pub record FailureContents : Type 0 where
  pub code : ℕ
  pub message : String Global
  pub metadata : List (String Global × String Global)

-- What a failure holds.
abbrev pub failure_contents : Failure → FailureContents
failure_contents failure = record {
  code = failure.code;
  message = failure.message;
  metadata = map (λ entry. (entry.key, entry.value)) failure.metadata.items;
}

-- What a terminal failure holds.
abbrev pub terminal_contents : TerminalFailure → FailureContents
terminal_contents failure = record { code = failure.code; message = failure.message; metadata = failure.metadata.items }

-- What the terminal failure of a failure holds: the same, but only the low 16 bits of its code.
abbrev pub terminal_contents_of : Failure → FailureContents
terminal_contents_of failure = record (failure_contents failure) { code = failure.code % 2 ^ 16 }

-- The header of the SDK state machine that holds the texts of a header.
abbrev pub root_header_of : Header → RootHeader
root_header_of header = record { key = Owned header.key; value = Owned header.value }

-- The text is the owned one itself, or a copy of the borrowed one.
abbrev pub IsOwnedTextOf : CowStr Global → String Global → Type 0
IsOwnedTextOf (Owned text) owned = owned ≡ text
IsOwnedTextOf (Borrowed text) owned = string_bytes owned ≡ text.now

-- The header has the key and the value of a header of the SDK state machine.
abbrev pub IsHeaderOf : RootHeader → Header → Type 0
IsHeaderOf root header = IsOwnedTextOf root.key header.key × IsOwnedTextOf root.value header.value

-- The text is owned or empty, so that converting it to an owned one does not allocate.
abbrev pub NeedsNoCopy : CowStr Global → Type 0
NeedsNoCopy (Owned text) = Unit {0}
NeedsNoCopy (Borrowed text) = text.now ≡ []

-- Each text of a header of the SDK state machine is owned or empty.
abbrev pub NeedsNoCopies : RootHeader → Type 0
NeedsNoCopies root = NeedsNoCopy root.key × NeedsNoCopy root.value

-- The value is that of a result: the same variant with the same contents, a failure as a terminal one, and each state
-- key as text.
abbrev pub IsValueOf : Result → Value → Type 0
IsValueOf (result.Void void) found = found ≡ value.Void
IsValueOf (result.Value bytes) found = found ≡ value.Success bytes.content
IsValueOf (result.Failure failure) (value.Failure terminal) = terminal_contents terminal ≡ terminal_contents_of failure
IsValueOf (result.InvocationId id) found = found ≡ value.InvocationId id
IsValueOf (result.StateKeys keys) (value.StateKeys texts) = map string_bytes texts.items ≡ map lossy_text
    keys.keys.items
IsValueOf other found = ⊥

-- The result is one whose conversion does not allocate: nothing, a value, the id of an invocation, a failure without
-- metadata, or no keys.
abbrev pub TakesNoMemory : Result → Type 0
TakesNoMemory (result.Void void) = Unit {0}
TakesNoMemory (result.Value bytes) = Unit {0}
TakesNoMemory (result.Failure failure) = failure.metadata.items ≡ []
TakesNoMemory (result.InvocationId id) = Unit {0}
TakesNoMemory (result.StateKeys keys) = keys.keys.items ≡ []
