pub mod Items
pub mod Errors
pub mod Typed
pub mod Written
pub mod TemplateParts
pub mod View
pub mod Decoded
pub mod Visiting
-- Re-exported, since clauses of this crate cite them: a caller cites them by this crate's name, and lists no other
-- crate.
pub use Rattle.shared_core_base.specs.CommandType
pub use Rattle.shared_core_base.specs.Error
pub use Rattle.shared_core_base.specs.Headers
pub use Rattle.shared_core_base.specs.MessageHeader
pub use Rattle.shared_core_base.specs.MessageType
pub use Rattle.shared_core_base.specs.Values
pub use Rattle.shared_core_base.specs.Version
pub use Rattle.shared_core_stream.specs.Borrowed
pub use Rattle.shared_core_stream.specs.Iteration
pub use Rattle.shared_core_stream.specs.Segments
pub use Rattle.shared_core_stream.specs.Unread
pub use Rattle.shared_core_wire.specs.Acceptance
pub use Rattle.shared_core_wire.specs.Canonical
pub use Rattle.shared_core_wire.specs.Encoding
pub use Rattle.shared_core_wire.specs.Fitting
pub use Rattle.shared_core_wire.specs.Grammar
pub use Rattle.shared_core_wire.specs.Reader
pub use Rattle.shared_core_wire.specs.Schema
pub use Rattle.shared_core_wire.specs.Template
pub use Rattle.shared_core_wire.specs.Value
pub use Rattle.shared_core_codec.specs.Equality
pub use Rattle.shared_core_codec.specs.Kept
pub use Rattle.shared_core_codec.specs.Payloads
pub use Rattle.shared_core_codec.specs.Table
pub use Rattle.shared_core_message.specs.Frames
pub use Rattle.shared_core_message.specs.Messages
pub use Rattle.shared_core_parts.specs.Conversions
pub use Rattle.shared_core_parts.specs.Futures
pub use Rattle.shared_core_parts.specs.Notifications
pub use Rattle.shared_core_runtime.specs.Flattening
pub use Rattle.shared_core_runtime.specs.Versions
pub use Rattle.shared_core_compare.specs.Commands
pub use Rattle.shared_core_compare.specs.Differences
pub use Rattle.shared_core_compare.specs.Erasure
pub use Rattle.shared_core_errors.specs.Awaited
pub use Rattle.shared_core_errors.specs.Closed
pub use Rattle.shared_core_errors.specs.Mismatch
pub use Rattle.shared_core_errors.specs.Uncompleted
-- The types of the crates below that are called by this one.
pub use Rattle.shared_core_base.specs.declared as base_types
pub use Rattle.shared_core_stream.specs.declared as stream_types
pub use Rattle.shared_core_wire.specs.declared as wire_types
pub use Rattle.shared_core_codec.specs.declared as codec_types
pub use Rattle.shared_core_parts.specs.declared as parts_types
pub use Rattle.shared_core_errors.specs.declared as errors_types
