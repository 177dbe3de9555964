-- The dump of a stream.
use Rattle.std.proofs.Common.{ℕ, List, Result, Ok, Err}
use Rattle.shared_core_base.specs.declared.version.Version.{Version}
use Rattle.dump_lines.specs.declared.options.Options.{Options}
use Rattle.dump_lines.specs.Reading.{Reading}
use Rattle.journal_c_api.specs.declared.outcome.CallError.{CallError}
use Rattle.journal_c_api.specs.declared.outcome.CallError.TheVariants as error
use Rattle.descriptor_set.specs.Descriptors.{IsDescriptorSet}
use Rattle.journal_c_api.specs.Numberings.{IsDumpBy, IsReadingOf, IsWhole, ReturnsDumpAt, ReturnsLines}

pub whole_dump : (reading : Reading) (options : Options) (version : Version) (stream : List ℕ)
    (outcome : Result (List ℕ) CallError) → IsWhole version options → IsDumpBy reading options stream outcome
    → ReturnsLines reading stream outcome version
whole_dump reading options version stream (Ok bytes) whole is = (options, whole, is)
whole_dump reading options version stream (Err error.TooLong) whole is = tt
whole_dump reading options version stream (Err error.OutOfMemory) whole is = tt
whole_dump reading options version stream (Err error.Malformed) whole is = absurd is
whole_dump reading options version stream (Err error.MalformedSecond) whole is = absurd is
whole_dump reading options version stream (Err error.NotCanonical) whole is = absurd is
whole_dump reading options version stream (Err error.NoRoom) whole is = absurd is
whole_dump reading options version stream (Err error.UnknownVersion) whole is = absurd is
whole_dump reading options version stream (Err error.UnknownSchema) whole is = absurd is
whole_dump reading options version stream (Err error.UnknownType) whole is = absurd is
whole_dump reading options version stream (Err error.UnknownOption) whole is = absurd is
whole_dump reading options version stream (Err error.NoId) whole is = absurd is
whole_dump reading options version stream (Err error.NoResult) whole is = absurd is

pub dump_by_set : (set text stream : List ℕ) (reading : Reading) (version : Version)
    (outcome : Result (List ℕ) CallError) → IsDescriptorSet set → IsReadingOf set text reading
    → ReturnsLines reading stream outcome version → ReturnsDumpAt set text stream outcome version
dump_by_set set text stream reading version (Ok bytes) is by lines = (is, reading, by, lines)
dump_by_set set text stream reading version (Err error.TooLong) is by lines = tt
dump_by_set set text stream reading version (Err error.OutOfMemory) is by lines = tt
dump_by_set set text stream reading version (Err error.Malformed) is by lines = absurd lines
dump_by_set set text stream reading version (Err error.MalformedSecond) is by lines = absurd lines
dump_by_set set text stream reading version (Err error.NotCanonical) is by lines = absurd lines
dump_by_set set text stream reading version (Err error.NoRoom) is by lines = absurd lines
dump_by_set set text stream reading version (Err error.UnknownVersion) is by lines = absurd lines
dump_by_set set text stream reading version (Err error.UnknownSchema) is by lines = absurd lines
dump_by_set set text stream reading version (Err error.UnknownType) is by lines = absurd lines
dump_by_set set text stream reading version (Err error.UnknownOption) is by lines = absurd lines
dump_by_set set text stream reading version (Err error.NoId) is by lines = absurd lines
dump_by_set set text stream reading version (Err error.NoResult) is by lines = absurd lines
