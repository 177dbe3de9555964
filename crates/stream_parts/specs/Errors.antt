-- The texts of errors.
use Rattle.std.specs.Prelude.{ℕ, List, codes}
use Rattle.shared_core_stream.specs.Errors.{message_too_long_text}
use Rattle.stream_parts.specs.declared.error.CopyError.{CopyError}
use Rattle.stream_parts.specs.declared.error.CopyError.TheVariants as copy
use Rattle.stream_parts.specs.declared.error.LocateError.{LocateError}
use Rattle.stream_parts.specs.declared.error.LocateError.TheVariants as locate

-- The text of the error of a stream that was not read to its end.
abbrev pub locate_error_text : LocateError → List ℕ
locate_error_text locate.Input = codes "input failed"
locate_error_text locate.OutOfMemory = codes "out of memory"
locate_error_text (locate.MessageTooLong message) = message_too_long_text message

-- The text of the error of a part that was not copied to its end.
abbrev pub copy_error_text : CopyError → List ℕ
copy_error_text copy.Input = codes "input failed"
copy_error_text copy.Output = codes "output failed"
copy_error_text copy.OutOfMemory = codes "out of memory"
copy_error_text copy.Ended = codes "the input is shorter when it is read again"
