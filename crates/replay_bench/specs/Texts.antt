-- What the errors of a comparison print.
use Rattle.std.specs.Prelude.{ℕ, List, ◌++◌, codes, decimal}
use Rattle.shared_core_stream.specs.Errors.{message_too_long_text}
use Rattle.replay_bench.specs.declared.sources.SourceError.{SourceError}
use Rattle.replay_bench.specs.declared.sources.SourceError.TheVariants as source
use Rattle.replay_bench.specs.declared.verdicts.Side.{Side}
use Rattle.replay_bench.specs.declared.verdicts.Side.TheVariants.{Recorded, Replayed}
use Rattle.replay_bench.specs.declared.verdicts.BenchError.{BenchError}
use Rattle.replay_bench.specs.declared.verdicts.BenchError.TheVariants.{Malformed, TooLong, OutOfMemory}
use Rattle.replay_bench.specs.declared.verdicts.ReaderError.{ReaderError}
use Rattle.replay_bench.specs.declared.verdicts.ReaderError.TheVariants.{Read, Bench, MessageTooLong}

-- What a side is called.
abbrev pub side_text : Side → List ℕ
side_text Recorded = codes "recorded"
side_text Replayed = codes "replayed"

-- The text of why a source gave no item.
abbrev pub source_error_text : SourceError → List ℕ
source_error_text source.Failed = codes "reading failed"
source_error_text (source.MessageTooLong message) = message_too_long_text message
source_error_text source.TooLong = codes "more than 2^64 - 1 bytes"
source_error_text source.OutOfMemory = codes "out of memory"

-- The text of why two journals have no verdict.
abbrev pub bench_error_text : BenchError → List ℕ
bench_error_text (Malformed side index) = codes "the " ++ (side_text side ++
    (codes " command " ++ (decimal index ++ codes " is malformed")))
bench_error_text TooLong = codes "a journal has more than 2^64 - 1 bytes"
bench_error_text OutOfMemory = codes "out of memory"

-- The same of journals that come from readers.
abbrev pub reader_error_text : ReaderError → List ℕ
reader_error_text (Read side) = codes "reading the " ++ (side_text side ++ codes " journal failed")
reader_error_text (MessageTooLong side message) = codes "the " ++ (side_text side ++
    (codes " journal, " ++ message_too_long_text message))
reader_error_text (Bench error) = bench_error_text error
