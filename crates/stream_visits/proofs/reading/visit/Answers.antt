use Rattle.std.proofs.Common.{◌++◌, ap, length, rules, subst, sym}
use Rattle.std.proofs.lemmas.Result.{err_from_is_err_and}
use Rattle.std.proofs.KnownBytes.{Consumes-trans}
use Rattle.shared_core_io.specs.Buffered.{held_in}
use Rattle.shared_core_stream.specs.Items.{NoItemBegins}
use Rattle.shared_core_stream.proofs.Items.{nothing_begins_with_none}
use Rattle.stream_visits.proofs.Visiting.{ended, goes_on, lacks, may_note, starts, too_long}
use Rattle.stream_visits.proofs.reading.visit.Goals as goal

pub loop-init : goal.loop-init
loop-init g c = starts c.args.options.now.version c.args.options.now.limit
    (g.V.Visitor.is_long c.args.options.now.version) (g.R.Read.remaining c.args.input.now) _ _ c.new-items.ensures
    c.requires.none

pub note-requires : goal.note-requires
note-requires g c =
    let (more, came, is, word) = rw c.in-Ok-Some.field-0-is at c.in-Ok-Some.ensures.read in
    let (accepts, taken, after) = is in
    let so_far = c.loop.invariant in (
      so_far.items,
      so_far.has_seen,
      may_note c.args.options.now.version c.args.options.now.limit
          (g.V.Visitor.is_long c.args.options.now.version) (g.R.Read.remaining c.args.input.now) _ _ _
          (held_in c.loop.items) c.loop.counter more so_far came (held_in c.next_with_word.new.self)
          c.in-Ok-Some.item taken after (search rules) (search rules),
    )

pub returns-in_err-note-in-Ok-Some : goal.returns-in_err-note-in-Ok-Some
returns-in_err-note-in-Ok-Some g c =
    let (more, came, is, word) = rw c.in-Ok-Some.field-0-is at c.in-Ok-Some.ensures.read in
    let (accepts, taken, after) = is in
    let from = err_from_is_err_and c.from_residual.result c.from_residual.ensures.1 in
    rw (from.1, from.2) (lacks c.args.options.now.version c.args.options.now.limit
    (g.V.Visitor.is_long c.args.options.now.version) (g.R.Read.remaining c.args.input.now) _ _ _
    (held_in c.loop.items) c.loop.counter more c.loop.invariant came (held_in c.next_with_word.new.self)
    c.in-Ok-Some.item taken after (search rules) (g.V.Visitor.has_seen c.note.new.self c.args.options.now.version) _
    c.in_err-note-in-Ok-Some.ensures.lack)

pub returns-in-Ok-None : goal.returns-in-Ok-None
returns-in-Ok-None g c =
    let (more, came, is, word) = rw c.in-Ok-None.field-0-is at c.in-Ok-None.ensures.read in
    let (end, accepts, none, same) = is in
    let version = c.loop.items.decoder.version in
    ended c.args.options.now.version c.args.options.now.limit (g.V.Visitor.is_long c.args.options.now.version)
    (g.R.Read.remaining c.args.input.now) _ _ _ (held_in c.loop.items) c.loop.counter more c.loop.invariant came 0 end
    accepts (subst (NoItemBegins version) (sym none) (nothing_begins_with_none version)) (ap length (sym none))

pub returns-in-Err-Truncated : goal.returns-in-Err-Truncated
returns-in-Err-Truncated g c =
    let (more, came, is, word) = rw c.in-Err-Truncated.field-0-is at c.in-Err-Truncated.ensures.read in
    let (end, accepts, none, counted, some, same) = is in
    rw c.in-Err-Truncated.field-0-is (ended c.args.options.now.version c.args.options.now.limit
    (g.V.Visitor.is_long c.args.options.now.version) (g.R.Read.remaining c.args.input.now) _ _ _
    (held_in c.loop.items) c.loop.counter more c.loop.invariant came c.in-Err-Truncated.count end accepts none counted)

pub returns-in-Err-TooLong : goal.returns-in-Err-TooLong
returns-in-Err-TooLong g c =
    let (more, came, is, word) = rw c.in-Err-TooLong.field-0-is at c.in-Err-TooLong.ensures.read in
    rw c.in-Err-TooLong.field-0-is (too_long c.args.options.now.version c.args.options.now.limit
    (g.V.Visitor.is_long c.args.options.now.version) (g.R.Read.remaining c.args.input.now) _ _ _
    (held_in c.loop.items) c.loop.counter more c.loop.invariant came c.in-Err-TooLong.message is.0)

pub returns-in-Err-Failed : goal.returns-in-Err-Failed
returns-in-Err-Failed g c =
    let (more, came, is, word) = c.next_with_word.ensures.read in
    let so_far = c.loop.invariant in
    (so_far.read ++ more, Consumes-trans _ _ _ so_far.read more so_far.came came, tt)

pub returns-in-Err-OutOfMemory : goal.returns-in-Err-OutOfMemory
returns-in-Err-OutOfMemory g c =
    let (more, came, is, word) = c.next_with_word.ensures.read in
    let so_far = c.loop.invariant in
    (so_far.read ++ more, Consumes-trans _ _ _ so_far.read more so_far.came came, tt)

pub loop-preserved : goal.loop-preserved
loop-preserved g c =
    let (more, came, is, word) = rw c.in-Ok-Some.field-0-is at c.in-Ok-Some.ensures.read in
    let (accepts, taken, after) = is in
    let so_far = c.loop.invariant in
    goes_on c.args.options.now.version c.args.options.now.limit (g.V.Visitor.is_long c.args.options.now.version)
    (g.R.Read.remaining c.args.input.now) _ _ _ (held_in c.loop.items) c.loop.counter more so_far came
    (held_in c.next_with_word.new.self) c.in-Ok-Some.item taken after (search rules) _
    (c.in_ok-note-in-Ok-Some.ensures.noted so_far.items so_far.has_seen)
