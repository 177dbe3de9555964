use Rattle.std.proofs.Common.{◌∙◌, ◌++◌, ◌∷◌, [], ap, length, rules, subst, sym}
use Rattle.std.proofs.KnownBytes.{Consumes-trans}
use Rattle.shared_core_io.specs.Buffered.{held_in}
use Rattle.shared_core_stream.specs.Items.{NoItemBegins}
use Rattle.shared_core_stream.proofs.Items.{nothing_begins_with_none}
use Rattle.stream_parts.proofs.Locating.{ended, goes_on, starts, too_long}
use Rattle.stream_parts.specs.declared.range.Range.{Range}
use Rattle.stream_parts.specs.Parts.{located_in}
use Rattle.stream_parts.proofs.reading.locate.Goals as goal

pub loop-init : goal.loop-init
loop-init g c = record {
  range = c.new-scan.ensures.range;
  so_far = starts c.args.options.now.version c.args.options.now.limit c.args.range
      (g.R.Read.remaining c.args.input.now) _ _ c.new-items.ensures c.new-scan.ensures.none;
}

pub returns-in-Ok-None : goal.returns-in-Ok-None
returns-in-Ok-None g c =
    let (more, came, is, word) = rw c.in-Ok-None.field-0-is at c.in-Ok-None.ensures.read in
    let (end, accepts, none, same) = is in
    let version = c.loop.items.decoder.version in
    ended c.args.options.now.version c.args.options.now.limit c.args.range (g.R.Read.remaining c.args.input.now) _ _
    (held_in c.loop.items) c.loop.scan.located c.loop.counter more c.loop.invariant.so_far came _ 0 end accepts
    (subst (NoItemBegins version) (sym none) (nothing_begins_with_none version)) (ap length (sym none))
    c.finish.ensures

pub returns-in-Err-Truncated : goal.returns-in-Err-Truncated
returns-in-Err-Truncated g c =
    let (more, came, is, word) = rw c.in-Err-Truncated.field-0-is at c.in-Err-Truncated.ensures.read in
    let (end, accepts, none, counted, some, same) = is in
    ended c.args.options.now.version c.args.options.now.limit c.args.range (g.R.Read.remaining c.args.input.now) _ _
    (held_in c.loop.items) c.loop.scan.located c.loop.counter more c.loop.invariant.so_far came _
    c.in-Err-Truncated.count end accepts none counted
    (rw c.in-Err-Truncated.field-0-is at c.finish-in-Err-Truncated.ensures)

pub returns-in-Err-TooLong : goal.returns-in-Err-TooLong
returns-in-Err-TooLong g c =
    let (more, came, is, word) = rw c.in-Err-TooLong.field-0-is at c.in-Err-TooLong.ensures.read in
    rw c.in-Err-TooLong.field-0-is (too_long c.args.options.now.version c.args.options.now.limit c.args.range
    (g.R.Read.remaining c.args.input.now) _ _ (held_in c.loop.items) c.loop.scan.located c.loop.counter more
    c.loop.invariant.so_far came c.in-Err-TooLong.message is.0)

pub returns-in-Err-Failed : goal.returns-in-Err-Failed
returns-in-Err-Failed g c =
    let (more, came, is, word) = c.next_with_word.ensures.read in
    let so_far = c.loop.invariant.so_far in
    (so_far.read ++ more, Consumes-trans _ _ _ so_far.read more so_far.came came, tt)

pub returns-in-Err-OutOfMemory : goal.returns-in-Err-OutOfMemory
returns-in-Err-OutOfMemory g c =
    let (more, came, is, word) = c.next_with_word.ensures.read in
    let so_far = c.loop.invariant.so_far in
    (so_far.read ++ more, Consumes-trans _ _ _ so_far.read more so_far.came came, tt)

pub loop-preserved : goal.loop-preserved
loop-preserved g c =
    let (more, came, is, word) = rw c.in-Ok-Some.field-0-is at c.in-Ok-Some.ensures.read in
    let (accepts, taken, after) = is in
    let so_far = c.loop.invariant.so_far in
    let range = c.loop.invariant.range in
    record {
      range = c.note.ensures.range ∙ range;
      so_far = goes_on c.args.options.now.version c.args.options.now.limit c.args.range
          (g.R.Read.remaining c.args.input.now) _ _ (held_in c.loop.items) c.loop.scan.located c.loop.counter more
          so_far came (held_in c.next_with_word.new.self) c.note.new.self.located c.in-Ok-Some.item taken after
          (c.note.ensures.noted so_far.items (so_far.is ∙ ap (λ (r : Range). located_in r so_far.items 0) (sym range))
          ∙ ap (λ (r : Range). located_in r (so_far.items ++ c.in-Ok-Some.item ∷ []) 0) range)
          (search rules);
    }
