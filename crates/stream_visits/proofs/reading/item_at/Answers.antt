use Rattle.std.proofs.Common.{◌∙◌, ◌+◌, ◌≤◌, ◌++◌, refl, rules, subst, sym, arith}
use Rattle.std.proofs.KnownBytes.{Consumes-trans}
use Rattle.shared_core_io.specs.Buffered.{held_in}
use Rattle.shared_core_stream.specs.Items.{NoItemBegins}
use Rattle.shared_core_stream.proofs.Items.{nothing_begins_with_none}
use Rattle.stream_visits.proofs.Visiting.{counted_more, ended_before, found, goes_on, starts, too_long_before}
use Rattle.stream_visits.proofs.Visiting.{AreCounted}
use Rattle.stream_visits.proofs.reading.item_at.Goals as goal

pub loop-at-init : goal.loop-at-init
loop-at-init g c = record {
  so_far = starts c.args.options.now.version c.args.options.now.limit (λ item. ⊥)
      (g.R.Read.remaining c.args.input.now) (AreCounted 0) _ c.new-items.ensures refl;
  few = omega arith;
}

pub returns-then-at-index : goal.returns-then-at-index
returns-then-at-index g c =
    let (more, came, is, word) = rw c.in-Ok-Some.field-0-is at c.in-Ok-Some.ensures.read in
    let (accepts, taken, after) = is in
    let so_far = c.loop-at.invariant.so_far in
    found c.args.options.now.version c.args.options.now.limit (λ item. ⊥) (g.R.Read.remaining c.args.input.now)
    (AreCounted c.loop-at.at) _ _ (held_in c.loop-at.items) c.loop-at.at more so_far came
    (held_in c.next_with_word.new.self) c.in-Ok-Some.item taken after (search rules) c.args.index
    (so_far.has_seen ∙ search rules)

pub returns-in-Ok-None : goal.returns-in-Ok-None
returns-in-Ok-None g c =
    let (more, came, is, word) = rw c.in-Ok-None.field-0-is at c.in-Ok-None.ensures.read in
    let (end, accepts, none, same) = is in
    let version = c.loop-at.items.decoder.version in
    let so_far = c.loop-at.invariant.so_far in
    ended_before c.args.options.now.version c.args.options.now.limit (λ item. ⊥)
    (g.R.Read.remaining c.args.input.now) (AreCounted c.loop-at.at) _ _ (held_in c.loop-at.items) c.loop-at.at more
    so_far came c.args.index (subst (λ n. n ≤ c.args.index) (sym so_far.has_seen) c.loop-at.invariant.few) end accepts
    (subst (NoItemBegins version) (sym none) (nothing_begins_with_none version))

pub returns-in-Err-Truncated : goal.returns-in-Err-Truncated
returns-in-Err-Truncated g c =
    let (more, came, is, word) = rw c.in-Err-Truncated.field-0-is at c.in-Err-Truncated.ensures.read in
    let (end, accepts, none, counted, some, same) = is in
    let so_far = c.loop-at.invariant.so_far in
    ended_before c.args.options.now.version c.args.options.now.limit (λ item. ⊥)
    (g.R.Read.remaining c.args.input.now) (AreCounted c.loop-at.at) _ _ (held_in c.loop-at.items) c.loop-at.at more
    so_far came c.args.index (subst (λ n. n ≤ c.args.index) (sym so_far.has_seen) c.loop-at.invariant.few) end accepts
    none

pub returns-in-Err-TooLong : goal.returns-in-Err-TooLong
returns-in-Err-TooLong g c =
    let (more, came, is, word) = rw c.in-Err-TooLong.field-0-is at c.in-Err-TooLong.ensures.read in
    let so_far = c.loop-at.invariant.so_far in
    too_long_before c.args.options.now.version c.args.options.now.limit (λ item. ⊥)
    (g.R.Read.remaining c.args.input.now) (AreCounted c.loop-at.at) _ _ (held_in c.loop-at.items) c.loop-at.at more
    so_far came c.args.index c.in-Err-TooLong.message
    (subst (λ n. n ≤ c.args.index) (sym so_far.has_seen) c.loop-at.invariant.few) is.0

pub returns-in-Err-Failed : goal.returns-in-Err-Failed
returns-in-Err-Failed g c =
    let (more, came, is, word) = c.next_with_word.ensures.read in
    let so_far = c.loop-at.invariant.so_far in
    (so_far.read ++ more, Consumes-trans _ _ _ so_far.read more so_far.came came, tt)

pub returns-in-Err-OutOfMemory : goal.returns-in-Err-OutOfMemory
returns-in-Err-OutOfMemory g c =
    let (more, came, is, word) = c.next_with_word.ensures.read in
    let so_far = c.loop-at.invariant.so_far in
    (so_far.read ++ more, Consumes-trans _ _ _ so_far.read more so_far.came came, tt)

pub loop-at-preserved : goal.loop-at-preserved
loop-at-preserved g c =
    let (more, came, is, word) = rw c.in-Ok-Some.field-0-is at c.in-Ok-Some.ensures.read in
    let (accepts, taken, after) = is in
    let so_far = c.loop-at.invariant.so_far in
    record {
      so_far = goes_on c.args.options.now.version c.args.options.now.limit (λ item. ⊥)
          (g.R.Read.remaining c.args.input.now) (AreCounted c.loop-at.at) _ _ (held_in c.loop-at.items) c.loop-at.at
          more so_far came (held_in c.next_with_word.new.self) c.in-Ok-Some.item taken after (search rules)
          (AreCounted (c.loop-at.at + 1)) (counted_more c.args.options.now.version c.args.options.now.limit
          (λ item. ⊥) (g.R.Read.remaining c.args.input.now) (AreCounted c.loop-at.at) _ _ (held_in c.loop-at.items)
          c.loop-at.at more so_far came (held_in c.next_with_word.new.self) c.in-Ok-Some.item taken after
          (search rules) c.loop-at.at so_far.has_seen);
      few = search rules;
    }
