use Rattle.std.proofs.Common.{◌≡◌, ◌∙◌, ◌++◌, ℕ, List, Option, ap, arith, length, subst, sym}
use Rattle.std.proofs.lemmas.Result.{err_from_is_err_and}
use Rattle.std.specs.Io.KnownBytes.{Appends}
use Rattle.std.proofs.KnownBytes.{Consumes-nil}
use Rattle.shared_core_stream.specs.Unread.{Unread}
use Rattle.shared_core_stream.specs.declared.encoding.limit_error.MessageTooLong.{MessageTooLong as Longer}
use Rattle.shared_core_io.specs.Buffered.{held_in}
use Rattle.shared_core_io.specs.Reading.{LosesNothing}
use Rattle.shared_core_io.specs.declared.error.ReadError.TheVariants as reading
use Rattle.stream_lines.specs.Printing.{Begins, IsLack, IsLongIn}
use Rattle.stream_lines.specs.Steps.{holding, IsAfter}
use Rattle.stream_lines.specs.declared.error.PrintError.TheVariants.{OutOfMemory}
use Rattle.stream_lines.proofs.Progress.{added_here, all_decoded, began, ended_cut, ended_input, ended_lack}
use Rattle.stream_lines.proofs.Progress.{ended_long, ended_output, ended_whole, filled, goes_on, starts_at, stays}
use Rattle.stream_lines.proofs.Progress.{then_long, GoesOn}
use Rattle.stream_lines.proofs.print.Printing.print_all.Goals as goal

pub loop-init : goal.loop-init
loop-init g c =
    let version = c.args.self.now.items.decoder.version in
    let limit = c.args.self.now.items.decoder.limit in
    let nothing = ap (λ (held : Unread). held.bytes) c.requires.nothing in
    record {
      counted = omega arith;
      state = began version limit c.args.self.now.lines.offset (held_in c.args.self.now.items) c.requires.start
          c.requires.nothing;
      so_far = starts_at (g.P.LinePrinter.item_line c.args.printer.now)
          (g.P.LinePrinter.rest_line c.args.printer.now) (g.P.LinePrinter.is_long c.args.printer.now)
          (g.P.LinePrinter.item_trouble c.args.printer.now) version limit _ _ _ _ _ c.requires.start nothing
          c.requires.no_trouble;
    }

pub returns-in_err-print_rest-in-Ok-false : goal.returns-in_err-print_rest-in-Ok-false
returns-in_err-print_rest-in-Ok-false g c =
    let version = c.args.self.now.items.decoder.version in
    let limit = c.args.self.now.items.decoder.limit in
    let line = g.P.LinePrinter.item_line c.args.printer.now in
    let last = g.P.LinePrinter.rest_line c.args.printer.now in
    let is_long = g.P.LinePrinter.is_long c.args.printer.now in
    let trouble = g.P.LinePrinter.item_trouble c.args.printer.now in
    let (read, came, after) = c.fill.ensures.filled in
    let (end, still, gone) = c.in-Ok-false.ensures.end c.in-Ok-false.field-0-test in
    let (same, left) = all_decoded c.fill.new.self.decoder.bytes
    (c.fill.new.self.chunk ++ c.fill.new.self.buffer.items) c.loop.self.items.decoder.bytes
    (c.loop.self.items.chunk ++ c.loop.self.items.buffer.items) read (ap (λ (held : Unread). held.bytes) after)
    (ap (λ (held : Unread). held.bytes) still) gone in
    let so_far = stays line last is_long trouble version limit _ _ _ _ _ _ _ c.loop.invariant.so_far
    _ read came same in
    let from = err_from_is_err_and c.from_residual.result c.from_residual.ensures.1 in
    rw (from.1, from.2) (ended_lack line last is_long trouble version limit _ _ _ _ _ _ _ so_far
    _ _
    (Consumes-nil _) OutOfMemory tt)

pub returns-in_err-write_whole-in-Ok-false : goal.returns-in_err-write_whole-in-Ok-false
returns-in_err-write_whole-in-Ok-false g c =
    let version = c.args.self.now.items.decoder.version in
    let limit = c.args.self.now.items.decoder.limit in
    let line = g.P.LinePrinter.item_line c.args.printer.now in
    let last = g.P.LinePrinter.rest_line c.args.printer.now in
    let is_long = g.P.LinePrinter.is_long c.args.printer.now in
    let trouble = g.P.LinePrinter.item_trouble c.args.printer.now in
    let (read, came, after) = c.fill.ensures.filled in
    let (end, still, gone) = c.in-Ok-false.ensures.end c.in-Ok-false.field-0-test in
    let (same, left) = all_decoded c.fill.new.self.decoder.bytes
    (c.fill.new.self.chunk ++ c.fill.new.self.buffer.items) c.loop.self.items.decoder.bytes
    (c.loop.self.items.chunk ++ c.loop.self.items.buffer.items) read (ap (λ (held : Unread). held.bytes) after)
    (ap (λ (held : Unread). held.bytes) still) gone in
    let so_far = stays line last is_long trouble version limit _ _ _ _ _ _ _ c.loop.invariant.so_far
    _ read came same in
    let at = c.loop.self.lines.offset in
    let rest = ap (λ (unread : Unread). unread.bytes) c.decoder-pending.ensures ∙ left in
    let text : c.as_slice.result.now ≡ last at (held_in c.loop.self.items).bytes =
    c.as_slice.ensures.value ∙ c.in_ok-print_rest-in-Ok-false.ensures.line
    ∙ ap (λ (l : List ℕ). l ++ last at c.decoder-pending.result.now.bytes) c.clear.ensures.items
    ∙ ap (λ (bytes : List ℕ). last at bytes) rest in
    let (cut, wrote_cut, begins) = c.in_err-write_whole-in-Ok-false.ensures in
    let from = err_from_is_err_and c.from_residual-in_err-write_whole-in-Ok-false.result
    c.from_residual-in_err-write_whole-in-Ok-false.ensures.1 in
    rw (from.1, from.2) (ended_cut line last is_long trouble version limit _ _ _ _ _ _ _ so_far
    _ cut end
    wrote_cut (subst (Begins cut) text begins))

pub returns-in-Ok-false : goal.returns-in-Ok-false
returns-in-Ok-false g c =
    let version = c.args.self.now.items.decoder.version in
    let limit = c.args.self.now.items.decoder.limit in
    let line = g.P.LinePrinter.item_line c.args.printer.now in
    let last = g.P.LinePrinter.rest_line c.args.printer.now in
    let is_long = g.P.LinePrinter.is_long c.args.printer.now in
    let trouble = g.P.LinePrinter.item_trouble c.args.printer.now in
    let (read, came, after) = c.fill.ensures.filled in
    let (end, still, gone) = c.in-Ok-false.ensures.end c.in-Ok-false.field-0-test in
    let (same, left) = all_decoded c.fill.new.self.decoder.bytes
    (c.fill.new.self.chunk ++ c.fill.new.self.buffer.items) c.loop.self.items.decoder.bytes
    (c.loop.self.items.chunk ++ c.loop.self.items.buffer.items) read (ap (λ (held : Unread). held.bytes) after)
    (ap (λ (held : Unread). held.bytes) still) gone in
    let so_far = stays line last is_long trouble version limit _ _ _ _ _ _ _ c.loop.invariant.so_far
    _ read came same in
    let at = c.loop.self.lines.offset in
    let rest = ap (λ (unread : Unread). unread.bytes) c.decoder-pending.ensures ∙ left in
    let text : c.as_slice.result.now ≡ last at (held_in c.loop.self.items).bytes =
    c.as_slice.ensures.value ∙ c.in_ok-print_rest-in-Ok-false.ensures.line
    ∙ ap (λ (l : List ℕ). l ++ last at c.decoder-pending.result.now.bytes) c.clear.ensures.items
    ∙ ap (λ (bytes : List ℕ). last at bytes) rest in
    let (all, wrote_all, whole) = c.in_ok-write_whole-in-Ok-false.ensures in
    ended_whole line last is_long trouble version limit _ _ _ _ _ _ _ so_far
    _ all end
    wrote_all c.loop.self.lines.trouble c.pending.result
    so_far.noted (c.pending.ensures ∙ ap (λ (bytes : List ℕ). length bytes) rest) (whole ∙ text)

pub returns-in-Err-Failed : goal.returns-in-Err-Failed
returns-in-Err-Failed g c =
    let version = c.args.self.now.items.decoder.version in
    let limit = c.args.self.now.items.decoder.limit in
    let line = g.P.LinePrinter.item_line c.args.printer.now in
    let last = g.P.LinePrinter.rest_line c.args.printer.now in
    let is_long = g.P.LinePrinter.is_long c.args.printer.now in
    let trouble = g.P.LinePrinter.item_trouble c.args.printer.now in
    let (read, came, after) = c.fill.ensures.filled in
    let kept : LosesNothing c.loop.self.items.decoder.rejected (held_in c.loop.self.items) (held_in c.fill.new.self)
    (reading.Failed c.in-Err-Failed.field-0-0) = rw c.in-Err-Failed.field-0-is at c.in-Err-Failed.ensures.error in
    let same = ap (λ (held : Unread). held.bytes) (sym after ∙ kept.0) in
    let so_far = stays line last is_long trouble version limit _ _ _ _ _ _ _ c.loop.invariant.so_far
    _ read came same in
    ended_input line last is_long trouble version limit _ _ _ _ _ _ _ so_far

pub returns-in-Err : goal.returns-in-Err
returns-in-Err g c =
    let version = c.args.self.now.items.decoder.version in
    let limit = c.args.self.now.items.decoder.limit in
    let line = g.P.LinePrinter.item_line c.args.printer.now in
    let last = g.P.LinePrinter.rest_line c.args.printer.now in
    let is_long = g.P.LinePrinter.is_long c.args.printer.now in
    let trouble = g.P.LinePrinter.item_trouble c.args.printer.now in
    let (read, came, after) = c.fill.ensures.filled in
    ended_lack line last is_long trouble version limit _ _ _ _ _ _ _ c.loop.invariant.so_far
    _ read came
    OutOfMemory tt

pub returns-in_err-longer : goal.returns-in_err-longer
returns-in_err-longer g c =
    let version = c.args.self.now.items.decoder.version in
    let limit = c.args.self.now.items.decoder.limit in
    let line = g.P.LinePrinter.item_line c.args.printer.now in
    let last = g.P.LinePrinter.rest_line c.args.printer.now in
    let is_long = g.P.LinePrinter.is_long c.args.printer.now in
    let trouble = g.P.LinePrinter.item_trouble c.args.printer.now in
    let (read, came, after) = c.fill.ensures.filled in
    let here = filled version limit c.loop.self.lines.offset (held_in c.loop.self.items)
    (held_in c.fill.new.self) read c.loop.invariant.state after in
    let lack = subst (λ (state : Unread). IsLack (IsLongIn is_long
    state.version state.bytes) c.in_err-longer.field-0.0) here c.in_err-longer.ensures.lack in
    let from = err_from_is_err_and c.from_residual-in_err-longer.result c.from_residual-in_err-longer.ensures.1 in
    rw (from.1, from.2) (ended_lack line last is_long trouble version limit _ _ _ _ _ _ _ c.loop.invariant.so_far
    _ read came _ lack)

pub returns-in_err-write_whole : goal.returns-in_err-write_whole
returns-in_err-write_whole g c =
    let version = c.args.self.now.items.decoder.version in
    let limit = c.args.self.now.items.decoder.limit in
    let line = g.P.LinePrinter.item_line c.args.printer.now in
    let last = g.P.LinePrinter.rest_line c.args.printer.now in
    let is_long = g.P.LinePrinter.is_long c.args.printer.now in
    let trouble = g.P.LinePrinter.item_trouble c.args.printer.now in
    let (read, came, after) = c.fill.ensures.filled in
    let here = filled version limit c.loop.self.lines.offset (held_in c.loop.self.items)
    (held_in c.fill.new.self) read c.loop.invariant.state after in
    let bytes = (held_in c.loop.self.items).bytes ++ read in
    let every = added_here line trouble version limit c.loop.self.lines.offset c.loop.self.lines.trouble
    c.clear-in-loop.new.self.items bytes c.in_ok-longer.longer c.add_held.new.self.offset
    c.add_held.new.self.trouble c.add_held.new.self.text.items (held_in c.add_held.new.items)
    (held_in c.fill.new.self) here c.clear-in-loop.ensures.items c.in_ok-longer.ensures.added in
    let (rest, step, next) = every in
    let (written, wrote, begins) = c.in_err-write_whole.ensures in
    let from = err_from_is_err_and c.from_residual-in_err-write_whole.result
    c.from_residual-in_err-write_whole.ensures.1 in
    rw (from.1, from.2) (ended_output line last is_long trouble version limit _ _ _ _ _ _ _ c.loop.invariant.so_far
    _ read came _ _ _
    rest step _ written wrote (subst (Begins written) c.as_slice-in-loop.ensures.value begins))

pub returns-in-Some : goal.returns-in-Some
returns-in-Some g c =
    let version = c.args.self.now.items.decoder.version in
    let limit = c.args.self.now.items.decoder.limit in
    let line = g.P.LinePrinter.item_line c.args.printer.now in
    let last = g.P.LinePrinter.rest_line c.args.printer.now in
    let is_long = g.P.LinePrinter.is_long c.args.printer.now in
    let trouble = g.P.LinePrinter.item_trouble c.args.printer.now in
    let (read, came, after) = c.fill.ensures.filled in
    let here = filled version limit c.loop.self.lines.offset (held_in c.loop.self.items)
    (held_in c.fill.new.self) read c.loop.invariant.state after in
    let bytes = (held_in c.loop.self.items).bytes ++ read in
    let every = added_here line trouble version limit c.loop.self.lines.offset c.loop.self.lines.trouble
    c.clear-in-loop.new.self.items bytes c.in_ok-longer.longer c.add_held.new.self.offset
    c.add_held.new.self.trouble c.add_held.new.self.text.items (held_in c.add_held.new.items)
    (held_in c.fill.new.self) here c.clear-in-loop.ensures.items c.in_ok-longer.ensures.added in
    let (rest, step, after_all) = every in
    let next = subst (λ (longer : Option Longer). IsAfter version limit longer c.add_held.new.self.offset rest
    (held_in c.add_held.new.items)) c.in-Some.is after_all in
    let (written, wrote, is) = c.in_ok-write_whole.ensures in
    let all_written = subst (Appends (g.W.Write.contents c.loop.output)
    (g.W.Write.contents c.write_whole-in-loop.new.output)) (is ∙ c.as_slice-in-loop.ensures.value) wrote in
    ended_long line last is_long trouble version limit _ _ _ _ _ _ _ c.loop.invariant.so_far
    _ read came _ _ _ rest step _
    all_written c.in-Some.message next

pub loop-preserved : goal.loop-preserved
loop-preserved g c =
    let version = c.args.self.now.items.decoder.version in
    let limit = c.args.self.now.items.decoder.limit in
    let line = g.P.LinePrinter.item_line c.args.printer.now in
    let last = g.P.LinePrinter.rest_line c.args.printer.now in
    let is_long = g.P.LinePrinter.is_long c.args.printer.now in
    let trouble = g.P.LinePrinter.item_trouble c.args.printer.now in
    let (read, came, after) = c.fill.ensures.filled in
    let here = filled version limit c.loop.self.lines.offset (held_in c.loop.self.items)
    (held_in c.fill.new.self) read c.loop.invariant.state after in
    let bytes = (held_in c.loop.self.items).bytes ++ read in
    let every = added_here line trouble version limit c.loop.self.lines.offset c.loop.self.lines.trouble
    c.clear-in-loop.new.self.items bytes c.in_ok-longer.longer c.add_held.new.self.offset
    c.add_held.new.self.trouble c.add_held.new.self.text.items (held_in c.add_held.new.items)
    (held_in c.fill.new.self) here c.clear-in-loop.ensures.items c.in_ok-longer.ensures.added in
    let (rest, step, after_all) = every in
    let next = subst (λ (longer : Option Longer). IsAfter version limit longer c.add_held.new.self.offset rest
    (held_in c.add_held.new.items)) c.in_default.is after_all in
    let (written, wrote, is) = c.in_ok-write_whole.ensures in
    let all_written = subst (Appends (g.W.Write.contents c.loop.output)
    (g.W.Write.contents c.write_whole-in-loop.new.output)) (is ∙ c.as_slice-in-loop.ensures.value) wrote in
    let so_far = goes_on line last is_long trouble version limit _ _ _ _ _ _ _ c.loop.invariant.so_far
    _ read came _ _ _ rest step _
    all_written next.0 next.1 in
    let left = ap (λ (held : Unread). held.bytes) next.2 in
    record {
      counted = omega (
        arith,
        c.loop.invariant.counted,
        step.place,
        then_long version bytes rest step.more step.next,
        ap (λ (held : Unread). length held.bytes) here,
        c.fill.ensures.bound,
      );
      state = next.2 ∙ ap (λ (l : List ℕ). holding version limit
          c.add_held.new.self.offset l) (sym left);
      so_far = subst (λ (l : List ℕ). GoesOn line trouble version limit
          (g.R.Read.remaining c.args.input.now) (g.W.Write.contents c.args.output.now)
          (g.R.Read.remaining c.fill.new.reader) (g.W.Write.contents c.write_whole-in-loop.new.output)
          c.add_held.new.self.offset l c.add_held.new.self.trouble) (sym left) so_far;
    }

pub returns : goal.returns
returns g c =
    let version = c.args.self.now.items.decoder.version in
    let limit = c.args.self.now.items.decoder.limit in
    let line = g.P.LinePrinter.item_line c.args.printer.now in
    let last = g.P.LinePrinter.rest_line c.args.printer.now in
    let is_long = g.P.LinePrinter.is_long c.args.printer.now in
    let trouble = g.P.LinePrinter.item_trouble c.args.printer.now in
    ended_input line last is_long trouble version limit _ _ _ _ _ _ _ c.loop.invariant.so_far
