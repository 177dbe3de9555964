use Rattle.std.proofs.Common.{◌≡◌, ◌∙◌, ◌++◌, ℕ, List, [], Option, Some, None, ap, arith, length, subst, sym}
use Rattle.std.proofs.lemmas.Result.{err_from_is_err_and}
use Rattle.std.specs.Io.KnownBytes.{Appends}
use Rattle.std.proofs.KnownBytes.{Consumes-nil}
use Rattle.shared_core_stream.specs.Unread.{Unread}
use Rattle.shared_core_stream.specs.declared.encoding.limit_error.MessageTooLong.{MessageTooLong as Longer}
use Rattle.shared_core_io.specs.Buffered.{held_in}
use Rattle.shared_core_io.specs.Reading.{LosesNothing}
use Rattle.shared_core_io.specs.declared.error.ReadError.TheVariants as reading
use Rattle.stream_lines.specs.Printing.{Begins, IsLack, IsLongIn}
use Rattle.stream_lines.specs.Steps.{holding}
use Rattle.stream_lines.specs.declared.error.PrintError.TheVariants.{OutOfMemory}
use Rattle.stream_lines.proofs.Progress.{all_decoded, filled, then_long}
use Rattle.show_lines.specs.Lines.{last_lines, Known}
use Rattle.show_lines.specs.Showing.{IsLong}
use Rattle.show_lines.specs.Steps.{known_by}
use Rattle.show_lines.proofs.Progress.{ended_cut, ended_input, ended_lack, ended_long, ended_output, ended_whole}
use Rattle.show_lines.proofs.Progress.{goes_on, starts, stays, GoesOn, HasAdded}
use Rattle.show_lines.proofs.stream.Showing.show.Goals as goal

pub loop-init : goal.loop-init
loop-init g c =
    let options = c.args.self.now.options.now in
    let bytes = ap (λ (held : Unread). held.bytes) c.new-items.ensures in
    record {
      counted = omega (arith, c.new-lines.ensures.place);
      ordered = c.new-lines.ensures.counted;
      state = c.new-items.ensures
          ∙ ap (λ (left : List ℕ). holding options.version options.limit 0 left) (sym bytes)
          ∙ ap (λ (n : ℕ). holding options.version options.limit n (held_in c.new-items.result).bytes)
          (sym c.new-lines.ensures.place);
      so_far = subst (λ (left : List ℕ). GoesOn options (g.R.Read.remaining c.args.input.now)
          (g.W.Write.contents c.args.output.now) (g.R.Read.remaining c.args.input.now)
          (g.W.Write.contents c.args.output.now) c.new-lines.result.offset left (known_by c.new-lines.result))
          (sym bytes)
          (subst (λ (n : ℕ). GoesOn options (g.R.Read.remaining c.args.input.now)
          (g.W.Write.contents c.args.output.now) (g.R.Read.remaining c.args.input.now)
          (g.W.Write.contents c.args.output.now) n [] (known_by c.new-lines.result)) (sym c.new-lines.ensures.place)
          (subst (λ (known : Known). GoesOn options (g.R.Read.remaining c.args.input.now)
          (g.W.Write.contents c.args.output.now) (g.R.Read.remaining c.args.input.now)
          (g.W.Write.contents c.args.output.now) 0 [] known) (sym c.new-lines.ensures.known) (starts options _ _)));
    }

pub returns-in_err-add_last-in-Ok-false : goal.returns-in_err-add_last-in-Ok-false
returns-in_err-add_last-in-Ok-false g c =
    let options = c.args.self.now.options.now in
    let (read, came, after) = c.fill.ensures.filled in
    let (end, still, gone) = c.in-Ok-false.ensures.end c.in-Ok-false.field-0-test in
    let (same, left) = all_decoded c.fill.new.self.decoder.bytes
    (c.fill.new.self.chunk ++ c.fill.new.self.buffer.items) c.loop.items.decoder.bytes
    (c.loop.items.chunk ++ c.loop.items.buffer.items) read (ap (λ (held : Unread). held.bytes) after)
    (ap (λ (held : Unread). held.bytes) still) gone in
    let so_far = stays options _ _ _ _ _ _ _ c.loop.invariant.so_far _ read came same in
    let from = err_from_is_err_and c.from_residual.result c.from_residual.ensures.1 in
    rw (from.1, from.2) (ended_lack options _ _ _ _ _ _ _ so_far _ _ (Consumes-nil _) OutOfMemory tt)

pub returns-in_err-write_whole-in-Ok-false : goal.returns-in_err-write_whole-in-Ok-false
returns-in_err-write_whole-in-Ok-false g c =
    let options = c.args.self.now.options.now in
    let (read, came, after) = c.fill.ensures.filled in
    let (end, still, gone) = c.in-Ok-false.ensures.end c.in-Ok-false.field-0-test in
    let (same, left) = all_decoded c.fill.new.self.decoder.bytes
    (c.fill.new.self.chunk ++ c.fill.new.self.buffer.items) c.loop.items.decoder.bytes
    (c.loop.items.chunk ++ c.loop.items.buffer.items) read (ap (λ (held : Unread). held.bytes) after)
    (ap (λ (held : Unread). held.bytes) still) gone in
    let so_far = stays options _ _ _ _ _ _ _ c.loop.invariant.so_far _ read came same in
    let text : c.as_slice.result.now ≡ last_lines options (known_by c.loop.lines) =
    c.as_slice.ensures.value ∙ c.in_ok-add_last-in-Ok-false.ensures.text
    ∙ ap (λ (l : List ℕ). l ++ last_lines options (known_by c.loop.lines)) c.clear.ensures.items in
    let (cut, wrote_cut, begins) = c.in_err-write_whole-in-Ok-false.ensures in
    let from = err_from_is_err_and c.from_residual-in_err-write_whole-in-Ok-false.result
    c.from_residual-in_err-write_whole-in-Ok-false.ensures.1 in
    rw (from.1, from.2) (ended_cut options _ _ _ _ _ _ _ so_far _ cut end wrote_cut (subst (Begins cut) text begins))

pub returns-in-Ok-false : goal.returns-in-Ok-false
returns-in-Ok-false g c =
    let options = c.args.self.now.options.now in
    let (read, came, after) = c.fill.ensures.filled in
    let (end, still, gone) = c.in-Ok-false.ensures.end c.in-Ok-false.field-0-test in
    let (same, left) = all_decoded c.fill.new.self.decoder.bytes
    (c.fill.new.self.chunk ++ c.fill.new.self.buffer.items) c.loop.items.decoder.bytes
    (c.loop.items.chunk ++ c.loop.items.buffer.items) read (ap (λ (held : Unread). held.bytes) after)
    (ap (λ (held : Unread). held.bytes) still) gone in
    let so_far = stays options _ _ _ _ _ _ _ c.loop.invariant.so_far _ read came same in
    let text : c.as_slice.result.now ≡ last_lines options (known_by c.loop.lines) =
    c.as_slice.ensures.value ∙ c.in_ok-add_last-in-Ok-false.ensures.text
    ∙ ap (λ (l : List ℕ). l ++ last_lines options (known_by c.loop.lines)) c.clear.ensures.items in
    let (all, wrote_all, whole) = c.in_ok-write_whole-in-Ok-false.ensures in
    let rest = ap (λ (unread : Unread). unread.bytes) c.decoder.ensures ∙ left in
    let done = ended_whole options _ _ _ _ _ _ _ so_far _ all end wrote_all c.pending.result
    (c.pending.ensures ∙ ap (λ (bytes : List ℕ). length bytes) rest) (whole ∙ text) in
    rw c.add_last.ensures.offset done

pub returns-in-Err-Failed : goal.returns-in-Err-Failed
returns-in-Err-Failed g c =
    let options = c.args.self.now.options.now in
    let (read, came, after) = c.fill.ensures.filled in
    let kept : LosesNothing c.loop.items.decoder.rejected (held_in c.loop.items) (held_in c.fill.new.self)
    (reading.Failed c.in-Err-Failed.field-0-0) = rw c.in-Err-Failed.field-0-is at c.in-Err-Failed.ensures.error in
    let same = ap (λ (held : Unread). held.bytes) (sym after ∙ kept.0) in
    let so_far = stays options _ _ _ _ _ _ _ c.loop.invariant.so_far _ read came same in
    ended_input options _ _ _ _ _ _ _ so_far

pub returns-in-Err : goal.returns-in-Err
returns-in-Err g c =
    let (read, came, after) = c.fill.ensures.filled in
    ended_lack c.args.self.now.options.now _ _ _ _ _ _ _ c.loop.invariant.so_far _ read came OutOfMemory tt

pub returns-in_err-longer : goal.returns-in_err-longer
returns-in_err-longer g c =
    let options = c.args.self.now.options.now in
    let (read, came, after) = c.fill.ensures.filled in
    let here = filled options.version options.limit c.loop.lines.offset (held_in c.loop.items)
    (held_in c.fill.new.self) read c.loop.invariant.state after in
    let lack = subst (λ (state : Unread). IsLack (IsLongIn (IsLong options.version) state.version state.bytes)
    c.in_err-longer.field-0.0) here c.in_err-longer.ensures.lack in
    let from = err_from_is_err_and c.from_residual-in_err-longer.result c.from_residual-in_err-longer.ensures.1 in
    rw (from.1, from.2) (ended_lack options _ _ _ _ _ _ _ c.loop.invariant.so_far _ read came _ lack)

pub returns-in_err-write_whole : goal.returns-in_err-write_whole
returns-in_err-write_whole g c =
    let options = c.args.self.now.options.now in
    let (read, came, after) = c.fill.ensures.filled in
    let here = filled options.version options.limit c.loop.lines.offset (held_in c.loop.items)
    (held_in c.fill.new.self) read c.loop.invariant.state after in
    let bytes = (held_in c.loop.items).bytes ++ read in
    let new = c.add_held.new.self in
    let has : Option Longer → Type 0 =
    λ longer. HasAdded options options.version options.limit c.loop.lines.offset (known_by c.loop.lines) [] bytes longer
    new.offset (known_by new) new.text.items (held_in c.add_held.new.items) in
    let every : has c.in_ok-longer.longer =
    subst (λ (text : List ℕ). HasAdded options options.version options.limit c.loop.lines.offset
    (known_by c.loop.lines) text bytes c.in_ok-longer.longer new.offset (known_by new) new.text.items
    (held_in c.add_held.new.items)) c.clear-in-loop.ensures.items
    (subst (λ (state : Unread). HasAdded options state.version state.limit c.loop.lines.offset (known_by c.loop.lines)
    c.clear-in-loop.new.self.items state.bytes c.in_ok-longer.longer new.offset (known_by new) new.text.items
    (held_in c.add_held.new.items)) here c.in_ok-longer.ensures.added) in
    let (rest, added, next) = every in
    let (written, wrote, begins) = c.in_err-write_whole.ensures in
    let from = err_from_is_err_and c.from_residual-in_err-write_whole.result
    c.from_residual-in_err-write_whole.ensures.1 in
    rw (from.1, from.2) (ended_output options _ _ _ _ _ _ _ c.loop.invariant.so_far _ read came _ _ _ rest added _
    written wrote (subst (Begins written) c.as_slice-in-loop.ensures.value begins))

pub returns-in-Some : goal.returns-in-Some
returns-in-Some g c =
    let options = c.args.self.now.options.now in
    let (read, came, after) = c.fill.ensures.filled in
    let here = filled options.version options.limit c.loop.lines.offset (held_in c.loop.items)
    (held_in c.fill.new.self) read c.loop.invariant.state after in
    let bytes = (held_in c.loop.items).bytes ++ read in
    let new = c.add_held.new.self in
    let has : Option Longer → Type 0 =
    λ longer. HasAdded options options.version options.limit c.loop.lines.offset (known_by c.loop.lines) [] bytes longer
    new.offset (known_by new) new.text.items (held_in c.add_held.new.items) in
    let every : has c.in_ok-longer.longer =
    subst (λ (text : List ℕ). HasAdded options options.version options.limit c.loop.lines.offset
    (known_by c.loop.lines) text bytes c.in_ok-longer.longer new.offset (known_by new) new.text.items
    (held_in c.add_held.new.items)) c.clear-in-loop.ensures.items
    (subst (λ (state : Unread). HasAdded options state.version state.limit c.loop.lines.offset (known_by c.loop.lines)
    c.clear-in-loop.new.self.items state.bytes c.in_ok-longer.longer new.offset (known_by new) new.text.items
    (held_in c.add_held.new.items)) here c.in_ok-longer.ensures.added) in
    let some : has (Some c.in-Some.message) = subst has c.in-Some.is every in
    let (rest, added, next) = some in
    let (written, wrote, is) = c.in_ok-write_whole.ensures in
    let all_written = subst (Appends (g.W.Write.contents c.loop.output)
    (g.W.Write.contents c.write_whole-in-loop.new.output)) (is ∙ c.as_slice-in-loop.ensures.value) wrote in
    ended_long options _ _ _ _ _ _ _ c.loop.invariant.so_far _ read came _ _ _ rest added _ all_written
    c.in-Some.message next

pub loop-preserved : goal.loop-preserved
loop-preserved g c =
    let options = c.args.self.now.options.now in
    let (read, came, after) = c.fill.ensures.filled in
    let here = filled options.version options.limit c.loop.lines.offset (held_in c.loop.items)
    (held_in c.fill.new.self) read c.loop.invariant.state after in
    let bytes = (held_in c.loop.items).bytes ++ read in
    let new = c.add_held.new.self in
    let has : Option Longer → Type 0 =
    λ longer. HasAdded options options.version options.limit c.loop.lines.offset (known_by c.loop.lines) [] bytes longer
    new.offset (known_by new) new.text.items (held_in c.add_held.new.items) in
    let every : has c.in_ok-longer.longer =
    subst (λ (text : List ℕ). HasAdded options options.version options.limit c.loop.lines.offset
    (known_by c.loop.lines) text bytes c.in_ok-longer.longer new.offset (known_by new) new.text.items
    (held_in c.add_held.new.items)) c.clear-in-loop.ensures.items
    (subst (λ (state : Unread). HasAdded options state.version state.limit c.loop.lines.offset (known_by c.loop.lines)
    c.clear-in-loop.new.self.items state.bytes c.in_ok-longer.longer new.offset (known_by new) new.text.items
    (held_in c.add_held.new.items)) here c.in_ok-longer.ensures.added) in
    let none : has None = subst has c.in_default.is every in
    let (rest, added, next) = none in
    let (written, wrote, is) = c.in_ok-write_whole.ensures in
    let all_written = subst (Appends (g.W.Write.contents c.loop.output)
    (g.W.Write.contents c.write_whole-in-loop.new.output)) (is ∙ c.as_slice-in-loop.ensures.value) wrote in
    let so_far = goes_on options _ _ _ _ _ _ _ c.loop.invariant.so_far _ read came _ _ _ rest added _ all_written
    next.0 next.1 in
    let left = ap (λ (held : Unread). held.bytes) next.2 in
    record {
      counted = omega (
        arith,
        c.loop.invariant.counted,
        added.place,
        then_long options.version bytes rest added.more added.next,
        ap (λ (held : Unread). length held.bytes) here,
        c.fill.ensures.bound,
      );
      ordered = c.in_ok-longer.ensures.counted;
      state = next.2 ∙ ap (λ (l : List ℕ). holding options.version options.limit new.offset l) (sym left);
      so_far = subst (λ (l : List ℕ). GoesOn options (g.R.Read.remaining c.args.input.now)
          (g.W.Write.contents c.args.output.now) (g.R.Read.remaining c.fill.new.reader)
          (g.W.Write.contents c.write_whole-in-loop.new.output) new.offset l (known_by new)) (sym left) so_far;
    }

pub returns : goal.returns
returns g c = ended_input c.args.self.now.options.now _ _ _ _ _ _ _ c.loop.invariant.so_far
