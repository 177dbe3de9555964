use Rattle.std.proofs.Common.{◌≡◌, ◌∙◌, ℕ, None, Ok, Some, ap, arith, refl, subst, sym}
use Rattle.std.proofs.lemmas.Result.{err_from_is_err_and}
use Rattle.shared_core_stream.proofs.Items.{then_takes}
use Rattle.shared_core_stream.specs.Items.{NoItemBegins}
use Rattle.shared_core_stream.specs.Limits.{rejection}
use Rattle.shared_core_stream.specs.Unread.{Unread}
use Rattle.shared_core_io.specs.Buffered.{held_in}
use Rattle.shared_core_io.specs.Reading.{IsTakenOf}
use Rattle.stream_lines.specs.Steps.{holding}
use Rattle.stream_lines.proofs.Progress.{added_join, added_one, lack_in, takes, then_long}
use Rattle.stream_lines.proofs.print.Lines.add_held.Goals as goal

pub add-requires : goal.add-requires
add-requires g c =
    let state = c.loop-word.invariant.state in
    let added = c.loop-word.invariant.added in
    let all_taken : IsTakenOf (held_in c.loop-word.items) (Ok (Some c.in-Ok-Some.item))
    (held_in c.take_with_word.new.self) = rw c.in-Ok-Some.field-0-is at c.in-Ok-Some.ensures.taken in
    let (accepts, taken, after) = all_taken in
    let old = held_in c.loop-word.items in
    let version = c.args.items.now.decoder.version in
    let step = takes version c.args.items.now.decoder.limit c.loop-word.self.offset old
    (held_in c.take_with_word.new.self) c.in-Ok-Some.item state taken after in
    let before = then_long version (held_in c.args.items.now).bytes old.bytes added.more added.next in
    record { next = refl; room = omega (arith, c.requires.room, added.place, before, step.1) }

pub loop-word-preserved : goal.loop-word-preserved
loop-word-preserved g c =
    let state = c.loop-word.invariant.state in
    let added = c.loop-word.invariant.added in
    let all_taken : IsTakenOf (held_in c.loop-word.items) (Ok (Some c.in-Ok-Some.item))
    (held_in c.take_with_word.new.self) = rw c.in-Ok-Some.field-0-is at c.in-Ok-Some.ensures.taken in
    let (accepts, taken, after) = all_taken in
    let old = held_in c.loop-word.items in
    let new = held_in c.take_with_word.new.self in
    let version = c.args.items.now.decoder.version in
    let limit = c.args.items.now.decoder.limit in
    let step = takes version limit c.loop-word.self.offset old new c.in-Ok-Some.item state taken after in
    let line = g.P.LinePrinter.item_line c.args.printer.now in
    let trouble = g.P.LinePrinter.item_trouble c.args.printer.now in
    let one = added_one line trouble version limit c.loop-word.self.offset c.in-Ok-Some.word c.add.new.self.offset
    c.loop-word.self.trouble c.add.new.self.trouble c.loop-word.self.text.items c.add.new.self.text.items
    old.bytes new.bytes c.in-Ok-Some.item step.0
    (rw c.in-Ok-Some.field-0-is at c.in-Ok-Some.ensures.word)
    c.in_ok-add-in-Ok-Some.ensures.line c.in_ok-add-in-Ok-Some.ensures.place c.in_ok-add-in-Ok-Some.ensures.trouble in
    record {
      state = step.2 ∙ ap (λ (n : ℕ). holding version limit n new.bytes)
          (sym c.in_ok-add-in-Ok-Some.ensures.place);
      added = added_join line trouble version limit c.args.self.now.offset c.loop-word.self.offset
          c.add.new.self.offset c.args.self.now.trouble c.loop-word.self.trouble c.add.new.self.trouble
          c.args.self.now.text.items c.loop-word.self.text.items c.add.new.self.text.items
          (held_in c.args.items.now).bytes old.bytes new.bytes added one;
    }

pub returns-in_err-add-in-Ok-Some-clause-lack : goal.returns-in_err-add-in-Ok-Some-clause-lack
returns-in_err-add-in-Ok-Some-clause-lack g c =
    let state = c.loop-word.invariant.state in
    let added = c.loop-word.invariant.added in
    let all_taken : IsTakenOf (held_in c.loop-word.items) (Ok (Some c.in-Ok-Some.item))
    (held_in c.take_with_word.new.self) = rw c.in-Ok-Some.field-0-is at c.in-Ok-Some.ensures.taken in
    let (accepts, taken, after) = all_taken in
    let old = held_in c.loop-word.items in
    let new = held_in c.take_with_word.new.self in
    let version = c.args.items.now.decoder.version in
    let all = (held_in c.args.items.now).bytes in
    let step = takes version c.args.items.now.decoder.limit c.loop-word.self.offset old new c.in-Ok-Some.item state
    taken after in
    let until = then_takes version all old.bytes new.bytes added.more c.in-Ok-Some.item added.next
    step.0.0 in
    let from = err_from_is_err_and c.from_residual.result c.from_residual.ensures.1 in
    rw (from.1, from.2) (lack_in (g.P.LinePrinter.is_long c.args.printer.now) version all new.bytes added.more
    c.in-Ok-Some.item _ until c.in_err-add-in-Ok-Some.ensures.lack)

pub returns-in-Ok-None-clause-added : goal.returns-in-Ok-None-clause-added
returns-in-Ok-None-clause-added g c =
    let state = c.loop-word.invariant.state in
    let added = c.loop-word.invariant.added in
    let all_taken : IsTakenOf (held_in c.loop-word.items) (Ok None) (held_in c.take_with_word.new.self) =
    rw c.in-Ok-None.field-0-is at c.in-Ok-None.ensures.taken in
    let (accepts, none, same) = all_taken in
    let bytes = (held_in c.loop-word.items).bytes in (
      bytes,
      added,
      (
        subst (λ (held : Unread). NoItemBegins held.version bytes) state none,
        subst (λ (held : Unread). rejection held ≡ None) state accepts,
        same ∙ state,
      ),
    )
