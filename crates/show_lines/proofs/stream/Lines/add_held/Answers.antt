use Rattle.std.proofs.Common.{◌≡◌, ◌∙◌, ℕ, None, Ok, Some, ap, arith, subst, sym}
use Rattle.std.proofs.lemmas.Result.{err_from_is_err_and}
use Rattle.shared_core_base.specs.declared.version.Version.{Version}
use Rattle.shared_core_stream.proofs.Items.{then_takes}
use Rattle.shared_core_stream.specs.Items.{IsItemsThen, NoItemBegins}
use Rattle.shared_core_stream.specs.Limits.{rejection, TakesWithin}
use Rattle.shared_core_stream.specs.Unread.{Unread}
use Rattle.shared_core_io.specs.Buffered.{held_in}
use Rattle.shared_core_io.specs.Reading.{IsTakenOf}
use Rattle.stream_lines.specs.Steps.{holding}
use Rattle.stream_lines.proofs.Progress.{lack_in, takes, then_long}
use Rattle.show_lines.specs.Showing.{IsLong}
use Rattle.show_lines.specs.Steps.{known_by}
use Rattle.show_lines.proofs.Progress.{added_join, added_one}
use Rattle.show_lines.proofs.stream.Lines.add_held.Goals as goal

pub add-requires : goal.add-requires
add-requires g c =
    let added = c.loop-item.invariant.added in
    let all_taken : IsTakenOf (held_in c.loop-item.items) (Ok (Some c.in-Ok-Some.item))
    (held_in c.take_with_word.new.self) = rw c.in-Ok-Some.field-0-is at c.in-Ok-Some.ensures.taken in
    let (accepts, taken, after) = all_taken in
    let old = held_in c.loop-item.items in
    let version = c.args.items.now.decoder.version in
    let step = takes version c.args.items.now.decoder.limit c.loop-item.self.offset old
    (held_in c.take_with_word.new.self) c.in-Ok-Some.item c.loop-item.invariant.state taken after in
    let next = subst (λ (v : Version). IsItemsThen v (held_in c.args.items.now).bytes added.more old.bytes)
    (sym c.requires.version) added.next in
    let before = then_long version (held_in c.args.items.now).bytes old.bytes added.more next in
    record {
      room = omega (arith, c.requires.room, added.place, before, step.1);
      counted = c.loop-item.invariant.counted;
    }

pub loop-item-preserved : goal.loop-item-preserved
loop-item-preserved g c =
    let added = c.loop-item.invariant.added in
    let all_taken : IsTakenOf (held_in c.loop-item.items) (Ok (Some c.in-Ok-Some.item))
    (held_in c.take_with_word.new.self) = rw c.in-Ok-Some.field-0-is at c.in-Ok-Some.ensures.taken in
    let (accepts, taken, after) = all_taken in
    let old = held_in c.loop-item.items in
    let new = held_in c.take_with_word.new.self in
    let options = c.args.showing.now.options.now in
    let limit = c.args.items.now.decoder.limit in
    let step = takes c.args.items.now.decoder.version limit c.loop-item.self.offset old new c.in-Ok-Some.item
    c.loop-item.invariant.state taken after in
    let here = subst (λ (v : Version). TakesWithin v limit old.bytes c.in-Ok-Some.item new.bytes) c.requires.version
    step.0 in
    let one = added_one options limit c.loop-item.self.offset c.add.new.self.offset (known_by c.loop-item.self)
    (known_by c.add.new.self) c.loop-item.self.text.items c.add.new.self.text.items old.bytes new.bytes
    c.in-Ok-Some.item here c.in_ok-add-in-Ok-Some.ensures.line c.in_ok-add-in-Ok-Some.ensures.place
    c.in_ok-add-in-Ok-Some.ensures.known in
    record {
      state = step.2 ∙ ap (λ (n : ℕ). holding c.args.items.now.decoder.version limit n new.bytes)
          (sym c.in_ok-add-in-Ok-Some.ensures.place);
      added = added_join options limit c.args.self.now.offset c.loop-item.self.offset c.add.new.self.offset
          (known_by c.args.self.now) (known_by c.loop-item.self) (known_by c.add.new.self)
          c.args.self.now.text.items c.loop-item.self.text.items c.add.new.self.text.items
          (held_in c.args.items.now).bytes old.bytes new.bytes added one;
      counted = c.in_ok-add-in-Ok-Some.ensures.counted;
    }

pub loop-item-preserved-in_ok-add-in-Ok-Some : goal.loop-item-preserved-in_ok-add-in-Ok-Some
loop-item-preserved-in_ok-add-in-Ok-Some g c =
    let added = c.loop-item.invariant.added in
    let all_taken : IsTakenOf (held_in c.loop-item.items) (Ok (Some c.in-Ok-Some.item))
    (held_in c.take_with_word.new.self) = rw c.in-Ok-Some.field-0-is at c.in-Ok-Some.ensures.taken in
    let (accepts, taken, after) = all_taken in
    let old = held_in c.loop-item.items in
    let new = held_in c.take_with_word.new.self in
    let options = c.args.showing.now.options.now in
    let limit = c.args.items.now.decoder.limit in
    let step = takes c.args.items.now.decoder.version limit c.loop-item.self.offset old new c.in-Ok-Some.item
    c.loop-item.invariant.state taken after in
    let here = subst (λ (v : Version). TakesWithin v limit old.bytes c.in-Ok-Some.item new.bytes) c.requires.version
    step.0 in
    let one = added_one options limit c.loop-item.self.offset c.add.new.self.offset (known_by c.loop-item.self)
    (known_by c.add.new.self) c.loop-item.self.text.items c.add.new.self.text.items old.bytes new.bytes
    c.in-Ok-Some.item here c.in_ok-add-in-Ok-Some.ensures.line c.in_ok-add-in-Ok-Some.ensures.place
    c.in_ok-add-in-Ok-Some.ensures.known in
    record {
      state = step.2 ∙ ap (λ (n : ℕ). holding c.args.items.now.decoder.version limit n new.bytes)
          (sym c.in_ok-add-in-Ok-Some.ensures.place);
      added = added_join options limit c.args.self.now.offset c.loop-item.self.offset c.add.new.self.offset
          (known_by c.args.self.now) (known_by c.loop-item.self) (known_by c.add.new.self)
          c.args.self.now.text.items c.loop-item.self.text.items c.add.new.self.text.items
          (held_in c.args.items.now).bytes old.bytes new.bytes added one;
      counted = c.in_ok-add-in-Ok-Some.ensures.counted;
    }

pub loop-item-preserved-in_ok-add-in-Ok-Some-2 : goal.loop-item-preserved-in_ok-add-in-Ok-Some-2
loop-item-preserved-in_ok-add-in-Ok-Some-2 g c =
    let added = c.loop-item.invariant.added in
    let all_taken : IsTakenOf (held_in c.loop-item.items) (Ok (Some c.in-Ok-Some.item))
    (held_in c.take_with_word.new.self) = rw c.in-Ok-Some.field-0-is at c.in-Ok-Some.ensures.taken in
    let (accepts, taken, after) = all_taken in
    let old = held_in c.loop-item.items in
    let new = held_in c.take_with_word.new.self in
    let options = c.args.showing.now.options.now in
    let limit = c.args.items.now.decoder.limit in
    let step = takes c.args.items.now.decoder.version limit c.loop-item.self.offset old new c.in-Ok-Some.item
    c.loop-item.invariant.state taken after in
    let here = subst (λ (v : Version). TakesWithin v limit old.bytes c.in-Ok-Some.item new.bytes) c.requires.version
    step.0 in
    let one = added_one options limit c.loop-item.self.offset c.add.new.self.offset (known_by c.loop-item.self)
    (known_by c.add.new.self) c.loop-item.self.text.items c.add.new.self.text.items old.bytes new.bytes
    c.in-Ok-Some.item here c.in_ok-add-in-Ok-Some.ensures.line c.in_ok-add-in-Ok-Some.ensures.place
    c.in_ok-add-in-Ok-Some.ensures.known in
    record {
      state = step.2 ∙ ap (λ (n : ℕ). holding c.args.items.now.decoder.version limit n new.bytes)
          (sym c.in_ok-add-in-Ok-Some.ensures.place);
      added = added_join options limit c.args.self.now.offset c.loop-item.self.offset c.add.new.self.offset
          (known_by c.args.self.now) (known_by c.loop-item.self) (known_by c.add.new.self)
          c.args.self.now.text.items c.loop-item.self.text.items c.add.new.self.text.items
          (held_in c.args.items.now).bytes old.bytes new.bytes added one;
      counted = c.in_ok-add-in-Ok-Some.ensures.counted;
    }

pub loop-item-preserved-in_ok-add-in-Ok-Some-3 : goal.loop-item-preserved-in_ok-add-in-Ok-Some-3
loop-item-preserved-in_ok-add-in-Ok-Some-3 g c =
    let added = c.loop-item.invariant.added in
    let all_taken : IsTakenOf (held_in c.loop-item.items) (Ok (Some c.in-Ok-Some.item))
    (held_in c.take_with_word.new.self) = rw c.in-Ok-Some.field-0-is at c.in-Ok-Some.ensures.taken in
    let (accepts, taken, after) = all_taken in
    let old = held_in c.loop-item.items in
    let new = held_in c.take_with_word.new.self in
    let options = c.args.showing.now.options.now in
    let limit = c.args.items.now.decoder.limit in
    let step = takes c.args.items.now.decoder.version limit c.loop-item.self.offset old new c.in-Ok-Some.item
    c.loop-item.invariant.state taken after in
    let here = subst (λ (v : Version). TakesWithin v limit old.bytes c.in-Ok-Some.item new.bytes) c.requires.version
    step.0 in
    let one = added_one options limit c.loop-item.self.offset c.add.new.self.offset (known_by c.loop-item.self)
    (known_by c.add.new.self) c.loop-item.self.text.items c.add.new.self.text.items old.bytes new.bytes
    c.in-Ok-Some.item here c.in_ok-add-in-Ok-Some.ensures.line c.in_ok-add-in-Ok-Some.ensures.place
    c.in_ok-add-in-Ok-Some.ensures.known in
    record {
      state = step.2 ∙ ap (λ (n : ℕ). holding c.args.items.now.decoder.version limit n new.bytes)
          (sym c.in_ok-add-in-Ok-Some.ensures.place);
      added = added_join options limit c.args.self.now.offset c.loop-item.self.offset c.add.new.self.offset
          (known_by c.args.self.now) (known_by c.loop-item.self) (known_by c.add.new.self)
          c.args.self.now.text.items c.loop-item.self.text.items c.add.new.self.text.items
          (held_in c.args.items.now).bytes old.bytes new.bytes added one;
      counted = c.in_ok-add-in-Ok-Some.ensures.counted;
    }

pub loop-item-preserved-in_ok-add-in-Ok-Some-4 : goal.loop-item-preserved-in_ok-add-in-Ok-Some-4
loop-item-preserved-in_ok-add-in-Ok-Some-4 g c =
    let added = c.loop-item.invariant.added in
    let all_taken : IsTakenOf (held_in c.loop-item.items) (Ok (Some c.in-Ok-Some.item))
    (held_in c.take_with_word.new.self) = rw c.in-Ok-Some.field-0-is at c.in-Ok-Some.ensures.taken in
    let (accepts, taken, after) = all_taken in
    let old = held_in c.loop-item.items in
    let new = held_in c.take_with_word.new.self in
    let options = c.args.showing.now.options.now in
    let limit = c.args.items.now.decoder.limit in
    let step = takes c.args.items.now.decoder.version limit c.loop-item.self.offset old new c.in-Ok-Some.item
    c.loop-item.invariant.state taken after in
    let here = subst (λ (v : Version). TakesWithin v limit old.bytes c.in-Ok-Some.item new.bytes) c.requires.version
    step.0 in
    let one = added_one options limit c.loop-item.self.offset c.add.new.self.offset (known_by c.loop-item.self)
    (known_by c.add.new.self) c.loop-item.self.text.items c.add.new.self.text.items old.bytes new.bytes
    c.in-Ok-Some.item here c.in_ok-add-in-Ok-Some.ensures.line c.in_ok-add-in-Ok-Some.ensures.place
    c.in_ok-add-in-Ok-Some.ensures.known in
    record {
      state = step.2 ∙ ap (λ (n : ℕ). holding c.args.items.now.decoder.version limit n new.bytes)
          (sym c.in_ok-add-in-Ok-Some.ensures.place);
      added = added_join options limit c.args.self.now.offset c.loop-item.self.offset c.add.new.self.offset
          (known_by c.args.self.now) (known_by c.loop-item.self) (known_by c.add.new.self)
          c.args.self.now.text.items c.loop-item.self.text.items c.add.new.self.text.items
          (held_in c.args.items.now).bytes old.bytes new.bytes added one;
      counted = c.in_ok-add-in-Ok-Some.ensures.counted;
    }

pub returns-in_err-add-in-Ok-Some-clause-lack : goal.returns-in_err-add-in-Ok-Some-clause-lack
returns-in_err-add-in-Ok-Some-clause-lack g c =
    let added = c.loop-item.invariant.added in
    let all_taken : IsTakenOf (held_in c.loop-item.items) (Ok (Some c.in-Ok-Some.item))
    (held_in c.take_with_word.new.self) = rw c.in-Ok-Some.field-0-is at c.in-Ok-Some.ensures.taken in
    let (accepts, taken, after) = all_taken in
    let old = held_in c.loop-item.items in
    let new = held_in c.take_with_word.new.self in
    let version = c.args.items.now.decoder.version in
    let all = (held_in c.args.items.now).bytes in
    let step = takes version c.args.items.now.decoder.limit c.loop-item.self.offset old new c.in-Ok-Some.item
    c.loop-item.invariant.state taken after in
    let next = subst (λ (v : Version). IsItemsThen v all added.more old.bytes) (sym c.requires.version) added.next in
    let until = then_takes version all old.bytes new.bytes added.more c.in-Ok-Some.item next step.0.0 in
    let from = err_from_is_err_and c.from_residual.result c.from_residual.ensures.1 in
    rw (from.1, from.2) (lack_in (IsLong c.args.showing.now.options.now.version) version all new.bytes added.more
    c.in-Ok-Some.item _ until c.in_err-add-in-Ok-Some.ensures.lack)

pub returns-in-Ok-None-clause-added : goal.returns-in-Ok-None-clause-added
returns-in-Ok-None-clause-added g c =
    let state = c.loop-item.invariant.state in
    let all_taken : IsTakenOf (held_in c.loop-item.items) (Ok None) (held_in c.take_with_word.new.self) =
    rw c.in-Ok-None.field-0-is at c.in-Ok-None.ensures.taken in
    let (accepts, none, same) = all_taken in
    let bytes = (held_in c.loop-item.items).bytes in (
      bytes,
      c.loop-item.invariant.added,
      (
        subst (λ (held : Unread). NoItemBegins held.version bytes) state none,
        subst (λ (held : Unread). rejection held ≡ None) state accepts,
        same ∙ state,
      ),
    )
