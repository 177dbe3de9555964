use Rattle.std.proofs.Common.{◌≡◌, ◌≤◌, length, arith}
use Rattle.shared_core_parts.specs.Futures.{future_parts}
use Rattle.shared_core_runtime.specs.AwaitedLists.{Completions, NamedSignals, Signals, awaited_list, list_bytes}
use Rattle.shared_core_runtime.specs.AwaitedLists.{list_row, of_list}
use Rattle.shared_core_runtime.specs.Flattening.{preorder}
use Rattle.shared_core_runtime.proofs.AwaitedLists.{at_end, by_list, elements_room, head_room, head_written}
use Rattle.shared_core_runtime.proofs.AwaitedLists.{names_written}
use Rattle.shared_core_runtime.proofs.flat_suspension.write_lists.Goals as goal

pub write_future-requires-clause-room : goal.write_future-requires-clause-room
write_future-requires-clause-room c =
    let ms = preorder (future_parts c.args.future.now) in
    by_list (λ list. length (list_bytes list (awaited_list list ms)) ≤ of_list list (length c.args.completions.now)
    (length c.args.signals.now) (length c.args.names.now))
    (omega (arith, c.requires.len Completions, elements_room Completions ms))
    (omega (arith, c.requires.len Signals, elements_room Signals ms))
    (omega (arith, c.requires.len NamedSignals, elements_room NamedSignals ms))

pub write_head-requires : goal.write_head-requires
write_head-requires c = record {
  room = head_room 1 (awaited_list Completions (preorder (future_parts c.args.future.now)))
      (length c.write_future.new.completions) c.write_future.new.ends.completions (c.requires.fit Completions)
      (omega (arith, c.requires.len Completions))
      (omega (arith, c.write_future.ensures.starts Completions));
}

pub write_head-requires-2 : goal.write_head-requires-2
write_head-requires-2 c = record {
  room = head_room 2 (awaited_list Signals (preorder (future_parts c.args.future.now)))
      (length c.write_future.new.signals) c.write_future.new.ends.signals (c.requires.fit Signals)
      (omega (arith, c.requires.len Signals))
      (omega (arith, c.write_future.ensures.starts Signals));
}

pub returns : goal.returns
returns c =
    let ms = preorder (future_parts c.args.future.now) in
    by_list (λ list. of_list list c.write_head.new.out c.write_head-2.new.out c.write_future.new.names ≡ list_row list
    ms)
    (head_written 1 (awaited_list Completions ms) c.write_future.new.ends.completions c.write_future.new.completions
    c.write_head.new.out (c.requires.fit Completions) (omega (arith, c.requires.len Completions))
    (omega (arith, c.write_future.ensures.starts Completions))
    (at_end c.args.completions.now _ _ (c.write_future.ensures.written Completions)) c.write_head.ensures.none
    c.write_head.ensures.some)
    (head_written 2 (awaited_list Signals ms) c.write_future.new.ends.signals c.write_future.new.signals
    c.write_head-2.new.out (c.requires.fit Signals) (omega (arith, c.requires.len Signals))
    (omega (arith, c.write_future.ensures.starts Signals)) (at_end c.args.signals.now _ _
    (c.write_future.ensures.written Signals)) c.write_head-2.ensures.none c.write_head-2.ensures.some)
    (names_written c.write_future.new.ends.names c.args.names.now c.write_future.new.names (list_row NamedSignals ms)
    (c.write_future.ensures.starts NamedSignals) (c.requires.len NamedSignals)
    (c.write_future.ensures.written NamedSignals))
