use Rattle.std.proofs.Common.{◌≤◌, drop, sym, refl, subst, arith, rules}
use Rattle.shared_core_parts.specs.declared.future.Future.TheFolds.{the_lemmas}
use Rattle.shared_core_parts.proofs.NestedFutures.{future_part, all_parts}
use Rattle.shared_core_codec.proofs.Backwards.{IsAfter, after_all, after_next, after_room, after_start, message_before}
use Rattle.shared_core_parts.specs.Futures.{future_parts}
use Rattle.shared_core_codec.specs.RowEncoding.{row_bytes, row_size}
use Rattle.shared_core_codec.specs.Table.{future}
use Rattle.shared_core_wire.specs.Schema.{Message, Repeated}
use Rattle.shared_core_wire.specs.Value.{Part}
use Rattle.shared_core_parts.proofs.future.+encode_future.Goals as goal

pub encode_futures-loop-i-init : goal.encode_futures-loop-i-init
encode_futures-loop-i-init t c = after_start future_part 4 (Message future) c.args.futures.now.items c.len-i.result
    c.args.end (drop c.args.end c.args.out.now) (omega arith)

pub encode_futures-encode_nested-start-requires : goal.encode_futures-encode_nested-start-requires
encode_futures-encode_nested-start-requires t c = (
  search (rules, the_lemmas),
  (
    omega (arith, c.loop-i.invariant.0),
    after_room future_part 4 (Message future) c.args.futures.now.items c.loop-i.i c.index.result.now c.args.end
        c.loop-i.start (omega arith) (omega arith) c.index.ensures refl c.loop-i.invariant.0
        (subst (λ (p : Part). row_size (Repeated 4 (Message future)) p ≤ c.args.end)
        (sym (all_parts c.args.futures.now.items)) c.requires.room),
  ),
)

pub encode_futures-loop-i-preserved : goal.encode_futures-loop-i-preserved
encode_futures-loop-i-preserved t c =
    after_next future_part 4 (Message future) c.args.futures.now.items c.loop-i.i c.index.result.now c.args.end
    c.loop-i.start c.encode_nested-start.result (drop c.args.end c.args.out.now) (drop c.loop-i.start c.loop-i.out)
    (drop c.encode_nested-start.result c.encode_nested-start.new.out) (omega arith) (omega arith)
    c.index.ensures c.encode_nested-start.ensures.start c.encode_nested-start.ensures.written c.loop-i.invariant

pub encode_futures-returns : goal.encode_futures-returns
encode_futures-returns t c =
    let b = after_all future_part 4 (Message future) c.args.futures.now.items c.loop-i.i c.args.end c.loop-i.start
    (drop c.args.end c.args.out.now) (drop c.loop-i.start c.loop-i.out) (omega arith) refl c.loop-i.invariant in
    let w = subst (λ (p : Part). IsAfter (row_bytes (Repeated 4 (Message future)) p) c.args.end c.loop-i.start
    (drop c.args.end c.args.out.now) (drop c.loop-i.start c.loop-i.out)) (all_parts c.args.futures.now.items) b in
    record { start = w.0; written = w.1 }

pub encode_nested-returns-clause-written : goal.encode_nested-returns-clause-written
encode_nested-returns-clause-written t c =
    message_before 4 future c.encode_future-start.result c.args.end (future_parts c.args.future.now) _ _ _
    c.write_length.ensures.written c.encode_future-start.ensures.start c.encode_future-start.ensures.written
