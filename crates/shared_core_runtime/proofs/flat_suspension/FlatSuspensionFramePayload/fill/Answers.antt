use Rattle.std.proofs.Common.{◌≡◌, List, ap, subst, length, arith}
use Rattle.std.proofs.Math.Logic.{∥∥₁_elim}
use Rattle.shared_core_wire.specs.Fitting.{Fits}
use Rattle.shared_core_wire.specs.Value.{Parts}
use Rattle.shared_core_codec.specs.Table.{suspension_v6, table}
use Rattle.shared_core_parts.specs.Futures.{future_parts}
use Rattle.shared_core_runtime.specs.AwaitedLists.{Completions, NamedSignals, Signals, awaited_list, list_row_size}
use Rattle.shared_core_runtime.specs.AwaitedLists.{of_list}
use Rattle.shared_core_runtime.specs.Flattening.{awaited_lists, messages_in, preorder}
use Rattle.shared_core_runtime.proofs.AwaitedLists.{by_list, list_fits, list_prop, lists_written, nothing_awaited}
use Rattle.shared_core_runtime.proofs.AwaitedLists.{nothing_written, sizes_whole, something_awaited, suspension_of}
use Rattle.shared_core_runtime.proofs.flat_suspension.FlatSuspensionFramePayload.fill.Goals as goal

pub returns-in_default : goal.returns-in_default
returns-in_default c =
    let awaited = c.args.self.now.suspension.now.awaiting_on in
    nothing_written (messages_in (suspension_of awaited)) c.args.out.now (nothing_awaited awaited c.in_default.is)
    c.requires.len

pub split_at_mut-runs-requires : goal.split_at_mut-runs-requires
split_at_mut-runs-requires c = omega (
  arith,
  c.requires.len,
  c.args.self.now.completions,
  c.args.self.now.signals,
  sizes_whole (messages_in (suspension_of c.args.self.now.suspension.now.awaiting_on)),
)

pub write_lists-requires-clause-len : goal.write_lists-requires-clause-len
write_lists-requires-clause-len c =
    let flat = c.args.self.now in
    let ms = messages_in (suspension_of flat.suspension.now.awaiting_on) in
    let ns = preorder (future_parts c.in-Some.future) in
    let same : ms ≡ ns = something_awaited flat.suspension.now.awaiting_on c.in-Some.future c.in-Some.is in
    by_list (λ list. length (of_list list c.split_at_mut-completions.result.0.now
    c.split_at_mut-completions.result.1.now c.split_at_mut-runs.result.1.now) ≡ list_row_size list ns)
    (omega (
      arith,
      c.split_at_mut-completions.ensures.front_len,
      flat.completions,
      ap
          (λ (ms : List Parts). list_row_size Completions ms) same,
    ))
    (omega (
      arith,
      c.split_at_mut-runs.ensures.front_len,
      c.split_at_mut-completions.ensures.back_len,
      flat.completions,
      flat.signals,
      ap (λ (ms : List Parts). list_row_size Signals ms) same,
    ))
    (omega (
      arith,
      c.requires.len,
      c.split_at_mut-runs.ensures.back_len,
      flat.completions,
      flat.signals,
      sizes_whole ms,
      ap (λ (ms : List Parts). list_row_size NamedSignals ms) same,
    ))

pub write_lists-requires-clause-fit : goal.write_lists-requires-clause-fit
write_lists-requires-clause-fit c =
    let flat = c.args.self.now in
    let ns = preorder (future_parts c.in-Some.future) in
    let same : messages_in (suspension_of flat.suspension.now.awaiting_on) ≡ ns = something_awaited
    flat.suspension.now.awaiting_on c.in-Some.future c.in-Some.is in
    λ list. ∥∥₁_elim flat.fits (list_prop list (awaited_list list ns))
    (λ f. list_fits list ns (subst (λ (ms : List Parts). Fits table (awaited_lists ms) (table suspension_v6)) same
    f))

pub returns : goal.returns
returns c =
    let flat = c.args.self.now in
    lists_written (messages_in (suspension_of flat.suspension.now.awaiting_on))
    (preorder (future_parts c.in-Some.future)) c.write_lists.new.completions c.write_lists.new.signals
    c.write_lists.new.names
    (something_awaited flat.suspension.now.awaiting_on c.in-Some.future c.in-Some.is)
    (c.write_lists.ensures Completions) (c.write_lists.ensures Signals) (c.write_lists.ensures NamedSignals)
