use Rattle.std.proofs.Common.{arith}
use Rattle.shared_core_runtime.specs.AwaitedLists.{Completions, NamedSignals, Signals}
use Rattle.shared_core_runtime.specs.Flattening.{messages_in}
use Rattle.shared_core_runtime.proofs.AwaitedLists.{lists_fit, runs_measured, sizes_whole, suspension_of}
use Rattle.shared_core_runtime.proofs.flat_suspension.FlatSuspension.new.Goals as goal

pub returns-then-len-ge-LIMIT : goal.returns-then-len-ge-LIMIT
returns-then-len-ge-LIMIT c =
    let ms = messages_in (suspension_of c.args.suspension.now.awaiting_on) in
    let s = c.measure_lists-sizes in
    let p = runs_measured ms c.new-runs.result c.add_run.new.size c.add_run-2.new.size s.result.completions
    s.result.signals s.ensures.fit c.new-runs.ensures (s.ensures.sum Completions) (s.ensures.sum Signals)
    c.add_run.ensures.none
    c.add_run.ensures.some c.add_run-2.ensures.none c.add_run-2.ensures.some in
    omega (
      arith,
      p.1,
      s.ensures.sum NamedSignals,
      sizes_whole ms,
      c.total.ensures.value,
      c.total-2.ensures.value,
      c.if-len-ge-LIMIT.true,
    )

pub invariant_of-result : goal.invariant_of-result
invariant_of-result c =
    let ms = messages_in (suspension_of c.args.suspension.now.awaiting_on) in
    let s = c.measure_lists-sizes in
    let p = runs_measured ms c.new-runs.result c.add_run.new.size c.add_run-2.new.size s.result.completions
    s.result.signals s.ensures.fit c.new-runs.ensures (s.ensures.sum Completions) (s.ensures.sum Signals)
    c.add_run.ensures.none
    c.add_run.ensures.some c.add_run-2.ensures.none c.add_run-2.ensures.some in
    record {
      completions = omega (
        arith,
        p.0,
        p.1,
        c.total-completions_end.ensures.value,
        c.total.ensures.value,
        c.if-len-ge-LIMIT.false,
      );
      signals = omega (
        arith,
        p.0,
        p.1,
        c.total-completions_end.ensures.value,
        c.total-signals_end.ensures.value,
        c.total.ensures.value,
        c.if-len-ge-LIMIT.false,
      );
      whole = omega (
        arith,
        p.1,
        s.ensures.sum NamedSignals,
        sizes_whole ms,
        c.total.ensures.value,
        c.total-2.ensures.value,
        c.if-len-ge-LIMIT.false,
      );
      fits = ∣ lists_fit ms s.ensures.fit ∣₁;
    }
