use Rattle.std.proofs.Common.{◌<◌, length, refl, rules}
use Rattle.std.proofs.lemmas.Result.{err_from_is_err_and}
use Rattle.make_lines.specs.Making.{making}
use Rattle.make_lines.proofs.Progress.{out_at_once, started, ended_input, ended_finish, ended_step, goes_on}
use Rattle.make_lines.proofs.maker.Maker.make.Goals as goal

pub returns-in_err-buffer : goal.returns-in_err-buffer
returns-in_err-buffer g c =
    let from = err_from_is_err_and c.from_residual.result c.from_residual.ensures.1 in
    let by = making (g.M.LineTable.messages c.args.self.now.messages.now) c.args.self.now.version in
    rw (from.1, from.2) (out_at_once by _ _)

pub loop-init : goal.loop-init
loop-init g c = record {
  empty = c.new-2.ensures.items;
  so_far = started (making (g.M.LineTable.messages c.args.self.now.messages.now) c.args.self.now.version)
      (g.R.Read.remaining c.args.input.now) (g.W.Write.contents c.args.output.now)
      c.new.result.items c.new.ensures.items;
}

pub returns-in_default : goal.returns-in_default
returns-in_default g c =
    let by = making (g.M.LineTable.messages c.args.self.now.messages.now) c.args.self.now.version in
    ended_input by _ _ _ _ _ _ c.loop.invariant.so_far _ c.in_default.ensures.bytes

pub returns-then-count-eq0 : goal.returns-then-count-eq0
returns-then-count-eq0 g c =
    let by = making (g.M.LineTable.messages c.args.self.now.messages.now) c.args.self.now.version in
    let (written, wrote, is) = c.finish.ensures in
    let (came, end) = rw c.if-count-eq0.true at c.in-Ok.ensures.bytes in
    let some : 0 < length c.read_some.new.buffer = search rules in
    ended_finish by _ _ _ _ _ _
    c.loop.invariant.so_far _ _ written c.loop.lines came (end refl some) wrote
    refl refl _ is

pub returns-in_err-step : goal.returns-in_err-step
returns-in_err-step g c =
    let from = err_from_is_err_and c.from_residual-in_err-step.result c.from_residual-in_err-step.ensures.1 in
    let by = making (g.M.LineTable.messages c.args.self.now.messages.now) c.args.self.now.version in
    let (written, wrote, is) = c.in_err-step.ensures in
    rw (from.1, from.2) (ended_step by _ _ _ _ _ _
    c.loop.invariant.so_far _ _ _ written c.loop.lines
    c.step.new.lines c.in-Ok.ensures.bytes.0 wrote refl refl _ is)

pub loop-preserved : goal.loop-preserved
loop-preserved g c =
    let by = making (g.M.LineTable.messages c.args.self.now.messages.now) c.args.self.now.version in
    let (written, wrote, is) = c.in_ok-step.ensures in
    record {
      empty = is.3;
      so_far = goes_on by _ _ _ _ _ _
          c.loop.invariant.so_far _ _ _ written c.loop.lines c.step.new.lines
          c.in-Ok.ensures.bytes.0 wrote refl refl is;
    }
