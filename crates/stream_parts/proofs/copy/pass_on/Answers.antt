use Rattle.std.proofs.Common.{◌++◌, ◌∙◌, List, ℕ, ap, append_assoc, arith, length-append, subst, sym, take}
use Rattle.std.proofs.KnownBytes.{Appends-trans, Consumes-trans}
use Rattle.std.proofs.lemmas.List.{length-take-le}
use Rattle.std.proofs.lemmas.Result.{err_from_is_err_and}
use Rattle.std.specs.Io.KnownBytes.{Appends}
use Rattle.stream_parts.proofs.copy.pass_on.Goals as goal

pub returns-in_err-write_whole-clause-passed : goal.returns-in_err-write_whole-clause-passed
returns-in_err-write_whole-clause-passed g c =
    let (read, came, wrote, count) = c.loop-left.invariant.so_far in
    let (some, most, room, more) = c.in_ok-read.ensures.read in
    let chunk = take c.in_ok-read.read c.read_part.new.buffer in
    let (written, grown, (rest, begins)) = c.in_err-write_whole.ensures in
    let from = err_from_is_err_and c.from_residual-in_err-write_whole.result
    c.from_residual-in_err-write_whole.ensures.1 in
    rw (from.1, from.2) (
      read ++ chunk,
      read ++ written,
      Consumes-trans _ _ _ read chunk came more,
      Appends-trans _ _ _ read written wrote grown,
      (
        omega (
          arith,
          count,
          most,
          length-append read chunk,
          length-take-le c.in_ok-read.read c.read_part.new.buffer room,
        ),
        (rest, ap (λ (l : List ℕ). read ++ l) begins ∙ sym (append_assoc read written rest)),
      ),
    )

pub loop-left-preserved : goal.loop-left-preserved
loop-left-preserved g c =
    let (read, came, wrote, count) = c.loop-left.invariant.so_far in
    let (some, most, room, more) = c.in_ok-read.ensures.read in
    let chunk = take c.in_ok-read.read c.read_part.new.buffer in
    let (written, grown, is) = c.in_ok-write_whole.ensures in
    record {
      so_far = (
        read ++ chunk,
        Consumes-trans _ _ _ read chunk came more,
        Appends-trans _ _ _ read chunk wrote (subst (Appends (g.W.Write.contents c.loop-left.output)
            (g.W.Write.contents c.write_whole.new.output)) is grown),
        omega (
          arith,
          count,
          most,
          length-append read chunk,
          length-take-le c.in_ok-read.read c.read_part.new.buffer room,
        ),
      );
      room = c.read_part.ensures.room ∙ c.loop-left.invariant.room;
    }
