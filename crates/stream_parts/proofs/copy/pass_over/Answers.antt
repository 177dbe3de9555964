use Rattle.std.proofs.Common.{◌++◌, ◌∙◌, arith, length-append, take}
use Rattle.std.proofs.KnownBytes.{Consumes-trans}
use Rattle.std.proofs.lemmas.List.{length-take-le}
use Rattle.stream_parts.proofs.copy.pass_over.Goals as goal

pub loop-left-preserved : goal.loop-left-preserved
loop-left-preserved g c =
    let (read, came, count) = c.loop-left.invariant.so_far in
    let (some, most, room, more) = c.in_ok-left.ensures.read in
    let chunk = take c.in_ok-left.field-0 c.read_part.new.buffer in
    record {
      so_far = (
        read ++ chunk,
        Consumes-trans _ _ _ read chunk came more,
        omega (
          arith,
          count,
          most,
          length-append read chunk,
          length-take-le c.in_ok-left.field-0 c.read_part.new.buffer room,
        ),
      );
      room = c.read_part.ensures.room ∙ c.loop-left.invariant.room;
    }
