use Rattle.std.proofs.Common.{take, drop, sym, take-append-drop}
use Rattle.stream_lines.proofs.output.write_whole.Goals as goal

pub returns-in-Err : goal.returns-in-Err
returns-in-Err g c =
    let xs = c.args.bytes.now in
    let n = c.in-Err.field-0.written in
    (take n xs, c.in-Err.ensures.written, (drop n xs, sym (take-append-drop n xs)))
