use Rattle.std.proofs.Common.{◌∙◌, ap, refl, subst, sym}
use Rattle.shared_core_stream.specs.Unread.{fresh, Unread}
use Rattle.stream_lines.proofs.Progress.{HasEnded}
use Rattle.stream_lines.proofs.print.print_lines.Goals as goal

pub print_all-requires : goal.print_all-requires
print_all-requires g c =
    let nothing = c.new-items.ensures in
    record {
      nothing = nothing ∙ ap (λ (held : Unread). fresh held.version held.limit) (sym nothing);
      start = refl;
      no_trouble = refl;
    }

pub returns : goal.returns
returns g c = subst (λ (held : Unread). HasEnded (g.P.LinePrinter.item_line c.args.printer.now)
    (g.P.LinePrinter.rest_line c.args.printer.now) (g.P.LinePrinter.is_long c.args.printer.now)
    (g.P.LinePrinter.item_trouble c.args.printer.now) held.version held.limit
    (g.R.Read.remaining c.args.input.now) (g.W.Write.contents c.args.output.now)
    (g.R.Read.remaining c.print_all.new.input) (g.W.Write.contents c.print_all.new.output) c.print_all.result)
    c.new-items.ensures c.print_all.ensures
