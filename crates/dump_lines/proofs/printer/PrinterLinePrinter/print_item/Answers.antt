use Rattle.std.proofs.Common.{◌≡◌, sym, subst, rules}
use Rattle.json.specs.Lex.{tokens}
use Rattle.json.specs.Tree.{json_tokens}
use Rattle.dump_lines.specs.Lines.{item_json_in}
use Rattle.dump_lines.specs.Spread.{AreGood}
use Rattle.dump_lines.proofs.Good.{good_tokens}
use Rattle.dump_lines.proofs.printer.PrinterLinePrinter.print_item.Goals as goal

pub append_object-requires-clause-good : goal.append_object-requires-clause-good
append_object-requires-clause-good g c =
    let json = item_json_in (g.M.MessageTable.reading c.args.self.now.messages.now) c.args.self.now.options
    c.args.placed.now.offset c.args.placed.now.word c.args.placed.now.item in
    let is : tokens c.as_slice.result.now ≡ json_tokens json = search rules in
    subst AreGood (sym is) (good_tokens json)
