use Rattle.std.proofs.Common.{◌≡◌, ◌∙◌, ℕ, List, Result, Some, Ok, codes, sym, subst, refl}
use Rattle.make_lines.specs.Appending.{AppendsOf}
use Rattle.make_lines.specs.Errors.{LineFault}
use Rattle.make_lines.specs.Lines.{bytes_said, line_header, header_given}
use Rattle.make_lines.specs.Members.{given}
use Rattle.make_lines.proofs.header.Head.append_header.Goals as goal

pub returns-in-Some : goal.returns-in-Some
returns-in-Some c =
    let line = c.args.line.now in
    let head = c.args.self.now in
    let bytes = c.in_ok-header.header.items in
    let is : given (codes "header") line ≡ Some c.in-Some.header = sym c.given.ensures ∙ c.in-Some.is in
    let read : bytes_said (codes "header") c.in-Some.header ≡ Ok bytes = c.in_ok-header.ensures in
    let said : line_header head.version head.coded.code head.flag c.args.size line ≡ header_given head.version
    head.coded.code head.flag c.args.size c.is_alone.result c.as_slice.result.now =
    rw (is, read, c.is_alone.ensures, c.as_slice.ensures.value) refl in
    subst (λ (r : Result (List ℕ) LineFault). AppendsOf line c.append_given.result r c.args.out.now.items
    c.append_given.new.out.items) (sym said) (c.append_given.ensures line)
