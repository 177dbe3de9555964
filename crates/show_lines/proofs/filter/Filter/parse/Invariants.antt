use Rattle.std.proofs.Common.{◌-◌, [], false, Result, length}
use Rattle.std.specs.StrCase.Lower.{str_to_lowercase}
use denote.Text.{Utf8}
use denote.Shadow.{shadow}
use Rattle.show_lines.specs.Words.{Reads}
use Rattle.show_lines.specs.declared.filter.Filter.{Filter}
use Rattle.show_lines.specs.declared.filter.FilterError.{FilterError}
use Rattle.show_lines.proofs.filter.Filter.parse.Given as goal

abbrev pub invariant-loop : goal.invariant-loop
invariant-loop l = record {
  utf8 : shadow (Utf8 l.rest);
  read :
      (result : Result Filter FilterError) → Reads (l.end - l.counter) l.rest l.filter.words.items l.filter.«open»
      result
      → Reads (length (str_to_lowercase l.fn.text)) (str_to_lowercase l.fn.text) [] false result;
}
