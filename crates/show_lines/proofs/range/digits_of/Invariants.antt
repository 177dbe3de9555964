use Rattle.std.proofs.Common.{◌≡◌, ◌<◌, drop}
use Rattle.show_lines.specs.Ranges.{no_digits, with_bytes}
use Rattle.show_lines.proofs.range.digits_of.Given as goal

abbrev pub invariant-loop-byte : goal.invariant-loop-byte
invariant-loop-byte l = record {
  read : with_bytes l.digits (drop l.byte-index l.text) ≡ with_bytes no_digits l.text;
  positive : 0 < l.digits.one;
}
