use Rattle.std.proofs.Common.{◌≡◌, drop, map}
use Rattle.show_lines.specs.Ranges.{unit_of, without_unit}
use Rattle.show_lines.proofs.range.without_unit.Given as goal

abbrev pub invariant-loop-unit : goal.invariant-loop-unit
invariant-loop-unit l =
    without_unit (drop l.unit-index (map unit_of l.units)) l.text ≡ without_unit (map unit_of l.units) l.text
