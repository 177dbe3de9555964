use Rattle.std.proofs.Common.{◌≡◌, ◌++◌, length, true}
use Rattle.std.specs.String.{string_bytes}
use Rattle.shared_core_json_reader.specs.FirstError.{path_text, trail_view}
use Rattle.shared_core_json_reader.proofs.read.path_text.Given as goal

abbrev pub invariant-loop-step : goal.invariant-loop-step
invariant-loop-step l = string_bytes l.text ++ path_text l.is_first (trail_view l.trail.items) ≡ path_text true
    (trail_view l.initial.trail.items)

abbrev pub decreases-loop-step : goal.decreases-loop-step
decreases-loop-step l = length l.trail.items
