use Rattle.std.proofs.Common.{◌≡◌, ℕ, ◌≤◌, ◌+◌, ◌-◌, ◌*◌, ◌++◌, drop, flat_map, length, true}
use Rattle.std.specs.List.{list_all}
use Rattle.shared_core_canonical.specs.Places.{at_place, rise_from}
use Rattle.shared_core_canonical.specs.Rows.{records_read}
use Rattle.shared_core_renumber.specs.Allowed.{nested_allows}
use Rattle.shared_core_renumber.specs.Written.{allows_found, entries_bytes, found_bytes, found_values, nested_bytes}
use Rattle.shared_core_renumber.specs.Written.{payload_bytes, records_found}
use Rattle.shared_core_renumber.proofs.write.+message.Given as goal

abbrev pub decreases-append_message : goal.decreases-append_message
decreases-append_message l = 5 * l.source.now.left + 4

abbrev pub decreases-append_group : goal.decreases-append_group
decreases-append_group l = 5 * l.source.now.left + 3

abbrev pub decreases-append_found : goal.decreases-append_found
decreases-append_found l = 5 * l.source.now.left + 2

abbrev pub decreases-append_inner : goal.decreases-append_inner
decreases-append_inner l = 5 * l.source.now.left + 1

abbrev pub decreases-append_nested : goal.decreases-append_nested
decreases-append_nested l = 5 * l.source.now.left

abbrev pub invariant-append_group-loop-found : goal.invariant-append_group-loop-found
invariant-append_group-loop-found l = record {
  allowed : list_all (allows_found (nested_allows l.entries l.source.left))
      (found_values (drop l.found-index l.group)) ≡ true;
  written : l.out.items ++ flat_map (found_bytes (nested_bytes l.entries l.source.left))
      (found_values (drop l.found-index l.group)) ≡ l.initial.out.items ++ flat_map
      (found_bytes (nested_bytes l.entries l.source.left)) (found_values l.group);
}

abbrev pub invariant-append_message-loop-entry : goal.invariant-append_message-loop-entry
invariant-append_message-loop-entry l = record {
  within : length l.rest ≤ length l.own;
  started : l.start ≤ length l.found.items;
  rising : rise_from (length l.own - length l.rest) (drop l.start l.found.items) ≡ true;
  same : (place : ℕ) → length l.own - length l.rest ≤ place → at_place place (drop l.start l.found.items) ≡ at_place
      place l.found.items;
  written : l.out.items ++ entries_bytes (nested_bytes l.entries l.source.left) l.source.schema l.before l.rest
      (records_found l.source.schema l.own (records_read l.source.left l.source.bytes.now)) ≡ l.initial.out.items ++
      payload_bytes l.entries l.source.left l.source.schema l.source.bytes.now;
}

abbrev pub decreases-append_message-loop-entry : goal.decreases-append_message-loop-entry
decreases-append_message-loop-entry l = length l.rest
