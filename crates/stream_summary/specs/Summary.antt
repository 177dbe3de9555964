-- What a description has of the items of a stream.
use Rattle.std.specs.Prelude.{ℕ, ◌+◌, ◌<◌, ◌^◌, Bool, true, false, List, [], ◌∷◌, ◌++◌, codes, string_bytes}
use Rattle.shared_core_base.specs.declared.version.Version.{Version}
use Rattle.shared_core_stream.specs.declared.encoding.item.Item.{Item}
use Rattle.shared_core_stream.specs.Limits.{payload_length}
use Rattle.stream_lines.specs.Printing.{item_size}
use Rattle.show_lines.specs.Lines.{is_command, item_facts, item_name, joins, waiting_then}
use Rattle.show_lines.specs.Waiting.{halves_view, open_lines, Waiting}
use Rattle.show_lines.specs.declared.facts.Facts.{Facts}
use Rattle.show_lines.specs.declared.facts.Role.TheVariants.{Command, Notification, Other}
use Rattle.stream_summary.specs.About.{failure_line, start_line, state_line}
use Rattle.stream_summary.specs.Counts.{count_line, count_with, no_items}
use Rattle.stream_summary.specs.Largest.{largest_lines, largest_view, largest_with, nothing_large, Longest}
use Rattle.stream_summary.specs.declared.count.Count.{Count}
use Rattle.stream_summary.specs.declared.summary.Summary.{Summary as AnySummary}

-- What is known after some items of a stream: their counts, what waits for its other half, the lines of the invocation,
-- of how it stands and of the last failure, and the items with the longest payloads.
pub record Seen : Type 0 where
  pub all : Count
  pub commands : Count
  pub notifications : Count
  pub waiting : Waiting
  pub start : List ℕ
  pub state : List ℕ
  pub failure : List ℕ
  pub largest : Longest

-- What the program has of it.
abbrev pub seen_by : AnySummary → Seen
seen_by summary = record {
  all = summary.all;
  commands = summary.commands;
  notifications = summary.notifications;
  waiting = halves_view summary.waiting.halves.entries;
  start = string_bytes summary.start;
  state = string_bytes summary.state;
  failure = string_bytes summary.failure;
  largest = largest_view summary.largest;
}

-- What is known before the first item.
abbrev pub nothing_seen : Seen
nothing_seen = record {
  all = no_items;
  commands = no_items;
  notifications = no_items;
  waiting = [];
  start = [];
  state = [];
  failure = [];
  largest = nothing_large;
}

-- Whether this is a notification.
abbrev pub is_notification : Facts → Bool
is_notification facts = elim facts.role [ Command ↦ false | Notification ↦ true | Other ↦ false ]

-- What is known after an item that has these facts, this name and this size, and a payload of this size.
abbrev pub then_known : Version → Seen → Item → Facts → List ℕ → Seen
then_known version seen item facts name = record {
  all = count_with true (item_size item) seen.all;
  commands = count_with (is_command facts) (item_size item) seen.commands;
  notifications = count_with (is_notification facts) (item_size item) seen.notifications;
  waiting = waiting_then true seen.waiting facts name;
  start = start_line version item seen.start;
  state = state_line version item;
  failure = failure_line facts.is_failure name (joins true seen.waiting facts name) seen.failure;
  largest = largest_with (record { size = payload_length item; text = name }) seen.largest;
}

-- What is known after one more item.
abbrev pub then_seen : Version → Seen → Item → Seen
then_seen version seen item =
    then_known version seen item (item_facts version item) (item_name version seen.all.items item)

-- What is known after items, before which this is known.
abbrev pub seen_after : Version → Seen → List Item → Seen
seen_after version seen [] = seen
seen_after version seen (item ∷ items) = seen_after version (then_seen version seen item) items

-- What is known of a stream of these items.
abbrev pub seen_of : Version → List Item → Seen
seen_of version items = seen_after version nothing_seen items

-- A count has room for one more item of this size.
abbrev pub HasRoom : ℕ → Count → Type 0
HasRoom size count = (count.items + 1 < 2 ^ 128) × (count.bytes + size < 2 ^ 128)

-- Each count has.
abbrev pub AllHaveRoom : ℕ → AnySummary → Type 0
AllHaveRoom size summary =
    HasRoom size summary.all × HasRoom size summary.commands × HasRoom size summary.notifications

-- The lines of the counts.
abbrev pub count_lines : Seen → List ℕ
count_lines seen = count_line (codes "items") seen.all
    ++ (count_line (codes "commands") seen.commands ++ count_line (codes "notifications") seen.notifications)

-- The lines about what is known, without those of what is open.
abbrev pub about_lines : Seen → List ℕ
about_lines seen =
    seen.start ++ (seen.state ++ (count_lines seen ++ (seen.failure ++ largest_lines seen.largest)))

-- The lines about what is known, and last those of the commands that nothing has completed.
abbrev pub description : Seen → List ℕ
description seen = about_lines seen ++ open_lines seen.waiting
