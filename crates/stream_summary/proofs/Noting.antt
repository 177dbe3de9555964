-- What one more item adds, and what is written at the end.
use Rattle.std.proofs.Common.{◌≡◌, ℕ, List, [], Err, Option, None, refl, ap, ◌∙◌, true, length}
use Rattle.shared_core_base.specs.declared.version.Version.{Version}
use Rattle.shared_core_stream.specs.declared.encoding.item.Item.{Item}
use Rattle.shared_core_stream.specs.Limits.{payload_length}
use Rattle.stream_lines.specs.Printing.{item_size, items_size}
use Rattle.stream_lines.specs.declared.report.Report.{Report}
use Rattle.stream_lines.specs.declared.error.PrintError.{PrintError}
use Rattle.stream_lines.specs.declared.error.PrintError.TheVariants.{Input, Output, OutOfMemory, TooLong}
use Rattle.stream_lines.specs.declared.error.PrintError.TheVariants.{MessageTooLong}
use Rattle.show_lines.specs.Lines.{is_command, item_facts, item_name, joins, waiting_then}
use Rattle.show_lines.specs.Showing.{report_on, IsLong}
use Rattle.show_lines.specs.Waiting.{Waiting}
use Rattle.show_lines.specs.declared.facts.Facts.{Facts}
use Rattle.stream_visits.specs.Visits.{AreVisited}
use Rattle.stream_summary.specs.About.{failure_line, start_line, state_line}
use Rattle.stream_summary.specs.Counts.{count_with}
use Rattle.stream_summary.specs.Describing.{IsDescribed}
use Rattle.stream_summary.specs.Largest.{largest_with, Longest}
use Rattle.stream_summary.specs.Summary.{is_notification, then_known, then_seen, Seen}
use Rattle.stream_summary.specs.declared.count.Count.{Count}

module _ (version : Version) (seen : Seen) (item : Item) (facts : Facts) (name : List ℕ) where
  pub noted : facts ≡ item_facts version item → name ≡ item_name version seen.all.items item → (after : Seen)
      → after ≡ then_known version seen item facts name → after ≡ then_seen version seen item
  noted told named after is =
      is ∙ ap (λ (f : Facts). then_known version seen item f name) told
      ∙ ap (then_known version seen item (item_facts version item)) named

  -- what is known, of these parts
  abbrev pub known : Count → Count → Count → Waiting → List ℕ → List ℕ → List ℕ → Longest → Seen
  known all commands notifications waiting start state failure largest = record {
    all = all;
    commands = commands;
    notifications = notifications;
    waiting = waiting;
    start = start;
    state = state;
    failure = failure;
    largest = largest;
  }

  pub parts_known : (all commands notifications : Count) (waiting : Waiting) (start state failure : List ℕ)
      (largest : Longest) → all ≡ count_with true (item_size item) seen.all
      → commands ≡ count_with (is_command facts) (item_size item) seen.commands
      → notifications ≡ count_with (is_notification facts) (item_size item) seen.notifications
      → waiting ≡ waiting_then true seen.waiting facts name → start ≡ start_line version item seen.start
      → state ≡ state_line version item
      → failure ≡ failure_line facts.is_failure name (joins true seen.waiting facts name) seen.failure
      → largest ≡ largest_with (record { size = payload_length item; text = name }) seen.largest
      → known all commands notifications waiting start state failure largest
      ≡ then_known version seen item facts name
  parts_known all commands notifications waiting start state failure largest a b c d e f g h =
      rw (a, b, c, d, e, f, g, h) refl

-- nothing is written where the stream is not visited to its end
pub unvisited : (version : Version) (limit : ℕ) (seen : List Item → Type 0) (read : List ℕ) (left : Option (List ℕ))
    (error : PrintError) → AreVisited seen (IsLong version) version limit (Err error) read left
    → IsDescribed version limit (Err error) read [] left
unvisited version limit seen read left Input visited = refl
unvisited version limit seen read left OutOfMemory visited = refl
unvisited version limit seen read left TooLong visited = (visited, refl)
unvisited version limit seen read left (MessageTooLong message) visited = (visited, refl)
unvisited version limit seen read left Output visited = absurd visited

-- The report of these numbers.
abbrev pub report : ℕ → ℕ → Report
report end count = record { trouble = None; end = end; rest = count }

-- the report at the end
pub reported : (items : List Item) (rest : List ℕ) (end count : ℕ) → end ≡ items_size items → count ≡ length rest
    → report end count ≡ report_on items rest
reported items rest end count ends counted = rw (ends, counted) refl
