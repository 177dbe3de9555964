-- Commands at the front of a journal.
use Rattle.std.proofs.Common.{◌≡◌, ℕ, List, [], ◌∷◌, Option, Some, None, refl, sym, ap, subst}
use Rattle.std.specs.Io.KnownBytes.{Keeps}
use Rattle.shared_core_base.specs.declared.version.Version.{Version}
use Rattle.shared_core_stream.specs.declared.encoding.item.Item.{Item}
use Rattle.shared_core_stream.specs.declared.encoding.raw_message.RawMessage.{RawMessage}
use Rattle.shared_core_stream.specs.Items.{NoItemBegins, TakesItem}
use Rattle.shared_core_stream.proofs.Items.{split_of}
use Rattle.shared_core_stream.proofs.Splits.{none_is_all_rest, taken_comes_first}
use Rattle.replay_bench.specs.Journals.{IsJournal, command_of, commands_among, with_first}
use Rattle.replay_bench.specs.Sources.{EndsKnown, TakesKnown}
use Rattle.replay_bench.specs.Taking.{HasNoCommand, TakesFirst}

module _ (version : Version) where
  -- every stream is a journal
  pub journal_of : (stream : List ℕ) → (commands : List RawMessage) × IsJournal version stream commands
  journal_of stream =
      let (items, rest, split) = split_of version stream in
      (commands_among items, record { items = items; rest = rest; split = split; among = refl })

  -- where no item begins, there is no command
  pub none_begins : (stream : List ℕ) → NoItemBegins version stream → IsJournal version stream []
  none_begins stream none =
      record { items = []; rest = stream; split = none_is_all_rest version stream none; among = refl }

  -- an item in front is a command in front, if it is one
  item_in_front : (old new : List ℕ) (item : Item) (commands : List RawMessage) → TakesItem version old item new
      → IsJournal version new commands → IsJournal version old (with_first (command_of item) commands)
  item_in_front old new item commands taken is = record {
    items = item ∷ is.items;
    rest = is.rest;
    split = taken_comes_first version old new is.rest item is.items taken is.split;
    among = ap (with_first (command_of item)) is.among;
  }

  -- ---- what is known of a journal

  -- an item that is taken is the first command, if it is one
  pub takes_item : (old new : Option (List ℕ)) (item : Item) (first : Option RawMessage)
      → TakesKnown version old item new → first ≡ command_of item → TakesFirst version old first new
  takes_item None new item first taken is = tt
  takes_item (Some old) None item first taken is = absurd taken
  takes_item (Some old) (Some new) item first taken is = λ commands journal.
      subst (λ found. IsJournal version old (with_first found commands)) (sym is)
      (item_in_front old new item commands taken journal)

  pub takes_after : (old between new : Option (List ℕ)) (first : Option RawMessage)
      → TakesFirst version old None between → TakesFirst version between first new → TakesFirst version old first new
  takes_after None between new first before taken = tt
  takes_after (Some old) None new first before taken = absurd before
  takes_after (Some old) (Some between) None first before taken = absurd taken
  takes_after (Some old) (Some between) (Some new) first before taken =
      λ commands is. before (with_first first commands) (taken commands is)

  -- nothing is taken of what is kept
  pub takes_kept : (old new : Option (List ℕ)) → Keeps old new → TakesFirst version old None new
  takes_kept None new kept = tt
  takes_kept (Some old) None kept = absurd kept
  takes_kept (Some old) (Some new) kept = λ commands is.
      subst (λ (bytes : List ℕ). IsJournal version bytes commands) kept is

  -- no item begins what is left
  pub nothing_left : (left : Option (List ℕ)) (rest : ℕ) → EndsKnown version left rest → HasNoCommand version left
  nothing_left None rest end = tt
  nothing_left (Some left) rest end = none_begins left end.0

  pub nothing_after : (old new : Option (List ℕ)) → TakesFirst version old None new → HasNoCommand version new
      → HasNoCommand version old
  nothing_after None new taken none = tt
  nothing_after (Some old) None taken none = absurd taken
  nothing_after (Some old) (Some new) taken none = taken [] none
