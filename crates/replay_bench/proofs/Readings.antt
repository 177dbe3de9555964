-- How a journal is read on, and surveyed.
use Rattle.std.proofs.Common.{◌≡◌, ℕ, ◌+◌, ◌≤◌, ◌<◌, ◌^◌, Bool, true, false, cond, List, [], ◌∷◌, ◌++◌, length, Option}
use Rattle.std.proofs.Common.{Some, None, refl, sym, ap, ◌∙◌, subst, arith}
use Rattle.std.specs.Prelude.{is_some, IfSome}
use Rattle.std.specs.Io.KnownBytes.{Keeps}
use Rattle.shared_core_stream.specs.Items.{IsItemsThen}
use Rattle.shared_core_base.specs.declared.version.Version.{Version}
use Rattle.shared_core_base.specs.declared.command_type.CommandType.{CommandType}
use Rattle.shared_core_base.specs.CommandType.{command_type_of}
use Rattle.shared_core_stream.specs.declared.encoding.item.Item.{Item}
use Rattle.shared_core_stream.specs.declared.encoding.item.Item.TheVariants.{Message, Unknown, Skipped}
use Rattle.shared_core_stream.specs.declared.encoding.raw_message.RawMessage.{RawMessage}
use Rattle.shared_core_stream.specs.declared.encoding.limit_error.MessageTooLong.{MessageTooLong as LongMessage}
use Rattle.shared_core_stream.proofs.Items.{then_start, then_takes}
use Rattle.stream_lines.specs.Printing.{items_size}
use Rattle.stream_lines.proofs.Progress.{then_long}
use Rattle.replay_bench.specs.declared.sources.SourceError.{SourceError}
use Rattle.replay_bench.specs.declared.sources.SourceError.TheVariants as source
use Rattle.replay_bench.specs.declared.survey.Survey.{Survey}
use Rattle.replay_bench.specs.Survey.{is_command, survey_of}
use Rattle.replay_bench.proofs.Surveys.{count_more, eight, items_size_more}
use Rattle.replay_bench.specs.declared.verdicts.ReaderError.{ReaderError}
use Rattle.replay_bench.specs.declared.verdicts.Side.{Side}
use Rattle.replay_bench.specs.Journals.{command_of, if_command}
use Rattle.replay_bench.specs.Reading.{HasRead, HasReadOn, IsKnownLast, IsKnownSurvey, IsKnownThen}
use Rattle.replay_bench.specs.Sources.{reader_error, BeginsTooLong, EndsKnown, HasLonger, MayReject, RejectsNext}
use Rattle.replay_bench.specs.Sources.{TakesKnown}
use Rattle.shared_core_stream.proofs.LongMessages.{limit_is}

-- ---- items and commands

is_found : (found : Option CommandType) (message : RawMessage) → is_some found ≡ is_some (if_command found message)
is_found None message = refl
is_found (Some command) message = refl

-- an item counts as a command where it is one
pub counts_found : (item : Item) → is_command item ≡ is_some (command_of item)
counts_found (Message message) = is_found (command_type_of message.header.ty) message
counts_found (Unknown code) = refl
counts_found (Skipped code payload) = refl

module _ (version : Version) (is_strict : Bool) where
  -- ---- the items of a journal whose bytes are known

  known_start : (first : Option (List ℕ)) → IsKnownThen version first [] first
  known_start None = tt
  known_start (Some stream) = then_start version stream

  pub known_next : (first old new : Option (List ℕ)) (items : List Item) (item : Item)
      → IsKnownThen version first items old → TakesKnown version old item new
      → IsKnownThen version first (items ++ item ∷ []) new
  known_next None old new items item before taken = tt
  known_next (Some stream) None new items item before taken = absurd before
  known_next (Some stream) (Some old) None items item before taken = absurd taken
  known_next (Some stream) (Some old) (Some new) items item before taken =
      then_takes version stream old new items item before taken

  -- a journal has as many bytes as its items, and as what is left of it
  long_by_items : (first left : Option (List ℕ)) (items : List Item) → IsKnownThen version first items left
      → 2 ^ 64 ≤ items_size items → IfSome first (λ bytes. 2 ^ 64 ≤ length bytes)
  long_by_items None left items then long = tt
  long_by_items (Some stream) None items then long = absurd then
  long_by_items (Some stream) (Some left) items then long =
      omega (arith, then_long version stream left items then, long)

  long_by_rest : (first left : Option (List ℕ)) (items : List Item) → IsKnownThen version first items left
      → IfSome left (λ bytes. 2 ^ 64 ≤ length bytes) → IfSome first (λ bytes. 2 ^ 64 ≤ length bytes)
  long_by_rest None left items then long = tt
  long_by_rest (Some stream) None items then long = absurd then
  long_by_rest (Some stream) (Some left) items then long =
      omega (arith, then_long version stream left items then, long)

  longer_by_rest : (first left : Option (List ℕ)) (items : List Item) (limit : ℕ) (message : LongMessage)
      → IsKnownThen version first items left → IfSome left (BeginsTooLong version limit message)
      → IfSome first (HasLonger version message)
  longer_by_rest None left items limit message then begins = tt
  longer_by_rest (Some stream) None items limit message then begins = absurd then
  longer_by_rest (Some stream) (Some left) items limit message then begins = record {
    items = items;
    rest = left;
    items_then = then;
    begins = subst (λ (n : ℕ). BeginsTooLong version n message left)
        (sym (limit_is version limit begins.0 left message begins.1)) begins;
  }

  -- ---- a journal is read

  pub nothing_read : (first : Option (List ℕ)) (survey : Survey) → survey ≡ survey_of version is_strict [] 0
      → HasRead version is_strict first first 0 survey
  nothing_read first survey is = record { items = []; items_then = known_start first; is = is }

  -- one item more
  pub item_noted : (first old new : Option (List ℕ)) (item : Item) (before after : Survey)
      → TakesKnown version old item new
      → ((strict : Bool) (items : List Item) → before ≡ survey_of version strict items 0
      → after ≡ survey_of version strict (items ++ item ∷ []) 0)
      → HasRead version is_strict first old 0 before → HasRead version is_strict first new 0 after
  item_noted first old new item before after taken noted read = record {
    items = read.items ++ item ∷ [];
    items_then = known_next first old new read.items item read.items_then taken;
    is = noted is_strict read.items read.is;
  }

  -- the end, with the trailing bytes
  rest_noted : (first left : Option (List ℕ)) (rest : ℕ) (before after : Survey)
      → after ≡ record before { rest = rest }
      → HasRead version is_strict first left 0 before → HasRead version is_strict first left rest after
  rest_noted first left rest before after is read = record {
    items = read.items;
    items_then = read.items_then;
    is = is ∙ ap (λ (survey : Survey). record survey { rest = rest }) read.is;
  }

  module _ (first left : Option (List ℕ)) (before : Survey) (read : HasRead version is_strict first left 0 before) where
    size_is : before.size ≡ items_size read.items
    size_is = ap (λ (s : Survey). s.size) read.is

    pub items_small : before.size < 2 ^ 64 → items_size read.items < 2 ^ 127
    items_small small = omega (arith, size_is, small)

    module _ (item : Item) (after : Survey)
        (noted : (strict : Bool) (items : List Item) → before ≡ survey_of version strict items 0
        → after ≡ survey_of version strict (items ++ item ∷ []) 0) where
      -- an item has eight bytes at least
      pub size_grows : 8 + before.size ≤ after.size
      size_grows =
          omega (
            arith,
            size_is,
            ap (λ (s : Survey). s.size) (noted is_strict read.items read.is),
            items_size_more read.items item,
            eight item,
          )

      -- the commands of one item more
      pub commands_noted : after.commands ≡ before.commands + cond (is_command item) 1 0
      commands_noted =
          ap (λ (s : Survey). s.commands) (noted is_strict read.items read.is)
          ∙ count_more is_command read.items item
          ∙ ap (λ n. n + cond (is_command item) 1 0) (sym (ap (λ (s : Survey). s.commands) read.is))

      -- the items are too long
      pub items_long : (new : Option (List ℕ)) → TakesKnown version left item new → 2 ^ 64 ≤ after.size
          → IfSome first (λ bytes. 2 ^ 64 ≤ length bytes)
      items_long new taken long =
          long_by_items first new (read.items ++ item ∷ [])
          (known_next first left new read.items item read.items_then taken)
          (subst (λ (n : ℕ). 2 ^ 64 ≤ n) (ap (λ (s : Survey). s.size) (noted is_strict read.items read.is)) long)

    -- what an error of the source says of the whole journal
    pub rejects : (side : Side) (may : Bool) (limit : ℕ) (error : SourceError)
        → RejectsNext version limit may left error → MayReject side may version limit first (reader_error side error)
    rejects side may limit source.Failed is = (refl, is)
    rejects side may limit (source.MessageTooLong message) is =
        (refl, is.0, longer_by_rest first left read.items limit message read.items_then is.1)
    rejects side may limit source.TooLong is = long_by_rest first left read.items read.items_then is
    rejects side may limit source.OutOfMemory is = tt

  -- a journal is kept
  pub kept_read : (first old new : Option (List ℕ)) (survey : Survey) → Keeps old new
      → HasRead version is_strict first old 0 survey → HasRead version is_strict first new 0 survey
  kept_read first old new survey kept read = record {
    items = read.items;
    items_then = kept_then first old new read.items kept read.items_then;
    is = read.is;
  }
    where
      kept_then : (first old new : Option (List ℕ)) (items : List Item) → Keeps old new
          → IsKnownThen version first items old → IsKnownThen version first items new
      kept_then None old new items kept then = tt
      kept_then (Some stream) None new items kept then = absurd then
      kept_then (Some stream) (Some bytes) None items kept then = absurd kept
      kept_then (Some stream) (Some bytes) (Some same) items kept then =
          subst (λ (b : List ℕ). IsItemsThen version stream items b) (sym kept) then

  -- ---- a journal that was read on

  pub on_more : (first coming : Option (List ℕ)) (survey : Survey)
      → HasReadOn version is_strict first false coming survey → HasRead version is_strict first coming 0 survey
  on_more first coming survey on =
      let (left, rest) = on.is_left in
      rw (left, rest) at on.has_read

  pub read_on : (first left : Option (List ℕ)) (survey : Survey) → HasRead version is_strict first left 0 survey
      → HasReadOn version is_strict first false left survey
  read_on first left survey read = record { left = left; rest = 0; has_read = read; is_left = (refl, refl) }

  pub read_whole : (first left coming : Option (List ℕ)) (rest : ℕ) (before after : Survey)
      → after ≡ record before { rest = rest } → EndsKnown version left rest
      → HasRead version is_strict first left 0 before → HasReadOn version is_strict first true coming after
  read_whole first left coming rest before after is end read = record {
    left = left;
    rest = rest;
    has_read = rest_noted first left rest before after is read;
    is_left = end;
  }

  whole : (first left : Option (List ℕ)) (items : List Item) (rest : ℕ) (survey : Survey)
      → IsKnownThen version first items left → EndsKnown version left rest
      → survey ≡ survey_of version is_strict items rest → IsKnownSurvey version is_strict first survey
  whole None left items rest survey then end is = tt
  whole (Some stream) None items rest survey then end is = absurd then
  whole (Some stream) (Some left) items rest survey then end is = record {
    items = items;
    rest = left;
    split = record { items_then = then; no_more = end.0 };
    is = is ∙ ap (λ (n : ℕ). survey_of version is_strict items n) end.1;
  }

  pub on_whole : (first coming : Option (List ℕ)) (survey : Survey)
      → HasReadOn version is_strict first true coming survey → IsKnownSurvey version is_strict first survey
  on_whole first coming survey on =
      whole first on.left on.has_read.items on.rest survey on.has_read.items_then on.is_left on.has_read.is

  last_of : (first left : Option (List ℕ)) (items : List Item) (rest : ℕ) (survey : Survey) (count : ℕ) (at : Option ℕ)
      → IsKnownThen version first items left → survey ≡ survey_of version is_strict items rest
      → survey.commands ≡ count → at ≡ survey.last_command → IsKnownLast version first count at
  last_of None left items rest survey count at then is counted last = tt
  last_of (Some stream) None items rest survey count at then is counted last = absurd then
  last_of (Some stream) (Some left) items rest survey count at then is counted last = record {
    items = items;
    rest = left;
    items_then = then;
    counted = sym counted ∙ ap (λ (s : Survey). s.commands) is;
    is = last ∙ ap (λ (s : Survey). s.last_command) is;
  }

  -- the last command of what was read
  pub on_last : (first coming : Option (List ℕ)) (has_ended : Bool) (survey : Survey) (count : ℕ) (at : Option ℕ)
      → HasReadOn version is_strict first has_ended coming survey → survey.commands ≡ count → at ≡ survey.last_command
      → IsKnownLast version first count at
  on_last first coming has_ended survey count at on counted last =
      last_of first on.left on.has_read.items on.rest survey count at on.has_read.items_then on.has_read.is counted last

-- the survey of a journal that was read on, and then to its end
pub finished : (version own : Version) (is_strict : Bool) (first left : Option (List ℕ))
    (has_ended ended : Bool) (before after : Survey)
    → own ≡ version → ended ≡ has_ended
    → HasReadOn version is_strict first has_ended left before
    → ((is_strict : Bool) (first : Option (List ℕ)) → HasReadOn own is_strict first ended left before
    → IsKnownSurvey own is_strict first after)
    → IsKnownSurvey version is_strict first after
finished version own is_strict first left has_ended ended before after owns ends on then =
    let known : IsKnownSurvey own is_strict first after = then is_strict first (rw (owns, ends) on) in
    rw owns at known

-- what an error of reading on says of the whole journal
pub rejected_on : (version own : Version) (is_strict : Bool) (first left : Option (List ℕ)) (has_ended ended : Bool)
    (before : Survey) (side : Side) (may : Bool) (limit : ℕ) (error : ReaderError)
    → own ≡ version → ended ≡ has_ended
    → HasReadOn version is_strict first has_ended left before
    → ((is_strict : Bool) (first : Option (List ℕ)) → HasReadOn own is_strict first ended left before
    → MayReject side may own limit first error)
    → MayReject side may version limit first error
rejected_on version own is_strict first left has_ended ended before side may limit error owns ends on then =
    let known : MayReject side may own limit first error = then is_strict first (rw (owns, ends) on) in
    rw owns at known
