-- What the checks of a whole replay say is the outcome of two journals.
use Rattle.std.proofs.Common.{◌≡◌, ◌∙◌, ◌⊎◌, ℕ, ◌+◌, ◌<◌, Bool, true, false, cond, List, [], ◌∷◌, ◌++◌, length}
use Rattle.std.proofs.Common.{take, drop, Option, Some, None, Result, Ok, Err, MatchBool, refl, sym, ap, subst, arith}
use Rattle.std.proofs.Common.{inl, inr, append-nil, append_assoc, length-append}
use Rattle.std.proofs.Math.Seq.{take-append_seam}
use Rattle.std.specs.Prelude.{IsSome, MatchOption, nat_lt, nat_le, option_map, slice_index}
use Rattle.std.proofs.lemmas.Bool.{le-leb, ltb-false}
use Rattle.shared_core_base.specs.declared.command_type.CommandType.{CommandType}
use Rattle.shared_core_base.specs.declared.version.Version.{Version}
use Rattle.shared_core_base.specs.CommandType.{command_type_of}
use Rattle.shared_core_stream.specs.declared.encoding.item.Item.{Item}
use Rattle.shared_core_stream.specs.declared.encoding.item.Item.TheVariants.{Message}
use Rattle.shared_core_stream.specs.declared.encoding.raw_message.RawMessage.{RawMessage}
use Rattle.shared_core_stream.specs.Items.{AreItems, IsItem, IsItemsThen, SplitsInto, TakesItem}
use Rattle.shared_core_stream.proofs.Items.{one_item, split_of, then_join, then_start, then_takes}
use Rattle.stream_lines.specs.Printing.{items_size}
use Rattle.stream_lines.proofs.Progress.{rest_after}
use Rattle.replay_bench.specs.declared.journals.Ignored.{Ignored}
use Rattle.replay_bench.specs.declared.verdicts.Side.TheVariants.{Recorded, Replayed}
use Rattle.replay_bench.specs.Journals.{IsCommand, IsJournal, command_of, commands_among, if_command, with_first}
use Rattle.replay_bench.specs.Outcomes.{NotWellFormed, OtherCommand, OtherType, Outcome, RecordedEnds, ReplayedEnds}
use Rattle.replay_bench.specs.Outcomes.{SameCommands}
use Rattle.replay_bench.specs.Verdicts.{AreAlike, IsOutcome}
use Rattle.replay_bench.proofs.OneOutcome.{journals_have_one_outcome}
use Rattle.journal_c_api.specs.declared.outcome.CallError.{CallError}
use Rattle.journal_c_api.specs.declared.outcome.CallError.TheVariants.{NoRoom, TooLong, UnknownOption}
use Rattle.journal_c_api.specs.declared.replays.Around.{Around}
use Rattle.journal_c_api.specs.declared.replays.Checked.{Checked}
use Rattle.journal_c_api.specs.declared.replays.Checked.TheVariants.{Left, Passed}
use Rattle.journal_c_api.specs.declared.replays.Place.{Place}
use Rattle.journal_c_api.specs.declared.replays.Recorded.{Recorded as RecordedCommand}
use Rattle.journal_c_api.specs.Journals.{verdict_numbers, verdict_text}
use Rattle.journal_c_api.specs.Outcomes.{AtVersion, supported_version, written_over}
use Rattle.journal_c_api.specs.Replays.{command_given, command_numbers, ignored_by, is_beyond, message_of}
use Rattle.journal_c_api.specs.Replays.{mismatch_numbers}
use Rattle.journal_c_api.specs.Replays.{offset_after, place_in, place_numbers, AtPlace, ChecksItem, ChecksPair, EndsAt}
use Rattle.journal_c_api.specs.Replays.{HasText, IsAround, IsLast, IsNext, ReturnsCheck, ReturnsChecked}
use Rattle.journal_c_api.specs.Replays.{ReturnsFinish, ReturnsReplayText, Tells, TellsItem, WithOptions, WritesCheck}
use Rattle.journal_c_api.specs.Replays.{WritesChecked, WritesFinish, WritesMismatch}
use Rattle.journal_c_api.specs.WholeReplays.{ItemGiven, Pass, commands_given, first_numbers, IsReplayed}

-- ---- commands among items

with_first_join : {A : Type 0} (found : Option A) (xs ys : List A)
    → with_first found (xs ++ ys) ≡ with_first found xs ++ ys
with_first_join (Some x) xs ys = refl
with_first_join None xs ys = refl

among_join : (items others : List Item)
    → commands_among (items ++ others) ≡ commands_among items ++ commands_among others
among_join [] others = refl
among_join (item ∷ items) others =
    ap (with_first (command_of item)) (among_join items others)
    ∙ with_first_join (command_of item) (commands_among items) (commands_among others)

command_is : (m : RawMessage) → IsCommand m → command_of (Message m) ≡ Some m
command_is m = by_type (command_type_of m.header.ty)
  where
    by_type : (found : Option CommandType) → IsSome found → if_command found m ≡ Some m
    by_type (Some command) is = refl
    by_type None is = absurd cc

-- ---- items at the end of others

sizes_join : (items others : List Item) → items_size (items ++ others) ≡ items_size items + items_size others
sizes_join [] others = omega arith
sizes_join (item ∷ items) others = omega (arith, sizes_join items others)

module _ (version : Version) where
  last_of : (items : List Item) (item : Item) (front : List ℕ) → AreItems version front (items ++ item ∷ [])
      → (head tail : List ℕ) × AreItems version head items × IsItem version tail item × (front ≡ head ++ tail)
  last_of [] item front (first, others, is, none, splits) =
      ([], first, refl, is, splits ∙ ap (λ (l : List ℕ). first ++ l) none ∙ append-nil first)
  last_of (one ∷ items) item front (first, others, is, are, splits) =
      let (head, tail, all, last, joined) = last_of items item others are in (
        first ++ head,
        tail,
        (first, head, is, all, refl),
        last,
        splits ∙ ap (λ (l : List ℕ). first ++ l) joined ∙ sym (append_assoc first head tail),
      )

  -- items and one more are taken: before the last one others were
  then_last : (stream rest : List ℕ) (items : List Item) (item : Item)
      → IsItemsThen version stream (items ++ item ∷ []) rest
      → (middle : List ℕ) × IsItemsThen version stream items middle × TakesItem version middle item rest
  then_last stream rest items item h =
      let (head, tail, all, last, joined) = last_of items item h.front h.encoded in (
        tail ++ rest,
        record {
          front = head;
          encoded = all;
          whole = h.whole ∙ ap (λ (l : List ℕ). l ++ rest) joined ∙ append_assoc head tail rest;
        },
        (tail, last, refl),
      )

  -- the commands of a stream are those of its first items, and those of the rest
  journal_join : (stream middle : List ℕ) (items : List Item) (commands : List RawMessage)
      → IsItemsThen version stream items middle → IsJournal version middle commands
      → IsJournal version stream (commands_among items ++ commands)
  journal_join stream middle items commands first is = record {
    items = items ++ is.items;
    rest = is.rest;
    split = record {
      items_then = then_join version stream middle is.rest items is.items first is.split.items_then;
      no_more = is.split.no_more;
    };
    among = ap (λ (l : List RawMessage). commands_among items ++ l) is.among ∙ sym (among_join items is.items);
  }

  next_in_front : (stream rest : List ℕ) (before : List Item) (m : RawMessage) (commands : List RawMessage)
      → IsItemsThen version stream (before ++ Message m ∷ []) rest → commands_among before ≡ [] → IsCommand m
      → IsJournal version rest commands → IsJournal version stream (m ∷ commands)
  next_in_front stream rest before m commands h none command is =
      subst (λ (l : List RawMessage). IsJournal version stream (l ++ commands)) one
      (journal_join stream rest (before ++ Message m ∷ []) commands h is)
    where
      one : commands_among (before ++ Message m ∷ []) ≡ m ∷ []
      one = among_join before (Message m ∷ []) ∙ ap (λ (l : List RawMessage). l ++ commands_among (Message m ∷ [])) none
          ∙ ap (λ (found : Option RawMessage). with_first found []) (command_is m command)

-- ---- how far a replay has followed its recording

module _ (version : Version) (ignore : Ignored) (recorded : List ℕ) where
  -- the last command that was the same begins at this offset, and this is left after it; before the first one it is all
  abbrev IsAfterLast : ℕ → ℕ → List ℕ → Type 0
  IsAfterLast index at left =
      ((index ≡ 0) × (at ≡ 0) × (left ≡ recorded))
      ⊎ ((items : List Item) × (middle : List ℕ) × (last : RawMessage) × (0 < index) × (at ≡ items_size items)
      × IsItemsThen version recorded items middle × TakesItem version middle (Message last) left × IsCommand last)

  -- The recording and these commands have this outcome.
  abbrev pub HasWhole : List RawMessage → Outcome → Type 0
  HasWhole commands outcome =
      (all : List RawMessage) × IsJournal version recorded all × IsOutcome ignore 0 all commands outcome

  -- Whatever is the outcome of what is left and more commands is the outcome of the whole.
  pub record HasFollowed (index at : ℕ) (commands : List RawMessage) : Type 0 where
    pub left : List ℕ
    pub after_last : IsAfterLast index at left
    pub decides : (rest more : List RawMessage) (outcome : Outcome) → IsJournal version left rest
        → IsOutcome ignore index rest more outcome → HasWhole (commands ++ more) outcome

  pub nothing_followed : HasFollowed 0 0 []
  nothing_followed = record {
    left = recorded;
    after_last = inl (refl, refl, refl);
    decides = λ rest more outcome is then. (rest, is, then);
  }

  -- where the next command is looked for
  abbrev LooksFrom : ℕ → List ℕ → Type 0
  LooksFrom from left = (items : List Item) × IsItemsThen version recorded items left × (from ≡ items_size items)

  looks_from : (place : Place) (left : List ℕ) (found : Option RecordedCommand)
      → IsAfterLast place.index place.recorded left → IsLast version recorded place found
      → LooksFrom (offset_after found place.recorded) left
  looks_from place left None (inl (zero, at, all)) is =
      ([], subst (λ (l : List ℕ). IsItemsThen version recorded [] l) (sym all) (then_start version recorded), at)
  looks_from place left (Some found) (inl (zero, at, all)) is = absurd (omega (arith, zero, is.0))
  looks_from place left None (inr (items, middle, last, some, at, then, takes, command)) is =
      let here : drop place.recorded recorded ≡ middle =
      ap (λ n. drop n recorded) at ∙ rest_after version recorded middle items then in
      let none : command_of (Message last) ≡ None = is some (Message last) left
      (subst (λ (l : List ℕ). TakesItem version l (Message last) left) (sym here) takes) in
      let one : command_of (Message last) ≡ Some last = command_is last command in
      let e : Some last ≡ None = sym one ∙ none in absurd cc
  looks_from place left (Some found) (inr (items, middle, last, some, at, then, takes, command)) is =
      let (positive, offset, is_command, rest, found_takes) = is in
      let here : drop place.recorded recorded ≡ middle =
      ap (λ n. drop n recorded) at ∙ rest_after version recorded middle items then in
      let there : TakesItem version middle (Message (message_of found)) rest =
      subst (λ (l : List ℕ). TakesItem version l (Message (message_of found)) rest) here found_takes in
      let same = one_item version takes.0 there.0 left rest (Message last) (Message (message_of found)) takes.1 there.1
      (sym takes.2 ∙ there.2) in (
        items ++ Message (message_of found) ∷ [],
        subst (λ (l : List ℕ). IsItemsThen version recorded (items ++ Message (message_of found) ∷ []) l) (sym same.2)
            (then_takes version recorded middle rest items (Message (message_of found)) then there),
        omega (arith, offset, at, sizes_join items (Message (message_of found) ∷ [])),
      )

  -- ---- what is checked next

  module _ (place : Place) (commands : List RawMessage)
      (followed : HasFollowed place.index place.recorded commands) (around : Around)
      (is : IsAround version recorded place around) where
    here : LooksFrom (offset_after around.last place.recorded) followed.left
    here = looks_from place followed.left around.last followed.after_last is.last

    seen : drop (offset_after around.last place.recorded) recorded ≡ followed.left
    seen =
        let (items, then, from) = here in
        ap (λ n. drop n recorded) from ∙ rest_after version recorded followed.left items then

    next_is : (next : Option RecordedCommand) → around.next ≡ next
        → IsNext version recorded (offset_after around.last place.recorded) next
    next_is next found = subst (IsNext version recorded (offset_after around.last place.recorded)) found is.next

    -- a command that is the same is taken
    pub follows_next : (m : RecordedCommand) → around.next ≡ Some m → (replayed : RawMessage)
        → AreAlike ignore (message_of m) replayed
        → HasFollowed (place.index + 1) m.offset (commands ++ replayed ∷ [])
    follows_next m found replayed alike =
        let (items, then, from) = here in
        let (before, rest, taken, none, command, offset) = next_is (Some m) found in
        let after : IsItemsThen version followed.left (before ++ Message (message_of m) ∷ []) rest =
        subst (λ (l : List ℕ). IsItemsThen version l (before ++ Message (message_of m) ∷ []) rest) seen taken in
        let (middle, front, takes) = then_last version followed.left rest before (Message (message_of m)) after in
        record {
          left = rest;
          after_last = inr (
            items ++ before,
            middle,
            message_of m,
            omega arith,
            omega (arith, offset, from, sizes_join items before),
            then_join version recorded followed.left middle items before then front,
            takes,
            command,
          );
          decides = λ others more outcome journal then.
              let (all, whole, outcomes) = followed.decides (message_of m ∷ others) (replayed ∷ more) outcome
              (next_in_front version followed.left rest before (message_of m) others after none command journal)
              (inl (alike, then)) in (
                all,
                whole,
                subst (λ (l : List RawMessage). IsOutcome ignore 0 all l outcome)
                    (sym (append_assoc commands (replayed ∷ []) more)) outcomes,
              );
        }

    -- the outcome where the next command is not taken
    pub leaves_next : (m : RecordedCommand) → around.next ≡ Some m → (more : List RawMessage) (outcome : Outcome)
        → ((rest : List RawMessage) → IsOutcome ignore place.index (message_of m ∷ rest) more outcome)
        → HasWhole (commands ++ more) outcome
    leaves_next m found more outcome outcomes =
        let (before, rest, taken, none, command, offset) = next_is (Some m) found in
        let after : IsItemsThen version followed.left (before ++ Message (message_of m) ∷ []) rest =
        subst (λ (l : List ℕ). IsItemsThen version l (before ++ Message (message_of m) ∷ []) rest) seen taken in
        let (others, end, split) = split_of version rest in
        followed.decides (message_of m ∷ commands_among others) more outcome
        (next_in_front version followed.left rest before (message_of m) (commands_among others) after none command
        (record { items = others; rest = end; split = split; among = refl }))
        (outcomes (commands_among others))

    -- the outcome where there is no next command
    pub ends_next : around.next ≡ None → (more : List RawMessage) (outcome : Outcome)
        → IsOutcome ignore place.index [] more outcome → HasWhole (commands ++ more) outcome
    ends_next none more outcome then_outcome =
        let (others, rest, split, no_commands) = next_is None none in
        followed.decides [] more outcome
        (record {
          items = others;
          rest = rest;
          split = subst (λ (l : List ℕ). SplitsInto version l others rest) seen split;
          among = sym no_commands;
        })
        then_outcome

  -- where no command is more, there is no text
  pub ends_here : (index at : ℕ) (commands : List RawMessage) → HasFollowed index at commands
      → (outcome : Outcome) × HasWhole (commands ++ []) outcome × (verdict_text outcome ≡ [])
  ends_here index at commands followed =
      let (items, end, split) = split_of version followed.left in
      by_rest (commands_among items) (record { items = items; rest = end; split = split; among = refl })
    where
      by_rest : (rest : List RawMessage) → IsJournal version followed.left rest
          → (outcome : Outcome) × HasWhole (commands ++ []) outcome × (verdict_text outcome ≡ [])
      by_rest [] is = (SameCommands index, followed.decides [] [] (SameCommands index) is refl, refl)
      by_rest (m ∷ rest) is =
          (ReplayedEnds index, followed.decides (m ∷ rest) [] (ReplayedEnds index) is refl, refl)

-- ---- what is written

-- a result that is a value is not an error
ok_else : {T : Type 0} (b : Bool) (value : T) (error : CallError) (P : Type 0)
    → MatchBool b (Ok value ≡ Err error) P → (b ≡ false) × P
ok_else true value error P h = absurd cc
ok_else false value error P h = (refl, h)

two_numbers : (outcome : Outcome) → length (verdict_numbers outcome) ≡ 2
two_numbers (SameCommands count) = refl
two_numbers (RecordedEnds index) = refl
two_numbers (ReplayedEnds index) = refl
two_numbers (OtherType index text) = refl
two_numbers (OtherCommand index text) = refl
two_numbers (NotWellFormed Recorded index) = refl
two_numbers (NotWellFormed Replayed index) = refl

three_numbers : (seen : Option RecordedCommand) → length (command_numbers seen) ≡ 3
three_numbers (Some found) = refl
three_numbers None = refl

-- the first two numbers of a mismatch are those of its outcome
two_written : (outcome : Outcome) (place : Place) (seen : Option RecordedCommand) (old new : List ℕ)
    → nat_lt (length old) 6 ≡ false → new ≡ written_over (mismatch_numbers outcome place seen) old
    → take 2 new ≡ verdict_numbers outcome
two_written outcome place seen old new room is =
    let others = place.replayed ∷ command_numbers seen in
    let numbers = verdict_numbers outcome ++ others in
    let size : length numbers ≡ 6 =
    omega (arith, length-append (verdict_numbers outcome) others, two_numbers outcome, three_numbers seen) in
    let fits : nat_le (length numbers) (length old) ≡ true =
    le-leb (length numbers) (length old) (omega (arith, size, ltb-false _ _ room)) in
    ap (take 2) (is ∙ ap (λ b. cond b (numbers ++ drop (length numbers) old) old) fits
    ∙ append_assoc (verdict_numbers outcome) others (drop (length numbers) old))
    ∙ subst (λ n. take n (verdict_numbers outcome ++ (others ++ drop (length numbers) old)) ≡ verdict_numbers outcome)
    (two_numbers outcome) (take-append_seam (verdict_numbers outcome) (others ++ drop (length numbers) old))

-- a text that an outcome has is its own
text_told : (text : List ℕ) (outcome : Outcome) → HasText text outcome → text ≡ verdict_text outcome
text_told text (OtherType index found) has = has
text_told text (OtherCommand index found) has = has
text_told text outcome has = absurd has

-- the place of the numbers that are written
place_written : (place : Place) (old new : List ℕ) → nat_lt (length old) 6 ≡ false
    → new ≡ written_over (place_numbers place) old → place_in new ≡ place
place_written place old new room is =
    let fits : nat_le 6 (length old) ≡ true = le-leb 6 (length old) (ltb-false _ _ room) in
    ap place_in (is ∙ ap (λ b. cond b (place_numbers place ++ drop 6 old) old) fits)

-- ---- the checks of a whole replay

module _ (number options : ℕ) (version : Version) (spoken : supported_version number ≡ Some version)
    (ignored : Ignored) (ignores : ignored_by options ≡ Some ignored) (recorded : List ℕ) where
  -- A replay is here after these commands: each of them was the same.
  pub record HasPassed (place : Place) (commands : List RawMessage) : Type 0 where
    pub version_is : place.version ≡ number
    pub options_is : place.options ≡ options
    pub unsaid : place.said ≡ 0
    pub followed : HasFollowed version ignored recorded place.index place.recorded commands

  pub first_passed : HasPassed (place_in (first_numbers number options)) []
  first_passed = record {
    version_is = refl;
    options_is = refl;
    unsaid = refl;
    followed = nothing_followed version ignored recorded;
  }

  module _ (numbers : List ℕ) (commands : List RawMessage) (passed : HasPassed (place_in numbers) commands) where
    at_place : {T : Type 0} (value : T) (holds : Version → Ignored → Place → Type 0) → AtPlace numbers (Ok value) holds
        → (nat_lt (length numbers) 6 ≡ false) × holds version ignored (place_in numbers)
    at_place {T} value holds h =
        let (long, at) = ok_else (nat_lt (length numbers) 6) value NoRoom
        (AtVersion (supported_version (slice_index numbers 0)) result with_options) h in
        let here : with_options version = subst (λ (v : Option Version). AtVersion v result with_options)
        (ap supported_version passed.version_is ∙ spoken) at in (
          long,
          subst (λ (o : Option Ignored). MatchOption o (result ≡ Err UnknownOption)
              (λ ignore. holds version ignore (place_in numbers))) (ap ignored_by passed.options_is ∙ ignores) here,
        )
      where
        result : Result T CallError
        result = Ok value

        with_options : Version → Type 0
        with_options version =
            WithOptions (slice_index numbers 1) result (λ ignore. holds version ignore (place_in numbers))

    checked_item : (code : ℕ) (payload : List ℕ) (checked : Checked)
        → ReturnsChecked code recorded payload numbers (Ok checked)
        → (nat_lt (length numbers) 6 ≡ false)
        × ChecksItem version ignored (place_in numbers) recorded (command_given code payload)
        (8 + length payload) (Ok checked)
    checked_item code payload checked h =
        let (long, at) = at_place checked holds h in
        let here : near =
        subst (λ n. MatchBool (nat_lt 0 n) (result ≡ Ok (Passed (place_in numbers))) near) passed.unsaid at in
        (long, (ok_else (is_beyond (place_in numbers) payload) checked TooLong item here).1)
      where
        result : Result Checked CallError
        result = Ok checked

        item : Type 0
        item = ChecksItem version ignored (place_in numbers) recorded (command_given code payload)
            (8 + length payload) result

        near : Type 0
        near = MatchBool (is_beyond (place_in numbers) payload) (result ≡ Err TooLong) item

        holds : Version → Ignored → Place → Type 0
        holds version ignore place =
            MatchBool (nat_lt 0 place.said) (result ≡ Ok (Passed place))
            (MatchBool (is_beyond place payload) (result ≡ Err TooLong)
            (ChecksItem version ignore place recorded (command_given code payload) (8 + length payload) result))

    -- what a check says of a command where this one is next, or none
    abbrev ChecksNext : Option RecordedCommand → Option RecordedCommand → RawMessage → ℕ → Result Checked CallError
        → Type 0
    ChecksNext last next replayed size outcome =
        MatchOption next
        (outcome ≡ Ok (Left (record (place_in numbers) { said = 1 })
        (mismatch_numbers (RecordedEnds (slice_index numbers 2)) (place_in numbers) last)))
        (λ found. ChecksPair ignored (place_in numbers) found replayed size outcome)

    -- the same of the text
    abbrev TellsNext : Option RecordedCommand → RawMessage → Result (List ℕ) CallError → Type 0
    TellsNext next replayed outcome =
        MatchOption next (outcome ≡ Ok [])
        (λ found. Tells ignored (slice_index numbers 2) (message_of found) replayed outcome)

    -- a check that says nothing
    module _ (place : Place) (size : ℕ) where
      same_command : (around : Around) → IsAround version recorded (place_in numbers) around → (replayed : RawMessage)
          → (next : Option RecordedCommand) → around.next ≡ next
          → ChecksNext around.last next replayed size (Ok (Passed place))
          → HasPassed place (commands ++ replayed ∷ [])
      same_command around is replayed None none h = absurd cc
      same_command around is replayed (Some m) found (alike, place_is) =
          subst (λ (p : Place). HasPassed p (commands ++ replayed ∷ [])) (sym place_is) (record {
            version_is = passed.version_is;
            options_is = passed.options_is;
            unsaid = passed.unsaid;
            followed = follows_next version ignored recorded (place_in numbers) commands passed.followed around is m
                found replayed alike;
          })

      passed_item : (given : Option RawMessage)
          → ChecksItem version ignored (place_in numbers) recorded given size (Ok (Passed place))
          → HasPassed place (commands ++ with_first given [])
      passed_item None h =
          let is : place ≡ record (place_in numbers) { replayed = slice_index numbers 4 + size } = cc in
          subst (λ (p : Place). HasPassed p (commands ++ [])) (sym is)
          (subst (HasPassed (record (place_in numbers) { replayed = slice_index numbers 4 + size }))
          (sym (append-nil commands)) (record {
            version_is = passed.version_is;
            options_is = passed.options_is;
            unsaid = passed.unsaid;
            followed = passed.followed;
          }))
      passed_item (Some replayed) (around, is, h) = same_command around is replayed around.next refl h

    -- a check that says a mismatch
    module _ (place : Place) (mismatch : List ℕ) (size : ℕ) where
      -- it has an outcome, and these are its numbers
      abbrev IsLeft : List RawMessage → Type 0
      IsLeft more =
          (outcome : Outcome) × (seen : Option RecordedCommand)
          × HasWhole version ignored recorded (commands ++ more) outcome
          × (mismatch ≡ mismatch_numbers outcome (place_in numbers) seen)

      other_command : (around : Around) → IsAround version recorded (place_in numbers) around → (replayed : RawMessage)
          → (next : Option RecordedCommand) → around.next ≡ next
          → ChecksNext around.last next replayed size (Ok (Left place mismatch))
          → IsLeft (replayed ∷ [])
      other_command around is replayed None none h = (
        RecordedEnds (slice_index numbers 2),
        around.last,
        ends_next version ignored recorded (place_in numbers) commands passed.followed around is none (replayed ∷ [])
            (RecordedEnds (slice_index numbers 2)) refl,
        cc,
      )
      other_command around is replayed (Some m) found (outcome, differ, place_is, numbers_are) = (
        outcome,
        Some m,
        leaves_next version ignored recorded (place_in numbers) commands passed.followed around is m found
            (replayed ∷ []) outcome (λ rest. inr differ),
        numbers_are,
      )

      left_item : (given : Option RawMessage)
          → ChecksItem version ignored (place_in numbers) recorded given size (Ok (Left place mismatch))
          → IsLeft (with_first given [])
      left_item None h = absurd cc
      left_item (Some replayed) (around, is, h) = other_command around is replayed around.next refl h

    module _ (code : ℕ) (payload new before after : List ℕ) where
      pub one_passed : WritesCheck code recorded payload numbers new before after (Ok 0)
          → HasPassed (place_in new) (commands ++ with_first (command_given code payload) [])
      one_passed (checked, returned, written) = by_checked checked returned written
        where
          by_checked : (checked : Checked)
              → ReturnsCheck code recorded payload (length before) numbers (Ok checked)
              → WritesChecked checked numbers new before after 0
              → HasPassed (place_in new) (commands ++ with_first (command_given code payload) [])
          by_checked (Passed place) returned (none, place_is, kept) =
              let result : Result Checked CallError = Ok (Passed place) in
              let (room, said) = ok_else (nat_lt (length before) 6) (Passed place) NoRoom
              (ReturnsChecked code recorded payload numbers result) returned in
              let (long, item) = checked_item code payload (Passed place) said in
              subst (λ (p : Place). HasPassed p (commands ++ with_first (command_given code payload) []))
              (sym (place_written place numbers new long place_is))
              (passed_item place (8 + length payload) (command_given code payload) item)
          by_checked (Left place mismatch) returned (one, place_is, written) = absurd (omega (arith, one))

      -- the first two numbers that are written are those of the outcome so far
      pub one_left : WritesCheck code recorded payload numbers new before after (Ok 1)
          → (outcome : Outcome)
          × HasWhole version ignored recorded (commands ++ with_first (command_given code payload) []) outcome
          × (take 2 after ≡ verdict_numbers outcome)
      one_left (checked, returned, written) = by_checked checked returned written
        where
          by_checked : (checked : Checked)
              → ReturnsCheck code recorded payload (length before) numbers (Ok checked)
              → WritesChecked checked numbers new before after 1
              → (outcome : Outcome)
              × HasWhole version ignored recorded (commands ++ with_first (command_given code payload) []) outcome
              × (take 2 after ≡ verdict_numbers outcome)
          by_checked (Passed place) returned (none, place_is, kept) = absurd (omega (arith, none))
          by_checked (Left place mismatch) returned (one, place_is, written) =
              let result : Result Checked CallError = Ok (Left place mismatch) in
              let (room, said) = ok_else (nat_lt (length before) 6) (Left place mismatch) NoRoom
              (ReturnsChecked code recorded payload numbers result) returned in
              let (long, item) = checked_item code payload (Left place mismatch) said in
              let (outcome, seen, whole, numbers_are) =
              left_item place mismatch (8 + length payload) (command_given code payload) item in (
                outcome,
                whole,
                two_written outcome (place_in numbers) seen before after room
                    (written ∙ ap (λ l. written_over l before) numbers_are),
              )

    -- ---- the text of a check

    -- The text is that of an outcome of these commands more.
    abbrev HasTextOf : List RawMessage → List ℕ → Type 0
    HasTextOf more text =
        (outcome : Outcome) × HasWhole version ignored recorded (commands ++ more) outcome
        × (text ≡ verdict_text outcome)

    text_at : (text : List ℕ) (around : Around) → IsAround version recorded (place_in numbers) around
        → (replayed : RawMessage) (next : Option RecordedCommand) → around.next ≡ next
        → TellsNext next replayed (Ok text) → HasTextOf (replayed ∷ []) text
    text_at text around is replayed None none h = (
      RecordedEnds (slice_index numbers 2),
      ends_next version ignored recorded (place_in numbers) commands passed.followed around is none (replayed ∷ [])
          (RecordedEnds (slice_index numbers 2)) refl,
      cc,
    )
    text_at text around is replayed (Some m) found (inl (alike, none)) =
        let (outcome, whole, untold) = ends_here version ignored recorded (slice_index numbers 2 + 1) m.offset
        (commands ++ replayed ∷ [])
        (follows_next version ignored recorded (place_in numbers) commands passed.followed around is m found replayed
        alike) in (
          outcome,
          subst (λ (l : List RawMessage). HasWhole version ignored recorded l outcome)
              (append-nil (commands ++ replayed ∷ [])) whole,
          none ∙ sym untold,
        )
    text_at text around is replayed (Some m) found (inr (outcome, differ, has)) = (
      outcome,
      leaves_next version ignored recorded (place_in numbers) commands passed.followed around is m found (replayed ∷ [])
          outcome (λ rest. inr differ),
      text_told text outcome has,
    )

    text_of : (given : Option RawMessage) (text : List ℕ)
        → TellsItem version ignored (place_in numbers) recorded given (Ok text)
        → HasTextOf (with_first given []) text
    text_of None text h =
        let (outcome, whole, untold) =
        ends_here version ignored recorded (slice_index numbers 2) (slice_index numbers 3)
        commands passed.followed in
        let none : text ≡ [] = cc in (outcome, whole, none ∙ sym untold)
    text_of (Some replayed) text (around, is, h) = text_at text around is replayed around.next refl h

    pub one_told : (code : ℕ) (payload text : List ℕ) → ReturnsReplayText code recorded payload numbers (Ok text)
        → HasTextOf (with_first (command_given code payload) []) text
    one_told code payload text h =
        let (long, at) = at_place text holds h in
        text_of (command_given code payload) text
        (ok_else (is_beyond (place_in numbers) payload) text TooLong item at).1
      where
        result : Result (List ℕ) CallError
        result = Ok text

        item : Type 0
        item = TellsItem version ignored (place_in numbers) recorded (command_given code payload) result

        holds : Version → Ignored → Place → Type 0
        holds version ignore place =
            MatchBool (is_beyond place payload) (result ≡ Err TooLong)
            (TellsItem version ignore place recorded (command_given code payload) result)

    -- ---- the end of a replay

    module _ (before after : List ℕ) where
      ends_at : (found : Option (List ℕ)) → ReturnsFinish recorded numbers (length before) (Ok found)
          → (nat_lt (length before) 6 ≡ false) × EndsAt version (place_in numbers) recorded (Ok found)
      ends_at found returned =
          let (room, at) = ok_else (nat_lt (length before) 6) found NoRoom (AtPlace numbers result holds) returned in
          let (long, here) = at_place found holds at in (
            room,
            subst (λ n. MatchBool (nat_lt 0 n) (result ≡ Ok None) (EndsAt version (place_in numbers) recorded result))
                passed.unsaid here,
          )
        where
          result : Result (Option (List ℕ)) CallError
          result = Ok found

          holds : Version → Ignored → Place → Type 0
          holds version ignore place = MatchBool (nat_lt 0 place.said) (result ≡ Ok None)
              (EndsAt version place recorded result)

      -- a command is left
      ended_at : (around : Around) → IsAround version recorded (place_in numbers) around
          → (next : Option RecordedCommand) → around.next ≡ next → (mismatch : List ℕ)
          → Some mismatch ≡ option_map (λ found. mismatch_numbers (ReplayedEnds (slice_index numbers 2))
          (place_in numbers) (Some found)) next
          → nat_lt (length before) 6 ≡ false → after ≡ written_over mismatch before
          → HasWhole version ignored recorded (commands ++ []) (ReplayedEnds (slice_index numbers 2))
          × (take 2 after ≡ verdict_numbers (ReplayedEnds (slice_index numbers 2)))
      ended_at around is None none mismatch h room written = absurd cc
      ended_at around is (Some m) found mismatch h room written =
          let numbers_are : mismatch ≡ mismatch_numbers (ReplayedEnds (slice_index numbers 2)) (place_in numbers)
          (Some m) = cc in (
            leaves_next version ignored recorded (place_in numbers) commands passed.followed around is m found []
                (ReplayedEnds (slice_index numbers 2)) (λ rest. refl),
            two_written (ReplayedEnds (slice_index numbers 2)) (place_in numbers) (Some m) before after room
                (written ∙ ap (λ l. written_over l before) numbers_are),
          )

      pub one_ended : WritesFinish recorded numbers before after (Ok 1)
          → HasWhole version ignored recorded (commands ++ []) (ReplayedEnds (slice_index numbers 2))
          × (take 2 after ≡ verdict_numbers (ReplayedEnds (slice_index numbers 2)))
      one_ended (found, returned, written) = by_found found returned written
        where
          by_found : (found : Option (List ℕ)) → ReturnsFinish recorded numbers (length before) (Ok found)
              → WritesMismatch found before after 1
              → HasWhole version ignored recorded (commands ++ []) (ReplayedEnds (slice_index numbers 2))
              × (take 2 after ≡ verdict_numbers (ReplayedEnds (slice_index numbers 2)))
          by_found None returned (none, kept) = absurd (omega (arith, none))
          by_found (Some mismatch) returned (one, written) =
              let (room, at) = ends_at (Some mismatch) returned in
              let (around, is, numbers_are) = at in
              ended_at around is around.next refl mismatch numbers_are room written

      -- none is left
      same_at : (around : Around) → IsAround version recorded (place_in numbers) around
          → (next : Option RecordedCommand) → around.next ≡ next
          → None ≡ option_map (λ found. mismatch_numbers (ReplayedEnds (slice_index numbers 2))
          (place_in numbers) (Some found)) next
          → HasWhole version ignored recorded (commands ++ []) (SameCommands (slice_index numbers 2))
      same_at around is None none h =
          ends_next version ignored recorded (place_in numbers) commands passed.followed around is none []
          (SameCommands (slice_index numbers 2)) refl
      same_at around is (Some m) found h = absurd cc

      pub all_same : WritesFinish recorded numbers before after (Ok 0)
          → HasWhole version ignored recorded (commands ++ []) (SameCommands (slice_index numbers 2))
      all_same (found, returned, written) = by_found found returned written
        where
          by_found : (found : Option (List ℕ)) → ReturnsFinish recorded numbers (length before) (Ok found)
              → WritesMismatch found before after 0
              → HasWhole version ignored recorded (commands ++ []) (SameCommands (slice_index numbers 2))
          by_found None returned written =
              let (room, at) = ends_at None returned in
              let (around, is, numbers_are) = at in
              same_at around is around.next refl numbers_are
          by_found (Some mismatch) returned (one, written) = absurd (omega (arith, one))

  -- ---- all items

  pub all_passed : (items : List ItemGiven) (old new : List ℕ) (commands : List RawMessage)
      → HasPassed (place_in old) commands → Pass recorded items old new
      → HasPassed (place_in new) (commands ++ commands_given items)
  all_passed [] old new commands passed same =
      subst (HasPassed (place_in new)) (sym (append-nil commands))
      (subst (λ (l : List ℕ). HasPassed (place_in l) commands) (sym same) passed)
  all_passed (item ∷ items) old new commands passed (next, before, after, checked, then) =
      let given = command_given item.code item.payload in
      subst (HasPassed (place_in new))
      (append_assoc commands (with_first given []) (commands_given items)
      ∙ ap (λ (l : List RawMessage). commands ++ l) (sym (with_first_join given [] (commands_given items))))
      (all_passed items next new (commands ++ with_first given [])
      (one_passed old commands passed item.code item.payload next before after checked) then)

-- ---- the outcome of two journals

given_join : (items others : List ItemGiven)
    → commands_given (items ++ others) ≡ commands_given items ++ commands_given others
given_join [] others = refl
given_join (item ∷ items) others =
    let given = command_given item.code item.payload in
    ap (with_first given) (given_join items others)
    ∙ with_first_join given (commands_given items) (commands_given others)

module _ (number options : ℕ) (recorded : List ℕ) (passed given : List ItemGiven) (numbers : List ℕ)
    (outcome : Outcome) (is : IsReplayed number options recorded passed numbers given outcome) where
  passed_here : HasPassed number options is.version is.spoken is.ignored is.ignores recorded (place_in numbers)
      (commands_given passed)
  passed_here = all_passed number options is.version is.spoken is.ignored is.ignores recorded passed
      (first_numbers number options) numbers []
      (first_passed number options is.version is.spoken is.ignored is.ignores recorded) is.pass

  one_whole : (commands : List RawMessage) (other : Outcome) → commands_given given ≡ commands
      → HasWhole is.version is.ignored recorded commands other → other ≡ outcome
  one_whole commands other same (all, whole, then) =
      journals_have_one_outcome is.version is.ignored recorded is.journal other outcome
      (record {
        recorded_commands = all;
        replayed_commands = commands;
        is_recorded = whole;
        is_replayed = subst (IsJournal is.version is.journal) same is.is_journal;
        is_outcome = then;
      })
      is.has_outcome

  pub told_as_compared : (item : ItemGiven) (text : List ℕ) → given ≡ passed ++ item ∷ []
      → ReturnsReplayText item.code recorded item.payload numbers (Ok text) → text ≡ verdict_text outcome
  told_as_compared item text so_far told =
      let first = command_given item.code item.payload in
      let (other, whole, is_text) = one_told number options is.version is.spoken is.ignored is.ignores recorded numbers
      (commands_given passed) passed_here item.code item.payload text told in
      is_text ∙ ap verdict_text (one_whole (commands_given passed ++ with_first first []) other
      (ap commands_given so_far ∙ given_join passed (item ∷ [])) whole)

  module _ (before after : List ℕ) where
    pub left_as_compared : (item : ItemGiven) (new : List ℕ) → given ≡ passed ++ item ∷ []
        → WritesCheck item.code recorded item.payload numbers new before after (Ok 1)
        → take 2 after ≡ verdict_numbers outcome
    left_as_compared item new so_far checked =
        let first = command_given item.code item.payload in
        let (other, whole, written) =
        one_left number options is.version is.spoken is.ignored is.ignores recorded numbers
        (commands_given passed) passed_here item.code item.payload new before after checked in
        written ∙ ap verdict_numbers (one_whole (commands_given passed ++ with_first first []) other
        (ap commands_given so_far ∙ given_join passed (item ∷ [])) whole)

    pub ended_as_compared : given ≡ passed → WritesFinish recorded numbers before after (Ok 1)
        → take 2 after ≡ verdict_numbers outcome
    ended_as_compared so_far finished =
        let (whole, written) = one_ended number options is.version is.spoken is.ignored is.ignores recorded numbers
        (commands_given passed) passed_here before after finished in
        written ∙ ap verdict_numbers (one_whole (commands_given passed ++ []) (ReplayedEnds (slice_index numbers 2))
        (ap commands_given so_far ∙ sym (append-nil (commands_given passed))) whole)

    pub same_as_compared : given ≡ passed → WritesFinish recorded numbers before after (Ok 0)
        → outcome ≡ SameCommands (slice_index numbers 2)
    same_as_compared so_far finished =
        sym (one_whole (commands_given passed ++ []) (SameCommands (slice_index numbers 2))
        (ap commands_given so_far ∙ sym (append-nil (commands_given passed)))
        (all_same number options is.version is.spoken is.ignored is.ignores recorded numbers (commands_given passed)
        passed_here before after
        finished))
