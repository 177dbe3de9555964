-- A replay that is checked by its recording: what comes next there, and what is said of it.
use Rattle.std.proofs.Common.{◌≡◌, ℕ, ◌+◌, ◌<◌, ◌^◌, true, false, List, [], ◌∷◌, ◌++◌, length, take, drop}
use Rattle.std.proofs.Common.{Option, Some, None, Result, Ok, Err, refl, sym, ap, subst, ◌∙◌, arith, length-append}
use Rattle.std.proofs.Common.{append-nil, inr, length-drop}
use Rattle.std.specs.Prelude.{IfSome, MatchBool, nat_lt, option_map}
use Rattle.std.specs.Option.{is_some}
use Rattle.std.specs.String.{string_bytes}
use Rattle.std.proofs.lemmas.List.{length-take-le}
use Rattle.shared_core_base.specs.declared.header.MessageType.{MessageType}
use Rattle.shared_core_base.specs.declared.version.Version.{Version}
use Rattle.shared_core_base.specs.declared.version.Version.TheVariants.{V1}
use Rattle.shared_core_base.specs.Version.{version_number}
use Rattle.shared_core_base.proofs.Versions.{supported_version_is}
use Rattle.shared_core_stream.specs.declared.encoding.item.Item.{Item}
use Rattle.shared_core_stream.specs.declared.encoding.item_ref.ItemRef.{ItemRef}
use Rattle.shared_core_stream.specs.declared.encoding.raw_message.RawMessage.{RawMessage}
use Rattle.shared_core_stream.specs.Borrowed.{IsAtFront, IsMissing, item_borrowed}
use Rattle.shared_core_stream.specs.Items.{IsItemsThen, NoItemBegins, TakesItem}
use Rattle.shared_core_stream.proofs.Items.{one_item, then_one, then_start, then_takes}
use Rattle.stream_lines.specs.Printing.{item_size, items_size}
use Rattle.stream_lines.proofs.Progress.{then_long}
use Rattle.replay_bench.specs.declared.journals.Ignored.{Ignored}
use Rattle.replay_bench.specs.declared.mismatches.Found.{Found}
use Rattle.replay_bench.specs.declared.verdicts.BenchError.{BenchError}
use Rattle.replay_bench.specs.declared.verdicts.BenchError.TheVariants.{Malformed, TooLong as TooLongJournal}
use Rattle.replay_bench.specs.declared.verdicts.Side.{Side}
use Rattle.replay_bench.specs.declared.verdicts.Side.TheVariants.{Recorded, Replayed}
use Rattle.replay_bench.specs.declared.verdicts.Verdict.{Verdict}
use Rattle.replay_bench.specs.declared.verdicts.Verdict.TheVariants.{HeaderMismatch, TypeMismatch}
use Rattle.replay_bench.specs.Journals.{command_of, commands_among, with_first}
use Rattle.replay_bench.specs.Outcomes.{Outcome, NotWellFormed, OtherCommand, OtherType, ReplayedEnds, outcome_of}
use Rattle.replay_bench.specs.Verdicts.{AreAlike, IsFound, ReturnsPair, plain_message}
use Rattle.replay_bench.proofs.Surveys.{eight, items_size_more}
use Rattle.journal_c_api.specs.declared.journals.Report.{Report}
use Rattle.journal_c_api.specs.declared.outcome.CallError.{CallError}
use Rattle.journal_c_api.specs.declared.outcome.CallError.TheVariants.{NoRoom}
use Rattle.journal_c_api.specs.declared.outcome.CallError.TheVariants.{TooLong, UnknownOption, UnknownVersion}
use Rattle.journal_c_api.specs.declared.replays.Around.{Around}
use Rattle.journal_c_api.specs.declared.replays.Checked.{Checked}
use Rattle.journal_c_api.specs.declared.replays.Checked.TheVariants.{Left, Passed}
use Rattle.journal_c_api.specs.declared.replays.Place.{Place}
use Rattle.journal_c_api.specs.declared.replays.Recorded.{Recorded as RecordedCommand}
use Rattle.journal_c_api.specs.declared.replays.Rules.{Rules}
use Rattle.journal_c_api.specs.Journals.{ReportsOutcome, verdict_numbers, verdict_text}
use Rattle.journal_c_api.specs.Outcomes.{supported_version, written_over}
use Rattle.journal_c_api.specs.Replays.{command_given, command_numbers, is_beyond, malformed_on, message_of}
use Rattle.journal_c_api.specs.Replays.{mismatch_numbers, place_in, AtPlace, ChecksItem, EndsAt, ExpectsAt, HasRules}
use Rattle.journal_c_api.specs.Replays.{HasText, IsAround, IsCommandAt, IsLast, IsNext, ReportsPair, ReturnsChecked}
use Rattle.journal_c_api.specs.Replays.{Tells, WritesCommand, WritesExpected, WritesFinish, WritesMismatch}

-- ---- items that are passed over

-- Bytes begin with items without a command, and these are left at this offset.
pub record HasPassed (version : Version) (bytes : List ℕ) (from : ℕ) (rest : List ℕ) (offset : ℕ) : Type 0 where
  pub items : List Item
  pub items_then : IsItemsThen version bytes items rest
  pub none : commands_among items ≡ []
  pub at : offset ≡ from + items_size items

-- where there is nothing, there is no first one
none_first : (found : Option RawMessage) (rest : List RawMessage) → with_first found rest ≡ []
    → (found ≡ None) × (rest ≡ [])
none_first None rest none = (refl, none)
none_first (Some command) rest none = absurd (omega (arith, ap length none))

-- no command is among one item more
none_more : (items : List Item) (item : Item) → commands_among items ≡ [] → command_of item ≡ None
    → commands_among (items ++ item ∷ []) ≡ []
none_more [] item none is = ap (λ (found : Option RawMessage). with_first found []) is
none_more (first ∷ items) item none is =
    let (is_none, others) = none_first (command_of first) (commands_among items) none in
    ap (λ (found : Option RawMessage). with_first found (commands_among (items ++ item ∷ []))) is_none
    ∙ none_more items item others is

module _ (version : Version) where
  -- the number of the bytes of a borrowed item is that of the item
  module _ (bytes : List ℕ) (item : ItemRef) (rest : List ℕ) (is : IsAtFront version bytes item rest) where
    long : length bytes ≡ items_size (item_borrowed item ∷ []) + length rest
    long = then_long version bytes rest (item_borrowed item ∷ [])
        (then_one version bytes rest (item_borrowed item) is.taken)

    pub front_long : length bytes ≡ (8 + length item.payload.now) + length rest
    front_long =
        let first : length (take 8 bytes) ≡ 8 =
        length-take-le 8 bytes (omega (arith, long, eight (item_borrowed item))) in
        omega (
          arith,
          first,
          ap length is.lies,
          length-append (take 8 bytes) (item.payload.now ++ rest),
          length-append item.payload.now rest,
        )

    pub front_size : item_size (item_borrowed item) ≡ 8 + length item.payload.now
    front_size = omega (arith, long, front_long)

  pub none_begins : (bytes : List ℕ) (missing : ℕ) → IsMissing version bytes missing → NoItemBegins version bytes
  none_begins bytes missing is = subst (NoItemBegins version) (append-nil bytes) (is.needed [] is.some)

  pub nothing_passed : (bytes : List ℕ) (from : ℕ) → HasPassed version bytes from bytes from
  nothing_passed bytes from =
      record { items = []; items_then = then_start version bytes; none = refl; at = omega arith }

  module _ (bytes : List ℕ) (from : ℕ) (rest : List ℕ) (offset : ℕ)
      (passed : HasPassed version bytes from rest offset) where
    pub item_passed : (item : ItemRef) (more : List ℕ) → IsAtFront version rest item more
        → command_of (item_borrowed item) ≡ None
        → HasPassed version bytes from more (offset + (8 + length item.payload.now))
    item_passed item more is none = record {
      items = passed.items ++ item_borrowed item ∷ [];
      items_then = then_takes version bytes rest more passed.items (item_borrowed item) passed.items_then is.taken;
      none = none_more passed.items (item_borrowed item) passed.none none;
      at = omega (
        arith,
        passed.at,
        items_size_more passed.items (item_borrowed item),
        front_size rest item more is,
      );
    }

-- ---- what comes next

module _ (version : Version) (recorded : List ℕ) (from : ℕ) (rest : List ℕ) (offset : ℕ)
    (passed : HasPassed version (drop from recorded) from rest offset) where
  pub next_found : (item : ItemRef) (more : List ℕ) (found : RecordedCommand) → IsAtFront version rest item more
      → IsCommandAt item offset (Some found) → IsNext version recorded from (Some found)
  next_found item more found is (borrowed, at, command) = (
    passed.items,
    more,
    subst (λ (i : Item). IsItemsThen version (drop from recorded) (passed.items ++ i ∷ []) more) borrowed
        (then_takes version (drop from recorded) rest more passed.items (item_borrowed item) passed.items_then
        is.taken),
    passed.none,
    command,
    at ∙ passed.at,
  )

  pub next_ended : (missing : ℕ) → IsMissing version rest missing → IsNext version recorded from None
  next_ended missing is = (
    passed.items,
    rest,
    record { items_then = passed.items_then; no_more = none_begins version rest missing is },
    passed.none,
  )

-- ---- the last command

module _ (version : Version) (recorded : List ℕ) (place : Place) where
  pub last_before : place.index ≡ 0 → IsLast version recorded place None
  last_before first = λ some. absurd (omega (arith, first, some))

  pub last_missing : (missing : ℕ) → IsMissing version (drop place.recorded recorded) missing
      → IsLast version recorded place None
  last_missing missing is = λ some item rest takes.
      absurd (none_begins version (drop place.recorded recorded) missing is item rest takes)

  module _ (item : ItemRef) (rest : List ℕ) (is : IsAtFront version (drop place.recorded recorded) item rest) where
    pub last_found : (found : Option RecordedCommand) → 0 < place.index → IsCommandAt item place.recorded found
        → IsLast version recorded place found
    last_found (Some found) some (borrowed, at, command) = (
      some,
      at,
      command,
      rest,
      subst (λ (i : Item). TakesItem version (drop place.recorded recorded) i rest) borrowed is.taken,
    )
    last_found None first none = λ some other more takes.
        let same = one_item version is.taken.0 takes.0 rest more (item_borrowed item) other is.taken.1 takes.1
        (sym is.taken.2 ∙ takes.2) in
        subst (λ (i : Item). command_of i ≡ None) same.1 none

    pub last_small : (found : Option RecordedCommand) → length recorded < 2 ^ 63 → IsCommandAt item place.recorded found
        → IfSome found (λ f. f.offset + (8 + length f.payload.now) < 2 ^ 64)
    last_small None fits none = tt
    last_small (Some found) fits (borrowed, at, command) =
        let size : item_size (item_borrowed item) ≡ 8 + length found.payload.now = ap item_size borrowed in
        omega (
          arith,
          fits,
          at,
          size,
          front_size version (drop place.recorded recorded) item rest is,
          front_long version (drop place.recorded recorded) item rest is,
          length-drop place.recorded recorded,
        )

-- ---- the rules of a replay

number_small : (version : Version) → version_number version < 10
number_small version = elim version as (λ version. version_number version < 10) [ V1 ↦ omega arith | _ ↦ omega arith ]

-- no number of more than 32 bits denotes a version
pub far_version : (number : ℕ) → 4294967295 < number → supported_version number ≡ None
far_version number far = by_found (supported_version number) refl
  where
    by_found : (found : Option Version) → supported_version number ≡ found → supported_version number ≡ None
    by_found None is = is
    by_found (Some version) is =
        absurd (omega (arith, far, ((supported_version_is number version).0 is).0, number_small version))

module _ {T : Type 0} (numbers : List ℕ) (outcome : Result T CallError)
    (holds : Version → Ignored → Place → Type 0) where
  pub at_short : nat_lt (length numbers) 6 ≡ true → outcome ≡ Err NoRoom → AtPlace numbers outcome holds
  at_short short is = rw short is

  module _ (place : Place) (long : nat_lt (length numbers) 6 ≡ false) (at : place ≡ place_in numbers) where
    pub at_rules : (rules : Rules) → HasRules place (Ok rules) → holds rules.version rules.ignore place
        → AtPlace numbers outcome holds
    at_rules rules = subst (λ (p : Place). HasRules p (Ok rules) → holds rules.version rules.ignore p
        → AtPlace numbers outcome holds) (sym at) by_rules
      where
        by_rules : HasRules (place_in numbers) (Ok rules) → holds rules.version rules.ignore (place_in numbers)
            → AtPlace numbers outcome holds
        by_rules (version, options) held = rw (long, version, options) held

    pub at_rejected : (error : CallError) → HasRules place (Err error) → outcome ≡ Err error
        → AtPlace numbers outcome holds
    at_rejected error has = by_error error (subst (λ (p : Place). HasRules p (Err error)) at has)
      where
        by_error : (error : CallError) → HasRules (place_in numbers) (Err error) → outcome ≡ Err error
            → AtPlace numbers outcome holds
        by_error UnknownVersion version is = rw (long, version) is
        by_error UnknownOption (version, spoken, options) is = rw (long, spoken, options) is
        by_error error rules is = absurd rules

-- ---- what is left of a recording

module _ (recorded numbers old new : List ℕ) (place : Place) (long : nat_lt (length numbers) 6 ≡ false)
    (at : place ≡ place_in numbers) (rules : Rules) (has : HasRules place (Ok rules)) (around : Around)
    (is : IsAround rules.version recorded place around) (some : is_some around.next ≡ true) where
  pub expected_written : nat_lt (length old) 3 ≡ false → new ≡ written_over (command_numbers around.next) old
      → WritesExpected recorded numbers old new (Ok 1)
  expected_written room written = (
    around.next,
    rw room (at_rules numbers (Ok around.next) (λ version ignore at. ExpectsAt version at recorded (Ok around.next))
        place long at rules has (around, is, refl)),
    of_next around.next some written,
  )
    where
      of_next : (next : Option RecordedCommand) → is_some next ≡ true → new ≡ written_over (command_numbers next) old
          → WritesCommand next old new 1
      of_next None none written = absurd cc
      of_next (Some found) some written = (refl, written)

  pub finish_written : nat_lt (length old) 6 ≡ false → nat_lt 0 place.said ≡ false
      → new ≡ written_over (2 ∷ place.index ∷ place.replayed ∷ command_numbers around.next) old
      → WritesFinish recorded numbers old new (Ok 1)
  finish_written room unsaid written = (
    left around.next,
    rw room (at_rules numbers found holds place long at rules has (rw unsaid (around, is, refl))),
    of_next around.next some written,
  )
    where
      left : Option RecordedCommand → Option (List ℕ)
      left next = option_map (λ found. mismatch_numbers (ReplayedEnds place.index) place (Some found)) next

      found : Result (Option (List ℕ)) CallError
      found = Ok (left around.next)

      holds : Version → Ignored → Place → Type 0
      holds version ignore place = MatchBool (nat_lt 0 place.said) (found ≡ Ok None)
          (EndsAt version place recorded found)

      of_next : (next : Option RecordedCommand) → is_some next ≡ true
          → new ≡ written_over (2 ∷ place.index ∷ place.replayed ∷ command_numbers next) old
          → WritesMismatch (left next) old new 1
      of_next None none written = absurd cc
      of_next (Some found) some written = (refl, written)

-- ---- what is said of two commands

module _ (ignore : Ignored) (index : ℕ) (m replayed : RawMessage) where
  pub pair_same : (said : Option Found) → said ≡ None → ReturnsPair ignore false index m replayed (Ok said)
      → AreAlike ignore m replayed
  unfolding ReturnsPair
  pair_same said is pair = subst (λ (s : Option Found). ReturnsPair ignore false index m replayed (Ok s)) is pair

  pub pair_never_long : (error : BenchError) → error ≡ TooLongJournal
      → ReturnsPair ignore false index m replayed (Err error) → ⊥
  unfolding ReturnsPair
  pair_never_long error is pair =
      subst (λ (e : BenchError). ReturnsPair ignore false index m replayed (Err e)) is pair

  module _ (said : Option Found) (found : Found) (is : said ≡ Some found)
      (pair : ReturnsPair ignore false index m replayed (Ok said)) where
    found_pair : IsFound ignore index m replayed (outcome_of found.verdict)
    unfolding ReturnsPair
    found_pair = (subst (λ (s : Option Found). ReturnsPair ignore false index m replayed (Ok s)) is pair).0

    -- what is found of two commands is reported
    pub pair_reported : (report : Report) → ReportsOutcome (outcome_of found.verdict) report
        → ReportsPair ignore index m replayed (Ok (Some report))
    pair_reported report reports = (outcome_of found.verdict, found_pair, reports)

    -- and told
    pub pair_told : (report : Report) → ReportsOutcome (outcome_of found.verdict) report → (text : List ℕ)
        → text ≡ string_bytes report.text → Tells ignore index m replayed (Ok text)
    pair_told report reports text is_text =
        inr (outcome_of found.verdict, found_pair, of_verdict found.verdict found_pair (is_text ∙ reports.1))
      where
        of_verdict : (verdict : Verdict) → IsFound ignore index m replayed (outcome_of verdict)
            → text ≡ verdict_text (outcome_of verdict) → HasText text (outcome_of verdict)
        of_verdict (TypeMismatch at found) is text = text
        of_verdict (HeaderMismatch at found) is text = text
        of_verdict verdict is text = absurd is

  module _ (error : BenchError) (side : Side) (at : ℕ) (is : error ≡ Malformed side at)
      (pair : ReturnsPair ignore false index m replayed (Err error)) where
    malformed_pair : IsFound ignore index m replayed (NotWellFormed side at)
    unfolding ReturnsPair
    malformed_pair = subst (λ (e : BenchError). ReturnsPair ignore false index m replayed (Err e)) is pair

    pub pair_malformed : (report : Report) → ReportsOutcome (NotWellFormed side at) report
        → ReportsPair ignore index m replayed (Ok (Some report))
    pair_malformed report reports = (NotWellFormed side at, malformed_pair, reports)

    pub pair_malformed_told : (told : CallError) → told ≡ malformed_on side
        → Tells ignore index m replayed (Err told)
    pair_malformed_told told is_told =
        subst (λ (e : CallError). Tells ignore index m replayed (Err e)) (sym is_told) (of_side side malformed_pair)
      where
        of_side : (side : Side) → IsFound ignore index m replayed (NotWellFormed side at)
            → Tells ignore index m replayed (Err (malformed_on side))
        of_side Recorded (typed, is, held) = (typed, refl, held)
        of_side Replayed (typed, is, held) = (typed, refl, held)

  -- the numbers of what is found begin with those of its report
  found_numbers : (outcome : Outcome) (kind at : ℕ) → IsFound ignore index m replayed outcome
      → (kind ∷ at ∷ []) ≡ verdict_numbers outcome → verdict_numbers outcome ≡ kind ∷ index ∷ []
  found_numbers (OtherType found text) kind at (is, differ, told) counted = cc
  found_numbers (OtherCommand found text) kind at (typed, is, differ) counted = cc
  found_numbers (NotWellFormed Recorded found) kind at (typed, is, held) counted = cc
  found_numbers (NotWellFormed Replayed found) kind at (typed, is, held) counted = cc
  found_numbers outcome kind at is counted = absurd is

-- ---- what a check says

module _ (code : ℕ) (recorded payload numbers : List ℕ) (place : Place) (long : nat_lt (length numbers) 6 ≡ false)
    (at : place ≡ place_in numbers) (rules : Rules) (has : HasRules place (Ok rules))
    (unsaid : nat_lt 0 place.said ≡ false) (near : is_beyond place payload ≡ false) where
  checked_item : (outcome : Result Checked CallError)
      → ChecksItem rules.version rules.ignore place recorded (command_given code payload) (8 + length payload) outcome
      → ReturnsChecked code recorded payload numbers outcome
  checked_item outcome held = at_rules numbers outcome holds place long at rules has (rw (unsaid, near) held)
    where
      holds : Version → Ignored → Place → Type 0
      holds version ignore place =
          MatchBool (nat_lt 0 place.said) (outcome ≡ Ok (Passed place))
          (MatchBool (is_beyond place payload) (outcome ≡ Err TooLong)
          (ChecksItem version ignore place recorded (command_given code payload) (8 + length payload) outcome))

  pub checked_left : (ty : MessageType) → command_given code payload ≡ Some (plain_message ty payload)
      → (around : Around) → IsAround rules.version recorded place around
      → (next : RecordedCommand) → around.next ≡ Some next
      → (said : Option Report) → ReportsPair rules.ignore place.index (message_of next) (plain_message ty payload)
      (Ok said)
      → (report : Report) → said ≡ Some report
      → (checked : Checked) → checked ≡ Left (record place { said = 1 })
      (report.kind ∷ place.index ∷ place.replayed ∷ command_numbers (Some next))
      → ReturnsChecked code recorded payload numbers (Ok checked)
  checked_left ty given around is next found said says report is_said checked result =
      let (outcome, differ, (counted, text)) = subst (λ (s : Option Report). ReportsPair rules.ignore place.index
      (message_of next) (plain_message ty payload) (Ok s)) is_said says in
      checked_item (Ok checked) (rw given (
        around,
        is,
        rw (found, result) (
          outcome,
          differ,
          refl,
          ap (λ l. l ++ (place.replayed ∷ command_numbers (Some next))) (sym (found_numbers rules.ignore place.index
              (message_of next) (plain_message ty payload) outcome report.kind report.index differ counted)),
        ),
      ))
