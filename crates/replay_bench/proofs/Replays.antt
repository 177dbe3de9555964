-- How a replay follows a recording, and what is said where it leaves it.
use Rattle.std.proofs.Common.{◌≡◌, ℕ, ◌+◌, ◌-◌, ◌≤◌, ◌<◌, ◌^◌, Bool, true, false, cond, List, [], ◌∷◌}
use Rattle.std.proofs.Common.{◌++◌, length, Option, Some, None, Ok, Err, refl, sym, ap, ◌∙◌, subst, inl, inr, arith}
use Rattle.std.proofs.Common.{append_assoc, append-nil, zero-add}
use Rattle.std.specs.Io.KnownBytes.{Keeps}
use Rattle.replay_bench.specs.declared.journals.Ignored.{Ignored}
use Rattle.replay_bench.specs.declared.survey.Survey.{Survey}
use Rattle.std.specs.Prelude.{count_by, is_none, is_some, IfErr, IfSome, Result}
use Rattle.std.proofs.lemmas.Bool.{both_ways}
use Rattle.std.proofs.lemmas.List.Sums.{sum_by-append}
use Rattle.shared_core_base.specs.declared.version.Version.{Version}
use Rattle.shared_core_stream.specs.declared.encoding.item.Item.{Item}
use Rattle.shared_core_stream.specs.declared.encoding.raw_message.RawMessage.{RawMessage}
use Rattle.shared_core_stream.specs.Items.{IsItemsThen, SplitsInto}
use Rattle.shared_core_stream.proofs.Items.{split_of, then_join}
use Rattle.stream_lines.specs.Printing.{item_size, items_size}
use Rattle.stream_lines.proofs.Progress.{then_long}
use Rattle.replay_bench.specs.declared.commands.Commands.{Commands}
use Rattle.replay_bench.specs.declared.following.Following.{Following}
use Rattle.replay_bench.specs.declared.following.Ahead.{Ahead}
use Rattle.replay_bench.specs.declared.following.Ahead.TheVariants.{Unread, Held, Ended, Failed}
use Rattle.replay_bench.specs.declared.mismatches.Found.{Found}
use Rattle.replay_bench.specs.declared.verdicts.Side.{Side}
use Rattle.replay_bench.specs.declared.verdicts.Verdict.{Verdict}
use Rattle.replay_bench.specs.declared.verdicts.BenchError.{BenchError}
use Rattle.replay_bench.specs.declared.verdicts.BenchError.TheVariants.{Malformed, TooLong, OutOfMemory}
use Rattle.replay_bench.specs.declared.verdicts.ReaderError.{ReaderError}
use Rattle.replay_bench.specs.declared.verdicts.ReaderError.TheVariants.{Bench, Read, MessageTooLong}
use Rattle.replay_bench.specs.declared.following.Mismatch.{Mismatch}
use Rattle.replay_bench.specs.declared.verdicts.Side.TheVariants.{Recorded, Replayed}
use Rattle.replay_bench.specs.Holding.{AreAllAlike}
use Rattle.replay_bench.specs.Journals.{IsCommand, IsJournal, command_of, commands_among, with_first}
use Rattle.replay_bench.specs.Outcomes.{Outcome, NotWellFormed, outcome_of}
use Rattle.replay_bench.specs.Replays.{ending, held_in, AreLeft, ComesNext, Follows, HasFollowed, IsAhead}
use Rattle.replay_bench.specs.Reading.{HasRead, HasReadOn}
use Rattle.replay_bench.specs.Replays.{is_malformed, is_repeatable, IsFollowing, IsMismatch, IsReadTo, IsSaidAtEnd}
use Rattle.replay_bench.specs.Replays.{IsSaidOf, IsSourceRead, Recording}
use Rattle.replay_bench.specs.Replays.{Rejects}
use Rattle.replay_bench.specs.declared.sources.SourceError.{SourceError}
use Rattle.replay_bench.specs.Sources.{reader_error, EndsKnown, MayReject, RejectsNext, UnreadWithoutMemory}
use Rattle.replay_bench.specs.Reading.{IsKnownLast, IsKnownThen}
use Rattle.replay_bench.specs.Survey.{is_command, survey_of}
use Rattle.replay_bench.specs.Taking.{HasNoCommand, IsStill, TakesFirst}
use Rattle.replay_bench.specs.Verdicts.{AreAlike, ComparesKnown, FailsOn, HasFieldsOn, HasOutcome, IsOutcome}
use Rattle.replay_bench.specs.Verdicts.{MayFailOn, ReturnsNext, ReturnsPair}
use Rattle.replay_bench.proofs.Endings.{are_alike, is_found}
use Rattle.replay_bench.proofs.Fronts.{journal_of, takes_after, takes_kept}
use Rattle.replay_bench.proofs.OneOutcome.{one_journal}
use Rattle.replay_bench.proofs.Places.{fields_found}
use Rattle.replay_bench.proofs.Readings.{counts_found, kept_read, on_last, on_more, read_on, rejects}
use Rattle.replay_bench.proofs.Rejections.{fails_recorded, rejects_recorded}
use Rattle.replay_bench.proofs.Seen.{seen_next}
use Rattle.replay_bench.proofs.Surveys.{count_more, count_small, eight, items_size_more}

-- ---- commands among items

with_first_append : (first : Option RawMessage) (a b : List RawMessage)
    → with_first first (a ++ b) ≡ with_first first a ++ b
with_first_append None a b = refl
with_first_append (Some first) a b = refl

among_append : (items more : List Item) → commands_among (items ++ more) ≡ commands_among items ++ commands_among more
among_append [] more = refl
among_append (item ∷ items) more =
    ap (with_first (command_of item)) (among_append items more)
    ∙ with_first_append (command_of item) (commands_among items) (commands_among more)

-- the commands of one item more
among_more : (items : List Item) (item : Item) (found : Option RawMessage) → command_of item ≡ found
    → commands_among (items ++ item ∷ []) ≡ commands_among items ++ with_first found []
among_more items item found is =
    among_append items (item ∷ [])
    ∙ ap (λ (first : Option RawMessage). commands_among items ++ with_first first []) is

long_with : (found : Option RawMessage) (commands : List RawMessage)
    → length (with_first found commands) ≡ cond (is_some found) 1 0 + length commands
long_with None commands = omega arith
long_with (Some command) commands = omega arith

count_first : (p : Item → Bool) (item : Item) (items : List Item)
    → count_by p (item ∷ items) ≡ cond (p item) 1 0 + count_by p items
count_first p item items =
    sum_by-append (λ x. cond (p x) 1 0) (item ∷ []) items
    ∙ ap (λ n. n + count_by p items) (zero-add (cond (p item) 1 0))

-- as many as are counted
pub among_long : (items : List Item) → length (commands_among items) ≡ count_by is_command items
among_long [] = refl
among_long (item ∷ items) =
    long_with (command_of item) (commands_among items)
    ∙ ap (λ (b : Bool). cond b 1 0 + length (commands_among items)) (sym (counts_found item))
    ∙ ap (λ n. cond (is_command item) 1 0 + n) (among_long items) ∙ sym (count_first is_command item items)

pub counts_next : (items : List Item) (item : Item) (found : Option RawMessage) → command_of item ≡ found
    → count_by is_command (items ++ item ∷ []) ≡ count_by is_command items + cond (is_some found) 1 0
counts_next items item found is =
    count_more is_command items item
    ∙ ap (λ (b : Bool). count_by is_command items + cond b 1 0) (counts_found item ∙ ap is_some is)

-- ---- commands that are alike, one by one

module _ (ignore : Ignored) where
  alike_long : (one other : List RawMessage) → AreAllAlike ignore one other → length one ≡ length other
  alike_long [] [] all = refl
  alike_long [] (b ∷ other) all = absurd all
  alike_long (a ∷ one) [] all = absurd all
  alike_long (a ∷ one) (b ∷ other) all = omega (arith, alike_long one other all.1)

  alike_more : (one other : List RawMessage) (a b : RawMessage) → AreAllAlike ignore one other → AreAlike ignore a b
      → AreAllAlike ignore (one ++ a ∷ []) (other ++ b ∷ [])
  alike_more [] [] a b all alike = (alike, tt)
  alike_more [] (d ∷ other) a b all alike = absurd all
  alike_more (c ∷ one) [] a b all alike = absurd all
  alike_more (c ∷ one) (d ∷ other) a b all alike = (all.0, alike_more one other a b all.1 alike)

  -- the outcome is that of those after them
  outcome_before : (index : ℕ) (one other rest more : List RawMessage) (outcome : Outcome)
      → AreAllAlike ignore one other → IsOutcome ignore (index + length one) rest more outcome
      → IsOutcome ignore index (one ++ rest) (other ++ more) outcome
  outcome_before index [] [] rest more outcome all is =
      let e : index + 0 ≡ index = omega arith in
      subst (λ n. IsOutcome ignore n rest more outcome) e is
  outcome_before index [] (b ∷ other) rest more outcome all is = absurd all
  outcome_before index (a ∷ one) [] rest more outcome all is = absurd all
  outcome_before index (a ∷ one) (b ∷ other) rest more outcome all is =
      let e : index + length (a ∷ one) ≡ (index + 1) + length one = omega arith in
      inl (
        all.0,
        outcome_before (index + 1) one other rest more outcome all.1
            (subst (λ n. IsOutcome ignore n rest more outcome) e is),
      )

-- ---- the journal of a replay

module _ (version : Version) where
  -- a stream that begins with items is a journal that begins with their commands
  pub begins_with : (stream rest : List ℕ) (items : List Item) → IsItemsThen version stream items rest
      → (more : List RawMessage) × IsJournal version stream (commands_among items ++ more)
  begins_with stream rest items then =
      let (others, left, split) = split_of version rest in (
        commands_among others,
        record {
          items = items ++ others;
          rest = left;
          split = record {
            items_then = then_join version stream rest left items others then split.items_then;
            no_more = split.no_more;
          };
          among = sym (among_append items others);
        },
      )

  pub ends_with : (stream rest : List ℕ) (items : List Item) → SplitsInto version stream items rest
      → IsJournal version stream (commands_among items ++ [])
  ends_with stream rest items split =
      record { items = items; rest = rest; split = split; among = append-nil (commands_among items) }

  -- the last item is this command
  begins_with_one : (stream rest : List ℕ) (items : List Item) (item : Item) (command : RawMessage)
      → command_of item ≡ Some command → IsItemsThen version stream (items ++ item ∷ []) rest
      → (more : List RawMessage) × IsJournal version stream (commands_among items ++ (command ∷ more))
  begins_with_one stream rest items item command is then =
      let (more, journal) = begins_with stream rest (items ++ item ∷ []) then in (
        more,
        subst (λ (all : List RawMessage). IsJournal version stream all)
            (ap (λ (all : List RawMessage). all ++ more) (among_more items item (Some command) is)
            ∙ append_assoc (commands_among items) (command ∷ []) more) journal,
      )

  module _ (ignore : Ignored) where
    place_of : (recorded : List ℕ) (given : List Item) (left : List RawMessage)
        → (followed : HasFollowed version ignore recorded (commands_among given) left)
        → length followed.before ≡ count_by is_command given
    place_of recorded given left followed =
        alike_long ignore followed.before (commands_among given) followed.alike ∙ among_long given

    -- the outcome of what is left, and of what is given after the items, is that of both journals
    outcome_of_rest : (recorded : List ℕ) (given : List Item) (left more : List RawMessage) (outcome : Outcome)
        → HasFollowed version ignore recorded (commands_among given) left
        → IsOutcome ignore (count_by is_command given) left more outcome
        → (replayed : List ℕ) → IsJournal version replayed (commands_among given ++ more)
        → HasOutcome version ignore recorded replayed outcome
    outcome_of_rest recorded given left more outcome followed is replayed journal = record {
      recorded_commands = followed.before ++ left;
      replayed_commands = commands_among given ++ more;
      is_recorded = followed.is;
      is_replayed = journal;
      is_outcome = outcome_before ignore 0 followed.before (commands_among given) left more outcome followed.alike
          (subst (λ n. IsOutcome ignore n left more outcome)
          (omega (arith, place_of recorded given left followed)) is);
    }

    -- ---- the next command of the replay

    -- they are alike
    pub follows_more : (recorded : Option (List ℕ)) (given : List Item) (item : Item) (one other : RawMessage)
        (coming : Option (List ℕ))
        → IfSome recorded (Follows version ignore (commands_among given) (Held one) coming)
        → command_of item ≡ Some other → AreAlike ignore one other
        → IfSome recorded (Follows version ignore (commands_among (given ++ item ∷ [])) Unread coming)
    follows_more None given item one other coming follows is alike = tt
    follows_more (Some recorded) given item one other coming (left, followed, (rest, left_is, commands)) is alike = (
      rest,
      record {
        before = followed.before ++ one ∷ [];
        alike = subst (λ (all : List RawMessage). AreAllAlike ignore (followed.before ++ one ∷ []) all)
            (sym (among_more given item (Some other) is))
            (alike_more ignore followed.before (commands_among given) one other followed.alike alike);
        is = subst (λ (all : List RawMessage). IsJournal version recorded all)
            (ap (λ (all : List RawMessage). followed.before ++ all) left_is
            ∙ sym (append_assoc followed.before (one ∷ []) rest)) followed.is;
      },
      commands,
    )

    -- the item is not a command
    pub follows_same : (recorded : Option (List ℕ)) (given : List Item) (item : Item) (ahead : Ahead)
        (coming : Option (List ℕ))
        → IfSome recorded (Follows version ignore (commands_among given) ahead coming) → command_of item ≡ None
        → IfSome recorded (Follows version ignore (commands_among (given ++ item ∷ [])) ahead coming)
    follows_same recorded given item ahead coming follows is =
        subst (λ (all : List RawMessage). IfSome recorded (Follows version ignore all ahead coming))
        (sym (among_more given item None is ∙ append-nil (commands_among given))) follows

    -- what is found is the outcome
    next_outcome : (ahead : Ahead) (coming : Option (List ℕ)) (left more : List RawMessage) (other : RawMessage)
        (index : ℕ) (found : Found) → IsAhead ahead → AreLeft version ahead coming left
        → ReturnsNext ignore true index (held_in ahead) (Some other) (Ok (Some found))
        → IsOutcome ignore index left (other ∷ more) (outcome_of found.verdict)
    next_outcome Unread coming left more other index found is left_is returns = absurd is
    next_outcome (Failed error) coming left more other index found is left_is returns = absurd is
    next_outcome Ended coming left more other index found is left_is returns =
        subst (λ (all : List RawMessage). IsOutcome ignore index all (other ∷ more) (outcome_of found.verdict))
        (sym left_is) (ap outcome_of returns.0)
    next_outcome (Held one) coming left more other index found is (rest, left_is, commands) returns =
        subst (λ (all : List RawMessage). IsOutcome ignore index all (other ∷ more) (outcome_of found.verdict))
        (sym left_is) (inr (is_found version ignore true index one other found returns).0)

    malformed_outcome : (ahead : Ahead) (coming : Option (List ℕ)) (left more : List RawMessage) (other : RawMessage)
        (index : ℕ) (side : Side) (at : ℕ) → IsAhead ahead → AreLeft version ahead coming left
        → ReturnsNext ignore true index (held_in ahead) (Some other) (Err (Malformed side at))
        → IsOutcome ignore index left (other ∷ more) (NotWellFormed side at)
    unfolding ReturnsPair
    malformed_outcome Unread coming left more other index side at is left_is returns = absurd is
    malformed_outcome (Failed error) coming left more other index side at is left_is returns = absurd is
    malformed_outcome Ended coming left more other index side at is left_is returns = absurd returns
    malformed_outcome (Held one) coming left more other index side at is (rest, left_is, commands) returns =
        subst (λ (all : List RawMessage). IsOutcome ignore index all (other ∷ more) (NotWellFormed side at))
        (sym left_is) (inr returns)

    module _ (given : List Item) (item : Item) (other : RawMessage) (item_is : command_of item ≡ Some other) where
      pub says : (recorded : Option (List ℕ)) (ahead : Ahead) (coming : Option (List ℕ)) (found : Found)
          → IfSome recorded (Follows version ignore (commands_among given) ahead coming) → IsAhead ahead
          → ReturnsNext ignore true (count_by is_command given) (held_in ahead) (Some other) (Ok (Some found))
          → IsSaidOf version ignore recorded (given ++ item ∷ []) (Ok found.verdict)
      says None ahead coming found follows is returns = λ replayed rest then. tt
      says (Some recorded) ahead coming found (left, followed, left_is) is returns = λ replayed rest then.
          let (more, journal) = begins_with_one replayed rest given item other item_is then in
          outcome_of_rest recorded given left (other ∷ more) (outcome_of found.verdict) followed
          (next_outcome ahead coming left more other (count_by is_command given) found is left_is returns) replayed
          journal

      pub says_malformed : (recorded : Option (List ℕ)) (ahead : Ahead) (coming : Option (List ℕ)) (error : BenchError)
          → IfSome recorded (Follows version ignore (commands_among given) ahead coming) → IsAhead ahead
          → ReturnsNext ignore true (count_by is_command given) (held_in ahead) (Some other) (Err error)
          → IsSaidOf version ignore recorded (given ++ item ∷ []) (Err (Bench error))
      unfolding ReturnsPair
      says_malformed None ahead coming error follows is returns = λ replayed rest then. tt
      says_malformed (Some recorded) ahead coming OutOfMemory follows is returns = λ replayed rest then. tt
      says_malformed (Some recorded) Unread coming TooLong follows is returns = absurd is
      says_malformed (Some recorded) (Failed error) coming TooLong follows is returns = absurd is
      says_malformed (Some recorded) Ended coming TooLong follows is returns = absurd returns
      says_malformed (Some recorded) (Held one) coming TooLong follows is returns = absurd returns
      says_malformed (Some recorded) ahead coming (Malformed side at) (left, followed, left_is) is returns =
          λ replayed rest then.
          let (more, journal) = begins_with_one replayed rest given item other item_is then in
          outcome_of_rest recorded given left (other ∷ more) (NotWellFormed side at) followed
          (malformed_outcome ahead coming left more other (count_by is_command given) side at is left_is returns)
          replayed journal

      -- the fields in which they differ
      fields_here : (recorded : Option (List ℕ)) (one : RawMessage) (coming : Option (List ℕ)) (found : Found)
          → IfSome recorded (Follows version ignore (commands_among given) (Held one) coming)
          → ReturnsNext ignore true (count_by is_command given) (Some one) (Some other) (Ok (Some found))
          → (replayed : List ℕ) (more : List RawMessage)
          → IsJournal version replayed (commands_among given ++ (other ∷ more))
          → HasFieldsOn version recorded (Some replayed) found.verdict found.fields.items
      fields_here None one coming found follows returns replayed more journal =
          let (outcome, fields) = is_found version ignore true (count_by is_command given) one other found returns in
          fields_found version ignore true (count_by is_command given) one other None (Some replayed) found.verdict
          found.fields.items tt
          (record { before = commands_among given; after = more; is = journal; place = among_long given }) outcome
          fields refl
      fields_here (Some recorded) one coming found (left, followed, (rest, left_is, commands)) returns replayed more
          journal =
          let (outcome, fields) = is_found version ignore true (count_by is_command given) one other found returns in
          fields_found version ignore true (count_by is_command given) one other (Some recorded) (Some replayed)
          found.verdict found.fields.items
          (record {
            before = followed.before;
            after = rest;
            is = subst (λ (all : List RawMessage). IsJournal version recorded (followed.before ++ all)) left_is
                followed.is;
            place = place_of recorded given left followed;
          })
          (record { before = commands_among given; after = more; is = journal; place = among_long given }) outcome
          fields refl

      pub says_fields : (recorded : Option (List ℕ)) (ahead : Ahead) (coming : Option (List ℕ)) (found : Found)
          → IfSome recorded (Follows version ignore (commands_among given) ahead coming) → IsAhead ahead
          → ReturnsNext ignore true (count_by is_command given) (held_in ahead) (Some other) (Ok (Some found))
          → (replayed rest : List ℕ) → IsItemsThen version replayed (given ++ item ∷ []) rest
          → HasFieldsOn version recorded (Some replayed) found.verdict found.fields.items
      says_fields recorded Unread coming found follows is returns = absurd is
      says_fields recorded (Failed error) coming found follows is returns = absurd is
      says_fields recorded Ended coming found follows is returns = λ replayed rest then.
          subst (λ (v : Verdict). HasFieldsOn version recorded (Some replayed) v found.fields.items) (sym returns.0)
          returns.1
      says_fields recorded (Held one) coming found follows is returns = λ replayed rest then.
          let (more, journal) = begins_with_one replayed rest given item other item_is then in
          fields_here recorded one coming found follows returns replayed more journal

    -- ---- the end of the replay

    pub says_at_end : (recorded : Option (List ℕ)) (ahead : Ahead) (coming : Option (List ℕ)) (given : List Item)
        (verdict : Verdict)
        → IfSome recorded (Follows version ignore (commands_among given) ahead coming) → IsAhead ahead
        → verdict ≡ ending ahead (count_by is_command given)
        → IsSaidAtEnd version ignore recorded given (Ok verdict)
    says_at_end None ahead coming given verdict follows is ends = λ replayed rest split. tt
    says_at_end (Some recorded) Unread coming given verdict follows is ends = absurd is
    says_at_end (Some recorded) (Failed error) coming given verdict follows is ends = absurd is
    says_at_end (Some recorded) Ended coming given verdict (left, followed, left_is) is ends = λ replayed rest split.
        outcome_of_rest recorded given left [] (outcome_of verdict) followed
        (subst (λ (all : List RawMessage). IsOutcome ignore (count_by is_command given) all [] (outcome_of verdict))
        (sym left_is) (ap outcome_of ends)) replayed (ends_with replayed rest given split)
    says_at_end (Some recorded) (Held one) coming given verdict (left, followed, (more, left_is, commands)) is ends =
        λ replayed rest split.
        outcome_of_rest recorded given left [] (outcome_of verdict) followed
        (subst (λ (all : List RawMessage). IsOutcome ignore (count_by is_command given) all [] (outcome_of verdict))
        (sym left_is) (ap outcome_of ends)) replayed (ends_with replayed rest given split)

    -- ---- the recording is read ahead

    -- what comes next
    pub comes_next : (recorded : Option (List ℕ)) (given : List Item) (ahead : Ahead) (coming : Option (List ℕ))
        → IfSome recorded (Follows version ignore (commands_among given) ahead coming) → IsAhead ahead
        → ComesNext version recorded given (held_in ahead)
    comes_next recorded given Unread coming follows is = absurd is
    comes_next recorded given (Failed error) coming follows is = absurd is
    comes_next None given Ended coming follows is = tt
    comes_next None given (Held command) coming follows is = tt
    comes_next (Some recorded) given Ended coming (left, followed, left_is) is = record {
      before = followed.before;
      place = place_of recorded given left followed;
      is = subst (λ (all : List RawMessage). IsJournal version recorded (followed.before ++ all)) left_is followed.is;
    }
    comes_next (Some recorded) given (Held command) coming (left, followed, (rest, left_is, commands)) is = record {
      before = followed.before;
      after = rest;
      is = subst (λ (all : List RawMessage). IsJournal version recorded (followed.before ++ all)) left_is followed.is;
      place = place_of recorded given left followed;
    }

    -- it has ended
    pub reads_end : (recorded : Option (List ℕ)) (given : List RawMessage) (coming now : Option (List ℕ))
        → IfSome recorded (Follows version ignore given Unread coming) → HasNoCommand version coming
        → IfSome recorded (Follows version ignore given Ended now)
    reads_end None given coming now follows none = tt
    reads_end (Some recorded) given None now (left, followed, commands) none = absurd commands
    reads_end (Some recorded) given (Some bytes) now (left, followed, commands) none =
        (left, followed, one_journal version bytes left [] commands none)

    -- its next command is held
    pub reads_one : (recorded : Option (List ℕ)) (given : List RawMessage) (coming now : Option (List ℕ))
        (command : RawMessage)
        → IfSome recorded (Follows version ignore given Unread coming) → TakesFirst version coming (Some command) now
        → IfSome recorded (Follows version ignore given (Held command) now)
    reads_one None given coming now command follows takes = tt
    reads_one (Some recorded) given None now command (left, followed, commands) takes = absurd commands
    reads_one (Some recorded) given (Some bytes) None command (left, followed, commands) takes = absurd takes
    reads_one (Some recorded) given (Some bytes) (Some more) command (left, followed, commands) takes =
        let (rest, is) = journal_of version more in
        (left, followed, (rest, one_journal version bytes left (command ∷ rest) commands (takes rest is), is))

    -- items that are not commands were passed
    pub reads_none : (recorded : Option (List ℕ)) (given : List RawMessage) (coming now : Option (List ℕ))
        → IfSome recorded (Follows version ignore given Unread coming) → TakesFirst version coming None now
        → IfSome recorded (Follows version ignore given Unread now)
    reads_none None given coming now follows takes = tt
    reads_none (Some recorded) given None now (left, followed, commands) takes = absurd commands
    reads_none (Some recorded) given (Some bytes) None (left, followed, commands) takes = absurd takes
    reads_none (Some recorded) given (Some bytes) (Some more) (left, followed, commands) takes =
        let (rest, is) = journal_of version more in (
          left,
          followed,
          subst (λ (all : List RawMessage). IsJournal version more all)
              (one_journal version bytes rest left (takes rest is) commands) is,
        )

    -- it could not be read on
    pub failed_follows : (recorded : Option (List ℕ)) (given : List RawMessage) (error : ReaderError)
        (coming now : Option (List ℕ)) → IfSome recorded (Follows version ignore given Unread coming)
        → IfSome recorded (Follows version ignore given (Failed error) now)
    failed_follows None given error coming now follows = tt
    failed_follows (Some recorded) given error coming now (left, followed, commands) = (left, followed, tt)

    -- at first all is left
    pub follows_none : (recorded : Option (List ℕ)) → IfSome recorded (Follows version ignore [] Unread recorded)
    follows_none None = tt
    follows_none (Some recorded) =
        let (commands, is) = journal_of version recorded in
        (commands, record { before = []; alike = tt; is = is }, is)

-- ---- the source of a recording is read on

-- where an allocation failed, no command was taken
module _ {S : Type 0} (version_of : S → Version) (limit_of : S → ℕ) (coming_of : S → Option (List ℕ))
    (first between after : Commands S) where
  pub still_unread : (error : ReaderError)
      → TakesFirst first.version (coming_of first.source) None (coming_of between.source)
      → version_of between.source ≡ version_of first.source → limit_of between.source ≡ limit_of first.source
      → between.survey.size < 2 ^ 64 → between.survey.commands ≡ first.survey.commands
      → ((is_strict : Bool) (stream : Option (List ℕ))
      → HasRead first.version is_strict stream (coming_of first.source) 0 first.survey
      → HasRead first.version is_strict stream (coming_of between.source) 0 between.survey)
      → UnreadWithoutMemory {T = Option Item} (Err error) ((version_of after.source ≡ version_of between.source)
      × (limit_of after.source ≡ limit_of between.source)
      × Keeps (coming_of between.source) (coming_of after.source)
      × (after ≡ record between { source = after.source }))
      → UnreadWithoutMemory {T = Option RawMessage} (Err error) (IsStill first.version (coming_of first.source)
      (version_of first.source) (limit_of first.source) first.survey (coming_of after.source)
      (version_of after.source) (limit_of after.source) after.survey)
  still_unread (Bench OutOfMemory) passed reads limits fits counted read (reads_now, limits_now, keeps, same) =
      let survey = ap (λ (s : Commands S). s.survey) same in
      record {
        passed = takes_after first.version _ _ _ _ passed (takes_kept first.version _ _ keeps);
        reads_is = reads_now ∙ reads;
        limit_is = limits_now ∙ limits;
        fits = rw survey fits;
        counted = ap (λ (s : Survey). s.commands) survey ∙ counted;
        read = λ is_strict stream is.
            rw survey (kept_read first.version is_strict stream _ _ _ keeps (read is_strict stream is));
      }
  still_unread (Bench TooLong) passed reads limits fits counted read kept = tt
  still_unread (Bench (Malformed side index)) passed reads limits fits counted read kept = tt
  still_unread (Read side) passed reads limits fits counted read kept = tt
  still_unread (MessageTooLong side message) passed reads limits fits counted read kept = tt

module _ {S : Type 0} (version_of : S → Version) (limit_of : S → ℕ) (coming_of : S → Option (List ℕ))
    (may_fail : Bool) (recording : Recording) where
  abbrev IsRead : Bool → ℕ → Commands S → Type 0
  IsRead = IsSourceRead version_of limit_of coming_of recording

  abbrev Following-of : List Item → Following S → Type 0
  Following-of = IsFollowing version_of limit_of coming_of may_fail recording

  -- what reading the next command asks for
  pub may_read : (given : List Item) (old : Following S) → old.ahead ≡ Unread → Following-of given old
      → IsRead false old.index old.recorded
  may_read given old is f = rw is at f.read_to

  -- one command was taken, or none is left
  pub source_read : (before after : Commands S) (index : ℕ) (found : Option RawMessage) → IsRead false index before
      → after.survey.size < 2 ^ 64 → version_of after.source ≡ version_of before.source
      → limit_of after.source ≡ limit_of before.source → after.side ≡ before.side → after.version ≡ before.version
      → after.survey.commands ≡ before.survey.commands + cond (is_some found) 1 0
      → ((is_strict : Bool) (first : Option (List ℕ))
      → HasRead before.version is_strict first (coming_of before.source) 0 before.survey
      → HasReadOn before.version is_strict first (is_none found) (coming_of after.source) after.survey)
      → IsRead (is_none found) (index + cond (is_some found) 1 0) after
  source_read before after index found is fits reads limits side noted counted on =
      let r = is.reading in
      let read = on_more _ _ _ _ _ r.read_on in
      let goes_on = rw r.noted_is at on in
      record {
        limit_is = limits ∙ is.limit_is;
        reading = record {
          side_is = side ∙ r.side_is;
          noted_is = noted ∙ r.noted_is;
          version_is = reads ∙ r.version_is;
          fits = fits;
          read_on = goes_on false recording.bytes read;
          counted = counted ∙ ap (λ n. n + cond (is_some found) 1 0) r.counted;
        };
      }

  module _ (given : List Item) (old : Following S) (unread : old.ahead ≡ Unread) (f : Following-of given old)
      (after : Commands S) where
    unread_follows : IfSome recording.bytes (Follows recording.version old.ignore (commands_among given) Unread
        (coming_of old.recorded.source))
    unread_follows = rw unread at f.follows

    -- the next command is held
    pub reads_held : (command : RawMessage) → IsCommand command
        → TakesFirst old.recorded.version (coming_of old.recorded.source) (Some command) (coming_of after.source)
        → IsRead false (old.index + 1) after
        → Following-of given (record old { recorded = after; ahead = Held command })
    reads_held command is takes read = record {
      index_is = f.index_is;
      size_is = f.size_is;
      fits = f.fits;
      read_to = (is, read);
      follows = reads_one recording.version old.ignore recording.bytes (commands_among given) _ _ command
          unread_follows (rw (may_read given old unread f).reading.noted_is at takes);
    }

    -- none is left
    pub reads_ended : HasNoCommand old.recorded.version (coming_of old.recorded.source)
        → IsRead true (old.index + 0) after
        → Following-of given (record old { recorded = after; ahead = Ended })
    reads_ended none read = record {
      index_is = f.index_is;
      size_is = f.size_is;
      fits = f.fits;
      read_to = subst (λ (n : ℕ). IsRead true n after) (omega arith) read;
      follows = reads_end recording.version old.ignore recording.bytes (commands_among given)
          (coming_of old.recorded.source) (coming_of after.source) unread_follows
          (rw (may_read given old unread f).reading.noted_is at none);
    }

    -- an allocation failed
    pub reads_still : IsStill old.recorded.version (coming_of old.recorded.source) (version_of old.recorded.source)
        (limit_of old.recorded.source) old.recorded.survey (coming_of after.source) (version_of after.source)
        (limit_of after.source) after.survey
        → after.side ≡ old.recorded.side → after.version ≡ old.recorded.version
        → Following-of given (record old { recorded = after })
    reads_still still side noted =
        let is = may_read given old unread f in
        let r = is.reading in
        let on = rw r.noted_is at still.read in
        let now : IsRead false old.index after = record {
          limit_is = still.limit_is ∙ is.limit_is;
          reading = record {
            side_is = side ∙ r.side_is;
            noted_is = noted ∙ r.noted_is;
            version_is = still.reads_is ∙ r.version_is;
            fits = still.fits;
            read_on = read_on _ _ _ _ _ (on false recording.bytes (on_more _ _ _ _ _ r.read_on));
            counted = still.counted ∙ r.counted;
          };
        } in
        record {
          index_is = f.index_is;
          size_is = f.size_is;
          fits = f.fits;
          read_to = rw unread now;
          follows = rw unread (reads_none recording.version old.ignore recording.bytes (commands_among given) _ _
              unread_follows (rw r.noted_is at still.passed));
        }

    -- it could not be read
    pub rejects_of : (error : ReaderError)
        → ((is_strict : Bool) (first : Option (List ℕ))
        → HasRead old.recorded.version is_strict first (coming_of old.recorded.source) 0 old.recorded.survey
        → MayReject old.recorded.side may_fail old.recorded.version (limit_of old.recorded.source) first error)
        → Rejects may_fail recording error
    rejects_of error rejected =
        let is = may_read given old unread f in
        let r = is.reading in
        let now = rw (r.noted_is, r.side_is, is.limit_is) at rejected in
        now false recording.bytes (on_more _ _ _ _ _ r.read_on)

    pub reads_failed : (error : ReaderError) → Rejects may_fail recording error → is_repeatable error ≡ false
        → Following-of given (record old { recorded = after; ahead = Failed error })
    reads_failed error rejects final = record {
      index_is = f.index_is;
      size_is = f.size_is;
      fits = f.fits;
      read_to = (rejects, final);
      follows = failed_follows recording.version old.ignore recording.bytes (commands_among given) error
          (coming_of old.recorded.source) (coming_of after.source) unread_follows;
    }

  -- ---- an error is returned

  module _ (error : ReaderError) where
    pub of_memory : (T : Type 0) (holds : Type 0) → is_repeatable error ≡ true
        → UnreadWithoutMemory {T = T} (Err error) holds → holds
    of_memory T holds = by_error error
      where
        by_error : (error : ReaderError) → is_repeatable error ≡ true → UnreadWithoutMemory {T = T} (Err error) holds
            → holds
        by_error (Bench OutOfMemory) is kept = kept
        by_error (Bench TooLong) is kept = absurd (both_ways _ refl is)
        by_error (Bench (Malformed side at)) is kept = absurd (both_ways _ refl is)
        by_error (Read side) is kept = absurd (both_ways _ refl is)
        by_error (MessageTooLong side message) is kept = absurd (both_ways _ refl is)

    pub not_malformed : Rejects may_fail recording error → is_malformed error ≡ false
    not_malformed = by_error error
      where
        by_error : (error : ReaderError) → Rejects may_fail recording error → is_malformed error ≡ false
        by_error (Bench OutOfMemory) rejects = refl
        by_error (Bench TooLong) rejects = refl
        by_error (Bench (Malformed side at)) rejects = absurd rejects
        by_error (Read side) rejects = refl
        by_error (MessageTooLong side message) rejects = refl

    pub rejects_all : (ignore : Ignored) (given : List Item) → Rejects may_fail recording error
        → IsSaidOf recording.version ignore recording.bytes given (Err error)
    rejects_all ignore given rejects = λ replayed rest then.
        rejects_recorded recording.version ignore may_fail recording.limit recording.bytes (Some replayed) Recorded
        error refl rejects

    pub rejects_end : (ignore : Ignored) (given : List Item) → Rejects may_fail recording error
        → IsSaidAtEnd recording.version ignore recording.bytes given (Err error)
    rejects_end ignore given rejects = λ replayed rest split.
        rejects_recorded recording.version ignore may_fail recording.limit recording.bytes (Some replayed) Recorded
        error refl rejects

    pub fails_all : Rejects may_fail recording error → FailsOn may_fail recording.limit false 4294967295 error
    fails_all rejects = fails_recorded may_fail false recording.version recording.limit 4294967295 recording.bytes
        Recorded error refl rejects

  -- the items of a replay are too long
  pub says_long : (ignore : Ignored) (given : List Item) (item : Item) (size : ℕ) → size ≡ items_size given
      → 2 ^ 64 ≤ size + item_size item
      → IsSaidOf recording.version ignore recording.bytes (given ++ item ∷ []) (Err (Bench TooLong))
  says_long ignore given item size is long = λ replayed rest then.
      long_replay recording.bytes replayed (omega (
        arith,
        then_long recording.version replayed rest (given ++ item ∷ []) then,
        items_size_more given item,
        is,
        long,
      ))
    where
      long_replay : (recorded : Option (List ℕ)) (replayed : List ℕ) → 2 ^ 64 ≤ length replayed
          → ComparesKnown recording.version ignore recorded (Some replayed) (Err (Bench TooLong))
      long_replay None replayed long = tt
      long_replay (Some recorded) replayed long = inr long

  -- ---- the next item is taken

  pub index_small : (given : List Item) (following : Following S) → Following-of given following
      → following.index < 2 ^ 63
  index_small given following f = omega (arith, count_small is_command given, f.index_is, f.size_is, f.fits)

  module _ (given : List Item) (item : Item) where
    -- the bytes that may still come are fewer
    pub sizes_fall : (old new : Following S) → Following-of given old → Following-of (given ++ item ∷ []) new
        → 2 ^ 64 - new.size < 2 ^ 64 - old.size
    sizes_fall old new f then =
        omega (arith, f.size_is, then.size_is, items_size_more given item, eight item, then.fits)

    -- no command
    pub passes : (old : Following S) (size : ℕ) → Following-of given old → command_of item ≡ None
        → size ≡ old.size + item_size item → size < 2 ^ 64
        → Following-of (given ++ item ∷ []) (record old { size = size })
    passes old size f none sum fits = record {
      index_is = omega (arith, f.index_is, counts_next given item None none);
      size_is = omega (arith, sum, f.size_is, items_size_more given item);
      fits = fits;
      read_to = f.read_to;
      follows = follows_same recording.version old.ignore recording.bytes given item old.ahead _ f.follows none;
    }

    module _ (other : RawMessage) (item_is : command_of item ≡ Some other) (old : Following S)
        (f : Following-of given old) (is_ahead : IsAhead old.ahead) where
      -- a command that is the same
      pub passes_alike : (size : ℕ) → size ≡ old.size + item_size item → size < 2 ^ 64
          → ReturnsNext old.ignore true old.index (held_in old.ahead) (Some other) (Ok None)
          → Following-of (given ++ item ∷ []) (record old { ahead = Unread; index = old.index + 1; size = size })
      passes_alike size sum fits returns =
          let (read, follows) = by_ahead old.ahead is_ahead f.read_to f.follows returns in
          record {
            index_is = omega (arith, f.index_is, counts_next given item (Some other) item_is);
            size_is = omega (arith, sum, f.size_is, items_size_more given item);
            fits = fits;
            read_to = read;
            follows = follows;
          }
        where
          by_ahead : (ahead : Ahead) → IsAhead ahead
              → IsReadTo version_of limit_of coming_of may_fail recording old.index old.recorded ahead
              → IfSome recording.bytes (Follows recording.version old.ignore (commands_among given) ahead
              (coming_of old.recorded.source))
              → ReturnsNext old.ignore true old.index (held_in ahead) (Some other) (Ok None)
              → IsRead false (old.index + 1) old.recorded × IfSome recording.bytes (Follows recording.version
              old.ignore (commands_among (given ++ item ∷ [])) Unread (coming_of old.recorded.source))
          by_ahead Unread is read follows returns = absurd is
          by_ahead (Failed error) is read follows returns = absurd is
          by_ahead Ended is read follows returns = absurd returns
          by_ahead (Held one) is read follows returns = (
            read.1,
            follows_more recording.version old.ignore recording.bytes given item one other _ follows item_is
                (are_alike recording.version old.ignore true old.index one other returns),
          )

      -- a mismatch
      pub mismatches : (found : Found) (mismatch : Mismatch)
          → ReturnsNext old.ignore true old.index (held_in old.ahead) (Some other) (Ok (Some found))
          → mismatch.verdict ≡ found.verdict → mismatch.fields ≡ found.fields
          → mismatch.recorded_at ≡ old.recorded.survey.last_command → mismatch.replayed_at ≡ old.size
          → IsMismatch recording.version old.ignore recording.bytes given item mismatch
      mismatches found mismatch returns verdict_is fields_are recorded_is replayed_is =
          let at = rw f.index_is at returns in
          let seen = seen_next recording.version old.ignore true old.index _ _ found returns in
          rw (verdict_is, fields_are) (record {
            verdict = says recording.version old.ignore given item other item_is recording.bytes old.ahead _ found
                f.follows is_ahead at;
            fields = says_fields recording.version old.ignore given item other item_is recording.bytes old.ahead _
                found f.follows is_ahead at;
            index = seen.stopped ∙ f.index_is;
            recorded_last = rw seen.recorded (last_of old.ahead is_ahead f.read_to recorded_is);
            replayed_is = replayed_is ∙ f.size_is;
          })
        where
          last_of : (ahead : Ahead) → IsAhead ahead
              → IsReadTo version_of limit_of coming_of may_fail recording old.index old.recorded ahead
              → mismatch.recorded_at ≡ old.recorded.survey.last_command
              → IsKnownLast recording.version recording.bytes (old.index + cond (is_some (held_in ahead)) 1 0)
              mismatch.recorded_at
          last_of Unread is read last = absurd is
          last_of (Failed error) is read last = absurd is
          last_of Ended is read last =
              on_last _ _ _ _ _ _ _ _ read.reading.read_on (omega (arith, read.reading.counted)) last
          last_of (Held one) is read last =
              on_last _ _ _ _ _ _ _ _ read.1.reading.read_on read.1.reading.counted last

      pub mismatch_errs : (error : BenchError)
          → ReturnsNext old.ignore true old.index (held_in old.ahead) (Some other) (Err error)
          → IsSaidOf recording.version old.ignore recording.bytes (given ++ item ∷ []) (Err (Bench error))
      mismatch_errs error returns =
          let at = rw f.index_is at returns in
          says_malformed recording.version old.ignore given item other item_is recording.bytes old.ahead _ error
          f.follows is_ahead at

  -- it was said, or not
  pub said_of : (given : List Item) (old : Following S) (said : Bool) → Following-of given old
      → Following-of given (record old { has_said = said })
  said_of given old said f = record {
    index_is = f.index_is;
    size_is = f.size_is;
    fits = f.fits;
    read_to = f.read_to;
    follows = f.follows;
  }

-- ---- a replayed journal is taken from a source

module _ (version : Version) (ignore : Ignored) where
  pub said_known : (recorded replayed left : Option (List ℕ)) (items : List Item) (result : Result Verdict ReaderError)
      → IsSaidOf version ignore recorded items result → IsKnownThen version replayed items left
      → ComparesKnown version ignore recorded replayed result
  said_known None replayed left items result said then = tt
  said_known (Some recorded) None left items result said then = tt
  said_known (Some recorded) (Some replayed) None items result said then = absurd then
  said_known (Some recorded) (Some replayed) (Some left) items result said then = said replayed left then

  pub ended_known : (recorded replayed left : Option (List ℕ)) (items : List Item) (rest : ℕ)
      (result : Result Verdict ReaderError) → IsSaidAtEnd version ignore recorded items result
      → IsKnownThen version replayed items left → EndsKnown version left rest
      → ComparesKnown version ignore recorded replayed result
  ended_known None replayed left items rest result said then ends = tt
  ended_known (Some recorded) None left items rest result said then ends = tt
  ended_known (Some recorded) (Some replayed) None items rest result said then ends = absurd then
  ended_known (Some recorded) (Some replayed) (Some left) items rest result said then ends =
      said replayed left (record { items_then = then; no_more = ends.0 })

  -- why the next item is not given
  pub replayed_rejects : (may : Bool) (limit : ℕ) (replayed left : Option (List ℕ)) (items : List Item)
      (error : SourceError) → IsKnownThen version replayed items left → RejectsNext version limit may left error
      → MayReject Replayed may version limit replayed (reader_error Replayed error)
  replayed_rejects may limit replayed left items error then is =
      rejects version false replayed left (survey_of version false items 0)
      (record { items = items; items_then = then; is = refl }) Replayed may limit error is

pub fails_both : (may other_may : Bool) (limit other_limit : ℕ) (error : ReaderError)
    → FailsOn may limit false 4294967295 error → FailsOn may limit other_may other_limit error
fails_both may other_may limit other_limit (Read Recorded) fails = fails
fails_both may other_may limit other_limit (Read Replayed) fails = absurd (both_ways _ refl fails)
fails_both may other_may limit other_limit (MessageTooLong Recorded message) fails = fails
fails_both may other_may limit other_limit (MessageTooLong Replayed message) fails = absurd (omega (arith, fails))
fails_both may other_may limit other_limit (Bench error) fails = tt

pub fails_result : {T : Type 0} (may other_may : Bool) (limit other_limit : ℕ) (result : Result T ReaderError)
    → IfErr result (FailsOn may limit false 4294967295) → MayFailOn may limit other_may other_limit result
fails_result may other_may limit other_limit (Ok value) fails = tt
fails_result may other_may limit other_limit (Err error) fails = fails_both may other_may limit other_limit error fails
