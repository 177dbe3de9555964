-- Two journals have one outcome.
use Rattle.std.proofs.Common.{◌≡◌, ◌⊎◌, ℕ, ◌+◌, pos, Bool, true, false, List, [], ◌∷◌, Option, Some, None, refl, sym}
use Rattle.std.proofs.Common.{ap, ◌∙◌, subst, inl, inr}
use Rattle.std.specs.Prelude.{codes, IsSome, IfSome}
use Rattle.std.specs.Option.{IsSomeAnd}
use Rattle.std.proofs.lemmas.Bool.{both_ways}
use Rattle.shared_core_base.specs.declared.command_type.CommandType.{CommandType}
use Rattle.shared_core_base.specs.declared.header.MessageType.{MessageType}
use Rattle.shared_core_base.specs.declared.header.MessageType.TheVariants.{CustomEntry}
use Rattle.shared_core_base.specs.declared.version.Version.{Version}
use Rattle.shared_core_base.specs.contracts.header.MessageTypePartialEq.TheImpl as types
use Rattle.shared_core_base.specs.CommandType.{command_type_of}
use Rattle.shared_core_base.proofs.Types.{types_equal, types_same}
use Rattle.shared_core_wire.specs.Acceptance.{accepts_payload}
use Rattle.shared_core_codec.specs.Equality.{parts_equal}
use Rattle.shared_core_codec.specs.EqualityRules.{parts_equal_decides}
use Rattle.shared_core_codec.specs.Payloads.{IsAccepted, payload_meaning}
use Rattle.shared_core_codec.specs.Table.{table}
use Rattle.shared_core_message.specs.Messages.{message_schema}
use Rattle.shared_core_compare.specs.Differences.{difference}
use Rattle.shared_core_errors.specs.Mismatch.{command_type_mismatch_text}
use Rattle.shared_core_stream.specs.declared.encoding.item.Item.{Item}
use Rattle.shared_core_stream.specs.declared.encoding.item.Item.TheVariants.{Message, Unknown, Skipped}
use Rattle.shared_core_stream.specs.declared.encoding.raw_message.RawMessage.{RawMessage}
use Rattle.shared_core.specs.Errors.{command_mismatch_text}
use Rattle.shared_core_stream.proofs.Items.{split_is_unique}
use Rattle.replay_bench.specs.declared.journals.Ignored.{Ignored}
use Rattle.replay_bench.specs.declared.verdicts.Side.{Side}
use Rattle.replay_bench.specs.declared.verdicts.Side.TheVariants.{Recorded, Replayed}
use Rattle.replay_bench.specs.Ids.{erased_but}
use Rattle.replay_bench.specs.Outcomes.{Outcome, SameCommands, RecordedEnds, ReplayedEnds, OtherType, OtherCommand}
use Rattle.replay_bench.specs.Outcomes.{NotWellFormed}
use Rattle.replay_bench.specs.Journals.{IsCommand, IsJournal, command_of, commands_among, if_command, with_first}
use Rattle.replay_bench.specs.Verdicts.{AreAlike, HasOutcome, IsOutcome, IsFound, IsMalformedOn, MeanOthers}
use Rattle.replay_bench.specs.Verdicts.{MeanTheSame}
use Rattle.replay_bench.proofs.Fronts.{journal_of}

either : (b : Bool) → (b ≡ true) ⊎ (b ≡ false)
either true = inl refl
either false = inr refl

-- what is said of a type's schema is said of one schema
of_one_schema : {R : Type 0} (schema : Option ℕ) (P Q : ℕ → Type 0) → IsSomeAnd schema P → IsSomeAnd schema Q →
    ((s : ℕ) → P s → Q s → R) → R
of_one_schema None P Q p q then = absurd p
of_one_schema (Some s) P Q p q then = then s p q

command_has_schema : (ty : MessageType) → IsSome (command_type_of ty) → (s : ℕ) × (message_schema ty ≡ Some s)
command_has_schema ty = elim ty as (λ ty. IsSome (command_type_of ty) → (s : ℕ) × (message_schema ty ≡ Some s)) [
  | CustomEntry code ↦ λ is. absurd (both_ways _ refl is)
  | _ ↦ λ is. (_, refl)
]

-- ---- two commands

module _ (ignore : Ignored) (index : ℕ) (recorded replayed : RawMessage) where
  abbrev Alike : ℕ → Type 0
  Alike = MeanTheSame ignore recorded.payload replayed.payload

  abbrev Others : List ℕ → ℕ → Type 0
  Others text = MeanOthers ignore index recorded.header.ty recorded.payload replayed.payload text

  abbrev IsBad : Side → ℕ → Type 0
  IsBad side = IsMalformedOn side recorded.payload replayed.payload

  -- both payloads are well-formed, and one is not
  not_bad : (side : Side) (s : ℕ) → IsAccepted s recorded.payload → IsAccepted s replayed.payload → IsBad side s → ⊥
  not_bad Recorded s one other bad = bad one
  not_bad Replayed s one other bad = bad.1 other

  one_bad : (side on : Side) (s : ℕ) → IsBad side s → IsBad on s → side ≡ on
  one_bad Recorded Recorded s p q = refl
  one_bad Recorded Replayed s p q = absurd (p q.0)
  one_bad Replayed Recorded s p q = absurd (q p.0)
  one_bad Replayed Replayed s p q = refl

  -- of commands that are alike nothing is found
  pub alike_is_all : (outcome : Outcome) → AreAlike ignore recorded replayed → IsFound ignore index recorded replayed
      outcome → ⊥
  alike_is_all (SameCommands n) alike found = found
  alike_is_all (RecordedEnds n) alike found = found
  alike_is_all (ReplayedEnds n) alike found = found
  alike_is_all (OtherType at text) alike found = found.1 alike.0
  alike_is_all (OtherCommand at text) alike found = of_one_schema (message_schema recorded.header.ty) Alike
      (Others text) alike.1 found.2 (λ s same others. others.2 same.2)
  alike_is_all (NotWellFormed side at) alike found = of_one_schema (message_schema recorded.header.ty) Alike
      (IsBad side) alike.1 found.2 (λ s same bad. not_bad side s same.0 same.1 bad)

  others_not_bad : (text : List ℕ) (side : Side) → IsSomeAnd (message_schema recorded.header.ty) (Others text) →
      IsSomeAnd (message_schema recorded.header.ty) (IsBad side) → ⊥
  others_not_bad text side others bad = of_one_schema (message_schema recorded.header.ty) (Others text) (IsBad side)
      others bad (λ s p q. not_bad side s p.0 p.1 q)

  -- one thing is found
  pub found_once : (a b : Outcome) → IsFound ignore index recorded replayed a → IsFound ignore index recorded replayed b
      → a ≡ b
  found_once (SameCommands n) b f g = absurd f
  found_once (RecordedEnds n) b f g = absurd f
  found_once (ReplayedEnds n) b f g = absurd f
  found_once (OtherType at text) (SameCommands n) f g = absurd g
  found_once (OtherType at text) (RecordedEnds n) f g = absurd g
  found_once (OtherType at text) (ReplayedEnds n) f g = absurd g
  found_once (OtherType at text) (OtherType on said) f g =
      let places : at ≡ on = f.0 ∙ sym g.0 in
      let texts : text ≡ said = f.2 ∙ sym g.2 in
      ap (λ n. OtherType n text) places ∙ ap (OtherType on) texts
  found_once (OtherType at text) (OtherCommand on said) f g = absurd (f.1 g.0)
  found_once (OtherType at text) (NotWellFormed side on) f g = absurd (f.1 g.0)
  found_once (OtherCommand at text) (SameCommands n) f g = absurd g
  found_once (OtherCommand at text) (RecordedEnds n) f g = absurd g
  found_once (OtherCommand at text) (ReplayedEnds n) f g = absurd g
  found_once (OtherCommand at text) (OtherType on said) f g = absurd (g.1 f.0)
  found_once (OtherCommand at text) (OtherCommand on said) f g =
      let places : at ≡ on = f.1 ∙ sym g.1 in
      let texts : text ≡ said = of_one_schema (message_schema recorded.header.ty) (Others text) (Others said) f.2 g.2
      (λ s p q. p.3 ∙ sym q.3) in
      ap (λ n. OtherCommand n text) places ∙ ap (OtherCommand on) texts
  found_once (OtherCommand at text) (NotWellFormed side on) f g = absurd (others_not_bad text side f.2 g.2)
  found_once (NotWellFormed side at) (SameCommands n) f g = absurd g
  found_once (NotWellFormed side at) (RecordedEnds n) f g = absurd g
  found_once (NotWellFormed side at) (ReplayedEnds n) f g = absurd g
  found_once (NotWellFormed side at) (OtherType on said) f g = absurd (g.1 f.0)
  found_once (NotWellFormed side at) (OtherCommand on said) f g = absurd (others_not_bad said side g.2 f.2)
  found_once (NotWellFormed side at) (NotWellFormed other on) f g =
      let places : at ≡ on = f.1 ∙ sym g.1 in
      let sides : side ≡ other = of_one_schema (message_schema recorded.header.ty) (IsBad side) (IsBad other) f.2 g.2
      (λ s p q. one_bad side other s p q) in
      ap (λ n. NotWellFormed side n) places ∙ ap (λ w. NotWellFormed w on) sides

  -- what is found of two commands, whichever it is
  abbrev AlikeOrFound : Type 0
  AlikeOrFound = AreAlike ignore recorded replayed ⊎ ((outcome : Outcome) × IsFound ignore index recorded replayed
      outcome)

  module _ (one_type : recorded.header.ty ≡ replayed.header.ty) (s : ℕ)
      (is : message_schema recorded.header.ty ≡ Some s) where
    of_schema : (holds : ℕ → Type 0) → holds s → IsSomeAnd (message_schema recorded.header.ty) holds
    of_schema holds that = subst (λ schema. IsSomeAnd schema holds) (sym is) that

    both_read : IsAccepted s recorded.payload → IsAccepted s replayed.payload
        → (parts_equal (erased_but ignore s (payload_meaning s recorded.payload))
        (erased_but ignore s (payload_meaning s replayed.payload)) ≡ true)
        ⊎ (parts_equal (erased_but ignore s (payload_meaning s recorded.payload))
        (erased_but ignore s (payload_meaning s replayed.payload)) ≡ false)
        → AlikeOrFound
    both_read one other (inl same) = inl (one_type, of_schema Alike (one, other, (parts_equal_decides _ _).sound same))
    both_read one other (inr differ) =
        let text = command_mismatch_text recorded.header.ty (pos index)
        (difference s (codes "   ") (payload_meaning s recorded.payload) (payload_meaning s replayed.payload)) in
        inr (
          OtherCommand index text,
          (
            one_type,
            refl,
            of_schema (Others text)
                (one, other, (λ same. both_ways _ differ ((parts_equal_decides _ _).complete same)), refl),
          ),
        )

    replayed_read : IsAccepted s recorded.payload → (accepts_payload table 100 s replayed.payload ≡ true) ⊎
        (accepts_payload table 100 s replayed.payload ≡ false) → AlikeOrFound
    replayed_read one (inl other) = both_read one other (either
        (parts_equal (erased_but ignore s (payload_meaning s recorded.payload))
        (erased_but ignore s (payload_meaning s replayed.payload))))
    replayed_read one (inr bad) = inr (
      NotWellFormed Replayed index,
      (one_type, refl, of_schema (IsBad Replayed) (one, λ other. both_ways _ bad other)),
    )

    recorded_read : (accepts_payload table 100 s recorded.payload ≡ true) ⊎
        (accepts_payload table 100 s recorded.payload ≡ false) → AlikeOrFound
    recorded_read (inl one) = replayed_read one (either (accepts_payload table 100 s replayed.payload))
    recorded_read (inr bad) = inr (
      NotWellFormed Recorded index,
      (one_type, refl, of_schema (IsBad Recorded) (λ one. both_ways _ bad one)),
    )

  by_types : IsCommand recorded → (types.eq-value.it recorded.header.ty replayed.header.ty ≡ true) ⊎
      (types.eq-value.it recorded.header.ty replayed.header.ty ≡ false) → AlikeOrFound
  by_types command (inl same) =
      let (s, is) = command_has_schema recorded.header.ty command in
      recorded_read (types_equal _ _ same) s is (either (accepts_payload table 100 s recorded.payload))
  by_types command (inr differ) =
      inr (
        OtherType index (command_type_mismatch_text (pos index) recorded.header.ty replayed.header.ty),
        (refl, (λ same. both_ways _ differ (types_same _ _ same)), refl),
      )

  pub alike_or_found : IsCommand recorded → AlikeOrFound
  alike_or_found command = by_types command (either (types.eq-value.it recorded.header.ty replayed.header.ty))

-- ---- lists of commands

-- All of them are commands.
abbrev AreCommands : List RawMessage → Type 0
AreCommands [] = Unit {0}
AreCommands (first ∷ rest) = IsCommand first × AreCommands rest

by_first : (ignore : Ignored) (index : ℕ) (one other : RawMessage) (recorded replayed : List RawMessage) →
    (outcome : Outcome) × IsOutcome ignore (index + 1) recorded replayed outcome
    → AreAlike ignore one other ⊎ ((outcome : Outcome) × IsFound ignore index one other outcome) → (outcome : Outcome) ×
    IsOutcome ignore index (one ∷ recorded) (other ∷ replayed) outcome
by_first ignore index one other recorded replayed (outcome, is) (inl alike) = (outcome, inl (alike, is))
by_first ignore index one other recorded replayed then (inr (outcome, found)) = (outcome, inr found)

pub some_outcome : (ignore : Ignored) (index : ℕ) (recorded replayed : List RawMessage) → AreCommands recorded →
    (outcome : Outcome) × IsOutcome ignore index recorded replayed outcome
some_outcome ignore index [] [] all = (SameCommands index, refl)
some_outcome ignore index [] (other ∷ replayed) all = (RecordedEnds index, refl)
some_outcome ignore index (one ∷ recorded) [] all = (ReplayedEnds index, refl)
some_outcome ignore index (one ∷ recorded) (other ∷ replayed) all =
    by_first ignore index one other recorded replayed (some_outcome ignore (index + 1) recorded replayed all.1)
    (alike_or_found ignore index one other all.0)

pub one_outcome : (ignore : Ignored) (index : ℕ) (recorded replayed : List RawMessage) (a b : Outcome)
    → IsOutcome ignore index recorded replayed a → IsOutcome ignore index recorded replayed b → a ≡ b
one_outcome ignore index [] [] a b f g = f ∙ sym g
one_outcome ignore index [] (other ∷ replayed) a b f g = f ∙ sym g
one_outcome ignore index (one ∷ recorded) [] a b f g = f ∙ sym g
one_outcome ignore index (one ∷ recorded) (other ∷ replayed) a b (inl f) (inl g) = one_outcome ignore (index + 1)
    recorded replayed a b f.1 g.1
one_outcome ignore index (one ∷ recorded) (other ∷ replayed) a b (inl f) (inr g) = absurd
    (alike_is_all ignore index one other b f.0 g)
one_outcome ignore index (one ∷ recorded) (other ∷ replayed) a b (inr f) (inl g) = absurd
    (alike_is_all ignore index one other a g.0 f)
one_outcome ignore index (one ∷ recorded) (other ∷ replayed) a b (inr f) (inr g) = found_once ignore index one other a b
    f g

-- ---- journals

is_command : (found : Option CommandType) (message : RawMessage) → command_type_of message.header.ty ≡ found → IfSome
    (if_command found message) IsCommand
is_command None message is = tt
is_command (Some command) message is = subst (λ (found : Option CommandType). IsSome found) (sym is) refl

item_command : (item : Item) → IfSome (command_of item) IsCommand
item_command (Message message) = is_command (command_type_of message.header.ty) message refl
item_command (Unknown code) = tt
item_command (Skipped code payload) = tt

with_command : (found : Option RawMessage) (rest : List RawMessage) → IfSome found IsCommand → AreCommands rest →
    AreCommands (with_first found rest)
with_command None rest is all = all
with_command (Some first) rest is all = (is, all)

are_commands : (items : List Item) → AreCommands (commands_among items)
are_commands [] = tt
are_commands (item ∷ items) = with_command (command_of item) (commands_among items) (item_command item)
    (are_commands items)

pub one_journal : (version : Version) (stream : List ℕ) (a b : List RawMessage) → IsJournal version stream a → IsJournal
    version stream b → a ≡ b
one_journal version stream a b f g =
    f.among ∙ ap commands_among (split_is_unique version stream f.items g.items f.rest g.rest f.split g.split).0 ∙ sym
    g.among

-- two journals have an outcome
pub journals_have_outcome : (version : Version) (ignore : Ignored) (recorded replayed : List ℕ) → (outcome : Outcome) ×
    HasOutcome version ignore recorded replayed outcome
journals_have_outcome version ignore recorded replayed =
    let (recorded_commands, is) = journal_of version recorded in
    let (replayed_commands, other) = journal_of version replayed in
    let (outcome, that) = some_outcome ignore 0 recorded_commands replayed_commands
    (subst AreCommands (sym is.among) (are_commands is.items)) in (
      outcome,
      record {
        recorded_commands = recorded_commands;
        replayed_commands = replayed_commands;
        is_recorded = is;
        is_replayed = other;
        is_outcome = that;
      },
    )

-- they have no other
pub journals_have_one_outcome : (version : Version) (ignore : Ignored) (recorded replayed : List ℕ) (a b : Outcome) →
    HasOutcome version ignore recorded replayed a → HasOutcome version ignore recorded replayed b → a ≡ b
journals_have_one_outcome version ignore recorded replayed a b f g =
    let one = one_journal version recorded g.recorded_commands f.recorded_commands g.is_recorded f.is_recorded in
    let other = one_journal version replayed g.replayed_commands f.replayed_commands g.is_replayed f.is_replayed in
    one_outcome ignore 0 f.recorded_commands f.replayed_commands a b f.is_outcome
    (subst (λ l. IsOutcome ignore 0 f.recorded_commands l b) other
    (subst (λ l. IsOutcome ignore 0 l g.replayed_commands b) one g.is_outcome))
