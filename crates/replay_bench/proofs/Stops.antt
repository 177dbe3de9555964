-- Where a comparison stops in a journal, and what is held from there on.
use Rattle.std.proofs.Common.{◌≡◌, ℕ, ◌+◌, Bool, true, false, List, [], ◌∷◌, ◌++◌, Option, Some, None, length, refl}
use Rattle.std.proofs.Common.{cond, sym, subst, append_assoc, arith, below_more, get_or, length-append}
use Rattle.std.proofs.lemmas.List.{get_or_append_left}
use Rattle.std.proofs.Math.Seq.{get_or-append_seam}
use Rattle.std.specs.Prelude.{IfSome, MatchOption, is_none, is_some}
use Rattle.shared_core_base.specs.declared.version.Version.{Version}
use Rattle.shared_core_stream.specs.declared.encoding.raw_message.RawMessage.{RawMessage}
use Rattle.replay_bench.specs.declared.commands.HeldCommands.{HeldCommands}
use Rattle.replay_bench.specs.declared.survey.Survey.{Survey}
use Rattle.replay_bench.specs.Held.{HasAfter, HasOffsets, IsHeld, IsStopped}
use Rattle.replay_bench.specs.Holding.{IsHeldOf}
use Rattle.replay_bench.specs.Fields.{IsKnownCommandAt, IsTypeAt}
use Rattle.replay_bench.specs.Journals.{IsCommand, type_of}
use Rattle.replay_bench.specs.Reading.{HasReadOn, IsKnownLast}
use Rattle.replay_bench.specs.Taking.{HasNoCommand, TakesFirst}
use Rattle.replay_bench.proofs.Fronts.{journal_of}
use Rattle.replay_bench.proofs.Places.{IsKnownAfter}

module _ (version : Version) (index : ℕ) where
  -- a journal has ended
  pub stops_at_end : (first left now : Option (List ℕ)) → IsKnownAfter version first index left
      → HasNoCommand version left → IsStopped version first index true None now
  stops_at_end None left now after none = record { held = tt; ended = refl; command = tt }
  stops_at_end (Some journal) None now after none = absurd after
  stops_at_end (Some journal) (Some left) now after none =
      let (before, place, whole) = after.whole [] none in
      record { held = record { before = before; place = place; is = whole }; ended = refl; command = tt }

  -- a journal has a further command
  pub stops_at : (command : RawMessage) (first left now : Option (List ℕ)) → IsKnownAfter version first index left
      → TakesFirst version left (Some command) now → IsCommand command
      → IsStopped version first index false (Some command) now
  stops_at command None left now after takes is = record { held = tt; ended = refl; command = is }
  stops_at command (Some journal) None now after takes is = absurd after
  stops_at command (Some journal) (Some left) None after takes is = absurd takes
  stops_at command (Some journal) (Some left) (Some now) after takes is = record {
    held = λ commands journals.
        let (before, place, whole) = after.whole (command ∷ commands) (takes commands journals) in
        record { before = before; place = place; is = whole };
    ended = refl;
    command = is;
  }

  -- a journal has ended or has not
  pub stops : (found : Option RawMessage) (has_ended : Bool) (first left now : Option (List ℕ))
      → IsKnownAfter version first index left
      → MatchOption found (HasNoCommand version left) (λ command. TakesFirst version left (Some command) now)
      → IfSome found IsCommand → is_none found ≡ has_ended
      → IsStopped version first index has_ended found now
  stops None has_ended first left now after takes command is =
      subst (λ ended. IsStopped version first index ended None now) is (stops_at_end first left now after takes)
  stops (Some found) has_ended first left now after takes command is =
      subst (λ ended. IsStopped version first index ended (Some found) now) is
      (stops_at found first left now after takes command)

  -- the type of the command at which it stopped
  pub type_at : (has_ended : Bool) (next : Option RawMessage) (first left : Option (List ℕ))
      → IsStopped version first index has_ended next left → IsTypeAt version first has_ended index (type_of next)
  type_at has_ended None first left stopped =
      subst (λ ended. IsTypeAt version first ended index None) stopped.ended refl
  type_at has_ended (Some command) first left stopped =
      subst (λ ended. IsTypeAt version first ended index (Some command.header.ty)) stopped.ended
      (command, is_at first left stopped.held, refl)
    where
      is_at : (first left : Option (List ℕ)) → IsHeld version first index [] (Some command) left
          → IsKnownCommandAt version first index command
      is_at None left held = tt
      is_at (Some journal) None held = absurd held
      is_at (Some journal) (Some left) held =
          let (commands, is) = journal_of version left in
          let after = held commands is in
          record { before = after.before; after = commands; is = after.is; place = after.place }

  -- one more is held, and the next one is taken
  pub holds_more : (held : List RawMessage) (command : RawMessage) (next : Option RawMessage)
      (first left now : Option (List ℕ))
      → IsHeld version first index held (Some command) left
      → MatchOption next (HasNoCommand version left) (λ command. TakesFirst version left (Some command) now)
      → IsHeld version first index (held ++ (command ∷ [])) next now
  holds_more held command next None left now holds takes = tt
  holds_more held command next (Some journal) None now holds takes = absurd holds
  holds_more held command None (Some journal) (Some left) now holds takes = holds [] takes
  holds_more held command (Some next) (Some journal) (Some left) None holds takes = absurd takes
  holds_more held command (Some next) (Some journal) (Some left) (Some now) holds takes =
      λ commands is.
      subst (λ (all : List RawMessage). HasAfter version journal index all)
      (sym (append_assoc held (command ∷ []) (next ∷ commands))) (holds (next ∷ commands) (takes commands is))

-- one more offset is held
pub offsets_more : (version : Version) (first : Option (List ℕ)) (number : ℕ) (offsets : List (Option ℕ))
    (at : Option ℕ)
    → HasOffsets version first number offsets → IsKnownLast version first (number + length offsets) at
    → HasOffsets version first number (offsets ++ (at ∷ []))
offsets_more version first number offsets at has last = λ i within.
    below_more (λ k. IsKnownLast version first (number + k) (get_or (offsets ++ (at ∷ [])) k None)) (length offsets)
    (λ k small. subst (λ (o : Option ℕ). IsKnownLast version first (number + k) o)
    (sym (get_or_append_left offsets (at ∷ []) None k small)) (has k small))
    (subst (λ (o : Option ℕ). IsKnownLast version first (number + length offsets) o)
    (sym (get_or-append_seam offsets at [] None)) last)
    i (omega (arith, within, length-append offsets (at ∷ [])))

-- what is held of a journal, as it is of the version and the source that were given
pub held_of : (version own : Version) (is_strict : Bool) (first left : Option (List ℕ)) (index seen : ℕ)
    (has_ended : Bool) (next : Option RawMessage) (survey : Survey) (held : HeldCommands)
    → own ≡ version
    → IsStopped version first index has_ended next left
    → HasReadOn version is_strict first has_ended left survey → survey.commands ≡ seen
    → ((from : Option (List ℕ)) (at : ℕ) → IsHeld own from at [] next left
    → IfSome from (λ journal. HasAfter own journal at held.commands.items))
    → length held.offsets.items ≡ length held.commands.items
    → ((is_strict : Bool) (from : Option (List ℕ)) → HasReadOn own is_strict from (is_none next) left survey
    → HasOffsets own from survey.commands held.offsets.items)
    → IsHeldOf version first index seen held
held_of version own is_strict first left index seen has_ended next survey held owns stopped on counted commands long
    offsets =
    let known : IfSome first (λ journal. HasAfter own journal index held.commands.items) =
    commands first index (rw owns stopped.held) in
    let placed : HasOffsets own first survey.commands held.offsets.items =
    offsets is_strict first (rw (owns, stopped.ended) on) in
    record {
      commands = rw owns at known;
      long = long;
      offsets = rw (owns, counted) at placed;
    }

-- one more command is counted
pub counts_more : (next : Option RawMessage) (base before : ℕ) (offsets : List (Option ℕ)) (at : Option ℕ) (after : ℕ)
    → before ≡ base + length offsets → after ≡ before + cond (is_some next) 1 0
    → IfSome next (λ command. after ≡ base + length (offsets ++ (at ∷ [])))
counts_more None base before offsets at after was is = tt
counts_more (Some command) base before offsets at after was is =
    omega (arith, was, is, length-append offsets (at ∷ []))
