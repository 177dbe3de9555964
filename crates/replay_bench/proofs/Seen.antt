-- What a verdict that was found has seen.
use Rattle.std.proofs.Common.{◌≡◌, ℕ, ◌+◌, Bool, false, Option, Some, None, Ok, refl, ap, arith, cond}
use Rattle.std.specs.Prelude.{is_none, is_some}
use Rattle.shared_core_base.specs.declared.version.Version.{Version}
use Rattle.shared_core_stream.specs.declared.encoding.raw_message.RawMessage.{RawMessage}
use Rattle.replay_bench.specs.declared.journals.Ignored.{Ignored}
use Rattle.replay_bench.specs.declared.mismatches.Found.{Found}
use Rattle.replay_bench.specs.declared.verdicts.Verdict.{Verdict}
use Rattle.replay_bench.specs.declared.verdicts.Verdict.TheVariants.{Same, RecordedEnded, ReplayedEnded, TypeMismatch}
use Rattle.replay_bench.specs.declared.verdicts.Verdict.TheVariants.{HeaderMismatch}
use Rattle.replay_bench.specs.Outcomes.{outcome_of}
use Rattle.replay_bench.specs.Verdicts.{IsFound, recorded_ended, recorded_seen, replayed_ended, replayed_seen}
use Rattle.replay_bench.specs.Verdicts.{stopped_index, ReturnsNext}
use Rattle.replay_bench.proofs.Endings.{is_found}

-- The verdict has seen the commands up to this index of both journals, neither of which has ended.
pub record HasSeen (verdict : Verdict) (index : ℕ) : Type 0 where
  pub recorded_goes : recorded_ended verdict ≡ false
  pub replayed_goes : replayed_ended verdict ≡ false
  pub recorded : recorded_seen verdict ≡ index + 1
  pub replayed : replayed_seen verdict ≡ index + 1
  pub stopped : stopped_index verdict ≡ index

pub found_seen : (ignore : Ignored) (index : ℕ) (recorded replayed : RawMessage) (verdict : Verdict)
    → IsFound ignore index recorded replayed (outcome_of verdict) → HasSeen verdict index
found_seen ignore index recorded replayed (Same count) found = absurd found
found_seen ignore index recorded replayed (RecordedEnded at) found = absurd found
found_seen ignore index recorded replayed (ReplayedEnded at) found = absurd found
found_seen ignore index recorded replayed (TypeMismatch at text) found = record {
  recorded_goes = refl;
  replayed_goes = refl;
  recorded = ap (λ n. n + 1) found.0;
  replayed = ap (λ n. n + 1) found.0;
  stopped = found.0;
}
found_seen ignore index recorded replayed (HeaderMismatch at text) found = record {
  recorded_goes = refl;
  replayed_goes = refl;
  recorded = ap (λ n. n + 1) found.1;
  replayed = ap (λ n. n + 1) found.1;
  stopped = found.1;
}

-- The verdict has seen the next commands of both journals at this index. Each journal may have ended.
pub record HasSeenNext (verdict : Verdict) (index : ℕ) (next other : Option RawMessage) : Type 0 where
  pub recorded_goes : recorded_ended verdict ≡ is_none next
  pub replayed_goes : replayed_ended verdict ≡ is_none other
  pub recorded : recorded_seen verdict ≡ index + cond (is_some next) 1 0
  pub replayed : replayed_seen verdict ≡ index + cond (is_some other) 1 0
  pub stopped : stopped_index verdict ≡ index

seen_same : (verdict : Verdict) (index : ℕ) → verdict ≡ Same index → HasSeenNext verdict index None None
seen_same verdict index is = record {
  recorded_goes = ap recorded_ended is;
  replayed_goes = ap replayed_ended is;
  recorded = omega (arith, ap recorded_seen is);
  replayed = omega (arith, ap replayed_seen is);
  stopped = ap stopped_index is;
}

seen_recorded : (verdict : Verdict) (index : ℕ) (command : RawMessage) → verdict ≡ RecordedEnded index
    → HasSeenNext verdict index None (Some command)
seen_recorded verdict index command is = record {
  recorded_goes = ap recorded_ended is;
  replayed_goes = ap replayed_ended is;
  recorded = omega (arith, ap recorded_seen is);
  replayed = ap replayed_seen is;
  stopped = ap stopped_index is;
}

seen_replayed : (verdict : Verdict) (index : ℕ) (command : RawMessage) → verdict ≡ ReplayedEnded index
    → HasSeenNext verdict index (Some command) None
seen_replayed verdict index command is = record {
  recorded_goes = ap recorded_ended is;
  replayed_goes = ap replayed_ended is;
  recorded = ap recorded_seen is;
  replayed = omega (arith, ap replayed_seen is);
  stopped = ap stopped_index is;
}

pub seen_next : (version : Version) (ignore : Ignored) (is_listed : Bool) (index : ℕ) (next other : Option RawMessage)
    (found : Found) → ReturnsNext ignore is_listed index next other (Ok (Some found))
    → HasSeenNext found.verdict index next other
seen_next version ignore is_listed index None None found is = seen_same found.verdict index is.0
seen_next version ignore is_listed index None (Some command) found is = seen_recorded found.verdict index command is.0
seen_next version ignore is_listed index (Some command) None found is = seen_replayed found.verdict index command is.0
seen_next version ignore is_listed index (Some command) (Some other) found is =
    let seen = found_seen ignore index command other found.verdict
    (is_found version ignore is_listed index command other found is).0 in
    record {
      recorded_goes = seen.recorded_goes;
      replayed_goes = seen.replayed_goes;
      recorded = seen.recorded;
      replayed = seen.replayed;
      stopped = seen.stopped;
    }
