-- What an error of one side says of a comparison.
use Rattle.std.proofs.Common.{◌≡◌, ℕ, Bool, List, Option, Some, None, Err, subst, sym, ◌∙◌, inl, inr}
use Rattle.shared_core_base.specs.declared.version.Version.{Version}
use Rattle.replay_bench.specs.declared.journals.Ignored.{Ignored}
use Rattle.replay_bench.specs.declared.verdicts.Side.{Side}
use Rattle.replay_bench.specs.declared.verdicts.Side.TheVariants.{Recorded, Replayed}
use Rattle.replay_bench.specs.declared.verdicts.ReaderError.{ReaderError}
use Rattle.replay_bench.specs.declared.verdicts.ReaderError.TheVariants.{Read, Bench, MessageTooLong}
use Rattle.replay_bench.specs.declared.verdicts.BenchError.TheVariants.{Malformed, TooLong, OutOfMemory}
use Rattle.replay_bench.specs.Sources.{HasLonger, MayReject}
use Rattle.replay_bench.specs.Verdicts.{journal_on, ComparesKnown, FailsOn}

not_replayed : Replayed ≡ Recorded → ⊥
not_replayed is = cc

not_recorded : Recorded ≡ Replayed → ⊥
not_recorded is = cc

module _ (may other_may : Bool) (version : Version) (limit other_limit : ℕ) (first : Option (List ℕ)) where
  -- an error of the recorded side, and one of the replayed side
  pub fails_recorded : (side : Side) (error : ReaderError) → side ≡ Recorded
      → MayReject side may version limit first error → FailsOn may limit other_may other_limit error
  fails_recorded side (Read Recorded) is reject = reject.1
  fails_recorded side (Read Replayed) is reject = absurd (not_replayed (reject.0 ∙ is))
  fails_recorded side (MessageTooLong Recorded message) is reject = reject.1
  fails_recorded side (MessageTooLong Replayed message) is reject = absurd (not_replayed (reject.0 ∙ is))
  fails_recorded side (Bench failure) is reject = tt

  pub fails_replayed : (side : Side) (error : ReaderError) → side ≡ Replayed
      → MayReject side may version limit first error → FailsOn other_may other_limit may limit error
  fails_replayed side (Read Replayed) is reject = reject.1
  fails_replayed side (Read Recorded) is reject = absurd (not_recorded (reject.0 ∙ is))
  fails_replayed side (MessageTooLong Replayed message) is reject = reject.1
  fails_replayed side (MessageTooLong Recorded message) is reject = absurd (not_recorded (reject.0 ∙ is))
  fails_replayed side (Bench failure) is reject = tt

module _ (version : Version) (ignore : Ignored) (may : Bool) (limit : ℕ) where
  pub rejects_recorded : (recorded replayed : Option (List ℕ)) (side : Side) (error : ReaderError) → side ≡ Recorded
      → MayReject side may version limit recorded error → ComparesKnown version ignore recorded replayed (Err error)
  rejects_recorded None replayed side error is reject = tt
  rejects_recorded (Some recorded) None side error is reject = tt
  rejects_recorded (Some recorded) (Some replayed) side (Read failed) is reject = tt
  rejects_recorded (Some recorded) (Some replayed) side (MessageTooLong failed message) is reject =
      subst (λ (on : Side). HasLonger version message (journal_on on recorded replayed)) (sym (reject.0 ∙ is))
      reject.2
  rejects_recorded (Some recorded) (Some replayed) side (Bench TooLong) is reject = inl reject
  rejects_recorded (Some recorded) (Some replayed) side (Bench OutOfMemory) is reject = tt
  rejects_recorded (Some recorded) (Some replayed) side (Bench (Malformed on index)) is reject = absurd reject

  pub rejects_replayed : (recorded replayed : Option (List ℕ)) (side : Side) (error : ReaderError) → side ≡ Replayed
      → MayReject side may version limit replayed error → ComparesKnown version ignore recorded replayed (Err error)
  rejects_replayed None replayed side error is reject = tt
  rejects_replayed (Some recorded) None side error is reject = tt
  rejects_replayed (Some recorded) (Some replayed) side (Read failed) is reject = tt
  rejects_replayed (Some recorded) (Some replayed) side (MessageTooLong failed message) is reject =
      subst (λ (on : Side). HasLonger version message (journal_on on recorded replayed)) (sym (reject.0 ∙ is))
      reject.2
  rejects_replayed (Some recorded) (Some replayed) side (Bench TooLong) is reject = inr reject
  rejects_replayed (Some recorded) (Some replayed) side (Bench OutOfMemory) is reject = tt
  rejects_replayed (Some recorded) (Some replayed) side (Bench (Malformed on index)) is reject = absurd reject
