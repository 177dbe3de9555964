-- What sources give.
use Rattle.std.proofs.Common.{◌≡◌, ℕ, List, [], ◌∷◌, ◌++◌, length, true, Option, Some, None, Ok, Err, refl, sym}
use Rattle.std.proofs.Common.{ap, ◌∙◌, subst, arith, append-nil, append_assoc}
use Rattle.std.specs.List.{concat}
use Rattle.std.specs.Prelude.{IfSome}
use Rattle.std.specs.Io.KnownBytes.{prepend_known, Consumes, IsAtEnd, Keeps}
use Rattle.std.proofs.KnownBytes.{prepend_known-nil}
use Rattle.shared_core_base.specs.declared.version.Version.{Version}
use Rattle.shared_core_stream.specs.declared.encoding.item.Item.{Item}
use Rattle.shared_core_stream.specs.declared.encoding.limit_error.MessageTooLong.{MessageTooLong as LongMessage}
use Rattle.shared_core_stream.specs.Items.{NoItemBegins, TakesItem}
use Rattle.shared_core_stream.specs.Limits.{too_long_at}
use Rattle.shared_core_stream.specs.Unread.{Unread}
use Rattle.shared_core_stream.proofs.Items.{takes_more}
use Rattle.shared_core_stream.proofs.Limits.{accepted, front_more, rejected_front}
use Rattle.shared_core_stream.proofs.LongMessages.{limit_below}
use Rattle.shared_core_io.specs.Reading.{with_more, IsRead}
use Rattle.shared_core_io.specs.declared.error.ReadError.TheVariants as read
use Rattle.replay_bench.specs.Sources.{coming_of, known_unless, limit_of, BeginsTooLong, EndsKnown, RejectsNext}
use Rattle.replay_bench.specs.Sources.{TakesKnown}
use Rattle.replay_bench.specs.declared.sources.SourceError.TheVariants as source

-- ---- chunks in memory

pub no_chunks : (chunks : List (List ℕ)) → length chunks ≡ 0 → concat chunks ≡ []
no_chunks [] none = refl
no_chunks (chunk ∷ chunks) none = absurd (omega (arith, none))

module _ (version : Version) (all bytes others : List ℕ) (same : bytes ++ others ≡ all) where
  pub slice_ends : (rest : ℕ) → others ≡ [] → NoItemBegins version bytes → rest ≡ length bytes
      → NoItemBegins version all × (rest ≡ length all)
  slice_ends rest none begins count =
      let is : bytes ≡ all = sym (append-nil bytes) ∙ ap (λ (o : List ℕ). bytes ++ o) (sym none) ∙ same in
      subst (λ (b : List ℕ). NoItemBegins version b × (rest ≡ length b)) is (begins, count)

-- ---- what a reader has left, where that is known

module _ (version : Version) (held gave : List ℕ) where
  known_takes : (rest : List ℕ) (item : Item) (first left : Option (List ℕ)) → Consumes first left gave
      → TakesItem version (held ++ gave) item rest
      → TakesKnown version (prepend_known held first) item (prepend_known rest left)
  known_takes rest item None left consumed taken = tt
  known_takes rest item (Some all) None consumed taken = absurd consumed
  known_takes rest item (Some all) (Some more) consumed taken =
      subst (λ (bytes : List ℕ). TakesItem version bytes item (rest ++ more))
      (append_assoc held gave more ∙ ap (λ (bytes : List ℕ). held ++ bytes) (sym consumed))
      (takes_more version (held ++ gave) rest more item taken)

  known_ends : (rest : ℕ) (first left : Option (List ℕ)) → Consumes first left gave → IsAtEnd left
      → NoItemBegins version (held ++ gave) → rest ≡ length (held ++ gave)
      → EndsKnown version (prepend_known held first) rest
  known_ends rest None left consumed end none count = tt
  known_ends rest (Some all) None consumed end none count = absurd consumed
  known_ends rest (Some all) (Some more) consumed end none count =
      let same : gave ≡ all =
      sym (consumed ∙ ap (λ (bytes : List ℕ). gave ++ bytes) end ∙ append-nil gave) in
      subst (λ (bytes : List ℕ). NoItemBegins version (held ++ bytes) × (rest ≡ length (held ++ bytes))) same
      (none, count)

  known_begins : (limit offset : ℕ) (message : LongMessage) (first left : Option (List ℕ)) → Consumes first left gave
      → too_long_at version limit offset (held ++ gave) ≡ Some message
      → IfSome (prepend_known held first) (BeginsTooLong version limit message)
  known_begins limit offset message None left consumed is = tt
  known_begins limit offset message (Some all) None consumed is = absurd consumed
  known_begins limit offset message (Some all) (Some more) consumed is = (
    offset,
    subst (λ (bytes : List ℕ). too_long_at version limit offset bytes ≡ Some message)
        (append_assoc held gave more ∙ ap (λ (bytes : List ℕ). held ++ bytes) (sym consumed))
        (front_more version limit offset (held ++ gave) more message is),
  )

-- ---- readers of items

module _ (old new : Unread) (gave : List ℕ) (first left : Option (List ℕ)) (consumed : Consumes first left gave) where
  pub item_given : (item : Item) → IsRead (with_more old gave) left (Ok (Some item)) new
      → TakesKnown old.version (coming_of old first) item (coming_of new left)
  item_given item (accepts, (taken, fits), after) =
      let none : old.rejected ≡ None = (accepted (with_more old gave) accepts).0 in
      let still : new.rejected ≡ None = ap (λ (s : Unread). s.rejected) after ∙ none in
      rw (none, still)
      (known_takes old.version old.bytes gave new.bytes item first left consumed taken)

  pub rest_given : (count : ℕ) → IsRead (with_more old gave) left (Err (read.Truncated count)) new
      → EndsKnown old.version (coming_of old first) count
  rest_given count (end, accepts, nothing, counted, some, same) =
      let none : old.rejected ≡ None = (accepted (with_more old gave) accepts).0 in
      rw none (known_ends old.version old.bytes gave count first left consumed end nothing counted)

  pub long_given : (message : LongMessage) → IsRead (with_more old gave) left (Err (read.TooLong message)) new
      → RejectsNext old.version (limit_of old) true (coming_of old first) (source.MessageTooLong message)
  long_given message (some, after) = by_rejected old.rejected refl
    where
      by_rejected : (rejected : Option LongMessage) → old.rejected ≡ rejected
          → RejectsNext old.version (limit_of old) true (coming_of old first) (source.MessageTooLong message)
      by_rejected (Some other) is = rw is (omega arith, tt)
      by_rejected None is =
          let front = rejected_front (with_more old gave) message is some in
          rw is (
            limit_below old.version old.limit old.offset (old.bytes ++ gave) message front,
            known_begins old.version old.bytes gave old.limit old.offset message first left consumed
                front,
          )

  -- an allocation failed
  pub kept_given : IsRead (with_more old gave) left (Err read.OutOfMemory) new
      → (new.version ≡ old.version) × (limit_of new ≡ limit_of old)
      × Keeps (coming_of old first) (coming_of new left)
  kept_given is = rw is (refl, refl, keeps old.rejected old.bytes first left consumed)
    where
      keeps : (rejected : Option LongMessage) (bytes : List ℕ) (first left : Option (List ℕ)) → Consumes first left gave
          → Keeps (known_unless rejected (prepend_known bytes first))
          (known_unless rejected (prepend_known (bytes ++ gave) left))
      keeps (Some message) bytes first left consumed = tt
      keeps None bytes None left consumed = tt
      keeps None bytes (Some all) None consumed = absurd consumed
      keeps None bytes (Some all) (Some more) consumed =
          append_assoc bytes gave more ∙ ap (λ (b : List ℕ). bytes ++ b) (sym consumed)
