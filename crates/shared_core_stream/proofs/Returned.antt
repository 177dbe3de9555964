-- What a result of `next_item` says.
use Rattle.std.proofs.Common.{◌≡◌, ◌∙◌, ◌≤◌, ap, sym, length, Option, Some, None, Result, Ok, Err}
use Rattle.std.specs.Prelude.{IfOk, MatchOption}
use Rattle.shared_core_stream.specs.Items.{NoItemBegins, PayloadIsNext, TakesItem}
use Rattle.shared_core_stream.specs.Limits.{ReturnsWithin}
use Rattle.shared_core_stream.specs.Unread.{IsUnlimited, Unread}
use Rattle.shared_core_stream.specs.declared.encoding.error.ItemError.{ItemError}
use Rattle.shared_core_stream.specs.declared.encoding.error.ItemError.TheVariants as error
use Rattle.shared_core_stream.specs.declared.encoding.item.Item.{Item}
use Rattle.shared_core_stream.proofs.LimitedSplits.{none_bounded, unlimited_accepts}

pub taken_of : (old new : Unread) (result : Result (Option Item) ItemError) → ReturnsWithin old result new
    → IfOk result (λ found. MatchOption found
    (NoItemBegins old.version old.bytes × (new.bytes ≡ old.bytes) × (length new.bytes ≤ 4294967302))
    (λ item. TakesItem old.version old.bytes item new.bytes))
taken_of old new (Ok (Some item)) (accepts, (taken, fits), after) = taken
taken_of old new (Ok None) (accepts, none, same, short) = (
  none,
  ap (λ (state : Unread). state.bytes) same,
  rw same (none_bounded old.version old.bytes none),
)
taken_of old new (Err failed) returned = tt

pub memory_of : (old new : Unread) (result : Result (Option Item) ItemError) → ReturnsWithin old result new
    → result ≡ Err error.OutOfMemory → (new.bytes ≡ old.bytes) × PayloadIsNext old.version old.bytes
memory_of old new (Ok found) returned is = cc
memory_of old new (Err error.TooLong) returned is = cc
memory_of old new (Err error.OutOfMemory) (accepts, next, same) is =
    (ap (λ (state : Unread). state.bytes) same, next)

pub unlimited_of : (old new : Unread) (result : Result (Option Item) ItemError) → ReturnsWithin old result new
    → IsUnlimited old → IsUnlimited new × (result ≡ Err error.TooLong → ⊥)
unlimited_of old new (Ok (Some item)) (accepts, taken, after) (limit_is, gone) = (
  (ap (λ (state : Unread). state.limit) after ∙ limit_is, ap (λ (state : Unread). state.rejected) after ∙ gone),
  λ is. cc,
)
unlimited_of old new (Ok None) (accepts, none, same, short) (limit_is, gone) = (
  (ap (λ (state : Unread). state.limit) same ∙ limit_is, ap (λ (state : Unread). state.rejected) same ∙ gone),
  λ is. cc,
)
unlimited_of old new (Err error.OutOfMemory) (accepts, next, same) (limit_is, gone) = (
  (ap (λ (state : Unread). state.limit) same ∙ limit_is, ap (λ (state : Unread). state.rejected) same ∙ gone),
  λ is. cc,
)
unlimited_of old new (Err error.TooLong) (message, some, after) free =
    let none = sym (unlimited_accepts old free) ∙ some in cc

pub version_of : (old new : Unread) (result : Result (Option Item) ItemError) → ReturnsWithin old result new
    → new.version ≡ old.version
version_of old new (Ok (Some item)) (accepts, taken, after) = ap (λ (state : Unread). state.version) after
version_of old new (Ok None) (accepts, none, same, short) = ap (λ (state : Unread). state.version) same
version_of old new (Err error.OutOfMemory) (accepts, next, same) = ap (λ (state : Unread). state.version) same
version_of old new (Err error.TooLong) (message, some, after) = ap (λ (state : Unread). state.version) after
