-- Reading items from a reader.
use Rattle.std.proofs.Common.{◌≡◌, ◌∙◌, ℕ, ◌+◌, ◌-◌, ◌<◌, ◌≤◌, List, [], ◌∷◌, ◌++◌, length, ap, sym, refl}
use Rattle.std.proofs.Common.{Option, Some, None, Result, Ok, Err}
use Rattle.std.proofs.Common.{append_assoc, append-nil, length-append, take, drop, arith, subst}
use Rattle.std.proofs.lemmas.Bool.{le-ltb}
use Rattle.std.proofs.lemmas.List.{take-append-drop}
use Rattle.std.proofs.lemmas.Option.{none-some}
use Rattle.std.specs.Io.KnownBytes.{IsAtEnd}
use Rattle.shared_core_base.specs.declared.version.Version.{Version}
use Rattle.bytes.specs.Filled.{Filled}
use Rattle.shared_core_stream.specs.Items.{front_word, NoItemBegins, TakesItem}
use Rattle.shared_core_stream.specs.Limits.{ReturnsWithin, rejection}
use Rattle.shared_core_stream.specs.Unread.{Unread}
use Rattle.shared_core_stream.specs.Limits.{offset_after}
use Rattle.shared_core_stream.specs.declared.encoding.item.Item.{Item}
use Rattle.shared_core_stream.specs.declared.encoding.limit_error.MessageTooLong.{MessageTooLong}
use Rattle.shared_core_stream.specs.declared.encoding.error.ItemError.TheVariants as item_error
use Rattle.shared_core_stream.proofs.Items.{front_word_more, item_is_long, takes_more}
use Rattle.shared_core_stream.proofs.Limits.{accepted, front_more}
use Rattle.shared_core_io.specs.declared.error.ReadError.{ReadError}
use Rattle.shared_core_io.specs.declared.error.ReadError.TheVariants.{Failed, TooLong, Truncated, OutOfMemory}
use Rattle.shared_core_io.specs.Reading.{held, most_held, result_at_end, with_more, IsDrained, IsRead}
use Rattle.shared_core_io.specs.Reading.{IsTaken, IsTakenOf, LosesNothing}

-- bytes that were read before, and then more
pub joined : (first loop next new : Unread) (read more : List ℕ) → loop ≡ with_more first read → next ≡ loop → new ≡
    with_more next more → new ≡ with_more first (read ++ more)
joined first loop next new read more before same after =
    let bytes = first.bytes in
    after ∙ ap (λ (state : Unread). with_more state more) (same ∙ before)
    ∙ ap (λ (all : List ℕ). record first { bytes = all })
    (append_assoc bytes read more)

-- an error of a read, where no message was rejected before
pub failed : (old new was is : Unread) (left : Option (List ℕ)) (error : ReadError) → LosesNothing None was is error →
    new ≡ old → IsRead old left (Err error) new
failed old new was is left (Failed reason) nothing same = (same, nothing.1)
failed old new was is left (TooLong message) (some, kept) same = absurd (none-some message some)
failed old new was is left (Truncated count) nothing same = absurd nothing
failed old new was is left OutOfMemory nothing same = same

-- at the end, what is left is nothing or a part of an item
pub ended : (old new : Unread) (left : Option (List ℕ)) (pending : List ℕ) → IsAtEnd left → rejection old ≡ None →
    NoItemBegins old.version old.bytes → old.bytes ≡ pending → new ≡ old → IsRead old left
    (result_at_end pending) new
ended old new left [] end accepts none same kept = (end, accepts, same, kept)
ended old new left (byte ∷ pending) end accepts none same kept =
    (end, accepts, none, sym (ap (λ (all : List ℕ). length all) same), omega arith, kept)

-- nothing was read if the old bytes begin with an item: what is pending is all there is only if they do not
pub idle : {R : Type 0} (version : Version) (old read pending rest : List ℕ) (first loop new : R) → pending ++ rest ≡
    old ++ read → NoItemBegins version pending → (0 < length rest → new ≡ loop) → (item : Item) (after : List ℕ) →
    TakesItem version old item after → loop ≡ first → new ≡ first
idle version old read pending [] first loop new all none kept item after taken same =
    absurd (none item (after ++ read) (rw (sym (append-nil pending) ∙ all)
    (takes_more version old after read item taken)))
idle version old read pending (byte ∷ rest) first loop new all none kept item after taken same =
    kept (omega arith) ∙ same

-- what a whole header says stays, whatever comes after
accepts_more : (state : Unread) (more : List ℕ) → rejection state ≡ None → 8 ≤ length state.bytes → rejection
    (with_more state more) ≡ None
accepts_more state more none whole =
    let bytes = state.bytes in
    let (before, now) = accepted state none in
    let longer : 8 ≤ length (bytes ++ more) = omega (arith, whole, length-append bytes more) in
    rw (before, le-ltb (length (bytes ++ more)) 8 longer, front_word_more bytes more whole)
    (rw (le-ltb (length bytes) 8 whole) at now)

rejects_more : (state : Unread) (more : List ℕ) (message : MessageTooLong) → rejection state ≡ Some message →
    rejection (with_more state more) ≡ Some message
rejects_more state more message some = by_rejected state.rejected refl
  where
    by_rejected : (rejected : Option MessageTooLong) → state.rejected ≡ rejected → rejection (with_more state more) ≡
        Some message
    by_rejected (Some error) is = rw is (rw is at some)
    by_rejected None is = rw is (front_more state.version state.limit state.offset state.bytes more
        message (rw is at some))

-- the bytes of the decoder, of the chunk and of the buffer are all that is held
pub all_held : (pending chunk rest all first second : List ℕ) → first ≡ pending → second ≡ first ++ chunk → all ≡
    second ++ rest → all ≡ pending ++ (chunk ++ rest)
all_held pending chunk rest all first second is then last =
    last ∙ ap (λ (bytes : List ℕ). bytes ++ rest) (then ∙ ap (λ (bytes : List ℕ). bytes ++ chunk) is)
    ∙ append_assoc pending chunk rest

-- what the decoder returned
pub taken : (old new : Unread) (outside : List ℕ) (found : Option Item) → ReturnsWithin old (Ok found) new → IsTaken
    old outside (Ok found) new outside
taken old new outside (Some item) (accepts, within, after) = (accepts, within, after, refl)
taken old new outside None (accepts, none, same, short) = (accepts, none, short, same, refl)

pub taken_not : (old new : Unread) (outside : List ℕ) → ReturnsWithin old (Err item_error.OutOfMemory) new → IsTaken old
    outside (Err OutOfMemory) new outside
taken_not old new outside (accepts, next, same) = (same, refl)

pub taken_long : (old new : Unread) (outside kept : List ℕ) (message : MessageTooLong) → ReturnsWithin old
    (Err item_error.TooLong) new → new.rejected ≡ Some message → kept ≡ [] → IsTaken old outside (Err (TooLong message))
    new kept
taken_long old new outside kept message (found, some, after) is gone =
    let same : Some found ≡ Some message = sym (ap (λ (state : Unread). state.rejected) after) ∙ is in (
      some ∙ same,
      after ∙ ap (λ (rejected : Option MessageTooLong). record old { bytes = []; rejected = rejected }) same,
      gone,
    )

-- what was taken of the decoder was taken of all that was there, if it is not that no complete item is there
took : (old new : Unread) (outside kept : List ℕ) (left : Option (List ℕ)) (item : Item) → IsTaken old outside
    (Ok (Some item)) new kept → IsRead (with_more old outside) left (Ok (Some item)) (with_more new kept)
took old new outside kept left item (accepts, (taken, fits), after, same) =
    let long = item_is_long old.version old.bytes new.bytes item taken in
    let count : (length (old.bytes ++ outside)) - (length (new.bytes ++ outside)) ≡ length
    old.bytes - length new.bytes =
    omega (arith, length-append old.bytes outside, length-append new.bytes outside) in
    rw same (
      accepts_more old outside accepts (omega (arith, long)),
      (takes_more old.version old.bytes new.bytes outside item taken, fits),
      ap (λ (state : Unread). with_more state outside) after
          ∙ ap (λ (n : ℕ). record {
            version = old.version;
            bytes = new.bytes ++ outside;
            limit = old.limit;
            offset = offset_after old.offset n;
            rejected = old.rejected;
          }) (sym count),
    )

took_nothing : (old new : Unread) (outside kept : List ℕ) (left : Option (List ℕ)) (error : ReadError) → IsTaken
    old outside (Err error) new kept → IsRead (with_more old outside) left (Err error) (with_more new kept)
took_nothing old new outside kept left (Failed reason) taken = absurd taken
took_nothing old new outside kept left (TooLong message) (some, after, gone) =
    rw (gone, after) (rejects_more old outside message some, refl)
took_nothing old new outside kept left (Truncated count) taken = absurd taken
took_nothing old new outside kept left OutOfMemory (same, kept_same) = rw (same, kept_same) refl

-- the word at the front of what the decoder held is that at the front of all that was there
pub word_of : (old first new : Unread) (outside kept : List ℕ) → with_more old outside ≡ first → (item : Item)
    (word : ℕ) → IsTaken old outside (Ok (Some item)) new kept → word ≡ front_word old.bytes → word ≡ front_word
    first.bytes
word_of old first new outside kept before item word (accepts, (taken, fits), after, same) is =
    let long = item_is_long old.version old.bytes new.bytes item taken in
    is ∙ sym (front_word_more old.bytes outside (omega (arith, long)))
    ∙ ap (λ (state : Unread). front_word state.bytes) before

-- at the end of a stream nothing is outside the decoder, and other errors are not the end
pub drained_end : (result : Result (Option (ℕ × Item)) ReadError) (outside : List ℕ) → outside ≡ [] → IsDrained result
    outside
drained_end (Ok None) outside gone = gone
drained_end (Ok (Some next)) outside gone = tt
drained_end (Err (Failed reason)) outside gone = tt
drained_end (Err (TooLong message)) outside gone = tt
drained_end (Err (Truncated count)) outside gone = gone
drained_end (Err OutOfMemory) outside gone = tt

pub drained_fill : (rejected : Option MessageTooLong) (old new : Unread) (error : ReadError) (outside : List ℕ) →
    LosesNothing rejected old new error → IsDrained (Err error) outside
drained_fill rejected old new (Failed reason) outside nothing = tt
drained_fill rejected old new (TooLong message) outside nothing = tt
drained_fill rejected old new (Truncated count) outside nothing = absurd nothing
drained_fill rejected old new OutOfMemory outside nothing = tt

pub drained_error : (old new : Unread) (outside kept : List ℕ) (error : ReadError) → IsTaken old outside (Err error)
    new kept → IsDrained (Err error) kept
drained_error old new outside kept (Failed reason) taken = tt
drained_error old new outside kept (TooLong message) taken = tt
drained_error old new outside kept (Truncated count) taken = absurd taken
drained_error old new outside kept OutOfMemory taken = tt

-- all that is held, by the most that each place holds
pub few_held : (decoder : Unread) (chunk : List ℕ) (buffer : Filled) → length decoder.bytes ≤ 4295032838 →
    length chunk ≤ 65536 → length buffer.items ≤ 65536 → length (held decoder chunk buffer).bytes ≤ most_held
few_held decoder chunk buffer short small few = omega (
  arith,
  short,
  small,
  few,
  length-append decoder.bytes (chunk ++ buffer.items),
  length-append chunk buffer.items,
)

-- nothing was read
pub none_read : (state : Unread) → state ≡ with_more state []
none_read state = ap (λ (bytes : List ℕ). record state { bytes = bytes }) (sym (append-nil state.bytes))

-- what was read is outside the decoder, which stays
pub read_outside : (old new : Unread) (outside kept read : List ℕ) → new ≡ old → kept ≡ outside ++ read → with_more new
    kept ≡ with_more (with_more old outside) read
read_outside old new outside kept read same is =
    ap (λ (state : Unread). with_more state kept) same ∙ ap (λ (bytes : List ℕ). with_more old bytes) is
    ∙ ap (λ (bytes : List ℕ). record old { bytes = bytes }) (sym (append_assoc old.bytes outside read))

-- a chunk was pushed, and the rest stays outside
pub pushed : (old new : Unread) (chunk rest left kept : List ℕ) → new ≡ with_more old chunk → left ≡ [] → kept ≡ rest →
    with_more new (left ++ kept) ≡ with_more old (chunk ++ rest)
pushed old new chunk rest left kept is none same =
    ap (λ (state : Unread). with_more state (left ++ kept)) is
    ∙ ap (λ (bytes : List ℕ). with_more (with_more old chunk) (bytes ++ kept)) none
    ∙ ap (λ (bytes : List ℕ). with_more (with_more old chunk) bytes) same
    ∙ ap (λ (bytes : List ℕ). record old { bytes = bytes }) (append_assoc old.bytes chunk rest)

-- a chunk that has bytes is more than was there
pub longer : (old next new : Unread) (chunk : List ℕ) → next ≡ old → new ≡ with_more next chunk → 0 < length chunk →
    length old.bytes < length new.bytes
longer old next new chunk same is some =
    omega (
      arith,
      some,
      ap (λ (state : Unread). length state.bytes) same,
      ap (λ (state : Unread). length state.bytes) is,
      length-append next.bytes chunk,
    )

-- what was read is after what was outside the decoder
pub read_after : (chunk rest kept left read : List ℕ) → kept ≡ chunk → left ≡ rest ++ read → kept ++ left ≡
    (chunk ++ rest) ++ read
read_after chunk rest kept left read same is =
    ap (λ (bytes : List ℕ). bytes ++ left) same ∙ ap (λ (bytes : List ℕ). chunk ++ bytes) is
    ∙ sym (append_assoc chunk rest read)

-- where no chunk was held, a front of what the buffer holds is one
pub cut_off : (chunk all kept left : List ℕ) (count : ℕ) → length chunk ≡ 0 → kept ≡ take count all → left ≡
    drop count all → kept ++ left ≡ chunk ++ all
cut_off [] all kept left count none front back =
    ap (λ (bytes : List ℕ). bytes ++ left) front ∙ ap (λ (bytes : List ℕ). take count all ++ bytes) back
    ∙ take-append-drop count all
cut_off (byte ∷ chunk) all kept left count none front back = absurd (omega (arith, none))

-- an error of a read of what the buffer holds
pub buffer_lost : (chunk rest kept left : List ℕ) (error : ReadError) → kept ≡ chunk → LosesNothing None rest left error
    → LosesNothing None (chunk ++ rest) (kept ++ left) error
buffer_lost chunk rest kept left (Failed reason) same nothing =
    (rw same (ap (λ (bytes : List ℕ). chunk ++ bytes) nothing.0), nothing.1)
buffer_lost chunk rest kept left (TooLong message) same nothing = absurd (none-some message nothing.0)
buffer_lost chunk rest kept left (Truncated count) same nothing = absurd nothing
buffer_lost chunk rest kept left OutOfMemory same nothing = tt

-- an error of a read of what is outside the decoder, which stays
pub outside_lost : (rejected : Option MessageTooLong) (old new : Unread) (outside kept : List ℕ) (error : ReadError) →
    new ≡ old → LosesNothing None outside kept error → LosesNothing rejected (with_more old outside)
    (with_more new kept) error
outside_lost rejected old new outside kept (Failed reason) same nothing = (rw (same, nothing.0) refl, nothing.1)
outside_lost rejected old new outside kept (TooLong message) same nothing = absurd (none-some message nothing.0)
outside_lost rejected old new outside kept (Truncated count) same nothing = absurd nothing
outside_lost rejected old new outside kept OutOfMemory same nothing = tt

-- the same where what was there is what was held first and what was read since
module _ (first : Unread) (read : List ℕ) (old new : Unread) (outside kept : List ℕ)
    (before : with_more old outside ≡ with_more first read) (left : Option (List ℕ)) where
  pub item_read : (item : Item) → IsTaken old outside (Ok (Some item)) new kept → IsRead (with_more first read) left
      (Ok (Some item)) (with_more new kept)
  item_read item taken = subst (λ (all : Unread). IsRead all left (Ok (Some item)) (with_more new kept)) before
      (took old new outside kept left item taken)

  pub error_read : (error : ReadError) → IsTaken old outside (Err error) new kept → IsRead (with_more first read) left
      (Err error) (with_more new kept)
  error_read error taken = subst (λ (all : Unread). IsRead all left (Err error) (with_more new kept)) before
      (took_nothing old new outside kept left error taken)

-- and where nothing was taken, and more was read
module _ (first : Unread) (read more : List ℕ) (old next new : Unread) (outside kept : List ℕ)
    (before : with_more old outside ≡ with_more first read) (taken : IsTaken old outside (Ok None) next kept)
    (after : new ≡ with_more (with_more next kept) more) where
  pub read_more : new ≡ with_more first (read ++ more)
  read_more =
      let (accepts, none, short, same, kept_same) = taken in
      joined first (with_more old outside) (with_more next kept) new read more before
      (rw (same, kept_same) refl) after

  pub not_filled : (left : Option (List ℕ)) (was is : Unread) (error : ReadError) → LosesNothing next.rejected was is
      error → IsRead (with_more first (read ++ more)) left (Err error) new
  not_filled left was is error nothing =
      let (accepts, none, short, same, kept_same) = taken in
      let unrejected : next.rejected ≡ None =
      ap (λ (state : Unread). state.rejected) same ∙ (accepted old accepts).0 in
      failed (with_more first (read ++ more)) new was is left error
      (subst (λ (rejected : Option MessageTooLong). LosesNothing rejected was is error) unrejected nothing) read_more

  pub stream_ended : (last : Unread) (others : List ℕ) (left : Option (List ℕ)) → new ≡ with_more last others →
      others ≡ [] → last ≡ next → IsAtEnd left → IsRead (with_more first (read ++ more)) left
      (result_at_end last.bytes)
      new
  stream_ended last others left is gone still end =
      let (accepts, none, short, same, kept_same) = taken in
      let alone : with_more last [] ≡ last =
      ap (λ (bytes : List ℕ). record last { bytes = bytes })
      (append-nil last.bytes) in
      let all : new ≡ last = is ∙ ap (λ (bytes : List ℕ). with_more last bytes) gone ∙ alone in
      let there : old ≡ with_more first (read ++ more) = sym same ∙ sym still ∙ sym all ∙ read_more in
      ended (with_more first (read ++ more)) new left last.bytes end
      (subst (λ (state : Unread). rejection state ≡ None) there accepts)
      (subst (λ (state : Unread). NoItemBegins state.version state.bytes) there none)
      (ap (λ (state : Unread). state.bytes) (sym there ∙ sym same ∙ sym still)) read_more

  pub not_idle : {R : Type 0} (was is now : R) → (0 < length kept → now ≡ is) → (item : Item) (rest : List ℕ) →
      TakesItem first.version first.bytes item rest → is ≡ was → now ≡ was
  not_idle was is now kept_idle item rest begins same_reader =
      let (accepts, none, short, same, kept_same) = taken in
      idle first.version first.bytes read old.bytes outside was is now
      (ap (λ (state : Unread). state.bytes) before)
      (subst (λ (version : Version). NoItemBegins version old.bytes)
      (ap (λ (state : Unread). state.version) before) none)
      (λ some. kept_idle (rw kept_same some)) item rest begins same_reader

-- what was taken of the decoder was taken of all that was held
module _ (first old new : Unread) (outside kept : List ℕ) (before : with_more old outside ≡ first) where
  pub item_taken : (item : Item) → IsTaken old outside (Ok (Some item)) new kept → IsTakenOf first (Ok (Some item))
      (with_more new kept)
  item_taken item taken = subst (λ (all : Unread). IsTakenOf all (Ok (Some item)) (with_more new kept)) before
      (took old new outside kept None item taken)

  pub error_taken : (error : ReadError) → IsTaken old outside (Err error) new kept → IsTakenOf first (Err error)
      (with_more new kept)
  error_taken (Failed reason) taken = absurd taken
  error_taken (TooLong message) taken = subst (λ (all : Unread). IsTakenOf all (Err (TooLong message))
      (with_more new kept)) before (took_nothing old new outside kept None (TooLong message) taken)
  error_taken (Truncated count) taken = absurd taken
  error_taken OutOfMemory taken = subst (λ (all : Unread). IsTakenOf all (Err OutOfMemory) (with_more new kept))
      before (took_nothing old new outside kept None OutOfMemory taken)

  -- where nothing was outside the decoder
  pub all_there : outside ≡ [] → old ≡ first
  all_there gone =
      let alone : with_more old [] ≡ old =
      ap (λ (bytes : List ℕ). record old { bytes = bytes })
      (append-nil old.bytes) in
      sym alone ∙ ap (λ (bytes : List ℕ). with_more old bytes) (sym gone) ∙ before

  pub all_taken : (result : Result (Option Item) ReadError) → outside ≡ [] → IsTaken old outside result new kept →
      IsTakenOf first result (with_more new kept)
  all_taken (Err error) gone taken = error_taken error taken
  all_taken (Ok (Some item)) gone taken = item_taken item taken
  all_taken (Ok None) gone (accepts, none, short, same, kept_same) =
      let there = all_there gone in (
        subst (λ (state : Unread). rejection state ≡ None) there accepts,
        subst (λ (state : Unread). NoItemBegins state.version state.bytes) there none,
        rw (same, kept_same) before,
      )

-- no byte is outside the decoder
pub none_outside : (chunk rest : List ℕ) → length chunk ≡ 0 → length rest ≡ 0 → chunk ++ rest ≡ []
none_outside [] [] first second = refl
none_outside [] (byte ∷ rest) first second = absurd (omega (arith, second))
none_outside (byte ∷ chunk) rest first second = absurd (omega (arith, first))

-- fewer than the bytes that were kept are fewer than those that were there
pub fewer_outside : (chunk rest kept_chunk kept_rest : List ℕ) (left : ℕ) → kept_chunk ++ kept_rest ≡ chunk ++ rest →
    left < length kept_chunk + length kept_rest → left < length chunk + length rest
fewer_outside chunk rest kept_chunk kept_rest left same fewer =
    omega (
      arith,
      fewer,
      ap (λ (bytes : List ℕ). length bytes) same,
      length-append kept_chunk kept_rest,
      length-append chunk rest,
    )
