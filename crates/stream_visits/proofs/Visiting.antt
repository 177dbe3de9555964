-- How the visit of a stream continues, and what is known when it ends.
use Rattle.std.proofs.Common.{◌≡◌, ℕ, ◌+◌, ◌*◌, ◌<◌, ◌≤◌, List, [], ◌∷◌, ◌++◌, length, Option, Some, None, Result}
use Rattle.std.proofs.Common.{Ok, Err, refl, sym, ap, ◌∙◌, subst, arith, length-append}
use Rattle.std.proofs.lemmas.List.Elements.{All-push}
use Rattle.std.specs.Prelude.{◌-◌, ◌^◌}
use Rattle.std.specs.Io.KnownBytes.{Consumes, IsAtEnd}
use Rattle.std.proofs.KnownBytes.{Consumes-nil, Consumes-trans}
use Rattle.shared_core_base.specs.declared.version.Version.{Version}
use Rattle.shared_core_stream.specs.declared.encoding.item.Item.{Item}
use Rattle.shared_core_stream.specs.declared.encoding.limit_error.MessageTooLong.{MessageTooLong as Longer}
use Rattle.shared_core_stream.specs.Items.{IsItemsThen, NoItemBegins}
use Rattle.shared_core_stream.specs.Limits.{after_item, payload_length, rejection, TakesWithin}
use Rattle.shared_core_stream.specs.Unread.{Unread, fresh}
use Rattle.shared_core_stream.proofs.Items.{then_more, then_start, then_takes}
use Rattle.shared_core_io.specs.Reading.{with_more}
use Rattle.stream_lines.specs.Printing.{item_size, items_size, AllWithin, IsLack}
use Rattle.stream_lines.specs.Steps.{holding}
use Rattle.stream_lines.proofs.Progress.{filled, takes}
use Rattle.stream_lines.specs.declared.error.PrintError.{PrintError}
use Rattle.stream_lines.specs.declared.error.PrintError.TheVariants.{Input, Output, OutOfMemory, TooLong}
use Rattle.stream_lines.specs.declared.error.PrintError.TheVariants.{MessageTooLong}
use Rattle.stream_visits.specs.Visits.{AreVisited, IsItemAt, IsSmall}

-- The most bytes of an item.
abbrev pub most : ℕ
most = 4294967303

-- the size of one item more
pub size_more : (items : List Item) (item : Item) → items_size (items ++ item ∷ []) ≡ items_size items + item_size item
size_more [] item = omega arith
size_more (first ∷ items) item = omega (arith, size_more items item)

-- A visit that is not at its end: these items of what was read are taken, and seen; what is after them is held.
pub record GoesOn (version : Version) (limit : ℕ) (seen : List Item → Type 0) (first left : Option (List ℕ))
    (state : Unread) (counter : ℕ) : Type 0 where
  pub read : List ℕ
  pub items : List Item
  pub next : IsItemsThen version read items state.bytes
  pub within : AllWithin limit items
  pub came : Consumes first left read
  pub state_is : state ≡ holding version limit (items_size items) state.bytes
  pub has_seen : seen items
  pub few : length items ≤ counter
  pub small : items_size items ≤ most * counter

-- What a visit that has ended says.
abbrev pub HasVisited : Version → ℕ → (List Item → Type 0) → (Item → Type 0) → Option (List ℕ) → Result ℕ PrintError →
    Option (List ℕ) → Type 0
HasVisited version limit seen is_long first result left =
    (read : List ℕ) × Consumes first left read × AreVisited seen is_long version limit result read left

-- What a reading for the item of an index that has ended says.
abbrev pub HasItemAt : Version → ℕ → ℕ → Option (List ℕ) → Result (Option Item) PrintError → Option (List ℕ) → Type 0
HasItemAt version limit index first result left =
    (read : List ℕ) × Consumes first left read × IsItemAt version limit index result read left

-- As many items were taken as this.
abbrev pub AreCounted : ℕ → List Item → Type 0
AreCounted count items = length items ≡ count

module _ (version : Version) (limit : ℕ) (is_long : Item → Type 0) (first : Option (List ℕ)) where
  pub starts : (seen : List Item → Type 0) (state : Unread) → state ≡ fresh version limit → seen []
      → GoesOn version limit seen first first state 0
  starts seen state fresh_is has_seen = record {
    read = [];
    items = [];
    next = rw fresh_is (then_start version []);
    within = (λ k item below. absurd (omega (arith, below)));
    came = Consumes-nil first;
    state_is = rw fresh_is refl;
    has_seen = has_seen;
    few = omega arith;
    small = omega arith;
  }

  module _ (seen : List Item → Type 0) (left now : Option (List ℕ)) (state : Unread) (counter : ℕ) (more : List ℕ)
      (so_far : GoesOn version limit seen first left state counter) (came : Consumes left now more) where
    -- what is held once more was read
    all_held : with_more state more ≡ holding version limit (items_size so_far.items) (state.bytes ++ more)
    all_held = filled version limit (items_size so_far.items) state (with_more state more) more so_far.state_is refl

    then_read : IsItemsThen version (so_far.read ++ more) so_far.items (state.bytes ++ more)
    then_read = then_more version so_far.read state.bytes more so_far.items so_far.next

    came_all : Consumes first now (so_far.read ++ more)
    came_all = Consumes-trans first left now so_far.read more so_far.came came

    module _ (new : Unread) (item : Item)
        (taken : TakesWithin (with_more state more).version (with_more state more).limit (with_more state more).bytes
        item new.bytes) (after : new ≡ after_item (with_more state more) new.bytes) (least : limit ≤ 4294967295) where
      few_items : length (so_far.items ++ item ∷ []) ≤ counter + 1
      few_items = omega (arith, so_far.few, length-append so_far.items (item ∷ []))

      next_items : IsItemsThen version (so_far.read ++ more) (so_far.items ++ item ∷ []) new.bytes
      next_items =
          let step = takes version limit (items_size so_far.items) (with_more state more) new item all_held taken after
          in
          then_takes version (so_far.read ++ more) (state.bytes ++ more) new.bytes so_far.items item then_read step.0.0

      small_items : items_size (so_far.items ++ item ∷ []) ≤ most * (counter + 1)
      small_items =
          let step = takes version limit (items_size so_far.items) (with_more state more) new item all_held taken after
          in
          omega (arith, so_far.small, size_more so_far.items item, step.0.1, least)

      -- there is room to note the item
      pub may_note : counter < 2 ^ 64 - 1 → IsSmall (so_far.items ++ item ∷ [])
      may_note below = (omega (arith, few_items, below), omega (arith, small_items, below))

      -- it is noted
      pub goes_on : (seen_now : List Item → Type 0) → seen_now (so_far.items ++ item ∷ [])
          → GoesOn version limit seen_now first now new (counter + 1)
      goes_on seen_now has_seen =
          let step = takes version limit (items_size so_far.items) (with_more state more) new item all_held taken after
          in
          record {
            read = so_far.read ++ more;
            items = so_far.items ++ item ∷ [];
            next = next_items;
            within = All-push (λ i. payload_length i ≤ limit) so_far.items item so_far.within step.0.1;
            came = came_all;
            state_is = step.2 ∙ ap (λ n. holding version limit n new.bytes) (sym (size_more so_far.items item));
            has_seen = has_seen;
            few = few_items;
            small = small_items;
          }

      -- it is the one of the index
      pub found : (index : ℕ) → length so_far.items ≡ index
          → HasItemAt version limit index first (Ok (Some item)) now
      found index counted =
          let step = takes version limit (items_size so_far.items) (with_more state more) new item all_held taken after
          in (
            so_far.read ++ more,
            came_all,
            (
              so_far.items,
              new.bytes,
              next_items,
              All-push (λ i. payload_length i ≤ limit) so_far.items item so_far.within step.0.1,
              counted,
            ),
          )

      -- it is another one
      pub counted_more : (count : ℕ) → length so_far.items ≡ count → length (so_far.items ++ item ∷ []) ≡ count + 1
      counted_more count counted = omega (arith, counted, length-append so_far.items (item ∷ []))

      -- it is not
      pub lacks : (seen_now : List Item → Type 0) (error : PrintError) → IsLack (is_long item) error
          → HasVisited version limit seen_now is_long first (Err error) now
      lacks seen_now OutOfMemory lack = (so_far.read ++ more, came_all, tt)
      lacks seen_now TooLong lack =
          (so_far.read ++ more, came_all, (so_far.items, item, new.bytes, next_items, lack))
      lacks seen_now Input lack = absurd lack
      lacks seen_now Output lack = absurd lack
      lacks seen_now (MessageTooLong error) lack = absurd lack

    -- the stream has ended
    pub ended : (rest : ℕ) → IsAtEnd now → rejection (with_more state more) ≡ None
        → NoItemBegins state.version (state.bytes ++ more) → rest ≡ length (state.bytes ++ more)
        → HasVisited version limit seen is_long first (Ok rest) now
    ended rest end accepts none counted = (
      so_far.read ++ more,
      came_all,
      (
        end,
        (
          so_far.items,
          state.bytes ++ more,
          record {
            items_then = then_read;
            no_more = subst (λ (held : Unread). NoItemBegins held.version (state.bytes ++ more)) all_held none;
          },
          (so_far.within, subst (λ (held : Unread). rejection held ≡ None) all_held accepts),
          so_far.has_seen,
          counted,
        ),
      ),
    )

    -- the next message is longer than the limit
    pub too_long : (message : Longer) → rejection (with_more state more) ≡ Some message
        → HasVisited version limit seen is_long first (Err (MessageTooLong message)) now
    too_long message rejects = (
      so_far.read ++ more,
      came_all,
      (
        so_far.items,
        (
          state.bytes ++ more,
          then_read,
          so_far.within,
          subst (λ (held : Unread). rejection held ≡ Some message) all_held rejects,
        ),
      ),
    )

    -- the stream has ended before the item of the index
    pub ended_before : (index : ℕ) → length so_far.items ≤ index → IsAtEnd now
        → rejection (with_more state more) ≡ None → NoItemBegins state.version (state.bytes ++ more)
        → HasItemAt version limit index first (Ok None) now
    ended_before index few end accepts none = (
      so_far.read ++ more,
      came_all,
      (
        end,
        (
          so_far.items,
          state.bytes ++ more,
          record {
            items_then = then_read;
            no_more = subst (λ (held : Unread). NoItemBegins held.version (state.bytes ++ more)) all_held none;
          },
          (so_far.within, subst (λ (held : Unread). rejection held ≡ None) all_held accepts),
          few,
        ),
      ),
    )

    -- the next message is longer than the limit
    pub too_long_before : (index : ℕ) (message : Longer) → length so_far.items ≤ index
        → rejection (with_more state more) ≡ Some message
        → HasItemAt version limit index first (Err (MessageTooLong message)) now
    too_long_before index message few rejects = (
      so_far.read ++ more,
      came_all,
      (
        so_far.items,
        (
          state.bytes ++ more,
          then_read,
          so_far.within,
          subst (λ (held : Unread). rejection held ≡ Some message) all_held rejects,
        ),
        few,
      ),
    )
