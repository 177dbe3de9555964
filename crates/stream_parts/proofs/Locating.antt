-- How the reading of a stream's items continues, and what is known when it ends.
use Rattle.std.proofs.Common.{◌≡◌, ℕ, ◌+◌, ◌*◌, ◌≤◌, List, [], ◌∷◌, ◌++◌, length, Option, Some, None, Result}
use Rattle.std.proofs.Common.{Ok, Err, refl, sym, ap, ◌∙◌, subst, arith, length-append}
use Rattle.std.proofs.lemmas.List.Elements.{All-push}
use Rattle.std.specs.Io.KnownBytes.{Consumes, IsAtEnd}
use Rattle.std.proofs.KnownBytes.{Consumes-nil, Consumes-trans}
use Rattle.shared_core_base.specs.declared.version.Version.{Version}
use Rattle.shared_core_stream.specs.declared.encoding.item.Item.{Item}
use Rattle.shared_core_stream.specs.declared.encoding.limit_error.MessageTooLong.{MessageTooLong as Longer}
use Rattle.shared_core_stream.specs.Items.{IsItemsThen, NoItemBegins}
use Rattle.shared_core_stream.specs.Limits.{after_item, payload_length, rejection, TakesWithin}
use Rattle.shared_core_stream.specs.Unread.{Unread, fresh}
use Rattle.shared_core_stream.proofs.Items.{then_more, then_start, then_takes}
use Rattle.shared_core_io.specs.Reading.{with_more}
use Rattle.stream_lines.specs.Printing.{items_size, AllWithin}
use Rattle.stream_lines.specs.Steps.{holding}
use Rattle.stream_lines.proofs.Progress.{filled, takes}
use Rattle.stream_parts.proofs.Counting.{size_more}
use Rattle.stream_parts.specs.declared.error.LocateError.{LocateError}
use Rattle.stream_parts.specs.declared.error.LocateError.TheVariants.{MessageTooLong}
use Rattle.stream_parts.specs.declared.located.Located.{Located}
use Rattle.stream_parts.specs.declared.range.Range.{Range}
use Rattle.stream_parts.specs.Parts.{located_in, IsLocated}

-- The most bytes of an item.
abbrev pub most : ℕ
most = 4294967303

-- A reading that is not at its end: these items of what was read are taken, and counted; what is after them is held.
pub record GoesOn (version : Version) (limit : ℕ) (range : Range) (first left : Option (List ℕ)) (state : Unread)
    (found : Located) (counter : ℕ) : Type 0 where
  pub read : List ℕ
  pub items : List Item
  pub next : IsItemsThen version read items state.bytes
  pub within : AllWithin limit items
  pub came : Consumes first left read
  pub state_is : state ≡ holding version limit (items_size items) state.bytes
  pub is : found ≡ located_in range items 0
  pub few : length items ≤ counter
  pub small : items_size items ≤ most * counter

-- What a reading that has ended says.
abbrev pub HasLocated : Version → ℕ → Range → Option (List ℕ) → Result Located LocateError → Option (List ℕ) → Type 0
HasLocated version limit range first result left =
    (read : List ℕ) × Consumes first left read × IsLocated version limit range result read left

module _ (version : Version) (limit : ℕ) (range : Range) (first : Option (List ℕ)) where
  pub starts : (state : Unread) (found : Located) → state ≡ fresh version limit → found ≡ located_in range [] 0
      → GoesOn version limit range first first state found 0
  starts state found fresh_is found_is = record {
    read = [];
    items = [];
    next = rw fresh_is (then_start version []);
    within = (λ k item below. absurd (omega (arith, below)));
    came = Consumes-nil first;
    state_is = rw fresh_is refl;
    is = found_is;
    few = omega arith;
    small = omega arith;
  }

  module _ (left now : Option (List ℕ)) (state : Unread) (found : Located) (counter : ℕ) (more : List ℕ)
      (so_far : GoesOn version limit range first left state found counter) (came : Consumes left now more) where
    -- what is held once more was read
    all_held : with_more state more ≡ holding version limit (items_size so_far.items) (state.bytes ++ more)
    all_held = filled version limit (items_size so_far.items) state (with_more state more) more so_far.state_is refl

    then_read : IsItemsThen version (so_far.read ++ more) so_far.items (state.bytes ++ more)
    then_read = then_more version so_far.read state.bytes more so_far.items so_far.next

    came_all : Consumes first now (so_far.read ++ more)
    came_all = Consumes-trans first left now so_far.read more so_far.came came

    -- an item is taken
    pub goes_on : (new : Unread) (counted : Located) (item : Item)
        → TakesWithin (with_more state more).version (with_more state more).limit (with_more state more).bytes item
        new.bytes
        → new ≡ after_item (with_more state more) new.bytes
        → counted ≡ located_in range (so_far.items ++ item ∷ []) 0 → limit ≤ 4294967295
        → GoesOn version limit range first now new counted (counter + 1)
    goes_on new counted item taken after is least =
        let step = takes version limit (items_size so_far.items) (with_more state more) new item all_held taken after in
        record {
          read = so_far.read ++ more;
          items = so_far.items ++ item ∷ [];
          next = then_takes version (so_far.read ++ more) (state.bytes ++ more) new.bytes so_far.items item then_read
              step.0.0;
          within = All-push (λ i. payload_length i ≤ limit) so_far.items item so_far.within step.0.1;
          came = came_all;
          state_is = step.2 ∙ ap (λ n. holding version limit n new.bytes) (sym (size_more so_far.items item));
          is = is;
          few = omega (arith, so_far.few, length-append so_far.items (item ∷ []));
          small = omega (arith, so_far.small, size_more so_far.items item, step.0.1, least);
        }

    -- the stream has ended
    pub ended : (result : Located) (rest : ℕ) → IsAtEnd now → rejection (with_more state more) ≡ None
        → NoItemBegins state.version (state.bytes ++ more) → rest ≡ length (state.bytes ++ more)
        → result ≡ record found { rest = rest }
        → HasLocated version limit range first (Ok result) now
    ended result rest end accepts none counted is = (
      so_far.read ++ more,
      came_all,
      (
        end,
        (
          so_far.items,
          state.bytes ++ more,
          record {
            items_then = then_read;
            no_more = subst (λ (held : Unread). NoItemBegins held.version (state.bytes ++ more)) all_held none;
          },
          (so_far.within, subst (λ (held : Unread). rejection held ≡ None) all_held accepts),
          is ∙ ap (λ (located : Located). record located { rest = rest }) so_far.is
              ∙ ap (located_in range so_far.items) counted,
        ),
      ),
    )

    -- the next message is longer than the limit
    pub too_long : (message : Longer) → rejection (with_more state more) ≡ Some message
        → HasLocated version limit range first (Err (MessageTooLong message)) now
    too_long message rejects = (
      so_far.read ++ more,
      came_all,
      (
        so_far.items,
        (
          state.bytes ++ more,
          then_read,
          so_far.within,
          subst (λ (held : Unread). rejection held ≡ Some message) all_held rejects,
        ),
      ),
    )
