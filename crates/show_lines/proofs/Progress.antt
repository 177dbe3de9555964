-- How the showing of a stream continues, and what is written when it ends.
use Rattle.std.proofs.Common.{ℕ, ◌+◌, ◌≤◌, Some, None, ◌≡◌, List, [], ◌∷◌, ◌++◌, length, ap, sym, subst, ◌∙◌}
use Rattle.std.proofs.Common.{append-nil, append_assoc, arith, Result, Ok, Err, Option, inl, inr, refl, length-append}
use Rattle.std.proofs.lemmas.List.Elements.{All-append, All-push}
use Rattle.std.specs.Io.KnownBytes.{Appends, Consumes, IsAtEnd}
use Rattle.std.proofs.KnownBytes.{Appends-nil, Appends-trans, Consumes-nil, Consumes-trans}
use Rattle.shared_core_stream.specs.declared.encoding.item.Item.{Item}
use Rattle.shared_core_stream.specs.Items.{NoItemBegins, IsItemsThen, SplitsInto}
use Rattle.shared_core_stream.proofs.Items.{nothing_begins_with_none}
use Rattle.shared_core_stream.proofs.Items.{then_start, then_join, then_more, then_one, split_of, split_begins}
use Rattle.shared_core_stream.specs.declared.encoding.limit_error.MessageTooLong.{MessageTooLong as Longer}
use Rattle.shared_core_stream.specs.Unread.{Unread}
use Rattle.shared_core_stream.specs.Limits.{offset_after, payload_length, too_long_at, TakesWithin}
use Rattle.stream_lines.specs.declared.report.Report.{Report}
use Rattle.stream_lines.specs.declared.error.PrintError.{PrintError}
use Rattle.stream_lines.specs.declared.error.PrintError.TheVariants.{Input, Output, OutOfMemory, TooLong}
use Rattle.stream_lines.specs.declared.error.PrintError.TheVariants.{MessageTooLong}
use Rattle.stream_lines.specs.Printing.{item_size, items_size}
use Rattle.stream_lines.specs.Printing.{too_long_after, AllWithin, AreWithin, Begins, IsLack, IsLongIn}
use Rattle.stream_lines.specs.Steps.{IsAfter}
use Rattle.shared_core_base.specs.declared.version.Version.{Version}
use Rattle.show_lines.specs.declared.options.Options.{Options}
use Rattle.show_lines.specs.Lines.{known_after, last_lines, line_of, lines, nothing_known, then_known, Known}
use Rattle.show_lines.specs.Showing.{AreShown, IsLong, IsWrittenFor}
use Rattle.show_lines.specs.Steps.{Added}

lines_join : (options : Options) (known : Known) (items others : List Item) → lines options known items ++ lines options
    (known_after options known items) others ≡ lines options known (items ++ others)
lines_join options known [] others = refl
lines_join options known (item ∷ items) others =
    let then = then_known options known item in
    append_assoc (line_of options known item) (lines options then items) (lines options (known_after options then items)
    others)
    ∙ ap (λ (l : List ℕ). line_of options known item ++ l) (lines_join options then items others)

after_join : (options : Options) (known : Known) (items others : List Item) → known_after options
    (known_after options known items) others ≡ known_after options known (items ++ others)
after_join options known [] others = refl
after_join options known (item ∷ items) others = after_join options (then_known options known item) items others

items_size_join : (items others : List Item) → items_size (items ++ others) ≡ items_size items + items_size others
items_size_join [] others = omega arith
items_size_join (item ∷ items) others = omega (arith, items_size_join items others)

begins_after : {A : Type 0} (front text whole : List A) → Begins text whole → Begins (front ++ text) (front ++ whole)
begins_after front text whole (more, is) = (more, ap (λ l. front ++ l) is ∙ sym (append_assoc front text more))

-- what a step says of the items that it added, of these bytes, and of what is after them
abbrev pub HasAdded : Options → Version → ℕ → ℕ → Known → List ℕ → List ℕ → Option Longer → ℕ → Known → List ℕ → Unread
    → Type 0
HasAdded options version limit at known text bytes longer offset learnt longest state = (rest : List ℕ)
    × Added options limit at known text bytes offset learnt longest rest
    × IsAfter version limit longer offset rest state

module _ (options : Options) (limit : ℕ) where
  -- none was
  pub added_none : (at : ℕ) (known : Known) (text bytes : List ℕ) → Added options limit at known text bytes at known
      text bytes
  added_none at known text bytes = record {
    more = [];
    next = then_start options.version bytes;
    within = λ k item below. absurd (omega (arith, below));
    printed = sym (append-nil text);
    place = omega arith;
    noted = refl;
  }

  -- one item was
  pub added_one : (at offset : ℕ) (known learnt : Known) (text longer bytes rest : List ℕ) (item : Item) → TakesWithin
      options.version limit bytes item rest → longer ≡ text ++ line_of options known item → offset ≡ at + item_size item
      → learnt ≡ then_known options known item → Added options limit at known text bytes offset learnt longer rest
  added_one at offset known learnt text longer bytes rest item (taken, fits) printed place noted = record {
    more = item ∷ [];
    next = then_one options.version bytes rest item taken;
    within = All-push (λ i. payload_length i ≤ limit) [] item (λ k i below. absurd (omega (arith, below))) fits;
    printed = printed ∙ ap (λ (l : List ℕ). text ++ l) (sym (append-nil (line_of options known item)));
    place = place ∙ omega arith;
    noted = noted;
  }

  -- some were, and then others
  pub added_join : (at middle offset : ℕ) (known between learnt : Known)
      (text longer longest bytes left rest : List ℕ) → Added options limit at known text bytes middle between longer
      left → Added options limit middle between longer left offset learnt longest rest → Added options limit at known
      text bytes offset learnt longest rest
  added_join at middle offset known between learnt text longer longest bytes left rest first second = record {
    more = first.more ++ second.more;
    next = then_join options.version bytes left rest first.more second.more first.next second.next;
    within = All-append (λ item. payload_length item ≤ limit) first.more second.more first.within second.within;
    printed =
        second.printed ∙ ap (λ (t : List ℕ). t ++ lines options between second.more) first.printed
        ∙ append_assoc text (lines options known first.more) (lines options between second.more)
        ∙ ap (λ (l : List ℕ). text ++ l)
        (ap (λ (k : Known). lines options known first.more ++ lines options k second.more) first.noted
        ∙ lines_join options known first.more second.more);
    place = omega (arith, first.place, second.place, items_size_join first.more second.more);
    noted =
        second.noted ∙ ap (λ (k : Known). known_after options k second.more) first.noted
        ∙ after_join options known first.more second.more;
  }

-- A showing that is not at its end: the items of what was read have their lines, and these bytes are pending, which
-- begin with no item.
pub record GoesOn (options : Options) (first start left out : Option (List ℕ)) (offset : ℕ) (pending : List ℕ)
    (known : Known) : Type 0 where
  pub read : List ℕ
  pub items : List Item
  pub split : SplitsInto options.version read items pending
  pub place : offset ≡ items_size items
  pub came : Consumes first left read
  pub wrote : Appends start out (lines options nothing_known items)
  pub noted : known ≡ known_after options nothing_known items
  pub within : AreWithin options.version options.limit items pending

-- A showing that has ended, as its contract says it.
abbrev pub HasEnded : Options → Option (List ℕ) → Option (List ℕ) → Option (List ℕ) → Option (List ℕ) →
    Result Report PrintError → Type 0
HasEnded options first start left out result =
    (read : List ℕ) × (written : List ℕ) × Consumes first left read × Appends start out written × AreShown options
    result read written left

module _ (options : Options) (first start : Option (List ℕ)) where
  abbrev version : Version
  version = options.version

  abbrev limit : ℕ
  limit = options.limit

  -- the first items of a stream, whatever follows them, are the first that it splits into
  shown_output : (stream rest written : List ℕ) (items : List Item) (left : Option (List ℕ)) → IsItemsThen version
      stream items rest → AllWithin limit items → Begins written (lines options nothing_known items) → AreShown options
      (Err Output) stream written left
  shown_output stream rest written items left front within begun =
      let (all, after, split) = split_of version stream in
      record {
        items = all;
        rest = after;
        split = split;
        written_for = inl (items, (split_begins version stream after all split items rest front, within), begun);
      }

  shown_lack : (error : PrintError) (stream rest : List ℕ) (items : List Item) (left : Option (List ℕ)) → IsLack
      (IsLongIn (IsLong version) version rest) error → IsItemsThen version stream items rest → AllWithin limit items →
      AreShown options (Err error) stream (lines options nothing_known items) left
  shown_lack Input stream rest items left lack front within = absurd lack
  shown_lack (MessageTooLong longer) stream rest items left lack front within = absurd lack
  shown_lack Output stream rest items left lack front within = absurd lack
  shown_lack OutOfMemory stream rest items left lack front within =
      let (all, after, split) = split_of version stream in
      record {
        items = all;
        rest = after;
        split = split;
        written_for =
            (items, (split_begins version stream after all split items rest front, within), refl);
      }
  shown_lack TooLong stream rest items left (more, item, others, then_item, long) front within =
      let (all, after, split) = split_of version stream in
      let until = items ++ (more ++ item ∷ []) in
      let then_long_one = then_join version stream rest others items (more ++ item ∷ []) front then_item in
      record {
        items = all;
        rest = after;
        split = split;
        written_for = (
          items,
          more,
          item,
          split_begins version stream after all split until others then_long_one,
          long,
          within,
          refl,
        );
      }

  pub starts : GoesOn options first start first start 0 [] nothing_known
  starts = record {
    read = [];
    items = [];
    split = record { items_then = then_start version []; no_more = nothing_begins_with_none version };
    place = refl;
    came = Consumes-nil first;
    wrote = Appends-nil start;
    noted = refl;
    within = (λ k item below. absurd (omega (arith, below)), refl);
  }

  -- the message after these items is longer than the limit
  shown_long : (stream rest : List ℕ) (items : List Item) (left : Option (List ℕ)) (longer : Longer) → IsItemsThen
      version stream items rest → AllWithin limit items → too_long_after version limit items rest ≡ Some longer →
      AreShown options (Err (MessageTooLong longer)) stream (lines options nothing_known items) left
  shown_long stream rest items left longer front within after =
      let (all, beyond, split) = split_of version stream in
      record {
        items = all;
        rest = beyond;
        split = split;
        written_for = (items, (rest, front, within, after), refl);
      }

  module _ (left out : Option (List ℕ)) (offset : ℕ) (pending : List ℕ) (known : Known)
      (so_far : GoesOn options first start left out offset pending known) where
    -- the lines that are written
    abbrev written_so_far : List ℕ
    written_so_far = lines options nothing_known so_far.items

    -- nothing more was read
    pub stays : (now : Option (List ℕ)) (more : List ℕ) → Consumes left now more → pending ++ more ≡ pending → GoesOn
        options first start now out offset pending known
    stays now [] came same = record {
      read = so_far.read;
      items = so_far.items;
      split = so_far.split;
      place = so_far.place;
      came = subst (Consumes first now) (append-nil so_far.read)
          (Consumes-trans first left now so_far.read [] so_far.came came);
      wrote = so_far.wrote;
      noted = so_far.noted;
      within = so_far.within;
    }
    stays now (byte ∷ more) came same =
        absurd (omega (arith, ap (λ (l : List ℕ). length l) same, length-append pending (byte ∷ more)))

    pub ended_input : HasEnded options first start left out (Err Input)
    ended_input = (
      so_far.read,
      written_so_far,
      so_far.came,
      so_far.wrote,
      record { items = so_far.items; rest = pending; split = so_far.split; written_for = (refl, so_far.within) },
    )

    -- the input has ended, and the last lines are written, or cut short
    module _ (grown : Option (List ℕ)) (written : List ℕ) (end : IsAtEnd left) (wrote : Appends out grown written) where
      then_last : (result : Result Report PrintError) → IsWrittenFor options result so_far.read so_far.items pending
          (written_so_far ++ written) left → HasEnded options first start left grown result
      then_last result written_for = (
        so_far.read,
        written_so_far ++ written,
        so_far.came,
        Appends-trans start out grown written_so_far written so_far.wrote wrote,
        record { items = so_far.items; rest = pending; split = so_far.split; written_for = written_for },
      )

      pub ended_whole : (count : ℕ) → count ≡ length pending → written ≡ last_lines options known → HasEnded options
          first start left grown (Ok (record { trouble = None; end = offset; rest = count }))
      ended_whole count counted is = then_last _ (
        end,
        ap (λ (l : List ℕ). written_so_far ++ l) (is ∙ ap (λ (k : Known). last_lines options k) so_far.noted),
        ap (λ (n : ℕ). record { trouble = None; end = n; rest = count }) so_far.place
            ∙ ap (λ (n : ℕ). record { trouble = None; end = items_size so_far.items; rest = n }) counted,
        so_far.within,
      )

      pub ended_cut : Begins written (last_lines options known) → HasEnded options first start left grown (Err Output)
      ended_cut is = then_last (Err Output) (inr (
        end,
        begins_after written_so_far written (last_lines options (known_after options nothing_known so_far.items))
            (subst (λ (k : Known). Begins written (last_lines options k)) so_far.noted is),
        so_far.within,
      ))

    module _ (now : Option (List ℕ)) (chunk : List ℕ) (taken : Consumes left now chunk) where
      with_chunk : Consumes first now (so_far.read ++ chunk)
      with_chunk = Consumes-trans first left now so_far.read chunk so_far.came taken

      then_chunk : IsItemsThen version (so_far.read ++ chunk) so_far.items (pending ++ chunk)
      then_chunk = then_more version so_far.read pending chunk so_far.items so_far.split.items_then

      -- an error on a chunk
      pub ended_lack : (error : PrintError) → IsLack (IsLongIn (IsLong version) version (pending ++ chunk)) error →
          HasEnded options first start now out (Err error)
      ended_lack error lack = (
        so_far.read ++ chunk,
        written_so_far,
        with_chunk,
        so_far.wrote,
        shown_lack error (so_far.read ++ chunk) (pending ++ chunk) so_far.items now lack then_chunk so_far.within.0,
      )

      module _ (after : ℕ) (learnt : Known) (text rest : List ℕ)
          (step : Added options limit offset known [] (pending ++ chunk) after learnt text rest) where
        then_items : IsItemsThen version (so_far.read ++ chunk) (so_far.items ++ step.more) rest
        then_items = then_join version (so_far.read ++ chunk) (pending ++ chunk) rest so_far.items step.more then_chunk
            step.next

        -- the lines of these items are those after the others
        joined : written_so_far ++ text ≡ lines options nothing_known (so_far.items ++ step.more)
        joined =
            ap (λ (l : List ℕ). written_so_far ++ l) step.printed
            ∙ ap (λ (k : Known). written_so_far ++ lines options k step.more) so_far.noted
            ∙ lines_join options nothing_known so_far.items step.more

        -- where the bytes begin that are left
        place_next : after ≡ items_size (so_far.items ++ step.more)
        place_next = omega (arith, so_far.place, step.place, items_size_join so_far.items step.more)

        after_next : (longer : Option Longer) → too_long_at version limit (offset_after 0 after) rest ≡ longer →
            too_long_after version limit (so_far.items ++ step.more) rest ≡ longer
        after_next longer is = ap (λ n. too_long_at version limit (offset_after 0 n) rest) (sym place_next) ∙ is

        within_next : AllWithin limit (so_far.items ++ step.more)
        within_next = All-append (λ item. payload_length item ≤ limit) so_far.items step.more so_far.within.0
            step.within

        -- the text is not written whole
        pub ended_output : (grown : Option (List ℕ)) (written : List ℕ) → Appends out grown written → Begins written
            text → HasEnded options first start now grown (Err Output)
        ended_output grown written wrote is = (
          so_far.read ++ chunk,
          written_so_far ++ written,
          with_chunk,
          Appends-trans start out grown written_so_far written so_far.wrote wrote,
          shown_output (so_far.read ++ chunk) rest (written_so_far ++ written) (so_far.items ++ step.more) now
              then_items within_next
              (subst (Begins (written_so_far ++ written)) joined (begins_after written_so_far written text is)),
        )

        module _ (grown : Option (List ℕ)) (wrote : Appends out grown text) where
          all_written : Appends start grown (lines options nothing_known (so_far.items ++ step.more))
          all_written = subst (Appends start grown) joined
              (Appends-trans start out grown written_so_far text so_far.wrote wrote)

          pub goes_on : NoItemBegins version rest → too_long_at version limit (offset_after 0 after) rest ≡ None →
              GoesOn options first start now grown after rest learnt
          goes_on none short = record {
            read = so_far.read ++ chunk;
            items = so_far.items ++ step.more;
            split = record { items_then = then_items; no_more = none };
            place = place_next;
            came = with_chunk;
            wrote = all_written;
            noted =
                step.noted ∙ ap (λ (k : Known). known_after options k step.more) so_far.noted
                ∙ after_join options nothing_known so_far.items step.more;
            within = (within_next, after_next None short);
          }

          -- after them comes a message that is longer than the limit
          pub ended_long : (longer : Longer) → too_long_at version limit (offset_after 0 after) rest ≡ Some longer →
              HasEnded options first start now grown (Err (MessageTooLong longer))
          ended_long longer is = (
            so_far.read ++ chunk,
            lines options nothing_known (so_far.items ++ step.more),
            with_chunk,
            all_written,
            shown_long (so_far.read ++ chunk) rest (so_far.items ++ step.more) now longer then_items within_next
                (after_next (Some longer) is),
          )
