-- What a report has after one more item, and what is known when the check ends.
use Rattle.std.specs.Prelude.{◌<◌, ◌^◌}
use Rattle.std.proofs.Common.{◌≡◌, ℕ, ◌+◌, List, [], ◌∷◌, ◌++◌, length, Option, Some, None, Err, refl, sym, ap, ◌∙◌}
use Rattle.std.proofs.Common.{arith}
use Rattle.std.specs.Option.{option_or}
use Rattle.shared_core_base.specs.declared.version.Version.{Version}
use Rattle.shared_core_stream.specs.declared.encoding.item.Item.{Item}
use Rattle.stream_lines.specs.declared.report.Report.{Report}
use Rattle.stream_lines.specs.declared.report.Trouble.{Trouble}
use Rattle.stream_lines.specs.declared.error.PrintError.{PrintError}
use Rattle.stream_lines.specs.declared.error.PrintError.TheVariants.{Input, Output, OutOfMemory, TooLong}
use Rattle.stream_lines.specs.declared.error.PrintError.TheVariants.{MessageTooLong}
use Rattle.stream_lines.specs.Printing.{first_trouble, item_size, items_size, trouble_at, IsReport}
use Rattle.stream_visits.specs.Visits.{AreVisited, IsSmall}
use Rattle.stream_visits.proofs.Visiting.{size_more}
use Rattle.stream_versions.specs.Fits.{IsChecked}

or_assoc : (a b c : Option (ℕ × Trouble)) → option_or a (option_or b c) ≡ option_or (option_or a b) c
or_assoc None b c = refl
or_assoc (Some x) b c = refl

or_none : (a : Option (ℕ × Trouble)) → option_or a None ≡ a
or_none None = refl
or_none (Some x) = refl

module _ (fault : Item → Option Trouble) where
  -- the first fault of items, the last of which is this
  first_more : (at : ℕ) (items : List Item) (item : Item) → first_trouble fault at (items ++ item ∷ [])
      ≡ option_or (first_trouble fault at items) (trouble_at fault (at + items_size items) item)
  first_more at [] item =
      or_none (trouble_at fault at item)
      ∙ ap (λ n. trouble_at fault n item) (omega arith)
  first_more at (first ∷ items) item =
      ap (option_or (trouble_at fault at first)) (first_more (at + item_size first) items item)
      ∙ or_assoc (trouble_at fault at first) (first_trouble fault (at + item_size first) items)
      (trouble_at fault ((at + item_size first) + items_size items) item)
      ∙ ap (λ n. option_or (option_or (trouble_at fault at first) (first_trouble fault (at + item_size first) items))
      (trouble_at fault n item)) (omega arith)

  -- the report after one more item
  pub one_more : (items : List Item) (item : Item) (old new : Report) → IsReport fault items [] old
      → new.trouble ≡ option_or old.trouble (trouble_at fault old.end item) → new.end ≡ old.end + item_size item
      → new.rest ≡ old.rest → IsReport fault (items ++ item ∷ []) [] new
  one_more items item old new was found ends same = record {
    first =
        found
        ∙ ap (λ (o : Option (ℕ × Trouble)). option_or o (trouble_at fault old.end item)) was.first
        ∙ ap (λ n. option_or (first_trouble fault 0 items) (trouble_at fault n item))
        (was.end ∙ omega arith)
        ∙ sym (first_more 0 items item);
    end = ends ∙ ap (λ n. n + item_size item) was.end ∙ sym (size_more items item);
    count = same ∙ was.count;
  }

  -- the report has room for the size of one more item
  pub has_room : (items : List Item) (item : Item) (old : Report) (size : ℕ) → IsReport fault items [] old
      → size ≡ item_size item → IsSmall (items ++ item ∷ []) → old.end + size < 2 ^ 128
  has_room items item old size was sized small = omega (arith, was.end, sized, size_more items item, small.1)

  -- the report at the end, with the number of trailing bytes
  pub reported : (items : List Item) (rest : List ℕ) (found : Report) (count : ℕ) → IsReport fault items [] found
      → count ≡ length rest → IsReport fault items rest (record found { rest = count })
  reported items rest found count was counted = record { first = was.first; end = was.end; count = counted }

-- a check that ends early ends as the visit does
pub unchecked : (version : Version) (limit : ℕ) (seen : List Item → Type 0) (read : List ℕ) (left : Option (List ℕ))
    (error : PrintError) → AreVisited seen (λ item. ⊥) version limit (Err error) read left
    → IsChecked version limit (Err error) read left
unchecked version limit seen read left Input visited = tt
unchecked version limit seen read left OutOfMemory visited = tt
unchecked version limit seen read left TooLong visited = visited.4
unchecked version limit seen read left (MessageTooLong message) visited = visited
unchecked version limit seen read left Output visited = absurd visited
