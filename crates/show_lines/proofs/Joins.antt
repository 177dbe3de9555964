-- What one more item adds.
use Rattle.std.proofs.Common.{◌≡◌, ℕ, List, [], ◌++◌, Bool, true, false, cond, refl, ap, sym, ◌∙◌, append-nil}
use Rattle.std.specs.Prelude.{codes}
use Rattle.shared_core_stream.specs.declared.encoding.item.Item.{Item}
use Rattle.stream_lines.specs.Printing.{item_size}
use Rattle.show_lines.specs.declared.facts.Facts.{Facts}
use Rattle.show_lines.specs.declared.options.Options.{Options}
use Rattle.show_lines.specs.declared.place.Place.{Place}
use Rattle.show_lines.specs.Waiting.{joined, waiting_after, Waiting}
use Rattle.show_lines.specs.Lines.{has_line, invocation_name, is_command, is_selected, item_facts, item_name, joins}
use Rattle.show_lines.specs.Lines.{line_of, place_after, then_known, waiting_then, Known}

module _ (waits_before : Waiting) (facts : Facts) (name : List ℕ) (commands selected : Bool)
    (first second : List ℕ) (between : Waiting) (is_one : commands ≡ is_command facts)
    (named : first ≡ invocation_name name) (same : second ≡ name)
    (waits : between ≡ waiting_after facts.invocation
    (record { is_command = commands; is_selected = selected; text = first }) waits_before) where
  pub joined_both : (start middle end : List ℕ) → start ≡ [] → middle ≡ start ++ joined facts.invocation commands
      waits_before → end ≡ middle ++ joined facts.result commands between → end ≡ joins selected waits_before facts name
  joined_both start middle end empty one two = rw (two, one, empty, waits, named, is_one) refl

  pub waiting_both : (after : Waiting) → after ≡ waiting_after facts.result
      (record { is_command = commands; is_selected = selected; text = second }) between → after ≡ waiting_then selected
      waits_before facts name
  waiting_both after is = rw (is, waits, named, same, is_one) refl

module _ (options : Options) (known : Known) (item : Item) (facts : Facts) (name : List ℕ) (selected : Bool)
    (told : facts ≡ item_facts options.version item) (named : name ≡ item_name options.version known.place.index item)
    (chosen : selected ≡ is_selected options known.place item) where
  abbrev all_facts : Facts
  all_facts = item_facts options.version item

  abbrev whole_name : List ℕ
  whole_name = item_name options.version known.place.index item

  abbrev shown : Bool
  shown = is_selected options known.place item

  abbrev whole_line : List ℕ
  whole_line = whole_name ++ (joins shown known.waiting all_facts whole_name ++ codes "\n")

  shown_by : (shows : Bool) → shows ≡ has_line options selected facts → has_line options shown all_facts ≡ shows
  shown_by shows is = ap (λ (f : Facts). has_line options shown f) (sym told)
      ∙ ap (λ (b : Bool). has_line options b facts) (sym chosen) ∙ sym is

  pub line_added : (shows : Bool) (joined text longer : List ℕ) → shows ≡ has_line options selected facts → shows ≡
      true → joined ≡ joins selected known.waiting facts name → longer ≡ text ++ (name ++ (joined ++ codes "\n")) →
      longer ≡ text ++ line_of options known item
  line_added shows joined text longer is true_now halves added =
      added ∙ ap (λ (n : List ℕ). text ++ (n ++ (joined ++ codes "\n"))) named
      ∙ ap (λ (j : List ℕ). text ++ (whole_name ++ (j ++ codes "\n")))
      (halves ∙ ap (λ (b : Bool). joins b known.waiting facts name) chosen
      ∙ ap (λ (f : Facts). joins shown known.waiting f name) told
      ∙ ap (λ (n : List ℕ). joins shown known.waiting all_facts n) named)
      ∙ ap (λ (b : Bool). text ++ cond b whole_line []) (sym (shown_by shows is ∙ true_now))

  pub no_line_added : (shows : Bool) (text longer : List ℕ) → shows ≡ has_line options selected facts → shows ≡ false
      → longer ≡ text → longer ≡ text ++ line_of options known item
  no_line_added shows text longer is false_now added =
      added ∙ sym (append-nil text) ∙ ap (λ (b : Bool). text ++ cond b whole_line [])
      (sym (shown_by shows is ∙ false_now))

  abbrev known_with : Place → Waiting → Known
  known_with place waiting = record { place = place; waiting = waiting }

  pub known_added : (size : ℕ) (place : Place) (waiting : Waiting) → size ≡ item_size item → place ≡ place_after facts
      size known.place → waiting ≡ waiting_then selected known.waiting facts name → known_with place waiting ≡
      then_known options known item
  known_added size place waiting sized placed halves =
      ap (λ (p : Place). record { place = p; waiting = waiting })
      (placed ∙ ap (λ (n : ℕ). place_after facts n known.place) sized
      ∙ ap (λ (f : Facts). place_after f (item_size item) known.place) told)
      ∙ ap (λ (w : Waiting). record { place = place_after all_facts (item_size item) known.place; waiting = w })
      (halves ∙ ap (λ (b : Bool). waiting_then b known.waiting facts name) chosen
      ∙ ap (λ (f : Facts). waiting_then shown known.waiting f name) told
      ∙ ap (λ (n : List ℕ). waiting_then shown known.waiting all_facts n) named)
