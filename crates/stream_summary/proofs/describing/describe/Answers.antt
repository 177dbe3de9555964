use Rattle.std.proofs.Common.{◌≡◌, ◌∙◌, ◌++◌, ℕ, List, [], ap, subst, refl}
use Rattle.std.proofs.lemmas.Result.{err_from_is_err_and}
use Rattle.std.proofs.KnownBytes.{Appends-nil}
use Rattle.shared_core_stream.specs.declared.encoding.item.Item.{Item}
use Rattle.stream_lines.specs.Printing.{Begins}
use Rattle.stream_summary.specs.Summary.{description, seen_by, seen_of}
use Rattle.stream_summary.proofs.Counting.{all_bytes}
use Rattle.stream_summary.proofs.Noting.{reported, unvisited}
use Rattle.stream_summary.proofs.describing.describe.Goals as goal

pub returns-in_err-rest : goal.returns-in_err-rest
returns-in_err-rest g c =
    let (read, came, visited) = c.in_err-rest.ensures in
    let from = err_from_is_err_and c.from_residual.result c.from_residual.ensures.1 in
    rw (from.1, from.2) (
      read,
      [],
      came,
      Appends-nil _,
      unvisited c.args.options.now.version c.args.options.now.limit
          (λ (items : List Item). seen_by c.visit.new.visitor.summary ≡ seen_of c.args.options.now.version items)
          read _ _ visited,
    )

pub returns-in_err-push : goal.returns-in_err-push
returns-in_err-push g c =
    let (read, came, visited) = c.in_ok-rest.ensures in
    let from = err_from_is_err_and c.from_residual-in_err-push.result c.from_residual-in_err-push.ensures.1 in
    rw (from.1, from.2) (read, [], came, Appends-nil _, refl)

pub returns-in_err-write_whole : goal.returns-in_err-write_whole
returns-in_err-write_whole g c =
    let version = c.args.options.now.version in
    let (read, came, visited) = c.in_ok-rest.ensures in
    let (end, known) = visited in
    let (items, rest, split, within, seen, counted) = known in
    let text : c.as_slice.result.now ≡ description (seen_of version items) =
    c.as_slice.ensures.value ∙ c.in_ok-push.ensures
    ∙ ap (λ (l : List ℕ). l ++ description (seen_by c.visit.new.visitor.summary)) c.new-text.ensures.items
    ∙ ap description seen in
    let (cut, wrote, begins) = c.in_err-write_whole.ensures in
    let from = err_from_is_err_and c.from_residual-in_err-write_whole.result
    c.from_residual-in_err-write_whole.ensures.1 in
    rw (from.1, from.2) (read, cut, came, wrote, (end, (items, rest, split, within, subst (Begins cut) text begins)))

pub returns : goal.returns
returns g c =
    let version = c.args.options.now.version in
    let (read, came, visited) = c.in_ok-rest.ensures in
    let (end, known) = visited in
    let (items, rest, split, within, seen, counted) = known in
    let text : c.as_slice.result.now ≡ description (seen_of version items) =
    c.as_slice.ensures.value ∙ c.in_ok-push.ensures
    ∙ ap (λ (l : List ℕ). l ++ description (seen_by c.visit.new.visitor.summary)) c.new-text.ensures.items
    ∙ ap description seen in
    let (written, wrote, is) = c.in_ok-write_whole.ensures in (
      read,
      written,
      came,
      wrote,
      (
        end,
        (
          items,
          rest,
          split,
          within,
          is ∙ text,
          reported items rest
              c.visit.new.visitor.summary.all.bytes c.in_ok-rest.rest
              (all_bytes version items c.visit.new.visitor.summary seen) counted,
        ),
      ),
    )
