use Rattle.std.proofs.Common.{ℕ, List, ◌++◌, ap, ◌∙◌, map-id}
use Rattle.std.proofs.lemmas.Iterator.{YieldsList-from_chars}
use Rattle.std.proofs.lemmas.Iterator.Consumers.{YieldsList-end}
use Rattle.std.proofs.lemmas.List.{flat_map_more}
use Rattle.std.specs.Prelude.{flat_map, string_bytes}
use Rattle.terminal_text.specs.Texts.{written_char}
use Rattle.terminal_text.proofs.texts.push_escaped.Goals as goal

pub loop-c-preserved : goal.loop-c-preserved
loop-c-preserved c =
    let e = flat_map_more (written_char c.args.escapes) (string_bytes c.args.escaped.now) c.loop-c.yielded c.in-Some.c
    in
    c.in_ok-push_char.ensures ∙ ap (λ (xs : List ℕ). xs ++ written_char c.args.escapes c.in-Some.c) c.loop-c.invariant ∙
    e

pub returns : goal.returns
returns c =
    let t = YieldsList-end (YieldsList-from_chars c.args.text.now c.utf8.text cc) c.loop-c.yielded _ c.loop-c.yielded_by
    _ _ c.in-None.is c.next.ensures.steps in
    c.loop-c.invariant ∙ ap (λ (cs : List ℕ). string_bytes c.args.escaped.now ++ flat_map (written_char c.args.escapes)
    cs) (rw map-id at t.0)
