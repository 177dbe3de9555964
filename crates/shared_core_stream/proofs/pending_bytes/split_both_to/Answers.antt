use Rattle.std.proofs.Common.{◌≡◌, ◌∙◌, ◌++◌, ◌-◌, ap, sym, rules, length, min, drop}
use Rattle.bytes.proofs.Chunks.{drop-append_min}
use Rattle.shared_core_stream.proofs.pending_bytes.split_both_to.Goals as goal

pub returns-clause-rest : goal.returns-clause-rest
returns-clause-rest c =
    let shared = c.args.chunks.now in
    let gathered = c.args.block.now.items in
    let count = c.args.count in
    let taken : c.len-shared.result ≡ min count (length shared) = search rules in
    let front : c.advance.new.self ≡ drop (min count (length shared)) shared =
    c.advance.ensures.value ∙ ap (λ n. drop n shared) taken in
    let back : c.advance-2.new.self.items ≡ drop (count - min count (length shared)) gathered =
    c.advance-2.ensures.items ∙ ap (λ n. drop (count - n) gathered) taken in
    (λ i. front i ++ back i) ∙ sym (drop-append_min shared gathered count)
