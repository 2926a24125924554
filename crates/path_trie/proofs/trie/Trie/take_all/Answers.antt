use Rattle.std.proofs.Common.{◌≡◌, ◌+◌, ◌<◌, [], string_bytes, drop, length, get_or, sym, ap, ◌∙◌, arith}
use Rattle.std.proofs.lemmas.List.{length-map}
use Rattle.path_trie.specs.Copies.{texts_of, without_names}
use Rattle.path_trie.proofs.Added.{text_at, next_taken}
use Rattle.path_trie.proofs.trie.Trie.take_all.Goals as goal

pub loop-name-preserved : goal.loop-name-preserved
loop-name-preserved g c =
    let names = c.args.names.now in
    let k = c.loop-name.name-index in
    let n = c.as_str.result.now in
    let within : k < length names = omega (arith, c.loop-name-test.true, c.loop-name.auto.name-index-end) in
    let at : get_or (texts_of names) k [] ≡ n = text_at names k c.name-item.result within ∙ ap string_bytes (sym c.name-item.is) ∙ sym c.as_str.ensures.value in
    ap (without_names (drop (k + 1) (texts_of names))) c.take-taken.ensures.rest
    ∙ sym (next_taken (texts_of names) k n c.loop-name.self (omega (arith, within, length-map names string_bytes)) at)
    ∙ c.loop-name.invariant
