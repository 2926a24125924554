use Rattle.std.proofs.Common.{◌≡◌, ◌+◌, ◌<◌, [], ◌∷◌, string_bytes, take, drop, length, get_or, sym, ap, ◌∙◌, arith, rules}
use Rattle.std.specs.Vec.Iter.{into_iter_items}
use Rattle.std.specs.FinMap.{get, insert}
use Rattle.std.proofs.lemmas.List.{length-map, take-map}
use Rattle.path_trie.specs.Below.{with_entries}
use Rattle.path_trie.specs.Copies.{paired, texts_of, without_names}
use Rattle.path_trie.proofs.Added.{text_at, some_name, taken_back, others_kept, next_pair}
use Rattle.path_trie.proofs.Outcomes.{err_given, ok_given}
use Rattle.path_trie.proofs.trie.Trie.add_all.Goals as goal

pub add-requires : goal.add-requires
add-requires g c =
    let names = c.args.names.now in
    let k = c.loop-value.count in
    let n = c.as_str.result.now in
    let more : into_iter_items c.loop-value.value-iterator ≡ c.in-Some.value ∷ into_iter_items c.next.new.self = search rules in
    let within : k < length (texts_of names) = omega (arith, c.loop-value.invariant.as_many, ap length more) in
    let at : get_or (texts_of names) k [] ≡ n = text_at names k c.index-names-count.result (omega (arith, within, length-map names string_bytes)) ∙ ap string_bytes (sym c.index-names-count.is) ∙ sym c.as_str.ensures.value in
    some_name c.args.top.now (texts_of names) k n c.requires.all_there c.requires.top within at

pub returns-then-is_err-clause-err : goal.returns-then-is_err-clause-err
returns-then-is_err-clause-err g c =
    let names = c.args.names.now in
    let k = c.loop-value.count in
    c.take_all.ensures ∙ ap (λ ns. without_names ns c.add.new.self) (sym (take-map string_bytes k names))
    ∙ ap (without_names (take k (texts_of names))) (err_given c.add.result (c.add.new.self ≡ c.loop-value.self) (sym c.is_err.ensures.value ∙ c.if-is_err.true) c.add.ensures.err)
    ∙ taken_back c.args.self.now c.loop-value.self c.args.top.now (texts_of names) k c.requires.none_yet c.requires.all_there c.loop-value.invariant.others

pub loop-value-preserved : goal.loop-value-preserved
loop-value-preserved g c =
    let names = c.args.names.now in
    let texts = texts_of names in
    let k = c.loop-value.count in
    let self = c.loop-value.self in
    let n = c.as_str.result.now in
    let v = c.in-Some.value in
    let rest = into_iter_items c.next.new.self in
    let more : into_iter_items c.loop-value.value-iterator ≡ v ∷ rest = search rules in
    let within : k < length texts = omega (arith, c.loop-value.invariant.as_many, ap length more) in
    let at : get_or texts k [] ≡ n = text_at names k c.index-names-count.result (omega (arith, within, length-map names string_bytes)) ∙ ap string_bytes (sym c.index-names-count.is) ∙ sym c.as_str.ensures.value in
    let added : c.add.new.self ≡ insert self n v = ok_given c.add.result (c.add.new.self ≡ insert self n v) (sym c.is_err.ensures.value ∙ c.if-is_err.false) c.add.ensures.ok in
    record {
      rest_to_add = ap (λ m. with_entries m (paired (drop (k + 1) texts) rest)) added ∙ sym (ap (with_entries self) (next_pair texts k n v rest within at)) ∙ ap (λ xs. with_entries self (paired (drop k texts) xs)) (sym more) ∙ c.loop-value.invariant.rest_to_add;
      as_many = omega (arith, c.loop-value.invariant.as_many, ap length more);
      others = λ q none. ap (λ m. get m q) added ∙ others_kept c.args.self.now self texts k n v within at c.loop-value.invariant.others q none;
    }
