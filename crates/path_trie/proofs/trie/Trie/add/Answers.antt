use Rattle.std.proofs.Common.{◌≡◌, true, sym, ap, subst, ◌∙◌, ◌+◌, is_some}
use Rattle.std.specs.FinMap as map
use Rattle.std.specs.Str.{is_utf8}
use Rattle.std.proofs.lemmas.Str.{is_utf8-from_IsUtf8}
use Rattle.label_tree.specs.Entries.{put_path}
use Rattle.path_trie.specs.Counts.{IsCounted}
use Rattle.path_trie.proofs.Maps.{names_of, inserted, counted_put, found, copied_is_some, copied_none}
use Rattle.path_trie.proofs.trie.Trie.add.Goals as goal

pub returns-then-self-clause-absent : goal.returns-then-self-clause-absent
returns-then-self-clause-absent g c =
    sym (found c.self.inside.names c.as_bytes-bytes.result.now c.args.name.now c.args.self.now c.self.view_is c.as_bytes-bytes.ensures.value)
    ∙ sym c.get.ensures ∙ copied_none c.get.result c.if-is_new.ensures

pub invariant_of-self : goal.invariant_of-self
invariant_of-self g c =
    let es = c.self.inside.names in
    let bytes = c.as_bytes-bytes.result.now in
    let new = put_path bytes c.args.value es in
    let text : is_utf8 bytes ≡ true = ap is_utf8 c.as_bytes-bytes.ensures.value ∙ is_utf8-from_IsUtf8 c.args.name.now c.utf8.name in
    let first = counted_put bytes c.args.value es c.self.inside.count c.is_none-is_new.result text c.self.invariant (ap is_some (sym c.get.ensures) ∙ copied_is_some c.get.result ∙ c.is_none-is_new.ensures) in
    subst (λ t. IsCounted t (c.self.inside.count + c.from.result)) (sym c.in-Ok.ensures.ok) (subst (λ n. IsCounted new (c.self.inside.count + n)) (sym c.from.ensures) first)

pub returns-in-Ok-clause-ok : goal.returns-in-Ok-clause-ok
returns-in-Ok-clause-ok g c =
    ap names_of c.in-Ok.ensures.ok ∙ inserted c.as_bytes-bytes.result.now c.args.value c.self.inside.names ∙ (λ i. map.insert (c.self.view_is i) (c.as_bytes-bytes.ensures.value i) c.args.value)

pub returns-in-Err-clause-absent : goal.returns-in-Err-clause-absent
returns-in-Err-clause-absent g c =
    sym (found c.self.inside.names c.as_bytes-bytes.result.now c.args.name.now c.args.self.now c.self.view_is c.as_bytes-bytes.ensures.value)
    ∙ c.in-Err.ensures.absent
