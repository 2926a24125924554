use Rattle.std.proofs.Common.{◌≡◌, ℕ, true, List, [], ◌∷◌, ◌++◌, ◌∙◌, sym, ap, subst, rules}
use Rattle.embedded_cell.specs.Records.{id_of, is_record}
use Rattle.embedded_cell.proofs.Records.{is_made, made_bytes, made_of}
use Rattle.embedded_cell.proofs.record.encode.Goals as goal

pub returns-clause-is : goal.returns-clause-is
returns-clause-is c =
    let bytes = made_bytes c.args.id c.push.new.self.items c.put.new.bytes.items c.seal.new.bytes.items
    (c.in_ok-push.ensures.items ∙ ap (λ (l : List ℕ). l ++ 245 ∷ []) c.new-bytes.ensures.items)
    (c.in_ok-put.ensures ∙ ap (λ (l : List ℕ). c.push.new.self.items ++ l) c.to_be_bytes.ensures) c.in_ok-seal.ensures in
    subst (λ (l : List ℕ). is_record l ≡ true) (sym bytes) (is_made c.args.id)

pub returns-clause-id : goal.returns-clause-id
returns-clause-id c =
    let bytes = made_bytes c.args.id c.push.new.self.items c.put.new.bytes.items c.seal.new.bytes.items
    (c.in_ok-push.ensures.items ∙ ap (λ (l : List ℕ). l ++ 245 ∷ []) c.new-bytes.ensures.items)
    (c.in_ok-put.ensures ∙ ap (λ (l : List ℕ). c.push.new.self.items ++ l) c.to_be_bytes.ensures) c.in_ok-seal.ensures in
    ap id_of bytes ∙ made_of c.args.id (search rules)
