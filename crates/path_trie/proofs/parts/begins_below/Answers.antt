use Rattle.std.proofs.Common.{◌-◌, ◌&&◌, nat_eq, length, drop, sym, ap, ◌∙◌, arith}
use Rattle.std.proofs.lemmas.List.{take_all, length-drop}
use Rattle.std.specs.Str.{bytes_eq}
use Rattle.std.specs.List.{starts_with}
use Rattle.gfs_types.specs.Paths.{root}
use Rattle.path_trie.proofs.Cuts.{begins_front}
use Rattle.path_trie.proofs.parts.begins_below.Goals as goal

pub returns-then-starts_with : goal.returns-then-starts_with
returns-then-starts_with c =
    let d = c.args.directory.now in
    let p = c.args.path.now in
    let f = begins_front d p (ap (bytes_eq d) (sym c.as_slice.ensures) ∙ sym c.eq.ensures ∙ c.if-eq.false) in
    c.starts_with-then-starts_with.ensures.value ∙ ap (λ xs. starts_with nat_eq xs root) (take_all (length p - length d) (drop (length d) p) (omega (arith, length-drop (length d) p)))
    ∙ sym (f ∙ ap (λ b. b && starts_with nat_eq (drop (length d) p) root) (sym c.starts_with-2.ensures.value ∙ c.if-starts_with.true))

pub returns-else-starts_with : goal.returns-else-starts_with
returns-else-starts_with c =
    let d = c.args.directory.now in
    let p = c.args.path.now in
    let f = begins_front d p (ap (bytes_eq d) (sym c.as_slice.ensures) ∙ sym c.eq.ensures ∙ c.if-eq.false) in c.if-starts_with.false ∙ sym (f ∙ ap (λ b. b && starts_with nat_eq (drop (length d) p) root) (sym c.starts_with-2.ensures.value ∙ c.if-starts_with.false))
