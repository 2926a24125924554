use Rattle.std.proofs.Common.{◌≡◌, ◌≢◌, ◌<◌, ◌≤◌, ◌-◌, ◌++◌, suc, length, length-append, take, drop, Some, sym, ap, subst, ◌∙◌, arith}
use Rattle.label_tree.specs.Fronts.{first_byte}
use Rattle.label_tree.specs.Entries.{bytes_in, level, find_path, put_path, AllFrom, BeginsFrom, IsNode, IsPlaced}
use Rattle.label_tree.specs.Falls.{below_falls, next_falls}
use Rattle.label_tree.proofs.FirstNode.{blank, filled}
use Rattle.label_tree.specs.Nodes.{says}
use Rattle.label_tree.proofs.Levels.{all_put, put_at, put_below, put_next, find_below, find_next}
use Rattle.label_tree.proofs.Changed.{below_is, next_new, emptied}
use Rattle.label_tree.proofs.Joins.{with_next}
use Rattle.label_tree.proofs.Parted.{begins_first, cut_shorter, find_over, put_over}
use Rattle.label_tree.specs.Siblings.{AllBelow}
use Rattle.label_tree.proofs.LabelCuts.{begins_above, begins_some, later_apart, rest_all}
use Rattle.label_tree.proofs.LabelOutcomes.{on_ok, on_err, either_way}
use Rattle.label_tree.proofs.insert.+insert.Goals as goal

pub insert-done-requires : goal.insert-done-requires
insert-done-requires g t c κs within =
    let n = c.in-More.node.value in
    (omega (arith, c.decreases, next_falls n.label n.value n.below n.next c.in-More.ensures.order, ap bytes_in (c.in-More.ensures.says ∙ c.replace.ensures.value), ap (λ m. bytes_in m.next) c.deref_mut.ensures.value), (within.0, (within.1, c.requires)))

pub close-requires-in-After : goal.close-requires-in-After
close-requires-in-After g t c =
    let n = c.in-More.node.value in
    let p = c.args.path.now in
    let v = c.args.value in
    let h = c.in-More.ensures.order in
    let after : first_byte n.label < first_byte p = subst (λ xs. first_byte xs < first_byte p) (c.as_slice-label.ensures.value ∙ ap (λ m. m.label) c.deref.ensures) c.in-After.ensures in
    let d = c.deref_mut.result.now in
    let same = c.deref_mut.ensures.value in
    either_way (λ xs. IsNode d.label d.value d.below xs) c.insert-done.result c.insert-done.new.tree (put_path p v d.next) d.next c.insert-done.ensures.ok c.insert-done.ensures.err
    (next_new IsNode d n (put_path p v d.next) (put_path p v n.next) same (ap (λ m. put_path p v m.next) same) (with_next n.label n.value n.below n.next (put_path p v n.next) h (all_put (suc (first_byte n.label)) p v n.next (begins_above (first_byte n.label) p after) h.placed.rising)))
    (next_new IsNode d n d.next n.next same (ap (λ m. m.next) same) h)

pub returns-in-After-clause-ok : goal.returns-in-After-clause-ok
returns-in-After-clause-ok g t c =
    let n = c.in-More.node.value in
    let p = c.args.path.now in
    let v = c.args.value in
    let h = c.in-More.ensures.order in
    let is = c.in-More.ensures.says ∙ c.replace.ensures.value in
    let after : first_byte n.label < first_byte p = subst (λ xs. first_byte xs < first_byte p) (c.as_slice-label.ensures.value ∙ ap (λ m. m.label) c.deref.ensures) c.in-After.ensures in
    let d = c.deref_mut.result.now in
    let same = c.deref_mut.ensures.value in
    on_ok c.insert-done.result (λ e.
    c.close-in-After.ensures
    ∙ next_new (λ f w b x. level f w b x ≡ put_path p v c.args.tree.now) d n c.insert-done.new.tree (put_path p v n.next) same (e ∙ ap (λ m. put_path p v m.next) same)
    (sym (put_next n.label p v n.value n.below n.next h.placed (begins_above (first_byte n.label) p after)) ∙ ap (put_path p v) is))
    c.insert-done.ensures.ok

pub returns-in-After-clause-absent : goal.returns-in-After-clause-absent
returns-in-After-clause-absent g t c =
    let n = c.in-More.node.value in
    let p = c.args.path.now in
    let v = c.args.value in
    let h = c.in-More.ensures.order in
    let is = c.in-More.ensures.says ∙ c.replace.ensures.value in
    let after : first_byte n.label < first_byte p = subst (λ xs. first_byte xs < first_byte p) (c.as_slice-label.ensures.value ∙ ap (λ m. m.label) c.deref.ensures) c.in-After.ensures in
    let d = c.deref_mut.result.now in
    let same = c.deref_mut.ensures.value in
    on_err c.insert-done.result (λ e.
    sym (ap (find_path p) is) ∙ find_next p n.label n.value n.below n.next (later_apart n.label p h.placed.labelled after)
    ∙ sym (ap (λ m. find_path p m.next) same) ∙ e)
    c.insert-done.ensures.absent

pub returns-then-behind-path-clause-ok : goal.returns-then-behind-path-clause-ok
returns-then-behind-path-clause-ok g t c =
    let n = c.in-More.node.value in
    let p = c.args.path.now in
    let v = c.args.value in
    let h = c.in-More.ensures.order in
    let is = c.in-More.ensures.says ∙ c.replace.ensures.value in
    let l = c.as_slice-label.result.now in
    let q = drop (length l) p in
    let cut : p ≡ n.label ++ q = c.in-Through.ensures ∙ ap (λ xs. xs ++ q) (c.as_slice-label.ensures.value ∙ ap (λ m. m.label) c.deref.ensures) in
    let none : length q ≡ 0 = omega (arith, ap length c.in-Through.ensures, length-append l q, c.if-behind-path.true) in
    c.close-then-behind-path.ensures ∙ ap says c.set_value.ensures
    ∙ ap (λ m. level m.label (Some v) m.below m.next) c.deref_mut-then-behind-path.ensures.value
    ∙ sym (put_at p n.label q v n.value n.below n.next h.placed cut (blank q none)) ∙ ap (put_path p v) is

pub first_byte-byte-requires : goal.first_byte-byte-requires
first_byte-byte-requires g t c =
    let n = c.in-More.node.value in
    let p = c.args.path.now in
    let v = c.args.value in
    let h = c.in-More.ensures.order in
    let l = c.as_slice-label.result.now in
    let q = drop (length l) p in
    let s = take (length p - length l) q in
    let some : 1 ≤ length q = omega (arith, ap length c.in-Through.ensures, length-append l q, c.if-behind-path.false) in
    subst (λ xs. 1 ≤ length xs) (sym (rest_all (length l) p)) some

pub insert-done-requires-2 : goal.insert-done-requires-2
insert-done-requires-2 g t c κs within =
    let n = c.in-More.node.value in
    let p = c.args.path.now in
    let v = c.args.value in
    let h = c.in-More.ensures.order in
    let l = c.as_slice-label.result.now in
    let q = drop (length l) p in
    let s = take (length p - length l) q in
    let some : 1 ≤ length q = omega (arith, ap length c.in-Through.ensures, length-append l q, c.if-behind-path.false) in
    let begins : BeginsFrom 0 s = subst (BeginsFrom 0) (sym (rest_all (length l) p)) (begins_some q some) in
    let kept = c.cut_before-later.new.tree in
    let later = c.cut_before-later.result in
    let parts : n.below ≡ kept ++ later = sym (c.replace-below.ensures.value ∙ ap (λ m. m.below) c.deref_mut-2.ensures.value) ∙ c.cut_before-later.ensures.both in
    let is = c.in-More.ensures.says ∙ c.replace.ensures.value in
    (omega (arith, c.decreases, below_falls n.label n.value n.below n.next h, ap bytes_in is, ap bytes_in parts, cut_shorter kept later), (within.0, (within.1, begins)))

pub append-requires : goal.append-requires
append-requires g t c =
    let n = c.in-More.node.value in
    let p = c.args.path.now in
    let v = c.args.value in
    let h = c.in-More.ensures.order in
    let l = c.as_slice-label.result.now in
    let q = drop (length l) p in
    let s = take (length p - length l) q in
    let some : 1 ≤ length q = omega (arith, ap length c.in-Through.ensures, length-append l q, c.if-behind-path.false) in
    let begins : BeginsFrom 0 s = subst (BeginsFrom 0) (sym (rest_all (length l) p)) (begins_some q some) in
    let kept = c.cut_before-later.new.tree in
    let later = c.cut_before-later.result in
    let parts : n.below ≡ kept ++ later = sym (c.replace-below.ensures.value ∙ ap (λ m. m.below) c.deref_mut-2.ensures.value) ∙ c.cut_before-later.ensures.both in
    let byte = c.first_byte-byte.result in
    let from = c.cut_before-later.ensures.from in
    record {
      before = c.cut_before-later.ensures.before;
      from = either_way (AllFrom byte) c.insert-done-2.result c.insert-done-2.new.tree (put_path s v later) later c.insert-done-2.ensures.ok c.insert-done-2.ensures.err
          (all_put byte s v later (subst (λ k. BeginsFrom k s) (sym c.first_byte-byte.ensures) (begins_first s begins)) from)
          from;
    }

pub tidied-requires : goal.tidied-requires
tidied-requires g t c =
    let n = c.in-More.node.value in
    let p = c.args.path.now in
    let v = c.args.value in
    let h = c.in-More.ensures.order in
    let l = c.as_slice-label.result.now in
    let q = drop (length l) p in
    let s = take (length p - length l) q in
    let some : 1 ≤ length q = omega (arith, ap length c.in-Through.ensures, length-append l q, c.if-behind-path.false) in
    let begins : BeginsFrom 0 s = subst (BeginsFrom 0) (sym (rest_all (length l) p)) (begins_some q some) in
    let kept = c.cut_before-later.new.tree in
    let later = c.cut_before-later.result in
    let parts : n.below ≡ kept ++ later = sym (c.replace-below.ensures.value ∙ ap (λ m. m.below) c.deref_mut-2.ensures.value) ∙ c.cut_before-later.ensures.both in
    let lower : AllBelow (first_byte s) kept = subst (λ k. AllBelow k kept) c.first_byte-byte.ensures c.cut_before-later.ensures.before in
    let d = c.deref_mut-2.result.now in
    let old : c.deref_mut-3.result.now ≡ emptied n =
    c.deref_mut-3.ensures.value ∙ ap (λ xs. record { label = d.label; value = d.value; below = xs; next = d.next }) (c.replace-below.ensures.after ∙ c.new-2.ensures) ∙ ap emptied c.deref_mut-2.ensures.value in
    let both : AllFrom 0 (kept ++ later) = subst (AllFrom 0) parts h.placed.below_filled in
    let new = c.insert-done-2.new.tree in
    let filled : AllFrom 0 (kept ++ new) = either_way (λ xs. AllFrom 0 (kept ++ xs)) c.insert-done-2.result new (put_path s v later) later c.insert-done-2.ensures.ok c.insert-done-2.ensures.err (subst (AllFrom 0) (put_over s v kept later lower) (all_put 0 s v (kept ++ later) begins both)) both in
    below_is (λ f w b x. IsPlaced f b x) c.set_below.new.self c.deref_mut-3.result.now (emptied n) c.append.new.tree (kept ++ new) c.set_below.ensures old c.append.ensures
    (record { labelled = h.placed.labelled; below_filled = filled; rising = h.placed.rising })

pub returns-clause-ok : goal.returns-clause-ok
returns-clause-ok g t c =
    let n = c.in-More.node.value in
    let p = c.args.path.now in
    let v = c.args.value in
    let h = c.in-More.ensures.order in
    let l = c.as_slice-label.result.now in
    let q = drop (length l) p in
    let s = take (length p - length l) q in
    let some : 1 ≤ length q = omega (arith, ap length c.in-Through.ensures, length-append l q, c.if-behind-path.false) in
    let kept = c.cut_before-later.new.tree in
    let later = c.cut_before-later.result in
    let parts : n.below ≡ kept ++ later = sym (c.replace-below.ensures.value ∙ ap (λ m. m.below) c.deref_mut-2.ensures.value) ∙ c.cut_before-later.ensures.both in
    let lower : AllBelow (first_byte s) kept = subst (λ k. AllBelow k kept) c.first_byte-byte.ensures c.cut_before-later.ensures.before in
    let d = c.deref_mut-2.result.now in
    let old : c.deref_mut-3.result.now ≡ emptied n =
    c.deref_mut-3.ensures.value ∙ ap (λ xs. record { label = d.label; value = d.value; below = xs; next = d.next }) (c.replace-below.ensures.after ∙ c.new-2.ensures) ∙ ap emptied c.deref_mut-2.ensures.value in
    let is = c.in-More.ensures.says ∙ c.replace.ensures.value in
    let cut : p ≡ n.label ++ q = c.in-Through.ensures ∙ ap (λ xs. xs ++ q) (c.as_slice-label.ensures.value ∙ ap (λ m. m.label) c.deref.ensures) in
    let more : length q ≢ 0 = λ e. absurd (omega (arith, some, e)) in
    on_ok c.insert-done-2.result (λ e.
    c.tidied.ensures
    ∙ below_is (λ f w b x. level f w b x ≡ put_path p v c.args.tree.now) c.set_below.new.self c.deref_mut-3.result.now (emptied n) c.append.new.tree (put_path q v n.below) c.set_below.ensures old
    (c.append.ensures ∙ ap (λ xs. kept ++ xs) e ∙ sym (put_over s v kept later lower) ∙ ap (put_path s v) (sym parts) ∙ ap (λ y. put_path y v n.below) (rest_all (length l) p))
    (sym (put_below p n.label q v n.value n.below n.next h.placed cut (filled q more)) ∙ ap (put_path p v) is))
    c.insert-done-2.ensures.ok

pub returns-clause-err : goal.returns-clause-err
returns-clause-err g t c =
    let n = c.in-More.node.value in
    let p = c.args.path.now in
    let v = c.args.value in
    let h = c.in-More.ensures.order in
    let l = c.as_slice-label.result.now in
    let q = drop (length l) p in
    let s = take (length p - length l) q in
    let kept = c.cut_before-later.new.tree in
    let later = c.cut_before-later.result in
    let parts : n.below ≡ kept ++ later = sym (c.replace-below.ensures.value ∙ ap (λ m. m.below) c.deref_mut-2.ensures.value) ∙ c.cut_before-later.ensures.both in
    let d = c.deref_mut-2.result.now in
    let old : c.deref_mut-3.result.now ≡ emptied n =
    c.deref_mut-3.ensures.value ∙ ap (λ xs. record { label = d.label; value = d.value; below = xs; next = d.next }) (c.replace-below.ensures.after ∙ c.new-2.ensures) ∙ ap emptied c.deref_mut-2.ensures.value in
    let is = c.in-More.ensures.says ∙ c.replace.ensures.value in
    on_err c.insert-done-2.result (λ e.
    c.tidied.ensures
    ∙ below_is (λ f w b x. level f w b x ≡ c.args.tree.now) c.set_below.new.self c.deref_mut-3.result.now (emptied n) c.append.new.tree n.below c.set_below.ensures old
    (c.append.ensures ∙ ap (λ xs. kept ++ xs) e ∙ sym parts)
    is)
    c.insert-done-2.ensures.err

pub returns-clause-absent : goal.returns-clause-absent
returns-clause-absent g t c =
    let n = c.in-More.node.value in
    let p = c.args.path.now in
    let v = c.args.value in
    let h = c.in-More.ensures.order in
    let l = c.as_slice-label.result.now in
    let q = drop (length l) p in
    let s = take (length p - length l) q in
    let some : 1 ≤ length q = omega (arith, ap length c.in-Through.ensures, length-append l q, c.if-behind-path.false) in
    let kept = c.cut_before-later.new.tree in
    let later = c.cut_before-later.result in
    let parts : n.below ≡ kept ++ later = sym (c.replace-below.ensures.value ∙ ap (λ m. m.below) c.deref_mut-2.ensures.value) ∙ c.cut_before-later.ensures.both in
    let lower : AllBelow (first_byte s) kept = subst (λ k. AllBelow k kept) c.first_byte-byte.ensures c.cut_before-later.ensures.before in
    let is = c.in-More.ensures.says ∙ c.replace.ensures.value in
    let cut : p ≡ n.label ++ q = c.in-Through.ensures ∙ ap (λ xs. xs ++ q) (c.as_slice-label.ensures.value ∙ ap (λ m. m.label) c.deref.ensures) in
    let more : length q ≢ 0 = λ e. absurd (omega (arith, some, e)) in
    on_err c.insert-done-2.result (λ e.
    sym (ap (find_path p) is) ∙ find_below p n.label q n.value n.below n.next h.placed cut (filled q more)
    ∙ ap (λ y. find_path y n.below) (sym (rest_all (length l) p)) ∙ ap (find_path s) parts ∙ find_over s kept later lower ∙ e)
    c.insert-done-2.ensures.absent
