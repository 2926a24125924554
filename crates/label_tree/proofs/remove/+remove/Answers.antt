use Rattle.std.proofs.Common.{◌≡◌, ◌≢◌, ℕ, suc, List, None, ◌++◌, length, MatchOption, ◌∙◌, sym, ap, subst, arith}
use Rattle.std.proofs.lemmas.Grind.{common_steps}
use Rattle.label_tree.specs.Fronts.{first_byte}
use Rattle.label_tree.specs.Entries.{bytes_in, level, AllFrom, find_path, without_path, IsNode, IsPlaced}
use Rattle.label_tree.specs.Falls.{below_falls, next_falls}
use Rattle.label_tree.proofs.FirstNode.{blank, filled}
use Rattle.label_tree.proofs.Levels.{find_at, find_below, find_next}
use Rattle.label_tree.proofs.Changed.{below_is, next_new, emptied}
use Rattle.label_tree.proofs.Joins.{with_next}
use Rattle.label_tree.proofs.Parted.{cut_shorter, find_over, without_over}
use Rattle.label_tree.specs.Siblings.{AllBelow}
use Rattle.label_tree.proofs.Removals.{all_without, without_at, without_below, without_next}
use Rattle.label_tree.proofs.remove.+remove.Goals as goal

pub remove-taken-requires : goal.remove-taken-requires
remove-taken-requires g t c κs within =
    let n = c.in-More.node.value in
    (omega (arith, c.decreases, next_falls n.label n.value n.below n.next c.in-More.ensures.order, ap bytes_in (c.in-More.ensures.says ∙ c.replace.ensures.value), ap (λ m. bytes_in m.next) c.deref_mut.ensures.value), within)

pub close-requires : goal.close-requires
close-requires g t c =
    let n = c.in-More.node.value in
    let h = c.in-More.ensures.order in
    let p = c.args.path.now in
    next_new IsNode c.deref_mut.result.now n c.remove-taken.new.tree (without_path p n.next) c.deref_mut.ensures.value (c.remove-taken.ensures.rest ∙ ap (λ m. without_path p m.next) c.deref_mut.ensures.value)
    (with_next n.label n.value n.below n.next (without_path p n.next) h (all_without (suc (first_byte n.label)) p n.next h.placed.rising))

pub returns-in_default-rest_behind-clause-value : goal.returns-in_default-rest_behind-clause-value
returns-in_default-rest_behind-clause-value g t c =
    let n = c.in-More.node.value in
    let p = c.args.path.now in
    let l = c.as_slice.result.now in
    let is = c.in-More.ensures.says ∙ c.replace.ensures.value in
    let apart : (rest : List ℕ) → p ≢ l ++ rest = subst (λ r. MatchOption r ((rest : List ℕ) → p ≢ l ++ rest) (λ x. p ≡ l ++ x.now)) c.in_default-rest_behind.is c.rest_behind.ensures in
    let past : (rest : List ℕ) → p ≢ n.label ++ rest = λ rest e. apart rest (e ∙ ap (λ xs. xs ++ rest) (sym (c.as_slice.ensures.value ∙ ap (λ m. m.label) c.deref.ensures))) in
    c.remove-taken.ensures.value ∙ ap (λ m. find_path p m.next) c.deref_mut.ensures.value
    ∙ sym (find_next p n.label n.value n.below n.next past) ∙ ap (find_path p) is

pub returns-in_default-rest_behind-clause-rest : goal.returns-in_default-rest_behind-clause-rest
returns-in_default-rest_behind-clause-rest g t c =
    let n = c.in-More.node.value in
    let p = c.args.path.now in
    let l = c.as_slice.result.now in
    let is = c.in-More.ensures.says ∙ c.replace.ensures.value in
    let apart : (rest : List ℕ) → p ≢ l ++ rest = subst (λ r. MatchOption r ((rest : List ℕ) → p ≢ l ++ rest) (λ x. p ≡ l ++ x.now)) c.in_default-rest_behind.is c.rest_behind.ensures in
    let past : (rest : List ℕ) → p ≢ n.label ++ rest = λ rest e. apart rest (e ∙ ap (λ xs. xs ++ rest) (sym (c.as_slice.ensures.value ∙ ap (λ m. m.label) c.deref.ensures))) in
    c.close.ensures
    ∙ next_new (λ f v b x. level f v b x ≡ without_path p c.args.tree.now) c.deref_mut.result.now n c.remove-taken.new.tree (without_path p n.next) c.deref_mut.ensures.value (c.remove-taken.ensures.rest ∙ ap (λ m. without_path p m.next) c.deref_mut.ensures.value)
    (sym (without_next p n.label n.value n.below n.next past) ∙ ap (without_path p) is)

pub returns-then-is_empty-clause-value : goal.returns-then-is_empty-clause-value
returns-then-is_empty-clause-value g t c =
    let n = c.in-More.node.value in
    let h = c.in-More.ensures.order in
    let p = c.args.path.now in
    let l = c.as_slice.result.now in
    let r = c.in-Some.rest.now in
    let is = c.in-More.ensures.says ∙ c.replace.ensures.value in
    let cut : p ≡ n.label ++ r = subst (λ r. MatchOption r ((rest : List ℕ) → p ≢ l ++ rest) (λ x. p ≡ l ++ x.now)) c.in-Some.is c.rest_behind.ensures ∙ ap (λ xs. xs ++ r) (c.as_slice.ensures.value ∙ ap (λ m. m.label) c.deref.ensures) in
    let none : length r ≡ 0 = grind (arith, common_steps, c.is_empty.ensures, c.if-is_empty.true) in
    c.take-taken.ensures.value ∙ ap (λ m. m.value) c.deref_mut-then-is_empty.ensures.value
    ∙ sym (find_at p n.label r n.value n.below n.next h.placed cut (blank r none)) ∙ ap (find_path p) is

pub returns-then-is_empty-clause-rest : goal.returns-then-is_empty-clause-rest
returns-then-is_empty-clause-rest g t c =
    let n = c.in-More.node.value in
    let h = c.in-More.ensures.order in
    let p = c.args.path.now in
    let l = c.as_slice.result.now in
    let r = c.in-Some.rest.now in
    let is = c.in-More.ensures.says ∙ c.replace.ensures.value in
    let cut : p ≡ n.label ++ r = subst (λ r. MatchOption r ((rest : List ℕ) → p ≢ l ++ rest) (λ x. p ≡ l ++ x.now)) c.in-Some.is c.rest_behind.ensures ∙ ap (λ xs. xs ++ r) (c.as_slice.ensures.value ∙ ap (λ m. m.label) c.deref.ensures) in
    let none : length r ≡ 0 = grind (arith, common_steps, c.is_empty.ensures, c.if-is_empty.true) in
    let d = c.deref_mut-then-is_empty.result.now in
    c.tidied.ensures ∙ ap (λ v. level d.label v d.below d.next) c.take-taken.ensures.after
    ∙ ap (λ m. level m.label None m.below m.next) c.deref_mut-then-is_empty.ensures.value
    ∙ sym (without_at p n.label r n.value n.below n.next h.placed cut (blank r none)) ∙ ap (without_path p) is

pub first_byte-byte-requires : goal.first_byte-byte-requires
first_byte-byte-requires g t c = grind (arith, common_steps, c.is_empty.ensures, c.if-is_empty.false)

pub remove-taken-requires-2 : goal.remove-taken-requires-2
remove-taken-requires-2 g t c κs within =
    let n = c.in-More.node.value in
    let h = c.in-More.ensures.order in
    let r = c.in-Some.rest.now in
    let kept = c.cut_before-later.new.tree in
    let later = c.cut_before-later.result in
    let parts : n.below ≡ kept ++ later = sym (c.replace-below.ensures.value ∙ ap (λ m. m.below) c.deref_mut-2.ensures.value) ∙ c.cut_before-later.ensures.both in
    let lower : AllBelow (first_byte r) kept = subst (λ k. AllBelow k kept) c.first_byte-byte.ensures c.cut_before-later.ensures.before in
    let is = c.in-More.ensures.says ∙ c.replace.ensures.value in
    (omega (arith, c.decreases, below_falls n.label n.value n.below n.next h, ap bytes_in is, ap bytes_in parts, cut_shorter kept later), within)

pub append-requires : goal.append-requires
append-requires g t c =
    let n = c.in-More.node.value in
    let h = c.in-More.ensures.order in
    let r = c.in-Some.rest.now in
    let kept = c.cut_before-later.new.tree in
    let later = c.cut_before-later.result in
    let parts : n.below ≡ kept ++ later = sym (c.replace-below.ensures.value ∙ ap (λ m. m.below) c.deref_mut-2.ensures.value) ∙ c.cut_before-later.ensures.both in
    let lower : AllBelow (first_byte r) kept = subst (λ k. AllBelow k kept) c.first_byte-byte.ensures c.cut_before-later.ensures.before in
    record {
      before = c.cut_before-later.ensures.before;
      from = subst (AllFrom c.first_byte-byte.result) (sym c.remove-taken-2.ensures.rest) (all_without c.first_byte-byte.result r later c.cut_before-later.ensures.from);
    }

pub tidied-requires-2 : goal.tidied-requires-2
tidied-requires-2 g t c =
    let n = c.in-More.node.value in
    let h = c.in-More.ensures.order in
    let r = c.in-Some.rest.now in
    let kept = c.cut_before-later.new.tree in
    let later = c.cut_before-later.result in
    let parts : n.below ≡ kept ++ later = sym (c.replace-below.ensures.value ∙ ap (λ m. m.below) c.deref_mut-2.ensures.value) ∙ c.cut_before-later.ensures.both in
    let lower : AllBelow (first_byte r) kept = subst (λ k. AllBelow k kept) c.first_byte-byte.ensures c.cut_before-later.ensures.before in
    let d = c.deref_mut-2.result.now in
    let old : c.deref_mut-3.result.now ≡ emptied n =
    c.deref_mut-3.ensures.value ∙ ap (λ xs. record { label = d.label; value = d.value; below = xs; next = d.next }) (c.replace-below.ensures.after ∙ c.new-2.ensures) ∙ ap emptied c.deref_mut-2.ensures.value in
    let below : c.append.new.tree ≡ without_path r n.below = c.append.ensures ∙ ap (λ xs. kept ++ xs) c.remove-taken-2.ensures.rest ∙ sym (without_over r kept later lower) ∙ ap (without_path r) (sym parts) in
    below_is (λ f v b x. IsPlaced f b x) c.set_below.new.self c.deref_mut-3.result.now (emptied n) c.append.new.tree (without_path r n.below) c.set_below.ensures old below
    (record { labelled = h.placed.labelled; below_filled = all_without 0 r n.below h.placed.below_filled; rising = h.placed.rising })

pub returns-clause-value : goal.returns-clause-value
returns-clause-value g t c =
    let n = c.in-More.node.value in
    let h = c.in-More.ensures.order in
    let r = c.in-Some.rest.now in
    let kept = c.cut_before-later.new.tree in
    let later = c.cut_before-later.result in
    let parts : n.below ≡ kept ++ later = sym (c.replace-below.ensures.value ∙ ap (λ m. m.below) c.deref_mut-2.ensures.value) ∙ c.cut_before-later.ensures.both in
    let lower : AllBelow (first_byte r) kept = subst (λ k. AllBelow k kept) c.first_byte-byte.ensures c.cut_before-later.ensures.before in
    let p = c.args.path.now in
    let l = c.as_slice.result.now in
    let is = c.in-More.ensures.says ∙ c.replace.ensures.value in
    let cut : p ≡ n.label ++ r = subst (λ r. MatchOption r ((rest : List ℕ) → p ≢ l ++ rest) (λ x. p ≡ l ++ x.now)) c.in-Some.is c.rest_behind.ensures ∙ ap (λ xs. xs ++ r) (c.as_slice.ensures.value ∙ ap (λ m. m.label) c.deref.ensures) in
    let some : length r ≢ 0 = grind (arith, common_steps, c.is_empty.ensures, c.if-is_empty.false) in
    c.remove-taken-2.ensures.value ∙ sym (find_over r kept later lower) ∙ ap (find_path r) (sym parts)
    ∙ sym (find_below p n.label r n.value n.below n.next h.placed cut (filled r some)) ∙ ap (find_path p) is

pub returns-clause-rest : goal.returns-clause-rest
returns-clause-rest g t c =
    let n = c.in-More.node.value in
    let h = c.in-More.ensures.order in
    let r = c.in-Some.rest.now in
    let kept = c.cut_before-later.new.tree in
    let later = c.cut_before-later.result in
    let parts : n.below ≡ kept ++ later = sym (c.replace-below.ensures.value ∙ ap (λ m. m.below) c.deref_mut-2.ensures.value) ∙ c.cut_before-later.ensures.both in
    let lower : AllBelow (first_byte r) kept = subst (λ k. AllBelow k kept) c.first_byte-byte.ensures c.cut_before-later.ensures.before in
    let p = c.args.path.now in
    let l = c.as_slice.result.now in
    let is = c.in-More.ensures.says ∙ c.replace.ensures.value in
    let cut : p ≡ n.label ++ r = subst (λ r. MatchOption r ((rest : List ℕ) → p ≢ l ++ rest) (λ x. p ≡ l ++ x.now)) c.in-Some.is c.rest_behind.ensures ∙ ap (λ xs. xs ++ r) (c.as_slice.ensures.value ∙ ap (λ m. m.label) c.deref.ensures) in
    let some : length r ≢ 0 = grind (arith, common_steps, c.is_empty.ensures, c.if-is_empty.false) in
    let d = c.deref_mut-2.result.now in
    let old : c.deref_mut-3.result.now ≡ emptied n =
    c.deref_mut-3.ensures.value ∙ ap (λ xs. record { label = d.label; value = d.value; below = xs; next = d.next }) (c.replace-below.ensures.after ∙ c.new-2.ensures) ∙ ap emptied c.deref_mut-2.ensures.value in
    let below : c.append.new.tree ≡ without_path r n.below = c.append.ensures ∙ ap (λ xs. kept ++ xs) c.remove-taken-2.ensures.rest ∙ sym (without_over r kept later lower) ∙ ap (without_path r) (sym parts) in
    c.tidied-2.ensures
    ∙ below_is (λ f v b x. level f v b x ≡ without_path p c.args.tree.now) c.set_below.new.self c.deref_mut-3.result.now (emptied n) c.append.new.tree (without_path r n.below) c.set_below.ensures old below
    (sym (without_below p n.label r n.value n.below n.next h.placed cut (filled r some)) ∙ ap (without_path p) is)
