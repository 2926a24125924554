use Rattle.std.proofs.Common.{◌≡◌, ◌+◌, ◌≤◌, ℕ, List, [], ◌∷◌, ◌++◌, ap, subst, sym, true, false, length, ◌∙◌, arith}
use Rattle.disk.specs.Pages.{PagesState, all_taken, bytes_of, has_range}
use Rattle.disk.specs.Writes.{DiskState, Write, all_fit}
use Rattle.disk.proofs.Calls.{fits_push}
use Rattle.disk.proofs.Places.{length_bytes}
use Rattle.disk.proofs.Ranges.{length_range}
use Rattle.disk.proofs.Taken.{both_kept, taken_push}
use Rattle.disk.proofs.memory.MemDisk.put.Goals as goal

pub read_out-requires : goal.read_out-requires
read_out-requires g c = let same = ap (λ (d : DiskState). length d.bytes) c.self.view_is in omega (arith, same, length_bytes c.self.inside.bytes, c.requires)

pub take-requires : goal.take-requires
take-requires g c = let same = ap (λ (d : DiskState). length d.bytes) c.self.view_is in omega (arith, same, length_bytes c.self.inside.bytes, c.requires)

pub invariant_of-self : goal.invariant_of-self
invariant_of-self g c = both_kept c.self.inside.bytes c.take.new.self c.take.ensures.keeps c.self.inside.writes.items c.self.invariant

pub invariant_of-self-in_err-push : goal.invariant_of-self-in_err-push
invariant_of-self-in_err-push g c =
    let q : PagesState = c.take.new.self in
    let kept = both_kept c.self.inside.bytes q c.take.ensures.keeps c.self.inside.writes.items c.self.invariant in (
      subst (λ (ws : List Write). all_fit q.size ws ≡ true) (sym c.in_err-push.ensures.items) kept.0,
      subst (λ (ws : List Write). all_taken q.pages ws ≡ true) (sym c.in_err-push.ensures.items) kept.1,
    )

pub put-requires-clause-room : goal.put-requires-clause-room
put-requires-clause-room g c =
    let same = ap (λ (d : DiskState). length d.bytes) c.self.view_is in
    omega (arith, same, length_bytes c.self.inside.bytes, c.requires, c.take.ensures.keeps.size)

pub invariant_of-self-2 : goal.invariant_of-self-2
invariant_of-self-2 g c =
    let inside = c.self.inside in
    let p : PagesState = inside.bytes in
    let q : PagesState = c.take.new.self in
    let r : PagesState = c.put.new.self in
    let at = c.args.at in
    let v : List ℕ = c.args.bytes.now in
    let same : length (bytes_of p) ≡ length c.args.self.now.bytes = ap (λ (d : DiskState). length d.bytes) c.self.view_is in
    let room : at + length v ≤ length (bytes_of p) = omega (arith, same, c.requires) in
    let old : List ℕ = c.in_ok-old.old.items in
    let w : Write = record { at = at; old = old; synced = false } in
    let count : length old ≡ length v = ap length c.in_ok-old.ensures ∙ length_range (bytes_of p) at (length v) room in
    let kept = both_kept p q c.take.ensures.keeps inside.writes.items c.self.invariant in
    let fits : at + length old ≤ q.size = omega (arith, count, room, length_bytes p, c.take.ensures.keeps.size) in
    let has : has_range q.pages at (length old) ≡ true = subst (λ (n : ℕ). has_range q.pages at n ≡ true) (sym count) c.in_ok-take.ensures.taken in
    let both = both_kept q r c.put.ensures.keeps (inside.writes.items ++ w ∷ []) (fits_push q.size inside.writes.items w kept.0 fits, taken_push q.pages inside.writes.items w kept.1 has) in (
      subst (λ (ws : List Write). all_fit r.size ws ≡ true) (sym c.in_ok-push.ensures.items) both.0,
      subst (λ (ws : List Write). all_taken r.pages ws ≡ true) (sym c.in_ok-push.ensures.items) both.1,
    )
