use Rattle.std.proofs.Common.{◌≡◌, inl, ℕ, ◌+◌, ◌≤◌, ◌==◌, List, [], ◌∷◌, length, subst, sym, ap, ◌∙◌, arith, true, false}
use Rattle.std.proofs.lemmas.Result.{on_ok_weaker}
use Rattle.disk.specs.Bytes.{put_at}
use Rattle.disk_redo.specs.Gates.{IsCommitting}
use Rattle.disk_redo.proofs.Moments.{joined, started, weaker}
use Rattle.disk_redo.proofs.Ranges.{put_changes}
use Rattle.disk_redo.proofs.Places.{length_put, put_within}
use Rattle.store_disk.specs.Formats.{IsFormatted, IsFormatting, is_head_open}
use Rattle.store_disk.proofs.Heads.{formed, forming}
use Rattle.store_disk.proofs.FormatSlots.{slots_behind}
use Rattle.store_disk.specs.Places.{disk_size}
use Rattle.store_disk.proofs.formatting.format.Goals as goal

pub returns-in_err-head-clause-any_moment : goal.returns-in_err-head-clause-any_moment
returns-in_err-head-clause-any_moment g c =
    let disk = g.D.Disk in
    let layout = c.args.layout in
    let old = c.args.disk.now in
    started disk.moment disk.left_since old (IsFormatting layout.chunk layout.block layout.slots)
    (λ d left. inl (subst (λ (l : List ℕ). is_head_open l ≡ false) (sym (c.requires.durable d (g.met.D.Disk.only_now old d left))) c.requires.closed))

pub returns-in_err-clear_durably-clause-any_moment : goal.returns-in_err-clear_durably-clause-any_moment
returns-in_err-clear_durably-clause-any_moment g c =
    let disk = g.D.Disk in
    let layout = c.args.layout in
    weaker disk.moment disk.left_since c.args.disk.now c.clear_durably.new.disk (λ bytes. is_head_open bytes ≡ false) (IsFormatting layout.chunk layout.block layout.slots) c.clear_durably.ensures.any_moment (λ d p. inl p)

pub commit-requires-clause-room : goal.commit-requires-clause-room
commit-requires-clause-room g c =
    let layout = c.args.layout in
    let count : length c.deref.result.now ≡ 31 = ap length (c.deref.ensures ∙ c.in_ok-head.ensures) in
    omega (arith, count, slots_behind layout.chunk layout.block layout.slots, c.requires.size, c.clear_durably.ensures.size)

pub commit-requires-clause-gate : goal.commit-requires-clause-gate
commit-requires-clause-gate g c =
    let layout = c.args.layout in
    omega (arith, slots_behind layout.chunk layout.block layout.slots, c.requires.size, c.clear_durably.ensures.size)

pub returns-clause-formatted : goal.returns-clause-formatted
returns-clause-formatted g c =
    let layout = c.args.layout in
    let mid = g.D.Disk.seen c.clear_durably.new.disk in
    let head = c.deref.result.now in
    let is = c.deref.ensures ∙ c.in_ok-head.ensures in
    let count : length head ≡ 31 = ap length is in
    let room : 304 ≤ length mid = omega (arith, slots_behind layout.chunk layout.block layout.slots, c.requires.size, c.clear_durably.ensures.size) in
    let headed = put_at mid 0 head in
    let fits : 31 + 1 ≤ length headed = omega (arith, length_put mid head 0 (omega (arith, count, room)), room) in
    let opened : is_head_open (put_at headed 31 (1 ∷ [])) ≡ true = ap (λ (n : ℕ). n == 1) (put_within headed (1 ∷ []) 31 31 fits (omega arith) (omega arith)) in
    on_ok_weaker c.commit.result
    (λ e. subst (λ (l : List ℕ). IsFormatted layout.chunk layout.block layout.slots l) (sym e)
    (formed layout.chunk layout.block layout.slots mid (put_at headed 31 (1 ∷ [])) head is (omega (arith, c.requires.size, c.clear_durably.ensures.size)) c.in_ok-clear_durably.ensures.blank (put_changes headed (1 ∷ []) 31 fits) opened))
    c.commit.ensures.committed

pub returns-clause-any_moment : goal.returns-clause-any_moment
returns-clause-any_moment g c =
    let disk = g.D.Disk in
    let layout = c.args.layout in
    let mid = disk.seen c.clear_durably.new.disk in
    let head = c.deref.result.now in
    let is = c.deref.ensures ∙ c.in_ok-head.ensures in
    let room : disk_size layout.chunk layout.block layout.slots ≤ length mid = omega (arith, c.requires.size, c.clear_durably.ensures.size) in
    joined disk.moment disk.left_since c.args.disk.now c.clear_durably.new.disk c.commit.new.disk (λ bytes. is_head_open bytes ≡ false) (IsCommitting mid 0 head 31) (IsFormatting layout.chunk layout.block layout.slots)
    c.clear_durably.ensures.any_moment c.commit.ensures.any_moment (λ d p. inl p)
    (λ d p. forming layout.chunk layout.block layout.slots mid d head is room c.clear_durably.ensures.closed c.in_ok-clear_durably.ensures.blank p)

pub returns-in_err-head-clause-read : goal.returns-in_err-head-clause-read
returns-in_err-head-clause-read g c = inl c.requires.closed

pub returns-in_err-clear_durably-clause-read : goal.returns-in_err-clear_durably-clause-read
returns-in_err-clear_durably-clause-read g c = inl c.clear_durably.ensures.closed

pub returns-clause-read : goal.returns-clause-read
returns-clause-read g c =
    let disk = g.D.Disk in
    let layout = c.args.layout in
    let mid = disk.seen c.clear_durably.new.disk in
    let head = c.deref.result.now in
    let is = c.deref.ensures ∙ c.in_ok-head.ensures in
    let room : disk_size layout.chunk layout.block layout.slots ≤ length mid = omega (arith, c.requires.size, c.clear_durably.ensures.size) in
    forming layout.chunk layout.block layout.slots mid (disk.seen c.commit.new.disk) head is room c.clear_durably.ensures.closed c.in_ok-clear_durably.ensures.blank c.commit.ensures.read
