use Rattle.std.proofs.Common.{ℕ, refl, sym, ap, ◌∙◌}
use Rattle.store_disk.proofs.Looked.{no_row}
use Rattle.chunk_store.proofs.StillOpen.{chunk_there, none_held, row_held, version_there}
use Rattle.chunk_store.proofs.volume.StoreVolume.find.Goals as goal

pub returns-in_default-clause-no_chunk : goal.returns-in_default-clause-no_chunk
returns-in_default-clause-no_chunk g c d is =
    let none = none_held g.D.Disk.seen g.D.Disk.may_leave c.args.self.now d is c.args.handle.0 (sym (c.held_within.ensures.known d is) ∙ c.in_default.is) in
    (λ e. none, λ e. refl)

pub returns-in_default-clause-version : goal.returns-in_default-clause-version
returns-in_default-clause-version g c d is =
    let none = none_held g.D.Disk.seen g.D.Disk.may_leave c.args.self.now d is c.args.handle.0 (sym (c.held_within.ensures.known d is) ∙ c.in_default.is) in
    (λ e. absurd cc, λ p. absurd (no_row _ p.0 none p.1))

pub returns-then-held-wanted-clause-no_chunk : goal.returns-then-held-wanted-clause-no_chunk
returns-then-held-wanted-clause-no_chunk g c d is = chunk_there g.D.Disk.seen g.D.Disk.may_leave c.args.self.now d is c.args.handle.0 c.in-Some.found (c.held_within.ensures.held c.in-Some.found c.in-Some.is) (λ e. absurd cc)

pub returns-then-held-wanted-clause-version : goal.returns-then-held-wanted-clause-version
returns-then-held-wanted-clause-version g c d is =
    version_there g.D.Disk.seen g.D.Disk.may_leave c.args.self.now d is c.args.handle.0 c.in-Some.found c.args.version (c.held_within.ensures.held c.in-Some.found c.in-Some.is) (ap (λ (n : ℕ). record { 0 = n }) c.if-held-wanted.true) (λ e. absurd cc)

pub returns-else-held-wanted-clause-no_chunk : goal.returns-else-held-wanted-clause-no_chunk
returns-else-held-wanted-clause-no_chunk g c d is = chunk_there g.D.Disk.seen g.D.Disk.may_leave c.args.self.now d is c.args.handle.0 c.in-Some.found (c.held_within.ensures.held c.in-Some.found c.in-Some.is) (λ e. absurd cc)

pub returns-else-held-wanted-clause-version : goal.returns-else-held-wanted-clause-version
returns-else-held-wanted-clause-version g c d is =
    let row = row_held g.D.Disk.seen g.D.Disk.may_leave c.args.self.now d is c.args.handle.0 c.in-Some.found (c.held_within.ensures.held c.in-Some.found c.in-Some.is) in
    (λ e. (c.in-Some.found.row, row, λ same. c.if-held-wanted.false (ap (λ v. v.0) same)), λ p. refl)
