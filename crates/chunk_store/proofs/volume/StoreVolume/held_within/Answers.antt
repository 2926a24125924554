use Rattle.std.proofs.Common.{sym, ◌∙◌, arith}
use Rattle.chunk_store.proofs.StillOpen.{held_within}
use Rattle.chunk_store.proofs.volume.StoreVolume.held_within.Goals as goal

pub returns-in_default-clause-known : goal.returns-in_default-clause-known
returns-in_default-clause-known g c d is = sym c.in_default.is ∙ c.get.ensures

pub returns-then-slot-slots-clause-known : goal.returns-then-slot-slots-clause-known
returns-then-slot-slots-clause-known g c d is =
    let within = held_within g.D.Disk.seen g.D.Disk.may_leave c.args.self.now d is c.args.handle.0 c.in-Some.found (sym c.get.ensures ∙ c.in-Some.is) in
    absurd (omega (arith, within.0, c.if-slot-slots.true))

pub returns-then-count-chunk-clause-known : goal.returns-then-count-chunk-clause-known
returns-then-count-chunk-clause-known g c d is =
    let within = held_within g.D.Disk.seen g.D.Disk.may_leave c.args.self.now d is c.args.handle.0 c.in-Some.found (sym c.get.ensures ∙ c.in-Some.is) in
    absurd (omega (arith, within.1, c.from-chunk.ensures, c.if-count-chunk.true))

pub returns-clause-held : goal.returns-clause-held
returns-clause-held g c found same = sym c.get.ensures ∙ c.in-Some.is ∙ same

pub returns-clause-known : goal.returns-clause-known
returns-clause-known g c d is = sym c.in-Some.is ∙ c.get.ensures
