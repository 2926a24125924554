use Rattle.std.proofs.Common.{◌≡◌, sym, ap, ◌∙◌, subst}
use Rattle.disk.specs.Failing.{FuseState}
use Rattle.chunk_store.specs.Opening.{HoldsReplicas}
use Rattle.server_cell.proofs.Slots.{opened_of}
use Rattle.server_cell.proofs.server_slot.ServerSlot.open.Goals as goal

pub open-requires-clause-holds : goal.open-requires-clause-holds
open-requires-clause-holds c =
    let config = c.args.config in
    let some = c.requires.holds in
    (some.0, subst (λ (f : FuseState). HoldsReplicas config.chunk config.block config.slots f.disk.bytes some.0) (sym c.new.ensures) some.1)

pub invariant_of-result : goal.invariant_of-result
invariant_of-result c =
    let config = c.args.config in
    let some = c.requires.holds in
    let here = subst (λ (f : FuseState). HoldsReplicas config.chunk config.block config.slots f.disk.bytes some.0) (sym c.new.ensures) some.1 in
    (c.requires.settings, opened_of config c.args.id.0 c.args.now.0 c.args.disk.bytes some.0 c.in-Ok.server.state some.1 (c.in-Ok.ensures.opened some.0 here), tt)

pub returns-in-Ok : goal.returns-in-Ok
returns-in-Ok c d holds =
    let config = c.args.config in
    c.in-Ok.ensures.opened d (subst (λ (f : FuseState). HoldsReplicas config.chunk config.block config.slots f.disk.bytes d) (sym c.new.ensures) holds)
