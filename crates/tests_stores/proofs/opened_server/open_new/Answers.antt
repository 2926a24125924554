use Rattle.std.proofs.Common.{ℕ, refl, sym, subst}
use Rattle.std.specs.Prelude.{◌%◌}
use Rattle.disk.specs.Failing.{FuseState}
use Rattle.replica_store.specs.Replicas.{new_server_disk}
use Rattle.chunk_store.specs.Opening.{HoldsReplicas}
use Rattle.memory_nodes.proofs.NewDisks.{holds_none}
use Rattle.tests_stores.proofs.Servers.{in_settings, is_tested}
use Rattle.tests_stores.proofs.opened_server.open_new.Goals as goal

pub open-requires-clause-whole : goal.open-requires-clause-whole
open-requires-clause-whole c = rw (c.settings-config.ensures.chunk, c.settings-config.ensures.block) refl

pub open-requires-clause-holds : goal.open-requires-clause-holds
open-requires-clause-holds c =
    let config = c.settings-config.result in
    let here = holds_none config.chunk config.block config.slots c.disk_size.result c.in-Ok.disk c.in-Ok.ensures in (
      new_server_disk config.chunk config.block config.slots,
      subst (λ (f : FuseState). HoldsReplicas config.chunk config.block config.slots f.disk.bytes (new_server_disk config.chunk config.block config.slots)) (sym c.new-disk.ensures) here,
    )

pub returns-in-Ok-open : goal.returns-in-Ok-open
returns-in-Ok-open c =
    let config = c.settings-config.result in
    let d = new_server_disk config.chunk config.block config.slots in
    let here = holds_none config.chunk config.block config.slots c.disk_size.result c.in-Ok.disk c.in-Ok.ensures in
    let holds = subst (λ (f : FuseState). HoldsReplicas config.chunk config.block config.slots f.disk.bytes d) (sym c.new-disk.ensures) here in
    is_tested config 1 0 c.in-Ok.disk.bytes d c.in-Ok-open.server.state (c.settings-config.ensures.chunk, c.settings-config.ensures.block, c.settings-config.ensures.slots) here (c.in-Ok-open.ensures.opened d holds)
