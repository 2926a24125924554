use Rattle.std.proofs.Common.{ℕ, refl}
use Rattle.std.specs.Prelude.{◌%◌}
use Rattle.disk.specs.Writes.{LeftBy}
use Rattle.chunk_store.specs.Opening.{HoldsReplicas}
use Rattle.tests_stores.proofs.Servers.{found_again, in_settings, is_tested}
use Rattle.tests_stores.proofs.opened_server.open_again.Goals as goal

pub open-requires-clause-whole : goal.open-requires-clause-whole
open-requires-clause-whole c = rw (c.settings-config.ensures.chunk, c.settings-config.ensures.block) refl

pub open-requires-clause-holds : goal.open-requires-clause-holds
open-requires-clause-holds c =
    let f = found_again c.args.server.state (LeftBy c.into_disk.result.disk) c.restart-disk.result.disk.bytes c.requires c.into_disk.ensures.left c.restart-disk.ensures.lawful in
    (f.disk, in_settings (λ chunk block slots. HoldsReplicas chunk block slots c.restart-disk.result.disk.bytes f.disk) c.settings-config.result (c.settings-config.ensures.chunk, c.settings-config.ensures.block, c.settings-config.ensures.slots) f.holds)

pub returns-in-Ok : goal.returns-in-Ok
returns-in-Ok c =
    let f = found_again c.args.server.state (LeftBy c.into_disk.result.disk) c.restart-disk.result.disk.bytes c.requires c.into_disk.ensures.left c.restart-disk.ensures.lawful in
    let holds = in_settings (λ chunk block slots. HoldsReplicas chunk block slots c.restart-disk.result.disk.bytes f.disk) c.settings-config.result (c.settings-config.ensures.chunk, c.settings-config.ensures.block, c.settings-config.ensures.slots) f.holds in
    is_tested c.settings-config.result 1 0 c.restart-disk.result.disk.bytes f.disk c.in-Ok.server.state (c.settings-config.ensures.chunk, c.settings-config.ensures.block, c.settings-config.ensures.slots) holds (c.in-Ok.ensures.opened f.disk holds)
