use Rattle.std.proofs.Common.{arith}
use Rattle.replica_store.specs.Replicas.{new_server_disk}
use Rattle.chunk_store.proofs.Kept.{formatted_holds}
use Rattle.chunk_store.proofs.Moments.{forms_then}
use Rattle.chunk_store.proofs.Stopped.{forming_holds, same_holds}
use Rattle.chunk_store.proofs.disk_opening.open_new.Goals as goal

pub returns-in_err-open_formatted-clause-any_moment :
    goal.returns-in_err-open_formatted-clause-any_moment
returns-in_err-open_formatted-clause-any_moment g c =
    let disk = g.D.Disk in
    let layout = c.args.layout in
    forms_then disk.seen disk.may_leave disk.moment disk.left_since layout.chunk layout.block layout.slots c.args.disk.now c.format.new.disk c.open_formatted.new.disk
    c.requires.closed c.in_ok-format.ensures.durable c.in_ok-format.ensures.formatted c.format.ensures.any_moment c.open_formatted.ensures.any_moment

pub returns-clause-found : goal.returns-clause-found
returns-clause-found g c =
    let layout = c.args.layout in
    let mid = g.D.Disk.seen c.format.new.disk in
    c.in_ok-open_formatted.ensures.found (new_server_disk layout.chunk layout.block layout.slots) (formatted_holds layout.chunk layout.block layout.slots mid c.in_ok-format.ensures.formatted)

pub returns-clause-any_moment : goal.returns-clause-any_moment
returns-clause-any_moment g c =
    let disk = g.D.Disk in
    let layout = c.args.layout in
    forms_then disk.seen disk.may_leave disk.moment disk.left_since layout.chunk layout.block layout.slots c.args.disk.now c.format.new.disk c.open_formatted.new.disk
    c.requires.closed c.in_ok-format.ensures.durable c.in_ok-format.ensures.formatted c.format.ensures.any_moment c.open_formatted.ensures.any_moment

pub open_formatted-requires : goal.open_formatted-requires
open_formatted-requires g c = c.in_ok-format.ensures.formatted.head.large

pub returns-clause-large : goal.returns-clause-large
returns-clause-large g c = let large = c.in_ok-format.ensures.formatted.head.large in omega (arith, large, c.open_formatted.ensures.size)

pub returns-in_err-format-clause-held : goal.returns-in_err-format-clause-held
returns-in_err-format-clause-held g c = let layout = c.args.layout in forming_holds layout.chunk layout.block layout.slots (g.D.Disk.seen c.format.new.disk) c.format.ensures.read

pub returns-in_err-open_formatted-clause-held : goal.returns-in_err-open_formatted-clause-held
returns-in_err-open_formatted-clause-held g c =
    let seen = g.D.Disk.seen in
    let layout = c.args.layout in
    let mid = seen c.format.new.disk in
    same_holds layout.chunk layout.block layout.slots mid (seen c.open_formatted.new.disk) (new_server_disk layout.chunk layout.block layout.slots) c.open_formatted.ensures.same (formatted_holds layout.chunk layout.block layout.slots mid c.in_ok-format.ensures.formatted)

pub returns-clause-held : goal.returns-clause-held
returns-clause-held g c =
    let seen = g.D.Disk.seen in
    let layout = c.args.layout in
    let mid = seen c.format.new.disk in
    same_holds layout.chunk layout.block layout.slots mid (seen c.open_formatted.new.disk) (new_server_disk layout.chunk layout.block layout.slots) c.open_formatted.ensures.same (formatted_holds layout.chunk layout.block layout.slots mid c.in_ok-format.ensures.formatted)
