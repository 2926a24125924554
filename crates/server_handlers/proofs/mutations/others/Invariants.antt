use Rattle.std.proofs.Common.{◌≡◌, take}
use Rattle.protocol.specs.Tables.{without}
use Rattle.server_handlers.proofs.mutations.others.Given as goal

abbrev pub invariant-loop-member : goal.invariant-loop-member
invariant-loop-member l = l.left.items ≡ without (take l.member-index l.member-items) l.me.0
