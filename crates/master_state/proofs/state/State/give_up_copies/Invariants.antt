use Rattle.std.proofs.Common.{◌≡◌, drop}
use Rattle.protocol.specs.Logged.{copies_given_up}
use Rattle.master_state.specs.Follows.{are_unowned}
use Rattle.master_state.proofs.state.State.give_up_copies.Given as goal

abbrev pub invariant-loop-handle : goal.invariant-loop-handle
invariant-loop-handle g l = record {
  given_up : copies_given_up l.self (drop l.handle-index l.handles) ≡ copies_given_up l.initial.self l.handles;
  unowned : are_unowned l.self.table (drop l.handle-index l.handles) ≡ are_unowned l.initial.self.table l.handles;
}
