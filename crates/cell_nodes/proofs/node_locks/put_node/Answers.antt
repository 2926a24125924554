use Rattle.std.proofs.Common.{ℕ, ◌+◌, sym, ap, ◌∙◌}
use Rattle.cell_journal.specs.Identity.{Identity}
use Rattle.cell_journal.specs.Roles.{node_at}
use Rattle.cell_journal.specs.WholeHistories.{is_retired}
use Rattle.cell_seats.proofs.GoingOver.{behind_all, behind_at}
use Rattle.cell_nodes.proofs.node_locks.put_node.Goals as goal

pub next-requires-in-loop-clause-node : goal.next-requires-in-loop-clause-node
next-requires-in-loop-clause-node g c = (λ j. node_at (c.loop.invariant.same.servers_are j) (c.loop.invariant.registered j)) ∙ c.requires.next

pub next-requires-in-loop-clause-goes_on : goal.next-requires-in-loop-clause-goes_on
next-requires-in-loop-clause-goes_on g c = ap (λ (i : Identity). is_retired i c.args.node) c.loop.invariant.same.cell_is ∙ c.requires.goes_on

pub into_slot-requires-clause-node : goal.into_slot-requires-clause-node
into_slot-requires-clause-node g c = c.in-Ok.ensures.journal.node_is ∙ sym (c.is_node.ensures c.hold.ensures)

pub into_slot-requires-clause-behind : goal.into_slot-requires-clause-behind
into_slot-requires-clause-behind g c =
    let registry = c.args.registry.now in
    let registered = c.in-Ok.ensures.journal in
    behind_at registry.cell c.in-Ok.journal.writer.me.0 (registered.of ∙ (c.loop.invariant.same.of ∙ sym registry.cell_is)) c.args.parked registered.mine
    (behind_all registry.cell c.args.parked c.base.result.now c.requires.seen c.base.ensures c.meets.ensures)

pub loop-preserved : goal.loop-preserved
loop-preserved g c =
    let was = c.loop.invariant in
    let is = c.next-in-loop.ensures.same in
    record {
      same = record {
        shared_is = is.0 ∙ was.same.shared_is;
        cell_is = is.1 ∙ was.same.cell_is;
        config_is = is.2 ∙ was.same.config_is;
        servers_are = is.3 ∙ was.same.servers_are;
        of = is.4 ∙ was.same.of;
        seen = is.5 ∙ was.same.seen;
      };
      registered = c.in-Err.ensures.err ∙ was.registered;
    }

pub returns-in-Ok-clause-same : goal.returns-in-Ok-clause-same
returns-in-Ok-clause-same g c =
    let was = c.loop.invariant.same in
    let is = c.next-in-loop.ensures.same in
    record {
      shared_is = is.0 ∙ was.shared_is;
      cell_is = is.1 ∙ was.cell_is;
      config_is = is.2 ∙ was.config_is;
      servers_are = is.3 ∙ was.servers_are;
      of = is.4 ∙ was.of;
      seen = is.5 ∙ was.seen;
    }

pub returns-in-Ok-clause-registered : goal.returns-in-Ok-clause-registered
returns-in-Ok-clause-registered g c = c.in-Ok.ensures.ok ∙ ap (λ (n : ℕ). n + 1) c.loop.invariant.registered
