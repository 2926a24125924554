use Rattle.std.proofs.Common.{◌≡◌, ℕ, ◌+◌, ◌∷◌, length, sym, ap, subst, ◌∙◌, arith, rules}
use Rattle.std.specs.Prelude.{map, All}
use Rattle.std.specs.Arc.{arc_value}
use Rattle.protocol.specs.Tables.{first_numbers}
use Rattle.protocol.specs.Sending.{the_server}
use Rattle.cell_journal.specs.Identity.{Identity}
use Rattle.cell_seats.specs.NodeLocks.{node_name}
use Rattle.cell_seats.specs.ParkedNodes.{HasSeenBase}
use Rattle.cell_seats.proofs.Starting.{master_at}
use Rattle.cell_nodes.proofs.NewLocks.{first_seen, others_seen}
use Rattle.cell_nodes.proofs.NewLocks.{first_lock, other_locks}
use Rattle.cell_nodes.proofs.node_locks.NodeLocks.put_all.Goals as goal

pub put_node-requires-clause-next : goal.put_node-requires-clause-next
put_node-requires-clause-next g c = master_at c.args.registry.now.servers c.args.registry.now.registered c.requires.first

pub put_node-requires-clause-name : goal.put_node-requires-clause-name
put_node-requires-clause-name g c = first_lock _ _ c.args.registry.now.cell c.args.registry.now.servers (c.self.view_is ∙ c.requires.locks)

pub put_node-requires-clause-seen : goal.put_node-requires-clause-seen
put_node-requires-clause-seen g c =
    let cell = c.args.registry.now.cell in
    first_seen cell c.into_parts-master.result.0 c.into_parts-master.result.1.items (subst (All (HasSeenBase cell)) c.into_parts-master.ensures c.requires.nodes)

pub put_servers-requires-clause-first : goal.put_servers-requires-clause-first
put_servers-requires-clause-first g c = omega (arith, c.put_node.ensures.registered, c.requires.first)

pub put_servers-requires-clause-locks : goal.put_servers-requires-clause-locks
put_servers-requires-clause-locks g c =
    let same = c.put_node.ensures.same in
    let items : c.as_slice.result.now ≡ c.self.inside.servers.items = search rules in
    ap (map arc_value) items
    ∙ (other_locks _ _ c.args.registry.now.cell c.args.registry.now.servers (c.self.view_is ∙ c.requires.locks)
    ∙ (ap (λ (i : Identity). map (λ s. node_name i (the_server s)) (first_numbers c.args.registry.now.servers)) (sym same.cell_is)
    ∙ ap (λ (n : ℕ). map (λ s. node_name c.put_node.new.registry.cell (the_server s)) (first_numbers n)) (sym same.servers_are)))

pub put_servers-requires-clause-count : goal.put_servers-requires-clause-count
put_servers-requires-clause-count g c = omega (arith, ap length c.into_parts-master.ensures, c.requires.count, c.put_node.ensures.same.servers_are)

pub put_servers-requires-clause-servers : goal.put_servers-requires-clause-servers
put_servers-requires-clause-servers g c =
    let cell = c.args.registry.now.cell in
    let all = subst (All (HasSeenBase cell)) c.into_parts-master.ensures c.requires.nodes in
    subst (λ (i : Identity). All (HasSeenBase i) c.into_parts-master.result.1.items) (sym c.put_node.ensures.same.cell_is) (others_seen cell c.into_parts-master.result.0 c.into_parts-master.result.1.items all)

pub returns-clause-same : goal.returns-clause-same
returns-clause-same g c =
    let was = c.put_node.ensures.same in
    let is = c.put_servers.ensures.same in
    record {
      shared_is = is.shared_is ∙ was.shared_is;
      cell_is = is.cell_is ∙ was.cell_is;
      config_is = is.config_is ∙ was.config_is;
      servers_are = is.servers_are ∙ was.servers_are;
      of = is.of ∙ was.of;
      seen = is.seen ∙ was.seen;
    }

pub returns-clause-registered : goal.returns-clause-registered
returns-clause-registered g c = c.put_servers.ensures.registered ∙ ap (λ (n : ℕ). n + 1) c.put_node.ensures.same.servers_are
