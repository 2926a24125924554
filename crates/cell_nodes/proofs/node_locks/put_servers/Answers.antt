use Rattle.std.proofs.Common.{◌≡◌, ℕ, ◌+◌, ◌<◌, ◌≤◌, ◌∷◌, length, sym, ap, subst, ◌∙◌, arith, rules}
use Rattle.std.specs.Prelude.{All}
use Rattle.std.specs.Arc.{arc_value}
use Rattle.std.specs.Vec.Iter.{into_iter_items}
use Rattle.std.proofs.lemmas.List.Elements.{All-head, All-tail}
use Rattle.protocol.specs.Sending.{the_server}
use Rattle.cell_journal.specs.Identity.{Identity}
use Rattle.cell_seats.specs.NodeLocks.{node_name}
use Rattle.cell_seats.specs.ParkedNodes.{HasSeenBase}
use Rattle.cell_seats.proofs.Starting.{server_at}
use Rattle.cell_nodes.proofs.NewLocks.{lock_at, locks_count}
use Rattle.cell_nodes.proofs.node_locks.put_servers.Goals as goal

pub lock_of-lock-requires : goal.lock_of-lock-requires
lock_of-lock-requires g c =
    let more : into_iter_items c.loop-server.server-iterator ≡ c.in-Some.server ∷ into_iter_items c.next.new.self = search rules in
    omega (arith, c.loop-server.invariant.left, ap length more, locks_count arc_value c.args.registry.now.cell c.args.registry.now.servers c.args.locks.now c.requires.locks)

pub put_node-requires-clause-next : goal.put_node-requires-clause-next
put_node-requires-clause-next g c =
    let was = c.loop-server.invariant in
    let before = c.loop-server.before in
    let more : into_iter_items c.loop-server.server-iterator ≡ c.in-Some.server ∷ into_iter_items c.next.new.self = search rules in
    let within : before + 1 ≤ c.loop-server.registry.servers = omega (arith, was.left, ap length more, was.same.servers_are) in
    server_at c.loop-server.registry.servers c.loop-server.registry.registered (record { 0 = before + 1 }) was.registered (omega arith) within

pub put_node-requires-clause-name : goal.put_node-requires-clause-name
put_node-requires-clause-name g c =
    let was = c.loop-server.invariant in
    let cell = c.args.registry.now.cell in
    let locks = c.args.locks.now in
    let before = c.loop-server.before in
    let more : into_iter_items c.loop-server.server-iterator ≡ c.in-Some.server ∷ into_iter_items c.next.new.self = search rules in
    let within : before < length locks = omega (arith, was.left, ap length more, locks_count arc_value cell c.args.registry.now.servers locks c.requires.locks) in
    lock_at arc_value cell c.args.registry.now.servers before locks c.lock_of-lock.result.now c.requires.locks within c.lock_of-lock.ensures ∙ ap (λ (i : Identity). node_name i (the_server (before + 1))) (sym was.same.cell_is)

pub put_node-requires-clause-seen : goal.put_node-requires-clause-seen
put_node-requires-clause-seen g c =
    let cell = c.args.registry.now.cell in
    let more : into_iter_items c.loop-server.server-iterator ≡ c.in-Some.server ∷ into_iter_items c.next.new.self = search rules in
    subst (λ (i : Identity). HasSeenBase i c.in-Some.server) (sym c.loop-server.invariant.same.cell_is)
    (All-head (HasSeenBase cell) c.in-Some.server (into_iter_items c.next.new.self) (subst (All (HasSeenBase cell)) more c.loop-server.invariant.seen))

pub loop-server-preserved : goal.loop-server-preserved
loop-server-preserved g c =
    let was = c.loop-server.invariant in
    let is = c.put_node.ensures.same in
    let cell = c.args.registry.now.cell in
    let rest = into_iter_items c.next.new.self in
    let more : into_iter_items c.loop-server.server-iterator ≡ c.in-Some.server ∷ rest = search rules in
    record {
      same = record {
        shared_is = is.shared_is ∙ was.same.shared_is;
        cell_is = is.cell_is ∙ was.same.cell_is;
        config_is = is.config_is ∙ was.same.config_is;
        servers_are = is.servers_are ∙ was.same.servers_are;
        of = is.of ∙ was.same.of;
        seen = is.seen ∙ was.same.seen;
      };
      registered = omega (arith, c.put_node.ensures.registered, was.registered);
      left = omega (arith, was.left, ap length more);
      seen = All-tail (HasSeenBase cell) c.in-Some.server rest (subst (All (HasSeenBase cell)) more was.seen);
    }
