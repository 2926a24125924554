use Rattle.std.proofs.Common.{◌≡◌, ℕ, ◌+◌, ◌<◌, ◌≤◌, List, length, sym, ap, subst, ◌∙◌, arith}
use Rattle.std.specs.Prelude.{All, IsTrue}
use Rattle.std.specs.Arc.{arc_value}
use Rattle.gfs_types.specs.declared.config.Config.{Config}
use Rattle.gfs_types.specs.declared.ids.Node.TheVariants.{Client}
use Rattle.protocol_journal.specs.Journal.{own}
use Rattle.cell_journal.specs.Clocks.{are_clocks_kept}
use Rattle.cell_journal.specs.Identity.{Identity, Closed}
use Rattle.cell_journal.specs.WholeHistories.{whole_of}
use Rattle.cell_seats.specs.Controls.{WritesControls}
use Rattle.cell_seats.specs.declared.shared_state.SharedState.{SharedState}
use Rattle.cell_seats.specs.ParkedNodes.{HasSeenBase}
use Rattle.cell_nodes.specs.Nodes.{names_of}
use Rattle.running_nodes.specs.Seatings.{AllGoOver}
use Rattle.running_nodes.specs.ParkedSeats.{ParkedSeatState}
use Rattle.cell_run.specs.Resumed.{IsRoomFor, behind_of}
use Rattle.cell_run.proofs.Going.{nodes_count, seen_base, seats_behind, made_behind, resumed_so}
use Rattle.cell_run.proofs.behind.Behind.go_on.Goals as goal

pub put_all-requires-clause-locks : goal.put_all-requires-clause-locks
put_all-requires-clause-locks g c =
    let stands = c.requires in
    stands.room_is.locks ∙ ap (names_of c.args.self.registry.cell) (sym stands.servers_are)

pub put_all-requires-clause-count : goal.put_all-requires-clause-count
put_all-requires-clause-count g c =
    let journal = c.args.self.parts.journal in
    nodes_count journal.cell journal.cell.servers (length (whole_of journal)) c.taken_apart-kept.result.1 c.taken_apart-kept.ensures.nodes ∙ ap (λ (n : ℕ). n + 1) (sym c.requires.servers_are)

pub put_all-requires-clause-nodes : goal.put_all-requires-clause-nodes
put_all-requires-clause-nodes g c =
    let journal = c.args.self.parts.journal in
    subst (λ (i : Identity). All (HasSeenBase i) c.taken_apart-kept.result.1) (sym c.requires.cell_is) (seen_base journal c.args.self.retired journal.cell.servers c.taken_apart-kept.result.1 c.taken_apart-kept.ensures.nodes)

pub seats_over-seats-requires-clause-registered : goal.seats_over-seats-requires-clause-registered
seats_over-seats-requires-clause-registered g c = c.put_all.ensures.registered ∙ ap (λ (n : ℕ). n + 1) (sym c.put_all.ensures.same.servers_are)

pub seats_over-seats-requires-clause-cell : goal.seats_over-seats-requires-clause-cell
seats_over-seats-requires-clause-cell g c =
    c.put_all.ensures.same.cell_is ∙ (c.requires.cell_is ∙ ap (λ (j : Closed). behind_of j c.args.self.retired) (sym c.taken_apart-kept.ensures.kept.0))

pub seats_over-seats-requires-clause-settings : goal.seats_over-seats-requires-clause-settings
seats_over-seats-requires-clause-settings g c =
    let registry = c.args.self.registry in
    let journal = c.taken_apart-kept.ensures.kept.0 in
    let clients = sym (ap (λ (i : Identity). i.clients) c.requires.cell_is) ∙ (ap (λ (i : Identity). i.clients) registry.cell_is ∙ registry.registers.clients_are) in
    (c.put_all.ensures.same.config_is ∙ (c.requires.config_is ∙ ap (λ (j : Closed). j.cell.config) (sym journal)), ap (λ (j : Closed). j.cell.clients) journal ∙ clients)

pub seats_over-seats-requires-clause-made : goal.seats_over-seats-requires-clause-made
seats_over-seats-requires-clause-made g c = (omega (arith, c.taken_apart-kept.ensures.kept.1, c.made_then-made.ensures), omega (arith, c.made_then-made.ensures, c.requires.few))

pub seats_over-seats-requires-clause-room : goal.seats_over-seats-requires-clause-room
seats_over-seats-requires-clause-room g c =
    let p = c.args.self.parts in
    let clients = c.args.self.room.clients in
    let taken = c.taken_apart-kept.ensures in
    let kept = c.taken_apart-kept.result.0 in
    subst (λ (l : List ParkedSeatState). IsRoomFor kept.journal.now.cell.config kept.made (length l) clients) (sym taken.seats)
    (subst (λ (n : ℕ). IsRoomFor kept.journal.now.cell.config n (length p.seats) clients) (sym taken.kept.1)
    (subst (λ (j : Closed). IsRoomFor j.cell.config p.made (length p.seats) clients) (sym taken.kept.0) c.requires.room_is.clients))

pub seats_over-seats-requires-clause-seats : goal.seats_over-seats-requires-clause-seats
seats_over-seats-requires-clause-seats g c =
    seats_behind c.args.self.parts.journal c.args.self.retired c.put_all.new.registry.cell c.taken_apart-kept.result.2.items (c.put_all.ensures.same.cell_is ∙ c.requires.cell_is) c.taken_apart-kept.ensures.seen

pub seats_over-seats-requires-clause-fresh : goal.seats_over-seats-requires-clause-fresh
seats_over-seats-requires-clause-fresh g c = λ n past.
    ap (λ (i : Identity). own (Client (record { 0 = n })) i.base) (c.put_all.ensures.same.cell_is ∙ c.requires.cell_is) ∙ c.taken_apart-kept.ensures.fresh n (subst (λ (m : ℕ). m < n) c.taken_apart-kept.ensures.kept.1 past)

pub seats_over-seats-requires-clause-clocks : goal.seats_over-seats-requires-clause-clocks
seats_over-seats-requires-clause-clocks g c = subst (λ (i : Identity). IsTrue (are_clocks_kept i i.base)) (sym (c.put_all.ensures.same.cell_is ∙ c.requires.cell_is)) c.taken_apart-kept.ensures.clocks

pub cell_of-requires-clause-made : goal.cell_of-requires-clause-made
cell_of-requires-clause-made g c =
    let stands = c.requires in
    let put = c.put_all.ensures.same in
    let over = c.seats_over-seats.ensures in
    let taken = c.taken_apart-kept.ensures in
    let registry = c.seats_over-seats.new.registry in
    let control_writer = c.args.self.room.control_writer in
    made_behind c.args.self.parts c.args.self.retired registry.writer.me.0.of registry.config registry.servers registry.registered c.made_then-made.result _ c.taken_apart-kept.result.0.nothing _ control_writer
    (sym registry.cell_is ∙ (over.same.cell_is ∙ (put.cell_is ∙ stands.cell_is))) registry.registers.config_is taken.least (over.registered ∙ ap (λ (n : ℕ). n + 1 + c.made_then-made.result) (sym over.same.servers_are)) over.boxes
    taken.nothing c.made_then-made.ensures stands.alive taken.fresh (subst (λ s. WritesControls (arc_value {X = SharedState} s).controls control_writer) (sym (over.same.shared_is ∙ put.shared_is)) stands.asks)

pub cell_of-requires-clause-locks : goal.cell_of-requires-clause-locks
cell_of-requires-clause-locks g c =
    let stands = c.requires in
    let put = c.put_all.ensures.same in
    let over = c.seats_over-seats.ensures.same in
    let registry = c.seats_over-seats.new.registry in
    stands.room_is.locks
    ∙ (ap (λ (i : Identity). names_of i c.args.self.parts.journal.cell.servers) (sym (sym registry.cell_is ∙ (over.cell_is ∙ put.cell_is)))
    ∙ ap (names_of registry.writer.me.0.of) (sym (over.servers_are ∙ (put.servers_are ∙ stands.servers_are))))

pub cell_of-requires-clause-base : goal.cell_of-requires-clause-base
cell_of-requires-clause-base g c = c.requires.room_is.base

pub cell_of-requires-clause-behind : goal.cell_of-requires-clause-behind
cell_of-requires-clause-behind g c =
    let same = sym c.seats_over-seats.new.registry.cell_is ∙ (c.seats_over-seats.ensures.same.cell_is ∙ (c.put_all.ensures.same.cell_is ∙ c.requires.cell_is)) in
    let journal = c.taken_apart-kept.ensures.kept.0 in
    (ap (λ (i : Identity). i.base) same ∙ ap whole_of (sym journal), ap (λ (i : Identity). i.name) same ∙ ap (λ (j : Closed). j.cell.name) (sym journal))

pub returns : goal.returns
returns g c =
    let stands = c.requires in
    let p = c.args.self.parts in
    let registry = c.seats_over-seats.new.registry in
    let over = c.seats_over-seats.ensures in
    let seats = c.seats_over-seats.result.0.items in
    let there = sym over.same.cell_is ∙ registry.cell_is in
    resumed_so p c.args.self.retired registry.writer.me.0.of c.cell_of.result seats c.made_then-made.result _ _ c.cell_of.ensures
    (sym registry.cell_is ∙ (over.same.cell_is ∙ (c.put_all.ensures.same.cell_is ∙ stands.cell_is))) c.made_then-made.ensures stands.room_is.policy stands.room_is.restarts
    (subst (λ (i : Identity). AllGoOver i p.seats seats) there
    (subst (λ (l : List ParkedSeatState). AllGoOver c.put_all.new.registry.cell l seats) c.taken_apart-kept.ensures.seats over.over))
