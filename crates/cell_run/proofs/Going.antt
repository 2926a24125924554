-- A parked cell goes on behind its journal.
use Rattle.std.proofs.Common.{◌≡◌, ℕ, suc, ◌+◌, ◌-◌, ◌≤◌, ◌<◌, Bool, false, List, [], ◌∷◌, length, Option, None, refl, sym, ap, subst, ◌∙◌, arith}
use Rattle.std.specs.Prelude.{map, All, IsTrue, get_or, replicate, vec_capacity}
use Rattle.std.proofs.lemmas.List.{append-nil, length-map}
use Rattle.std.proofs.lemmas.List.Elements.{All-nil, All-cons, All-head, All-tail, All-map}
use Rattle.atomic_table.specs.Table.{Me}
use Rattle.gfs_types.specs.Settings.{first_out_of_range}
use Rattle.gfs_types.specs.declared.config.Config.{Config}
use Rattle.gfs_types.specs.declared.ids.Node.TheVariants.{Master, Client}
use Rattle.protocol.specs.Tables.{first_numbers}
use Rattle.protocol.specs.Sending.{the_server}
use Rattle.protocol_journal.specs.Journal.{Entry, own}
use Rattle.cell_journal.specs.Clocks.{are_clocks_kept}
use Rattle.cell_journal.specs.Identity.{Identity, Filled, Closed}
use Rattle.cell_journal.specs.Log.{Listed, listed}
use Rattle.cell_journal.specs.Rules.{IsJournalOf, first_view}
use Rattle.cell_journal.specs.WholeHistories.{history_of, whole_of, IsHistoryOf}
use Rattle.cell_journal.specs.declared.view.View.{View}
use Rattle.cell_seats.specs.Controls.{WritesControls, policy_in, no_policy}
use Rattle.cell_seats.specs.Journals.{JournalState, joined, AreBehind}
use Rattle.cell_seats.specs.NodeLocks.{NodeName, node_name}
use Rattle.cell_seats.specs.ParkedNodes.{ParkedNodeState, name_of, HasSeenBase, GoesOnBehind}
use Rattle.cell_seats.specs.Registry.{Registers}
use Rattle.cell_seats.specs.Seats.{SeatState}
use Rattle.cell_seats.specs.declared.controls.Controls.{Controls}
use Rattle.cell_seats.specs.declared.controls.ControlWriter.{ControlWriter}
use Rattle.cell_seats.specs.declared.mailboxes.Policy.{Policy}
use Rattle.running_nodes.specs.declared.client_places.ClientPlace.{ClientPlace}
use Rattle.cell_run.specs.declared.resume_room.ResumeRoom.{ResumeRoom}
use Rattle.running_nodes.specs.declared.running_client.RunningClient.{RunningClient}
use Rattle.cell_run.specs.Cells.{CellState, cell_state, IsFresh, HasMade}
use Rattle.cell_nodes.specs.Nodes.{names_of, AreNodesOf}
use Rattle.cell_run.specs.Parked.{ParkedState, IsResumed}
use Rattle.running_nodes.specs.Seatings.{IsSeatOf, AllGoOver, IsSeating}
use Rattle.running_nodes.specs.ParkedSeats.{ParkedSeatState, count_anew}
use Rattle.cell_run.specs.Resumed.{behind_of, IsRoomFor, HasRoom}
use Rattle.running_nodes.specs.Places.{ArePlacesOf, AreNewClients}
use Rattle.cell_nodes.proofs.NewLocks.{numbers_count}

-- the list beside a journal to which nothing was added has what stands before it
pub list_behind : (h : Filled) (l : Listed Entry) → l ≡ listed h.cell.name (history_of h.cell h.entries) → h.entries ≡ [] → l ≡ listed h.cell.name h.cell.base
list_behind h l is none = is ∙ (ap (λ (es : List Entry). listed h.cell.name (history_of h.cell es)) none ∙ ap (listed h.cell.name) (append-nil h.cell.base))

-- the first writer registers nodes
pub first_behind : (config : Config) (servers : ℕ) (cell : Identity) (me : Me (Option Filled) View) → cell.config ≡ config → cell.servers ≡ servers → cell.clients ≡ 64 → me ≡ (first_view cell, [])
    → Registers config servers 0 me
first_behind config servers cell me config_is servers_are clients_are is =
    subst (Registers config servers 0) (sym is)
    (record { role = refl; mine = refl; free = refl; config_is = config_is; servers_are = servers_are; clients_are = clients_are })

-- its nodes

unmapped : {X Y : Type 0} (f : Y → X) (P : X → Type 0) (ys : List Y) → All P (map f ys) → All (λ y. P (f y)) ys
unmapped f P [] all = All-nil (λ y. P (f y))
unmapped f P (y ∷ ys) all = All-cons (λ z. P (f z)) y ys (All-head P (f y) (map f ys) all) (unmapped f P ys (All-tail P (f y) (map f ys) all))

all_of_cell : (cell : Identity) (servers : ℕ) → All (λ (n : NodeName). n.cell ≡ cell) (names_of cell servers)
all_of_cell cell servers =
    All-cons (λ (n : NodeName). n.cell ≡ cell) (node_name cell Master) (map (λ s. node_name cell (the_server s)) (first_numbers servers)) refl
    (All-map (λ (n : NodeName). n.cell ≡ cell) (λ s. node_name cell (the_server s)) (first_numbers servers) (λ k d below. refl))

of_cell : (cell : Identity) (servers count : ℕ) (nodes : List ParkedNodeState) → AreNodesOf cell servers count nodes → All (λ p. p.cell ≡ cell) nodes
of_cell cell servers count nodes are = unmapped name_of (λ (n : NodeName). n.cell ≡ cell) nodes (subst (All (λ (n : NodeName). n.cell ≡ cell)) (sym are.names) (all_of_cell cell servers))

pub nodes_count : (cell : Identity) (servers count : ℕ) (nodes : List ParkedNodeState) → AreNodesOf cell servers count nodes → length nodes ≡ servers + 1
nodes_count cell servers count nodes are =
    let named : length (names_of cell servers) ≡ suc (length (first_numbers servers)) = ap (λ (n : ℕ). suc n) (length-map (first_numbers servers) (λ s. node_name cell (the_server s))) in
    omega (arith, length-map nodes name_of, ap length are.names, named, numbers_count servers)

pub seen_base : (journal : Closed) (retired : List Bool) (servers : ℕ) (nodes : List ParkedNodeState) → AreNodesOf journal.cell servers (length (whole_of journal)) nodes → All (HasSeenBase (behind_of journal retired)) nodes
seen_base journal retired servers nodes are k d below =
    let here = of_cell journal.cell servers (length (whole_of journal)) nodes are k d below in
    let seen = are.seen k d below in
    record {
      name_is = seen.0 ∙ ap (λ (c : Identity). c.name) here;
      count_is = seen.1;
      config_is = ap (λ (c : Identity). c.config) here;
      servers_are = ap (λ (c : Identity). c.servers) here;
      clients_are = ap (λ (c : Identity). c.clients) here;
    }

-- its seats

pub seats_behind : (journal : Closed) (retired : List Bool) (cell : Identity) (seats : List ParkedSeatState) → cell ≡ behind_of journal retired → All (IsSeatOf journal.cell (length (whole_of journal))) seats
    → All (IsSeatOf cell (length cell.base)) seats
seats_behind journal retired cell seats is are = subst (λ (c : Identity). All (IsSeatOf c (length c.base)) seats) (sym is) (λ k d below. record { named = (are k d below).named; saw = (are k d below).saw })

pub goes_behind : (journal : Closed) (retired : List Bool) (cell : Identity) → cell ≡ behind_of journal retired → IsJournalOf journal.cell journal.entries → IsTrue (are_clocks_kept cell cell.base)
    → first_out_of_range cell.config ≡ None → GoesOnBehind cell.name cell
goes_behind journal retired cell is lawful kept in_range = record {
  name_is = refl;
  lawful = subst (λ (c : Identity). IsHistoryOf c c.base) (sym is) lawful;
  clocks = kept;
  in_range = in_range;
}

-- its other clients

pub fresh_behind : (journal : Closed) (retired : List Bool) (cell : Identity) (made n : ℕ) → cell ≡ behind_of journal retired → made < n → ((k : ℕ) → made ≤ k → get_or retired k false ≡ false)
    → own (Client (record { 0 = n })) (whole_of journal) ≡ [] → IsFresh cell (Client (record { 0 = n }))
fresh_behind journal retired cell made n is past alive unused =
    subst (λ (c : Identity). IsFresh c (Client (record { 0 = n }))) (sym is) (unused, alive (n - 1) (omega (arith, past)))

-- its base
pub behind_one : (journal : JournalState) (items : List JournalState) (cell : Identity) → items ≡ journal ∷ [] → AreBehind journal.now.cell journal.earlier → cell.base ≡ whole_of journal.now
    → cell.name ≡ journal.now.cell.name → AreBehind cell (joined items)
behind_one journal items cell is behind base name =
    subst (λ (l : List JournalState). AreBehind cell (joined l)) (sym is)
    (base, name, subst (AreBehind journal.now.cell) (sym (append-nil journal.earlier)) behind)

-- of nodes that saw as much as there is behind a cell the first one did, and so did the others

-- a cell that goes on so is the parked one's
pub resumed_so : (p : ParkedState) (retired : List Bool) (of : Identity) (c : CellState) (seats : List SeatState) (made : ℕ) (policy : Policy) (restarts : List ℕ) → c ≡ cell_state of made policy restarts → of ≡ behind_of p.journal retired
    → made ≡ p.made + count_anew p.seats → policy ≡ no_policy → restarts ≡ replicate 66 0 → AllGoOver of p.seats seats → IsResumed p c seats
resumed_so p retired of c seats made policy restarts is same made_is none never over =
    subst (λ (x : CellState). IsResumed p x seats) (sym is)
    (record {
      name = ap (λ (i : Identity). i.name) same;
      config_is = ap (λ (i : Identity). i.config) same;
      servers_are = ap (λ (i : Identity). i.servers) same;
      clients_are = ap (λ (i : Identity). i.clients) same;
      retention = ap (λ (i : Identity). i.retention) same;
      base = ap (λ (i : Identity). i.base) same;
      made = made_is;
      policy = none;
      restarts = never;
      go_over = over;
    })

-- what is known of its registry once all nodes have their places
pub made_behind : (p : ParkedState) (retired : List Bool) (of : Identity) (config : Config) (servers registered made boxes : ℕ) (nothing : Listed Entry) (controls : Controls) (control_writer : ControlWriter) → of ≡ behind_of p.journal retired
    → of.config ≡ config → 64 ≤ p.journal.cell.config.chunk → registered ≡ servers + 1 + made → boxes + made ≡ 64 → nothing ≡ listed p.journal.cell.name [] → made ≡ p.made + count_anew p.seats
    → ((k : ℕ) → p.made ≤ k → get_or retired k false ≡ false) → ((n : ℕ) → p.made < n → own (Client (record { 0 = n })) (whole_of p.journal) ≡ []) → WritesControls controls control_writer
    → HasMade config servers registered made boxes of nothing controls control_writer
made_behind p retired of config servers registered made boxes nothing controls control_writer same config_is least next waiting nothing_is made_is alive unused asks = record {
  least = subst (λ (c : Config). 64 ≤ c.chunk) (sym (ap (λ (i : Identity). i.config) same) ∙ config_is) least;
  next = next;
  waiting = waiting;
  nothing_is = nothing_is ∙ ap (λ (i : Identity). listed i.name []) (sym same);
  fresh = λ n past.
      let before : p.made < n = omega (arith, past, made_is) in
      fresh_behind p.journal retired of p.made n same before alive (unused n before);
  asks = asks;
}

-- seats may go over to it
pub ready_behind : (journal : Closed) (retired : List Bool) (cell : Identity) (base_len : ℕ) (config : Config) (made : ℕ) (places : List (Option ClientPlace)) (clients : List (Option RunningClient)) → cell ≡ behind_of journal retired
    → base_len ≡ length (whole_of journal) → cell.config ≡ config → journal.cell.clients ≡ 64 → ArePlacesOf cell places → config ≡ journal.cell.config → AreNewClients journal.cell.config made clients → IsJournalOf journal.cell journal.entries
    → first_out_of_range journal.cell.config ≡ None → IsTrue (are_clocks_kept cell cell.base) → made ≤ 64 → ((n : ℕ) → made < n → own (Client (record { 0 = n })) cell.base ≡ [])
    → IsSeating cell base_len config retired made places clients
ready_behind journal retired cell base_len config made places clients is count config_is clients_are there settings anew lawful in_range kept few fresh = record {
  base_is = ap (λ (i : Identity). length i.base) is ∙ sym count;
  config_is = config_is;
  clients_are = ap (λ (i : Identity). i.clients) is ∙ clients_are;
  retired_are = ap (λ (i : Identity). i.retired) is;
  places_are = there;
  anew = subst (λ (c : Config). AreNewClients c made clients) (sym settings) anew;
  goes_on = goes_behind journal retired cell is lawful kept (ap (λ (i : Identity). first_out_of_range i.config) is ∙ in_range);
  few = few;
  fresh = fresh;
}

-- the memory that it needs
pub has_room : (cell : Identity) (p q : ParkedState) (config : Config) (servers count : ℕ) (room : ResumeRoom) → q ≡ p → q.journal.cell.config ≡ config → q.journal.cell.servers ≡ servers → count ≡ length q.seats
    → room.locks ≡ names_of cell servers → IsRoomFor config q.made count room.clients → length room.clients.anew.items ≡ count_anew p.seats → (room.base.items ≡ []) × (1 ≤ vec_capacity room.base)
    → policy_in room.control_writer.policy.me.0 ≡ no_policy → room.control_writer.restarts.me.0 ≡ replicate 66 0 → HasRoom cell p room
has_room cell p q config servers count room same config_is servers_are seats locks clients anew base none never = record {
  locks = locks ∙ ap (names_of cell) (sym (ap (λ (x : ParkedState). x.journal.cell.servers) (sym same) ∙ servers_are));
  clients = subst (λ (x : ParkedState). IsRoomFor x.journal.cell.config x.made (length x.seats) room.clients) same
      (subst (λ (n : ℕ). IsRoomFor q.journal.cell.config q.made n room.clients) seats (subst (λ (c : Config). IsRoomFor c q.made count room.clients) (sym config_is) clients));
  clients_count = anew;
  base = base;
  policy = none;
  restarts = never;
}
