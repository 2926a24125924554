-- A parked cell's history led to a world with the nodes as they were parked.
use Rattle.std.proofs.Common.{◌≡◌, ℕ, zero, suc, ◌≤◌, List, [], ◌∷◌, length, map, Option, Some, None, refl, sym, ap, subst, ◌∙◌, arith}
use Rattle.std.specs.Prelude.{option_map}
use Rattle.std.proofs.lemmas.List.{length-map}
use Rattle.gfs_types.specs.declared.ids.Node.{Node}
use Rattle.gfs_types.specs.declared.ids.Node.TheVariants as node
use Rattle.protocol.specs.Master.{MasterState}
use Rattle.protocol.specs.Sending.{the_server}
use Rattle.protocol.specs.Server.{ServerState, started_server}
use Rattle.protocol.specs.Tables.{element_at, first_numbers}
use Rattle.protocol.specs.World.{WorldState, new_world, numbered_from_1}
use Rattle.protocol_journal.specs.Journal.{Entry, NodeState, MasterIs, ServerIs, node_in, own, LeadsTo, IsLawful}
use Rattle.protocol_journal.proofs.Journals.{journals_are_runs}
use Rattle.replica_store.specs.Replicas.{new_server_disk}
use Rattle.cell_journal.specs.Identity.{Identity, Closed}
use Rattle.cell_journal.specs.Rules.{IsJournalOf}
use Rattle.cell_journal.specs.WholeHistories.{whole_of}
use Rattle.cell_seats.specs.Journals.{JournalState}
use Rattle.cell_seats.specs.ParkedNodes.{IsLedBy}
use Rattle.running_nodes.specs.Standing.{MasterStands}
use Rattle.cell_nodes.proofs.NewLocks.{numbers_count}
use Rattle.cell_looks.specs.Looks.{looks_state}
use Rattle.cell_looks.specs.ParkedWorlds.{IsWorldOf, AreLed}

none_past : {X : Type 0} (xs : List X) (k : ℕ) → element_at xs k ≡ None → length xs ≤ k
none_past [] k h = omega arith
none_past (x ∷ xs) zero h = absurd (let both : Some x ≡ None = h in cc)
none_past (x ∷ xs) (suc k) h = omega (arith, none_past xs k h)

past_none : {X : Type 0} (xs : List X) (k : ℕ) → length xs ≤ k → element_at xs k ≡ None
past_none [] k h = refl
past_none (x ∷ xs) zero h = absurd (omega (arith, h))
past_none (x ∷ xs) (suc k) h = past_none xs k (omega (arith, h))

same_elements : {X : Type 0} (xs ys : List X) → ((k : ℕ) → element_at xs k ≡ element_at ys k) → xs ≡ ys
same_elements [] [] h = refl
same_elements [] (y ∷ ys) h = absurd (let both : None ≡ Some y = h 0 in cc)
same_elements (x ∷ xs) [] h = absurd (let both : Some x ≡ None = h 0 in cc)
same_elements (x ∷ xs) (y ∷ ys) h =
    let first : x ≡ y = (let both : Some x ≡ Some y = h 0 in cc) in
    ap (λ z. z ∷ xs) first ∙ ap (λ zs. y ∷ zs) (same_elements xs ys (λ k. h (suc k)))

same_server : (a b : Option ServerState) → option_map ServerIs a ≡ option_map ServerIs b → a ≡ b
same_server None None h = refl
same_server None (Some y) h = absurd (let both : None ≡ Some (ServerIs y) = h in cc)
same_server (Some x) None h = absurd (let both : Some (ServerIs x) ≡ None = h in cc)
same_server (Some x) (Some y) h = ap (λ (s : ServerState). Some s) (let both : Some (ServerIs x) ≡ Some (ServerIs y) = h in cc)

-- a node that is not there
leads_nowhere : (o end : Option NodeState) (es : List Entry) → o ≡ None → LeadsTo o es end → LeadsTo o es None
leads_nowhere None end es none h = (h.0, refl)
leads_nowhere (Some s) end es none h = absurd (let both : Some s ≡ None = none in cc)

module _ (journal : JournalState) (master : MasterState) (servers : List ServerState) (lawful : IsJournalOf journal.now.cell journal.now.entries)
    (led : IsLedBy journal.now.cell node.Master (whole_of journal.now) (MasterStands master)) (all : AreLed journal.now servers) (count : length servers ≡ journal.now.cell.servers) where
  abbrev cell : Identity
  cell = journal.now.cell

  abbrev history : List Entry
  history = whole_of journal.now

  abbrev start : Node → Option NodeState
  start n = node_in (new_world cell.config cell.servers cell.clients) n

  abbrev ends : Node → Option NodeState
  ends node.Master = Some led.state
  ends (node.Server s) = option_map ServerIs (numbered_from_1 servers s.0)
  ends (node.Client c) = lawful.0 (node.Client c)

  no_server : (k : ℕ) → length servers ≤ k → start (the_server (suc k)) ≡ None
  no_server k past =
      let new : ℕ → ServerState = λ s. started_server cell.config s (new_server_disk cell.config.chunk cell.config.block cell.config.slots) 0 in
      ap (option_map ServerIs) (past_none (map new (first_numbers cell.servers)) k (omega (arith, length-map (first_numbers cell.servers) new, numbers_count cell.servers, count, past)))

  server_at : (k : ℕ) (o : Option ServerState) → element_at servers k ≡ o → LeadsTo (start (the_server (suc k))) (own (the_server (suc k)) history) (option_map ServerIs o)
  server_at k None at = leads_nowhere (start (the_server (suc k))) (lawful.0 (the_server (suc k))) (own (the_server (suc k)) history) (no_server k (none_past servers k at)) (lawful.1.nodes (the_server (suc k)))
  server_at k (Some s) at =
      let here = all k s at in
      subst (λ (t : NodeState). LeadsTo (start (the_server (suc k))) (own (the_server (suc k)) history) (Some t)) here.stands here.leads

  server_leads : (n : ℕ) → LeadsTo (start (the_server n)) (own (the_server n) history) (option_map ServerIs (numbered_from_1 servers n))
  server_leads zero = leads_nowhere (start (the_server 0)) (lawful.0 (the_server 0)) (own (the_server 0) history) refl (lawful.1.nodes (the_server 0))
  server_leads (suc k) = server_at k (element_at servers k) refl

  nodes : (n : Node) → LeadsTo (start n) (own n history) (ends n)
  nodes node.Master = led.leads
  nodes (node.Server s) = server_leads s.0
  nodes (node.Client c) = lawful.1.nodes (node.Client c)

  stands : IsLawful cell.config cell.servers cell.clients history ends
  stands = record { follow = lawful.1.follow; nodes = nodes }

  pub world_of : (w : WorldState) × IsWorldOf (looks_state journal master servers) w
  world_of =
      let run = journals_are_runs cell.config cell.servers cell.clients history ends stands in
      let w = run.0 in
      let shows = run.3 in
      let is : MasterIs w.master ≡ led.state = (let both : Some (MasterIs w.master) ≡ Some led.state = shows.nodes_are node.Master in cc) in (
        w,
        record {
          reached = run.1;
          config_is = run.2;
          ends = ends;
          shows = shows;
          master = subst (MasterStands master) (sym is) led.stands;
          servers = same_elements w.servers servers (λ k. same_server (element_at w.servers k) (element_at servers k) (shows.nodes_are (the_server (suc k))));
        },
      )

-- the same, by what is told of the parked cell
pub world_at : {X : Type 0} (journal : JournalState) (parked : Closed) (master : MasterState) (f : X → ServerState) (items : List X) → journal.now ≡ parked → IsJournalOf journal.now.cell journal.now.entries
    → IsLedBy parked.cell node.Master (whole_of parked) (MasterStands master) → AreLed parked (map f items) → length items ≡ parked.cell.servers
    → (w : WorldState) × IsWorldOf (looks_state journal master (map f items)) w
world_at journal parked master f items same lawful led all count =
    world_of journal master (map f items) lawful (subst (λ (j : Closed). IsLedBy j.cell node.Master (whole_of j) (MasterStands master)) (sym same) led)
    (subst (λ (j : Closed). AreLed j (map f items)) (sym same) all) (length-map items f ∙ (count ∙ sym (ap (λ (j : Closed). j.cell.servers) same)))
