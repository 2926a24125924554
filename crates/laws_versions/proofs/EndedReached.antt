-- In each reached world with kept clocks replicas and Images end where entries of their orders do.
use Rattle.std.proofs.Common.{◌≡◌, ℕ, suc, min, Bool, true, false, List, [], ◌∷◌, ◌++◌, length, take, Option, Some, None, refl, sym, ap, subst, ◌∙◌, inl, inr}
use Rattle.std.specs.Prelude.{filter, IsTrue, ◌≤◌}
use Rattle.std.specs.Option.{option_to_list}
use Rattle.std.specs.FinMap as table
use Rattle.std.specs.Ordering.{nat_cmp}
use Rattle.std.proofs.lemmas.Bool.{true≢false}
use Rattle.gfs_types.specs.declared.config.Config.{Config}
use Rattle.gfs_types.specs.Mutations.{start_of, end_of}
use Rattle.messages.specs.declared.event.Event.{Event}
use Rattle.messages.specs.declared.event.NodeInput.{NodeInput}
use Rattle.messages.specs.declared.event.NodeInput.TheVariants as input
use Rattle.messages.specs.declared.message.Body.{Body}
use Rattle.messages.specs.declared.message.Body.TheVariants as body
use Rattle.messages.specs.declared.message.Message.{Message}
use Rattle.relaxed_file.specs.Run.{Visible}
use Rattle.replica_store.specs.declared.change.StoreChange.{StoreChange}
use Rattle.replica_store.specs.Replicas.{Replica, ServerDisk, new_server_disk, replica_of, with_replica, disk_changed_by_all, read_from, rotten_replica}
use Rattle.protocol.specs.Tables.{Table, element_at, with_at}
use Rattle.protocol.specs.Choice.{Choice, Ending, Goes, Lost, Stops, decided_changes}
use Rattle.protocol.specs.Seen.{is_numbering, Taken, no_step}
use Rattle.protocol.specs.declared.seen.Seen.{Seen}
use Rattle.protocol.specs.declared.seen.Seen.TheVariants.{Numbered}
use Rattle.protocol.specs.Observer.{Placed, observed_moment, placed_in, order_of, orders_after_all}
use Rattle.protocol.specs.Client.{ClientState, ClientDoing}
use Rattle.protocol.specs.ClientStep.{client_at, client_step, client_call}
use Rattle.protocol.specs.Server.{ServerState, ServerDoing, started_server}
use Rattle.protocol.specs.ServerStep.{found_disk, server_goes, server_ends, server_step, server_restarts, server_restart}
use Rattle.protocol.specs.MasterStep.{master_step, master_restart}
use Rattle.protocol.specs.World.{WorldState, new_world, stamped, after_master, after_server, after_client, happens, after_events, IsReached, after_rot}
use Rattle.laws_base.proofs.Steps.{on_cond, none_some, put_cases}
use Rattle.laws_base.proofs.Entries.{AllOf}
use Rattle.laws_base.proofs.RisingOrders.{set_cases}
use Rattle.laws_base.proofs.LeasesTold.{numbered_from}
use Rattle.laws_base.proofs.MembersRecorded.{all_at}
use Rattle.laws_base.proofs.MessagesSent.{IsSent, sent_cases, none_sent, numbered_sent}
use Rattle.laws_base.proofs.Events.{HoldsAfter, holds_after, with_call, rot_of}
use Rattle.laws_base.proofs.ClientNumbers.{IsSaid, IsStepOf, of_step, of_call}
use Rattle.laws_base.proofs.RequestsOnce.{numbered_reached}
use Rattle.laws_base.proofs.LeasesStayOver.{reached_later}
use Rattle.laws_base.proofs.MasterTalks.{is_masters, master_said, restart_said}
use Rattle.laws_base.proofs.Stemming.{came_in}
use Rattle.laws_base.proofs.Placing.{all_placed}
use Rattle.laws_base.proofs.Within.{entries_lie_within_the_chunk}
use Rattle.laws_base.proofs.RoundsPassed.{IsOfServers, server_shown}
use Rattle.laws_base.proofs.Forwards.{images_are_of_replicas}
use Rattle.laws_versions.proofs.ClosedVersions.{clocks_before}
use Rattle.laws_versions.proofs.KeptDisks.{none_more, found_made, take_whole, frame_kept}
use Rattle.laws_versions.specs.CopiedEntries.{Follows}
use Rattle.laws_versions.proofs.OrdersGrow.{IsAny, same_follows, all_grow, orders_grow}
use Rattle.laws_versions.specs.EndedReplicas.{EndsAtEntry, ReplicasEndAtEntries}
use Rattle.laws_versions.proofs.Images.{starts_before_end, numbered_there}
use Rattle.laws_versions.proofs.ImagesReached.{kept_filtered, restarted_said}
use Rattle.laws_versions.proofs.EndedSteps.{AreEndedIn, IsImageEnded, LeavesOrders, ends_grown, read_long, after}
use Rattle.laws_base.proofs.Rots.{rot_idle, rot_found, rotten_disk}
use Rattle.laws_base.proofs.Lengths.{servers_within}

-- these orders have all that those had
abbrev HaveMore : Table (List Placed) → Table (List Placed) → Type 0
HaveMore from to = (handle : ℕ) → Follows IsAny (placed_in from handle) (placed_in to handle)

-- a server's replicas, however what is under way is decided; one that is up has nothing under way
record IsEndedOn (orders : Table (List Placed)) (s : ServerState) : Type 0 where
  found : (decided : List Bool) → AreEndedIn orders (disk_changed_by_all s.disk (decided_changes decided s.under_way))
  idle : s.up ≡ true → s.under_way ≡ []

ended_grown : (from to : Table (List Placed)) (s : ServerState) → HaveMore from to → IsEndedOn from s → IsEndedOn to s
ended_grown from to s grown h =
    record {
      found = λ decided handle x is. ends_grown (placed_in from handle) (placed_in to handle) x.version x.count (grown handle) (h.found decided handle x is);
      idle = h.idle;
    }

said_on : (from to : Table (List Placed)) (b : Body) → HaveMore from to → IsImageEnded from b → IsImageEnded to b
said_on from to (body.Image handle version serial bytes) grown h = ends_grown (placed_in from handle.0) (placed_in to handle.0) version.0 (length bytes) (grown handle.0) h
said_on from to other grown h = tt

record AreAllEnded (w : WorldState) : Type 0 where
  servers : (index : ℕ) (s : ServerState) → element_at w.servers index ≡ Some s → IsEndedOn w.observer.orders s
  sent : (m : Message) → IsSent w.sent m → IsImageEnded w.observer.orders m.body

-- who says no Image

masters_said : (orders : Table (List Placed)) (b : Body) → is_masters b ≡ true → IsImageEnded orders b
masters_said orders (body.Image handle version serial bytes) is = absurd (let both : false ≡ true = is in cc)
masters_said orders other is = tt

clients_said : (orders : Table (List Placed)) (s t : ClientState) (b : Body) → IsSaid s t b → IsImageEnded orders b
clients_said orders s t (body.Image handle version serial bytes) said = absurd said
clients_said orders s t other said = tt

client_said : (orders : Table (List Placed)) (s : ClientState) (d : ClientDoing) (o : Option Message) → IsStepOf s d → d.sent ≡ o → AllOf (λ m. IsImageEnded orders m.body) (option_to_list o)
client_said orders s d None step is = tt
client_said orders s d (Some m) step is = (clients_said orders s d.client m.body (step.says m is).1, tt)

module _ (config : Config) (servers clients : ℕ) (w : WorldState) (r : IsReached config servers clients w) (clocks : IsTrue w.observer.are_clocks_kept) (h : AreAllEnded w) where
  -- a step of a server

  module _ (index moment : ℕ) (s : ServerState) (i : NodeInput) (choice : Choice) (at : element_at w.servers index ≡ Some s) where
    abbrev trace : List Visible
    trace = (observed_moment w.config.skew_ms w.observer moment).trace

    -- the orders after the step, by what it shows
    abbrev Orders : List Seen → Table (List Placed)
    Orders seen = orders_after_all trace w.observer.orders seen

    record AreLawful (seen : List Seen) : Type 0 where
      of : AllOf IsOfServers seen
      within : (handle place : ℕ) (p : Placed) → element_at (placed_in (Orders seen) handle) place ≡ Some p → start_of p.entry.mutation ≤ end_of p.entry.mutation

    here : AreEndedIn w.observer.orders s.disk
    here = (h.servers index s at).found []

    module _ (up : IsTrue s.up) (came : (m : Message) → i ≡ input.Deliver m → IsSent w.sent m) where
      idle : s.under_way ≡ []
      idle = (h.servers index s at).idle up

      leaves : (seen : List Seen) → AreLawful seen → ((place : ℕ) (x : Seen) → element_at (server_goes s moment i).seen place ≡ Some x → is_numbering x ≡ true → (n : ℕ) × (element_at seen n ≡ Some x)) → LeavesOrders w trace (server_goes s moment i).seen (Orders seen)
      leaves seen l kept =
          record {
            grown = λ handle. all_grow trace w.observer.orders seen handle l.of;
            within = l.within;
            shown = λ place handle version serial id m is.
                let there = kept place (Numbered handle version serial id m) is refl in
                numbered_there trace w.observer.orders seen there.0 handle version serial id m l.of there.1;
          }

      -- what a restart finds after some of the changes
      after_some : (seen : List Seen) → AreLawful seen → ((place : ℕ) (x : Seen) → element_at (server_goes s moment i).seen place ≡ Some x → is_numbering x ≡ true → (n : ℕ) × (element_at seen n ≡ Some x)) → (n : ℕ)
          → AreEndedIn (Orders seen) (disk_changed_by_all s.disk (take n (server_goes s moment i).changes))
      after_some seen l kept n = after config servers clients w r clocks h.sent index s at here moment i came trace (Orders seen) (leaves seen l kept) n

      abbrev IsDone : Taken ServerState → Type 0
      IsDone t = AreLawful t.seen → IsEndedOn (Orders t.seen) t.state

      ends_done : (e : Ending) → IsDone (server_ends s (server_goes s moment i) choice e)
      ends_done Goes l =
          let d : ServerDoing = server_goes s moment i in
          let frame = frame_kept s moment i in
          let all : AreEndedIn (Orders d.seen) (disk_changed_by_all d.server.disk d.changes) =
          subst (λ (x : ServerDisk). AreEndedIn (Orders d.seen) (disk_changed_by_all x d.changes)) (sym frame.0)
          (subst (λ (xs : List StoreChange). AreEndedIn (Orders d.seen) (disk_changed_by_all s.disk xs)) (take_whole d.changes) (after_some d.seen l (λ place x is _. (place, is)) (length d.changes))) in
          record {
            found = λ decided.
                subst (λ (xs : List StoreChange). AreEndedIn (Orders d.seen) (disk_changed_by_all (disk_changed_by_all d.server.disk d.changes) (decided_changes decided xs))) (sym (frame.1 ∙ idle))
                (subst (AreEndedIn (Orders d.seen)) (sym (none_more (disk_changed_by_all d.server.disk d.changes) decided)) all);
            idle = λ _. frame.1 ∙ idle;
          }
      ends_done Lost l =
          record { found = λ decided. subst (AreEndedIn w.observer.orders) (sym (none_more s.disk decided)) here; idle = λ on. refl }
      ends_done (Stops made) l =
          let d : ServerDoing = server_goes s moment i in
          record {
            found = λ decided.
                let one = found_made s.disk decided made d.changes in
                subst (AreEndedIn (Orders (filter is_numbering d.seen))) (sym one.1) (after_some (filter is_numbering d.seen) l (λ place x is numbering. kept_filtered d.seen place x is numbering) one.0);
            idle = λ on. absurd (true≢false (sym on));
          }

      step_done : IsDone (server_step s moment i choice)
      step_done =
          on_cond IsDone s.up (server_ends s (server_goes s moment i) choice choice.ending) (no_step s) (λ _. ends_done choice.ending) (λ down. absurd (true≢false (sym up ∙ down)))

    -- what it says
    says_images : (orders : Table (List Placed)) → HaveMore w.observer.orders orders → AllOf (λ m. IsImageEnded orders m.body) (server_step s moment i choice).out.sent
    says_images orders more =
        all_placed (λ m. IsImageEnded orders m.body) (server_step s moment i choice).out.sent (λ place m is. one place m is m.body refl)
      where
        one : (place : ℕ) (m : Message) → element_at (server_step s moment i choice).out.sent place ≡ Some m → (b : Body) → m.body ≡ b → IsImageEnded orders b
        one place m is (body.Image handle version serial bytes) body_is =
            let of = images_are_of_replicas s moment i choice place m is handle version serial bytes body_is in
            let long : length bytes ≡ of.0.count =
            read_long config.chunk s.disk.block of.0 ((servers_within config servers clients w r index s at).disk.1 handle.0 of.0 of.1) bytes (ap (λ (o : Option Replica). read_from s.disk.block 0 of.0.count o) (sym of.1) ∙ of.4) in
            ends_grown (placed_in w.observer.orders handle.0) (placed_in orders handle.0) version.0 (length bytes) (more handle.0)
            (subst (λ (n : ℕ). EndsAtEntry (placed_in w.observer.orders handle.0) n (length bytes)) of.2
            (subst (λ (n : ℕ). EndsAtEntry (placed_in w.observer.orders handle.0) of.0.version n) (sym long) (here handle.0 of.0 of.1)))
        one place m is other body_is = tt

  -- what stays over an event

  kept_servers : (orders : Table (List Placed)) → HaveMore w.observer.orders orders → (index : ℕ) (s : ServerState) → element_at w.servers index ≡ Some s → IsEndedOn orders s
  kept_servers orders more index s at = ended_grown w.observer.orders orders s more (h.servers index s at)

  one_server : (orders : Table (List Placed)) → HaveMore w.observer.orders orders → (index : ℕ) (t : ServerState) → IsEndedOn orders t
      → (other : ℕ) (u : ServerState) → element_at (with_at w.servers index t) other ≡ Some u → IsEndedOn orders u
  one_server orders more index t new other u is =
      elim (set_cases w.servers index t other u is) [
        | inl both ↦ subst (IsEndedOn orders) (sym both.1) new
        | inr there ↦ kept_servers orders more other u there
      ]

  more_said : (orders : Table (List Placed)) → HaveMore w.observer.orders orders → (k : ℕ) (ms : List Message) → AllOf (λ m. IsImageEnded orders m.body) ms
      → (m : Message) → IsSent (w.sent ++ stamped k ms) m → IsImageEnded orders m.body
  more_said orders more k ms all m there =
      elim (sent_cases w.sent (stamped k ms) m there) [
        | inl old ↦ said_on w.observer.orders orders m.body more (h.sent m old)
        | inr now ↦
            let was = numbered_sent k ms now.0 m now.1 in
            subst (λ (b : Body). IsImageEnded orders b) (was.2).2 (all_at (λ (x : Message). IsImageEnded orders x.body) ms (was.1).0 was.0 all (was.1).1)
      ]

  restart_good : (orders : Table (List Placed)) → HaveMore w.observer.orders orders → (index moment : ℕ) (s : ServerState) (choice : Choice) → element_at w.servers index ≡ Some s → (e : Ending)
      → IsEndedOn orders (server_restarts s moment choice e).state
  restart_good orders more index moment s choice at Lost = record { found = (kept_servers orders more index s at).found; idle = λ on. absurd (true≢false (sym on)) }
  restart_good orders more index moment s choice at (Stops made) =
      record { found = λ decided. subst (AreEndedIn orders) (sym (none_more (found_disk s choice) decided)) ((kept_servers orders more index s at).found choice.decided); idle = λ on. refl }
  restart_good orders more index moment s choice at Goes =
      record { found = λ decided. subst (AreEndedIn orders) (sym (none_more (found_disk s choice) decided)) ((kept_servers orders more index s at).found choice.decided); idle = λ on. refl }

  -- rot takes and adds no byte
  rotten_good : (index handle : ℕ) (s : ServerState) (x : Replica) (place byte : ℕ) (e : Ending) → element_at w.servers index ≡ Some s → replica_of s.disk handle ≡ Some x → IsTrue s.up
      → IsEndedOn w.observer.orders (after_rot s (rot_of handle place byte) e)
  rotten_good index handle s x place byte e at there up =
      let good = h.servers index s at in
      record {
        found = rot_found (AreEndedIn w.observer.orders) s (rot_of handle place byte) e (good.idle up) (good.found []) (subst (AreEndedIn w.observer.orders) (sym (rotten_disk s.disk handle x place byte there)) rotten);
        idle = rot_idle s (rot_of handle place byte) e (λ on. good.idle up);
      }
    where
      now : Replica
      now = rotten_replica x place byte

      rotten : AreEndedIn w.observer.orders (with_replica s.disk handle now)
      rotten k y is =
          elim (put_cases s.disk.replicas handle now k y is) [
            | inl same ↦ subst (λ (n : ℕ). EndsAtEntry (placed_in w.observer.orders n) y.version y.count) (sym same.0)
                (subst (λ (z : Replica). EndsAtEntry (placed_in w.observer.orders handle) z.version z.count) same.1 ((h.servers index s at).found [] handle x there))
            | inr before ↦ (h.servers index s at).found [] k y before
          ]

  -- events

  entry_within : (v : WorldState) → IsReached config servers clients v → (handle place : ℕ) (p : Placed) → element_at (order_of v.observer handle) place ≡ Some p → start_of p.entry.mutation ≤ end_of p.entry.mutation
  entry_within v later handle place p there =
      let lies = entries_lie_within_the_chunk config servers clients later.0 handle place p (ap (λ (u : WorldState). element_at (order_of u.observer handle) place) later.1 ∙ there) in
      starts_before_end (min lies.1 config.chunk) p.entry.mutation lies.3

  each_ended : HoldsAfter w (λ e x. IsReached config servers clients x.world → AreAllEnded x.world)
  each_ended =
      let k : ℕ = suc (length w.sent) in
      let grow = orders_grow config servers clients w r in
      record {
        nothing = λ e later. h;
        masters = λ e moment i choice is up later.
            let orders : Table (List Placed) = (after_master w moment (master_step w.master moment i choice)).world.observer.orders in
            let more = grow.masters e moment i choice is up in
            record {
              servers = kept_servers orders more;
              sent = more_said orders more k (master_step w.master moment i choice).out.sent
                  (master_said (λ m. IsImageEnded orders m.body) (record { plain = λ receiver b is. masters_said orders b is; locates = λ receiver number l current. tt }) w.master moment i choice);
            };
        opens = λ e moment choice later.
            let orders : Table (List Placed) = (after_master w moment (master_restart w.master moment choice)).world.observer.orders in
            let more = grow.opens e moment choice in
            record {
              servers = kept_servers orders more;
              sent = more_said orders more k (master_restart w.master moment choice).out.sent
                  (restart_said (λ m. IsImageEnded orders m.body) (record { plain = λ receiver b is. masters_said orders b is; locates = λ receiver number l current. tt }) w.master moment choice);
            };
        serves = λ e index moment s i choice at is up later.
            let v : WorldState = (after_server w index moment (server_step s moment i choice)).world in
            let orders : Table (List Placed) = v.observer.orders in
            let more = grow.serves e index moment s i choice at is up in
            record {
              servers = one_server orders more index (server_step s moment i choice).state
                  (step_done index moment s i choice at up (came_in w e (suc index) moment i is)
                  (record { of = server_shown s moment i choice; within = λ handle place p there. entry_within v later handle place p there }));
              sent = more_said orders more k (server_step s moment i choice).out.sent (says_images index moment s i choice at orders more);
            };
        restarts = λ e index moment s choice at later.
            let orders : Table (List Placed) = (after_server w index moment (server_restart s moment choice)).world.observer.orders in
            let more = grow.restarts e index moment s choice at in
            record {
              servers = one_server orders more index (server_restart s moment choice).state (restart_good orders more index moment s choice at choice.ending);
              sent = more_said orders more k (server_restart s moment choice).out.sent (restarted_said (λ m. IsImageEnded orders m.body) s moment choice choice.ending);
            };
        steps = λ e index moment s i choice at is up later.
            let orders : Table (List Placed) = (after_client w index moment (client_step s moment i choice)).world.observer.orders in
            let more = grow.steps e index moment s i choice at is up in
            record {
              servers = kept_servers orders more;
              sent = more_said orders more k (client_step s moment i choice).out.sent
                  (of_step (λ t xs. AllOf (λ m. IsImageEnded orders m.body) xs) s moment i choice ((numbered_reached config servers clients w r).each index s at).named
                  (λ d step. client_said orders (client_at s moment) d d.sent step refl) tt tt);
            };
        calls = λ e index moment s c choice at may later.
            let orders : Table (List Placed) = (after_client (with_call w index moment c) index moment (client_call s moment c choice)).world.observer.orders in
            let more = grow.calls e index moment s c choice at may in
            record {
              servers = kept_servers orders more;
              sent = more_said orders more k (client_call s moment c choice).out.sent
                  (of_call (λ t xs. AllOf (λ m. IsImageEnded orders m.body) xs) s moment c choice ((numbered_reached config servers clients w r).each index s at).named
                  (λ d step. client_said orders (client_at s moment) d d.sent step refl) tt);
            };
        rots = λ e index handle s x place byte ending is_kept at there up later.
            record {
              servers = one_server w.observer.orders (λ k. same_follows IsAny (placed_in w.observer.orders k)) index (after_rot s (rot_of handle place byte) ending) (rotten_good index handle s x place byte ending at there up);
              sent = h.sent;
            };
      }

ended_on : (config : Config) (servers clients : ℕ) (w : WorldState) (steps : List (Event × Choice)) → IsReached config servers clients w → (IsTrue w.observer.are_clocks_kept → AreAllEnded w) → IsTrue (after_events w steps).observer.are_clocks_kept → AreAllEnded (after_events w steps)
ended_on config servers clients w [] r h clocks = h clocks
ended_on config servers clients w (step ∷ rest) r h clocks =
    ended_on config servers clients v rest later (λ now. let before = clocks_before w (step ∷ []) now in holds_after w (λ e x. IsReached config servers clients x.world → AreAllEnded x.world) (each_ended config servers clients w r before (h before)) step.0 step.1 later) clocks
  where
    v : WorldState
    v = (happens w step.0 step.1).world

    later : IsReached config servers clients v
    later = reached_later config servers clients w (step ∷ []) r

new_ended : (config : Config) (servers clients : ℕ) → AreAllEnded (new_world config servers clients)
new_ended config servers clients =
    record {
      servers = λ index s at.
          subst (IsEndedOn table.empty) (sym (numbered_from (λ n. started_server config n (new_server_disk config.chunk config.block config.slots) 0) servers index s at))
          (record { found = λ decided handle x is. none_some x (sym (table.get-empty nat_cmp handle) ∙ ap (λ (d : ServerDisk). replica_of d handle) (sym (none_more (new_server_disk config.chunk config.block config.slots) decided)) ∙ is); idle = λ on. refl });
      sent = λ m there. none_sent m there;
    }

pub replicas_end_at_entries : ReplicasEndAtEntries
replicas_end_at_entries config servers clients w r clocks index s at =
    (good.found [], λ choice. good.found choice.decided)
  where
    start : WorldState
    start = new_world config servers clients

    good : IsEndedOn w.observer.orders s
    good =
        (subst (λ (v : WorldState). IsTrue v.observer.are_clocks_kept → AreAllEnded v) r.1 (ended_on config servers clients start r.0 ([], refl) (λ _. new_ended config servers clients)) clocks).servers index s at
