-- What a server stores of versions is of orders that it took: every change of its disk that gives a replica a version comes after the number of its order, so the server refuses that order from then on.
use Rattle.std.proofs.Common.{◌≡◌, ◌⊎◌, ℕ, zero, suc, ◌+◌, ◌-◌, ◌≤◌, Bool, true, false, List, [], ◌∷◌, ◌++◌, length, take, drop, Option, Some, None, refl, sym, ap, subst, ◌∙◌, inl, inr, arith}
use Rattle.std.specs.Prelude.{IsTrue}
use Rattle.std.specs.Ordering.{nat_cmp}
use Rattle.std.specs.FinMap as table
use Rattle.std.proofs.lemmas.Bool.{true≢false}
use Rattle.gfs_types.specs.declared.config.Config.{Config}
use Rattle.messages.specs.declared.event.Event.{Event}
use Rattle.messages.specs.declared.event.Event.TheVariants as event
use Rattle.gfs_types.specs.declared.ids.Node.TheVariants.{Master}
use Rattle.gfs_types.specs.declared.ids.DataId.{DataId}
use Rattle.gfs_types.specs.declared.ids.OrderNo.{OrderNo}
use Rattle.gfs_types.specs.declared.mutation.Mutation.{Mutation}
use Rattle.gfs_types.specs.declared.mutation.Mutation.TheVariants as mutation
use Rattle.messages.specs.declared.event.NodeInput.{NodeInput}
use Rattle.messages.specs.declared.event.NodeInput.TheVariants as input
use Rattle.messages.specs.declared.message.Body.{Body}
use Rattle.messages.specs.declared.message.Body.TheVariants as body
use Rattle.messages.specs.declared.message.Message.{Message}
use Rattle.messages.specs.declared.message.Change.{Change}
use Rattle.messages.specs.declared.message.Change.TheVariants as change
use Rattle.protocol.specs.Tables.{Table, element_at, with_at, without}
use Rattle.protocol.specs.Sending.{the_server, handle_of, version_of, serial_of, server_number, order_number}
use Rattle.protocol.specs.Choice.{Choice, Ending, Goes, Lost, Stops, decided_changes}
use Rattle.protocol.specs.Seen.{Taken, no_step}
use Rattle.protocol.specs.declared.seen.Seen.TheVariants.{BecameSettled}
use Rattle.replica_store.specs.declared.change.StoreChange.{StoreChange}
use Rattle.replica_store.specs.declared.change.StoreChange.TheVariants.{SetOrder, Put, Write, Zero, Raise, Copy, Remove, Rot}
use Rattle.replica_store.specs.Replicas.{Replica, ServerDisk, new_server_disk, replica_of, with_replica, replica_becomes, stored_replica, written_replica, raised_replica, rotten_replica, own_bytes, disk_changed, disk_changed_by_all, is_new_order}
use Rattle.laws_base.proofs.Rots.{rotting, ends_by, after_rot_by}
use Rattle.data_push.specs.Buffers.{data_of}
use Rattle.primary_order.specs.declared.answer.Settled.{Settled}
use Rattle.primary_order.specs.PrimaryOrder.{place_of}
use Rattle.primary_order.specs.SerialOrder.{SerialOrder, numbered, settled, acknowledged}
use Rattle.protocol.specs.Server.{ServerState, ServerDoing, started_server, server_begins, sends, stores, shows, with_primary, drops_corrupt}
use Rattle.protocol.specs.ServerWrites.{answers_settled, forwards, settles, acknowledges, change_of, stored_as, primary_applies}
use Rattle.protocol.specs.ServerOrders.{takes_clone}
use Rattle.protocol.specs.ServerStep.{server_at, server_goes, server_ends, server_step, server_restarts, server_restart}
use Rattle.protocol.specs.World.{WorldState, new_world, IsReached, after_rot}
use Rattle.laws_base.proofs.ServerWalk.{Imaging, Numbering, Storing, IsStoredAs, IsNewOrder, Outcomes, with_order, number_of, installed, server_comes_to}
use Rattle.laws_base.proofs.Steps.{on_cond, none_some, put_cases, gone_split}
use Rattle.laws_base.proofs.ServerMoves.{all-push}
use Rattle.laws_base.proofs.MembersRecorded.{kept_place}
use Rattle.laws_base.proofs.RisingOrders.{element_numbered, Later, IsRisen, risen_later, set_cases}
use Rattle.laws_base.proofs.LeasesTold.{stale_later, numbered_from}
use Rattle.laws_base.proofs.Events.{IsGiven, HoldsAfter, world_reached, rot_of}
use Rattle.laws_base.specs.Given.{version_given}
use Rattle.laws_versions.specs.HeldVersions.{version_cloned}
use Rattle.laws_versions.specs.TakenOrders.{IsTaken, ReplicasAreOfTakenOrders, PendingClonesAreOfTakenOrders}

-- of at most one change that is under way

one_next : (xs : List StoreChange) (made : ℕ) → length (take 1 (drop made xs)) ≤ 1
one_next [] zero = omega arith
one_next (x ∷ xs) zero = omega arith
one_next [] (suc made) = omega arith
one_next (x ∷ xs) (suc made) = one_next xs made

decided_none : (decided : List Bool) → decided_changes {C = StoreChange} decided [] ≡ []
decided_none [] = refl
decided_none (made ∷ rest) = refl

-- what is delivered to the server was sent to it
abbrev pub IsSentHere : List Message → ℕ → NodeInput → Type 0
IsSentHere sent server (input.Deliver m) = (place : ℕ) × (element_at sent place ≡ Some m) × (m.receiver ≡ the_server server)
IsSentHere sent server input.Tick = Unit {0}

pub given_here : (w : WorldState) (e : Event) (index moment : ℕ) (i : NodeInput) → IsGiven w e (the_server (suc index)) moment i → IsSentHere w.sent (suc index) i
given_here w (event.Deliver number now) index moment (input.Deliver m) is = (number - 1, element_numbered w.sent number m is.0, is.1)
given_here w (event.Tick to now) index moment input.Tick is = tt
given_here w (event.Deliver number now) index moment input.Tick is = tt
given_here w (event.Tick to now) index moment (input.Deliver m) is = absurd is
given_here w (event.Call client c now) index moment i is = absurd is
given_here w (event.Restart to now) index moment i is = absurd is
given_here w (event.Rot to handle place byte) index moment i is = absurd is
given_here w (event.Fuse to count torn) index moment i is = absurd is

module _ (sent : List Message) (server : ℕ) where
  -- an order to this server said so, and the disk refuses it
  abbrev pub IsOrdered : ServerDisk → ℕ → ℕ → Type 0
  IsOrdered d handle version = IsTaken version_given sent server d.epoch d.count handle version ⊎ IsTaken version_cloned sent server d.epoch d.count handle version

  -- a change, from this disk, sets no order's number but a new one, and gives a replica no version but one of an order that was taken
  abbrev pub IsOfTakenOrder : ServerDisk → StoreChange → Type 0
  IsOfTakenOrder d (SetOrder order) = is_new_order d order.epoch order.count ≡ true
  IsOfTakenOrder d (Put handle version serial bytes) = IsOrdered d handle.0 version.0
  IsOfTakenOrder d (Write handle serial offset bytes) = Unit {0}
  IsOfTakenOrder d (Zero handle serial offset count) = Unit {0}
  IsOfTakenOrder d (Raise handle version) = IsOrdered d handle.0 version.0
  IsOfTakenOrder d (Copy handle copy version) = IsOrdered d copy.0 version.0
  IsOfTakenOrder d (Remove handle) = Unit {0}
  IsOfTakenOrder d (Rot handle place byte) = Unit {0}

  -- each change, after those before it
  abbrev pub AreOfTakenOrders : ServerDisk → List StoreChange → Type 0
  AreOfTakenOrders d [] = Unit {0}
  AreOfTakenOrders d (x ∷ xs) = IsOfTakenOrder d x × AreOfTakenOrders (disk_changed d x) xs

  abbrev pub AreOrdered : ServerDisk → Type 0
  AreOrdered d = (handle : ℕ) (r : Replica) → replica_of d handle ≡ Some r → IsOrdered d handle r.version

  abbrev pub AreCloned : ServerDisk → Table ℕ → Type 0
  AreCloned d clones = (handle version : ℕ) → table.get clones handle ≡ Some version → IsTaken version_cloned sent server d.epoch d.count handle version

  -- an order that was taken stays so

  taken_later : (kind : Body → Option (ℕ × ℕ)) (d e : ServerDisk) (handle version : ℕ) → Later d e → IsTaken kind sent server d.epoch d.count handle version
      → IsTaken kind sent server e.epoch e.count handle version
  taken_later kind d e handle version later h =
      record { place = h.place; message = h.message; order = h.order; at = h.at; receiver = h.receiver; number = h.number; is = h.is; taken = stale_later d e h.order later h.taken }

  pub ordered_later : (d e : ServerDisk) (handle version : ℕ) → Later d e → IsOrdered d handle version → IsOrdered e handle version
  ordered_later d e handle version later (inl given) = inl (taken_later version_given d e handle version later given)
  ordered_later d e handle version later (inr cloned) = inr (taken_later version_cloned d e handle version later cloned)

  cloned_later : (d e : ServerDisk) (clones : Table ℕ) → Later d e → AreCloned d clones → AreCloned e clones
  cloned_later d e clones later h handle version is = taken_later version_cloned d e handle version later (h handle version is)

  -- a change that is sound never lowers the order's number
  sound_risen : (d : ServerDisk) (x : StoreChange) → IsOfTakenOrder d x → IsRisen d x
  sound_risen d (SetOrder order) sound = sound
  sound_risen d (Put handle version serial bytes) sound = tt
  sound_risen d (Write handle serial offset bytes) sound = tt
  sound_risen d (Zero handle serial offset count) sound = tt
  sound_risen d (Raise handle version) sound = tt
  sound_risen d (Copy handle copy version) sound = tt
  sound_risen d (Remove handle) sound = tt
  sound_risen d (Rot handle place byte) sound = tt

  sound_later : (d : ServerDisk) (x : StoreChange) → IsOfTakenOrder d x → Later d (disk_changed d x)
  sound_later d x sound = risen_later d x (sound_risen d x sound)

  put_ordered : (d : ServerDisk) (at : ℕ) (new : Replica) → IsOrdered d at new.version → AreOrdered d → AreOrdered (with_replica d at new)
  put_ordered d at new ordered h handle r is =
      elim (put_cases d.replicas at new handle r is) [
        | inl same ↦ subst (λ (k : ℕ). IsOrdered d k r.version) (sym same.0) (subst (λ (x : Replica). IsOrdered d at x.version) same.1 ordered)
        | inr before ↦ h handle r before
      ]

  becomes_ordered : (f : Replica → Replica) (d : ServerDisk) (at : ℕ) (o : Option Replica) → ((r : Replica) → o ≡ Some r → IsOrdered d at (f r).version) → AreOrdered d
      → AreOrdered (replica_becomes f d at o)
  becomes_ordered f d at None new h = h
  becomes_ordered f d at (Some r) new h = put_ordered d at (f r) (new r refl) h

  changed_ordered : (d : ServerDisk) (x : StoreChange) → IsOfTakenOrder d x → AreOrdered d → AreOrdered (disk_changed d x)
  changed_ordered d (SetOrder order) sound h = λ handle r is. ordered_later d (disk_changed d (SetOrder order)) handle r.version (sound_later d (SetOrder order) sound) (h handle r is)
  changed_ordered d (Put handle version serial bytes) sound h = put_ordered d handle.0 (stored_replica d.chunk d.block version.0 serial.0 bytes) sound h
  changed_ordered d (Write handle serial offset bytes) sound h = becomes_ordered (λ r. written_replica d.block r serial.0 offset bytes) d handle.0 (replica_of d handle.0) (λ r is. h handle.0 r is) h
  changed_ordered d (Zero handle serial offset count) sound h = becomes_ordered _ d handle.0 (replica_of d handle.0) (λ r is. h handle.0 r is) h
  changed_ordered d (Raise handle version) sound h = becomes_ordered (λ r. raised_replica r version.0) d handle.0 (replica_of d handle.0) (λ r is. sound) h
  changed_ordered d (Copy handle copy version) sound h = becomes_ordered (λ r. stored_replica d.chunk d.block version.0 0 (own_bytes r)) d copy.0 (replica_of d handle.0) (λ r is. sound) h
  changed_ordered d (Remove handle) sound h = λ k r is. h k r (gone_split d.replicas handle.0 k r is).1
  changed_ordered d (Rot handle place byte) sound h = becomes_ordered (λ r. rotten_replica r place byte) d handle.0 (replica_of d handle.0) (λ r is. h handle.0 r is) h

  all_ordered : (d : ServerDisk) (xs : List StoreChange) → AreOfTakenOrders d xs → AreOrdered d → AreOrdered (disk_changed_by_all d xs)
  all_ordered d [] sound h = h
  all_ordered d (x ∷ xs) sound h = all_ordered (disk_changed d x) xs sound.1 (changed_ordered d x sound.0 h)

  -- changes that were made, and the one after them

  all_taken : (d : ServerDisk) (xs : List StoreChange) (made : ℕ) → AreOfTakenOrders d xs → AreOfTakenOrders d (take made xs)
  all_taken d xs zero sound = tt
  all_taken d [] (suc made) sound = tt
  all_taken d (x ∷ xs) (suc made) sound = (sound.0, all_taken (disk_changed d x) xs made sound.1)

  next_sound : (d : ServerDisk) (xs : List StoreChange) (made : ℕ) → AreOfTakenOrders d xs → AreOfTakenOrders (disk_changed_by_all d (take made xs)) (take 1 (drop made xs))
  next_sound d [] zero sound = tt
  next_sound d (x ∷ xs) zero sound = (sound.0, tt)
  next_sound d [] (suc made) sound = tt
  next_sound d (x ∷ xs) (suc made) sound = next_sound (disk_changed d x) xs made sound.1

  sound_push : (d : ServerDisk) (xs : List StoreChange) (x : StoreChange) → AreOfTakenOrders d xs → IsOfTakenOrder (disk_changed_by_all d xs) x → AreOfTakenOrders d (xs ++ x ∷ [])
  sound_push d [] x sound more = (more, tt)
  sound_push d (y ∷ ys) x sound more = (sound.0, sound_push (disk_changed d y) ys x sound.1 more)

  -- what is found of one change under way
  found_ordered : (d : ServerDisk) (xs : List StoreChange) (decided : List Bool) → AreOfTakenOrders d xs → length xs ≤ 1 → AreOrdered d
      → AreOrdered (disk_changed_by_all d (decided_changes decided xs))
  found_ordered d xs [] sound few h = h
  found_ordered d [] (made ∷ rest) sound few h = h
  found_ordered d (x ∷ []) (true ∷ rest) sound few h =
      subst (λ (ys : List StoreChange). AreOrdered (disk_changed_by_all (disk_changed d x) ys)) (sym (decided_none rest)) (changed_ordered d x sound.0 h)
  found_ordered d (x ∷ []) (false ∷ rest) sound few h = subst (λ (ys : List StoreChange). AreOrdered (disk_changed_by_all d ys)) (sym (decided_none rest)) h
  found_ordered d (x ∷ y ∷ ys) (made ∷ rest) sound few h = absurd (omega (arith, few))

  -- a server, between its steps
  pub record IsFaithful (s : ServerState) : Type 0 where
    pub disk : AreOrdered s.disk
    pub clones : AreCloned s.disk s.clones
    pub under_way : AreOfTakenOrders s.disk s.under_way
    pub few : length s.under_way ≤ 1
    pub idle : IsTrue s.up → s.under_way ≡ []

  -- a step so far, from a disk
  module _ (start : ServerDisk) where
    abbrev after : ServerDoing → ServerDisk
    after d = disk_changed_by_all start d.changes

    record Holds (d : ServerDoing) : Type 0 where
      same : d.server.disk ≡ start
      clones : AreCloned (after d) d.server.clones
      changes : AreOfTakenOrders start d.changes
      idle : d.server.under_way ≡ []

    stores_holds : (d : ServerDoing) (x : StoreChange) → IsOfTakenOrder (after d) x → Holds d → Holds (stores d x)
    stores_holds d x sound h =
        record {
          same = h.same;
          clones = subst (λ (e : ServerDisk). AreCloned e d.server.clones) (sym (all-push start d.changes x)) (cloned_later (after d) (disk_changed (after d) x) d.server.clones (sound_later (after d) x sound) h.clones);
          changes = sound_push start d.changes x h.changes sound;
          idle = h.idle;
        }

    corrupt_holds : (d : ServerDoing) (handle : ℕ) → Holds d → Holds (drops_corrupt d handle)
    corrupt_holds d handle h = let s = stores_holds d (Remove (handle_of handle)) tt h in record { same = s.same; clones = s.clones; changes = s.changes; idle = s.idle }

    -- the same server but for its leases and pushed data
    again : (d e : ServerDoing) → e.server.disk ≡ d.server.disk → e.server.clones ≡ d.server.clones → e.server.under_way ≡ d.server.under_way → e.changes ≡ d.changes → Holds d → Holds e
    again d e disk clones under_way changes h =
        record {
          same = disk ∙ h.same;
          clones = subst (λ (xs : List StoreChange). AreCloned (disk_changed_by_all start xs) e.server.clones) (sym changes) (subst (λ (t : Table ℕ). AreCloned (after d) t) (sym clones) h.clones);
          changes = subst (λ (xs : List StoreChange). AreOfTakenOrders start xs) (sym changes) h.changes;
          idle = under_way ∙ h.idle;
        }

    settled_holds : (d : ServerDoing) (id : DataId) (o : Option ℕ) → Holds d → Holds (answers_settled d id o)
    settled_holds d id None h = again d _ refl refl refl refl h
    settled_holds d id (Some place) h = again d _ refl refl refl refl h

    settles_holds : (d : ServerDoing) (handle version serial : ℕ) (o : Option Settled) → Holds d → Holds (settles d handle version serial o)
    settles_holds d handle version serial None h = h
    settles_holds d handle version serial (Some s) h =
        let seen : ServerDoing = shows d (BecameSettled (handle_of handle) (version_of version) (serial_of serial)) in
        settled_holds seen (record { client = s.client; seq = s.seq }) s.place (again d seen refl refl refl refl h)

    acks_holds : (d : ServerDoing) (handle : ℕ) (p : SerialOrder) (member serial : ℕ) → Holds d → Holds (acknowledges d handle p member serial)
    acks_holds d handle p member serial h =
        settles_holds (with_primary d handle (acknowledged p member serial)) handle p.held.version serial (settled p member serial) (again d _ refl refl refl refl h)

    stored_sound : (e : ServerDisk) (handle serial : ℕ) (m : Mutation) → IsOfTakenOrder e (stored_as handle serial m)
    stored_sound e handle serial (mutation.Write offset bytes) = tt
    stored_sound e handle serial (mutation.Append offset bytes) = tt
    stored_sound e handle serial (mutation.Pad offset end) = tt

    clone_holds : (handle version source : ℕ) (d : ServerDoing) → IsTaken version_cloned sent server (after d).epoch (after d).count handle version → Holds d
        → Holds (takes_clone d handle version source)
    clone_holds handle version source d cloned h =
        record {
          same = h.same;
          clones = λ other v is.
              elim (put_cases d.server.clones handle version other v is) [
                | inl same ↦
                    subst (λ (k : ℕ). IsTaken version_cloned sent server (after d).epoch (after d).count k v) (sym same.0)
                    (subst (λ (n : ℕ). IsTaken version_cloned sent server (after d).epoch (after d).count handle n) same.1 cloned)
                | inr before ↦ h.clones other v before
              ];
          changes = h.changes;
          idle = h.idle;
        }

    written_sound : (e : ServerDisk) (handle serial : ℕ) (kept : Option (List ℕ)) (named : Change) (x : StoreChange) (from end_place : ℕ)
        → IsStoredAs handle serial kept named x from end_place → IsOfTakenOrder e x
    written_sound e handle serial kept (change.Write offset) x from end_place h = subst (IsOfTakenOrder e) (sym h.2) tt
    written_sound e handle serial kept (change.Append offset) x from end_place h = subst (IsOfTakenOrder e) (sym h.2) tt
    written_sound e handle serial kept (change.Pad offset end) x from end_place h = subst (IsOfTakenOrder e) (sym h.0) tt

  -- the step on a message that was sent to this server
  module _ (s : ServerState) (i : NodeInput) (is : IsSentHere sent server i) (h : Holds s.disk (server_begins s)) where
    abbrev Begun : ServerDoing
    Begun = server_begins s

    -- the disk after an order's number, which it refuses from then on
    abbrev Ordered : OrderNo → ServerDisk
    Ordered order = disk_changed s.disk (SetOrder order)

    ordered : (order : OrderNo) → IsNewOrder s order → Holds s.disk (with_order s order)
    ordered order new = stores_holds s.disk (server_begins s) (SetOrder order) new h

    took : (kind : Body → Option (ℕ × ℕ)) (m : Message) (order : OrderNo) (handle version : ℕ) → i ≡ input.Deliver m → order_number m.body ≡ Some order → kind m.body ≡ Some (handle, version)
        → IsTaken kind sent server (Ordered order).epoch (Ordered order).count handle version
    took kind m order handle version came number gives =
        let here = subst (IsSentHere sent server) came is in
        record { place = here.0; message = m; order = order; at = here.1; receiver = here.2; number = number; is = gives; taken = inr (refl, omega arith) }

    given : (m : Message) (order : OrderNo) (handle version : ℕ) → i ≡ input.Deliver m → order_number m.body ≡ Some order → version_given m.body ≡ Some (handle, version)
        → IsOrdered (Ordered order) handle version
    given m order handle version came number gives = inl (took version_given m order handle version came number gives)

    -- a change after an order's number
    records_holds : (order : OrderNo) (x : StoreChange) (e : ServerDoing) → e.server.disk ≡ s.disk → e.server.clones ≡ s.clones → e.server.under_way ≡ s.under_way
        → e.changes ≡ (with_order s order).changes ++ x ∷ []
        → IsNewOrder s order → IsOfTakenOrder (Ordered order) x → Holds s.disk e
    records_holds order x e disk clones under_way changes new sound =
        again s.disk (stores (with_order s order) x) e disk clones under_way changes (stores_holds s.disk (with_order s order) x sound (ordered order new))

    applied_holds : (n : Numbering s i) → Holds s.disk (primary_applies (number_of s i n) n.a.c.handle.0 n.a.p n.a.c.id n.placed)
    applied_holds n =
        let q : ℕ = n.a.c.handle.0 in
        let serial : ℕ = n.a.p.serial + 1 in
        let x : StoreChange = stored_as q serial n.placed in
        acks_holds s.disk (forwards (stores (number_of s i n) x) (without n.a.p.held.members s.id) q n.a.p.held.version serial n.a.c.id n.a.p.chunk (change_of n.placed)) q (numbered n.a.p n.a.c.id.client n.a.c.id.seq (place_of n.placed)) s.id serial
        (again s.disk (stores (server_begins s) x) _ refl refl refl refl (stores_holds s.disk (server_begins s) x (stored_sound s.disk s.disk q serial n.placed) h))

    member_sound : (t : Storing s i) → IsOfTakenOrder s.disk t.x
    member_sound t = written_sound s.disk s.disk t.f.c.handle.0 t.f.c.serial.0 (data_of s.pushed t.f.c.id) t.f.c.named t.x t.from t.end_place t.stored

    installed_holds : (c : Imaging i) → table.get s.clones c.handle.0 ≡ Some c.version.0
        → Holds s.disk (sends (installed s c.handle.0 c.version.0 c.serial.0 c.bytes) Master (body.Cloned (handle_of c.handle.0) (version_of c.version.0)))
    installed_holds c pending =
        let stored = stores_holds s.disk (server_begins s) (Put (handle_of c.handle.0) (version_of c.version.0) (serial_of c.serial.0) c.bytes) (inr (h.clones c.handle.0 c.version.0 pending)) h in
        record {
          same = stored.same;
          clones = λ other v there. stored.clones other v (gone_split s.clones c.handle.0 other v there).1;
          changes = stored.changes;
          idle = stored.idle;
        }

    outcomes : Outcomes s i (λ d. Holds s.disk d)
    outcomes =
        record {
          rests = h;
          ticks = λ came. again s.disk Begun _ refl refl refl refl h;
          ends_push = λ c. again s.disk Begun _ refl refl refl refl h;
          passes_push = λ c next. again s.disk Begun _ refl refl refl refl h;
          misses_chunk = λ c. again s.disk Begun _ refl refl refl refl h;
          misses_version = λ c. again s.disk Begun _ refl refl refl refl h;
          reads_rot = λ c. again s.disk (drops_corrupt Begun c.handle.0) _ refl refl refl refl (corrupt_holds s.disk Begun c.handle.0 h);
          reads = λ c r bytes found same read. again s.disk Begun _ refl refl refl refl h;
          measures = λ c r found same. again s.disk Begun _ refl refl refl refl h;
          copies_rot = λ c. corrupt_holds s.disk Begun c.handle.0 h;
          copies = λ c r bytes found same read. again s.disk Begun _ refl refl refl refl h;
          lacks_lease = λ c. again s.disk Begun _ refl refl refl refl h;
          is_late = λ l late. again s.disk Begun _ refl refl refl refl h;
          is_old = λ l old. again s.disk Begun _ refl refl refl refl h;
          was_placed = λ l place was. again s.disk Begun _ refl refl refl refl h;
          was_padded = λ l was. again s.disk Begun _ refl refl refl refl h;
          was_refused = λ l refusal was. again s.disk Begun _ refl refl refl refl h;
          lacks_data = λ a. again s.disk Begun _ refl refl refl refl h;
          is_long = λ a. again s.disk Begun _ refl refl refl refl h;
          is_full = λ a. again s.disk Begun _ refl refl refl refl h;
          spoils = λ n rotten. again s.disk (drops_corrupt Begun n.a.c.handle.0) _ refl refl refl refl (corrupt_holds s.disk Begun n.a.c.handle.0 h);
          applies = λ n sound. applied_holds n;
          lacks_replica = λ c none. again s.disk Begun _ refl refl refl refl h;
          has_version = λ c r found other. again s.disk Begun _ refl refl refl refl h;
          has_serial = λ f least. again s.disk Begun _ refl refl refl refl h;
          lacks_bytes = λ f none. again s.disk Begun _ refl refl refl refl h;
          stores_rot = λ t rotten. again s.disk (drops_corrupt Begun t.f.c.handle.0) _ refl refl refl refl (corrupt_holds s.disk Begun t.f.c.handle.0 h);
          stored = λ t sound. again s.disk (stores Begun t.x) _ refl refl refl refl (stores_holds s.disk Begun t.x (member_sound t) h);
          acked = λ c p primary. acks_holds s.disk Begun c.handle.0 p (server_number c.m.sender) c.serial.0 h;
          nacked = λ c p w primary waits. again s.disk Begun _ refl refl refl refl h;
          nacked_late = λ c p primary. again s.disk Begun _ refl refl refl refl h;
          orders = λ o new. ordered o.order new;
          creates = λ c new none. records_holds c.order (Put (handle_of c.handle.0) (version_of c.version.0) (serial_of 0) []) _ refl refl refl refl new (given c.m c.order c.handle.0 c.version.0 c.came (ap order_number c.is) (ap version_given c.is));
          raised = λ c r new found same. records_holds c.order (Raise (handle_of c.handle.0) (version_of c.version.0)) _ refl refl refl refl new (given c.m c.order c.handle.0 c.version.0 c.came (ap order_number c.is) (ap version_given c.is));
          grants = λ c new holds. again s.disk (with_order s c.order) _ refl refl refl refl (ordered c.order new);
          revokes = λ c q new same. again s.disk (with_order s c.order) _ refl refl refl refl (ordered c.order new);
          revoked = λ c new apart. again s.disk (with_order s c.order) _ refl refl refl refl (ordered c.order new);
          drops = λ c r new found old. corrupt_holds s.disk (with_order s c.order) c.handle.0 (ordered c.order new);
          clones = λ c new.
              clone_holds s.disk c.handle.0 c.version.0 c.source.0 (with_order s c.order) (took version_cloned c.m c.order c.handle.0 c.version.0 c.came (ap order_number c.is) (ap version_cloned c.is)) (ordered c.order new);
          copied = λ c r new found same sound none. records_holds c.order (Copy (handle_of c.handle.0) (handle_of c.copy.0) (version_of c.copy_version.0)) _ refl refl refl refl new (given c.m c.order c.copy.0 c.copy_version.0 c.came (ap order_number c.is) (ap version_given c.is));
          copied_rot = λ c new. corrupt_holds s.disk (with_order s c.order) c.handle.0 (ordered c.order new);
          extends = λ c q same. again s.disk Begun _ refl refl refl refl h;
          installs = λ c pending fits none. installed_holds c pending;
        }

  no_clones : (d : ServerDisk) → AreCloned d table.empty
  no_clones d handle version is = none_some version (sym (table.get-empty nat_cmp handle) ∙ is)

  -- a server that is put down, or that starts again
  stopped : (s : ServerState) → AreOrdered s.disk → s.clones ≡ table.empty → AreOfTakenOrders s.disk s.under_way → length s.under_way ≤ 1 → (IsTrue s.up → s.under_way ≡ []) → IsFaithful s
  stopped s disk none under_way few idle = record { disk = disk; clones = subst (λ (t : Table ℕ). AreCloned s.disk t) (sym none) (no_clones s.disk); under_way = under_way; few = few; idle = idle }

  ends_true : (s : ServerState) (d : ServerDoing) (choice : Choice) (e : Ending) → IsFaithful s → Holds s.disk d → IsFaithful (server_ends s d choice e).state
  ends_true s d choice Goes h g =
      let now : ServerDisk = disk_changed_by_all d.server.disk d.changes in
      record {
        disk = subst (λ (x : ServerDisk). AreOrdered (disk_changed_by_all x d.changes)) (sym g.same) (all_ordered s.disk d.changes g.changes h.disk);
        clones = subst (λ (x : ServerDisk). AreCloned (disk_changed_by_all x d.changes) d.server.clones) (sym g.same) g.clones;
        under_way = subst (λ (xs : List StoreChange). AreOfTakenOrders now xs) (sym g.idle) tt;
        few = subst (λ (xs : List StoreChange). length xs ≤ 1) (sym g.idle) (omega arith);
        idle = λ _. g.idle;
      }
  ends_true s d choice Lost h g = stopped (server_ends s d choice Lost).state h.disk refl tt (omega arith) (λ _. refl)
  ends_true s d choice (Stops made) h g =
      stopped (server_ends s d choice (Stops made)).state (all_ordered s.disk (take made d.changes) (all_taken s.disk d.changes made g.changes) h.disk) refl (next_sound s.disk d.changes made g.changes) (one_next d.changes made)
      (λ up. absurd (true≢false (sym up)))

  step_true : (s : ServerState) (moment : ℕ) (i : NodeInput) (choice : Choice) → IsSentHere sent server i → IsFaithful s → IsFaithful (server_step s moment i choice).state
  step_true s moment i choice is h =
      on_cond (λ (t : Taken ServerState). IsFaithful t.state) s.up (server_ends s (server_goes s moment i) choice choice.ending) (no_step s)
      (λ up. ends_true s (server_goes s moment i) choice choice.ending h
      (server_comes_to (λ d. Holds s.disk d) s moment i (outcomes (server_at s moment) i is (record { same = refl; clones = h.clones; changes = tt; idle = h.idle up })))) (λ _. h)

  restart_true : (s : ServerState) (moment : ℕ) (choice : Choice) (e : Ending) → IsFaithful s → IsFaithful (server_restarts s moment choice e).state
  restart_true s moment choice Lost h = stopped (server_restarts s moment choice Lost).state h.disk refl h.under_way h.few (λ up. absurd (true≢false (sym up)))
  restart_true s moment choice (Stops made) h =
      stopped (server_restarts s moment choice (Stops made)).state (found_ordered s.disk s.under_way choice.decided h.under_way h.few h.disk) refl tt (omega arith) (λ _. refl)
  restart_true s moment choice Goes h =
      stopped (server_restarts s moment choice Goes).state (found_ordered s.disk s.under_way choice.decided h.under_way h.few h.disk) refl tt (omega arith) (λ _. refl)

-- what was sent before was sent

pub taken_more : (kind : Body → Option (ℕ × ℕ)) (sent ms : List Message) (server epoch count handle version : ℕ) → IsTaken kind sent server epoch count handle version
    → IsTaken kind (sent ++ ms) server epoch count handle version
taken_more kind sent ms server epoch count handle version h =
    record { place = h.place; message = h.message; order = h.order; at = kept_place sent ms h.place h.message h.at; receiver = h.receiver; number = h.number; is = h.is; taken = h.taken }

pub ordered_more : (sent ms : List Message) (server : ℕ) (d : ServerDisk) (handle version : ℕ) → IsOrdered sent server d handle version → IsOrdered (sent ++ ms) server d handle version
ordered_more sent ms server d handle version (inl given) = inl (taken_more version_given sent ms server d.epoch d.count handle version given)
ordered_more sent ms server d handle version (inr cloned) = inr (taken_more version_cloned sent ms server d.epoch d.count handle version cloned)

sound_more : (sent ms : List Message) (server : ℕ) (d : ServerDisk) (x : StoreChange) → IsOfTakenOrder sent server d x → IsOfTakenOrder (sent ++ ms) server d x
sound_more sent ms server d (Put handle version serial bytes) h = ordered_more sent ms server d handle.0 version.0 h
sound_more sent ms server d (Raise handle version) h = ordered_more sent ms server d handle.0 version.0 h
sound_more sent ms server d (Copy handle copy version) h = ordered_more sent ms server d copy.0 version.0 h
sound_more sent ms server d (SetOrder order) h = h
sound_more sent ms server d other h = tt

all_more : (sent ms : List Message) (server : ℕ) (d : ServerDisk) (xs : List StoreChange) → AreOfTakenOrders sent server d xs → AreOfTakenOrders (sent ++ ms) server d xs
all_more sent ms server d [] h = tt
all_more sent ms server d (x ∷ xs) h = (sound_more sent ms server d x h.0, all_more sent ms server (disk_changed d x) xs h.1)

true_more : (sent ms : List Message) (server : ℕ) (s : ServerState) → IsFaithful sent server s → IsFaithful (sent ++ ms) server s
true_more sent ms server s h =
    record {
      disk = λ handle r is. ordered_more sent ms server s.disk handle r.version (h.disk handle r is);
      clones = λ handle version is. taken_more version_cloned sent ms server s.disk.epoch s.disk.count handle version (h.clones handle version is);
      under_way = all_more sent ms server s.disk s.under_way h.under_way;
      few = h.few;
      idle = h.idle;
    }

-- worlds

abbrev pub AreFaithful : List Message → List ServerState → Type 0
AreFaithful sent servers = (index : ℕ) (s : ServerState) → element_at servers index ≡ Some s → IsFaithful sent (suc index) s

all_faithful_more : (sent ms : List Message) (servers : List ServerState) → AreFaithful sent servers → AreFaithful (sent ++ ms) servers
all_faithful_more sent ms servers h index s at = true_more sent ms (suc index) s (h index s at)

one_faithful : (sent : List Message) (servers : List ServerState) (index : ℕ) (t : ServerState) → IsFaithful sent (suc index) t → AreFaithful sent servers → AreFaithful sent (with_at servers index t)
one_faithful sent servers index t new h other u is =
    elim (set_cases servers index t other u is) [
      | inl both ↦ subst (λ (k : ℕ). IsFaithful sent (suc k) u) (sym both.0) (subst (λ (v : ServerState). IsFaithful sent (suc index) v) (sym both.1) new)
      | inr there ↦ h other u there
    ]

rotten_faithful : (sent : List Message) (server : ℕ) (s : ServerState) (handle place byte : ℕ) (e : Ending) → IsTrue s.up → IsFaithful sent server s → IsFaithful sent server (after_rot s (rot_of handle place byte) e)
rotten_faithful sent server s handle place byte e up h =
    after_rot_by (λ t. IsFaithful sent server t) s (rot_of handle place byte) e
    (ends_true sent server s (rotting s (rot_of handle place byte)) (ends_by e) e h (stores_holds sent server s.disk (server_begins s) (rot_of handle place byte) tt (record { same = refl; clones = h.clones; changes = tt; idle = h.idle up })))

each_event : (w : WorldState) → AreFaithful w.sent w.servers → HoldsAfter w (λ e h. AreFaithful h.world.sent h.world.servers)
each_event w h =
    record {
      nothing = λ e. h;
      masters = λ e moment i choice is up. all_faithful_more w.sent _ w.servers h;
      opens = λ e moment choice. all_faithful_more w.sent _ w.servers h;
      serves = λ e index moment s i choice at is up.
          all_faithful_more w.sent _ _ (one_faithful w.sent w.servers index (server_step s moment i choice).state (step_true w.sent (suc index) s moment i choice (given_here w e index moment i is) (h index s at)) h);
      restarts = λ e index moment s choice at.
          all_faithful_more w.sent _ _ (one_faithful w.sent w.servers index (server_restart s moment choice).state (restart_true w.sent (suc index) s moment choice choice.ending (h index s at)) h);
      steps = λ e index moment s i choice at is up. all_faithful_more w.sent _ w.servers h;
      calls = λ e index moment s c choice at may. all_faithful_more w.sent _ w.servers h;
      rots = λ e index handle s r place byte ending is_kept at there up. one_faithful w.sent w.servers index _ (rotten_faithful w.sent (suc index) s handle place byte ending up (h index s at)) h;
    }

new_faithful : (config : Config) (servers clients : ℕ) → AreFaithful (new_world config servers clients).sent (new_world config servers clients).servers
new_faithful config servers clients index s at =
    subst (λ (t : ServerState). IsFaithful [] (suc index) t) (sym (numbered_from (λ n. started_server config n (new_server_disk config.chunk config.block config.slots) 0) servers index s at))
    (record { disk = λ handle r is. none_some r (sym (table.get-empty nat_cmp handle) ∙ is); clones = no_clones [] (suc index) (new_server_disk config.chunk config.block config.slots); under_way = tt; few = omega arith; idle = λ _. refl })

pub servers_are_faithful : (config : Config) (servers clients : ℕ) (w : WorldState) → IsReached config servers clients w → AreFaithful w.sent w.servers
servers_are_faithful config servers clients w r = world_reached (λ v. AreFaithful v.sent v.servers) each_event new_faithful config servers clients w r

pub replicas_are_of_taken_orders : ReplicasAreOfTakenOrders
replicas_are_of_taken_orders config servers clients w r index s at handle replica there = (servers_are_faithful config servers clients w r index s at).disk handle replica there

pub pending_clones_are_of_taken_orders : PendingClonesAreOfTakenOrders
pending_clones_are_of_taken_orders config servers clients w r index s at handle version there = (servers_are_faithful config servers clients w r index s at).clones handle version there
