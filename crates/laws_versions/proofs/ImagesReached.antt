-- In each reached world with kept clocks and disks replicas and Images are images of their orders.
use Rattle.std.proofs.Common.{◌≡◌, ℕ, zero, suc, min, Bool, true, false, List, [], ◌∷◌, ◌++◌, length, take, Option, Some, None, refl, sym, ap, subst, ◌∙◌, inl, inr}
use Rattle.std.specs.Prelude.{◌&&◌, nat_le, filter, IsTrue, ◌+◌, ◌≤◌}
use Rattle.std.specs.Option.{option_to_list}
use Rattle.std.specs.FinMap as table
use Rattle.std.specs.Ordering.{nat_cmp}
use Rattle.std.specs.Str.{bytes_eq}
use Rattle.std.proofs.lemmas.Bool.{and_parts, true≢false}
use Rattle.gfs_types.specs.declared.answer.Answer.{Answer}
use Rattle.gfs_types.specs.declared.config.Config.{Config}
use Rattle.gfs_types.specs.Mutations.{start_of, end_of}
use Rattle.messages.specs.declared.event.Event.{Event}
use Rattle.messages.specs.declared.event.NodeInput.{NodeInput}
use Rattle.messages.specs.declared.event.NodeInput.TheVariants as input
use Rattle.messages.specs.declared.message.Body.{Body}
use Rattle.messages.specs.declared.message.Body.TheVariants as body
use Rattle.messages.specs.declared.message.Message.{Message}
use Rattle.relaxed_file.specs.Run.{Visible}
use Rattle.replica_store.specs.declared.change.StoreChange.{StoreChange}
use Rattle.replica_store.specs.Replicas.{Replica, ServerDisk, new_server_disk, replica_of, with_replica, rotten_replica, disk_changed_by_all}
use Rattle.protocol.specs.Tables.{Table, element_at, with_at}
use Rattle.protocol.specs.Choice.{Choice, Ending, Goes, Lost, Stops, decided_changes}
use Rattle.protocol.specs.Seen.{is_numbering, Taken, no_step}
use Rattle.protocol.specs.declared.seen.Seen.{Seen}
use Rattle.protocol.specs.declared.seen.Seen.TheVariants.{Numbered}
use Rattle.protocol.specs.Observer.{Placed, Observer, observed_moment, observed_call, observed_answer, placed_in, order_of, orders_after_all}
use Rattle.protocol.specs.StoredBytes.{stored_bytes, stored_chunk, with_intact}
use Rattle.protocol.specs.Client.{ClientState, ClientDoing}
use Rattle.protocol.specs.ClientStep.{client_at, client_step, client_call}
use Rattle.protocol.specs.Server.{ServerState, ServerDoing, started_server}
use Rattle.protocol.specs.ServerStep.{found_disk, server_goes, server_ends, server_step, server_restarts, server_restart}
use Rattle.protocol.specs.MasterStep.{master_step, master_restart}
use Rattle.protocol.specs.World.{WorldState, new_world, stamped, after_master, after_server, after_client, happens, after_events, IsReached, is_kept, after_rot}
use Rattle.laws_base.proofs.Steps.{on_cond, none_some, same_some, same_or_not, put_cases}
use Rattle.laws_base.proofs.Entries.{AllOf}
use Rattle.laws_base.proofs.LeasesTold.{numbered_from}
use Rattle.laws_base.proofs.MembersRecorded.{all_at}
use Rattle.laws_base.proofs.MessagesSent.{IsSent, sent_cases, none_sent, numbered_sent}
use Rattle.laws_base.proofs.ClientNumbers.{IsSaid, IsStepOf, of_step, of_call}
use Rattle.laws_base.proofs.RequestsOnce.{numbered_reached}
use Rattle.laws_base.proofs.LeasesStayOver.{reached_later}
use Rattle.laws_base.proofs.MasterTalks.{is_masters, master_said, restart_said}
use Rattle.laws_base.proofs.Stemming.{came_in}
use Rattle.laws_base.proofs.Placing.{all_placed}
use Rattle.protocol_invariant.specs.Versions.{AreRising}
use Rattle.laws_versions.proofs.Rising.{orders_rise}
use Rattle.laws_base.proofs.CountedRounds.{set_split}
use Rattle.laws_base.proofs.Within.{entries_lie_within_the_chunk}
use Rattle.laws_base.proofs.RoundsPassed.{IsOfServers, server_shown}
use Rattle.laws_base.proofs.Forwards.{images_are_of_replicas}
use Rattle.laws_base.proofs.Events.{with_call, with_rot, rot_of, known_after, HoldsExactly, holds_exactly}
use Rattle.laws_base.proofs.Disks.{all_block}
use Rattle.laws_base.proofs.Lengths.{servers_within, settings_stay}
use Rattle.laws_versions.proofs.KeptDisks.{none_more, found_made, take_whole, frame_kept, other_server, other_replica, as_known, answered_notes, replicas_are_read_as_stored}
use Rattle.laws_versions.proofs.StoredChunks.{own_stored, rot_chunk_before, rot_chunk_after, same_notes}
use Rattle.laws_versions.specs.CopiedEntries.{Follows}
use Rattle.laws_versions.proofs.OrdersGrow.{IsAny, same_follows, all_grow, orders_grow}
use Rattle.laws_versions.specs.ReplicaImages.{marked, IsImageOf, ReplicasAreImages, SentImagesAreImages}
use Rattle.laws_versions.proofs.Images.{Carried, Holds, own_in, AreIn, holds_grown, IsImageSaid, starts_before_end, numbered_there, Leaves, Carries, after}
use Rattle.laws_base.proofs.Rots.{rot_idle, rot_found, rotten_disk}

-- what is seen

pub kept_filtered : (xs : List Seen) (place : ℕ) (x : Seen) → element_at xs place ≡ Some x → is_numbering x ≡ true → (n : ℕ) × (element_at (filter is_numbering xs) n ≡ Some x)
kept_filtered [] place x at is = none_some x at
kept_filtered (y ∷ xs) zero x at is =
    on_cond (λ (zs : List Seen). (n : ℕ) × (element_at zs n ≡ Some x)) (is_numbering y) (y ∷ filter is_numbering xs) (filter is_numbering xs) (λ _. (zero, at))
    (λ no. absurd (true≢false (sym is ∙ ap is_numbering (sym (same_some y x at)) ∙ no)))
kept_filtered (y ∷ xs) (suc place) x at is =
    let rest = kept_filtered xs place x at is in
    on_cond (λ (zs : List Seen). (n : ℕ) × (element_at zs n ≡ Some x)) (is_numbering y) (y ∷ filter is_numbering xs) (filter is_numbering xs) (λ _. (suc rest.0, rest.1)) (λ _. rest)

-- nothing more is carried along
abbrev pub Plain : Carried
Plain handle version ps = Unit {0}

plain_carried : (s : ServerState) (i : NodeInput) → Carries s i Plain Plain
plain_carried s i =
    record {
      more = λ handle version ps p h. tt;
      created = λ m taken order handle version is new. tt;
      imaged = λ m taken handle version serial bytes is ps h. tt;
      raised = λ m taken order handle version base is new ps h. tt;
      copied = λ m taken order handle from copy version is new ps h. tt;
    }

-- a server's replicas, by what was stored, however what is under way is decided; one that is up has nothing under way
pub record IsGood (K : Carried) (stored : ℕ → Replica → List ℕ) (orders : Table (List Placed)) (s : ServerState) : Type 0 where
  pub found : (decided : List Bool) → AreIn K stored orders (disk_changed_by_all s.disk (decided_changes decided s.under_way))
  pub idle : s.up ≡ true → s.under_way ≡ []

-- a replica on this server's disk, or as a restart finds it, however the change under way is decided
abbrev pub IsFound : ServerState → ℕ → Replica → Type 0
IsFound s handle x = (decided : List Bool) × (replica_of (disk_changed_by_all s.disk (decided_changes decided s.under_way)) handle ≡ Some x)

pub grown_good : (K : Carried) (stored now : ℕ → Replica → List ℕ) (from to : Table (List Placed)) (s : ServerState) → ((handle : ℕ) → Follows IsAny (placed_in from handle) (placed_in to handle))
    → ((handle : ℕ) (x : Replica) → IsFound s handle x → now handle x ≡ stored handle x) → IsGood K stored from s → IsGood K now to s
grown_good K stored now from to s grown same h =
    record {
      found = λ decided handle x is.
          subst (λ (bs : List ℕ). Holds K (placed_in to handle) handle x.version x.serial bs) (sym (same handle x (decided, is)))
          (holds_grown K (placed_in from handle) (placed_in to handle) handle x.version x.serial (stored handle x) (grown handle) (h.found decided handle x is));
      idle = h.idle;
    }

pub noted_good : {K : Carried} (stored now : ℕ → Replica → List ℕ) (orders : Table (List Placed)) (s : ServerState) → ((handle : ℕ) (x : Replica) → now handle x ≡ stored handle x) → IsGood K stored orders s → IsGood K now orders s
noted_good {K} stored now orders s same h =
    record { found = λ decided handle x is. subst (λ (bs : List ℕ). Holds K (placed_in orders handle) handle x.version x.serial bs) (sym (same handle x)) (h.found decided handle x is); idle = h.idle }

-- what is noted in another world is the same
pub own_noted : (w v : WorldState) → v.config ≡ w.config → v.observer.intact ≡ w.observer.intact → (index handle : ℕ) (x : Replica) → own_in v index handle x ≡ own_in w index handle x
own_noted w v config notes index handle x =
    ap (λ (c : Config). own_stored c.block v.observer index handle x) config ∙ ap (λ (bs : List ℕ). take x.count bs) (same_notes w.observer v.observer index handle w.config.block x notes)

-- by the blocks of a disk of a reached world, or that a restart finds
pub found_stored : (config : Config) (servers clients : ℕ) (w : WorldState) → IsReached config servers clients w → (index : ℕ) (s : ServerState) → element_at w.servers index ≡ Some s
    → (decided : List Bool) (handle : ℕ) (x : Replica) → own_in w index handle x ≡ stored_bytes w.observer index handle (disk_changed_by_all s.disk (decided_changes decided s.under_way)) x
found_stored config servers clients w r index s at decided handle x =
    ap (λ (n : ℕ). own_stored n w.observer index handle x) (sym (all_block s.disk (decided_changes decided s.under_way) ∙ own))
  where
    own : s.disk.block ≡ w.config.block
    own = (servers_within config servers clients w r index s at).block ∙ sym (ap (λ (c : Config). c.block) (settings_stay config servers clients w r))

-- the same bytes are the same image
pub same_image : (P : List Placed → Type 0) (order : List Placed) (version serial : ℕ) (from to : List ℕ) → from ≡ to → (g : IsImageOf order version serial from) → P (marked g.marks order)
    → (h : IsImageOf order version serial to) × P (marked h.marks order)
same_image P order version serial from to same g holds = subst (λ (bs : List ℕ). (h : IsImageOf order version serial bs) × P (marked h.marks order)) same (g, holds)

-- Once a byte of a replica rots in kept disks, as much is stored as before.
module _ (config : Config) (servers clients : ℕ) (w : WorldState) (r : IsReached config servers clients w) (index handle : ℕ) (s : ServerState) (x : Replica) (place byte : ℕ) (e : Ending) (at : element_at w.servers index ≡ Some s)
    (there : replica_of s.disk handle ≡ Some x)
    (kept : bytes_eq (stored_chunk (with_intact w.observer index handle s.disk.block x) index handle s.disk.block (rotten_replica x place byte)) (stored_chunk w.observer index handle s.disk.block x) ≡ true) where
  abbrev rotted : WorldState
  rotted = (with_rot w index s (rot_of handle place byte) e (known_after w index handle s x place byte)).world

  own_block : s.disk.block ≡ w.config.block
  own_block = (servers_within config servers clients w r index s at).block ∙ sym (ap (λ (c : Config). c.block) (settings_stay config servers clients w r))

  pub rot_other : (other : ℕ) → (other ≡ index → ⊥) → (q : ℕ) (y : Replica) → own_in rotted other q y ≡ own_in w other q y
  rot_other other apart q y = ap (λ (bs : List ℕ). take y.count bs) (other_server w.observer rotted.observer index handle s x place byte there refl kept other apart q w.config.block y)

  pub rot_same : (q : ℕ) (y : Replica) → replica_of s.disk q ≡ Some y → own_in rotted index q y ≡ own_in w index q y
  rot_same q y is =
      elim (same_or_not q handle) [
        | inl same ↦
            let one : y ≡ x = same_some y x (sym is ∙ ap (λ (n : ℕ). replica_of s.disk n) same ∙ there) in
            subst (λ (n : ℕ). own_in rotted index n y ≡ own_in w index n y) (sym same)
            (subst (λ (z : Replica). own_in rotted index handle z ≡ own_in w index handle z) (sym one)
            (subst (λ (n : ℕ). own_stored n rotted.observer index handle x ≡ own_stored n w.observer index handle x) own_block
            (ap (λ (bs : List ℕ). take x.count bs) (as_known w.observer rotted.observer index handle s x place byte there refl kept index handle s.disk.block x ∙ rot_chunk_before w.observer index handle s.disk.block x))))
        | inr apart ↦ ap (λ (bs : List ℕ). take y.count bs) (other_replica w.observer rotted.observer index handle s x place byte there refl kept q apart w.config.block y)
      ]

  pub rot_own : own_in rotted index handle (rotten_replica x place byte) ≡ own_in w index handle x
  rot_own =
      subst (λ (n : ℕ). own_stored n rotted.observer index handle (rotten_replica x place byte) ≡ own_stored n w.observer index handle x) own_block
      (ap (λ (bs : List ℕ). take x.count bs)
      (as_known w.observer rotted.observer index handle s x place byte there refl kept index handle s.disk.block (rotten_replica x place byte) ∙ rot_chunk_after w.observer index handle s.disk.block x (rotten_replica x place byte) kept))

  -- so the server's replicas are what they were
  pub rot_good : (M : Carried) (orders : Table (List Placed)) → IsTrue s.up → IsGood M (own_in w index) orders s → IsGood M (own_in rotted index) orders (after_rot s (rot_of handle place byte) e)
  rot_good M orders up g =
      record {
        found = rot_found (AreIn M (own_in rotted index) orders) s (rot_of handle place byte) e (g.idle up) before (subst (AreIn M (own_in rotted index) orders) (sym (rotten_disk s.disk handle x place byte there)) rotten);
        idle = rot_idle s (rot_of handle place byte) e (λ on. g.idle up);
      }
    where
      before : AreIn M (own_in rotted index) orders s.disk
      before q y is = subst (λ (bs : List ℕ). Holds M (placed_in orders q) q y.version y.serial bs) (sym (rot_same q y is)) (g.found [] q y is)

      rotten : AreIn M (own_in rotted index) orders (with_replica s.disk handle (rotten_replica x place byte))
      rotten q y is =
          elim (put_cases s.disk.replicas handle (rotten_replica x place byte) q y is) [
            | inl same ↦ subst (λ (n : ℕ). Holds M (placed_in orders n) n y.version y.serial (own_in rotted index n y)) (sym same.0)
                (subst (λ (z : Replica). Holds M (placed_in orders handle) handle z.version z.serial (own_in rotted index handle z)) same.1
                (subst (λ (bs : List ℕ). Holds M (placed_in orders handle) handle x.version x.serial bs) (sym rot_own) (g.found [] handle x there)))
            | inr old ↦ before q y old
          ]

said_on : (from to : Table (List Placed)) (b : Body) → ((handle : ℕ) → Follows IsAny (placed_in from handle) (placed_in to handle)) → IsImageSaid Plain from b → IsImageSaid Plain to b
said_on from to (body.Image handle version serial bytes) grown h = holds_grown Plain (placed_in from handle.0) (placed_in to handle.0) handle.0 version.0 serial.0 bytes (grown handle.0) h
said_on from to other grown h = tt

record AreSelections (w : WorldState) : Type 0 where
  servers : (index : ℕ) (s : ServerState) → element_at w.servers index ≡ Some s → IsGood Plain (own_in w index) w.observer.orders s
  sent : (m : Message) → IsSent w.sent m → IsImageSaid Plain w.observer.orders m.body

-- who says no Image

masters_said : (orders : Table (List Placed)) (b : Body) → is_masters b ≡ true → IsImageSaid Plain orders b
masters_said orders (body.Image handle version serial bytes) is = absurd (let both : false ≡ true = is in cc)
masters_said orders other is = tt

clients_said : (orders : Table (List Placed)) (s t : ClientState) (b : Body) → IsSaid s t b → IsImageSaid Plain orders b
clients_said orders s t (body.Image handle version serial bytes) said = absurd said
clients_said orders s t other said = tt

client_said : (orders : Table (List Placed)) (s : ClientState) (d : ClientDoing) (o : Option Message) → IsStepOf s d → d.sent ≡ o → AllOf (λ m. IsImageSaid Plain orders m.body) (option_to_list o)
client_said orders s d None step is = tt
client_said orders s d (Some m) step is = (clients_said orders s d.client m.body (step.says m is).1, tt)

pub restarted_said : (P : Message → Type 0) (s : ServerState) (moment : ℕ) (choice : Choice) (e : Ending) → AllOf P (server_restarts s moment choice e).out.sent
restarted_said P s moment choice Goes = tt
restarted_said P s moment choice Lost = tt
restarted_said P s moment choice (Stops made) = tt

pub answered_kept : (o : Observer) (n : ℕ) (a : Option Answer) → IsTrue ((observed_answer o n a).are_clocks_kept && (observed_answer o n a).are_disks_kept) → IsTrue (o.are_clocks_kept && o.are_disks_kept)
answered_kept o n None h = h
answered_kept o n (Some reply) h = h

-- a step of a server

module _ (J K : Carried) (config : Config) (servers clients : ℕ) (w : WorldState) (r : IsReached config servers clients w) (clocks : IsTrue w.observer.are_clocks_kept) (disks : IsTrue w.observer.are_disks_kept)
    (said : (m : Message) → IsSent w.sent m → IsImageSaid J w.observer.orders m.body) (index moment : ℕ) (s : ServerState) (i : NodeInput) (choice : Choice) (at : element_at w.servers index ≡ Some s) (up : IsTrue s.up)
    (here : AreIn K (own_in w index) w.observer.orders s.disk) (idle : s.under_way ≡ []) (came : (m : Message) → i ≡ input.Deliver m → IsSent w.sent m) (k : Carries s i J K) where
  abbrev trace : List Visible
  trace = (observed_moment w.config.skew_ms w.observer moment).trace

  -- the orders after the step, by what it shows
  abbrev Orders : List Seen → Table (List Placed)
  Orders seen = orders_after_all trace w.observer.orders seen

  pub record AreLawful (seen : List Seen) : Type 0 where
    pub of : AllOf IsOfServers seen
    pub rising : (handle : ℕ) → AreRising (placed_in (Orders seen) handle)
    pub within : (handle place : ℕ) (p : Placed) → element_at (placed_in (Orders seen) handle) place ≡ Some p → start_of p.entry.mutation ≤ end_of p.entry.mutation

  grown : (seen : List Seen) → AllOf IsOfServers seen → (handle : ℕ) → Follows IsAny (placed_in w.observer.orders handle) (placed_in (Orders seen) handle)
  grown seen of handle = all_grow trace w.observer.orders seen handle of

  leaves : (seen : List Seen) → AreLawful seen → ((place : ℕ) (x : Seen) → element_at (server_goes s moment i).seen place ≡ Some x → is_numbering x ≡ true → (n : ℕ) × (element_at seen n ≡ Some x)) → Leaves w trace (server_goes s moment i).seen (Orders seen)
  leaves seen l kept =
      record {
        grown = grown seen l.of;
        rising = l.rising;
        within = l.within;
        shown = λ place handle version serial id m is.
            let there = kept place (Numbered handle version serial id m) is refl in
            numbered_there trace w.observer.orders seen there.0 handle version serial id m l.of there.1;
      }

  -- what a restart finds after some of the changes
  after_some : (seen : List Seen) → AreLawful seen → ((place : ℕ) (x : Seen) → element_at (server_goes s moment i).seen place ≡ Some x → is_numbering x ≡ true → (n : ℕ) × (element_at seen n ≡ Some x)) → (n : ℕ)
      → AreIn K (own_in w index) (Orders seen) (disk_changed_by_all s.disk (take n (server_goes s moment i).changes))
  after_some seen l kept n = after J K config servers clients w r clocks disks said index s at here moment i came k trace (Orders seen) (leaves seen l kept) n

  abbrev IsDone : Taken ServerState → Type 0
  IsDone t = AreLawful t.seen → IsGood K (own_in w index) (Orders t.seen) t.state

  ends_done : (e : Ending) → IsDone (server_ends s (server_goes s moment i) choice e)
  ends_done Goes l =
      let d : ServerDoing = server_goes s moment i in
      let frame = frame_kept s moment i in
      let all : AreIn K (own_in w index) (Orders d.seen) (disk_changed_by_all d.server.disk d.changes) =
      subst (λ (x : ServerDisk). AreIn K (own_in w index) (Orders d.seen) (disk_changed_by_all x d.changes)) (sym frame.0)
      (subst (λ (xs : List StoreChange). AreIn K (own_in w index) (Orders d.seen) (disk_changed_by_all s.disk xs)) (take_whole d.changes) (after_some d.seen l (λ place x is _. (place, is)) (length d.changes))) in
      record {
        found = λ decided.
            subst (λ (xs : List StoreChange). AreIn K (own_in w index) (Orders d.seen) (disk_changed_by_all (disk_changed_by_all d.server.disk d.changes) (decided_changes decided xs))) (sym (frame.1 ∙ idle))
            (subst (AreIn K (own_in w index) (Orders d.seen)) (sym (none_more (disk_changed_by_all d.server.disk d.changes) decided)) all);
        idle = λ _. frame.1 ∙ idle;
      }
  ends_done Lost l =
      record { found = λ decided. subst (AreIn K (own_in w index) w.observer.orders) (sym (none_more s.disk decided)) here; idle = λ on. refl }
  ends_done (Stops made) l =
      let d : ServerDoing = server_goes s moment i in
      record {
        found = λ decided.
            let one = found_made s.disk decided made d.changes in
            subst (AreIn K (own_in w index) (Orders (filter is_numbering d.seen))) (sym one.1) (after_some (filter is_numbering d.seen) l (λ place x is numbering. kept_filtered d.seen place x is numbering) one.0);
        idle = λ on. absurd (true≢false (sym on));
      }

  pub step_done : IsDone (server_step s moment i choice)
  step_done =
      on_cond IsDone s.up (server_ends s (server_goes s moment i) choice choice.ending) (no_step s) (λ _. ends_done choice.ending) (λ down. absurd (true≢false (sym up ∙ down)))

module _ (config : Config) (servers clients : ℕ) (w : WorldState) (r : IsReached config servers clients w) (clocks : IsTrue w.observer.are_clocks_kept) (disks : IsTrue w.observer.are_disks_kept) (h : AreSelections w) where
  module _ (index moment : ℕ) (s : ServerState) (i : NodeInput) (choice : Choice) (at : element_at w.servers index ≡ Some s) where
    -- what it says
    says_images : (orders : Table (List Placed)) → ((handle : ℕ) → Follows IsAny (placed_in w.observer.orders handle) (placed_in orders handle)) → AllOf (λ m. IsImageSaid Plain orders m.body) (server_step s moment i choice).out.sent
    says_images orders more =
        all_placed (λ m. IsImageSaid Plain orders m.body) (server_step s moment i choice).out.sent (λ place m is. one place m is m.body refl)
      where
        one : (place : ℕ) (m : Message) → element_at (server_step s moment i choice).out.sent place ≡ Some m → (b : Body) → m.body ≡ b → IsImageSaid Plain orders b
        one place m is (body.Image handle version serial bytes) body_is =
            let of = images_are_of_replicas s moment i choice place m is handle version serial bytes body_is in
            let same : bytes ≡ own_in w index handle.0 of.0 = (replicas_are_read_as_stored config servers clients w r disks index s at handle.0 of.0 of.1).0 bytes of.4 ∙ ap (λ (n : ℕ). own_stored n w.observer index handle.0 of.0) ((servers_within config servers clients w r index s at).block ∙ sym (ap (λ (c : Config). c.block) (settings_stay config servers clients w r))) in
            holds_grown Plain (placed_in w.observer.orders handle.0) (placed_in orders handle.0) handle.0 version.0 serial.0 bytes (more handle.0)
            (subst (λ (n : ℕ). Holds Plain (placed_in w.observer.orders handle.0) handle.0 n serial.0 bytes) of.2
            (subst (λ (n : ℕ). Holds Plain (placed_in w.observer.orders handle.0) handle.0 of.0.version n bytes) of.3
            (subst (λ (bs : List ℕ). Holds Plain (placed_in w.observer.orders handle.0) handle.0 of.0.version of.0.serial bs) (sym same) ((h.servers index s at).found [] handle.0 of.0 of.1))))
        one place m is other body_is = tt

  -- what stays over an event

  -- the servers in a world with these orders, in which as much is stored
  module _ (v : WorldState) (grown : (handle : ℕ) → Follows IsAny (placed_in w.observer.orders handle) (placed_in v.observer.orders handle)) where
    -- of these servers
    abbrev AreSame : (ℕ → Type 0) → Type 0
    AreSame Other = (index : ℕ) (s : ServerState) → element_at w.servers index ≡ Some s → Other index → (handle : ℕ) (x : Replica) → IsFound s handle x → own_in v index handle x ≡ own_in w index handle x

    kept_servers : (Other : ℕ → Type 0) → AreSame Other → (index : ℕ) (s : ServerState) → element_at w.servers index ≡ Some s → Other index → IsGood Plain (own_in v index) v.observer.orders s
    kept_servers Other same index s at other = grown_good Plain (own_in w index) (own_in v index) w.observer.orders v.observer.orders s grown (same index s at other) (h.servers index s at)

    one_server : (index : ℕ) (t : ServerState) → AreSame (λ other. other ≡ index → ⊥) → IsGood Plain (own_in v index) v.observer.orders t
        → (other : ℕ) (u : ServerState) → element_at (with_at w.servers index t) other ≡ Some u → IsGood Plain (own_in v other) v.observer.orders u
    one_server index t same new other u is =
        elim (set_split w.servers index t other u is) [
          | inl both ↦ subst (λ (n : ℕ). IsGood Plain (own_in v n) v.observer.orders u) (sym both.0) (subst (IsGood Plain (own_in v index) v.observer.orders) (sym both.1) new)
          | inr old ↦ kept_servers (λ n. n ≡ index → ⊥) same other u old.1 old.0
        ]

  more_said : (orders : Table (List Placed)) → ((handle : ℕ) → Follows IsAny (placed_in w.observer.orders handle) (placed_in orders handle)) → (k : ℕ) (ms : List Message) → AllOf (λ m. IsImageSaid Plain orders m.body) ms
      → (m : Message) → IsSent (w.sent ++ stamped k ms) m → IsImageSaid Plain orders m.body
  more_said orders more k ms all m there =
      elim (sent_cases w.sent (stamped k ms) m there) [
        | inl old ↦ said_on w.observer.orders orders m.body more (h.sent m old)
        | inr now ↦
            let was = numbered_sent k ms now.0 m now.1 in
            subst (λ (b : Body). IsImageSaid Plain orders b) (was.2).2 (all_at (λ (x : Message). IsImageSaid Plain orders x.body) ms (was.1).0 was.0 all (was.1).1)
      ]

  restart_good : (stored : ℕ → Replica → List ℕ) (orders : Table (List Placed)) (moment : ℕ) (s : ServerState) (choice : Choice) (e : Ending) → IsGood Plain stored orders s → IsGood Plain stored orders (server_restarts s moment choice e).state
  restart_good stored orders moment s choice Lost g = record { found = g.found; idle = λ on. absurd (true≢false (sym on)) }
  restart_good stored orders moment s choice (Stops made) g =
      record { found = λ decided. subst (AreIn Plain stored orders) (sym (none_more (found_disk s choice) decided)) (g.found choice.decided); idle = λ on. refl }
  restart_good stored orders moment s choice Goes g =
      record { found = λ decided. subst (AreIn Plain stored orders) (sym (none_more (found_disk s choice) decided)) (g.found choice.decided); idle = λ on. refl }

-- events

abbrev Images : WorldState → Type 0
Images w = IsTrue (is_kept w) → AreSelections w

module _ (config : Config) (servers clients : ℕ) (w : WorldState) (r : IsReached config servers clients w) (h : Images w) where
  abbrev Later : WorldState → Type 0
  Later v = IsReached config servers clients v → Images v

  kept_of : (clocks more disks : Bool) → IsTrue ((clocks && more) && disks) → IsTrue (clocks && disks)
  kept_of true more disks is = (and_parts (true && more) disks is).1
  kept_of false more disks is = absurd (true≢false (sym is))

  clocks_of : (clocks disks : Bool) → IsTrue (clocks && disks) → IsTrue clocks × IsTrue disks
  clocks_of clocks disks is = and_parts clocks disks is

  was_kept : (moment : ℕ) → IsTrue ((observed_moment w.config.skew_ms w.observer moment).are_clocks_kept && w.observer.are_disks_kept) → IsTrue (is_kept w)
  was_kept moment is = kept_of w.observer.are_clocks_kept (nat_le w.observer.greatest (moment + w.config.skew_ms)) w.observer.are_disks_kept is

  each_later : HoldsExactly w (λ e x. Later x.world)
  each_later =
      let k : ℕ = suc (length w.sent) in
      let grow = orders_grow config servers clients w r in
      record {
        nothing = λ e later kept. h kept;
        masters = λ e moment i choice is up later kept.
            let before = was_kept moment kept in
            let both = and_parts w.observer.are_clocks_kept w.observer.are_disks_kept before in
            let orders : Table (List Placed) = orders_after_all (observed_moment w.config.skew_ms w.observer moment).trace w.observer.orders (master_step w.master moment i choice).seen in
            let more = grow.masters e moment i choice is up in
            record {
              servers = λ n u there. kept_servers config servers clients w r both.0 both.1 (h before) ((after_master w moment (master_step w.master moment i choice)).world) more (λ _. Unit {0}) (λ n u there _ handle x found. own_noted w ((after_master w moment (master_step w.master moment i choice)).world) refl refl n handle x) n u there tt;
              sent = more_said config servers clients w r both.0 both.1 (h before) orders more k (master_step w.master moment i choice).out.sent
                  (master_said (λ m. IsImageSaid Plain orders m.body) (record { plain = λ receiver b is. masters_said orders b is; locates = λ receiver number l current. tt }) w.master moment i choice);
            };
        opens = λ e moment choice later kept.
            let before = was_kept moment kept in
            let both = and_parts w.observer.are_clocks_kept w.observer.are_disks_kept before in
            let orders : Table (List Placed) = orders_after_all (observed_moment w.config.skew_ms w.observer moment).trace w.observer.orders (master_restart w.master moment choice).seen in
            let more = grow.opens e moment choice in
            record {
              servers = λ n u there. kept_servers config servers clients w r both.0 both.1 (h before) ((after_master w moment (master_restart w.master moment choice)).world) more (λ _. Unit {0}) (λ n u there _ handle x found. own_noted w ((after_master w moment (master_restart w.master moment choice)).world) refl refl n handle x) n u there tt;
              sent = more_said config servers clients w r both.0 both.1 (h before) orders more k (master_restart w.master moment choice).out.sent
                  (restart_said (λ m. IsImageSaid Plain orders m.body) (record { plain = λ receiver b is. masters_said orders b is; locates = λ receiver number l current. tt }) w.master moment choice);
            };
        serves = λ e index moment s i choice at is up later kept.
            let before = was_kept moment kept in
            let both = and_parts w.observer.are_clocks_kept w.observer.are_disks_kept before in
            let v : WorldState = (after_server w index moment (server_step s moment i choice)).world in
            let orders : Table (List Placed) = orders_after_all (observed_moment w.config.skew_ms w.observer moment).trace w.observer.orders (server_step s moment i choice).seen in
            let more = grow.serves e index moment s i choice at is up in
            let clocks = (and_parts (observed_moment w.config.skew_ms w.observer moment).are_clocks_kept w.observer.are_disks_kept kept).0 in
            let came = came_in w e (suc index) moment i is in
            record {
              servers = one_server config servers clients w r both.0 both.1 (h before) v more index (server_step s moment i choice).state (λ n u there _ handle x found. own_noted w v refl refl n handle x)
                  (noted_good (own_in w index) (own_in v index) orders (server_step s moment i choice).state (λ handle x. own_noted w v refl refl index handle x) (step_done Plain Plain config servers clients w r both.0 both.1 (h before).sent index moment s i choice at up (((h before).servers index s at).found []) (((h before).servers index s at).idle up) came (plain_carried s i)
                  (record { of = server_shown s moment i choice; rising = λ handle. orders_rise config servers clients v later clocks handle; within = λ handle place p there. entry_within v later handle place p there })));
              sent = more_said config servers clients w r both.0 both.1 (h before) orders more k (server_step s moment i choice).out.sent (says_images config servers clients w r both.0 both.1 (h before) index moment s i choice at orders more);
            };
        restarts = λ e index moment s choice at later kept.
            let before = was_kept moment kept in
            let both = and_parts w.observer.are_clocks_kept w.observer.are_disks_kept before in
            let v : WorldState = (after_server w index moment (server_restart s moment choice)).world in
            let orders : Table (List Placed) = orders_after_all (observed_moment w.config.skew_ms w.observer moment).trace w.observer.orders (server_restart s moment choice).seen in
            let more = grow.restarts e index moment s choice at in
            record {
              servers = one_server config servers clients w r both.0 both.1 (h before) v more index (server_restart s moment choice).state (λ n u there _ handle x found. own_noted w v refl refl n handle x)
                  (restart_good config servers clients w r both.0 both.1 (h before) (own_in v index) v.observer.orders moment s choice choice.ending
                  (kept_servers config servers clients w r both.0 both.1 (h before) v more (λ _. Unit {0}) (λ n u there _ handle x found. own_noted w v refl refl n handle x) index s at tt));
              sent = more_said config servers clients w r both.0 both.1 (h before) orders more k (server_restart s moment choice).out.sent (restarted_said (λ m. IsImageSaid Plain orders m.body) s moment choice choice.ending);
            };
        steps = λ e index moment s i choice at is up later kept.
            let before = was_kept moment (answered_kept (observed_moment w.config.skew_ms w.observer moment) (suc index) (client_step s moment i choice).out.answer kept) in
            let both = and_parts w.observer.are_clocks_kept w.observer.are_disks_kept before in
            let orders : Table (List Placed) = (observed_answer (observed_moment w.config.skew_ms w.observer moment) (suc index) (client_step s moment i choice).out.answer).orders in
            let more = grow.steps e index moment s i choice at is up in
            record {
              servers = λ n u there. kept_servers config servers clients w r both.0 both.1 (h before) ((after_client w index moment (client_step s moment i choice)).world) more (λ _. Unit {0}) (λ n u there _ handle x found. own_noted w ((after_client w index moment (client_step s moment i choice)).world) refl (answered_notes (observed_moment w.config.skew_ms w.observer moment) (suc index) (client_step s moment i choice).out.answer) n handle x) n u there tt;
              sent = more_said config servers clients w r both.0 both.1 (h before) orders more k (client_step s moment i choice).out.sent
                  (of_step (λ t xs. AllOf (λ m. IsImageSaid Plain orders m.body) xs) s moment i choice ((numbered_reached config servers clients w r).each index s at).named
                  (λ d step. client_said orders (client_at s moment) d d.sent step refl) tt tt);
            };
        calls = λ e index moment s c choice at may later kept.
            let seen : Observer = observed_call (observed_moment w.config.skew_ms w.observer moment) (suc index) c in
            let twice = answered_kept (observed_moment w.config.skew_ms seen moment) (suc index) (client_call s moment c choice).out.answer kept in
            let before = was_kept moment (kept_of seen.are_clocks_kept (nat_le seen.greatest (moment + w.config.skew_ms)) w.observer.are_disks_kept twice) in
            let both = and_parts w.observer.are_clocks_kept w.observer.are_disks_kept before in
            let orders : Table (List Placed) = (observed_answer (observed_moment w.config.skew_ms seen moment) (suc index) (client_call s moment c choice).out.answer).orders in
            let more = grow.calls e index moment s c choice at may in
            record {
              servers = λ n u there. kept_servers config servers clients w r both.0 both.1 (h before) ((after_client (with_call w index moment c) index moment (client_call s moment c choice)).world) more (λ _. Unit {0}) (λ n u there _ handle x found. own_noted w ((after_client (with_call w index moment c) index moment (client_call s moment c choice)).world) refl (answered_notes (observed_moment w.config.skew_ms seen moment) (suc index) (client_call s moment c choice).out.answer) n handle x) n u there tt;
              sent = more_said config servers clients w r both.0 both.1 (h before) orders more k (client_call s moment c choice).out.sent
                  (of_call (λ t xs. AllOf (λ m. IsImageSaid Plain orders m.body) xs) s moment c choice ((numbered_reached config servers clients w r).each index s at).named
                  (λ d step. client_said orders (client_at s moment) d d.sent step refl) tt);
            };
        rots = λ e index handle s x place byte ending at there up later kept.
            let now : List ℕ = stored_chunk (with_intact w.observer index handle s.disk.block x) index handle s.disk.block (rotten_replica x place byte) in
            let parts = and_parts w.observer.are_clocks_kept (w.observer.are_disks_kept && bytes_eq now (stored_chunk w.observer index handle s.disk.block x)) kept in
            let disks = and_parts w.observer.are_disks_kept (bytes_eq now (stored_chunk w.observer index handle s.disk.block x)) parts.1 in
            let before = kept_both w.observer.are_clocks_kept w.observer.are_disks_kept parts.0 disks.0 in
            let v : WorldState = (with_rot w index s (rot_of handle place byte) ending (known_after w index handle s x place byte)).world in
            record {
              servers = one_server config servers clients w r parts.0 disks.0 (h before) v (λ k. same_follows IsAny (placed_in w.observer.orders k)) index (after_rot s (rot_of handle place byte) ending)
                  (λ n u at_n apart q y found. rot_other config servers clients w r index handle s x place byte ending at there disks.1 n apart q y)
                  (rot_good config servers clients w r index handle s x place byte ending at there disks.1 Plain w.observer.orders up ((h before).servers index s at));
              sent = (h before).sent;
            };
      }
    where
      entry_within : (v : WorldState) → IsReached config servers clients v → (handle place : ℕ) (p : Placed) → element_at (order_of v.observer handle) place ≡ Some p → start_of p.entry.mutation ≤ end_of p.entry.mutation
      entry_within v later handle place p there =
          let lies = entries_lie_within_the_chunk config servers clients later.0 handle place p (ap (λ (u : WorldState). element_at (order_of u.observer handle) place) later.1 ∙ there) in
          starts_before_end (min lies.1 config.chunk) p.entry.mutation lies.3

      kept_both : (a b : Bool) → IsTrue a → IsTrue b → IsTrue (a && b)
      kept_both true b x y = y
      kept_both false b x y = absurd (true≢false (sym x))

images_on : (config : Config) (servers clients : ℕ) (w : WorldState) (steps : List (Event × Choice)) → IsReached config servers clients w → Images w → Images (after_events w steps)
images_on config servers clients w [] r h = h
images_on config servers clients w (step ∷ rest) r h =
    let v : WorldState = (happens w step.0 step.1).world in
    let later : IsReached config servers clients v = reached_later config servers clients w (step ∷ []) r in
    images_on config servers clients v rest later (holds_exactly w (λ e x. Later config servers clients w r h x.world) (each_later config servers clients w r h) step.0 step.1 later)

new_images : (config : Config) (servers clients : ℕ) → AreSelections (new_world config servers clients)
new_images config servers clients =
    record {
      servers = λ index s at.
          subst (IsGood Plain (own_in (new_world config servers clients) index) table.empty) (sym (numbered_from (λ n. started_server config n (new_server_disk config.chunk config.block config.slots) 0) servers index s at))
          (record { found = λ decided handle x is. none_some x (sym (table.get-empty nat_cmp handle) ∙ ap (λ (d : ServerDisk). replica_of d handle) (sym (none_more (new_server_disk config.chunk config.block config.slots) decided)) ∙ is); idle = λ on. refl });
      sent = λ m there. none_sent m there;
    }

images_reached : (config : Config) (servers clients : ℕ) (w : WorldState) → IsReached config servers clients w → Images w
images_reached config servers clients w r = subst Images r.1 (images_on config servers clients (new_world config servers clients) r.0 ([], refl) (λ kept. new_images config servers clients))

pub said_reached : (config : Config) (servers clients : ℕ) (w : WorldState) → IsReached config servers clients w → IsTrue (is_kept w) → (m : Message) → IsSent w.sent m → IsImageSaid Plain w.observer.orders m.body
said_reached config servers clients w r kept = (images_reached config servers clients w r kept).sent

pub replicas_are_images : ReplicasAreImages
replicas_are_images config servers clients w r kept index s at =
    let good = (images_reached config servers clients w r kept).servers index s at in
    (λ handle x is. by_disk s.disk own handle x (good.found [] handle x is).0, λ choice handle x is. by_disk (found_disk s choice) (all_block s.disk (decided_changes choice.decided s.under_way) ∙ own) handle x (good.found choice.decided handle x is).0)
  where
    own : s.disk.block ≡ w.config.block
    own = (servers_within config servers clients w r index s at).block ∙ sym (ap (λ (c : Config). c.block) (settings_stay config servers clients w r))

    by_disk : (d : ServerDisk) → d.block ≡ w.config.block → (handle : ℕ) (x : Replica) → IsImageOf (order_of w.observer handle) x.version x.serial (own_in w index handle x) → IsImageOf (order_of w.observer handle) x.version x.serial (stored_bytes w.observer index handle d x)
    by_disk d same handle x h = subst (λ (n : ℕ). IsImageOf (order_of w.observer handle) x.version x.serial (own_stored n w.observer index handle x)) (sym same) h

pub sent_images_are_images : SentImagesAreImages
sent_images_are_images config servers clients w r kept place m at handle version serial bytes is =
    (subst (λ (b : Body). IsImageSaid Plain w.observer.orders b) is ((images_reached config servers clients w r kept).sent m (place, at))).0
