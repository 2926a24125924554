-- In each reached world with kept clocks and disks, of the entries that a replica has applied: each that its server acknowledged under its version is among them, and each of the round of a lease that its server holds.
use Rattle.std.proofs.Common.{◌≡◌, ℕ, suc, List, [], ◌++◌, length, Some, None, refl, sym, ap, subst, ◌∙◌, inl, inr, arith}
use Rattle.std.specs.Prelude.{IsTrue}
use Rattle.std.specs.Ordering.{nat_cmp}
use Rattle.std.specs.FinMap as table
use Rattle.std.proofs.lemmas.Bool.{and_parts}
use Rattle.gfs_types.specs.declared.config.Config.{Config}
use Rattle.messages.specs.declared.event.NodeInput.{NodeInput}
use Rattle.messages.specs.declared.message.Message.{Message}
use Rattle.relaxed_file.specs.Run.{Visible}
use Rattle.protocol.specs.Tables.{Table, element_at, with_at}
use Rattle.protocol.specs.Sending.{the_server, server_number}
use Rattle.protocol.specs.Choice.{Choice, Ending, Goes, Lost, Stops}
use Rattle.protocol.specs.declared.seen.Seen.{Seen}
use Rattle.protocol.specs.Observer.{Placed, Observer, observed_moment, observed_call, observed_answer, placed_in, order_of, orders_after_all}
use Rattle.protocol.specs.StoredBytes.{stored_bytes}
use Rattle.protocol.specs.ClientStep.{client_at, client_step, client_call}
use Rattle.protocol.specs.Server.{ServerState}
use Rattle.protocol.specs.ServerStep.{found_disk, server_step, server_restarts, server_restart}
use Rattle.protocol.specs.MasterStep.{master_step, master_restart}
use Rattle.protocol.specs.World.{WorldState, stamped, IsReached, is_kept, after_rot}
use Rattle.laws_base.proofs.Steps.{none_some}
use Rattle.laws_base.proofs.Entries.{AllOf}
use Rattle.laws_base.proofs.MessagesSent.{IsSent}
use Rattle.laws_base.proofs.ClientNumbers.{of_step, of_call}
use Rattle.laws_base.proofs.RequestsOnce.{numbered_reached}
use Rattle.laws_base.proofs.MasterTalks.{master_said, restart_said, restart_shown}
use Rattle.laws_base.proofs.Placing.{same_orders}
use Rattle.laws_base.proofs.Numbering.{restarted_shown}
use Rattle.laws_base.proofs.HeldReplicas.{leases_have_their_replica}
use Rattle.laws_versions.specs.ClonedVersions.{IsVersionOver}
use Rattle.laws_versions.proofs.ClonedVersions.{clones_are_of_closed_versions}
use Rattle.laws_versions.specs.ReplicaImages.{marked}
use Rattle.laws_versions.proofs.Images.{Carried, own_in, Carries}
use Rattle.laws_versions.proofs.ImagesReached.{Plain, found_stored, same_image}
use Rattle.laws_versions.proofs.AckedWords.{IsNoAcked, masters_none, client_none, restarted_none, server_sender}
use Rattle.laws_versions.proofs.Acknowledged.{WasCopied, Kept, kept_more, none_more_kept, carried, said_kept, acknowledged_taken}
use Rattle.laws_versions.specs.AcknowledgedEntries.{HasAcknowledged, HasRound, AcknowledgedEntriesAreApplied, PrimariesHaveTheirRound}
use Rattle.laws_versions.proofs.AppliedReached.{AppliedBy, ShownBy, AreApplied, Keeps, IsLater, applied_reached}
use Rattle.laws_versions.proofs.HeldEntries.{HasRounds, HeldRound, WasGivenTo, rounds_at, held_on, given_on, held_carried, given_carried, master_round, own_round, other_round}
use Rattle.laws_base.proofs.Events.{rot_of}
use Rattle.laws_base.proofs.Rots.{rot_held}
use Rattle.leases.specs.LeaseHeld.{LeaseHeld}

-- Of what a server acknowledged, of the round of its lease, and of the order that gave it the version.
abbrev pub JointIn : List Message → List ServerState → Table (List Placed) → ℕ → Carried
JointIn sent servers orders index handle version ps = (Kept sent index handle version ps × HeldRound sent servers orders index handle version ps) × WasGivenTo sent index handle version ps

abbrev pub Joint : AppliedBy
Joint w = JointIn w.sent w.servers w.observer.orders

-- nothing is said of Images
abbrev pub Nothing : ShownBy
Nothing w = Plain

-- two properties are carried together
pub both_carried : (J K L M : Carried) (s : ServerState) (i : NodeInput) → Carries s i J K → Carries s i L M → Carries s i (λ handle version ps. J handle version ps × L handle version ps) (λ handle version ps. K handle version ps × M handle version ps)
both_carried J K L M s i a b =
    record {
      more = λ handle version ps p h. (a.more handle version ps p h.0, b.more handle version ps p h.1);
      created = λ m is order handle version body_is new. (a.created m is order handle version body_is new, b.created m is order handle version body_is new);
      imaged = λ m is handle version serial bytes body_is ps h. (a.imaged m is handle version serial bytes body_is ps h.0, b.imaged m is handle version serial bytes body_is ps h.1);
      raised = λ m is order handle version base body_is new ps h. (a.raised m is order handle version base body_is new ps h.0, b.raised m is order handle version base body_is new ps h.1);
      copied = λ m is order handle from copy version body_is new ps h. (a.copied m is order handle from copy version body_is new ps h.0, b.copied m is order handle from copy version body_is new ps h.1);
    }

-- the same with other words of Images
pub carried_from : (J L K : Carried) (s : ServerState) (i : NodeInput) → ((handle version : ℕ) (ps : List Placed) → L handle version ps → J handle version ps) → Carries s i J K → Carries s i L K
carried_from J L K s i go c =
    record {
      more = c.more;
      created = c.created;
      imaged = λ m is handle version serial bytes body_is ps h. c.imaged m is handle version serial bytes body_is ps (go handle.0 version.0 ps h);
      raised = c.raised;
      copied = c.copied;
    }

-- a server that was started again has no lease
none_held : (s : ServerState) (moment : ℕ) (choice : Choice) (e : Ending) (handle : ℕ) → table.get (server_restarts s moment choice e).state.leases handle ≡ None
none_held s moment choice Goes handle = table.get-empty nat_cmp handle
none_held s moment choice Lost handle = table.get-empty nat_cmp handle
none_held s moment choice (Stops made) handle = table.get-empty nat_cmp handle

same_suc : (a b : ℕ) → suc a ≡ suc b → a ≡ b
same_suc a b same = omega (arith, same)

module _ (config : Config) (servers clients : ℕ) (w : WorldState) (r : IsReached config servers clients w) (idle : (index : ℕ) (s : ServerState) → element_at w.servers index ≡ Some s → IsTrue s.up → s.under_way ≡ []) where
  abbrev k : ℕ
  k = suc (length w.sent)

  abbrev trace_at : ℕ → List Visible
  trace_at moment = (observed_moment w.config.skew_ms w.observer moment).trace

  -- what was carried in this world is carried on, where more was sent, of other servers and orders
  joint_on : (ms : List Message) (others : List ServerState) (to : Table (List Placed)) (index handle version : ℕ) (ps : List Placed) → (Kept w.sent index handle version ps → Kept (w.sent ++ stamped k ms) index handle version ps)
      → (HasRounds w.servers w.observer.orders index handle version ps → HasRounds others to index handle version ps) → JointIn w.sent w.servers w.observer.orders index handle version ps → JointIn (w.sent ++ stamped k ms) others to index handle version ps
  joint_on ms others to index handle version ps acked held h = (
    (acked h.0.0, held_on w.sent (stamped k ms) w.servers others w.observer.orders to index handle version ps held h.0.1),
    given_on w.sent (stamped k ms) index handle version ps h.1,
  )

  -- servers and orders are as they were, and no Acked is sent
  calm : (ms : List Message) (orders : Table (List Placed)) → orders ≡ w.observer.orders → AllOf (λ m. IsNoAcked m.body) ms → (index handle version : ℕ) (ps : List Placed) → JointIn w.sent w.servers w.observer.orders index handle version ps
      → JointIn (w.sent ++ stamped k ms) w.servers orders index handle version ps
  calm ms orders same none index handle version ps =
      joint_on ms w.servers orders index handle version ps (none_more_kept w.sent ms k index handle version ps none) (λ has. subst (λ (os : Table (List Placed)). HasRounds w.servers os index handle version ps) (sym same) has)

  not_other : (index : ℕ) (s : ServerState) → element_at w.servers index ≡ Some s → (moment : ℕ) (i : NodeInput) (choice : Choice) (other : ℕ) (y : Message) → IsSent (server_step s moment i choice).out.sent y → y.sender ≡ the_server (suc other) → other ≡ index
  not_other index s at moment i choice other y there sender = same_suc other index (ap server_number (sym sender ∙ server_sender config servers clients w r index s at moment i choice y there))

  pub joint_keeps : Keeps Nothing Joint config servers clients w (IsLater config servers clients)
  joint_keeps =
      record {
        carries = λ index s i at up came.
            carried_from (λ handle version ps. (Plain handle version ps × Plain handle version ps) × Plain handle version ps) Plain (Joint w index) s i (λ handle version ps h. ((tt, tt), tt))
            (both_carried (λ handle version ps. Plain handle version ps × Plain handle version ps) (λ handle version ps. Kept w.sent index handle version ps × HeldRound w.sent w.servers w.observer.orders index handle version ps) Plain (WasGivenTo w.sent index) s i
            (both_carried Plain (Kept w.sent index) Plain (HeldRound w.sent w.servers w.observer.orders index) s i (carried config servers clients w r index s at (acknowledged_taken config servers clients w r index s at) i came)
            (held_carried config servers clients w r index s at i came))
            (given_carried config servers clients w r index s at i came));
        served = λ e index moment s i choice at given up later handle x found bytes g.
            let t : ServerState = (server_step s moment i choice).state in
            let orders : Table (List Placed) = orders_after_all (trace_at moment) w.observer.orders (server_step s moment i choice).seen in
            let ps : List Placed = marked g.marks (placed_in orders handle) in
            joint_on (server_step s moment i choice).out.sent (with_at w.servers index t) orders index handle x.version ps (said_kept s moment i choice (idle index s at up) w.sent k index orders handle x found.0 found.1 bytes g)
            (λ has. rounds_at w.servers orders index t index handle x.version ps
            (λ here p held same. own_round config servers clients w r index s at i e moment choice given (trace_at moment) (idle index s at up) handle x found ps g.last has p held same) (λ apart. absurd (apart refl)));
        shown = λ e index moment s i choice at given up later m there handle version serial bytes is x x_there version_is ps h. tt;
        masters = λ e moment i choice given up later.
            let orders : Table (List Placed) = orders_after_all (trace_at moment) w.observer.orders (master_step w.master moment i choice).seen in
            let ms : List Message = (master_step w.master moment i choice).out.sent in
            record {
              each = λ index s at other handle x found ps.
                  joint_on ms w.servers orders index handle x.version ps
                  (none_more_kept w.sent ms k index handle x.version ps (master_said (λ m. IsNoAcked m.body) (record { plain = λ receiver b is. masters_none b is; locates = λ receiver number l current. tt }) w.master moment i choice))
                  (λ has u there p held same. master_round config servers clients w r index u there handle x.version ps has p held same (trace_at moment) moment i choice);
              said = λ m there handle version serial bytes is ps h. tt;
            };
        opens = λ e moment choice later.
            record {
              each = λ index s at other handle x found ps.
                  calm (master_restart w.master moment choice).out.sent (orders_after_all (trace_at moment) w.observer.orders (master_restart w.master moment choice).seen)
                  (ap (λ (xs : List Seen). orders_after_all (trace_at moment) w.observer.orders xs) (restart_shown w.master moment choice))
                  (restart_said (λ m. IsNoAcked m.body) (record { plain = λ receiver b is. masters_none b is; locates = λ receiver number l current. tt }) w.master moment choice) index handle x.version ps;
              said = λ m there handle version serial bytes is ps h. tt;
            };
        serves = λ e index moment s i choice at given up later.
            let t : ServerState = (server_step s moment i choice).state in
            let orders : Table (List Placed) = orders_after_all (trace_at moment) w.observer.orders (server_step s moment i choice).seen in
            let ms : List Message = (server_step s moment i choice).out.sent in
            record {
              each = λ other u there apart handle x found ps.
                  joint_on ms (with_at w.servers index t) orders other handle x.version ps (kept_more w.sent ms k other handle x.version ps (λ y y_there sender serial acked some. absurd (apart (not_other index s at moment i choice other y y_there sender))))
                  (λ has. rounds_at w.servers orders index t other handle x.version ps (λ same. absurd (apart same))
                  (λ _ v v_there p held same. other_round config servers clients w r index s at i e moment choice given (trace_at moment) other v apart v_there handle x.version ps has p held same));
              said = λ m there handle version serial bytes is ps h. tt;
            };
        restarts = λ e index moment s choice at later.
            let t : ServerState = (server_restart s moment choice).state in
            let ms : List Message = (server_restart s moment choice).out.sent in
            record {
              each = λ other u there _ handle x found ps.
                  joint_on ms (with_at w.servers index t) (orders_after_all (trace_at moment) w.observer.orders (server_restart s moment choice).seen) other handle x.version ps
                  (none_more_kept w.sent ms k other handle x.version ps (restarted_none (λ m. IsNoAcked m.body) s moment choice choice.ending))
                  (λ has.
                  subst (λ (xs : List Seen). HasRounds (with_at w.servers index t) (orders_after_all (trace_at moment) w.observer.orders xs) other handle x.version ps) (sym (restarted_shown s moment choice choice.ending))
                  (rounds_at w.servers w.observer.orders index t other handle x.version ps (λ _ p held same. none_some p (sym (none_held s moment choice choice.ending handle) ∙ held)) (λ _ v v_there p held same. has v v_there p held same)));
              said = λ m there handle version serial bytes is ps h. tt;
            };
        steps = λ e index moment s i choice at given up later.
            record {
              each = λ other u there _ handle x found ps.
                  calm (client_step s moment i choice).out.sent (observed_answer (observed_moment w.config.skew_ms w.observer moment) (suc index) (client_step s moment i choice).out.answer).orders
                  (same_orders (observed_moment w.config.skew_ms w.observer moment) (suc index) (client_step s moment i choice).out.answer)
                  (of_step (λ t xs. AllOf (λ m. IsNoAcked m.body) xs) s moment i choice ((numbered_reached config servers clients w r).each index s at).named (λ d step. client_none (client_at s moment) d d.sent step refl) tt tt) other handle x.version ps;
              said = λ m there handle version serial bytes is ps h. tt;
            };
        calls = λ e index moment s c choice at may later.
            let seen : Observer = observed_call (observed_moment w.config.skew_ms w.observer moment) (suc index) c in
            record {
              each = λ other u there _ handle x found ps.
                  calm (client_call s moment c choice).out.sent (observed_answer (observed_moment w.config.skew_ms seen moment) (suc index) (client_call s moment c choice).out.answer).orders
                  (same_orders (observed_moment w.config.skew_ms seen moment) (suc index) (client_call s moment c choice).out.answer)
                  (of_call (λ t xs. AllOf (λ m. IsNoAcked m.body) xs) s moment c choice ((numbered_reached config servers clients w r).each index s at).named (λ d step. client_none (client_at s moment) d d.sent step refl) tt) other handle x.version ps;
              said = λ m there handle version serial bytes is ps h. tt;
            };
        rots = λ e index q s y place byte ending at y_there up later.
            record {
              each = λ other u there _ handle x found ps h. (
                (
                  h.0.0,
                  elim (h.0.1) [
                    | inl copied ↦ inl copied
                    | inr has ↦ inr (rounds_at w.servers w.observer.orders index (after_rot s (rot_of q place byte) ending) other handle x.version ps
                        (λ here p held same.
                        let was = rot_held s (rot_of q place byte) ending handle p held in
                        has s (ap (λ (n : ℕ). element_at w.servers n) here ∙ at) was.0 was.1 (ap (λ (l : LeaseHeld). l.version) was.2 ∙ same)) (λ _ v v_there p held same. has v v_there p held same))
                  ],
                ),
                h.1,
              );
              said = λ m there handle version serial bytes is ps h. tt;
            };
      }

pub joint_kept : (config : Config) (servers clients : ℕ) (w : WorldState) (r : IsReached config servers clients w) → IsTrue (is_kept w) → AreApplied Nothing Joint w → Keeps Nothing Joint config servers clients w (IsLater config servers clients)
joint_kept config servers clients w r kept h = joint_keeps config servers clients w r (λ index s at up. (h.each index s at).idle up)

pub joint_reached : (config : Config) (servers clients : ℕ) (w : WorldState) → IsReached config servers clients w → IsTrue (is_kept w) → AreApplied Nothing Joint w
joint_reached config servers clients = applied_reached Nothing Joint config servers clients (joint_kept config servers clients)

-- the laws

pub copied_over : (config : Config) (servers clients : ℕ) (w : WorldState) → IsReached config servers clients w → IsTrue (is_kept w) → (handle version : ℕ) → WasCopied w.sent handle version → IsVersionOver w handle version
copied_over config servers clients w r kept handle version copied =
    clones_are_of_closed_versions config servers clients w r (and_parts w.observer.are_clocks_kept w.observer.are_disks_kept kept).0 (copied.1).0 copied.0 (copied.1).1 handle version copied.2

pub acknowledged_entries_are_applied : AcknowledgedEntriesAreApplied
acknowledged_entries_are_applied config servers clients w r kept index s at choice handle x is =
    let one = ((joint_reached config servers clients w r kept).each index s at).found choice.decided handle x is in
    elim (one.1.0.0) [
      | inl copied ↦ inl (copied_over config servers clients w r kept handle x.version copied)
      | inr has ↦ inr (same_image (HasAcknowledged w.sent (suc index) handle x.version) (order_of w.observer handle) x.version x.serial (own_in w index handle x)
          (stored_bytes w.observer index handle (found_disk s choice) x) (found_stored config servers clients w r index s at choice.decided handle x) one.0 has)
    ]

pub primaries_have_their_round : PrimariesHaveTheirRound
primaries_have_their_round config servers clients w r kept index s at handle p held =
    let there = leases_have_their_replica config servers clients w r index s at handle p held in
    let one = ((joint_reached config servers clients w r kept).each index s at).found [] handle there.0 there.1 in (
      there.0,
      there.1,
      there.2,
      elim (one.1.0.1) [
        | inl copied ↦ inl (copied_over config servers clients w r kept handle there.0.version copied)
        | inr has ↦ inr (same_image (HasRound (order_of w.observer handle) there.0.version) (order_of w.observer handle) there.0.version there.0.serial (own_in w index handle there.0)
            (stored_bytes w.observer index handle s.disk there.0) (found_stored config servers clients w r index s at [] handle there.0) one.0 (has s at p held (sym there.2)))
      ],
    )
