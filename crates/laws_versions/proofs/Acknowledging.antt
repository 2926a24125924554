-- In each reached world each member of a lease for which a mutation waits no more, but the primary, sent its Acked.
use Rattle.std.proofs.Common.{◌≡◌, ℕ, suc, List, [], ◌∷◌, ◌++◌, length, Some, refl, sym, ap, subst, ◌∙◌, inl, inr}
use Rattle.gfs_types.specs.declared.config.Config.{Config}
use Rattle.gfs_types.specs.declared.ids.Handle.{Handle}
use Rattle.gfs_types.specs.declared.ids.Version.{Version}
use Rattle.gfs_types.specs.declared.ids.Serial.{Serial}
use Rattle.messages.specs.declared.event.NodeInput.{NodeInput}
use Rattle.messages.specs.declared.event.NodeInput.TheVariants as input
use Rattle.messages.specs.declared.message.Body.TheVariants as body
use Rattle.messages.specs.declared.message.Message.{Message}
use Rattle.laws_base.proofs.Rots.{rot_leases}
use Rattle.primary_order.specs.SerialOrder.{SerialOrder}
use Rattle.replica_store.specs.Replicas.{new_server_disk}
use Rattle.protocol.specs.Tables.{Table, element_at, with_at}
use Rattle.protocol.specs.Sending.{the_server, server_number}
use Rattle.protocol.specs.Choice.{Choice, Ending, Goes, Lost, Stops}
use Rattle.protocol.specs.declared.seen.Seen.TheVariants.{BecameSettled}
use Rattle.protocol.specs.ClientStep.{client_at, client_step, client_call}
use Rattle.protocol.specs.Server.{ServerState, started_server}
use Rattle.protocol.specs.ServerStep.{server_at, server_step, server_restarts, server_restart}
use Rattle.protocol.specs.MasterStep.{master_step, master_restart}
use Rattle.messages.specs.declared.event.Event.{Event}
use Rattle.protocol.specs.World.{WorldState, new_world, stamped, happens, after_events, IsReached, after_rot}
use Rattle.laws_base.proofs.Entries.{AllOf}
use Rattle.laws_base.proofs.LeasesTold.{numbered_from}
use Rattle.laws_base.proofs.MembersRecorded.{all_at}
use Rattle.laws_base.proofs.MessagesSent.{IsSent, sent_before, sent_cases, none_sent, numbered_sent}
use Rattle.laws_base.proofs.RisingOrders.{set_cases}
use Rattle.laws_base.proofs.Events.{HoldsAfter, holds_after, rot_of}
use Rattle.laws_base.proofs.ClientNumbers.{of_step, of_call}
use Rattle.laws_base.proofs.RequestsOnce.{numbered_reached}
use Rattle.laws_base.proofs.MasterTalks.{master_said, restart_said}
use Rattle.laws_base.proofs.LeasesStayOver.{reached_later}
use Rattle.laws_base.proofs.Stemming.{came_in}
use Rattle.laws_versions.proofs.AnsweredOrders.{server_id_is}
use Rattle.laws_versions.specs.WaitingMutations.{HasAcked, WaitingMutationsCountAcknowledgements, SettledMutationsWereAcknowledged}
use Rattle.laws_versions.proofs.AckedWords.{IsNoAcked, no_acked, masters_none, client_none, restarted_none, server_sender}
use Rattle.laws_versions.proofs.WaitingWalk.{AreCounting, IsSettledSeen, none_counting, step_counting}

-- who acknowledged
abbrev By : List Message → ℕ → ℕ → ℕ → ℕ → Type 0
By sent member handle version serial = HasAcked sent member handle version serial

acked_more : (sent more : List Message) (member handle version serial : ℕ) → HasAcked sent member handle version serial → HasAcked (sent ++ more) member handle version serial
acked_more sent more member handle version serial h = let there = sent_before sent more h.1 (h.0, h.2) in (there.0, h.1, there.1, h.3, h.4)

counting_more : (sent more : List Message) (me : ℕ) (leases : Table SerialOrder) → AreCounting (By sent) me leases → AreCounting (By (sent ++ more)) me leases
counting_more sent more me leases h q p at = (
  λ serial x waits member is. elim ((h q p at).0 serial x waits member is) [
    | inl waited ↦ inl waited
    | inr other ↦ inr (elim (other) [
      | inl primary ↦ inl primary
      | inr acked ↦ inr (acked_more sent more member q p.held.version serial acked)
    ])
  ],
  (h q p at).1,
)

-- an Acked comes from a server
abbrev IsFromServer : Message → Type 0
IsFromServer m = (handle : Handle) (version : Version) (serial : Serial) → m.body ≡ body.Acked handle version serial → (n : ℕ) × (m.sender ≡ the_server n)

record AreAcking (servers : List ServerState) (sent : List Message) : Type 0 where
  counting : (index : ℕ) (s : ServerState) → element_at servers index ≡ Some s → AreCounting (By sent) (suc index) s.leases
  from : (m : Message) → IsSent sent m → IsFromServer m

abbrev Acking : WorldState → Type 0
Acking w = AreAcking w.servers w.sent

-- what a server takes as an Acked was sent by its number
sent_acked : (sent : List Message) → ((m : Message) → IsSent sent m → IsFromServer m) → (m : Message) → IsSent sent m → (handle : Handle) (version : Version) (serial : Serial) → m.body ≡ body.Acked handle version serial
    → HasAcked sent (server_number m.sender) handle.0 version.0 serial.0
sent_acked sent from m there handle version serial is =
    let n = from m there handle version serial is in
    (there.0, m, there.1, n.1 ∙ ap the_server (sym (ap server_number n.1)), is)

module _ (config : Config) (servers clients : ℕ) (w : WorldState) (r : IsReached config servers clients w) (h : Acking w) where
  abbrev k : ℕ
  k = suc (length w.sent)

  from_more : (ms : List Message) → ((x : Message) → IsSent ms x → IsFromServer x) → (m : Message) → IsSent (w.sent ++ stamped k ms) m → IsFromServer m
  from_more ms new m there handle version serial is =
      elim (sent_cases w.sent (stamped k ms) m there) [
        | inl old ↦ h.from m old handle version serial is
        | inr now ↦ let was = numbered_sent k ms now.0 m now.1 in let one = new was.0 was.1 handle version serial ((was.2).2 ∙ is) in (one.0, sym (was.2).0 ∙ one.1)
      ]

  -- servers stay, and no Acked is sent
  calm : (ms : List Message) → AllOf (λ m. IsNoAcked m.body) ms → AreAcking w.servers (w.sent ++ stamped k ms)
  calm ms none =
      record {
        counting = λ index s at. counting_more w.sent (stamped k ms) (suc index) s.leases (h.counting index s at);
        from = from_more ms (λ x there handle version serial is. no_acked x.body handle version serial (all_at (λ (m : Message). IsNoAcked m.body) ms there.0 x none there.1) is);
      }

  one_counting : (index : ℕ) (t : ServerState) (more : List Message) → AreCounting (By w.sent) (suc index) t.leases → (other : ℕ) (u : ServerState) → element_at (with_at w.servers index t) other ≡ Some u → AreCounting (By (w.sent ++ more)) (suc other) u.leases
  one_counting index t more new other u there =
      elim (set_cases w.servers index t other u there) [
        | inl both ↦ subst (λ (n : ℕ). AreCounting (By (w.sent ++ more)) (suc n) u.leases) (sym both.0)
            (subst (λ (x : ServerState). AreCounting (By (w.sent ++ more)) (suc index) x.leases) (sym both.1) (counting_more w.sent more (suc index) t.leases new))
        | inr old ↦ counting_more w.sent more (suc other) u.leases (h.counting other u old)
      ]

  restarted : (index : ℕ) (s : ServerState) (moment : ℕ) (choice : Choice) (e : Ending) → AreCounting (By w.sent) (suc index) (server_restarts s moment choice e).state.leases
  restarted index s moment choice Goes = none_counting (By w.sent) (suc index)
  restarted index s moment choice Lost = none_counting (By w.sent) (suc index)
  restarted index s moment choice (Stops made) = none_counting (By w.sent) (suc index)

  -- a step of a server
  stepped : (index : ℕ) (s : ServerState) → element_at w.servers index ≡ Some s → (moment : ℕ) (i : NodeInput) (choice : Choice) → ((m : Message) → i ≡ input.Deliver m → IsSent w.sent m)
      → AreCounting (By w.sent) (suc index) (server_step s moment i choice).state.leases × AllOf (IsSettledSeen (By w.sent) (suc index) (server_at s moment) (server_step s moment i choice).state.leases) (server_step s moment i choice).seen
  stepped index s at moment i choice came =
      step_counting (By w.sent) (suc index) s moment i choice (λ m q v n is body_is. sent_acked w.sent h.from m (came m is) q v n body_is) (server_id_is config servers clients w r index s at) (h.counting index s at)

  each_acking : HoldsAfter w (λ e x. Acking x.world)
  each_acking =
      record {
        nothing = λ e. h;
        masters = λ e moment i choice is up.
            calm (master_step w.master moment i choice).out.sent (master_said (λ m. IsNoAcked m.body) (record { plain = λ receiver b is. masters_none b is; locates = λ receiver number l current. tt }) w.master moment i choice);
        opens = λ e moment choice.
            calm (master_restart w.master moment choice).out.sent (restart_said (λ m. IsNoAcked m.body) (record { plain = λ receiver b is. masters_none b is; locates = λ receiver number l current. tt }) w.master moment choice);
        serves = λ e index moment s i choice at is up.
            let ms : List Message = (server_step s moment i choice).out.sent in
            record {
              counting = one_counting index (server_step s moment i choice).state (stamped k ms) (stepped index s at moment i choice (came_in w e (suc index) moment i is)).0;
              from = from_more ms (λ x there handle version serial _. (suc index, server_sender config servers clients w r index s at moment i choice x there));
            };
        restarts = λ e index moment s choice at.
            let ms : List Message = (server_restart s moment choice).out.sent in
            let one = calm ms (restarted_none (λ m. IsNoAcked m.body) s moment choice choice.ending) in
            record { counting = one_counting index (server_restart s moment choice).state (stamped k ms) (restarted index s moment choice choice.ending); from = one.from };
        steps = λ e index moment s i choice at is up.
            calm (client_step s moment i choice).out.sent
            (of_step (λ t xs. AllOf (λ m. IsNoAcked m.body) xs) s moment i choice ((numbered_reached config servers clients w r).each index s at).named (λ d step. client_none (client_at s moment) d d.sent step refl) tt tt);
        calls = λ e index moment s c choice at may.
            calm (client_call s moment c choice).out.sent
            (of_call (λ t xs. AllOf (λ m. IsNoAcked m.body) xs) s moment c choice ((numbered_reached config servers clients w r).each index s at).named (λ d step. client_none (client_at s moment) d d.sent step refl) tt);
        rots = λ e index q s x place byte ending is_kept at there up. record { counting = rotten index q s at place byte ending; from = h.from };
      }
    where
      rotten : (index q : ℕ) (s : ServerState) → element_at w.servers index ≡ Some s → (place byte : ℕ) (ending : Ending) → (other : ℕ) (u : ServerState)
          → element_at (with_at w.servers index (after_rot s (rot_of q place byte) ending)) other ≡ Some u → AreCounting (By w.sent) (suc other) u.leases
      rotten index q s at place byte ending other u there =
          elim (set_cases w.servers index (after_rot s (rot_of q place byte) ending) other u there) [
            | inl both ↦ subst (λ (n : ℕ). AreCounting (By w.sent) (suc n) u.leases) (sym both.0)
                (subst (λ (y : ServerState). AreCounting (By w.sent) (suc index) y.leases) (sym both.1) (rot_leases (λ ls. AreCounting (By w.sent) (suc index) ls) s (rot_of q place byte) ending (h.counting index s at) (none_counting (By w.sent) (suc index))))
            | inr old ↦ h.counting other u old
          ]

new_acking : (config : Config) (servers clients : ℕ) → Acking (new_world config servers clients)
new_acking config servers clients =
    record {
      counting = λ index s at.
          subst (λ (t : ServerState). AreCounting (By []) (suc index) t.leases) (sym (numbered_from (λ n. started_server config n (new_server_disk config.chunk config.block config.slots) 0) servers index s at)) (none_counting (By []) (suc index));
      from = λ m there. none_sent m there;
    }

acking_on : (config : Config) (servers clients : ℕ) (w : WorldState) (steps : List (Event × Choice)) → IsReached config servers clients w → Acking w → Acking (after_events w steps)
acking_on config servers clients w [] r h = h
acking_on config servers clients w (step ∷ rest) r h =
    acking_on config servers clients (happens w step.0 step.1).world rest (reached_later config servers clients w (step ∷ []) r) (holds_after w (λ e x. Acking x.world) (each_acking config servers clients w r h) step.0 step.1)

acking_reached : (config : Config) (servers clients : ℕ) (w : WorldState) → IsReached config servers clients w → Acking w
acking_reached config servers clients w r = subst Acking r.1 (acking_on config servers clients (new_world config servers clients) r.0 ([], refl) (new_acking config servers clients))

-- the laws

pub waiting_mutations_count_acknowledgements : WaitingMutationsCountAcknowledgements
waiting_mutations_count_acknowledgements config servers clients w r index s at handle p held = ((acking_reached config servers clients w r).counting index s at handle p held).0

pub settled_mutations_were_acknowledged : SettledMutationsWereAcknowledged
settled_mutations_were_acknowledged config servers clients w r index s at moment i choice came shown handle version serial seen =
    let one =
    all_at (IsSettledSeen (By w.sent) (suc index) (server_at s moment) (server_step s moment i choice).state.leases) (server_step s moment i choice).seen shown (BecameSettled handle version serial)
    (stepped config servers clients w r (acking_reached config servers clients w r) index s at moment i choice came).1 seen in
    record { lease = one.lease; counts = one.counts; later = one.later; held = one.held; same = one.same; given = one.given; gone = one.gone; acked = one.acked }
