-- What a server acknowledged stays among what its replica has applied: it takes entries behind it alone, and the order that gives its server the version is refused from then on.
use Rattle.std.proofs.Common.{◌≡◌, ◌⊎◌, ℕ, zero, suc, ◌≤◌, Bool, true, List, [], ◌∷◌, ◌++◌, length, Some, refl, sym, ap, subst, ◌∙◌, inl, inr, arith}
use Rattle.std.proofs.lemmas.Bool.{true≢false}
use Rattle.gfs_types.specs.declared.config.Config.{Config}
use Rattle.gfs_types.specs.declared.ids.OrderNo.{OrderNo}
use Rattle.messages.specs.declared.event.Event.{Event}
use Rattle.messages.specs.declared.event.NodeInput.{NodeInput}
use Rattle.messages.specs.declared.event.NodeInput.TheVariants as input
use Rattle.messages.specs.declared.message.Body.{Body}
use Rattle.messages.specs.declared.message.Body.TheVariants as body
use Rattle.messages.specs.declared.message.Message.{Message}
use Rattle.replica_store.specs.declared.change.StoreChange.{StoreChange}
use Rattle.replica_store.specs.Replicas.{Replica, ServerDisk, replica_of, disk_changed_by_all, is_new_order}
use Rattle.protocol.specs.Tables.{Table, element_at, with_at}
use Rattle.protocol.specs.Sending.{handle_of, version_of, serial_of, the_server, server_number, order_number}
use Rattle.protocol.specs.Choice.{Choice, Ending, Goes, Lost, Stops, decided_changes}
use Rattle.protocol.specs.Seen.{Taken, no_step}
use Rattle.protocol.specs.Observer.{Placed, placed_in}
use Rattle.protocol.specs.ClientStep.{client_at, client_step, client_call}
use Rattle.protocol.specs.Server.{ServerState}
use Rattle.protocol.specs.ServerStep.{server_goes, server_ends, server_step, server_restart}
use Rattle.protocol.specs.MasterStep.{master_step, master_restart}
use Rattle.protocol.specs.World.{WorldState, new_world, stamped, after_server, happens, after_events, IsReached, after_rot}
use Rattle.laws_base.proofs.Steps.{on_cond, none_some, same_some}
use Rattle.laws_base.proofs.Entries.{AllOf}
use Rattle.laws_base.proofs.RisingOrders.{Later, same_later, step_goes_on, restarts_as, rot_goes_on}
use Rattle.laws_base.proofs.LeasesTold.{AreTold, told_kept}
use Rattle.laws_base.proofs.ScenesReached.{scene_reached}
use Rattle.laws_base.proofs.MembersRecorded.{kept_place, all_at}
use Rattle.laws_base.proofs.MessagesSent.{IsSent, sent_before, sent_cases, none_sent, numbered_sent}
use Rattle.laws_base.proofs.Events.{HoldsAfter, holds_after, rot_of}
use Rattle.laws_base.proofs.ClientNumbers.{of_step, of_call}
use Rattle.laws_base.proofs.RequestsOnce.{numbered_reached}
use Rattle.laws_base.proofs.LeasesStayOver.{reached_later}
use Rattle.laws_base.proofs.MasterTalks.{master_said, restart_said}
use Rattle.laws_base.specs.Given.{version_given}
use Rattle.laws_base.proofs.CountedRounds.{set_split}
use Rattle.laws_base.proofs.Forwards.{acked_serials_are_applied}
use Rattle.laws_versions.specs.ClonedVersions.{version_copied}
use Rattle.laws_versions.specs.TakenOrders.{WasTaken}
use Rattle.laws_versions.proofs.TakenOrders.{ordered_later, ordered_more, replicas_are_of_taken_orders}
use Rattle.laws_versions.proofs.RefusedOrders.{taken_refused}
use Rattle.laws_versions.proofs.KeptDisks.{none_more, frame_kept}
use Rattle.laws_versions.proofs.AckedWords.{IsNoAcked, no_acked, masters_none, client_none, restarted_none, server_sender}
use Rattle.laws_versions.specs.ReplicaImages.{marked, HasEntry, IsImageOf}
use Rattle.laws_versions.proofs.Images.{Carried, Carries}
use Rattle.laws_versions.proofs.ImagesReached.{Plain}
use Rattle.laws_versions.specs.AcknowledgedEntries.{HasAcknowledged}

-- what is carried along

-- a Clone, a CopyAsk or an Image of the version was sent; or what the server acknowledged is among the entries
abbrev pub WasCopied : List Message → ℕ → ℕ → Type 0
WasCopied sent handle version = (m : Message) × IsSent sent m × (version_copied m.body ≡ Some (handle, version))

abbrev pub Kept : List Message → ℕ → Carried
Kept sent index handle version ps = WasCopied sent handle version ⊎ HasAcknowledged sent (suc index) handle version ps

-- an Acked of this version and serial
abbrev IsAckedAs : ℕ → ℕ → ℕ → Body → Type 0
IsAckedAs handle version serial b = b ≡ body.Acked (handle_of handle) (version_of version) (serial_of serial)

-- after more was sent
pub kept_more : (sent ms : List Message) (k index handle version : ℕ) (ps : List Placed)
    → ((x : Message) → IsSent ms x → x.sender ≡ the_server (suc index) → (serial : ℕ) → IsAckedAs handle version serial x.body → 1 ≤ serial → HasEntry ps version serial)
    → Kept sent index handle version ps → Kept (sent ++ stamped k ms) index handle version ps
kept_more sent ms k index handle version ps fresh (inl copied) = inl (copied.0, sent_before sent (stamped k ms) copied.0 copied.1, copied.2)
kept_more sent ms k index handle version ps fresh (inr has) =
    inr (λ place m at sender serial is some.
    elim (sent_cases sent (stamped k ms) m (place, at)) [
      | inl old ↦ has old.0 m old.1 sender serial is some
      | inr now ↦ let was = numbered_sent k ms now.0 m now.1 in fresh was.0 was.1 ((was.2).0 ∙ sender) serial ((was.2).2 ∙ is) some
    ])

-- after more was sent that is no Acked
pub none_more_kept : (sent ms : List Message) (k index handle version : ℕ) (ps : List Placed) → AllOf (λ m. IsNoAcked m.body) ms → Kept sent index handle version ps → Kept (sent ++ stamped k ms) index handle version ps
none_more_kept sent ms k index handle version ps none h =
    kept_more sent ms k index handle version ps
    (λ x there sender serial is some. no_acked x.body (handle_of handle) (version_of version) (serial_of serial) (all_at (λ (m : Message). IsNoAcked m.body) ms there.0 x none there.1) is) h

-- of each Acked its server took the order of the version
abbrev pub AreTaken : List Message → ℕ → ServerState → Type 0
AreTaken sent index s = (m : Message) → IsSent sent m → m.sender ≡ the_server (suc index) → (handle version serial : ℕ) → IsAckedAs handle version serial m.body → WasTaken sent (suc index) s handle version

taken_later : (sent ms : List Message) (k index : ℕ) (s t : ServerState) → Later s.disk t.disk → ((x : Message) → IsSent ms x → x.sender ≡ the_server (suc index) → (handle version serial : ℕ) → IsAckedAs handle version serial x.body → WasTaken (sent ++ stamped k ms) (suc index) t handle version)
    → AreTaken sent index s → AreTaken (sent ++ stamped k ms) index t
taken_later sent ms k index s t later fresh h m there sender handle version serial is =
    elim (sent_cases sent (stamped k ms) m there) [
      | inl old ↦
          ordered_later (sent ++ stamped k ms) (suc index) s.disk t.disk handle version later (ordered_more sent (stamped k ms) (suc index) s.disk handle version (h m old sender handle version serial is))
      | inr now ↦ let was = numbered_sent k ms now.0 m now.1 in fresh was.0 was.1 ((was.2).0 ∙ sender) handle version serial ((was.2).2 ∙ is)
    ]

none_taken : (sent ms : List Message) (k index : ℕ) (s t : ServerState) → Later s.disk t.disk → AllOf (λ m. IsNoAcked m.body) ms → AreTaken sent index s → AreTaken (sent ++ stamped k ms) index t
none_taken sent ms k index s t later none h =
    taken_later sent ms k index s t later
    (λ x there sender handle version serial is. no_acked x.body (handle_of handle) (version_of version) (serial_of serial) (all_at (λ (m : Message). IsNoAcked m.body) ms there.0 x none there.1) is) h

-- a step of a server

module _ (config : Config) (servers clients : ℕ) (w : WorldState) (r : IsReached config servers clients w) (index : ℕ) (s : ServerState) (at : element_at w.servers index ≡ Some s) (taken : AreTaken w.sent index s) (i : NodeInput)
    (came : (m : Message) → i ≡ input.Deliver m → (place : ℕ) × (element_at w.sent place ≡ Some m) × (m.receiver ≡ the_server (suc index))) where
  -- a new order gives no version that was acknowledged
  unacknowledged : (m : Message) → i ≡ input.Deliver m → (handle version : ℕ) → version_given m.body ≡ Some (handle, version) → (order : OrderNo) → order_number m.body ≡ Some order → is_new_order s.disk order.epoch order.count ≡ true
      → (ps : List Placed) → Kept w.sent index handle version ps
  unacknowledged m is handle version given order number new ps =
      let sent = came m is in
      inr (λ place a a_at sender serial acked some.
      absurd (true≢false (sym new
      ∙ taken_refused config servers clients w r index s handle version (taken a (place, a_at) sender handle version serial acked) sent.0 m sent.1 sent.2 given order number order (inr (refl, omega arith)))))

  pub carried : Carries s i Plain (Kept w.sent index)
  carried =
      record {
        more = λ handle version ps p h. elim (h) [
          | inl copied ↦ inl copied
          | inr has ↦ inr (λ place m m_at sender serial is some. let e = has place m m_at sender serial is some in (e.0, e.1, kept_place ps (p ∷ []) e.0 e.1 e.2, e.3, e.4))
        ];
        created = λ m is order handle version body_is new. unacknowledged m is handle.0 version.0 (ap version_given body_is) order (ap order_number body_is) new [];
        imaged = λ m is handle version serial bytes body_is ps h. let sent = came m is in inl (m, (sent.0, sent.1), ap version_copied body_is);
        raised = λ m is order handle version base body_is new ps h. unacknowledged m is handle.0 version.0 (ap version_given body_is) order (ap order_number body_is) new ps;
        copied = λ m is order handle from copy version body_is new ps h. unacknowledged m is copy.0 version.0 (ap version_given body_is) order (ap order_number body_is) new ps;
      }

-- where something was said the step went through, and nothing is under way
said_or_idle : (s : ServerState) (moment : ℕ) (i : NodeInput) (choice : Choice) → s.under_way ≡ [] → ((server_step s moment i choice).out.sent ≡ []) ⊎ ((server_step s moment i choice).state.under_way ≡ [])
said_or_idle s moment i choice idle =
    on_cond (λ (t : Taken ServerState). (t.out.sent ≡ []) ⊎ (t.state.under_way ≡ [])) s.up (server_ends s (server_goes s moment i) choice choice.ending) (no_step s) (λ _. ends choice.ending) (λ _. inl refl)
  where
    ends : (e : Ending) → ((server_ends s (server_goes s moment i) choice e).out.sent ≡ []) ⊎ ((server_ends s (server_goes s moment i) choice e).state.under_way ≡ [])
    ends Goes = inr ((frame_kept s moment i).1 ∙ idle)
    ends Lost = inl refl
    ends (Stops made) = inl refl

-- replicas that acknowledged in the step have it as their last serial
module _ (s : ServerState) (moment : ℕ) (i : NodeInput) (choice : Choice) (idle : s.under_way ≡ []) (sent : List Message) (k index : ℕ) (orders : Table (List Placed)) where
  pub said_kept : (handle : ℕ) (x : Replica) (decided : List Bool) → replica_of (disk_changed_by_all (server_step s moment i choice).state.disk (decided_changes decided (server_step s moment i choice).state.under_way)) handle ≡ Some x
      → (bytes : List ℕ) (g : IsImageOf (placed_in orders handle) x.version x.serial bytes) → Kept sent index handle x.version (marked g.marks (placed_in orders handle))
      → Kept (sent ++ stamped k (server_step s moment i choice).out.sent) index handle x.version (marked g.marks (placed_in orders handle))
  said_kept handle x decided is bytes g = kept_more sent (server_step s moment i choice).out.sent k index handle x.version (marked g.marks (placed_in orders handle)) fresh
    where
      fresh : (m : Message) → IsSent (server_step s moment i choice).out.sent m → m.sender ≡ the_server (suc index) → (serial : ℕ) → IsAckedAs handle x.version serial m.body → 1 ≤ serial → HasEntry (marked g.marks (placed_in orders handle)) x.version serial
      fresh m there sender serial acked some =
          elim (said_or_idle s moment i choice idle) [
            | inl silent ↦ none_some m (ap (λ (ms : List Message). element_at ms there.0) (sym silent) ∙ there.1)
            | inr calm ↦
                let of = acked_serials_are_applied s moment i choice there.0 m there.1 (handle_of handle) (version_of x.version) (serial_of serial) acked in
                let disk : disk_changed_by_all (server_step s moment i choice).state.disk (decided_changes decided (server_step s moment i choice).state.under_way) ≡ (server_step s moment i choice).state.disk =
                ap (λ (xs : List StoreChange). disk_changed_by_all (server_step s moment i choice).state.disk (decided_changes decided xs)) calm ∙ none_more (server_step s moment i choice).state.disk decided in
                let same : of.0 ≡ x = same_some of.0 x (sym of.1 ∙ ap (λ (d : ServerDisk). replica_of d handle) (sym disk) ∙ is) in
                let last : x.serial ≡ serial = ap (λ (y : Replica). y.serial) (sym same) ∙ of.3 in
                elim (g.last) [
                  | inl none ↦ absurd (omega (arith, none, last, some))
                  | inr entry ↦ subst (λ (n : ℕ). HasEntry (marked g.marks (placed_in orders handle)) x.version n) last entry
                ]
          ]

-- the server that was put there
pub set_there : {X : Type 0} (xs : List X) (n : ℕ) (x y : X) → element_at xs n ≡ Some x → element_at (with_at xs n y) n ≡ Some y
set_there [] n x y at = none_some x at
set_there (z ∷ xs) zero x y at = refl
set_there (z ∷ xs) (suc n) x y at = set_there xs n x y at

-- events

abbrev AllTaken : WorldState → Type 0
AllTaken w = (index : ℕ) (s : ServerState) → element_at w.servers index ≡ Some s → AreTaken w.sent index s

module _ (config : Config) (servers clients : ℕ) (w : WorldState) (r : IsReached config servers clients w) (h : AllTaken w) where
  abbrev LaterOn : WorldState → Type 0
  LaterOn v = IsReached config servers clients v → AllTaken v

  abbrev k : ℕ
  k = suc (length w.sent)

  same_suc : (a b : ℕ) → suc a ≡ suc b → a ≡ b
  same_suc a b same = omega (arith, same)

  calm : (ms : List Message) → AllOf (λ m. IsNoAcked m.body) ms → (index : ℕ) (s : ServerState) → element_at w.servers index ≡ Some s → AreTaken (w.sent ++ stamped k ms) index s
  calm ms none index s at = none_taken w.sent ms k index s s (same_later s.disk) none (h index s at)

  -- one server is another
  one_taken : (sent : List Message) (index : ℕ) (t : ServerState) → AreTaken sent index t → ((other : ℕ) (u : ServerState) → (other ≡ index → ⊥) → element_at w.servers other ≡ Some u → AreTaken sent other u) → (other : ℕ) (u : ServerState)
      → element_at (with_at w.servers index t) other ≡ Some u → AreTaken sent other u
  one_taken sent index t new old other u there =
      elim (set_split w.servers index t other u there) [
        | inl both ↦ subst (λ (n : ℕ). AreTaken sent n u) (sym both.0) (subst (λ (x : ServerState). AreTaken sent index x) (sym both.1) new)
        | inr apart ↦ old other u apart.0 apart.1
      ]

  module _ (index moment : ℕ) (s : ServerState) (i : NodeInput) (choice : Choice) (at : element_at w.servers index ≡ Some s) (later : IsReached config servers clients (after_server w index moment (server_step s moment i choice)).world) where
    abbrev v : WorldState
    v = (after_server w index moment (server_step s moment i choice)).world

    abbrev t : ServerState
    t = (server_step s moment i choice).state

    abbrev ms : List Message
    ms = (server_step s moment i choice).out.sent

    here : AreTaken v.sent index t
    here =
        taken_later w.sent ms k index s t (step_goes_on s moment i choice (scene_reached AreTold told_kept config servers clients w r index s at).sound).later
        (λ x x_there sender handle version serial acked.
        let of = acked_serials_are_applied s moment i choice x_there.0 x x_there.1 (handle_of handle) (version_of version) (serial_of serial) acked in
        subst (λ (n : ℕ). WasTaken v.sent (suc index) t handle n) of.2 (replicas_are_of_taken_orders config servers clients v later index t (set_there w.servers index s t at) handle of.0 of.1)) (h index s at)

    others : (other : ℕ) (u : ServerState) → (other ≡ index → ⊥) → element_at w.servers other ≡ Some u → AreTaken v.sent other u
    others other u apart there =
        taken_later w.sent ms k other u u (same_later u.disk)
        (λ x x_there sender handle version serial acked. absurd (apart (same_suc other index (ap server_number (sym sender ∙ server_sender config servers clients w r index s at moment i choice x x_there))))) (h other u there)

    served : AllTaken v
    served = one_taken v.sent index t here others

  each_later : HoldsAfter w (λ e x. LaterOn x.world)
  each_later =
      record {
        nothing = λ e later. h;
        masters = λ e moment i choice is up later.
            calm (master_step w.master moment i choice).out.sent (master_said (λ m. IsNoAcked m.body) (record { plain = λ receiver b is. masters_none b is; locates = λ receiver number l current. tt }) w.master moment i choice);
        opens = λ e moment choice later.
            calm (master_restart w.master moment choice).out.sent (restart_said (λ m. IsNoAcked m.body) (record { plain = λ receiver b is. masters_none b is; locates = λ receiver number l current. tt }) w.master moment choice);
        serves = λ e index moment s i choice at is up later. served index moment s i choice at later;
        restarts = λ e index moment s choice at later.
            let ms : List Message = (server_restart s moment choice).out.sent in
            let none : AllOf (λ m. IsNoAcked m.body) ms = restarted_none (λ m. IsNoAcked m.body) s moment choice choice.ending in
            one_taken (w.sent ++ stamped k ms) index (server_restart s moment choice).state
            (none_taken w.sent ms k index s (server_restart s moment choice).state (restarts_as s moment choice choice.ending (scene_reached AreTold told_kept config servers clients w r index s at).sound).later none (h index s at))
            (λ other u apart there. calm ms none other u there);
        steps = λ e index moment s i choice at is up later.
            calm (client_step s moment i choice).out.sent
            (of_step (λ t xs. AllOf (λ m. IsNoAcked m.body) xs) s moment i choice ((numbered_reached config servers clients w r).each index s at).named (λ d step. client_none (client_at s moment) d d.sent step refl) tt tt);
        calls = λ e index moment s c choice at may later.
            calm (client_call s moment c choice).out.sent
            (of_call (λ t xs. AllOf (λ m. IsNoAcked m.body) xs) s moment c choice ((numbered_reached config servers clients w r).each index s at).named (λ d step. client_none (client_at s moment) d d.sent step refl) tt);
        rots = λ e index handle s x place byte ending is_kept at there up later.
            let t : ServerState = after_rot s (rot_of handle place byte) ending in
            let goes = (rot_goes_on s (rot_of handle place byte) ending tt (scene_reached AreTold told_kept config servers clients w r index s at).sound up).later in
            one_taken w.sent index t (λ m sent sender q version serial is. ordered_later w.sent (suc index) s.disk t.disk q version goes (h index s at m sent sender q version serial is)) (λ other u apart u_there. h other u u_there);
      }

taken_on : (config : Config) (servers clients : ℕ) (w : WorldState) (steps : List (Event × Choice)) → IsReached config servers clients w → AllTaken w → AllTaken (after_events w steps)
taken_on config servers clients w [] r h = h
taken_on config servers clients w (step ∷ rest) r h =
    let later = reached_later config servers clients w (step ∷ []) r in
    taken_on config servers clients (happens w step.0 step.1).world rest later (holds_after w (λ e x. LaterOn config servers clients w r h x.world) (each_later config servers clients w r h) step.0 step.1 later)

-- of each Acked its server took the order of the version
pub acknowledged_taken : (config : Config) (servers clients : ℕ) (w : WorldState) → IsReached config servers clients w → AllTaken w
acknowledged_taken config servers clients w r = subst AllTaken r.1 (taken_on config servers clients (new_world config servers clients) r.0 ([], refl) (λ index s at m there sender handle version serial is. none_sent m there))
