-- The world in which a step of the master has stopped after some of its changes tells what its log says then.
use Rattle.std.proofs.Common.{◌≡◌, ◌⊎◌, ℕ, zero, suc, ◌≤◌, ◌<◌, Bool, true, false, cond, List, [], ◌∷◌, ◌++◌, take, length, Option, Some, refl, sym, ap, subst, ◌∙◌, inl, inr, arith}
use Rattle.std.specs.Prelude.{nat_le, max, IsTrue}
use Rattle.std.proofs.lemmas.Bool.{leb-false}
use Rattle.std.proofs.lemmas.List.{append-nil}
use Rattle.gfs_types.specs.declared.config.Config.{Config}
use Rattle.gfs_types.specs.declared.ids.Node.{Node}
use Rattle.messages.specs.declared.event.Event.{Event}
use Rattle.messages.specs.declared.event.Event.TheVariants as event
use Rattle.messages.specs.declared.event.NodeInput.{NodeInput}
use Rattle.messages.specs.declared.event.NodeInput.TheVariants as input
use Rattle.messages.specs.declared.message.Message.{Message}
use Rattle.chunk_table.specs.ChunkTable.{ChunkRow, chunk_of}
use Rattle.protocol.specs.Tables.{moment_limit, element_at}
use Rattle.protocol.specs.Sending.{handle_of}
use Rattle.protocol.specs.Choice.{Choice, Stops}
use Rattle.protocol.specs.Logged.{log_changed_by_all, replayed}
use Rattle.protocol.specs.Master.{MasterState}
use Rattle.protocol.specs.MasterStep.{master_goes, master_ends, master_bounded, master_step}
use Rattle.protocol.specs.Seen.{Taken, no_step}
use Rattle.protocol.specs.Server.{ServerState}
use Rattle.protocol.specs.World.{WorldState, Happened, stamped, nothing_happens, after_master, master_moves, moves, delivered, at_moment, happens, IsReached}
use Rattle.laws_base.proofs.LeaseOrders.{SaysGrant, stated_grant}
use Rattle.laws_base.specs.Laws.{grants_of}
use Rattle.laws_base.proofs.GrantsOnce.{versions_are_granted_once}
use Rattle.laws_base.proofs.ScenesReached.{Scene, scene_of}
use Rattle.laws_base.specs.Versions.{IsLeaseOver}
use Rattle.laws_base.proofs.EndedLeases.{leases_in_the_log_are_over}
use Rattle.laws_base.proofs.LeasesStayOver.{AreOverAt, over_to, over_of, reached_later}
use Rattle.laws_versions.proofs.MasterRows.{grants_agree_with_rows}
use Rattle.laws_versions.proofs.SharedChunks.{sent_over, shared_chunks_in_the_log_have_no_lease}
use Rattle.laws_machine.specs.Rounds.{IsMastersInput, log_within, LogsWithinStepsEndLeases}
use Rattle.laws_machine.proofs.EndedRounds.{some_place, IsGrantOf, grant_is}

-- an event that gives the master its input
masters_event : (w : WorldState) (e : Event) (moment : ℕ) (i : NodeInput) (choice : Choice) → IsMastersInput w e moment i → happens w e choice ≡ at_moment w moment (master_moves w moment i choice)
masters_event w (event.Deliver number now) moment (input.Deliver m) choice given =
    ap (λ (o : Option Message). at_moment w now.0 (delivered w now.0 choice o)) given.0 ∙ (ap (λ (n : Node). at_moment w now.0 (moves w n now.0 (input.Deliver m) choice)) given.1 ∙ ap (λ (n : ℕ). at_moment w n (master_moves w n (input.Deliver m) choice)) given.2)
masters_event w (event.Tick n now) moment input.Tick choice given =
    ap (λ (x : Node). at_moment w now.0 (moves w x now.0 input.Tick choice)) given.0 ∙ ap (λ (x : ℕ). at_moment w x (master_moves w x input.Tick choice)) given.1
masters_event w (event.Deliver number now) moment input.Tick choice given = absurd given
masters_event w (event.Tick n now) moment (input.Deliver m) choice given = absurd given
masters_event w (event.Call client c now) moment i choice given = absurd given
masters_event w (event.Restart n now) moment i choice given = absurd given
masters_event w (event.Rot server q place byte) moment i choice given = absurd given
masters_event w (event.Fuse n count torn) moment i choice given = absurd given

true_test : (n m : ℕ) → n ≤ m → nat_le n m ≡ true
true_test n m low = by_test (nat_le n m) refl
  where
    by_test : (b : Bool) → nat_le n m ≡ b → nat_le n m ≡ true
    by_test true is = is
    by_test false is = absurd (let high = leb-false n m is in omega (arith, low, high))

module _ (config : Config) (servers clients : ℕ) (w : WorldState) (r : IsReached config servers clients w) (up : IsTrue w.master.up) (e : Event) (moment : ℕ) (i : NodeInput) (choice : Choice) (given : IsMastersInput w e moment i)
    (limit : moment ≤ moment_limit) (clocks : IsTrue (happens w e choice).world.observer.are_clocks_kept) (made : ℕ) where
  abbrev taken : Choice → Happened
  taken c = after_master w moment (master_step w.master moment i c)

  it_is : (c : Choice) → happens w e c ≡ taken c
  it_is c = masters_event w e moment i c given ∙ (ap (λ (b : Bool). cond b (master_moves w moment i c) (nothing_happens w)) (true_test moment moment_limit limit) ∙ ap (λ (b : Bool). cond b (taken c) (nothing_happens w)) up)

  abbrev pub stopping : Choice
  stopping = record { ending = Stops made; order = []; refused = choice.refused; decided = [] }

  abbrev pub stopped : WorldState
  stopped = (happens w e stopping).world

  abbrev then_ : WorldState
  then_ = (happens w e choice).world

  step_is : master_step w.master moment i stopping ≡ master_ends w.master (master_goes w.master moment i choice.refused) stopping (Stops made)
  step_is = ap (λ (b : Bool). cond b (master_bounded w.master i (master_goes w.master moment i choice.refused) stopping) (no_step w.master)) up

  stopped_is : stopped ≡ (after_master w moment (master_ends w.master (master_goes w.master moment i choice.refused) stopping (Stops made))).world
  stopped_is = ap (λ (h : Happened). h.world) (it_is stopping) ∙ ap (λ (t : Taken MasterState). (after_master w moment t).world) step_is

  pub reached : IsReached config servers clients stopped
  reached = reached_later config servers clients w ((e, stopping) ∷ []) r

  later : IsReached config servers clients then_
  later = reached_later config servers clients w ((e, choice) ∷ []) r

  clocks_then : IsTrue stopped.observer.are_clocks_kept
  clocks_then = ap (λ (h : WorldState). h.observer.are_clocks_kept) stopped_is ∙ (sym (ap (λ (h : Happened). h.world.observer.are_clocks_kept) (it_is choice)) ∙ clocks)

  pub log_is : replayed stopped.master.disk ≡ log_within w.master moment i choice.refused made
  log_is = ap (λ (h : WorldState). replayed h.master.disk) stopped_is

  pub disk_is : stopped.master.disk ≡ log_changed_by_all w.master.disk (take made (master_goes w.master moment i choice.refused).changes)
  disk_is = ap (λ (h : WorldState). h.master.disk) stopped_is

  sent_is : stopped.sent ≡ w.sent
  sent_is = ap (λ (h : WorldState). h.sent) stopped_is ∙ append-nil w.sent

  -- what is over there is over after the step, if it was granted before

  abbrev scene : Scene
  scene = scene_of (record w { observer = record w.observer { greatest = max w.observer.greatest moment } })

  module _ (handle version : ℕ) (granted : 1 ≤ grants_of handle version w.sent) (over : IsLeaseOver stopped handle version) where
    over_there : AreOverAt handle version 0 w.sent (max w.observer.greatest moment) w.servers
    over_there =
        subst (λ (ms : List Message). AreOverAt handle version 0 ms (max w.observer.greatest moment) w.servers) sent_is
        (subst (λ (n : ℕ). AreOverAt handle version 0 stopped.sent n w.servers) (ap (λ (h : WorldState). h.observer.greatest) stopped_is)
        (subst (λ (ss : List ServerState). AreOverAt handle version 0 stopped.sent stopped.observer.greatest ss) (ap (λ (h : WorldState). h.servers) stopped_is) (over_to stopped handle version over)))

    abbrev more : List Message
    more = stamped (suc (length w.sent)) (master_step w.master moment i choice).out.sent

    few : grants_of handle version (w.sent ++ more) ≤ grants_of handle version w.sent
    few =
        let once = versions_are_granted_once config servers clients then_ later handle version in
        let same = ap (λ (h : Happened). grants_of handle version h.world.sent) (it_is choice) in
        omega (arith, once, same, granted)

    over_after : IsLeaseOver then_ handle version
    over_after = subst (λ (h : Happened). IsLeaseOver h.world handle version) (sym (it_is choice)) (over_of (taken choice).world handle version (sent_over scene more handle version few over_there))

  module _ (handle : ℕ) (row : ChunkRow) (there : chunk_of (log_within w.master moment i choice.refused made).table handle ≡ Some row) where
    here : chunk_of (replayed stopped.master.disk).table handle ≡ Some row
    here = ap (λ l. chunk_of l.table handle) log_is ∙ there

    over_in_log : (version : ℕ) → (2 ≤ row.references) ⊎ (version ≡ row.granted → ⊥) → IsLeaseOver stopped handle version
    over_in_log version (inl owned) = shared_chunks_in_the_log_have_no_lease config servers clients stopped reached clocks_then handle row here owned version
    over_in_log version (inr other) = leases_in_the_log_are_over config servers clients stopped reached clocks_then handle row here version (λ same. absurd (other same))

    no_grant : (version place : ℕ) (m : Message) → element_at w.sent place ≡ Some m → IsGrantOf handle version m.body → row.granted < version → ⊥
    no_grant version place m at g above =
        let named : SaysGrant g.order (handle_of handle) g.number g.end_moment g.members m.body =
        subst (λ (n : ℕ). SaysGrant g.order (handle_of n) g.number g.end_moment g.members m.body) g.handle_is g.body_is in
        let low = (grants_agree_with_rows config servers clients stopped reached handle row (inr here) place m g.order g.number g.end_moment g.members (ap (λ (ms : List Message). element_at ms place) sent_is ∙ at) (stated_grant named)).0 in
        let same = g.version_is in
        omega (arith, low, same, above)

    none_above : (version : ℕ) → row.granted < version → grants_of handle version w.sent ≡ 0
    none_above version above = by_count (grants_of handle version w.sent) refl
      where
        by_count : (count : ℕ) → grants_of handle version w.sent ≡ count → grants_of handle version w.sent ≡ 0
        by_count zero is = is
        by_count (suc count) is = let found = some_place handle version w.sent (omega (arith, is)) in absurd (no_grant version found.0 found.1 found.2 (grant_is handle version (found.1).body found.3) above)

pub logs_within_steps_end_leases : LogsWithinStepsEndLeases
logs_within_steps_end_leases config servers clients w r up e moment i choice given limit clocks made handle row there = (
  λ version granted why.
      over_after config servers clients w r up e moment i choice given limit clocks made handle version granted (over_in_log config servers clients w r up e moment i choice given limit clocks made handle row there version why),
  none_above config servers clients w r up e moment i choice given limit clocks made handle row there,
)
