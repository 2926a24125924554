-- What a restart finds of a replica after a step that stopped, however what was under way is decided.
use Rattle.std.proofs.Common.{◌≡◌, ℕ, zero, suc, Bool, true, false, List, [], ◌∷◌, take, drop, Some, refl, sym, ap, subst, inl, inr}
use Rattle.std.specs.Prelude.{filter}
use Rattle.std.proofs.lemmas.Bool.{true≢false}
use Rattle.gfs_types.specs.declared.config.Config.{Config}
use Rattle.messages.specs.declared.event.NodeInput.{NodeInput}
use Rattle.laws_base.proofs.Rots.{rot_idle}
use Rattle.data_push.specs.Buffers.{PushBuffer}
use Rattle.replica_store.specs.declared.change.StoreChange.{StoreChange}
use Rattle.replica_store.specs.Replicas.{ServerDisk, new_server_disk, disk_changed, disk_changed_by_all}
use Rattle.protocol.specs.Tables.{element_at, with_at}
use Rattle.protocol.specs.Choice.{Choice, Ending, Goes, Lost, Stops, decided_changes}
use Rattle.protocol.specs.Seen.{is_numbering, Taken, no_step}
use Rattle.protocol.specs.declared.seen.Seen.{Seen}
use Rattle.protocol.specs.Server.{ServerState, ServerDoing, started_server}
use Rattle.protocol.specs.ServerStep.{found_disk, server_goes, server_ends, server_step, server_restarts, server_restart}
use Rattle.protocol.specs.World.{WorldState, new_world, after_rot}
use Rattle.laws_base.proofs.Steps.{on_cond}
use Rattle.laws_base.proofs.RisingOrders.{set_cases}
use Rattle.laws_base.proofs.LeasesTold.{numbered_from}
use Rattle.laws_base.proofs.Events.{HoldsAfter, world_reached, rot_of}
use Rattle.laws_base.proofs.ServerActs.{Acting, acting, KeepsActs, goes_fine}
use Rattle.laws_base.specs.ReplicaChanges.{ReplicasAreFoundInSerialOrder}
use Rattle.laws_base.proofs.Changes.{Changed, changed_on, unchanged, filtered_numbered, Before, After, acts_changed}

-- a server that is up has nothing under way

abbrev IsIdle : Acting → Type 0
IsIdle c = c.under_way ≡ []

acts_idle : (kept : PushBuffer) → KeepsActs kept IsIdle IsIdle
acts_idle kept =
    record {
      begins = λ c h. h;
      orders = λ c order h. h;
      drops = λ c handle h. h;
      puts = λ c handle version serial bytes none short h. h;
      raises = λ c handle version r there h. h;
      copies = λ c handle copy version none h. h;
      grants = λ c handle version until chunk members holds h. h;
      holds = λ c leases from h. h;
      settles = λ c handle version serial h. h;
      numbers = λ c handle p id m n h. h;
      spoils = λ c handle p id m n h. h;
      applies = λ c handle serial r x there less writing h. h;
    }

abbrev IsUpIdle : ServerState → Type 0
IsUpIdle s = s.up ≡ true → s.under_way ≡ []

ends_idle : (s : ServerState) (d : ServerDoing) (choice : Choice) (e : Ending) → IsIdle (acting d) → IsUpIdle (server_ends s d choice e).state
ends_idle s d choice Goes h up = h
ends_idle s d choice Lost h up = absurd (true≢false (sym up))
ends_idle s d choice (Stops made) h up = absurd (true≢false (sym up))

step_idle : (s : ServerState) (moment : ℕ) (i : NodeInput) (choice : Choice) → IsUpIdle s → IsUpIdle (server_step s moment i choice).state
step_idle s moment i choice h =
    on_cond (λ (t : Taken ServerState). IsUpIdle t.state) s.up (server_ends s (server_goes s moment i) choice choice.ending) (no_step s)
    (λ up. ends_idle s (server_goes s moment i) choice choice.ending (goes_fine s IsIdle IsIdle (acts_idle s.pushed) moment i (h up))) (λ _. h)

restart_idle : (s : ServerState) (moment : ℕ) (choice : Choice) (e : Ending) → IsUpIdle (server_restarts s moment choice e).state
restart_idle s moment choice Lost up = absurd (true≢false (sym up))
restart_idle s moment choice (Stops made) up = absurd (true≢false (sym up))
restart_idle s moment choice Goes up = refl

abbrev AllIdle : WorldState → Type 0
AllIdle w = (index : ℕ) (s : ServerState) → element_at w.servers index ≡ Some s → IsUpIdle s

one_idle : (servers : List ServerState) (index : ℕ) (t : ServerState) → IsUpIdle t → ((other : ℕ) (u : ServerState) → element_at servers other ≡ Some u → IsUpIdle u) → (other : ℕ) (u : ServerState)
    → element_at (with_at servers index t) other ≡ Some u → IsUpIdle u
one_idle servers index t new h other u is =
    elim (set_cases servers index t other u is) [
      | inl both ↦ subst (λ (v : ServerState). IsUpIdle v) (sym both.1) new
      | inr there ↦ h other u there
    ]

each_event : (w : WorldState) → AllIdle w → HoldsAfter w (λ e h. AllIdle h.world)
each_event w h =
    record {
      nothing = λ e. h;
      masters = λ e moment i choice is up. h;
      opens = λ e moment choice. h;
      serves = λ e index moment s i choice at is up. one_idle w.servers index (server_step s moment i choice).state (step_idle s moment i choice (h index s at)) h;
      restarts = λ e index moment s choice at. one_idle w.servers index (server_restart s moment choice).state (restart_idle s moment choice choice.ending) h;
      steps = λ e index moment s i choice at is up. h;
      calls = λ e index moment s c choice at may. h;
      rots = λ e index handle s r place byte ending is_kept at there up. one_idle w.servers index (after_rot s (rot_of handle place byte) ending) (rot_idle s (rot_of handle place byte) ending (h index s at)) h;
    }

new_idle : (config : Config) (servers clients : ℕ) → AllIdle (new_world config servers clients)
new_idle config servers clients index s at =
    subst (λ (t : ServerState). IsUpIdle t) (sym (numbered_from (λ n. started_server config n (new_server_disk config.chunk config.block config.slots) 0) servers index s at)) (λ up. refl)

-- what is decided of the change under way is that one change more was made, or none

none_decided : (decided : List Bool) → decided_changes {C = StoreChange} decided [] ≡ []
none_decided [] = refl
none_decided (b ∷ rest) = refl

none_more : (d : ServerDisk) (decided : List Bool) → disk_changed_by_all d (decided_changes decided []) ≡ d
none_more d decided = ap (λ (xs : List StoreChange). disk_changed_by_all d xs) (none_decided decided)

one_decided : (d : ServerDisk) (decided : List Bool) (x : StoreChange) (xs : List StoreChange) → (n : ℕ) × (disk_changed_by_all d (decided_changes decided (x ∷ [])) ≡ disk_changed_by_all d (take n (x ∷ xs)))
one_decided d [] x xs = (0, refl)
one_decided d (true ∷ rest) x xs = (1, none_more (disk_changed d x) rest)
one_decided d (false ∷ rest) x xs = (0, none_more d rest)

found_made : (d : ServerDisk) (decided : List Bool) (made : ℕ) (xs : List StoreChange)
    → (n : ℕ) × (disk_changed_by_all (disk_changed_by_all d (take made xs)) (decided_changes decided (take 1 (drop made xs))) ≡ disk_changed_by_all d (take n xs))
found_made d decided zero [] = (0, none_more d decided)
found_made d decided zero (x ∷ xs) = one_decided d decided x xs
found_made d decided (suc made) [] = (0, none_more d decided)
found_made d decided (suc made) (x ∷ xs) = let rest = found_made (disk_changed d x) decided made xs in (suc rest.0, rest.1)

module _ (s : ServerState) (idle : s.under_way ≡ []) (found : Choice) where
  -- what a restart finds after the step
  abbrev IsFound : Taken ServerState → Type 0
  IsFound t = Changed t.seen s.disk (found_disk t.state found)

  nothing_found : (seen : List Seen) (d : ServerDisk) → Changed seen s.disk d → Changed seen s.disk (disk_changed_by_all d (decided_changes found.decided []))
  nothing_found seen d h = subst (λ (e : ServerDisk). Changed seen s.disk e) (sym (none_more d found.decided)) h

  ends_found : (d : ServerDoing) (choice : Choice) (e : Ending) → IsIdle (acting d) → After s (acting d) → IsFound (server_ends s d choice e)
  ends_found d choice Goes quiet h =
      subst (λ (xs : List StoreChange). Changed d.seen s.disk (disk_changed_by_all (disk_changed_by_all d.server.disk d.changes) (decided_changes found.decided xs))) (sym quiet)
      (nothing_found d.seen (disk_changed_by_all d.server.disk d.changes) (subst (λ (x : ServerDisk). Changed d.seen x (disk_changed_by_all d.server.disk d.changes)) h.2 h.0))
  ends_found d choice Lost quiet h = nothing_found [] s.disk (unchanged [] s.disk s.disk refl)
  ends_found d choice (Stops made) quiet h =
      let one = found_made s.disk found.decided made d.changes in
      subst (λ (e : ServerDisk). Changed (filter is_numbering d.seen) s.disk e) (sym one.1)
      (changed_on d.seen (filter is_numbering d.seen) s.disk (disk_changed_by_all s.disk (take one.0 d.changes)) (filtered_numbered d.seen)
      (subst (λ (x : ServerDisk). Changed d.seen x (disk_changed_by_all x (take one.0 d.changes))) h.2 (h.1 one.0)))

  step_found : (moment : ℕ) (i : NodeInput) (choice : Choice) → IsFound (server_step s moment i choice)
  step_found moment i choice =
      on_cond IsFound s.up (server_ends s (server_goes s moment i) choice choice.ending) (no_step s)
      (λ _. ends_found (server_goes s moment i) choice choice.ending (goes_fine s IsIdle IsIdle (acts_idle s.pushed) moment i idle) (goes_fine s (Before s) (After s) (acts_changed s) moment i (refl, tt)))
      (λ _. subst (λ (xs : List StoreChange). Changed [] s.disk (disk_changed_by_all s.disk (decided_changes found.decided xs))) (sym idle) (nothing_found [] s.disk (unchanged [] s.disk s.disk refl)))

pub replicas_are_found_in_serial_order : ReplicasAreFoundInSerialOrder
replicas_are_found_in_serial_order config servers clients w r index s at up moment i choice found handle replica now is then_ =
    step_found s (world_reached AllIdle each_event new_idle config servers clients w r index s at up) found moment i choice handle replica now is then_
