-- A server whose disk stops, and that is opened over it again.
use Rattle.std.proofs.Common.{◌≡◌, true, false, ℕ, List, [], ◌∷◌, inl, inr, refl, sym, ap, ◌∙◌, subst, Option, Some, None}
use Rattle.std.specs.Prelude.{IfSome}
use Rattle.gfs_types.specs.declared.config.Config.{Config}
use Rattle.messages.specs.declared.event.StepOut.{StepOut}
use Rattle.disk.specs.Device.{Only}
use Rattle.disk.specs.Failing.{FuseState}
use Rattle.disk.specs.Laws.{left_now}
use Rattle.disk.specs.Writes.{LeftBy, LeftSince, moment_of}
use Rattle.disk_redo.specs.GateMoments.{LeavesOnly}
use Rattle.replica_store.specs.Replicas.{ServerDisk}
use Rattle.chunk_store.specs.Opening.{HoldsReplicas, IsOpening}
use Rattle.disk_store.specs.Standing.{LeavesHolding}
use Rattle.disk_store.proofs.Again.{Found, found, still_left}
use Rattle.protocol.specs.Conforms.{ServerRestarts}
use Rattle.protocol.specs.Seen.{no_output}
use Rattle.protocol.specs.Server.{ServerState, started_server, stopped_server}
use Rattle.server_handlers.specs.Standing.{HeldServerState}
use Rattle.server_cell.specs.Settings.{IsServerOf, KeepsSettings}
use Rattle.server_cell.specs.Slots.{IsDiskLeft, slot_state}
use Rattle.server_cell.proofs.Settings.{still_of}
use Rattle.server_cell.proofs.Steps.{restarts_so}

abbrev stopped : ServerState → ServerState
stopped s = stopped_server s s.disk s.under_way

-- Which server a slot holds.

-- the server that is held is its state
pub held_is : (config : Config) (id : ℕ) (o : Option HeldServerState) (s : HeldServerState) (before : List HeldServerState) → o ≡ Some s → slot_state config id o before ≡ s.state
held_is config id o s before is = ap (λ (x : Option HeldServerState). slot_state config id x before) is

-- and goes on to be one of its settings
pub goes_on : (config : Config) (id : ℕ) (o : Option HeldServerState) (s : HeldServerState) (t : ServerState) (before : List HeldServerState) → o ≡ Some s → IsServerOf config id (slot_state config id o before) → KeepsSettings s.state t
    → IsServerOf config id t
goes_on config id o s t before is h kept = still_of config id s.state t (subst (IsServerOf config id) (held_is config id o s before is) h) kept

-- one that isn't held is down
none_up : (config : Config) (id : ℕ) (before : List HeldServerState) → (slot_state config id None before).up ≡ false
none_up config id [] = refl
none_up config id (s ∷ rest) = refl

pub not_held : (config : Config) (id : ℕ) (o : Option HeldServerState) (before : List HeldServerState) → o ≡ None → (slot_state config id o before).up ≡ false
not_held config id o before is = ap (λ (x : Option HeldServerState). (slot_state config id x before).up) is ∙ none_up config id before

-- so one that is up is held
pub up_held : {P : Type 0} (config : Config) (id : ℕ) (o : Option HeldServerState) (before : List HeldServerState) (s : ServerState) → o ≡ None → slot_state config id o before ≡ s → s.up ≡ true → P
up_held config id o before s is view up =
    let both : false ≡ true = sym (not_held config id o before is) ∙ (ap (λ (x : ServerState). x.up) view ∙ up) in absurd cc

-- a server that is let go is down
pub let_go : (config : Config) (id : ℕ) (o : Option HeldServerState) (s : HeldServerState) (before now : List HeldServerState) → o ≡ Some s → now ≡ s ∷ [] → slot_state config id None now ≡ stopped (slot_state config id o before)
let_go config id o s before now is items = ap (slot_state config id None) items ∙ sym (ap stopped (held_is config id o s before is))

none_down : (config : Config) (id : ℕ) (before : List HeldServerState) → slot_state config id None before ≡ stopped (slot_state config id None before)
none_down config id [] = refl
none_down config id (s ∷ rest) = refl

pub stays_down : (config : Config) (id : ℕ) (o : Option HeldServerState) (before : List HeldServerState) → o ≡ None → slot_state config id o before ≡ stopped (slot_state config id o before)
stays_down config id o before is =
    ap (λ (x : Option HeldServerState). slot_state config id x before) is ∙ (none_down config id before ∙ sym (ap (λ (x : Option HeldServerState). stopped (slot_state config id x before)) is))

-- a server that is down has its settings
pub stopped_of : (config : Config) (id : ℕ) (s t : ServerState) → t ≡ stopped s → IsServerOf config id s → IsServerOf config id t
stopped_of config id s t is h = subst (IsServerOf config id) (sym is) (record { config_is = h.config_is; id_is = h.id_is; chunk_is = h.chunk_is; block_is = h.block_is; slots_is = h.slots_is })

module _ (config : Config) (id : ℕ) (before : List HeldServerState) where
  -- the disk of one that isn't held
  pub disk_taken : (o : Option HeldServerState) (disk : Option FuseState) → o ≡ None → IsDiskLeft config id o before disk → (let s = slot_state config id o before in IfSome disk (λ f. LeavesHolding (LeftBy f.disk) s.disk s.under_way))
  disk_taken (Some s) disk is left = absurd cc
  disk_taken None None is left = tt
  disk_taken None (Some f) is left = left

  -- or of one that can't be opened
  pub disk_kept : (o : Option HeldServerState) (f : FuseState) (s : ServerState) → slot_state config id o before ≡ s → LeavesHolding (LeftBy f.disk) s.disk s.under_way → IsDiskLeft config id o before (Some f)
  disk_kept (Some x) f s view left = tt
  disk_kept None f s view left = subst (λ (x : ServerState). LeavesHolding (LeftBy f.disk) x.disk x.under_way) (sym view) left

-- A server that is opened.

-- what a disk of these sizes holds has them
pub started_of : (config : Config) (id moment : ℕ) (bytes : List ℕ) (d : ServerDisk) → HoldsReplicas config.chunk config.block config.slots bytes d → IsServerOf config id (started_server config id d moment)
started_of config id moment bytes d (inl new) = record {
  config_is = refl;
  id_is = refl;
  chunk_is = ap (λ (x : ServerDisk). x.chunk) new.1;
  block_is = ap (λ (x : ServerDisk). x.block) new.1;
  slots_is = ap (λ (x : ServerDisk). x.slots) new.1;
}
started_of config id moment bytes d (inr stands) = record { config_is = refl; id_is = refl; chunk_is = stands.1.1.chunk_is; block_is = stands.1.1.block_is; slots_is = stands.1.1.slots_is }

pub opened_of : (config : Config) (id moment : ℕ) (bytes : List ℕ) (d : ServerDisk) (s : ServerState) → HoldsReplicas config.chunk config.block config.slots bytes d → s ≡ started_server config id d moment → IsServerOf config id s
opened_of config id moment bytes d s holds is = subst (IsServerOf config id) (sym is) (started_of config id moment bytes d holds)

-- what its disk holds once it has begun again
abbrev pub FoundAgain : Config → ServerState → List ℕ → Type 0
FoundAgain config s bytes = Found config.chunk config.block config.slots s.disk s.under_way bytes

module _ (config : Config) (id : ℕ) (s : ServerState) (h : IsServerOf config id s) where
  pub found_again : (may_leave : List ℕ → Type 0) (bytes : List ℕ) → LeavesHolding may_leave s.disk s.under_way → may_leave bytes → FoundAgain config s bytes
  found_again = found config.chunk config.block config.slots s.disk s.under_way h.chunk_is h.block_is h.slots_is

  -- it is opened over what was found
  pub opened_again : (moment : ℕ) (out : StepOut) (new : ServerState) (bytes : List ℕ) → out ≡ no_output → (f : FoundAgain config s bytes) → new ≡ started_server config id f.disk moment → ServerRestarts s moment out new
  opened_again moment out new bytes o f is =
      restarts_so s (started_server config id f.disk moment) moment out new o f.is_found (sym h.config_is) (sym h.id_is) is

  -- or it isn't, and a stop leaves what it had
  pub left_again : (old new : FuseState) → FoundAgain config s old.disk.bytes → Only old.disk.bytes (LeftBy old.disk)
      → LeavesOnly (λ (f : FuseState). moment_of f.disk) (λ (f : FuseState) (t : ℕ) (c : List ℕ). LeftSince f.disk t c) old new (IsOpening config.chunk config.block config.slots old.disk.bytes (LeftBy old.disk))
      → LeavesHolding (LeftBy new.disk) s.disk s.under_way
  left_again old new f only run =
      still_left config.chunk config.block config.slots s.disk s.under_way h.chunk_is h.block_is h.slots_is (λ (x : FuseState). x.disk.bytes) (λ (x : FuseState). LeftBy x.disk) (λ (x : FuseState). moment_of x.disk)
      (λ (x : FuseState) (t : ℕ) (c : List ℕ). LeftSince x.disk t c) (λ x t c le now. left_now x.disk t c le now) old new f only run

-- a server that is down has the settings of the one that was
pub of_stopped : (config : Config) (id : ℕ) (s t : ServerState) → t ≡ stopped s → IsServerOf config id t → IsServerOf config id s
of_stopped config id s t is h = (let k = subst (IsServerOf config id) is h in record { config_is = k.config_is; id_is = k.id_is; chunk_is = k.chunk_is; block_is = k.block_is; slots_is = k.slots_is })

-- and over its disk
pub left_down : (o : FuseState) (s t : ServerState) → t ≡ stopped s → LeavesHolding (LeftBy o.disk) s.disk s.under_way → LeavesHolding (LeftBy o.disk) t.disk t.under_way
left_down o s t is left = subst (λ (x : ServerState). LeavesHolding (LeftBy o.disk) x.disk x.under_way) (sym is) left
