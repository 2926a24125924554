-- What stays of a server's settings, and of its disk's sizes.
use Rattle.std.proofs.Common.{◌≡◌, ℕ, List, [], ◌∷◌, take, refl, sym, ap, ◌∙◌, subst, Option, Some, None}
use Rattle.gfs_types.specs.declared.config.Config.{Config}
use Rattle.replica_store.specs.declared.change.StoreChange.{StoreChange}
use Rattle.replica_store.specs.declared.change.StoreChange.TheVariants.{Rot}
use Rattle.replica_store.specs.Replicas.{Replica, ServerDisk, disk_changed, disk_changed_by_all, replica_of}
use Rattle.replica_store.specs.Stores.{MadePart}
use Rattle.disk_store.proofs.Saying.{changed_alike}
use Rattle.protocol.specs.Choice.{Ending, Goes, Lost, Stops, made_changes}
use Rattle.protocol.specs.Conforms.{ServerRots, rotted}
use Rattle.protocol.specs.Sending.{handle_of}
use Rattle.protocol.specs.Server.{ServerState, Frame, frame, stopped_server}
use Rattle.protocol.specs.World.{after_rot}
use Rattle.server_cell.specs.Settings.{IsServerOf, KeepsSettings}

abbrev AreAlike : ServerDisk → ServerDisk → Type 0
AreAlike d e = (d.chunk ≡ e.chunk) × (d.block ≡ e.block) × (d.slots ≡ e.slots)

all_alike : (d : ServerDisk) (changes : List StoreChange) → AreAlike (disk_changed_by_all d changes) d
all_alike d [] = (refl, refl, refl)
all_alike d (change ∷ rest) =
    let one = changed_alike d change in
    let more = all_alike (disk_changed d change) rest in
    (more.0 ∙ one.0, more.1 ∙ one.1, more.2 ∙ one.2)

pub same_settings : (s : ServerState) → KeepsSettings s s
same_settings s = record { config_is = refl; id_is = refl; chunk_is = refl; block_is = refl; slots_is = refl }

pub then_settings : (a b c : ServerState) → KeepsSettings a b → KeepsSettings b c → KeepsSettings a c
then_settings a b c h k = record {
  config_is = k.config_is ∙ h.config_is;
  id_is = k.id_is ∙ h.id_is;
  chunk_is = k.chunk_is ∙ h.chunk_is;
  block_is = k.block_is ∙ h.block_is;
  slots_is = k.slots_is ∙ h.slots_is;
}

-- nothing but what it knows changed
pub framed : (s t : ServerState) → frame t ≡ frame s → KeepsSettings s t
framed s t same = record {
  config_is = ap (λ (f : Frame). f.config) same;
  id_is = ap (λ (f : Frame). f.id) same;
  chunk_is = ap (λ (f : Frame). f.disk.chunk) same;
  block_is = ap (λ (f : Frame). f.disk.block) same;
  slots_is = ap (λ (f : Frame). f.disk.slots) same;
}

pub stopped_settings : (s t : ServerState) (under_way : List StoreChange) → t ≡ stopped_server s s.disk under_way → KeepsSettings s t
stopped_settings s t under_way same = record {
  config_is = ap (λ (x : ServerState). x.config) same;
  id_is = ap (λ (x : ServerState). x.id) same;
  chunk_is = ap (λ (x : ServerState). x.disk.chunk) same;
  block_is = ap (λ (x : ServerState). x.disk.block) same;
  slots_is = ap (λ (x : ServerState). x.disk.slots) same;
}

-- over a disk that changed
over_alike : (s t : ServerState) (d : ServerDisk) → t.config ≡ s.config → t.id ≡ s.id → t.disk ≡ d → AreAlike d s.disk → KeepsSettings s t
over_alike s t d config id is alike = record {
  config_is = config;
  id_is = id;
  chunk_is = ap (λ (x : ServerDisk). x.chunk) is ∙ alike.0;
  block_is = ap (λ (x : ServerDisk). x.block) is ∙ alike.1;
  slots_is = ap (λ (x : ServerDisk). x.slots) is ∙ alike.2;
}

pub changed_settings : (s t : ServerState) (changes : List StoreChange) → t ≡ record s { disk = disk_changed_by_all s.disk changes } → KeepsSettings s t
changed_settings s t changes is =
    over_alike s t (disk_changed_by_all s.disk changes) (ap (λ (x : ServerState). x.config) is) (ap (λ (x : ServerState). x.id) is) (ap (λ (x : ServerState). x.disk) is) (all_alike s.disk changes)

-- a part of the changes was made, and then it stopped
pub part_settings : (s after t : ServerState) (changes : List StoreChange) → after.config ≡ s.config → after.id ≡ s.id → MadePart s.disk changes after.disk after.under_way → t ≡ stopped_server after after.disk after.under_way → KeepsSettings s t
part_settings s after t changes config id made stop =
    then_settings s after t (over_alike s after (disk_changed_by_all s.disk (take made.made changes)) config id made.disk_is (all_alike s.disk (take made.made changes)))
    (stopped_settings after t after.under_way stop)

-- a step that was given up
pub given_up_settings : (s t new : ServerState) → frame t ≡ frame s → new ≡ stopped_server t t.disk t.under_way → KeepsSettings s new
given_up_settings s t new same stop = then_settings s t new (framed s t same) (stopped_settings t new t.under_way stop)

-- a byte rotted
module _ (s : ServerState) (change : StoreChange) where
  rot_ends : (ending : Ending) → KeepsSettings s (after_rot s change ending)
  rot_ends Goes = changed_settings s (after_rot s change Goes) (change ∷ []) refl
  rot_ends Lost = stopped_settings s (after_rot s change Lost) [] refl
  rot_ends (Stops made) = over_alike s (after_rot s change (Stops made)) (disk_changed_by_all s.disk (made_changes made (change ∷ []))) refl refl refl (all_alike s.disk (made_changes made (change ∷ [])))

rotted_settings : (s : ServerState) (handle place byte : ℕ) (ending : Ending) (o : Option Replica) → KeepsSettings s (rotted s handle place byte ending o)
rotted_settings s handle place byte ending None = same_settings s
rotted_settings s handle place byte ending (Some x) = rot_ends s (Rot (handle_of handle) place byte) ending

pub rots_settings : (s t : ServerState) (handle place byte : ℕ) → ServerRots s handle place byte t → KeepsSettings s t
rots_settings s t handle place byte r = subst (KeepsSettings s) r.state_is (rotted_settings s handle place byte r.ending (replica_of s.disk handle))

-- a server of these settings goes on to be one
pub still_of : (config : Config) (id : ℕ) (s t : ServerState) → IsServerOf config id s → KeepsSettings s t → IsServerOf config id t
still_of config id s t h k = record {
  config_is = k.config_is ∙ h.config_is;
  id_is = k.id_is ∙ h.id_is;
  chunk_is = k.chunk_is ∙ h.chunk_is;
  block_is = k.block_is ∙ h.block_is;
  slots_is = k.slots_is ∙ h.slots_is;
}
