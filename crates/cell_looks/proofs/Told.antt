-- What is told of a parked cell is so in each of its worlds.
use Rattle.std.proofs.Common.{◌≡◌, ℕ, List, true, Option, Some, None, refl, sym, ap, subst, ◌∙◌}
use Rattle.std.specs.Prelude.{map, option_map, option_and_then, IsTrue}
use Rattle.std.specs.List.{filter_map}
use Rattle.std.specs.FinMap as table
use Rattle.gfs_types.specs.Paths.{Path}
use Rattle.gfs_types.specs.declared.ids.Handle.{Handle}
use Rattle.relaxed_file.specs.Regions.{regions_of}
use Rattle.relaxed_file.specs.declared.region.Region.{Region}
use Rattle.protocol.specs.Conforms.{IsLeftAs}
use Rattle.protocol.specs.Lookups.{StoredAt, file_named, regions_at, replicas_at, stored_on}
use Rattle.protocol.specs.Master.{MasterState}
use Rattle.protocol.specs.Observer.{Placed}
use Rattle.protocol.specs.Sending.{handle_of}
use Rattle.protocol.specs.Tables.{Table, element_at}
use Rattle.protocol.specs.World.{WorldState}
use Rattle.protocol.specs.declared.seen.Seen.{Seen}
use Rattle.protocol_journal.specs.Journal.{MasterIs}
use Rattle.laws_machine.proofs.ShownChunks.{files_are_seen}
use Rattle.cell_journal.specs.WholeHistories.{whole_of}
use Rattle.cell_world.specs.FileNames.{file_in}
use Rattle.cell_world.specs.Held.{HeldCell, IsHeldAs, AreHeldAs}
use Rattle.cell_world.specs.Kept.{blank_seen}
use Rattle.cell_world.specs.Seeing.{entries_seen, orders_seen}
use Rattle.cell_world.proofs.Regions.{no_regions, shown_regions, no_replicas, shown_replicas, shown_file}
use Rattle.cell_looks.specs.Looks.{LooksState}
use Rattle.cell_looks.specs.Noted.{noted_in}
use Rattle.cell_looks.specs.ParkedWorlds.{IsWorldOf}
use Rattle.cell_looks.proofs.JournalOrders.{journal_orders}

-- a world as it is held: the nodes as they were parked, and what was noted
abbrev held : LooksState → WorldState → HeldCell
held p w =
    record {
      config = w.config;
      master = p.master;
      files = w.observer.files;
      servers = p.servers;
      clients = w.clients;
      sent = w.sent;
      seen = map blank_seen (noted_in (whole_of p.journal.now));
      greatest = w.observer.greatest;
    }

left_as : (p : LooksState) (w : WorldState) → IsWorldOf p w → IsLeftAs w.master p.master
left_as p w of =
    let same : of.master.master ≡ w.master = (let both : MasterIs w.master ≡ MasterIs of.master.master = of.master.is in cc) in
    subst (λ (m : MasterState). IsLeftAs m p.master) same of.master.left_as

held_as : (p : LooksState) (w : WorldState) → IsWorldOf p w → IsHeldAs w (held p w)
held_as p w of = record {
  config = refl;
  master = left_as p w of;
  files = refl;
  servers = of.servers;
  clients = refl;
  sent = refl;
  orders = subst (λ (t : Table (List Placed)). AreHeldAs t (orders_seen (held p w).seen)) (sym of.shows.orders_are) (journal_orders w.config (whole_of p.journal.now));
  greatest = refl;
}

pub told_file : (p : LooksState) (path : Path) (w : WorldState) → IsWorldOf p w → file_in p.master path ≡ file_named w path
told_file p path w of = shown_file (held p w) path w (held_as p w of)

-- the handle of a chunk while the master is up
abbrev Shows : Table (List ℕ) → ℕ → ℕ → Option Handle → Type 0
Shows files file index found = found ≡ option_map handle_of (option_and_then (λ handles. element_at handles index) (table.get files file))

module _ (p : LooksState) (file index : ℕ) (found : Option Handle) (up : p.master.up ≡ true) (shows : Shows p.master.logged.table.files file index found) where
  shows_in : (w : WorldState) → IsWorldOf p w → Shows w.observer.files file index found
  shows_in w of =
      let left = (left_as p w of).but_under_way in
      let world_up : IsTrue w.master.up = sym (ap (λ (m : MasterState). m.up) left) ∙ up in
      let seen = files_are_seen p.journal.now.cell.config p.journal.now.cell.servers p.journal.now.cell.clients w of.reached world_up in
      let files : p.master.logged.table.files ≡ w.observer.files = ap (λ (m : MasterState). m.logged.table.files) left ∙ sym seen in
      subst (λ (t : Table (List ℕ)). Shows t file index found) files shows

  pub told_no_regions : found ≡ None → (w : WorldState) → IsWorldOf p w → None ≡ regions_at w file index
  told_no_regions none w of = no_regions (held p w) file index found none (shows_in w of) w (held_as p w of)

  pub told_regions : (handle : Handle) (regions : List Region) (seen : List Seen) → found ≡ Some handle → seen ≡ map blank_seen (noted_in (whole_of p.journal.now)) → regions ≡ regions_of (entries_seen seen handle.0)
      → (w : WorldState) → IsWorldOf p w → Some regions ≡ regions_at w file index
  told_regions handle regions seen some same is w of =
      shown_regions (held p w) file index found handle regions some (shows_in w of) (is ∙ ap (λ (l : List Seen). regions_of (entries_seen l handle.0)) same) w (held_as p w of)

  pub told_no_replicas : found ≡ None → (w : WorldState) → IsWorldOf p w → None ≡ replicas_at w file index
  told_no_replicas none w of = no_replicas (held p w) file index found none (shows_in w of) w (held_as p w of)

  pub told_replicas : (handle : Handle) (all : List StoredAt) → found ≡ Some handle → all ≡ filter_map (stored_on handle.0) p.servers → (w : WorldState) → IsWorldOf p w → Some (handle.0, all) ≡ replicas_at w file index
  told_replicas handle all some is w of = shown_replicas (held p w) file index found handle all some (shows_in w of) is w (held_as p w of)
