-- Regions don't tell the bytes of a mutation, nor whose it is.
use Rattle.std.proofs.Common.{◌≡◌, ℕ, zero, suc, Bool, true, false, List, [], ◌∷◌, map, Option, Some, None, refl, sym, ap, ◌∙◌}
use Rattle.std.specs.Prelude.{not, max, if◌then◌else◌, option_map, option_and_then, unwrap_or}
use Rattle.std.specs.FinMap as table
use Rattle.gfs_types.specs.Mutations.{end_of, covers}
use Rattle.gfs_types.specs.Image.{newer}
use Rattle.gfs_types.specs.declared.ids.Handle.{Handle}
use Rattle.relaxed_file.specs.Order.{Entry, last_cover, order_length}
use Rattle.relaxed_file.specs.Regions.{is_determined, joined_before, regions_from, regions_of}
use Rattle.relaxed_file.specs.declared.region.Region.{Region}
use Rattle.protocol.specs.Tables.{Table, element_at}
use Rattle.protocol.specs.Sending.{handle_of}
use Rattle.protocol.specs.Observer.{Placed, placed_in, order_of}
use Rattle.protocol.specs.World.{WorldState}
use Rattle.gfs_types.specs.Paths.{Path}
use Rattle.std.specs.List.{filter_map}
use Rattle.protocol.specs.Master.{MasterState}
use Rattle.cell_world.specs.FileNames.{file_in}
use Rattle.protocol.specs.Lookups.{StoredAt, handle_at, regions_at, replicas_at, replicas_of, stored_on, file_named}
use Rattle.cell_world.specs.Kept.{blank_placed}
use Rattle.cell_world.specs.Seeing.{entries_seen, orders_seen}
use Rattle.cell_world.specs.Held.{HeldCell, IsHeldAs, AreHeldAs}

abbrev entries_in : List Placed → List Entry
entries_in ps = map (λ p. p.entry) ps

-- pads end where what they stand for ends
length_alike : (ps : List Placed) → order_length (entries_in (map blank_placed ps)) ≡ order_length (entries_in ps)
length_alike [] = refl
length_alike (p ∷ ps) = ap (max (end_of p.entry.mutation)) (length_alike ps)

abbrev settling : Option Entry → Option Bool
settling o = option_map (λ e. not e.settled) o

covered_alike : (place : ℕ) (ps : List Placed) → settling (last_cover (entries_in (map blank_placed ps)) place) ≡ settling (last_cover (entries_in ps) place)
covered_alike place [] = refl
covered_alike place (p ∷ ps) =
    by (last_cover (entries_in (map blank_placed ps)) place) (last_cover (entries_in ps) place) (covers place p.entry.mutation) (covered_alike place ps)
  where
    by : (a b : Option Entry) (c : Bool) → settling a ≡ settling b → settling (newer (if c then Some (blank_placed p).entry else None) a) ≡ settling (newer (if c then Some p.entry else None) b)
    by None None true h = refl
    by None None false h = refl
    by None (Some y) c h = absurd cc
    by (Some x) None c h = absurd cc
    by (Some x) (Some y) c h = h

determined_alike : (ps : List Placed) (place : ℕ) → is_determined (entries_in (map blank_placed ps)) place ≡ is_determined (entries_in ps) place
determined_alike ps place = ap (λ o. not (unwrap_or o false)) (covered_alike place ps)

from_alike : (ps : List Placed) (count place : ℕ) → regions_from (entries_in (map blank_placed ps)) place count ≡ regions_from (entries_in ps) place count
from_alike ps zero place = refl
from_alike ps (suc count) place =
    ap (λ (b : Bool). joined_before place b (regions_from (entries_in (map blank_placed ps)) (suc place) count)) (determined_alike ps place)
    ∙ ap (joined_before place (is_determined (entries_in ps) place)) (from_alike ps count (suc place))

regions_alike : (ps : List Placed) → regions_of (entries_in (map blank_placed ps)) ≡ regions_of (entries_in ps)
regions_alike ps =
    ap (regions_from (entries_in (map blank_placed ps)) 0) (length_alike ps)
    ∙ from_alike ps (order_length (entries_in ps)) 0

-- the regions of a handle, by orders that are the same but for bytes
pub regions_by : (orders held : Table (List Placed)) (handle : ℕ) → AreHeldAs orders held → regions_of (entries_in (placed_in held handle)) ≡ regions_of (entries_in (placed_in orders handle))
regions_by orders held handle same =
    sym (regions_alike (placed_in held handle)) ∙ (ap (λ ps. regions_of (entries_in ps)) (sym (same handle)) ∙ regions_alike (placed_in orders handle))

-- and by what was seen
regions_seen : (w : WorldState) (h : HeldCell) (handle : ℕ) → IsHeldAs w h → regions_of (entries_seen h.seen handle) ≡ regions_of (entries_in (order_of w.observer handle))
regions_seen w h handle g = regions_by w.observer.orders (orders_seen h.seen) handle g.orders

pub handle_there : (o : Option ℕ) (found : Option Handle) → found ≡ option_map handle_of o → o ≡ option_map (λ h. h.0) found
handle_there None found e = rw e refl
handle_there (Some n) found e = rw e refl

-- the handle of a file's chunk, as the master shows it
pub handle_held : (w : WorldState) (h : HeldCell) (file index : ℕ) (found : Option Handle) → IsHeldAs w h
    → found ≡ option_map handle_of (option_and_then (λ handles. element_at handles index) (table.get h.files file)) → handle_at w file index ≡ option_map (λ x. x.0) found
handle_held w h file index found g e =
    ap (λ (t : Table (List ℕ)). option_and_then (λ handles. element_at handles index) (table.get t file)) g.files
    ∙ handle_there (option_and_then (λ handles. element_at handles index) (table.get h.files file)) found e

-- what the master shows of a chunk's handle
abbrev Shows : HeldCell → ℕ → ℕ → Option Handle → Type 0
Shows h file index found = found ≡ option_map handle_of (option_and_then (λ handles. element_at handles index) (table.get h.files file))

pub no_regions : (h : HeldCell) (file index : ℕ) (found : Option Handle) → found ≡ None → Shows h file index found → (w : WorldState) → IsHeldAs w h → None ≡ regions_at w file index
no_regions h file index found none e w g =
    sym (ap (option_map (λ x. regions_of (entries_in (order_of w.observer x)))) (handle_held w h file index found g e ∙ ap (option_map (λ x. x.0)) none))

pub shown_regions : (h : HeldCell) (file index : ℕ) (found : Option Handle) (handle : Handle) (regions : List Region) → found ≡ Some handle → Shows h file index found
    → regions ≡ regions_of (entries_seen h.seen handle.0) → (w : WorldState) → IsHeldAs w h → Some regions ≡ regions_at w file index
shown_regions h file index found handle regions some e is w g =
    ap (λ rs. Some rs) (is ∙ regions_seen w h handle.0 g)
    ∙ sym (ap (option_map (λ x. regions_of (entries_in (order_of w.observer x)))) (handle_held w h file index found g e ∙ ap (option_map (λ x. x.0)) some))

pub no_replicas : (h : HeldCell) (file index : ℕ) (found : Option Handle) → found ≡ None → Shows h file index found → (w : WorldState) → IsHeldAs w h → None ≡ replicas_at w file index
no_replicas h file index found none e w g =
    sym (ap (option_map (λ x. (x, replicas_of w x))) (handle_held w h file index found g e ∙ ap (option_map (λ x. x.0)) none))

pub shown_replicas : (h : HeldCell) (file index : ℕ) (found : Option Handle) (handle : Handle) (stored : List StoredAt) → found ≡ Some handle → Shows h file index found
    → stored ≡ filter_map (stored_on handle.0) h.servers → (w : WorldState) → IsHeldAs w h → Some (handle.0, stored) ≡ replicas_at w file index
shown_replicas h file index found handle stored some e is w g =
    ap (λ rs. Some (handle.0, rs)) (is ∙ ap (filter_map (stored_on handle.0)) (sym g.servers))
    ∙ sym (ap (option_map (λ x. (x, replicas_of w x))) (handle_held w h file index found g e ∙ ap (option_map (λ x. x.0)) some))

pub shown_file : (h : HeldCell) (path : Path) (w : WorldState) → IsHeldAs w h → file_in h.master path ≡ file_named w path
shown_file h path w g = ap (λ (m : MasterState). file_in m path) g.master.but_under_way
