-- What is shown of a cell, by what it holds.
use Rattle.std.proofs.Common.{◌≡◌, ◌<◌, ℕ, suc, Bool, true, false, List, [], ◌∷◌, length, Option, Some, None, refl, sym, ap, ◌∙◌}
use Rattle.std.specs.Prelude.{◌⊎◌, not, ◌&&◌, is_none, is_some, option_map, option_and_then}
use Rattle.std.specs.List.{filter_map}
use Rattle.std.specs.FinMap as table
use Rattle.gfs_types.specs.declared.ids.Handle.{Handle}
use Rattle.relaxed_file.specs.Regions.{regions_of}
use Rattle.relaxed_file.specs.declared.region.Region.{Region}
use Rattle.cell_world.specs.Seeing.{entries_seen}
use Rattle.client_state.specs.declared.call.CurrentCall.{CurrentCall}
use Rattle.protocol.specs.Client.{ClientState}
use Rattle.protocol.specs.ClientStep.{has_room_to_count, may_call, may_step}
use Rattle.protocol.specs.Lookups.{StoredAt, stored_on}
use Rattle.protocol.specs.Sending.{handle_of}
use Rattle.protocol.specs.Tables.{element_at}
use Rattle.protocol.specs.World.{numbered_from_1}
use Rattle.cell_world.specs.Held.{HeldCell}
use Rattle.cell_world.specs.Looks.{handle_held, has_open_call, regions_held, replicas_held, waits, waits_at}
use Rattle.cell_world.specs.Steps.{IsUpAt}
use Rattle.cell_world.proofs.Acts.{at_place, missing, there}
use Rattle.cell_world.proofs.Regions.{handle_there}

-- what the master shows of a chunk's handle
abbrev Shows : HeldCell → ℕ → ℕ → Option Handle → Type 0
Shows h file index found = found ≡ option_map handle_of (option_and_then (λ handles. element_at handles index) (table.get h.files file))

pub no_regions_held : (h : HeldCell) (file index : ℕ) (found : Option Handle) → found ≡ None → Shows h file index found → None ≡ regions_held h file index
no_regions_held h file index found none e =
    sym (ap (option_map (λ x. regions_of (entries_seen h.seen x))) (handle_there (handle_held h file index) found e ∙ ap (option_map (λ x. x.0)) none))

pub regions_are_held : (h : HeldCell) (file index : ℕ) (found : Option Handle) (handle : Handle) (regions : List Region) → found ≡ Some handle → Shows h file index found
    → regions ≡ regions_of (entries_seen h.seen handle.0) → Some regions ≡ regions_held h file index
regions_are_held h file index found handle regions some e is =
    ap (λ rs. Some rs) is
    ∙ sym (ap (option_map (λ x. regions_of (entries_seen h.seen x))) (handle_there (handle_held h file index) found e ∙ ap (option_map (λ x. x.0)) some))

pub no_replicas_held : (h : HeldCell) (file index : ℕ) (found : Option Handle) → found ≡ None → Shows h file index found → None ≡ replicas_held h file index
no_replicas_held h file index found none e =
    sym (ap (option_map (λ x. (x, filter_map (stored_on x) h.servers))) (handle_there (handle_held h file index) found e ∙ ap (option_map (λ x. x.0)) none))

pub replicas_are_held : (h : HeldCell) (file index : ℕ) (found : Option Handle) (handle : Handle) (stored : List StoredAt) → found ≡ Some handle → Shows h file index found
    → stored ≡ filter_map (stored_on handle.0) h.servers → Some (handle.0, stored) ≡ replicas_held h file index
replicas_are_held h file index found handle stored some e is =
    ap (λ rs. Some (handle.0, rs)) is
    ∙ sym (ap (option_map (λ x. (x, filter_map (stored_on x) h.servers))) (handle_there (handle_held h file index) found e ∙ ap (option_map (λ x. x.0)) some))

waiting_by : (up room : Bool) (current : Option CurrentCall) → (up && room) && not (up && (is_none current && room)) ≡ (up && room) && is_some current
waiting_by true true None = refl
waiting_by true true (Some c) = refl
waiting_by true false None = refl
waiting_by true false (Some c) = refl
waiting_by false room None = refl
waiting_by false room (Some c) = refl

pub waiting : (s : ClientState) → may_step s && not (may_call s) ≡ waits s
waiting s = waiting_by s.up (has_room_to_count s) s.current

pub no_client_waits : (h : HeldCell) (client : ℕ) → (client ≡ 0) ⊎ (length h.clients < client) → false ≡ has_open_call h client
no_client_waits h client past = sym (ap waits_at (missing h.clients client past))

pub client_waits : (h : HeldCell) (client place : ℕ) (b : Bool) → client ≡ suc place → place < length h.clients → IsUpAt waits h.clients place b → b ≡ has_open_call h client
client_waits h client place b number within is =
    let k = there h.clients place within in
    sym (is k.0 k.1) ∙ sym (ap waits_at (at_place h.clients client place number ∙ k.1))
