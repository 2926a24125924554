-- Seats that go over to a cell that goes on.
use Rattle.std.proofs.Common.{◌≡◌, ℕ, ◌≤◌, false, List, refl, sym, ap, subst, ◌∙◌}
use Rattle.std.specs.Prelude.{Bool, Option, length}
use mathlib.Core.List.{IsPrefix}
use Rattle.protocol_journal.specs.Journal.{Entry}
use Rattle.cell_journal.specs.Identity.{Identity}
use Rattle.cell_journal.specs.Log.{Listed, listed}
use Rattle.cell_journal.specs.declared.view.View.{View}
use Rattle.gfs_types.specs.declared.config.Config.{Config}
use Rattle.gfs_types.specs.declared.ids.Node.{Node}
use Rattle.cell_seats.specs.Seats.{SeatState, seat_state, StaysOver}
use Rattle.cell_seats.specs.Seen.{clients_in}
use Rattle.cell_seats.specs.Slots.{SlotState, slot_state}
use Rattle.running_nodes.specs.declared.client_places.ClientPlace.{ClientPlace}
use Rattle.running_nodes.specs.declared.running_client.RunningClient.{RunningClient}
use Rattle.running_nodes.specs.Places.{IsLeftOf}
use Rattle.running_nodes.specs.Seatings.{IsSeating}
use Rattle.running_nodes.proofs.Placing.{fewer_places, fewer_clients}

-- a seat that kept its client
pub stayed_over : (cell : Identity) (s new : SeatState) (x : SlotState) (n : Node) (v : View) (flags : List Bool) → x ≡ slot_state n v → new ≡ seat_state x.node (clients_in 0 flags) x.view.of s.seen false false → v.of ≡ cell
    → n ≡ s.node → clients_in 0 flags ≡ s.earlier → StaysOver cell s new
stayed_over cell s new x n v flags slot is of same flags_are = record {
  cell_is = ap (λ (t : SeatState). t.cell) is ∙ (ap (λ (t : SlotState). t.view.of) slot ∙ of);
  seen = ap (λ (t : SeatState). t.seen) is;
  answers = (ap (λ (t : SeatState). t.is_lost) is, ap (λ (t : SeatState). t.waits) is);
  node = ap (λ (t : SeatState). t.node) is ∙ (ap (λ (t : SlotState). t.node) slot ∙ same);
  earlier = ap (λ (t : SeatState). t.earlier) is ∙ flags_are;
}

-- what a seat saw begins what stands behind the cell
pub begins_base : (s : SeatState) (cell : Identity) (saw base : Listed Entry) (count base_len : ℕ) → saw ≡ listed s.cell.name s.seen → base ≡ listed cell.name cell.base → count ≡ length s.seen → length cell.base ≡ base_len
    → count ≤ base_len → (length saw.items ≤ length base.items → IsPrefix saw.items base.items) → IsPrefix s.seen cell.base
begins_base s cell saw base count base_len saw_is base_is count_is len few met =
    let seen : saw.items ≡ s.seen = ap (λ (l : Listed Entry). l.items) saw_is in
    let behind : base.items ≡ cell.base = ap (λ (l : Listed Entry). l.items) base_is in
    let within : length s.seen ≤ length cell.base = subst (λ (n : ℕ). n ≤ length cell.base) count_is (subst (λ (n : ℕ). count ≤ n) (sym len) few) in
    subst (λ (es : List Entry). IsPrefix es cell.base) seen
    (subst (λ (es : List Entry). IsPrefix saw.items es) behind
    (met (subst (λ (es : List Entry). length es ≤ length base.items) (sym seen) (subst (λ (es : List Entry). length s.seen ≤ length es) (sym behind) within))))

-- one place, or one client, less

pub place_less : (cell : Identity) (base_len : ℕ) (config : Config) (retired : List Bool) (made : ℕ) (was now : List (Option ClientPlace)) (clients : List (Option RunningClient)) → IsLeftOf was now
    → IsSeating cell base_len config retired made was clients → IsSeating cell base_len config retired made now clients
place_less cell base_len config retired made was now clients left ready = record {
  base_is = ready.base_is;
  config_is = ready.config_is;
  clients_are = ready.clients_are;
  retired_are = ready.retired_are;
  places_are = fewer_places cell was now left ready.places_are;
  anew = ready.anew;
  goes_on = ready.goes_on;
  few = ready.few;
  fresh = ready.fresh;
}

pub client_less : (cell : Identity) (base_len : ℕ) (config : Config) (retired : List Bool) (made : ℕ) (places : List (Option ClientPlace)) (was now : List (Option RunningClient)) → IsLeftOf was now
    → IsSeating cell base_len config retired made places was → IsSeating cell base_len config retired made places now
client_less cell base_len config retired made places was now left ready = record {
  base_is = ready.base_is;
  config_is = ready.config_is;
  clients_are = ready.clients_are;
  retired_are = ready.retired_are;
  places_are = ready.places_are;
  anew = fewer_clients config made was now left ready.anew;
  goes_on = ready.goes_on;
  few = ready.few;
  fresh = ready.fresh;
}
