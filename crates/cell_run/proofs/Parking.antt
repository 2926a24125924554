-- A cell that was parked.
use Rattle.std.proofs.Common.{◌≡◌, ℕ, ◌≤◌, ◌<◌, ◌+◌, List, [], ◌∷◌, length, Option, true, refl, sym, ap, subst, ◌∙◌, arith}
use Rattle.std.specs.Prelude.{map, All, IfSome}
use Rattle.std.proofs.lemmas.List.{append-nil, length-map}
use Rattle.std.proofs.lemmas.List.Elements.{All-nil, All-cons, All-head, All-tail}
use Rattle.atomic_table.specs.Table.{Me}
use Rattle.gfs_types.specs.declared.config.Config.{Config}
use Rattle.gfs_types.specs.declared.ids.Node.{Node}
use Rattle.gfs_types.specs.declared.ids.Node.TheVariants.{Client}
use Rattle.protocol_journal.specs.Journal.{Entry, own, sent_after}
use Rattle.protocol_journal.proofs.CutJournals.{own_whole}
use Rattle.cell_journal.specs.Clocks.{are_clocks_kept}
use Rattle.cell_journal.specs.Identity.{Identity, Filled, Closed}
use Rattle.cell_journal.specs.Log.{Listed, listed}
use Rattle.cell_journal.specs.Roles.{number_of}
use Rattle.cell_journal.specs.WholeHistories.{whole_of, steps_of}
use Rattle.cell_journal.specs.Writers.{IsParkedAt}
use Rattle.cell_journal.specs.declared.view.View.{View}
use Rattle.cell_seats.specs.ParkedNodes.{ParkedNodeState, name_of, HasSeenAll}
use Rattle.cell_seats.specs.Registry.{Registers}
use Rattle.cell_seats.specs.Seats.{SeatState}
use Rattle.cell_nodes.specs.Nodes.{names_of}
use Rattle.cell_run.specs.EndedCells.{IsBeside}
use Rattle.cell_run.specs.Parked.{ParkedState, parked_state, IsParked, ArePartsOf}
use Rattle.running_nodes.specs.Seatings.{IsSeatOf}
use Rattle.running_nodes.specs.ParkedSeats.{ParkedSeatState}

-- there is room for as many
pub as_many : (seats : List ParkedSeatState) (all : List SeatState) (room : ℕ) → map (λ p. p.seat) seats ≡ all → length all ≤ room → length seats ≤ room
as_many seats all room is fits = omega (arith, length-map seats (λ (p : ParkedSeatState). p.seat), ap length is, fits)

-- of a client that was not made the whole history has nothing
none_of_all : (servers made registered n : ℕ) (journal : Closed) → registered ≡ servers + 1 + made → made < n → own (Client (record { 0 = n })) journal.cell.base ≡ []
    → ((m : Node) → registered ≤ number_of servers m → own m journal.entries ≡ []) → own (Client (record { 0 = n })) (whole_of journal) ≡ []
none_of_all servers made registered n journal next past base fresh =
    own_whole (Client (record { 0 = n })) journal.cell.base journal.entries
    ∙ (ap (λ (es : List Entry). steps_of journal.cell (Client (record { 0 = n })) es) (fresh (Client (record { 0 = n })) (omega (arith, next, past)))
    ∙ (append-nil (own (Client (record { 0 = n })) journal.cell.base) ∙ base))

-- what a cell has beside a journal that was parked
pub beside_history : (config : Config) (servers registered made count : ℕ) (me : Me (Option Filled) View) (nothing : Listed Entry) (history : Closed) → Registers config servers registered me → IsParkedAt me.0.of count history
    → 64 ≤ config.chunk → nothing ≡ listed me.0.of.name [] → made ≤ 64 → registered ≡ servers + 1 + made → ((n : ℕ) → made < n → own (Client (record { 0 = n })) me.0.of.base ≡ [])
    → ((m : Node) → registered ≤ number_of servers m → own m history.entries ≡ []) → IsBeside history config nothing servers made
beside_history config servers registered made count me nothing history registers at least nothing_is few next unused fresh = record {
  config_is = ap (λ (c : Identity). c.config) at.cell_is ∙ registers.config_is;
  least = least;
  servers_are = ap (λ (c : Identity). c.servers) at.cell_is ∙ registers.servers_are;
  clients_are = ap (λ (c : Identity). c.clients) at.cell_is ∙ registers.clients_are;
  nothing_is = nothing_is ∙ ap (λ (c : Identity). listed c.name []) (sym at.cell_is);
  made_few = few;
  fresh = λ n past. none_of_all servers made registered n history next past (ap (λ (c : Identity). own (Client (record { 0 = n })) c.base) at.cell_is ∙ unused n past) fresh;
}

-- its nodes and its clients saw as much as its journal has
pub parked_parts : (cell : Identity) (config : Config) (servers made count sent : ℕ) (nothing : Listed Entry) (history : Closed) (nodes : List ParkedNodeState) (seats : List ParkedSeatState) → IsParkedAt cell count history
    → IsBeside history config nothing servers made → are_clocks_kept history.cell (whole_of history) ≡ true → sent ≡ length (sent_after [] (whole_of history)) → map name_of nodes ≡ names_of cell servers
    → All (λ p. HasSeenAll p.cell count p) nodes → All (λ s. s.cell.name ≡ cell.name) (map (λ p. p.seat) seats) → All (λ p. IfSome p.saw (λ k. k ≡ count)) seats → ArePartsOf history config nothing sent nodes seats servers made
parked_parts cell config servers made count sent nothing history nodes seats at beside kept sent_is names seen named saw = record {
  parked = at.parked;
  config_is = beside.config_is;
  least = beside.least;
  servers_are = beside.servers_are;
  clients_are = beside.clients_are;
  kept = kept;
  nothing_is = beside.nothing_is;
  sent_is = sent_is;
  nodes_are = record {
    names = names ∙ ap (λ (c : Identity). names_of c servers) (sym at.cell_is);
    seen = subst (λ (k : ℕ). All (λ p. HasSeenAll p.cell k p) nodes) (sym at.count_is) seen;
  };
  seats_are = subst (λ (c : Identity). All (IsSeatOf c (length (whole_of history))) seats) (sym at.cell_is)
      (subst (λ (k : ℕ). All (IsSeatOf cell k) seats) (sym at.count_is) (both cell count seats named saw));
  made_few = beside.made_few;
  fresh = beside.fresh;
}
  where
    both : (c : Identity) (k : ℕ) (all : List ParkedSeatState) → All (λ s. s.cell.name ≡ c.name) (map (λ p. p.seat) all) → All (λ p. IfSome p.saw (λ j. j ≡ k)) all → All (IsSeatOf c k) all
    both c k [] named saw = All-nil (IsSeatOf c k)
    both c k (p ∷ rest) named saw =
        All-cons (IsSeatOf c k) p rest
        (record {
          named = All-head (λ s. s.cell.name ≡ c.name) p.seat (map (λ q. q.seat) rest) named;
          saw = All-head (λ q. IfSome q.saw (λ j. j ≡ k)) p rest saw;
        })
        (both c k rest (All-tail (λ s. s.cell.name ≡ c.name) p.seat (map (λ q. q.seat) rest) named) (All-tail (λ q. IfSome q.saw (λ j. j ≡ k)) p rest saw))

-- a cell of such a journal is parked
pub parked_so : (cell : Identity) (made kept count : ℕ) (history : Closed) (seats : List ParkedSeatState) (p : ParkedState) → IsParkedAt cell count history → p ≡ parked_state history kept seats → kept ≡ made
    → IsParked cell made (map (λ q. q.seat) seats) p
parked_so cell made kept count history seats p at is made_is =
    subst (IsParked cell made (map (λ q. q.seat) seats)) (sym is) (record { cell_is = at.cell_is; parked = at.parked; made_is = made_is; seats_are = refl })
