-- The seats with which a cell is parked.
use Rattle.std.proofs.Common.{◌≡◌, List, [], ◌∷◌, ◌++◌, Some, sym, ap, subst, ◌∙◌}
use Rattle.std.specs.Prelude.{All, Option}
use Rattle.std.specs.Option.{option_to_list}
use Rattle.std.proofs.lemmas.List.Elements.{All-nil, All-cons, All-head, All-tail}
use Rattle.cell_journal.specs.Identity.{Identity}
use Rattle.cell_seats.specs.Seats.{SeatState}
use Rattle.cell_run.specs.Cells.{CellState}
use Rattle.cell_run.specs.Parked.{IsNotParked}
use Rattle.running_nodes.specs.Seatings.{AllGoOver}
use Rattle.running_nodes.specs.ParkedSeats.{ParkedSeatState}
use Rattle.cell_run.specs.declared.park_fault.ParkFault.{ParkFault}
use Rattle.cell_run.specs.declared.park_fault.ParkFault.TheVariants.{Clock, NoMemory}
use Rattle.tests_live.specs.ParkFaults.{KeepsName}

-- one seat of a cell carries its name
pub one_named : (of : Identity) (before seats : List SeatState) (s : SeatState) → before ≡ [] → seats ≡ before ++ s ∷ [] → s.cell ≡ of → All (λ x. x.cell.name ≡ of.name) seats
one_named of before seats s none is same =
    let named : SeatState → Type 0 = λ x. x.cell.name ≡ of.name in
    let all : seats ≡ s ∷ [] = is ∙ ap (λ (l : List SeatState). l ++ s ∷ []) none in
    subst (All named) (sym all) (All-cons named s [] (ap (λ (c : Identity). c.name) same) (All-nil named))

-- by its name alone
pub one_of_name : (of : Identity) (seats : List SeatState) (s : SeatState) → seats ≡ s ∷ [] → s.cell.name ≡ of.name → All (λ x. x.cell.name ≡ of.name) seats
one_of_name of seats s is same =
    let named : SeatState → Type 0 = λ x. x.cell.name ≡ of.name in
    subst (All named) (sym is) (All-cons named s [] same (All-nil named))

pub none_named : (of : Identity) (seats : List SeatState) → seats ≡ [] → All (λ x. x.cell.name ≡ of.name) seats
none_named of seats is =
    let named : SeatState → Type 0 = λ x. x.cell.name ≡ of.name in
    subst (All named) (sym is) (All-nil named)

-- the last one of all
last_of : (P : SeatState → Type 0) (xs : List SeatState) (y : SeatState) → All P (xs ++ y ∷ []) → P y
last_of P [] y all = All-head P y [] all
last_of P (x ∷ xs) y all = last_of P xs y (All-tail P x (xs ++ y ∷ []) all)

pub last_named : (of : Identity) (seats left : List SeatState) (o : Option SeatState) (s : SeatState) → seats ≡ left ++ option_to_list o → o ≡ Some s → All (λ x. x.cell.name ≡ of.name) seats → s.cell.name ≡ of.name
last_named of seats left o s is last all =
    let named : SeatState → Type 0 = λ x. x.cell.name ≡ of.name in
    last_of named left s (subst (All named) (is ∙ ap (λ (p : Option SeatState). left ++ option_to_list p) last) all)

-- what came back
pub keeps_name : (c : CellState) (seats : List SeatState) (fault : ParkFault) → IsNotParked c seats fault → All (λ x. x.cell.name ≡ c.of.name) seats → KeepsName fault
keeps_name c seats (NoMemory cell back) is all =
    subst (λ (d : CellState). All (λ x. x.cell.name ≡ d.of.name) back.items) (sym is.0)
    (subst (λ (l : List SeatState). All (λ x. x.cell.name ≡ c.of.name) l) (sym is.1) all)
keeps_name c seats (Clock journal back) is all = tt

-- seats that went over
pub over_named : (cell : Identity) (olds : List ParkedSeatState) (news : List SeatState) → AllGoOver cell olds news → All (λ s. s.cell.name ≡ cell.name) news
over_named cell [] [] over = All-nil (λ (s : SeatState). s.cell.name ≡ cell.name)
over_named cell [] (n ∷ ns) over = absurd over
over_named cell (o ∷ os) [] over = absurd over
over_named cell (o ∷ os) (n ∷ ns) over =
    All-cons (λ (s : SeatState). s.cell.name ≡ cell.name) n ns (ap (λ (c : Identity). c.name) over.0.cell_is) (over_named cell os ns over.1)
