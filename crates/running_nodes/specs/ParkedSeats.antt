-- Seats that were handed in when their cell was parked.
use Rattle.std.specs.Prelude.{◌≡◌, ℕ, ◌+◌, Bool, true, List, [], ◌∷◌, Option, Some, None}
use Rattle.cell_seats.specs.Seats.{SeatState}

-- a seat, and how many entries of its cell's history its client saw, if that was there
pub record ParkedSeatState : Type 0 where
  pub seat : SeatState
  pub saw : Option ℕ

abbrev pub parked_seat : SeatState → Option ℕ → ParkedSeatState
parked_seat seat saw = record { seat = seat; saw = saw }

-- whether it goes on as a client of a new number: a call of it waits, or its client is gone
abbrev pub is_anew : Option ℕ → Bool → Bool
is_anew (Some k) waits = waits
is_anew None waits = true

abbrev pub goes_anew : ParkedSeatState → Bool
goes_anew p = is_anew p.saw p.seat.waits

abbrev pub one_where : Bool → ℕ
one_where true = 1
one_where other = 0

-- how many seats do
abbrev pub count_anew : List ParkedSeatState → ℕ
count_anew [] = 0
count_anew (p ∷ rest) = one_where (goes_anew p) + count_anew rest
