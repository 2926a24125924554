-- What a seat saw, and what was taken, stays.
use Rattle.std.proofs.Common.{◌≡◌, ℕ, ◌+◌, ◌<◌, ◌≤◌, List, length, refl, sym, ◌∙◌, subst, arith}
use Rattle.std.specs.Prelude.{◌%◌, ◌^◌, Contains, get_or, Option, Some}
use Rattle.std.proofs.lemmas.Option.{same_Some}
use Rattle.std.proofs.lemmas.List.Elements.{Contains-append_left, Contains-get_or}
use mathlib.Core.List.{IsPrefix}
use Rattle.gfs_types.specs.declared.answer.Answer.{Answer}
use Rattle.gfs_types.specs.declared.call.Call.{Call}
use Rattle.gfs_types.specs.declared.ids.Fd.{Fd}
use Rattle.cell_journal.proofs.Begins.{prefix_trans}
use Rattle.cell_seats.specs.Seats.{SeatState, IsAnswered}
use Rattle.embedded_cell.specs.declared.taken.Taken.{Taken}
use Rattle.embedded_cell.specs.declared.follower.Follower.{Follower}
use Rattle.embedded_cell.specs.Records.{id_of, StandsAt}
use Rattle.embedded_cell.specs.Reading.{AllTaken, HasRead, IsLater, IsTakenAt, taken_at}
use Rattle.embedded_cell.proofs.Records.{stands_within}
use Rattle.cell_journal.proofs.Begins.{prefix_self}

pub later_self : (s : SeatState) → IsLater s s
later_self s = record { node = refl; cell = refl; begins = prefix_self s.seen }

pub later_then : (a b c : SeatState) → IsLater a b → IsLater b c → IsLater a c
later_then a b c p q = record { node = q.node ∙ p.node; cell = q.cell ∙ p.cell; begins = prefix_trans a.seen b.seen c.seen p.begins q.begins }

pub answered_later : (old new : SeatState) (call : Call) (reply : Answer) → IsAnswered old new call reply → IsLater old new
answered_later old new call reply a = record { node = a.node; cell = a.cell; begins = a.begins }

still_taken : (xs ys : List Taken) (x : Taken) → IsPrefix xs ys → Contains xs x → Contains ys x
still_taken xs ys x p h = subst (λ (l : List Taken). Contains l x) p.1 (Contains-append_left xs p.0 x h)

pub still_taken_at : (bytes : List ℕ) (offset place : ℕ) (xs ys : List Taken) → IsPrefix xs ys → IsTakenAt bytes offset place xs → IsTakenAt bytes offset place ys
still_taken_at bytes offset place xs ys p here one stands within = still_taken xs ys (taken_at (offset + place) one) p (here one stands within)

all_still_taken : (bytes : List ℕ) (offset : ℕ) (xs ys : List Taken) → IsPrefix xs ys → AllTaken bytes offset xs → AllTaken bytes offset ys
all_still_taken bytes offset xs ys p all place = still_taken_at bytes offset place xs ys p (all place)

-- no record stands behind the last place
pub all_places : (bytes : List ℕ) (offset : ℕ) (xs : List Taken) (count : ℕ) → length bytes ≤ count → ((k : ℕ) → k < count → IsTakenAt bytes offset k xs) → AllTaken bytes offset xs
all_places bytes offset xs count past all place one stands within = all place (stands_within bytes place one stands count past) one stands within

-- one of the same id and offset
pub taken_there : (xs : List Taken) (k : ℕ) (other one d : Taken) → k < length xs → other ≡ get_or xs k d → other.id ≡ one.id → other.offset ≡ one.offset → Contains xs one
taken_there xs k other one d within at same_id same_offset =
    let same : other ≡ one = λ i. record { id = same_id i; offset = same_offset i } in
    subst (Contains xs) same (subst (Contains xs) (sym at) (Contains-get_or xs k d within))

-- what was looked at a place
module _ (bytes : List ℕ) (offset place : ℕ) (taken : List Taken) (found : Option ℕ) (all : (one : List ℕ) → StandsAt bytes place one → found ≡ Some (id_of one)) where
  pub none_here : ((id : ℕ) → found ≡ Some id → ⊥) → IsTakenAt bytes offset place taken
  none_here none one stands within = absurd (none (id_of one) (all one stands))

  pub one_here : (id sum : ℕ) → found ≡ Some id → sum ≡ (offset + place) % 2 ^ 64 → Contains taken (record { id = id; offset = sum }) → IsTakenAt bytes offset place taken
  one_here id sum is adds has one stands within =
      let same : id ≡ id_of one = same_Some id (id_of one) (sym is ∙ all one stands) in
      let here : sum ≡ offset + place = omega (arith, adds, within) in
      subst (λ (n : ℕ). Contains taken (record { id = id_of one; offset = n })) here (subst (λ (n : ℕ). Contains taken (record { id = n; offset = sum })) same has)

-- a read stays one of a later reader, and of one that began sooner
pub read_later : (s : SeatState) (y z : Follower) (fd : Fd) (offset count : ℕ) → IsLater y.seat z.seat → IsPrefix y.taken.items z.taken.items
    → HasRead s y fd offset count → HasRead s z fd offset count
read_later s y z fd offset count later stays r = record {
  before = r.before;
  behind = r.behind;
  found = r.found;
  rounds = r.rounds;
  first = r.first;
  read = r.read;
  last = later_then r.behind y.seat z.seat r.last later;
  taken = all_still_taken r.found offset y.taken.items z.taken.items stays r.taken;
}

pub read_sooner : (s t : SeatState) (z : Follower) (fd : Fd) (offset count : ℕ) → IsLater s t → HasRead t z fd offset count → HasRead s z fd offset count
read_sooner s t z fd offset count later r = record {
  before = r.before;
  behind = r.behind;
  found = r.found;
  rounds = r.rounds;
  first = later_then s t r.before later r.first;
  read = r.read;
  last = r.last;
  taken = r.taken;
}
