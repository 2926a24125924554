-- A client of a running cell, as its caller sees it.
use Rattle.std.specs.Prelude.{◌≡◌, ℕ, Bool, true, false, List, [], ◌∷◌, ◌++◌, length, Option, Some, None, Result, Ok, Err, IfSome, OnSome, IfNone, IsTrue, ◌⊎◌, All}
use Rattle.std.specs.List.{flat_map}
use mathlib.Core.List.{IsPrefix}
use Rattle.gfs_types.specs.declared.answer.Answer.{Answer}
use Rattle.gfs_types.specs.declared.answer.Answer.TheVariants as answer
use Rattle.gfs_types.specs.declared.call.Call.{Call}
use Rattle.gfs_types.specs.declared.ids.Node.{Node}
use Rattle.gfs_types.specs.Settings.{first_out_of_range}
use Rattle.gfs_types.specs.declared.refusal.Refusal.{Refusal}
use Rattle.gfs_types.specs.declared.refusal.Refusal.TheVariants.{Unknown, ClockBroken, JournalFull, Closed}
use Rattle.protocol_journal.specs.Journal.{Entry, own}
use Rattle.headline.specs.Journals.{AreExplained}
use Rattle.cell_journal.specs.Log.{Listed}
use Rattle.cell_journal.specs.Clocks.{are_clocks_kept}
use Rattle.cell_journal.specs.Identity.{Identity}
use Rattle.cell_journal.specs.declared.view.View.{View}
use Rattle.cell_journal.specs.WholeHistories.{all_seen, all_steps, is_retired, IsHistoryOf}
use Rattle.cell_seats.specs.Seen.{Visible, Asked, Answered, visible_of, answered_only}

-- A client, the clients that it was before, its cell, the cell's whole history as the client last saw it, whether it was refused for good, and whether a call of it stands in the journal that was not answered.
pub record SeatState : Type 0 where
  pub node : Node
  pub earlier : List Node
  pub cell : Identity
  pub seen : List Entry
  pub is_lost : Bool
  pub waits : Bool

abbrev pub seat_state : Node → List Node → Identity → List Entry → Bool → Bool → SeatState
seat_state node earlier cell seen is_lost waits = record { node = node; earlier = earlier; cell = cell; seen = seen; is_lost = is_lost; waits = waits }

abbrev pub is_some : {X : Type 0} → Option X → Bool
is_some None = false
is_some (Some x) = true

-- what the history has of the client under the number that it has
abbrev pub said : SeatState → List Visible
said s = visible_of (own s.node s.seen)

-- the client's answered calls under each number that it had before, and what the history has of it under the one that it has
abbrev pub shown : SeatState → List Visible
shown s = flat_map (λ n. answered_only (visible_of (own n s.seen))) s.earlier ++ visible_of (own s.node s.seen)

-- the refusals of the cell itself: no clock or clocks not kept, no room or memory for a step, the client down, or no cell any more
abbrev pub is_the_cells : Refusal → Bool
is_the_cells ClockBroken = true
is_the_cells JournalFull = true
is_the_cells Closed = true
is_the_cells other = false

-- the steps of a client that was refused for good, behind those that it saw: a call that waits, or none
abbrev pub IsLeft : (before after : List Entry) (waits : Bool) → Type 0
IsLeft before after true = (call : Call) × (visible_of after ≡ visible_of before ++ Asked call ∷ [])
IsLeft before after false = after ≡ before

-- clocks were not kept, or a client that was refused for good did no more but a call that waits
abbrev pub IsUnanswered : Node → View → List Entry → Bool → Type 0
IsUnanswered n v seen waits = (are_clocks_kept v.of (all_seen v) ≡ false) ⊎ IsLeft (own n seen) (all_steps v n) waits

-- nothing more is written of a client that this one was, and all that it was answered was seen
pub record IsGone (v : View) (seen : List Entry) (m : Node) : Type 0 where
  pub retired : IsTrue (is_retired v.of m)
  pub told : answered_only (visible_of (own m seen)) ≡ answered_only (visible_of (own m v.of.base))

-- A client's view, and what it keeps: the whole history as it saw it last, its length, and, where it wasn't refused for good, all its own steps.
pub record IsSeat (n : Node) (earlier : List Node) (v : View) (seen : Listed Entry) (count : ℕ) (lost : Option Refusal) (waits : Bool) : Type 0 where
  pub name : seen.name ≡ v.of.name
  pub count_is : count ≡ length seen.items
  pub begins : IsPrefix seen.items (all_seen v)
  pub lawful : IsHistoryOf v.of seen.items
  pub clocks : IsTrue (are_clocks_kept v.of seen.items)
  pub in_range : first_out_of_range v.of.config ≡ None
  pub own_is : lost ≡ None → own n seen.items ≡ all_steps v n
  pub refused : IfSome lost (λ refusal. IsTrue (is_the_cells refusal))
  pub told : answered_only (visible_of (own n seen.items)) ≡ visible_of (own n seen.items)
  pub stands : IfSome lost (λ refusal. IsUnanswered n v seen.items waits)
  pub gone : All (IsGone v seen.items) earlier

-- The call was answered: what the client saw goes on lawfully, with clocks kept, and has one more call of its own, with this answer, at the end. All calls and answers that it saw are a run of the machine.
pub record IsAnswered (old new : SeatState) (call : Call) (reply : Answer) : Type 0 where
  pub node : new.node ≡ old.node
  pub cell : new.cell ≡ old.cell
  pub begins : IsPrefix old.seen new.seen
  pub lawful : IsHistoryOf new.cell new.seen
  pub clocks : IsTrue (are_clocks_kept new.cell new.seen)
  pub explained : AreExplained new.cell.config new.seen
  pub shows : shown new ≡ shown old ++ Asked call ∷ Answered reply ∷ []
  pub says : said new ≡ said old ++ Asked call ∷ Answered reply ∷ []
  pub was_open : old.is_lost ≡ false
  pub still_open : new.is_lost ≡ false
  pub earlier : new.earlier ≡ old.earlier

-- The cell itself refused the call. The client is lost; where it was already, nothing changed. It has seen no more than before.
pub record IsLost (old new : SeatState) (refusal : Refusal) : Type 0 where
  pub node : new.node ≡ old.node
  pub cell : new.cell ≡ old.cell
  pub seen : new.seen ≡ old.seen
  pub earlier : new.earlier ≡ old.earlier
  pub lost : new.is_lost ≡ true
  pub refused : IsTrue (is_the_cells refusal)
  pub again : old.is_lost ≡ true → new ≡ old

abbrev pub refusal_in : Answer → Refusal
refusal_in (answer.Refused refusal) = refusal
refusal_in other = Unknown

-- A call came back with a refusal: it is the answer that the journal has, or the cell's own.
pub data Fails (old new : SeatState) (asked : Call) (refusal : Refusal) : Type 0 where
  AnswersSo : IsAnswered old new asked (answer.Refused refusal) → Fails old new asked refusal
  Loses : IsLost old new refusal → Fails old new asked refusal

-- A seat goes over to its cell that was parked and goes on, with what it saw, and answers again. One whose client saw the whole history goes on as the client that it is, or, where a call of it waits, as one of a new number; what it shows stays. One that an earlier parking left behind goes on without earlier numbers.
pub record GoesOver (cell : Identity) (saw : Option ℕ) (old new : SeatState) : Type 0 where
  pub cell_is : new.cell ≡ cell
  pub name : new.cell.name ≡ old.cell.name
  pub seen : new.seen ≡ old.seen
  pub answers : new.is_lost ≡ false
  pub waits : new.waits ≡ false
  pub stays : old.waits ≡ false → OnSome saw ((new.node ≡ old.node) × (new.earlier ≡ old.earlier))
  pub moves : old.waits ≡ true → OnSome saw (new.earlier ≡ old.earlier ++ old.node ∷ [])
  pub shows : OnSome saw (shown new ≡ shown old)
  pub anew : IfNone saw (new.earlier ≡ [])

-- a seat goes on as the client that it is
pub record StaysOver (cell : Identity) (old new : SeatState) : Type 0 where
  pub cell_is : new.cell ≡ cell
  pub seen : new.seen ≡ old.seen
  pub answers : (new.is_lost ≡ false) × (new.waits ≡ false)
  pub node : new.node ≡ old.node
  pub earlier : new.earlier ≡ old.earlier

-- a seat goes on as a client of a new number
pub record MovesOver (cell : Identity) (old new : SeatState) : Type 0 where
  pub cell_is : new.cell ≡ cell
  pub seen : new.seen ≡ old.seen
  pub answers : (new.is_lost ≡ false) × (new.waits ≡ false)
  pub earlier : new.earlier ≡ old.earlier ++ old.node ∷ []
  pub shows : shown new ≡ shown old

-- the refusal with which a call came back that was not done, Unknown for an answer of another kind
abbrev pub IsRefusal : (Answer → Bool) → Result Answer Refusal → Refusal → Type 0
IsRefusal is_value (Ok reply) refusal = (is_value reply ≡ false) × (refusal_in reply ≡ refusal)
IsRefusal is_value (Err own_one) refusal = own_one ≡ refusal
