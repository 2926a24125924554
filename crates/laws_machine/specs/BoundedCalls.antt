-- The laws of every lawful list of events on how many entries a part of a call has in all orders together, that public functions of this crate state.
use Rattle.std.specs.Prelude.{◌≡◌, ◌<◌, ℕ, suc, ◌≤◌, max, List, length, Option, Some, IsTrue}
use Rattle.gfs_types.specs.declared.config.Config.{Config}
use Rattle.gfs_types.specs.declared.ids.DataId.{DataId}
use Rattle.gfs_types.specs.declared.ids.Handle.{Handle}
use Rattle.gfs_types.specs.declared.ids.Version.{Version}
use Rattle.gfs_types.specs.declared.mutation.Mutation.TheVariants.{Append}
use Rattle.messages.specs.declared.event.Event.{Event}
use Rattle.messages.specs.declared.event.NodeInput.{NodeInput}
use Rattle.relaxed_file.specs.Order.{CallId}
use Rattle.protocol.specs.Tables.{element_at}
use Rattle.protocol.specs.Choice.{Choice}
use Rattle.protocol.specs.Observer.{Placed, order_of, observed_moment, calls_made}
use Rattle.protocol.specs.Server.{ServerState}
use Rattle.protocol.specs.World.{WorldState, new_world, after_events, IsReached}
use Rattle.laws_base.specs.FewAttempts.{WasAsked, EachOf, AreApart}
use Rattle.laws_base.specs.Deadlines.{Numbers}
use Rattle.laws_base.specs.FullChunks.{IsPad}

-- In some chunk's order stands an entry of this number, no pad: it is of this call, and the client asked for it for this part of the call.
pub record IsEntryFor (start : WorldState) (steps : List (Event × Choice)) (index made : ℕ) (part : Option ℕ) (number : ℕ) : Type 0 where
  pub handle : ℕ
  pub place : ℕ
  pub placed : Placed
  pub is : element_at (order_of (after_events start steps).observer handle) place ≡ Some placed
  pub call_is : placed.entry.call ≡ record { client = suc index; number = made }
  pub seq_is : placed.seq ≡ number
  pub no_pad : IsPad placed.entry.mutation → ⊥
  pub part_is : WasAsked index start steps made part number

-- In all orders together, entries of at most so many numbers that are no pads are of one part of a call as its client has attempts. A number has one entry in each order.
abbrev pub PartsHaveFewEntries : Type 0
PartsHaveFewEntries =
    (config : Config) (servers clients : ℕ) (steps : List (Event × Choice)) (index made : ℕ) (part : Option ℕ) (numbers : List ℕ) → AreApart numbers
    → EachOf (IsEntryFor (new_world config servers clients) steps index made part) numbers → length numbers ≤ max 1 config.attempts

-- Where clocks are kept, so it is of each entry that is no pad, with its own call and a part of it.
abbrev pub EntriesAreOfFew : Type 0
EntriesAreOfFew =
    (config : Config) (servers clients : ℕ) (steps : List (Event × Choice)) → IsTrue (after_events (new_world config servers clients) steps).observer.are_clocks_kept
    → (handle place : ℕ) (p : Placed) → element_at (order_of (after_events (new_world config servers clients) steps).observer handle) place ≡ Some p → (IsPad p.entry.mutation → ⊥)
    → (index : ℕ) → p.entry.call.client ≡ suc index
    → (part : Option ℕ) × IsEntryFor (new_world config servers clients) steps index p.entry.call.number part p.seq
    × ((numbers : List ℕ) → AreApart numbers → EachOf (IsEntryFor (new_world config servers clients) steps index p.entry.call.number part) numbers → length numbers ≤ max 1 config.attempts)

-- Where clocks are kept, a mutation that is no pad is numbered for a part of its client's last call of which fewer numbers have an entry that is no pad, in all orders together, than the client has attempts (section 3.3).
abbrev pub PlacingsAreOfFewEntries : Type 0
PlacingsAreOfFewEntries =
    (config : Config) (servers clients : ℕ) (steps : List (Event × Choice)) (server moment : ℕ) (s : ServerState) (i : NodeInput) (choice : Choice) (handle : Handle) (version : Version) (id : DataId)
    → (n : Numbers (after_events (new_world config servers clients) steps) server moment s i choice handle version id) → (IsPad n.placed → ⊥)
    → IsTrue (observed_moment config.skew_ms (after_events (new_world config servers clients) steps).observer moment).are_clocks_kept
    → (index : ℕ) → id.client.0 ≡ suc index
    → (part : Option ℕ) × WasAsked index (new_world config servers clients) steps (calls_made (after_events (new_world config servers clients) steps).observer.trace (suc index)) part id.seq
    × ((numbers : List ℕ) → AreApart numbers
    → EachOf (IsEntryFor (new_world config servers clients) steps index (calls_made (after_events (new_world config servers clients) steps).observer.trace (suc index)) part) numbers → length numbers < max 1 config.attempts)

-- In some chunk's order stands a record of this number, which is of this call of the client.
pub record IsRecordOf (w : WorldState) (index made number : ℕ) : Type 0 where
  pub handle : ℕ
  pub place : ℕ
  pub placed : Placed
  pub offset : ℕ
  pub bytes : List ℕ
  pub is : element_at (order_of w.observer handle) place ≡ Some placed
  pub call_is : placed.entry.call ≡ record { client = suc index; number = made }
  pub seq_is : placed.seq ≡ number
  pub record_is : placed.entry.mutation ≡ Append offset bytes

-- So of one append at most so many numbers have a record, in all orders together, where clocks are kept (section 3.3).
abbrev pub CallsHaveFewRecords : Type 0
CallsHaveFewRecords =
    (config : Config) (servers clients : ℕ) (w : WorldState) → IsReached config servers clients w → IsTrue w.observer.are_clocks_kept
    → (index made : ℕ) (numbers : List ℕ) → AreApart numbers → EachOf (IsRecordOf w index made) numbers → length numbers ≤ max 1 config.attempts

-- Where clocks are kept, as a record is numbered, fewer numbers of its client's last call have a record, in all orders together, than the client has attempts (section 3.3).
abbrev pub RecordsArePlacedAsFew : Type 0
RecordsArePlacedAsFew =
    (config : Config) (servers clients : ℕ) (steps : List (Event × Choice)) (server moment : ℕ) (s : ServerState) (i : NodeInput) (choice : Choice) (handle : Handle) (version : Version) (id : DataId)
    → (n : Numbers (after_events (new_world config servers clients) steps) server moment s i choice handle version id) → (offset : ℕ) (bytes : List ℕ) → n.placed ≡ Append offset bytes
    → IsTrue (observed_moment config.skew_ms (after_events (new_world config servers clients) steps).observer moment).are_clocks_kept
    → (index : ℕ) → id.client.0 ≡ suc index
    → (numbers : List ℕ) → AreApart numbers → EachOf (IsRecordOf (after_events (new_world config servers clients) steps) index (calls_made (after_events (new_world config servers clients) steps).observer.trace (suc index))) numbers
    → length numbers < max 1 config.attempts
