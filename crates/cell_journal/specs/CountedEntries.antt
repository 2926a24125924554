-- Rows of the journal.
use Rattle.std.specs.Prelude.{◌≡◌, ℕ, suc, ◌+◌, ◌<◌, ◌≤◌, List, [], ◌∷◌, ◌++◌, length, take}
use Rattle.messages.specs.declared.message.Message.{Message}
use Rattle.protocol_journal.specs.Journal.{Entry}
use Rattle.cell_journal.specs.declared.counted_entry.CountedEntry.{CountedEntry}

abbrev pub entries_in : List CountedEntry → List Entry
entries_in [] = []
entries_in (r ∷ rest) = r.entry ∷ entries_in rest

-- the messages that were sent, as the nodes gave them
abbrev pub sent_in : List CountedEntry → List Message
sent_in [] = []
sent_in (r ∷ rest) = r.entry.out.sent ++ sent_in rest

-- each row says how many messages were sent before it, after so many
abbrev pub AreCounted : ℕ → List CountedEntry → Type 0
AreCounted before [] = Unit {0}
AreCounted before (r ∷ rest) = (r.before ≡ before) × AreCounted (before + length r.entry.out.sent) rest

-- a number, from 1, is that of a message of the row at this place
pub record IsIn (rows : List CountedEntry) (number : ℕ) (place : ℕ) : Type 0 where
  pub within : place < length rows
  pub after : length (sent_in (take place rows)) < number
  pub until : number ≤ length (sent_in (take (suc place) rows))
