-- Rows of a journal, of which the last stay.
use Rattle.std.specs.Prelude.{◌≡◌, ℕ, ◌+◌, ◌-◌, ◌≤◌, ◌^◌, max, nat_lt, nat_le, if◌then◌else◌, List, [], length, take, slice_get, Option, None}
use Rattle.messages.specs.declared.message.Message.{Message}
use Rattle.protocol.specs.World.{numbered_from_1}
use Rattle.protocol_journal.specs.Journal.{Entry, sent_after}
use Rattle.cell_journal.specs.declared.counted_entry.CountedEntry.{CountedEntry}
use Rattle.cell_journal.specs.declared.retention.Retention.{Retention}
use Rattle.cell_journal.specs.declared.retention.Retention.TheVariants.{Whole, Last}
use Rattle.cell_journal.specs.CountedEntries.{sent_in}

-- of so many rows, how many of the first are let go; one stays at least
abbrev pub gone_of : Retention → ℕ → ℕ
gone_of Whole count = 0
gone_of (Last most) count = count - max most 1

-- how many stay
abbrev pub stays_of : Retention → ℕ → ℕ
stays_of retention count = count - gone_of retention count

-- how many entries there may be, where the settings allow so many of a journal that stays whole
abbrev pub most_entries : Retention → ℕ → ℕ
most_entries Whole journal = journal
most_entries (Last most) journal = 2 ^ 62

-- which rows stay, all that there were, and for how many there is memory
pub record Rows : Type 0 where
  pub retention : Retention
  pub all : List CountedEntry
  pub capacity : ℕ

abbrev pub rows_of : Retention → List CountedEntry → ℕ → Rows
rows_of retention all capacity = record { retention = retention; all = all; capacity = capacity }

-- the place of the first row that stays
abbrev pub first_of : Rows → ℕ
first_of r = gone_of r.retention (length r.all)

-- there is memory for what stays once there are so many rows more
abbrev pub HasRoom : Rows → ℕ → Type 0
HasRoom r more = stays_of r.retention (length r.all + more) ≤ r.capacity

-- the row at a place, where it stays
abbrev pub kept_row : Rows → ℕ → Option CountedEntry
kept_row r place = if nat_lt place (first_of r) then None else slice_get r.all place

-- the message of a number, as its node gave it, where its row stays
abbrev pub kept_sent : Rows → ℕ → Option Message
kept_sent r number = if nat_le number (length (sent_in (take (first_of r) r.all))) then None else numbered_from_1 (sent_in r.all) number

-- of a journal's entries, the one at a place, where it stays
abbrev pub kept_entry : Retention → List Entry → ℕ → Option Entry
kept_entry retention entries place = if nat_lt place (gone_of retention (length entries)) then None else slice_get entries place

-- of a journal's messages, that of a number, where the entry that sent it stays
abbrev pub kept_message : Retention → List Entry → ℕ → Option Message
kept_message retention entries number =
    if nat_le number (length (sent_after [] (take (gone_of retention (length entries)) entries))) then None else numbered_from_1 (sent_after [] entries) number
