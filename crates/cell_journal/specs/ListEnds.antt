-- How far the list of a journal's cell is known.
use Rattle.std.specs.Prelude.{◌≡◌, ◌≤◌, Bool, true, List, length}
use mathlib.Core.List.{IsPrefix}
use Rattle.logbook.specs.Pages.{Book}
use Rattle.protocol_journal.specs.Journal.{Entry}
use Rattle.cell_journal.specs.Log.{Listed}

-- a list under its name, and whether nothing is added to it any more
pub record Ending : Type 0 where
  pub name : Book
  pub items : List Entry
  pub is_over : Bool

abbrev pub ending : Listed Entry → Bool → Ending
ending list is_over = record { name = list.name; items = list.items; is_over = is_over }

-- Of what somebody saw of a history and what is known of it: what was seen begins the history where nothing is added to it any more, and else the shorter of both begins the longer.
pub record Agrees (seen history : List Entry) (is_over : Bool) : Type 0 where
  pub over : is_over ≡ true → IsPrefix seen history
  pub shorter : length seen ≤ length history → IsPrefix seen history
  pub longer : length history ≤ length seen → IsPrefix history seen
