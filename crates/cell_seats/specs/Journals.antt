-- Journals of cells that were closed or parked, each behind an earlier one.
use Rattle.std.specs.Prelude.{◌≡◌, ℕ, suc, ◌+◌, ◌-◌, ◌≤◌, ◌⊎◌, nat_lt, if◌then◌else◌, List, [], ◌∷◌, ◌++◌, length, take, drop, slice_get, Option, Some, None}
use Rattle.std.proofs.Common.{arith, length-append}
use denote.Param.Weighed.{most}
use Rattle.gfs_types.specs.declared.ids.Node.{Node}
use Rattle.protocol_journal.specs.Journal.{Entry, Restarts}
use Rattle.cell_journal.specs.Identity.{Identity, Closed}
use Rattle.cell_journal.specs.Retained.{gone_of}
use Rattle.cell_journal.specs.WholeHistories.{whole_of, AreRestarts}

-- a journal, those behind which it stands, the last one first, and with how many entries, which are no steps of it, its nodes began again
pub record JournalState : Type 0 where
  pub now : Closed
  pub earlier : List Closed
  pub skip : ℕ

abbrev pub journal_state : Closed → List Closed → ℕ → JournalState
journal_state now earlier skip = record { now = now; earlier = earlier; skip = skip }

abbrev pub all_in : JournalState → List Closed
all_in j = j.now ∷ j.earlier

-- one after another
abbrev pub joined : List JournalState → List Closed
joined [] = []
joined (j ∷ rest) = all_in j ++ joined rest

-- the steps of a journal: its entries but those with which its nodes began again
abbrev pub steps_in : JournalState → List Entry
steps_in j = drop j.skip j.now.entries

-- the place of the first step whose entry stays
abbrev pub first_kept : JournalState → ℕ
first_kept j = gone_of j.now.cell.retention (length j.now.entries) - j.skip

-- the step at a place, where its entry stays
abbrev pub kept_step : JournalState → ℕ → Option Entry
kept_step j place = if nat_lt place (first_kept j) then None else slice_get (steps_in j) place

-- this cell stands behind the last of these journals, and each of them behind the one before it, all of one name
abbrev pub AreBehind : Identity → List Closed → Type 0
AreBehind cell [] = cell.base ≡ []
AreBehind cell (j ∷ rest) = (cell.base ≡ whole_of j) × (cell.name ≡ j.cell.name) × AreBehind j.cell rest

-- the first entries of a journal, if any, are those with which its nodes began again
abbrev pub AreSkipped : Closed → ℕ → Type 0
AreSkipped j skip = (skip ≡ 0) ⊎ AreRestarts j.cell.servers (take skip j.entries)

-- the entry at a place is the restart of this node
abbrev pub HasRestart : List Entry → ℕ → Node → Type 0
HasRestart entries place n = (e : Entry) × (slice_get entries place ≡ Some e) × (e.node ≡ n) × (e.cause ≡ Restarts)

pub most_le : (kids : List JournalState) → most (λ k. length k.earlier + 1) kids ≤ length (joined kids)
most_le [] = omega arith
most_le (k ∷ ks) = omega (arith, most_le ks, length-append (all_in k) (joined ks))
