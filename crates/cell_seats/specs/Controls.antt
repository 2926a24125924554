-- What the network and the nodes of a running cell are asked.
use Rattle.std.specs.Prelude.{◌≡◌, ℕ, ◌+◌, ◌%◌, ◌^◌, nat_lt, if◌then◌else◌, List, length, slice_index, slice_set}
use Rattle.gfs_types.specs.declared.ids.Node.{Node}
use Rattle.gfs_types.specs.declared.ids.Node.TheVariants.{Master, Server, Client}
use Rattle.cell_journal.specs.WordRules.{IsWriterOf}
use Rattle.cell_seats.specs.declared.controls.Controls.{Controls}
use Rattle.cell_seats.specs.declared.controls.ControlWriter.{ControlWriter}
use Rattle.cell_seats.specs.declared.mailboxes.Policy.{Policy}

abbrev pub no_policy : Policy
no_policy = record { drop_every = 0; repeat_every = 0; hold_every = 0 }

abbrev pub policy_in : List ℕ → Policy
policy_in words = record { drop_every = slice_index words 0; repeat_every = slice_index words 1; hold_every = slice_index words 2 }

abbrev pub raised : List ℕ → ℕ → List ℕ
raised counts place = slice_set counts place ((slice_index counts place + 1) % 2 ^ 64)

-- how often servers, by their numbers, up to 64, and then the master were asked to begin again
abbrev pub restarted : List ℕ → Node → List ℕ
restarted counts Master = raised counts 65
restarted counts (Server id) = if nat_lt id.0 65 then raised counts id.0 else counts
restarted counts (Client id) = counts

-- what it writes is what is asked there
pub record WritesControls (controls : Controls) (control_writer : ControlWriter) : Type 0 where
  pub policy : IsWriterOf controls.policy.shared.table_id control_writer.policy.table_id control_writer.policy.me.0
  pub restarts : IsWriterOf controls.restarts.shared.table_id control_writer.restarts.table_id control_writer.restarts.me.0
  pub numbers : length control_writer.policy.me.0 ≡ 3
  pub places : length control_writer.restarts.me.0 ≡ 66
