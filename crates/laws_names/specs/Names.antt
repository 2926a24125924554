-- A name call at the master does what the same call does at a machine that has the same names (sections 2.6.3, 3.4 and 4.1).
use Rattle.std.specs.Prelude.{◌≡◌, ◌⊎◌, ℕ, suc, if◌then◌else◌, Option, Some, None, IsTrue, IsFalse}
use Rattle.gfs_types.specs.declared.call.Call.{Call}
use Rattle.gfs_types.specs.declared.call.Call.TheVariants as call
use Rattle.gfs_types.specs.declared.config.Config.{Config}
use Rattle.gfs_types.specs.declared.refusal.Refusal.{Refusal}
use Rattle.gfs_types.specs.declared.refusal.Refusal.TheVariants.{Busy, NamesFull}
use Rattle.gfs_types.specs.Settings.{default_settings}
use Rattle.log_records.specs.declared.record.Record.{Record}
use Rattle.log_records.specs.declared.record.Record.TheVariants as log
use Rattle.relaxed_file.specs.Names.{Names}
use Rattle.relaxed_file.specs.Machine.{Machine}
use Rattle.relaxed_file.specs.NameStep.{first_refusal, path_tests, needs_room, refusal_of, outcome_of, outcome_by, performed}
use Rattle.protocol.specs.Sending.{client_id, file_id, moment_of}
use Rattle.protocol.specs.Logged.{Logged, after_record}
use Rattle.protocol.specs.Master.{MasterState, MasterDoing, PendingSnapshot}
use Rattle.protocol.specs.MasterSnapshots.{first_is_true, all_but_first, lets_go, refuses_name, settles_name, takes_snapshot}
use Rattle.protocol.specs.MasterNames.{master_refusal, performs, snapshot_call, told_shape, is_busy}

-- what stands in the log for a name call that takes effect at this moment; the others have none
abbrev pub record_of : Config → Logged → ℕ → ℕ → ℕ → Call → Option Record
record_of config l client number moment (call.Mkdir p) = Some (log.Mkdir (client_id client) number p)
record_of config l client number moment (call.Rmdir p) = Some (log.Rmdir (client_id client) number p)
record_of config l client number moment (call.Create p shape) = Some (log.Create (client_id client) number (file_id l.next_file) (told_shape config shape) p)
record_of config l client number moment (call.Delete p) = Some (log.Delete (client_id client) number (moment_of moment) p)
record_of config l client number moment (call.Rename p q) = Some (log.Rename (client_id client) number p q)
record_of config l client number moment (call.Snapshot p q) = Some (log.Snapshot (client_id client) number p q)
record_of config l client number moment other = None

-- the refusal of a snapshot, which doesn't look at the settings
abbrev pub snapshot_refusal : Names → PendingSnapshot → Option Refusal
snapshot_refusal names s = refusal_of default_settings names (snapshot_call s)

-- the call's record is logged and the call answered, or, where an allocator refused room for a name, that refusal is
abbrev pub logs_call : MasterDoing → ℕ → ℕ → Call → Record → MasterDoing
logs_call d client number c entry =
    let tried : MasterDoing = record d { refused = all_but_first d.refused } in
    if needs_room c then (if first_is_true d.refused then refuses_name tried client number NamesFull else settles_name tried client number entry None)
    else settles_name d client number entry None

-- A name call that meets no refusal logs its record; a snapshot waits first.
abbrev pub RecordsAreLogged : Type 0
RecordsAreLogged =
    (d : MasterDoing) (client number deadline : ℕ) (c : Call) (entry : Record)
    → record_of d.master.config d.master.logged client number d.master.now c ≡ Some entry → ((p q : _) → c ≡ call.Snapshot p q → ⊥)
    → performs d client number deadline c ≡ logs_call d client number c entry

abbrev pub SnapshotRecordsAreLogged : Type 0
SnapshotRecordsAreLogged =
    (d : MasterDoing) (s : PendingSnapshot) (entry : Record)
    → record_of d.master.config d.master.logged s.client s.number d.master.now (snapshot_call s) ≡ Some entry
    → takes_snapshot d s ≡ logs_call (lets_go d s) s.client s.number (snapshot_call s) entry

-- the master's names and the number of its next file are the machine's
abbrev pub HasNamesOf : Logged → Machine → Type 0
HasNamesOf l m = (l.names ≡ m.names) × (l.next_file ≡ suc m.file_count)

-- The record of a name call does to the names what the machine's name step does.
abbrev pub RecordsDoTheNameStep : Type 0
RecordsDoTheNameStep =
    (l : Logged) (m : Machine) (client number moment : ℕ) (c : Call) (entry : Record)
    → HasNamesOf l m → record_of m.config l client number moment c ≡ Some entry → HasNamesOf (after_record l entry) (performed m c moment)

-- The master's refusal is the machine's, or Busy: a snapshot that waits has a lock that conflicts, and the call's paths are lawful.
abbrev pub RefusalsAreTheMachines : Type 0
RefusalsAreTheMachines =
    (m : MasterState) (c : Call)
    → (master_refusal m c ≡ refusal_of m.config m.logged.names c)
    ⊎ ((master_refusal m c ≡ Some Busy) × IsTrue (is_busy m c) × (first_refusal (path_tests m.config c) ≡ None))

-- What Open and List come to at the master is what they come to at these names, but for Busy.
abbrev pub LooksReadTheNames : Type 0
LooksReadTheNames =
    (m : MasterState) (c : Call) → IsFalse (is_busy m c) → outcome_by m.logged.names c (master_refusal m c) ≡ outcome_of m.config m.logged.names c
