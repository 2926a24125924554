-- Where handles stood that go in an event of the master: in a step files expire before anything else is logged, so they stood so in the log before it (sections 2.6.3, 3.4 and 4.4).
use Rattle.std.specs.Prelude.{◌⊎◌, ℕ, Bool, List, [], ◌∷◌, ◌≡◌, IsTrue}
use Rattle.gfs_types.specs.declared.config.Config.{Config}
use Rattle.messages.specs.declared.event.NodeInput.{NodeInput}
use Rattle.log_records.specs.declared.record.Record.{Record}
use Rattle.log_records.specs.declared.record.Record.TheVariants as log
use Rattle.protocol.specs.Choice.{Choice}
use Rattle.protocol.specs.Logged.{LogChange, AppendRecord, WriteCheckpoint}
use Rattle.protocol.specs.Master.{MasterState}
use Rattle.protocol.specs.MasterStep.{master_goes, found_log}
use Rattle.protocol.specs.World.{WorldState, IsReached}
use Rattle.laws_names.specs.FollowedSteps.{opened}
use Rattle.laws_machine.specs.ChunksAlike.{ChunkSides}
use Rattle.laws_machine.specs.MasterSteps.{AreGoneBy}
use Rattle.laws_machine.specs.WholeSteps.{GoesAlong}
use Rattle.laws_machine.specs.MastersEvents.{IsGoneFrom}

-- a record that lets no file expire
abbrev pub IsLasting : Record → Type 0
IsLasting (log.Expired file) = ⊥
IsLasting other = Unit {0}

abbrev pub IsLastingChange : LogChange → Type 0
IsLastingChange (AppendRecord r) = IsLasting r
IsLastingChange (WriteCheckpoint items) = Unit {0}

abbrev pub AreLasting : List LogChange → Type 0
AreLasting [] = Unit {0}
AreLasting (x ∷ rest) = IsLastingChange x × AreLasting rest

-- a file expires, or a checkpoint makes room for that
abbrev pub IsExpiryRecord : Record → Type 0
IsExpiryRecord (log.Expired file) = Unit {0}
IsExpiryRecord other = ⊥

abbrev pub IsExpiry : LogChange → Type 0
IsExpiry (AppendRecord r) = IsExpiryRecord r
IsExpiry (WriteCheckpoint items) = Unit {0}

-- files expire before anything else is logged
abbrev pub ExpireFirst : List LogChange → Type 0
ExpireFirst [] = Unit {0}
ExpireFirst (x ∷ rest) = (IsExpiry x × ExpireFirst rest) ⊎ AreLasting (x ∷ rest)

-- So it is in each step.
abbrev pub ExpiriesComeFirst : Type 0
ExpiriesComeFirst = (m : MasterState) (moment : ℕ) (i : NodeInput) (refused : List Bool) → ExpireFirst (master_goes m moment i refused).changes

-- Where clocks are kept, what goes along the changes of a step stood so in the log before the step, which has the state's files.
abbrev pub StepsLetGoWhatStood : Type 0
StepsLetGoWhatStood =
    (config : Config) (servers clients : ℕ) (w : WorldState) → IsReached config servers clients w → IsTrue w.observer.are_clocks_kept → IsTrue w.master.up
    → (moment : ℕ) (i : NodeInput) (refused : List Bool) (k j : ChunkSides) → k.log ≡ w.master.logged
    → AreGoneBy (GoesAlong w.master.disk (master_goes w.master moment i refused).changes) k j → IsGoneFrom k j

-- Nothing goes as a master opens.
abbrev pub OpeningsLetNothingGo : Type 0
OpeningsLetNothingGo =
    (m : MasterState) (moment : ℕ) (choice : Choice) (k j : ChunkSides) → AreGoneBy (GoesAlong (found_log m choice) (opened m moment choice).changes) k j → IsGoneFrom k j
