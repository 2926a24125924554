-- A step that takes no Ask logs no AddChunk.
use Rattle.std.proofs.Common.{List, [], ◌∷◌, ◌++◌}
use Rattle.messages.specs.declared.event.NodeInput.{NodeInput}
use Rattle.messages.specs.declared.event.NodeInput.TheVariants as input
use Rattle.messages.specs.declared.message.Body.{Body}
use Rattle.messages.specs.declared.message.Body.TheVariants as body
use Rattle.log_records.specs.declared.record.Record.{Record}
use Rattle.log_records.specs.declared.record.Record.TheVariants as log
use Rattle.relaxed_file.specs.Machine.{Machine}
use Rattle.protocol.specs.Tables.{Table}
use Rattle.protocol.specs.Sending.{server_id, handle_of, version_of}
use Rattle.protocol.specs.Logged.{LogDisk, LogChange, AppendRecord, WriteCheckpoint, log_changed, checkpoint_of}
use Rattle.protocol.specs.Observer.{Placed}
use Rattle.protocol.specs.Master.{MasterDoing, master_begins}
use Rattle.protocol.specs.MasterStep.{master_at, master_does, master_goes}
use Rattle.laws_base.proofs.Entries.{AllOf, all_joined}
use Rattle.laws_base.proofs.OrderNumbers.{state_of}
use Rattle.laws_versions.proofs.UnaskedSteps.{IsOfNames, KeepsNames, KeepsReports, IsNoAsk, IsUnasked, ready, does_kept}
use Rattle.laws_machine.specs.WholeSteps.{IsAskedFor, AreAskedFor, IsNoAskIn, TakesNoAsk, OnlyAsksAddChunks}

abbrev pub IsNoAddRecord : Record → Type 0
IsNoAddRecord (log.AddChunk file handle) = ⊥
IsNoAddRecord other = Unit {0}

abbrev pub IsNoAdd : LogChange → Type 0
IsNoAdd (AppendRecord r) = IsNoAddRecord r
IsNoAdd (WriteCheckpoint items) = Unit {0}

names_add_nothing : (r : Record) → IsOfNames r → IsNoAddRecord r
names_add_nothing (log.AddChunk file handle) is = absurd is
names_add_nothing other is = tt

abbrev AddsNothing : MasterDoing → Type 0
AddsNothing d = AllOf IsNoAdd d.changes

one_more : (d : MasterDoing) (x : LogChange) → IsNoAdd x → AddsNothing d → AllOf IsNoAdd (d.changes ++ x ∷ [])
one_more d x is h = all_joined IsNoAdd d.changes (x ∷ []) h (is, tt)

names : KeepsNames AddsNothing
names = record {
  said = λ d receiver b is h. h;
  ordered = λ d server b is h. h;
  recorded = λ d r is h. one_more d (AppendRecord r) (names_add_nothing r is) h;
  checkpointed = λ d h. one_more d (WriteCheckpoint (checkpoint_of d.master.logged)) tt h;
  less = λ d handles h. h;
  fewer = λ d handles h. h;
  waiting = λ d ss h. h;
  refusing = λ d bs h. h;
}

reports : KeepsReports AddsNothing
reports = record {
  held = λ d server handle version h. h;
  heard = λ d server lines h. h;
  in_time = λ d h. h;
  noted = λ d handle a b at same h. h;
  granted = λ d handle a primary members at h. one_more d (AppendRecord (log.Grant (handle_of handle) (version_of a.version) (server_id primary) members)) tt h;
  ended = λ d handle h. h;
  lengthened = λ d handle until row is late h. h;
}

no_ask : (b : Body) → IsNoAskIn b → IsNoAsk b
no_ask (body.Ask number file what deadline lost) is = absurd is
no_ask other is = tt

unasked : (i : NodeInput) → TakesNoAsk i → IsUnasked i
unasked (input.Deliver m) is = no_ask m.body is
unasked input.Tick is = tt

pub nothing_asked : (first : Machine) (orders : Table (List Placed)) (changes : List LogChange) (d : LogDisk) → AllOf IsNoAdd changes → AreAskedFor first orders d changes
nothing_asked first orders [] d none = tt
nothing_asked first orders (WriteCheckpoint items ∷ rest) d none = nothing_asked first orders rest (log_changed d (WriteCheckpoint items)) none.1
nothing_asked first orders (AppendRecord r ∷ rest) d none = (by_record r none.0, nothing_asked first orders rest (log_changed d (AppendRecord r)) none.1)
  where
    by_record : (q : Record) → IsNoAddRecord q → IsAskedFor first orders (state_of d) q
    by_record (log.AddChunk file handle) is = absurd is
    by_record other is = tt

pub only_asks_add_chunks : OnlyAsksAddChunks
only_asks_add_chunks m moment i refused none first orders d =
    let begun : MasterDoing = master_begins (master_at m moment) refused in
    let done : MasterDoing = master_does begun i in
    nothing_asked first orders (master_goes m moment i refused).changes d (ready AddsNothing names done done.master.snapshots (does_kept AddsNothing names reports begun i (unasked i none) tt))
