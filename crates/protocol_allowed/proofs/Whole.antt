-- Each action that the computed form allows is one that the machine allows.
use Rattle.std.proofs.Common.{◌≡◌, ℕ, suc, ◌<◌, ◌≤◌, List, Some}
use Rattle.std.specs.Prelude.{IsTrue, IsFalse, IsSomeAnd, Contains}
use Rattle.relaxed_file.specs.Order.{CallId}
use Rattle.relaxed_file.specs.Machine.{Machine, Asked, OpenCall, IsOpen, chunk_count}
use Rattle.relaxed_file.specs.Machine as machine
use Rattle.relaxed_file.specs.NameStep.{MayStep, MayBeFull}
use Rattle.relaxed_file.specs.Locks.{MayLock, MayBeBusy}
use Rattle.relaxed_file.specs.Chunks.{MayPlace}
use Rattle.relaxed_file.specs.Reads.{MayOffer, MayNote, MayLook, MayLookPast, MayMeasure, MayMeasureNone, IsOn, reads_part, is_length_call, IsLook}
use Rattle.relaxed_file.specs.Answers.{MayReturn, MayReturnFd}
use Rattle.relaxed_file.specs.Order.{Entry}
use Rattle.relaxed_file.specs.Run.{Action, Invoke, Return, ReturnFd, Step, FindBusy, FindFull, Lock, Expire, Add, OpenRound, CloseRound, Place, Settle, Tell, Note, Look, LookPast, Measure, MeasureNone, Pass, OnOpen, Allows}
use Rattle.protocol_invariant.specs.Allowed.{OnOpenCall, NeedsOne, AsksHere, IsLookAt, IsStep, IsReturn, IsAllowed}
use Rattle.protocol_allowed.proofs.Tests.{on_some}
use Rattle.protocol_allowed.proofs.Selections.{chosen_is}
use Rattle.protocol_allowed.proofs.Asks.{needs_chunk, asks_for}
use Rattle.protocol_allowed.proofs.Steps.{may_step}
use Rattle.protocol_allowed.proofs.Returns.{may_return}

on_call : (m : Machine) (client : ℕ) (P Q : OpenCall → Type 0) → ((current : OpenCall) → P current → Q current) → OnOpenCall m client P → OnOpen m client Q
on_call m client P Q then h =
    let at : (current : OpenCall) × IsOpen m client current × P current = on_some P (m.clients client).open_call h in
    (at.0, at.1, then at.0 at.2)

look : (m : Machine) (client file index least last : ℕ) (chosen : List Entry) → IsLookAt m client file index least last chosen → IsLook m client file index least last chosen
look m client file index least last chosen h = (h.0, h.1, h.2, chosen_is last (machine.chunk_at m file index).order chosen h.3)

added : (m : Machine) (id : CallId) → IsAllowed m (Add id) → Allows m (Add id)
added m id h =
    let made : (asked : Asked) × ((m.clients id.client).calls id.number ≡ Some asked) × IsSomeAnd asked.file (λ file. IsFalse (m.files file).is_collected × NeedsOne m id file asked.call) =
    on_some (λ asked. IsSomeAnd asked.file (λ file. IsFalse (m.files file).is_collected × NeedsOne m id file asked.call)) ((m.clients id.client).calls id.number) h in
    let on : (file : ℕ) × ((made.0).file ≡ Some file) × (IsFalse (m.files file).is_collected × NeedsOne m id file (made.0).call) =
    on_some (λ file. IsFalse (m.files file).is_collected × NeedsOne m id file (made.0).call) (made.0).file made.2 in
    (made.0, on.0, (made.1, on.1, on.2.0, needs_chunk m id on.0 (made.0).call on.2.1))

pub what_is_computed_is_allowed : (m : Machine) (action : Action) → IsAllowed m action → Allows m action
what_is_computed_is_allowed m (Invoke client asked) h = h
what_is_computed_is_allowed m (Return client reply) h = on_call m client (λ current. IsReturn m client current reply) (λ current. MayReturn m client current reply) (λ current g. may_return m client current reply g) h
what_is_computed_is_allowed m (ReturnFd client fd file) h = on_call m client (λ current. MayReturnFd m client current fd file) (λ current. MayReturnFd m client current fd file) (λ current g. g) h
what_is_computed_is_allowed m (Step client moment outcome) h = on_call m client (IsStep m moment outcome) (MayStep m moment outcome) (λ current g. may_step m moment outcome current g) h
what_is_computed_is_allowed m (FindBusy client holder) h =
    on_call m client (λ current. OnOpenCall m holder (λ snapshot. MayBeBusy m.config client current holder snapshot)) (λ current. OnOpen m holder (λ snapshot. MayBeBusy m.config client current holder snapshot))
    (λ current g. on_call m holder (λ snapshot. MayBeBusy m.config client current holder snapshot) (λ snapshot. MayBeBusy m.config client current holder snapshot) (λ snapshot k. k) g) h
what_is_computed_is_allowed m (FindFull client) h = on_call m client (MayBeFull m) (MayBeFull m) (λ current g. g) h
what_is_computed_is_allowed m (Lock client) h = on_call m client (MayLock m) (MayLock m) (λ current g. g) h
what_is_computed_is_allowed m (Expire file moment) h = h
what_is_computed_is_allowed m (Add id) h = added m id h
what_is_computed_is_allowed m (OpenRound file index round) h = h
what_is_computed_is_allowed m (CloseRound file index) h = h
what_is_computed_is_allowed m (Place client file index mutation) h =
    on_call m client (λ current. (current.asked.file ≡ Some file) × (index < chunk_count m file) × IsTrue (machine.chunk_at m file index).is_open
    × AsksHere m (record { client = client; number = current.number }) file index current.asked.call mutation)
    (λ current. MayPlace m client current file index mutation)
    (λ current g. (g.0, g.1, g.2, asks_for m (record { client = client; number = current.number }) file index current.asked.call mutation g.3)) h
what_is_computed_is_allowed m (Settle file index place) h = h
what_is_computed_is_allowed m (Tell client file index) h = on_call m client (λ current. MayOffer m current file) (λ current. MayOffer m current file) (λ current g. g) h
what_is_computed_is_allowed m (Note client file index round count) h =
    on_call m client (λ current. MayNote m client current file index round count) (λ current. MayNote m client current file index round count) (λ current g. g) h
what_is_computed_is_allowed m (Look client file index least last chosen) h =
    on_call m client (λ current. IsOn current file × IsTrue (reads_part (machine.chunk_size m file) index current.asked.call) × IsLookAt m client file index least last chosen)
    (λ current. MayLook m client current file index least last chosen) (λ current g. (g.0, g.1, look m client file index least last chosen g.2)) h
what_is_computed_is_allowed m (LookPast client index) h = on_call m client (λ current. MayLookPast current index) (λ current. MayLookPast current index) (λ current g. g) h
what_is_computed_is_allowed m (Measure client file index told least last chosen) h =
    on_call m client (λ current. IsOn current file × IsTrue (is_length_call current.asked.call) × Contains current.offers (machine.Told index told (suc index)) × (told ≤ least) × IsLookAt m client file index least last chosen)
    (λ current. MayMeasure m client current file index told least last chosen) (λ current g. (g.0, g.1, g.2, g.3, look m client file index least last chosen g.4)) h
what_is_computed_is_allowed m (MeasureNone client) h = on_call m client MayMeasureNone MayMeasureNone (λ current g. g) h
what_is_computed_is_allowed m (Pass moment) h = h
