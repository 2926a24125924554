-- In every run the computed form allows each action that the machine allows.
use Rattle.std.proofs.Common.{◌≡◌, ℕ, suc, ◌<◌, ◌≤◌, List, Some, sym, subst}
use Rattle.std.specs.Prelude.{IsTrue, IsFalse, IsSomeAnd, Contains}
use Rattle.gfs_types.specs.declared.config.Config.{Config}
use Rattle.relaxed_file.specs.Order.{CallId, Entry}
use Rattle.relaxed_file.specs.Machine.{Machine, Asked, OpenCall}
use Rattle.relaxed_file.specs.Machine as machine
use Rattle.relaxed_file.specs.NameStep.{MayStep, MayBeFull}
use Rattle.relaxed_file.specs.Locks.{MayLock, MayBeBusy}
use Rattle.relaxed_file.specs.Chunks.{MayPlace}
use Rattle.relaxed_file.specs.Reads.{MayOffer, MayNote, MayLook, MayLookPast, MayMeasure, MayMeasureNone, IsOn, reads_part, is_length_call, IsLook}
use Rattle.relaxed_file.specs.Answers.{MayReturn, MayReturnFd}
use Rattle.relaxed_file.specs.Run.{Action, Invoke, Return, ReturnFd, Step, FindBusy, FindFull, Lock, Expire, Add, OpenRound, CloseRound, Place, Settle, Tell, Note, Look, LookPast, Measure, MeasureNone, Pass, OnOpen, Allows, IsReached}
use Rattle.protocol_invariant.specs.Allowed.{OnOpenCall, NeedsOne, AsksHere, IsLookAt, IsStep, IsReturn, IsAllowed}
use Rattle.protocol_allowed.specs.Laws.{WhatIsAllowedIsComputed}
use Rattle.protocol_allowed.proofs.Chosen.{selection_is_chosen}
use Rattle.protocol_allowed.proofs.StepsBack.{needs_one, asks_here, is_step}
use Rattle.protocol_allowed.proofs.ReturnsBack.{is_return}

on_call : (m : Machine) (client : ℕ) (P Q : OpenCall → Type 0) → ((current : OpenCall) → P current → Q current) → OnOpen m client P → OnOpenCall m client Q
on_call m client P Q then h = subst (λ o. IsSomeAnd o Q) (sym h.1) (then h.0 h.2)

look : (m : Machine) (client file index least last : ℕ) (chosen : List Entry) → IsLook m client file index least last chosen → IsLookAt m client file index least last chosen
look m client file index least last chosen h = (h.0, h.1, h.2, selection_is_chosen last h.3)

added : (m : Machine) (id : CallId) → Allows m (Add id) → IsAllowed m (Add id)
added m id h =
    subst (λ o. IsSomeAnd o (λ asked. IsSomeAnd asked.file (λ file. IsFalse (m.files file).is_collected × NeedsOne m id file asked.call))) (sym (h.2).0)
    (subst (λ o. IsSomeAnd o (λ file. IsFalse (m.files file).is_collected × NeedsOne m id file (h.0).call)) (sym (h.2).1) ((h.2).2, needs_one m id h.1 (h.0).call (h.2).3))

module _ (config : Config) (m : Machine) (way : IsReached config m) where
  computed : (action : Action) → Allows m action → IsAllowed m action
  computed (Invoke client asked) h = h
  computed (Return client reply) h = on_call m client (λ current. MayReturn m client current reply) (λ current. IsReturn m client current reply) (λ current g. is_return config m way client current reply g) h
  computed (ReturnFd client fd file) h = on_call m client (λ current. MayReturnFd m client current fd file) (λ current. MayReturnFd m client current fd file) (λ current g. g) h
  computed (Step client moment outcome) h = on_call m client (MayStep m moment outcome) (IsStep m moment outcome) (λ current g. is_step m moment outcome current g) h
  computed (FindBusy client holder) h =
      on_call m client (λ current. OnOpen m holder (λ snapshot. MayBeBusy m.config client current holder snapshot)) (λ current. OnOpenCall m holder (λ snapshot. MayBeBusy m.config client current holder snapshot))
      (λ current g. on_call m holder (λ snapshot. MayBeBusy m.config client current holder snapshot) (λ snapshot. MayBeBusy m.config client current holder snapshot) (λ snapshot k. k) g) h
  computed (FindFull client) h = on_call m client (MayBeFull m) (MayBeFull m) (λ current g. g) h
  computed (Lock client) h = on_call m client (MayLock m) (MayLock m) (λ current g. g) h
  computed (Expire file moment) h = h
  computed (Add id) h = added m id h
  computed (OpenRound file index round) h = h
  computed (CloseRound file index) h = h
  computed (Place client file index mutation) h =
      on_call m client (λ current. MayPlace m client current file index mutation)
      (λ current. (current.asked.file ≡ Some file) × (index < machine.chunk_count m file) × IsTrue (machine.chunk_at m file index).is_open
      × AsksHere m (record { client = client; number = current.number }) file index current.asked.call mutation)
      (λ current g. (g.0, g.1, g.2, asks_here m (record { client = client; number = current.number }) file index current.asked.call mutation g.3)) h
  computed (Settle file index place) h = h
  computed (Tell client file index) h = on_call m client (λ current. MayOffer m current file) (λ current. MayOffer m current file) (λ current g. g) h
  computed (Note client file index round count) h = on_call m client (λ current. MayNote m client current file index round count) (λ current. MayNote m client current file index round count) (λ current g. g) h
  computed (Look client file index least last chosen) h =
      on_call m client (λ current. MayLook m client current file index least last chosen)
      (λ current. IsOn current file × IsTrue (reads_part (machine.chunk_size m file) index current.asked.call) × IsLookAt m client file index least last chosen)
      (λ current g. (g.0, g.1, look m client file index least last chosen g.2)) h
  computed (LookPast client index) h = on_call m client (λ current. MayLookPast current index) (λ current. MayLookPast current index) (λ current g. g) h
  computed (Measure client file index told least last chosen) h =
      on_call m client (λ current. MayMeasure m client current file index told least last chosen)
      (λ current. IsOn current file × IsTrue (is_length_call current.asked.call) × Contains current.offers (machine.Told index told (suc index)) × (told ≤ least) × IsLookAt m client file index least last chosen)
      (λ current g. (g.0, g.1, g.2, g.3, look m client file index least last chosen g.4)) h
  computed (MeasureNone client) h = on_call m client MayMeasureNone MayMeasureNone (λ current g. g) h
  computed (Pass moment) h = h

pub what_is_allowed_is_computed : WhatIsAllowedIsComputed
what_is_allowed_is_computed config m action way h = computed config m way action h
