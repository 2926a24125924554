use Rattle.std.proofs.Common.{◌≡◌, List, [], ◌∷◌, ◌++◌, false, true, Option, Some, None, sym, ap, ◌∙◌, subst}
use Rattle.std.specs.Prelude.{IfSome}
use Rattle.disk.specs.Failing.{FuseState}
use Rattle.disk.specs.Writes.{LeftBy}
use Rattle.stored_log.specs.Kept.{DiskLogState, LeavesDecided}
use Rattle.protocol.specs.Master.{MasterState, stopped_master}
use Rattle.master_cell.specs.Shown.{shown_in}
use Rattle.master_cell.specs.Standing.{LoggedMasterState}
use Rattle.memory_nodes.specs.MasterSlots.{IsDiskLeft, IsLetGo, IsMasterOf, SlotState, slot_state}
use Rattle.memory_nodes.proofs.MasterSlots.{disk_held, disk_taken, log_taken, none_taken, stopped_of}
use Rattle.memory_nodes.proofs.master_slot.MasterSlot.take_disk.Goals as goal

abbrev stopped : MasterState → MasterState
stopped m = stopped_master m m.disk m.under_way

pub returns-in-Some-clause-down : goal.returns-in-Some-clause-down
returns-in-Some-clause-down g c =
    let i = c.self.inside in
    let l = c.in-Some.log in
    let go : IsLetGo i.master i.log c.log_of.result =
    subst (λ (o : Option LoggedMasterState). IsLetGo o i.log c.log_of.result) c.take.ensures.value (subst (λ (x : Option DiskLogState). IsLetGo c.take.result x c.log_of.result) c.take-2.ensures.value c.log_of.ensures) in
    let items : c.and-self-inside.result.items ≡ l ∷ [] = c.and-self-inside.ensures ∙ ap (λ (xs : List DiskLogState). xs ++ l ∷ []) c.new.ensures in
    let gone : slot_state i.config i.server_count c.take.new.self c.take-2.new.self c.and-self-inside.result.items ≡ stopped (slot_state i.config i.server_count i.master i.log i.before.items) =
    ap (λ (o : Option LoggedMasterState). slot_state i.config i.server_count o c.take-2.new.self c.and-self-inside.result.items) c.take.ensures.after
    ∙ ap (λ (x : Option DiskLogState). slot_state i.config i.server_count None x c.and-self-inside.result.items) c.take-2.ensures.after
    ∙ log_taken i.config i.server_count i.before.items c.and-self-inside.result.items l items i.master i.log c.log_of.result c.self.invariant.2 go c.in-Some.is in
    ap (λ (m : MasterState). record { state = m; files = shown_in i.files }) gone ∙ ap (λ (s : SlotState). record s { state = stopped s.state }) c.self.view_is

pub returns-in-Some-clause-left : goal.returns-in-Some-clause-left
returns-in-Some-clause-left g c =
    let i = c.self.inside in
    let l = c.in-Some.log in
    let go : IsLetGo i.master i.log c.log_of.result =
    subst (λ (o : Option LoggedMasterState). IsLetGo o i.log c.log_of.result) c.take.ensures.value (subst (λ (x : Option DiskLogState). IsLetGo c.take.result x c.log_of.result) c.take-2.ensures.value c.log_of.ensures) in
    let items : c.and-self-inside.result.items ≡ l ∷ [] = c.and-self-inside.ensures ∙ ap (λ (xs : List DiskLogState). xs ++ l ∷ []) c.new.ensures in
    subst (λ (s : SlotState). LeavesDecided (λ (d : FuseState). LeftBy d.disk) c.into_disk.result s.state.disk s.state.under_way) c.self.view_is
    (disk_taken i.config i.server_count i.before.items c.and-self-inside.result.items l items c.into_disk.result i.master i.log c.log_of.result go c.in-Some.is c.into_disk.ensures.left)

pub invariant_of-self : goal.invariant_of-self
invariant_of-self g c =
    let i = c.self.inside in
    let l = c.in-Some.log in
    let now : MasterState = slot_state i.config i.server_count c.take.new.self c.take-2.new.self c.and-self-inside.result.items in
    let go : IsLetGo i.master i.log c.log_of.result =
    subst (λ (o : Option LoggedMasterState). IsLetGo o i.log c.log_of.result) c.take.ensures.value (subst (λ (x : Option DiskLogState). IsLetGo c.take.result x c.log_of.result) c.take-2.ensures.value c.log_of.ensures) in
    let items : c.and-self-inside.result.items ≡ l ∷ [] = c.and-self-inside.ensures ∙ ap (λ (xs : List DiskLogState). xs ++ l ∷ []) c.new.ensures in
    let gone : now ≡ stopped (slot_state i.config i.server_count i.master i.log i.before.items) =
    ap (λ (o : Option LoggedMasterState). slot_state i.config i.server_count o c.take-2.new.self c.and-self-inside.result.items) c.take.ensures.after
    ∙ ap (λ (x : Option DiskLogState). slot_state i.config i.server_count None x c.and-self-inside.result.items) c.take-2.ensures.after
    ∙ log_taken i.config i.server_count i.before.items c.and-self-inside.result.items l items i.master i.log c.log_of.result c.self.invariant.2 go c.in-Some.is in (
      c.self.invariant.0,
      c.self.invariant.1,
      stopped_of i.config i.server_count (slot_state i.config i.server_count i.master i.log i.before.items) now gone c.self.invariant.2,
      subst (λ (o : Option LoggedMasterState). IsDiskLeft i.config i.server_count o c.take-2.new.self c.and-self-inside.result.items None) (sym c.take.ensures.after)
          (subst (λ (x : Option DiskLogState). IsDiskLeft i.config i.server_count None x c.and-self-inside.result.items None) (sym c.take-2.ensures.after) tt),
      λ up. let both : false ≡ true = sym (ap (λ (m : MasterState). m.up) gone) ∙ up in absurd cc,
    )

pub returns-in-None-clause-down : goal.returns-in-None-clause-down
returns-in-None-clause-down g c =
    let i = c.self.inside in
    let go : IsLetGo i.master i.log c.log_of.result =
    subst (λ (o : Option LoggedMasterState). IsLetGo o i.log c.log_of.result) c.take.ensures.value (subst (λ (x : Option DiskLogState). IsLetGo c.take.result x c.log_of.result) c.take-2.ensures.value c.log_of.ensures) in
    let none = none_taken i.config i.server_count i.before.items i.master i.log c.log_of.result go c.in-None.is in
    let gone : slot_state i.config i.server_count c.take.new.self c.take-2.new.self i.before.items ≡ stopped (slot_state i.config i.server_count i.master i.log i.before.items) =
    ap (λ (o : Option LoggedMasterState). slot_state i.config i.server_count o c.take-2.new.self i.before.items) c.take.ensures.after
    ∙ ap (λ (x : Option DiskLogState). slot_state i.config i.server_count None x i.before.items) c.take-2.ensures.after ∙ none.0 in
    ap (λ (m : MasterState). record { state = m; files = shown_in i.files }) gone ∙ ap (λ (s : SlotState). record s { state = stopped s.state }) c.self.view_is

pub returns-in-None-clause-left : goal.returns-in-None-clause-left
returns-in-None-clause-left g c =
    let i = c.self.inside in
    let go : IsLetGo i.master i.log c.log_of.result =
    subst (λ (o : Option LoggedMasterState). IsLetGo o i.log c.log_of.result) c.take.ensures.value (subst (λ (x : Option DiskLogState). IsLetGo c.take.result x c.log_of.result) c.take-2.ensures.value c.log_of.ensures) in
    subst (λ (s : SlotState). IfSome c.take-in-None.result (λ f. LeavesDecided (λ (d : FuseState). LeftBy d.disk) f s.state.disk s.state.under_way)) c.self.view_is
    (subst (λ (o : Option FuseState). (let m = slot_state i.config i.server_count i.master i.log i.before.items in IfSome o (λ f. LeavesDecided (λ (d : FuseState). LeftBy d.disk) f m.disk m.under_way))) (sym c.take-in-None.ensures.value)
    (disk_held i.config i.server_count i.before.items i.master i.log c.log_of.result i.disk go c.in-None.is c.self.invariant.3))

pub invariant_of-self-in-None : goal.invariant_of-self-in-None
invariant_of-self-in-None g c =
    let i = c.self.inside in
    let now : MasterState = slot_state i.config i.server_count c.take.new.self c.take-2.new.self i.before.items in
    let go : IsLetGo i.master i.log c.log_of.result =
    subst (λ (o : Option LoggedMasterState). IsLetGo o i.log c.log_of.result) c.take.ensures.value (subst (λ (x : Option DiskLogState). IsLetGo c.take.result x c.log_of.result) c.take-2.ensures.value c.log_of.ensures) in
    let none = none_taken i.config i.server_count i.before.items i.master i.log c.log_of.result go c.in-None.is in
    let gone : now ≡ stopped (slot_state i.config i.server_count i.master i.log i.before.items) =
    ap (λ (o : Option LoggedMasterState). slot_state i.config i.server_count o c.take-2.new.self i.before.items) c.take.ensures.after
    ∙ ap (λ (x : Option DiskLogState). slot_state i.config i.server_count None x i.before.items) c.take-2.ensures.after ∙ none.0 in (
      c.self.invariant.0,
      c.self.invariant.1,
      stopped_of i.config i.server_count (slot_state i.config i.server_count i.master i.log i.before.items) now gone c.self.invariant.2,
      subst (λ (f : Option FuseState). IsDiskLeft i.config i.server_count c.take.new.self c.take-2.new.self i.before.items f) (sym c.take-in-None.ensures.after)
          (subst (λ (o : Option LoggedMasterState). IsDiskLeft i.config i.server_count o c.take-2.new.self i.before.items None) (sym c.take.ensures.after)
          (subst (λ (x : Option DiskLogState). IsDiskLeft i.config i.server_count None x i.before.items None) (sym c.take-2.ensures.after) tt)),
      λ up. let both : false ≡ true = sym (ap (λ (m : MasterState). m.up) gone) ∙ up in absurd cc,
    )
