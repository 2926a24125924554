use Rattle.std.proofs.Common.{◌≡◌, List, [], ◌∷◌, ◌++◌, Option, Some, None, sym, ap, ◌∙◌, subst}
use Rattle.std.specs.Prelude.{IfSome}
use Rattle.disk.specs.Failing.{FuseState}
use Rattle.disk.specs.Writes.{LeftBy}
use Rattle.disk_store.specs.Standing.{LeavesHolding}
use Rattle.protocol.specs.Server.{ServerState, stopped_server}
use Rattle.server_handlers.specs.Standing.{HeldServerState}
use Rattle.server_cell.specs.Settings.{IsServerOf}
use Rattle.server_cell.specs.Slots.{IsDiskLeft, slot_state}
use Rattle.server_cell.proofs.Slots.{disk_taken, held_is, let_go, stays_down, stopped_of}
use Rattle.server_cell.proofs.server_slot.ServerSlot.take_disk.Goals as goal

pub returns-in-Some-clause-down : goal.returns-in-Some-clause-down
returns-in-Some-clause-down c =
    let i = c.self.inside in
    let s = c.in-Some.server in
    let items : c.and-self-inside.result.items ≡ s ∷ [] = c.and-self-inside.ensures ∙ ap (λ (l : List HeldServerState). l ++ s ∷ []) c.new.ensures in
    ap (λ (o : Option HeldServerState). slot_state i.config i.id.0 o c.and-self-inside.result.items) c.take.ensures.after
    ∙ let_go i.config i.id.0 i.server s i.before.items c.and-self-inside.result.items (sym c.take.ensures.value ∙ c.in-Some.is) items
    ∙ ap (λ (x : ServerState). stopped_server x x.disk x.under_way) c.self.view_is

pub returns-in-Some-clause-left : goal.returns-in-Some-clause-left
returns-in-Some-clause-left c =
    let i = c.self.inside in
    let s = c.in-Some.server in
    subst (λ (x : ServerState). LeavesHolding (LeftBy c.into_disk.result.disk) x.disk x.under_way) (sym (held_is i.config i.id.0 i.server s i.before.items (sym c.take.ensures.value ∙ c.in-Some.is)) ∙ c.self.view_is) c.into_disk.ensures.left

pub invariant_of-self : goal.invariant_of-self
invariant_of-self c =
    let i = c.self.inside in
    let s = c.in-Some.server in
    let items : c.and-self-inside.result.items ≡ s ∷ [] = c.and-self-inside.ensures ∙ ap (λ (l : List HeldServerState). l ++ s ∷ []) c.new.ensures in
    let gone : slot_state i.config i.id.0 c.take.new.self c.and-self-inside.result.items ≡ stopped_server (slot_state i.config i.id.0 i.server i.before.items) _ _ =
    ap (λ (o : Option HeldServerState). slot_state i.config i.id.0 o c.and-self-inside.result.items) c.take.ensures.after
    ∙ let_go i.config i.id.0 i.server s i.before.items c.and-self-inside.result.items (sym c.take.ensures.value ∙ c.in-Some.is) items in (
      c.self.invariant.0,
      stopped_of i.config i.id.0 (slot_state i.config i.id.0 i.server i.before.items) (slot_state i.config i.id.0 c.take.new.self c.and-self-inside.result.items) gone c.self.invariant.1,
      subst (λ (o : Option HeldServerState). IsDiskLeft i.config i.id.0 o c.and-self-inside.result.items None) (sym c.take.ensures.after) tt,
    )

pub returns-in-None-clause-down : goal.returns-in-None-clause-down
returns-in-None-clause-down c =
    let i = c.self.inside in
    let none : i.server ≡ None = sym c.take.ensures.value ∙ c.in-None.is in
    ap (λ (o : Option HeldServerState). slot_state i.config i.id.0 o i.before.items) (c.take.ensures.after ∙ sym none)
    ∙ stays_down i.config i.id.0 i.server i.before.items none
    ∙ ap (λ (x : ServerState). stopped_server x x.disk x.under_way) c.self.view_is

pub returns-in-None-clause-left : goal.returns-in-None-clause-left
returns-in-None-clause-left c =
    let i = c.self.inside in
    let none : i.server ≡ None = sym c.take.ensures.value ∙ c.in-None.is in
    subst (λ (s : ServerState). IfSome c.take-in-None.result (λ f. LeavesHolding (LeftBy f.disk) s.disk s.under_way)) c.self.view_is
    (subst (λ (o : Option FuseState). (let s = slot_state i.config i.id.0 i.server i.before.items in IfSome o (λ f. LeavesHolding (LeftBy f.disk) s.disk s.under_way))) (sym c.take-in-None.ensures.value)
    (disk_taken i.config i.id.0 i.before.items i.server i.disk none c.self.invariant.2))

pub invariant_of-self-in-None : goal.invariant_of-self-in-None
invariant_of-self-in-None c =
    let i = c.self.inside in
    let none : i.server ≡ None = sym c.take.ensures.value ∙ c.in-None.is in (
      c.self.invariant.0,
      subst (λ (o : Option HeldServerState). IsServerOf i.config i.id.0 (slot_state i.config i.id.0 o i.before.items)) (none ∙ sym c.take.ensures.after) c.self.invariant.1,
      subst (λ (o : Option FuseState). IsDiskLeft i.config i.id.0 c.take.new.self i.before.items o) (sym c.take-in-None.ensures.after)
          (subst (λ (o : Option HeldServerState). IsDiskLeft i.config i.id.0 o i.before.items None) (sym c.take.ensures.after) tt),
    )
