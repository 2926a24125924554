-- Steps that were lost before they changed anything.
use Rattle.std.proofs.Common.{◌≡◌, ◌<◌, ℕ, zero, suc, Bool, true, false, List, [], ◌∷◌, ◌++◌, length, map, get_or, Some, None, refl, sym, subst, ap, ◌∙◌, arith}
use Rattle.std.specs.Prelude.{if◌then◌else◌}
use Rattle.std.proofs.lemmas.List.{append-nil}
use Rattle.gfs_types.specs.declared.call.Call.{Call}
use Rattle.messages.specs.declared.event.NodeInput.{NodeInput}
use Rattle.messages.specs.declared.event.StepOut.{StepOut}
use Rattle.protocol.specs.Tables.{element_at}
use Rattle.protocol.specs.declared.seen.Seen.{Seen}
use Rattle.protocol.specs.Seen.{Taken, no_output, down_output, no_step}
use Rattle.protocol.specs.Server.{ServerState, stopped_server}
use Rattle.protocol.specs.ServerStep.{server_step, server_ends, server_goes}
use Rattle.protocol.specs.Master.{MasterState, stopped_master}
use Rattle.protocol.specs.MasterStep.{master_step, master_bounded, master_goes}
use Rattle.protocol.specs.Choice.{Lost}
use Rattle.protocol.specs.Client.{ClientState, stopped_client}
use Rattle.protocol.specs.ClientStep.{may_step, client_step, client_ends, client_goes}
use Rattle.protocol.specs.World.{stamped}
use Rattle.protocol.specs.Conforms.{IsLeftAs, ServerSteps, ClientSteps, ClientCalls}
use Rattle.cell_world.specs.declared.record.CellRecord.{CellRecord}
use Rattle.cell_world.specs.Kept.{blank_seen}
use Rattle.cell_world.specs.Steps.{IsRecorded, MasterStepsSo}
use Rattle.cell_world.proofs.Acts.{lost_choice}
use Rattle.cell_world.proofs.Left.{same_left}

-- the element at a place
pub at : {X : Type 0} (xs : List X) (place : ℕ) (x : X) → place < length xs → x ≡ get_or xs place x → element_at xs place ≡ Some x
at [] place x h is = absurd (omega (arith, h))
at (y ∷ ys) zero x h is = ap (λ z. Some z) (sym is)
at (y ∷ ys) (suc place) x h is = at ys place x (omega (arith, h)) is

-- nothing is recorded
pub unrecorded : (before after : CellRecord) (out : StepOut) → out.sent ≡ [] → out.answer ≡ None → after.network.messages ≡ before.network.messages → after.sights.seen ≡ before.sights.seen → IsRecorded before out [] None after
unrecorded before after out quiet none sent seen = record {
  answer_is = none;
  sent_is = sent ∙ (sym (append-nil before.network.messages) ∙ ap (λ ms. before.network.messages ++ stamped (suc (length before.network.messages)) ms) (sym quiet));
  seen_is = seen ∙ sym (append-nil before.sights.seen);
}

pub master_lost : (m new : MasterState) (moment : ℕ) (i : NodeInput) (before after : CellRecord) → m.up ≡ true → new ≡ stopped_master m m.disk []
    → after.network.messages ≡ before.network.messages → after.sights.seen ≡ before.sights.seen → MasterStepsSo m moment i before None new after
master_lost m new moment i before after up new_is sent seen =
    let t : Taken MasterState = record { state = stopped_master m m.disk []; out = down_output; seen = [] } in
    let same : master_step m moment i lost_choice ≡ t = ap (λ (b : Bool). if b then master_bounded m i (master_goes m moment i []) lost_choice else no_step m) up in
    record {
      out = down_output;
      seen = [];
      steps = record {
        choice = lost_choice;
        gives = record {
          out_is = ap (λ (x : Taken MasterState). x.out) same;
          seen_is = ap (λ (x : Taken MasterState). x.seen) same;
          left_as = subst (λ (x : Taken MasterState). IsLeftAs x.state new) (sym same) (subst (λ (x : MasterState). IsLeftAs t.state x) (sym new_is) (same_left t.state));
        };
      };
      recorded = unrecorded before after down_output refl refl sent seen;
    }

pub server_lost : (s : ServerState) (moment : ℕ) (i : NodeInput) → s.up ≡ true → ServerSteps s moment i down_output [] (stopped_server s s.disk [])
server_lost s moment i up =
    let t : Taken ServerState = record { state = stopped_server s s.disk []; out = down_output; seen = [] } in
    let same : server_step s moment i lost_choice ≡ t = ap (λ (b : Bool). if b then server_ends s (server_goes s moment i) lost_choice Lost else no_step s) up in
    record { choice = lost_choice; gives = record { out_is = ap (λ (x : Taken ServerState). x.out) same; state_is = ap (λ (x : Taken ServerState). x.state) same }; seen_is = ap (λ (x : Taken ServerState). x.seen) same }

abbrev pub lost_out : ClientState → StepOut
lost_out s = if may_step s then down_output else no_output

pub lost_quietly : (s : ClientState) → ((lost_out s).sent ≡ []) × ((lost_out s).answer ≡ None)
lost_quietly s = by (may_step s)
  where
    by : (b : Bool) → ((if b then down_output else no_output).sent ≡ []) × ((if b then down_output else no_output).answer ≡ None)
    by true = (refl, refl)
    by false = (refl, refl)

pub client_lost : (s : ClientState) (moment : ℕ) (i : NodeInput) → ClientSteps s moment i (lost_out s) (if may_step s then stopped_client s else s)
client_lost s moment i = by (may_step s) refl
  where
    by : (b : Bool) → may_step s ≡ b → ClientSteps s moment i (if b then down_output else no_output) (if b then stopped_client s else s)
    by true e =
        let t : Taken ClientState = record { state = stopped_client s; out = down_output; seen = [] } in
        let same : client_step s moment i lost_choice ≡ t = ap (λ (b : Bool). if b then client_ends s (client_goes s moment i) Lost else no_step s) e in
        record { choice = lost_choice; gives = record { out_is = ap (λ (x : Taken ClientState). x.out) same; state_is = ap (λ (x : Taken ClientState). x.state) same }; seen_is = ap (λ (x : Taken ClientState). x.seen) same }
    by false e =
        let t : Taken ClientState = no_step s in
        let same : client_step s moment i lost_choice ≡ t = ap (λ (b : Bool). if b then client_ends s (client_goes s moment i) Lost else no_step s) e in
        record { choice = lost_choice; gives = record { out_is = ap (λ (x : Taken ClientState). x.out) same; state_is = ap (λ (x : Taken ClientState). x.state) same }; seen_is = ap (λ (x : Taken ClientState). x.seen) same }

-- the same, of what says whether a step was taken
pub client_gave_up : (s t : ClientState) (moment : ℕ) (i : NodeInput) (is_taken : Bool) (out : StepOut) → is_taken ≡ may_step s → out ≡ (if is_taken then down_output else no_output)
    → t ≡ (if may_step s then stopped_client s else s) → ClientSteps s moment i out t
client_gave_up s t moment i is_taken out taken out_is is =
    subst (λ (x : StepOut). ClientSteps s moment i x t) (sym (out_is ∙ ap (λ (b : Bool). if b then down_output else no_output) taken))
    (subst (λ (x : ClientState). ClientSteps s moment i (lost_out s) x) (sym is) (client_lost s moment i))

pub call_lost : (s : ClientState) (moment : ℕ) (c : Call) → ClientCalls s moment c down_output (stopped_client s)
call_lost s moment c = record { choice = lost_choice; gives = record { out_is = refl; state_is = refl }; seen_is = refl }

-- what was given and seen is recorded
pub recorded_so : (before ready after : CellRecord) (out : StepOut) (seen : List Seen) → ready.network.messages ≡ before.network.messages → ready.sights.seen ≡ before.sights.seen
    → after.network.messages ≡ ready.network.messages ++ stamped (suc (length ready.network.messages)) out.sent → after.sights.seen ≡ ready.sights.seen ++ map blank_seen seen → IsRecorded before out seen out.answer after
recorded_so before ready after out seen sent_same seen_same sent_is seen_is = record {
  answer_is = refl;
  sent_is = sent_is ∙ ap (λ ms. ms ++ stamped (suc (length ms)) out.sent) sent_same;
  seen_is = seen_is ∙ ap (λ s. s ++ map blank_seen seen) seen_same;
}
