-- What a server's code does is a step of the definitions.
use Rattle.std.proofs.Common.{◌≡◌, ℕ, Bool, true, false, List, [], ◌∷◌, map, take, drop, refl, sym, ap, ◌∙◌, subst, inl, inr}
use Rattle.std.specs.Prelude.{if◌then◌else◌, ◌⊎◌, filter, None}
use Rattle.messages.specs.declared.event.NodeInput.{NodeInput}
use Rattle.messages.specs.declared.event.StepOut.{StepOut}
use Rattle.replica_store.specs.declared.change.StoreChange.{StoreChange}
use Rattle.replica_store.specs.Replicas.{ServerDisk, disk_changed_by_all}
use Rattle.replica_store.specs.Stores.{IsFound, MadePart}
use Rattle.protocol.specs.Choice.{Choice, Ending, Goes, Lost, Stops, decided_changes}
use Rattle.protocol.specs.declared.seen.Seen.{Seen}
use Rattle.protocol.specs.Seen.{is_numbering, Taken, no_output, down_output, no_step}
use Rattle.protocol.specs.Server.{ServerState, ServerDoing, Frame, frame, down_server, started_server, stopped_server}
use Rattle.protocol.specs.ServerStep.{server_ends, server_goes, server_step}
use Rattle.protocol.specs.Conforms.{Gives, ServerSteps, ServerRestarts}
use Rattle.server_cell.specs.Ends.{Ends}

abbrev with_ending : Ending → Choice
with_ending e = record { ending = e; order = []; refused = []; decided = [] }

same_ends : (s t : ServerState) (d : ServerDoing) (choice : Choice) (e : Ending) → frame s ≡ frame t → server_ends s d choice e ≡ server_ends t d choice e
same_ends s t d choice Goes h = refl
same_ends s t d choice Lost h = ap (λ (f : Frame). record { state = down_server f.config f.id f.disk []; out = down_output; seen = [] }) h
same_ends s t d choice (Stops made) h =
    ap (λ (f : Frame). record { state = down_server f.config f.id (disk_changed_by_all f.disk (take made d.changes)) (take 1 (drop made d.changes)); out = down_output; seen = filter is_numbering d.seen }) h

pub stays : (s : ServerState) (moment : ℕ) (i : NodeInput) → s.up ≡ false → ServerSteps s moment i no_output [] s
stays s moment i down =
    let same : server_step s moment i (with_ending Goes) ≡ no_step s = ap (λ b. if b then server_ends s (server_goes s moment i) (with_ending Goes) Goes else no_step s) down in
    record {
      choice = with_ending Goes;
      gives = record { out_is = ap (λ (t : Taken ServerState). t.out) same; state_is = ap (λ (t : Taken ServerState). t.state) same };
      seen_is = ap (λ (t : Taken ServerState). t.seen) same;
    }

pub steps_from : (s t : ServerState) (moment : ℕ) (i : NodeInput) (d : ServerDoing) (out : StepOut) (seen : List Seen) (new : ServerState)
    → s.up ≡ true → frame t ≡ frame s → server_goes s moment i ≡ d → Ends t d out seen new → ServerSteps s moment i out seen new
steps_from s t moment i d out seen new up same goes e =
    let is : server_step s moment i e.choice ≡ server_ends t d e.choice e.choice.ending =
    ap (λ b. if b then server_ends s (server_goes s moment i) e.choice e.choice.ending else no_step s) up
    ∙ (ap (λ (x : ServerDoing). server_ends s x e.choice e.choice.ending) goes ∙ same_ends s t d e.choice e.choice.ending (sym same)) in
    record {
      choice = e.choice;
      gives = record { out_is = ap (λ (x : Taken ServerState). x.out) is ∙ e.gives.out_is; state_is = ap (λ (x : Taken ServerState). x.state) is ∙ e.gives.state_is };
      seen_is = ap (λ (x : Taken ServerState). x.seen) is ∙ e.seen_is;
    }

-- a step that was given up before it changed anything
pub lost : (s t : ServerState) (d : ServerDoing) → t.under_way ≡ [] → Ends t d down_output [] (stopped_server t t.disk t.under_way)
lost s t d none = record { choice = with_ending Lost; gives = record { out_is = refl; state_is = ap (stopped_server t t.disk) (sym none) }; seen_is = refl }

-- all changes were made
pub went : (s : ServerState) (d : ServerDoing) (new : ServerState) → new ≡ record d.server { disk = disk_changed_by_all d.server.disk d.changes }
    → Ends s d (record { sent = d.sent; answer = None; down = false }) d.seen new
went s d new h = record { choice = with_ending Goes; gives = record { out_is = refl; state_is = sym h }; seen_is = refl }

-- a part of the changes was made
pub stopped : (s : ServerState) (d : ServerDoing) (after : ServerState) → after.config ≡ s.config → after.id ≡ s.id → MadePart s.disk d.changes after.disk after.under_way
    → Ends s d down_output (filter is_numbering d.seen) (stopped_server after after.disk after.under_way)
stopped s d after config id m =
    record {
      choice = with_ending (Stops m.made);
      gives = record {
        out_is = refl;
        state_is = ap (λ c. down_server c s.id (disk_changed_by_all s.disk (take m.made d.changes)) (take 1 (drop m.made d.changes))) (sym config)
            ∙ (ap (λ n. down_server after.config n (disk_changed_by_all s.disk (take m.made d.changes)) (take 1 (drop m.made d.changes))) (sym id)
            ∙ (ap (λ k. down_server after.config after.id k (take 1 (drop m.made d.changes))) (sym m.disk_is)
            ∙ ap (down_server after.config after.id after.disk) (sym m.next_is)));
      };
      seen_is = refl;
    }

-- a restart that found its disk closed
pub stays_down : (s : ServerState) (moment : ℕ) → ServerRestarts s moment down_output (stopped_server s s.disk s.under_way)
stays_down s moment = record { choice = with_ending Lost; gives = record { out_is = refl; state_is = refl } }

all_made : (changes : List StoreChange) → decided_changes (map (λ _. true) changes) changes ≡ changes
all_made [] = refl
all_made (change ∷ rest) = ap (λ l. change ∷ l) (all_made rest)

pub restarts : (s : ServerState) (moment : ℕ) (found : ServerDisk) → IsFound s.disk s.under_way found → ServerRestarts s moment no_output (started_server s.config s.id found moment)
restarts s moment found (inl h) =
    record { choice = with_ending Goes; gives = record { out_is = refl; state_is = ap (λ k. started_server s.config s.id k moment) (sym h) } }
restarts s moment found (inr h) =
    record {
      choice = record { ending = Goes; order = []; refused = []; decided = map (λ _. true) s.under_way };
      gives = record {
        out_is = refl;
        state_is = ap (λ changes. started_server s.config s.id (disk_changed_by_all s.disk changes) moment) (all_made s.under_way) ∙ ap (λ k. started_server s.config s.id k moment) (sym h);
      };
    }

-- the same with what the code holds in hand

pub as_given : {s new next : ServerState} {moment : ℕ} {i : NodeInput} {out given : StepOut} {seen shown : List Seen} → ServerSteps s moment i out seen new
    → given ≡ out → shown ≡ seen → next ≡ new → ServerSteps s moment i given shown next
as_given e o se n =
    record { choice = e.choice; gives = record { out_is = e.gives.out_is ∙ sym o; state_is = e.gives.state_is ∙ sym n }; seen_is = e.seen_is ∙ sym se }

pub stopped_so : (s : ServerState) (d : ServerDoing) (after : ServerState) (out : StepOut) (seen : List Seen) (new : ServerState)
    → out ≡ down_output → seen ≡ filter is_numbering d.seen → new ≡ stopped_server after after.disk after.under_way
    → after.config ≡ s.config → after.id ≡ s.id → MadePart s.disk d.changes after.disk after.under_way → Ends s d out seen new
stopped_so s d after out seen new o se n config id m =
    let e = stopped s d after config id m in
    record { choice = e.choice; gives = record { out_is = e.gives.out_is ∙ sym o; state_is = e.gives.state_is ∙ sym n }; seen_is = e.seen_is ∙ sym se }

pub gave_up : (s t : ServerState) (moment : ℕ) (i : NodeInput) → s.up ≡ true → frame t ≡ frame s → (s.up ≡ true → s.under_way ≡ [])
    → ServerSteps s moment i down_output [] (stopped_server t t.disk t.under_way)
gave_up s t moment i up same idle =
    steps_from s t moment i (server_goes s moment i) down_output [] (stopped_server t t.disk t.under_way) up same refl
    (lost s t (server_goes s moment i) (ap (λ (f : Frame). f.under_way) same ∙ idle up))

pub stays_down_so : (s t : ServerState) (moment : ℕ) (out : StepOut) (new : ServerState) → out ≡ down_output → t ≡ s → new ≡ stopped_server t t.disk t.under_way
    → ServerRestarts s moment out new
stays_down_so s t moment out new o same n =
    let e = stays_down s moment in
    record { choice = e.choice; gives = record { out_is = e.gives.out_is ∙ sym o; state_is = e.gives.state_is ∙ sym (n ∙ ap (λ (x : ServerState). stopped_server x x.disk x.under_way) same) } }

pub restarts_so : (s t : ServerState) (moment : ℕ) (out : StepOut) (new : ServerState) → out ≡ no_output → IsFound s.disk s.under_way t.disk → t.config ≡ s.config → t.id ≡ s.id
    → new ≡ started_server t.config t.id t.disk moment → ServerRestarts s moment out new
restarts_so s t moment out new o found config id n =
    let e = restarts s moment t.disk found in
    record {
      choice = e.choice;
      gives = record {
        out_is = e.gives.out_is ∙ sym o;
        state_is = e.gives.state_is ∙ sym (n ∙ (ap (λ c. started_server c t.id t.disk moment) config ∙ ap (λ k. started_server s.config k t.disk moment) id));
      };
    }
