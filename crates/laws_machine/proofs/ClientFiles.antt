-- The files of a client's descriptors and of its open call are open.
use Rattle.std.proofs.Common.{◌≡◌, ℕ, zero, suc, List, [], ◌∷◌, map, Some, refl, sym, subst, inl, inr}
use Rattle.gfs_types.specs.declared.config.Config.{Config}
use Rattle.gfs_types.specs.declared.call.Call.{Call}
use Rattle.gfs_types.specs.declared.answer.Answer.TheVariants as answer
use Rattle.gfs_types.specs.declared.refusal.Refusal.TheVariants.{NoMemory}
use Rattle.messages.specs.declared.event.NodeInput.{NodeInput}
use Rattle.messages.specs.declared.event.NodeInput.TheVariants as input
use Rattle.messages.specs.declared.message.Body.{Body}
use Rattle.messages.specs.declared.message.Location.{Location}
use Rattle.client_state.specs.declared.call.CurrentCall.{CurrentCall}
use Rattle.client_state.specs.declared.call.Stage.{Stage}
use Rattle.client_state.specs.declared.call.Stage.TheVariants.{AskedNames, AskedWhere, MustAskAgain, SentData, SentMutate, SentRead, IsOver, HasAnswer}
use Rattle.protocol.specs.Tables.{element_at, with_at, first_numbers}
use Rattle.protocol.specs.Choice.{Choice}
use Rattle.protocol.specs.Client.{ClientState, ClientDoing, new_client, stopped_client, client_begins, answers}
use Rattle.protocol.specs.ClientStep.{client_at, client_goes, client_call_goes, client_call, client_step}
use Rattle.protocol.specs.World.{WorldState}
use Rattle.laws_base.proofs.Steps.{none_some, same_some}
use Rattle.laws_base.proofs.RisingOrders.{set_cases}
use Rattle.laws_base.proofs.ServerMoves.{IsCameIn}
use Rattle.laws_base.specs.FileCalls.{IsOfFile}
use Rattle.laws_base.proofs.Events.{HoldsAfter, world_reached}
use Rattle.laws_base.proofs.ClientReads.{stepped, called}
use Rattle.laws_base.proofs.OpenFiles.{HasRow}
use Rattle.laws_base.proofs.KeptLocations.{IsFiledAtStage, Keeps, nothing_kept, keeps_later, keeps_opened, After, steps_here, calls_here, refused_here}
use Rattle.laws_machine.specs.FileClients.{IsFileOpen}
use Rattle.laws_machine.specs.ClientFiles.{ClientsFilesAreOpen}

-- nothing is asked of locations
abbrev Always : ℕ → Location → ℕ → Type 0
Always file l clock = Unit {0}

abbrev Kept : ClientState → Type 0
Kept s = (config : Config) × Keeps Always config s

abbrev AllKept : WorldState → Type 0
AllKept w = (index : ℕ) (s : ClientState) → element_at w.clients index ≡ Some s → Kept s

abbrev AnyCame : Body → Type 0
AnyCame b = Unit {0}

all_came : (i : NodeInput) → IsCameIn AnyCame i
all_came (input.Deliver m) = tt
all_came input.Tick = tt

module _ (s : ClientState) (h : Kept s) (moment : ℕ) where
  abbrev later : Keeps Always h.0 (client_at s moment)
  later = keeps_later Always h.0 s moment h.1

  left : (d : ClientDoing) → After Always h.0 (client_at s moment) AnyCame (λ c number l now at came. tt) later d → Kept d.client
  left d after = elim (after) [
    | inl quiet ↦ (h.0, quiet.0)
    | inr opened ↦ (h.0, subst (λ (t : ClientState). Keeps Always h.0 t) (sym opened.2) (keeps_opened Always Always h.0 (client_at s moment) opened.0 opened.1 (λ other l clock apart told. tt) later))
  ]

  stops : Kept (stopped_client s)
  stops = (s.config, nothing_kept Always s.config (stopped_client s) refl refl refl refl refl refl)

  pub step_kept : (i : NodeInput) (choice : Choice) → Kept (client_step s moment i choice).state
  step_kept i choice = stepped (λ t ms. Kept t) s moment i choice (left (client_goes s moment i) (steps_here Always h.0 (client_at s moment) AnyCame (λ c number l now at came. tt) later i (all_came i))) stops h

  pub call_kept : (c : Call) (choice : Choice) → Kept (client_call s moment c choice).state
  call_kept c choice =
      called (λ t ms. Kept t) s moment c choice (left (client_call_goes s moment c) (calls_here Always h.0 (client_at s moment) AnyCame (λ c number l now at came. tt) later c))
      (left (answers (client_begins (client_at s moment)) (answer.Refused NoMemory)) (refused_here Always h.0 (client_at s moment) AnyCame (λ c number l now at came. tt) later)) stops

one_set : (clients : List ClientState) (index : ℕ) (t : ClientState) → Kept t → ((other : ℕ) (s : ClientState) → element_at clients other ≡ Some s → Kept s) → (other : ℕ) (s : ClientState) → element_at (with_at clients index t) other ≡ Some s → Kept s
one_set clients index t new old other s is = elim (set_cases clients index t other s is) [
  | inl both ↦ subst (λ (y : ClientState). Kept y) (sym both.1) new
  | inr there ↦ old other s there
]

each_kept : (w : WorldState) → AllKept w → HoldsAfter w (λ e x. AllKept x.world)
each_kept w h =
    record {
      nothing = λ e. h;
      masters = λ e moment i choice given up. h;
      opens = λ e moment choice. h;
      serves = λ e server moment x i choice there given up. h;
      restarts = λ e server moment x choice there. h;
      steps = λ e index moment s i choice at is up. one_set w.clients index (client_step s moment i choice).state (step_kept s (h index s at) moment i choice) h;
      calls = λ e index moment s c choice at may. one_set w.clients index (client_call s moment c choice).state (call_kept s (h index s at) moment c choice) h;
      rots = λ e server handle x r place byte ending is_kept there found up. h;
    }

new_kept : (config : Config) (ns : List ℕ) (index : ℕ) (s : ClientState) → element_at (map (new_client config) ns) index ≡ Some s → Kept s
new_kept config [] index s is = none_some s is
new_kept config (n ∷ ns) zero s is = subst (λ (x : ClientState). Kept x) (same_some (new_client config n) s is) (config, nothing_kept Always config (new_client config n) refl refl refl refl refl refl)
new_kept config (n ∷ ns) (suc index) s is = new_kept config ns index s is

filed_at : (s : ClientState) (config : Config) (c : CurrentCall) (st : Stage) → IsOfFile st → IsFiledAtStage Always config s c st → HasRow s.files c.file.0
filed_at s config c AskedNames of h = absurd of
filed_at s config c (SentData chunk primary number) of h = h.0.0
filed_at s config c (SentMutate chunk number) of h = h.0.0
filed_at s config c (SentRead chunk left number) of h = h.0.0
filed_at s config c (AskedWhere number) of h = h.0
filed_at s config c MustAskAgain of h = h.0
filed_at s config c IsOver of h = h.0
filed_at s config c (HasAnswer reply) of h = h.0

pub clients_files_are_open : ClientsFilesAreOpen
clients_files_are_open config servers clients w reached index s at =
    let kept = world_reached AllKept each_kept (λ config servers clients. new_kept config (first_numbers clients)) config servers clients w reached index s at in
    let rows = kept.1.are_open in
    let is_open : (file : ℕ) → HasRow s.files file → IsFileOpen s file = λ file row. (row.0, row.1, (rows.rows file row.0 row.1).0) in
    record {
      descriptors = λ fd file is. is_open file (rows.filed fd file is);
      call = λ x is of. is_open x.file.0 (filed_at s kept.0 x x.stage of (kept.1.stands x is));
    }
