-- The laws of every lawful list of events on the entries of chunks' orders, that public functions of this crate state.
use Rattle.std.specs.Prelude.{◌≡◌, ℕ, false, List, [], ◌∷◌, ◌++◌, Some}
use Rattle.gfs_types.specs.declared.config.Config.{Config}
use Rattle.gfs_types.specs.declared.ids.DataId.{DataId}
use Rattle.gfs_types.specs.declared.ids.Handle.{Handle}
use Rattle.gfs_types.specs.declared.ids.Version.{Version}
use Rattle.gfs_types.specs.declared.ids.Moment.{Moment}
use Rattle.messages.specs.declared.event.Event.{Event}
use Rattle.messages.specs.declared.event.NodeInput.{NodeInput}
use Rattle.messages.specs.declared.message.Message.{Message}
use Rattle.messages.specs.declared.message.Body.TheVariants as body
use Rattle.messages.specs.declared.message.Target.{Target}
use Rattle.protocol.specs.Tables.{element_at}
use Rattle.protocol.specs.Sending.{handle_of, the_client}
use Rattle.protocol.specs.Choice.{Choice}
use Rattle.protocol.specs.declared.seen.Seen.TheVariants.{CopyStarted}
use Rattle.protocol.specs.Observer.{Placed, order_of, new_entry}
use Rattle.protocol.specs.Server.{ServerState}
use Rattle.protocol.specs.ServerStep.{server_step}
use Rattle.protocol.specs.MasterStep.{master_step}
use Rattle.protocol.specs.World.{WorldState, Happened, new_world, after_master, after_server, happens, after_events}
use Rattle.laws_base.specs.Entries.{IsAmong, IsPushed, IsPlacedFor}
use Rattle.laws_base.specs.Deadlines.{Numbers}

-- an entry but for whether it is settled
abbrev pub unsettled : Placed → Placed
unsettled p = record p { entry = record p.entry { settled = false } }

-- By what happened in this world a server numbered the mutation of this entry, under this chunk, as its client's last call.
pub record IsNumberedNow (w : WorldState) (x : Happened) (handle : ℕ) (p : Placed) : Type 0 where
  pub index : ℕ
  pub moment : ℕ
  pub server : ServerState
  pub input : NodeInput
  pub choice : Choice
  pub named : Handle
  pub version : Version
  pub id : DataId
  pub numbers : Numbers w index moment server input choice named version id
  pub step_is : x ≡ after_server w index moment (server_step server moment input choice)
  pub handle_is : named.0 ≡ handle
  pub entry_is : unsettled p ≡ new_entry w.observer.trace version.0 numbers.serial.0 id numbers.placed

-- By what happened in this world the master began the copy of a chunk.
pub record IsCopiedNow (w : WorldState) (x : Happened) (handle copy : ℕ) : Type 0 where
  pub moment : ℕ
  pub input : NodeInput
  pub choice : Choice
  pub place : ℕ
  pub step_is : x ≡ after_master w moment (master_step w.master moment input choice)
  pub seen : element_at (master_step w.master moment input choice).seen place ≡ Some (CopyStarted (handle_of handle) (handle_of copy))

-- it came about in one of these steps
pub record CameAbout (P : WorldState → Happened → Type 0) (start : WorldState) (steps : List (Event × Choice)) : Type 0 where
  pub before : List (Event × Choice)
  pub step : Event × Choice
  pub after : List (Event × Choice)
  pub steps_are : steps ≡ before ++ step ∷ after
  pub now : P (after_events start before) (happens (after_events start before) step.0 step.1)

abbrev pub WasNumbered : WorldState → List (Event × Choice) → ℕ → Placed → Type 0
WasNumbered start steps handle p = CameAbout (λ w x. IsNumberedNow w x handle p) start steps

abbrev pub WasCopied : WorldState → List (Event × Choice) → ℕ → ℕ → Type 0
WasCopied start steps handle copy = CameAbout (λ w x. IsCopiedNow w x handle copy) start steps

-- from one to the next, and on to the last one
abbrev pub Linked : (ℕ → ℕ → Type 0) → ℕ → List ℕ → ℕ → Type 0
Linked C from [] handle = from ≡ handle
Linked C from (next ∷ rest) handle = C from next × Linked C next rest handle

-- it is this chunk, or one of which this is a copy, or a copy's copy
abbrev pub IsSource : (ℕ → ℕ → Type 0) → ℕ → ℕ → Type 0
IsSource C from handle = (chain : List ℕ) × Linked C from chain handle

-- Each entry of a chunk's order was numbered in one step, under this chunk or one of which it is a copy.
abbrev pub EntriesWereNumbered : Type 0
EntriesWereNumbered =
    (config : Config) (servers clients : ℕ) (steps : List (Event × Choice)) (handle place : ℕ) (p : Placed)
    → element_at (order_of (after_events (new_world config servers clients) steps).observer handle) place ≡ Some p
    → (from : ℕ) × WasNumbered (new_world config servers clients) steps from p × IsSource (WasCopied (new_world config servers clients) steps) from handle

-- A client asked to place this entry in this chunk, by a Mutate of its number and its round, and pushed what is placed.
pub record HasMutate (sent : List Message) (handle : ℕ) (p : Placed) : Type 0 where
  pub asked : Message
  pub id : DataId
  pub named : Handle
  pub version : Version
  pub aim : Target
  pub deadline : Moment
  pub bytes : List ℕ
  pub sent_is : IsAmong sent asked
  pub sender_is : asked.sender ≡ the_client id.client.0
  pub body_is : asked.body ≡ body.Mutate id named version aim deadline
  pub handle_is : named.0 ≡ handle
  pub client_is : p.entry.call.client ≡ id.client.0
  pub seq_is : p.seq ≡ id.seq
  pub round_is : p.entry.round ≡ version.0
  pub pushed : IsPushed sent id bytes
  pub fits : IsPlacedFor aim bytes p.entry.mutation

-- Each entry of a chunk's order stems from a Mutate of its client, for this chunk or one of which it is a copy.
abbrev pub EntriesStemFromMutates : Type 0
EntriesStemFromMutates =
    (config : Config) (servers clients : ℕ) (steps : List (Event × Choice)) (handle place : ℕ) (p : Placed)
    → element_at (order_of (after_events (new_world config servers clients) steps).observer handle) place ≡ Some p
    → (from : ℕ) × HasMutate (after_events (new_world config servers clients) steps).sent from p × IsSource (WasCopied (new_world config servers clients) steps) from handle
