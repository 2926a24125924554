-- Only a client's ask for a chunk has the master show something: every other part of its step shows nothing more.
use Rattle.std.proofs.Common.{◌≡◌, ℕ, suc, List, [], ◌∷◌, Option, Some, None, refl, ap, ◌∙◌, subst}
use Rattle.messages.specs.declared.message.Body.{Body}
use Rattle.messages.specs.declared.message.Body.TheVariants as body
use Rattle.messages.specs.declared.message.Message.{Message}
use Rattle.messages.specs.declared.event.NodeInput.{NodeInput}
use Rattle.messages.specs.declared.event.NodeInput.TheVariants as input
use Rattle.log_records.specs.declared.record.Record.{Record}
use Rattle.log_records.specs.declared.record.Record.TheVariants as log
use Rattle.chunk_table.specs.ChunkTable.{ChunkRow, chunk_of}
use Rattle.protocol.specs.Sending.{handle_of, version_of}
use Rattle.protocol.specs.declared.seen.Seen.{Seen}
use Rattle.protocol.specs.Logged.{Logged}
use Rattle.protocol.specs.Master.{MasterDoing, orders, with_attempt, has_lease}
use Rattle.protocol.specs.MasterSnapshots.{revokes_row, revokes, takes_ready}
use Rattle.protocol.specs.MasterVersions.{Asker, VersionTarget, version_order, sends_versions, new_attempt, sends_issued, issues_to}
use Rattle.protocol.specs.MasterStep.{master_ticks, master_takes}
use Rattle.laws_base.proofs.LeaseOrders.{revoke_order}
use Rattle.laws_base.proofs.Steps.{on_cond}
use Rattle.laws_base.proofs.MasterPremises.{IsAsk, AnyDoing, any_kept, StepEffects, NameKeeps, MasterKeeps}
use Rattle.laws_base.proofs.MasterWalk.{logged_here, ready_here, ticks_here, takes_here}

-- no ask
abbrev pub IsNoAsk : Body → Type 0
IsNoAsk (body.Ask number file wanted deadline lost) = ⊥
IsNoAsk other = Unit {0}

same_message : (x y : Message) → input.Deliver x ≡ input.Deliver y → x ≡ y
same_message x y same = cc

message_is_none : (x : Message) → IsNoAsk x.body → IsAsk (input.Deliver x) → ⊥
message_is_none x none ask = subst IsNoAsk (ap (λ (y : Message). y.body) (same_message x ask.message ask.taken) ∙ ask.is) none

tick_is_none : IsAsk input.Tick → ⊥
tick_is_none ask = absurd (let taken : input.Tick ≡ input.Deliver ask.message = ask.taken in cc)

module _ (shown : List Seen) where
  abbrev pub Shows : MasterDoing → Type 0
  Shows d = d.seen ≡ shown

  abbrev AreShown : StepEffects → Type 0
  AreShown g = g.seen ≡ shown

  abbrev Any : Record → Type 0
  Any r = Unit {0}

  names : NameKeeps Any AreShown
  names = record { named = λ g receiver number reply h. h; recorded = λ g r is h. h; checkpointed = λ g items h. h }

  keeps : (l : Logged) (i : NodeInput) → (IsAsk i → ⊥) → MasterKeeps l i AnyDoing AreShown
  keeps l i none =
      record {
        answered = λ g receiver b is h. h;
        ordered = λ g server b is h. h;
        extended = λ g server line until is h. h;
        dropped = λ g server order line is useless h. h;
        recorded = λ g r is h. h;
        checkpointed = λ g items h. h;
        shown = λ g handle copy ask new h. absurd (none ask);
        held = λ g x handle version came is h. h;
        heard = λ g x replicas leases came is h. h;
      }

  revoked_of : (d : MasterDoing) (handle : ℕ) (o : Option ChunkRow) → Shows d → Shows (revokes_row d handle o)
  revoked_of d handle None h = h
  revoked_of d handle (Some row) h = on_cond Shows (has_lease d.master row) (orders d row.primary (revoke_order handle row)) d (λ _. h) (λ _. h)

  pub revoked : (d : MasterDoing) (handle : ℕ) → Shows d → Shows (revokes d handle)
  revoked d handle h = revoked_of d handle (chunk_of d.master.logged.table handle) h

  -- the end of a step
  pub ready : (d : MasterDoing) → Shows d → Shows (takes_ready d d.master.snapshots)
  ready d h = ready_here Any (λ r is. tt) AreShown names d d.master.snapshots h

  versions_sent : (d : MasterDoing) (handle version : ℕ) (targets : List VersionTarget) → Shows d → Shows (sends_versions d handle version targets)
  versions_sent d handle version [] h = h
  versions_sent d handle version (t ∷ rest) h = versions_sent (orders d t.server (version_order handle version t.base)) handle version rest h

  pub issued : (d : MasterDoing) (a : Asker) (own : ℕ) (own_row : ChunkRow) (handle : ℕ) (row : ChunkRow) (targets : List VersionTarget) → Shows d
      → Shows (issues_to d a own own_row handle row targets)
  issued d a own own_row handle row [] h = h
  issued d a own own_row handle row (t ∷ rest) h =
      logged_here Any (λ r is. tt) AreShown names d (log.Issue (handle_of handle) (version_of (suc row.issued))) (λ e. sends_issued e a handle (suc row.issued) (t ∷ rest)) tt
      (λ e g. versions_sent (with_attempt e handle (new_attempt e.master (suc row.issued) (t ∷ rest))) handle (suc row.issued) (t ∷ rest) g) h

  pub ticked : (d : MasterDoing) → Shows d → Shows (master_ticks d)
  ticked d h = ticks_here d.master.logged input.Tick AnyDoing AreShown (keeps d.master.logged input.Tick tick_is_none) d tt h

  pub took : (d : MasterDoing) (m : Message) (b : Body) → IsNoAsk b → Shows d → Shows (master_takes d m b)
  took d m (body.Ask number file w deadline lost) plain h = absurd plain
  took d m other plain h =
      let x : Message = record m { body = other } in
      let l : Logged = d.master.logged in
      takes_here l (input.Deliver x) AnyDoing AreShown (keeps l (input.Deliver x) (message_is_none x plain)) any_kept d x other refl refl refl tt h
