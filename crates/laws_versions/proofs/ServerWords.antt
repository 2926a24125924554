-- What a server says in a step is true, where what was sent to it is: each version that it names was ordered.
use Rattle.std.proofs.Common.{◌≡◌, ℕ, List, [], ◌∷◌, refl, sym, ap, subst, ◌∙◌, inl, inr}
use Rattle.std.specs.Prelude.{map}
use Rattle.std.specs.FinMap as table
use Rattle.gfs_types.specs.declared.ids.Node.{Node}
use Rattle.gfs_types.specs.declared.ids.Handle.{Handle}
use Rattle.gfs_types.specs.declared.ids.Version.{Version}
use Rattle.messages.specs.declared.event.NodeInput.{NodeInput}
use Rattle.messages.specs.declared.message.Body.{Body}
use Rattle.messages.specs.declared.message.Body.TheVariants as body
use Rattle.messages.specs.declared.message.Message.{Message}
use Rattle.protocol.specs.Sending.{the_server}
use Rattle.protocol.specs.Choice.{Choice, Ending, Goes, Lost, Stops}
use Rattle.replica_store.specs.Replicas.{Replica}
use Rattle.protocol.specs.Server.{ServerState, ServerDoing}
use Rattle.protocol.specs.ServerStep.{replica_line, server_at, server_goes, server_step, server_restarts}
use Rattle.laws_base.proofs.Entries.{AllOf}
use Rattle.laws_base.proofs.MessagesSent.{IsSent}
use Rattle.laws_versions.specs.HeldVersions.{version_cloned}
use Rattle.laws_base.proofs.ServerSays.{IsSaid, step_says as says_each}
use Rattle.laws_versions.proofs.HeldVersions.{IsFaithful}
use Rattle.laws_versions.proofs.TakenOrders.{IsSentHere}
use Rattle.laws_versions.specs.ToldVersions.{WasOrdered}
use Rattle.laws_versions.proofs.TrueWords.{IsCloned, AreLinesOrdered, IsTrueWord, IsTrueFrom, IsTrueMessage, copy_ask_true, all_entries}

module _ (sent : List Message) (server : ℕ) where
  -- the step on a message that was sent to this server

  module _ (words : (m : Message) → IsSent sent m → IsTrueMessage sent m) where
    lines_true : (es : List (ℕ × Replica)) → AllOf (λ e. WasOrdered sent server e.0 e.1.version) es → AreLinesOrdered sent server (map replica_line es)
    lines_true [] h = tt
    lines_true (e ∷ es) h = (h.0, lines_true es h.1)

    -- each word with its cause is true
    by_body : (s : ServerState) (i : NodeInput) (d : ServerDoing) (receiver : Node) (b : Body) → IsSentHere sent server i → IsFaithful sent server s
        → IsSaid s i d receiver b → IsTrueWord sent server b
    by_body s i d receiver (body.Recorded handle version) is faithful h =
        let here = subst (IsSentHere sent server) h.0.came is in
        inl (here.0, h.0.m, here.1, here.2, h.1)
    by_body s i d receiver (body.Cloned handle version) is faithful h = inr (faithful.clones handle.0 version.0 h)
    by_body s i d receiver (body.Report replicas leases) is faithful h =
        subst (IsTrueWord sent server) (sym h.1) (lines_true (table.entries s.disk.replicas) (all_entries (λ handle r. WasOrdered sent server handle r.version) s.disk.replicas faithful.disk))
    by_body s i d receiver (body.CopyAsk handle version) is faithful h =
        let c = h.0 in
        let here = subst (IsSentHere sent server) c.came is in
        let cloned : IsCloned sent c.handle.0 c.version.0 = (server, (here.0, c.m, here.1, here.2, ap version_cloned c.is)) in
        subst (λ (q : Handle). IsCloned sent q.0 version.0) (sym h.1) (subst (λ (v : Version). IsCloned sent c.handle.0 v.0) (sym h.2) cloned)
    by_body s i d receiver (body.Image handle version serial bytes) is faithful h =
        let c = h.0 in
        let here = subst (IsSentHere sent server) c.came is in
        let cloned : IsCloned sent c.handle.0 c.version.0 = copy_ask_true sent c.m.sender c.handle c.version (subst (λ (b : Body). IsTrueFrom sent c.m.sender b) c.is (words c.m (here.0, here.1))) in
        subst (λ (q : Handle). IsCloned sent q.0 version.0) (sym h.2) (subst (λ (v : ℕ). IsCloned sent c.handle.0 v) (sym (ap (λ (v : Version). v.0) h.3 ∙ h.7)) cloned)
    by_body s i d receiver other is faithful h = tt

    pub step_says : (s : ServerState) (moment : ℕ) (i : NodeInput) (choice : Choice) → IsSentHere sent server i → IsFaithful sent server s → s.id ≡ server
        → AllOf (IsTrueMessage sent) (server_step s moment i choice).out.sent
    step_says s moment i choice is h id =
        says_each (IsTrueMessage sent) s moment i choice (λ m word.
        subst (λ (n : Node). IsTrueFrom sent n m.body) (sym (word.0 ∙ ap the_server id))
        (by_body (server_at s moment) i (server_goes s moment i) m.receiver m.body is (record { disk = h.disk; clones = h.clones }) word.1))

-- a server that starts again says nothing
pub restart_says : (s : ServerState) (moment : ℕ) (choice : Choice) (e : Ending) → (server_restarts s moment choice e).out.sent ≡ []
restart_says s moment choice Goes = refl
restart_says s moment choice Lost = refl
restart_says s moment choice (Stops made) = refl
