-- What a server says in a step, with the cause of each Cloned: it waits for that clone.
use Rattle.std.proofs.Common.{◌≡◌, ℕ, Bool, true, false, Some, refl, sym, ap, ◌∙◌}
use Rattle.std.specs.FinMap as table
use Rattle.gfs_types.specs.declared.ids.Node.{Node}
use Rattle.messages.specs.declared.event.NodeInput.{NodeInput}
use Rattle.messages.specs.declared.message.Body.{Body}
use Rattle.messages.specs.declared.message.Body.TheVariants as body
use Rattle.messages.specs.declared.message.Message.{Message}
use Rattle.protocol.specs.Tables.{Table}
use Rattle.protocol.specs.Sending.{the_server, handle_of, version_of}
use Rattle.protocol.specs.Choice.{Choice}
use Rattle.protocol.specs.Server.{ServerState, ServerDoing}
use Rattle.protocol.specs.ServerStep.{server_at, server_goes, server_step}
use Rattle.laws_base.proofs.Entries.{AllOf}
use Rattle.laws_base.proofs.ServerSays.{IsSaid, step_says}

-- words of a server that need no cause here
abbrev pub is_plain : Body → Bool
is_plain (body.Cloned handle version) = false
is_plain other = true

module _ (server : ℕ) (clones : Table ℕ) (W : Body → Type 0) (plain : (b : Body) → is_plain b ≡ true → W b) (cloned : (handle version : ℕ) → table.get clones handle ≡ Some version → W (body.Cloned (handle_of handle) (version_of version))) where
  abbrev pub Said : Message → Type 0
  Said m = (m.sender ≡ the_server server) × W m.body

  -- what a server says in a step: a Cloned of a clone for which it waits, and words that need no cause here
  pub step_words : (s : ServerState) (moment : ℕ) (i : NodeInput) (choice : Choice) → s.id ≡ server → s.clones ≡ clones → AllOf Said (server_step s moment i choice).out.sent
  step_words s moment i choice id same = step_says Said s moment i choice (λ m word. (word.0 ∙ ap the_server id, by_body (server_goes s moment i) m.receiver m.body word.1))
    where
      by_body : (d : ServerDoing) (receiver : Node) (b : Body) → IsSaid (server_at s moment) i d receiver b → W b
      by_body d receiver (body.Cloned handle version) h = cloned handle.0 version.0 (ap (λ (t : Table ℕ). table.get t handle.0) (sym same) ∙ h)
      by_body d receiver other h = plain other refl
