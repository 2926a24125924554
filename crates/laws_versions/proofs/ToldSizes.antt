-- With which size of the chunk a Forward goes, by the step in which it was sent.
use Rattle.std.proofs.Common.{◌≡◌, ℕ, suc, ◌<◌, List, length, Some, sym, ap, subst, ◌∙◌, arith}
use Rattle.std.specs.FinMap as table
use Rattle.gfs_types.specs.declared.config.Config.{Config}
use Rattle.gfs_types.specs.declared.ids.Handle.{Handle}
use Rattle.gfs_types.specs.declared.ids.Moment.{Moment}
use Rattle.gfs_types.specs.declared.ids.Node.{Node}
use Rattle.gfs_types.specs.declared.ids.OrderNo.{OrderNo}
use Rattle.gfs_types.specs.declared.ids.Version.{Version}
use Rattle.messages.specs.declared.event.NodeInput.{NodeInput}
use Rattle.messages.specs.declared.message.Message.{Message}
use Rattle.messages.specs.declared.message.Body.{Body}
use Rattle.messages.specs.declared.message.Body.TheVariants as body
use Rattle.primary_order.specs.SerialOrder.{SerialOrder}
use Rattle.protocol.specs.Tables.{element_at}
use Rattle.protocol.specs.Sending.{the_server, handle_of, version_of}
use Rattle.protocol.specs.Server.{ServerState, ServerDoing}
use Rattle.protocol.specs.ServerStep.{server_at, server_goes}
use Rattle.protocol.specs.World.{WorldState, IsReached}
use Rattle.laws_base.proofs.MembersRecorded.{place_below, all_at}
use Rattle.laws_base.proofs.ServerWalk.{Numbering, primary_there}
use Rattle.laws_base.proofs.LeasesTold.{leases_are_told}
use Rattle.laws_base.proofs.ServerSays.{IsSized, IsWord, IsSaid, step_says}
use Rattle.laws_versions.specs.ToldSizes.{ForwardsTellTheGrantedSize}
use Rattle.laws_versions.proofs.SaidByServers.{is_other, IsSaidNow, WasSaid, was_said}
use Rattle.laws_versions.proofs.AnsweredOrders.{server_id_is, placed_later}

-- a Grant of the version to this server, with this size of the chunk, was sent
abbrev IsGrantedWith : List Message → ℕ → Handle → Version → ℕ → Type 0
IsGrantedWith sent server handle version chunk =
    (place : ℕ) × (grant : Message) × (element_at sent place ≡ Some grant) × (grant.receiver ≡ the_server server)
    × (order : OrderNo) × (end_moment : Moment) × (members : List ℕ) × (grant.body ≡ body.Grant order handle version end_moment chunk members)

-- of a Forward: its version was granted with the size that it tells
abbrev TellsSize : List Message → ℕ → Body → Type 0
TellsSize sent server (body.Forward handle version serial id chunk change) = IsGrantedWith sent server handle version chunk
TellsSize sent server other = Unit {0}

-- a server says it, and of a Forward tells the size that was granted
abbrev Says : List Message → ℕ → Message → Type 0
Says sent server x = (x.sender ≡ the_server server) × TellsSize sent server x.body

module _ (config : Config) (servers clients : ℕ) (u : WorldState) (r : IsReached config servers clients u) (index : ℕ) (s : ServerState) (at : element_at u.servers index ≡ Some s) (moment : ℕ) (i : NodeInput) where
  -- the lease under which it was numbered is told
  sized : (handle : Handle) (version : Version) (chunk : ℕ) → IsSized (server_at s moment) i handle version chunk → IsGrantedWith u.sent (suc index) handle version chunk
  sized handle version chunk z =
      subst (λ (x : Handle). IsGrantedWith u.sent (suc index) x version chunk) (sym z.1)
      (subst (λ (v : Version). IsGrantedWith u.sent (suc index) (handle_of q) v chunk) (sym z.2)
      (subst (λ (k : ℕ). IsGrantedWith u.sent (suc index) (handle_of q) (version_of p.held.version) k) (sym z.3)
      (let g = (leases_are_told config servers clients u r index s at q p there).0 in (g.0, g.1, g.2, g.3, g.4, g.5, p.held.members, g.6))))
    where
      n : Numbering (server_at s moment) i
      n = z.0

      q : ℕ
      q = n.a.c.handle.0

      p : SerialOrder
      p = n.a.p

      there : table.get s.leases q ≡ Some p
      there = (primary_there (server_at s moment) n.a.c.version.0 (table.get s.leases q) p n.a.primary).0

  by_body : (d : ServerDoing) (receiver : Node) (b : Body) → IsSaid (server_at s moment) i d receiver b → TellsSize u.sent (suc index) b
  by_body d receiver (body.Forward handle version serial id chunk change) h = sized handle version chunk h.4
  by_body d receiver other h = tt

  pub word_tells : (m : Message) → IsWord (server_at s moment) i (server_goes s moment i) m → TellsSize u.sent (suc index) m.body
  word_tells m word = by_body (server_goes s moment i) m.receiver m.body word.1

pub forwards_tell_the_granted_size : ForwardsTellTheGrantedSize
forwards_tell_the_granted_size config servers clients w r place m at handle version serial id chunk c is =
    (g.0, (let low = below in let high = h.unsent in omega (arith, low, high)), g.1, placed_later h.before.sent w.sent g.0 g.1 h.grown g.2, g.3 ∙ sym one.0 ∙ n.same.0, g.4, g.5, g.6, g.7)
  where
    h : WasSaid config servers clients w place m
    h = was_said config servers clients w r place m at (ap is_other is)

    n : IsSaidNow h.before h.next m
    n = h.now

    one : Says h.before.sent (suc n.index) n.word
    one =
        all_at (Says h.before.sent (suc n.index)) _ n.said.0 n.word
        (step_says (Says h.before.sent (suc n.index)) n.server n.moment n.taken n.choice
        (λ x word. (
          word.0 ∙ ap the_server (server_id_is config servers clients h.before h.reached n.index n.server n.at),
          word_tells config servers clients h.before h.reached n.index n.server n.at n.moment n.taken x word,
        )))
        n.said.1

    g : IsGrantedWith h.before.sent (suc n.index) handle version chunk
    g = subst (λ (b : Body). TellsSize h.before.sent (suc n.index) b) (n.same.2 ∙ is) one.1

    below : g.0 < length h.before.sent
    below = place_below h.before.sent g.0 g.1 g.2
