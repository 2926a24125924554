-- What a server may number was asked for in a call of its client, in the chunk at whose place its round is open.
use Rattle.std.proofs.Common.{◌≡◌, ℕ, ◌≤◌, List, Some, refl, sym, ap, subst, ◌∙◌, arith}
use Rattle.std.specs.Prelude.{IsTrue}
use Rattle.std.specs.FinMap as table
use Rattle.gfs_types.specs.declared.config.Config.{Config}
use Rattle.gfs_types.specs.declared.ids.DataId.{DataId}
use Rattle.gfs_types.specs.declared.ids.Handle.{Handle}
use Rattle.gfs_types.specs.declared.ids.Version.{Version}
use Rattle.messages.specs.declared.event.Event.{Event}
use Rattle.messages.specs.declared.event.NodeInput.{NodeInput}
use Rattle.messages.specs.declared.event.NodeInput.TheVariants as input
use Rattle.messages.specs.declared.message.Body.{Body}
use Rattle.messages.specs.declared.message.Body.TheVariants as body
use Rattle.messages.specs.declared.message.Message.{Message}
use Rattle.protocol.specs.Sending.{the_client}
use Rattle.protocol.specs.Choice.{Choice}
use Rattle.protocol.specs.Observer.{observed_moment}
use Rattle.protocol.specs.Server.{ServerState}
use Rattle.protocol.specs.ServerStep.{server_at}
use Rattle.protocol.specs.World.{WorldState, new_world, after_events, IsReached}
use Rattle.laws_base.specs.Laws.{is_grant, grants_of}
use Rattle.laws_base.specs.Entries.{IsAskedFor}
use Rattle.laws_base.specs.Deadlines.{Numbers}
use Rattle.laws_base.proofs.KnownNumbers.{primary_there}
use Rattle.laws_base.proofs.RisingRounds.{leased_granted}
use Rattle.laws_base.proofs.SentGrants.{counted_one}
use Rattle.laws_base.proofs.Stemming.{numbered_mutations_were_asked_for}
use Rattle.laws_base.proofs.UsedNumbers.{one_target}
use Rattle.laws_versions.specs.ReplacedChunks.{IsToldAt}
use Rattle.laws_machine.specs.AnsweredWrites.{IsToldChunk}
use Rattle.laws_machine.proofs.GrantedRounds.{granted_from_one}
use Rattle.laws_machine.proofs.OpenEntries.{config_stays}
use Rattle.laws_machine.proofs.ToldOnce.{handles_are_told_at_one_index}
use Rattle.protocol_invariant.specs.Actions.{Spot}
use Rattle.laws_machine.specs.ChunksAlike.{ChunkSides, IsRoundOpen}
use Rattle.laws_machine.specs.ChunksBeside.{AreChunksBeside}
use Rattle.laws_machine.proofs.ToldRounds.{counting_rounds_are_open_where_told}
use Rattle.laws_machine.specs.SentRequests.{IsAttemptOf, IsRequestOf, AreRequestsOf, IsTryAt}

-- a chunk that was told, in a round that was granted
pub told_at : (sent : List Message) (client file index handle round : ℕ) (t : IsToldChunk sent client file index handle round) → 1 ≤ round → IsToldAt sent client file t.location (t.told.sent_is).0
told_at sent client file index handle round t low =
    record {
      number = t.told.number;
      asked = t.told.asked;
      told = t.told.told;
      sent_is = (t.told.sent_is).1;
      receiver_is = t.told.receiver_is;
      body_is = t.told.body_is;
      granted = let same = t.round_is in omega (arith, same, low);
    }

module _ (config : Config) (servers clients : ℕ) (steps : List (Event × Choice)) (clocks : IsTrue (after_events (new_world config servers clients) steps).observer.are_clocks_kept)
    (k : ChunkSides) (chunks : AreChunksBeside config (after_events (new_world config servers clients) steps) k) (requests : AreRequestsOf (new_world config servers clients) steps k.machine) where
  abbrev Start : WorldState
  Start = new_world config servers clients

  abbrev W : WorldState
  W = after_events (new_world config servers clients) steps

  reached : IsReached config servers clients W
  reached = (steps, refl)

  same_config : W.config ≡ config
  same_config = config_stays config Start steps refl

  -- two tries of one number are at one index
  pub one_index : (client made other i j x y : ℕ) → IsTryAt W client made i x → IsTryAt W client other j y → x ≡ y → i ≡ j
  one_index client made other i j x y t u same =
      sym t.told.index_is ∙ handles_are_told_at_one_index config servers clients W reached clocks client client t.file u.file t.told.location u.told.location (t.told.told.sent_is).0 (u.told.told.sent_is).0
      (told_at W.sent client t.file i t.named.0 t.version.0 t.told t.granted) (told_at W.sent client u.file j u.named.0 u.version.0 u.told u.granted)
      (t.told.handle_is ∙ ap (λ (h : Handle). h.0) one.0 ∙ sym u.told.handle_is) ∙ u.told.index_is
    where
      same_id : u.id ≡ t.id
      same_id = λ n. record { client = record { 0 = (u.own ∙ sym t.own) n }; seq = (u.id_is ∙ sym same ∙ sym t.id_is) n }

      one : (t.named ≡ u.named) × (t.version ≡ u.version)
      one =
          one_target config servers clients W reached t.id t.named u.named t.version u.version
          (record { asked = t.asked; aim = t.aim; deadline = t.deadline; sent_is = t.sent_is; sender_is = t.sender_is ∙ ap (λ (c : ℕ). the_client c) (sym t.own); body_is = t.body_is })
          (record { asked = u.asked; aim = u.aim; deadline = u.deadline; sent_is = u.sent_is; sender_is = u.sender_is ∙ ap (λ (c : ℕ). the_client c) (sym t.own); body_is = subst (λ (d : DataId). u.asked.body ≡ body.Mutate d u.named u.version u.aim u.deadline) same_id u.body_is })

  module _ (index moment : ℕ) (s : ServerState) (i : NodeInput) (choice : Choice) (handle : Handle) (version : Version) (id : DataId) (n : Numbers (after_events (new_world config servers clients) steps) index moment s i choice handle version id)
      (counts : IsTrue (observed_moment (after_events (new_world config servers clients) steps).config.skew_ms (after_events (new_world config servers clients) steps).observer moment).are_clocks_kept) where
    pub counted : IsTrue (observed_moment config.skew_ms W.observer moment).are_clocks_kept
    counted = subst (λ (c : Config). IsTrue (observed_moment c.skew_ms W.observer moment).are_clocks_kept) same_config counts

    pub law : (m : Message) × (i ≡ input.Deliver m) × IsAskedFor (server_at s moment) W.sent m handle version n.serial id n.placed
    law = numbered_mutations_were_asked_for config servers clients W reached index s n.is moment i choice n.came n.place handle version n.serial id n.placed n.seen

    pub asked : IsAskedFor (server_at s moment) W.sent law.0 handle version n.serial id n.placed
    asked = law.2

    pub attempt : IsAttemptOf Start steps k.machine id.client.0 id handle version asked.aim
    attempt = subst (λ (b : Body). IsRequestOf Start steps k.machine id.client.0 b) asked.body_is (requests id.client.0 (n.came law.0 law.1).0 law.0 (n.came law.0 law.1).1 asked.sender_is)

    -- the place for which the chunk was told

    lease_there : (table.get s.leases handle.0 ≡ Some asked.lease) × (asked.lease.held.version ≡ version.0)
    lease_there = primary_there (server_at s moment) version.0 (table.get s.leases handle.0) asked.lease asked.lease_is

    pub granted : 1 ≤ version.0
    granted =
        let grant = leased_granted config servers clients W reached index s n.is handle.0 asked.lease lease_there.0 in
        granted_from_one config servers clients W reached handle.0 version.0
        (subst (λ (v : ℕ). 1 ≤ grants_of handle.0 v W.sent) lease_there.1 (counted_one (λ m. is_grant handle.0 asked.lease.held.version m.body) W.sent grant.0 (grant.1).0 (grant.1).1 grant.2))

    pub spot_is : (at : Spot) → IsRoundOpen k handle.0 version.0 at → at ≡ record { file = attempt.file; index = attempt.place }
    spot_is at was_open =
        (counting_rounds_are_open_where_told config servers clients W reached clocks k chunks.log chunks.alike chunks.told moment counts index s n.is handle.0 version.0 asked.lease asked.lease_is
        id.client.0 attempt.file attempt.told.location (attempt.told.told.sent_is).0 (told_at W.sent id.client.0 attempt.file attempt.place handle.0 version.0 attempt.told granted) attempt.told.handle_is attempt.told.round_is).1 at was_open
        ∙ ap (λ (q : ℕ). record { file = attempt.file; index = q }) attempt.told.index_is
