-- What a server stores of versions is what orders to it said, since it is of orders that it took.
use Rattle.std.proofs.Common.{◌≡◌, ◌⊎◌, ℕ, suc, true, List, Some, sym, ap, subst, ◌∙◌, inl, inr}
use Rattle.std.specs.Prelude.{IsTrue}
use Rattle.std.specs.FinMap as table
use Rattle.gfs_types.specs.declared.config.Config.{Config}
use Rattle.gfs_types.specs.declared.ids.Node.{Node}
use Rattle.gfs_types.specs.declared.ids.Node.TheVariants as node
use Rattle.messages.specs.declared.message.Message.{Message}
use Rattle.protocol.specs.Tables.{Table, element_at, has_number}
use Rattle.protocol.specs.Sending.{the_server}
use Rattle.replica_store.specs.Replicas.{Replica, ServerDisk, replica_of}
use Rattle.protocol.specs.Server.{ServerState}
use Rattle.protocol.specs.World.{WorldState, IsReached}
use Rattle.laws_base.specs.Given.{version_given}
use Rattle.laws_versions.proofs.GivenVersions.{members_alone_are_given_a_version, attempts_are_given_to_their_servers}
use Rattle.laws_versions.specs.HeldVersions.{version_cloned, WasGiven, WasCloned, ReplicasWereOrdered, MembersAloneHoldAVersion, AttemptsAloneHoldTheirVersion}
use Rattle.laws_versions.specs.TakenOrders.{IsTaken}
use Rattle.laws_versions.proofs.TakenOrders.{servers_are_faithful, IsOrdered as IsOfTaken}

module _ (sent : List Message) (server : ℕ) where
  -- an order to this server said so
  abbrev pub IsOrdered : ℕ → ℕ → Type 0
  IsOrdered handle version = WasGiven sent server handle version ⊎ WasCloned sent server handle version

  abbrev pub AreOrdered : ServerDisk → Type 0
  AreOrdered d = (handle : ℕ) (r : Replica) → replica_of d handle ≡ Some r → IsOrdered handle r.version

  abbrev pub AreCloned : Table ℕ → Type 0
  AreCloned clones = (handle version : ℕ) → table.get clones handle ≡ Some version → WasCloned sent server handle version

  -- what a server has on its disk, and the clones for which it waits
  pub record IsFaithful (s : ServerState) : Type 0 where
    pub disk : AreOrdered s.disk
    pub clones : AreCloned s.clones

  -- an order that was taken said so
  was_given : (epoch count handle version : ℕ) → IsTaken version_given sent server epoch count handle version → WasGiven sent server handle version
  was_given epoch count handle version h = (h.place, h.message, h.at, h.receiver, h.is)

  was_cloned : (epoch count handle version : ℕ) → IsTaken version_cloned sent server epoch count handle version → WasCloned sent server handle version
  was_cloned epoch count handle version h = (h.place, h.message, h.at, h.receiver, h.is)

  was_ordered : (d : ServerDisk) (handle version : ℕ) → IsOfTaken sent server d handle version → IsOrdered handle version
  was_ordered d handle version (inl given) = inl (was_given d.epoch d.count handle version given)
  was_ordered d handle version (inr cloned) = inr (was_cloned d.epoch d.count handle version cloned)

abbrev pub AreTrue : List Message → List ServerState → Type 0
AreTrue sent servers = (index : ℕ) (s : ServerState) → element_at servers index ≡ Some s → IsFaithful sent (suc index) s

pub servers_are_true : (config : Config) (servers clients : ℕ) (w : WorldState) → IsReached config servers clients w → AreTrue w.sent w.servers
servers_are_true config servers clients w r index s at =
    let h = servers_are_faithful config servers clients w r index s at in
    record {
      disk = λ handle replica there. was_ordered w.sent (suc index) s.disk handle replica.version (h.disk handle replica there);
      clones = λ handle version there. was_cloned w.sent (suc index) s.disk.epoch s.disk.count handle version (h.clones handle version there);
    }

pub replicas_were_ordered : ReplicasWereOrdered
replicas_were_ordered config servers clients w r index s at handle replica there = (servers_are_true config servers clients w r index s at).disk handle replica there

number_of_same : (members : List ℕ) (n m : ℕ) → the_server (suc n) ≡ the_server m → IsTrue (has_number members m) → IsTrue (has_number members (suc n))
number_of_same members n m same has = subst (λ (k : ℕ). has_number members k ≡ true) (sym (ap number_in same)) has
  where
    number_in : Node → ℕ
    number_in (node.Server s) = s.0
    number_in other = 0

pub members_alone_hold_a_version : MembersAloneHoldAVersion
members_alone_hold_a_version config servers clients w r index s at handle replica there place grant order end_moment members sent is =
    elim (replicas_were_ordered config servers clients w r index s at handle replica there) [
      | inl g ↦
          let to = members_alone_are_given_a_version config servers clients w r handle replica.version place grant order end_moment members sent is g.0 g.1 g.2 g.4 in
          inl (number_of_same members index to.0 (sym g.3 ∙ to.1) to.2)
      | inr cloned ↦ inr cloned
    ]

pub attempts_alone_hold_their_version : AttemptsAloneHoldTheirVersion
attempts_alone_hold_their_version config servers clients w r up handle a tried index s at replica there same =
    elim (replicas_were_ordered config servers clients w r index s at handle replica there) [
      | inl g ↦
          let to = (attempts_are_given_to_their_servers config servers clients w r up handle a tried g.0 g.1 g.2).0 (g.4 ∙ ap (λ (v : ℕ). Some (handle, v)) same) in
          inl (number_of_same a.servers index to.0 (sym g.3 ∙ to.1) to.2)
      | inr cloned ↦ inr cloned
    ]
