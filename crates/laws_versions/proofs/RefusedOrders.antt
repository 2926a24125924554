-- Who has a version refuses the one order that gave it: that order was taken, or a Clone that was numbered after it.
use Rattle.std.proofs.Common.{◌≡◌, ℕ, suc, sym, ap, subst, ◌∙◌, inl, inr, arith}
use Rattle.gfs_types.specs.declared.config.Config.{Config}
use Rattle.gfs_types.specs.declared.ids.OrderNo.{OrderNo}
use Rattle.messages.specs.declared.message.Message.{Message}
use Rattle.protocol.specs.Tables.{element_at}
use Rattle.protocol.specs.Sending.{handle_of, version_of, order_number}
use Rattle.protocol.specs.Server.{ServerState}
use Rattle.protocol.specs.World.{WorldState, IsReached}
use Rattle.laws_base.proofs.Steps.{same_some}
use Rattle.laws_base.proofs.MembersRecorded.{members_recorded_what_is_granted}
use Rattle.laws_base.proofs.LeasesTold.{IsStaleAt}
use Rattle.laws_base.specs.Given.{version_given}
use Rattle.laws_versions.proofs.GivenVersions.{members_alone_are_given_a_version}
use Rattle.laws_versions.specs.HeldVersions.{version_cloned}
use Rattle.laws_versions.proofs.AnsweredOrders.{stale_refuses}
use Rattle.laws_versions.specs.TakenOrders.{IsTaken, WasTaken}
use Rattle.laws_versions.proofs.TakenOrders.{replicas_are_of_taken_orders, pending_clones_are_of_taken_orders}
use Rattle.laws_versions.proofs.ToldOrders.{told_versions_are_of_taken_orders}
use Rattle.laws_versions.specs.GivenOnce.{IsEarlier, RefusesItsOrder, HeldVersionsRefuseTheirOrder, PendingClonesRefuseTheirOrder, ToldVersionsRefuseTheirOrder, GrantedOrdersAreRefused}
use Rattle.laws_versions.proofs.GivenOnce.{versions_are_given_once, clones_follow_their_versions}

-- an earlier order is refused too
earlier_stale : (s : ServerState) (first later : OrderNo) → IsEarlier first later → IsStaleAt s.disk later → IsStaleAt s.disk first
earlier_stale s first later earlier stale =
    elim (earlier) [
      | inl less ↦ elim (stale) [ inl low ↦ inl (omega (arith, less, low)) | inr same ↦ let is = same.0 in inl (omega (arith, less, is)) ]
      | inr both ↦
          let equal = both.0 in
          let less = both.1 in
          elim (stale) [ inl low ↦ inl (omega (arith, equal, low)) | inr same ↦ let is = same.0 in let most = same.1 in inr (equal ∙ is, omega (arith, less, most)) ]
    ]

module _ (config : Config) (servers clients : ℕ) (w : WorldState) (r : IsReached config servers clients w) (index : ℕ) (s : ServerState) (handle version : ℕ) where
  given_refused : IsTaken version_given w.sent (suc index) s.disk.epoch s.disk.count handle version → RefusesItsOrder w.sent index s handle version
  given_refused g place m at to is order number =
      let same : place ≡ g.place = versions_are_given_once config servers clients w r place g.place m g.message at g.at (suc index) handle version to g.receiver is g.is in
      let one : m ≡ g.message = same_some m g.message (sym at ∙ ap (λ (k : ℕ). element_at w.sent k) same ∙ g.at) in
      let is_it : order ≡ g.order = same_some order g.order (sym number ∙ ap (λ (x : Message). order_number x.body) one ∙ g.number) in
      stale_refuses s order (subst (λ (o : OrderNo). IsStaleAt s.disk o) (sym is_it) g.taken)

  cloned_refused : IsTaken version_cloned w.sent (suc index) s.disk.epoch s.disk.count handle version → RefusesItsOrder w.sent index s handle version
  cloned_refused g place m at to is order number =
      let follows = clones_follow_their_versions config servers clients w r place g.place m g.message at g.at handle version is g.is order g.order number g.number in
      stale_refuses s order (earlier_stale s order g.order follows.1 g.taken)

  pub taken_refused : WasTaken w.sent (suc index) s handle version → RefusesItsOrder w.sent index s handle version
  taken_refused (inl given) = given_refused given
  taken_refused (inr cloned) = cloned_refused cloned

pub held_versions_refuse_their_order : HeldVersionsRefuseTheirOrder
held_versions_refuse_their_order config servers clients w r index s at handle replica there = taken_refused config servers clients w r index s handle replica.version (replicas_are_of_taken_orders config servers clients w r index s at handle replica there)

pub pending_clones_refuse_their_order : PendingClonesRefuseTheirOrder
pending_clones_refuse_their_order config servers clients w r index s at handle version there =
    cloned_refused config servers clients w r index s handle version (pending_clones_are_of_taken_orders config servers clients w r index s at handle version there)

pub told_versions_refuse_their_order : ToldVersionsRefuseTheirOrder
told_versions_refuse_their_order config servers clients w r place word at handle version tells index s from there =
    taken_refused config servers clients w r index s handle version (told_versions_are_of_taken_orders config servers clients w r place word at handle version tells index s from there)

-- each server to which a granted version was sent is a member, and told that it has the version
pub granted_orders_are_refused : GrantedOrdersAreRefused
granted_orders_are_refused config servers clients w r handle version place grant order end_moment members sent is index s there other m at to given number number_is =
    let member = members_alone_are_given_a_version config servers clients w r handle version place grant order end_moment members sent is other m at given in
    let told = members_recorded_what_is_granted config servers clients w r place grant order (handle_of handle) (version_of version) end_moment members sent is member.0 member.2 in
    told_versions_refuse_their_order config servers clients w r told.0 told.2 told.3 handle version told.5 index s (told.4 ∙ sym member.1 ∙ to) there other m at to given number number_is
