-- What orders and Images do with the settled entries that a replica has: a new replica misses none, since none lies between the versions of its order.
use Rattle.std.proofs.Common.{◌≡◌, ◌⊎◌, ℕ, suc, ◌≤◌, ◌<◌, true, [], ◌∷◌, Some, ap, subst, inl, inr, arith}
use Rattle.std.specs.Prelude.{IsTrue}
use Rattle.std.proofs.lemmas.Bool.{cases_lt, le-leb}
use Rattle.gfs_types.specs.declared.config.Config.{Config}
use Rattle.gfs_types.specs.declared.ids.OrderNo.{OrderNo}
use Rattle.messages.specs.declared.event.NodeInput.{NodeInput}
use Rattle.messages.specs.declared.event.NodeInput.TheVariants as input
use Rattle.messages.specs.declared.message.Body.{Body}
use Rattle.messages.specs.declared.message.Message.{Message}
use Rattle.replica_store.specs.Replicas.{is_new_order}
use Rattle.protocol.specs.Tables.{element_at}
use Rattle.protocol.specs.Sending.{the_server, order_number}
use Rattle.protocol.specs.Observer.{Placed, order_of}
use Rattle.protocol.specs.Server.{ServerState}
use Rattle.protocol.specs.World.{WorldState, IsReached}
use Rattle.laws_base.proofs.MembersRecorded.{kept_place}
use Rattle.laws_base.specs.Given.{version_given}
use Rattle.laws_versions.proofs.Images.{Carried, Carries}
use Rattle.laws_versions.specs.SkippedRounds.{IsNotSkipped}
use Rattle.laws_versions.proofs.UpTo.{same_element}
use Rattle.laws_versions.proofs.SkippedRounds.{orders_skip_no_entry, untaken_versions_have_no_entry, copies_have_their_sources_order}
use Rattle.laws_versions.specs.Selections.{HasSettled}

-- of a world
abbrev pub Settled : WorldState → Carried
Settled w handle version ps = HasSettled (order_of w.observer handle) version ps

module _ (config : Config) (servers clients : ℕ) (w : WorldState) (r : IsReached config servers clients w) (clocks : IsTrue w.observer.are_clocks_kept) (index : ℕ) (s : ServerState) (at : element_at w.servers index ≡ Some s) (i : NodeInput)
    (came : (m : Message) → i ≡ input.Deliver m → (place : ℕ) × (element_at w.sent place ≡ Some m) × (m.receiver ≡ the_server (suc index))) where
  module _ (m : Message) (taken : i ≡ input.Deliver m) (handle version : ℕ) (given : version_given m.body ≡ Some (handle, version)) (order : OrderNo) (order_is : order_number m.body ≡ Some order) (new : is_new_order s.disk order.epoch order.count ≡ true) where
    -- an entry of the chunk up to the version that a new order gives lies below it, and not between its versions
    between : (other : ℕ) (p : Placed) → element_at (order_of w.observer handle) other ≡ Some p → p.entry.round ≤ version → IsNotSkipped m.body p.entry.round × (p.entry.round < version)
    between other p there low =
        let sent = came m taken in (
          orders_skip_no_entry config servers clients w r clocks sent.0 m sent.1 handle version given other p there,
          elim (cases_lt p.entry.round version) [
            | inl less ↦ less
            | inr high ↦ absurd (untaken_versions_have_no_entry config servers clients w r sent.0 m sent.1 handle version given order order_is index s sent.2 at new other p there (omega (arith, low, high)))
          ],
        )

  pub settled_carried : Carries s i (Settled w) (Settled w)
  settled_carried =
      record {
        more = λ handle version ps p h place q there settled low. let e = h place q there settled low in (e.0, e.1, kept_place ps (p ∷ []) e.0 e.1 e.2, e.3, e.4);
        created = λ m taken order handle version is new place p there settled low.
            let both = between m taken handle.0 version.0 (ap version_given is) order (ap order_number is) new place p there low in
            let high : version.0 ≤ p.entry.round = subst (λ (b : Body). IsNotSkipped b p.entry.round) is both.0 in
            let less = both.1 in
            absurd (omega (arith, high, less));
        imaged = λ m taken handle version serial bytes is ps h. h;
        raised = λ m taken order handle version base is new ps h place p there settled low.
            let both = between m taken handle.0 version.0 (ap version_given is) order (ap order_number is) new place p there low in
            let apart : (p.entry.round ≤ base.0) ⊎ (version.0 ≤ p.entry.round) = subst (λ (b : Body). IsNotSkipped b p.entry.round) is both.0 in
            elim (apart) [
              | inl old ↦ h place p there settled old
              | inr high ↦ let less = both.1 in absurd (omega (arith, high, less))
            ];
        copied = λ m taken order handle from copy version is new ps h place p there settled low.
            let both = between m taken copy.0 version.0 (ap version_given is) order (ap order_number is) new place p there low in
            let apart : (p.entry.round ≤ from.0) ⊎ (version.0 ≤ p.entry.round) = subst (λ (b : Body). IsNotSkipped b p.entry.round) is both.0 in
            elim (apart) [
              | inl old ↦
                  let sent = came m taken in
                  let source = same_element from.0 (order_of w.observer copy.0) (order_of w.observer handle.0) (copies_have_their_sources_order config servers clients w r clocks sent.0 m sent.1 order handle from copy version is) place p there (le-leb p.entry.round from.0 old) in
                  h source.0 p source.1 settled old
              | inr high ↦ let less = both.1 in absurd (omega (arith, high, less))
            ];
      }
