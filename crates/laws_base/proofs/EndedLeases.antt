-- A lease of which each end that was told is past is over.
use Rattle.std.proofs.Common.{◌≡◌, ℕ, suc, ◌≤◌, ◌<◌, ◌+◌, Bool, true, false, List, [], Option, Some, None, refl, sym, ap, ◌∙◌, inl, inr, arith}
use Rattle.std.specs.Prelude.{◌==◌, ◌&&◌, max, IsTrue}
use Rattle.std.specs.FinMap as table
use Rattle.std.proofs.lemmas.Bool.{and_parts, eqb-true, ltb-true}
use Rattle.std.proofs.Math.Nat.{le-max_left, le-max_right}
use Rattle.gfs_types.specs.declared.config.Config.{Config}
use Rattle.leases.specs.LeaseHeld.{counts_at}
use Rattle.laws_base.proofs.ServerSettings.{AreSet, settings_kept}
use Rattle.gfs_types.specs.declared.ids.OrderNo.{OrderNo}
use Rattle.gfs_types.specs.declared.ids.Moment.{Moment}
use Rattle.messages.specs.declared.message.Message.{Message}
use Rattle.protocol.specs.Tables.{element_at}
use Rattle.protocol.specs.Sending.{handle_of, version_of}
use Rattle.chunk_table.specs.ChunkTable.{ChunkRow}
use Rattle.protocol.specs.Logged.{Logged}
use Rattle.replica_store.specs.Replicas.{is_new_order}
use Rattle.primary_order.specs.SerialOrder.{SerialOrder}
use Rattle.protocol.specs.Server.{ServerState, counting_primary}
use Rattle.protocol.specs.ServerStep.{server_at}
use Rattle.protocol.specs.World.{WorldState}
use Rattle.laws_base.proofs.LeaseOrders.{SaysGrant, says_grant, named_grant, grant_ends}
use Rattle.laws_base.specs.Laws.{tells_end}
use Rattle.laws_base.proofs.Steps.{on_cond, removed_cases}
use Rattle.laws_base.proofs.ChunkRows.{rows_of}
use Rattle.laws_base.proofs.OrderNumbers.{state_of}
use Rattle.laws_base.proofs.RisingOrders.{then_later}
use Rattle.laws_base.proofs.MessagesSent.{IsSent}
use Rattle.laws_base.proofs.RevokesNumbered.{paired}
use Rattle.laws_base.proofs.LeasesTold.{IsToldLease, new_not_stale, server_numbers}
use Rattle.laws_base.proofs.RevokedLeases.{WasRevoked}
use Rattle.laws_base.proofs.LeaseEnds.{IsEndTold, WasSaidOver, IsPast, HasEnd, HasVersion}
use Rattle.laws_base.proofs.LeasesTimely.{IsOfTimes, times_kept}
use Rattle.laws_base.proofs.ScenesReached.{scene_of, now_passed, scene_reached}
use Rattle.laws_base.specs.Versions.{IsRefusedBy, IsLeaseOver, EndedLeasesAreOver, LeasesInTheLogAreOver, AttemptedChunksHaveNoLease, OverLeasesNumberNothing}

not_true : (b : Bool) → (b ≡ true → ⊥) → b ≡ false
not_true true h = absurd (h refl)
not_true false h = refl

module _ (w : WorldState) (h : IsOfTimes (scene_of w)) (handle version : ℕ) where
  -- where a server said that the lease is over, it has none and refuses the Grant
  refused : WasSaidOver w.sent handle version → (grant : Message) → IsSent w.sent grant → (order : OrderNo) (end_moment : Moment) (members : List ℕ)
      → SaysGrant order (handle_of handle) (version_of version) end_moment members grant.body → IsRefusedBy w.servers grant.receiver order
  refused said grant sent order end_moment members is index s at to =
      let was : WasRevoked w.sent w.servers handle version = h.base.revoked said.0 said.1 (handle_of handle) (version_of version) said.2 in
      let pair = paired w.sent w.master h.base.sent grant (was.word).revoke sent (was.word).is_sent order was.order (handle_of handle) (version_of version) end_moment members is (was.word).is in
      let same : index ≡ was.index = server_numbers index was.index (sym to ∙ pair.0 ∙ (was.word).receiver) in
      let over = was.over s (ap (λ (k : ℕ). element_at w.servers k) (sym same) ∙ at) in
      not_true (is_new_order s.disk order.epoch order.count) (λ new. new_not_stale s.disk order new
      (then_later (record { chunk = 0; block = 0; slots = 0; epoch = order.epoch; count = order.count; replicas = table.empty })
      (record { chunk = 0; block = 0; slots = 0; epoch = (was.order).epoch; count = (was.order).count; replicas = table.empty }) s.disk pair.1 over.taken))

  none_held : WasSaidOver w.sent handle version → (index : ℕ) (s : ServerState) (p : SerialOrder) → element_at w.servers index ≡ Some s → table.get s.leases handle ≡ Some p → p.held.version ≡ version → ⊥
  none_held said index s p at is same =
      let told : IsToldLease w.sent (suc index) s.disk handle p.chunk p.held = (h.base.told index s at).told handle p is in
      let was : WasRevoked w.sent w.servers handle version = h.base.revoked said.0 said.1 (handle_of handle) (version_of version) said.2 in
      let granted : SaysGrant told.order (handle_of handle) (version_of version) told.end_moment p.held.members (told.grant).body = named_grant told.is refl same in
      let pair = paired w.sent w.master h.base.sent told.grant (was.word).revoke (told.place, told.at) (was.word).is_sent told.order was.order (handle_of handle) (version_of version) told.end_moment p.held.members granted (was.word).is in
      let here : index ≡ was.index = server_numbers index was.index (sym told.receiver ∙ pair.0 ∙ (was.word).receiver) in
      (was.over s (ap (λ (k : ℕ). element_at w.servers k) (sym here) ∙ at)).none p is same

  pub past_is_over : ((until : ℕ) → IsEndTold w.sent handle version until → IsPast w.observer.greatest w.sent handle version until) → IsLeaseOver w handle version
  past_is_over past =
      record {
        held = λ index p holds same.
            let told : IsToldLease w.sent (suc index) (holds.0).disk handle p.chunk p.held = (h.base.told index holds.0 holds.1).told handle p holds.2 in
            let word = told.told in
            elim (past p.held.until (word.1, (word.0, word.2), ap (λ (v : ℕ). tells_end handle v p.held.until (word.1).body) (sym same) ∙ word.3)) [
              | inl early ↦ let lasts = holds.3 in omega (arith, early, lasts)
              | inr said ↦ none_held said index holds.0 p holds.1 holds.2 same
            ];
        comes = λ place grant order end_moment members at is.
            let says : SaysGrant order (handle_of handle) (version_of version) end_moment members grant.body = says_grant is in
            elim (past end_moment.0 (grant, (place, at), grant_ends says)) [
              | inl early ↦ inl early
              | inr said ↦ inr (refused said grant (place, at) order end_moment members says)
            ];
      }

  -- by a row of a master that is up
  pub over_by_row : IsTrue w.observer.are_clocks_kept → IsTrue w.master.up → (row : ChunkRow) → table.get (rows_of w.master.logged) handle ≡ Some row → (version ≡ row.granted → row.lease_end ≤ w.observer.greatest) → IsLeaseOver w handle version
  over_by_row clocks up row there ended =
      past_is_over (λ until told.
      let says : HasEnd w.observer.greatest w.sent handle version until row.granted row.lease_end = ((h.timely clocks).up up handle version until told).1 row there in
      let low = says.0 in
      elim (says.1) [
        | inl past ↦ past
        | inr last ↦ let high = last.0 in let early = ended (omega (arith, low, high)) in let within = last.1 in inl (omega (arith, early, within))
      ])

  pub over_by_log : IsTrue w.observer.are_clocks_kept → (row : ChunkRow) → table.get (rows_of (state_of w.master.disk)) handle ≡ Some row → (version ≡ row.granted → ⊥) → IsLeaseOver w handle version
  over_by_log clocks row there other =
      past_is_over (λ until told.
      let says : HasVersion w.observer.greatest w.sent handle version until row.granted row.lease_end = ((h.timely clocks).found [] handle version until told).1 row there in
      let low = says.0 in
      elim (says.1) [
        | inl past ↦ past
        | inr high ↦ absurd (other (omega (arith, low, high)))
      ])

pub ended_leases_are_over : EndedLeasesAreOver
ended_leases_are_over config servers clients w r clocks up handle row there version ended =
    over_by_row w (scene_reached IsOfTimes times_kept config servers clients w r) handle version clocks up row there ended

pub leases_in_the_log_are_over : LeasesInTheLogAreOver
leases_in_the_log_are_over config servers clients w r clocks handle row there version other =
    let all : Logged = state_of w.master.disk in
    over_by_log w (scene_reached IsOfTimes times_kept config servers clients w r) handle version clocks row (removed_cases (rows_of all) (table.keys all.copies) handle row there) other

pub attempted_chunks_have_no_lease : AttemptedChunksHaveNoLease
attempted_chunks_have_no_lease config servers clients w r clocks up handle a is row there =
    let h : IsOfTimes (scene_of w) = scene_reached IsOfTimes times_kept config servers clients w r in
    let ready = (h.base.sent.logged.up up).ready in
    let ended : row.lease_end ≤ w.master.now = ready.attempted handle a is row there in
    let early : w.master.now ≤ w.observer.greatest = h.clock.1 in
    ((ready.ahead.ahead handle a is).1 row there, λ version. over_by_row w h handle version clocks up row there (λ _. omega (arith, ended, early)))

pub over_leases_number_nothing : OverLeasesNumberNothing
over_leases_number_nothing config servers clients w r handle version over moment clocks index s at = by_lease (table.get s.leases handle) refl
  where
    by_lease : (o : Option SerialOrder) → table.get s.leases handle ≡ o → counting_primary (server_at s moment) version o ≡ None
    by_lease None is = refl
    by_lease (Some p) is =
        on_cond (λ (o : Option SerialOrder). o ≡ None) ((p.held.version == version) && counts_at s.config.skew_ms p.held (max s.now moment)) (Some p) None
        (λ both.
        let parts = and_parts (p.held.version == version) (counts_at s.config.skew_ms p.held (max s.now moment)) both in
        let skew = ap (λ (c : Config). c.skew_ms) (scene_reached AreSet settings_kept config servers clients w r index s at) in
        let late : max w.observer.greatest moment ≤ moment + w.config.skew_ms = (now_passed (scene_of w) moment).kept clocks in
        let given : moment ≤ max s.now moment = le-max_right s.now moment in
        let was : w.observer.greatest ≤ max w.observer.greatest moment = le-max_left w.observer.greatest moment in
        let before : max s.now moment + s.config.skew_ms < p.held.until = ltb-true (max s.now moment + s.config.skew_ms) p.held.until parts.1 in
        absurd (over.held index p (s, at, is, omega (arith, skew, late, given, was, before)) (eqb-true p.held.version version parts.0)))
        (λ _. refl)
