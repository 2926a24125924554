-- What is said of leases' ends, of Revokes and of Revokeds, as the laws on leases have it.
use Rattle.std.proofs.Common.{ℕ, [], inl, inr, arith}
use Rattle.std.specs.FinMap as table
use Rattle.protocol.specs.Logged.{Logged}
use Rattle.protocol.specs.World.{WorldState}
use Rattle.laws_base.proofs.LeaseOrders.{says_grant, says_revoke}
use Rattle.laws_base.proofs.Steps.{removed_cases}
use Rattle.laws_base.proofs.ChunkRows.{rows_of}
use Rattle.laws_base.proofs.OrderNumbers.{state_of}
use Rattle.laws_base.proofs.LeaseEnds.{IsPast, HasEnd, HasVersion}
use Rattle.laws_base.proofs.LeasesTimed.{AreTimely}
use Rattle.laws_base.proofs.LeasesTimely.{IsOfTimes, times_kept}
use Rattle.laws_base.proofs.RevokesNumbered.{paired}
use Rattle.laws_base.proofs.ScenesReached.{scene_of, scene_reached}
use Rattle.laws_base.proofs.EndedLeases.{past_is_over}
use Rattle.laws_versions.specs.LeaseWords.{IsPastEnd, ToldEndsAreTheMasters, RevokesFollowTheirGrants, RevokedLeasesAreOver}

past_end : (w : WorldState) (handle version until : ℕ) → IsPast w.observer.greatest w.sent handle version until → IsPastEnd w handle version until
past_end w handle version until (inl early) = inl early
past_end w handle version until (inr said) = inr ((said.1).0, said.0, (said.1).1, said.2)

pub told_ends_are_the_masters : ToldEndsAreTheMasters
told_ends_are_the_masters config servers clients w r clocks place m at handle version until told =
    let h : IsOfTimes (scene_of w) = scene_reached IsOfTimes times_kept config servers clients w r in
    let timely : AreTimely w.sent w.observer.greatest w.config.lease_ms w.master = h.timely clocks in
    let all : Logged = state_of w.master.disk in
    record {
      bound = (timely.bound handle version until (m, (place, at), told)).0;
      numbered = (timely.bound handle version until (m, (place, at), told)).1;
      logged = λ row there.
          let says : HasVersion w.observer.greatest w.sent handle version until row.granted row.lease_end =
          (timely.found [] handle version until (m, (place, at), told)).1 row (removed_cases (rows_of all) (table.keys all.copies) handle row there) in
          let low = says.0 in
          (low, elim (says.1) [ inl past ↦ inl (past_end w handle version until past) | inr high ↦ inr (omega (arith, low, high)) ]);
      counted = λ up row there.
          let says : HasEnd w.observer.greatest w.sent handle version until row.granted row.lease_end = (timely.up up handle version until (m, (place, at), told)).1 row there in
          let low = says.0 in
          (low, elim (says.1) [ inl past ↦ inl (past_end w handle version until past) | inr last ↦ let high = last.0 in inr (omega (arith, low, high), last.1) ]);
    }

pub revokes_follow_their_grants : RevokesFollowTheirGrants
revokes_follow_their_grants config servers clients w r place other grant revoke at also order later handle version end_moment members granted revoked =
    let h : IsOfTimes (scene_of w) = scene_reached IsOfTimes times_kept config servers clients w r in
    paired w.sent w.master h.base.sent grant revoke (place, at) (other, also) order later handle version end_moment members (says_grant granted) (says_revoke revoked)

pub revoked_leases_are_over : RevokedLeasesAreOver
revoked_leases_are_over config servers clients w r handle version said =
    past_is_over w (scene_reached IsOfTimes times_kept config servers clients w r) handle version (λ until told. inr (said.1, (said.0, said.2), said.3))
