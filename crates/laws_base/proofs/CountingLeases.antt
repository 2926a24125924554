-- A lease that counts for its primary as it begins a step has not ended at the master.
use Rattle.std.proofs.Common.{◌+◌, ◌≤◌, ◌<◌, ap, arith}
use Rattle.std.specs.Prelude.{max}
use Rattle.std.proofs.lemmas.Bool.{ltb-true}
use Rattle.std.proofs.Math.Nat.{le-max_right}
use Rattle.gfs_types.specs.declared.config.Config.{Config}
use Rattle.laws_base.specs.Laws.{CountingLeasesHaveNotEnded}
use Rattle.laws_base.proofs.LeasesTimely.{IsOfTimes, times_kept}
use Rattle.laws_base.proofs.LastingLeases.{of_the_master}
use Rattle.laws_base.proofs.ServerSettings.{AreSet, settings_kept}
use Rattle.laws_base.proofs.ScenesReached.{Scene, scene_of, passed, now_passed, scene_reached}

pub counting_leases_have_not_ended : CountingLeasesHaveNotEnded
counting_leases_have_not_ended config servers clients w r moment clocks up index handle s p at is counts row there =
    let x : Scene = scene_of w in
    let h : IsOfTimes (passed x moment) = times_kept.passes x moment (scene_reached IsOfTimes times_kept config servers clients w r) in
    let skew = ap (λ (c : Config). c.skew_ms) (scene_reached AreSet settings_kept config servers clients w r index s at) in
    let late : max w.observer.greatest moment ≤ moment + w.config.skew_ms = (now_passed x moment).kept clocks in
    let given : moment ≤ max s.now moment = le-max_right s.now moment in
    let before : max s.now moment + s.config.skew_ms < p.held.until = ltb-true (max s.now moment + s.config.skew_ms) p.held.until counts in
    let lasts : max w.observer.greatest moment < p.held.until = omega (arith, skew, late, given, before) in
    let row_is = of_the_master (passed x moment) h index handle s p at is lasts clocks up row there in
    let early : w.master.now ≤ max w.observer.greatest moment = h.clock.1 in
    let end = row_is.2 in
    (row_is.0, row_is.1, omega (arith, early, lasts, end))
