-- A lease that ends after the greatest moment is the one that the master granted last, and there is one at most.
use Rattle.std.proofs.Common.{◌≡◌, ℕ, suc, ◌≤◌, ◌<◌, [], Some, refl, sym, ap, ◌∙◌, inl, inr, arith}
use Rattle.std.specs.Prelude.{IsTrue}
use Rattle.std.specs.FinMap as table
use Rattle.std.proofs.lemmas.Bool.{cases_lt}
use Rattle.gfs_types.specs.declared.ids.Node.{Node}
use Rattle.gfs_types.specs.declared.ids.Node.TheVariants as node
use Rattle.protocol.specs.Tables.{element_at}
use Rattle.protocol.specs.Sending.{handle_of, version_of}
use Rattle.chunk_table.specs.ChunkTable.{ChunkRow}
use Rattle.protocol.specs.Logged.{Logged}
use Rattle.primary_order.specs.SerialOrder.{SerialOrder}
use Rattle.protocol.specs.Server.{ServerState}
use Rattle.laws_base.specs.Laws.{LastingLeasesAreOfTheMaster, LastingLeasesAreInTheLog, OneLeaseLasts}
use Rattle.laws_base.proofs.Steps.{removed_cases}
use Rattle.laws_base.proofs.ChunkRows.{rows_of}
use Rattle.laws_base.proofs.OrderNumbers.{state_of}
use Rattle.laws_base.proofs.RevokesNumbered.{Agrees, paired}
use Rattle.laws_base.proofs.LeasesTold.{IsToldLease, granting, server_numbers, versions_have_one_primary}
use Rattle.laws_base.proofs.RevokedLeases.{WasRevoked}
use Rattle.laws_base.proofs.LeaseEnds.{IsEndTold, IsVersionGranted, IsPast, HasEnd, HasVersion}
use Rattle.laws_base.proofs.LeasesTimed.{AreTimely}
use Rattle.laws_base.proofs.LeasesTimely.{IsOfTimes, times_kept}
use Rattle.laws_base.proofs.ScenesReached.{Scene, scene_of, scene_reached}

-- a lease that a server holds, and that ends after the greatest moment
module _ (x : Scene) (h : IsOfTimes x) (index handle : ℕ) (s : ServerState) (p : SerialOrder) (at : element_at x.servers index ≡ Some s) (is : table.get s.leases handle ≡ Some p) (lasts : x.greatest < p.held.until) where
  told_lease : IsToldLease x.sent (suc index) s.disk handle p.chunk p.held
  told_lease = (h.base.told index s at).told handle p is

  end_told : IsEndTold x.sent handle p.held.version p.held.until
  end_told = let told = told_lease.told in (told.1, (told.0, told.2), told.3)

  version_granted : IsVersionGranted x.sent handle p.held.version
  version_granted =
      let told : IsToldLease x.sent (suc index) s.disk handle p.chunk p.held = told_lease in
      (told.grant, (told.place, told.at), granting told.order handle p.held.version told.end_moment p.held.members (told.grant).body told.is)

  not_past : IsPast x.greatest x.sent handle p.held.version p.held.until → ⊥
  not_past past =
      elim (past) [
        | inl early ↦ omega (arith, early, lasts)
        | inr said ↦
            let told : IsToldLease x.sent (suc index) s.disk handle p.chunk p.held = told_lease in
            let was : WasRevoked x.sent x.servers handle p.held.version = h.base.revoked said.0 said.1 (handle_of handle) (version_of p.held.version) said.2 in
            let pair = paired x.sent x.master h.base.sent told.grant (was.word).revoke (told.place, told.at) (was.word).is_sent told.order was.order (handle_of handle) (version_of p.held.version) told.end_moment p.held.members told.is (was.word).is in
            let same : index ≡ was.index = server_numbers index was.index (sym told.receiver ∙ pair.0 ∙ (was.word).receiver) in
            (was.over s (ap (λ (k : ℕ). element_at x.servers k) (sym same) ∙ at)).none p is refl
      ]

  -- the primary of a row of this version
  primary_is : (l : Logged) (row : ChunkRow) → Agrees x.sent l → table.get (rows_of l) handle ≡ Some row → p.held.version ≡ row.granted → suc index ≡ row.primary
  primary_is l row agrees there same =
      let told : IsToldLease x.sent (suc index) s.disk handle p.chunk p.held = told_lease in
      let fits = (agrees.rows handle row there told.grant (told.place, told.at)).0 told.order (version_of p.held.version) told.end_moment p.held.members told.is in
      ap number_of (sym told.receiver ∙ fits.1 same)
    where
      number_of : Node → ℕ
      number_of (node.Server n) = n.0
      number_of other = 0

  pub of_the_master : IsTrue x.are_clocks_kept → IsTrue x.master.up → (row : ChunkRow) → table.get (rows_of x.master.logged) handle ≡ Some row
      → (p.held.version ≡ row.granted) × (suc index ≡ row.primary) × (p.held.until ≤ row.lease_end)
  of_the_master clocks up row there =
      let says : HasEnd x.greatest x.sent handle p.held.version p.held.until row.granted row.lease_end = ((h.timely clocks).up up handle p.held.version p.held.until end_told).1 row there in
      let low = says.0 in
      elim (says.1) [
        | inl past ↦ absurd (not_past past)
        | inr last ↦
            let high = last.0 in
            let same : p.held.version ≡ row.granted = omega (arith, low, high) in
            (same, primary_is x.master.logged row (h.base.sent.revokes.up up) there same, last.1)
      ]

  in_the_log : IsTrue x.are_clocks_kept → (row : ChunkRow) → table.get (rows_of (state_of x.master.disk)) handle ≡ Some row → (p.held.version ≡ row.granted) × (suc index ≡ row.primary)
  in_the_log clocks row there =
      let says : HasVersion x.greatest x.sent handle p.held.version p.held.until row.granted row.lease_end = ((h.timely clocks).found [] handle p.held.version p.held.until end_told).1 row there in
      let low = says.0 in
      elim (says.1) [
        | inl past ↦ absurd (not_past past)
        | inr high ↦
            let same : p.held.version ≡ row.granted = omega (arith, low, high) in
            (same, primary_is (state_of x.master.disk) row (h.base.sent.revokes.found []) there same)
      ]

pub lasting_leases_are_of_the_master : LastingLeasesAreOfTheMaster
lasting_leases_are_of_the_master config servers clients w r clocks up index handle p holds row there =
    of_the_master (scene_of w) (scene_reached IsOfTimes times_kept config servers clients w r) index handle holds.0 p holds.1 holds.2 holds.3 clocks up row there

pub lasting_leases_are_in_the_log : LastingLeasesAreInTheLog
lasting_leases_are_in_the_log config servers clients w r clocks index handle p holds row there =
    let all : Logged = state_of w.master.disk in
    in_the_log (scene_of w) (scene_reached IsOfTimes times_kept config servers clients w r) index handle holds.0 p holds.1 holds.2 holds.3 clocks row
    (removed_cases (rows_of all) (table.keys all.copies) handle row there)

pub one_lease_lasts : OneLeaseLasts
one_lease_lasts config servers clients w r clocks index other handle p q holds also =
    let h : IsOfTimes (scene_of w) = scene_reached IsOfTimes times_kept config servers clients w r in
    let timely : AreTimely w.sent w.observer.greatest w.config.lease_ms w.master = h.timely clocks in
    let x : Scene = scene_of w in
    elim (cases_lt p.held.version q.held.version) [
      | inl less ↦ absurd (not_past x h index handle holds.0 p holds.1 holds.2 holds.3
          (timely.newer handle p.held.version p.held.until q.held.version (end_told x h index handle holds.0 p holds.1 holds.2 holds.3) (version_granted x h other handle also.0 q also.1 also.2 also.3) less))
      | inr least ↦ elim (cases_lt q.held.version p.held.version) [
        | inl less ↦ absurd (not_past x h other handle also.0 q also.1 also.2 also.3
            (timely.newer handle q.held.version q.held.until p.held.version (end_told x h other handle also.0 q also.1 also.2 also.3) (version_granted x h index handle holds.0 p holds.1 holds.2 holds.3) less))
        | inr most ↦ versions_have_one_primary config servers clients w r index other holds.0 also.0 holds.1 also.1 handle p q holds.2 also.2 (omega (arith, least, most))
      ]
    ]
