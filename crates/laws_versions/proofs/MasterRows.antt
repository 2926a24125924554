-- What the rows of the master say beside its orders and Grants: handles were used, the last Grant went to the row's primary, and leases have ended where they have to.
use Rattle.std.proofs.Common.{◌≡◌, ℕ, ◌≤◌, ◌<◌, [], Option, Some, None, is_some, refl, sym, ap, subst, ◌∙◌, inl, inr, arith}
use Rattle.std.specs.Prelude.{◌==◌, IsTrue}
use Rattle.std.specs.FinMap as table
use Rattle.std.proofs.lemmas.Bool.{and_from, cases_lt}
use Rattle.gfs_types.specs.declared.config.Config.{Config}
use Rattle.chunk_table.specs.ChunkTable.{ChunkRow}
use Rattle.protocol.specs.Sending.{order_number}
use Rattle.protocol.specs.Logged.{Logged, Copy, replayed}
use Rattle.protocol.specs.World.{WorldState, IsReached}
use Rattle.laws_base.proofs.LeaseOrders.{says_grant}
use Rattle.laws_base.specs.Laws.{is_number, orders_under}
use Rattle.laws_base.proofs.Steps.{none_some, now_gone, removed_cases}
use Rattle.laws_base.proofs.Entries.{same_number}
use Rattle.laws_base.proofs.ChunkRows.{rows_of}
use Rattle.laws_base.proofs.GrantsOnce.{row_below}
use Rattle.laws_base.proofs.LeasesTold.{IsToldServer, AreTold, told_kept}
use Rattle.laws_base.proofs.LoggedParts.{Parts}
use Rattle.laws_base.proofs.NamesReached.{IsUpToLog, IsLogged, logged_here}
use Rattle.laws_base.proofs.OrderNumbers.{state_of}
use Rattle.laws_base.proofs.OrdersOnce.{AreNumbered, no_change}
use Rattle.laws_base.proofs.Owners.{references_of}
use Rattle.laws_base.proofs.RowsKept.{rows_kept}
use Rattle.laws_base.proofs.RowsLogged.{IsFoundRows, IsRowedLog}
use Rattle.laws_base.proofs.RowsSame.{IsOwned}
use Rattle.laws_base.proofs.ScenesReached.{scene_reached}
use Rattle.laws_base.proofs.SentReached.{sent_reached}
use Rattle.laws_base.proofs.WaitsKept.{IsOfWaits, waits_kept}
use Rattle.laws_base.proofs.SentGrants.{counted_one}
use Rattle.laws_versions.proofs.GivenVersions.{given_reached}
use Rattle.laws_versions.proofs.ClonedVersions.{clones_shut, copied_sent}
use Rattle.laws_versions.proofs.CopiedSources.{free_reached}
use Rattle.laws_versions.proofs.UsedGrants.{lease_used}
use Rattle.laws_versions.specs.MasterRows.{RowsAreOfUsedHandles, OrdersAreOfUsedHandles, GrantsAgreeWithRows, AttemptedLeasesHaveEnded, CopiedLeasesHaveEnded, OrderNumbersWereUsed, HeldLeasesHaveUsedGrants}

module _ (config : Config) (servers clients : ℕ) (w : WorldState) (r : IsReached config servers clients w) where
  logged : IsLogged IsFoundRows IsRowedLog rows_kept w.master
  logged = (logged_here IsFoundRows IsRowedLog rows_kept config servers clients w r).1

  base : IsOfWaits w.sent w.master
  base = sent_reached IsOfWaits waits_kept config servers clients w r

  -- a master that is up has used the handles that its log has used
  same_next : (up : IsTrue w.master.up) → w.master.logged.next_handle ≡ (state_of w.master.disk).next_handle
  same_next up = ap (λ (p : Parts). p.next_handle) (logged.up up).same

  -- a row of the log that no copy has is owned
  owned_below : (handle : ℕ) (row : ChunkRow) → table.get (rows_of (state_of w.master.disk)) handle ≡ Some row → table.get (state_of w.master.disk).copies handle ≡ None → handle < (state_of w.master.disk).next_handle
  owned_below handle row at none =
      let found : IsFoundRows (state_of w.master.disk) = (logged.found []).1 in
      let owned : 1 ≤ row.references = subst IsOwned at (found.owned handle none) in
      let count = ap references_of at in
      let stands = found.base.counted handle in
      found.base.below handle (omega (arith, owned, count, stands))

  log_below : (handle : ℕ) (row : ChunkRow) (o : Option Copy) → table.get (state_of w.master.disk).copies handle ≡ o
      → table.get (rows_of (replayed w.master.disk)) handle ≡ Some row → handle < (state_of w.master.disk).next_handle
  log_below handle row None none at = owned_below handle row (removed_cases (rows_of (state_of w.master.disk)) (table.keys (state_of w.master.disk).copies) handle row at) none
  log_below handle row (Some c) copied at =
      none_some row (sym (now_gone (rows_of (state_of w.master.disk)) (table.keys (state_of w.master.disk).copies) handle (sym (table.contains_key-keys (state_of w.master.disk).copies handle) ∙ ap is_some copied)) ∙ at)

pub rows_are_of_used_handles : RowsAreOfUsedHandles
rows_are_of_used_handles config servers clients w r handle row (inl at) =
    let u : IsUpToLog IsFoundRows IsRowedLog rows_kept w.master = (logged config servers clients w r).up at.0 in
    let low = row_below w.master.logged (state_of w.master.disk) u.same u.tied handle row at.1 in
    let next = same_next config servers clients w r at.0 in
    (omega (arith, low, next), λ up. low)
rows_are_of_used_handles config servers clients w r handle row (inr at) =
    let low = log_below config servers clients w r handle row (table.get (state_of w.master.disk).copies handle) refl at in
    (low, λ up. let next = same_next config servers clients w r up in omega (arith, low, next))

pub orders_are_of_used_handles : OrdersAreOfUsedHandles
orders_are_of_used_handles config servers clients w r place m at handle version (inl given) =
    let passed = (given_reached handle version config servers clients w r).words m (place, at) (inl given) in
    ((passed.0 []).0, λ up. (passed.1 up).0)
orders_are_of_used_handles config servers clients w r place m at handle version (inr copied) =
    let shut = clones_shut config servers clients w r handle version (copied_sent config servers clients w r m (place, at) handle version copied) in
    ((shut.found []).0, λ up. (shut.up up).0.0)

pub grants_agree_with_rows : GrantsAgreeWithRows
grants_agree_with_rows config servers clients w r handle row (inl there) place grant order version end_moment members at is =
    (((base config servers clients w r).base.revokes.up there.0).rows handle row there.1 grant (place, at)).0 order version end_moment members (says_grant is)
grants_agree_with_rows config servers clients w r handle row (inr there) place grant order version end_moment members at is =
    let all : Logged = state_of w.master.disk in
    (((base config servers clients w r).base.revokes.found []).rows handle row (removed_cases (rows_of all) (table.keys all.copies) handle row there) grant (place, at)).0 order version end_moment members (says_grant is)

pub attempted_leases_have_ended : AttemptedLeasesHaveEnded
attempted_leases_have_ended config servers clients w r up handle row at =
    let u : IsUpToLog IsFoundRows IsRowedLog rows_kept w.master = (logged config servers clients w r).up up in
    (λ a there. u.ready.attempted handle a there row at, λ c there. u.ready.copied handle c there row at)

pub copied_leases_have_ended : CopiedLeasesHaveEnded
copied_leases_have_ended config servers clients w r clocks up copy c there row at = (free_reached config servers clients w r clocks up copy c there).1 row at

pub order_numbers_were_used : OrderNumbersWereUsed
order_numbers_were_used config servers clients w r place m order at is = (
  numbered.bounded order.epoch order.count some [],
  λ up.
      let low = no_change w.sent w.master numbered up order.epoch order.count some in
      elim (cases_lt order.epoch w.master.logged.epoch) [
        | inl less ↦ inl less
        | inr most ↦ let same : order.epoch ≡ w.master.logged.epoch = omega (arith, low, most) in inr (same, numbered.counted up order.epoch order.count some same)
      ],
)
  where
    numbered : AreNumbered w.sent w.master
    numbered = (base config servers clients w r).base.numbered

    some : 1 ≤ orders_under order.epoch order.count w.sent
    some =
        counted_one (λ x. is_number order.epoch order.count (order_number x.body)) w.sent m place at
        (ap (is_number order.epoch order.count) is ∙ and_from (order.epoch == order.epoch) (order.count == order.count) (same_number order.epoch) (same_number order.count))

pub held_leases_have_used_grants : HeldLeasesHaveUsedGrants
held_leases_have_used_grants config servers clients w r index s at handle p there steps = lease_used config servers clients w r index s at handle p.held.version p refl (told.told handle p there) steps
  where
    told : IsToldServer w.sent index s
    told = scene_reached AreTold told_kept config servers clients w r index s at
