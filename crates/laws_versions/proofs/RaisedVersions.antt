-- Why a SetVersion skips no granted version: as it is sent, nothing above its base was granted, its number is the next one, and no other is attempted. So those between are shut.
use Rattle.std.proofs.Common.{◌≡◌, ◌⊎◌, ℕ, zero, suc, ◌≤◌, ◌<◌, Bool, true, false, List, [], ◌∷◌, ◌++◌, length, Option, Some, None, refl, sym, ap, subst, ◌∙◌, inl, inr, arith}
use Rattle.std.specs.Prelude.{nat_le, IsTrue}
use Rattle.std.specs.FinMap as table
use Rattle.std.proofs.lemmas.Bool.{leb-true, leb-false}
use Rattle.gfs_types.specs.declared.config.Config.{Config}
use Rattle.gfs_types.specs.declared.ids.OrderNo.{OrderNo}
use Rattle.messages.specs.declared.event.Event.{Event}
use Rattle.messages.specs.declared.event.NodeInput.{NodeInput}
use Rattle.messages.specs.declared.message.Message.{Message}
use Rattle.messages.specs.declared.message.Body.{Body}
use Rattle.messages.specs.declared.message.Body.TheVariants as body
use Rattle.chunk_table.specs.ChunkTable.{ChunkRow, chunk_of}
use Rattle.protocol.specs.Tables.{element_at}
use Rattle.protocol.specs.Sending.{handle_of, version_of, order_number}
use Rattle.protocol.specs.Choice.{Choice}
use Rattle.protocol.specs.Logged.{Logged, Copy, LogChange}
use Rattle.protocol.specs.MasterStep.{master_step, master_restart}
use Rattle.protocol.specs.ServerStep.{server_step, server_restart}
use Rattle.protocol.specs.ClientStep.{client_step, client_call}
use Rattle.protocol.specs.World.{WorldState, new_world, stamped, after_events, IsReached}
use Rattle.laws_base.specs.Laws.{is_grant, grants_of}
use Rattle.laws_base.proofs.Steps.{none_some, same_some, tally, count-cons}
use Rattle.laws_base.proofs.Words.{true_false}
use Rattle.laws_base.proofs.LeaseOrders.{grant_parts}
use Rattle.laws_base.proofs.ChunkRows.{rows_of}
use Rattle.laws_base.proofs.MembersRecorded.{all_at}
use Rattle.laws_base.proofs.MessagesSent.{IsSent}
use Rattle.laws_base.proofs.ClientMoves.{HasNoOrder, quiet_orders, client_quiet, call_quiet}
use Rattle.laws_base.proofs.SentReached.{without_order, server_quiet, server_restarts_quiet, sent_reached}
use Rattle.laws_base.proofs.OrderNumbers.{state_of, AllFound, found_same}
use Rattle.laws_base.proofs.LoggedParts.{Parts, parts_of}
use Rattle.laws_base.proofs.NamesReached.{IsUpToLog}
use Rattle.laws_base.proofs.RowsLogged.{IsFoundRows, IsRowedLog}
use Rattle.laws_base.proofs.RowsKept.{rows_kept}
use Rattle.laws_base.proofs.GrantedIssued.{granted_is_at_most_issued}
use Rattle.laws_base.proofs.GrantsOnce.{row_below}
use Rattle.laws_base.proofs.RevokesNumbered.{Agrees}
use Rattle.laws_base.proofs.RevokedLeases.{IsOfRevoked, revoked_kept}
use Rattle.laws_base.proofs.ScenesReached.{scene_of, scene_reached, goes_on}
use Rattle.laws_base.proofs.WaitsKept.{IsOfWaits, waits_kept}
use Rattle.laws_base.proofs.IssuedNumbers.{IsPassed, IsLogPassed, passed_same}
use Rattle.laws_versions.proofs.ClosedVersions.{StaysShut, stays_shut}
use Rattle.laws_base.proofs.Events.{HoldsAfter, holds_after}
use Rattle.laws_base.proofs.Histories.{SentIn, sent_in, after_both}
use Rattle.laws_versions.specs.EmptyGrants.{IsGrantUsed}
use Rattle.laws_versions.proofs.UsedGrants.{numbered_versions_have_used_grants}
use Rattle.laws_versions.proofs.MasterCauses.{is_caused, Attempts, IsRaised, Causes, step_caused}
use Rattle.laws_versions.proofs.ExtendLaws.{restart_silent, new_one, none_before}
use Rattle.laws_versions.specs.RaisedVersions.{RaisesSkipNoGrant, RaisesSkipNoEntry}

-- the chunk, the version and its base, of an order that raises replicas
record IsRaise (b : Body) (handle version base : ℕ) : Type 0 where
  order : OrderNo
  is : b ≡ body.SetVersion order (handle_of handle) (version_of version) (version_of base)

is_raise : Body → Bool
is_raise (body.SetVersion order handle version base) = true
is_raise other = false

abbrev raise_parts : Body → ℕ × (ℕ × ℕ)
raise_parts (body.SetVersion order handle version base) = (handle.0, (version.0, base.0))
raise_parts other = (0, (0, 0))

-- as the order is sent, by what was logged and attempted
abbrev AreRaised : Logged → Attempts → Message → Type 0
AreRaised l tried x = (handle version base : ℕ) → IsRaise x.body handle version base → IsRaised l tried handle version base

no_raise : {A : Type 0} (b : Body) (handle version base : ℕ) → is_caused b ≡ false → IsRaise b handle version base → A
no_raise b handle version base none h = true_false (sym (ap is_caused h.is) ∙ none)

master_raises : (l : Logged) (tried : Attempts) (i : NodeInput) → Causes l tried i (AreRaised l tried)
master_raises l tried i =
    record {
      plain = λ receiver b none handle version base h. no_raise b handle version base none h;
      extends = λ server line until due handle version base h. absurd (let both = h.is in cc);
      grants = λ server order q v until chunk members told has handle version base h. absurd (let both = h.is in cc);
      creates = λ server order q v ask raised handle version base h. absurd (let both = h.is in cc);
      raises = λ server order q v old ask raised handle version base h.
          let same : (q, (v, old)) ≡ (handle, (version, base)) = ap raise_parts h.is in
          subst (λ (p : ℕ × (ℕ × ℕ)). IsRaised l tried p.0 p.1.0 p.1.1) same raised;
      copies = λ server order q v copy copy_version ask new handle version base h. absurd (let both = h.is in cc);
    }

unordered_raise : {A : Type 0} (b : Body) (handle version base : ℕ) → order_number b ≡ None → IsRaise b handle version base → A
unordered_raise b handle version base none h = none_some h.order (sym none ∙ ap order_number h.is)

none_new : {A : Type 0} (sent ms : List Message) (k place : ℕ) (m : Message) → HasNoOrder ms → length sent ≤ place → element_at (sent ++ stamped k ms) place ≡ Some m → (handle version base : ℕ) → IsRaise m.body handle version base → A
none_new sent ms k place m quiet from at handle version base h =
    let new = new_one sent ms k place m from at in
    unordered_raise (new.0).body handle version base (all_at (λ (x : Message). order_number x.body ≡ None) ms (new.1).0 new.0 (without_order ms quiet) (new.1).1)
    (record { order = h.order; is = (new.2).2 ∙ h.is })

-- a new SetVersion is the master's, and so raised
abbrev AreRaisedNow : WorldState → WorldState → Type 0
AreRaisedNow u v =
    (place : ℕ) (m : Message) → length u.sent ≤ place → element_at v.sent place ≡ Some m → (handle version base : ℕ) → IsRaise m.body handle version base
    → IsTrue u.master.up × IsRaised u.master.logged u.master.attempts handle version base

each_raised : (config : Config) (servers clients : ℕ) (u : WorldState) → IsReached config servers clients u → HoldsAfter u (λ e x. AreRaisedNow u x.world)
each_raised config servers clients u r =
    let k : ℕ = suc (length u.sent) in
    record {
      nothing = λ e place m from at handle version base h. none_before u.sent place m from at;
      masters = λ e moment i choice given up place m from at handle version base h.
          let new = new_one u.sent (master_step u.master moment i choice).out.sent k place m from at in
          let all = step_caused u.master moment i choice (AreRaised u.master.logged u.master.attempts) (granted_is_at_most_issued config servers clients u r) (master_raises u.master.logged u.master.attempts i) in
          (up, all_at (AreRaised u.master.logged u.master.attempts) (master_step u.master moment i choice).out.sent (new.1).0 new.0 all (new.1).1 handle version base (record { order = h.order; is = (new.2).2 ∙ h.is }));
      opens = λ e moment choice place m from at handle version base h.
          let new = new_one u.sent (master_restart u.master moment choice).out.sent k place m from at in
          none_some new.0 (subst (λ (ms : List Message). element_at ms (new.1).0 ≡ Some new.0) (restart_silent u.master moment choice) (new.1).1);
      serves = λ e index moment s i choice there given up place m from at handle version base h. none_new u.sent (server_step s moment i choice).out.sent k place m (server_quiet s moment i choice) from at handle version base h;
      restarts = λ e index moment s choice there place m from at handle version base h. none_new u.sent (server_restart s moment choice).out.sent k place m (server_restarts_quiet s moment choice choice.ending) from at handle version base h;
      steps = λ e index moment s i choice there given up place m from at handle version base h.
          none_new u.sent (client_step s moment i choice).out.sent k place m (quiet_orders (client_step s moment i choice).out.sent (client_quiet s moment i choice)) from at handle version base h;
      calls = λ e index moment s c choice there may place m from at handle version base h.
          none_new u.sent (client_call s moment c choice).out.sent k place m (quiet_orders (client_call s moment c choice).out.sent (call_quiet s moment c choice)) from at handle version base h;
      rots = λ e index q s x at_place byte ending is_kept there held up place m from at handle version base h. none_before u.sent place m from at;
    }

-- a Grant that is counted
pub counted_grant : (handle version : ℕ) (sent : List Message) → 1 ≤ grants_of handle version sent → (m : Message) × IsSent sent m × (is_grant handle version m.body ≡ true)
counted_grant handle version [] some = absurd (let none : 1 ≤ 0 = some in omega (arith, none))
counted_grant handle version (x ∷ sent) some = by_first (is_grant handle version x.body) refl (counted_grant handle version sent)
  where
    by_first : (b : Bool) → is_grant handle version x.body ≡ b → (1 ≤ grants_of handle version sent → (m : Message) × IsSent sent m × (is_grant handle version m.body ≡ true))
        → (m : Message) × IsSent (x ∷ sent) m × (is_grant handle version m.body ≡ true)
    by_first true is rest = (x, (zero, refl), is)
    by_first false is rest =
        let whole = count-cons (λ (y : Message). is_grant handle version y.body) x sent in
        let none = ap tally is in
        let one = rest (omega (arith, whole, none, some)) in
        (one.0, (suc (one.1).0, (one.1).1), one.2)

-- the log of a master that is up says the same of the chunk
log_passed : (handle version : ℕ) (l k : Logged) → parts_of l ≡ parts_of k → IsRowedLog l k → (row : ChunkRow) → table.get (rows_of l) handle ≡ Some row → version ≤ row.issued → IsPassed handle version l × IsPassed handle version k
log_passed handle version l k parts tied row there issued =
    let state : IsPassed handle version l = (row_below l k parts tied handle row there, λ other is. let same : other.issued ≡ row.issued = ap (λ (r : ChunkRow). r.issued) (same_some other row (sym is ∙ there)) in omega (arith, issued, same)) in
    (state, passed_same handle version l k (tied.same handle (by_copies (table.get l.copies handle) refl (table.get k.copies handle) refl)) (ap (λ (p : Parts). p.next_handle) parts) state)
  where
    by_copies : (o : Option Copy) → table.get l.copies handle ≡ o → (p : Option Copy) → table.get k.copies handle ≡ p → table.get l.copies handle ≡ table.get k.copies handle
    by_copies (Some c) is p also = is ∙ sym (tied.base.base.among handle c is)
    by_copies None is None also = is ∙ sym also
    by_copies None is (Some c) also = none_some row (sym (tied.base.base.alone handle c also is) ∙ there)

-- a version between is shut as the order is sent, and so from then on
module _ (config : Config) (servers clients : ℕ) (u : WorldState) (r : IsReached config servers clients u) (up : IsTrue u.master.up) (handle version base granted : ℕ) (above : base < granted) (below : granted < version) (row : ChunkRow)
    (there : chunk_of u.master.logged.table handle ≡ Some row) (low : row.granted ≤ base) (next : suc row.issued ≡ version) (untried : table.get u.master.attempts handle ≡ None) where
  h : IsOfRevoked (scene_of u)
  h = scene_reached IsOfRevoked revoked_kept config servers clients u r

  agrees : Agrees u.sent u.master.logged
  agrees = h.sent.revokes.up up

  none_yet : grants_of handle granted u.sent ≤ 0
  none_yet = by_count (nat_le (grants_of handle granted u.sent) 0) refl
    where
      by_count : (b : Bool) → nat_le (grants_of handle granted u.sent) 0 ≡ b → grants_of handle granted u.sent ≤ 0
      by_count true is = leb-true (grants_of handle granted u.sent) 0 is
      by_count false is =
          let some : 0 < grants_of handle granted u.sent = leb-false (grants_of handle granted u.sent) 0 is in
          let g = counted_grant handle granted u.sent (omega (arith, some)) in
          let parts = grant_parts handle granted (g.0).body g.2 in
          let fits = ((agrees.rows handle row there g.0 g.1).0 parts.0 (version_of granted) parts.1 parts.2 parts.3).0 in
          absurd (omega (arith, fits, low, above))

  pub skipped : (steps : List (Event × Choice)) → 1 ≤ grants_of handle granted (after_events u steps).sent → ⊥
  skipped steps some =
      let logged : IsUpToLog IsFoundRows IsRowedLog rows_kept u.master = h.sent.logged.up up in
      let passed = log_passed handle granted u.master.logged (state_of u.master.disk) logged.same logged.tied row there (omega (arith, next, below)) in
      let start : StaysShut handle granted 0 (scene_of u) =
      record {
        base = sent_reached IsOfWaits waits_kept config servers clients u r;
        shut = record {
          few = none_yet;
          found = subst (λ (xs : List LogChange). AllFound (IsLogPassed handle granted) u.master.disk xs) (sym logged.idle) (found_same (IsLogPassed handle granted) u.master.disk passed.1);
          up = λ _. (passed.0, λ a is same. none_some a (sym untried ∙ is));
        };
      } in
      let few = (goes_on (StaysShut handle granted 0) (stays_shut handle granted 0) u steps start).shut.few in
      omega (arith, few, some)

-- a version between is never granted
never_granted : (config : Config) (servers clients : ℕ) (w : WorldState) → IsReached config servers clients w → (place : ℕ) (m : Message) → element_at w.sent place ≡ Some m → (handle version base : ℕ) → IsRaise m.body handle version base
    → (granted : ℕ) → base < granted → granted < version → 1 ≤ grants_of handle granted w.sent → ⊥
never_granted config servers clients w r place m at handle version base is granted above below some =
    elim (raised.1) [
      | inl old ↦
          skipped config servers clients u (h.before, refl) raised.0 handle version base granted above below old.0 old.1 old.2 old.3 old.4 (h.step ∷ h.after)
          (subst (λ (v : WorldState). 1 ≤ grants_of handle granted v.sent) (sym rest) some)
      | inr new ↦ let one = new.1 in omega (arith, above, below, one)
    ]
  where
    start : WorldState
    start = new_world config servers clients

    h : SentIn start r.0 place m
    h = sent_in start r.0 place m (omega arith) (ap (λ (v : WorldState). element_at v.sent place) r.1 ∙ at)

    u : WorldState
    u = after_events start h.before

    rest : after_events u (h.step ∷ h.after) ≡ w
    rest = sym (ap (λ (steps : List (Event × Choice)). after_events start steps) h.steps_are ∙ after_both start h.before (h.step ∷ h.after)) ∙ r.1

    raised : IsTrue u.master.up × IsRaised u.master.logged u.master.attempts handle version base
    raised = holds_after u (λ e x. AreRaisedNow u x.world) (each_raised config servers clients u (h.before, refl)) h.step.0 h.step.1 place m h.unsent h.sent_is handle version base is

pub raises_skip_no_grant : RaisesSkipNoGrant
raises_skip_no_grant config servers clients w r place m at order handle version base is granted some = by_base (nat_le granted base.0) refl (nat_le version.0 granted) refl
  where
    by_base : (b : Bool) → nat_le granted base.0 ≡ b → (c : Bool) → nat_le version.0 granted ≡ c → (granted ≤ base.0) ⊎ (version.0 ≤ granted)
    by_base true low c high = inl (leb-true granted base.0 low)
    by_base false low true high = inr (leb-true version.0 granted high)
    by_base false low false high =
        absurd (never_granted config servers clients w r place m at handle.0 version.0 base.0 (record { order = order; is = is }) granted (leb-false granted base.0 low) (leb-false version.0 granted high) some)

pub raises_skip_no_entry : RaisesSkipNoEntry
raises_skip_no_entry config servers clients w r place m at order handle version base is index moment s i choice numbered id n =
    let used : IsGrantUsed w index handle.0 numbered.0 = numbered_versions_have_used_grants config servers clients w r index moment s i choice handle numbered id n [] in
    raises_skip_no_grant config servers clients w r place m at order handle version base is numbered.0 used.granted
