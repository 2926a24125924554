-- With which sizes a chunk is granted: with that of its row as the Grant goes, which stays; and a copy has its source's.
use Rattle.std.proofs.Common.{◌≡◌, ◌⊎◌, ℕ, zero, suc, ◌≤◌, ◌<◌, true, false, true≢false, Bool, List, [], ◌∷◌, ◌++◌, length, take, Option, Some, None, refl, sym, ap, subst, ◌∙◌, inl, inr, arith}
use Rattle.std.specs.Prelude.{IsTrue, min}
use Rattle.std.specs.FinMap as table
use Rattle.std.proofs.lemmas.Bool.{cases_lt}
use Rattle.gfs_types.specs.declared.config.Config.{Config}
use Rattle.gfs_types.specs.declared.ids.Moment.{Moment}
use Rattle.gfs_types.specs.declared.ids.OrderNo.{OrderNo}
use Rattle.gfs_types.specs.declared.shape.Shape.{Shape}
use Rattle.messages.specs.declared.event.Event.{Event}
use Rattle.messages.specs.declared.event.NodeInput.{NodeInput}
use Rattle.messages.specs.declared.event.NodeInput.TheVariants as input
use Rattle.messages.specs.declared.message.Body.{Body}
use Rattle.messages.specs.declared.message.Body.TheVariants as body
use Rattle.messages.specs.declared.message.Location.{Location}
use Rattle.messages.specs.declared.message.Message.{Message}
use Rattle.log_records.specs.declared.record.Record.{Record}
use Rattle.log_records.specs.declared.record.Record.TheVariants as log
use Rattle.chunk_table.specs.ChunkTable.{ChunkRow, chunk_of, handles_of, shape_of, grant}
use Rattle.protocol.specs.Tables.{element_at}
use Rattle.protocol.specs.Sending.{handle_of, version_of, order_number}
use Rattle.protocol.specs.Choice.{Choice, Ending, Goes, Lost, Stops}
use Rattle.protocol.specs.Seen.{Taken, no_step}
use Rattle.protocol.specs.declared.seen.Seen.{Seen}
use Rattle.protocol.specs.declared.seen.Seen.TheVariants.{CopyStarted}
use Rattle.protocol.specs.Logged.{Logged, Copy, after_record, swapped_in}
use Rattle.protocol.specs.Master.{MasterState, MasterDoing, master_begins}
use Rattle.protocol.specs.MasterStep.{master_at, master_goes, master_ends, master_bounded, master_step, master_restart, may_end}
use Rattle.protocol.specs.ServerStep.{server_step, server_restart}
use Rattle.protocol.specs.ClientStep.{client_step, client_call}
use Rattle.protocol.specs.World.{WorldState, Happened, new_world, stamped, after_master, happens, after_events, IsReached}
use Rattle.laws_base.specs.Laws.{IsSizeGranted}
use Rattle.laws_base.proofs.ClientMoves.{HasNoOrder, quiet_orders, client_quiet, call_quiet}
use Rattle.laws_base.proofs.FilesNamed.{HasFile}
use Rattle.laws_base.proofs.GrantedIssued.{granted_is_at_most_issued}
use Rattle.laws_base.proofs.GrantsOnce.{row_below}
use Rattle.laws_base.proofs.LeaseOrders.{grant_body, GrantsNothing, says_grant}
use Rattle.laws_base.proofs.MasterMoves.{grant_record}
use Rattle.laws_base.proofs.MembersRecorded.{all_at, place_below}
use Rattle.laws_base.proofs.NamesReached.{IsUpToLog, logged_reached}
use Rattle.laws_base.proofs.OrderNumbers.{state_of}
use Rattle.laws_base.proofs.Owners.{HasRow, chunks_at, chunk_row, placed_stands, stands_at_place}
use Rattle.laws_base.proofs.ChunkRows.{rows_of}
use Rattle.laws_base.proofs.RevokesNumbered.{Agrees, IsOfRevokes, revokes_kept}
use Rattle.laws_base.proofs.RowsKept.{rows_kept}
use Rattle.laws_base.proofs.RowsLogged.{IsFoundRows, IsRowedLog}
use Rattle.laws_base.proofs.SentReached.{sent_reached, server_quiet, server_restarts_quiet, without_order}
use Rattle.laws_base.proofs.ShapesTold.{IsFoundTold, IsToldLog, told_kept}
use Rattle.laws_base.proofs.Steps.{on_cond, none_some, same_some}
use Rattle.laws_base.proofs.Events.{HoldsAfter, holds_after}
use Rattle.laws_base.proofs.Histories.{SentIn, sent_in, after_both}
use Rattle.laws_base.proofs.LeasesStayOver.{reached_later}
use Rattle.laws_base.proofs.MasterPremises.{IsOfCalls, is_told, IsTold}
use Rattle.laws_base.proofs.RequestsOnce.{later_cases}
use Rattle.laws_base.specs.ChunkOrders.{WasCopied, Linked, IsSource}
use Rattle.laws_base.specs.PlacedEntries.{LiesWithin}
use Rattle.laws_base.proofs.Within.{entry_sized}
use Rattle.laws_base.specs.ToldShapes.{IsShapeIn}
use Rattle.laws_versions.specs.ReplacedChunks.{IsToldAt}
use Rattle.laws_versions.specs.ToldSizes.{ChunksHaveOneSize, CopiesHaveTheirSourcesSize, EntriesAreOfTheirChunksSize, ToldShapesHaveTheGrantedSize}
use Rattle.laws_versions.proofs.AskedSteps.{IsToldOf}
use Rattle.laws_versions.proofs.ReplacedChunks.{kept_before}
use Rattle.laws_versions.proofs.ToldAnswers.{told_now, told_shaped}
use Rattle.laws_versions.proofs.MasterCauses.{Attempts, Causes, uncaused_nothing, step_caused}
use Rattle.laws_versions.proofs.ExtendLaws.{restart_silent}
use Rattle.laws_versions.proofs.UnaskedSteps.{IsNoAsk, KeepsThese, KeepsReports, taken_kept}
use Rattle.laws_versions.proofs.GrantedSizes.{TellsSize, step_sized}
use Rattle.laws_versions.proofs.HandleIndexes.{AreFiled, filed_on, filed_up}
use Rattle.laws_versions.proofs.HandleSizes.{IsLogSized, IsStateSized, size_keeps, row_of_file, row_in_file, row_told}
use Rattle.laws_versions.proofs.CopiesPlaced.{Begun, step_begun, below_reached, copies_are_new, handles_in, only}
use Rattle.laws_versions.proofs.EntryIndexes.{take_front, take_more, joined, one_longer}

-- a Grant comes by a Recorded or a Report, and no handle is used anew in such a step

abbrev ComesByWord : NodeInput → Body → Type 0
ComesByWord i (grant_body order handle version end_moment chunk members) = IsTold i
ComesByWord i other = Unit {0}

nothing_comes : (i : NodeInput) (b : Body) → GrantsNothing b → ComesByWord i b
nothing_comes i (grant_body order handle version end_moment chunk members) none = absurd none
nothing_comes i other none = tt

by_word : (l : Logged) (tried : Attempts) (i : NodeInput) → Causes l tried i (λ m. ComesByWord i m.body)
by_word l tried i =
    record {
      plain = λ receiver b none. nothing_comes i b (uncaused_nothing b none);
      extends = λ server line until due. tt;
      grants = λ server order handle version until chunk members told has. told;
      creates = λ server order handle version asked due. tt;
      raises = λ server order handle version base asked due. tt;
      copies = λ server order handle version copy copy_version asked new. tt;
    }

told_no_ask : (b : Body) → is_told b ≡ true → IsNoAsk b
told_no_ask (body.Ask number file w deadline lost) is = absurd (true≢false (sym is))
told_no_ask other is = tt

calls_next : (l : Logged) (r : Record) → IsOfCalls r → (after_record l r).next_handle ≡ l.next_handle
calls_next l (log.Mkdir client n path) is = refl
calls_next l (log.Rmdir client n path) is = refl
calls_next l (log.Create client n file shape path) is = refl
calls_next l (log.Delete client n moment path) is = refl
calls_next l (log.Rename client n from to) is = refl
calls_next l (log.Snapshot client n from to) is = refl
calls_next l (log.Refused client n refusal) is = refl
calls_next l other is = absurd is

granted_next : (l : Logged) (handle version primary : ℕ) (members : List ℕ) → (after_record l (grant_record handle version primary members)).next_handle ≡ l.next_handle
granted_next l handle version primary members = by_copy (table.get l.copies handle)
  where
    by_copy : (o : Option Copy) → (swapped_in (record l { table = grant l.table handle version primary members }) handle o).next_handle ≡ l.next_handle
    by_copy None = refl
    by_copy (Some c) = refl

abbrev IsStill : ℕ → MasterDoing → Type 0
IsStill n d = (d.master.logged.next_handle ≡ n) × IsTrue d.master.up

still_names : (n : ℕ) → KeepsThese IsOfCalls (IsStill n)
still_names n =
    record {
      said = λ d receiver b is h. h;
      ordered = λ d server b is h. h;
      recorded = λ d r is h. (calls_next d.master.logged r is ∙ h.0, h.1);
      checkpointed = λ d h. h;
      less = λ d handles h. h;
      fewer = λ d handles h. h;
      waiting = λ d ss h. h;
      refusing = λ d bs h. h;
    }

still_reports : (n : ℕ) → KeepsReports (IsStill n)
still_reports n =
    record {
      held = λ d server handle version h. h;
      heard = λ d server lines h. h;
      in_time = λ d h. h;
      noted = λ d handle a b at same h. h;
      granted = λ d handle a primary members at h. (granted_next d.master.logged handle a.version primary members ∙ h.0, h.1);
      ended = λ d handle h. h;
      lengthened = λ d handle until row is late h. h;
    }

taken_still : (m : MasterState) (moment : ℕ) (x : Message) (refused : List Bool) → IsTrue m.up → IsNoAsk x.body → IsStill m.logged.next_handle (master_goes m moment (input.Deliver x) refused)
taken_still m moment x refused up none =
    taken_kept IsOfCalls (λ r is. is) (IsStill m.logged.next_handle) (still_names m.logged.next_handle) (still_reports m.logged.next_handle) (master_begins (master_at m moment) refused) x none (refl, up)

-- what says something goes through
abbrev HasGone : MasterDoing → Taken MasterState → Type 0
HasGone d t = (place : ℕ) (x : Message) → element_at t.out.sent place ≡ Some x → t.state ≡ d.master

ends_gone : (m : MasterState) (d : MasterDoing) (choice : Choice) (e : Ending) → HasGone d (master_ends m d choice e)
ends_gone m d choice Goes place x at = refl
ends_gone m d choice Lost place x none = none_some x none
ends_gone m d choice (Stops made) place x none = none_some x none

goes_on : (m : MasterState) (moment : ℕ) (i : NodeInput) (choice : Choice) → HasGone (master_goes m moment i choice.refused) (master_step m moment i choice)
goes_on m moment i choice =
    let d : MasterDoing = master_goes m moment i choice.refused in
    on_cond (HasGone d) m.up (master_bounded m i d choice) (no_step m)
    (λ _. on_cond (HasGone d) (may_end m i d choice.ending) (master_ends m d choice choice.ending) (no_step m) (λ _. ends_gone m d choice choice.ending) (λ _ place x none. none_some x none))
    (λ _ place x none. none_some x none)

-- at a master that is up, the chunk's row has this size
abbrev HasSize : WorldState → ℕ → ℕ → Type 0
HasSize w handle size = IsTrue w.master.up × (row : ChunkRow) × (chunk_of w.master.logged.table handle ≡ Some row) × (row.shape.chunk ≡ size)

-- a Grant that is sent by what happened in this world
record IsGrantedNow (w : WorldState) (x : Happened) (handle version size : ℕ) : Type 0 where
  moment : ℕ
  taken : NodeInput
  choice : Choice
  place : ℕ
  said : Message
  up : IsTrue w.master.up
  at : element_at (master_step w.master moment taken choice).out.sent place ≡ Some said
  order : OrderNo
  end_moment : Moment
  members : List ℕ
  is : said.body ≡ body.Grant order (handle_of handle) (version_of version) end_moment size members
  step_is : x ≡ after_master w moment (master_step w.master moment taken choice)

module _ (w : WorldState) (handle version size place : ℕ) (m : Message) (order : OrderNo) (end_moment : Moment) (members : List ℕ) (is : m.body ≡ body.Grant order (handle_of handle) (version_of version) end_moment size members) where
  abbrev IsOldOrNew : Happened → Type 0
  IsOldOrNew x = element_at x.world.sent place ≡ Some m → (element_at w.sent place ≡ Some m) ⊎ IsGrantedNow w x handle version size

  quiet : {A : Type 0} (ms : List Message) → HasNoOrder ms → element_at (w.sent ++ stamped (suc (length w.sent)) ms) place ≡ Some m → (element_at w.sent place ≡ Some m) ⊎ A
  quiet ms none at = elim (later_cases w.sent (suc (length w.sent)) ms place m at) [
    | inl early ↦ inl early
    | inr new ↦ none_some order (sym (all_at (λ (x : Message). order_number x.body ≡ None) ms (new.1).0 new.0 (without_order ms none) (new.1).1) ∙ ap order_number ((new.2).2 ∙ is))
  ]

  granted_by : HoldsAfter w (λ e x. IsOldOrNew x)
  granted_by =
      record {
        nothing = λ e at. inl at;
        masters = λ e moment i choice given up at. elim (later_cases w.sent (suc (length w.sent)) (master_step w.master moment i choice).out.sent place m at) [
          | inl early ↦ inl early
          | inr new ↦ inr (record {
            moment = moment;
            taken = i;
            choice = choice;
            place = (new.1).0;
            said = new.0;
            up = up;
            at = (new.1).1;
            order = order;
            end_moment = end_moment;
            members = members;
            is = (new.2).2 ∙ is;
            step_is = refl;
          })
        ];
        opens = λ e moment choice at. quiet (master_restart w.master moment choice).out.sent (subst HasNoOrder (sym (restart_silent w.master moment choice)) (λ epoch count. refl)) at;
        serves = λ e index moment s i choice there given up at. quiet (server_step s moment i choice).out.sent (server_quiet s moment i choice) at;
        restarts = λ e index moment s choice there at. quiet (server_restart s moment choice).out.sent (server_restarts_quiet s moment choice choice.ending) at;
        steps = λ e index moment s i choice there given up at. quiet (client_step s moment i choice).out.sent (quiet_orders (client_step s moment i choice).out.sent (client_quiet s moment i choice)) at;
        calls = λ e index moment s c choice there may at. quiet (client_call s moment c choice).out.sent (quiet_orders (client_call s moment c choice).out.sent (call_quiet s moment c choice)) at;
        rots = λ e index q s x byte_place byte ending is_kept there held up at. inl at;
      }

module _ (config : Config) (servers clients : ℕ) where
  -- the size of this chunk, from here on
  abbrev Is : ℕ → ℕ → WorldState → Type 0
  Is handle size w = AreFiled (IsStateSized handle size) (IsLogSized handle size) (size_keeps handle size) w.master

  rowed : (w : WorldState) → IsReached config servers clients w → IsTrue w.master.up → IsUpToLog IsFoundRows IsRowedLog rows_kept w.master
  rowed w r up = logged_reached IsFoundRows IsRowedLog rows_kept config servers clients w r up

  told : (w : WorldState) → IsReached config servers clients w → IsTrue w.master.up → IsUpToLog IsFoundTold IsToldLog told_kept w.master
  told w r up = logged_reached IsFoundTold IsToldLog told_kept config servers clients w r up

  has_filed : (w : WorldState) → IsReached config servers clients w → (handle size : ℕ) → HasSize w handle size → Is handle size w
  has_filed w r handle size h =
      let u = rowed w r h.0 in
      filed_up (IsStateSized handle size) (IsLogSized handle size) (size_keeps handle size) config servers clients w r h.0
      (row_below w.master.logged (state_of w.master.disk) u.same u.tied handle h.1 h.2, λ row is. ap (λ (x : ChunkRow). x.shape.chunk) (same_some row h.1 (sym is ∙ h.2)) ∙ h.3)

  has_least : (w : WorldState) → IsReached config servers clients w → (handle size : ℕ) → HasSize w handle size → 64 ≤ size
  has_least w r handle size h =
      let u = rowed w r h.0 in
      let t = told w r h.0 in
      subst (λ (n : ℕ). 64 ≤ n) h.3
      (row_told w.master.logged u.tied.base.counted t.tied.base.here t.tied.told handle h.1 h.2 (λ none. u.tied.owned handle none) (λ c some. t.tied.base.base.base.here.copied handle c some))

  -- Grants

  module _ (w : WorldState) (r : IsReached config servers clients w) (e : Event) (choice : Choice) (handle version size : ℕ) (g : IsGrantedNow w (happens w e choice) handle version size)
      (place : ℕ) (m : Message) (at : element_at (happens w e choice).world.sent place ≡ Some m) (order : OrderNo) (end_moment : Moment) (members : List ℕ)
      (is : m.body ≡ body.Grant order (handle_of handle) (version_of version) end_moment size members) where
    abbrev v : WorldState
    v = (happens w e choice).world

    reached : IsReached config servers clients v
    reached = reached_later config servers clients w ((e, choice) ∷ []) r

    abbrev said : List Message
    said = (master_step w.master g.moment g.taken g.choice).out.sent

    word : IsTold g.taken
    word =
        subst (λ (b : Body). ComesByWord g.taken b) g.is
        (all_at (λ (x : Message). ComesByWord g.taken x.body) said g.place g.said
        (step_caused w.master g.moment g.taken g.choice (λ x. ComesByWord g.taken x.body) (granted_is_at_most_issued config servers clients w r) (by_word w.master.logged w.master.attempts g.taken)) g.at)

    still : IsStill w.master.logged.next_handle (master_goes w.master g.moment g.taken (g.choice).refused)
    still =
        subst (λ (i : NodeInput). IsStill w.master.logged.next_handle (master_goes w.master g.moment i (g.choice).refused)) (sym word.taken)
        (taken_still w.master g.moment word.message (g.choice).refused g.up (told_no_ask (word.message).body word.is))

    left : v.master ≡ (master_goes w.master g.moment g.taken (g.choice).refused).master
    left = ap (λ (x : Happened). x.world.master) g.step_is ∙ goes_on w.master g.moment g.taken g.choice g.place g.said g.at

    used : handle < w.master.logged.next_handle
    used =
        let up : IsTrue v.master.up = subst (λ (x : MasterState). IsTrue x.up) (sym left) still.1 in
        let agrees : Agrees v.sent v.master.logged = (sent_reached IsOfRevokes revokes_kept config servers clients v reached).revokes.up up in
        let low : handle < v.master.logged.next_handle = (agrees.used m (place, at)).0 order (handle_of handle) (version_of version) end_moment members (says_grant (size, is)) in
        let same = ap (λ (x : MasterState). x.logged.next_handle) left in
        let next = still.0 in
        omega (arith, low, same, next)

    had_size : HasSize w handle size
    had_size = elim (subst (λ (b : Body). TellsSize w.master.logged b) g.is (all_at (λ (x : Message). TellsSize w.master.logged x.body) said g.place g.said (step_sized config servers clients w r g.up g.moment g.taken g.choice) g.at)) [
      | inl row ↦ (g.up, row.0, row.1, row.2)
      | inr new ↦ absurd (let low = used in omega (arith, low, new))
    ]

  -- Copies: it was given up again, and has no row, or it is under way, of the size of its source.
  abbrev IsCopySized : ℕ → ℕ → WorldState → Type 0
  IsCopySized source copy v = ((size : ℕ) → Is copy size v) ⊎ ((size : ℕ) × HasSize v source size × HasSize v copy size)

  module _ (w v : WorldState) (r : IsReached config servers clients w) (later : IsReached config servers clients v) (moment : ℕ) (i : NodeInput) (choice : Choice) (now : v.master ≡ (master_step w.master moment i choice).state) where
    by_begun : Begun w.master.logged.next_handle (master_step w.master moment i choice).seen v.master.logged v.master.up → (place source copy : ℕ)
        → element_at (master_step w.master moment i choice).seen place ≡ Some (CopyStarted (handle_of source) (handle_of copy)) → IsCopySized source copy v
    by_begun b place source copy at =
        subst (λ (q : ℕ). IsCopySized source q v) (ap (λ (x : Seen). (handles_in x).1) one)
        (subst (λ (q : ℕ). IsCopySized q b.copy v) (ap (λ (x : Seen). (handles_in x).0) one) (by_copy (table.get v.master.logged.copies b.copy) refl))
      where
        one : CopyStarted (handle_of b.source) (handle_of b.copy) ≡ CopyStarted (handle_of source) (handle_of copy)
        one = only (CopyStarted (handle_of b.source) (handle_of b.copy)) (CopyStarted (handle_of source) (handle_of copy)) place (sym (ap (λ (xs : List Seen). element_at xs place) b.seen_is) ∙ at)

        l : Logged
        l = v.master.logged

        u : IsUpToLog IsFoundRows IsRowedLog rows_kept v.master
        u = rowed v later b.on

        t : IsUpToLog IsFoundTold IsToldLog told_kept v.master
        t = told v later b.on

        -- a chunk in no file, of no copy, has no row
        no_row : table.get l.copies b.copy ≡ None → (size : ℕ) (row : ChunkRow) → table.get (rows_of l) b.copy ≡ Some row → row.shape.chunk ≡ size
        no_row none size row is =
            let of = row_of_file l u.tied.base.counted t.tied.base.here t.tied.told b.copy row is (u.tied.owned b.copy none) in
            let stood = stands_at_place (chunks_at l.table.files of.0) b.copy of.1 in
            absurd (b.nowhere of.0 stood.0 stood.1)

        by_copy : (o : Option Copy) → table.get l.copies b.copy ≡ o → IsCopySized b.source b.copy v
        by_copy None none = inl (λ size. filed_up (IsStateSized b.copy size) (IsLogSized b.copy size) (size_keeps b.copy size) config servers clients v later b.on (b.used, no_row none size))
        by_copy (Some c) some =
            let copied : HasRow (rows_of l) b.copy = u.tied.base.rows b.copy c some in
            let stands = placed_stands (handles_of l.table c.file) c.index c.source (u.tied.base.placed b.copy c some) in
            let of = chunk_row l.table c.file c.source u.tied.base.counted stands in
            let its_shape = t.tied.base.here.copies b.copy c copied.0 some copied.1 in
            let shape = t.tied.base.here.files.chunks c.file c.source of.0 stands of.1 in
            inr (
              (copied.0).shape.chunk,
              (b.on, of.0, subst (λ (q : ℕ). chunk_of l.table q ≡ Some of.0) (b.from c some) of.1, ap (λ (s : Shape). s.chunk) (shape ∙ sym its_shape)),
              (b.on, copied.0, copied.1, refl),
            )

    copy_sized : (place source copy : ℕ) → element_at (master_step w.master moment i choice).seen place ≡ Some (CopyStarted (handle_of source) (handle_of copy)) → IsCopySized source copy v
    copy_sized place source copy at =
        elim (step_begun w.master moment i choice (below_reached config servers clients w r)) [
          | inl none ↦ none_some (CopyStarted (handle_of source) (handle_of copy)) (sym (ap (λ (xs : List Seen). element_at xs place) none) ∙ at)
          | inr begun ↦ by_begun (subst (λ (m : MasterState). Begun w.master.logged.next_handle (master_step w.master moment i choice).seen m.logged m.up) (sym now) begun) place source copy at
        ]

-- in a history

module _ (config : Config) (servers clients : ℕ) (steps : List (Event × Choice)) where
  abbrev start : WorldState
  start = new_world config servers clients

  -- after so many steps
  abbrev W : ℕ → WorldState
  W n = after_events start (take n steps)

  abbrev End : WorldState
  End = after_events start steps

  -- after some steps it had this size at a master that was up
  record Known (handle size : ℕ) : Type 0 where
    n : ℕ
    has : HasSize (W n) handle size

  same_world : (before rest : List (Event × Choice)) → steps ≡ before ++ rest → W (length before) ≡ after_events start before
  same_world before rest are = ap (λ (xs : List (Event × Choice)). after_events start xs) (ap (λ (xs : List (Event × Choice)). take (length before) xs) are ∙ take_front before rest)

  filed : (handle size : ℕ) (t : Known handle size) → Is config servers clients handle size (W t.n)
  filed handle size t = has_filed config servers clients (W t.n) (take t.n steps, refl) handle size t.has

  on : (handle size n m : ℕ) → n ≤ m → Is config servers clients handle size (W n) → Is config servers clients handle size (W m)
  on handle size n m low h =
      let more = take_more n m steps low in
      subst (λ (xs : List (Event × Choice)). Is config servers clients handle size (after_events start xs)) (sym more.1)
      (subst (λ (w : WorldState). Is config servers clients handle size w) (sym (after_both start (take n steps) more.0))
      (filed_on (IsStateSized handle size) (IsLogSized handle size) (size_keeps handle size) config servers clients (W n) more.0 (take n steps, refl) h))

  there : (handle size other : ℕ) (t : Known handle other) → Is config servers clients handle size (W t.n) → other ≡ size
  there handle size other t h = sym (t.has).3 ∙ (h.up (t.has).0).1 (t.has).1 (t.has).2

  -- one size alone
  once : (handle size other : ℕ) → Known handle size → Known handle other → size ≡ other
  once handle size other a b =
      elim (cases_lt a.n b.n) [
        | inl less ↦ sym (there handle size other b (on handle size a.n b.n (omega (arith, less)) (filed handle size a)))
        | inr least ↦ there handle other size a (on handle other b.n a.n least (filed handle other b))
      ]

  -- a copy that began

  module _ (source copy : ℕ) (was : WasCopied start steps source copy) where
    abbrev u : WorldState
    u = after_events start was.before

    abbrev x : Happened
    x = happens u (was.step).0 (was.step).1

    abbrev ahead : List (Event × Choice)
    ahead = was.before ++ was.step ∷ []

    begun_reached : IsReached config servers clients x.world
    begun_reached = reached_later config servers clients u (was.step ∷ []) (was.before, refl)

    then_ : W (length was.before) ≡ u
    then_ = same_world was.before (was.step ∷ was.after) was.steps_are

    now : W (length ahead) ≡ x.world
    now = same_world ahead was.after (was.steps_are ∙ sym (joined was.before was.step was.after)) ∙ after_both start was.before (was.step ∷ [])

    sized : IsCopySized config servers clients source copy x.world
    sized = copy_sized config servers clients u x.world (was.before, refl) begun_reached (was.now).moment (was.now).input (was.now).choice (ap (λ (y : Happened). y.world.master) (was.now).step_is) (was.now).place source copy (was.now).seen

    new : IsTrue u.master.up × (u.master.logged.next_handle ≤ copy)
    new = copies_are_new config servers clients u (was.before, refl) (was.now).moment (was.now).input (was.now).choice (was.now).place (handle_of source) (handle_of copy) (was.now).seen

    -- where the copy is found of a size, its source had it
    found : (size : ℕ) → ((other : ℕ) → Is config servers clients copy other (W (length ahead)) → size ≡ other) → Known source size
    found size only_one =
        elim (sized) [
          | inl all ↦
              let none : size ≡ suc size = only_one (suc size) (subst (λ (w : WorldState). Is config servers clients copy (suc size) w) (sym now) (all (suc size))) in
              absurd (omega (arith, none))
          | inr at ↦
              let same : size ≡ at.0 = only_one at.0 (subst (λ (w : WorldState). Is config servers clients copy at.0 w) (sym now) (has_filed config servers clients x.world begun_reached copy at.0 at.2)) in
              subst (λ (n : ℕ). Known source n) (sym same) (record { n = length ahead; has = subst (λ (w : WorldState). HasSize w source at.0) (sym now) at.1 })
        ]

    link : (size : ℕ) → Known copy size → Known source size
    link size t =
        elim (cases_lt t.n (length ahead)) [
          | inl before ↦
              let longer = one_longer was.before was.step in
              let used : Is config servers clients copy size u =
              subst (λ (w : WorldState). Is config servers clients copy size w) then_ (on copy size t.n (length was.before) (omega (arith, before, longer)) (filed copy size t)) in
              let low = (used.up new.0).0 in
              let high = new.1 in
              absurd (omega (arith, low, high))
          | inr later ↦ found size (λ other h. there copy other size t (on copy other (length ahead) t.n later h))
        ]

  -- back to the first of the chain
  first_of : (from : ℕ) (chain : List ℕ) (handle : ℕ) → Linked (WasCopied start steps) from chain handle → (size : ℕ) → Known handle size → Known from size
  first_of from [] handle same size t = subst (λ (q : ℕ). Known q size) (sym same) t
  first_of from (next ∷ rest) handle linked size t = link from next linked.0 size (first_of next rest handle linked.1 size t)

  -- a Grant tells a size that was known
  granted_known : (handle version size : ℕ) → IsSizeGranted (after_events (new_world config servers clients) steps).sent handle version size → Known handle size
  granted_known handle version size g =
      elim (holds_after u (λ e x. IsOldOrNew u handle version size g.0 g.1 g.3 g.4 g.5 g.6 x) (granted_by u handle version size g.0 g.1 g.3 g.4 g.5 g.6) (h.step).0 (h.step).1 h.sent_is) [
        | inl old ↦ absurd (let low = place_below u.sent g.0 g.1 old in let late = h.unsent in omega (arith, low, late))
        | inr now ↦ record {
          n = length h.before;
          has = subst (λ (w : WorldState). HasSize w handle size) (sym (same_world h.before (h.step ∷ h.after) h.steps_are))
              (had_size config servers clients u (h.before, refl) (h.step).0 (h.step).1 handle version size now g.0 g.1 h.sent_is g.3 g.4 g.5 g.6);
        }
      ]
    where
      h : SentIn (new_world config servers clients) steps g.0 g.1
      h = sent_in (new_world config servers clients) steps g.0 g.1 (omega arith) g.2

      u : WorldState
      u = after_events (new_world config servers clients) h.before

  -- so does a location that was told
  told_known : IsTrue (after_events (new_world config servers clients) steps).observer.are_clocks_kept → (client file : ℕ) (l : Location) (place : ℕ)
      → IsToldAt (after_events (new_world config servers clients) steps).sent client file l place → Known l.handle.0 l.shape.chunk
  told_known clocks client file l place t =
      record { n = length h.before; has = subst (λ (w : WorldState). HasSize w l.handle.0 l.shape.chunk) (sym (same_world h.before (h.step ∷ h.after) h.steps_are)) (now.0, (now.1).row, (now.1).at, by_shape shaped) }
    where
      h : SentIn (new_world config servers clients) steps place t.told
      h = sent_in (new_world config servers clients) steps place t.told (omega arith) t.sent_is

      u : WorldState
      u = after_events (new_world config servers clients) h.before

      path : after_events u (h.step ∷ h.after) ≡ after_events (new_world config servers clients) steps
      path = sym (ap (λ (xs : List (Event × Choice)). after_events (new_world config servers clients) xs) h.steps_are ∙ after_both (new_world config servers clients) h.before (h.step ∷ h.after))

      clocks_then : IsTrue u.observer.are_clocks_kept
      clocks_then = kept_before (after_events (new_world config servers clients) steps) clocks u (h.step ∷ h.after) path

      now : IsTrue u.master.up × IsToldOf u.master.logged file l
      now =
          told_now config servers clients (after_events (new_world config servers clients) steps) (steps, refl) u (h.before, refl) clocks_then h.step h.after path client file l place t h.unsent h.sent_is

      shaped : IsShapeIn u.master.logged l.handle.0 l.shape
      shaped = told_shaped config servers clients (after_events (new_world config servers clients) steps) u (h.before, refl) clocks_then h.step client file l place t h.unsent h.sent_is

      used : l.handle.0 < u.master.logged.next_handle
      used = let rows = rowed config servers clients u (h.before, refl) now.0 in row_below u.master.logged (state_of u.master.disk) rows.same rows.tied l.handle.0 (now.1).row (now.1).at

      by_shape : IsShapeIn u.master.logged l.handle.0 l.shape → (now.1).row.shape.chunk ≡ l.shape.chunk
      by_shape (inl row) = ap (λ (x : ChunkRow). x.shape.chunk) (same_some (now.1).row row.0 (sym (now.1).at ∙ row.1)) ∙ ap (λ (s : Shape). s.chunk) row.2
      by_shape (inr new) = absurd (let low = used in let high = new.0 in omega (arith, low, high))

  source_size : (from handle : ℕ) → IsSource (WasCopied (new_world config servers clients) steps) from handle → (version later size other : ℕ)
      → IsSizeGranted (after_events (new_world config servers clients) steps).sent from version size → IsSizeGranted (after_events (new_world config servers clients) steps).sent handle later other → size ≡ other
  source_size from handle source version later size other first second =
      once from size other (granted_known from version size first) (first_of from source.0 handle source.1 other (granted_known handle later other second))

  least : (handle size : ℕ) → Known handle size → 64 ≤ size
  least handle size t = has_least config servers clients (W t.n) (take t.n steps, refl) handle size t.has

-- a list begins with its first ones
begins_with : (n : ℕ) (xs : List (Event × Choice)) → (more : List (Event × Choice)) × (xs ≡ take n xs ++ more)
begins_with zero xs = (xs, refl)
begins_with (suc n) [] = ([], refl)
begins_with (suc n) (x ∷ xs) = let rest = begins_with n xs in (rest.0, ap (λ (zs : List (Event × Choice)). x ∷ zs) rest.1)

-- where a chunk was granted, a file had this size before, at a master that was up
pub granted_by_file : (config : Config) (servers clients : ℕ) (w : WorldState) → IsReached config servers clients w → IsTrue w.observer.are_clocks_kept → (handle version size : ℕ) → IsSizeGranted w.sent handle version size
    → (u : WorldState) × IsReached config servers clients u × IsTrue u.observer.are_clocks_kept × IsTrue u.master.up × (file : ℕ) × HasFile u.master.logged.table.files file × ((shape_of u.master.logged.table file).chunk ≡ size)
granted_by_file config servers clients w r clocks handle version size granted =
    (u, reached, kept_before w clocks u more.0 path, (known.has).0, of.0, of.1, sym (ap (λ (s : Shape). s.chunk) of.2) ∙ (known.has).3)
  where
    known : Known config servers clients r.0 handle size
    known = granted_known config servers clients r.0 handle version size (subst (λ (v : WorldState). IsSizeGranted v.sent handle version size) (sym r.1) granted)

    u : WorldState
    u = after_events (new_world config servers clients) (take known.n r.0)

    reached : IsReached config servers clients u
    reached = (take known.n r.0, refl)

    more : (xs : List (Event × Choice)) × (r.0 ≡ take known.n r.0 ++ xs)
    more = begins_with known.n r.0

    path : after_events u more.0 ≡ w
    path = sym (ap (λ (xs : List (Event × Choice)). after_events (new_world config servers clients) xs) more.1 ∙ after_both (new_world config servers clients) (take known.n r.0) more.0) ∙ r.1

    rows : IsUpToLog IsFoundRows IsRowedLog rows_kept u.master
    rows = rowed config servers clients u reached (known.has).0

    in_log : IsUpToLog IsFoundTold IsToldLog told_kept u.master
    in_log = told config servers clients u reached (known.has).0

    of : (file : ℕ) × HasFile u.master.logged.table.files file × ((known.has).1.shape ≡ shape_of u.master.logged.table file)
    of =
        row_in_file u.master.logged rows.tied.base.counted in_log.tied.base.here in_log.tied.told handle (known.has).1 (known.has).2 (λ none. rows.tied.owned handle none)
        (λ c some. in_log.tied.base.base.base.here.copied handle c some)

pub chunks_have_one_size : ChunksHaveOneSize
chunks_have_one_size config servers clients w r handle version later size other first second =
    let one = granted_known config servers clients r.0 handle version size (subst (λ (v : WorldState). IsSizeGranted v.sent handle version size) (sym r.1) first) in
    let two = granted_known config servers clients r.0 handle later other (subst (λ (v : WorldState). IsSizeGranted v.sent handle later other) (sym r.1) second) in
    (once config servers clients r.0 handle size other one two, least config servers clients r.0 handle size one)

pub copies_have_their_sources_size : CopiesHaveTheirSourcesSize
copies_have_their_sources_size config servers clients steps from handle source version later size other first second = source_size config servers clients steps from handle source version later size other first second

pub entries_are_of_their_chunks_size : EntriesAreOfTheirChunksSize
entries_are_of_their_chunks_size config servers clients steps handle place p at version size granted =
    let one = entry_sized config servers clients steps handle place p at in
    let same : one.1 ≡ size = source_size config servers clients steps one.0 handle one.4 p.entry.round version one.1 size one.2 granted in (
      one.0,
      subst (λ (n : ℕ). IsSizeGranted (after_events (new_world config servers clients) steps).sent one.0 p.entry.round n) same one.2,
      subst (λ (n : ℕ). LiesWithin (min n config.chunk) p.entry.mutation) same one.3,
    )

pub told_shapes_have_the_granted_size : ToldShapesHaveTheGrantedSize
told_shapes_have_the_granted_size config servers clients w r clocks client file l place told_at version size granted =
    once config servers clients r.0 l.handle.0 l.shape.chunk size
    (told_known config servers clients r.0 (subst (λ (v : WorldState). IsTrue v.observer.are_clocks_kept) (sym r.1) clocks) client file l place (subst (λ (v : WorldState). IsToldAt v.sent client file l place) (sym r.1) told_at))
    (granted_known config servers clients r.0 l.handle.0 version size (subst (λ (v : WorldState). IsSizeGranted v.sent l.handle.0 version size) (sym r.1) granted))
