-- Orders that give a version go to the servers of its one attempt, which are the members of its Grant.
use Rattle.std.proofs.Common.{◌≡◌, ◌⊎◌, ℕ, suc, ◌<◌, Bool, true, false, List, [], ◌∷◌, ◌++◌, take, drop, Some, None, refl, sym, ap, subst, ◌∙◌, inl, inr, arith}
use Rattle.std.specs.Prelude.{◌==◌, ◌&&◌, ◌||◌, nat_lt, IsTrue}
use Rattle.std.specs.Ordering.{nat_cmp}
use Rattle.std.specs.FinMap as table
use Rattle.std.proofs.lemmas.Bool.{eqb-true, or_left, or_right, true≢false}
use Rattle.gfs_types.specs.declared.config.Config.{Config}
use Rattle.gfs_types.specs.declared.ids.OrderNo.{OrderNo}
use Rattle.gfs_types.specs.declared.ids.Moment.{Moment}
use Rattle.gfs_types.specs.declared.ids.Node.TheVariants as node
use Rattle.messages.specs.declared.event.NodeInput.{NodeInput}
use Rattle.messages.specs.declared.message.Body.{Body}
use Rattle.messages.specs.declared.message.Body.TheVariants as body
use Rattle.messages.specs.declared.message.Message.{Message}
use Rattle.log_records.specs.declared.record.Record.{Record}
use Rattle.log_records.specs.declared.record.Record.TheVariants as log
use Rattle.relaxed_file.proofs.NamesTree.{Tree}
use Rattle.protocol.specs.Choice.{Choice, Ending, Goes, Lost, Stops, in_order}
use Rattle.protocol.specs.Seen.{Taken, no_step}
use Rattle.protocol.specs.Sending.{message, the_server, handle_of, version_of, moment_of, order_number}
use Rattle.gfs_types.specs.declared.ids.FileId.{FileId}
use Rattle.gfs_types.specs.declared.ids.Handle.{Handle}
use Rattle.gfs_types.specs.declared.ids.Version.{Version}
use Rattle.chunk_table.specs.ChunkTable.{ChunkRow, chunk_of}
use Rattle.laws_base.proofs.ChunkRows.{rows_of}
use Rattle.protocol.specs.Tables.{removed_all, has_number, with_number, rising}
use Rattle.protocol.specs.Logged.{Logged, LogDisk, LogChange, AppendRecord, WriteCheckpoint, log_changed, log_changed_by_all, after_record, checkpoint_of, copies_given_up, all_copies_given_up}
use Rattle.protocol.specs.Master.{MasterState, MasterDoing, VersionAttempt, stopped_master, master_begins, writes_checkpoint}
use Rattle.protocol.specs.MasterStep.{master_at, master_goes, master_ends, master_bounded, master_step, is_within_limits, may_end, found_log, started_master, opening, has_opened, opens_as}
use Rattle.protocol.specs.World.{WorldState, stamped, IsReached}
use Rattle.laws_base.proofs.Steps.{on_cond, none_some, same_some, same_or_not, put_cases, gone_split, removed_cases}
use Rattle.laws_base.proofs.Entries.{same_number}
use Rattle.laws_base.proofs.Words.{no_order}
use Rattle.laws_base.proofs.LeaseOrders.{SaysGrant, says_grant, moved_grant, not_said, grant_handle, grant_version, grant_members, revoke_order}
use Rattle.laws_base.proofs.MasterMoves.{Core, core_of, NoneEnded, core_changed, core_appended, core_ended, core_granted, grant_record, IsDue, IsNoGrantRecord, IsPlainOrder, logs_alone, plain_nothing, unordered_plain, granted_order}
use Rattle.laws_base.proofs.MessagesSent.{IsSent, sent_before, sent_cases, none_sent, numbered_sent, step_sent}
use Rattle.laws_base.proofs.MembersRecorded.{all_at}
use Rattle.laws_base.proofs.ClientMoves.{HasNoOrder}
use Rattle.laws_base.proofs.SentReached.{without_order, IsKeptBySent, sent_reached}
use Rattle.laws_base.proofs.OrderNumbers.{state_of, state-appended, AllStops, stops_push, AllFound, found_same, found_stopped}
use Rattle.laws_base.proofs.LoggedParts.{Parts}
use Rattle.laws_base.proofs.NamesReached.{IsGood, IsUpToLog, IsLogged, opening_first, opening_naming}
use Rattle.laws_base.proofs.RowsLogged.{IsFoundRows, IsRowedLog}
use Rattle.laws_base.proofs.RowsKept.{rows_kept}
use Rattle.laws_base.proofs.GrantsOnce.{row_below}
use Rattle.laws_base.proofs.RevokesNumbered.{one_more}
use Rattle.laws_base.proofs.GrantedIssued.{IsIssued}
use Rattle.laws_base.specs.Given.{version_given}
use Rattle.laws_base.proofs.Awaited.{Attempts}
use Rattle.laws_base.proofs.MasterActs.{IsRowing, rowing_keeps, Waits, Acts}
use Rattle.laws_base.proofs.WaitsKept.{WaitsHere, any_input, IsOfWaits, waits_kept}
use Rattle.laws_base.proofs.ActsOfSteps.{goes_acts}
use Rattle.laws_base.proofs.IssuedNumbers.{IsPassed, IsLogPassed, passed_after, passed_grant, passed_ended, passed_less, passed_checkpoint, passed_issue, passed_copy, started_passed}
use Rattle.laws_versions.specs.GivenVersions.{IsToOneOf, MembersAloneAreGivenAVersion, AttemptsAreGivenToTheirServers}

-- numbers in rising order are those of the list

new_number : (ns : List ℕ) (n : ℕ) → has_number (with_number ns n) n ≡ true
new_number [] n = or_left (n == n) false (same_number n)
new_number (x ∷ ns) n =
    on_cond (λ (l : List ℕ). has_number l n ≡ true) (x == n) (x ∷ ns) _ (λ same. or_left (x == n) (has_number ns n) same)
    (λ _. on_cond (λ (l : List ℕ). has_number l n ≡ true) (nat_lt n x) (n ∷ x ∷ ns) (x ∷ with_number ns n) (λ _. or_left (n == n) (has_number (x ∷ ns) n) (same_number n))
    (λ _. or_right (x == n) (has_number (with_number ns n) n) (new_number ns n)))

old_number : (ns : List ℕ) (new n : ℕ) → has_number ns n ≡ true → has_number (with_number ns new) n ≡ true
old_number [] new n h = absurd (true≢false (sym h))
old_number (x ∷ ns) new n h =
    on_cond (λ (l : List ℕ). has_number l n ≡ true) (x == new) (x ∷ ns) _ (λ _. h)
    (λ _. on_cond (λ (l : List ℕ). has_number l n ≡ true) (nat_lt new x) (new ∷ x ∷ ns) (x ∷ with_number ns new) (λ _. or_right (new == n) (has_number (x ∷ ns) n) h)
    (λ _. by_first (λ g. old_number ns new n g) (x == n) refl))
  where
    by_first : (has_number ns n ≡ true → has_number (with_number ns new) n ≡ true) → (b : Bool) → (x == n) ≡ b → has_number (x ∷ with_number ns new) n ≡ true
    by_first rest true e = or_left (x == n) (has_number (with_number ns new) n) e
    by_first rest false e = or_right (x == n) (has_number (with_number ns new) n) (rest (sym (ap (λ (b : Bool). b || has_number ns n) e) ∙ h))

rising_number : (ns : List ℕ) (n : ℕ) → has_number ns n ≡ true → has_number (rising ns) n ≡ true
rising_number [] n h = h
rising_number (x ∷ ns) n h = by_first (λ g. rising_number ns n g) (x == n) refl
  where
    by_first : (has_number ns n ≡ true → has_number (rising ns) n ≡ true) → (b : Bool) → (x == n) ≡ b → has_number (with_number (rising ns) x) n ≡ true
    by_first rest true e = subst (λ (k : ℕ). has_number (with_number (rising ns) x) k ≡ true) (eqb-true x n e) (new_number (rising ns) x)
    by_first rest false e = old_number (rising ns) x n (rest (sym (ap (λ (b : Bool). b || has_number ns n) e) ∙ h))

module _ (handle version : ℕ) where
  -- an order that gives the version
  abbrev pub IsGiven : Body → Type 0
  IsGiven b = version_given b ≡ Some (handle, version)

  -- a Grant of the version
  abbrev pub IsGrant : List ℕ → Body → Type 0
  IsGrant members b = (order : OrderNo) × (end_moment : Moment) × (SaysGrant order (handle_of handle) (version_of version) end_moment members b)

  abbrev pub IsWord : Body → Type 0
  IsWord b = IsGiven b ⊎ ((members : List ℕ) × IsGrant members b)

  -- each order that gives the version went to one of these servers
  abbrev pub AreGivenTo : List ℕ → List Message → Type 0
  AreGivenTo servers ms = (m : Message) → IsSent ms m → IsGiven m.body → IsToOneOf servers m

  abbrev pub AreUngranted : List Message → Type 0
  AreUngranted ms = (m : Message) → IsSent ms m → (members : List ℕ) → IsGrant members m.body → ⊥

  abbrev pub AreGrantedTo : List Message → Type 0
  AreGrantedTo ms = (m : Message) → IsSent ms m → (members : List ℕ) → IsGrant members m.body → AreGivenTo members ms

  -- each word of some messages is among others
  abbrev AreAmong : List Message → List Message → Type 0
  AreAmong less ms = (m : Message) → IsSent less m → IsWord m.body → (x : Message) × IsSent ms x × (x.receiver ≡ m.receiver) × (x.body ≡ m.body)

  to_same : (servers : List ℕ) (x m : Message) → x.receiver ≡ m.receiver → IsToOneOf servers x → IsToOneOf servers m
  to_same servers x m same to = (to.0, sym same ∙ to.1, to.2)

  given_among : (servers : List ℕ) (less ms : List Message) → AreAmong less ms → AreGivenTo servers ms → AreGivenTo servers less
  given_among servers less ms among h m s g = let was = among m s (inl g) in to_same servers was.0 m was.2 (h was.0 was.1 (ap version_given was.3 ∙ g))

  grant_same : (members : List ℕ) (x m : Message) → x.body ≡ m.body → IsGrant members m.body → IsGrant members x.body
  grant_same members x m same g = (g.0, g.1, moved_grant same g.2)

  ungranted_among : (less ms : List Message) → AreAmong less ms → AreUngranted ms → AreUngranted less
  ungranted_among less ms among h m s members g = let was = among m s (inr (members, g)) in h was.0 was.1 members (grant_same members was.0 m was.3 g)

  granted_among : (less ms : List Message) → AreAmong less ms → AreGrantedTo ms → AreGrantedTo less
  granted_among less ms among h m s members g = let was = among m s (inr (members, g)) in given_among members less ms among (h was.0 was.1 members (grant_same members was.0 m was.3 g))

  -- what is no word

  no_given : {A : Type 0} (b : Body) → version_given b ≡ None → IsGiven b → A
  no_given b none g = none_some (handle, version) (sym none ∙ g)

  no_grant : {A : Type 0} (b : Body) (members : List ℕ) → IsPlainOrder b → IsGrant members b → A
  no_grant b members plain g = not_said g.2 (plain_nothing b plain)

  no_word : (b : Body) → version_given b ≡ None → IsPlainOrder b → IsWord b → ⊥
  no_word b none plain (inl g) = no_given b none g
  no_word b none plain (inr g) = no_grant b g.0 plain g.1

  unordered_given : (b : Body) → order_number b ≡ None → version_given b ≡ None
  unordered_given (body.Create order h v) none = none_some order (sym none)
  unordered_given (body.SetVersion order h v base) none = none_some order (sym none)
  unordered_given (body.CopyLocal order h v copy copy_version) none = none_some order (sym none)
  unordered_given other none = refl

  unordered_no_word : (b : Body) → order_number b ≡ None → IsWord b → ⊥
  unordered_no_word b none word = no_word b (unordered_given b none) (unordered_plain b none) word

  same_among : (ms : List Message) → AreAmong ms ms
  same_among ms m s word = (m, s, refl, refl)

  nothing_more : (before : List Message) → AreAmong (before ++ []) before
  nothing_more before m s word = elim (sent_cases before [] m s) [ inl old ↦ (m, old, refl, refl) | inr new ↦ none_sent m new ]

  quiet_among : (sent ms : List Message) (k : ℕ) → HasNoOrder ms → AreAmong (sent ++ stamped k ms) sent
  quiet_among sent ms k quiet m s word =
      elim (sent_cases sent (stamped k ms) m s) [
        | inl old ↦ (m, old, refl, refl)
        | inr new ↦
            let was = numbered_sent k ms new.0 m new.1 in
            let none : order_number (was.0).body ≡ None = all_at (λ (x : Message). order_number x.body ≡ None) ms (was.1).0 was.0 (without_order ms quiet) (was.1).1 in
            absurd (unordered_no_word m.body (ap order_number (sym was.2.2) ∙ none) word)
      ]

  step_among : (sent : List Message) (k : ℕ) (order : List ℕ) (ms : List Message) → AreAmong (sent ++ stamped k (in_order order ms)) (sent ++ ms)
  step_among sent k order ms m s word = let was = step_sent sent k order ms m s in (was.0, was.1, was.2.1, was.2.2)

  -- the state and the disk say that the number was issued
  abbrev ArePassed : Logged → LogDisk → Type 0
  ArePassed l d = IsPassed handle version l × IsLogPassed handle version d

  -- an attempt of the version
  record IsTried (ms : List Message) (l : Logged) (d : LogDisk) (a : VersionAttempt) : Type 0 where
    passed : ArePassed l d
    given : AreGivenTo a.servers ms
    ungranted : AreUngranted ms

  abbrev AreTried : List Message → Logged → LogDisk → Attempts → Type 0
  AreTried ms l d attempts = (a : VersionAttempt) → table.get attempts handle ≡ Some a → a.version ≡ version → IsTried ms l d a

  -- a step so far, with what was sent before it
  record IsGiving (before : List Message) (start : LogDisk) (c : Core) (attempts : Attempts) : Type 0 where
    words : (m : Message) → IsSent (before ++ c.sent) m → IsWord m.body → ArePassed c.logged c.disk
    stops : (m : Message) → IsSent before m → IsWord m.body → AllStops (IsLogPassed handle version) start c.changes
    tried : AreTried (before ++ c.sent) c.logged c.disk attempts
    granted : AreGrantedTo (before ++ c.sent)

  module _ (before : List Message) (start : LogDisk) where
    -- attempts that were there
    abbrev AreFrom : Attempts → Attempts → Type 0
    AreFrom attempts left = (a : VersionAttempt) → table.get left handle ≡ Some a → table.get attempts handle ≡ Some a

    fewer : (c : Core) (attempts left : Attempts) → AreFrom attempts left → IsGiving before start c attempts → IsGiving before start c left
    fewer c attempts left from h = record { words = h.words; stops = h.stops; tried = λ a is same. h.tried a (from a is) same; granted = h.granted }

    -- the disk and the state change together
    changed : (c : Core) (attempts left : Attempts) (x : LogChange) (l : Logged) → log_changed_by_all start c.changes ≡ c.disk → (ArePassed c.logged c.disk → ArePassed l (log_changed c.disk x))
        → AreFrom attempts left → IsGiving before start c attempts → IsGiving before start (record (core_changed c x) { logged = l }) left
    changed c attempts left x l disk f from h =
        record {
          words = λ m s word. f (h.words m s word);
          stops = λ m s word. stops_push (IsLogPassed handle version) start c.changes x (h.stops m s word)
              (subst (λ (d : LogDisk). IsLogPassed handle version (log_changed d x)) (sym disk) (f (h.words m (sent_before before c.sent m s) word)).1);
          tried = λ a is same. let t = h.tried a (from a is) same in record { passed = f t.passed; given = t.given; ungranted = t.ungranted };
          granted = h.granted;
        }

    -- the state alone changes
    quieter : (c : Core) (attempts left : Attempts) (l : Logged) → (IsPassed handle version c.logged → IsPassed handle version l) → AreFrom attempts left → IsGiving before start c attempts → IsGiving before start (record c { logged = l }) left
    quieter c attempts left l f from h =
        record {
          words = λ m s word. let p = h.words m s word in (f p.0, p.1);
          stops = h.stops;
          tried = λ a is same. let t = h.tried a (from a is) same in record { passed = (f t.passed.0, t.passed.1); given = t.given; ungranted = t.ungranted };
          granted = h.granted;
        }

    -- one message more
    more_among : (c : Core) (m : Message) → (IsWord m.body → ⊥) → AreAmong (before ++ (c.sent ++ m ∷ [])) (before ++ c.sent)
    more_among c m none x s word =
        elim (one_more before c.sent m x s) [
          | inl old ↦ (x, old, refl, refl)
          | inr same ↦ absurd (none (subst (λ (y : Message). IsWord y.body) (sym same) word))
        ]

    sends : (c : Core) (attempts : Attempts) (m : Message) (count : ℕ) → (IsWord m.body → ⊥) → IsGiving before start c attempts → IsGiving before start (record c { sent = c.sent ++ m ∷ []; order_count = count }) attempts
    sends c attempts m count none h =
        let ms : List Message = before ++ c.sent in
        let more : List Message = before ++ (c.sent ++ m ∷ []) in
        let among : AreAmong more ms = more_among c m none in
        record {
          words = λ x s word. let was = among x s word in h.words was.0 was.1 (subst (λ (b : Body). IsWord b) (sym was.3) word);
          stops = h.stops;
          tried = λ a is same. let t = h.tried a is same in record { passed = t.passed; given = given_among a.servers more ms among t.given; ungranted = ungranted_among more ms among t.ungranted };
          granted = granted_among more ms among h.granted;
        }

    -- an order that gives the version to a server of its attempt
    gave_own : (c : Core) (attempts : Attempts) (server : ℕ) (a : VersionAttempt) (m : Message) (count : ℕ) → m.receiver ≡ the_server server → table.get attempts handle ≡ Some a → a.version ≡ version → has_number a.servers server ≡ true
        → IsPlainOrder m.body → IsGiving before start c attempts → IsGiving before start (record c { sent = c.sent ++ m ∷ []; order_count = count }) attempts
    gave_own c attempts server a m count to at same has plain h =
        let t : IsTried (before ++ c.sent) c.logged c.disk a = h.tried a at same in
        let none : AreUngranted (before ++ (c.sent ++ m ∷ [])) = λ x s members g.
        elim (one_more before c.sent m x s) [
          | inl old ↦ t.ungranted x old members g
          | inr now ↦ no_grant m.body members plain (grant_same members m x (ap (λ (y : Message). y.body) now) g)
        ] in
        record {
          words = λ x s word. t.passed;
          stops = h.stops;
          tried = λ b is also.
              let one : a ≡ b = same_some a b (sym at ∙ is) in
              record {
                passed = t.passed;
                given = λ x s g.
                    elim (one_more before c.sent m x s) [
                      | inl old ↦ subst (λ (y : VersionAttempt). IsToOneOf y.servers x) one (t.given x old g)
                      | inr now ↦ subst (λ (y : VersionAttempt). IsToOneOf y.servers x) one (server, ap (λ (y : Message). y.receiver) (sym now) ∙ to, has)
                    ];
                ungranted = none;
              };
          granted = λ x s members g. absurd (none x s members g);
        }

    key_of : (k v : ℕ) (b : Body) → version_given b ≡ Some (k, v) → IsGiven b → (k ≡ handle) × (v ≡ version)
    key_of k v b is g = let same = same_some (k, v) (handle, version) (sym is ∙ g) in (ap (λ (p : ℕ × ℕ). p.0) same, ap (λ (p : ℕ × ℕ). p.1) same)

    gave : (c : Core) (attempts : Attempts) (server chunk : ℕ) (a : VersionAttempt) (m : Message) (count : ℕ) → m.receiver ≡ the_server server → table.get attempts chunk ≡ Some a → has_number a.servers server ≡ true → IsPlainOrder m.body
        → version_given m.body ≡ Some (chunk, a.version) → IsGiving before start c attempts → IsGiving before start (record c { sent = c.sent ++ m ∷ []; order_count = count }) attempts
    gave c attempts server chunk a m count to at has plain given h =
        elim (same_or_not chunk handle) [
          | inl key ↦ elim (same_or_not a.version version) [
            | inl same ↦ gave_own c attempts server a m count to (ap (λ (k : ℕ). table.get attempts k) (sym key) ∙ at) same has plain h
            | inr other ↦ sends c attempts m count (not_word (λ g. other (key_of chunk a.version m.body given g).1)) h
          ]
          | inr other ↦ sends c attempts m count (not_word (λ g. other (key_of chunk a.version m.body given g).0)) h
        ]
      where
        not_word : (IsGiven m.body → ⊥) → IsWord m.body → ⊥
        not_word none (inl g) = none g
        not_word none (inr g) = no_grant m.body g.0 plain g.1

    -- a new attempt, of a number that was not issued before
    began : (c d : Core) (attempts : Attempts) (chunk : ℕ) (a : VersionAttempt) → d.sent ≡ c.sent → (chunk ≡ handle → a.version ≡ version → ArePassed d.logged d.disk × (IsPassed handle version c.logged → ⊥)) → IsGiving before start c attempts
        → IsGiving before start d attempts → IsGiving before start d (table.insert attempts chunk a)
    began c d attempts chunk a sent new old h =
        record {
          words = h.words;
          stops = h.stops;
          tried = λ b is same.
              elim (put_cases attempts chunk a handle b is) [
                | inl now ↦
                    let f = new (sym now.0) (ap (λ (x : VersionAttempt). x.version) now.1 ∙ same) in
                    let none : (m : Message) → IsSent (before ++ d.sent) m → IsWord m.body → ⊥ = λ m s word. f.1 (old.words m (subst (λ (ms : List Message). IsSent (before ++ ms) m) sent s) word).0 in
                    record { passed = f.0; given = λ m s g. absurd (none m s (inl g)); ungranted = λ m s members g. none m s (inr (members, g)) }
                | inr there ↦ h.tried b there same
              ];
          granted = h.granted;
        }

    recorded : (c : Core) (attempts : Attempts) (chunk : ℕ) (a b : VersionAttempt) → table.get attempts chunk ≡ Some a → b.version ≡ a.version → b.servers ≡ a.servers → IsGiving before start c attempts → IsGiving before start c (table.insert attempts chunk b)
    recorded c attempts chunk a b at same servers h =
        record {
          words = h.words;
          stops = h.stops;
          tried = λ x is also.
              elim (put_cases attempts chunk b handle x is) [
                | inl now ↦
                    let t = h.tried a (ap (λ (k : ℕ). table.get attempts k) now.0 ∙ at) (sym same ∙ ap (λ (y : VersionAttempt). y.version) now.1 ∙ also) in
                    let all : a.servers ≡ x.servers = sym servers ∙ ap (λ (y : VersionAttempt). y.servers) now.1 in
                    record { passed = t.passed; given = λ m s g. subst (λ (ns : List ℕ). IsToOneOf ns m) all (t.given m s g); ungranted = t.ungranted }
                | inr there ↦ h.tried x there also
              ];
          granted = h.granted;
        }

    -- a Grant goes to the servers of its attempt
    granted_own : (c d : Core) (attempts left : Attempts) (a : VersionAttempt) (m : Message) (count : ℕ) (members : List ℕ) → d.sent ≡ c.sent → IsTried (before ++ c.sent) d.logged d.disk a → rising a.servers ≡ members
        → version_given m.body ≡ None → ((ns : List ℕ) → IsGrant ns m.body → members ≡ ns) → ((b : VersionAttempt) → table.get left handle ≡ Some b → ⊥)
        → IsGiving before start d left → IsGiving before start (record d { sent = d.sent ++ m ∷ []; order_count = count }) left
    granted_own c d attempts left a m count members sent t all none one gone h =
        let given : AreGivenTo members (before ++ (d.sent ++ m ∷ [])) = λ x s g.
        elim (one_more before d.sent m x s) [
          | inl old ↦
              let to : IsToOneOf a.servers x = t.given x (subst (λ (ms : List Message). IsSent (before ++ ms) x) sent old) g in
              (to.0, to.1, subst (λ (ns : List ℕ). has_number ns to.0 ≡ true) all (rising_number a.servers to.0 to.2))
          | inr now ↦ no_given m.body none (ap (λ (y : Message). version_given y.body) now ∙ g)
        ] in
        record {
          words = λ x s word. t.passed;
          stops = h.stops;
          tried = λ b is same. absurd (gone b is);
          granted = λ x s ns g.
              elim (one_more before d.sent m x s) [
                | inl old ↦ absurd (t.ungranted x (subst (λ (ms : List Message). IsSent (before ++ ms) x) sent old) ns g)
                | inr now ↦ subst (λ (k : List ℕ). AreGivenTo k (before ++ (d.sent ++ m ∷ []))) (one ns (grant_same ns m x (ap (λ (y : Message). y.body) now) g)) given
              ];
        }

    appended : (c : Core) (attempts : Attempts) (r : Record) → IsDue (Unit {0}) c.logged r → IsNoGrantRecord r → IsRowing start c → IsGiving before start c attempts → IsGiving before start (core_appended c r) attempts
    appended c attempts r due plain n h =
        changed c attempts attempts (AppendRecord r) (after_record c.logged r) n.disk
        (λ p. (passed_after handle version c.logged c.logged r due plain p.0 p.0, subst (λ (k : Logged). IsPassed handle version k) (sym (state-appended c.disk r)) (passed_after handle version c.logged (state_of c.disk) r due plain p.0 p.1)))
        (λ a is. is) h

    checkpointed : (c : Core) (attempts : Attempts) → Tree c.logged.names → IsRowing start c → IsGiving before start c attempts
        → IsGiving before start (record (core_changed c (WriteCheckpoint (checkpoint_of c.logged))) { logged = all_copies_given_up c.logged }) (removed_all attempts (table.keys c.logged.copies))
    checkpointed c attempts tree n h =
        changed c attempts (removed_all attempts (table.keys c.logged.copies)) (WriteCheckpoint (checkpoint_of c.logged)) (all_copies_given_up c.logged) n.disk
        (λ p. passed_checkpoint handle version c.logged c.disk n.same tree n.tied p.0)
        (λ a is. removed_cases attempts (table.keys c.logged.copies) handle a is) h

    ended : (c : Core) (attempts : Attempts) (chunk moment : ℕ) → IsGiving before start c attempts → IsGiving before start (core_ended c chunk moment) attempts
    ended c attempts chunk moment h = quieter c attempts attempts (core_ended c chunk moment).logged (passed_ended handle version c.logged chunk moment) (λ a is. is) h

    next_same : (c : Core) → IsRowing start c → c.logged.next_handle ≡ (state_of c.disk).next_handle
    next_same c n = ap (λ (p : Parts). p.next_handle) n.same

    issued : (c : Core) (attempts : Attempts) (chunk : ℕ) (row : ChunkRow) (a : VersionAttempt) → chunk_of c.logged.table chunk ≡ Some row → a.version ≡ suc row.issued → IsRowing start c → IsGiving before start c attempts
        → IsGiving before start (core_appended c (log.Issue (handle_of chunk) (version_of a.version))) attempts → IsGiving before start (core_appended c (log.Issue (handle_of chunk) (version_of a.version))) (table.insert attempts chunk a)
    issued c attempts chunk row a is next n old h =
        let r : Record = log.Issue (handle_of chunk) (version_of a.version) in
        let low : chunk < c.logged.next_handle = row_below c.logged (state_of c.disk) n.same n.tied chunk row is in
        let log_low : chunk < (state_of c.disk).next_handle = let same = next_same c n in omega (arith, low, same) in
        began c (core_appended c r) attempts chunk a refl
        (λ key same. (
          (
            passed_issue handle version c.logged chunk a.version key same low,
            subst (λ (k : Logged). IsPassed handle version k) (sym (state-appended c.disk r)) (passed_issue handle version (state_of c.disk) chunk a.version key same log_low),
          ),
          λ p. let bound = p.1 row (ap (λ (k : ℕ). table.get (rows_of c.logged) k) (sym key) ∙ is) in omega (arith, bound, next, same),
        )) old h

    copied : (c : Core) (attempts : Attempts) (file : FileId) (index : ℕ) (source : Handle) (copy : ℕ) (a : VersionAttempt) → copy ≡ c.logged.next_handle → IsRowing start c → IsGiving before start c attempts
        → IsGiving before start (core_appended c (log.CopyStart file index source (handle_of copy) (version_of a.version))) attempts
        → IsGiving before start (core_appended c (log.CopyStart file index source (handle_of copy) (version_of a.version))) (table.insert attempts copy a)
    copied c attempts file index source copy a next n old h =
        let r : Record = log.CopyStart file index source (handle_of copy) (version_of a.version) in
        began c (core_appended c r) attempts copy a refl
        (λ key same. (
          (
            passed_copy handle version c.logged file index source copy a.version key same,
            subst (λ (k : Logged). IsPassed handle version k) (sym (state-appended c.disk r)) (passed_copy handle version (state_of c.disk) file index source copy a.version key same),
          ),
          λ p. let low = p.0 in omega (arith, low, key, next),
        )) old h

    granted_to : (c : Core) (attempts : Attempts) (chunk : ℕ) (a : VersionAttempt) (until primary : ℕ) (members : List ℕ) → table.get attempts chunk ≡ Some a → rising a.servers ≡ members → IsDue (Unit {0}) c.logged (grant_record chunk a.version primary members)
        → IsRowing start c → IsGiving before start c attempts → IsGiving before start (core_granted c chunk a.version until primary members) (table.remove attempts chunk)
    granted_to c attempts chunk a until primary members at all due n h = by_key (same_or_not chunk handle) (same_or_not a.version version)
      where
        r : Record
        r = grant_record chunk a.version primary members

        left : Attempts
        left = table.remove attempts chunk

        d : Core
        d = core_ended (core_appended c r) chunk until

        m : Message
        m = message node.Master (the_server primary) (granted_order c chunk a.version until primary members (record { epoch = d.logged.epoch; count = suc d.order_count }))

        later : ArePassed c.logged c.disk → ArePassed d.logged d.disk
        later p = (
          passed_ended handle version (after_record c.logged r) chunk until (passed_grant handle version c.logged c.logged chunk a.version primary members due p.0),
          subst (λ (k : Logged). IsPassed handle version k) (sym (state-appended c.disk r)) (passed_grant handle version c.logged (state_of c.disk) chunk a.version primary members due p.1),
        )

        two : IsGiving before start d left
        two =
            ended (core_appended c r) left chunk until
            (changed c attempts left (AppendRecord r) (after_record c.logged r) n.disk
            (λ p. (
              passed_grant handle version c.logged c.logged chunk a.version primary members due p.0,
              subst (λ (k : Logged). IsPassed handle version k) (sym (state-appended c.disk r)) (passed_grant handle version c.logged (state_of c.disk) chunk a.version primary members due p.1),
            ))
            (λ b is. (gone_split attempts chunk handle b is).1) h)

        by_key : (chunk ≡ handle) ⊎ (chunk ≡ handle → ⊥) → (a.version ≡ version) ⊎ (a.version ≡ version → ⊥) → IsGiving before start (core_granted c chunk a.version until primary members) left
        by_key (inl key) (inl same) =
            let t : IsTried (before ++ c.sent) c.logged c.disk a = h.tried a (ap (λ (k : ℕ). table.get attempts k) (sym key) ∙ at) same in
            granted_own c d attempts left a m (suc d.order_count) members refl (record { passed = later t.passed; given = t.given; ungranted = t.ungranted }) all refl (λ ns g. ap grant_members g.2.says)
            (λ b is. (gone_split attempts chunk handle b is).0 (sym key)) two
        by_key (inl key) (inr other) = sends d left m (suc d.order_count) (not_word (λ ns g. other (ap grant_version g.2.says))) two
          where
            not_word : ((ns : List ℕ) → IsGrant ns m.body → ⊥) → IsWord m.body → ⊥
            not_word none (inl g) = no_given m.body refl g
            not_word none (inr g) = none g.0 g.1
        by_key (inr other) v = sends d left m (suc d.order_count) (not_word (λ ns g. other (ap grant_handle g.2.says))) two
          where
            not_word : ((ns : List ℕ) → IsGrant ns m.body → ⊥) → IsWord m.body → ⊥
            not_word none (inl g) = no_given m.body refl g
            not_word none (inr g) = none g.0 g.1

    abbrev Giving : Core → Attempts → Waits → Type 0
    Giving c attempts ss = IsGiving before start c attempts

    giving_acts : Acts start NoneEnded (IsRowing start) Giving
    giving_acts =
        record {
          tells = λ c attempts ss receiver b quiet h. sends c attempts _ c.order_count (unordered_no_word b (no_order b quiet)) h;
          orders = λ c attempts ss server b is plain none h. sends c attempts _ (suc c.order_count) (no_word (b _) (none _) (plain _)) h;
          gives = λ c attempts ss server chunk a b at has plain given h. gave c attempts server chunk a _ (suc c.order_count) refl at has (plain _) (given _) h;
          revokes = λ c attempts ss chunk row is h. sends c attempts _ (suc c.order_count) (revoke_no_word chunk row _) h;
          appends = λ c attempts ss r due plain beside n after h. appended c attempts r due plain n h;
          checkpoint = λ c attempts ss tree n after h. checkpointed c attempts tree n h;
          less = λ c attempts ss handles copied n h. quieter c attempts (removed_all attempts handles) (copies_given_up c.logged handles) (passed_less handle version c.logged handles) (λ a is. removed_cases attempts handles handle a is) h;
          fewer = λ c attempts left ss from h. fewer c attempts left (λ a is. from handle a is) h;
          waits = λ c attempts ss more h. h;
          issues = λ c attempts ss chunk row a is next alone n old h. issued c attempts chunk row a is next n old h;
          copies = λ c attempts ss file index source copy a next n old h. copied c attempts file index source copy a next n old h;
          records = λ c attempts ss chunk a b at same servers h. recorded c attempts chunk a b at same servers h;
          grants = λ c attempts ss chunk a until primary members at all due n after h. granted_to c attempts chunk a until primary members at all due n h;
          ends = λ c attempts ss chunk row is word n h. ended c attempts chunk 0 h;
          extends = λ c attempts ss chunk until row is lasts n h. sends (core_ended c chunk until) attempts _ c.order_count (extend_no_word (handle_of chunk) (version_of row.granted) (moment_of until)) (ended c attempts chunk until h);
        }
      where
        revoke_no_word : (chunk : ℕ) (row : ChunkRow) (order : OrderNo) → IsWord (revoke_order chunk row order) → ⊥
        revoke_no_word chunk row order (inl g) = no_given (revoke_order chunk row order) refl g
        revoke_no_word chunk row order (inr g) = not_said g.1.2 tt

        extend_no_word : (q : Handle) (v : Version) (end_moment : Moment) → IsWord (body.Extend q v end_moment) → ⊥
        extend_no_word q v end_moment word = no_word (body.Extend q v end_moment) refl tt word

  -- between steps

  pub record AreGiving (sent : List Message) (m : MasterState) : Type 0 where
    pub words : (x : Message) → IsSent sent x → IsWord x.body → AllFound (IsLogPassed handle version) m.disk m.under_way × (IsTrue m.up → IsPassed handle version m.logged)
    pub tried : IsTrue m.up → (a : VersionAttempt) → table.get m.attempts handle ≡ Some a → a.version ≡ version
        → IsPassed handle version m.logged × AllFound (IsLogPassed handle version) m.disk m.under_way × AreGivenTo a.servers sent × AreUngranted sent
    pub granted : AreGrantedTo sent

  among_giving : (less ms : List Message) (m : MasterState) → AreAmong less ms → AreGiving ms m → AreGiving less m
  among_giving less ms m among h =
      record {
        words = λ x s word. let was = among x s word in h.words was.0 was.1 (subst (λ (b : Body). IsWord b) (sym was.3) word);
        tried = λ up a is same. let t = h.tried up a is same in (t.0, t.1, given_among a.servers less ms among t.2, ungranted_among less ms among t.3);
        granted = granted_among less ms among h.granted;
      }

  -- one that is put down
  down_giving : (sent : List Message) (k : ℕ) (m : MasterState) (disk : LogDisk) (under_way : List LogChange) → AreGrantedTo sent → ((x : Message) → IsSent sent x → IsWord x.body → AllFound (IsLogPassed handle version) disk under_way)
      → AreGiving (sent ++ stamped k []) (stopped_master m disk under_way)
  down_giving sent k m disk under_way granted found =
      among_giving (sent ++ stamped k []) sent (stopped_master m disk under_way) (nothing_more sent)
      (record { words = λ x s word. (found x s word, λ up. absurd (true≢false (sym up))); tried = λ up a is same. absurd (true≢false (sym up)); granted = granted })

  running : (sent : List Message) (k : ℕ) (order : List ℕ) (start : LogDisk) (d : MasterDoing) → IsRowing start (core_of d) → IsGiving sent start (core_of d) d.master.attempts → AreGiving (sent ++ stamped k (in_order order d.sent)) d.master
  running sent k order start d n g =
      let found : IsLogPassed handle version d.master.disk → AllFound (IsLogPassed handle version) d.master.disk d.master.under_way =
      λ p. subst (λ (xs : List LogChange). AllFound (IsLogPassed handle version) d.master.disk xs) (sym n.none) (found_same (IsLogPassed handle version) d.master.disk p) in
      among_giving (sent ++ stamped k (in_order order d.sent)) (sent ++ d.sent) d.master (step_among sent k order d.sent)
      (record {
        words = λ x s word. let p = g.words x s word in (found p.1, λ _. p.0);
        tried = λ _ a is same. let t = g.tried a is same in (t.passed.0, found t.passed.1, t.given, t.ungranted);
        granted = g.granted;
      })

  begun : (sent : List Message) (m : MasterState) (moment : ℕ) (refused : List Bool) → IsTrue m.up → AreGiving sent m → IsGiving sent m.disk (core_of (master_begins (master_at m moment) refused)) m.attempts
  begun sent m moment refused up h =
      let among : AreAmong (sent ++ []) sent = nothing_more sent in
      record {
        words = λ x s word. let was = among x s word in let w = h.words was.0 was.1 (subst (λ (b : Body). IsWord b) (sym was.3) word) in (w.1 up, w.0 []);
        stops = λ x s word. (h.words x s word).0 [];
        tried = λ a is same.
            let t = h.tried up a is same in
            record { passed = (t.0, t.1 []); given = given_among a.servers (sent ++ []) sent among t.2; ungranted = ungranted_among (sent ++ []) sent among t.3 };
        granted = granted_among (sent ++ []) sent among h.granted;
      }

  ends_giving : (sent : List Message) (k : ℕ) (m : MasterState) (d : MasterDoing) (choice : Choice) (e : Ending) → AreGiving sent m → IsRowing m.disk (core_of d) → IsGiving sent m.disk (core_of d) d.master.attempts
      → AreGiving (sent ++ stamped k (master_ends m d choice e).out.sent) (master_ends m d choice e).state
  ends_giving sent k m d choice Goes h n g = running sent k choice.order m.disk d n g
  ends_giving sent k m d choice Lost h n g = down_giving sent k m m.disk [] h.granted (λ x s word. found_same (IsLogPassed handle version) m.disk ((h.words x s word).0 []))
  ends_giving sent k m d choice (Stops made) h n g =
      down_giving sent k m (log_changed_by_all m.disk (take made d.changes)) (take 1 (drop made d.changes)) h.granted
      (λ x s word. found_stopped (IsLogPassed handle version) m.disk d.changes made (g.stops x s word))

  step_giving : (sent : List Message) (k : ℕ) (m : MasterState) (moment : ℕ) (i : NodeInput) (choice : Choice) → IsLogged IsFoundRows IsRowedLog rows_kept m → WaitsHere m → AreGiving sent m
      → AreGiving (sent ++ stamped k (master_step m moment i choice).out.sent) (master_step m moment i choice).state
  step_giving sent k m moment i choice logged waits h =
      let d : MasterDoing = master_goes m moment i choice.refused in
      let good : Taken MasterState → Type 0 = λ t. AreGiving (sent ++ stamped k t.out.sent) t.state in
      let same : AreGiving (sent ++ stamped k []) m = among_giving (sent ++ stamped k []) sent m (nothing_more sent) h in
      on_cond good m.up (master_bounded m i d choice) (no_step m)
      (λ up. on_cond good (may_end m i d choice.ending) (master_ends m d choice choice.ending) (no_step m)
      (λ _.
      let u : IsUpToLog IsFoundRows IsRowedLog rows_kept m = logged.up up in
      let end =
      goes_acts NoneEnded (IsRowing m.disk) (Giving sent m.disk) m moment i choice.refused (rowing_keeps m.disk) (λ c n. n) (giving_acts sent m.disk) (any_input i) logged up waits
      (record { none = u.idle; disk = refl; same = u.same; tied = u.tied; stops = logged.found [] }) (begun sent m moment choice.refused up h) in
      ends_giving sent k m d choice choice.ending h end.0 end.2)
      (λ _. same))
      (λ _. same)

  -- a master that opens

  epoch_begun : (before : List Message) (start : LogDisk) (c : Core) (attempts : Attempts) (epoch : ℕ) → log_changed_by_all start c.changes ≡ c.disk → IsGiving before start c attempts → IsGiving before start (core_appended c (log.Epoch epoch)) attempts
  epoch_begun before start c attempts epoch disk h =
      changed before start c attempts attempts (AppendRecord (log.Epoch epoch)) (after_record c.logged (log.Epoch epoch)) disk
      (λ p. (p.0, subst (λ (k : Logged). IsPassed handle version k) (sym (state-appended c.disk (log.Epoch epoch))) p.1)) (λ a is. is) h

  -- each word says that the number was issued, by this log
  abbrev ArePassedBy : List Message → LogDisk → Type 0
  ArePassedBy sent d = (x : Message) → IsSent sent x → IsWord x.body → IsLogPassed handle version d

  opening_giving : (sent : List Message) (config : Config) (count : ℕ) (found : LogDisk) (moment : ℕ) → IsGood IsFoundRows IsRowedLog rows_kept found → ArePassedBy sent found → AreGrantedTo sent
      → (let d : MasterDoing = opening (started_master config count found moment) in IsGiving sent found (core_of d) d.master.attempts)
  opening_giving sent config count found moment good passed granted =
      let started : MasterState = started_master config count found moment in
      let d : MasterDoing = master_begins started [] in
      let epoch : ℕ = suc started.logged.epoch in
      let row : IsRowing found (core_of d) = opening_first IsFoundRows IsRowedLog rows_kept config count found moment good in
      let among : AreAmong (sent ++ []) sent = nothing_more sent in
      let first : IsGiving sent found (core_of d) d.master.attempts =
      record {
        words = λ x s word. let was = among x s word in let p = passed was.0 was.1 (subst (λ (b : Body). IsWord b) (sym was.3) word) in (started_passed handle version config count found moment p, p);
        stops = λ x s word. passed x s word;
        tried = λ a is same. none_some a (sym (table.get-empty nat_cmp handle) ∙ is);
        granted = granted_among (sent ++ []) sent among granted;
      } in
      let less : IsGiving sent found (core_of (writes_checkpoint d)) (writes_checkpoint d).master.attempts = checkpointed sent found (core_of d) d.master.attempts good.0 row first in
      logs_alone (λ e. IsGiving sent found (core_of e) e.master.attempts) d (log.Epoch epoch) first (epoch_begun sent found (core_of d) d.master.attempts epoch refl first) less
      (epoch_begun sent found (core_of (writes_checkpoint d)) (writes_checkpoint d).master.attempts epoch ((rowing_keeps found).checkpoint (core_of d) (λ _. good.0) row).disk less)

  opens_giving : (sent : List Message) (k : ℕ) (old : MasterState) (moment : ℕ) (choice : Choice) (e : Ending) → IsIssued old → IsLogged IsFoundRows IsRowedLog rows_kept old → AreGiving sent old
      → (let started : MasterState = started_master old.config old.server_count (found_log old choice) moment in
      AreGiving (sent ++ stamped k (opens_as old started (opening started) choice e).out.sent) (opens_as old started (opening started) choice e).state)
  opens_giving sent k old moment choice Lost issued logged h = down_giving sent k old old.disk old.under_way h.granted (λ x s word. (h.words x s word).0)
  opens_giving sent k old moment choice (Stops made) issued logged h =
      let found : LogDisk = found_log old choice in
      let d : MasterDoing = opening (started_master old.config old.server_count found moment) in
      let g : IsGiving sent found (core_of d) d.master.attempts = opening_giving sent old.config old.server_count found moment (logged.found choice.decided) (λ x s word. (h.words x s word).0 choice.decided) h.granted in
      down_giving sent k old (log_changed_by_all found (take made d.changes)) (take 1 (drop made d.changes)) h.granted (λ x s word. found_stopped (IsLogPassed handle version) found d.changes made (g.stops x s word))
  opens_giving sent k old moment choice Goes issued logged h =
      let found : LogDisk = found_log old choice in
      let started : MasterState = started_master old.config old.server_count found moment in
      let d : MasterDoing = opening started in
      let n : IsRowing found (core_of d) = (opening_naming IsFoundRows IsRowedLog rows_kept old.config old.server_count found moment (logged.found choice.decided) (issued.found choice.decided)).0 in
      let g : IsGiving sent found (core_of d) d.master.attempts = opening_giving sent old.config old.server_count found moment (logged.found choice.decided) (λ x s word. (h.words x s word).0 choice.decided) h.granted in
      on_cond (λ (t : Taken MasterState). AreGiving (sent ++ stamped k t.out.sent) t.state) (has_opened started d && is_within_limits d.master) _ _
      (λ _. running_quietly sent k found d n g)
      (λ _. down_giving sent k old d.master.disk [] h.granted (λ x s word. found_same (IsLogPassed handle version) d.master.disk (g.words x (sent_before sent d.sent x s) word).1))
    where
      -- the opening says nothing
      running_quietly : (before : List Message) (place : ℕ) (start : LogDisk) (d : MasterDoing) → IsRowing start (core_of d) → IsGiving before start (core_of d) d.master.attempts → AreGiving (before ++ stamped place []) d.master
      running_quietly before place start d n g =
          among_giving (before ++ stamped place []) (before ++ stamped place (in_order [] d.sent)) d.master
          (λ m s word. elim (sent_cases before [] m s) [ inl old ↦ (m, sent_before before (stamped place (in_order [] d.sent)) m old, refl, refl) | inr new ↦ none_sent m new ])
          (running before place [] start d n g)

  -- worlds

  record IsGivingWorld (sent : List Message) (m : MasterState) : Type 0 where
    base : IsOfWaits sent m
    giving : AreGiving sent m

  giving_kept : IsKeptBySent IsGivingWorld
  giving_kept =
      record {
        new = λ config servers.
            record {
              base = waits_kept.new config servers;
              giving = record {
                words = λ x s word. none_sent x s;
                tried = λ up a is same. none_some a (sym (table.get-empty nat_cmp handle) ∙ is);
                granted = λ x s members g. none_sent x s;
              };
            };
        quiet = λ sent ms k m quiet h. record { base = waits_kept.quiet sent ms k m quiet h.base; giving = among_giving (sent ++ stamped k ms) sent m (quiet_among sent ms k quiet) h.giving };
        steps = λ sent k m moment i choice is h. record { base = waits_kept.steps sent k m moment i choice is h.base; giving = step_giving sent k m moment i choice h.base.base.logged h.base.waits h.giving };
        restarts = λ sent k m moment choice h. record { base = waits_kept.restarts sent k m moment choice h.base; giving = opens_giving sent k m moment choice choice.ending h.base.base.issued h.base.base.logged h.giving };
      }

  pub given_reached : (config : Config) (servers clients : ℕ) (w : WorldState) → IsReached config servers clients w → AreGiving w.sent w.master
  given_reached config servers clients w r = (sent_reached IsGivingWorld giving_kept config servers clients w r).giving

pub members_alone_are_given_a_version : MembersAloneAreGivenAVersion
members_alone_are_given_a_version config servers clients w r handle version place grant order end_moment members at is other m there given =
    (given_reached handle version config servers clients w r).granted grant (place, at) members (order, end_moment, says_grant is) m (other, there) given

pub attempts_are_given_to_their_servers : AttemptsAreGivenToTheirServers
attempts_are_given_to_their_servers config servers clients w r up handle a tried place m at =
    let t = (given_reached handle a.version config servers clients w r).tried up a tried refl in (
      λ given. t.2 m (place, at) given,
      λ order end_moment members is. t.3 m (place, at) members (order, end_moment, says_grant is),
    )
