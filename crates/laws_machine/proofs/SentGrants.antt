-- Each Grant that a step of the master sends has its record among the step's changes.
use Rattle.std.proofs.Common.{◌≡◌, ℕ, ◌≤◌, Bool, true, false, List, [], ◌∷◌, ◌++◌, refl, ap, ◌∙◌, inl, inr, arith}
use Rattle.std.specs.Prelude.{◌==◌, ◌&&◌}
use Rattle.std.proofs.lemmas.Bool.{and_parts, eqb-true}
use Rattle.gfs_types.specs.declared.ids.Node.TheVariants as node
use Rattle.messages.specs.declared.message.Body.{Body}
use Rattle.messages.specs.declared.message.Message.{Message}
use Rattle.protocol.specs.Logged.{LogDisk, LogChange, AppendRecord, WriteCheckpoint, checkpoint_of}
use Rattle.protocol.specs.Sending.{message}
use Rattle.protocol.specs.Master.{MasterState}
use Rattle.laws_base.proofs.LeaseOrders.{nothing_counts}
use Rattle.laws_base.proofs.GrantsOnce.{plain_grants}
use Rattle.laws_base.specs.Laws.{is_grant, grants_of}
use Rattle.laws_base.proofs.Steps.{tally, count-cons, count-append}
use Rattle.laws_base.proofs.Words.{is_of_lease, quiet_nothing}
use Rattle.laws_base.proofs.RowsLogged.{IsFoundRows, IsRowedLog}
use Rattle.laws_base.proofs.RowsKept.{rows_kept}
use Rattle.laws_base.proofs.NamesReached.{IsUpToLog, logged_here}
use Rattle.laws_base.proofs.MasterMoves.{Core, grant_record, NoneEnded}
use Rattle.laws_base.proofs.MasterActs.{IsRowing, rowing_keeps, Waits, Acts}
use Rattle.laws_base.proofs.Awaited.{Attempts}
use Rattle.laws_base.proofs.WaitsKept.{any_input, waits_here}
use Rattle.laws_base.proofs.ActsOfSteps.{goes_acts}
use Rattle.laws_machine.specs.GrantedRecords.{IsGrantOf, HasGrantRecord, SentGrantsAreLogged}

has_stays : (xs ys : List LogChange) (handle version : ℕ) → HasGrantRecord xs handle version → HasGrantRecord (xs ++ ys) handle version
has_stays [] ys handle version has = absurd has
has_stays (x ∷ xs) ys handle version (inl now) = inl now
has_stays (x ∷ xs) ys handle version (inr later) = inr (has_stays xs ys handle version later)

has_last : (xs : List LogChange) (x : LogChange) (handle version : ℕ) → IsGrantOf x handle version → HasGrantRecord (xs ++ x ∷ []) handle version
has_last [] x handle version is = inl is
has_last (y ∷ ys) x handle version is = inr (has_last ys x handle version is)

-- a message that grants none of it
sent_before : (sent : List Message) (m : Message) (handle version : ℕ) → is_grant handle version m.body ≡ false → 1 ≤ grants_of handle version (sent ++ m ∷ []) → 1 ≤ grants_of handle version sent
sent_before sent m handle version plain some =
    let whole = count-append (λ (x : Message). is_grant handle version x.body) sent (m ∷ []) in
    let one = count-cons (λ (x : Message). is_grant handle version x.body) m [] in
    let none = ap tally plain in
    omega (arith, some, whole, one, none)

of_no_lease : (handle version : ℕ) (b : Body) → is_of_lease b ≡ false → is_grant handle version b ≡ false
of_no_lease handle version b quiet = nothing_counts handle version b (quiet_nothing b quiet)

abbrev AreRecorded : Core → Attempts → Waits → Type 0
AreRecorded c attempts ss = (handle version : ℕ) → 1 ≤ grants_of handle version c.sent → HasGrantRecord c.changes handle version

recording_acts : (start : LogDisk) → Acts start NoneEnded (IsRowing start) AreRecorded
recording_acts start =
    record {
      tells = λ c attempts ss receiver b quiet h. λ q v some. h q v (sent_before c.sent (message node.Master receiver b) q v (of_no_lease q v b quiet) some);
      orders = λ c attempts ss server b is plain none h. λ q v some. h q v (sent_before c.sent _ q v (plain_grants q v _ (plain _)) some);
      gives = λ c attempts ss server handle a b at has plain given h. λ q v some. h q v (sent_before c.sent _ q v (plain_grants q v _ (plain _)) some);
      revokes = λ c attempts ss handle row is h. λ q v some. h q v (sent_before c.sent _ q v refl some);
      appends = λ c attempts ss r due plain beside n after h. λ q v some. has_stays c.changes (AppendRecord r ∷ []) q v (h q v some);
      checkpoint = λ c attempts ss tree n after h. λ q v some. has_stays c.changes (WriteCheckpoint (checkpoint_of c.logged) ∷ []) q v (h q v some);
      less = λ c attempts ss handles copied n h. h;
      fewer = λ c attempts left ss from h. h;
      waits = λ c attempts ss more h. h;
      issues = λ c attempts ss handle row a is next alone n before h. h;
      copies = λ c attempts ss file index source copy a next n before h. h;
      records = λ c attempts ss handle a b at same servers h. h;
      grants = λ c attempts ss handle a until primary members at all due n after h. λ q v some. granted c handle a.version primary members q v _ refl (λ old. h q v old) ((handle == q) && (a.version == v)) refl some;
      ends = λ c attempts ss handle row is word n h. h;
      extends = λ c attempts ss handle until row is lasts n h. λ q v some. h q v (sent_before c.sent _ q v refl some);
    }
  where
    granted : (c : Core) (handle version primary : ℕ) (members : List ℕ) (q v : ℕ) (m : Message) → is_grant q v m.body ≡ (handle == q) && (version == v) → (1 ≤ grants_of q v c.sent → HasGrantRecord c.changes q v) → (b : Bool) → (handle == q) && (version == v) ≡ b
        → 1 ≤ grants_of q v (c.sent ++ m ∷ []) → HasGrantRecord (c.changes ++ AppendRecord (grant_record handle version primary members) ∷ []) q v
    granted c handle version primary members q v m as_is h true is some =
        let both = and_parts (handle == q) (version == v) is in
        has_last c.changes (AppendRecord (grant_record handle version primary members)) q v (eqb-true handle q both.0, eqb-true version v both.1)
    granted c handle version primary members q v m as_is h false is some = has_stays c.changes (AppendRecord (grant_record handle version primary members) ∷ []) q v (h (sent_before c.sent m q v (as_is ∙ is) some))

pub sent_grants_are_logged : SentGrantsAreLogged
sent_grants_are_logged config servers clients w r up moment i refused =
    let m : MasterState = w.master in
    let logged = (logged_here IsFoundRows IsRowedLog rows_kept config servers clients w r).1 in
    let u : IsUpToLog IsFoundRows IsRowedLog rows_kept m = logged.up up in
    (goes_acts NoneEnded (IsRowing m.disk) AreRecorded m moment i refused (rowing_keeps m.disk) (λ c n. n) (recording_acts m.disk) (any_input i) logged up (waits_here config servers clients w r)
    (record { none = u.idle; disk = refl; same = u.same; tied = u.tied; stops = logged.found [] }) (λ handle version some. absurd (omega (arith, some)))).2
