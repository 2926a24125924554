-- What is numbered was asked for in time, and of one Mutate alone.
use Rattle.std.proofs.Common.{◌≡◌, ℕ, zero, suc, ◌+◌, ◌≤◌, Bool, true, false, cond, List, [], ◌∷◌, ◌++◌, Option, Some, refl, sym, ap, subst, ◌∙◌, arith}
use Rattle.std.specs.Prelude.{◌&&◌, nat_le, max, filter, count_by}
use Rattle.std.proofs.Math.Nat.{le-max_left, le-max_right, max-le}
use Rattle.std.proofs.lemmas.Bool.{and_parts, and_from, leb-true, leb-false}
use Rattle.gfs_types.specs.declared.ids.Node.{Node}
use Rattle.gfs_types.specs.declared.ids.DataId.{DataId}
use Rattle.gfs_types.specs.declared.ids.Handle.{Handle}
use Rattle.gfs_types.specs.declared.ids.Version.{Version}
use Rattle.gfs_types.specs.declared.ids.Moment.{Moment}
use Rattle.gfs_types.specs.declared.refusal.Refusal.TheVariants.{Late}
use Rattle.messages.specs.declared.event.NodeInput.{NodeInput}
use Rattle.messages.specs.declared.event.NodeInput.TheVariants as input
use Rattle.messages.specs.declared.message.Message.{Message}
use Rattle.messages.specs.declared.message.Body.{Body}
use Rattle.messages.specs.declared.message.Body.TheVariants as body
use Rattle.messages.specs.declared.message.Target.{Target}
use Rattle.primary_order.specs.SerialOrder.{SerialOrder, attempted}
use Rattle.protocol.specs.Tables.{element_at}
use Rattle.protocol.specs.Sending.{the_client}
use Rattle.protocol.specs.Choice.{Choice, Ending, Goes, Lost, Stops}
use Rattle.protocol.specs.Seen.{is_numbering, Taken, no_step}
use Rattle.protocol.specs.declared.seen.Seen.{Seen}
use Rattle.protocol.specs.declared.seen.Seen.TheVariants.{Numbered}
use Rattle.protocol.specs.Observer.{Observer, observed_moment}
use Rattle.protocol.specs.Server.{ServerState, ServerDoing, server_begins, primary_of}
use Rattle.protocol.specs.ServerWrites.{refuses_attempt, mutates_as, mutates_under}
use Rattle.protocol.specs.ServerStep.{server_at, server_takes, server_goes, server_ends, server_step}
use Rattle.protocol.specs.World.{WorldState, new_world, after_events, IsReached}
use Rattle.laws_base.proofs.Steps.{on_cond, none_some, same_some, tally, count-cons}
use Rattle.laws_base.proofs.Entries.{same_number}
use Rattle.laws_base.proofs.MembersRecorded.{kept_place}
use Rattle.laws_base.specs.Attempts.{is_from_client, is_mutate}
use Rattle.laws_base.proofs.RequestsOnce.{requests_are_numbered_once}
use Rattle.laws_base.proofs.Histories.{steps_grown, after_both}
use Rattle.laws_base.specs.Entries.{IsAskedFor}
use Rattle.laws_base.proofs.Stemming.{numbered_mutations_were_asked_for}
use Rattle.laws_base.specs.Deadlines.{IsInTime, AttemptsArePlacedBeforeTheirDeadline, OverAttemptsArePlacedNoMore}
use Rattle.laws_base.proofs.Moments.{greatest_rises}

-- a step whose handling shows nothing shows nothing
ends_silent : (s : ServerState) (d : ServerDoing) (choice : Choice) (e : Ending) → d.seen ≡ [] → (server_ends s d choice e).seen ≡ []
ends_silent s d choice Goes h = h
ends_silent s d choice Lost h = refl
ends_silent s d choice (Stops made) h = ap (λ (xs : List Seen). filter is_numbering xs) h

step_silent : (s : ServerState) (moment : ℕ) (i : NodeInput) (choice : Choice) → (server_goes s moment i).seen ≡ [] → (server_step s moment i choice).seen ≡ []
step_silent s moment i choice h =
    on_cond (λ (t : Taken ServerState). t.seen ≡ []) s.up (server_ends s (server_goes s moment i) choice choice.ending) (no_step s) (λ _. ends_silent s (server_goes s moment i) choice choice.ending h) (λ _. refl)

-- a Mutate that is late
late_silent : (s : ServerState) (moment : ℕ) (i : NodeInput) (m : Message) (id : DataId) (handle : Handle) (version : Version) (aim : Target) (deadline : Moment) (p : SerialOrder) → i ≡ input.Deliver m → m.body ≡ body.Mutate id handle version aim deadline
    → primary_of (server_at s moment) handle.0 version.0 ≡ Some p → nat_le deadline.0 (server_at s moment).now ≡ true → (server_goes s moment i).seen ≡ []
late_silent s moment i m id handle version aim deadline p is asked primary late =
    ap (λ (j : NodeInput). (server_goes s moment j).seen) is
    ∙ ap (λ (b : Body). (server_takes d m b).seen) asked
    ∙ ap (λ (o : Option SerialOrder). (mutates_under d handle.0 id aim deadline.0 o).seen) primary
    ∙ ap (λ (b : Bool). (cond b (refuses_attempt d id Late) (mutates_as d handle.0 p id aim (attempted p id.client id.seq))).seen) late
  where
    d : ServerDoing
    d = server_begins (server_at s moment)

pub attempts_are_placed_before_their_deadline : AttemptsArePlacedBeforeTheirDeadline
attempts_are_placed_before_their_deadline config servers clients w r index moment s i choice handle version id n = by_time (nat_le (asked.deadline).0 (server_at s moment).now) refl
  where
    law : (m : Message) × (i ≡ input.Deliver m) × IsAskedFor (server_at s moment) w.sent m handle version n.serial id n.placed
    law = numbered_mutations_were_asked_for config servers clients w r index s n.is moment i choice n.came n.place handle version n.serial id n.placed n.seen

    asked : IsAskedFor (server_at s moment) w.sent law.0 handle version n.serial id n.placed
    asked = law.2

    after : Observer
    after = observed_moment config.skew_ms w.observer moment

    by_time : (b : Bool) → nat_le (asked.deadline).0 (server_at s moment).now ≡ b → (m : Message) × (i ≡ input.Deliver m) × IsInTime s moment config.skew_ms after m handle version id
    by_time true late =
        let none = step_silent s moment i choice (late_silent s moment i law.0 id handle version asked.aim asked.deadline asked.lease law.1 asked.body_is asked.lease_is late) in
        none_some (Numbered handle version n.serial id n.placed) (sym (ap (λ (xs : List Seen). element_at xs n.place) none) ∙ n.seen)
    by_time false early =
        let before = leb-false (asked.deadline).0 (server_at s moment).now early in (
          law.0,
          law.1,
          record {
            aim = asked.aim;
            deadline = asked.deadline;
            sender_is = asked.sender_is;
            body_is = asked.body_is;
            early = omega (arith, before);
            timely = λ kept.
                let test = leb-true w.observer.greatest (moment + config.skew_ms) (and_parts w.observer.are_clocks_kept (nat_le w.observer.greatest (moment + config.skew_ms)) kept).1 in
                let most : max w.observer.greatest moment ≤ moment + config.skew_ms = max-le test (omega arith) in
                let own = le-max_right s.now moment in
                omega (arith, before, most, own);
          },
        )

-- one of the messages at most passes

one_counted : (test : Message → Bool) (ms : List Message) (place : ℕ) (m : Message) → element_at ms place ≡ Some m → test m ≡ true → 1 ≤ count_by test ms
one_counted test [] place m at is = none_some m at
one_counted test (x ∷ ms) zero m at is =
    let whole = count-cons test x ms in
    let one = ap tally (ap test (same_some x m at) ∙ is) in
    omega (arith, whole, one)
one_counted test (x ∷ ms) (suc place) m at is =
    let whole = count-cons test x ms in
    let more = one_counted test ms place m at is in
    omega (arith, whole, more)

pub same_counted : (test : Message → Bool) (ms : List Message) (place other : ℕ) (m n : Message) → count_by test ms ≤ 1 → element_at ms place ≡ Some m → element_at ms other ≡ Some n → test m ≡ true → test n ≡ true → m ≡ n
same_counted test [] place other m n few at there is also = none_some m at
same_counted test (x ∷ ms) zero zero m n few at there is also = same_some m n (sym at ∙ there)
same_counted test (x ∷ ms) zero (suc other) m n few at there is also =
    let whole = count-cons test x ms in
    let one = ap tally (ap test (same_some x m at) ∙ is) in
    let more = one_counted test ms other n there also in
    absurd (omega (arith, whole, one, more, few))
same_counted test (x ∷ ms) (suc place) zero m n few at there is also =
    let whole = count-cons test x ms in
    let one = ap tally (ap test (same_some x n there) ∙ also) in
    let more = one_counted test ms place m at is in
    absurd (omega (arith, whole, one, more, few))
same_counted test (x ∷ ms) (suc place) (suc other) m n few at there is also =
    let whole = count-cons test x ms in
    same_counted test ms place other m n (omega (arith, whole, few)) at there is also

-- the deadline of a Mutate
abbrev deadline_of : Body → ℕ
deadline_of (body.Mutate id handle version aim deadline) = deadline.0
deadline_of other = 0

abbrev pub asks_for : DataId → Message → Bool
asks_for id m = is_from_client id.client.0 m.sender && is_mutate id.seq m.body

pub asking : (id : DataId) (m : Message) (handle : Handle) (version : Version) (aim : Target) (deadline : Moment) → m.sender ≡ the_client id.client.0 → m.body ≡ body.Mutate id handle version aim deadline → asks_for id m ≡ true
asking id m handle version aim deadline sender is =
    and_from (is_from_client id.client.0 m.sender) (is_mutate id.seq m.body) (ap (λ (n : Node). is_from_client id.client.0 n) sender ∙ same_number id.client.0) (ap (λ (b : Body). is_mutate id.seq b) is ∙ same_number id.seq)

pub over_attempts_are_placed_no_more : OverAttemptsArePlacedNoMore
over_attempts_are_placed_no_more config servers clients w r id over steps index moment kept s i choice handle version n =
    let before = law.2.timely kept in
    let rises = greatest_rises w steps in
    let later = le-max_left u.observer.greatest moment in
    let past = over.past in
    omega (arith, before, rises, later, past, same)
  where
    u : WorldState
    u = after_events w steps

    there : IsReached config servers clients u
    there = (r.0 ++ steps, after_both (new_world config servers clients) r.0 steps ∙ ap (λ (v : WorldState). after_events v steps) r.1)

    law : (m : Message) × (i ≡ input.Deliver m) × IsInTime s moment config.skew_ms (observed_moment config.skew_ms u.observer moment) m handle version id
    law = attempts_are_placed_before_their_deadline config servers clients u there index moment s i choice handle version id n

    timely : IsInTime s moment config.skew_ms (observed_moment config.skew_ms u.observer moment) law.0 handle version id
    timely = law.2

    still : element_at u.sent (over.sent_is).0 ≡ Some over.asked
    still = let grown = steps_grown w steps in subst (λ (ms : List Message). element_at ms (over.sent_is).0 ≡ Some over.asked) (sym grown.1) (kept_place w.sent grown.0 (over.sent_is).0 over.asked (over.sent_is).1)

    one : over.asked ≡ law.0
    one = let sent = n.came law.0 law.1 in
        same_counted (asks_for id) u.sent (over.sent_is).0 sent.0 over.asked law.0 (requests_are_numbered_once config servers clients u there id.client.0 id.seq).1 still sent.1
        (asking id over.asked over.handle over.version over.aim over.deadline over.sender_is over.body_is) (asking id law.0 handle version timely.aim timely.deadline timely.sender_is timely.body_is)

    same : (over.deadline).0 ≡ (timely.deadline).0
    same = sym (ap deadline_of over.body_is) ∙ ap (λ (m : Message). deadline_of m.body) one ∙ ap deadline_of timely.body_is
