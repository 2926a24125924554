-- A mutation that is numbered is of its client's open call; and so is each entry of an order.
use Rattle.std.proofs.Common.{◌≡◌, ℕ, suc, ◌≤◌, ◌<◌, List, [], ◌∷◌, ◌++◌, Option, Some, refl, sym, ap, subst, ◌∙◌, inl, inr, arith}
use Rattle.std.specs.Prelude.{◌+◌, nat_le, max, IsTrue}
use Rattle.std.specs.FinMap as table
use Rattle.std.proofs.lemmas.Bool.{and_parts}
use Rattle.std.proofs.Math.Nat.{le-max_left}
use Rattle.gfs_types.specs.declared.config.Config.{Config}
use Rattle.gfs_types.specs.declared.ids.ClientId.{ClientId}
use Rattle.gfs_types.specs.declared.ids.DataId.{DataId}
use Rattle.gfs_types.specs.declared.ids.Handle.{Handle}
use Rattle.gfs_types.specs.declared.ids.Version.{Version}
use Rattle.gfs_types.specs.declared.ids.Moment.{Moment}
use Rattle.messages.specs.declared.event.Event.{Event}
use Rattle.messages.specs.declared.event.NodeInput.{NodeInput}
use Rattle.messages.specs.declared.event.NodeInput.TheVariants as input
use Rattle.messages.specs.declared.message.Message.{Message}
use Rattle.client_state.specs.declared.call.ToldChunk.{ToldChunk}
use Rattle.primary_order.specs.SerialOrder.{SerialOrder}
use Rattle.protocol.specs.Sending.{data_id, handle_of}
use Rattle.protocol.specs.Choice.{Choice}
use Rattle.protocol.specs.Observer.{Placed, calls_made, observed_moment}
use Rattle.protocol.specs.Server.{ServerState}
use Rattle.protocol.specs.ServerStep.{server_at}
use Rattle.protocol.specs.World.{WorldState, Happened, new_world, happens, after_events, IsReached}
use Rattle.laws_base.specs.Laws.{is_grant, grants_of}
use Rattle.laws_base.proofs.Steps.{none_some, same_or_not}
use Rattle.laws_base.proofs.LeasesTold.{granting}
use Rattle.laws_base.proofs.Events.{holds_on}
use Rattle.laws_base.proofs.RequestsOnce.{requests_are_numbered_once}
use Rattle.laws_base.proofs.Histories.{after_both}
use Rattle.laws_base.specs.Versions.{IsLeaseOver}
use Rattle.laws_base.proofs.EndedLeases.{over_leases_number_nothing}
use Rattle.laws_versions.proofs.ClosedVersions.{clocks_before}
use Rattle.laws_base.proofs.RisingRounds.{lower_leases_are_over, leased_granted}
use Rattle.laws_base.proofs.SentGrants.{counted_one}
use Rattle.laws_base.specs.FewAttempts.{WasAsked}
use Rattle.laws_base.specs.Entries.{IsPushed}
use Rattle.laws_base.specs.Deadlines.{Numbers, IsInTime}
use Rattle.laws_base.proofs.Deadlines.{asks_for, asking, same_counted, attempts_are_placed_before_their_deadline, over_attempts_are_placed_no_more}
use Rattle.laws_base.proofs.KnownNumbers.{primary_there}
use Rattle.laws_base.specs.ChunkOrders.{IsNumberedNow, WasNumbered}
use Rattle.laws_base.proofs.Numbering.{entries_were_numbered}
use Rattle.laws_base.proofs.UsedNumbers.{Asks, Knows, known_not_new, one_target}
use Rattle.laws_base.specs.AnsweredAttempts.{IsAnswerTo}
use Rattle.laws_base.proofs.LateAttempts.{Always}
use Rattle.laws_base.proofs.AnsweredAttempts.{same_mutate, IsSpentUp, Asked, asked_law, not_both, answers_known, answered_attempts_are_placed_no_more}
use Rattle.laws_base.proofs.SpentVersions.{IsSpent}
use Rattle.laws_machine.specs.OpenCalls.{EntriesAreOfOpenCalls, EntriesWereAskedForInTheirCall}
use Rattle.laws_machine.specs.OpenAttempts.{AsksBy, WasPassed, IsOver, WasSentFor, IsOfOpenCall}
use Rattle.laws_machine.proofs.OpenStages.{strictly}
use Rattle.laws_machine.proofs.OpenCalls.{attempts_are_over_or_open}
use Rattle.laws_machine.proofs.PassedAttempts.{sent_asks, passed_attempts_have_no_lease}
use Rattle.laws_machine.proofs.GrantedRounds.{granted_from_one}

-- settings stay
pub config_stays : (config : Config) (w : WorldState) (steps : List (Event × Choice)) → w.config ≡ config → (after_events w steps).config ≡ config
config_stays config =
    holds_on (λ v. v.config ≡ config)
    (λ v h. record {
      nothing = λ e. h;
      masters = λ e moment i choice is up. h;
      opens = λ e moment choice. h;
      serves = λ e index moment s i choice at is up. h;
      restarts = λ e index moment s choice at. h;
      steps = λ e index moment s i choice at is up. h;
      calls = λ e index moment s c choice at may. h;
      rots = λ e index handle s r place byte ending is_kept at there up. h;
    })

-- of a version of which a lease was granted
spent_granted : (P : SerialOrder → Type 0) (handle version : ℕ) (w : WorldState) → IsSpent P handle version w → 1 ≤ grants_of handle version w.sent
spent_granted P handle version w h = counted_one (λ m. is_grant handle version m.body) w.sent h.grant h.place h.at (granting h.order handle version h.end_moment h.members (h.grant).body h.is)

module _ (config : Config) (servers clients : ℕ) (w : WorldState) (r : IsReached config servers clients w) (settings : w.config ≡ config) (server moment : ℕ) (s : ServerState) (i : NodeInput) (choice : Choice) (handle : Handle) (version : Version) (id : DataId)
    (numbers : Numbers w server moment s i choice handle version id) (kept : IsTrue (observed_moment config.skew_ms w.observer moment).are_clocks_kept) where
  law : (m : Message) × (i ≡ input.Deliver m) × IsInTime s moment config.skew_ms (observed_moment config.skew_ms w.observer moment) m handle version id
  law = attempts_are_placed_before_their_deadline config servers clients w r server moment s i choice handle version id numbers

  timely : IsInTime s moment config.skew_ms (observed_moment config.skew_ms w.observer moment) law.0 handle version id
  timely = law.2

  asks : AsksBy w.sent id handle version timely.deadline
  asks = record { asked = law.0; aim = timely.aim; sent_is = numbers.came law.0 law.1; sender_is = timely.sender_is; body_is = timely.body_is }

  held : Asked config servers clients w r id server moment s i choice handle version numbers
  held = asked_law config servers clients w r id server moment s i choice handle version numbers

  clocks : IsTrue w.observer.are_clocks_kept
  clocks = (and_parts w.observer.are_clocks_kept (nat_le w.observer.greatest (moment + config.skew_ms)) kept).0

  -- the lease under which it is numbered
  lease_there : (table.get s.leases handle.0 ≡ Some (held.2).lease) × ((held.2).lease.held.version ≡ version.0)
  lease_there = primary_there (server_at s moment) version.0 (table.get s.leases handle.0) (held.2).lease (held.2).lease_is

  granted : 1 ≤ grants_of handle.0 version.0 w.sent
  granted =
      let grant = leased_granted config servers clients w r server s numbers.is handle.0 (held.2).lease lease_there.0 in
      subst (λ (v : ℕ). 1 ≤ grants_of handle.0 v w.sent) lease_there.1 (counted_one (λ m. is_grant handle.0 (held.2).lease.held.version m.body) w.sent grant.0 (grant.1).0 (grant.1).1 grant.2)

  not_over : IsLeaseOver w handle.0 version.0 → ⊥
  not_over over =
      let none = over_leases_number_nothing config servers clients w r handle.0 version.0 over moment (subst (λ (g : Config). IsTrue (observed_moment g.skew_ms w.observer moment).are_clocks_kept) (sym settings) kept) server s numbers.is in
      none_some (held.2).lease (sym none ∙ (held.2).lease_is)

  -- a later attempt under a higher version of the same chunk, or a later number under the same version
  module _ (later : DataId) (higher : Version) (end : Moment) (by : AsksBy w.sent later handle higher end) (client : later.client ≡ id.client) (is_later : id.seq < later.seq) (low : version.0 ≤ higher.0) (early : timely.deadline.0 ≤ end.0) where
    higher_granted : IsSpentUp w later → 1 ≤ grants_of handle.0 higher.0 w.sent
    higher_granted (inl used) =
        let same = one_target config servers clients w r later used.handle handle used.version higher used.asks (record { asked = by.asked; aim = by.aim; deadline = end; sent_is = by.sent_is; sender_is = by.sender_is; body_is = by.body_is }) in
        subst (λ (v : Version). 1 ≤ grants_of handle.0 v.0 w.sent) same.1 (subst (λ (h : Handle). 1 ≤ grants_of h.0 used.version.0 w.sent) same.0 (spent_granted (Knows later) used.handle.0 used.version.0 w used.spent))
    higher_granted (inr late) =
        let same = one_target config servers clients w r later late.handle handle late.version higher
        (record { asked = late.asked; aim = late.aim; deadline = late.deadline; sent_is = late.sent_is; sender_is = late.sender_is; body_is = late.body_is })
        (record { asked = by.asked; aim = by.aim; deadline = end; sent_is = by.sent_is; sender_is = by.sender_is; body_is = by.body_is }) in
        subst (λ (v : Version). 1 ≤ grants_of handle.0 v.0 w.sent) same.1 (subst (λ (h : Handle). 1 ≤ grants_of h.0 late.version.0 w.sent) same.0 (spent_granted (Always (Unit {0})) late.handle.0 late.version.0 w late.spent))

    under_same : IsSpentUp w later → version.0 ≡ higher.0 → ⊥
    under_same (inl used) level =
        let same = one_target config servers clients w r later used.handle handle used.version higher used.asks (record { asked = by.asked; aim = by.aim; deadline = end; sent_is = by.sent_is; sender_is = by.sender_is; body_is = by.body_is }) in
        let known = used.spent.fit server s numbers.is (held.2).lease (ap (λ (h : Handle). table.get s.leases h.0) same.0 ∙ lease_there.0) (lease_there.1 ∙ level ∙ sym (ap (λ (v : Version). v.0) same.1)) in
        let most = known.2 in
        known_not_new id (held.2).lease (known.0, ap (λ (c : ClientId). table.get ((held.2).lease).kept c.0) (sym client) ∙ known.1, omega (arith, most, is_later)) (held.2).new
    under_same (inr late) level =
        let past = late.past server s numbers.is (held.2).lease (ap (λ (h : Handle). table.get s.leases h.0) same.0 ∙ lease_there.0) (lease_there.1 ∙ level ∙ sym (ap (λ (v : Version). v.0) same.1)) in
        let in_time = timely.early in
        let clock : s.now ≤ max s.now moment = le-max_left s.now moment in
        let ends : late.deadline.0 ≡ end.0 = ap (λ (x : Moment). x.0) same.2 in
        omega (arith, past, in_time, clock, ends, early)
      where
        one : late.asked ≡ by.asked
        one =
            same_counted (asks_for later) w.sent (late.sent_is).0 (by.sent_is).0 late.asked by.asked (requests_are_numbered_once config servers clients w r later.client.0 later.seq).1 (late.sent_is).1 (by.sent_is).1
            (asking later late.asked late.handle late.version late.aim late.deadline late.sender_is late.body_is) (asking later by.asked handle higher by.aim end by.sender_is by.body_is)

        same : (late.handle ≡ handle) × (late.version ≡ higher) × (late.deadline ≡ end)
        same = same_mutate later late.handle handle late.version higher late.aim by.aim late.deadline end (sym late.body_is ∙ ap (λ (m : Message). m.body) one ∙ by.body_is)

    passed_not_numbered : IsSpentUp w later → ⊥
    passed_not_numbered spent =
        elim (same_or_not version.0 higher.0) [
          | inl level ↦ under_same spent level
          | inr apart ↦ not_over (lower_leases_are_over config servers clients w r clocks handle.0 version.0 higher.0 granted (higher_granted spent) (strictly version.0 higher.0 low apart))
        ]

  -- what was passed at the same chunk
  passed_here : {G : ℕ → ToldChunk → ℕ → Type 0} → (p : WasPassed G w.sent id version timely.deadline) → p.handle.0 ≡ handle.0 → ⊥
  passed_here {G} p same =
      elim (answers_known config servers clients w r (p.answered.sent_is).0 p.answered.server p.answered.answer (p.answered.sent_is).1 p.answered.sender_is p.later p.answered.answers) [
        | inl spent ↦ passed_not_numbered p.later p.higher p.end (subst (λ (h : Handle). AsksBy w.sent p.later h p.higher p.end) (ap (λ (n : ℕ). handle_of n) same) p.asks) p.same_client p.is_later p.not_lower p.not_earlier spent
        | inr reads ↦ not_both config servers clients w r p.later (p.pushed).0 (p.pushed).1 reads
      ]

-- or at another one, whose location was told after this one's
module _ (config : Config) (servers clients : ℕ) (steps : List (Event × Choice)) (index : ℕ) (id : DataId) (handle : Handle) (version : Version) (deadline : Moment) (own : id.client.0 ≡ suc index)
    (by : AsksBy (after_events (new_world config servers clients) steps).sent id handle version deadline) (kept : IsTrue (after_events (new_world config servers clients) steps).observer.are_clocks_kept)
    (low : 1 ≤ version.0) (p : WasPassed (WasSentFor index (new_world config servers clients) steps) (after_events (new_world config servers clients) steps).sent id version deadline) where
  same_data : data_id (suc index) id.seq ≡ id
  same_data = ap (λ (n : ℕ). data_id n id.seq) (sym own)

  same_later : data_id (suc index) p.later.seq ≡ p.later
  same_later = ap (λ (n : ℕ). data_id n p.later.seq) (sym (ap (λ (c : ClientId). c.0) p.same_client ∙ own))

  mine : (p.beside.chunk.handle ≡ handle) × (p.beside.chunk.round ≡ version)
  mine =
      one_target config servers clients (after_events (new_world config servers clients) steps) (steps, refl) id p.beside.chunk.handle handle p.beside.chunk.round version
      (subst (λ (x : DataId). Asks (after_events (new_world config servers clients) steps).sent x p.beside.chunk.handle p.beside.chunk.round) same_data (sent_asks index (new_world config servers clients) steps p.beside.file p.beside.chunk id.seq p.beside.first_is))
      (record { asked = by.asked; aim = by.aim; deadline = deadline; sent_is = by.sent_is; sender_is = by.sender_is; body_is = by.body_is })

  theirs : (p.beside.other.handle ≡ p.handle) × (p.beside.other.round ≡ p.higher)
  theirs =
      one_target config servers clients (after_events (new_world config servers clients) steps) (steps, refl) p.later p.beside.other.handle p.handle p.beside.other.round p.higher
      (subst (λ (x : DataId). Asks (after_events (new_world config servers clients) steps).sent x p.beside.other.handle p.beside.other.round) same_later (sent_asks index (new_world config servers clients) steps p.beside.file p.beside.other p.later.seq p.beside.later_is))
      (record { asked = p.asks.asked; aim = p.asks.aim; deadline = p.end; sent_is = p.asks.sent_is; sender_is = p.asks.sender_is; body_is = p.asks.body_is })

  passed_there : (p.handle.0 ≡ handle.0 → ⊥) → IsLeaseOver (after_events (new_world config servers clients) steps) handle.0 version.0
  passed_there apart =
      subst (λ (h : Handle). IsLeaseOver (after_events (new_world config servers clients) steps) h.0 version.0) mine.0
      (subst (λ (v : Version). IsLeaseOver (after_events (new_world config servers clients) steps) p.beside.chunk.handle.0 v.0) mine.1
      (passed_attempts_have_no_lease config servers clients steps kept index p.beside.file p.beside.chunk p.beside.other id.seq p.later.seq p.beside.first_is p.beside.later_is p.is_later p.beside.same_index
      (λ same. apart (sym (ap (λ (h : Handle). h.0) theirs.0) ∙ (sym same ∙ ap (λ (h : Handle). h.0) mine.0)))
      (subst (λ (v : Version). 1 ≤ v.0) (sym mine.1) low) (subst (λ (v : Version). 1 ≤ v.0) (sym theirs.1) (let higher = p.not_lower in omega (arith, low, higher)))
      (p.answered.sent_is).0 p.answered.server p.answered.answer (p.answered.sent_is).1 p.answered.sender_is (subst (λ (x : DataId). IsAnswerTo x p.answered.answer) (sym same_later) p.answered.answers)
      (p.pushed).0 (subst (λ (x : DataId). IsPushed (after_events (new_world config servers clients) steps).sent x (p.pushed).0) (sym same_later) (p.pushed).1)))

pub entries_are_of_open_calls : EntriesAreOfOpenCalls
entries_are_of_open_calls config servers clients steps server moment s i choice handle version id numbers kept index own =
    elim (attempts_are_over_or_open config servers clients steps index id handle version until own by) [
      | inl over ↦ absurd (by_over over)
      | inr is_open ↦ is_open
    ]
  where
    w : WorldState
    w = after_events (new_world config servers clients) steps

    r : IsReached config servers clients w
    r = (steps, refl)

    settings : w.config ≡ config
    settings = config_stays config (new_world config servers clients) steps refl

    until : Moment
    until = (timely config servers clients w r settings server moment s i choice handle version id numbers kept).deadline

    by : AsksBy w.sent id handle version until
    by = asks config servers clients w r settings server moment s i choice handle version id numbers kept

    by_passed : WasPassed (WasSentFor index (new_world config servers clients) steps) w.sent id version until → ⊥
    by_passed p =
        elim (same_or_not p.handle.0 handle.0) [
          | inl same ↦ passed_here config servers clients w r settings server moment s i choice handle version id numbers kept p same
          | inr apart ↦ not_over config servers clients w r settings server moment s i choice handle version id numbers kept
              (passed_there config servers clients steps index id handle version until own by (clocks config servers clients w r settings server moment s i choice handle version id numbers kept)
              (granted_from_one config servers clients w r handle.0 version.0 (granted config servers clients w r settings server moment s i choice handle version id numbers kept)) p apart)
        ]

    -- what is over isn't numbered
    by_over : IsOver (WasSentFor index (new_world config servers clients) steps) w.sent config.skew_ms w.observer.greatest id version until → ⊥
    by_over over =
        elim (over) [
          | inl past ↦ over_attempts_are_placed_no_more config servers clients w r id
              (record { asked = by.asked; handle = handle; version = version; aim = by.aim; deadline = until; sent_is = by.sent_is; sender_is = by.sender_is; body_is = by.body_is; past = past }) [] server moment kept s i choice handle version numbers
          | inr rest ↦ elim (rest) [
            | inl answered ↦ answered_attempts_are_placed_no_more config servers clients w r (answered.sent_is).0 answered.server answered.answer (answered.sent_is).1 answered.sender_is id answered.answers [] server moment s i choice handle version numbers
            | inr passed ↦ by_passed passed
          ]
        ]

-- entries

asked_longer : (index : ℕ) (w : WorldState) (before more : List (Event × Choice)) (made : ℕ) (part : Option ℕ) (n : ℕ) → WasAsked index w before made part n → WasAsked index w (before ++ more) made part n
asked_longer index w [] more made part n h = absurd h
asked_longer index w (step ∷ rest) more made part n h = elim (h) [ inl now ↦ inl now | inr later ↦ inr (asked_longer index (happens w step.0 step.1).world rest more made part n later) ]

pub entries_were_asked_for_in_their_call : EntriesWereAskedForInTheirCall
entries_were_asked_for_in_their_call config servers clients steps kept handle place p at index client = (
  is_open.part,
  subst (λ (xs : List (Event × Choice)). WasAsked index start xs p.entry.call.number is_open.part p.seq) (sym was.steps_are)
      (asked_longer index start was.before (was.step ∷ was.after) p.entry.call.number is_open.part p.seq
      (subst (λ (n : ℕ). WasAsked index start was.before p.entry.call.number is_open.part n) (sym seq_is) (subst (λ (n : ℕ). WasAsked index start was.before n is_open.part (now.id).seq) (sym number_is) is_open.asked))),
)
  where
    start : WorldState
    start = new_world config servers clients

    was : WasNumbered start steps (entries_were_numbered config servers clients steps handle place p at).0 p
    was = (entries_were_numbered config servers clients steps handle place p at).1

    v : WorldState
    v = after_events start was.before

    now : IsNumberedNow v (happens v (was.step).0 (was.step).1) (entries_were_numbered config servers clients steps handle place p at).0 p
    now = was.now

    settings : v.config ≡ config
    settings = config_stays config start was.before refl

    path : after_events start steps ≡ after_events v (was.step ∷ was.after)
    path = ap (λ (xs : List (Event × Choice)). after_events start xs) was.steps_are ∙ after_both start was.before (was.step ∷ was.after)

    kept_then : IsTrue (happens v (was.step).0 (was.step).1).world.observer.are_clocks_kept
    kept_then = clocks_before (happens v (was.step).0 (was.step).1).world was.after (subst (λ (x : WorldState). IsTrue x.observer.are_clocks_kept) path kept)

    kept_now : IsTrue (observed_moment config.skew_ms v.observer now.moment).are_clocks_kept
    kept_now = subst (λ (g : Config). IsTrue (observed_moment g.skew_ms v.observer now.moment).are_clocks_kept) settings (subst (λ (x : Happened). IsTrue x.world.observer.are_clocks_kept) now.step_is kept_then)

    own : (now.id).client.0 ≡ suc index
    own = sym (ap (λ (q : Placed). q.entry.call.client) now.entry_is) ∙ client

    is_open : IsOfOpenCall start was.before index (now.id).seq
    is_open = entries_are_of_open_calls config servers clients was.before now.index now.moment now.server now.input now.choice now.named now.version now.id now.numbers kept_now index own

    number_is : p.entry.call.number ≡ calls_made v.observer.trace (suc index)
    number_is = ap (λ (q : Placed). q.entry.call.number) now.entry_is ∙ ap (λ (n : ℕ). calls_made v.observer.trace n) own

    seq_is : p.seq ≡ (now.id).seq
    seq_is = ap (λ (q : Placed). q.seq) now.entry_is
