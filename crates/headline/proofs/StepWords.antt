-- What a step of the master says: words that answer no request, and what it answers the Ask that it takes, which is so in the log as the step ends.
use Rattle.std.proofs.Common.{◌≡◌, ◌⊎◌, ℕ, suc, ◌≤◌, ◌<◌, true, false, List, [], ◌∷◌, length, Option, Some, None, is_some, refl, sym, ap, subst, ◌∙◌, inl, inr}
use Rattle.std.specs.Prelude.{nat_le, IsTrue}
use Rattle.gfs_types.specs.declared.config.Config.{Config}
use Rattle.gfs_types.specs.declared.ids.Node.{Node}
use Rattle.messages.specs.declared.event.Event.{Event}
use Rattle.messages.specs.declared.event.Event.TheVariants as event
use Rattle.messages.specs.declared.event.NodeInput.{NodeInput}
use Rattle.messages.specs.declared.event.NodeInput.TheVariants as input
use Rattle.messages.specs.declared.message.Body.{Body}
use Rattle.messages.specs.declared.message.Body.TheVariants as body
use Rattle.messages.specs.declared.message.Message.{Message}
use Rattle.messages.specs.declared.message.Wanted.{Wanted}
use Rattle.messages.specs.declared.message.Wanted.TheVariants as wanted
use Rattle.chunk_table.specs.ChunkTable.{file_of}
use Rattle.protocol.specs.Tables.{moment_limit, element_at}
use Rattle.protocol.specs.Choice.{Choice, Ending, Goes, Lost, Stops}
use Rattle.protocol.specs.Seen.{Taken, no_step}
use Rattle.protocol.specs.Logged.{Logged}
use Rattle.protocol.specs.Master.{MasterState, MasterDoing, master_begins}
use Rattle.protocol.specs.MasterStep.{master_at, master_takes, master_goes, master_ends, master_bounded, master_step, may_end}
use Rattle.protocol.specs.World.{WorldState, Happened, nothing_happens, after_master, master_moves, moves, delivered, at_moment, happens, IsReached}
use Rattle.laws_base.proofs.Steps.{on_cond, same_some}
use Rattle.laws_base.proofs.Entries.{AllOf}
use Rattle.laws_base.proofs.CountsLogged.{files_below}
use Rattle.laws_base.proofs.MasterMoves.{Nothing, NoneEnded, Keeps}
use Rattle.laws_base.proofs.MasterSteps.{goes_keeps}
use Rattle.laws_base.proofs.MembersRecorded.{all_at, all_in_order}
use Rattle.laws_base.proofs.NamesReached.{IsUpToLog}
use Rattle.laws_base.proofs.RowsKept.{rows_kept}
use Rattle.laws_base.proofs.RowsLogged.{IsFoundRows, IsRowedLog}
use Rattle.laws_base.proofs.SentReached.{sent_reached}
use Rattle.laws_base.proofs.WaitsKept.{IsOfWaits, waits_kept}
use Rattle.laws_versions.proofs.CopiedSources.{asked_or_not}
use Rattle.laws_versions.proofs.ExtendLaws.{new_one, none_before}
use Rattle.laws_versions.proofs.UnaskedSteps.{IsUnasked, IsNoAsk}
use Rattle.laws_base.proofs.MasterPremises.{IsTakenAsk, IsAsk}
use Rattle.laws_machine.proofs.MasterRefusals.{is_no_answer, master_refuses_asks}
use Rattle.laws_machine.specs.Rounds.{IsMastersInput}
use Rattle.headline.proofs.AskedWords.{IsToldIn, IsRefusedIn, IsAnsweredBy, Fine, asked, ready}

-- the Ask that a word answers, if it answers one
abbrev IsForAsk : NodeInput → Node → Body → Type 0
IsForAsk i receiver (body.Told number location) = IsTakenAsk i receiver number
IsForAsk i receiver (body.Refused number refusal) = IsTakenAsk i receiver number
IsForAsk i receiver other = is_no_answer other ≡ true

plain_for : (i : NodeInput) (receiver : Node) (b : Body) → is_no_answer b ≡ true → IsForAsk i receiver b
plain_for i receiver (body.Told number location) is = absurd (let both : false ≡ true = is in cc)
plain_for i receiver (body.Refused number refusal) is = absurd (let both : false ≡ true = is in cc)
plain_for i receiver other is = is

for_asks : (s : MasterState) (moment : ℕ) (i : NodeInput) (choice : Choice) → AllOf (λ m. IsForAsk i m.receiver m.body) (master_step s moment i choice).out.sent
for_asks s moment i choice =
    master_refuses_asks s moment i choice (λ m. IsForAsk i m.receiver m.body)
    (record { plain = plain_for i; refuses = λ receiver number refusal taken why. taken; none = λ receiver number taken. taken; tells = λ receiver number l taken known. taken.taken })

-- what a word says of the logs, as a step begins and as it ends
abbrev pub IsWord : NodeInput → Logged → Logged → Node → Body → Type 0
IsWord i start end receiver (body.Told number location) = (a : IsTakenAsk i receiver number) × IsToldIn end a.file.0 a.what location
IsWord i start end receiver (body.Refused number refusal) = (a : IsTakenAsk i receiver number) × IsRefusedIn start a.file.0 refusal
IsWord i start end receiver other = is_no_answer other ≡ true

-- an input that is no Ask is answered nothing of one

abbrev message_in : NodeInput → Option Message
message_in (input.Deliver m) = Some m
message_in input.Tick = None

no_taken : (i : NodeInput) (receiver : Node) (number : ℕ) → IsUnasked i → IsTakenAsk i receiver number → ⊥
no_taken (input.Deliver m) receiver number none a =
    let same : m ≡ a.ask = same_some m a.ask (ap message_in a.came) in
    subst IsNoAsk (ap (λ (x : Message). x.body) same ∙ a.body_is) none
no_taken input.Tick receiver number none a = absurd (let both : input.Tick ≡ input.Deliver a.ask = a.came in cc)

unasked_word : (i : NodeInput) (start end : Logged) (receiver : Node) (b : Body) → IsUnasked i → IsForAsk i receiver b → IsWord i start end receiver b
unasked_word i start end receiver (body.Told number location) none a = absurd (no_taken i receiver number none a)
unasked_word i start end receiver (body.Refused number refusal) none a = absurd (no_taken i receiver number none a)
unasked_word i start end receiver other none is = is

-- an Ask

abbrev file_in : Body → ℕ
file_in (body.Ask number file what deadline lost) = file.0
file_in other = 0

abbrev what_in : Body → Wanted
what_in (body.Ask number file what deadline lost) = what
what_in other = wanted.Last

module _ (i : NodeInput) (ask : IsAsk i) (receiver : Node) (number : ℕ) (a : IsTakenAsk i receiver number) where
  bodies : body.Ask ask.number ask.file ask.what ask.deadline ask.lost ≡ body.Ask number a.file a.what a.deadline a.lost
  bodies = sym ask.is ∙ (ap (λ (m : Message). m.body) (same_some ask.message a.ask (ap message_in (sym ask.taken ∙ a.came))) ∙ a.body_is)

  same_file : ask.file.0 ≡ a.file.0
  same_file = ap file_in bodies

  same_what : ask.what ≡ a.what
  same_what = ap what_in bodies

asked_word : (i : NodeInput) (ask : IsAsk i) (start end : Logged) (receiver : Node) (b : Body) → IsForAsk i receiver b → IsAnsweredBy start end ask.file.0 ask.what b → IsWord i start end receiver b
asked_word i ask start end receiver (body.Told number location) a h =
    (a, subst (λ (x : Wanted). IsToldIn end a.file.0 x location) (same_what i ask receiver number a) (subst (λ (f : ℕ). IsToldIn end f ask.what location) (same_file i ask receiver number a) h))
asked_word i ask start end receiver (body.Refused number refusal) a h = (a, subst (λ (f : ℕ). IsRefusedIn start f refusal) (same_file i ask receiver number a) h)
asked_word i ask start end receiver other is h = is

-- a step

module _ (s : MasterState) (moment : ℕ) (choice : Choice) (low : (file : ℕ) (handles : List ℕ) → file_of s.logged.table file ≡ Some handles → file < s.logged.next_file) (i : NodeInput) where
  abbrev step : Taken MasterState
  step = master_step s moment i choice

  answers : (ask : IsAsk i) → Fine s.logged ask.file.0 ask.what (master_goes s moment i choice.refused)
  answers ask = subst (λ (j : NodeInput). Fine s.logged ask.file.0 ask.what (master_goes s moment j choice.refused)) (sym ask.taken) goes
    where
      x : Message
      x = ask.message

      first : MasterDoing
      first = master_begins (master_at s moment) choice.refused

      done : MasterDoing
      done = master_takes first x x.body

      one : Fine s.logged ask.file.0 ask.what done
      one =
          subst (λ (b : Body). Fine s.logged ask.file.0 ask.what (master_takes first x b)) (sym ask.is)
          (asked s.logged ask.file.0 ask.what (low ask.file.0) first x.sender ask.number ask.deadline.0 ask.lost refl refl)

      goes : Fine s.logged ask.file.0 ask.what (master_goes s moment (input.Deliver x) choice.refused)
      goes = ready s.logged ask.file.0 ask.what done done.master.snapshots one

  abbrev AreAnswered : (ask : IsAsk i) → Taken MasterState → Type 0
  AreAnswered ask t = AllOf (λ m. IsAnsweredBy s.logged t.state.logged ask.file.0 ask.what m.body) t.out.sent

  ends_answered : (ask : IsAsk i) (d : MasterDoing) (e : Ending) → Fine s.logged ask.file.0 ask.what d → AreAnswered ask (master_ends s d choice e)
  ends_answered ask d Goes h = all_in_order (λ m. IsAnsweredBy s.logged d.master.logged ask.file.0 ask.what m.body) choice.order d.sent h
  ends_answered ask d Lost h = tt
  ends_answered ask d (Stops made) h = tt

  step_answered : (ask : IsAsk i) → AreAnswered ask step
  step_answered ask =
      let d : MasterDoing = master_goes s moment i choice.refused in
      on_cond (AreAnswered ask) s.up (master_bounded s i d choice) (no_step s)
      (λ _. on_cond (AreAnswered ask) (may_end s i d choice.ending) (master_ends s d choice choice.ending) (no_step s) (λ _. ends_answered ask d choice.ending (answers ask)) (λ _. tt)) (λ _. tt)

  all_words : (ms : List Message) → AllOf (λ m. IsForAsk i m.receiver m.body) ms → (IsUnasked i ⊎ ((ask : IsAsk i) × AllOf (λ m. IsAnsweredBy s.logged step.state.logged ask.file.0 ask.what m.body) ms))
      → AllOf (λ m. IsWord i s.logged step.state.logged m.receiver m.body) ms
  all_words [] all h = tt
  all_words (m ∷ ms) all (inl none) = (unasked_word i s.logged step.state.logged m.receiver m.body none all.0, all_words ms all.1 (inl none))
  all_words (m ∷ ms) all (inr ask) = (asked_word i ask.0 s.logged step.state.logged m.receiver m.body all.0 ask.1.0, all_words ms all.1 (inr (ask.0, ask.1.1)))

  pub step_words : AllOf (λ m. IsWord i s.logged step.state.logged m.receiver m.body) step.out.sent
  step_words = all_words step.out.sent (for_asks s moment i choice) (elim (asked_or_not i) [ inl none ↦ inl none | inr ask ↦ inr (ask, step_answered ask) ])

-- the master stays up in its step

up_keeps : Keeps ⊥ Nothing NoneEnded (λ c. c.up ≡ true)
up_keeps =
    record {
      sound = λ asks. absurd asks;
      tells = λ c receiver b quiet h. h;
      orders = λ c server b is plain h. h;
      revokes = λ c handle row is h. h;
      grants = λ c handle version until primary members told due names from idle h. h;
      appends = λ c r due plain names h. h;
      checkpoint = λ c tree h. h;
      less = λ c handles copied h. h;
      ends = λ c handle row is word h. h;
      extends = λ c handle until row is left later from h. h;
    }

-- one that says something is up after it
abbrev IsUpIfSaid : Taken MasterState → Type 0
IsUpIfSaid t = (place : ℕ) (m : Message) → element_at t.out.sent place ≡ Some m → t.state.up ≡ true

pub up_if_said : (s : MasterState) (moment : ℕ) (i : NodeInput) (choice : Choice) → IsTrue s.up → IsUpIfSaid (master_step s moment i choice)
up_if_said s moment i choice up =
    let d : MasterDoing = master_goes s moment i choice.refused in
    on_cond IsUpIfSaid s.up (master_bounded s i d choice) (no_step s)
    (λ _. on_cond IsUpIfSaid (may_end s i d choice.ending) (master_ends s d choice choice.ending) (no_step s) (λ _. by_ending choice.ending) (λ _ place m at. up)) (λ _ place m at. up)
  where
    by_ending : (e : Ending) → IsUpIfSaid (master_ends s (master_goes s moment i choice.refused) choice e)
    by_ending Goes place m at = goes_keeps (λ c. c.up ≡ true) up_keeps s moment i choice.refused up
    by_ending Lost place m at = absurd (let both : None ≡ Some m = at in cc)
    by_ending (Stops made) place m at = absurd (let both : None ≡ Some m = at in cc)

-- a reached world

pub files_numbered : (config : Config) (servers clients : ℕ) (w : WorldState) → IsReached config servers clients w → IsTrue w.master.up
    → (file : ℕ) (handles : List ℕ) → file_of w.master.logged.table file ≡ Some handles → file < w.master.logged.next_file
files_numbered config servers clients w r up file handles is = files_below w.master.logged u.tied.base.base.here file (ap is_some is)
  where
    u : IsUpToLog IsFoundRows IsRowedLog rows_kept w.master
    u = (sent_reached IsOfWaits waits_kept config servers clients w r).base.logged.up up

-- a word of an event of the master
pub record IsNewWord (i : NodeInput) (w v : WorldState) (m : Message) : Type 0 where
  pub up : v.master.up ≡ true
  pub word : IsWord i w.master.logged v.master.logged m.receiver m.body

-- an event that gives the master its input

masters_event : (w : WorldState) (e : Event) (moment : ℕ) (i : NodeInput) (choice : Choice) → IsMastersInput w e moment i → happens w e choice ≡ at_moment w moment (master_moves w moment i choice)
masters_event w (event.Deliver number now) moment (input.Deliver m) choice given =
    ap (λ (o : Option Message). at_moment w now.0 (delivered w now.0 choice o)) given.0 ∙ (ap (λ (n : Node). at_moment w now.0 (moves w n now.0 (input.Deliver m) choice)) given.1 ∙ ap (λ (n : ℕ). at_moment w n (master_moves w n (input.Deliver m) choice)) given.2)
masters_event w (event.Tick n now) moment input.Tick choice given =
    ap (λ (x : Node). at_moment w now.0 (moves w x now.0 input.Tick choice)) given.0 ∙ ap (λ (x : ℕ). at_moment w x (master_moves w x input.Tick choice)) given.1
masters_event w (event.Deliver number now) moment input.Tick choice given = absurd given
masters_event w (event.Tick n now) moment (input.Deliver m) choice given = absurd given
masters_event w (event.Call client c now) moment i choice given = absurd given
masters_event w (event.Restart n now) moment i choice given = absurd given
masters_event w (event.Rot server q place byte) moment i choice given = absurd given
masters_event w (event.Fuse n count torn) moment i choice given = absurd given

module _ (config : Config) (servers clients : ℕ) (w : WorldState) (r : IsReached config servers clients w) (up : IsTrue w.master.up) where
  abbrev AreNewWords : NodeInput → WorldState → Type 0
  AreNewWords i v = (place : ℕ) (m : Message) → length w.sent ≤ place → element_at v.sent place ≡ Some m → IsNewWord i w v m

  -- a step of the master
  pub step_said : (moment : ℕ) (i : NodeInput) (choice : Choice) → AreNewWords i (after_master w moment (master_step w.master moment i choice)).world
  step_said moment i choice place m from at =
      let t : Taken MasterState = master_step w.master moment i choice in
      let new = new_one w.sent t.out.sent (suc (length w.sent)) place m from at in
      let all = step_words w.master moment choice (files_numbered config servers clients w r up) i in
      record {
        up = up_if_said w.master moment i choice up (new.1).0 new.0 (new.1).1;
        word = subst (λ (n : Node). IsWord i w.master.logged t.state.logged n m.body) (new.2).1
            (subst (λ (b : Body). IsWord i w.master.logged t.state.logged (new.0).receiver b) (new.2).2
            (all_at (λ (x : Message). IsWord i w.master.logged t.state.logged x.receiver x.body) t.out.sent (new.1).0 new.0 all (new.1).1));
      }

  pub event_said : (e : Event) (moment : ℕ) (i : NodeInput) (choice : Choice) → IsMastersInput w e moment i → AreNewWords i (happens w e choice).world
  event_said e moment i choice given =
      subst (λ (h : Happened). AreNewWords i h.world) (sym (masters_event w e moment i choice given))
      (on_cond (λ (h : Happened). AreNewWords i h.world) (nat_le moment moment_limit) (master_moves w moment i choice) (nothing_happens w)
      (λ _. on_cond (λ (h : Happened). AreNewWords i h.world) w.master.up (after_master w moment (master_step w.master moment i choice)) (nothing_happens w) (λ _. step_said moment i choice) (λ _. nothing)) (λ _. nothing))
    where
      nothing : AreNewWords i w
      nothing place m from at = none_before w.sent place m from at
