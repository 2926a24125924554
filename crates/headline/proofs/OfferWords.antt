-- What a step of the master tells a client that waits is so at the machine, which offers it.
use Rattle.std.proofs.Common.{◌≡◌, ◌⊎◌, ℕ, suc, ◌<◌, ◌≤◌, Bool, true, false, List, [], ◌∷◌, ◌++◌, length, Option, Some, None, is_some, refl, sym, ap, subst, ◌∙◌, inl, inr, arith}
use Rattle.std.specs.Prelude.{◌&&◌, nat_lt, nat_le, not, IsTrue, IsFalse}
use Rattle.std.specs.List.{AllByRecursion, list_all}
use Rattle.std.specs.FinMap as table
use Rattle.std.proofs.lemmas.Bool.{true≢false, and_parts, and_from, lt-ltb, le-leb}
use Rattle.gfs_types.specs.declared.config.Config.{Config}
use Rattle.gfs_types.specs.declared.call.Call.{Call}
use Rattle.gfs_types.specs.declared.call.Call.TheVariants as call
use Rattle.gfs_types.specs.declared.ids.Node.TheVariants as node
use Rattle.gfs_types.specs.declared.refusal.Refusal.{Refusal}
use Rattle.gfs_types.specs.declared.refusal.Refusal.TheVariants.{TooLong, Collected}
use Rattle.messages.specs.declared.event.Event.{Event}
use Rattle.messages.specs.declared.event.Event.TheVariants as event
use Rattle.messages.specs.declared.event.NodeInput.{NodeInput}
use Rattle.messages.specs.declared.event.NodeInput.TheVariants as input
use Rattle.messages.specs.declared.message.Body.{Body}
use Rattle.messages.specs.declared.message.Body.TheVariants as body
use Rattle.messages.specs.declared.message.Location.{Location}
use Rattle.messages.specs.declared.message.Message.{Message}
use Rattle.messages.specs.declared.message.Wanted.{Wanted}
use Rattle.messages.specs.declared.message.Wanted.TheVariants as wanted
use Rattle.chunk_table.specs.ChunkTable.{chunk_of, file_of}
use Rattle.relaxed_file.specs.Machine.{Machine, FileState, OpenCall, IsOpen, chunk_count}
use Rattle.relaxed_file.specs.Run.{Action, Tell, IsLawful, after, after_all, LeadsTo, IsRunTo}
use Rattle.relaxed_file.specs.Run as machine
use Rattle.relaxed_file.proofs.Grows.{known_when_reached, grows_to}
use Rattle.relaxed_file.proofs.Known.{Known, file_below, FileBelow, AskedBelow, CurrentKnown}
use Rattle.client_state.specs.declared.call.CurrentCall.{CurrentCall}
use Rattle.client_state.specs.declared.call.Stage.{Stage}
use Rattle.client_state.specs.declared.call.Stage.TheVariants.{AskedNames, AskedWhere, SentMutate, SentRead}
use Rattle.protocol.specs.Tables.{element_at}
use Rattle.protocol.specs.Sending.{the_client}
use Rattle.protocol.specs.Choice.{Choice}
use Rattle.protocol.specs.Client.{ClientState}
use Rattle.protocol.specs.ClientAttempts.{is_length, wanted_by}
use Rattle.protocol.specs.Logged.{Logged}
use Rattle.protocol.specs.Master.{PendingSnapshot}
use Rattle.protocol.specs.World.{WorldState, happens, IsReached}
use Rattle.laws_base.proofs.Steps.{none_some, same_some, same_or_not}
use Rattle.laws_base.proofs.Entries.{same_number}
use Rattle.laws_base.specs.Attempts.{is_request}
use Rattle.laws_base.proofs.Events.{IsGiven}
use Rattle.laws_base.proofs.ReadAnswers.{one_request}
use Rattle.laws_base.proofs.RequestsOnce.{requests_are_numbered_once}
use Rattle.laws_versions.proofs.ExtendLaws.{came_in}
use Rattle.machine_names.specs.NameProjections.{AreNamesOf}
use Rattle.laws_names.specs.Alike.{is_there}
use Rattle.protocol_invariant.specs.ClientParts.{index_asked}
use Rattle.laws_machine.specs.ChunksAlike.{ChunkSides}
use Rattle.laws_machine.specs.ToldIndexes.{IsAskFor}
use Rattle.laws_machine.proofs.AskedIndexes.{asks_are_for_the_part_in_hand}
use Rattle.laws_base.proofs.MasterPremises.{IsTakenAsk}
use Rattle.laws_machine.specs.ChunksBeside.{AreChunksBeside}
use Rattle.laws_machine.specs.FileAnswers.{IsLastRound}
use Rattle.laws_machine.specs.FileClients.{IsFileCall, IsCallAlike, IsSaidAt}
use Rattle.laws_machine.specs.FileClientsStay.{IsFirm}
use Rattle.laws_machine.specs.MastersEvents.{is_offer}
use Rattle.laws_machine.specs.MasterSteps.{HasFilesOf}
use Rattle.laws_machine.specs.Rounds.{IsLogOf, IsMastersInput}
use Rattle.laws_machine.specs.WholeWorlds.{AreFileClients, IsBeside}
use Rattle.laws_machine.proofs.FileAnswers.{locations_are_offered, no_chunk_is_offered, collected_files_are_refused}
use Rattle.laws_machine.proofs.ToldHolders.{logged_chunks_are_last_rounds}
use Rattle.laws_machine.proofs.WholeMoves.{IsQuiet, GoesQuietly, quiet_run, run_goes_unseen}
use Rattle.laws_machine.proofs.WholeWorlds.{files_stay}
use Rattle.headline.proofs.AskedWords.{IsPast, IsToldBy, IsNoneBy, IsToldIn, IsRefusedIn}
use Rattle.headline.proofs.MadeFiles.{asked_files_are_made}
use Rattle.headline.proofs.StepWords.{IsWord, IsNewWord}
use Rattle.machine_names.proofs.Effects.{same_collected}

-- offers change clients alone, and clients see nothing of them

offers_quiet : (actions : List Action) → list_all is_offer actions ≡ true → AllByRecursion IsQuiet actions
offers_quiet [] of = tt
offers_quiet (Tell client file index ∷ rest) of = ((refl, refl, λ q. tt), offers_quiet rest of)
offers_quiet (other ∷ rest) of = absurd (let no : false ≡ true = of in cc)

offers_leave : (m : Machine) (actions : List Action) → list_all is_offer actions ≡ true → (after_all m actions).files ≡ m.files
offers_leave m [] of = refl
offers_leave m (Tell client file index ∷ rest) of = offers_leave (after m (Tell client file index)) rest of
offers_leave m (other ∷ rest) of = absurd (let no : false ≡ true = of in cc)

pub all_offers : (xs ys : List Action) → list_all is_offer xs ≡ true → list_all is_offer ys ≡ true → list_all is_offer (xs ++ ys) ≡ true
all_offers [] ys first second = second
all_offers (x ∷ xs) ys first second = let parts = and_parts (is_offer x) (list_all is_offer xs) first in and_from (is_offer x) (list_all is_offer (xs ++ ys)) parts.0 (all_offers xs ys parts.1 second)

-- What stands beside each machine that offers.
pub record IsBesideOffers (config : Config) (w then_ : WorldState) (first n : Machine) : Type 0 where
  pub run : IsRunTo config then_.observer.trace n
  pub files : n.files ≡ first.files
  pub clients : AreFileClients w.clients n

module _ (config : Config) (w then_ : WorldState) (first n : Machine) (h : IsBesideOffers config w then_ first n) (offers : List Action) (of : list_all is_offer offers ≡ true) (lawful : IsLawful n offers) where
  pub quiet : GoesQuietly n (after_all n offers) offers
  quiet = quiet_run config n offers (h.run.0, h.run.1, h.run.3) lawful (offers_quiet offers of)

  pub offered : IsBesideOffers config w then_ first (after_all n offers)
  offered = record {
    run = run_goes_unseen config then_.observer.trace n offers h.run lawful quiet.seen;
    files = offers_leave n offers of ∙ h.files;
    clients = files_stay n (after_all n offers) w.clients quiet.stays h.clients;
  }

-- which files are there

-- the whole machine has the files of the log that the one by names alone has
pub files_at_both : (l : Logged) (m n : Machine) → AreNamesOf m n → HasFilesOf l n → HasFilesOf l m
files_at_both l m n same has file =
    has file
    ∙ (ap (λ (count : ℕ). nat_lt 0 file && nat_le file count && not (n.files file).is_collected) same.count
    ∙ ap (λ (is_collected : Bool). nat_lt 0 file && nat_le file m.file_count && not is_collected) (same_collected m n same file))

there_is : (m : Machine) (file : ℕ) → is_there m file ≡ true → IsFalse (m.files file).is_collected
there_is m file is = by_flag (m.files file).is_collected (and_parts (nat_lt 0 file && nat_le file m.file_count) (not (m.files file).is_collected) is).1
  where
    by_flag : (b : Bool) → not b ≡ true → b ≡ false
    by_flag true unset = absurd (true≢false (sym unset))
    by_flag false unset = refl

gone_is : (m : Machine) (file : ℕ) → 1 ≤ file → file ≤ m.file_count → is_there m file ≡ false → IsTrue (m.files file).is_collected
gone_is m file low high none = by_flag (m.files file).is_collected refl
  where
    by_flag : (b : Bool) → (m.files file).is_collected ≡ b → b ≡ true
    by_flag true is = refl
    by_flag false is =
        absurd (true≢false (sym (and_from (nat_lt 0 file && nat_le file m.file_count) (not (m.files file).is_collected) (and_from (nat_lt 0 file) (nat_le file m.file_count) (lt-ltb 0 file low) (le-leb file m.file_count high)) (ap not is)) ∙ none))

-- what was asked for

past_of : (x : CurrentCall) (c : Call) (count : ℕ) → IsPast (wanted_by x.index c) count → count ≤ index_asked x c
past_of x (call.Read fd offset bytes) count past = past
past_of x (call.Write fd offset bytes) count past = absurd past
past_of x (call.Append fd bytes) count past = absurd past
past_of x other count past = omega (arith, past)

last_of : (c : Call) (index : ℕ) → is_length c ≡ true → wanted_by index c ≡ wanted.Last
last_of (call.Length fd) index is = refl
last_of (call.Read fd offset count) index is = absurd (let both : false ≡ true = is in cc)
last_of (call.Write fd offset bytes) index is = absurd (let both : false ≡ true = is in cc)
last_of (call.Append fd bytes) index is = absurd (let both : false ≡ true = is in cc)
last_of other index is = refl

given_of : (w : WorldState) (e : Event) (moment : ℕ) (i : NodeInput) → IsMastersInput w e moment i → IsGiven w e node.Master moment i
given_of w (event.Deliver number now) moment (input.Deliver m) given = given
given_of w (event.Tick n now) moment input.Tick given = given
given_of w (event.Deliver number now) moment input.Tick given = absurd given
given_of w (event.Tick n now) moment (input.Deliver m) given = absurd given
given_of w (event.Call client c now) moment i given = absurd given
given_of w (event.Restart n now) moment i given = absurd given
given_of w (event.Rot server q place byte) moment i given = absurd given
given_of w (event.Fuse n count torn) moment i given = absurd given

abbrev file_in : Body → ℕ
file_in (body.Ask number file what deadline lost) = file.0
file_in other = 0

abbrev what_in : Body → Wanted
what_in (body.Ask number file what deadline lost) = what
what_in other = wanted.Last

-- a chunk of the same files
last_on : (m n : Machine) (file : ℕ) (asked : Call) (l : Location) → n.files ≡ m.files → IsLastRound m file asked l → IsLastRound n file asked l
last_on m n file asked l same h = record {
  is_there = subst (λ (f : ℕ → FileState). IsFalse (f file).is_collected) (sym same) h.is_there;
  count = subst (λ (f : ℕ → FileState). l.index < (f file).chunk_count) (sym same) h.count;
  round = subst (λ (f : ℕ → FileState). ((f file).chunks l.index).round ≡ l.round.0) (sym same) h.round;
  last = λ is. subst (λ (f : ℕ → FileState). (f file).chunk_count ≡ suc l.index) (sym same) (h.last is);
}

module _ (config : Config) (servers clients : ℕ) (w : WorldState) (r : IsReached config servers clients w) (e : Event) (choice : Choice) (moment : ℕ) (i : NodeInput) (given : IsMastersInput w e moment i) (up : IsTrue w.master.up)
    (ss : List PendingSnapshot) (k j : ChunkSides) (h : IsBeside config w ss k) (leads : LeadsTo k.machine j.machine) (beside : AreChunksBeside config (happens w e choice).world j) (has : HasFilesOf j.log j.machine)
  where
    abbrev then_ : WorldState
    then_ = (happens w e choice).world

    log_before : k.log ≡ w.master.logged
    log_before = by_log h.chunks.log
      where
        by_log : IsLogOf w.master k.log → k.log ≡ w.master.logged
        by_log (inl now) = now.1
        by_log (inr down) = absurd (true≢false (sym up ∙ down.0))

    log_after : then_.master.up ≡ true → j.log ≡ then_.master.logged
    log_after still = by_log beside.log
      where
        by_log : IsLogOf then_.master j.log → j.log ≡ then_.master.logged
        by_log (inl now) = now.1
        by_log (inr down) = absurd (true≢false (sym still ∙ down.0))

    -- a message to a client that is up, of the event
    module _ (index : ℕ) (s : ClientState) (at : element_at w.clients index ≡ Some s) (client_up : IsTrue s.up) (y : Message) (word : IsNewWord i w then_ y) (to : y.receiver ≡ the_client (suc index))
        (x : CurrentCall) (now : s.current ≡ Some x) (n : Machine) (g : IsBesideOffers config w then_ j.machine n) (p : OpenCall) (alike : IsFileCall n (suc index) x p)
      where
        same_open : (z : OpenCall) → IsOpen n (suc index) z → p ≡ z
        same_open z opened = same_some p z (sym alike.is_open ∙ opened)

        -- the ask that is answered is the one for which the client waits
        module _ (number : ℕ) (stage : x.stage ≡ AskedWhere number) (a : IsTakenAsk i y.receiver number) where
          ask : IsAskFor w.sent (suc index) x number
          ask = asks_are_for_the_part_in_hand config servers clients w r index s at x number now stage

          one : a.ask ≡ ask.ask
          one =
              one_request w.sent (suc index) number (requests_are_numbered_once config servers clients w r (suc index) number).0 a.ask ask.ask (came_in w e node.Master moment i (given_of w e moment i given) a.ask a.came) (a.sender_is ∙ to)
              (ap (is_request number) a.body_is ∙ same_number number) ask.sent_is ask.sender_is (ap (is_request number) ask.body_is ∙ same_number number)

          bodies : body.Ask number a.file a.what a.deadline a.lost ≡ body.Ask number x.file (wanted_by x.index x.asked) ask.deadline ask.lost
          bodies = sym a.body_is ∙ (ap (λ (m : Message). m.body) one ∙ ask.body_is)

          file_is : a.file.0 ≡ x.file.0
          file_is = ap file_in bodies

          what_is : a.what ≡ wanted_by x.index x.asked
          what_is = ap what_in bodies

        -- what the machine offers, so that the word is so at this stage
        pub record Result (st : Stage) (b : Body) : Type 0 where
          pub offers : List Action
          pub of_offers : list_all is_offer offers ≡ true
          pub lawful : IsLawful n offers
          pub so : IsFirm b → (z : OpenCall) → IsOpen (after_all n offers) (suc index) z → IsSaidAt (after_all n offers) (suc index) s.id z x st b

        no_offer : (st : Stage) (b : Body) → (IsFirm b → (z : OpenCall) → IsOpen n (suc index) z → IsSaidAt n (suc index) s.id z x st b) → Result st b
        no_offer st b so = record { offers = []; of_offers = refl; lawful = tt; so = so }

        there : (handles : List ℕ) → file_of j.log.table x.file.0 ≡ Some handles → IsFalse (j.machine.files x.file.0).is_collected
        there handles is = there_is j.machine x.file.0 (sym (has x.file.0) ∙ ap is_some is)

        -- a location
        located : (l : Location) (what : Wanted) → what ≡ wanted_by x.index x.asked → IsToldBy then_.master.logged x.file.0 what l → IsLastRound n x.file.0 x.asked l
        located l what same told =
            let log_is : j.log ≡ then_.master.logged = log_after word.up in
            let file_there : file_of j.log.table x.file.0 ≡ Some told.handles = ap (λ (q : Logged). file_of q.table x.file.0) log_is ∙ told.file_is in
            let chunk = (beside.alike.there x.file.0 told.handles file_there).chunks l.index l.handle.0 told.stands in
            last_on j.machine n x.file.0 x.asked l g.files
            (logged_chunks_are_last_rounds j beside.alike x.file.0 told.handles file_there (there told.handles file_there) l l.handle.0 chunk.0 told.stands chunk.1
            (sym (told.round chunk.0 (ap (λ (q : Logged). chunk_of q.table l.handle.0) (sym log_is) ∙ chunk.1))) x.asked (λ is. told.last (same ∙ last_of x.asked x.index is)))

        none_left : (what : Wanted) → what ≡ wanted_by x.index x.asked → IsNoneBy then_.master.logged x.file.0 what → IsFalse (n.files x.file.0).is_collected × (chunk_count n x.file.0 ≤ index_asked x x.asked)
        none_left what same told =
            let log_is : j.log ≡ then_.master.logged = log_after word.up in
            let file_there : file_of j.log.table x.file.0 ≡ Some told.handles = ap (λ (q : Logged). file_of q.table x.file.0) log_is ∙ told.file_is in
            let count : chunk_count j.machine x.file.0 ≡ length told.handles = (beside.alike.there x.file.0 told.handles file_there).count in
            let low : length told.handles ≤ index_asked x x.asked = past_of x x.asked (length told.handles) (subst (λ (q : Wanted). IsPast q (length told.handles)) same told.past) in
            subst (λ (f : ℕ → FileState). IsFalse (f x.file.0).is_collected × ((f x.file.0).chunk_count ≤ index_asked x x.asked)) (sym g.files) (there told.handles file_there, omega (arith, count, low))

        told_result : (number : ℕ) (o : Option Location) → x.stage ≡ AskedWhere number → y.body ≡ body.Told number o → Result (AskedWhere number) (body.Told number o)
        told_result number o stage says = by_location o
            (subst (λ (f : ℕ). IsToldIn then_.master.logged f a.what o) (file_is number stage a) told.1)
          where
            told : IsWord i w.master.logged then_.master.logged y.receiver (body.Told number o)
            told = subst (λ (b : Body). IsWord i w.master.logged then_.master.logged y.receiver b) says word.word

            a : IsTakenAsk i y.receiver number
            a = told.0

            by_location : (q : Option Location) → IsToldIn then_.master.logged x.file.0 a.what q → Result (AskedWhere number) (body.Told number q)
            by_location (Some l) is =
                let gives = locations_are_offered config n (g.run.0, g.run.1, g.run.3) (suc index) x p alike l (located l a.what (what_is number stage a) is) in
                record { offers = Tell (suc index) x.file.0 l.index ∷ []; of_offers = refl; lawful = (gives.0, tt); so = λ firm z opened same. gives.1 z opened }
            by_location None is =
                let none = none_left a.what (what_is number stage a) is in
                let gives = no_chunk_is_offered n (suc index) x p alike none.0 none.1 in
                record { offers = Tell (suc index) x.file.0 (index_asked x x.asked) ∷ []; of_offers = refl; lawful = (gives.0, tt); so = λ firm z opened same. gives.1 z opened }

        -- a file that was collected before
        collected : (number : ℕ) → x.stage ≡ AskedWhere number → file_of w.master.logged.table x.file.0 ≡ None → IsTrue (n.files x.file.0).is_collected
        collected number stage none = subst (λ (f : ℕ → FileState). IsTrue (f x.file.0).is_collected) (sym g.files) (((grows_to k.machine j.machine leads known).files x.file.0).collected before)
          where
            reached : machine.IsReached config k.machine
            reached = (h.run.0, h.run.1, h.run.3)

            known : Known k.machine
            known = known_when_reached config k.machine reached

            by_alike : (c : Option CurrentCall) → c ≡ Some x → IsCallAlike k.machine (suc index) c → (q : OpenCall) × IsFileCall k.machine (suc index) x q
            by_alike None is call = none_some x is
            by_alike (Some z) is (inl names) = absurd (let both : AskedNames ≡ AskedWhere number = sym names ∙ (ap (λ (c : CurrentCall). c.stage) (same_some z x is) ∙ stage) in cc)
            by_alike (Some z) is (inr found) = subst (λ (c : CurrentCall). (q : OpenCall) × IsFileCall k.machine (suc index) c q) (same_some z x is) found

            call_before : (q : OpenCall) × IsFileCall k.machine (suc index) x q
            call_before = by_alike s.current now (h.files index s at client_up).call

            made : x.file.0 ≤ k.machine.file_count
            made =
                let current : CurrentKnown (suc k.machine.file_count) (k.machine.clients (suc index)).calls (Some call_before.0) = subst (CurrentKnown (suc k.machine.file_count) (k.machine.clients (suc index)).calls) call_before.1.is_open (known.clients (suc index)).current in
                let asked : FileBelow (suc k.machine.file_count) (call_before.0).asked.file = subst (AskedBelow (suc k.machine.file_count)) current.0 ((known.clients (suc index)).calls (call_before.0).number) in
                let low : x.file.0 < suc k.machine.file_count = file_below (suc k.machine.file_count) x.file.0 (call_before.0).asked.file call_before.1.file_is asked in
                omega (arith, low)

            above : 1 ≤ x.file.0
            above = asked_files_are_made config k.machine reached (suc index) call_before.0 call_before.1.is_open x.file.0 call_before.1.file_is

            gone : is_there k.machine x.file.0 ≡ false
            gone = sym (files_at_both k.log k.machine h.names h.same h.named.alike.files x.file.0) ∙ (ap (λ (q : Logged). table.contains_key q.table.files x.file.0) log_before ∙ ap is_some none)

            before : IsTrue (k.machine.files x.file.0).is_collected
            before = gone_is k.machine x.file.0 above made gone

        refused_result : (number : ℕ) (refusal : Refusal) → x.stage ≡ AskedWhere number → y.body ≡ body.Refused number refusal → Result (AskedWhere number) (body.Refused number refusal)
        refused_result number refusal stage says = by_refusal refusal (subst (λ (f : ℕ). IsRefusedIn w.master.logged f refusal) (file_is number stage a) told.1)
          where
            told : IsWord i w.master.logged then_.master.logged y.receiver (body.Refused number refusal)
            told = subst (λ (b : Body). IsWord i w.master.logged then_.master.logged y.receiver b) says word.word

            a : IsTakenAsk i y.receiver number
            a = told.0

            by_refusal : (q : Refusal) → IsRefusedIn w.master.logged x.file.0 q → Result (AskedWhere number) (body.Refused number q)
            by_refusal TooLong is = no_offer (AskedWhere number) (body.Refused number TooLong) (λ firm. absurd firm)
            by_refusal Collected is = no_offer (AskedWhere number) (body.Refused number Collected)
                (λ firm z opened same. collected_files_are_refused n (suc index) x z (subst (λ (q : OpenCall). IsFileCall n (suc index) x q) (same_open z opened) alike) (collected number stage is))
            by_refusal other is = absurd is

        -- a word that the master doesn't say
        unsaid : (b : Body) → y.body ≡ b → IsWord i w.master.logged then_.master.logged y.receiver b
        unsaid b says = subst (λ (q : Body). IsWord i w.master.logged then_.master.logged y.receiver q) says word.word

        asked_result : (number told_under : ℕ) (o : Option Location) → x.stage ≡ AskedWhere number → y.body ≡ body.Told told_under o → (number ≡ told_under) ⊎ (number ≡ told_under → ⊥) → Result (AskedWhere number) (body.Told told_under o)
        asked_result number told_under o stage says (inl same) =
            subst (λ (m : ℕ). Result (AskedWhere number) (body.Told m o)) same (told_result number o stage (says ∙ ap (λ (m : ℕ). body.Told m o) (sym same)))
        asked_result number told_under o stage says (inr differs) = no_offer (AskedWhere number) (body.Told told_under o) (λ firm z opened same. absurd (differs same))

        denied_result : (number told_under : ℕ) (refusal : Refusal) → x.stage ≡ AskedWhere number → y.body ≡ body.Refused told_under refusal → (number ≡ told_under) ⊎ (number ≡ told_under → ⊥) → Result (AskedWhere number) (body.Refused told_under refusal)
        denied_result number told_under refusal stage says (inl same) =
            subst (λ (m : ℕ). Result (AskedWhere number) (body.Refused m refusal)) same (refused_result number refusal stage (says ∙ ap (λ (m : ℕ). body.Refused m refusal) (sym same)))
        denied_result number told_under refusal stage says (inr differs) = no_offer (AskedWhere number) (body.Refused told_under refusal) (λ firm z opened same. absurd (differs same))

        pub result : (st : Stage) (b : Body) → x.stage ≡ st → y.body ≡ b → Result st b
        result (AskedWhere number) (body.Told told_under o) stage says = asked_result number told_under o stage says (same_or_not number told_under)
        result (AskedWhere number) (body.Refused told_under refusal) stage says = denied_result number told_under refusal stage says (same_or_not number told_under)
        result (SentMutate chunk number) (body.Done id offset) stage says = absurd (let no : false ≡ true = unsaid (body.Done id offset) says in cc)
        result (SentRead chunk left number) (body.Bytes m bytes) stage says = absurd (let no : false ≡ true = unsaid (body.Bytes m bytes) says in cc)
        result (SentRead chunk left number) (body.LenIs m count) stage says = absurd (let no : false ≡ true = unsaid (body.LenIs m count) says in cc)
        result st b stage says = no_offer st b (λ firm z opened. tt)
