-- A mutation that a server may number is for its client's open call at the machine.
use Rattle.std.proofs.Common.{◌≡◌, ℕ, zero, suc, ◌<◌, ◌≤◌, max, true, false, List, [], ◌∷◌, ◌++◌, length, Option, Some, None, refl, sym, ap, subst, ◌∙◌, arith}
use Rattle.std.specs.Prelude.{IsTrue}
use Rattle.std.proofs.lemmas.Bool.{and_parts, true≢false}
use Rattle.std.proofs.lemmas.List.{length-append}
use Rattle.std.proofs.Math.Nat.{max-le}
use Rattle.gfs_types.specs.declared.config.Config.{Config}
use Rattle.gfs_types.specs.declared.call.Call.{Call}
use Rattle.gfs_types.specs.declared.call.Call.TheVariants as call
use Rattle.gfs_types.specs.declared.ids.DataId.{DataId}
use Rattle.gfs_types.specs.declared.ids.Handle.{Handle}
use Rattle.gfs_types.specs.declared.ids.Version.{Version}
use Rattle.gfs_types.specs.declared.mutation.Mutation.{Mutation}
use Rattle.gfs_types.specs.declared.mutation.Mutation.TheVariants.{Write, Append, Pad}
use Rattle.messages.specs.declared.event.Event.{Event}
use Rattle.messages.specs.declared.event.NodeInput.{NodeInput}
use Rattle.messages.specs.declared.event.NodeInput.TheVariants as input
use Rattle.messages.specs.declared.message.Body.{Body}
use Rattle.messages.specs.declared.message.Message.{Message}
use Rattle.messages.specs.declared.message.Target.{Target}
use Rattle.messages.specs.declared.message.Target.TheVariants as target
use Rattle.relaxed_file.specs.Order.{CallId}
use Rattle.relaxed_file.specs.Machine.{Machine, Asked, OpenCall, IsOpen, new_machine, chunk_size, chunk_at, chunk_count}
use Rattle.relaxed_file.specs.Chunks.{tries_in, tries_below}
use Rattle.relaxed_file.specs.NotRuns.{waits}
use Rattle.relaxed_file.proofs.Known.{Known}
use Rattle.relaxed_file.proofs.Grows.{known_when_reached}
use Rattle.relaxed_file.proofs.AskedFor.{open_is_made}
use Rattle.relaxed_file.proofs.Moments.{is_waiting, waits_as_seen}
use Rattle.relaxed_file.proofs.Tables.{from_some}
use Rattle.protocol.specs.Choice.{Choice}
use Rattle.protocol.specs.Master.{PendingSnapshot}
use Rattle.protocol.specs.Observer.{observed_moment, calls_made}
use Rattle.protocol.specs.Server.{ServerState}
use Rattle.protocol.specs.ServerStep.{server_at}
use Rattle.protocol.specs.World.{WorldState, new_world, after_events, IsReached, is_kept}
use Rattle.laws_base.specs.FewAttempts.{WasAsked, part_of, EachOf, AreApart}
use Rattle.laws_base.specs.Entries.{IsPlacedFor, IsAskedFor}
use Rattle.laws_base.specs.Deadlines.{Numbers}
use Rattle.laws_base.specs.FullChunks.{IsPad}
use Rattle.laws_versions.proofs.PushedData.{data_are_pushed_once}
use Rattle.laws_machine.specs.BoundedCalls.{IsEntryFor}
use Rattle.laws_machine.specs.OpenAttempts.{IsOfOpenCall}
use Rattle.laws_machine.proofs.BoundedCalls.{placings_are_of_few_entries}
use Rattle.laws_machine.proofs.OpenEntries.{config_stays, entries_are_of_open_calls, entries_were_asked_for_in_their_call}
use Rattle.laws_machine.proofs.ToldOnce.{handles_are_told_at_one_index}
use Rattle.protocol_invariant.specs.Actions.{Spot}
use Rattle.protocol.specs.Explained.{AreSettings}
use Rattle.laws_machine.specs.ChunksAlike.{ChunkSides}
use Rattle.laws_machine.specs.ServerSteps.{AreDataOf, HasPartLeft, IsForOpenCall, AreForOpenCalls}
use Rattle.laws_machine.specs.WholeWorlds.{IsBeside}
use Rattle.laws_machine.proofs.CountedCalls.{calls_are_counted}
use Rattle.laws_machine.specs.SentRequests.{IsPartTo, IsAttemptOf, IsRequestOf, AreRequestsOf, AreRequestsOfCalls, IsTryAt, AreTriesNumbered}
use Rattle.headline.specs.NumberedCalls.{NumberedMutationsAreForOpenCalls}
use Rattle.headline.proofs.AskedOnce.{asked_once}
use Rattle.headline.proofs.NumberedAttempts as attempts
use Rattle.headline.proofs.NumberedAttempts.{told_at}

-- a client that waits has its call open
from_waiting : (p q : Option OpenCall) → q ≡ p → is_waiting p ≡ true → (o : OpenCall) × (q ≡ Some o)
from_waiting None q is waiting = absurd (true≢false (sym waiting))
from_waiting (Some o) q is waiting = (o, is)

-- numbers

pub each_on : (P Q : ℕ → Type 0) → ((n : ℕ) → P n → Q n) → (ns : List ℕ) → EachOf P ns → EachOf Q ns
each_on P Q go [] h = tt
each_on P Q go (n ∷ ns) h = (go n h.0, each_on P Q go ns h.1)

each_join : (P : ℕ → Type 0) (xs ys : List ℕ) → EachOf P xs → EachOf P ys → EachOf P (xs ++ ys)
each_join P [] ys one two = two
each_join P (x ∷ xs) ys one two = (one.0, each_join P xs ys one.1 two)

apart_join : (P Q : ℕ → Type 0) → ((x y : ℕ) → P x → Q y → x ≡ y → ⊥) → (xs ys : List ℕ) → AreApart xs → AreApart ys → EachOf P xs → EachOf Q ys → AreApart (xs ++ ys)
apart_join P Q differ [] ys one two ps qs = two
apart_join P Q differ (x ∷ xs) ys one two ps qs =
    (each_join (λ m. x ≡ m → ⊥) xs ys one.0 (each_on Q (λ m. x ≡ m → ⊥) (λ y q. differ x y ps.0 q) ys qs), apart_join P Q differ xs ys one.1 two ps.1 qs)

-- what the call has left, by what is to be placed for it

abbrev HasTry : Machine → CallId → (file index : ℕ) → Call → Mutation → Type 0
HasTry m id file index (call.Write fd offset bytes) (Write at content) = tries_in id (chunk_at m file index) < m.config.attempts
HasTry m id file index (call.Append fd bytes) (Append at content) = tries_below (m.files file).chunks id (chunk_count m file) < m.config.attempts
HasTry m id file index c mutation = Unit {0}

left_of : (m : Machine) (id : CallId) (file index : ℕ) (c : Call) (aim : Target) (bytes : List ℕ) (x : Mutation) → IsPlacedFor aim bytes x → IsPartTo m id file index c aim → HasTry m id file index c x → HasPartLeft m id file index c x
left_of m id file index (call.Write fd offset content) (target.Write at) bytes (Write o b) fits part try_ = (part.0, part.1, fits.0 ∙ part.2, part.3, try_)
left_of m id file index (call.Write fd offset content) (target.Write at) bytes (Append o b) fits part try_ = absurd fits
left_of m id file index (call.Write fd offset content) (target.Write at) bytes (Pad o end) fits part try_ = absurd fits
left_of m id file index (call.Append fd content) target.Append bytes (Write o b) fits part try_ = absurd fits
left_of m id file index (call.Append fd content) target.Append bytes (Append o b) fits part try_ = try_
left_of m id file index (call.Append fd content) target.Append bytes (Pad o end) fits part try_ = tt
left_of m id file index other aim bytes x fits part try_ = absurd part

module _ (config : Config) (servers clients : ℕ) (steps : List (Event × Choice)) (settings : AreSettings config) (kept : IsTrue (is_kept (after_events (new_world config servers clients) steps)))
    (ss : List PendingSnapshot) (k : ChunkSides) (beside : IsBeside config (after_events (new_world config servers clients) steps) ss k)
    (requests : AreRequestsOf (new_world config servers clients) steps k.machine) (tries : AreTriesNumbered (after_events (new_world config servers clients) steps) k.machine) where
  abbrev Start : WorldState
  Start = new_world config servers clients

  abbrev W : WorldState
  W = after_events (new_world config servers clients) steps

  reached : IsReached config servers clients W
  reached = (steps, refl)

  same_config : W.config ≡ config
  same_config = config_stays config Start steps refl

  clocks : IsTrue W.observer.are_clocks_kept
  clocks = (and_parts W.observer.are_clocks_kept W.observer.are_disks_kept kept).0

  known : Known k.machine
  known = known_when_reached config k.machine (beside.run.0, beside.run.1, beside.run.3)

  module _ (index moment : ℕ) (s : ServerState) (i : NodeInput) (choice : Choice) (handle : Handle) (version : Version) (id : DataId) (n : Numbers (after_events (new_world config servers clients) steps) index moment s i choice handle version id)
      (counts : IsTrue (observed_moment (after_events (new_world config servers clients) steps).config.skew_ms (after_events (new_world config servers clients) steps).observer moment).are_clocks_kept) where
    abbrev counted : IsTrue (observed_moment config.skew_ms W.observer moment).are_clocks_kept
    counted = attempts.counted config servers clients steps clocks k beside.chunks requests index moment s i choice handle version id n counts

    abbrev law : (m : Message) × (i ≡ input.Deliver m) × IsAskedFor (server_at s moment) W.sent m handle version n.serial id n.placed
    law = attempts.law config servers clients steps clocks k beside.chunks requests index moment s i choice handle version id n counts

    abbrev asked : IsAskedFor (server_at s moment) W.sent law.0 handle version n.serial id n.placed
    asked = attempts.asked config servers clients steps clocks k beside.chunks requests index moment s i choice handle version id n counts

    abbrev attempt : IsAttemptOf Start steps k.machine id.client.0 id handle version asked.aim
    attempt = attempts.attempt config servers clients steps clocks k beside.chunks requests index moment s i choice handle version id n counts

    of_open : IsOfOpenCall Start steps attempt.index id.seq
    of_open = entries_are_of_open_calls config servers clients steps index moment s i choice handle version id n counted attempt.index attempt.client_is

    -- the call at the machine

    waiting : is_waiting (k.machine.clients id.client.0).open_call ≡ true
    waiting =
        waits_as_seen id.client.0 (new_machine config) k.machine W.observer.trace (record { actions = beside.run.0; lawful = beside.run.1; ends = beside.run.3; seen = beside.run.2 })
        ∙ ap (λ (c : ℕ). waits c false W.observer.trace) attempt.client_is ∙ of_open.is_open

    opened : (o : OpenCall) × IsOpen k.machine id.client.0 o
    opened = from_waiting (k.machine.clients id.client.0).open_call (k.machine.clients id.client.0).open_call refl waiting

    abbrev Made : ℕ
    Made = calls_made W.observer.trace (suc attempt.index)

    number_is : (opened.0).number ≡ calls_made W.observer.trace id.client.0
    number_is = (calls_are_counted config W.observer.trace k.machine beside.run id.client.0).1 opened.0 opened.1

    number_made : (opened.0).number ≡ Made
    number_made = number_is ∙ ap (λ (c : ℕ). calls_made W.observer.trace c) attempt.client_is

    once : (attempt.number ≡ Made) × (part_of attempt.of_call.asked.call attempt.place ≡ of_open.part)
    once = asked_once config servers clients steps attempt.index attempt.number (part_of attempt.of_call.asked.call attempt.place) Made of_open.part id.seq attempt.was_asked of_open.asked

    made_is : attempt.number ≡ (opened.0).number
    made_is = once.0 ∙ sym number_made

    call_made : (k.machine.clients id.client.0).calls (opened.0).number ≡ Some (opened.0).asked
    call_made = open_is_made k.machine id.client.0 opened.0 known opened.1

    same_asked : attempt.of_call.asked ≡ (opened.0).asked
    same_asked = from_some (sym attempt.of_call.made ∙ ap (λ (q : ℕ). (k.machine.clients id.client.0).calls q) made_is ∙ call_made)

    -- tries

    abbrev Id : CallId
    Id = record { client = id.client.0; number = (opened.0).number }

    id_is : record { client = suc attempt.index; number = Made } ≡ Id
    id_is = λ q. record { client = (sym attempt.client_is) q; number = (sym number_made) q }

    module _ (no_pad : IsPad n.placed → ⊥) where
      few : (part : Option ℕ) × WasAsked attempt.index Start steps Made part id.seq
          × ((numbers : List ℕ) → AreApart numbers → EachOf (IsEntryFor Start steps attempt.index Made part) numbers → length numbers < max 1 config.attempts)
      few = placings_are_of_few_entries config servers clients steps index moment s i choice handle version id n no_pad counted attempt.index attempt.client_is

      part_is : part_of (opened.0).asked.call attempt.place ≡ few.0
      part_is =
          ap (λ (a : Asked). part_of a.call attempt.place) (sym same_asked)
          ∙ (asked_once config servers clients steps attempt.index attempt.number (part_of attempt.of_call.asked.call attempt.place) Made few.0 id.seq attempt.was_asked few.1).1

      -- a try of the call at an index is an entry for that part
      entry_for : (at q : ℕ) → part_of (opened.0).asked.call at ≡ few.0 → IsTryAt W (suc attempt.index) Made at q → IsEntryFor Start steps attempt.index Made few.0 q
      entry_for at q part t =
          record {
            handle = t.handle;
            place = t.place;
            placed = t.placed;
            is = t.is;
            call_is = t.call_is;
            seq_is = t.seq_is;
            no_pad = t.no_pad;
            part_is = subst (λ (p : Option ℕ). WasAsked attempt.index Start steps Made p q) (same.1 ∙ ap (λ (a : Asked). part_of a.call b.place) same_call ∙ ap (λ (r : ℕ). part_of (opened.0).asked.call r) place_is ∙ part) entered;
          }
        where
          b : IsAttemptOf Start steps k.machine (suc attempt.index) t.id t.named t.version t.aim
          b = subst (λ (x : Body). IsRequestOf Start steps k.machine (suc attempt.index) x) t.body_is (requests (suc attempt.index) (t.sent_is).0 t.asked (t.sent_is).1 t.sender_is)

          e : (part : Option ℕ) × WasAsked attempt.index Start steps t.placed.entry.call.number part t.placed.seq
          e = entries_were_asked_for_in_their_call config servers clients steps clocks t.handle t.place t.placed t.is attempt.index (ap (λ (c : CallId). c.client) t.call_is)

          entered : WasAsked attempt.index Start steps Made e.0 q
          entered = subst (λ (r : ℕ). WasAsked attempt.index Start steps Made e.0 r) t.seq_is (subst (λ (r : ℕ). WasAsked attempt.index Start steps r e.0 t.placed.seq) (ap (λ (c : CallId). c.number) t.call_is) e.1)

          index_is : b.index ≡ attempt.index
          index_is = let own = b.client_is in omega (arith, own)

          was_asked : WasAsked attempt.index Start steps b.number (part_of b.of_call.asked.call b.place) q
          was_asked = subst (λ (r : ℕ). WasAsked r Start steps b.number (part_of b.of_call.asked.call b.place) q) index_is (subst (λ (r : ℕ). WasAsked b.index Start steps b.number (part_of b.of_call.asked.call b.place) r) t.id_is b.was_asked)

          same : (Made ≡ b.number) × (e.0 ≡ part_of b.of_call.asked.call b.place)
          same = asked_once config servers clients steps attempt.index Made e.0 b.number (part_of b.of_call.asked.call b.place) q entered was_asked

          call_there : (k.machine.clients (suc attempt.index)).calls Made ≡ Some (opened.0).asked
          call_there =
              ap (λ (c : ℕ). (k.machine.clients c).calls Made) (sym attempt.client_is) ∙ ap (λ (r : ℕ). (k.machine.clients id.client.0).calls r) (sym number_made) ∙ call_made

          same_call : b.of_call.asked ≡ (opened.0).asked
          same_call = from_some (sym b.of_call.made ∙ ap (λ (r : ℕ). (k.machine.clients (suc attempt.index)).calls r) (sym same.0) ∙ call_there)

          place_is : b.place ≡ at
          place_is =
              sym b.told.index_is ∙ handles_are_told_at_one_index config servers clients W reached clocks (suc attempt.index) (suc attempt.index) b.file t.file b.told.location t.told.location (b.told.told.sent_is).0 (t.told.told.sent_is).0
              (told_at W.sent (suc attempt.index) b.file b.place t.named.0 t.version.0 b.told t.granted) (told_at W.sent (suc attempt.index) t.file at t.named.0 t.version.0 t.told t.granted)
              (b.told.handle_is ∙ sym t.told.handle_is) ∙ t.told.index_is

      attempts_are : max 1 config.attempts ≤ k.machine.config.attempts
      attempts_are =
          subst (λ (c : Config). max 1 config.attempts ≤ c.attempts) (sym beside.chunks.settings) (max-le settings.attempts (omega arith))

      in_chunk : (file at : ℕ) → part_of (opened.0).asked.call at ≡ few.0 → tries_in Id (chunk_at k.machine file at) < k.machine.config.attempts
      in_chunk file at part =
          let t = tries file at (suc attempt.index) Made in
          let low = few.2 t.0 t.1 (each_on (IsTryAt W (suc attempt.index) Made at) (IsEntryFor Start steps attempt.index Made few.0) (λ q try_. entry_for at q part try_) t.0 t.2) in
          let most = subst (λ (c : CallId). tries_in c (chunk_at k.machine file at) ≤ length t.0) id_is t.3 in
          let all = attempts_are in
          omega (arith, low, most, all)

      -- in the first chunks of a file

      abbrev Below : ℕ → ℕ → Type 0
      Below count q = (at : ℕ) × (at < count) × IsTryAt W (suc attempt.index) Made at q

      all_below : (file count : ℕ) → (numbers : List ℕ) × AreApart numbers × EachOf (Below count) numbers × (tries_below (k.machine.files file).chunks (record { client = suc attempt.index; number = Made }) count ≤ length numbers)
      all_below file zero = ([], tt, tt, omega arith)
      all_below file (suc count) =
          let first = all_below file count in
          let t = tries file count (suc attempt.index) Made in (
            t.0 ++ first.0,
            apart_join (IsTryAt W (suc attempt.index) Made count) (Below count) (λ x y one two same. let at_one = attempts.one_index config servers clients steps clocks k beside.chunks requests (suc attempt.index) Made Made count two.0 x y one two.2 same in let low = two.1 in absurd (omega (arith, at_one, low))) t.0 first.0 t.1 first.1 t.2 first.2,
            each_join (Below (suc count)) t.0 first.0 (each_on (IsTryAt W (suc attempt.index) Made count) (Below (suc count)) (λ q try_. (count, omega arith, try_)) t.0 t.2)
                (each_on (Below count) (Below (suc count)) (λ q below. let low = below.1 in (below.0, omega (arith, low), below.2)) first.0 first.2),
            (let one = t.3 in let two = first.3 in let sum = length-append t.0 first.0 in omega (arith, one, two, sum)),
          )

      in_file : (file count : ℕ) → ((at : ℕ) → part_of (opened.0).asked.call at ≡ few.0) → tries_below (k.machine.files file).chunks Id count < k.machine.config.attempts
      in_file file count part =
          let t = all_below file count in
          let low = few.2 t.0 t.1 (each_on (Below count) (IsEntryFor Start steps attempt.index Made few.0) (λ q below. entry_for below.0 q (part below.0) below.2) t.0 t.2) in
          let most = subst (λ (c : CallId). tries_below (k.machine.files file).chunks c count ≤ length t.0) id_is t.3 in
          let all = attempts_are in
          omega (arith, low, most, all)

    try_left : (c : Call) (x : Mutation) → (opened.0).asked.call ≡ c → n.placed ≡ x → HasTry k.machine Id attempt.file attempt.place c x
    try_left (call.Write fd offset bytes) (Write at content) is now =
        let no_pad : IsPad n.placed → ⊥ = subst (λ (y : Mutation). IsPad y → ⊥) (sym now) (λ h. h) in in_chunk no_pad attempt.file attempt.place (part_is no_pad)
    try_left (call.Append fd bytes) (Append at content) is now =
        let no_pad : IsPad n.placed → ⊥ = subst (λ (y : Mutation). IsPad y → ⊥) (sym now) (λ h. h) in
        in_file no_pad attempt.file (chunk_count k.machine attempt.file) (λ at_. ap (λ (c : Call). part_of c at_) is ∙ ap (λ (c : Call). part_of c attempt.place) (sym is) ∙ part_is no_pad)
    try_left other x is now = tt

    for_there : IsForOpenCall W k id (record { file = attempt.file; index = attempt.place }) n.placed
    for_there =
        record {
          current = opened.0;
          is_open = opened.1;
          number_is = number_is;
          file_is = ap (λ (a : Asked). a.file) (sym same_asked) ∙ attempt.of_call.file_is;
          pushed = λ bytes was.
              subst (λ (a : Asked). AreDataOf (chunk_size k.machine attempt.file) attempt.place a.call bytes) same_asked
              (subst (λ (bs : List ℕ). AreDataOf (chunk_size k.machine attempt.file) attempt.place attempt.of_call.asked.call bs) (sym (data_are_pushed_once config servers clients W reached id id attempt.bytes bytes attempt.pushed was refl refl)) attempt.pushes);
          part =
              left_of k.machine Id attempt.file attempt.place (opened.0).asked.call asked.aim asked.bytes n.placed asked.fits
              (subst (λ (q : ℕ). IsPartTo k.machine (record { client = id.client.0; number = q }) attempt.file attempt.place (opened.0).asked.call asked.aim) made_is
              (subst (λ (a : Asked). IsPartTo k.machine (record { client = id.client.0; number = attempt.number }) attempt.file attempt.place a.call asked.aim) same_asked attempt.part))
              (try_left (opened.0).asked.call n.placed refl refl);
        }

  are_for_open_calls : AreForOpenCalls W k
  are_for_open_calls index moment s i choice handle version id n counts at was_open =
      subst (λ (p : Spot). IsForOpenCall W k id p n.placed) (sym (attempts.spot_is config servers clients steps clocks k beside.chunks requests index moment s i choice handle version id n counts at was_open)) (for_there index moment s i choice handle version id n counts)

pub numbered_mutations_are_for_open_calls : NumberedMutationsAreForOpenCalls
numbered_mutations_are_for_open_calls config servers clients w settings r kept ss k beside =
    let requests : AreRequestsOfCalls config w k.machine = beside.requests_are.0 in
    subst (λ (u : WorldState). IsTrue (is_kept u) → IsBeside config u ss k → AreTriesNumbered u k.machine → AreForOpenCalls u k) requests.leads
    (λ ok there numbered. are_for_open_calls config requests.servers requests.clients requests.steps settings ok ss k there requests.each numbered) kept beside beside.requests_are.1
