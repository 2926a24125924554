-- Before a version is granted, each member has told that it has it.
use Rattle.std.proofs.Common.{◌≡◌, ◌⊎◌, ℕ, zero, suc, ◌≤◌, ◌<◌, true, List, [], ◌∷◌, ◌++◌, length, Option, Some, None, refl, ap, subst, ◌∙◌, inl, inr, arith}
use Rattle.std.specs.Prelude.{◌==◌, ◌&&◌, not}
use Rattle.std.specs.List.{list_any}
use Rattle.std.proofs.lemmas.Bool.{and_from, or_left, or_right}
use Rattle.std.specs.FinMap as table
use Rattle.gfs_types.specs.declared.ids.Node.{Node}
use Rattle.gfs_types.specs.declared.ids.Node.TheVariants as node
use Rattle.gfs_types.specs.declared.ids.OrderNo.{OrderNo}
use Rattle.gfs_types.specs.declared.ids.Handle.{Handle}
use Rattle.gfs_types.specs.declared.ids.Version.{Version}
use Rattle.gfs_types.specs.declared.ids.Moment.{Moment}
use Rattle.gfs_types.specs.declared.config.Config.{Config}
use Rattle.messages.specs.declared.message.Body.{Body}
use Rattle.messages.specs.declared.message.Body.TheVariants as body
use Rattle.messages.specs.declared.message.Message.{Message}
use Rattle.messages.specs.declared.message.ReplicaLine.{ReplicaLine}
use Rattle.messages.specs.declared.event.NodeInput.{NodeInput}
use Rattle.messages.specs.declared.event.NodeInput.TheVariants as input
use Rattle.log_records.specs.declared.record.Record.TheVariants as log
use Rattle.protocol.specs.Tables.{element_at, without_at, has_number}
use Rattle.protocol.specs.Choice.{Choice, Ending, Goes, Lost, Stops, picked, in_order}
use Rattle.protocol.specs.Sending.{the_server, server_number, order_number}
use Rattle.protocol.specs.Seen.{Taken, no_step}
use Rattle.protocol.specs.LogSizes.{checkpoint_fits}
use Rattle.protocol.specs.Logged.{LogDisk, LogChange, checkpoint_of}
use Rattle.protocol.specs.Master.{MasterState, MasterDoing, stopped_master, master_begins, fits, appends, writes_checkpoint, logs_after_checkpoint, is_of_copy}
use Rattle.protocol.specs.MasterStep.{master_goes, master_ends, master_bounded, master_step, is_within_limits, may_end, found_log, started_master, opening, has_opened, opens_as, new_master}
use Rattle.protocol.specs.World.{stamped}
use Rattle.laws_base.specs.Laws.{tells_version, WasTold, MembersRecordedWhatIsGranted}
use Rattle.laws_base.proofs.Steps.{on_cond, none_some, same_some}
use Rattle.laws_base.proofs.Entries.{AllOf, all_joined, same_number}
use Rattle.laws_base.proofs.VersionAttempts.{IsServerNumber, AreTold, more_told, none_told, fewer_told}
use Rattle.laws_base.proofs.MasterMoves.{IsPlainOrder, plain_nothing, NoneEnded, Keeps}
use Rattle.laws_base.proofs.MasterChunksMoves.{AreLinesTold}
use Rattle.laws_base.proofs.MasterSteps.{IsWordTold, IsInputTold, goes_told}
use Rattle.laws_base.proofs.ClientMoves.{HasNoOrder}
use Rattle.laws_base.proofs.Words.{no_order}
use Rattle.laws_base.proofs.LeaseOrders.{says_grant, unordered_nothing, OfGrant, of_grant, to_grant, of_nothing}
use Rattle.laws_base.proofs.SentReached.{IsInputSent, without_order, sent_reached}

-- places in lists

pub kept_place : {X : Type 0} (xs ys : List X) (n : ℕ) (x : X) → element_at xs n ≡ Some x → element_at (xs ++ ys) n ≡ Some x
kept_place [] ys n x h = none_some x h
kept_place (y ∷ xs) ys zero x h = h
kept_place (y ∷ xs) ys (suc n) x h = kept_place xs ys n x h

pub place_below : {X : Type 0} (xs : List X) (n : ℕ) (x : X) → element_at xs n ≡ Some x → n < length xs
place_below [] n x h = none_some x h
place_below (y ∷ xs) zero x h = omega arith
place_below (y ∷ xs) (suc n) x h = let below = place_below xs n x h in omega (arith, below)

-- an element of the first part, or of the second
pub place_cases : {X : Type 0} (xs ys : List X) (n : ℕ) (x : X) → element_at (xs ++ ys) n ≡ Some x
    → (element_at xs n ≡ Some x) ⊎ ((m : ℕ) × (length xs ≤ n) × (element_at ys m ≡ Some x))
place_cases [] ys n x h = inr (n, omega arith, h)
place_cases (y ∷ xs) ys zero x h = inl h
place_cases (y ∷ xs) ys (suc n) x h =
    elim (place_cases xs ys n x h) [
      | inl before ↦ inl before
      | inr later ↦ inr (later.0, let more = later.1 in omega (arith, more), later.2)
    ]

pub all_at : {X : Type 0} (P : X → Type 0) (xs : List X) (n : ℕ) (x : X) → AllOf P xs → element_at xs n ≡ Some x → P x
all_at P [] n x all h = none_some x h
all_at P (y ∷ xs) zero x all h = subst P (same_some y x h) all.0
all_at P (y ∷ xs) (suc n) x all h = all_at P xs n x all.1 h

all_without : {X : Type 0} (P : X → Type 0) (xs : List X) (n : ℕ) → AllOf P xs → AllOf P (without_at xs n)
all_without P [] n all = tt
all_without P (x ∷ xs) zero all = all.1
all_without P (x ∷ xs) (suc n) all = (all.0, all_without P xs n all.1)

all_picked : {X : Type 0} (P : X → Type 0) (o : Option X) (xs : List X) → ((x : X) → o ≡ Some x → P x) → AllOf P xs → AllOf P (picked o xs)
all_picked P None xs one all = all
all_picked P (Some x) xs one all = (one x refl, all)

pub all_in_order : {X : Type 0} (P : X → Type 0) (ns : List ℕ) (xs : List X) → AllOf P xs → AllOf P (in_order ns xs)
all_in_order P [] xs all = all
all_in_order P (n ∷ ns) xs all =
    all_picked P (element_at xs n) (in_order ns (without_at xs n)) (λ x is. all_at P xs n x all is) (all_in_order P ns (without_at xs n) (all_without P xs n all))

-- grants

-- the members of a grant told that they have the version
abbrev AreMembersTold : (ℕ → ℕ → ℕ → Type 0) → OrderNo → Handle → Version → Moment → List ℕ → Type 0
AreMembersTold Told order handle version end_moment members = (n : ℕ) → has_number members n ≡ true → Told n handle.0 version.0

abbrev IsGrantTold : (ℕ → ℕ → ℕ → Type 0) → Body → Type 0
IsGrantTold Told b = OfGrant (AreMembersTold Told) b

abbrev AreGrantsTold : (ℕ → ℕ → ℕ → Type 0) → List Message → Type 0
AreGrantsTold Told sent = AllOf (λ m. IsGrantTold Told m.body) sent

more_granted : (Told Also : ℕ → ℕ → ℕ → Type 0) → ((n h v : ℕ) → Told n h v → Also n h v) → (b : Body) → IsGrantTold Told b → IsGrantTold Also b
more_granted Told Also also b h =
    to_grant (AreMembersTold Also) b (λ order handle version end_moment members is n there. also n handle.0 version.0 (of_grant (AreMembersTold Told) is h n there))

no_order_granted : (Told : ℕ → ℕ → ℕ → Type 0) (b : Body) → order_number b ≡ None → IsGrantTold Told b
no_order_granted Told b none = of_nothing (AreMembersTold Told) b (unordered_nothing b none)

no_grant_granted : (Told : ℕ → ℕ → ℕ → Type 0) (b : Body) → IsPlainOrder b → IsGrantTold Told b
no_grant_granted Told b plain = of_nothing (AreMembersTold Told) b (plain_nothing b plain)

-- messages without an order have no grant
quiet_granted : (Told : ℕ → ℕ → ℕ → Type 0) (ms : List Message) → AllOf (λ m. order_number m.body ≡ None) ms → AreGrantsTold Told ms
quiet_granted Told [] all = tt
quiet_granted Told (m ∷ ms) all = (no_order_granted Told m.body all.0, quiet_granted Told ms all.1)

stamped_granted : (Told : ℕ → ℕ → ℕ → Type 0) (k : ℕ) (ms : List Message) → AreGrantsTold Told ms → AreGrantsTold Told (stamped k ms)
stamped_granted Told k [] h = tt
stamped_granted Told k (m ∷ ms) h = (h.0, stamped_granted Told (suc k) ms h.1)

-- a step of the master
granting_keeps : (Told : ℕ → ℕ → ℕ → Type 0) → Keeps ⊥ Told NoneEnded (λ c. AreGrantsTold Told c.sent)
granting_keeps Told =
    record {
      tells = λ c receiver b quiet h. all_joined (λ m. IsGrantTold Told m.body) c.sent _ h (no_order_granted Told b (no_order b quiet), tt);
      orders = λ c server b is plain h. all_joined (λ m. IsGrantTold Told m.body) c.sent _ h (no_grant_granted Told (b _) (plain _), tt);
      revokes = λ c handle row is h. all_joined (λ m. IsGrantTold Told m.body) c.sent _ h (tt, tt);
      grants = λ c handle version until primary members told due names from idle h. all_joined (λ m. IsGrantTold Told m.body) c.sent _ h (told, tt);
      appends = λ c r due plain names h. h;
      checkpoint = λ c tree h. h;
      less = λ c handles copied h. h;
      sound = λ asks. absurd asks;
      ends = λ c handle row is word h. h;
      extends = λ c handle until row is lasts later from h. all_joined (λ m. IsGrantTold Told m.body) c.sent _ h (tt, tt);
    }

-- of what was sent, and the master between its steps
record IsTruthful (sent : List Message) (m : MasterState) : Type 0 where
  attempts : AreTold (WasTold sent (length sent)) m.attempts
  grants : (place : ℕ) (g : Message) → element_at sent place ≡ Some g → IsGrantTold (WasTold sent place) g.body

later_told : (sent ms : List Message) (end later n h v : ℕ) → end ≤ later → WasTold sent end n h v → WasTold (sent ++ ms) later n h v
later_told sent ms end later n h v more t = (t.0, let below = t.1 in omega (arith, below, more), t.2, kept_place sent ms t.0 t.2 t.3, t.4, t.5)

longer : (sent ms : List Message) → length sent ≤ length (sent ++ ms)
longer [] ms = omega arith
longer (m ∷ sent) ms = let more = longer sent ms in omega (arith, more)

more_sent : (sent ms : List Message) (m t : MasterState) → AreGrantsTold (WasTold sent (length sent)) ms → AreTold (WasTold sent (length sent)) t.attempts → IsTruthful sent m → IsTruthful (sent ++ ms) t
more_sent sent ms m t new attempts h =
    record {
      attempts = more_told (WasTold sent (length sent)) (WasTold (sent ++ ms) (length (sent ++ ms))) (λ n g v is. later_told sent ms (length sent) (length (sent ++ ms)) n g v (longer sent ms) is) t.attempts attempts;
      grants = λ place g is.
          elim (place_cases sent ms place g is) [
            | inl before ↦ more_granted (WasTold sent place) (WasTold (sent ++ ms) place) (λ n q v. later_told sent ms place place n q v (omega arith)) g.body (h.grants place g before)
            | inr later ↦
                more_granted (WasTold sent (length sent)) (WasTold (sent ++ ms) place) (λ n q v. later_told sent ms (length sent) place n q v later.1) g.body
                (all_at (λ x. IsGrantTold (WasTold sent (length sent)) x.body) ms later.0 g new later.2)
          ];
    }

quiet_truthful : (sent ms : List Message) (k : ℕ) (m : MasterState) → HasNoOrder ms → IsTruthful sent m → IsTruthful (sent ++ stamped k ms) m
quiet_truthful sent ms k m quiet h = more_sent sent (stamped k ms) m m (stamped_granted (WasTold sent (length sent)) k ms (quiet_granted (WasTold sent (length sent)) ms (without_order ms quiet))) h.attempts h

-- what comes was sent, and so told

sender_is : (n : Node) → IsServerNumber (server_number n) → n ≡ the_server (server_number n)
sender_is node.Master one = absurd (let none : 1 ≤ 0 = one in omega (arith, none))
sender_is (node.Server s) one = refl
sender_is (node.Client c) one = absurd (let none : 1 ≤ 0 = one in omega (arith, none))

word_sent : (sent : List Message) (m : Message) (handle version : ℕ) → (place : ℕ) × (element_at sent place ≡ Some m) → tells_version handle version m.body ≡ true
    → IsServerNumber (server_number m.sender) → WasTold sent (length sent) (server_number m.sender) handle version
word_sent sent m handle version there tells one = (there.0, place_below sent there.0 m there.1, m, there.1, sender_is m.sender one, tells)

same_both : (h v : ℕ) → (h == h) && (v == v) ≡ true
same_both h v = and_from (h == h) (v == v) (same_number h) (same_number v)

-- each line of a report
lines_told : (Told : ℕ → ℕ → ℕ → Type 0) (server : ℕ) (lines all : List ReplicaLine)
    → ((h v : ℕ) → list_any (λ line. (line.handle.0 == h) && (line.version.0 == v)) all ≡ true → IsServerNumber server → Told server h v)
    → ((h v : ℕ) → list_any (λ line. (line.handle.0 == h) && (line.version.0 == v)) lines ≡ true → list_any (λ line. (line.handle.0 == h) && (line.version.0 == v)) all ≡ true)
    → AreLinesTold Told server lines
lines_told Told server [] all told within = tt
lines_told Told server (line ∷ lines) all told within = (
  λ one. told line.handle.0 line.version.0 (within line.handle.0 line.version.0 (or_left _ _ (same_both line.handle.0 line.version.0))) one,
  lines_told Told server lines all told (λ h v there. within h v (or_right _ _ there)),
)

body_told : (sent : List Message) (m : Message) (b : Body) → m.body ≡ b → (place : ℕ) × (element_at sent place ≡ Some m) → IsWordTold (WasTold sent (length sent)) NoneEnded (server_number m.sender) b
body_told sent m (body.Recorded handle version) is there =
    word_sent sent m handle.0 version.0 there (ap (tells_version handle.0 version.0) is ∙ same_both handle.0 version.0)
body_told sent m (body.Report replicas leases) is there =
    lines_told (WasTold sent (length sent)) (server_number m.sender) replicas replicas (λ h v told. word_sent sent m h v there (ap (tells_version h v) is ∙ told)) (λ h v told. told)
body_told sent m other is there = tt

input_told : (sent : List Message) (i : NodeInput) → IsInputSent sent i → IsInputTold (WasTold sent (length sent)) NoneEnded i
input_told sent (input.Deliver m) there = body_told sent m m.body refl there
input_told sent input.Tick there = tt

-- steps and restarts

down_truthful : (sent : List Message) (k : ℕ) (m : MasterState) (disk : LogDisk) (under_way : List LogChange) → IsTruthful sent m → IsTruthful (sent ++ stamped k []) (stopped_master m disk under_way)
down_truthful sent k m disk under_way h = more_sent sent [] m (stopped_master m disk under_way) tt (none_told (WasTold sent (length sent))) h

same_truthful : (sent : List Message) (k : ℕ) (m : MasterState) → IsTruthful sent m → IsTruthful (sent ++ stamped k []) m
same_truthful sent k m h = more_sent sent [] m m tt h.attempts h

ends_truthful : (sent : List Message) (k : ℕ) (m : MasterState) (d : MasterDoing) (choice : Choice) (e : Ending) → IsTruthful sent m
    → AreGrantsTold (WasTold sent (length sent)) d.sent × AreTold (WasTold sent (length sent)) d.master.attempts
    → IsTruthful (sent ++ stamped k (master_ends m d choice e).out.sent) (master_ends m d choice e).state
ends_truthful sent k m d choice Goes h g =
    more_sent sent (stamped k (in_order choice.order d.sent)) m d.master
    (stamped_granted (WasTold sent (length sent)) k (in_order choice.order d.sent) (all_in_order (λ x. IsGrantTold (WasTold sent (length sent)) x.body) choice.order d.sent g.0)) g.1 h
ends_truthful sent k m d choice Lost h g = down_truthful sent k m m.disk [] h
ends_truthful sent k m d choice (Stops made) h g = down_truthful sent k m _ _ h

step_truthful : (sent : List Message) (k : ℕ) (m : MasterState) (moment : ℕ) (i : NodeInput) (choice : Choice) → IsInputSent sent i → IsTruthful sent m
    → IsTruthful (sent ++ stamped k (master_step m moment i choice).out.sent) (master_step m moment i choice).state
step_truthful sent k m moment i choice is h =
    let d : MasterDoing = master_goes m moment i choice.refused in
    let good : Taken MasterState → Type 0 = λ t. IsTruthful (sent ++ stamped k t.out.sent) t.state in
    let told : ℕ → ℕ → ℕ → Type 0 = WasTold sent (length sent) in
    on_cond good m.up (master_bounded m i d choice) (no_step m)
    (λ _. on_cond good (may_end m i d choice.ending) (master_ends m d choice choice.ending) (no_step m)
    (λ _. let end = goes_told ⊥ told NoneEnded (λ c. AreGrantsTold told c.sent) (granting_keeps told) m moment i choice.refused (input_told sent i is) (λ asks. absurd asks) (tt, h.attempts, λ asks. absurd asks, λ asks. absurd asks) in
    ends_truthful sent k m d choice choice.ending h (end.0, end.1))
    (λ _. same_truthful sent k m h))
    (λ _. same_truthful sent k m h)

-- an opening begins no attempt
opening_told : (Told : ℕ → ℕ → ℕ → Type 0) (m : MasterState) → AreTold Told m.attempts → AreTold Told (opening m).master.attempts
opening_told Told m h =
    let d : MasterDoing = master_begins m [] in
    let r = log.Epoch (suc m.logged.epoch) in
    let good : MasterDoing → Type 0 = λ e. AreTold Told e.master.attempts in
    let less : good (writes_checkpoint d) = fewer_told Told m.attempts (table.keys m.logged.copies) h in
    on_cond good (fits d r) (appends d r) _ (λ _. h)
    (λ _. on_cond good (checkpoint_fits d.master.config.log_bytes (checkpoint_of d.master.logged)) (logs_after_checkpoint (writes_checkpoint d) r (is_of_copy d.master.logged r) (λ e. e)) d
    (λ _. on_cond good (fits (writes_checkpoint d) r && not (is_of_copy d.master.logged r)) (appends (writes_checkpoint d) r) (writes_checkpoint d) (λ _. less) (λ _. less))
    (λ _. h))

opens_truthful : (sent : List Message) (k : ℕ) (old : MasterState) (moment : ℕ) (choice : Choice) (e : Ending) → IsTruthful sent old
    → (let started : MasterState = started_master old.config old.server_count (found_log old choice) moment in
    IsTruthful (sent ++ stamped k (opens_as old started (opening started) choice e).out.sent) (opens_as old started (opening started) choice e).state)
opens_truthful sent k old moment choice Lost h = down_truthful sent k old _ _ h
opens_truthful sent k old moment choice (Stops made) h = down_truthful sent k old _ _ h
opens_truthful sent k old moment choice Goes h =
    let started : MasterState = started_master old.config old.server_count (found_log old choice) moment in
    let d : MasterDoing = opening started in
    on_cond (λ (t : Taken MasterState). IsTruthful (sent ++ stamped k t.out.sent) t.state) (has_opened started d && is_within_limits d.master) _ _
    (λ _. more_sent sent [] old d.master tt (opening_told (WasTold sent (length sent)) started (none_told (WasTold sent (length sent)))) h)
    (λ _. down_truthful sent k old d.master.disk [] h)

new_truthful : (config : Config) (servers : ℕ) → IsTruthful [] (new_master config servers)
new_truthful config servers = record { attempts = none_told (WasTold [] 0); grants = λ place g is. none_some g is }

pub members_recorded_what_is_granted : MembersRecordedWhatIsGranted
members_recorded_what_is_granted config servers clients w r place grant order handle version end_moment members there is member within =
    of_grant (AreMembersTold (WasTold w.sent place)) (says_grant is)
    ((sent_reached IsTruthful
    (record { new = new_truthful; quiet = quiet_truthful; steps = step_truthful; restarts = λ sent k m moment choice h. opens_truthful sent k m moment choice choice.ending h })
    config servers clients w r).grants place grant there)
    member within
