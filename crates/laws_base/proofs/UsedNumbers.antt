-- A number that was placed, or refused for good, is known to each lease of its version; so an attempt that is new has no entry.
use Rattle.std.proofs.Common.{◌≡◌, ℕ, List, [], ◌∷◌, Option, Some, None, refl, sym, ap, subst, ◌∙◌, inl, inr, arith}
use Rattle.std.specs.FinMap as table
use Rattle.gfs_types.specs.declared.config.Config.{Config}
use Rattle.gfs_types.specs.declared.ids.DataId.{DataId}
use Rattle.gfs_types.specs.declared.ids.Handle.{Handle}
use Rattle.gfs_types.specs.declared.ids.Version.{Version}
use Rattle.gfs_types.specs.declared.ids.Moment.{Moment}
use Rattle.gfs_types.specs.declared.refusal.Refusal.{Refusal}
use Rattle.messages.specs.declared.event.Event.{Event}
use Rattle.messages.specs.declared.event.NodeInput.TheVariants as input
use Rattle.messages.specs.declared.message.Body.{Body}
use Rattle.messages.specs.declared.message.Body.TheVariants as body
use Rattle.messages.specs.declared.message.Message.{Message}
use Rattle.messages.specs.declared.message.Target.{Target}
use Rattle.primary_order.specs.declared.kept.Standing.{Standing}
use Rattle.primary_order.specs.declared.kept.Standing.TheVariants.{IsPending, IsRefused}
use Rattle.primary_order.specs.declared.waiting.Waiting.{Waiting}
use Rattle.primary_order.specs.PrimaryOrder.{kept_as, settled_by}
use Rattle.primary_order.specs.SerialOrder.{SerialOrder, IsNew, attempted, refused_by}
use Rattle.protocol.specs.Tables.{element_at}
use Rattle.protocol.specs.Sending.{data_id, the_client}
use Rattle.protocol.specs.Choice.{Choice}
use Rattle.protocol.specs.declared.seen.Seen.TheVariants.{Numbered}
use Rattle.protocol.specs.Observer.{Placed, order_of}
use Rattle.protocol.specs.Server.{ServerState, primary_of}
use Rattle.protocol.specs.ServerStep.{server_at}
use Rattle.protocol.specs.World.{WorldState, Happened, new_world, happens, after_events, IsReached}
use Rattle.laws_base.proofs.Steps.{same_or_not, put_there, put_other}
use Rattle.laws_base.proofs.MembersRecorded.{kept_place}
use Rattle.laws_base.proofs.RequestsOnce.{requests_are_numbered_once}
use Rattle.laws_base.proofs.Histories.{IsGrown, steps_grown, after_both}
use Rattle.laws_base.proofs.LeasesStayOver.{reached_later}
use Rattle.laws_base.specs.Entries.{IsAmong, IsAskedFor}
use Rattle.laws_base.proofs.Stemming.{numbered_mutations_were_asked_for}
use Rattle.laws_base.proofs.Deadlines.{asks_for, asking, same_counted}
use Rattle.laws_base.proofs.KnownNumbers.{IsKept, primary_there, new_later, kept_stands, kept_settles}
use Rattle.laws_base.specs.ChunkOrders.{IsNumberedNow, WasNumbered}
use Rattle.laws_base.proofs.Numbering.{entries_were_numbered}
use Rattle.laws_base.proofs.OrderWalk.{KeepsOrders}
use Rattle.laws_base.proofs.SpentVersions.{IsSpent, spent_on, numbered_spent}

-- a lease's order knows this number
abbrev pub Knows : DataId → SerialOrder → Type 0
Knows id p = IsKept id.client.0 id.seq p.kept

pub known_not_new : (id : DataId) (p : SerialOrder) → Knows id p → attempted p id.client id.seq ≡ IsNew → ⊥
known_not_new id p kept new = let few = kept.2 in let less = new_later id.client.0 id.seq id.seq (table.get p.kept id.client.0) kept.0 kept.1 new in omega (arith, few, less)

module _ (id : DataId) where
  new_kept : (p : SerialOrder) (other : DataId) (standing : Standing) → attempted p other.client other.seq ≡ IsNew → Knows id p → IsKept id.client.0 id.seq (table.insert p.kept other.client.0 (kept_as other.seq standing))
  new_kept p other standing new h =
      elim (same_or_not id.client.0 other.client.0) [
        | inl same ↦
            let less = new_later id.client.0 id.seq other.seq (table.get p.kept other.client.0) h.0 (ap (λ (n : ℕ). table.get p.kept n) (sym same) ∙ h.1) new in
            let few = h.2 in
            (kept_as other.seq standing, put_there p.kept other.client.0 (kept_as other.seq standing) id.client.0 same, omega (arith, less, few))
        | inr apart ↦ (h.0, put_other p.kept other.client.0 (kept_as other.seq standing) id.client.0 apart ∙ h.1, h.2)
      ]

  refused_kept : (p : SerialOrder) (refusal : Refusal) (o : Option Waiting) → Knows id p → Knows id (refused_by p refusal o)
  refused_kept p refusal None h = h
  refused_kept p refusal (Some w) h = kept_stands id.client.0 id.seq p.kept w.client.0 w.seq (IsRefused refusal) h

  pub knows_keeps : KeepsOrders (Knows id)
  knows_keeps =
      record {
        numbers = λ p other place new h. new_kept p other IsPending new h;
        denies = λ p other refusal new h. new_kept p other (IsRefused refusal) new h;
        acknowledges = λ p server serial h. kept_settles id.client.0 id.seq p.kept (settled_by server (table.get p.waiting serial)) h;
        refuses = λ p refusal o h. refused_kept p refusal o h;
        extends = λ p skew until now h. h;
        reports = λ p h. h;
      }

  pub own_kept : (p : SerialOrder) (standing : Standing) → IsKept id.client.0 id.seq (table.insert p.kept id.client.0 (kept_as id.seq standing))
  own_kept p standing = (kept_as id.seq standing, put_there p.kept id.client.0 (kept_as id.seq standing) id.client.0 refl, omega arith)

-- Of a number there is one Mutate, which names one version of a chunk.

abbrev handle_in : Handle → Body → Handle
handle_in x (body.Mutate id handle version aim deadline) = handle
handle_in x other = x

abbrev version_in : Version → Body → Version
version_in x (body.Mutate id handle version aim deadline) = version
version_in x other = x

-- the client asked to place its data there
pub record Asks (sent : List Message) (id : DataId) (handle : Handle) (version : Version) : Type 0 where
  pub asked : Message
  pub aim : Target
  pub deadline : Moment
  pub sent_is : IsAmong sent asked
  pub sender_is : asked.sender ≡ the_client id.client.0
  pub body_is : asked.body ≡ body.Mutate id handle version aim deadline

pub one_target : (config : Config) (servers clients : ℕ) (w : WorldState) → IsReached config servers clients w → (id : DataId) (handle other : Handle) (version later : Version) → Asks w.sent id handle version → Asks w.sent id other later
    → (handle ≡ other) × (version ≡ later)
one_target config servers clients w r id handle other version later a b = (
  sym (ap (λ (x : Body). handle_in handle x) a.body_is) ∙ ap (λ (m : Message). handle_in handle m.body) one ∙ ap (λ (x : Body). handle_in handle x) b.body_is,
  sym (ap (λ (x : Body). version_in version x) a.body_is) ∙ ap (λ (m : Message). version_in version m.body) one ∙ ap (λ (x : Body). version_in version x) b.body_is,
)
  where
    one : a.asked ≡ b.asked
    one =
        same_counted (asks_for id) w.sent (a.sent_is).0 (b.sent_is).0 a.asked b.asked (requests_are_numbered_once config servers clients w r id.client.0 id.seq).1 (a.sent_is).1 (b.sent_is).1
        (asking id a.asked handle version a.aim a.deadline a.sender_is a.body_is) (asking id b.asked other later b.aim b.deadline b.sender_is b.body_is)

-- An entry's number is used up under its version.
pub record IsUsed (w : WorldState) (id : DataId) : Type 0 where
  pub handle : Handle
  pub version : Version
  pub asks : Asks w.sent id handle version
  pub spent : IsSpent (Knows id) handle.0 version.0 w

entry_used : (config : Config) (servers clients : ℕ) (steps : List (Event × Choice)) (handle place : ℕ) (p : Placed) → element_at (order_of (after_events (new_world config servers clients) steps).observer handle) place ≡ Some p
    → IsUsed (after_events (new_world config servers clients) steps) (data_id p.entry.call.client p.seq)
entry_used config servers clients steps handle place p at = subst (λ (x : DataId). IsUsed (after_events start steps) x) same_data used
  where
    start : WorldState
    start = new_world config servers clients

    was : WasNumbered start steps (entries_were_numbered config servers clients steps handle place p at).0 p
    was = (entries_were_numbered config servers clients steps handle place p at).1

    v : WorldState
    v = after_events start was.before

    u : WorldState
    u = (happens v (was.step).0 (was.step).1).world

    now : IsNumberedNow v (happens v (was.step).0 (was.step).1) (entries_were_numbered config servers clients steps handle place p at).0 p
    now = was.now

    law : (m : Message) × (now.input ≡ input.Deliver m) × IsAskedFor (server_at now.server now.moment) v.sent m now.named now.version (now.numbers).serial now.id (now.numbers).placed
    law =
        numbered_mutations_were_asked_for config servers clients v (was.before, refl) now.index now.server (now.numbers).is now.moment now.input now.choice (now.numbers).came (now.numbers).place now.named now.version (now.numbers).serial now.id
        (now.numbers).placed (now.numbers).seen

    asked : IsAskedFor (server_at now.server now.moment) v.sent law.0 now.named now.version (now.numbers).serial now.id (now.numbers).placed
    asked = law.2

    there : IsAmong v.sent law.0
    there = (now.numbers).came law.0 law.1

    path : after_events start steps ≡ after_events v (was.step ∷ was.after)
    path = ap (λ (xs : List (Event × Choice)). after_events start xs) was.steps_are ∙ after_both start was.before (was.step ∷ was.after)

    grown : IsGrown v.sent (after_events start steps).sent
    grown = subst (λ (x : WorldState). IsGrown v.sent x.sent) (sym path) (steps_grown v (was.step ∷ was.after))

    first : IsSpent (Knows now.id) (now.named).0 (now.version).0 u
    first =
        subst (λ (x : Happened). IsSpent (Knows now.id) (now.named).0 (now.version).0 x.world) (sym now.step_is)
        (numbered_spent (Knows now.id) (knows_keeps now.id) config servers clients v (was.before, refl) now.index now.moment now.server now.input now.choice (now.numbers).is law.0 law.1 now.named now.version (now.numbers).serial now.id
        (now.numbers).placed asked (now.numbers).place (Numbered now.named now.version (now.numbers).serial now.id (now.numbers).placed) (now.numbers).seen (λ o. own_kept now.id asked.lease IsPending))

    used : IsUsed (after_events start steps) now.id
    used =
        record {
          handle = now.named;
          version = now.version;
          asks = record {
            asked = law.0;
            aim = asked.aim;
            deadline = asked.deadline;
            sent_is = (there.0, subst (λ (ms : List Message). element_at ms there.0 ≡ Some law.0) (sym grown.1) (kept_place v.sent grown.0 there.0 law.0 there.1));
            sender_is = asked.sender_is;
            body_is = asked.body_is;
          };
          spent = subst (λ (x : WorldState). IsSpent (Knows now.id) (now.named).0 (now.version).0 x) (sym path)
              (spent_on (Knows now.id) (knows_keeps now.id) config servers clients (now.named).0 (now.version).0 u was.after (reached_later config servers clients v (was.step ∷ []) (was.before, refl)) first);
        }

    same_data : now.id ≡ data_id p.entry.call.client p.seq
    same_data =
        ap (λ (n : ℕ). data_id n (now.id).seq) (sym (ap (λ (q : Placed). q.entry.call.client) now.entry_is)) ∙ ap (λ (n : ℕ). data_id p.entry.call.client n) (sym (ap (λ (q : Placed). q.seq) now.entry_is))

pub entries_are_used : (config : Config) (servers clients : ℕ) (w : WorldState) → IsReached config servers clients w → (handle place : ℕ) (p : Placed) → element_at (order_of w.observer handle) place ≡ Some p → IsUsed w (data_id p.entry.call.client p.seq)
entries_are_used config servers clients w r =
    subst (λ (x : WorldState). (handle place : ℕ) (p : Placed) → element_at (order_of x.observer handle) place ≡ Some p → IsUsed x (data_id p.entry.call.client p.seq)) r.1 (entry_used config servers clients r.0)

-- an attempt that is new under a lease is not used up
pub used_not_new : (config : Config) (servers clients : ℕ) (w : WorldState) → IsReached config servers clients w → (id : DataId) → IsUsed w id
    → (index moment : ℕ) (s : ServerState) → element_at w.servers index ≡ Some s → (handle : Handle) (version : Version) → Asks w.sent id handle version
    → (p : SerialOrder) → primary_of (server_at s moment) handle.0 version.0 ≡ Some p → attempted p id.client id.seq ≡ IsNew → ⊥
used_not_new config servers clients w r id used index moment s at handle version asks p primary new =
    let same = one_target config servers clients w r id used.handle handle used.version version used.asks asks in
    let there = primary_there (server_at s moment) version.0 (table.get s.leases handle.0) p primary in
    known_not_new id p
    (used.spent.fit index s at p (ap (λ (h : Handle). table.get s.leases h.0) same.0 ∙ there.0) (there.1 ∙ sym (ap (λ (v : Version). v.0) same.1))) new
