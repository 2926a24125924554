-- A lease's serial only rises, so that none is given again under its version.
use Rattle.std.proofs.Common.{◌≡◌, ℕ, ◌≤◌, [], ◌∷◌, Option, Some, None, sym, subst, arith}
use Rattle.std.specs.FinMap as table
use Rattle.gfs_types.specs.declared.config.Config.{Config}
use Rattle.gfs_types.specs.declared.ids.Handle.{Handle}
use Rattle.gfs_types.specs.declared.ids.Version.{Version}
use Rattle.gfs_types.specs.declared.ids.Serial.{Serial}
use Rattle.gfs_types.specs.declared.refusal.Refusal.{Refusal}
use Rattle.messages.specs.declared.event.NodeInput.{NodeInput}
use Rattle.messages.specs.declared.event.NodeInput.TheVariants as input
use Rattle.messages.specs.declared.message.Message.{Message}
use Rattle.primary_order.specs.declared.waiting.Waiting.{Waiting}
use Rattle.primary_order.specs.SerialOrder.{SerialOrder, refused_by}
use Rattle.protocol.specs.Choice.{Choice}
use Rattle.protocol.specs.declared.seen.Seen.TheVariants.{Numbered}
use Rattle.protocol.specs.Server.{ServerState}
use Rattle.protocol.specs.ServerStep.{server_at, server_step}
use Rattle.protocol.specs.World.{WorldState, Happened, after_server, happens, after_events, IsReached}
use Rattle.laws_base.proofs.LeasesStayOver.{reached_later}
use Rattle.laws_base.specs.Entries.{IsAskedFor}
use Rattle.laws_base.proofs.Stemming.{numbered_mutations_were_asked_for}
use Rattle.laws_base.proofs.KnownNumbers.{primary_there}
use Rattle.laws_base.specs.SerialsOnce.{Gives, SerialsAreGivenOnce}
use Rattle.laws_base.proofs.OrderWalk.{KeepsOrders}
use Rattle.laws_base.proofs.SpentVersions.{IsSpent, spent_on, numbered_spent}

-- its last serial is this one or a later one
abbrev pub HasGiven : ℕ → SerialOrder → Type 0
HasGiven n p = n ≤ p.serial

refused_given : (n : ℕ) (p : SerialOrder) (refusal : Refusal) (o : Option Waiting) → HasGiven n p → HasGiven n (refused_by p refusal o)
refused_given n p refusal None h = h
refused_given n p refusal (Some w) h = h

pub given_keeps : (n : ℕ) → KeepsOrders (HasGiven n)
given_keeps n =
    record {
      numbers = λ p id place new h. omega (arith, h);
      denies = λ p id refusal new h. h;
      acknowledges = λ p server serial h. h;
      refuses = λ p refusal o h. refused_given n p refusal o h;
      extends = λ p skew until now h. h;
      reports = λ p h. h;
    }

asked_for : (config : Config) (servers clients : ℕ) (w : WorldState) → IsReached config servers clients w → (index moment : ℕ) (s : ServerState) (i : NodeInput) (choice : Choice) (handle : Handle) (version : Version) (serial : Serial) (g : Gives w index moment s i choice handle version serial)
    → (m : Message) × (i ≡ input.Deliver m) × IsAskedFor (server_at s moment) w.sent m handle version serial g.id g.placed
asked_for config servers clients w r index moment s i choice handle version serial g = numbered_mutations_were_asked_for config servers clients w r index s g.is moment i choice g.came g.place handle version serial g.id g.placed g.seen

-- after the step in which a serial is given
pub given_spent : (config : Config) (servers clients : ℕ) (w : WorldState) → IsReached config servers clients w → (index moment : ℕ) (s : ServerState) (i : NodeInput) (choice : Choice) (handle : Handle) (version : Version) (serial : Serial)
    → Gives w index moment s i choice handle version serial → IsSpent (HasGiven serial.0) handle.0 version.0 (after_server w index moment (server_step s moment i choice)).world
given_spent config servers clients w r index moment s i choice handle version serial g =
    let law = asked_for config servers clients w r index moment s i choice handle version serial g in
    let next = (law.2).next in
    numbered_spent (HasGiven serial.0) (given_keeps serial.0) config servers clients w r index moment s i choice g.is law.0 law.1 handle version serial g.id g.placed law.2 g.place (Numbered handle version serial g.id g.placed) g.seen (λ o. omega (arith, next))

-- from then on it isn't given
pub given_no_more : (config : Config) (servers clients : ℕ) (w : WorldState) → IsReached config servers clients w → (handle : Handle) (version : Version) (serial : Serial) → IsSpent (HasGiven serial.0) handle.0 version.0 w
    → (index moment : ℕ) (s : ServerState) (i : NodeInput) (choice : Choice) → Gives w index moment s i choice handle version serial → ⊥
given_no_more config servers clients w r handle version serial spent index moment s i choice g =
    let law = asked_for config servers clients w r index moment s i choice handle version serial g in
    let asked = law.2 in
    let there = primary_there (server_at s moment) version.0 (table.get s.leases handle.0) asked.lease asked.lease_is in
    let next = asked.next in
    let few = spent.fit index s g.is asked.lease there.0 there.1 in
    omega (arith, next, few)

pub serials_are_given_once : SerialsAreGivenOnce
serials_are_given_once config servers clients w r e choice handle version serial index moment s i taken first step steps other later t j then_ again =
    given_no_more config servers clients (after_events u steps) (reached_later config servers clients u steps reached) handle version serial
    (spent_on (HasGiven serial.0) (given_keeps serial.0) config servers clients handle.0 version.0 u steps reached
    (subst (λ (x : Happened). IsSpent (HasGiven serial.0) handle.0 version.0 x.world) (sym step) (given_spent config servers clients w r index moment s i taken handle version serial first)))
    other later t j then_ again
  where
    u : WorldState
    u = (happens w e choice).world

    reached : IsReached config servers clients u
    reached = reached_later config servers clients w ((e, choice) ∷ []) r
