-- Events by what they come to.
use Rattle.std.proofs.Common.{◌≡◌, ◌<◌, ◌≤◌, ℕ, zero, suc, ◌-◌, Bool, true, false, List, ◌∷◌, [], length, Option, Some, None, refl, sym, subst, ap, ◌∙◌, arith, inl, inr}
use Rattle.std.specs.Prelude.{◌⊎◌, ◌&&◌, if◌then◌else◌, nat_le, nat_lt}
use Rattle.std.proofs.lemmas.Bool.Decides.{nat_tests}
use Rattle.gfs_types.specs.declared.answer.Answer.{Answer}
use Rattle.gfs_types.specs.declared.call.Call.{Call}
use Rattle.gfs_types.specs.declared.ids.ClientId.{ClientId}
use Rattle.gfs_types.specs.declared.ids.Handle.{Handle}
use Rattle.gfs_types.specs.declared.ids.Moment.{Moment}
use Rattle.gfs_types.specs.declared.ids.Node.{Node}
use Rattle.gfs_types.specs.declared.ids.ServerId.{ServerId}
use Rattle.messages.specs.declared.event.Event.{Event}
use Rattle.messages.specs.declared.event.Event.TheVariants as event
use Rattle.messages.specs.declared.event.NodeInput.TheVariants as input
use Rattle.messages.specs.declared.message.Message.{Message}
use Rattle.gfs_types.specs.declared.torn.Torn.{Torn}
use Rattle.replica_store.specs.Replicas.{Replica, replica_of}
use Rattle.server_cell.specs.Inputs.{input_of}
use Rattle.protocol.specs.Tables.{element_at, with_at, moment_limit}
use Rattle.protocol.specs.Choice.{Choice, Ending}
use Rattle.protocol.specs.Server.{ServerState}
use Rattle.protocol.specs.World.{WorldState, Happened, nothing_happens, at_moment, happens, call_moves, delivered, moves, restarts, rots_on, rots_replica, numbered_from_1}
use Rattle.protocol.specs.Conforms.{rotted}
use Rattle.cell_world.specs.Batches.{message_named}
use Rattle.cell_world.specs.Held.{HeldCell, IsHeldAs, HasEffect}
use Rattle.cell_world.specs.Steps.{IsUpAt, RotsAt}
use Rattle.cell_world.proofs.Acts.{does_as, does_nothing, no_choice, missing, at_place, place_is, there}

in_time : (w : WorldState) (moment : ℕ) (h : Happened) → moment ≤ moment_limit → at_moment w moment h ≡ h
in_time w moment h is = ap (λ (b : Bool). if b then h else nothing_happens w) (early moment is)
  where
    early : (n : ℕ) → n ≤ moment_limit → nat_le n moment_limit ≡ true
    early n is' = grind (arith, nat_tests)

too_late : (w : WorldState) (moment : ℕ) (h : Happened) → moment_limit < moment → at_moment w moment h ≡ nothing_happens w
too_late w moment h is = ap (λ (b : Bool). if b then h else nothing_happens w) (late moment is)
  where
    late : (n : ℕ) → moment_limit < n → nat_le n moment_limit ≡ false
    late n is' = grind (arith, nat_tests)

pub late_call : (h : HeldCell) (client : ClientId) (c : Call) (now : Moment) → moment_limit < now.0 → HasEffect h (λ w choice. happens w (event.Call client c now) choice) None h
late_call h client c now late = (does_nothing h (λ w choice. happens w (event.Call client c now) choice) (λ w g choice. too_late w now.0 _ late))

pub late_message : (h : HeldCell) (number : ℕ) (now : Moment) → moment_limit < now.0 → HasEffect h (λ w choice. happens w (event.Deliver number now) choice) None h
late_message h number now late = (does_nothing h (λ w choice. happens w (event.Deliver number now) choice) (λ w g choice. too_late w now.0 _ late))

pub late_tick : (h : HeldCell) (n : Node) (now : Moment) → moment_limit < now.0 → HasEffect h (λ w choice. happens w (event.Tick n now) choice) None h
late_tick h n now late = (does_nothing h (λ w choice. happens w (event.Tick n now) choice) (λ w g choice. too_late w now.0 _ late))

pub late_restart : (h : HeldCell) (n : Node) (now : Moment) → moment_limit < now.0 → HasEffect h (λ w choice. happens w (event.Restart n now) choice) None h
late_restart h n now late = (does_nothing h (λ w choice. happens w (event.Restart n now) choice) (λ w g choice. too_late w now.0 _ late))

pub fused : (h : HeldCell) (n : Node) (count : ℕ) (torn : Torn) → HasEffect h (λ w choice. happens w (event.Fuse n count torn) choice) None h
fused h n count torn = (does_nothing h (λ w choice. happens w (event.Fuse n count torn) choice) (λ w g choice. refl))

pub called : (h new : HeldCell) (client : ClientId) (c : Call) (now : Moment) (answer : Option Answer) → now.0 ≤ moment_limit
    → HasEffect h (λ w choice. call_moves w (client.0 - 1) now.0 c choice (numbered_from_1 w.clients client.0)) answer new → HasEffect h (λ w choice. happens w (event.Call client c now) choice) answer new
called h new client c now answer early d =
    (does_as h new (λ w choice. call_moves w (client.0 - 1) now.0 c choice (numbered_from_1 w.clients client.0)) (λ w choice. happens w (event.Call client c now) choice) answer (λ w g choice. in_time w now.0 _ early) d)

pub brought : (h new : HeldCell) (number : ℕ) (now : Moment) (answer : Option Answer) → now.0 ≤ moment_limit
    → HasEffect h (λ w choice. delivered w now.0 choice (numbered_from_1 w.sent number)) answer new → HasEffect h (λ w choice. happens w (event.Deliver number now) choice) answer new
brought h new number now answer early d =
    (does_as h new (λ w choice. delivered w now.0 choice (numbered_from_1 w.sent number)) (λ w choice. happens w (event.Deliver number now) choice) answer (λ w g choice. in_time w now.0 _ early) d)

pub ticked : (h new : HeldCell) (n : Node) (now : Moment) (answer : Option Answer) → now.0 ≤ moment_limit
    → HasEffect h (λ w choice. moves w n now.0 input.Tick choice) answer new → HasEffect h (λ w choice. happens w (event.Tick n now) choice) answer new
ticked h new n now answer early d =
    (does_as h new (λ w choice. moves w n now.0 input.Tick choice) (λ w choice. happens w (event.Tick n now) choice) answer (λ w g choice. in_time w now.0 _ early) d)

pub restarted : (h new : HeldCell) (n : Node) (now : Moment) (answer : Option Answer) → now.0 ≤ moment_limit
    → HasEffect h (λ w choice. restarts w n now.0 choice) answer new → HasEffect h (λ w choice. happens w (event.Restart n now) choice) answer new
restarted h new n now answer early d =
    (does_as h new (λ w choice. restarts w n now.0 choice) (λ w choice. happens w (event.Restart n now) choice) answer (λ w g choice. in_time w now.0 _ early) d)

-- a message

pub no_message : (h : HeldCell) (number moment : ℕ) → numbered_from_1 h.sent number ≡ None → HasEffect h (λ w choice. delivered w moment choice (numbered_from_1 w.sent number)) None h
no_message h number moment none = does_nothing h (λ w choice. delivered w moment choice (numbered_from_1 w.sent number)) (λ w g choice.
    ap (delivered w moment choice) (ap (λ ms. numbered_from_1 ms number) g.sent ∙ none))

pub message_came : (h new : HeldCell) (number moment : ℕ) (m : Message) (answer : Option Answer) → numbered_from_1 h.sent number ≡ Some m
    → HasEffect h (λ w choice. moves w m.receiver moment (input_of (message_named h.sent (Some number))) choice) answer new
    → HasEffect h (λ w choice. delivered w moment choice (numbered_from_1 w.sent number)) answer new
message_came h new number moment m answer is d =
    does_as h new (λ w choice. moves w m.receiver moment (input_of (message_named h.sent (Some number))) choice) (λ w choice. delivered w moment choice (numbered_from_1 w.sent number)) answer
    (λ w g choice. ap (delivered w moment choice) (ap (λ ms. numbered_from_1 ms number) g.sent ∙ is)
    ∙ sym (ap (λ (o : Option Message). moves w m.receiver moment (input_of o) choice) is)) d

-- a byte that rots

abbrev rots_at : ServerId → Handle → ℕ → ℕ → WorldState → Choice → Happened
rots_at id handle place byte w choice = rots_on w (id.0 - 1) handle.0 place byte choice (numbered_from_1 w.servers id.0)

pub no_server_rots : (h : HeldCell) (id : ServerId) (handle : Handle) (place byte : ℕ) → (id.0 ≡ 0) ⊎ (length h.servers < id.0) → HasEffect h (rots_at id handle place byte) None h
no_server_rots h id handle place byte m = does_nothing h (rots_at id handle place byte) (λ w g choice.
    ap (rots_on w (id.0 - 1) handle.0 place byte choice) (ap (λ ss. numbered_from_1 ss id.0) g.servers ∙ missing h.servers id.0 m))

down_or_past : (up : Bool) (place chunk : ℕ) → (up ≡ false) ⊎ (chunk ≤ place) → (up && nat_lt place chunk) ≡ false
down_or_past up place chunk (inl is) = rw is refl
down_or_past true place chunk (inr h) = grind (arith, nat_tests)
down_or_past false place chunk (inr h) = refl

-- a server that is down, or a place past the chunk's end
pub nothing_rots : (h : HeldCell) (id : ServerId) (index : ℕ) (handle : Handle) (place byte : ℕ) → id.0 ≡ suc index → index < length h.servers
    → IsUpAt (λ (s : ServerState). s.up) h.servers index false ⊎ (h.config.chunk ≤ place) → HasEffect h (rots_at id handle place byte) None h
nothing_rots h id index handle place byte e within why =
    let s = there h.servers index within in
    does_nothing h (rots_at id handle place byte) (λ w g choice.
    let found : numbered_from_1 w.servers id.0 ≡ Some s.0 = ap (λ ss. numbered_from_1 ss id.0) g.servers ∙ (at_place h.servers id.0 index e ∙ s.1) in
    let so : (s.0.up ≡ false) ⊎ (w.config.chunk ≤ place) = elim why [
      | inl down ↦ inl (down s.0 s.1)
      | inr past ↦ inr (subst (λ c. c.chunk ≤ place) (sym g.config) past)
    ] in
    ap (rots_on w (id.0 - 1) handle.0 place byte choice) found
    ∙ ap (λ (b : Bool). if b then rots_replica w (id.0 - 1) s.0 handle.0 place byte choice (replica_of s.0.disk handle.0) else nothing_happens w) (down_or_past s.0.up place w.config.chunk so))

some_is : {X : Type 0} (x y : X) → Some y ≡ Some x → x ≡ y
some_is x y h = cc

set_itself : {X : Type 0} (xs : List X) (place : ℕ) (x : X) → element_at xs place ≡ Some x → with_at xs place x ≡ xs
set_itself [] place x h = refl
set_itself (y ∷ ys) zero x h = ap (λ z. z ∷ ys) (some_is x y h)
set_itself (y ∷ ys) (suc place) x h = ap (λ zs. y ∷ zs) (set_itself ys place x h)

tests : (up : Bool) (place chunk : ℕ) → up ≡ true → place < chunk → (up && nat_lt place chunk) ≡ true
tests up place chunk is h = grind (arith, nat_tests)

-- a step's choice of which nothing but its ending counts
abbrev ends_by : Ending → Choice
ends_by e = record no_choice { ending = e }

rotted_in : (w : WorldState) (h : HeldCell) (index : ℕ) (s : ServerState) (handle place byte : ℕ) (e : Ending) → IsHeldAs w h → element_at h.servers index ≡ Some s → (o : Option Replica)
    → IsHeldAs (rots_replica w index s handle place byte (ends_by e) o).world (record h { servers = with_at h.servers index (rotted s handle place byte e o) })
rotted_in w h index s handle place byte e g is None =
    record { config = g.config; master = g.master; files = g.files; servers = g.servers ∙ sym (set_itself h.servers index s is); clients = g.clients; sent = g.sent; orders = g.orders; greatest = g.greatest }
rotted_in w h index s handle place byte e g is (Some r) =
    record { config = g.config; master = g.master; files = g.files; servers = ap (λ ss. with_at ss index (rotted s handle place byte e (Some r))) g.servers; clients = g.clients; sent = g.sent; orders = g.orders; greatest = g.greatest }

unanswered : (w : WorldState) (index : ℕ) (s : ServerState) (handle place byte : ℕ) (choice : Choice) (o : Option Replica) → (rots_replica w index s handle place byte choice o).out.answer ≡ None
unanswered w index s handle place byte choice None = refl
unanswered w index s handle place byte choice (Some r) = refl

pub server_rotted : (h : HeldCell) (id : ServerId) (index : ℕ) (handle : Handle) (place byte : ℕ) (servers : List ServerState) → id.0 ≡ suc index → IsUpAt (λ (s : ServerState). s.up) h.servers index true
    → place < h.config.chunk → RotsAt h.servers index handle.0 place byte servers → HasEffect h (rots_at id handle place byte) None (record h { servers = servers })
server_rotted h id index handle place byte servers e up within k w g =
    let o = replica_of k.old.disk handle.0 in
    let choice : Choice = ends_by k.rots.ending in
    let next : Happened = rots_replica w index k.old handle.0 place byte choice o in
    let found : numbered_from_1 w.servers id.0 ≡ Some k.old = ap (λ ss. numbered_from_1 ss id.0) g.servers ∙ (at_place h.servers id.0 index e ∙ k.is_there) in
    let chunk : place < w.config.chunk = subst (λ c. place < c.chunk) (sym g.config) within in
    let same : rots_at id handle place byte w choice ≡ next =
    ap (rots_on w (id.0 - 1) handle.0 place byte choice) found
    ∙ (ap (λ (b : Bool). if b then rots_replica w (id.0 - 1) k.old handle.0 place byte choice o else nothing_happens w) (tests k.old.up place w.config.chunk (up k.old k.is_there) chunk)
    ∙ ap (λ (n : ℕ). rots_replica w n k.old handle.0 place byte choice o) (place_is id.0 index e)) in (
      choice,
      ap (λ (x : Happened). x.out.answer) same ∙ unanswered w index k.old handle.0 place byte choice o,
      subst (λ (x : Happened). IsHeldAs x.world (record h { servers = servers })) (sym same)
          (subst (λ (ss : List ServerState). IsHeldAs next.world (record h { servers = ss })) (sym k.servers_are)
          (subst (λ (t : ServerState). IsHeldAs next.world (record h { servers = with_at h.servers index t })) k.rots.state_is (rotted_in w h index k.old handle.0 place byte k.rots.ending g k.is_there o))),
    )

-- an event by what it is

pub event_at : (h new : HeldCell) (e other : Event) (answer : Option Answer) → e ≡ other → HasEffect h (λ w choice. happens w other choice) answer new → HasEffect h (λ w choice. happens w e choice) answer new
event_at h new e other answer same d = subst (λ (x : Event). HasEffect h (λ w choice. happens w x choice) answer new) (sym same) d

pub fuses : (h : HeldCell) (e : Event) → ((n : Node) × (count : ℕ) × (torn : Torn) × (e ≡ event.Fuse n count torn)) → HasEffect h (λ w choice. happens w e choice) None h
fuses h e k = event_at h h e (event.Fuse k.0 k.1 k.2) None k.3 (fused h k.0 k.1 k.2)
