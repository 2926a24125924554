-- What the master says in a step: answers and orders of its own, and locations, which name holders of the granted version or a later one. It shows only copies that begin.
use Rattle.std.proofs.Common.{◌≡◌, ℕ, Bool, true, false, List, [], ◌∷◌, Some, None, refl, sym, subst}
use Rattle.gfs_types.specs.declared.ids.Node.{Node}
use Rattle.gfs_types.specs.declared.ids.Node.TheVariants as node
use Rattle.messages.specs.declared.message.Body.{Body}
use Rattle.messages.specs.declared.message.Body.TheVariants as body
use Rattle.messages.specs.declared.message.Message.{Message}
use Rattle.messages.specs.declared.message.Holder.{Holder}
use Rattle.messages.specs.declared.message.Location.{Location}
use Rattle.messages.specs.declared.event.NodeInput.{NodeInput}
use Rattle.protocol.specs.Sending.{message, moment_of, the_server}
use Rattle.protocol.specs.Choice.{Choice}
use Rattle.protocol.specs.declared.seen.Seen.{Seen}
use Rattle.protocol.specs.declared.seen.Seen.TheVariants.{CopyStarted}
use Rattle.protocol.specs.Logged.{Logged}
use Rattle.protocol.specs.Master.{MasterState}
use Rattle.protocol.specs.MasterStep.{master_step, master_restart}
use Rattle.laws_base.proofs.LeaseOrders.{revoke_body, grant_body}
use Rattle.laws_base.proofs.Entries.{AllOf}
use Rattle.laws_base.specs.Words.{HoldAtLeast, AreCurrent}
use Rattle.laws_base.proofs.MasterPremises.{AreHeld, IsAnswer, IsOrder, AnyDoing, any_kept, MasterSays}
use Rattle.laws_base.proofs.MasterWalk.{step_says, step_shows, restart_tells_nothing, restart_shows_nothing}

-- words of the master alone that tell no location
abbrev pub is_masters : Body → Bool
is_masters (body.Named number reply) = true
is_masters (body.Told number None) = true
is_masters (body.Wait number) = true
is_masters (body.Refused number refusal) = true
is_masters (body.Create order handle version) = true
is_masters (body.SetVersion order handle version base) = true
is_masters (grant_body order handle version end_moment chunk members) = true
is_masters (body.Extend handle version end_moment) = true
is_masters (revoke_body order handle version) = true
is_masters (body.Drop order handle version) = true
is_masters (body.Clone order handle version source) = true
is_masters (body.CopyLocal order handle version copy copy_version) = true
is_masters other = false

-- Of what the master says.
pub record MasterTalks (W : Message → Type 0) : Type 0 where
  pub plain : (receiver : Node) (b : Body) → is_masters b ≡ true → W (message node.Master receiver b)
  pub locates : (receiver : Node) (number : ℕ) (l : Location) → AreCurrent l → W (message node.Master receiver (body.Told number (Some l)))

-- holders that are known with the granted version or a later one
at_least : (m : MasterState) (handle granted : ℕ) (holders : List Holder) → AreHeld m handle granted holders → HoldAtLeast granted holders
at_least m handle granted [] held = tt
at_least m handle granted (x ∷ rest) held = ((held.0).1, at_least m handle granted rest held.1)

-- the copy of a shared chunk was begun
abbrev pub IsCopying : Seen → Type 0
IsCopying (CopyStarted handle copy) = Unit {0}
IsCopying other = ⊥

module _ (l : Logged) (i : NodeInput) where
  order_is : (server : ℕ) (b : Body) → IsOrder i AnyDoing server b → is_masters b ≡ true
  order_is server (body.Create order handle version) is = refl
  order_is server (body.SetVersion order handle version base) is = refl
  order_is server (grant_body order handle version end_moment chunk members) is = refl
  order_is server (revoke_body order handle version) is = refl
  order_is server (body.Clone order handle version source) is = refl
  order_is server (body.CopyLocal order handle version copy copy_version) is = refl
  order_is server other is = absurd is

  module _ (W : Message → Type 0) (k : MasterTalks W) where
    answer_said : (receiver : Node) (b : Body) → IsAnswer l i AnyDoing receiver b → W (message node.Master receiver b)
    answer_said receiver (body.Told number (Some place)) is =
        k.locates receiver number place (at_least is.doing.master place.handle.0 place.round.0 place.holders is.held)
    answer_said receiver (body.Told number None) is = k.plain receiver (body.Told number None) refl
    answer_said receiver (body.Named number reply) is = k.plain receiver (body.Named number reply) refl
    answer_said receiver (body.Wait number) is = k.plain receiver (body.Wait number) refl
    answer_said receiver (body.Refused number refusal) is = k.plain receiver (body.Refused number refusal) refl
    answer_said receiver other is = absurd is

    says : MasterSays l i AnyDoing W
    says =
        record {
          answered = answer_said;
          ordered = λ server b is. k.plain (the_server server) b (order_is server b is);
          extended = λ server line until is. k.plain (the_server server) (body.Extend line.handle line.version (moment_of until)) refl;
          dropped = λ server order line is useless. k.plain (the_server server) (body.Drop order line.handle line.version) refl;
        }

module _ (W : Message → Type 0) (k : MasterTalks W) where
  pub master_said : (m : MasterState) (moment : ℕ) (i : NodeInput) (choice : Choice) → AllOf W (master_step m moment i choice).out.sent
  master_said m moment i choice = step_says m moment i choice AnyDoing any_kept tt W (says m.logged i W k)

  pub restart_said : (m : MasterState) (moment : ℕ) (choice : Choice) → AllOf W (master_restart m moment choice).out.sent
  restart_said m moment choice = subst (λ (ms : List Message). AllOf W ms) (sym (restart_tells_nothing m moment choice)) tt

-- what a step of the master shows
pub master_shown : (m : MasterState) (moment : ℕ) (i : NodeInput) (choice : Choice) → AllOf IsCopying (master_step m moment i choice).seen
master_shown m moment i choice = step_shows m moment i choice AnyDoing any_kept tt IsCopying (λ handle copy ask new. tt)

-- a restart shows nothing
pub restart_shown : (m : MasterState) (moment : ℕ) (choice : Choice) → (master_restart m moment choice).seen ≡ []
restart_shown m moment choice = restart_shows_nothing m moment choice
