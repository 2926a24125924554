-- What the master answers an Ask in a step: it refuses, and tells locations or that there is none for, only the Ask that it takes, to the one that sent it, under its number.
-- What it tells for a read or a write is of the index that was asked for.
use Rattle.std.proofs.Common.{◌≡◌, ℕ, ◌≤◌, Bool, true, false, List, Option, Some, None, refl, subst}
use Rattle.std.specs.Prelude.{unwrap_or}
use Rattle.std.specs.FinMap as table
use Rattle.gfs_types.specs.declared.ids.Node.{Node}
use Rattle.gfs_types.specs.declared.ids.Node.TheVariants as node
use Rattle.gfs_types.specs.declared.refusal.Refusal.{Refusal}
use Rattle.messages.specs.declared.message.Body.{Body}
use Rattle.messages.specs.declared.message.Body.TheVariants as body
use Rattle.messages.specs.declared.message.Message.{Message}
use Rattle.messages.specs.declared.message.Holder.{Holder}
use Rattle.messages.specs.declared.message.Location.{Location}
use Rattle.messages.specs.declared.message.Wanted.{Wanted}
use Rattle.messages.specs.declared.message.Wanted.TheVariants as wanted
use Rattle.messages.specs.declared.event.NodeInput.{NodeInput}
use Rattle.protocol.specs.Tables.{Table, element_at}
use Rattle.protocol.specs.Sending.{message, moment_of, the_server}
use Rattle.protocol.specs.Choice.{Choice}
use Rattle.protocol.specs.Logged.{Logged}
use Rattle.protocol.specs.Master.{MasterState, MasterDoing, version_held}
use Rattle.protocol.specs.MasterStep.{master_step}
use Rattle.laws_base.proofs.Entries.{AllOf}
use Rattle.laws_base.proofs.MembersRecorded.{all_at}
use Rattle.laws_base.proofs.MasterPremises.{IsTakenAsk, IsIndexFor, IsLocated, IsRefusedFor, IsAnswer, IsOrder, AskKeeps, MasterSays}
use Rattle.laws_base.proofs.MasterWalk.{step_says}
use Rattle.laws_machine.specs.ToldIndexes.{IsIndexOf}

-- a word that answers no attempt and no ask
abbrev pub is_no_answer : Body → Bool
is_no_answer (body.Refused number refusal) = false
is_no_answer (body.Done id place) = false
is_no_answer (body.Bytes number bytes) = false
is_no_answer (body.LenIs number count) = false
is_no_answer (body.Told number location) = false
is_no_answer other = true

-- an Ask with this number came in from this node, which this index answers
pub record IsTakenAskOf (i : NodeInput) (sender : Node) (number index : ℕ) : Type 0 where
  pub taken : IsTakenAsk i sender number
  pub index_is : IsIndexOf taken.what index

-- what is known of a server's replica of a chunk
abbrev pub version_in : Table (Table ℕ) → ℕ → ℕ → Option ℕ
version_in known handle server = table.get (unwrap_or (table.get known server) table.empty) handle

-- each of these holders is known with its version
abbrev pub AreKnown : Table (Table ℕ) → ℕ → List Holder → Type 0
AreKnown known handle holders = (n : ℕ) (x : Holder) → element_at holders n ≡ Some x → version_in known handle x.server.0 ≡ Some x.version.0

-- Of what the master says as it takes an input, where this is logged and known of replicas.
pub record MasterRefuses (l : Logged) (known : Table (Table ℕ)) (i : NodeInput) (W : Message → Type 0) : Type 0 where
  pub plain : (receiver : Node) (b : Body) → is_no_answer b ≡ true → W (message node.Master receiver b)
  pub refuses : (receiver : Node) (number : ℕ) (refusal : Refusal) (taken : IsTakenAsk i receiver number) → IsRefusedFor l taken.file.0 taken.what refusal
      → W (message node.Master receiver (body.Refused number refusal))
  pub none : (receiver : Node) (number : ℕ) → IsTakenAsk i receiver number → W (message node.Master receiver (body.Told number None))
  pub tells : (receiver : Node) (number : ℕ) (place : Location) → IsTakenAskOf i receiver number place.index → AreKnown known place.handle.0 place.holders
      → W (message node.Master receiver (body.Told number (Some place)))

-- an Ask changes nothing that is known
abbrev Knows : Table (Table ℕ) → MasterDoing → Type 0
Knows known d = d.master.holders ≡ known

knows_kept : (known : Table (Table ℕ)) → AskKeeps (Knows known)
knows_kept known = record { ordered = λ d server b h. h; added = λ d file h. h; checkpointed = λ d h. h; less = λ d copy h. h }

index_of : (w : Wanted) (index : ℕ) → IsIndexFor w index → IsIndexOf w index
index_of (wanted.Read asked) index is = is
index_of (wanted.Write asked) index is = is
index_of other index is = tt

module _ (l : Logged) (known : Table (Table ℕ)) (i : NodeInput) (W : Message → Type 0) (k : MasterRefuses l known i W) where
  are_known : (receiver : Node) (number : ℕ) (place : Location) → IsLocated i (Knows known) receiver number place → AreKnown known place.handle.0 place.holders
  are_known receiver number place is n x at =
      let m : MasterState = is.doing.master in
      let held = all_at (λ (y : Holder). (version_held m place.handle.0 y.server.0 ≡ Some y.version.0) × (place.round.0 ≤ y.version.0)) place.holders n x is.held at in
      subst (λ (t : Table (Table ℕ)). version_in t place.handle.0 x.server.0 ≡ Some x.version.0) is.found held.0

  answer_said : (receiver : Node) (b : Body) → IsAnswer l i (Knows known) receiver b → W (message node.Master receiver b)
  answer_said receiver (body.Told number (Some place)) is =
      let taken : IsTakenAsk i receiver number = is.asked.taken in
      k.tells receiver number place (record { taken = taken; index_is = index_of taken.what place.index is.asked.index_is }) (are_known receiver number place is)
  answer_said receiver (body.Told number None) is = k.none receiver number is
  answer_said receiver (body.Refused number refusal) is = k.refuses receiver number refusal is.0 is.1
  answer_said receiver (body.Named number reply) is = k.plain receiver (body.Named number reply) refl
  answer_said receiver (body.Wait number) is = k.plain receiver (body.Wait number) refl
  answer_said receiver other is = absurd is

  order_plain : (server : ℕ) (b : Body) → IsOrder i (Knows known) server b → is_no_answer b ≡ true
  order_plain server (body.Refused number refusal) is = absurd is
  order_plain server (body.Done id place) is = absurd is
  order_plain server (body.Bytes number bytes) is = absurd is
  order_plain server (body.LenIs number count) is = absurd is
  order_plain server (body.Told number location) is = absurd is
  order_plain server other is = refl

  says : MasterSays l i (Knows known) W
  says =
      record {
        answered = answer_said;
        ordered = λ server b is. k.plain (the_server server) b (order_plain server b is);
        extended = λ server line until is. k.plain (the_server server) (body.Extend line.handle line.version (moment_of until)) refl;
        dropped = λ server order line is useless. k.plain (the_server server) (body.Drop order line.handle line.version) refl;
      }

pub master_refuses_asks : (m : MasterState) (moment : ℕ) (i : NodeInput) (choice : Choice) (W : Message → Type 0) → MasterRefuses m.logged m.holders i W
    → AllOf W (master_step m moment i choice).out.sent
master_refuses_asks m moment i choice W k = step_says m moment i choice (Knows m.holders) (knows_kept m.holders) refl W (says m.logged m.holders i W k)
