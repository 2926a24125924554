-- The law of every lawful list of events on what the master refuses, that a public function of this crate states.
use Rattle.std.specs.Prelude.{◌≡◌, ℕ, Bool, List, Some}
use Rattle.gfs_types.specs.declared.config.Config.{Config}
use Rattle.gfs_types.specs.declared.ids.FileId.{FileId}
use Rattle.gfs_types.specs.declared.ids.Moment.{Moment}
use Rattle.gfs_types.specs.declared.ids.Node.{Node}
use Rattle.gfs_types.specs.declared.ids.Node.TheVariants.{Master}
use Rattle.gfs_types.specs.declared.refusal.Refusal.{Refusal}
use Rattle.messages.specs.declared.message.Body.TheVariants as body
use Rattle.messages.specs.declared.message.Message.{Message}
use Rattle.messages.specs.declared.message.Wanted.{Wanted}
use Rattle.protocol.specs.Tables.{element_at}
use Rattle.protocol.specs.World.{WorldState, IsReached}
use Rattle.laws_base.specs.Entries.{IsAmong}

-- This node asked for a chunk of a file under this number.
pub record HasAsk (sent : List Message) (asker : Node) (number : ℕ) : Type 0 where
  pub ask : Message
  pub file : FileId
  pub what : Wanted
  pub deadline : Moment
  pub lost : Bool
  pub sent_is : IsAmong sent ask
  pub sender_is : ask.sender ≡ asker
  pub body_is : ask.body ≡ body.Ask number file what deadline lost

-- Each refusal that the master sent answers an ask of its receiver, under that number (section 2.4).
abbrev pub RefusalsOfTheMasterAnswerAnAsk : Type 0
RefusalsOfTheMasterAnswerAnAsk =
    (config : Config) (servers clients : ℕ) (w : WorldState) → IsReached config servers clients w
    → (place number : ℕ) (m : Message) (refusal : Refusal) → element_at w.sent place ≡ Some m → m.sender ≡ Master → m.body ≡ body.Refused number refusal → HasAsk w.sent m.receiver number
