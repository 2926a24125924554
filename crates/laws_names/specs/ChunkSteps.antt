-- What the master does with an Ask, and with what servers tell it, changes no names and answers no name call (sections 2.6.1 and 2.6.3).
use Rattle.std.specs.Prelude.{◌≡◌, ℕ, Some, IsTrue}
use Rattle.std.specs.FinMap as table
use Rattle.messages.specs.declared.message.Body.{Body}
use Rattle.messages.specs.declared.message.Body.TheVariants as body
use Rattle.messages.specs.declared.message.Message.{Message}
use Rattle.relaxed_file.specs.Machine.{Machine}
use Rattle.protocol.specs.Logged.{Logged, Copy}
use Rattle.protocol.specs.Master.{MasterDoing}
use Rattle.protocol.specs.MasterStep.{master_takes}
use Rattle.laws_names.specs.Alike.{Requests}
use Rattle.laws_names.specs.Followed.{IsBeside}

-- copies are under way for files that are there
abbrev pub AreCopiesOfFiles : Logged → Type 0
AreCopiesOfFiles l = (handle : ℕ) (copy : Copy) → table.get l.copies handle ≡ Some copy → IsTrue (table.contains_key l.table.files copy.file)

-- no request on names
abbrev pub IsAboutChunks : Body → Type 0
IsAboutChunks (body.Name number deadline c) = ⊥
IsAboutChunks (body.Look number c) = ⊥
IsAboutChunks other = Unit {0}

-- The machine needs no action.
abbrev pub ChunkMessagesChangeNoNames : Type 0
ChunkMessagesChangeNoNames =
    (d : MasterDoing) (m : Machine) (requests : Requests) (x : Message) → IsBeside d m requests → AreCopiesOfFiles d.master.logged → IsAboutChunks x.body
    → IsBeside (master_takes d x x.body) m requests × AreCopiesOfFiles (master_takes d x x.body).master.logged
