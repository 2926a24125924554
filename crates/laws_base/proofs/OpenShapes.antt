-- Where the shapes of a client's open files come from.
use Rattle.std.proofs.Common.{◌≡◌, ◌⊎◌, ℕ, suc, ◌-◌, Option, Some, None, refl, sym, subst, inl, inr}
use Rattle.std.specs.Prelude.{nat_le}
use Rattle.std.specs.FinMap as table
use Rattle.gfs_types.specs.declared.ids.FileId.{FileId}
use Rattle.gfs_types.specs.declared.shape.Shape.{Shape}
use Rattle.messages.specs.declared.event.NodeInput.{NodeInput}
use Rattle.messages.specs.declared.event.NodeInput.TheVariants as input
use Rattle.messages.specs.declared.message.Body.{Body}
use Rattle.messages.specs.declared.message.Body.TheVariants as body
use Rattle.messages.specs.declared.message.Message.{Message}
use Rattle.messages.specs.declared.message.NameReply.TheVariants.{Opened}
use Rattle.client_state.specs.declared.call.CurrentCall.{CurrentCall}
use Rattle.client_state.specs.declared.call.Stage.{Stage}
use Rattle.client_state.specs.declared.call.Stage.TheVariants.{AskedNames, AskedWhere, MustAskAgain, SentData, SentMutate, SentRead, IsOver, HasAnswer}
use Rattle.client_state.specs.declared.kept.OpenFile.{OpenFile}
use Rattle.protocol.specs.Tables.{Table}
use Rattle.protocol.specs.Client.{ClientState, ClientDoing}
use Rattle.protocol.specs.ClientFiles.{opened_again, files_after_open, with_one_closed, files_after_close, with_append_of, with_last_append}
use Rattle.protocol.specs.ClientStep.{client_at}
use Rattle.laws_base.proofs.Steps.{on_cond, put_cases, kept_cases}
use Rattle.laws_base.proofs.ServerMoves.{IsCameIn}
use Rattle.laws_base.specs.OpenShapes.{HadShape, WasNamed, OpenShapesWereTold, CallsKeepOpenShapes}
use Rattle.laws_base.proofs.ClientWalk.{HoldsAt, KeepsClient, KeepsCalls, step_kept, call_kept}

module _ (s : ClientState) (Came : Body → Type 0) (Told : ℕ → Shape → Type 0)
    (names : (number : ℕ) (file : FileId) (shape : Shape) → Came (body.Named number (Opened file shape)) → Told file.0 shape) where
  -- each open file was open so, or was told so
  abbrev AreKnown : Table OpenFile → Type 0
  AreKnown t = (file : ℕ) (f : OpenFile) → table.get t file ≡ Some f → HadShape s file f.shape ⊎ Told file f.shape

  abbrev Known : ClientDoing → Type 0
  Known d = AreKnown d.client.files

  same_known : AreKnown s.files
  same_known file f is = inl (f, is, refl)

  -- one that has this shape is put
  put_known : (t : Table OpenFile) (file : ℕ) (new : OpenFile) → HadShape s file new.shape ⊎ Told file new.shape → AreKnown t → AreKnown (table.insert t file new)
  put_known t file new is h q f at =
      elim (put_cases t file new q f at) [
        | inl now ↦ subst (λ (n : ℕ). HadShape s n f.shape ⊎ Told n f.shape) (sym now.0) (subst (λ (x : OpenFile). HadShape s file x.shape ⊎ Told file x.shape) now.1 is)
        | inr before ↦ h q f before
      ]

  opened_known : (t : Table OpenFile) (file : ℕ) (shape : Shape) (fd : ℕ) → Told file shape → AreKnown t → AreKnown (files_after_open t file shape fd)
  opened_known t file shape fd told h = by_file (table.get t file) refl
    where
      by_file : (o : Option OpenFile) → table.get t file ≡ o → AreKnown (table.insert t file (opened_again o shape fd))
      by_file None at = put_known t file (opened_again None shape fd) (inr told) h
      by_file (Some old) at = put_known t file (opened_again (Some old) shape fd) (h file old at) h

  closed_known : (t : Table OpenFile) (file : ℕ) → AreKnown t → AreKnown (files_after_close t file)
  closed_known t file h = by_file (table.get t file) refl
    where
      by_file : (o : Option OpenFile) → table.get t file ≡ o → AreKnown (with_one_closed t file o)
      by_file None at = h
      by_file (Some old) at =
          on_cond AreKnown (nat_le old.descriptors 1) (table.remove t file) (table.insert t file (record old { descriptors = old.descriptors - 1 }))
          (λ _ q f is. h q f (kept_cases t file q f is)) (λ _. put_known t file (record old { descriptors = old.descriptors - 1 }) (h file old at) h)

  noted_known : (t : Table OpenFile) (file : ℕ) (index : Option ℕ) → AreKnown t → AreKnown (with_last_append t file index)
  noted_known t file index h = by_file (table.get t file) refl
    where
      by_file : (o : Option OpenFile) → table.get t file ≡ o → AreKnown (with_append_of t file index o)
      by_file None at = h
      by_file (Some old) at = put_known t file (record old { last_append = index }) (h file old at) h

  in_steps : KeepsClient s Came (λ d c. Known d) (λ d c. Known d) (λ d c l. Unit {0}) (λ d c chunk left. Unit {0}) Known
  in_steps =
      record {
        changes = λ d c e same h. h;
        name_changes = λ d c e same h. h;
        begins = λ d c e same end h. h;
        drops = λ d c chunk h. h;
        notes = λ d c index h. noted_known d.client.files c.file.0 index h;
        looks = λ d c index h. h;
        finds = λ d c index e end is h. tt;
        hears = λ c number l now at came h. (h, tt);
        holders = λ d c l fit. tt;
        left = λ c chunk rest number now at fresh h. tt;
        answered = λ d c reply h. h;
        name_answered = λ d c reply h. h;
        opened = λ c number file shape now at came h. opened_known s.files file.0 shape (suc s.fd_count) (names number file shape came) h;
        waits = λ d c idle h. h;
        waits_again = λ d c h. h;
        asking = λ d c h. h;
        reads = λ d c chunk x rest r h. h;
        pushes = λ d c l g first is hop fit h. h;
        mutates = λ c chunk primary number now is fresh h. h;
        naming = λ d c end h. h;
      }

  in_calls : KeepsCalls s (λ d c. Known d) (λ d c. Known d) Known
  in_calls =
      record {
        replies = λ reply. same_known;
        closes = λ fd file there. closed_known s.files file same_known;
        named = λ c. same_known;
        filed = λ c file index last there. same_known;
      }

  at_stage : (c : CurrentCall) (st : Stage) → HoldsAt s (λ d e. Known d) (λ d e. Known d) c st
  at_stage c AskedNames = same_known
  at_stage c (AskedWhere number) = same_known
  at_stage c MustAskAgain = same_known
  at_stage c (SentData chunk primary number) = same_known
  at_stage c (SentMutate chunk number) = same_known
  at_stage c (SentRead chunk left number) = same_known
  at_stage c IsOver = same_known
  at_stage c (HasAnswer reply) = same_known

-- it came in
abbrev CameBy : NodeInput → Body → Type 0
CameBy i b = (m : Message) × (i ≡ input.Deliver m) × (m.body ≡ b)

came_in : (i : NodeInput) → IsCameIn (CameBy i) i
came_in (input.Deliver m) = (m, refl, refl)
came_in input.Tick = tt

named_by : (i : NodeInput) (number : ℕ) (file : FileId) (shape : Shape) → CameBy i (body.Named number (Opened file shape)) → WasNamed i file.0 shape
named_by i number file shape came = record { message = came.0; number = number; named = file; came = came.1; body_is = came.2; file_is = refl }

pub open_shapes_were_told : OpenShapesWereTold
open_shapes_were_told s moment i =
    let now : ClientState = client_at s moment in
    step_kept now (CameBy i) (λ d c. Known now (CameBy i) (WasNamed i) (named_by i) d) (λ d c. Known now (CameBy i) (WasNamed i) (named_by i) d) (λ d c l. Unit {0}) (λ d c chunk left. Unit {0})
    (Known now (CameBy i) (WasNamed i) (named_by i)) (in_steps now (CameBy i) (WasNamed i) (named_by i)) i s.current refl (came_in i)
    (λ c there. at_stage now (CameBy i) (WasNamed i) (named_by i) c c.stage) (same_known now (CameBy i) (WasNamed i) (named_by i))

-- to a call nothing came in
no_name : (number : ℕ) (file : FileId) (shape : Shape) → ⊥ → ⊥
no_name number file shape none = none

pub calls_keep_open_shapes : CallsKeepOpenShapes
calls_keep_open_shapes s moment c file f is =
    let now : ClientState = client_at s moment in
    elim (call_kept now (λ b. ⊥) (λ d e. Known now (λ b. ⊥) (λ n shape. ⊥) no_name d) (λ d e. Known now (λ b. ⊥) (λ n shape. ⊥) no_name d) (λ d e l. Unit {0}) (λ d e chunk left. Unit {0})
    (Known now (λ b. ⊥) (λ n shape. ⊥) no_name) (in_steps now (λ b. ⊥) (λ n shape. ⊥) no_name) (in_calls now (λ b. ⊥) (λ n shape. ⊥) no_name) c
    (same_known now (λ b. ⊥) (λ n shape. ⊥) no_name) file f is) [
      | inl had ↦ had
      | inr none ↦ absurd none
    ]
