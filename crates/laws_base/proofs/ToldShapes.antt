-- Which shapes the master tells clients in a step.
use Rattle.std.proofs.Common.{◌≡◌, ℕ, ◌+◌, ◌≤◌, List, [], ◌∷◌, Some, refl, sym, ap, subst, ◌∙◌, inl, inr, arith}
use Rattle.std.proofs.Math.Nat.{le-max_left}
use Rattle.std.specs.Prelude.{unwrap_or}
use Rattle.std.specs.FinMap as table
use Rattle.gfs_types.specs.declared.ids.Node.{Node}
use Rattle.gfs_types.specs.declared.shape.Shape.{Shape}
use Rattle.messages.specs.declared.event.NodeInput.{NodeInput}
use Rattle.messages.specs.declared.message.Body.{Body}
use Rattle.messages.specs.declared.message.Body.TheVariants as body
use Rattle.messages.specs.declared.message.Message.{Message}
use Rattle.messages.specs.declared.message.NameReply.TheVariants.{Opened}
use Rattle.log_records.specs.declared.record.Record.TheVariants as log
use Rattle.chunk_table.specs.ChunkTable.{ChunkRow, chunk_of, no_shape, shape_of, added_row}
use Rattle.protocol.specs.Tables.{Table}
use Rattle.protocol.specs.Sending.{file_id, handle_of}
use Rattle.protocol.specs.Choice.{Choice}
use Rattle.protocol.specs.Logged.{Logged, after_record, copies_given_up}
use Rattle.protocol.specs.Master.{MasterState, MasterDoing}
use Rattle.protocol.specs.MasterStep.{master_step}
use Rattle.laws_base.proofs.Steps.{put_cases, removed_cases}
use Rattle.laws_base.proofs.Entries.{AllOf}
use Rattle.laws_base.proofs.MembersRecorded.{all_at}
use Rattle.laws_base.specs.ToldShapes.{OpenedShapesAreLogged, IsShapeIn, ToldShapesAreOfTheirChunks}
use Rattle.laws_base.proofs.MasterPremises.{IsAnswer, IsOrder, AskKeeps, MasterSays}
use Rattle.laws_base.proofs.MasterWalk.{step_says}
use Rattle.gfs_types.specs.Paths.{Path}
use Rattle.relaxed_file.specs.Names.{File, node_at}

-- shapes since the step began: files have theirs, and each chunk that was there has its own
record AreShaped (l k : Logged) : Type 0 where
  next : l.next_handle ≤ k.next_handle
  shapes : k.table.shapes ≡ l.table.shapes
  rows : (handle : ℕ) (row : ChunkRow) → chunk_of k.table handle ≡ Some row → IsShapeIn l handle row.shape

same_shaped : (l : Logged) → AreShaped l l
same_shaped l = record { next = omega arith; shapes = refl; rows = λ handle row is. inl (row, is, refl) }

less_shaped : (l k : Logged) (handles : List ℕ) → AreShaped l k → AreShaped l (copies_given_up k handles)
less_shaped l k handles h =
    record { next = h.next; shapes = h.shapes; rows = λ handle row is. h.rows handle row (removed_cases k.table.chunks handles handle row is) }

added_shaped : (l k : Logged) (file handle : ℕ) → l.next_handle ≤ handle → AreShaped l k → AreShaped l (after_record k (log.AddChunk (file_id file) (handle_of handle)))
added_shaped l k file handle new h =
    record {
      next = let low = h.next in let high = le-max_left k.next_handle (handle + 1) in omega (arith, low, high);
      shapes = h.shapes;
      rows = λ q row is. elim (put_cases k.table.chunks handle (added_row k.table file) q row is) [
        | inl same ↦ inr ((let key = same.0 in omega (arith, new, key)), file, shape_is row same.1)
        | inr before ↦ h.rows q row before
      ];
    }
  where
    shape_is : (row : ChunkRow) → added_row k.table file ≡ row → row.shape ≡ shape_of l.table file
    shape_is row same = sym (ap (λ (x : ChunkRow). x.shape) same) ∙ ap (λ (shapes : Table Shape). unwrap_or (table.get shapes file) no_shape) h.shapes

module _ (l : Logged) where
  abbrev Shaped : MasterDoing → Type 0
  Shaped d = AreShaped l d.master.logged

  shaped_kept : AskKeeps Shaped
  shaped_kept =
      record {
        ordered = λ d server b h. h;
        added = λ d file h. added_shaped l d.master.logged file d.master.logged.next_handle h.next h;
        checkpointed = λ d h. less_shaped l d.master.logged (table.keys d.master.logged.copies) h;
        less = λ d copy h. less_shaped l d.master.logged (copy ∷ []) h;
      }

  -- what a message says of shapes
  abbrev TellsShape : Body → Type 0
  TellsShape (body.Named number (Opened file shape)) = (shape ≡ shape_of l.table file.0) × (path : Path) × (node_at l.names path ≡ Some (File file.0))
  TellsShape (body.Told number (Some place)) = IsShapeIn l place.handle.0 place.shape
  TellsShape other = Unit {0}

  module _ (i : NodeInput) where
    answer_shaped : (receiver : Node) (b : Body) → IsAnswer l i Shaped receiver b → TellsShape b
    answer_shaped receiver (body.Named number (Opened file shape)) is = is
    answer_shaped receiver (body.Told number (Some place)) is = subst (λ (s : Shape). IsShapeIn l place.handle.0 s) (sym is.shape_is) (is.found.rows place.handle.0 is.row is.at)
    answer_shaped receiver other is = tt

    order_shaped : (server : ℕ) (b : Body) → IsOrder i Shaped server b → TellsShape b
    order_shaped server (body.Named number (Opened file shape)) is = absurd is
    order_shaped server (body.Told number (Some place)) is = absurd is
    order_shaped server other is = tt

    shapes_said : MasterSays l i Shaped (λ x. TellsShape x.body)
    shapes_said =
        record {
          answered = answer_shaped;
          ordered = order_shaped;
          extended = λ server line until is. tt;
          dropped = λ server order line is useless. tt;
        }

step_shaped : (m : MasterState) (moment : ℕ) (i : NodeInput) (choice : Choice) → AllOf (λ x. TellsShape m.logged x.body) (master_step m moment i choice).out.sent
step_shaped m moment i choice = step_says m moment i choice (Shaped m.logged) (shaped_kept m.logged) (same_shaped m.logged) (λ x. TellsShape m.logged x.body) (shapes_said m.logged i)

pub opened_shapes_are_logged : OpenedShapesAreLogged
opened_shapes_are_logged m moment i choice place x at number file shape is =
    subst (λ (b : Body). TellsShape m.logged b) is (all_at (λ (y : Message). TellsShape m.logged y.body) (master_step m moment i choice).out.sent place x (step_shaped m moment i choice) at)

pub told_shapes_are_of_their_chunks : ToldShapesAreOfTheirChunks
told_shapes_are_of_their_chunks m moment i choice place x at number l is =
    subst (λ (b : Body). TellsShape m.logged b) is (all_at (λ (y : Message). TellsShape m.logged y.body) (master_step m moment i choice).out.sent place x (step_shaped m moment i choice) at)
