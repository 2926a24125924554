-- While no call on a file writes some byte, the file's chunks don't get it, whatever is written to other files.
use Rattle.std.proofs.Common.{◌≡◌, ℕ, zero, suc, ◌-◌, ◌*◌, ◌≤◌, Bool, true, false, cond, List, [], ◌∷◌, ◌++◌, length, take, drop, Option, Some, None, refl, sym, ◌∙◌, ap, subst, inl, inr, arith}
use Rattle.std.specs.Prelude.{unwrap_or, option_map, slice_index}
use Rattle.std.specs.List.{AllByRecursion, cons_option}
use Rattle.std.proofs.lemmas.Option.{none-some}
use Rattle.gfs_types.specs.declared.call.Call.{Call}
use Rattle.gfs_types.specs.declared.answer.Answer.{Answer}
use Rattle.gfs_types.specs.declared.call.Call.TheVariants as call
use Rattle.gfs_types.specs.declared.mutation.Mutation.{Mutation}
use Rattle.gfs_types.specs.declared.mutation.Mutation.TheVariants.{Write, Append, Pad}
use Rattle.gfs_types.specs.Mutations.{covers, byte_of}
use Rattle.gfs_types.specs.Image.{newer, last_that, bytes_from}
use Rattle.gfs_types.specs.declared.config.Config.{Config}
use Rattle.relaxed_file.specs.Order.{Entry, IsSelection, empty, takes, leaves, mutations_of}
use Rattle.relaxed_file.specs.Parts.{part_length}
use Rattle.relaxed_file.specs.Machine.{Machine, new_machine, Asked, FileState, Chunk, new_chunk, OpenCall, chunk_size, chunk_at, chunk_count, put}
use Rattle.relaxed_file.specs.Chunks.{settled_at, chunk_added, placed}
use Rattle.relaxed_file.specs.Reads.{read_slice}
use Rattle.relaxed_file.specs.Run.{Action, Return, Add, OpenRound, CloseRound, Place, Settle, Visible, Called, Answered, Passed, shown, visible, Allows, after, after_all, IsLawful, asked_file, asked_now, IsReached}
use Rattle.relaxed_file.specs.RunLaws.{IsAskedOf, file_changed_by}
use Rattle.relaxed_file.proofs.Tables.{put_keeps, put_look, at_some, from_some}
use Rattle.relaxed_file.proofs.Known.{asked_is}
use Rattle.relaxed_file.proofs.Grows.{grows_step, known_when_reached}
use Rattle.relaxed_file.proofs.AskedFor.{all_pushed, asked_here}
use Rattle.relaxed_file.proofs.ChunkSteps.{chunk_step}
use Rattle.relaxed_file.proofs.CallSteps.{CallStep, call_step}
use Rattle.relaxed_file.proofs.FilesApart.{files_stay_apart}
use Rattle.relaxed_file.proofs.Reached.{leads_on, leads_by}
use Rattle.relaxed_file.proofs.Moments.{Shows, no_cons, called_not}
use Rattle.machine_names.specs.FalseTraces.{Lacks, WritesNone, TraceWritesNone}

module _ (x : ℕ) where
  abbrev pub LackedBy : Mutation → Type 0
  LackedBy (Write offset bytes) = Lacks x bytes
  LackedBy (Append offset bytes) = Lacks x bytes
  LackedBy (Pad offset end) = Unit {0}

  abbrev pub AreLacking : List Entry → Type 0
  AreLacking order = AllByRecursion (λ e. LackedBy e.mutation) order

  lacks_take : (n : ℕ) (bytes : List ℕ) → Lacks x bytes → Lacks x (take n bytes)
  lacks_take zero bytes h = tt
  lacks_take (suc n) [] h = tt
  lacks_take (suc n) (b ∷ rest) h = (h.0, lacks_take n rest h.1)

  lacks_drop : (n : ℕ) (bytes : List ℕ) → Lacks x bytes → Lacks x (drop n bytes)
  lacks_drop zero bytes h = h
  lacks_drop (suc n) [] h = tt
  lacks_drop (suc n) (b ∷ rest) h = lacks_drop n rest h.1

  pub lacks_append : (one two : List ℕ) → Lacks x one → Lacks x two → Lacks x (one ++ two)
  lacks_append [] two h g = g
  lacks_append (b ∷ one) two h g = (h.0, lacks_append one two h.1 g)

  -- a mutation has only bytes of its call
  asked_lacks : (size index : ℕ) (c : Call) (mutation : Mutation) → IsAskedOf size index c mutation → WritesNone x c → LackedBy mutation
  asked_lacks size index (call.Write fd offset bytes) (Write at content) asked h = subst (Lacks x) (sym asked.1) (lacks_take (part_length size offset (length bytes) index) (drop (index * size - offset) bytes) (lacks_drop (index * size - offset) bytes h))
  asked_lacks size index (call.Append fd bytes) (Append at content) asked h = subst (Lacks x) (sym asked.0) h
  asked_lacks size index (call.Append fd bytes) (Pad at end) asked h = tt
  asked_lacks size index other mutation asked h = absurd asked

  settled_lacking : (place : ℕ) (order : List Entry) → AreLacking order → AreLacking (settled_at place order)
  settled_lacking place [] h = tt
  settled_lacking zero (e ∷ rest) h = h
  settled_lacking (suc place) (e ∷ rest) h = (h.0, settled_lacking place rest h.1)

  -- what is seen asks to write none
  abbrev SeenWritesNone : Option Visible → Type 0
  SeenWritesNone None = Unit {0}
  SeenWritesNone (Some (Called client asked)) = WritesNone x asked
  SeenWritesNone (Some other) = Unit {0}

  seen_cons : (o : Option Visible) (rest : List Visible) → TraceWritesNone x (cons_option o rest) → SeenWritesNone o × TraceWritesNone x rest
  seen_cons None rest h = (tt, h)
  seen_cons (Some (Called client asked)) rest h = h
  seen_cons (Some (Answered client reply)) rest h = (tt, h)
  seen_cons (Some (Passed moment)) rest h = (tt, h)

  -- in the first part of a run no file gets the byte
  abbrev pub OpenWritesNone : Option OpenCall → Type 0
  OpenWritesNone None = Unit {0}
  OpenWritesNone (Some c) = WritesNone x c.asked.call

  pub record AllLack (m : Machine) : Type 0 where
    pub chunks : (file index : ℕ) → AreLacking (chunk_at m file index).order
    pub calls : (client : ℕ) → OpenWritesNone (m.clients client).open_call

  open_goes : (m : Machine) (client : ℕ) (v : Option Visible) (old new : Option OpenCall) → CallStep m client v old new → SeenWritesNone v → OpenWritesNone old → OpenWritesNone new
  open_goes m client v old new (inl made) seen h = subst OpenWritesNone (sym made.3) (subst SeenWritesNone made.1 seen)
  open_goes m client v old new (inr (inl ended)) seen h = subst OpenWritesNone (sym ended.4) tt
  open_goes m client v old new (inr (inr (others, inl going))) seen h =
      let was : OpenWritesNone (Some going.0) = subst OpenWritesNone going.2 h in
      subst OpenWritesNone (sym going.3) (subst (λ a. WritesNone x a) (ap (λ (a : Asked). a.call) (going.4).1) was)
  open_goes m client v old new (inr (inr (others, inr none))) seen h = subst OpenWritesNone (sym none.1) tt

  all_step : (m : Machine) (action : Action) → Allows m action → SeenWritesNone (shown action) → AllLack m → AllLack (after m action)
  all_step m action allowed seen h = record {
    chunks = chunk_step m (λ size i chunk. AreLacking chunk.order)
        (λ size i. tt) (λ size i chunk round later all. all) (λ size i chunk all. all)
        (λ client current file i mutation is may all. all_pushed (λ e. LackedBy e.mutation) _ _ all
        (asked_lacks (chunk_size m file) i current.asked.call mutation (asked_here m (record { client = client; number = current.number }) file i current.asked.call mutation may.3)
        (subst OpenWritesNone is (h.calls client))))
        (λ size i chunk place at all. settled_lacking place chunk.order all)
        action allowed h.chunks;
    calls = λ client. open_goes m client (shown action) _ _ (call_step m client action allowed) seen (h.calls client);
  }

  all_actions : (m : Machine) (actions : List Action) → IsLawful m actions → TraceWritesNone x (visible actions) → AllLack m → AllLack (after_all m actions)
  all_actions m [] lawful seen h = h
  all_actions m (a ∷ rest) lawful seen h =
      let both : SeenWritesNone (shown a) × TraceWritesNone x (visible rest) = seen_cons (shown a) (visible rest) seen in
      all_actions (after m a) rest lawful.1 both.1 (all_step m a lawful.0 both.0 h)

  pub all_lack : (m n : Machine) (trace : List Visible) → Shows m n trace → TraceWritesNone x trace → AllLack m → AllLack n
  all_lack m n trace s seen h = subst AllLack s.ends (all_actions m s.actions s.lawful (subst (TraceWritesNone x) (sym s.seen) seen) h)

  -- from then on one file, while no call on it writes the byte
  module _ (config : Config) (file : ℕ) where
    abbrev pub IsFine : Option OpenCall → Type 0
    IsFine None = Unit {0}
    IsFine (Some c) = c.asked.file ≡ Some file → WritesNone x c.asked.call

    abbrev pub HoldsOfFile : FileState → Type 0
    HoldsOfFile state = (index : ℕ) → AreLacking (state.chunks index).order

    pub record FileLacks (m : Machine) : Type 0 where
      pub reached : IsReached config m
      pub made : file ≤ m.file_count
      pub chunks : HoldsOfFile (m.files file)
      pub calls : (client : ℕ) → IsFine (m.clients client).open_call

    -- a file's chunk is another one, which lacks the byte too
    chunk_changed : (m : Machine) (changed index : ℕ) (chunk : Chunk) → FileLacks m → ((changed ≡ file) → AreLacking chunk.order)
        → HoldsOfFile (put changed (record (m.files changed) { chunks = put index chunk (m.files changed).chunks }) m.files file)
    chunk_changed m changed index chunk h new = put_look HoldsOfFile changed _ m.files file
        (λ same. put_keeps (λ (c : Chunk). AreLacking c.order) index chunk (m.files changed).chunks (new (sym same)) (subst (λ k. HoldsOfFile (m.files k)) same h.chunks)) h.chunks

    at_file : (m : Machine) (changed index : ℕ) → FileLacks m → changed ≡ file → AreLacking (chunk_at m changed index).order
    at_file m changed index h same = subst (λ k. HoldsOfFile (m.files k)) (sym same) h.chunks index

    -- none of the other actions changes a chunk of a file that is there
    kept : (m : Machine) (action : Action) → Allows m action → FileLacks m → (file_changed_by m action ≡ Some file → ⊥) → HoldsOfFile ((after m action).files file)
    kept m action allowed h other index = subst (λ (c : Chunk). AreLacking c.order) (sym (files_stay_apart config m (action ∷ []) file index h.reached (allowed, tt) h.made (other, tt))) (h.chunks index)

    chunks_step : (m : Machine) (action : Action) → Allows m action → FileLacks m → HoldsOfFile ((after m action).files file)
    chunks_step m (Add id) a h = at_some (λ (k : Machine). HoldsOfFile (k.files file)) (chunk_added m id) m (asked_file m id) a.1 (asked_is m id a.0 a.1 a.2.0 a.2.1)
        (put_look HoldsOfFile a.1 _ m.files file (λ same. put_keeps (λ (c : Chunk). AreLacking c.order) (chunk_count m a.1) new_chunk (m.files a.1).chunks tt (subst (λ k. HoldsOfFile (m.files k)) same h.chunks)) h.chunks)
    chunks_step m (OpenRound f index round) a h = chunk_changed m f index _ h (λ same. at_file m f index h same)
    chunks_step m (CloseRound f index) a h = chunk_changed m f index _ h (λ same. at_file m f index h same)
    chunks_step m (Place client f index mutation) a h = at_some (λ (k : Machine). HoldsOfFile (k.files file)) (λ current. placed m client current f index mutation) m _ a.0 a.1
        (chunk_changed m f index _ h (λ same. all_pushed (λ e. LackedBy e.mutation) _ _ (at_file m f index h same)
        (asked_lacks (chunk_size m f) index (a.0).asked.call mutation (asked_here m (record { client = client; number = (a.0).number }) f index (a.0).asked.call mutation (a.2).3)
        (let fine : IsFine (Some a.0) = subst IsFine a.1 (h.calls client) in fine ((a.2).0 ∙ ap Some same)))))
    chunks_step m (Settle f index place) a h = chunk_changed m f index _ h (λ same. settled_lacking place _ (at_file m f index h same))
    chunks_step m other a h = kept m other a h (λ is. none-some file is)

    fine_goes : (m : Machine) (client : ℕ) (v : Option Visible) (old new : Option OpenCall) → CallStep m client v old new
        → ((c : Call) → v ≡ Some (Called client c) → (asked_now m client c).file ≡ Some file → WritesNone x c) → IsFine old → IsFine new
    fine_goes m client v old new (inl made) new_is h = subst IsFine (sym made.3) (new_is made.0 made.1)
    fine_goes m client v old new (inr (inl ended)) new_is h = subst IsFine (sym ended.4) tt
    fine_goes m client v old new (inr (inr (others, inl going))) new_is h =
        let was : IsFine (Some going.0) = subst IsFine going.2 h in
        subst IsFine (sym going.3) (subst (λ (a : Asked). a.file ≡ Some file → WritesNone x a.call) (going.4).1 was)
    fine_goes m client v old new (inr (inr (others, inr none))) new_is h = subst IsFine (sym none.1) tt

    -- an action at which no call on the file that writes the byte is made
    pub file_step : (m : Machine) (action : Action) → Allows m action
        → ((client : ℕ) (c : Call) → shown action ≡ Some (Called client c) → (asked_now m client c).file ≡ Some file → WritesNone x c) → FileLacks m → FileLacks (after m action)
    file_step m action allowed new_is h = record {
      reached = leads_on (new_machine config) m (after m action) h.reached (leads_by m action allowed);
      made = let more : m.file_count ≤ (after m action).file_count = (grows_step m action allowed (known_when_reached config m h.reached)).file_count in let l : file ≤ m.file_count = h.made in omega (arith, more, l);
      chunks = chunks_step m action allowed h;
      calls = λ client. fine_goes m client (shown action) _ _ (call_step m client action allowed) (new_is client) (h.calls client);
    }

    silent_actions : (m : Machine) (actions : List Action) → IsLawful m actions → visible actions ≡ [] → FileLacks m → FileLacks (after_all m actions)
    silent_actions m [] lawful seen h = h
    silent_actions m (a ∷ rest) lawful seen h = elim (shown a) as (λ o. shown a ≡ o → cons_option o (visible rest) ≡ [] → FileLacks (after_all m (a ∷ rest))) [
      | None ↦ λ is more. silent_actions (after m a) rest lawful.1 more (file_step m a lawful.0 (λ client c called. absurd (none-some _ (sym is ∙ called))) h)
      | Some v ↦ λ is more. absurd (no_cons v (visible rest) (sym more))
    ] refl seen

    pub silently : (m n : Machine) → Shows m n [] → FileLacks m → FileLacks n
    silently m n s h = subst FileLacks s.ends (silent_actions m s.actions s.lawful s.seen h)

    -- the answer to a call
    pub by_return : (m : Machine) (client : ℕ) (reply : Answer) → Allows m (Return client reply) → FileLacks m → FileLacks (after m (Return client reply))
    by_return m client reply allowed h = file_step m (Return client reply) allowed (λ who c called. absurd (called_not who client c reply (sym (from_some called)))) h

  -- what a read takes of such a chunk
  selected_lacking : (last : ℕ) {order chosen : List Entry} → IsSelection last order chosen → AreLacking order → AreLacking chosen
  selected_lacking last empty h = tt
  selected_lacking last (takes r rest) h = (h.0, selected_lacking last rest h.1)
  selected_lacking last (leaves late rest) h = selected_lacking last rest h.1

  module _ (other : x ≡ 0 → ⊥) where
    at_index : (bytes : List ℕ) (k : ℕ) → Lacks x bytes → slice_index bytes k ≡ x → ⊥
    at_index [] k h is = other (sym is)
    at_index (b ∷ rest) zero h is = h.0 is
    at_index (b ∷ rest) (suc k) h is = at_index rest k h.1 is

    byte_lacks : (place : ℕ) (m : Mutation) → LackedBy m → byte_of place m ≡ x → ⊥
    byte_lacks place (Write offset bytes) h is = at_index bytes (place - offset) h is
    byte_lacks place (Append offset bytes) h is = at_index bytes (place - offset) h is
    byte_lacks place (Pad offset end) h is = other (sym is)

    abbrev FoundLacks : Option Mutation → Type 0
    FoundLacks None = Unit {0}
    FoundLacks (Some m) = LackedBy m

    newer_lacks : (b : Bool) (m : Mutation) (o : Option Mutation) → LackedBy m → FoundLacks o → FoundLacks (newer (cond b (Some m) None) o)
    newer_lacks true m None h g = h
    newer_lacks false m None h g = g
    newer_lacks b m (Some later) h g = g

    last_lacks : (place : ℕ) (order : List Entry) → AreLacking order → FoundLacks (last_that (covers place) (mutations_of order))
    last_lacks place [] h = tt
    last_lacks place (e ∷ rest) h = newer_lacks (covers place e.mutation) e.mutation _ h.0 (last_lacks place rest h.1)

    found_lacks : (place : ℕ) (o : Option Mutation) → FoundLacks o → unwrap_or (option_map (byte_of place) o) 0 ≡ x → ⊥
    found_lacks place None h is = other (sym is)
    found_lacks place (Some m) h is = byte_lacks place m h is

    bytes_lack : (order : List Entry) (place count : ℕ) → AreLacking order → Lacks x (bytes_from (mutations_of order) place count)
    bytes_lack order place zero h = tt
    bytes_lack order place (suc count) h = (found_lacks place (last_that (covers place) (mutations_of order)) (last_lacks place order h), bytes_lack order (suc place) count h)

    slice_lacks : (size index : ℕ) (c : Call) (chosen : List Entry) → AreLacking chosen → Lacks x (read_slice size index c chosen)
    slice_lacks size index (call.Read fd offset count) chosen h = bytes_lack chosen _ _ h
    slice_lacks size index other_call chosen h = tt

    pub look_lacks : (size index last : ℕ) (c : Call) (order chosen : List Entry) → IsSelection last order chosen → AreLacking order → Lacks x (read_slice size index c chosen)
    look_lacks size index last c order chosen is h = slice_lacks size index c chosen (selected_lacking last is h)
