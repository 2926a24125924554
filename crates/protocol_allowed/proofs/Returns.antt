-- How a call may be answered.
use Rattle.std.proofs.Common.{◌≡◌, inl, inr, ℕ, suc, ◌+◌, ◌*◌, ◌/◌, ◌%◌, ◌<◌, List, length, Option, Some, None, sym, ◌∙◌}
use Rattle.std.specs.Prelude.{IsTrue, IsSomeAnd, IfSome}
use Rattle.std.proofs.Math.Nat.{add_comm, mod-add-div'}
use Rattle.gfs_types.specs.declared.ids.Fd.{Fd}
use Rattle.gfs_types.specs.declared.call.Call.{Call}
use Rattle.gfs_types.specs.declared.call.Call.TheVariants as call
use Rattle.gfs_types.specs.declared.answer.Answer.{Answer}
use Rattle.gfs_types.specs.declared.answer.Answer.TheVariants as answer
use Rattle.gfs_types.specs.declared.refusal.Refusal.{Refusal}
use Rattle.gfs_types.specs.declared.refusal.Refusal.TheVariants.{BadFd, TooLong, Collected, NoMemory}
use Rattle.relaxed_file.specs.Order.{CallId}
use Rattle.relaxed_file.specs.Parts.{has_part}
use Rattle.relaxed_file.specs.Machine.{Machine, OpenCall, chunk_size, chunk_count}
use Rattle.relaxed_file.specs.Chunks.{tries_below}
use Rattle.relaxed_file.specs.Answers.{HasSuccess, IsWrite, IsAppendAt, IsDone, IsCause, MayReturn, is_too_long, uses_chunks}
use Rattle.protocol.specs.Each.{EachNumber}
use Rattle.protocol_invariant.specs.Allowed.{HasOne, is_write, is_append_at, is_read_as, IsAnswer, IsCauseOf, IsReturn}
use Rattle.protocol_allowed.proofs.Tests.{on_some, is_there}
use Rattle.protocol_allowed.proofs.Successes.{write_is, append_is, has_success, part_below}
use Rattle.protocol_allowed.proofs.Pieces.{AreRead, are_read}

module _ (m : Machine) (client : ℕ) (current : OpenCall) where
  abbrev id : CallId
  id = record { client = client; number = current.number }

  -- each part of a write stands settled, on the call's file
  abbrev AreWritten : ℕ → ℕ → ℕ → Type 0
  AreWritten offset count file = EachNumber (suc ((offset + count) / chunk_size m file)) (λ index. IsTrue (has_part (chunk_size m file) offset count index) → HasOne m client id file index is_write)

  written : (offset count : ℕ) (o : Option ℕ) → IsSomeAnd o (AreWritten offset count)
      → IfSome o (λ file. (index : ℕ) → IsTrue (has_part (chunk_size m file) offset count index) → HasSuccess m client id file index IsWrite)
  written offset count None h = absurd h
  written offset count (Some file) h = λ index part. has_success m client id file index is_write IsWrite write_is (h index (part_below (chunk_size m file) offset count index part) part)

  appended : (fd : Fd) (bytes : List ℕ) (x : ℕ) → IsAnswer m client current (call.Append fd bytes) (answer.At x) → IsDone m client current (call.Append fd bytes) (answer.At x)
  appended fd bytes x h =
      let at : (file : ℕ) × (current.asked.file ≡ Some file) × ((x / chunk_size m file < chunk_count m file) × HasOne m client id file (x / chunk_size m file) (is_append_at (x % chunk_size m file))) =
      on_some (λ file. (x / chunk_size m file < chunk_count m file) × HasOne m client id file (x / chunk_size m file) (is_append_at (x % chunk_size m file))) current.asked.file h in
      let size : ℕ = chunk_size m at.0 in (
        at.0,
        at.1,
        x / size,
        x % size,
        sym (add_comm (x / size * size) (x % size) ∙ mod-add-div' x size),
        at.2.0,
        has_success m client id at.0 (x / size) (is_append_at (x % size)) (IsAppendAt (x % size)) (append_is (x % size)) at.2.1,
      )

  -- what was read is so of this file's size
  abbrev Reads : ℕ → ℕ → List ℕ → List ℕ → ℕ → Type 0
  Reads offset count bytes rounds file =
      IsTrue (is_read_as (suc (suc ((offset + count) / chunk_size m file))) (chunk_size m file) offset count current.pieces (offset / chunk_size m file) bytes rounds)

  read : (fd : Fd) (offset count : ℕ) (bytes rounds : List ℕ) → IsAnswer m client current (call.Read fd offset count) (answer.Bytes bytes rounds) → IsDone m client current (call.Read fd offset count) (answer.Bytes bytes rounds)
  read fd offset count bytes rounds h =
      let on : (file : ℕ) × (current.asked.file ≡ Some file) × Reads offset count bytes rounds file = on_some (Reads offset count bytes rounds) current.asked.file h.1 in
      let size : ℕ = chunk_size m on.0 in
      let got : AreRead size offset count current.pieces (offset / size) bytes rounds = are_read size offset count current.pieces (suc (suc ((offset + count) / size))) (offset / size) bytes rounds on.2 in
      (on.0, on.1, got.0, got.1, got.2, got.3, h.0)

  done : (c : Call) (reply : Answer) → IsAnswer m client current c reply → IsDone m client current c reply
  done (call.Close fd) answer.Done h = h
  done (call.Write fd offset bytes) answer.Done h = (written offset (length bytes) current.asked.file h.1, is_there (AreWritten offset (length bytes)) current.asked.file h.1, h.0)
  done (call.Append fd bytes) (answer.At x) h = appended fd bytes x h
  done (call.Read fd offset count) (answer.Bytes bytes rounds) h = read fd offset count bytes rounds h
  done (call.Length fd) (answer.Length n) h = h
  done other reply h = h

  cause : (reason : Refusal) → IsCauseOf m client current reason → IsCause m client current reason
  cause BadFd h = h
  cause TooLong h =
      let at : (file : ℕ) × (current.asked.file ≡ Some file) × (IsTrue (is_too_long (chunk_size m file) current.asked.chunks_before current.asked.call) × (tries_below (m.files file).chunks id (chunk_count m file) ≡ 0)) =
      on_some (λ file. IsTrue (is_too_long (chunk_size m file) current.asked.chunks_before current.asked.call) × (tries_below (m.files file).chunks id (chunk_count m file) ≡ 0)) current.asked.file h in
      (at.0, at.1, at.2.0, at.2.1)
  cause Collected h =
      let at : (file : ℕ) × (current.asked.file ≡ Some file) × (IsTrue (m.files file).is_collected × IsTrue (uses_chunks current.asked.call)) =
      on_some (λ file. IsTrue (m.files file).is_collected × IsTrue (uses_chunks current.asked.call)) current.asked.file h in
      (at.0, at.1, at.2.0, at.2.1)
  cause NoMemory h = h
  cause other h = absurd h

  pub may_return : (reply : Answer) → IsReturn m client current reply → MayReturn m client current reply
  may_return (answer.Refused reason) (inl h) = inl h
  may_return (answer.Refused reason) (inr (inl h)) = inr (inl h)
  may_return (answer.Refused reason) (inr (inr h)) = inr (inr (cause reason h))
  may_return reply h = done current.asked.call reply h
