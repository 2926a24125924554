-- How a call may be answered, as it is computed.
use Rattle.std.proofs.Common.{◌≡◌, inl, inr, ℕ, suc, ◌+◌, ◌/◌, ◌%◌, ◌<◌, List, length, Option, Some, None, sym, ap, subst, ◌∙◌, arith}
use Rattle.std.specs.Prelude.{IsTrue, IsSome, IsSomeAnd, IfSome}
use Rattle.std.proofs.lemmas.Nat.{div-mul-add, mod-mul-add}
use Rattle.gfs_types.specs.declared.config.Config.{Config}
use Rattle.gfs_types.specs.declared.ids.Fd.{Fd}
use Rattle.gfs_types.specs.declared.call.Call.{Call}
use Rattle.gfs_types.specs.declared.call.Call.TheVariants as call
use Rattle.gfs_types.specs.declared.answer.Answer.{Answer}
use Rattle.gfs_types.specs.declared.answer.Answer.TheVariants as answer
use Rattle.gfs_types.specs.declared.refusal.Refusal.{Refusal}
use Rattle.gfs_types.specs.declared.refusal.Refusal.TheVariants.{BadFd, TooLong, Collected, NoMemory}
use Rattle.relaxed_file.specs.Order.{CallId}
use Rattle.relaxed_file.specs.Parts.{has_part}
use Rattle.relaxed_file.specs.Machine.{Machine, OpenCall, chunk_size, chunk_count}
use Rattle.relaxed_file.specs.Chunks.{tries_below}
use Rattle.relaxed_file.specs.Answers.{HasSuccess, IsWrite, IsAppendAt, IsDone, IsCause, MayReturn, is_too_long, uses_chunks}
use Rattle.relaxed_file.specs.Run.{IsReached}
use Rattle.protocol.specs.Each.{EachNumber}
use Rattle.protocol_invariant.specs.Allowed.{HasOne, is_write, is_append_at, is_read_as, IsAnswer, IsCauseOf, IsReturn}
use Rattle.protocol_allowed.proofs.SuccessesBack.{write_passes, append_passes, has_one, place_within}
use Rattle.protocol_allowed.proofs.ReadsBack.{read_as, bytes_of, rounds_of}

module _ (config : Config) (m : Machine) (way : IsReached config m) (client : ℕ) (current : OpenCall) where
  abbrev id : CallId
  id = record { client = client; number = current.number }

  abbrev AreWritten : ℕ → ℕ → ℕ → Type 0
  AreWritten offset count file = EachNumber (suc ((offset + count) / chunk_size m file)) (λ index. IsTrue (has_part (chunk_size m file) offset count index) → HasOne m client id file index is_write)

  written : (offset count : ℕ) (o : Option ℕ) → IsSome o
      → IfSome o (λ file. (index : ℕ) → IsTrue (has_part (chunk_size m file) offset count index) → HasSuccess m client id file index IsWrite) → IsSomeAnd o (AreWritten offset count)
  written offset count None some h = absurd (cc)
  written offset count (Some file) some h = λ index below part. has_one m client id file index is_write IsWrite write_passes (h index part)

  abbrev IsAppended : ℕ → ℕ → ℕ → Type 0
  IsAppended file index place = (index < chunk_count m file) × HasOne m client id file index (is_append_at place)

  appended : (fd : Fd) (bytes : List ℕ) (x : ℕ) → IsDone m client current (call.Append fd bytes) (answer.At x) → IsAnswer m client current (call.Append fd bytes) (answer.At x)
  appended fd bytes x h =
      let size : ℕ = chunk_size m h.0 in
      let small : h.3 < size = place_within config m way client id h.0 h.2 h.3 h.6 in
      let index : x / size ≡ h.2 = ap (λ y. y / size) h.4 ∙ div-mul-add h.2 size h.3 small in
      let place : x % size ≡ h.3 = ap (λ y. y % size) h.4 ∙ mod-mul-add h.2 size h.3 small in
      let there : IsAppended h.0 h.2 h.3 = (h.5, has_one m client id h.0 h.2 (is_append_at h.3) (IsAppendAt h.3) (append_passes h.3) h.6) in
      subst (λ o. IsSomeAnd o (λ file. IsAppended file (x / chunk_size m file) (x % chunk_size m file))) (sym h.1)
      (subst (λ p. IsAppended h.0 (x / size) p) (sym place) (subst (λ i. IsAppended h.0 i h.3) (sym index) there))

  -- what was read is so of this file's size
  abbrev Reads : ℕ → ℕ → List ℕ → List ℕ → ℕ → Type 0
  Reads offset count bytes rounds file =
      IsTrue (is_read_as (suc (suc ((offset + count) / chunk_size m file))) (chunk_size m file) offset count current.pieces (offset / chunk_size m file) bytes rounds)

  read : (fd : Fd) (offset count : ℕ) (bytes rounds : List ℕ) → IsDone m client current (call.Read fd offset count) (answer.Bytes bytes rounds) → IsAnswer m client current (call.Read fd offset count) (answer.Bytes bytes rounds)
  read fd offset count bytes rounds h =
      let size : ℕ = chunk_size m h.0 in
      let parts : ℕ = suc ((offset + count) / size) in
      let same : IsTrue (is_read_as (suc parts) size offset count current.pieces (offset / size) (bytes_of h.2) (rounds_of h.2)) =
      read_as size offset count current.pieces parts (offset / size) h.2 (omega arith) h.3 in (
        h.6,
        subst (λ o. IsSomeAnd o (Reads offset count bytes rounds)) (sym h.1)
            (subst (λ bs. IsTrue (is_read_as (suc parts) size offset count current.pieces (offset / size) bs rounds)) (sym h.4)
            (subst (λ rs. IsTrue (is_read_as (suc parts) size offset count current.pieces (offset / size) (bytes_of h.2) rs)) (sym h.5) same)),
      )

  done : (c : Call) (reply : Answer) → IsDone m client current c reply → IsAnswer m client current c reply
  done (call.Close fd) answer.Done h = h
  done (call.Write fd offset bytes) answer.Done h = (h.2, written offset (length bytes) current.asked.file h.1 h.0)
  done (call.Append fd bytes) (answer.At x) h = appended fd bytes x h
  done (call.Read fd offset count) (answer.Bytes bytes rounds) h = read fd offset count bytes rounds h
  done (call.Length fd) (answer.Length n) h = h
  done other reply h = h

  cause : (reason : Refusal) → IsCause m client current reason → IsCauseOf m client current reason
  cause BadFd h = h
  cause TooLong h =
      subst (λ o. IsSomeAnd o (λ file. IsTrue (is_too_long (chunk_size m file) current.asked.chunks_before current.asked.call) × (tries_below (m.files file).chunks id (chunk_count m file) ≡ 0))) (sym h.1) (h.2, h.3)
  cause Collected h = subst (λ o. IsSomeAnd o (λ file. IsTrue (m.files file).is_collected × IsTrue (uses_chunks current.asked.call))) (sym h.1) (h.2, h.3)
  cause NoMemory h = h
  cause other h = absurd h

  pub is_return : (reply : Answer) → MayReturn m client current reply → IsReturn m client current reply
  is_return (answer.Refused reason) (inl h) = inl h
  is_return (answer.Refused reason) (inr (inl h)) = inr (inl h)
  is_return (answer.Refused reason) (inr (inr h)) = inr (inr (cause reason h))
  is_return reply h = done current.asked.call reply h
