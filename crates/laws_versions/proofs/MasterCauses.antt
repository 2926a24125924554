-- What the master says in a step of versions and leases, each with its cause: orders that give a version answer an Ask, a Grant answers what a server recorded, and an Extend a line of a Report.
use Rattle.std.proofs.Common.{◌≡◌, ◌⊎◌, ℕ, suc, ◌+◌, ◌≤◌, Bool, true, false, List, [], ◌∷◌, Some, None, refl, ap, inl, inr, arith, sym, ◌∙◌}
use Rattle.std.specs.Ordering.{nat_cmp, eq_by_cmp}
use Rattle.std.specs.List.{list_any}
use Rattle.std.proofs.Math.Nat.{le-max_left}
use Rattle.std.proofs.lemmas.Bool.{true≢false}
use Rattle.std.specs.FinMap as table
use Rattle.gfs_types.specs.declared.ids.Node.{Node}
use Rattle.gfs_types.specs.declared.ids.Node.TheVariants as node
use Rattle.gfs_types.specs.declared.ids.OrderNo.{OrderNo}
use Rattle.messages.specs.declared.message.Body.{Body}
use Rattle.messages.specs.declared.message.Body.TheVariants as body
use Rattle.messages.specs.declared.message.Message.{Message}
use Rattle.messages.specs.declared.message.LeaseLine.{LeaseLine}
use Rattle.messages.specs.declared.event.NodeInput.{NodeInput}
use Rattle.log_records.specs.declared.record.Record.TheVariants as log
use Rattle.chunk_table.specs.ChunkTable.{ChunkRow, chunk_of, added_row}
use Rattle.protocol.specs.Tables.{Table, has_number, removed_all}
use Rattle.protocol.specs.Sending.{message, file_id, handle_of, version_of, moment_of, the_server}
use Rattle.protocol.specs.Choice.{Choice}
use Rattle.protocol.specs.Logged.{Logged, copies_given_up, after_record}
use Rattle.protocol.specs.Master.{MasterState, MasterDoing, VersionAttempt}
use Rattle.protocol.specs.MasterStep.{master_step}
use Rattle.laws_base.proofs.LeaseOrders.{grant_order, grant_body, GrantsNothing}
use Rattle.laws_base.proofs.MasterMoves.{removed_other}
use Rattle.laws_base.proofs.Steps.{none_some, put_cases, removed_cases, now_gone}
use Rattle.laws_base.proofs.Entries.{AllOf}
use Rattle.laws_base.proofs.MasterPremises.{IsAsk, IsTold, IsLineTaken, IsAnswer, IsOver, IsIssued, IsUnused, IsCopySource, IsOrder, AskKeeps, MasterSays}
use Rattle.laws_base.proofs.MasterWalk.{step_says}

-- words that have a cause here
abbrev pub is_caused : Body → Bool
is_caused (body.Create order handle version) = true
is_caused (body.SetVersion order handle version base) = true
is_caused (body.CopyLocal order handle version copy copy_version) = true
is_caused (grant_body order handle version end_moment chunk members) = true
is_caused (body.Extend handle version end_moment) = true
is_caused other = false

pub uncaused_nothing : (b : Body) → is_caused b ≡ false → GrantsNothing b
uncaused_nothing (grant_body order handle version end_moment chunk members) none = absurd (true≢false none)
uncaused_nothing other none = tt

abbrev pub Attempts : Type 0
Attempts = Table VersionAttempt

-- The chunk was there, with no more granted than the base, its next number the version, and no attempt; or its handle is a new one, with the first number.
abbrev pub IsRaised : Logged → Attempts → ℕ → ℕ → ℕ → Type 0
IsRaised l tried handle version base =
    ((row : ChunkRow) × (chunk_of l.table handle ≡ Some row) × (row.granted ≤ base) × (suc row.issued ≡ version) × (table.get tried handle ≡ None))
    ⊎ ((l.next_handle ≤ handle) × (version ≡ 1))

-- W of what the master says in a step on this input, from what was logged and attempted as it began
pub record Causes (l : Logged) (tried : Attempts) (i : NodeInput) (W : Message → Type 0) : Type 0 where
  pub plain : (receiver : Node) (b : Body) → is_caused b ≡ false → W (message node.Master receiver b)
  pub extends : (server : ℕ) (line : LeaseLine) (until : ℕ) → IsLineTaken i server line → W (message node.Master (the_server server) (body.Extend line.handle line.version (moment_of until)))
  pub grants : (server : ℕ) (order : OrderNo) (handle version until chunk : ℕ) (members : List ℕ) → IsTold i → has_number members server ≡ true
      → W (message node.Master (the_server server) (grant_order handle version until chunk members order))
  pub creates : (server : ℕ) (order : OrderNo) (handle version : ℕ) → IsAsk i → IsRaised l tried handle version 0 ⊎ (l.next_handle ≤ handle)
      → W (message node.Master (the_server server) (body.Create order (handle_of handle) (version_of version)))
  pub raises : (server : ℕ) (order : OrderNo) (handle version base : ℕ) → IsAsk i → IsRaised l tried handle version base
      → W (message node.Master (the_server server) (body.SetVersion order (handle_of handle) (version_of version) (version_of base)))
  pub copies : (server : ℕ) (order : OrderNo) (handle version copy copy_version : ℕ) → IsAsk i → l.next_handle ≤ copy
      → W (message node.Master (the_server server) (body.CopyLocal order (handle_of handle) (version_of version) (handle_of copy) (version_of copy_version)))

-- rows since the step began: each was there with the same versions, and with an attempt that was there is one still; or it is of a new handle, of which nothing was issued
abbrev IsKept : Logged → Attempts → Attempts → ℕ → ChunkRow → Type 0
IsKept l tried now handle row =
    ((old : ChunkRow) × (chunk_of l.table handle ≡ Some old) × (old.granted ≡ row.granted) × (old.issued ≡ row.issued)
    × (table.get now handle ≡ None → table.get tried handle ≡ None))
    ⊎ ((l.next_handle ≤ handle) × (row.issued ≡ 0))

record AreKept (l : Logged) (tried : Attempts) (k : Logged) (now : Attempts) : Type 0 where
  next : l.next_handle ≤ k.next_handle
  rows : (handle : ℕ) (row : ChunkRow) → chunk_of k.table handle ≡ Some row → IsKept l tried now handle row

same_kept : (l : Logged) (tried : Attempts) → AreKept l tried l tried
same_kept l tried = record { next = omega arith; rows = λ handle row is. inl (row, is, refl, refl, λ none. none) }

less_kept : (l : Logged) (tried : Attempts) (k : Logged) (now : Attempts) (handles : List ℕ) → AreKept l tried k now → AreKept l tried (copies_given_up k handles) (removed_all now handles)
less_kept l tried k now handles h =
    record {
      next = h.next;
      rows = λ handle row is.
          elim (h.rows handle row (removed_cases k.table.chunks handles handle row is)) [
            | inl was ↦ inl (was.0, was.1, was.2, was.3, λ none. was.4 (by_place handle row is none (list_any (eq_by_cmp nat_cmp handle) handles) refl))
            | inr new ↦ inr new
          ];
    }
  where
    by_place : (handle : ℕ) (row : ChunkRow) → table.get (removed_all k.table.chunks handles) handle ≡ Some row → table.get (removed_all now handles) handle ≡ None
        → (b : Bool) → list_any (eq_by_cmp nat_cmp handle) handles ≡ b → table.get now handle ≡ None
    by_place handle row is none true e = none_some row (sym (now_gone k.table.chunks handles handle e) ∙ is)
    by_place handle row is none false e = sym (removed_other now handles handle e) ∙ none

added_kept : (l : Logged) (tried : Attempts) (k : Logged) (now : Attempts) (file handle : ℕ) → l.next_handle ≤ handle → AreKept l tried k now
    → AreKept l tried (after_record k (log.AddChunk (file_id file) (handle_of handle))) now
added_kept l tried k now file handle new h =
    record {
      next = let low = h.next in let high = le-max_left k.next_handle (handle + 1) in omega (arith, low, high);
      rows = λ q row is. elim (put_cases k.table.chunks handle (added_row k.table file) q row is) [
        | inl same ↦ inr ((let key = same.0 in omega (arith, new, key)), sym (ap (λ (x : ChunkRow). x.issued) same.1))
        | inr before ↦ h.rows q row before
      ];
    }

module _ (l : Logged) (tried : Attempts) where
  abbrev Keeping : MasterDoing → Type 0
  Keeping d = AreKept l tried d.master.logged d.master.attempts

  keeping_kept : AskKeeps Keeping
  keeping_kept =
      record {
        ordered = λ d server b h. h;
        added = λ d file h. added_kept l tried d.master.logged d.master.attempts file d.master.logged.next_handle h.next h;
        checkpointed = λ d h. less_kept l tried d.master.logged d.master.attempts (table.keys d.master.logged.copies) h;
        less = λ d copy h. less_kept l tried d.master.logged d.master.attempts (copy ∷ []) h;
      }

  unused : (handle : ℕ) → IsUnused Keeping handle → l.next_handle ≤ handle
  unused handle new = let low = new.found.next in let next = new.next in omega (arith, low, next)

  copied : (handle version copy : ℕ) → IsCopySource Keeping handle version copy → l.next_handle ≤ copy
  copied handle version copy source = let low = source.found.next in let next = source.next in omega (arith, low, next)

  module _ (issued : (handle : ℕ) (row : ChunkRow) → chunk_of l.table handle ≡ Some row → row.granted ≤ row.issued) where
    over_old : (handle base : ℕ) (old row : ChunkRow) → chunk_of l.table handle ≡ Some old → old.granted ≡ row.granted → old.issued ≡ row.issued → IsOver row base
        → old.granted ≤ base
    over_old handle base old row at granted number (inl less) = omega (arith, granted, less)
    over_old handle base old row at granted number (inr last) = let bound = issued handle old at in omega (arith, bound, number, last)

    raised_by : (handle version base : ℕ) (row : ChunkRow) (now : Attempts) → table.get now handle ≡ None → version ≡ suc row.issued → IsOver row base → IsKept l tried now handle row
        → IsRaised l tried handle version base
    raised_by handle version base row now none next over (inl was) =
        inl (was.0, was.1, over_old handle base was.0 row was.1 was.2 was.3 over, ap (λ (n : ℕ). suc n) was.3 ∙ sym next, was.4 none)
    raised_by handle version base row now none next over (inr new) = inr (new.0, next ∙ ap (λ (n : ℕ). suc n) new.1)

    raised : (handle version base : ℕ) → IsIssued Keeping handle version base → IsRaised l tried handle version base
    raised handle version base due =
        raised_by handle version base due.row due.doing.master.attempts due.none due.next due.over (due.found.rows handle due.row due.at)

    created : (handle version : ℕ) → IsIssued Keeping handle version 0 ⊎ IsUnused Keeping handle → IsRaised l tried handle version 0 ⊎ (l.next_handle ≤ handle)
    created handle version (inl due) = inl (raised handle version 0 due)
    created handle version (inr new) = inr (unused handle new)

    module _ (i : NodeInput) (W : Message → Type 0) (k : Causes l tried i W) where
      answer_caused : (receiver : Node) (b : Body) → IsAnswer l i Keeping receiver b → is_caused b ≡ false
      answer_caused receiver (body.Told number place) is = refl
      answer_caused receiver (body.Refused number refusal) is = refl
      answer_caused receiver (body.Named number reply) is = refl
      answer_caused receiver (body.Wait number) is = refl
      answer_caused receiver other is = absurd is

      order_caused : (server : ℕ) (b : Body) → IsOrder i Keeping server b → W (message node.Master (the_server server) b)
      order_caused server (body.Create order handle version) is = k.creates server order handle.0 version.0 is.0 (created handle.0 version.0 is.1)
      order_caused server (body.SetVersion order handle version base) is =
          k.raises server order handle.0 version.0 base.0 is.0 (raised handle.0 version.0 base.0 is.1)
      order_caused server (body.CopyLocal order handle version copy copy_version) is =
          k.copies server order handle.0 version.0 copy.0 copy_version.0 is.0 (copied handle.0 version.0 copy.0 is.1)
      order_caused server (grant_body order handle version end_moment chunk members) is = k.grants server order handle.0 version.0 end_moment.0 chunk members is.0 is.1
      order_caused server (body.Extend handle version end_moment) is = absurd is
      order_caused server other is = k.plain (the_server server) other refl

      says : MasterSays l i Keeping W
      says =
          record {
            answered = λ receiver b is. k.plain receiver b (answer_caused receiver b is);
            ordered = order_caused;
            extended = k.extends;
            dropped = λ server order line is useless. k.plain (the_server server) (body.Drop order line.handle line.version) refl;
          }

-- what the master says in a step
pub step_caused : (m : MasterState) (moment : ℕ) (i : NodeInput) (choice : Choice) (W : Message → Type 0)
    → ((handle : ℕ) (row : ChunkRow) → chunk_of m.logged.table handle ≡ Some row → row.granted ≤ row.issued) → Causes m.logged m.attempts i W
    → AllOf W (master_step m moment i choice).out.sent
step_caused m moment i choice W issued k =
    let l : Logged = m.logged in
    let tried : Attempts = m.attempts in
    step_says m moment i choice (Keeping l tried) (keeping_kept l tried) (same_kept l tried) W (says l tried issued i W k)
