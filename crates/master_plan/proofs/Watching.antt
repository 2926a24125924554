-- What each change leaves of what is known of chunks that lack replicas.
use Rattle.std.proofs.Common.{◌≡◌, ℕ, List, sym, subst, Some, Option, IfSome, unwrap_or}
use Rattle.std.specs.FinMap.{get, insert, empty}
use Rattle.gfs_types.specs.declared.config.Config.{Config}
use Rattle.log_records.specs.declared.record.Record.{Record}
use Rattle.chunk_table.specs.ChunkTable.{set_end}
use Rattle.protocol.specs.Tables.{Table}
use Rattle.protocol.specs.Logged.{Logged, after_record, copies_given_up}
use Rattle.master_plan.specs.Watched.{IsWholeAt}
use Rattle.rereplicate.specs.Doubts.{held_in, AreDoubtedAsChanged}
use Rattle.master_plan.specs.Granted.{granted_chunk, with_granted}
use Rattle.master_plan.proofs.StillWhole.{whole_appended, whole_given_up, whole_ended, whole_held, as_noted}
use Rattle.rereplicate.proofs.Doubting.{after_change, mapped_if}

module _ (config : Config) (server_count : ℕ) (reported : Table ℕ) (o n : Option ℕ) (kept : IfSome n (λ m. o ≡ Some m)) where
  abbrev whole : Logged → Table (Table ℕ) → Table Unit → ℕ → Type 0
  whole logged holders doubted = IsWholeAt config server_count logged holders reported doubted

  -- a record of the log
  pub appended_if : (holders : Table (Table ℕ)) (logged after : Logged) (doubted more : Table Unit) (entry : Record) → IfSome n (λ _. more ≡ with_granted doubted (granted_chunk entry))
      → after ≡ after_record logged entry → IfSome o (whole logged holders doubted) → IfSome n (whole after holders more)
  appended_if holders logged after doubted more entry doubts is h =
      after_change (whole logged holders doubted) (whole after holders more) (more ≡ with_granted doubted (granted_chunk entry)) o n kept doubts
      (λ m e was. subst (λ l. whole l holders more m) (sym is)
      (subst (λ d. whole (after_record logged entry) holders d m) (sym e) (whole_appended config server_count holders reported m logged doubted entry was))) h

  -- a version of one server more
  pub noted_if : (logged : Logged) (holders after : Table (Table ℕ)) (doubted more : Table Unit) (server handle version : ℕ) → IfSome n (λ _. more ≡ insert doubted handle tt)
      → after ≡ insert holders server (insert (unwrap_or (get holders server) empty) handle version) → IfSome o (whole logged holders doubted) → IfSome n (whole logged after more)
  noted_if logged holders after doubted more server handle version doubts is h =
      let held : Table ℕ = held_in (get holders server) in
      after_change (whole logged holders doubted) (whole logged after more) (more ≡ insert doubted handle tt) o n kept doubts
      (λ m e was. subst (λ x. whole logged x more m) (sym is)
      (subst (λ d. whole logged (insert holders server (insert held handle version)) d m) (sym e)
      (whole_held config server_count logged holders reported doubted m server (insert held handle version) (insert doubted handle tt) (as_noted doubted held handle version) was))) h

  -- other replicas of one server
  pub held_if : (logged : Logged) (holders after : Table (Table ℕ)) (doubted more : Table Unit) (server : ℕ) (old : Option (Table ℕ)) (held : Table ℕ) → old ≡ get holders server
      → IfSome n (λ _. AreDoubtedAsChanged doubted more (held_in old) held) → after ≡ insert holders server held → IfSome o (whole logged holders doubted) → IfSome n (whole logged after more)
  held_if logged holders after doubted more server old held known doubts is h =
      after_change (whole logged holders doubted) (whole logged after more) (AreDoubtedAsChanged doubted more (held_in old) held) o n kept doubts
      (λ m e was. subst (λ x. whole logged x more m) (sym is)
      (whole_held config server_count logged holders reported doubted m server held more
      (λ k none. ((e k none).0, subst (λ x. get held k ≡ get (held_in x) k) known (sym (e k none).1))) was)) h

module _ (config : Config) (server_count : ℕ) (holders : Table (Table ℕ)) (reported : Table ℕ) (doubted : Table Unit) (o : Option ℕ) (logged after : Logged) where
  abbrev whole_of : Logged → ℕ → Type 0
  whole_of l = IsWholeAt config server_count l holders reported doubted

  -- copies that are given up
  pub given_up_if : (handles : List ℕ) → after ≡ copies_given_up logged handles → IfSome o (whole_of logged) → IfSome o (whole_of after)
  given_up_if handles is =
      mapped_if (whole_of logged) (whole_of after) o
      (λ m was. subst (λ l. whole_of l m) (sym is) (whole_given_up config server_count holders reported m logged doubted handles was))

  -- the end of a lease
  pub ended_if : (handle moment : ℕ) → after ≡ record logged { table = set_end logged.table handle moment } → IfSome o (whole_of logged) → IfSome o (whole_of after)
  ended_if handle moment is =
      mapped_if (whole_of logged) (whole_of after) o
      (λ m was. subst (λ l. whole_of l m) (sym is) (whole_ended config server_count holders reported m logged doubted handle moment was))
