-- What goes in a step of the master stood so in the log before it.
use Rattle.std.proofs.Common.{◌≡◌, ◌⊎◌, ℕ, List, [], ◌∷◌, Option, Some, sym, ap, subst, ◌∙◌, inl, inr}
use Rattle.std.specs.Prelude.{unwrap_or}
use Rattle.std.specs.FinMap as table
use Rattle.log_records.specs.declared.record.Record.{Record}
use Rattle.log_records.specs.declared.record.Record.TheVariants as log
use Rattle.protocol.specs.Tables.{Table, element_at}
use Rattle.protocol.specs.Logged.{Logged, LogDisk, LogChange, AppendRecord, WriteCheckpoint, log_changed}
use Rattle.protocol.specs.MasterStep.{master_goes}
use Rattle.laws_base.proofs.Steps.{none_some, same_or_not, gone_there, gone_other}
use Rattle.laws_base.proofs.OrderNumbers.{state-appended}
use Rattle.laws_names.specs.NameTrails.{log_read}
use Rattle.protocol_invariant.specs.Actions.{Spot}
use Rattle.laws_machine.specs.ChunksAlike.{StandsAt}
use Rattle.laws_machine.specs.MasterSteps.{GoesAt}
use Rattle.laws_machine.specs.RecordDues.{AreLogDues}
use Rattle.laws_machine.specs.WholeSteps.{GoesAlong}
use Rattle.laws_machine.proofs.RecordDues.{steps_log_what_is_due}
use Rattle.laws_machine.proofs.WholeLogs.{states_have_their_logs_files}
use Rattle.laws_machine.proofs.WholeRestarts.{openings_expire_nothing}
use Rattle.headline.specs.GoneHandles.{IsLasting, AreLasting, IsExpiryRecord, ExpireFirst, StepsLetGoWhatStood, OpeningsLetNothingGo}
use Rattle.headline.proofs.PlainChanges.{expiries_come_first}

-- where a handle stands in these files
abbrev StandsIn : Table (List ℕ) → ℕ → Spot → Type 0
StandsIn files handle s = element_at (unwrap_or (table.get files s.file) []) s.index ≡ Some handle

-- where it stands after a file expired, it stood before
before_expired : (files : Table (List ℕ)) (file handle : ℕ) (s : Spot) → StandsIn (table.remove files file) handle s → StandsIn files handle s
before_expired files file handle s at =
    elim (same_or_not s.file file) [
      | inl same ↦ none_some handle (sym (ap (λ (o : Option (List ℕ)). element_at (unwrap_or o []) s.index) (gone_there files file s.file same)) ∙ at)
      | inr other ↦ sym (ap (λ (o : Option (List ℕ)). element_at (unwrap_or o []) s.index) (gone_other files file s.file other)) ∙ at
    ]

none_goes : (handle : ℕ) (s : Spot) (changes : List LogChange) (d : LogDisk) → AreLasting changes → GoesAlong d changes handle s → ⊥
none_goes handle s [] d lasting goes = goes
none_goes handle s (x ∷ rest) d lasting (inr later) = none_goes handle s rest (log_changed d x) lasting.1 later
none_goes handle s (WriteCheckpoint items ∷ rest) d lasting (inl now) = now
none_goes handle s (AppendRecord r ∷ rest) d lasting (inl now) = by_record r lasting.0 now
  where
    by_record : (q : Record) → IsLasting q → GoesAt (log_read d) q handle s → ⊥
    by_record (log.Expired file) is goes = is
    by_record other is goes = absurd goes

stood_before : (handle : ℕ) (s : Spot) (changes : List LogChange) (d : LogDisk) → ExpireFirst changes → AreLogDues d changes → GoesAlong d changes handle s → StandsAt (log_read d).table handle s
stood_before handle s [] d first dues goes = absurd goes
stood_before handle s (x ∷ rest) d (inr lasting) dues goes = absurd (none_goes handle s (x ∷ rest) d lasting goes)
stood_before handle s (WriteCheckpoint items ∷ rest) d (inl first) dues (inl now) = absurd now
stood_before handle s (WriteCheckpoint items ∷ rest) d (inl first) dues (inr later) =
    let there = stood_before handle s rest (log_changed d (WriteCheckpoint items)) first.1 dues.1 later in
    subst (λ (files : Table (List ℕ)). StandsIn files handle s) ((dues.0).0).lists there
stood_before handle s (AppendRecord r ∷ rest) d (inl first) dues goes = by_record r first.0 goes (λ later. stood_before handle s rest (log_changed d (AppendRecord r)) first.1 dues.1 later)
  where
    by_record : (q : Record) → IsExpiryRecord q → GoesAt (log_read d) q handle s ⊎ GoesAlong (log_changed d (AppendRecord q)) rest handle s
        → (GoesAlong (log_changed d (AppendRecord q)) rest handle s → StandsAt (log_read (log_changed d (AppendRecord q))).table handle s) → StandsAt (log_read d).table handle s
    by_record (log.Expired file) is (inl now) before = now
    by_record (log.Expired file) is (inr later) before =
        before_expired (log_read d).table.files file.0 handle s (subst (λ (l : Logged). StandsAt l.table handle s) (state-appended d (log.Expired file)) (before later))
    by_record other is goes before = absurd is

pub steps_let_go_what_stood : StepsLetGoWhatStood
steps_let_go_what_stood config servers clients w r clocks up moment i refused k j log gone handle s was =
    elim (gone handle s was) [
      | inl before ↦ inl before
      | inr goes ↦
          let changes : List LogChange = (master_goes w.master moment i refused).changes in
          let stood : StandsAt (log_read w.master.disk).table handle s =
          stood_before handle s changes w.master.disk (expiries_come_first w.master moment i refused) (steps_log_what_is_due config servers clients w r clocks up moment i refused) goes in
          let files = ((states_have_their_logs_files config servers clients w r).0 up).0.lists in
          inr (subst (λ (l : Logged). StandsAt l.table handle s) (sym log) (subst (λ (files : Table (List ℕ)). StandsIn files handle s) files stood))
    ]

pub openings_let_nothing_go : OpeningsLetNothingGo
openings_let_nothing_go m moment choice k j gone handle s was = elim (gone handle s was) [ inl before ↦ inl before | inr goes ↦ absurd (openings_expire_nothing m moment choice handle s goes) ]
