-- How a record gets into the log, by cases.
use Rattle.std.proofs.Common.{◌≡◌, Bool, true, false, cond, ◌&&◌, ◌||◌, List, [], ◌∷◌, ◌++◌, refl, sym, ap, ◌∙◌}
use Rattle.std.specs.Prelude.{not}
use Rattle.log_records.specs.declared.record.Record.{Record}
use Rattle.protocol.specs.LogSizes.{checkpoint_fits}
use Rattle.protocol.specs.Logged.{LogDisk, LogChange, AppendRecord, WriteCheckpoint, log_changed, log_changed_by_all, checkpoint_of}
use Rattle.protocol.specs.Master.{MasterDoing, appends, fits, is_of_copy, writes_checkpoint, logs}
use Rattle.master_plan.specs.Logging.{was_logged, tried}
use Rattle.master_plan.specs.Plans.{PlanState, doing, appended, with_checkpoint}

-- changes that are made one after another
pub changed_last : (d : LogDisk) (cs : List LogChange) (c : LogChange) → log_changed_by_all d (cs ++ c ∷ []) ≡ log_changed (log_changed_by_all d cs) c
changed_last d [] c = refl
changed_last d (x ∷ xs) c = changed_last (log_changed d x) xs c

pub logs_by : (d : MasterDoing) (r : Record) (then_ : MasterDoing → MasterDoing) → logs d r then_ ≡ cond (was_logged d r) (then_ (tried d r)) (tried d r)
logs_by d r then_ =
    by_room (fits d r) (checkpoint_fits d.master.config.log_bytes (checkpoint_of d.master.logged)) (fits (writes_checkpoint d) r) (is_of_copy d.master.logged r)
  where
    by_later : (later copied : Bool) → cond (later && not copied) (then_ (appends (writes_checkpoint d) r)) (writes_checkpoint d)
        ≡ cond (later && not copied) (then_ (cond (later && not copied) (appends (writes_checkpoint d) r) (writes_checkpoint d))) (cond (later && not copied) (appends (writes_checkpoint d) r) (writes_checkpoint d))
    by_later true true = refl
    by_later true false = refl
    by_later false true = refl
    by_later false false = refl

    by_room : (room checkpoint later copied : Bool)
        → cond room (then_ (appends d r)) (cond checkpoint (cond (later && not copied) (then_ (appends (writes_checkpoint d) r)) (writes_checkpoint d)) d)
        ≡ cond (room || checkpoint && (later && not copied)) (then_ (cond room (appends d r) (cond checkpoint (cond (later && not copied) (appends (writes_checkpoint d) r) (writes_checkpoint d)) d)))
        (cond room (appends d r) (cond checkpoint (cond (later && not copied) (appends (writes_checkpoint d) r) (writes_checkpoint d)) d))
    by_room true checkpoint later copied = refl
    by_room false true later copied = by_later later copied
    by_room false false later copied = refl

abbrev with_disk : MasterDoing → LogDisk → MasterDoing
with_disk d x = record d { master = record d.master { disk = x } }

pub appends_doing : (disk : LogDisk) (p : PlanState) (r : Record) → doing disk (appended p r) ≡ appends (doing disk p) r
appends_doing disk p r = ap (with_disk (doing disk (appended p r))) (changed_last disk p.changes (AppendRecord r))

pub checkpoint_doing : (disk : LogDisk) (p : PlanState) (items : List Record) → items ≡ checkpoint_of p.logged → doing disk (with_checkpoint p items) ≡ writes_checkpoint (doing disk p)
checkpoint_doing disk p items is =
    ap (λ (l : List Record). doing disk (with_checkpoint p l)) is
    ∙ ap (with_disk (doing disk (with_checkpoint p (checkpoint_of p.logged)))) (changed_last disk p.changes (WriteCheckpoint (checkpoint_of p.logged)))

-- how a record was tried: whether it got in, and what came of it
pub record IsTried (disk : LogDisk) (old : PlanState) (r : Record) (is_in : Bool) (new : PlanState) : Type 0 where
  pub logged : is_in ≡ was_logged (doing disk old) r
  pub goes : tried (doing disk old) r ≡ doing disk new

module _ (disk : LogDisk) (old : PlanState) (r : Record) where
  abbrev logged_by : Bool → Bool → Bool → Bool
  logged_by room checkpoint later = room || checkpoint && later

  abbrev tried_by : Bool → Bool → Bool → MasterDoing
  tried_by room checkpoint later = cond room (appends (doing disk old) r) (cond checkpoint (cond later (appends (writes_checkpoint (doing disk old)) r) (writes_checkpoint (doing disk old))) (doing disk old))

  by_tests : (room checkpoint later : Bool) → fits (doing disk old) r ≡ room → checkpoint_fits old.config.log_bytes (checkpoint_of old.logged) ≡ checkpoint
      → (fits (writes_checkpoint (doing disk old)) r && not (is_of_copy old.logged r)) ≡ later
      → (was_logged (doing disk old) r ≡ logged_by room checkpoint later) × (tried (doing disk old) r ≡ tried_by room checkpoint later)
  by_tests room checkpoint later a b e =
      let after : Bool = fits (writes_checkpoint (doing disk old)) r && not (is_of_copy old.logged r) in
      let fit : Bool = checkpoint_fits old.config.log_bytes (checkpoint_of old.logged) in (
        ap (λ (x : Bool). logged_by x fit after) a ∙ ap (λ (x : Bool). logged_by room x after) b ∙ ap (λ (x : Bool). logged_by room checkpoint x) e,
        ap (λ (x : Bool). tried_by x fit after) a ∙ ap (λ (x : Bool). tried_by room x after) b ∙ ap (λ (x : Bool). tried_by room checkpoint x) e,
      )

  pub fits_first : (new : PlanState) → fits (doing disk old) r ≡ true → new ≡ appended old r → IsTried disk old r true new
  fits_first new room is =
      let both = by_tests true _ _ room refl refl in
      record { logged = sym both.0; goes = both.1 ∙ sym (appends_doing disk old r) ∙ ap (doing disk) (sym is) }

  pub no_checkpoint : fits (doing disk old) r ≡ false → checkpoint_fits old.config.log_bytes (checkpoint_of old.logged) ≡ false → IsTried disk old r false old
  no_checkpoint room fit = let both = by_tests false false _ room fit refl in record { logged = sym both.0; goes = both.1 }

  module _ (items : List Record) (is : items ≡ checkpoint_of old.logged) (room : fits (doing disk old) r ≡ false) (fit : checkpoint_fits old.config.log_bytes items ≡ true) where
    there : checkpoint_fits old.config.log_bytes (checkpoint_of old.logged) ≡ true
    there = ap (checkpoint_fits old.config.log_bytes) (sym is) ∙ fit

    pub fits_never : (between : PlanState) → between ≡ with_checkpoint old items → (fits (doing disk between) r && not (is_of_copy old.logged r)) ≡ false → IsTried disk old r false between
    fits_never between at later =
        let same : doing disk between ≡ writes_checkpoint (doing disk old) = ap (doing disk) at ∙ checkpoint_doing disk old items is in
        let both = by_tests false true false room there (ap (λ (x : MasterDoing). fits x r && not (is_of_copy old.logged r)) (sym same) ∙ later) in
        record { logged = sym both.0; goes = both.1 ∙ sym same }

    pub fits_later : (between new : PlanState) → between ≡ with_checkpoint old items → (fits (doing disk between) r && not (is_of_copy old.logged r)) ≡ true → new ≡ appended between r → IsTried disk old r true new
    fits_later between new at later end =
        let same : doing disk between ≡ writes_checkpoint (doing disk old) = ap (doing disk) at ∙ checkpoint_doing disk old items is in
        let both = by_tests false true true room there (ap (λ (x : MasterDoing). fits x r && not (is_of_copy old.logged r)) (sym same) ∙ later) in
        record {
          logged = sym both.0;
          goes = both.1 ∙ ap (λ (x : MasterDoing). appends x r) (sym same) ∙ sym (appends_doing disk between r) ∙ ap (doing disk) (sym end);
        }
