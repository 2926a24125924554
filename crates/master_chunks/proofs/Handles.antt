-- A file's chunks by their number, and a chunk that is added, by whether its record got in.
use Rattle.std.proofs.Common.{◌≡◌, ℕ, suc, ◌-◌, ◌<◌, ◌≤◌, Bool, cond, ltb, List, [], ◌∷◌, zero, refl, length, get_or, Some, None, Option, arith, ap}
use Rattle.std.specs.Prelude.{unwrap_or}
use Rattle.log_records.specs.declared.record.Record.TheVariants as log
use Rattle.protocol.specs.Tables.{element_at}
use Rattle.protocol.specs.Sending.{file_id, handle_of}
use Rattle.protocol.specs.Master.{MasterDoing}
use Rattle.protocol.specs.MasterVersions.{Asker, tells_none}
use Rattle.protocol.specs.MasterAsks.{looks_at, mutates_at, adds_chunk, with_index, asks_to_append, asks_for_last}
use Rattle.master_plan.specs.Logging.{was_logged, tried}
use Rattle.master_plan.proofs.Logs.{logs_by}

pub no_handles : (o : Option (List ℕ)) → o ≡ None → unwrap_or o [] ≡ []
no_handles None e = refl
no_handles (Some hs) e = absurd cc

pub at_place : (hs : List ℕ) (n d : ℕ) → n < length hs → element_at hs n ≡ Some (get_or hs n d)
at_place [] n d h = absurd (omega arith)
at_place (x ∷ xs) zero d h = refl
at_place (x ∷ xs) (suc n) d h = at_place xs n d (omega arith)

pub past_all : (hs : List ℕ) (n : ℕ) → length hs ≤ n → element_at hs n ≡ None
past_all [] n h = refl
past_all (x ∷ xs) zero h = absurd (omega arith)
past_all (x ∷ xs) (suc n) h = past_all xs n (omega arith)

pub adds_by : (d : MasterDoing) (a : Asker) (lost : Bool)
    → adds_chunk d a lost
    ≡ cond (was_logged d (log.AddChunk (file_id a.file) (handle_of d.master.logged.next_handle)))
    (mutates_at (tried d (log.AddChunk (file_id a.file) (handle_of d.master.logged.next_handle))) a lost (Some d.master.logged.next_handle))
    (tried d (log.AddChunk (file_id a.file) (handle_of d.master.logged.next_handle)))
adds_by d a lost = logs_by d (log.AddChunk (file_id a.file) (handle_of d.master.logged.next_handle)) (λ e. mutates_at e a lost (Some d.master.logged.next_handle))

pub append_first : (d : MasterDoing) (a : Asker) (lost : Bool) (hs : List ℕ) (after count : ℕ) → count ≡ 0 → asks_to_append d a lost hs after count ≡ adds_chunk d (with_index a 0) lost
append_first d a lost hs after count e = ap (asks_to_append d a lost hs after) e

pub append_later : (d : MasterDoing) (a : Asker) (lost : Bool) (hs : List ℕ) (after count : ℕ) → (count ≡ 0 → ⊥)
    → asks_to_append d a lost hs after count ≡ cond (ltb (count - 1) after) (adds_chunk d (with_index a count) lost) (mutates_at d (with_index a (count - 1)) lost (element_at hs (count - 1)))
append_later d a lost hs after zero h = absurd (h refl)
append_later d a lost hs after (suc last) h =
    let e : suc last - 1 ≡ last = omega arith in
    rw e refl

pub last_of_none : (d : MasterDoing) (a : Asker) (hs : List ℕ) (count : ℕ) → count ≡ 0 → asks_for_last d a hs count ≡ tells_none d a
last_of_none d a hs count e = ap (asks_for_last d a hs) e

pub last_of_some : (d : MasterDoing) (a : Asker) (hs : List ℕ) (count : ℕ) → (count ≡ 0 → ⊥) → asks_for_last d a hs count ≡ looks_at d (with_index a (count - 1)) (element_at hs (count - 1))
last_of_some d a hs zero h = absurd (h refl)
last_of_some d a hs (suc last) h =
    let e : suc last - 1 ≡ last = omega arith in
    rw e refl
