-- A disk whose second gate is opened.
use Rattle.std.proofs.Common.{◌≡◌, ◌≢◌, ◌⊎◌, ℕ, ◌+◌, ◌<◌, ◌≤◌, Bool, true, false, ◌==◌, List, [], ◌∷◌, ◌++◌, length, get_or, take, drop, Option, Some, refl, sym, ap, subst, ◌∙◌, append_assoc, take-append-drop, arith, inl, inr}
use Rattle.std.specs.Prelude.{replicate, ◌||◌, IfOk, Result}
use Rattle.std.specs.List.{list_any}
use Rattle.std.proofs.lemmas.Bool.{cases_eq, eqb-true, ne_eqb}
use Rattle.std.proofs.lemmas.List.{drop_more, get_or-take, length-take-le}
use Rattle.std.proofs.lemmas.List.Folds.{list_any-append}
use Rattle.disk.specs.Bytes.{put_at, range_at}
use Rattle.disk.specs.Device.{ChangesOnly}
use Rattle.disk_redo.proofs.Ranges.{get_range, put_changes, range_inside, range_outside, range_put}
use Rattle.log_codec.specs.Payloads.{has_shape}
use Rattle.log_records.specs.declared.record.Record.{Record}
use Rattle.oplog.specs.Areas.{AreaSays, AreaState, end_of}
use Rattle.oplog.specs.Layout.{area_at, area_size}
use Rattle.oplog.specs.Disks.{area_of, front_of, head, is_formatted, newest, open_number, DiskSays, HasLog}
use Rattle.oplog.specs.Formats.{is_format_2, upgraded, HasLogOfFormat1, IsUpgrading}
use Rattle.oplog.specs.NewLogs.{IsLogOf}
use Rattle.oplog.specs.Opening.{area_found, IsFound, WalksThrough}
use Rattle.oplog.specs.declared.fault.LogFault.{LogFault}
use Rattle.oplog.specs.declared.found.FoundArea.{FoundArea}
use Rattle.oplog.proofs.Areas.{area_unique}
use Rattle.oplog.proofs.Disks.{area_lies, area_long, has_log}
use Rattle.oplog.proofs.NewestArea.{current_is, found_if, newest_two, only_area}

-- only the second gate has changed
pub changes : (d : List ℕ) → 6 ≤ length d → ChangesOnly 5 1 d (upgraded d)
changes d long = put_changes d (1 ∷ []) 5 long

-- with any byte in it, the disk is the same once it is open
pub same_upgraded : (d c : List ℕ) → ChangesOnly 5 1 d c → upgraded c ≡ upgraded d
same_upgraded d c is = ap (λ (l : List ℕ). l ++ 1 ∷ [] ++ drop 6 c) is.before ∙ ap (λ (l : List ℕ). take 5 d ++ 1 ∷ [] ++ l) is.after

-- of format 2 it is open
pub already : (c : List ℕ) → 6 ≤ length c → get_or c 5 0 ≡ 1 → upgraded c ≡ c
already c long opened =
    append_assoc (take 5 c) (1 ∷ []) (drop 6 c) ∙ ap (λ (g : ℕ). take 5 c ++ g ∷ drop 6 c) (sym opened)
    ∙ ap (λ (l : List ℕ). take 5 c ++ l) (sym (drop_more c 5 0 (omega (arith, long)))) ∙ take-append-drop 5 c

pub format_2_already : (c : List ℕ) → 6 ≤ length c → is_format_2 c ≡ true → upgraded c ≡ c
format_2_already c long is = already c long (eqb-true (get_or c 5 0) 1 is)

-- while the gate is written, the log stays
pub while_upgrading : (items records : List Record) (d c : List ℕ) → 6 ≤ length d → HasLogOfFormat1 items records d → ChangesOnly 5 1 d c → IsUpgrading d c
while_upgrading items records d c long was is =
    let same = same_upgraded d c is in
    record {
      items = items;
      records = records;
      was = was;
      is = elim (cases_eq (get_or c 5 0) 1) [
        | inl opened ↦ inl (subst (HasLog items records) (sym same ∙ already c (omega (arith, is.size, long)) opened) was.log)
        | inr shut ↦ inr (record { closed = ne_eqb (get_or c 5 0) 1 shut; log = subst (HasLog items records) (sym same) was.log; plain = was.plain })
      ];
    }

-- the areas are as they were
module _ (d : List ℕ) (large : 4096 ≤ length d) where
  changed : ChangesOnly 5 1 d (upgraded d)
  changed = changes d (omega (arith, large))

  pub same_size : length (upgraded d) ≡ length d
  same_size = changed.size

  same_front : (which : ℕ) → which < 2 → front_of (length d) which (upgraded d) ≡ front_of (length d) which d
  same_front which two = range_outside (area_at (length d) which) 9 5 1 d (upgraded d) changed (omega (arith, area_lies (length d) which large two, area_long (length d) large)) (inr (omega arith))

  same_area : (which : ℕ) → which < 2 → area_of (length d) which (upgraded d) ≡ area_of (length d) which d
  same_area which two = range_outside (area_at (length d) which) (area_size (length d)) 5 1 d (upgraded d) changed (area_lies (length d) which large two) (inr (omega arith))

  same_newest : newest (open_number (front_of (length d) 0 (upgraded d))) (open_number (front_of (length d) 1 (upgraded d)))
      ≡ newest (open_number (front_of (length d) 0 d)) (open_number (front_of (length d) 1 d))
  same_newest =
      ap (λ (l : List ℕ). newest (open_number l) (open_number (front_of (length d) 1 (upgraded d)))) (same_front 0 (omega arith))
      ∙ ap (λ (l : List ℕ). newest (open_number (front_of (length d) 0 d)) (open_number l)) (same_front 1 (omega arith))

  -- which is current
  pub upgraded_current : (which : ℕ) (area : AreaState) → DiskSays (length d) which area (upgraded d)
      → newest (open_number (front_of (length d) 0 d)) (open_number (front_of (length d) 1 d)) ≡ Some which
  upgraded_current which area says = sym same_newest ∙ current_is (length d) (upgraded d) large same_size which area says

  module _ (which : ℕ) (is : newest (open_number (front_of (length d) 0 d)) (open_number (front_of (length d) 1 d)) ≡ Some which) where
    two : which < 2
    two = newest_two (open_number (front_of (length d) 0 d)) (open_number (front_of (length d) 1 d)) which is

    -- what the current area says
    pub upgraded_area : (w : ℕ) (area : AreaState) → DiskSays (length d) w area (upgraded d) → AreaSays area (area_of (length d) which d)
    upgraded_area w area says = subst (AreaSays area) (same_area which two) (only_area (length d) (upgraded d) large same_size which w area says (same_newest ∙ is))

    -- what was read of it was found
    pub upgraded_found : (r : Result FoundArea LogFault) → take 16 (upgraded d) ≡ head ++ 1 ∷ [] → IfOk r (λ x. x.which ≡ which)
        → IfOk r (λ x. AreaSays (area_found x) (area_of (length d) which d)) → IfOk r (λ x. x.end ≡ end_of (area_found x))
        → IfOk r (λ x. WalksThrough (x.items ++ x.records) x.walk) → IfOk r (λ x. IsFound x (upgraded d))
    upgraded_found r headed at says ends through =
        let c = upgraded d in
        let newest_is : newest (open_number (front_of (length c) 0 c)) (open_number (front_of (length c) 1 c)) ≡ Some which =
        subst (λ (k : ℕ). newest (open_number (front_of k 0 c)) (open_number (front_of k 1 c)) ≡ Some which) (sym same_size) (same_newest ∙ is) in
        let same : area_of (length c) which c ≡ area_of (length d) which d = ap (λ (k : ℕ). area_of k which c) same_size ∙ same_area which two in
        found_if c which r (omega (arith, same_size, large)) newest_is headed at (subst (λ (b : List ℕ). IfOk r (λ x. AreaSays (area_found x) b)) (sym same) says) ends through

-- ---- which log stands behind an open head

pub log_of_format_2 : (items records : List Record) (d : List ℕ) → HasLog items records d → is_format_2 d ≡ true
log_of_format_2 items records d log = ap (λ (k : ℕ). k == 1) (sym (get_or-take 16 d 5 0 (omega arith)) ∙ ap (λ (l : List ℕ). get_or l 5 0) log.says.formatted)

pub second_read : (d : List ℕ) → is_format_2 (take 16 d) ≡ is_format_2 d
second_read d = ap (λ (k : ℕ). k == 1) (get_or-take 16 d 5 0 (omega arith))

both_ways : (b : Bool) → b ≡ true → b ≡ false → ⊥
both_ways b is not = let both : true ≡ false = sym is ∙ not in absurd cc

-- in format 2
pub opened_log : (items records : List Record) (d : List ℕ) → is_formatted d ≡ true → is_format_2 d ≡ true → IsLogOf items records d → HasLog items records d
opened_log items records d opened second (inl new) = absurd (both_ways (is_formatted d) opened new.closed)
opened_log items records d opened second (inr (inl log)) = log
opened_log items records d opened second (inr (inr log)) = absurd (both_ways (is_format_2 d) second log.closed)

-- in format 1
pub opened_old_log : (items records : List Record) (d : List ℕ) → is_formatted d ≡ true → is_format_2 d ≡ false → IsLogOf items records d → HasLogOfFormat1 items records d
opened_old_log items records d opened first (inl new) = absurd (both_ways (is_formatted d) opened new.closed)
opened_old_log items records d opened first (inr (inl log)) = absurd (both_ways (is_format_2 d) (log_of_format_2 items records d log) first)
opened_old_log items records d opened first (inr (inr log)) = log

-- the head of a log, with its second gate open
pub log_headed : (items records : List Record) (d : List ℕ) → 6 ≤ length d → is_formatted d ≡ true → IsLogOf items records d → take 16 (upgraded d) ≡ head ++ 1 ∷ []
log_headed items records d long opened (inl new) = absurd (both_ways (is_formatted d) opened new.closed)
log_headed items records d long opened (inr (inl log)) = ap (λ (l : List ℕ). take 16 l) (format_2_already d long (log_of_format_2 items records d log)) ∙ log.says.formatted
log_headed items records d long opened (inr (inr log)) = log.log.says.formatted

-- the head is read before its gate is opened
pub head_read : (d : List ℕ) → 16 ≤ length d → take 16 (upgraded d) ≡ upgraded (take 16 d)
head_read d long =
    let c = upgraded d in
    let changed = changes d (omega (arith, long)) in
    let opened : get_or c 5 0 ≡ 1 = sym (get_range c 5 1 0 (omega arith)) ∙ ap (λ (l : List ℕ). get_or l 0 0) (range_put d (1 ∷ []) 5 (omega (arith, long))) in
    let size : length (take 16 c) ≡ 16 = length-take-le 16 c (omega (arith, changed.size, long)) in
    sym (already (take 16 c) (omega (arith, size)) (get_or-take 16 c 5 0 (omega arith) ∙ opened))
    ∙ same_upgraded (take 16 d) (take 16 c) (range_inside 0 16 5 1 d c changed long (omega arith) (omega arith))

-- its bytes but for that gate
pub head_front : (b : List ℕ) → length b ≡ 16 → upgraded b ≡ head ++ 1 ∷ [] → take 5 b ≡ 71 ∷ 70 ∷ 83 ∷ 76 ∷ 1 ∷ []
head_front b long is = sym (changes b (omega (arith, long))).before ∙ ap (λ (l : List ℕ). take 5 l) is

pub head_rest : (b : List ℕ) → length b ≡ 16 → upgraded b ≡ head ++ 1 ∷ [] → drop 6 b ≡ replicate 9 0 ++ 1 ∷ []
head_rest b long is = sym (changes b (omega (arith, long))).after ∙ ap (λ (l : List ℕ). drop 6 l) is

pub head_is : (b : List ℕ) → take 5 b ≡ 71 ∷ 70 ∷ 83 ∷ 76 ∷ 1 ∷ [] → drop 6 b ≡ replicate 9 0 ++ 1 ∷ [] → upgraded b ≡ head ++ 1 ∷ []
head_is b front rest = ap (λ (l : List ℕ). l ++ 1 ∷ [] ++ drop 6 b) front ∙ ap (λ (l : List ℕ). 71 ∷ 70 ∷ 83 ∷ 76 ∷ 1 ∷ 1 ∷ l) rest

-- ---- what was found is the log

found_same : (d : List ℕ) (found : FoundArea) (items records : List Record) → 4096 ≤ length d → IsFound found d → (log : HasLog items records d)
    → area_found found ≡ record { number = log.number; items = items; records = records }
found_same d found items records large is log =
    let area : AreaState = record { number = log.number; items = items; records = records } in
    let newest = current_is (length d) d large refl found.which (area_found found) is.says in
    area_unique (area_found found) area (area_of (length d) found.which d) is.says.says (only_area (length d) d large refl found.which log.which area log.says newest)

-- so no item and no record of format 1 tells a shape
pub found_plain : (d : List ℕ) (found : FoundArea) (items records : List Record) → 4096 ≤ length d → IsFound found (upgraded d) → HasLogOfFormat1 items records d
    → list_any has_shape (found.items ++ found.records) ≡ false
found_plain d found items records large is was =
    let same = found_same (upgraded d) found items records (omega (arith, same_size d large, large)) is was.log in
    ap (λ (a : AreaState). list_any has_shape (a.items ++ a.records)) same ∙ was.plain

pub found_old_log : (d : List ℕ) (found : FoundArea) → is_format_2 d ≡ false → IsFound found (upgraded d)
    → list_any has_shape (found.items ++ found.records) ≡ false → HasLogOfFormat1 found.items found.records d
found_old_log d found shut is plain = record {
  closed = shut;
  log = has_log (length (upgraded d)) found.which (area_found found) (upgraded d) is.says;
  plain = plain;
}

pub any_of_both : (items records : List Record) → (list_any has_shape items || list_any has_shape records) ≡ list_any has_shape (items ++ records)
any_of_both items records = sym (list_any-append has_shape items records)
