-- A walk goes on, entry by entry.
use Rattle.std.proofs.Common.{◌≡◌, ◌≢◌, ℕ, ◌+◌, ◌-◌, ◌<◌, ◌≤◌, false, List, [], ◌∷◌, ◌++◌, length, drop, Option, None, Some, refl, sym, ap, subst, ◌∙◌, append_assoc, drop-drop, length-append, length-drop, arith}
use Rattle.std.specs.Prelude.{is_some, slice_get}
use Rattle.std.proofs.lemmas.List.{append-nil, drop_at}
use Rattle.std.specs.List.{AllByRecursion}
use Rattle.log_records.specs.declared.record.Record.{Record}
use Rattle.log_codec.specs.Fields.{number, index, IsNumber, IsIndex}
use Rattle.oplog.specs.Areas.{AreaSays, AreaState, area_bytes}
use Rattle.oplog.specs.Entries.{entries, entry, is_open, open_entries, IsEntry, IsLogged, HoldsRecords}
use Rattle.oplog.specs.Walks.{IsLeft, IsWalk, Steps}
use Rattle.oplog.specs.declared.walk.Walk.{Walk}
use Rattle.oplog.proofs.Areas.{parts_are}
use Rattle.oplog.proofs.Gates.{not_open}
use Rattle.oplog.proofs.Parsing.{entries_cons, entries_nil, entry_len, entry_unique, index_len, number_len, open_cons, open_nil, same_head}

-- ---- one entry is taken

behind_entry : (front after left : List ℕ) → left ≡ front ++ after → after ≡ drop (length left - length after) left
behind_entry front after left e =
    let n = length left - length after in
    let len : length front ≡ n = omega (arith, ap length e, length-append front after) in
    sym (ap (λ (l : List ℕ). drop n l) e ∙ drop_at front after n len)

-- what an item and the bytes after it are
pub record NextItem (items records : List Record) (left : List ℕ) (taken : ℕ) : Type 0 where
  pub item : Record
  pub items_left : List Record
  pub rest : List ℕ
  pub is : items ≡ item ∷ items_left
  pub parts : left ≡ entry item ++ (entries items_left ++ rest)
  pub until : taken ≡ length (entry item) + length (entries items_left)
  pub fits : IsEntry item
  pub each : AllByRecursion IsEntry items_left
  pub records_hold : HoldsRecords records rest

next_of : (items records : List Record) (left rest : List ℕ) (taken : ℕ) → 0 < taken → left ≡ entries items ++ rest → taken ≡ length (entries items) → AllByRecursion IsEntry items → HoldsRecords records rest → NextItem items records left taken
next_of [] records left rest taken some parts until each holds = absurd (omega (arith, some, until, ap length entries_nil))
next_of (i ∷ more) records left rest taken some parts until each holds = record {
  item = i;
  items_left = more;
  rest = rest;
  is = refl;
  parts = parts ∙ ap (λ (l : List ℕ). l ++ rest) (entries_cons i more) ∙ append_assoc (entry i) (entries more) rest;
  until = omega (arith, until, ap length (entries_cons i more), length-append (entry i) (entries more));
  fits = each.0;
  each = each.1;
  records_hold = holds;
}

pub next_item : (items records : List Record) (left : List ℕ) (taken : ℕ) → 0 < taken → IsLeft items records left taken → NextItem items records left taken
next_item items records left taken some is = next_of items records left is.rest taken some is.parts is.until is.each is.hold

pub item_steps : (items records : List Record) (left : List ℕ) (taken : ℕ) (r : Record) (after : List ℕ) → 0 < taken → IsEntry r × (left ≡ entry r ++ after) → IsLeft items records left taken → Steps items records left taken r after
item_steps items records left taken r after some found is =
    let next = next_item items records left taken some is in
    let one = entry_unique next.item r (entries next.items_left ++ next.rest) after next.fits found.0 (sym next.parts ∙ found.1) in
    let len : length (entry next.item) ≡ length (entry r) = ap (λ (x : Record). length (entry x)) one.0 in
    record {
      items_left = next.items_left;
      records_left = records;
      is = ap (λ (l : List Record). l ++ records) next.is ∙ ap (λ (x : Record). x ∷ (next.items_left ++ records)) one.0;
      shorter = omega (arith, ap length found.1, length-append (entry r) after, entry_len r);
      behind = behind_entry (entry r) after left found.1;
      goes_on = record {
        rest = next.rest;
        parts = sym one.1;
        until = omega (arith, next.until, len, ap length found.1, length-append (entry r) after);
        each = next.each;
        hold = next.records_hold;
      };
    }

-- no item is left
none_taken : (items : List Record) → length (entries items) ≡ 0 → items ≡ []
none_taken [] none = refl
none_taken (i ∷ more) none = absurd (omega (arith, none, ap length (entries_cons i more), length-append (entry i) (entries more), entry_len i))

-- records alone are left
record OnlyRecords (items records : List Record) (left : List ℕ) : Type 0 where
  no_items : items ≡ []
  records_hold : HoldsRecords records left

only_records : (items records : List Record) (left : List ℕ) (taken : ℕ) → taken ≤ 0 → IsLeft items records left taken → OnlyRecords items records left
only_records items records left taken none is =
    let no_items = none_taken items (omega (arith, none, is.until)) in
    let same : left ≡ is.rest = is.parts ∙ ap (λ (l : List Record). entries l ++ is.rest) no_items ∙ ap (λ (l : List ℕ). l ++ is.rest) entries_nil in
    record { no_items = no_items; records_hold = subst (HoldsRecords records) (sym same) is.hold }

pub record NextRecord (records : List Record) (opened : List ℕ) : Type 0 where
  pub entry_is : Record
  pub records_left : List Record
  pub behind : List ℕ
  pub is : records ≡ entry_is ∷ records_left
  pub parts : opened ≡ entry entry_is ++ behind
  pub fits : IsEntry entry_is
  pub records_hold : HoldsRecords records_left behind

record_of : (records : List Record) (gate : ℕ) (rest opened : List ℕ) → gate ≢ 1 → 1 ∷ opened ≡ open_entries records ++ gate ∷ rest → AllByRecursion IsLogged records → NextRecord records opened
record_of [] gate rest opened shut e each = absurd (shut (sym (same_head 1 gate opened rest (e ∙ ap (λ (l : List ℕ). l ++ gate ∷ rest) open_nil)).0))
record_of (q ∷ more) gate rest opened shut e each = record {
  entry_is = q;
  records_left = more;
  behind = open_entries more ++ gate ∷ rest;
  is = refl;
  parts = (same_head 1 1 opened (entry q ++ (open_entries more ++ gate ∷ rest)) (e ∙ open_cons q more (gate ∷ rest))).1;
  fits = each.0.0;
  records_hold = record { gate = gate; rest = rest; parts = refl; closed = shut; each = each.1 };
}

pub next_record : (items records : List Record) (left opened : List ℕ) (taken : ℕ) → taken ≤ 0 → left ≡ 1 ∷ opened → IsLeft items records left taken → NextRecord records opened
next_record items records left opened taken none begins is =
    let only = only_records items records left taken none is in
    let holds = only.records_hold in
    record_of records holds.gate holds.rest opened holds.closed (sym begins ∙ holds.parts) holds.each

nothing_before : (left : List ℕ) → left ≡ entries [] ++ left
unfolding entries
nothing_before left = refl

pub record_steps : (items records : List Record) (left opened : List ℕ) (taken : ℕ) (r : Record) (after : List ℕ) → taken ≤ 0 → left ≡ 1 ∷ opened → IsEntry r × (opened ≡ entry r ++ after) → IsLeft items records left taken → Steps items records left taken r after
record_steps items records left opened taken r after none begins found is =
    let only = only_records items records left taken none is in
    let next = next_record items records left opened taken none begins is in
    let one = entry_unique next.entry_is r next.behind after next.fits found.0 (sym next.parts ∙ found.1) in
    let whole : left ≡ (1 ∷ entry r) ++ after = begins ∙ ap (λ (l : List ℕ). 1 ∷ l) found.1 in
    record {
      items_left = [];
      records_left = next.records_left;
      is = ap (λ (l : List Record). l ++ records) only.no_items ∙ next.is ∙ ap (λ (x : Record). x ∷ next.records_left) one.0;
      shorter = omega (arith, ap length whole, length-append (entry r) after, entry_len r);
      behind = behind_entry (1 ∷ entry r) after left whole;
      goes_on = record {
        rest = after;
        parts = nothing_before after;
        until = omega (arith, none, ap length entries_nil);
        each = tt;
        hold = subst (HoldsRecords next.records_left) one.1 next.records_hold;
      };
    }

closed_records : (records : List Record) (gate : ℕ) (rest left : List ℕ) → left ≡ open_entries records ++ gate ∷ rest → is_open left ≡ false → records ≡ []
closed_records [] gate rest left e shut = refl
closed_records (q ∷ more) gate rest left e shut = absurd (not_open left (entry q ++ (open_entries more ++ gate ∷ rest)) shut (e ∙ open_cons q more (gate ∷ rest)))

-- a closed gate comes: nothing is left
pub nothing_left : (items records : List Record) (left : List ℕ) (taken : ℕ) → taken ≤ 0 → is_open left ≡ false → IsLeft items records left taken → items ++ records ≡ []
nothing_left items records left taken none shut is =
    let only = only_records items records left taken none is in
    let holds = only.records_hold in
    ap (λ (l : List Record). l ++ records) only.no_items ∙ closed_records records holds.gate holds.rest left holds.parts shut

-- ---- the walk

pub no_entry : {X : Type 0} (o : Option X) → ((x : X) → o ≡ Some x → ⊥) → is_some o ≡ false
no_entry None none = refl
no_entry (Some x) none = absurd (none x refl)

got : (done : List Record) (r : Record) (more : List Record) → slice_get (done ++ r ∷ more) (length done) ≡ Some r
got [] r more = refl
got (d ∷ done) r more = got done r more

got_none : (done : List Record) → slice_get done (length done) ≡ None
got_none [] = refl
got_none (d ∷ done) = got_none done

-- what is left behind the entries that it has passed
pub left_of : (all : List Record) (walk : Walk) (is : IsWalk all walk) (left : List ℕ) (taken : ℕ) → left ≡ drop walk.at walk.bytes.items → taken ≡ walk.items_end - walk.at → IsLeft is.items is.records left taken
left_of all walk is left taken left_is taken_is =
    subst (λ (l : List ℕ). IsLeft is.items is.records l taken) (sym left_is) (subst (λ (k : ℕ). IsLeft is.items is.records (drop walk.at walk.bytes.items) k) (sym taken_is) is.left)

-- the entry at its place
pub entry_there : (all : List Record) (walk : Walk) (is : IsWalk all walk) (left after : List ℕ) (taken : ℕ) (r : Record) → Steps is.items is.records left taken r after → Some r ≡ slice_get all walk.place
entry_there all walk is left after taken r steps =
    sym (ap (λ (n : ℕ). slice_get all n) is.place ∙ ap (λ (l : List Record). slice_get l (length is.done)) (is.is ∙ ap (λ (l : List Record). is.done ++ l) steps.is) ∙ got is.done r (steps.items_left ++ steps.records_left))

pub nothing_there : (all : List Record) (walk : Walk) (is : IsWalk all walk) → is.items ++ is.records ≡ [] → None ≡ slice_get all walk.place
nothing_there all walk is none =
    sym (ap (λ (n : ℕ). slice_get all n) is.place ∙ ap (λ (l : List Record). slice_get l (length is.done)) (is.is ∙ ap (λ (l : List Record). is.done ++ l) none ∙ append-nil is.done) ∙ got_none is.done)

-- where something is left, the place is before the end
pub not_behind : (all : List Record) (walk : Walk) (is : IsWalk all walk) → is.items ++ is.records ≡ [] → walk.place < length all → ⊥
not_behind all walk is none less =
    omega (arith, less, is.place, ap length is.is, length-append is.done (is.items ++ is.records), ap length none)

-- the walk has passed it
pub stepped : (all : List Record) (walk : Walk) (is : IsWalk all walk) (left after : List ℕ) (taken : ℕ) (r : Record) (at place : ℕ) → left ≡ drop walk.at walk.bytes.items → taken ≡ walk.items_end - walk.at → Steps is.items is.records left taken r after
    → at ≡ length walk.bytes.items - length after → place ≡ walk.place + 1 → IsWalk all (record walk { at = at; place = place })
stepped all walk is left after taken r at place left_is taken_is steps at_is place_is =
    let n = length left - length after in
    let len : length left ≡ length walk.bytes.items - walk.at = ap length left_is ∙ length-drop walk.at walk.bytes.items in
    let inside = is.inside in
    let shorter = steps.shorter in
    let moved : at ≡ walk.at + n = omega (arith, at_is, len, inside, shorter) in
    let behind : after ≡ drop at walk.bytes.items =
    steps.behind ∙ ap (λ (l : List ℕ). drop n l) left_is ∙ drop-drop n walk.at walk.bytes.items ∙ ap (λ (k : ℕ). drop k walk.bytes.items) (sym moved) in
    let less : taken - n ≡ walk.items_end - at = omega (arith, taken_is, moved) in
    record {
      done = is.done ++ r ∷ [];
      items = steps.items_left;
      records = steps.records_left;
      is = is.is ∙ ap (λ (l : List Record). is.done ++ l) steps.is ∙ sym (append_assoc is.done (r ∷ []) (steps.items_left ++ steps.records_left));
      place = omega (arith, place_is, is.place, length-append is.done (r ∷ []));
      passed = omega (arith, is.passed, moved, shorter, length-append is.done (r ∷ []));
      inside = omega (arith, at_is);
      left = subst (λ (k : ℕ). IsLeft steps.items_left steps.records_left (drop at walk.bytes.items) k) less (subst (λ (l : List ℕ). IsLeft steps.items_left steps.records_left l (taken - n)) behind steps.goes_on);
    }

-- ---- it begins

drop_head : (n : ℕ) (checkpoint rest : List ℕ) → drop 13 (area_bytes n checkpoint rest) ≡ checkpoint ++ rest
drop_head n checkpoint rest =
    let front = 1 ∷ (number n ++ index (length checkpoint)) in
    let whole : area_bytes n checkpoint rest ≡ front ++ (checkpoint ++ rest) = ap (λ (l : List ℕ). 1 ∷ l) (sym (append_assoc (number n) (index (length checkpoint)) (checkpoint ++ rest))) in
    ap (λ (l : List ℕ). drop 13 l) whole ∙ drop_at front (checkpoint ++ rest) 13 (omega (arith, length-append (number n) (index (length checkpoint)), number_len n, index_len (length checkpoint)))

pub begun : (walk : Walk) (area : AreaState) (n : ℕ) (checkpoint rest : List ℕ) → IsNumber n → IsIndex (length checkpoint) → walk.bytes.items ≡ area_bytes n checkpoint rest → AreaSays area walk.bytes.items
    → walk.at ≡ 13 → walk.items_end ≡ 13 + length checkpoint → walk.place ≡ 0 → IsWalk (area.items ++ area.records) walk
begun walk area n checkpoint rest fits short e says at_is end_is place_is =
    let same = parts_are n checkpoint rest walk.bytes.items area fits short e says in
    let parts : drop walk.at walk.bytes.items ≡ entries area.items ++ says.rest =
    ap (λ (k : ℕ). drop k walk.bytes.items) at_is ∙ ap (λ (l : List ℕ). drop 13 l) e ∙ drop_head n checkpoint rest ∙ ap (λ (l : List ℕ). l ++ rest) same.checkpoint ∙ ap (λ (l : List ℕ). entries area.items ++ l) same.rest in
    record {
      done = [];
      items = area.items;
      records = area.records;
      is = refl;
      place = place_is;
      passed = omega (arith, at_is);
      inside = omega (
        arith,
        at_is,
        ap length e,
        length-append (number n) (index (length checkpoint) ++ (checkpoint ++ rest)),
        length-append (index (length checkpoint)) (checkpoint ++ rest),
        number_len n,
        index_len (length checkpoint),
      );
      left = record {
        rest = says.rest;
        parts = parts;
        until = omega (arith, at_is, end_is, ap length same.checkpoint);
        each = says.each;
        hold = says.records;
      };
    }
