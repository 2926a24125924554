-- What an area says after a change behind its last record.
use Rattle.std.proofs.Common.{◌≡◌, ◌≢◌, ◌⊎◌, ℕ, ◌+◌, ◌-◌, ◌<◌, ◌≤◌, Bool, false, List, [], ◌∷◌, ◌++◌, length, get_or, take, drop, refl, sym, ap, subst, ◌∙◌, append_assoc, length-append, length-drop, take-append-drop, arith, inl, inr}
use Rattle.std.proofs.lemmas.Bool.{cases_eq}
use Rattle.std.proofs.lemmas.List.{length-take-le, take_at, drop_at, drop_more, append-nil}
use Rattle.std.specs.List.{AllByRecursion}
use Rattle.disk.specs.Bytes.{put_at, range_at}
use Rattle.disk.specs.Device.{ChangesOnly}
use Rattle.log_records.specs.declared.record.Record.{Record}
use Rattle.log_codec.specs.Fields.{number, index}
use Rattle.oplog.specs.Entries.{entry, entries, open_entries, IsEntry, IsLogged, HoldsRecords}
use Rattle.oplog.specs.Areas.{AreaState, AreaSays, area_bytes, end_of}
use Rattle.oplog.proofs.Parsing.{all_push, records_push, number_len, index_len, opened_more}
use Rattle.oplog.specs.Changes.{appended}
use Rattle.disk_redo.proofs.Ranges.{three_parts}

-- an open area up to the gate after its last record
abbrev pub front_of : AreaState → List ℕ
front_of area = area_bytes area.number (entries area.items) (open_entries area.records)

pub front_len : (area : AreaState) → length (front_of area) ≡ end_of area
front_len area =
    let cp = entries area.items in
    let opened = open_entries area.records in
    omega (
      arith,
      length-append (number area.number) (index (length cp) ++ (cp ++ opened)),
      length-append (index (length cp)) (cp ++ opened),
      length-append cp opened,
      number_len area.number,
      index_len (length cp),
    )

regrouped : (area : AreaState) (rest : List ℕ) → front_of area ++ rest ≡ area_bytes area.number (entries area.items) (open_entries area.records ++ rest)
regrouped area rest =
    let cp = entries area.items in
    let opened = open_entries area.records in
    ap (λ (l : List ℕ). 1 ∷ l) (append_assoc (number area.number) (index (length cp) ++ (cp ++ opened)) rest
    ∙ ap (λ (l : List ℕ). number area.number ++ l) (append_assoc (index (length cp)) (cp ++ opened) rest ∙ ap (λ (l : List ℕ). index (length cp) ++ l) (append_assoc cp opened rest)))

pub parts_of : (area : AreaState) (b : List ℕ) (says : AreaSays area b) → b ≡ front_of area ++ says.records.gate ∷ says.records.rest
parts_of area b says =
    says.parts ∙ ap (λ (l : List ℕ). area_bytes area.number (entries area.items) l) says.records.parts ∙ sym (regrouped area (says.records.gate ∷ says.records.rest))

-- the same with something else behind the gate
pub says_again : (area : AreaState) (b c : List ℕ) (gate : ℕ) (rest : List ℕ) → AreaSays area b → c ≡ front_of area ++ gate ∷ rest → gate ≢ 1 → AreaSays area c
says_again area b c gate rest says e shut = record {
  rest = open_entries area.records ++ gate ∷ rest;
  parts = e ∙ regrouped area (gate ∷ rest);
  number_fits = says.number_fits;
  length_fits = says.length_fits;
  each = says.each;
  order = says.order;
  records = record { gate = gate; rest = rest; parts = refl; closed = shut; each = says.records.each };
}

-- with one record more behind an open gate
pub says_more : (area : AreaState) (r : Record) (b c : List ℕ) (gate : ℕ) (rest : List ℕ) → AreaSays area b → IsLogged r → c ≡ front_of area ++ 1 ∷ (entry r ++ gate ∷ rest) → gate ≢ 1 → AreaSays (appended area r) c
says_more area r b c gate rest says logged e shut = record {
  rest = open_entries (area.records ++ r ∷ []) ++ gate ∷ rest;
  parts = e ∙ regrouped area (1 ∷ (entry r ++ gate ∷ rest)) ∙ ap (λ (l : List ℕ). area_bytes area.number (entries area.items) l) (records_push area.records r (gate ∷ rest));
  number_fits = says.number_fits;
  length_fits = says.length_fits;
  each = says.each;
  order = says.order;
  records = record { gate = gate; rest = rest; parts = refl; closed = shut; each = all_push IsLogged area.records r says.records.each logged };
}

-- bytes behind the closed gate change
pub torn_behind : (area : AreaState) (b c : List ℕ) (n : ℕ) → AreaSays area b → ChangesOnly (end_of area + 1) n b c → AreaSays area c
torn_behind area b c n says is =
    let gate = says.records.gate in
    let front = front_of area ++ gate ∷ [] in
    let size : length front ≡ end_of area + 1 = length-append (front_of area) (gate ∷ []) ∙ ap (λ (k : ℕ). k + 1) (front_len area) in
    let b_is : b ≡ front ++ says.records.rest = parts_of area b says ∙ sym (append_assoc (front_of area) (gate ∷ []) says.records.rest) in
    let kept : take (end_of area + 1) c ≡ front = is.before ∙ ap (λ (l : List ℕ). take (end_of area + 1) l) b_is ∙ take_at front says.records.rest (end_of area + 1) size in
    let c_is : c ≡ front_of area ++ gate ∷ drop (end_of area + 1) c =
    sym (take-append-drop (end_of area + 1) c) ∙ ap (λ (l : List ℕ). l ++ drop (end_of area + 1) c) kept ∙ append_assoc (front_of area) (gate ∷ []) (drop (end_of area + 1) c) in
    says_again area b c gate (drop (end_of area + 1) c) says c_is says.records.closed

-- the bytes of a record behind the gate, and a closed gate after them
pub record Staged (area : AreaState) (r : Record) (b : List ℕ) : Type 0 where
  pub gate : ℕ
  pub rest : List ℕ
  pub parts : b ≡ front_of area ++ gate ∷ (entry r ++ 0 ∷ rest)

pub staged : (area : AreaState) (r : Record) (b c : List ℕ) → AreaSays area b → ChangesOnly (end_of area + 1) (length (entry r ++ 0 ∷ [])) b c
    → range_at c (end_of area + 1) (length (entry r ++ 0 ∷ [])) ≡ entry r ++ 0 ∷ [] → Staged area r c
staged area r b c says is written =
    let gate = says.records.gate in
    let e = end_of area + 1 in
    let n = length (entry r ++ 0 ∷ []) in
    let front = front_of area ++ gate ∷ [] in
    let size : length front ≡ e = length-append (front_of area) (gate ∷ []) ∙ ap (λ (k : ℕ). k + 1) (front_len area) in
    let b_is : b ≡ front ++ says.records.rest = parts_of area b says ∙ sym (append_assoc (front_of area) (gate ∷ []) says.records.rest) in
    let kept : take e c ≡ front = is.before ∙ ap (λ (l : List ℕ). take e l) b_is ∙ take_at front says.records.rest e size in
    record {
      gate = gate;
      rest = drop (e + n) c;
      parts =
          three_parts c e n ∙ ap (λ (l : List ℕ). l ++ (range_at c e n ++ drop (e + n) c)) kept ∙ ap (λ (l : List ℕ). front ++ (l ++ drop (e + n) c)) written
          ∙ append_assoc (front_of area) (gate ∷ []) ((entry r ++ 0 ∷ []) ++ drop (e + n) c)
          ∙ ap (λ (l : List ℕ). front_of area ++ gate ∷ l) (append_assoc (entry r) (0 ∷ []) (drop (e + n) c));
    }

-- any byte at that gate
pub at_gate : (area : AreaState) (r : Record) (b c : List ℕ) (is_staged : Staged area r b) → ChangesOnly (end_of area) 1 b c → c ≡ front_of area ++ get_or c (end_of area) 0 ∷ (entry r ++ 0 ∷ is_staged.rest)
at_gate area r b c is_staged is =
    let e = end_of area in
    let behind = entry r ++ 0 ∷ is_staged.rest in
    let size = front_len area in
    let front : take e c ≡ front_of area = is.before ∙ ap (λ (l : List ℕ). take e l) is_staged.parts ∙ take_at (front_of area) (is_staged.gate ∷ behind) e size in
    let after : drop (e + 1) c ≡ behind =
    is.after ∙ ap (λ (l : List ℕ). drop (e + 1) l) (is_staged.parts ∙ sym (append_assoc (front_of area) (is_staged.gate ∷ []) behind))
    ∙ drop_at (front_of area ++ is_staged.gate ∷ []) behind (e + 1) (length-append (front_of area) (is_staged.gate ∷ []) ∙ ap (λ (k : ℕ). k + 1) size) in
    let long : e < length c = omega (arith, is.size, ap length is_staged.parts, length-append (front_of area) (is_staged.gate ∷ behind), size) in
    sym (take-append-drop e c) ∙ ap (λ (l : List ℕ). l ++ drop e c) front ∙ ap (λ (l : List ℕ). front_of area ++ l) (drop_more c e 0 long ∙ ap (λ (l : List ℕ). get_or c e 0 ∷ l) after)

-- then the area has the record, or it hasn't
pub torn_gate : (area : AreaState) (r : Record) (a b c : List ℕ) → AreaSays area a → IsLogged r → Staged area r b → ChangesOnly (end_of area) 1 b c → AreaSays area c ⊎ AreaSays (appended area r) c
torn_gate area r a b c says logged is_staged is =
    let e = at_gate area r b c is_staged is in
    elim (cases_eq (get_or c (end_of area) 0) 1) [
      | inl opened ↦ inr (says_more area r a c 0 is_staged.rest says logged (e ∙ ap (λ (g : ℕ). front_of area ++ g ∷ (entry r ++ 0 ∷ is_staged.rest)) opened) (omega arith))
      | inr shut ↦ inl (says_again area a c (get_or c (end_of area) 0) (entry r ++ 0 ∷ is_staged.rest) says e shut)
    ]

-- an open gate
pub opened_gate : (area : AreaState) (r : Record) (a b c : List ℕ) → AreaSays area a → IsLogged r → Staged area r b → ChangesOnly (end_of area) 1 b c → range_at c (end_of area) 1 ≡ 1 ∷ [] → AreaSays (appended area r) c
opened_gate area r a b c says logged is_staged is one =
    let e = at_gate area r b c is_staged is in
    let long : end_of area < length c = omega (arith, is.size, ap length is_staged.parts, length-append (front_of area) (is_staged.gate ∷ (entry r ++ 0 ∷ is_staged.rest)), front_len area) in
    let first : get_or c (end_of area) 0 ≡ 1 = sym (ap (λ (l : List ℕ). get_or (take 1 l) 0 0) (drop_more c (end_of area) 0 long)) ∙ ap (λ (l : List ℕ). get_or l 0 0) one in
    says_more area r a c 0 is_staged.rest says logged (e ∙ ap (λ (g : ℕ). front_of area ++ g ∷ (entry r ++ 0 ∷ is_staged.rest)) first) (omega arith)

pub end_more : (area : AreaState) (r : Record) → end_of (appended area r) ≡ end_of area + length (entry r ++ 0 ∷ [])
end_more area r = omega (arith, opened_more area.records r, length-append (entry r) (0 ∷ []))
