-- Formatting a disk.
use Rattle.std.proofs.Common.{◌≡◌, ◌≢◌, ◌⊎◌, ℕ, ◌+◌, ◌-◌, ◌<◌, ◌≤◌, Bool, true, false, ◌==◌, List, [], ◌∷◌, ◌++◌, length, get_or, take, drop, refl, sym, ap, subst, ◌∙◌, append_assoc, take-append-drop, arith, inl, inr}
use Rattle.std.proofs.lemmas.Bool.{cases_eq, le-leb, ne_eqb}
use Rattle.std.proofs.lemmas.List.{take_at, take_more}
use Rattle.disk.specs.Bytes.{put_at, range_at}
use Rattle.disk.specs.Device.{ChangesOnly, Elapses, Follows, NoMore, Only}
use Rattle.disk_redo.specs.GateMoments.{LeavesOnly}
use Rattle.disk_redo.proofs.Moments.{goes_on, started}
use Rattle.disk_redo.specs.Gates.{committed, IsCommitting}
use Rattle.disk_redo.proofs.Ranges.{get_range, put_changes, range_outside, range_put, same_after, same_before, three_parts}
use Rattle.oplog.specs.Areas.{AreaSays}
use Rattle.oplog.specs.Entries.{entries}
use Rattle.oplog.specs.Layout.{area_at, area_size, checkpoint_fits}
use Rattle.log_codec.specs.Fields.{IsIndex}
use Rattle.oplog.specs.Disks.{area_of, front_of, head, is_formatted, DiskSays, IsOlder}
use Rattle.oplog.proofs.Disks.{area_long, areas_fit, has_log}
use Rattle.oplog.specs.Writing.{area_with, is_area_open}
use Rattle.oplog.proofs.Current.{older_than_all}
use Rattle.oplog.specs.NewLogs.{IsLogOf}

-- a change behind the head leaves its gate as it was
pub gate_kept : (at n : ℕ) (d c : List ℕ) → 16 ≤ at → ChangesOnly at n d c → is_formatted d ≡ false → is_formatted c ≡ false
gate_kept at n d c behind is new = ap (λ (k : ℕ). k == 1) (same_before at n d c is 15 (omega (arith, behind))) ∙ new

-- a closed gate stays closed through a change elsewhere
pub closed_still : (gate at n : ℕ) (d c : List ℕ) → (gate < at) ⊎ (at + n ≤ gate) → ChangesOnly at n d c → get_or d gate 0 == 1 ≡ false → get_or c gate 0 == 1 ≡ false
closed_still gate at n d c (inl low) is shut = ap (λ (k : ℕ). k == 1) (same_before at n d c is gate low) ∙ shut
closed_still gate at n d c (inr high) is shut = ap (λ (k : ℕ). k == 1) (same_after at n d c is gate high) ∙ shut

pub new_log : (c : List ℕ) → is_formatted c ≡ false → IsLogOf [] [] c
new_log c new = inl (record { closed = new; no_items = refl; no_records = refl })

-- a closed gate that was just written
pub put_closed : (d : List ℕ) (gate : ℕ) → gate < length d → get_or (put_at d gate (0 ∷ [])) gate 0 == 1 ≡ false
put_closed d gate room =
    let c = put_at d gate (0 ∷ []) in
    let at : gate + 0 ≡ gate = omega arith in
    let zero_there : get_or c gate 0 ≡ 0 = ap (λ (k : ℕ). get_or c k 0) (sym at) ∙ sym (get_range c gate 1 0 (omega arith)) ∙ ap (λ (l : List ℕ). get_or l 0 0) (range_put d (0 ∷ []) gate (omega (arith, room))) in
    ap (λ (k : ℕ). k == 1) zero_there

pub record BothClosed (size : ℕ) (disk : List ℕ) : Type 0 where
  pub sized : length disk ≡ size
  pub new : is_formatted disk ≡ false
  pub first : is_area_open size 0 disk ≡ false
  pub second : is_area_open size 1 disk ≡ false

-- the two areas' gates are closed, one after the other
pub both_closed : (size p q : ℕ) (d e f : List ℕ) → 4096 ≤ size → length d ≡ size → is_formatted d ≡ false → p ≡ area_at size 0 → q ≡ area_at size 1 → e ≡ put_at d p (0 ∷ []) → f ≡ put_at e q (0 ∷ []) → BothClosed size f
both_closed size p q d e f large sized new p_is q_is e_is f_is =
    let fit = areas_fit size large in
    let long = area_long size large in
    let first : ChangesOnly p 1 d e = subst (ChangesOnly p 1 d) (sym e_is) (put_changes d (0 ∷ []) p (omega (arith, p_is, sized, fit, long))) in
    let e_size : length e ≡ size = first.size ∙ sized in
    let second : ChangesOnly q 1 e f = subst (ChangesOnly q 1 e) (sym f_is) (put_changes e (0 ∷ []) q (omega (arith, q_is, e_size, fit, long))) in
    let p_shut : get_or e p 0 == 1 ≡ false = subst (λ (l : List ℕ). get_or l p 0 == 1 ≡ false) (sym e_is) (put_closed d p (omega (arith, p_is, sized, fit, long))) in
    let q_shut : get_or f q 0 == 1 ≡ false = subst (λ (l : List ℕ). get_or l q 0 == 1 ≡ false) (sym f_is) (put_closed e q (omega (arith, q_is, e_size, fit, long))) in
    record {
      sized = second.size ∙ e_size;
      new = gate_kept q 1 e f (omega (arith, q_is)) second (gate_kept p 1 d e (omega (arith, p_is)) first new);
      first = subst (λ (k : ℕ). get_or f k 0 == 1 ≡ false) p_is (closed_still p q 1 e f (inl (omega (arith, p_is, q_is, long))) second p_shut);
      second = subst (λ (k : ℕ). get_or f k 0 == 1 ≡ false) q_is q_shut;
    }

-- the head is written behind its gate, and the gate opened
module _ (size : ℕ) (d : List ℕ) (large : 4096 ≤ size) (sized : length d ≡ size) (new : is_formatted d ≡ false) (first : AreaSays (area_with 1 []) (area_of size 0 d)) (second : is_area_open size 1 d ≡ false) where
  pub room : 0 + length head ≤ length d
  room = omega (arith, large, sized)

  still_new : (c : List ℕ) → ChangesOnly 0 15 d c → is_formatted c ≡ false
  still_new c is = ap (λ (k : ℕ). k == 1) (same_after 0 15 d c is 15 (omega arith)) ∙ new

  abbrev written : List ℕ
  written = put_at d 0 head

  changed : ChangesOnly 0 15 d written
  changed = put_changes d head 0 room

  module _ (c : List ℕ) (is : ChangesOnly 15 1 written c) where
    c_size : length c ≡ size
    c_size = is.size ∙ changed.size ∙ sized

    front : take 15 c ≡ head
    front = is.before ∙ take_at head (drop 15 d) 15 refl

    whole_head : get_or c 15 0 ≡ 1 → take 16 c ≡ head ++ 1 ∷ []
    whole_head opened = take_more c 15 0 (omega (arith, c_size, large)) ∙ ap (λ (l : List ℕ). l ++ get_or c 15 0 ∷ []) front ∙ ap (λ (g : ℕ). head ++ g ∷ []) opened

    same_first : area_of size 0 c ≡ area_of size 0 d
    same_first =
        range_outside (area_at size 0) (area_size size) 15 1 written c is (omega (arith, changed.size, sized, areas_fit size large)) (inr (omega arith))
        ∙ range_outside (area_at size 0) (area_size size) 0 15 d written changed (omega (arith, sized, areas_fit size large)) (inr (omega arith))

    second_shut : is_area_open size 1 c ≡ false
    second_shut = closed_still (area_at size 1) 15 1 written c (inr (omega (arith, area_long size large))) is (closed_still (area_at size 1) 0 15 d written (inr (omega (arith, area_long size large))) changed second)

    pub formatted : get_or c 15 0 ≡ 1 → DiskSays size 0 (area_with 1 []) c
    formatted opened = record {
      sized = c_size;
      one_of_two = omega arith;
      formatted = whole_head opened;
      says = subst (AreaSays (area_with 1 [])) (sym same_first) first;
      older = older_than_all size 1 1 c second_shut;
    }

    either : (get_or c 15 0 ≡ 1) ⊎ (get_or c 15 0 ≢ 1) → IsLogOf [] [] c
    either (inl opened) = inr (inl (has_log size 0 (area_with 1 []) c (formatted opened)))
    either (inr shut) = new_log c (ne_eqb (get_or c 15 0) 1 shut)

  pub while_formatting : (c : List ℕ) → IsCommitting d 0 head 15 c → IsLogOf [] [] c
  while_formatting c (inl is) = new_log c (still_new c is)
  while_formatting c (inr is) = either c is (cases_eq (get_or c 15 0) 1)

  pub at_last : DiskSays size 0 (area_with 1 []) (committed d 0 head 15)
  at_last =
      let c = committed d 0 head 15 in
      let fit : 15 + 1 ≤ length written = omega (arith, changed.size, sized, large) in
      let opened : get_or c 15 0 ≡ 1 = sym (get_range c 15 1 0 (omega arith)) ∙ ap (λ (l : List ℕ). get_or l 0 0) (range_put written (1 ∷ []) 15 fit) in
      formatted c (put_changes written (1 ∷ []) 15 fit) opened

-- A run of calls that leaves the head's gate closed.
module _ {D : Type 0} (seen : D → List ℕ) (may_leave : D → List ℕ → Type 0) (moment : D → ℕ) (left_since : D → ℕ → List ℕ → Type 0) where
  pub record StaysNew (old new : D) : Type 0 where
    pub moments : LeavesOnly moment left_since old new (λ c. is_formatted c ≡ false)
    pub now : (c : List ℕ) → may_leave new c → is_formatted c ≡ false

  pub begun : (old : D) → ((c : List ℕ) → left_since old (moment old) c → may_leave old c) → Only (seen old) (may_leave old) → is_formatted (seen old) ≡ false → StaysNew old old
  begun old only_now durable new =
      let here = λ (c : List ℕ) (left : may_leave old c). subst (λ (l : List ℕ). is_formatted l ≡ false) (sym (durable c left)) new in
      record { moments = started moment left_since old (λ c. is_formatted c ≡ false) (λ c left. here c (only_now c left)); now = here }

  pub then_write : (old mid new : D) (at n : ℕ) → 16 ≤ at → StaysNew old mid → Follows (ChangesOnly at n) (may_leave mid) (may_leave new) → Elapses (moment mid) (moment new) (left_since mid) (left_since new) (may_leave new)
      → StaysNew old new
  then_write old mid new at n behind so_far follows time =
      let here = λ (c : List ℕ) (left : may_leave new c). gate_kept at n (follows c left).0 c behind (follows c left).2 (so_far.now (follows c left).0 (follows c left).1) in
      record { moments = goes_on moment left_since old mid new (λ c. is_formatted c ≡ false) (may_leave new) so_far.moments time here; now = here }

  pub then_sync : (old mid new : D) → StaysNew old mid → NoMore (may_leave mid) (may_leave new) → Elapses (moment mid) (moment new) (left_since mid) (left_since new) (may_leave new) → StaysNew old new
  then_sync old mid new so_far crash time =
      let here = λ (c : List ℕ) (left : may_leave new c). so_far.now c (crash c left) in
      record { moments = goes_on moment left_since old mid new (λ c. is_formatted c ≡ false) (may_leave new) so_far.moments time here; now = here }

-- the first area is written on a disk whose head is closed
module _ (d c : List ℕ) (large : 4096 ≤ length d) (is : ChangesOnly (area_at (length d) 0) (area_size (length d)) d c) where
  pub still_new_behind : is_formatted d ≡ false → is_formatted c ≡ false
  still_new_behind new = gate_kept (area_at (length d) 0) (area_size (length d)) d c (omega arith) is new

  pub second_still_closed : is_area_open (length d) 1 d ≡ false → is_area_open (length c) 1 c ≡ false
  second_still_closed shut = subst (λ (k : ℕ). is_area_open k 1 c ≡ false) (sym is.size)
      (closed_still (area_at (length d) 1) (area_at (length d) 0) (area_size (length d)) d c (inr (omega arith)) is shut)

  pub first_says : AreaSays (area_with 1 []) (area_of (length d) 0 c) → AreaSays (area_with 1 []) (area_of (length c) 0 c)
  first_says says = subst (λ (k : ℕ). AreaSays (area_with 1 []) (area_of k 0 c)) (sym is.size) says

-- a checkpoint with no items
no_entries : length (entries []) ≡ 0
unfolding entries
no_entries = refl

pub empty_fits : (size : ℕ) → 4096 ≤ size → checkpoint_fits (area_size size) [] ≡ true
empty_fits size large = le-leb (13 + length (entries []) + 1) (area_size size) (omega (arith, no_entries, area_long size large))

pub empty_short : IsIndex (length (entries []))
empty_short = subst IsIndex (sym no_entries) (omega arith)
