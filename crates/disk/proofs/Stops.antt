-- What a stop leaves.
use Rattle.std.proofs.Common.{◌≡◌, ℕ, zero, suc, ◌+◌, ◌-◌, ◌≤◌, Bool, true, false, ◌||◌, List, [], ◌∷◌, length, drop, replicate, take, refl, sym, ap, ◌∙◌, subst, arith, if◌then◌else◌, Some}
use Rattle.std.specs.Prelude.{slice_get}
use Rattle.std.proofs.lemmas.List.{length-drop, length-replicate, take_all}
use Rattle.gfs_types.specs.declared.torn.Torn.{Torn}
use Rattle.gfs_types.specs.declared.torn.Torn.TheVariants.{Old, New, Byte}
use Rattle.disk.specs.Device.{ChangesOnly}
use Rattle.disk.specs.Bytes.{put_at}
use Rattle.disk.specs.Writes.{Write, DiskState, AfterNext, AfterWrite, LeftBy, MayLeave, all_fit, bytes_before, filled, first_bytes, has_sync, settled, unsynced}
use Rattle.disk.proofs.Ranges.{changes_nothing, length_put, put_changes}
use Rattle.disk.proofs.Calls.{fits_cons, length_before, seen_left}

-- each range in its turn may hold any bytes
abbrev InTurn : (List ℕ → Type 0) → List Write → List ℕ → Type 0
InTurn P [] = P
InTurn P (w ∷ ws) = InTurn (AfterWrite P w) ws

pub or_false : (a b : Bool) → (a || b) ≡ false → (a ≡ false) × (b ≡ false)
or_false true b h = cc
or_false false b h = (refl, h)

pub none_unsynced : (ws : List Write) → has_sync ws ≡ false → unsynced ws ≡ ws
none_unsynced [] h = refl
none_unsynced (w ∷ ws) h = rw h refl

in_turn : (P : List ℕ → Type 0) (ws : List Write) (now c : List ℕ) → has_sync ws ≡ false → InTurn P ws c → MayLeave P ws now c
in_turn P [] now c h left = left
in_turn P (w ∷ ws) now c h left =
    let is = or_false w.synced (has_sync ws) h in
    subst (λ b. MayLeave (AfterNext b P w (bytes_before ws now)) ws now c) (sym is.0) (in_turn (AfterWrite P w) ws now c is.1 left)

since_sync : (P : List ℕ → Type 0) (ws : List Write) (now c : List ℕ) → has_sync ws ≡ true → InTurn (λ d. d ≡ bytes_before (unsynced ws) now) (unsynced ws) c → MayLeave P ws now c
since_sync P [] now c h left = cc
since_sync P (w ∷ ws) now c h left = later (λ is. since_sync (AfterNext w.synced P w (bytes_before ws now)) ws now c is left') (has_sync ws) refl
  where
    rest : unsynced (w ∷ ws) ≡ unsynced ws
    rest = rw h refl

    left' : InTurn (λ d. d ≡ bytes_before (unsynced ws) now) (unsynced ws) c
    left' = subst (λ us. InTurn (λ d. d ≡ bytes_before us now) us c) rest left

    here : (b : Bool) → (b || has_sync ws) ≡ true → has_sync ws ≡ false → MayLeave (AfterNext b P w (bytes_before ws now)) ws now c
    here true h' none = in_turn (λ d. d ≡ bytes_before ws now) ws now c none (subst (λ us. InTurn (λ d. d ≡ bytes_before us now) us c) (none_unsynced ws none) left')
    here false h' none = cc

    later : (has_sync ws ≡ true → MayLeave P (w ∷ ws) now c) → (b : Bool) → has_sync ws ≡ b → MayLeave P (w ∷ ws) now c
    later on true is = on is
    later on false is = here w.synced h is

pub from_unsynced : (disk : DiskState) (c : List ℕ) → InTurn (λ d. d ≡ bytes_before (unsynced disk.writes) disk.bytes) (unsynced disk.writes) c → LeftBy disk c
from_unsynced disk c left = by (has_sync disk.writes) refl
  where
    by : (b : Bool) → has_sync disk.writes ≡ b → LeftBy disk c
    by true is = since_sync (λ d. d ≡ first_bytes disk) disk.writes disk.bytes c is left
    by false is = in_turn (λ d. d ≡ first_bytes disk) disk.writes disk.bytes c is (subst (λ us. InTurn (λ d. d ≡ bytes_before us disk.bytes) us c) (none_unsynced disk.writes is) left)

old_in_turn : (P : List ℕ → Type 0) (ws : List Write) (c : List ℕ) → P c → InTurn P ws c
old_in_turn P [] c p = p
old_in_turn P (w ∷ ws) c p = old_in_turn (AfterWrite P w) ws c (c, p, changes_nothing w.at (length w.old) c)

filled_in_turn : (P : List ℕ → Type 0) (byte : ℕ) (ws : List Write) (c : List ℕ) → all_fit (length c) ws ≡ true → P c → InTurn P ws (filled byte ws c)
filled_in_turn P byte [] c fits p = p
filled_in_turn P byte (w ∷ ws) c fits p =
    let f = fits_cons (length c) w ws fits in
    let fill = replicate (length w.old) byte in
    let count : length fill ≡ length w.old = length-replicate (length w.old) byte in
    let room : w.at + length fill ≤ length c = omega (arith, count, f.0) in
    filled_in_turn (AfterWrite P w) byte ws (put_at c w.at fill) (subst (λ n. all_fit n ws ≡ true) (sym (length_put c fill w.at room)) f.1)
    (c, p, subst (λ n. ChangesOnly w.at n c (put_at c w.at fill)) count (put_changes c fill w.at room))

pub fits_unsynced : (n : ℕ) (ws : List Write) → all_fit n ws ≡ true → all_fit n (unsynced ws) ≡ true
fits_unsynced n [] fits = fits
fits_unsynced n (w ∷ ws) fits = by (fits_unsynced n ws (fits_cons n w ws fits).1) (has_sync (w ∷ ws)) refl
  where
    by : all_fit n (unsynced ws) ≡ true → (b : Bool) → has_sync (w ∷ ws) ≡ b → all_fit n (unsynced (w ∷ ws)) ≡ true
    by on true is = rw is on
    by on false is = rw is fits

-- Each way to settle the torn ranges is one that a stop may leave.
pub settled_left : (torn : Torn) (disk : DiskState) → all_fit (length disk.bytes) disk.writes ≡ true → LeftBy disk (settled torn disk.bytes disk.writes)
settled_left Old disk fits =
    let us = unsynced disk.writes in
    let old = bytes_before us disk.bytes in
    from_unsynced disk old (old_in_turn (λ d. d ≡ old) us old refl)
settled_left New disk fits = seen_left (λ d. d ≡ first_bytes disk) disk.writes disk.bytes refl fits
settled_left (Byte byte) disk fits =
    let us = unsynced disk.writes in
    let old = bytes_before us disk.bytes in
    let within = fits_unsynced (length disk.bytes) disk.writes fits in
    from_unsynced disk (filled byte us old) (filled_in_turn (λ d. d ≡ old) byte us old (subst (λ n. all_fit n us ≡ true) (sym (length_before us disk.bytes within)) within) refl)

-- The loops.

drop_suc : (ws : List Write) (i : ℕ) (w : Write) → slice_get ws i ≡ Some w → drop i ws ≡ w ∷ drop (suc i) ws
drop_suc [] i w is = cc
drop_suc (v ∷ ws) zero w is = let same : v ≡ w = cc in ap (λ (x : Write). x ∷ ws) same
drop_suc (v ∷ ws) (suc i) w is = drop_suc ws i w is

pub drop_step : (ws : List Write) (i j : ℕ) (w : Write) → j ≡ i + 1 → slice_get ws i ≡ Some w → drop i ws ≡ w ∷ drop j ws
drop_step ws i j w e is = let next : suc i ≡ j = omega (arith, e) in drop_suc ws i w is ∙ ap (λ (k : ℕ). w ∷ drop k ws) next

pub fits_at : (n : ℕ) (ws : List Write) (i : ℕ) (w : Write) → all_fit n ws ≡ true → slice_get ws i ≡ Some w → w.at + length w.old ≤ n
fits_at n [] i w fits is = cc
fits_at n (v ∷ ws) zero w fits is = let same : v ≡ w = cc in subst (λ (x : Write). x.at + length x.old ≤ n) same (fits_cons n v ws fits).0
fits_at n (v ∷ ws) (suc i) w fits is = fits_at n ws i w (fits_cons n v ws fits).1 is

pub filled_length : (byte : ℕ) (ws : List Write) (c : List ℕ) → all_fit (length c) ws ≡ true → length (filled byte ws c) ≡ length c
filled_length byte [] c fits = refl
filled_length byte (w ∷ ws) c fits =
    let f = fits_cons (length c) w ws fits in
    let fill = replicate (length w.old) byte in
    let room : w.at + length fill ≤ length c = omega (arith, length-replicate (length w.old) byte, f.0) in
    let same = length_put c fill w.at room in
    filled_length byte ws (put_at c w.at fill) (subst (λ n. all_fit n ws ≡ true) (sym same) f.1) ∙ same

-- one more write is looked at
pub one_looked_at : (all ws : List Write) (w : Write) (start next : List Write) → all ≡ (if has_sync (w ∷ ws) then unsynced (w ∷ ws) else start)
    → (w.synced ≡ true → next ≡ ws) → (w.synced ≡ false → next ≡ start)
    → all ≡ (if has_sync ws then unsynced ws else next)
one_looked_at all ws w start next is marked unmarked = by w.synced refl (has_sync ws) refl
  where
    by : (a : Bool) → w.synced ≡ a → (b : Bool) → has_sync ws ≡ b → all ≡ (if has_sync ws then unsynced ws else next)
    by true x true y = (let is' = rw x at is in rw y is')
    by true x false y = (let is' = rw x at is in rw y (is' ∙ none_unsynced ws y ∙ sym (marked x)))
    by false x true y = (let is' = rw x at is in let is'' = rw y at is' in rw y is'')
    by false x false y = (let is' = rw x at is in let is'' = rw y at is' in rw y (is'' ∙ sym (unmarked x)))

pub fits_drop : (n : ℕ) (ws : List Write) (start : ℕ) → drop start ws ≡ unsynced ws → all_fit n ws ≡ true → all_fit n (drop start ws) ≡ true
fits_drop n ws start is fits = subst (λ us. all_fit n us ≡ true) (sym is) (fits_unsynced n ws fits)

-- none is looked at yet
pub none_looked_at : (ws : List Write) → unsynced ws ≡ (if has_sync ws then unsynced ws else ws)
none_looked_at ws = by (has_sync ws) refl
  where
    by : (b : Bool) → has_sync ws ≡ b → unsynced ws ≡ (if b then unsynced ws else ws)
    by true is = refl
    by false is = none_unsynced ws is

-- a part from start on is all that is not synced
pub fits_part : (n : ℕ) (ws : List Write) (start : ℕ) → drop start ws ≡ unsynced ws → all_fit n ws ≡ true → all_fit n (take (length ws - start) (drop start ws)) ≡ true
fits_part n ws start is fits =
    let count : length (drop start ws) ≤ length ws - start = omega (arith, length-drop start ws) in
    subst (λ us. all_fit n us ≡ true) (sym (take_all (length ws - start) (drop start ws) count)) (fits_drop n ws start is fits)

pub part_is : (ws : List Write) (start : ℕ) → drop start ws ≡ unsynced ws → take (length ws - start) (drop start ws) ≡ unsynced ws
part_is ws start is =
    let count : length (drop start ws) ≤ length ws - start = omega (arith, length-drop start ws) in
    take_all (length ws - start) (drop start ws) count ∙ is
