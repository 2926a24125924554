-- Buffers after lists of calls.
use Rattle.std.proofs.Common.{◌≡◌, ◌⊎◌, inl, inr, ℕ, zero, suc, ◌+◌, ◌-◌, ◌<◌, ◌≤◌, true, false, nat_lt, List, [], ◌∷◌, ◌++◌, length, take, Option, Some, None, if◌then◌else◌, refl, sym, ap, ◌∙◌, subst, arith}
use Rattle.std.specs.Map.{lookup, remove_entry}
use Rattle.std.proofs.lemmas.Bool.Decides.{nat_tests}
use Rattle.std.proofs.lemmas.List.{nil_from_length}
use Rattle.gfs_types.specs.declared.ids.DataId.{DataId}
use Rattle.data_push.specs.Buffers.{PushBuffer, IsWithinLimit, push_buffer, same_id, data_of, with_data, without_data}
use Rattle.data_push.specs.Laws.{BufferCall, put, take as take_out, after_call, after_calls, after_all, LeavesOut, puts, WasLastPut, Drops, WasDropped, GivesLastPut, KeepsUntilDropped, KeepsTheNewest}
use Rattle.data_push.proofs.Puts.{same_id_exact, with_within, without_within}

abbrev pub Entries : Type 0
Entries = List (DataId × List ℕ)

same_id_refl : (id : DataId) → same_id id id ≡ true
same_id_refl id = grind (arith, nat_tests)

-- how many entries stand before that of the id
abbrev pub place_of : DataId → Entries → ℕ
place_of id [] = 0
place_of id (e ∷ es) = if same_id id e.0 then 0 else 1 + place_of id es

-- another entry is taken out

unchanged : (id other : DataId) (es : Entries) → same_id id other ≡ false → lookup (same_id id) (remove_entry (same_id other) es) ≡ lookup (same_id id) es
unchanged id other [] apart = refl
unchanged id other (e ∷ es) apart = (elim (same_id other e.0) as (λ y. same_id other e.0 ≡ y → lookup (same_id id) (remove_entry (same_id other) (e ∷ es)) ≡ lookup (same_id id) (e ∷ es)) [
  | true ↦ λ t. rw t (rw (subst (λ k. same_id id k ≡ false) (same_id_exact other e.0 t) apart) refl)
  | false ↦ λ t. rw t ((elim (same_id id e.0) as (λ y. same_id id e.0 ≡ y → lookup (same_id id) (e ∷ remove_entry (same_id other) es) ≡ lookup (same_id id) (e ∷ es)) [
    | true ↦ λ u. rw u refl
    | false ↦ λ u. rw u (unchanged id other es apart)
  ]) refl)
]) refl

no_later : (id other : DataId) (es : Entries) → same_id id other ≡ false → place_of id (remove_entry (same_id other) es) ≤ place_of id es
no_later id other [] apart = omega arith
no_later id other (e ∷ es) apart = (elim (same_id other e.0) as (λ y. same_id other e.0 ≡ y → place_of id (remove_entry (same_id other) (e ∷ es)) ≤ place_of id (e ∷ es)) [
  | true ↦ λ t. rw t (rw (subst (λ k. same_id id k ≡ false) (same_id_exact other e.0 t) apart) (omega arith))
  | false ↦ λ t. rw t ((elim (same_id id e.0) as (λ y. same_id id e.0 ≡ y → place_of id (e ∷ remove_entry (same_id other) es) ≤ place_of id (e ∷ es)) [
    | true ↦ λ u. rw u (omega arith)
    | false ↦ λ u. rw u (omega (arith, no_later id other es apart))
  ]) refl)
]) refl

fewer_by_one : (id : DataId) (es : Entries) (bytes : List ℕ) → lookup (same_id id) es ≡ Some bytes → length (remove_entry (same_id id) es) + 1 ≡ length es
fewer_by_one id [] bytes is = cc
fewer_by_one id (e ∷ es) bytes is = (elim (same_id id e.0) as (λ y. same_id id e.0 ≡ y → length (remove_entry (same_id id) (e ∷ es)) + 1 ≡ length (e ∷ es)) [
  | true ↦ λ t. rw t (omega arith)
  | false ↦ λ t. rw t (omega (arith, fewer_by_one id es bytes (rw t at is)))
]) refl

none_taken : (id : DataId) (es : Entries) → lookup (same_id id) es ≡ None → remove_entry (same_id id) es ≡ es
none_taken id [] is = refl
none_taken id (e ∷ es) is = (elim (same_id id e.0) as (λ y. same_id id e.0 ≡ y → remove_entry (same_id id) (e ∷ es) ≡ e ∷ es) [
  | true ↦ λ t. let is' = rw t at is in cc
  | false ↦ λ t. rw t (ap (λ (l : Entries). e ∷ l) (none_taken id es (rw t at is)))
]) refl

-- the oldest entries are dropped

stays : (id : DataId) (es : Entries) (n : ℕ) → place_of id es < n → lookup (same_id id) (take n es) ≡ lookup (same_id id) es
stays id es zero low = absurd (omega (arith, low))
stays id [] (suc n) low = refl
stays id (e ∷ es) (suc n) low = (elim (same_id id e.0) as (λ y. same_id id e.0 ≡ y → lookup (same_id id) (e ∷ take n es) ≡ lookup (same_id id) (e ∷ es)) [
  | true ↦ λ t. rw t refl
  | false ↦ λ t. rw t (stays id es n (let low' = rw t at low in omega (arith, low')))
]) refl

same_place : (id : DataId) (es : Entries) (n : ℕ) → place_of id (take n es) ≤ place_of id es
same_place id es zero = omega arith
same_place id [] (suc n) = omega arith
same_place id (e ∷ es) (suc n) = (elim (same_id id e.0) as (λ y. same_id id e.0 ≡ y → place_of id (e ∷ take n es) ≤ place_of id (e ∷ es)) [
  | true ↦ λ t. rw t (omega arith)
  | false ↦ λ t. rw t (omega (arith, same_place id es n))
]) refl

was_there : (id : DataId) (es : Entries) (n : ℕ) (bytes : List ℕ) → lookup (same_id id) (take n es) ≡ Some bytes → lookup (same_id id) es ≡ Some bytes
was_there id es zero bytes is = cc
was_there id [] (suc n) bytes is = is
was_there id (e ∷ es) (suc n) bytes is = (elim (same_id id e.0) as (λ y. same_id id e.0 ≡ y → lookup (same_id id) (e ∷ es) ≡ Some bytes) [
  | true ↦ λ t. rw t (rw t at is)
  | false ↦ λ t. rw t (was_there id es n bytes (rw t at is))
]) refl

inside : (id : DataId) (es : Entries) (bytes : List ℕ) → lookup (same_id id) es ≡ Some bytes → place_of id es < length es
inside id [] bytes is = cc
inside id (e ∷ es) bytes is = (elim (same_id id e.0) as (λ y. same_id id e.0 ≡ y → place_of id (e ∷ es) < length (e ∷ es)) [
  | true ↦ λ t. rw t (omega arith)
  | false ↦ λ t. rw t (omega (arith, inside id es bytes (rw t at is)))
]) refl

stands_last : (id : DataId) (es : Entries) (bytes : List ℕ) → lookup (same_id id) es ≡ Some bytes → place_of id es + 1 ≡ length es → (newer : Entries) × (es ≡ newer ++ (id, bytes) ∷ [])
stands_last id [] bytes is last = cc
stands_last id (e ∷ es) bytes is last = (elim (same_id id e.0) as (λ y. same_id id e.0 ≡ y → (newer : Entries) × (e ∷ es ≡ newer ++ (id, bytes) ∷ [])) [
  | true ↦ λ t.
      let is' = rw t at is in
      let last' = rw t at last in
      let value : e.1 ≡ bytes = cc in
      let key : e.0 ≡ id = sym (same_id_exact id e.0 t) in
      let none : es ≡ [] = nil_from_length es (omega (arith, last')) in
      ([], ap (λ (l : Entries). e ∷ l) none ∙ ap (λ (k : DataId). (k, e.1) ∷ []) key ∙ ap (λ (v : List ℕ). (id, v) ∷ []) value)
  | false ↦ λ t. let on = stands_last id es bytes (rw t at is) (let last' = rw t at last in omega (arith, last')) in (e ∷ on.0, ap (λ (l : Entries). e ∷ l) on.1)
]) refl

-- A buffer with the limit L and these entries, of which that of the id isn't near the end.
pub newest_stays : (L : ℕ) (es : Entries) (id : DataId) (bytes : List ℕ) (since : List BufferCall)
    → lookup (same_id id) es ≡ Some bytes → place_of id es + puts since < L → LeavesOut id since
    → data_of (after_calls (push_buffer es L) since) id ≡ Some bytes
newest_stays L es id bytes [] is low out = is
newest_stays L es id bytes (put other new ∷ since) is low out =
    let rest = remove_entry (same_id other) es in
    let less = no_later id other es out.0 in
    let near : place_of id rest < L - 1 = omega (arith, less, low) in
    newest_stays L ((other, new) ∷ take (L - 1) rest) id bytes since
    (rw out.0 (stays id rest (L - 1) near ∙ unchanged id other es out.0 ∙ is))
    (rw out.0 (omega (arith, same_place id rest (L - 1), less, low)))
    out.1
newest_stays L es id bytes (take_out other ∷ since) is low out =
    newest_stays L (remove_entry (same_id other) es) id bytes since (unchanged id other es out.0 ∙ is) (omega (arith, no_later id other es out.0, low)) out.1

-- where a put drops the data, they stood last in a full buffer
drops_last : (L : ℕ) (es : Entries) (id other : DataId) (bytes new : List ℕ) → length es ≤ L → lookup (same_id id) es ≡ Some bytes → same_id id other ≡ false
    → L - 1 ≤ place_of id (remove_entry (same_id other) es) → Drops (push_buffer es L) id (put other new)
drops_last L es id other bytes new fits is apart far =
    let rest = remove_entry (same_id other) es in
    let within : place_of id rest < length rest = inside id rest bytes (unchanged id other es apart ∙ is) in
    let none : lookup (same_id other) es ≡ None = absent_from (lookup (same_id other) es) refl in
    let same : rest ≡ es = none_taken other es none in
    let place : place_of id rest ≡ place_of id es = ap (place_of id) same in
    let count : length rest ≡ length es = ap length same in
    let full : length es ≡ L = omega (arith, within, count, far, fits) in
    let last = stands_last id es bytes is (omega (arith, inside id es bytes is, place, far, full)) in
    record { newer = last.0; oldest = bytes; entries_are = last.1; full = full; other = other; bytes = new; call_is = refl; new = none }
  where
    absent_from : (o : Option (List ℕ)) → lookup (same_id other) es ≡ o → lookup (same_id other) es ≡ None
    absent_from None h = h
    absent_from (Some v) h =
        let one = fewer_by_one other es v h in
        let within = inside id (remove_entry (same_id other) es) bytes (unchanged id other es apart ∙ is) in
        absurd (omega (arith, one, within, far, fits))

later : (call : BufferCall) (L : ℕ) (es : Entries) (id : DataId) (since : List BufferCall) → {bytes : List ℕ}
    → (data_of (after_calls (after_call (push_buffer es L) call) since) id ≡ Some bytes) ⊎ WasDropped (after_call (push_buffer es L) call) id since
    → (data_of (after_calls (push_buffer es L) (call ∷ since)) id ≡ Some bytes) ⊎ WasDropped (push_buffer es L) id (call ∷ since)
later call L es id since (inl is) = inl is
later call L es id since (inr was) = inr (record { before = call ∷ was.before; call = was.call; after = was.after; calls_are = ap (λ (l : List BufferCall). call ∷ l) was.calls_are; drops = was.drops })

-- The law that data stay until they are taken or dropped, from any buffer that has them.
pub stays_or_drops : (L : ℕ) (es : Entries) (id : DataId) (bytes : List ℕ) (since : List BufferCall)
    → IsWithinLimit (push_buffer es L) → lookup (same_id id) es ≡ Some bytes → LeavesOut id since
    → (data_of (after_calls (push_buffer es L) since) id ≡ Some bytes) ⊎ WasDropped (push_buffer es L) id since
stays_or_drops L es id bytes [] within is out = inl is
stays_or_drops L es id bytes (take_out other ∷ since) within is out =
    later (take_out other) L es id since (stays_or_drops L (remove_entry (same_id other) es) id bytes since (without_within (push_buffer es L) other within) (unchanged id other es out.0 ∙ is) out.1)
stays_or_drops L es id bytes (put other new ∷ since) within is out =
    let rest = remove_entry (same_id other) es in
    (elim (nat_lt (place_of id rest) (L - 1)) as (λ y. nat_lt (place_of id rest) (L - 1) ≡ y → (data_of (after_calls (push_buffer es L) (put other new ∷ since)) id ≡ Some bytes) ⊎ WasDropped (push_buffer es L) id (put other new ∷ since)) [
      | true ↦ λ t. later (put other new) L es id since (stays_or_drops L ((other, new) ∷ take (L - 1) rest) id bytes since (with_within (push_buffer es L) other new within)
          (rw out.0 (stays id rest (L - 1) (grind (arith, nat_tests, t)) ∙ unchanged id other es out.0 ∙ is)) out.1)
      | false ↦ λ t. inr (record { before = []; call = put other new; after = since; calls_are = refl; drops = drops_last L es id other bytes new within.1 is out.0 (grind (arith, nat_tests, t)) })
    ]) refl

-- Each id stands once.

abbrev pub StandsOnce : Entries → Type 0
StandsOnce [] = Unit {0}
StandsOnce (e ∷ es) = (lookup (same_id e.0) es ≡ None) × StandsOnce es

none_without : (id other : DataId) (es : Entries) → lookup (same_id id) es ≡ None → lookup (same_id id) (remove_entry (same_id other) es) ≡ None
none_without id other [] none = refl
none_without id other (e ∷ es) none = (elim (same_id id e.0) as (λ y. same_id id e.0 ≡ y → lookup (same_id id) (remove_entry (same_id other) (e ∷ es)) ≡ None) [
  | true ↦ λ t. let none' = rw t at none in cc
  | false ↦ λ t. (elim (same_id other e.0) as (λ y. same_id other e.0 ≡ y → lookup (same_id id) (remove_entry (same_id other) (e ∷ es)) ≡ None) [
    | true ↦ λ u. rw u (rw t at none)
    | false ↦ λ u. rw u (rw t (none_without id other es (rw t at none)))
  ]) refl
]) refl

none_in_front : (id : DataId) (es : Entries) (n : ℕ) → lookup (same_id id) es ≡ None → lookup (same_id id) (take n es) ≡ None
none_in_front id es zero none = refl
none_in_front id [] (suc n) none = refl
none_in_front id (e ∷ es) (suc n) none = (elim (same_id id e.0) as (λ y. same_id id e.0 ≡ y → lookup (same_id id) (e ∷ take n es) ≡ None) [
  | true ↦ λ t. let none' = rw t at none in cc
  | false ↦ λ t. rw t (none_in_front id es n (rw t at none))
]) refl

taken_out : (id : DataId) (es : Entries) → StandsOnce es → lookup (same_id id) (remove_entry (same_id id) es) ≡ None
taken_out id [] once = refl
taken_out id (e ∷ es) once = (elim (same_id id e.0) as (λ y. same_id id e.0 ≡ y → lookup (same_id id) (remove_entry (same_id id) (e ∷ es)) ≡ None) [
  | true ↦ λ t. rw t (subst (λ k. lookup (same_id k) es ≡ None) (sym (same_id_exact id e.0 t)) once.0)
  | false ↦ λ t. rw t (rw t (taken_out id es once.1))
]) refl

once_without : (other : DataId) (es : Entries) → StandsOnce es → StandsOnce (remove_entry (same_id other) es)
once_without other [] once = tt
once_without other (e ∷ es) once = (elim (same_id other e.0) as (λ y. same_id other e.0 ≡ y → StandsOnce (remove_entry (same_id other) (e ∷ es))) [
  | true ↦ λ t. rw t once.1
  | false ↦ λ t. rw t (none_without e.0 other es once.0, once_without other es once.1)
]) refl

once_in_front : (n : ℕ) (es : Entries) → StandsOnce es → StandsOnce (take n es)
once_in_front zero es once = tt
once_in_front (suc n) [] once = tt
once_in_front (suc n) (e ∷ es) once = (none_in_front e.0 es n once.0, once_in_front n es once.1)

once_after : (b : PushBuffer) (call : BufferCall) → StandsOnce b.entries → StandsOnce (after_call b call).entries
once_after b (put id bytes) once =
    let rest = remove_entry (same_id id) b.entries in
    (none_in_front id rest (b.limit - 1) (taken_out id b.entries once), once_in_front (b.limit - 1) rest (once_without id b.entries once))
once_after b (take_out id) once = once_without id b.entries once

earlier : (call : BufferCall) (calls : List BufferCall) (id : DataId) (bytes : List ℕ) → WasLastPut id bytes calls → WasLastPut id bytes (call ∷ calls)
earlier call calls id bytes was = record { before = call ∷ was.before; since = was.since; calls_are = ap (λ (l : List BufferCall). call ∷ l) was.calls_are; left_out = was.left_out }

-- What is there after one call and was left out since: the call put it, or it was there before.
came : (b : PushBuffer) (call : BufferCall) (calls : List BufferCall) (id : DataId) (bytes : List ℕ) → StandsOnce b.entries → data_of (after_call b call) id ≡ Some bytes → LeavesOut id calls
    → WasLastPut id bytes (call ∷ calls) ⊎ ((data_of b id ≡ Some bytes) × LeavesOut id (call ∷ calls))
came b (put other new) calls id bytes once is out = (elim (same_id id other) as (λ y. same_id id other ≡ y → WasLastPut id bytes (put other new ∷ calls) ⊎ ((data_of b id ≡ Some bytes) × LeavesOut id (put other new ∷ calls))) [
  | true ↦ λ t.
      let is' = rw t at is in
      let value : new ≡ bytes = cc in
      inl (record { before = []; since = calls; calls_are = ap (λ (v : List ℕ). put other v ∷ calls) value ∙ ap (λ (k : DataId). put k bytes ∷ calls) (sym (same_id_exact id other t)); left_out = out })
  | false ↦ λ t.
      let rest = remove_entry (same_id other) b.entries in
      inr (sym (unchanged id other b.entries t) ∙ was_there id rest (b.limit - 1) bytes (rw t at is), (t, out))
]) refl
came b (take_out other) calls id bytes once is out = (elim (same_id id other) as (λ y. same_id id other ≡ y → WasLastPut id bytes (take_out other ∷ calls) ⊎ ((data_of b id ≡ Some bytes) × LeavesOut id (take_out other ∷ calls))) [
  | true ↦ λ t.
      let gone : lookup (same_id id) (remove_entry (same_id other) b.entries) ≡ None = subst (λ k. lookup (same_id k) (remove_entry (same_id other) b.entries) ≡ None) (sym (same_id_exact id other t)) (taken_out other b.entries once) in
      absurd (some_is_none (sym is ∙ gone))
  | false ↦ λ t. inr (sym (unchanged id other b.entries t) ∙ is, (t, out))
]) refl
  where
    some_is_none : Some bytes ≡ None → ⊥
    some_is_none e = cc

pub last_put : (b : PushBuffer) (calls : List BufferCall) (id : DataId) (bytes : List ℕ) → StandsOnce b.entries → data_of (after_calls b calls) id ≡ Some bytes
    → WasLastPut id bytes calls ⊎ ((data_of b id ≡ Some bytes) × LeavesOut id calls)
last_put b [] id bytes once is = inr (is, tt)
last_put b (call ∷ calls) id bytes once is = elim (last_put (after_call b call) calls id bytes (once_after b call once) is) [
  | inl was ↦ inl (earlier call calls id bytes was)
  | inr there ↦ came b call calls id bytes once there.0 there.1
]

-- calls, and then more of them
pub calls_append : (b : PushBuffer) (xs ys : List BufferCall) → after_calls b (xs ++ ys) ≡ after_calls (after_calls b xs) ys
calls_append b [] ys = refl
calls_append b (call ∷ xs) ys = calls_append (after_call b call) xs ys

limit_after : (b : PushBuffer) (calls : List BufferCall) → (after_calls b calls).limit ≡ b.limit
limit_after b [] = refl
limit_after b (put id bytes ∷ calls) = limit_after (with_data b id bytes) calls
limit_after b (take_out id ∷ calls) = limit_after (without_data b id) calls

within_after : (b : PushBuffer) (calls : List BufferCall) → IsWithinLimit b → IsWithinLimit (after_calls b calls)
within_after b [] within = within
within_after b (put id bytes ∷ calls) within = within_after (with_data b id bytes) calls (with_within b id bytes within)
within_after b (take_out id ∷ calls) within = within_after (without_data b id) calls (without_within b id within)

pub gives_last_put : GivesLastPut
gives_last_put limit calls id bytes is = elim (last_put (push_buffer [] limit) calls id bytes tt is) [
  | inl was ↦ was
  | inr there ↦ absurd (none_is_some there.0)
]
  where
    none_is_some : None ≡ Some bytes → ⊥
    none_is_some e = cc

pub keeps_the_newest : KeepsTheNewest
keeps_the_newest limit before since id bytes low out =
    let b = after_all limit before in
    let c = with_data b id bytes in
    let same : c.limit ≡ limit = limit_after (push_buffer [] limit) before in
    ap (λ (s : PushBuffer). data_of s id) (calls_append (push_buffer [] limit) before (put id bytes ∷ since))
    ∙ newest_stays c.limit c.entries id bytes since (rw (same_id_refl id) refl) (rw (same_id_refl id) (omega (arith, low, same))) out

pub keeps_until_dropped : KeepsUntilDropped
keeps_until_dropped limit before since id bytes some out =
    let new = push_buffer [] limit in
    let b = after_calls new before in
    let c = with_data b id bytes in
    let within = with_within b id bytes (within_after new before (some, omega arith)) in
    subst (λ (s : PushBuffer). (data_of s id ≡ Some bytes) ⊎ WasDropped (after_all limit (before ++ put id bytes ∷ [])) id since) (sym (calls_append new before (put id bytes ∷ since)))
    (subst (λ (s : PushBuffer). (data_of (after_calls c since) id ≡ Some bytes) ⊎ WasDropped s id since) (sym (calls_append new before (put id bytes ∷ [])))
    (stays_or_drops c.limit c.entries id bytes since within (rw (same_id_refl id) refl) out))
