-- Numbers of messages, by batches.
use Rattle.std.proofs.Common.{◌≡◌, ◌≤◌, ◌<◌, ℕ, zero, suc, ◌+◌, ◌-◌, ◌/◌, List, [], ◌∷◌, ◌++◌, length, take, drop, get_or, set, None, refl, sym, subst, ap, ◌∙◌, arith, append_assoc}
use Rattle.std.specs.Prelude.{slice_get}
use Rattle.std.proofs.lemmas.List.{append-nil, length-append, take_all}
use Rattle.messages.specs.declared.message.Message.{Message}
use Rattle.protocol.specs.Tables.{element_at}
use Rattle.protocol.specs.World.{numbered_from_1, stamped}
use Rattle.cell_world.specs.declared.batch.Batch.{Batch}
use Rattle.cell_world.specs.Batches.{sent_in, AreNumbered, IsIn}

-- one more is stamped
pub stamp_more : (xs : List Message) (place n : ℕ) (d : Message) → place < length xs
    → (let y : Message = record (get_or xs place d) { number = n } in take (suc place) (set xs place y) ++ stamped (suc n) (drop (suc place) (set xs place y)) ≡ take place xs ++ stamped n (drop place xs))
stamp_more [] place n d h = absurd (omega (arith, h))
stamp_more (x ∷ xs) zero n d h = refl
stamp_more (x ∷ xs) (suc place) n d h = ap (λ ms. x ∷ ms) (stamp_more xs place n d (omega (arith, h)))

-- the number of a batch's first message
pub first_is : (before : ℕ) (bs : List Batch) (place : ℕ) (d : Batch) → AreNumbered before bs → place < length bs → (get_or bs place d).first ≡ suc (before + length (sent_in (take place bs)))
first_is before [] place d h within = absurd (omega (arith, within))
first_is before (b ∷ bs) zero d h within = h.0 ∙ omega arith
first_is before (b ∷ bs) (suc place) d h within =
    first_is (before + length b.messages) bs place d h.1 (omega (arith, within)) ∙ omega (arith, length-append b.messages (sent_in (take place bs)))

pub some_batch : (bs : List Batch) (number : ℕ) → 0 < number → number ≤ length (sent_in bs) → 0 < length bs
some_batch [] number h most = absurd (omega (arith, h, most))
some_batch (b ∷ bs) number h most = omega arith

pub in_all : (bs : List Batch) (number : ℕ) → number ≤ length (sent_in bs) → number ≤ length (sent_in (take (length bs) bs))
in_all bs number h = rw (take_all (length bs) bs (omega arith)) h

element_of_append : {X : Type 0} (xs ys : List X) (n : ℕ) → n < length xs → element_at (xs ++ ys) n ≡ slice_get xs n
element_of_append [] ys n h = absurd (omega (arith, h))
element_of_append (x ∷ xs) ys zero h = refl
element_of_append (x ∷ xs) ys (suc n) h = element_of_append xs ys n (omega (arith, h))

element_past : {X : Type 0} (xs ys : List X) (n : ℕ) → element_at (xs ++ ys) (length xs + n) ≡ element_at ys n
element_past [] ys n =
    let same : 0 + n ≡ n = omega arith in
    ap (element_at ys) same
element_past (x ∷ xs) ys n =
    let same : length (x ∷ xs) + n ≡ suc (length xs + n) = omega arith in
    ap (element_at (x ∷ xs ++ ys)) same ∙ element_past xs ys n

pub none_past : {X : Type 0} (xs : List X) (n : ℕ) → length xs ≤ n → element_at xs n ≡ None
none_past [] n h = refl
none_past (x ∷ xs) zero h = absurd (omega (arith, h))
none_past (x ∷ xs) (suc n) h = none_past xs n (omega (arith, h))

-- a number that is one of a batch: how far it is from the batch's first
pub in_batch : (before : ℕ) (bs : List Batch) (place n : ℕ) (d : Batch) → place < length bs
    → length (sent_in (take place bs)) ≤ n → n < length (sent_in (take (suc place) bs))
    → element_at (sent_in bs) n ≡ slice_get (get_or bs place d).messages (n - length (sent_in (take place bs)))
in_batch before [] place n d within h until = absurd (omega (arith, within))
in_batch before (b ∷ bs) zero n d within h until =
    element_of_append b.messages (sent_in bs) n (omega (arith, until, length-append b.messages [])) ∙ ap (slice_get b.messages) (omega arith)
in_batch before (b ∷ bs) (suc place) n d within h until =
    let count = length b.messages in
    let here = length-append b.messages (sent_in (take place bs)) in
    let there = length-append b.messages (sent_in (take (suc place) bs)) in
    let rest : n ≡ count + (n - count) = omega (arith, h, here) in
    ap (element_at (b.messages ++ sent_in bs)) rest
    ∙ (element_past b.messages (sent_in bs) (n - count)
    ∙ (in_batch before bs place (n - count) d (omega (arith, within)) (omega (arith, h, here)) (omega (arith, until, there, h, here))
    ∙ ap (slice_get (get_or bs place d).messages) (omega (arith, h, here))))

pub sent_push : (bs : List Batch) (b : Batch) → sent_in (bs ++ b ∷ []) ≡ sent_in bs ++ b.messages
sent_push [] b = append-nil b.messages
sent_push (c ∷ bs) b = ap (λ rest. c.messages ++ rest) (sent_push bs b) ∙ sym (append_assoc c.messages (sent_in bs) b.messages)

pub numbered_push : (before : ℕ) (bs : List Batch) (b : Batch) → AreNumbered before bs → b.first ≡ suc (before + length (sent_in bs)) → AreNumbered before (bs ++ b ∷ [])
numbered_push before [] b h e = (e ∙ omega arith, tt)
numbered_push before (c ∷ bs) b h e =
    (h.0, numbered_push (before + length c.messages) bs b h.1 (e ∙ omega (arith, length-append c.messages (sent_in bs))))

pub first_at : (bs : List Batch) (place : ℕ) (b : Batch) → AreNumbered 0 bs → place < length bs → b ≡ get_or bs place b → b.first ≡ suc (length (sent_in (take place bs)))
first_at bs place b h within is = ap (λ (x : Batch). x.first) is ∙ (first_is 0 bs place b h within ∙ omega arith)

-- the middle of two places, where they are apart
pub between : (low high : ℕ) → 1 < high - low → (low < low + (high - low) / 2) × (low + (high - low) / 2 < high)
between low high h = (omega (arith, h), omega (arith, h))

pub begun_after : (bs : List Batch) (place number : ℕ) (b : Batch) → AreNumbered 0 bs → place < length bs → b ≡ get_or bs place b → b.first ≤ number → length (sent_in (take place bs)) < number
begun_after bs place number b h within is from = omega (arith, first_at bs place b h within is, from)

pub not_begun : (bs : List Batch) (place number : ℕ) (b : Batch) → AreNumbered 0 bs → place < length bs → b ≡ get_or bs place b → number < b.first → number ≤ length (sent_in (take place bs))
not_begun bs place number b h within is before = omega (arith, first_at bs place b h within is, before)

pub only_place : (bs : List Batch) (number low high : ℕ) → low < high → high - low ≤ 1 → number ≤ length (sent_in (take high bs)) → number ≤ length (sent_in (take (suc low) bs))
only_place bs number low high apart near h =
    let same : high ≡ suc low = omega (arith, apart, near) in
    subst (λ n. number ≤ length (sent_in (take n bs))) same h

pub first_until : (bs : List Batch) (number place : ℕ) (b : Batch) → AreNumbered 0 bs → IsIn bs number place → b ≡ get_or bs place b → b.first ≤ number
first_until bs number place b h at is = omega (arith, first_at bs place b h at.within is, at.after)

numbered_before : {X : Type 0} (xs : List X) (n : ℕ) → 0 < n → numbered_from_1 xs n ≡ element_at xs (n - 1)
numbered_before xs zero h = absurd (omega (arith, h))
numbered_before xs (suc n) h = ap (element_at xs) (omega arith)

-- the message of a number in its batch
pub got : (bs : List Batch) (number place : ℕ) (b : Batch) → AreNumbered 0 bs → IsIn bs number place → b ≡ get_or bs place b → slice_get b.messages (number - b.first) ≡ numbered_from_1 (sent_in bs) number
got bs number place b h at is =
    let first = first_at bs place b h at.within is in
    sym (numbered_before (sent_in bs) number (omega (arith, at.after))
    ∙ (in_batch 0 bs place (number - 1) b at.within (omega (arith, at.after)) (omega (arith, at.after, at.until))
    ∙ (ap (λ (x : Batch). slice_get x.messages (number - 1 - length (sent_in (take place bs)))) (sym is)
    ∙ ap (slice_get b.messages) (omega (arith, first, at.after)))))

-- a batch more
pub sent_so : (bs after : List Batch) (count : ℕ) (messages : List Message) (more : ℕ) → count ≡ length (sent_in bs) → AreNumbered 0 bs → more ≡ length messages
    → after ≡ bs ++ record { first = count + 1; messages = messages } ∷ [] → (count + more ≡ length (sent_in after)) × AreNumbered 0 after
sent_so bs after count messages more count_is h more_is after_is =
    let b : Batch = record { first = count + 1; messages = messages } in (
      omega (arith, count_is, more_is, length-append (sent_in bs) messages) ∙ sym (ap length (ap sent_in after_is ∙ sent_push bs b)),
      subst (AreNumbered 0) (sym after_is) (numbered_push 0 bs b h (omega (arith, count_is))),
    )
