-- What was stored in a chunk, by its replica's blocks and by what was noted: a replica that is put, written over, read, and of which a byte rots.
use Rattle.std.proofs.Common.{◌≡◌, ◌⊎◌, ℕ, zero, suc, ◌+◌, ◌-◌, ◌*◌, ◌/◌, ◌%◌, ◌≤◌, ◌<◌, Bool, true, false, cond, List, [], ◌∷◌, ◌++◌, map, length, take, drop, replicate, get_or, refl, sym, ap, ◌∙◌, inl, inr, arith}
use Rattle.std.specs.Prelude.{◌==◌, ◌&&◌, ◌||◌, max, not, nat_lt, nat_le}
use Rattle.std.specs.List.{list_any, range_with_len}
use Rattle.std.specs.Str.{bytes_eq}
use Rattle.std.proofs.Math.Nat.{mod-lt, div-zero, add-mul, suc-mul, one-mul, div-mul-le_self, div-eq_of_lt-le}
use Rattle.std.proofs.lemmas.Nat.{le-div, div-add-mod'}
use Rattle.std.proofs.lemmas.List.{get_or_append_left, get_or-take, get_or-drop, get_or-append-add, ext_get_or, length-drop, length-take-le, take_all, take_at, drop_at, drop-drop}
use Rattle.std.proofs.lemmas.Slice.Eq.{bytes_eq-Decides}
use Rattle.std.proofs.lemmas.Bool.{cases_lt, and_left, and_right, or_cases, or_parts, not-true, true≢false, eqb-true, eq-eqb, ltb-true, leb-true, le-leb}
use Rattle.sha2.specs.Sha256.{sha256}
use Rattle.sha2.proofs.Facts256.{length-sha256}
use Rattle.replica_store.specs.Replicas.{Replica, filled_to, block_in, digest_in, digests_of, block_matches, blocks_match, touched, read_end, is_readable, is_writable, own_bytes, written_over, stored_replica, written_replica, raised_replica, rotten_replica}
use Rattle.protocol.specs.Observer.{IntactChunk, Observer, intact_bytes}
use Rattle.protocol.specs.StoredBytes.{is_lost, stored_byte, stored_chunk, with_intact}
use Rattle.laws_base.specs.Replicas.{IsWithinChunk}
use Rattle.laws_base.proofs.Lengths.{length-joined, length-alike, length-filled, length-set, length-written}
use Rattle.laws_versions.specs.ReplicaImages.{with_bytes}

-- lists by their places

abbrev pub zeros : ℕ → List ℕ
zeros n = replicate n 0

pub alike_long : (n : ℕ) → length (zeros n) ≡ n
alike_long n = length-alike n 0

zero_at : (n j : ℕ) → get_or (zeros n) j 0 ≡ 0
zero_at zero j = refl
zero_at (suc n) zero = refl
zero_at (suc n) (suc j) = zero_at n j

zeros_behind : (xs : List ℕ) (n j : ℕ) → get_or (xs ++ zeros n) j 0 ≡ get_or xs j 0
zeros_behind [] n j = zero_at n j
zeros_behind (x ∷ xs) n zero = refl
zeros_behind (x ∷ xs) n (suc j) = zeros_behind xs n j

filled_at : (size : ℕ) (xs : List ℕ) (j : ℕ) → get_or (filled_to size xs) j 0 ≡ get_or xs j 0
filled_at size xs j = zeros_behind xs (size - length xs) j

ranged_at : (f : ℕ → ℕ) (first n p : ℕ) → p < n → get_or (map f (range_with_len first n)) p 0 ≡ f (first + p)
ranged_at f first zero p less = absurd (omega (arith, less))
ranged_at f first (suc n) zero less = ap f (let e : first ≡ first + 0 = omega arith in e)
ranged_at f first (suc n) (suc p) less = ranged_at f (first + 1) n p (omega (arith, less)) ∙ ap f (let e : first + 1 + p ≡ first + suc p = omega arith in e)

ranged_long : (f : ℕ → ℕ) (first n : ℕ) → length (map f (range_with_len first n)) ≡ n
ranged_long f first zero = refl
ranged_long f first (suc n) = ap suc (ranged_long f (first + 1) n)

taken_alike : (n : ℕ) (xs ys : List ℕ) → length xs ≡ length ys → length (take n xs) ≡ length (take n ys)
taken_alike zero xs ys same = refl
taken_alike (suc n) [] [] same = refl
taken_alike (suc n) [] (y ∷ ys) same = absurd (omega (arith, same))
taken_alike (suc n) (x ∷ xs) [] same = absurd (omega (arith, same))
taken_alike (suc n) (x ∷ xs) (y ∷ ys) same = ap suc (taken_alike n xs ys (omega (arith, same)))

taken_short : (n : ℕ) (xs : List ℕ) → (length (take n xs) ≤ n) × (length (take n xs) ≤ length xs)
taken_short zero xs = (omega arith, omega arith)
taken_short (suc n) [] = (omega arith, omega arith)
taken_short (suc n) (x ∷ xs) = let rest = taken_short n xs in let a = rest.0 in let b = rest.1 in (omega (arith, a), omega (arith, b))

-- a range of two lists that are as long, by its places
part_same : (first count : ℕ) (xs ys : List ℕ) → length xs ≡ length ys → ((j : ℕ) → first ≤ j → j < first + count → j < length xs → get_or xs j 0 ≡ get_or ys j 0)
    → take count (drop first xs) ≡ take count (drop first ys)
part_same first count xs ys long same =
    ext_get_or 0 (take count (drop first xs)) (take count (drop first ys)) (taken_alike count (drop first xs) (drop first ys) (length-drop first xs ∙ ap (λ (n : ℕ). n - first) long ∙ sym (length-drop first ys)))
    (λ i less.
    let short = taken_short count (drop first xs) in
    let at_most = short.0 in
    let in_rest = short.1 in
    let left = length-drop first xs in
    let low : i < count = omega (arith, less, at_most) in
    get_or-take count (drop first xs) i 0 low ∙ get_or-drop first xs i 0
    ∙ same (first + i) (omega arith) (omega (arith, low)) (omega (arith, less, in_rest, left))
    ∙ sym (get_or-drop first ys i 0) ∙ sym (get_or-take count (drop first ys) i 0 low))

-- bytes in the place of others
module _ (old : List ℕ) (offset : ℕ) (new : List ℕ) (fits : offset + length new ≤ length old) where
  first_long : length (take offset old) ≡ offset
  first_long = length-take-le offset old (omega (arith, fits))

  both_long : length (take offset old ++ new) ≡ offset + length new
  both_long = let all = length-joined (take offset old) new in omega (arith, all, first_long)

  over_inside : (j : ℕ) → offset ≤ j → j < offset + length new → get_or (written_over old offset new) j 0 ≡ get_or new (j - offset) 0
  over_inside j from inside =
      get_or_append_left (take offset old ++ new) (drop (offset + length new) old) 0 j (omega (arith, inside, both_long))
      ∙ ap (λ (n : ℕ). get_or (take offset old ++ new) n 0) (let e : j ≡ length (take offset old) + (j - offset) = omega (arith, from, first_long) in e)
      ∙ get_or-append-add (take offset old) new (j - offset) 0

  over_outside : (j : ℕ) → (j < offset) ⊎ (offset + length new ≤ j) → get_or (written_over old offset new) j 0 ≡ get_or old j 0
  over_outside j where_ =
      elim (where_) [
        | inl before ↦
            get_or_append_left (take offset old ++ new) (drop (offset + length new) old) 0 j (omega (arith, before, both_long))
            ∙ get_or_append_left (take offset old) new 0 j (omega (arith, before, first_long)) ∙ get_or-take offset old j 0 before
        | inr behind ↦
            ap (λ (n : ℕ). get_or (take offset old ++ new ++ drop (offset + length new) old) n 0) (let e : j ≡ length (take offset old ++ new) + (j - (offset + length new)) = omega (arith, behind, both_long) in e)
            ∙ get_or-append-add (take offset old ++ new) (drop (offset + length new) old) (j - (offset + length new)) 0
            ∙ get_or-drop (offset + length new) old (j - (offset + length new)) 0
            ∙ ap (λ (n : ℕ). get_or old n 0) (let e : offset + length new + (j - (offset + length new)) ≡ j = omega (arith, behind) in e)
      ]

  -- a range of what was written
  over_part : (at size : ℕ) → at + size ≤ length new → take size (drop (offset + at) (written_over old offset new)) ≡ take size (drop at new)
  over_part at size within =
      ext_get_or 0 (take size (drop (offset + at) (written_over old offset new))) (take size (drop at new)) (whole ∙ sym part)
      (λ i less.
      let low : i < size = omega (arith, less, whole) in
      get_or-take size (drop (offset + at) (written_over old offset new)) i 0 low ∙ get_or-drop (offset + at) (written_over old offset new) i 0
      ∙ over_inside (offset + at + i) (omega arith) (omega (arith, low, within))
      ∙ ap (λ (n : ℕ). get_or new n 0) (let e : offset + at + i - offset ≡ at + i = omega arith in e)
      ∙ sym (get_or-drop at new i 0) ∙ sym (get_or-take size (drop at new) i 0 low))
    where
      whole : length (take size (drop (offset + at) (written_over old offset new))) ≡ size
      whole =
          length-take-le size (drop (offset + at) (written_over old offset new))
          (let left = length-drop (offset + at) (written_over old offset new) in let long = length-written old offset new fits in omega (arith, left, long, within, fits))

      part : length (take size (drop at new)) ≡ size
      part = length-take-le size (drop at new) (let left = length-drop at new in omega (arith, left, within))

-- a list that bytes are written into
module _ (old : List ℕ) (offset : ℕ) (new : List ℕ) where
  abbrev begun : List ℕ
  begun = take offset old ++ replicate (offset - length old) 0

  begun_long : length begun ≡ offset
  begun_long =
      let both = length-joined (take offset old) (replicate (offset - length old) 0) in
      let filled = alike_long (offset - length old) in
      elim (cases_lt (length old) offset) [
        | inl short ↦ let all = ap length (take_all offset old (omega (arith, short))) in omega (arith, short, all, both, filled)
        | inr long ↦ let some = length-take-le offset old long in omega (arith, long, some, both, filled)
      ]

  with_end : length (begun ++ new) ≡ offset + length new
  with_end = let whole = length-joined begun new in omega (arith, whole, begun_long)

  pub with_long : length (with_bytes old offset new) ≡ (offset + length new) + (length old - (offset + length new))
  with_long = let whole = length-joined (begun ++ new) (drop (offset + length new) old) in let left = length-drop (offset + length new) old in omega (arith, whole, with_end, left)

  with_inside : (j : ℕ) → offset ≤ j → j < offset + length new → get_or (with_bytes old offset new) j 0 ≡ get_or new (j - offset) 0
  with_inside j from inside =
      get_or_append_left (begun ++ new) (drop (offset + length new) old) 0 j (omega (arith, inside, with_end))
      ∙ ap (λ (n : ℕ). get_or (begun ++ new) n 0) (let e : j ≡ length begun + (j - offset) = omega (arith, from, begun_long) in e)
      ∙ get_or-append-add begun new (j - offset) 0

  with_outside : (j : ℕ) → (j < offset) ⊎ (offset + length new ≤ j) → get_or (with_bytes old offset new) j 0 ≡ get_or old j 0
  with_outside j where_ =
      elim (where_) [
        | inl before ↦
            get_or_append_left (begun ++ new) (drop (offset + length new) old) 0 j (omega (arith, before, with_end))
            ∙ get_or_append_left begun new 0 j (omega (arith, before, begun_long)) ∙ zeros_behind (take offset old) (offset - length old) j ∙ get_or-take offset old j 0 before
        | inr behind ↦
            ap (λ (n : ℕ). get_or (begun ++ new ++ drop (offset + length new) old) n 0) (let e : j ≡ length (begun ++ new) + (j - (offset + length new)) = omega (arith, behind, with_end) in e)
            ∙ get_or-append-add (begun ++ new) (drop (offset + length new) old) (j - (offset + length new)) 0
            ∙ get_or-drop (offset + length new) old (j - (offset + length new)) 0
            ∙ ap (λ (n : ℕ). get_or old n 0) (let e : offset + length new + (j - (offset + length new)) ≡ j = omega (arith, behind) in e)
      ]

inside_or_not : (offset stop j : ℕ) → ((offset ≤ j) × (j < stop)) ⊎ ((j < offset) ⊎ (stop ≤ j))
inside_or_not offset stop j = elim (cases_lt j offset) [ inl before ↦ inr (inl before) | inr from ↦ elim (cases_lt j stop) [ inl inside ↦ inl (from, inside) | inr behind ↦ inr (inr behind) ] ]

-- in a chunk that is filled with zeros
over_filled : (size : ℕ) (xs : List ℕ) (offset : ℕ) (new : List ℕ) → length xs ≤ size → offset + length new ≤ size → written_over (filled_to size xs) offset new ≡ filled_to size (with_bytes xs offset new)
over_filled size xs offset new short fits =
    ext_get_or 0 (written_over (filled_to size xs) offset new) (filled_to size (with_bytes xs offset new)) (before ∙ sym after)
    (λ j less. elim (inside_or_not offset (offset + length new) j) [
      | inl in_ ↦ over_inside (filled_to size xs) offset new room j in_.0 in_.1 ∙ sym (with_inside xs offset new j in_.0 in_.1) ∙ sym (filled_at size (with_bytes xs offset new) j)
      | inr out ↦ over_outside (filled_to size xs) offset new room j out ∙ filled_at size xs j ∙ sym (with_outside xs offset new j out) ∙ sym (filled_at size (with_bytes xs offset new) j)
    ])
  where
    room : offset + length new ≤ length (filled_to size xs)
    room = let all = length-filled size xs short in omega (arith, all, fits)

    before : length (written_over (filled_to size xs) offset new) ≡ size
    before = length-written (filled_to size xs) offset new room ∙ length-filled size xs short

    after : length (filled_to size (with_bytes xs offset new)) ≡ size
    after = length-filled size (with_bytes xs offset new) (let long = with_long xs offset new in omega (arith, long, short, fits))

-- blocks and digests

in_block : (block n j : ℕ) → n * block ≤ j → j < n * block + block → j / block ≡ n
in_block block n j low high = div-eq_of_lt-le {k = n} block {m = j} low (let e : (n + 1) * block ≡ n * block + block = add-mul n 1 block ∙ ap (λ (x : ℕ). n * block + x) (one-mul block) in omega (arith, high, e))

div_below : (a b k : ℕ) → a ≤ b → a / k ≤ b / k
div_below a b zero less = let x = div-zero a in let y = div-zero b in omega (arith, x, y)
div_below a b (suc k) less = le-div (a / suc k) b (suc k) (omega arith) (let low = div-mul-le_self a (suc k) in omega (arith, low, less))

remainder_none : (a block n : ℕ) → a / block ≡ n → a % block ≡ 0 → a ≡ n * block
remainder_none a block n same none = let whole = div-add-mod' a block in let product = ap (λ (x : ℕ). x * block) same in omega (arith, whole, product, none)

below_next : (q block : ℕ) → 0 < block → q < q / block * block + block
below_next q block some = let whole = div-add-mod' q block in let less = mod-lt q some in omega (arith, whole, less)

and_first : (a b : Bool) → a && b ≡ true → a ≡ true
and_first true b h = refl
and_first false b h = h

and_second : (a b : Bool) → a && b ≡ true → b ≡ true
and_second true b h = h
and_second false b h = absurd (true≢false (sym h))

next_part : (size i : ℕ) (xs : List ℕ) → take size (drop (i * size) (drop size xs)) ≡ take size (drop (suc i * size) xs)
next_part size i xs = ap (λ (l : List ℕ). take size l) (drop-drop (i * size) size xs ∙ ap (λ (k : ℕ). drop k xs) (let e : size + i * size ≡ suc i * size = omega (arith, suc-mul i size) in e))

first_part : (size : ℕ) (xs : List ℕ) → take size (drop (0 * size) xs) ≡ take size xs
first_part size xs = let none : 0 * size ≡ 0 = omega arith in ap (λ (k : ℕ). take size (drop k xs)) none

digests_long : (block n : ℕ) (bytes : List ℕ) → length (digests_of block n bytes) ≡ 32 * n
digests_long block zero bytes = refl
digests_long block (suc n) bytes =
    omega (arith, length-joined (sha256 (take block bytes)) (digests_of block n (drop block bytes)), length-sha256 (take block bytes), digests_long block n (drop block bytes))

digest_at : (block k n : ℕ) (bytes : List ℕ) → n < k → take 32 (drop (n * 32) (digests_of block k bytes)) ≡ sha256 (take block (drop (n * block) bytes))
digest_at block zero n bytes less = absurd (omega (arith, less))
digest_at block (suc k) zero bytes less =
    first_part 32 (digests_of block (suc k) bytes) ∙ take_at (sha256 (take block bytes)) (digests_of block k (drop block bytes)) 32 (length-sha256 (take block bytes)) ∙ sym (ap sha256 (first_part block bytes))
digest_at block (suc k) (suc n) bytes less =
    sym (next_part 32 n (digests_of block (suc k) bytes))
    ∙ ap (λ (l : List ℕ). take 32 (drop (n * 32) l)) (drop_at (sha256 (take block bytes)) (digests_of block k (drop block bytes)) 32 (length-sha256 (take block bytes)))
    ∙ digest_at block k n (drop block bytes) (omega (arith, less))
    ∙ ap sha256 (next_part block n bytes)

-- a block that matches has a digest
match_inside : (block : ℕ) (r : Replica) (n : ℕ) → block_matches block r n ≡ true → 32 * n < length r.digests
match_inside block r n is =
    let same : sha256 (block_in block n r.bytes) ≡ digest_in n r.digests = (bytes_eq-Decides (sha256 (block_in block n r.bytes)) (digest_in n r.digests)).0 is in
    let long = length-sha256 (block_in block n r.bytes) in
    let alike = ap length same in
    let short = (taken_short 32 (drop (n * 32) r.digests)).1 in
    let left = length-drop (n * 32) r.digests in
    omega (arith, long, alike, short, left)

found_of_match : (block : ℕ) (r : Replica) (n : ℕ) → block_matches block r n ≡ true → is_lost block r n ≡ false
found_of_match block r n is = and_right (nat_lt (32 * n) (length r.digests)) (not (block_matches block r n)) (ap not is)

-- each block that a range touches matches
each_passes : (test : ℕ → Bool) (a n : ℕ) → not (list_any (λ k. not (test k)) (range_with_len a n)) ≡ true → (k : ℕ) → a ≤ k → k < a + n → test k ≡ true
each_passes test a zero h k low less = absurd (omega (arith, low, less))
each_passes test a (suc n) h k low less =
    let parts = or_parts (not (test a)) (list_any (λ i. not (test i)) (range_with_len (a + 1) n)) (not-true (not (test a) || list_any (λ i. not (test i)) (range_with_len (a + 1) n)) h) in
    elim (cases_lt a k) [
      | inl later ↦ each_passes test (a + 1) n (ap not parts.1) k (omega (arith, later)) (omega (arith, less))
      | inr here ↦ let same : k ≡ a = omega (arith, here, low) in ap test same ∙ twice_not (test a) parts.0
    ]
  where
    twice_not : (b : Bool) → not b ≡ false → b ≡ true
    twice_not true is = refl
    twice_not false is = absurd (true≢false is)

touched_match : (block : ℕ) (r : Replica) (offset stop : ℕ) → blocks_match block r offset stop ≡ true → (n : ℕ) → offset / block ≤ n → n ≤ (stop - 1) / block → block_matches block r n ≡ true
touched_match block r offset stop h n low high = each_passes (block_matches block r) (offset / block) (touched block offset stop) h n low (omega (arith, low, high))

-- what was stored

module _ (o : Observer) (index handle block : ℕ) where
  pub chunk_long : (r : Replica) → length (stored_chunk o index handle block r) ≡ length r.bytes
  chunk_long r = ranged_long (λ place. stored_byte o index handle block r place) 0 (length r.bytes)

  byte_at : (r : Replica) (p : ℕ) → p < length r.bytes → get_or (stored_chunk o index handle block r) p 0 ≡ stored_byte o index handle block r p
  byte_at r p less = ranged_at (λ place. stored_byte o index handle block r place) 0 (length r.bytes) p less ∙ ap (λ (place : ℕ). stored_byte o index handle block r place) (let e : 0 + p ≡ p = omega arith in e)

  byte_here : (r : Replica) (p : ℕ) → is_lost block r (p / block) ≡ false → stored_byte o index handle block r p ≡ get_or r.bytes p 0
  byte_here r p is = ap (λ (b : Bool). cond b (get_or (intact_bytes o.intact index handle) p 0) (get_or r.bytes p 0)) is

  byte_matched : (r : Replica) (p : ℕ) → block_matches block r (p / block) ≡ true → stored_byte o index handle block r p ≡ get_or r.bytes p 0
  byte_matched r p is = byte_here r p (found_of_match block r (p / block) is)

  -- two replicas of as many bytes, whose stored bytes are alike
  chunks_alike : (r : Replica) (xs : List ℕ) → length r.bytes ≡ length xs → ((p : ℕ) → p < length r.bytes → stored_byte o index handle block r p ≡ get_or xs p 0) → stored_chunk o index handle block r ≡ xs
  chunks_alike r xs long each =
      ext_get_or 0 (stored_chunk o index handle block r) xs (chunk_long r ∙ long) (λ p less. let all = chunk_long r in let low : p < length r.bytes = omega (arith, less, all) in byte_at r p low ∙ each p low)

  -- a replica that is put

  module _ (chunk version serial : ℕ) (bytes : List ℕ) where
    abbrev made : Replica
    made = stored_replica chunk block version serial bytes

    made_found : (n : ℕ) → is_lost block made n ≡ false
    made_found n = by_test (nat_lt (32 * n) (length made.digests)) refl
      where
        by_test : (b : Bool) → nat_lt (32 * n) (length made.digests) ≡ b → is_lost block made n ≡ false
        by_test true is =
            let low = ltb-true (32 * n) (length made.digests) is in
            let long = digests_long block (chunk / block) (filled_to chunk bytes) in
            found_of_match block made n
            ((bytes_eq-Decides (sha256 (block_in block n made.bytes)) (digest_in n made.digests)).1 (sym (digest_at block (chunk / block) n (filled_to chunk bytes) (omega (arith, low, long)))))
        by_test false is = and_left (nat_lt (32 * n) (length made.digests)) (not (block_matches block made n)) is

    pub put_chunk : stored_chunk o index handle block made ≡ filled_to chunk bytes
    put_chunk = chunks_alike made made.bytes refl (λ p less. byte_here made p (made_found (p / block)))

  -- a byte rots

  module _ (r : Replica) where
    noted : intact_bytes (with_intact o index handle block r).intact index handle ≡ stored_chunk o index handle block r
    noted =
        ap (λ (b : Bool). cond b (stored_chunk o index handle block r) (intact_bytes o.intact index handle))
        (ap (λ (b : Bool). b && (handle == handle)) (eq-eqb index index refl) ∙ eq-eqb handle handle refl)

    -- before it is found to have rotted
    pub rot_chunk_before : stored_chunk (with_intact o index handle block r) index handle block r ≡ stored_chunk o index handle block r
    rot_chunk_before =
        ext_get_or 0 (stored_chunk (with_intact o index handle block r) index handle block r) (stored_chunk o index handle block r) (now_long ∙ sym (chunk_long r))
        (λ p less.
        let low : p < length r.bytes = omega (arith, less, now_long) in
        ranged_at (λ place. stored_byte (with_intact o index handle block r) index handle block r place) 0 (length r.bytes) p low
        ∙ ap (λ (place : ℕ). stored_byte (with_intact o index handle block r) index handle block r place) (let e : 0 + p ≡ p = omega arith in e)
        ∙ each p low ∙ sym (byte_at r p low))
      where
        now_long : length (stored_chunk (with_intact o index handle block r) index handle block r) ≡ length r.bytes
        now_long = ranged_long (λ place. stored_byte (with_intact o index handle block r) index handle block r place) 0 (length r.bytes)

        by_test : (p : ℕ) → p < length r.bytes → (b : Bool) → is_lost block r (p / block) ≡ b
            → cond b (get_or (intact_bytes (with_intact o index handle block r).intact index handle) p 0) (get_or r.bytes p 0) ≡ stored_byte o index handle block r p
        by_test p low true is = ap (λ (xs : List ℕ). get_or xs p 0) noted ∙ byte_at r p low
        by_test p low false is = sym (byte_here r p is)

        each : (p : ℕ) → p < length r.bytes → stored_byte (with_intact o index handle block r) index handle block r p ≡ stored_byte o index handle block r p
        each p low = by_test p low (is_lost block r (p / block)) refl

    pub rot_chunk_after : (now : Replica) → bytes_eq (stored_chunk (with_intact o index handle block r) index handle block now) (stored_chunk o index handle block r) ≡ true
        → stored_chunk (with_intact o index handle block r) index handle block now ≡ stored_chunk o index handle block r
    rot_chunk_after now kept = (bytes_eq-Decides (stored_chunk (with_intact o index handle block r) index handle block now) (stored_chunk o index handle block r)).0 kept

  -- a replica that is read

  module _ (r : Replica) (long : r.count ≤ length r.bytes) where
    pub read_part : (offset count : ℕ) → is_readable block r offset count ≡ true → take count (drop offset (own_bytes r)) ≡ take count (drop offset (take r.count (stored_chunk o index handle block r)))
    read_part offset count readable =
        part_same offset count (own_bytes r) (take r.count (stored_chunk o index handle block r)) (own_long ∙ sym stored_long)
        (λ j from low inside.
        let near : j < r.count = omega (arith, inside, own_long) in
        get_or-take r.count r.bytes j 0 near ∙ sym (byte_matched r j (matches j from low near)) ∙ sym (byte_at r j (omega (arith, near, long))) ∙ sym (get_or-take r.count (stored_chunk o index handle block r) j 0 near))
      where
        stop : ℕ
        stop = read_end r offset count

        own_long : length (own_bytes r) ≡ r.count
        own_long = length-take-le r.count r.bytes long

        stored_long : length (take r.count (stored_chunk o index handle block r)) ≡ r.count
        stored_long = length-take-le r.count (stored_chunk o index handle block r) (let all = chunk_long r in omega (arith, all, long))

        matches : (j : ℕ) → offset ≤ j → j < offset + count → j < r.count → block_matches block r (j / block) ≡ true
        matches j from low near =
            let end_low : j < stop = omega (arith, low, near) in
            elim (or_cases (nat_le stop offset) (blocks_match block r offset stop) readable) [
              | inl empty ↦ let none = leb-true stop offset empty in absurd (omega (arith, none, from, end_low))
              | inr all ↦ touched_match block r offset stop all (j / block) (div_below offset j block from) (div_below j (stop - 1) block (omega (arith, end_low)))
            ]

    pub read_whole : is_readable block r 0 r.count ≡ true → own_bytes r ≡ take r.count (stored_chunk o index handle block r)
    read_whole readable =
        sym (take_all r.count (own_bytes r) (let most = (taken_short r.count r.bytes).0 in omega (arith, most)))
        ∙ read_part 0 r.count readable
        ∙ take_all r.count (take r.count (stored_chunk o index handle block r)) (let most = (taken_short r.count (stored_chunk o index handle block r)).0 in omega (arith, most))

  -- a write over part of a replica

  module _ (r : Replica) (serial offset : ℕ) (content : List ℕ) (whole : length r.digests ≡ 32 * (length r.bytes / block)) (fits : offset + length content ≤ length r.bytes)
      (writable : is_writable block r offset (offset + length content) ≡ true) where
    abbrev stop : ℕ
    stop = offset + length content

    abbrev now : Replica
    now = written_replica block r serial offset content

    abbrev first : ℕ
    first = offset / block

    abbrev last : ℕ
    last = (stop - 1) / block

    abbrev fresh : List ℕ
    fresh = digests_of block (touched block offset stop) (drop (offset / block * block) now.bytes)

    -- a range that has bytes is of whole blocks, or its first and last blocks match
    checked : offset < stop → (((offset % block) == 0) && ((stop % block) == 0) ≡ true) ⊎ (block_matches block r first && block_matches block r last ≡ true)
    checked some =
        elim (or_cases (nat_le stop offset || (((offset % block) == 0) && ((stop % block) == 0))) (block_matches block r first && block_matches block r last) writable) [
          | inl one ↦ elim (or_cases (nat_le stop offset) (((offset % block) == 0) && ((stop % block) == 0)) one) [
            | inl empty ↦ absurd (let none = leb-true stop offset empty in omega (arith, none, some))
            | inr aligned ↦ inl aligned
          ]
          | inr both ↦ inr both
        ]

    ends_whole : ((offset % block) == 0) && ((stop % block) == 0) ≡ true → stop ≡ stop / block * block
    ends_whole aligned = remainder_none stop block (stop / block) refl (eqb-true (stop % block) 0 (and_second ((offset % block) == 0) ((stop % block) == 0) aligned))

    -- its last block has a digest
    last_inside : offset < stop → 32 * last < length r.digests
    last_inside some =
        elim (checked some) [
          | inl aligned ↦
              let end_is = ends_whole aligned in
              let room : stop / block ≤ length r.bytes / block = div_below stop (length r.bytes) block fits in
              let before : last < stop / block = last_before end_is in
              omega (arith, whole, room, before)
          | inr both ↦ match_inside block r last (and_second (block_matches block r first) (block_matches block r last) both)
        ]
      where
        last_before : stop ≡ stop / block * block → last < stop / block
        last_before end_is =
            elim (cases_lt last (stop / block)) [
              | inl less ↦ less
              | inr most ↦
                  let low : last * block ≤ stop - 1 = div-mul-le_self (stop - 1) block in
                  let same : last ≡ stop / block = let down : last ≤ stop / block = div_below (stop - 1) stop block (omega arith) in omega (arith, most, down) in
                  let product = ap (λ (n : ℕ). n * block) same in
                  absurd (omega (arith, low, product, end_is, some))
            ]

    first_last : offset < stop → first ≤ last
    first_last some = div_below offset (stop - 1) block (omega (arith, some))

    fresh_fits : offset < stop → 32 * first + length fresh ≤ length r.digests
    fresh_fits some =
        let long = digests_long block (touched block offset stop) (drop (offset / block * block) now.bytes) in
        let in_ = last_inside some in
        let order = first_last some in
        omega (arith, long, in_, order, whole)

    digests_are : offset < stop → now.digests ≡ written_over r.digests (32 * first) fresh
    digests_are some = ap (λ (b : Bool). cond b r.digests (written_over r.digests (32 * first) fresh)) (not_empty (nat_le stop offset) refl)
      where
        not_empty : (b : Bool) → nat_le stop offset ≡ b → nat_le stop offset ≡ false
        not_empty true is = absurd (let none = leb-true stop offset is in omega (arith, none, some))
        not_empty false is = is

    -- a block that is touched has the digest of its bytes
    fresh_matches : (some : offset < stop) (n : ℕ) → first ≤ n → n ≤ last → block_matches block now n ≡ true
    fresh_matches some n low high =
        (bytes_eq-Decides (sha256 (block_in block n now.bytes)) (digest_in n now.digests)).1 (sym digest_is)
      where
        long : length fresh ≡ 32 * touched block offset stop
        long = digests_long block (touched block offset stop) (drop (offset / block * block) now.bytes)

        placed : offset / block * block + (n - first) * block ≡ n * block
        placed =
            let sum : (first + (n - first)) * block ≡ first * block + (n - first) * block = add-mul first (n - first) block in
            let at : first + (n - first) ≡ n = omega (arith, low) in
            let product = ap (λ (k : ℕ). k * block) at in
            omega (arith, sum, product)

        digest_is : digest_in n now.digests ≡ sha256 (block_in block n now.bytes)
        digest_is =
            ap (λ (ds : List ℕ). take 32 (drop (n * 32) ds)) (digests_are some)
            ∙ ap (λ (k : ℕ). take 32 (drop k (written_over r.digests (32 * first) fresh))) (let e : n * 32 ≡ 32 * first + (n - first) * 32 = omega (arith, low) in e)
            ∙ over_part r.digests (32 * first) fresh (fresh_fits some) ((n - first) * 32) 32 (omega (arith, long, low, high))
            ∙ digest_at block (touched block offset stop) (n - first) (drop (offset / block * block) now.bytes) (omega (arith, low, high))
            ∙ ap (λ (l : List ℕ). sha256 (take block l)) (drop-drop ((n - first) * block) (offset / block * block) now.bytes ∙ ap (λ (k : ℕ). drop k now.bytes) placed)

    -- a place that isn't written, in a block that is touched: the block was checked
    edge_matches : offset < stop → (p : ℕ) → (p < offset) ⊎ (stop ≤ p) → first ≤ p / block → p / block ≤ last → block_matches block r (p / block) ≡ true
    edge_matches some p outside low high =
        elim (outside) [
          | inl before ↦
              let same : first ≡ p / block = let down : p / block ≤ first = div_below p offset block (omega (arith, before)) in omega (arith, low, down) in
              elim (checked some) [
                | inl aligned ↦
                    let none : offset % block ≡ 0 = eqb-true (offset % block) 0 (and_first ((offset % block) == 0) ((stop % block) == 0) aligned) in
                    let is = remainder_none offset block (p / block) same none in
                    let from = div-mul-le_self p block in
                    absurd (omega (arith, is, before, from))
                | inr both ↦ ap (λ (k : ℕ). block_matches block r k) (sym same) ∙ and_first (block_matches block r first) (block_matches block r last) both
              ]
          | inr behind ↦
              let same : last ≡ p / block = let up : last ≤ p / block = div_below (stop - 1) p block (omega (arith, behind)) in omega (arith, high, up) in
              elim (checked some) [
                | inl aligned ↦
                    let end_is = ends_whole aligned in
                    let from : last * block ≤ stop - 1 = div-mul-le_self (stop - 1) block in
                    let product = ap (λ (k : ℕ). k * block) same in
                    let up : stop / block ≤ p / block = div_below stop p block behind in
                    let down : last ≤ stop / block = div_below (stop - 1) stop block (omega arith) in
                    let ends : stop / block ≡ p / block = omega (arith, up, down, same) in
                    let end_product = ap (λ (k : ℕ). k * block) ends in
                    absurd (omega (arith, end_is, from, product, end_product, some))
                | inr both ↦ ap (λ (k : ℕ). block_matches block r k) (sym same) ∙ and_second (block_matches block r first) (block_matches block r last) both
              ]
        ]

    -- a block that isn't touched is as it was
    module _ (n : ℕ) (apart : (offset < stop) → (n < first) ⊎ (last < n)) where
      untouched : (j : ℕ) → j / block ≡ n → (j < offset) ⊎ (stop ≤ j)
      untouched j here =
          elim (inside_or_not offset stop j) [
            | inr out ↦ out
            | inl in_ ↦
                let from = in_.0 in
                let inside = in_.1 in
                let low : first ≤ j / block = div_below offset j block from in
                let high : j / block ≤ last = div_below j (stop - 1) block (omega (arith, inside)) in
                elim (apart (omega (arith, from, inside))) [
                  | inl less ↦ absurd (omega (arith, less, low, here))
                  | inr more ↦ absurd (omega (arith, more, high, here))
                ]
          ]

      block_same : block_in block n now.bytes ≡ block_in block n r.bytes
      block_same =
          part_same (n * block) block now.bytes r.bytes (length-written r.bytes offset content fits)
          (λ j low high inside. over_outside r.bytes offset content fits j (untouched j (in_block block n j low high)))

      digests_alike : length now.digests ≡ length r.digests
      digests_alike =
          elim (cases_lt offset stop) [
            | inl some ↦ ap length (digests_are some) ∙ length-written r.digests (32 * first) fresh (fresh_fits some)
            | inr none ↦ ap length (empty_digests none)
          ]
        where
          empty_digests : stop ≤ offset → now.digests ≡ r.digests
          empty_digests none = ap (λ (b : Bool). cond b r.digests (written_over r.digests (32 * first) fresh)) (le-leb stop offset none)

      digest_same : digest_in n now.digests ≡ digest_in n r.digests
      digest_same =
          elim (cases_lt offset stop) [
            | inr none ↦ ap (λ (b : Bool). digest_in n (cond b r.digests (written_over r.digests (32 * first) fresh))) (le-leb stop offset none)
            | inl some ↦
                let long = digests_long block (touched block offset stop) (drop (offset / block * block) now.bytes) in
                let order = first_last some in
                ap (λ (ds : List ℕ). digest_in n ds) (digests_are some)
                ∙ part_same (n * 32) 32 (written_over r.digests (32 * first) fresh) r.digests (length-written r.digests (32 * first) fresh (fresh_fits some))
                (λ j low high inside. over_outside r.digests (32 * first) fresh (fresh_fits some) j
                (elim (apart some) [
                  | inl less ↦ inl (omega (arith, less, high))
                  | inr more ↦ inr (omega (arith, more, low, long, order))
                ]))
          ]

      lost_same : is_lost block now n ≡ is_lost block r n
      lost_same =
          ap (λ (k : ℕ). nat_lt (32 * n) k && not (bytes_eq (sha256 (block_in block n now.bytes)) (digest_in n now.digests))) digests_alike
          ∙ ap (λ (bs : List ℕ). nat_lt (32 * n) (length r.digests) && not (bytes_eq (sha256 bs) (digest_in n now.digests))) block_same
          ∙ ap (λ (ds : List ℕ). nat_lt (32 * n) (length r.digests) && not (bytes_eq (sha256 (block_in block n r.bytes)) ds)) digest_same

    -- each byte of a chunk that was written over
    abbrev IsWrittenAt : ℕ → Type 0
    IsWrittenAt p = stored_byte o index handle block now p ≡ get_or (written_over (stored_chunk o index handle block r) offset content) p 0

    room : offset + length content ≤ length (stored_chunk o index handle block r)
    room = let all = chunk_long r in omega (arith, all, fits)

    in_touched : (some : offset < stop) (p : ℕ) → p < length r.bytes → first ≤ p / block → p / block ≤ last → IsWrittenAt p
    in_touched some p inside low high =
        byte_matched now p (fresh_matches some (p / block) low high)
        ∙ elim (inside_or_not offset stop p) [
          | inl in_ ↦ over_inside r.bytes offset content fits p in_.0 in_.1 ∙ sym (over_inside (stored_chunk o index handle block r) offset content room p in_.0 in_.1)
          | inr out ↦ over_outside r.bytes offset content fits p out ∙ sym (byte_matched r p (edge_matches some p out low high)) ∙ sym (byte_at r p inside)
              ∙ sym (over_outside (stored_chunk o index handle block r) offset content room p out)
        ]

    in_other : (p : ℕ) → p < length r.bytes → ((offset < stop) → (p / block < first) ⊎ (last < p / block)) → IsWrittenAt p
    in_other p inside apart =
        let out = untouched (p / block) apart p refl in
        ap (λ (b : Bool). cond b (get_or (intact_bytes o.intact index handle) p 0) (get_or now.bytes p 0)) (lost_same (p / block) apart)
        ∙ ap (λ (x : ℕ). cond (is_lost block r (p / block)) (get_or (intact_bytes o.intact index handle) p 0) x) (over_outside r.bytes offset content fits p out)
        ∙ sym (byte_at r p inside) ∙ sym (over_outside (stored_chunk o index handle block r) offset content room p out)

    written_at : (p : ℕ) → p < length r.bytes → IsWrittenAt p
    written_at p inside =
        elim (cases_lt offset stop) [
          | inr none ↦ in_other p inside (λ some. absurd (omega (arith, none, some)))
          | inl some ↦ elim (cases_lt (p / block) first) [
            | inl before ↦ in_other p inside (λ _. inl before)
            | inr from ↦ elim (cases_lt last (p / block)) [
              | inl behind ↦ in_other p inside (λ _. inr behind)
              | inr to ↦ in_touched some p inside from to
            ]
          ]
        ]

    pub written_chunk : stored_chunk o index handle block now ≡ written_over (stored_chunk o index handle block r) offset content
    written_chunk =
        let long = length-written r.bytes offset content fits in
        chunks_alike now (written_over (stored_chunk o index handle block r) offset content) (long ∙ sym (length-written (stored_chunk o index handle block r) offset content room ∙ chunk_long r))
        (λ p less. written_at p (omega (arith, less, long)))

    pub written_digests : length now.digests ≡ length r.digests
    written_digests =
        elim (cases_lt offset stop) [
          | inl some ↦ ap length (digests_are some) ∙ length-written r.digests (32 * first) fresh (fresh_fits some)
          | inr none ↦ ap (λ (b : Bool). length (cond b r.digests (written_over r.digests (32 * first) fresh))) (le-leb stop offset none)
        ]

-- other replicas' notes say nothing
pub apart_chunk : (o : Observer) (index handle block : ℕ) (r : Replica) (other place b : ℕ) (x : Replica) → (index == other) && (handle == place) ≡ false
    → stored_chunk (with_intact o index handle block r) other place b x ≡ stored_chunk o other place b x
apart_chunk o index handle block r other place b x apart =
    ap (λ (bytes : List ℕ). map (λ p. cond (is_lost b x (p / b)) (get_or bytes p 0) (get_or x.bytes p 0)) (range_with_len 0 (length x.bytes)))
    (ap (λ (c : Bool). cond c (stored_chunk o index handle block r) (intact_bytes o.intact other place)) apart)

-- what is noted says what was stored, whatever else is observed
pub same_notes : (o u : Observer) (index handle block : ℕ) (r : Replica) → u.intact ≡ o.intact → stored_chunk u index handle block r ≡ stored_chunk o index handle block r
same_notes o u index handle block r same =
    ap (λ (notes : List IntactChunk). map (λ p. cond (is_lost block r (p / block)) (get_or (intact_bytes notes index handle) p 0) (get_or r.bytes p 0)) (range_with_len 0 (length r.bytes))) same

-- A replica of a chunk of so many bytes, in blocks of so many: it has a digest for each block, and past its own bytes zeros were stored.
pub record IsSound (chunk block : ℕ) (o : Observer) (index handle : ℕ) (r : Replica) : Type 0 where
  pub within : IsWithinChunk chunk r
  pub digests : length r.digests ≡ 32 * (chunk / block)
  pub rest : stored_chunk o index handle block r ≡ filled_to chunk (take r.count (stored_chunk o index handle block r))

-- its own bytes as they were stored
abbrev pub own_stored : ℕ → Observer → ℕ → ℕ → Replica → List ℕ
own_stored block o index handle r = take r.count (stored_chunk o index handle block r)

module _ (chunk block : ℕ) (o : Observer) (index handle : ℕ) where
  pub put_stored : (version serial : ℕ) (bytes : List ℕ) → length bytes ≤ chunk → own_stored block o index handle (stored_replica chunk block version serial bytes) ≡ bytes
  put_stored version serial bytes short = ap (λ (bs : List ℕ). take (length bytes) bs) (put_chunk o index handle block chunk version serial bytes) ∙ take_at bytes (replicate (chunk - length bytes) 0) (length bytes) refl

  pub put_sound : (version serial : ℕ) (bytes : List ℕ) → length bytes ≤ chunk → IsSound chunk block o index handle (stored_replica chunk block version serial bytes)
  put_sound version serial bytes short =
      record {
        within = (short, length-filled chunk bytes short);
        digests = digests_long block (chunk / block) (filled_to chunk bytes);
        rest = put_chunk o index handle block chunk version serial bytes ∙ ap (λ (bs : List ℕ). filled_to chunk bs) (sym (put_stored version serial bytes short));
      }

  module _ (r : Replica) (h : IsSound chunk block o index handle r) where
    pub stored_long : length (own_stored block o index handle r) ≡ r.count
    stored_long = length-take-le r.count (stored_chunk o index handle block r) (let all = chunk_long o index handle block r in let most = h.within.0 in let bytes = h.within.1 in omega (arith, all, most, bytes))

    module _ (serial offset : ℕ) (content : List ℕ) (fits : offset + length content ≤ chunk) (writable : is_writable block r offset (offset + length content) ≡ true) where
      abbrev after : Replica
      after = written_replica block r serial offset content

      in_bytes : offset + length content ≤ length r.bytes
      in_bytes = let bytes = h.within.1 in omega (arith, bytes, fits)

      whole_digests : length r.digests ≡ 32 * (length r.bytes / block)
      whole_digests = h.digests ∙ ap (λ (n : ℕ). 32 * (n / block)) (sym h.within.1)

      low_count : length (own_stored block o index handle r) ≤ chunk
      low_count = let most = h.within.0 in let all = stored_long in omega (arith, most, all)

      after_chunk : stored_chunk o index handle block after ≡ filled_to chunk (with_bytes (own_stored block o index handle r) offset content)
      after_chunk =
          written_chunk o index handle block r serial offset content whole_digests in_bytes writable
          ∙ ap (λ (bs : List ℕ). written_over bs offset content) h.rest ∙ over_filled chunk (own_stored block o index handle r) offset content low_count fits

      with_count : length (with_bytes (own_stored block o index handle r) offset content) ≡ max r.count (offset + length content)
      with_count = let long = with_long (own_stored block o index handle r) offset content in let all = stored_long in omega (arith, long, all)

      pub written_stored : own_stored block o index handle after ≡ with_bytes (own_stored block o index handle r) offset content
      written_stored =
          ap (λ (bs : List ℕ). take (max r.count (offset + length content)) bs) after_chunk
          ∙ take_at (with_bytes (own_stored block o index handle r) offset content) (replicate (chunk - length (with_bytes (own_stored block o index handle r) offset content)) 0) (max r.count (offset + length content)) with_count

      pub written_sound : IsSound chunk block o index handle after
      written_sound =
          record {
            within = (
              (let most = h.within.0 in omega (arith, most, fits)),
              length-written r.bytes offset content in_bytes ∙ h.within.1,
            );
            digests = written_digests o index handle block r serial offset content whole_digests in_bytes writable ∙ h.digests;
            rest = after_chunk ∙ ap (λ (bs : List ℕ). filled_to chunk bs) (sym written_stored);
          }

    pub raised_sound : (version : ℕ) → IsSound chunk block o index handle (raised_replica r version)
    raised_sound version = record { within = h.within; digests = h.digests; rest = h.rest }

    -- as a byte rots
    pub before_sound : IsSound chunk block (with_intact o index handle block r) index handle r
    before_sound =
        record {
          within = h.within;
          digests = h.digests;
          rest = rot_chunk_before o index handle block r ∙ h.rest ∙ ap (λ (bs : List ℕ). filled_to chunk (take r.count bs)) (sym (rot_chunk_before o index handle block r));
        }

    pub rotten_sound : (place byte : ℕ) → bytes_eq (stored_chunk (with_intact o index handle block r) index handle block (rotten_replica r place byte)) (stored_chunk o index handle block r) ≡ true
        → IsSound chunk block (with_intact o index handle block r) index handle (rotten_replica r place byte)
    rotten_sound place byte kept =
        let same = rot_chunk_after o index handle block r (rotten_replica r place byte) kept in
        record {
          within = (h.within.0, length-set r.bytes place byte ∙ h.within.1);
          digests = h.digests;
          rest = same ∙ h.rest ∙ ap (λ (bs : List ℕ). filled_to chunk (take r.count bs)) (sym same);
        }

    -- where as much is noted of it
    pub noted_sound : (u : Observer) → stored_chunk u index handle block r ≡ stored_chunk o index handle block r → IsSound chunk block u index handle r
    noted_sound u same =
        record { within = h.within; digests = h.digests; rest = same ∙ h.rest ∙ ap (λ (bs : List ℕ). filled_to chunk (take r.count bs)) (sym same) }
