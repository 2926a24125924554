-- Pages: what a place holds.
use Rattle.std.proofs.Common.{◌≡◌, ◌≢◌, ◌⊎◌, inl, inr, ℕ, zero, suc, ◌+◌, ◌-◌, ◌*◌, ◌/◌, ◌%◌, ◌<◌, ◌≤◌, Bool, true, false, ◌&&◌, List, [], ◌++◌, length, take, drop, replicate, refl, sym, ap, ◌∙◌, subst, arith, slice_set, length-append}
use Rattle.std.specs.Prelude.{slice_index_or, nat_lt}
use Rattle.std.proofs.lemmas.Bool.Decides.{nat_tests}
use Rattle.std.proofs.lemmas.List.{ext_get_or, get_or-append-add, get_or_append_left, get_or-drop, get_or-replicate, get_or-take, get_or_past, get_or-set_same, get_or-set_other, append_assoc, drop-drop, length-replicate, length-take-le, take-append-drop, take_at}
use Rattle.std.proofs.lemmas.List.FromFn.{get_or-map-range_with_len, length-map-range_with_len}
use Rattle.std.proofs.lemmas.Nat.{div-add-mod', div-mul-add}
use Rattle.std.proofs.Math.Nat.{mod-lt}
use Rattle.disk.specs.Bytes.{put_at, range_at}
use Rattle.disk.specs.Pages.{PagesState, byte_at, bytes_in, bytes_of, has_byte, has_range, page_at, page_size}
use Rattle.disk.proofs.Ranges.{length_put, length_range, put_changes}

-- places

pub place_is : (k : ℕ) → k / page_size * page_size + k % page_size ≡ k
place_is k = div-add-mod' k page_size

pub within_page : (k : ℕ) → k % page_size < page_size
within_page k = mod-lt k (omega arith)

pub div_is : (k i o : ℕ) → i * page_size + o ≡ k → o < page_size → k / page_size ≡ i
div_is k i o is below = ap (λ n. n / page_size) (sym is) ∙ div-mul-add i page_size o below

pub mod_is : (k i o : ℕ) → i * page_size + o ≡ k → o < page_size → k % page_size ≡ o
mod_is k i o is below = let same = div_is k i o is below in let here = place_is k in let here' = rw same at here in omega (arith, here', is)

pub div_le : (a b : ℕ) → a ≤ b → a / page_size ≤ b / page_size
div_le a b le = omega (arith, place_is a, place_is b, within_page a, within_page b, le)

-- lists by their places

pub below_or : (x y : ℕ) → (x < y) ⊎ (y ≤ x)
below_or x zero = inr (omega arith)
below_or zero (suc y) = inl (omega arith)
below_or (suc x) (suc y) = elim (below_or x y) [ inl h ↦ inl (omega (arith, h)) | inr h ↦ inr (omega (arith, h)) ]

pub get_put : (s w : List ℕ) (a k : ℕ) → a + length w ≤ length s → a ≤ k → k < a + length w → slice_index_or (put_at s a w) k 0 ≡ slice_index_or w (k - a) 0
get_put s w a k room from to =
    let front : length (take a s) ≡ a = length-take-le a s (omega (arith, room)) in
    let rest = drop (a + length w) s in
    let at : length (take a s) + (k - a) ≡ k = omega (arith, front, from) in
    let both : k < length (take a s ++ w) = omega (arith, length-append (take a s) w, front, to) in
    get_or_append_left (take a s ++ w) rest 0 k both
    ∙ ap (λ (n : ℕ). slice_index_or (take a s ++ w) n 0) (sym at)
    ∙ get_or-append-add (take a s) w (k - a) 0

pub get_before : (s w : List ℕ) (a k : ℕ) → a + length w ≤ length s → k < a → slice_index_or (put_at s a w) k 0 ≡ slice_index_or s k 0
get_before s w a k room below =
    let front : length (take a s) ≡ a = length-take-le a s (omega (arith, room)) in
    let both : k < length (take a s ++ w) = omega (arith, length-append (take a s) w, front, below) in
    get_or_append_left (take a s ++ w) (drop (a + length w) s) 0 k both
    ∙ get_or_append_left (take a s) w 0 k (omega (arith, front, below))
    ∙ get_or-take a s k 0 below

pub get_after : (s w : List ℕ) (a k : ℕ) → a + length w ≤ length s → a + length w ≤ k → slice_index_or (put_at s a w) k 0 ≡ slice_index_or s k 0
get_after s w a k room above =
    let n = a + length w in
    let front : length (take a s) ≡ a = length-take-le a s (omega (arith, room)) in
    let both : length (take a s ++ w) ≡ n = omega (arith, length-append (take a s) w, front) in
    let at : length (take a s ++ w) + (k - n) ≡ k = omega (arith, both, above) in
    let same : n + (k - n) ≡ k = omega (arith, above) in
    ap (λ (m : ℕ). slice_index_or (put_at s a w) m 0) (sym at)
    ∙ get_or-append-add (take a s ++ w) (drop n s) (k - n) 0
    ∙ get_or-drop n s (k - n) 0
    ∙ ap (λ (m : ℕ). slice_index_or s m 0) same

-- what stands after the end may as well be written out
pub get_padded : {X : Type 0} (xs : List X) (n i : ℕ) (d : X) → slice_index_or (xs ++ replicate n d) i d ≡ slice_index_or xs i d
get_padded {X = X} xs n i d = elim (below_or i (length xs)) [
  | inl below ↦ get_or_append_left xs (replicate n d) d i below
  | inr past ↦ (
      let at : length xs + (i - length xs) ≡ i = omega (arith, past) in
      ap (λ (m : ℕ). slice_index_or (xs ++ replicate n d) m d) (sym at)
      ∙ get_or-append-add xs (replicate n d) (i - length xs) d
      ∙ get_filled n (i - length xs) d
      ∙ sym (get_or_past xs i d past))
]
  where
    get_filled : (n j : ℕ) (d : X) → slice_index_or (replicate n d) j d ≡ d
    get_filled n j d = elim (below_or j n) [
      | inl below ↦ get_or-replicate n j d d below
      | inr past ↦ get_or_past (replicate n d) j d (omega (arith, length-replicate n d, past))
    ]

-- one write after another
pub put_put : (s x y : List ℕ) (at : ℕ) → at + length x + length y ≤ length s → put_at (put_at s at x) (at + length x) y ≡ put_at s at (x ++ y)
put_put s x y at room =
    let n = at + length x in
    let p = put_at s at x in
    let both : length (take at s ++ x) ≡ n = omega (arith, length-append (take at s) x, length-take-le at s (omega (arith, room))) in
    let front : take n p ≡ take at s ++ x = take_at (take at s ++ x) (drop n s) n both in
    let fit : at + length x ≤ length s = omega (arith, room) in
    let rest : drop (n + length y) p ≡ drop (n + length y) s = sym (drop-drop (length y) n p) ∙ ap (λ (l : List ℕ). drop (length y) l) (put_changes s x at fit).after ∙ drop-drop (length y) n s in
    let count : n + length y ≡ at + length (x ++ y) = omega (arith, length-append x y) in
    ap (λ (l : List ℕ). l ++ y ++ drop (n + length y) p) front
    ∙ ap (λ (l : List ℕ). take at s ++ x ++ y ++ l) rest
    ∙ ap (λ (l : List ℕ). l ++ drop (n + length y) s) (append_assoc (take at s) x y)
    ∙ ap (λ (m : ℕ). take at s ++ (x ++ y) ++ drop m s) count

pub put_nothing : (s : List ℕ) (at : ℕ) → put_at s at [] ≡ s
put_nothing s at =
    let same : at + 0 ≡ at = omega arith in
    ap (λ (m : ℕ). take at s ++ [] ++ drop m s) same
    ∙ append_assoc (take at s) [] (drop at s)
    ∙ take-append-drop at s

-- the bytes of pages

pub length_bytes : (p : PagesState) → length (bytes_of p) ≡ p.size
length_bytes p = length-map-range_with_len (byte_at p.pages) 0 p.size

pub get_byte : (p : PagesState) (k : ℕ) → k < p.size → slice_index_or (bytes_of p) k 0 ≡ byte_at p.pages k
get_byte p k below = get_or-map-range_with_len (byte_at p.pages) 0 p.size k k 0 below (omega arith)

pub same_bytes : (p q : PagesState) → q.size ≡ p.size → ((k : ℕ) → byte_at q.pages k ≡ byte_at p.pages k) → bytes_of q ≡ bytes_of p
same_bytes p q size same = ext_get_or 0 (bytes_of q) (bytes_of p) (length_bytes q ∙ size ∙ sym (length_bytes p)) (λ k below.
    let room : k < q.size = omega (arith, below, length_bytes q) in
    get_byte q k room ∙ same k ∙ sym (get_byte p k (omega (arith, room, size))))

-- a range within one page
pub range_in_page : (p : PagesState) (a n : ℕ) → a % page_size + n ≤ page_size → a + n ≤ p.size
    → range_at (bytes_of p) a n ≡ bytes_in (page_at p.pages (a / page_size)) (a % page_size) n
range_in_page p a n within room =
    let page = page_at p.pages (a / page_size) in
    let o = a % page_size in
    let count : length (range_at (bytes_of p) a n) ≡ n = length_range (bytes_of p) a n (omega (arith, room, length_bytes p)) in
    let other : length (bytes_in page o n) ≡ n = length-map-range_with_len (λ k. slice_index_or page k 0) o n in
    ext_get_or 0 (range_at (bytes_of p) a n) (bytes_in page o n) (count ∙ sym other) (λ j below.
    let less : j < n = omega (arith, below, count) in
    let at : a / page_size * page_size + (o + j) ≡ a + j = omega (arith, place_is a) in
    let small : o + j < page_size = omega (arith, within, less) in
    get_or-take n (drop a (bytes_of p)) j 0 less
    ∙ get_or-drop a (bytes_of p) j 0
    ∙ get_byte p (a + j) (omega (arith, room, less))
    ∙ ap (λ i. slice_index_or (page_at p.pages i) ((a + j) % page_size) 0) (div_is (a + j) (a / page_size) (o + j) at small)
    ∙ ap (λ i. slice_index_or page i 0) (mod_is (a + j) (a / page_size) (o + j) at small)
    ∙ sym (get_or-map-range_with_len (λ k. slice_index_or page k 0) o n j (o + j) 0 less refl))

-- pages that are there

pub and_true : (a b : Bool) → (a && b) ≡ true → (a ≡ true) × (b ≡ true)
and_true true b h = (refl, h)
and_true false b h = cc

pub has_place : (pages : List (List ℕ)) (at n k : ℕ) → has_range pages at n ≡ true → at ≤ k → k < at + n → has_byte pages k ≡ true
has_place pages at zero k h from to = absurd (omega (arith, from, to))
has_place pages at (suc n) k h from to =
    let is = and_true (has_byte pages at) (has_range pages (suc at) n) h in
    by (λ more. has_place pages (suc at) n k is.1 more (omega (arith, to))) is.0 (split (below_or at k))
  where
    split : (at < k) ⊎ (k ≤ at) → (at ≡ k) ⊎ (suc at ≤ k)
    split (inl more) = inr (omega (arith, more))
    split (inr less) = inl (omega (arith, less, from))

    by : (suc at ≤ k → has_byte pages k ≡ true) → has_byte pages at ≡ true → (at ≡ k) ⊎ (suc at ≤ k) → has_byte pages k ≡ true
    by on here (inl same) = subst (λ x. has_byte pages x ≡ true) same here
    by on here (inr more) = on more

pub has_all : (pages : List (List ℕ)) (at n : ℕ) → ((k : ℕ) → at ≤ k → k < at + n → has_byte pages k ≡ true) → has_range pages at n ≡ true
has_all pages at zero h = refl
has_all pages at (suc n) h =
    let here = h at (omega arith) (omega arith) in
    let rest = has_all pages (suc at) n (λ k from to. h k (omega (arith, from)) (omega (arith, to))) in
    rw here rest

-- a page that has grown

pub has_more : (old new : List (List ℕ)) → ((i : ℕ) → length (page_at old i) ≤ length (page_at new i)) → (k : ℕ) → has_byte old k ≡ true → has_byte new k ≡ true
has_more old new grows k h = let more = grows (k / page_size) in grind (arith, nat_tests, h, more)

pub byte_same : (old new : List (List ℕ)) → ((i o : ℕ) → slice_index_or (page_at new i) o 0 ≡ slice_index_or (page_at old i) o 0) → (k : ℕ) → byte_at new k ≡ byte_at old k
byte_same old new same k = same (k / page_size) (k % page_size)

pub page_set : (pages : List (List ℕ)) (i j : ℕ) (new : List ℕ) → i < length pages → ((j ≡ i) × (page_at (slice_set pages i new) j ≡ new)) ⊎ ((j ≢ i) × (page_at (slice_set pages i new) j ≡ page_at pages j))
page_set pages i j new room = by (below_or j i) (below_or i j)
  where
    other : j ≢ i → ((j ≡ i) × (page_at (slice_set pages i new) j ≡ new)) ⊎ ((j ≢ i) × (page_at (slice_set pages i new) j ≡ page_at pages j))
    other apart = inr (apart, get_or-set_other pages i j new [] apart)

    by : (j < i) ⊎ (i ≤ j) → (i < j) ⊎ (j ≤ i) → ((j ≡ i) × (page_at (slice_set pages i new) j ≡ new)) ⊎ ((j ≢ i) × (page_at (slice_set pages i new) j ≡ page_at pages j))
    by (inl below) other_side = other (λ e. omega (arith, e, below))
    by (inr from) (inl above) = other (λ e. omega (arith, e, above))
    by (inr from) (inr to) = let same : j ≡ i = omega (arith, from, to) in inl (same, ap (page_at (slice_set pages i new)) same ∙ get_or-set_same pages i new [] room)

pub set_grows : (pages : List (List ℕ)) (i : ℕ) (new : List ℕ) → i < length pages → length (page_at pages i) ≤ length new → (j : ℕ) → length (page_at pages j) ≤ length (page_at (slice_set pages i new) j)
set_grows pages i new room more j = elim (page_set pages i j new room) [
  | inl is ↦ (let a = ap (λ (n : ℕ). length (page_at pages n)) is.0 in let b = ap length is.1 in omega (arith, a, b, more))
  | inr is ↦ (let b = ap length is.1 in omega (arith, b))
]

pub set_same : (pages : List (List ℕ)) (i : ℕ) (new : List ℕ) → i < length pages → ((o : ℕ) → slice_index_or new o 0 ≡ slice_index_or (page_at pages i) o 0) → (j o : ℕ) → slice_index_or (page_at (slice_set pages i new) j) o 0 ≡ slice_index_or (page_at pages j) o 0
set_same pages i new room same j o = elim (page_set pages i j new room) [
  | inl is ↦ ap (λ (l : List ℕ). slice_index_or l o 0) is.1 ∙ same o ∙ ap (λ (n : ℕ). slice_index_or (page_at pages n) o 0) (sym is.0)
  | inr is ↦ ap (λ (l : List ℕ). slice_index_or l o 0) is.1
]

-- a write within one page
pub put_in_page : (p : PagesState) (i o : ℕ) (w : List ℕ) → i < length p.pages → o + length w ≤ length (page_at p.pages i) → o + length w ≤ page_size → i * page_size + o + length w ≤ p.size
    → bytes_of (record { size = p.size; pages = slice_set p.pages i (put_at (page_at p.pages i) o w) }) ≡ put_at (bytes_of p) (i * page_size + o) w
put_in_page p i o w there fits within room =
    let page = page_at p.pages i in
    let new = put_at page o w in
    let q : PagesState = record { size = p.size; pages = slice_set p.pages i new } in
    let a = i * page_size + o in
    let inside : a + length w ≤ length (bytes_of p) = omega (arith, room, length_bytes p) in
    let size : length (put_at (bytes_of p) a w) ≡ p.size = length_put (bytes_of p) w a inside ∙ length_bytes p in
    ext_get_or 0 (bytes_of q) (put_at (bytes_of p) a w) (length_bytes q ∙ sym size) (λ k less.
    let below : k < p.size = omega (arith, less, length_bytes q) in
    get_byte q k below ∙ at_place k below inside)
  where
    at_place : (k : ℕ) → k < p.size → i * page_size + o + length w ≤ length (bytes_of p)
        → byte_at (slice_set p.pages i (put_at (page_at p.pages i) o w)) k ≡ slice_index_or (put_at (bytes_of p) (i * page_size + o) w) k 0
    at_place k below inside =
        let page = page_at p.pages i in
        let new = put_at page o w in
        let a = i * page_size + o in
        let here = place_is k in
        let small = within_page k in
        let old = sym (get_byte p k below) in
        elim (page_set p.pages i (k / page_size) new there) [
          | inl is ↦ (
              let same = is.0 in
              let here' : i * page_size + k % page_size ≡ k = ap (λ (n : ℕ). n * page_size + k % page_size) (sym same) ∙ here in
              let back : slice_index_or page (k % page_size) 0 ≡ byte_at p.pages k = ap (λ (n : ℕ). slice_index_or (page_at p.pages n) (k % page_size) 0) (sym same) in
              ap (λ (l : List ℕ). slice_index_or l (k % page_size) 0) is.1
              ∙ elim (below_or (k % page_size) o) [
                | inl front ↦ get_before page w o (k % page_size) fits front ∙ back ∙ old ∙ sym (get_before (bytes_of p) w a k inside (omega (arith, here', front)))
                | inr from ↦ elim (below_or (k % page_size) (o + length w)) [
                  | inl to ↦ (
                      let same_place : k % page_size - o ≡ k - a = omega (arith, here') in
                      get_put page w o (k % page_size) fits from to
                      ∙ ap (λ (n : ℕ). slice_index_or w n 0) same_place
                      ∙ sym (get_put (bytes_of p) w a k inside (omega (arith, here', from)) (omega (arith, here', to))))
                  | inr past ↦ get_after page w o (k % page_size) fits past ∙ back ∙ old ∙ sym (get_after (bytes_of p) w a k inside (omega (arith, here', past)))
                ]
              ])
          | inr is ↦ (
              let keep = ap (λ (l : List ℕ). slice_index_or l (k % page_size) 0) is.1 ∙ old in
              elim (below_or (k / page_size) i) [
                | inl less ↦ keep ∙ sym (get_before (bytes_of p) w a k inside (omega (arith, here, small, less)))
                | inr from ↦ (
                    let more : i < k / page_size = apart (k / page_size) is.0 from in
                    keep ∙ sym (get_after (bytes_of p) w a k inside (omega (arith, here, within, more))))
              ])
        ]
      where
        apart : (x : ℕ) → x ≢ i → i ≤ x → i < x
        apart x ne le = elim (below_or i x) [ inl h ↦ h | inr h ↦ absurd (ne (omega (arith, le, h))) ]

-- reading a page

pub zeros_in : (page : List ℕ) (at m : ℕ) → length page ≤ at → replicate m 0 ≡ bytes_in page at m
zeros_in page at m past =
    let other : length (bytes_in page at m) ≡ m = length-map-range_with_len (λ k. slice_index_or page k 0) at m in
    ext_get_or 0 (replicate m 0) (bytes_in page at m) (length-replicate {A = ℕ} m 0 ∙ sym other) (λ j less.
    let below : j < m = omega (arith, less, length-replicate {A = ℕ} m 0) in
    get_or-replicate m j 0 0 below
    ∙ sym (get_or_past page (at + j) 0 (omega (arith, past)))
    ∙ sym (get_or-map-range_with_len (λ k. slice_index_or page k 0) at m j (at + j) 0 below refl))

pub read_in : (page : List ℕ) (at k m : ℕ) → k ≤ m → at + k ≤ length page → (k ≡ m) ⊎ (at + k ≡ length page) → take k (drop at page) ++ replicate (m - k) 0 ≡ bytes_in page at m
read_in page at k m le fits end =
    let front : length (take k (drop at page)) ≡ k = length_range page at k fits in
    let count : length (take k (drop at page) ++ replicate (m - k) 0) ≡ m = omega (arith, length-append (take k (drop at page)) (replicate (m - k) 0), front, length-replicate {A = ℕ} (m - k) 0, le) in
    let other : length (bytes_in page at m) ≡ m = length-map-range_with_len (λ k. slice_index_or page k 0) at m in
    ext_get_or 0 (take k (drop at page) ++ replicate (m - k) 0) (bytes_in page at m) (count ∙ sym other) (λ j less.
    let below : j < m = omega (arith, less, count) in
    get_padded (take k (drop at page)) (m - k) j 0
    ∙ known j below front
    ∙ sym (get_or-map-range_with_len (λ k. slice_index_or page k 0) at m j (at + j) 0 below refl))
  where
    known : (j : ℕ) → j < m → length (take k (drop at page)) ≡ k → slice_index_or (take k (drop at page)) j 0 ≡ slice_index_or page (at + j) 0
    known j below front = elim (below_or j k) [
      | inl inside ↦ get_or-take k (drop at page) j 0 inside ∙ get_or-drop at page j 0
      | inr past ↦ get_or_past (take k (drop at page)) j 0 (omega (arith, front, past)) ∙ sym (get_or_past page (at + j) 0 (beyond past))
    ]
      where
        beyond : k ≤ j → length page ≤ at + j
        beyond past = elim end [ inl all ↦ absurd (omega (arith, all, past, below)) | inr last ↦ omega (arith, last, past) ]

-- where the last byte of a piece has its page, all of it has
pub piece_there : (pages : List (List ℕ)) (a n : ℕ) → a % page_size + n ≤ page_size → 0 < n → has_byte pages (a + (n - 1)) ≡ true → a % page_size + n ≤ length (page_at pages (a / page_size))
piece_there pages a n within some has =
    let at : a / page_size * page_size + (a % page_size + (n - 1)) ≡ a + (n - 1) = omega (arith, place_is a) in
    let small : a % page_size + (n - 1) < page_size = omega (arith, within, some) in
    let page = div_is (a + (n - 1)) (a / page_size) (a % page_size + (n - 1)) at small in
    let place = mod_is (a + (n - 1)) (a / page_size) (a % page_size + (n - 1)) at small in
    let has' : nat_lt (a % page_size + (n - 1)) (length (page_at pages (a / page_size))) ≡ true =
    ap (λ (i : ℕ). nat_lt (a % page_size + (n - 1)) (length (page_at pages i))) (sym page)
    ∙ ap (λ (o : ℕ). nat_lt o (length (page_at pages ((a + (n - 1)) / page_size)))) (sym place)
    ∙ has in
    let below : a % page_size + (n - 1) < length (page_at pages (a / page_size)) = grind (arith, nat_tests, has') in
    omega (arith, below, some)

-- one piece after another
pub range_more : (s : List ℕ) (a n m : ℕ) → a + n + m ≤ length s → range_at s a n ++ range_at s (a + n) m ≡ range_at s a (n + m)
range_more s a n m room =
    let first : length (range_at s a n) ≡ n = length_range s a n (omega (arith, room)) in
    let second : length (range_at s (a + n) m) ≡ m = length_range s (a + n) m (omega (arith, room)) in
    let both : length (range_at s a n ++ range_at s (a + n) m) ≡ n + m = omega (arith, length-append (range_at s a n) (range_at s (a + n) m), first, second) in
    let all : length (range_at s a (n + m)) ≡ n + m = length_range s a (n + m) (omega (arith, room)) in
    ext_get_or 0 (range_at s a n ++ range_at s (a + n) m) (range_at s a (n + m)) (both ∙ sym all) (λ j less. by j (omega (arith, less, both)) first)
  where
    by : (j : ℕ) → j < n + m → length (range_at s a n) ≡ n → slice_index_or (range_at s a n ++ range_at s (a + n) m) j 0 ≡ slice_index_or (range_at s a (n + m)) j 0
    by j below first =
        let whole : slice_index_or (range_at s a (n + m)) j 0 ≡ slice_index_or s (a + j) 0 = get_or-take (n + m) (drop a s) j 0 below ∙ get_or-drop a s j 0 in
        elim (below_or j n) [
          | inl front ↦ get_or_append_left (range_at s a n) (range_at s (a + n) m) 0 j (omega (arith, first, front)) ∙ get_or-take n (drop a s) j 0 front ∙ get_or-drop a s j 0 ∙ sym whole
          | inr past ↦ (
              let at : length (range_at s a n) + (j - n) ≡ j = omega (arith, first, past) in
              let same : a + n + (j - n) ≡ a + j = omega (arith, past) in
              ap (λ (i : ℕ). slice_index_or (range_at s a n ++ range_at s (a + n) m) i 0) (sym at)
              ∙ get_or-append-add (range_at s a n) (range_at s (a + n) m) (j - n) 0
              ∙ get_or-take m (drop (a + n) s) (j - n) 0 (omega (arith, below, past))
              ∙ get_or-drop (a + n) s (j - n) 0
              ∙ ap (λ (i : ℕ). slice_index_or s i 0) same
              ∙ sym whole)
        ]

pub first_more : (s : List ℕ) (n m : ℕ) → n + m ≤ length s → take n s ++ range_at s n m ≡ take (n + m) s
first_more s n m room =
    let same : n ≡ 0 + n = omega arith in
    ap (λ (k : ℕ). take n s ++ range_at s k m) same ∙ range_more s 0 n m (omega (arith, room))

-- nothing was written yet
pub all_zeros : (size : ℕ) → bytes_of (record { size = size; pages = [] }) ≡ replicate size 0
all_zeros size =
    let p : PagesState = record { size = size; pages = [] } in
    let count : length (replicate {A = ℕ} size 0) ≡ size = length-replicate {A = ℕ} size 0 in
    ext_get_or 0 (bytes_of p) (replicate size 0) (length_bytes p ∙ sym count) (λ k less.
    let below : k < size = omega (arith, less, length_bytes p) in
    get_byte p k below ∙ sym (get_or-replicate size k 0 0 below))
