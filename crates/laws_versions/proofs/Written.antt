-- One mutation more: each place that it covers has its byte, and each other place what it had.
use Rattle.std.proofs.Common.{◌≡◌, ℕ, zero, suc, ◌+◌, ◌-◌, ◌<◌, ◌≤◌, max, Bool, true, false, cond, List, [], ◌∷◌, ◌++◌, length, take, drop, replicate, Option, Some, None, refl, sym, ap, ◌∙◌, arith}
use Rattle.std.specs.Prelude.{nat_le, nat_lt, option_map, unwrap_or, slice_index}
use Rattle.std.proofs.lemmas.Bool.{and_from, and_left, and_right, lt-ltb, le-ltb, le-leb, lt-leb}
use Rattle.gfs_types.specs.declared.mutation.Mutation.{Mutation}
use Rattle.gfs_types.specs.declared.mutation.Mutation.TheVariants.{Write, Append, Pad}
use Rattle.gfs_types.specs.Mutations.{start_of, end_of, covers, byte_of}
use Rattle.gfs_types.specs.Image.{newer, last_that, image_length, byte_at, bytes_from, image}
use Rattle.laws_versions.specs.ReplicaImages.{with_bytes, written_by, ImagesAreWrittenTo}

-- the byte at a place

newer_none : {A : Type 0} (o : Option A) → newer None o ≡ o
newer_none None = refl
newer_none (Some x) = refl

newer_newer : {A : Type 0} (a b c : Option A) → newer a (newer b c) ≡ newer (newer a b) c
newer_newer a b None = refl
newer_newer a b (Some x) = refl

last_more : (test : Mutation → Bool) (ms : List Mutation) (m : Mutation) → last_that test (ms ++ m ∷ []) ≡ newer (last_that test ms) (cond (test m) (Some m) None)
last_more test [] m = sym (newer_none (cond (test m) (Some m) None))
last_more test (x ∷ ms) m =
    ap (λ (o : Option Mutation). newer (cond (test x) (Some x) None) o) (last_more test ms m) ∙ newer_newer (cond (test x) (Some x) None) (last_that test ms) (cond (test m) (Some m) None)

byte_covered : (ms : List Mutation) (m : Mutation) (place : ℕ) → covers place m ≡ true → byte_at (ms ++ m ∷ []) place ≡ byte_of place m
byte_covered ms m place is =
    ap (λ (o : Option Mutation). unwrap_or (option_map (byte_of place) o) 0) (last_more (covers place) ms m ∙ ap (λ (b : Bool). newer (last_that (covers place) ms) (cond b (Some m) None)) is)

byte_other : (ms : List Mutation) (m : Mutation) (place : ℕ) → covers place m ≡ false → byte_at (ms ++ m ∷ []) place ≡ byte_at ms place
byte_other ms m place is =
    ap (λ (o : Option Mutation). unwrap_or (option_map (byte_of place) o) 0) (last_more (covers place) ms m ∙ ap (λ (b : Bool). newer (last_that (covers place) ms) (cond b (Some m) None)) is)

past_end : (place : ℕ) (m : Mutation) → end_of m ≤ place → covers place m ≡ false
past_end place m past = and_right (nat_le (start_of m) place) (nat_lt place (end_of m)) (le-ltb place (end_of m) past)

before_start : (place : ℕ) (m : Mutation) → place < start_of m → covers place m ≡ false
before_start place m before = and_left (nat_le (start_of m) place) (nat_lt place (end_of m)) (lt-leb (start_of m) place before)

none_covers : (ms : List Mutation) (place : ℕ) → image_length ms ≤ place → last_that (covers place) ms ≡ None
none_covers [] place past = refl
none_covers (x ∷ ms) place past =
    ap (λ (b : Bool). newer (cond b (Some x) None) (last_that (covers place) ms)) (past_end place x (omega (arith, past)))
    ∙ ap (λ (o : Option Mutation). newer None o) (none_covers ms place (omega (arith, past)))

byte_past : (ms : List Mutation) (place : ℕ) → image_length ms ≤ place → byte_at ms place ≡ 0
byte_past ms place past = ap (λ (o : Option Mutation). unwrap_or (option_map (byte_of place) o) 0) (none_covers ms place past)

length_more : (ms : List Mutation) (m : Mutation) → image_length (ms ++ m ∷ []) ≡ max (image_length ms) (end_of m)
length_more [] m = omega arith
length_more (x ∷ ms) m = let rest = length_more ms m in omega (arith, rest)

-- ranges of places

range_joined : (ms : List Mutation) (place first second : ℕ) → bytes_from ms place (first + second) ≡ bytes_from ms place first ++ bytes_from ms (place + first) second
range_joined ms place zero second =
    ap (λ (n : ℕ). bytes_from ms place n) (let e : 0 + second ≡ second = omega arith in e) ∙ ap (λ (n : ℕ). bytes_from ms n second) (let e : place ≡ place + 0 = omega arith in e)
range_joined ms place (suc first) second =
    ap (λ (n : ℕ). bytes_from ms place n) (let e : suc first + second ≡ suc (first + second) = omega arith in e)
    ∙ ap (λ (xs : List ℕ). byte_at ms place ∷ xs)
    (range_joined ms (suc place) first second ∙ ap (λ (n : ℕ). bytes_from ms (suc place) first ++ bytes_from ms n second) (let e : suc place + first ≡ place + suc first = omega arith in e))

range_same : (ms ns : List Mutation) (place count : ℕ) → ((n : ℕ) → place ≤ n → n < place + count → byte_at ms n ≡ byte_at ns n) → bytes_from ms place count ≡ bytes_from ns place count
range_same ms ns place zero same = refl
range_same ms ns place (suc count) same =
    ap (λ (b : ℕ). b ∷ bytes_from ms (suc place) count) (same place (omega arith) (omega arith))
    ∙ ap (λ (xs : List ℕ). byte_at ns place ∷ xs) (range_same ms ns (suc place) count (λ n low high. same n (omega (arith, low)) (omega (arith, high))))

range_is : (ms : List Mutation) (place : ℕ) (bytes : List ℕ) → ((n : ℕ) → n < length bytes → byte_at ms (place + n) ≡ slice_index bytes n) → bytes_from ms place (length bytes) ≡ bytes
range_is ms place [] is = refl
range_is ms place (b ∷ bytes) is =
    ap (λ (x : ℕ). x ∷ bytes_from ms (suc place) (length bytes)) (ap (λ (n : ℕ). byte_at ms n) (let e : place ≡ place + 0 = omega arith in e) ∙ is 0 (omega arith))
    ∙ ap (λ (xs : List ℕ). b ∷ xs) (range_is ms (suc place) bytes (λ n less. ap (λ (k : ℕ). byte_at ms k) (let e : suc place + n ≡ place + suc n = omega arith in e) ∙ is (suc n) (omega (arith, less))))

-- zeros fill what is past the image
range_front : (ms : List Mutation) (place count offset : ℕ) → ((n : ℕ) → place + count ≤ n → byte_at ms n ≡ 0)
    → take offset (bytes_from ms place count) ++ replicate (offset - count) 0 ≡ bytes_from ms place offset
range_front ms place count zero past = ap (λ (n : ℕ). replicate n 0) (let e : 0 - count ≡ 0 = omega arith in e)
range_front ms place zero (suc offset) past =
    ap (λ (n : ℕ). replicate n 0) (let e : suc offset - 0 ≡ suc offset = omega arith in e)
    ∙ ap (λ (b : ℕ). b ∷ replicate offset 0) (sym (past place (omega arith)))
    ∙ ap (λ (xs : List ℕ). byte_at ms place ∷ xs) (zeros (suc place) offset (λ n low. past n (omega (arith, low))))
  where
    zeros : (from many : ℕ) → ((n : ℕ) → from ≤ n → byte_at ms n ≡ 0) → replicate many 0 ≡ bytes_from ms from many
    zeros from zero none = refl
    zeros from (suc many) none = ap (λ (b : ℕ). b ∷ replicate many 0) (sym (none from (omega arith))) ∙ ap (λ (xs : List ℕ). byte_at ms from ∷ xs) (zeros (suc from) many (λ n low. none n (omega (arith, low))))
range_front ms place (suc count) (suc offset) past =
    ap (λ (n : ℕ). byte_at ms place ∷ take offset (bytes_from ms (suc place) count) ++ replicate n 0) (let e : suc offset - suc count ≡ offset - count = omega arith in e)
    ∙ ap (λ (xs : List ℕ). byte_at ms place ∷ xs) (range_front ms (suc place) count offset (λ n low. past n (omega (arith, low))))

range_rest : (ms : List Mutation) (place count offset : ℕ) → drop offset (bytes_from ms place count) ≡ bytes_from ms (place + offset) (count - offset)
range_rest ms place count zero =
    ap (λ (n : ℕ). bytes_from ms n count) (let e : place ≡ place + 0 = omega arith in e) ∙ ap (λ (n : ℕ). bytes_from ms (place + 0) n) (let e : count ≡ count - 0 = omega arith in e)
range_rest ms place zero (suc offset) = ap (λ (n : ℕ). bytes_from ms (place + suc offset) n) (let e : 0 ≡ 0 - suc offset = omega arith in e)
range_rest ms place (suc count) (suc offset) =
    range_rest ms (suc place) count offset
    ∙ ap (λ (n : ℕ). bytes_from ms n (count - offset)) (let e : suc place + offset ≡ place + suc offset = omega arith in e)
    ∙ ap (λ (n : ℕ). bytes_from ms (place + suc offset) n) (let e : count - offset ≡ suc count - suc offset = omega arith in e)

long : (ms : List Mutation) (place count : ℕ) → length (bytes_from ms place count) ≡ count
long ms place zero = refl
long ms place (suc count) = ap suc (long ms (suc place) count)

many : (n x : ℕ) → length (replicate n x) ≡ n
many zero x = refl
many (suc n) x = ap suc (many n x)

-- what a mutation writes

written_long : (m : Mutation) → start_of m ≤ end_of m → start_of m + length (written_by m) ≡ end_of m
written_long (Write offset bytes) within = refl
written_long (Append offset bytes) within = refl
written_long (Pad offset end) within = let n = many (end - offset) 0 in omega (arith, n, within)

zero_at : (count n : ℕ) → n < count → slice_index (replicate count 0) n ≡ 0
zero_at zero n less = absurd (omega (arith, less))
zero_at (suc count) zero less = refl
zero_at (suc count) (suc n) less = zero_at count n (omega (arith, less))

written_byte : (m : Mutation) (n : ℕ) → n < length (written_by m) → byte_of (start_of m + n) m ≡ slice_index (written_by m) n
written_byte (Write offset bytes) n less = ap (λ (k : ℕ). slice_index bytes k) (omega arith)
written_byte (Append offset bytes) n less = ap (λ (k : ℕ). slice_index bytes k) (omega arith)
written_byte (Pad offset end) n less = sym (zero_at (end - offset) n (let same = many (end - offset) 0 in omega (arith, same, less)))

append-append : (xs ys zs : List ℕ) → (xs ++ ys) ++ zs ≡ xs ++ (ys ++ zs)
append-append [] ys zs = refl
append-append (x ∷ xs) ys zs = ap (λ (vs : List ℕ). x ∷ vs) (append-append xs ys zs)

pub images_are_written_to : ImagesAreWrittenTo
images_are_written_to ms m within = whole ∙ sym parts
  where
    ends : start_of m + length (written_by m) ≡ end_of m
    ends = written_long m within

    first : bytes_from ms 0 (start_of m) ≡ bytes_from (ms ++ m ∷ []) 0 (start_of m)
    first = range_same ms (ms ++ m ∷ []) 0 (start_of m) (λ n low high. sym (byte_other ms m n (before_start n m (omega (arith, high)))))

    middle : bytes_from (ms ++ m ∷ []) (start_of m) (length (written_by m)) ≡ written_by m
    middle =
        range_is (ms ++ m ∷ []) (start_of m) (written_by m)
        (λ n less. byte_covered ms m (start_of m + n)
        (and_from (nat_le (start_of m) (start_of m + n)) (nat_lt (start_of m + n) (end_of m)) (le-leb (start_of m) (start_of m + n) (omega arith)) (lt-ltb (start_of m + n) (end_of m) (omega (arith, less, ends))))
        ∙ written_byte m n less)

    last : bytes_from ms (start_of m + length (written_by m)) (image_length ms - (start_of m + length (written_by m)))
        ≡ bytes_from (ms ++ m ∷ []) (start_of m + length (written_by m)) (image_length ms - (start_of m + length (written_by m)))
    last = range_same ms (ms ++ m ∷ []) _ _ (λ n low high. sym (byte_other ms m n (past_end n m (omega (arith, low, ends)))))

    -- the whole, range by range
    whole : image (ms ++ m ∷ [])
        ≡ bytes_from (ms ++ m ∷ []) 0 (start_of m) ++ written_by m
        ++ bytes_from (ms ++ m ∷ []) (start_of m + length (written_by m)) (image_length ms - (start_of m + length (written_by m)))
    whole =
        ap (λ (n : ℕ). bytes_from (ms ++ m ∷ []) 0 n)
        (let longer = length_more ms m in
        let e : image_length (ms ++ m ∷ []) ≡ start_of m + (length (written_by m) + (image_length ms - (start_of m + length (written_by m)))) = omega (arith, longer, ends) in e)
        ∙ range_joined (ms ++ m ∷ []) 0 (start_of m) (length (written_by m) + (image_length ms - (start_of m + length (written_by m))))
        ∙ ap (λ (xs : List ℕ). bytes_from (ms ++ m ∷ []) 0 (start_of m) ++ xs)
        (ap (λ (n : ℕ). bytes_from (ms ++ m ∷ []) n (length (written_by m) + (image_length ms - (start_of m + length (written_by m))))) (let e : 0 + start_of m ≡ start_of m = omega arith in e)
        ∙ range_joined (ms ++ m ∷ []) (start_of m) (length (written_by m)) (image_length ms - (start_of m + length (written_by m)))
        ∙ ap (λ (xs : List ℕ). xs ++ bytes_from (ms ++ m ∷ []) (start_of m + length (written_by m)) (image_length ms - (start_of m + length (written_by m)))) middle)
        ∙ sym (append-append (bytes_from (ms ++ m ∷ []) 0 (start_of m)) (written_by m)
        (bytes_from (ms ++ m ∷ []) (start_of m + length (written_by m)) (image_length ms - (start_of m + length (written_by m)))))

    parts : with_bytes (image ms) (start_of m) (written_by m)
        ≡ bytes_from (ms ++ m ∷ []) 0 (start_of m) ++ written_by m
        ++ bytes_from (ms ++ m ∷ []) (start_of m + length (written_by m)) (image_length ms - (start_of m + length (written_by m)))
    parts =
        ap (λ (n : ℕ). take (start_of m) (image ms) ++ replicate (start_of m - n) 0 ++ written_by m ++ drop (start_of m + length (written_by m)) (image ms)) (long ms 0 (image_length ms))
        ∙ ap (λ (xs : List ℕ). xs ++ written_by m ++ drop (start_of m + length (written_by m)) (image ms))
        (range_front ms 0 (image_length ms) (start_of m) (λ n low. byte_past ms n (omega (arith, low))) ∙ first)
        ∙ ap (λ (xs : List ℕ). bytes_from (ms ++ m ∷ []) 0 (start_of m) ++ written_by m ++ xs)
        (range_rest ms 0 (image_length ms) (start_of m + length (written_by m))
        ∙ ap (λ (n : ℕ). bytes_from ms n (image_length ms - (start_of m + length (written_by m)))) (let e : 0 + (start_of m + length (written_by m)) ≡ start_of m + length (written_by m) = omega arith in e)
        ∙ last)
