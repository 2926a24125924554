-- Bytes, place by place.
use Rattle.std.proofs.Common.{◌≡◌, ◌⊎◌, inl, inr, ℕ, ◌+◌, ◌-◌, ◌<◌, ◌≤◌, Bool, true, false, ◌&&◌, ◌||◌, List, [], ◌∷◌, ◌++◌, length, get_or, take, drop, refl, sym, ap, ◌∙◌, arith, nat_lt, append_assoc, length-append, length-drop}
use Rattle.std.specs.Prelude.{nat_le}
use Rattle.std.proofs.lemmas.Bool.{cases_lt}
use Rattle.std.proofs.lemmas.Bool.Decides.{nat_tests}
use Rattle.std.proofs.lemmas.List.{ext_get_or, get_or-take, get_or-drop, get_or-append_right, get_or_append_left, length-take, take-append-drop}
use Rattle.disk.specs.Bytes.{put_at, range_at}
use Rattle.disk.specs.Device.{ChangesOnly}
use Rattle.disk_redo.specs.Moments.{KeepsAt, Misses, is_outside}

-- where a place lies

pub outside_cases : (first n place : ℕ) → is_outside first n place ≡ true → (place < first) ⊎ (first + n ≤ place)
outside_cases first n place h = elim (cases_lt place first) [
  | inl before ↦ inl before
  | inr le ↦ elim (cases_lt place (first + n)) [
    | inl within ↦ absurd (grind (arith, nat_tests, h, le, within))
    | inr after ↦ inr after
  ]
]

pub is_before : (first n place : ℕ) → place < first → is_outside first n place ≡ true
is_before first n place lt = grind (arith, nat_tests, lt)

pub is_after : (first n place : ℕ) → first + n ≤ place → is_outside first n place ≡ true
is_after first n place le = grind (arith, nat_tests, le)

-- bytes that are put at a place

pub length_front : (old : List ℕ) (at : ℕ) → at ≤ length old → length (take at old) ≡ at
length_front old at le = omega (arith, length-take at old, le)

pub put_is : (old bytes : List ℕ) (at : ℕ) → put_at old at bytes ≡ take at old ++ (bytes ++ drop (at + length bytes) old)
put_is old bytes at = append_assoc (take at old) bytes (drop (at + length bytes) old)

pub length_put : (old bytes : List ℕ) (at : ℕ) → at + length bytes ≤ length old → length (put_at old at bytes) ≡ length old
length_put old bytes at le =
    omega (
      arith,
      ap length (put_is old bytes at),
      length-append (take at old) (bytes ++ drop (at + length bytes) old),
      length-append bytes (drop (at + length bytes) old),
      length_front old at (omega (arith, le)),
      length-drop (at + length bytes) old,
      le,
    )

module _ (old bytes : List ℕ) (at place : ℕ) (fits : at + length bytes ≤ length old) where
  front : length (take at old) ≡ at
  front = length_front old at (omega (arith, fits))

  pub put_before : place < at → get_or (put_at old at bytes) place 0 ≡ get_or old place 0
  put_before lt =
      ap (λ (l : List ℕ). get_or l place 0) (put_is old bytes at)
      ∙ get_or_append_left (take at old) (bytes ++ drop (at + length bytes) old) 0 place (omega (arith, front, lt))
      ∙ get_or-take at old place 0 lt

  behind : at ≤ place → get_or (put_at old at bytes) place 0 ≡ get_or (bytes ++ drop (at + length bytes) old) (place - at) 0
  behind le = ap (λ (l : List ℕ). get_or l place 0) (put_is old bytes at) ∙ get_or-append_right (take at old) (bytes ++ drop (at + length bytes) old) at place 0 front le

  pub put_within : at ≤ place → place < at + length bytes → get_or (put_at old at bytes) place 0 ≡ get_or bytes (place - at) 0
  put_within le lt = behind le ∙ get_or_append_left bytes (drop (at + length bytes) old) 0 (place - at) (omega (arith, le, lt))

  pub put_after : at + length bytes ≤ place → get_or (put_at old at bytes) place 0 ≡ get_or old place 0
  put_after le =
      let same : at + length bytes + (place - at - length bytes) ≡ place = omega (arith, le) in
      behind (omega (arith, le))
      ∙ get_or-append_right bytes (drop (at + length bytes) old) (length bytes) (place - at) 0 refl (omega (arith, le))
      ∙ get_or-drop (at + length bytes) old (place - at - length bytes) 0
      ∙ ap (λ (k : ℕ). get_or old k 0) same

-- What is kept

pub keeps_all : (kept : ℕ → Bool) (c : List ℕ) → KeepsAt kept c c
keeps_all kept c = record { size = refl; same = λ place h. refl }

pub keeps_then : (kept : ℕ → Bool) (a b c : List ℕ) → KeepsAt kept a b → KeepsAt kept b c → KeepsAt kept a c
keeps_then kept a b c p q = record { size = q.size ∙ p.size; same = λ place h. q.same place h ∙ p.same place h }

pub keeps_back : (kept : ℕ → Bool) (a b : List ℕ) → KeepsAt kept a b → KeepsAt kept b a
keeps_back kept a b p = record { size = sym p.size; same = λ place h. sym (p.same place h) }

pub keeps_fewer : (some all : ℕ → Bool) (a b : List ℕ) → ((place : ℕ) → some place ≡ true → all place ≡ true) → KeepsAt all a b → KeepsAt some a b
keeps_fewer some all a b fewer p = record { size = p.size; same = λ place h. p.same place (fewer place h) }

-- bytes that are the same at each place
pub same_bytes : (a b : List ℕ) → KeepsAt (λ place. true) a b → b ≡ a
same_bytes a b p = ext_get_or 0 b a p.size (λ place lt. p.same place refl)

-- a write keeps what lies outside of its range
pub changes_keep : (at n : ℕ) (old new : List ℕ) → ChangesOnly at n old new → KeepsAt (is_outside at n) old new
changes_keep at n old new changes = record {
  size = changes.size;
  same = λ place h. elim (outside_cases at n place h) [
    | inl lt ↦ sym (get_or-take at new place 0 lt) ∙ ap (λ (l : List ℕ). get_or l place 0) changes.before ∙ get_or-take at old place 0 lt
    | inr le ↦
        let there : at + n + (place - at - n) ≡ place = omega (arith, le) in
        ap (λ (k : ℕ). get_or new k 0) (sym there)
        ∙ sym (get_or-drop (at + n) new (place - at - n) 0)
        ∙ ap (λ (l : List ℕ). get_or l (place - at - n) 0) changes.after
        ∙ get_or-drop (at + n) old (place - at - n) 0
        ∙ ap (λ (k : ℕ). get_or old k 0) there
  ];
}

pub put_keeps : (old bytes : List ℕ) (at : ℕ) → at + length bytes ≤ length old → KeepsAt (is_outside at (length bytes)) old (put_at old at bytes)
put_keeps old bytes at fits = record {
  size = length_put old bytes at fits;
  same = λ place h. elim (outside_cases at (length bytes) place h) [
    | inl lt ↦ put_before old bytes at place fits lt
    | inr le ↦ put_after old bytes at place fits le
  ];
}

-- the same bytes put at the same place
pub put_alike : (kept also : ℕ → Bool) (a b bytes : List ℕ) (at : ℕ) → at + length bytes ≤ length a
    → ((place : ℕ) → also place ≡ true → is_outside at (length bytes) place ≡ true → kept place ≡ true)
    → KeepsAt kept a b → KeepsAt also (put_at a at bytes) (put_at b at bytes)
put_alike kept also a b bytes at fits rest p =
    let fits' : at + length bytes ≤ length b = omega (arith, fits, p.size) in
    record {
      size = length_put b bytes at fits' ∙ p.size ∙ sym (length_put a bytes at fits);
      same = λ place h. elim (cases_lt place at) [
        | inl lt ↦ put_before b bytes at place fits' lt ∙ p.same place (rest place h (is_before at (length bytes) place lt)) ∙ sym (put_before a bytes at place fits lt)
        | inr le ↦ elim (cases_lt place (at + length bytes)) [
          | inl within ↦ put_within b bytes at place fits' le within ∙ sym (put_within a bytes at place fits le within)
          | inr after ↦ put_after b bytes at place fits' after ∙ p.same place (rest place h (is_after at (length bytes) place after)) ∙ sym (put_after a bytes at place fits after)
        ]
      ];
    }

-- ranges that don't meet may be put in either order
pub put_either : (old a b : List ℕ) (at to : ℕ) → at + length a ≤ length old → to + length b ≤ length old → (at + length a ≤ to) ⊎ (to + length b ≤ at)
    → put_at (put_at old at a) to b ≡ put_at (put_at old to b) at a
put_either old a b at to fits_a fits_b apart =
    let one = put_at old at a in
    let two = put_at old to b in
    let in_one : to + length b ≤ length one = omega (arith, length_put old a at fits_a, fits_b) in
    let in_two : at + length a ≤ length two = omega (arith, length_put old b to fits_b, fits_a) in
    same_bytes (put_at two at a) (put_at one to b) (record {
      size = length_put one b to in_one ∙ length_put old a at fits_a ∙ sym (length_put old b to fits_b) ∙ sym (length_put two a at in_two);
      same = λ place h. either place (cases_lt place at) (cases_lt place (at + length a)) (cases_lt place to) (cases_lt place (to + length b));
    })
  where
    either : (place : ℕ) → (place < at) ⊎ (at ≤ place) → (place < at + length a) ⊎ (at + length a ≤ place) → (place < to) ⊎ (to ≤ place) → (place < to + length b) ⊎ (to + length b ≤ place)
        → get_or (put_at (put_at old at a) to b) place 0 ≡ get_or (put_at (put_at old to b) at a) place 0
    either place p q r s = outer (in_to r s) (in_at p q)
      where
        one : List ℕ
        one = put_at old at a

        two : List ℕ
        two = put_at old to b

        in_one : to + length b ≤ length one
        in_one = omega (arith, length_put old a at fits_a, fits_b)

        in_two : at + length a ≤ length two
        in_two = omega (arith, length_put old b to fits_b, fits_a)

        in_to : (place < to) ⊎ (to ≤ place) → (place < to + length b) ⊎ (to + length b ≤ place) → (is_outside to (length b) place ≡ true) ⊎ ((to ≤ place) × (place < to + length b))
        in_to (inl lt) t = inl (is_before to (length b) place lt)
        in_to (inr le) (inl lt) = inr (le, lt)
        in_to (inr le) (inr past) = inl (is_after to (length b) place past)

        in_at : (place < at) ⊎ (at ≤ place) → (place < at + length a) ⊎ (at + length a ≤ place) → (is_outside at (length a) place ≡ true) ⊎ ((at ≤ place) × (place < at + length a))
        in_at (inl lt) t = inl (is_before at (length a) place lt)
        in_at (inr le) (inl lt) = inr (le, lt)
        in_at (inr le) (inr past) = inl (is_after at (length a) place past)

        outer : (is_outside to (length b) place ≡ true) ⊎ ((to ≤ place) × (place < to + length b)) → (is_outside at (length a) place ≡ true) ⊎ ((at ≤ place) × (place < at + length a))
            → get_or (put_at one to b) place 0 ≡ get_or (put_at two at a) place 0
        outer (inl o) (inl p) =
            (put_keeps one b to in_one).same place o ∙ (put_keeps old a at fits_a).same place p
            ∙ sym ((put_keeps two a at in_two).same place p ∙ (put_keeps old b to fits_b).same place o)
        outer (inl o) (inr w) =
            (put_keeps one b to in_one).same place o ∙ put_within old a at place fits_a w.0 w.1
            ∙ sym (put_within two a at place in_two w.0 w.1)
        outer (inr w) (inl p) =
            put_within one b to place in_one w.0 w.1
            ∙ sym ((put_keeps two a at in_two).same place p ∙ put_within old b to place fits_b w.0 w.1)
        outer (inr w) (inr v) = elim apart [
          | inl le ↦ absurd (omega (arith, le, w.0, v.1))
          | inr le ↦ absurd (omega (arith, le, v.0, w.1))
        ]

-- bytes behind bytes that were put
pub put_more : (old a b : List ℕ) (at to : ℕ) → to ≡ at + length a → at + length a + length b ≤ length old → put_at (put_at old at a) to b ≡ put_at old at (a ++ b)
put_more old a b at to is fits =
    let one = put_at old at a in
    let long : length (a ++ b) ≡ length a + length b = length-append a b in
    let fits_one : at + length a ≤ length old = omega (arith, fits) in
    let fits_all : at + length (a ++ b) ≤ length old = omega (arith, fits, long) in
    let fits_more : to + length b ≤ length one = omega (arith, is, fits, length_put old a at fits_one) in
    same_bytes (put_at old at (a ++ b)) (put_at one to b) (record {
      size = length_put one b to fits_more ∙ length_put old a at fits_one ∙ sym (length_put old (a ++ b) at fits_all);
      same = λ place h. elim (cases_lt place at) [
        | inl lt ↦ put_before one b to place fits_more (omega (arith, lt, is)) ∙ put_before old a at place fits_one lt ∙ sym (put_before old (a ++ b) at place fits_all lt)
        | inr le ↦ elim (cases_lt place to) [
          | inl first ↦
              put_before one b to place fits_more first ∙ put_within old a at place fits_one le (omega (arith, first, is))
              ∙ sym (put_within old (a ++ b) at place fits_all le (omega (arith, first, is, long)) ∙ get_or_append_left a b 0 (place - at) (omega (arith, first, is, le)))
          | inr later ↦ elim (cases_lt place (to + length b)) [
            | inl within ↦
                let there : place - at - length a ≡ place - to = omega (arith, is, later) in
                put_within one b to place fits_more later within
                ∙ sym (put_within old (a ++ b) at place fits_all le (omega (arith, within, is, long)) ∙ get_or-append_right a b (length a) (place - at) 0 refl (omega (arith, later, is)) ∙ ap (λ (k : ℕ). get_or b k 0) there)
            | inr past ↦
                put_after one b to place fits_more past ∙ put_after old a at place fits_one (omega (arith, later, is))
                ∙ sym (put_after old (a ++ b) at place fits_all (omega (arith, past, is, long)))
          ]
        ]
      ];
    })

-- a part of a range that is missed
pub misses_part : (kept : ℕ → Bool) (at n to m : ℕ) → at ≤ to → to + m ≤ at + n → Misses kept at n → Misses kept to m
misses_part kept at n to m from end misses place h = elim (outside_cases at n place (misses place h)) [
  | inl lt ↦ is_before to m place (omega (arith, lt, from))
  | inr le ↦ is_after to m place (omega (arith, le, end))
]
