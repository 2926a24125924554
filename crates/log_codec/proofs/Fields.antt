-- A field that is read is the field that was written, and what was written is read again.
use Rattle.std.proofs.Common.{◌≡◌, ℕ, suc, ◌+◌, ◌^◌, ◌<◌, ◌≤◌, Bool, true, false, cond, ltb, List, [], ◌∷◌, ◌++◌, length, get_or, take, drop, Option, Some, None, refl, sym, ap, subst, ◌∙◌, append_assoc, arith, inl, inr}
use Rattle.std.specs.Int.{Width, w16, w32, w64, byte_len, from_le_bytes, to_le_bytes}
use Rattle.std.proofs.lemmas.Bool.{cases_lt, ltb-false, le-ltb}
use Rattle.std.proofs.lemmas.List.{take_at, drop_at, take-append-drop, length-append, length-take, get_or-drop, get_or-take, get_or_past}
use Rattle.std.proofs.lemmas.Nat.{le_bytes_2, le_bytes_4, le_bytes_8, from_le_bytes-to_le_bytes_2, from_le_bytes-to_le_bytes_4, from_le_bytes-to_le_bytes_8}
use Rattle.gfs_types.specs.declared.shape.Shape.{Shape}
use Rattle.log_codec.specs.Fields.{number, index, server, shape, IsNumber, IsIndex, IsServer, IsShape}
use Rattle.log_codec.specs.Reading.{◌>>=◌, Reader, wide_at, number_at, index_at, server_at, byte_at, shape_at, both}

abbrev pub IsBytes : List ℕ → Type 0
IsBytes bytes = (i : ℕ) → get_or bytes i 0 < 256

pub IsBytes-drop : (n : ℕ) (bytes : List ℕ) → IsBytes bytes → IsBytes (drop n bytes)
IsBytes-drop n bytes h i = rw get_or-drop (h (n + i))

IsBytes-take : (n : ℕ) (bytes : List ℕ) → IsBytes bytes → IsBytes (take n bytes)
IsBytes-take n bytes h i =
    elim (cases_lt i n) [
      | inl lt ↦ rw (get_or-take n bytes i 0 lt) (h i)
      | inr le ↦ rw (get_or_past (take n bytes) i 0 (omega (arith, length-take n bytes))) (omega arith)
    ]

pub IsBytes-rest : (b : ℕ) (bytes : List ℕ) → IsBytes (b ∷ bytes) → IsBytes bytes
IsBytes-rest b bytes h i = h (suc i)

-- the value of a step that did not fail
pub bind_some : {A B : Type 0} (r : Option A) (f : A → Option B) (y : B) → (r >>= f) ≡ Some y → (x : A) × (r ≡ Some x) × (f x ≡ Some y)
bind_some (Some x) f y e = (x, refl, e)
bind_some None f y e = absurd cc

-- a test that did not fail
guard_passed : {A : Type 0} (b : Bool) (x y : A) → cond b None (Some x) ≡ Some y → (b ≡ false) × (x ≡ y)
guard_passed true x y e = absurd cc
guard_passed false x y e = (refl, cc)

abbrev done : {A : Type 0} → A → Option A
done x = Some x

pub some_is : {A : Type 0} (x y : A) → done x ≡ done y → x ≡ y
some_is x y e = cc

-- what a reader took from the front
pub record Takes (bytes text rest : List ℕ) : Type 0 where
  pub parts : bytes ≡ text ++ rest
  pub rest_fits : IsBytes rest

pub Takes-then : (a x b y c : List ℕ) → Takes a x b → Takes b y c → Takes a (x ++ y) c
Takes-then a x b y c p q = record { parts = p.parts ∙ ap (λ (t : List ℕ). x ++ t) q.parts ∙ sym (append_assoc x y c); rest_fits = q.rest_fits }

-- a field: what is read is its one spelling, and what it may be is read again
pub record IsField {A : Type 0} (write : A → List ℕ) (Fits : A → Type 0) (read : Reader A) : Type 0 where
  pub takes : (bytes : List ℕ) (x : A × List ℕ) → IsBytes bytes → read bytes ≡ Some x → Takes bytes (write x.0) x.1 × Fits x.0
  pub again : (x : A) (rest : List ℕ) → Fits x → read (write x ++ rest) ≡ Some (x, rest)

pub both_are : {A B : Type 0} {wa : A → List ℕ} {fa : A → Type 0} {ra : Reader A} {wb : B → List ℕ} {fb : B → Type 0} {rb : Reader B}
    → IsField wa fa ra → IsField wb fb rb → IsField (λ (x : A × B). wa x.0 ++ wb x.1) (λ (x : A × B). fa x.0 × fb x.1) (both ra rb)
both_are {A = A} {B = B} {wa = wa} {fa = fa} {ra = ra} {wb = wb} {fb = fb} {rb = rb} p q = record {
  takes = λ bytes x fits e.
      let a = bind_some (ra bytes) (λ a. rb a.1 >>= λ b. Some ((a.0, b.0), b.1)) x e in
      let b = bind_some (rb a.0.1) (λ b. Some ((a.0.0, b.0), b.1)) x a.2 in
      let t = p.takes bytes a.0 fits a.1 in
      let u = q.takes a.0.1 b.0 t.0.rest_fits b.1 in
      let made : (A × B) × List ℕ = ((a.0.0, b.0.0), b.0.1) in
      subst (λ (y : (A × B) × List ℕ). Takes bytes (wa y.0.0 ++ wb y.0.1) y.1 × (fa y.0.0 × fb y.0.1)) (some_is made x b.2)
      (Takes-then bytes (wa a.0.0) a.0.1 (wb b.0.0) b.0.1 t.0 u.0, (t.1, u.1));
  again = λ x rest fits.
      let regrouped : (wa x.0 ++ wb x.1) ++ rest ≡ wa x.0 ++ (wb x.1 ++ rest) = append_assoc (wa x.0) (wb x.1) rest in
      ap (both ra rb) regrouped ∙ rw (p.again x.0 (wb x.1 ++ rest) fits.0, q.again x.1 rest fits.1) refl;
}

-- ---- numbers

record IsWide (w : Width) (limit : ℕ) : Type 0 where
  pub len : (n : ℕ) → length (to_le_bytes w n) ≡ byte_len w
  pub back : (bytes : List ℕ) → length bytes ≡ byte_len w → IsBytes bytes → to_le_bytes w (from_le_bytes w bytes) ≡ bytes
  pub again : (n : ℕ) → n < limit → from_le_bytes w (to_le_bytes w n) ≡ n
  pub below : (bytes : List ℕ) → IsBytes bytes → from_le_bytes w bytes < limit

wide16 : IsWide w16 (2 ^ 16)
wide16 = record {
  len = λ n. refl;
  back = λ bytes len fits. le_bytes_2 bytes _ len fits refl;
  again = λ n lt. from_le_bytes-to_le_bytes_2 n lt;
  below = λ bytes fits. omega (arith, fits 0, fits 1);
}

wide32 : IsWide w32 (2 ^ 32)
wide32 = record {
  len = λ n. refl;
  back = λ bytes len fits. le_bytes_4 bytes _ len fits refl;
  again = λ n lt. from_le_bytes-to_le_bytes_4 n lt;
  below = λ bytes fits. omega (arith, fits 0, fits 1, fits 2, fits 3);
}

wide64 : IsWide w64 (2 ^ 64)
wide64 = record {
  len = λ n. refl;
  back = λ bytes len fits. le_bytes_8 bytes _ len fits refl;
  again = λ n lt. from_le_bytes-to_le_bytes_8 n lt;
  below = λ bytes fits. omega (arith, fits 0, fits 1, fits 2, fits 3, fits 4, fits 5, fits 6, fits 7);
}

wide_takes : (w : Width) (limit : ℕ) (wide : IsWide w limit) (bytes : List ℕ) (n : ℕ) (rest : List ℕ) → IsBytes bytes → wide_at w bytes ≡ Some (n, rest) → Takes bytes (to_le_bytes w n) rest × (n < limit)
wide_takes w limit wide bytes n rest fits e =
    let g = guard_passed (ltb (length bytes) (byte_len w)) (from_le_bytes w (take (byte_len w) bytes), drop (byte_len w) bytes) (n, rest) e in
    let long : byte_len w ≤ length bytes = ltb-false _ _ g.0 in
    let n-is : from_le_bytes w (take (byte_len w) bytes) ≡ n = ap (λ (p : ℕ × List ℕ). p.0) g.1 in
    let rest-is : drop (byte_len w) bytes ≡ rest = ap (λ (p : ℕ × List ℕ). p.1) g.1 in
    let front : to_le_bytes w n ≡ take (byte_len w) bytes = rw (← n-is) (wide.back (take (byte_len w) bytes) (omega (arith, length-take (byte_len w) bytes)) (IsBytes-take (byte_len w) bytes fits)) in
    (record { parts = rw (front, ← rest-is) (sym (take-append-drop (byte_len w) bytes)); rest_fits = rw (← rest-is) (IsBytes-drop (byte_len w) bytes fits) }, rw (← n-is) (wide.below (take (byte_len w) bytes) (IsBytes-take (byte_len w) bytes fits)))

wide_again : (w : Width) (limit : ℕ) (wide : IsWide w limit) (n : ℕ) (rest : List ℕ) → n < limit → wide_at w (to_le_bytes w n ++ rest) ≡ Some (n, rest)
wide_again w limit wide n rest lt =
    let len = wide.len n in
    let long : ltb (length (to_le_bytes w n ++ rest)) (byte_len w) ≡ false = le-ltb _ _ (omega (arith, length-append (to_le_bytes w n) rest)) in
    rw (long, take_at (to_le_bytes w n) rest (byte_len w) len, drop_at (to_le_bytes w n) rest (byte_len w) len, wide.again n lt) refl

pub number_is : IsField number IsNumber number_at
unfolding number number_at
number_is = record {
  takes = λ bytes x fits e. wide_takes w64 (2 ^ 64) wide64 bytes x.0 x.1 fits e;
  again = λ n rest lt. wide_again w64 (2 ^ 64) wide64 n rest lt;
}

pub index_is : IsField index IsIndex index_at
unfolding index index_at
index_is = record {
  takes = λ bytes x fits e. wide_takes w32 (2 ^ 32) wide32 bytes x.0 x.1 fits e;
  again = λ n rest lt. wide_again w32 (2 ^ 32) wide32 n rest lt;
}

pub server_is : IsField server IsServer server_at
unfolding server server_at
server_is = record {
  takes = λ bytes x fits e. wide_takes w16 (2 ^ 16) wide16 bytes x.0 x.1 fits e;
  again = λ n rest lt. wide_again w16 (2 ^ 16) wide16 n rest lt;
}

-- ---- a byte, and a shape

byte_take : (bytes : List ℕ) (x : ℕ × List ℕ) → IsBytes bytes → byte_at bytes ≡ Some x → Takes bytes (x.0 ∷ []) x.1 × (x.0 < 256)
unfolding byte_at
byte_take [] x fits e = absurd cc
byte_take (b ∷ rest) x fits e =
    let made : ℕ × List ℕ = (b, rest) in
    subst (λ (y : ℕ × List ℕ). Takes (b ∷ rest) (y.0 ∷ []) y.1 × (y.0 < 256)) (some_is made x e) (record { parts = refl; rest_fits = IsBytes-rest b rest fits }, fits 0)

byte_again : (b : ℕ) (rest : List ℕ) → b < 256 → byte_at (b ∷ [] ++ rest) ≡ Some (b, rest)
unfolding byte_at
byte_again b rest lt = refl

abbrev shape_of : ℕ → ℕ → Shape
shape_of chunk goal = record { chunk = chunk; goal = goal }

shape_take : (bytes : List ℕ) (x : Shape × List ℕ) → IsBytes bytes → shape_at bytes ≡ Some x → Takes bytes (shape x.0) x.1 × IsShape x.0
unfolding shape shape_at
shape_take bytes x fits e =
    let a = bind_some (index_at bytes) (λ a. byte_at a.1 >>= λ b. Some (shape_of a.0 b.0, b.1)) x e in
    let b = bind_some (byte_at a.0.1) (λ b. Some (shape_of a.0.0 b.0, b.1)) x a.2 in
    let t = index_is.takes bytes a.0 fits a.1 in
    let u = byte_take a.0.1 b.0 t.0.rest_fits b.1 in
    let made : Shape × List ℕ = (shape_of a.0.0 b.0.0, b.0.1) in
    subst (λ (y : Shape × List ℕ). Takes bytes (index y.0.chunk ++ y.0.goal ∷ []) y.1 × IsShape y.0) (some_is made x b.2)
    (Takes-then bytes (index a.0.0) a.0.1 (b.0.0 ∷ []) b.0.1 t.0 u.0, (t.1, u.1))

shape_again : (s : Shape) (rest : List ℕ) → IsShape s → shape_at (shape s ++ rest) ≡ Some (s, rest)
unfolding shape shape_at
shape_again s rest fits =
    let regrouped : (index s.chunk ++ s.goal ∷ []) ++ rest ≡ index s.chunk ++ (s.goal ∷ [] ++ rest) = append_assoc (index s.chunk) (s.goal ∷ []) rest in
    ap shape_at regrouped ∙ rw (index_is.again s.chunk (s.goal ∷ [] ++ rest) fits.0, byte_again s.goal rest fits.1) refl

pub shape_is : IsField shape IsShape shape_at
shape_is = record { takes = shape_take; again = shape_again }
