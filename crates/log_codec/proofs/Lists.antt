-- Paths, lists, refusals: what is read is what was written, and what was written is read again.
use Rattle.std.proofs.Common.{◌≡◌, ℕ, zero, suc, ◌^◌, ◌<◌, ◌≤◌, Bool, true, false, cond, ltb, leb, List, [], ◌∷◌, ◌++◌, length, take, drop, Option, Some, None, refl, sym, ap, subst, ◌∙◌, append_assoc, arith}
use Rattle.std.specs.Prelude.{◌&&◌, ◌||◌}
use Rattle.std.specs.Int.{w16, to_le_bytes}
use Rattle.std.specs.List.{flat_map, AllByRecursion, list_all, slice_split}
use Rattle.std.specs.Str.{is_utf8, bytes_eq}
use Rattle.std.proofs.lemmas.Bool.{leb-true, ltb-false, le-ltb}
use Rattle.std.proofs.lemmas.List.{take_at, drop_at, take-append-drop, length-append, length-take}
use Rattle.std.proofs.lemmas.List.Concat.{flat_map-cons}
use Rattle.gfs_types.specs.Paths.{is_path, is_part, is_slash}
use Rattle.log_codec.specs.Fields.{number, index, server, path, members, handles, IsPath, AreMembers, AreHandles}
use Rattle.log_codec.specs.Reading.{◌>>=◌, Reader, number_at, index_at, server_at, path_in, path_at, many_at, members_at, handles_at}
use Rattle.log_codec.proofs.Fields.{IsBytes, IsBytes-rest, IsBytes-drop, bind_some, some_is, Takes, Takes-then, IsField, number_is, index_is, server_is}

-- ---- so many fields

many_take : {A : Type 0} {w : A → List ℕ} {f : A → Type 0} {one : Reader A} → IsField w f one → (n : ℕ) (bytes : List ℕ) (x : List A × List ℕ) → IsBytes bytes → many_at one n bytes ≡ Some x
    → Takes bytes (flat_map w x.0) x.1 × (length x.0 ≡ n) × AllByRecursion f x.0
unfolding many_at
many_take {A = A} {w = w} {f = f} p zero bytes x fits e =
    subst (λ (y : List A × List ℕ). Takes bytes (flat_map w y.0) y.1 × (length y.0 ≡ 0) × AllByRecursion f y.0) (some_is ([], bytes) x e) (record { parts = refl; rest_fits = fits }, refl, tt)
many_take {A = A} {w = w} {f = f} {one = one} p (suc n) bytes x fits e =
    let a = bind_some (one bytes) (λ first. many_at one n first.1 >>= λ others. Some (first.0 ∷ others.0, others.1)) x e in
    let b = bind_some (many_at one n a.0.1) (λ others. Some (a.0.0 ∷ others.0, others.1)) x a.2 in
    let first = p.takes bytes a.0 fits a.1 in
    let second = many_take p n a.0.1 b.0 first.0.rest_fits b.1 in
    let both = Takes-then bytes (w a.0.0) a.0.1 (flat_map w b.0.0) b.0.1 first.0 second.0 in
    let made : List A × List ℕ = (a.0.0 ∷ b.0.0, b.0.1) in
    subst (λ (y : List A × List ℕ). Takes bytes (flat_map w y.0) y.1 × (length y.0 ≡ suc n) × AllByRecursion f y.0) (some_is made x b.2) (rw flat_map-cons both, ap suc second.1, (first.1, second.2))

many_again : {A : Type 0} {w : A → List ℕ} {f : A → Type 0} {one : Reader A} → IsField w f one → (xs : List A) (rest : List ℕ) → AllByRecursion f xs → many_at one (length xs) (flat_map w xs ++ rest) ≡ Some (xs, rest)
unfolding many_at
many_again p [] rest fits = refl
many_again {w = w} {one = one} p (x ∷ xs) rest fits =
    let regrouped : flat_map w (x ∷ xs) ++ rest ≡ w x ++ (flat_map w xs ++ rest) = ap (λ (t : List ℕ). t ++ rest) (flat_map-cons w x xs) ∙ append_assoc (w x) (flat_map w xs) rest in
    ap (many_at one (suc (length xs))) regrouped ∙ rw (p.again x (flat_map w xs ++ rest) fits.0, many_again p xs rest fits.1) refl

members_take : (bytes : List ℕ) (x : List ℕ × List ℕ) → IsBytes bytes → members_at bytes ≡ Some x → Takes bytes (members x.0) x.1 × AreMembers x.0
unfolding members members_at
members_take [] x fits e = absurd cc
members_take (n ∷ rest) x fits e =
    let t = many_take server_is n rest x (IsBytes-rest n rest fits) e in
    (record { parts = ap (λ (r : List ℕ). n ∷ r) t.0.parts ∙ ap (λ k. k ∷ (flat_map server x.0 ++ x.1)) (sym t.1); rest_fits = t.0.rest_fits }, (omega (arith, t.1, fits 0), t.2))

pub members_are : IsField members AreMembers members_at
unfolding members members_at
members_are = record {
  takes = members_take;
  again = λ xs rest fits. many_again server_is xs rest fits.1;
}

handles_take : (bytes : List ℕ) (x : List ℕ × List ℕ) → IsBytes bytes → handles_at bytes ≡ Some x → Takes bytes (handles x.0) x.1 × AreHandles x.0
unfolding handles handles_at
handles_take bytes x fits e =
    let a = bind_some (index_at bytes) (λ n. many_at number_at n.0 n.1) x e in
    let t = index_is.takes bytes a.0 fits a.1 in
    let u = many_take number_is a.0.0 a.0.1 x t.0.rest_fits a.2 in
    let whole = Takes-then bytes (index a.0.0) a.0.1 (flat_map number x.0) x.1 t.0 u.0 in
    (subst (λ k. Takes bytes (index k ++ flat_map number x.0) x.1) (sym u.1) whole, (omega (arith, u.1, t.1), u.2))

handles_again : (xs : List ℕ) (rest : List ℕ) → AreHandles xs → handles_at (handles xs ++ rest) ≡ Some (xs, rest)
unfolding handles handles_at
handles_again xs rest fits =
    let regrouped : (index (length xs) ++ flat_map number xs) ++ rest ≡ index (length xs) ++ (flat_map number xs ++ rest) = append_assoc (index (length xs)) (flat_map number xs) rest in
    ap handles_at regrouped ∙ rw (index_is.again (length xs) (flat_map number xs ++ rest) fits.0, many_again number_is xs rest fits.1) refl

pub handles_are : IsField handles AreHandles handles_at
handles_are = record { takes = handles_take; again = handles_again }

-- ---- paths

chosen_is : (b : Bool) (text x : List ℕ) → cond b (Some text) None ≡ Some x → (b ≡ true) × (text ≡ x)
chosen_is true text x e = (refl, cc)
chosen_is false text x e = absurd cc

path_in_is : (text x : List ℕ) → path_in text ≡ Some x → IsPath x × (text ≡ x)
unfolding path_in
path_in_is text x e =
    let g = chosen_is (is_path text && is_utf8 text) text x e in
    (subst IsPath g.1 g.0, g.1)

path_in_again : (text : List ℕ) → IsPath text → path_in text ≡ Some text
unfolding path_in
path_in_again text h = rw h refl

guarded : {A : Type 0} (b : Bool) (r : Option A) (y : A) → cond b None r ≡ Some y → (b ≡ false) × (r ≡ Some y)
guarded true r y e = absurd cc
guarded false r y e = (refl, e)

two : (a b : Bool) → (a && b) ≡ true → (a ≡ true) × (b ≡ true)
two true b h = (refl, h)
two false b h = absurd cc

pub path_is_short : (text : List ℕ) → is_path text ≡ true → length text < 2 ^ 16
path_is_short [] h = omega arith
path_is_short (c ∷ rest) h =
    let front = two (is_slash c && leb (length rest) 4095) (bytes_eq rest [] || list_all is_part (slice_split is_slash rest)) h in
    let short = two (is_slash c) (leb (length rest) 4095) front.0 in
    omega (arith, leb-true _ _ short.1)

short_path : (text : List ℕ) → IsPath text → length text < 2 ^ 16
short_path text h = path_is_short text (two (is_path text) (is_utf8 text) h).0

path_take : (bytes : List ℕ) (x : List ℕ × List ℕ) → IsBytes bytes → path_at bytes ≡ Some x → Takes bytes (path x.0) x.1 × IsPath x.0
unfolding path path_at server
path_take bytes x fits e =
    let a = bind_some (server_at bytes) (λ n. cond (ltb (length n.1) n.0) None (path_in (take n.0 n.1) >>= λ text. Some (text, drop n.0 n.1))) x e in
    let n = a.0 in
    let t = server_is.takes bytes n fits a.1 in
    let g = guarded (ltb (length n.1) n.0) (path_in (take n.0 n.1) >>= λ text. Some (text, drop n.0 n.1)) x a.2 in
    let long : n.0 ≤ length n.1 = ltb-false _ _ g.0 in
    let b = bind_some (path_in (take n.0 n.1)) (λ text. Some (text, drop n.0 n.1)) x g.1 in
    let p = path_in_is (take n.0 n.1) b.0 b.1 in
    let len : length b.0 ≡ n.0 = ap length (sym p.1) ∙ omega (arith, length-take n.0 n.1) in
    let second : Takes n.1 b.0 (drop n.0 n.1) = record { parts = rw (← p.1) (sym (take-append-drop n.0 n.1)); rest_fits = IsBytes-drop n.0 n.1 t.0.rest_fits } in
    let whole = Takes-then bytes (to_le_bytes w16 n.0) n.1 b.0 (drop n.0 n.1) t.0 second in
    let made : List ℕ × List ℕ = (b.0, drop n.0 n.1) in
    subst (λ (y : List ℕ × List ℕ). Takes bytes (path y.0) y.1 × IsPath y.0) (some_is made x b.2) (subst (λ (k : ℕ). Takes bytes (to_le_bytes w16 k ++ b.0) (drop n.0 n.1)) (sym len) whole, p.0)

path_again : (text : List ℕ) (rest : List ℕ) → IsPath text → path_at (path text ++ rest) ≡ Some (text, rest)
unfolding path path_at server
path_again text rest h =
    let regrouped : (server (length text) ++ text) ++ rest ≡ server (length text) ++ (text ++ rest) = append_assoc (server (length text)) text rest in
    let long : ltb (length (text ++ rest)) (length text) ≡ false = le-ltb _ _ (omega (arith, length-append text rest)) in
    ap path_at regrouped ∙ rw (server_is.again (length text) (text ++ rest) (short_path text h), long, take_at text rest (length text) refl, drop_at text rest (length text) refl, path_in_again text h) refl

pub path_is : IsField path IsPath path_at
path_is = record { takes = path_take; again = path_again }
