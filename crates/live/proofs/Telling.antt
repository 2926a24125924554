-- What clients were answered is printed one after the other.
use Rattle.std.proofs.Common.{◌≡◌, ℕ, suc, ◌+◌, ◌<◌, ◌≤◌, List, [], ◌∷◌, ◌++◌, length, get_or, take, map, Option, sym, ap, subst, ◌∙◌, append_assoc, arith}
use Rattle.std.specs.Io.KnownBytes.{Appends, Keeps}
use Rattle.std.proofs.Math.Seq.{take-suc}
use Rattle.std.proofs.lemmas.List.{append-nil, map-append, length-map, length-take-le}
use Rattle.gfs_types.specs.declared.answer.Answer.{Answer}
use Rattle.cell_looks.specs.ToldLines.{told_line}
use Rattle.cell_looks.proofs.Appending.{appends_twice, appends_kept, take_all}
use Rattle.live.specs.Live.{told_by, told_from}

told_one_more : (client : ℕ) (xs : List Answer) (x : Answer) → told_by client (xs ++ x ∷ []) ≡ told_by client xs ++ told_line client x
told_one_more client [] x = append-nil (told_line client x)
told_one_more client (y ∷ ys) x = ap (λ l. told_line client y ++ l) (told_one_more client ys x) ∙ sym (append_assoc (told_line client y) (told_by client ys) (told_line client x))

-- one answer more of a client was printed
pub told_next : (a b c : Option (List ℕ)) (client : ℕ) (answers : List Answer) (k : ℕ) (answer : Answer) → k < length answers → answer ≡ get_or answers k answer → Appends a b (told_by client (take k answers)) → Appends b c (told_line client answer)
    → Appends a c (told_by client (take (k + 1) answers))
told_next a b c client answers k answer within at before line =
    let next : k + 1 ≡ suc k = omega arith in
    subst (Appends a c)
    (sym (ap (λ (n : ℕ). told_by client (take n answers)) next ∙ ap (told_by client) (take-suc answers k answer within) ∙ told_one_more client (take k answers) (get_or answers k answer) ∙ ap (λ (x : Answer). told_by client (take k answers) ++ told_line client x) (sym at)))
    (appends_twice a b c (told_by client (take k answers)) (told_line client answer) before line)

from_one_more : (client : ℕ) (xs : List (List Answer)) (x : List Answer) → told_from client (xs ++ x ∷ []) ≡ told_from client xs ++ told_by (client + length xs) x
from_one_more client [] x = append-nil (told_by client x) ∙ ap (λ (n : ℕ). told_by n x) (omega arith)
from_one_more client (y ∷ ys) x =
    let n : suc client + length ys ≡ client + suc (length ys) = omega arith in
    ap (λ l. told_by client y ++ l) (from_one_more (suc client) ys x ∙ ap (λ (m : ℕ). told_from (suc client) ys ++ told_by m x) n)
    ∙ sym (append_assoc (told_by client y) (told_from (suc client) ys) (told_by (client + suc (length ys)) x))

-- one client's answers more were printed
pub from_next : {P : Type 0} (f : P → List Answer) (a b c : Option (List ℕ)) (players : List P) (k : ℕ) (player : P) → k < length players → player ≡ get_or players k player → Appends a b (told_from 1 (map f (take k players)))
    → Appends b c (told_by (k + 1) (f player)) → Appends a c (told_from 1 (map f (take (k + 1) players)))
from_next {P} f a b c players k player within at before one =
    let first = map f (take k players) in
    let few : k ≤ length players = omega (arith, within) in
    let count : 1 + length first ≡ k + 1 = omega (arith, length-map (take k players) f, length-take-le k players few) in
    let next : k + 1 ≡ suc k = omega arith in
    let all : map f (take (k + 1) players) ≡ first ++ f player ∷ [] =
    ap (λ (n : ℕ). map f (take n players)) next ∙ ap (map f) (take-suc players k player within) ∙ map-append f (take k players) (get_or players k player ∷ []) ∙ ap (λ (x : P). first ++ f x ∷ []) (sym at) in
    subst (Appends a c) (sym (ap (told_from 1) all ∙ from_one_more 1 first (f player) ∙ ap (λ (m : ℕ). told_from 1 first ++ told_by m (f player)) count))
    (appends_twice a b c (told_from 1 first) (told_by (k + 1) (f player)) before one)

-- all answers of a client were printed
pub told_all : (a b : Option (List ℕ)) (client : ℕ) (answers : List Answer) (k : ℕ) → length answers ≤ k → Appends a b (told_by client (take k answers)) → Appends a b (told_by client answers)
told_all a b client answers k past told = subst (λ (xs : List Answer). Appends a b (told_by client xs)) (take_all answers k past) told

-- all clients' answers were printed
pub from_all : {P : Type 0} (f : P → List Answer) (a b c : Option (List ℕ)) (players : List P) (k : ℕ) → length players ≤ k → Appends a b (told_from 1 (map f (take k players))) → Keeps b c → Appends a c (told_from 1 (map f players))
from_all {P} f a b c players k past told keeps =
    appends_kept a b c (told_from 1 (map f players)) (subst (λ (xs : List P). Appends a b (told_from 1 (map f xs))) (take_all players k past) told) keeps
