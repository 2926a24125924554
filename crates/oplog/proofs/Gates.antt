-- Gates, and whether bytes are left.
use Rattle.std.proofs.Common.{◌≡◌, ◌≢◌, ℕ, ◌<◌, ◌≤◌, true, false, ◌==◌, List, [], ◌∷◌, length, drop, sym, ap, ◌∙◌, arith}
use Rattle.std.proofs.lemmas.Bool.{eqb-true, eq-eqb}
use Rattle.oplog.specs.Entries.{is_open}

pub open_is_some : (bytes : List ℕ) → is_open bytes ≡ true → 1 ≤ length bytes
open_is_some [] e = absurd cc
open_is_some (gate ∷ rest) e = omega arith

pub opened : (bytes rest : List ℕ) → is_open bytes ≡ true → rest ≡ drop 1 bytes → bytes ≡ 1 ∷ rest
opened [] rest e is = absurd cc
opened (gate ∷ behind) rest e is = ap (λ (g : ℕ). g ∷ behind) (eqb-true gate 1 e) ∙ ap (λ (l : List ℕ). 1 ∷ l) (sym is)

pub record Shut (bytes : List ℕ) : Type 0 where
  pub gate : ℕ
  pub rest : List ℕ
  pub parts : bytes ≡ gate ∷ rest
  pub closed : gate ≢ 1

pub shut : (bytes : List ℕ) → false ≡ is_open bytes → 0 < length bytes → Shut bytes
shut [] e some = absurd (omega (arith, some))
shut (gate ∷ rest) e some = record { gate = gate; rest = rest; parts = λ i. gate ∷ rest; closed = λ is. let was_open : gate == 1 ≡ true = eq-eqb gate 1 is in let was_shut : false ≡ gate == 1 = e in absurd cc }

pub not_open : (bytes rest : List ℕ) → is_open bytes ≡ false → bytes ≡ 1 ∷ rest → ⊥
not_open bytes rest e is = let was_open : is_open bytes ≡ true = ap is_open is in absurd cc

pub some_left : (bytes : List ℕ) → false ≡ (length bytes == 0) → 0 < length bytes
some_left [] e = absurd cc
some_left (b ∷ rest) e = omega arith

pub none_left : (bytes : List ℕ) → true ≡ (length bytes == 0) → length bytes ≡ 0
none_left bytes e = eqb-true (length bytes) 0 (sym e)
