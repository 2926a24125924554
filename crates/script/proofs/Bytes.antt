-- The bytes of a line, one after the other.
use Rattle.std.proofs.Common.{◌≡◌, ◌<◌, ℕ, Bool, true, false, List, [], ◌∷◌, ◌++◌, inl, inr, length, Option, Some, None, refl, sym, ap, ◌∙◌}
use Rattle.std.specs.Prelude.{◌↔◌}
use Rattle.std.specs.Io.KnownBytes.{Keeps, Consumes, IsAtEnd}
use Rattle.std.proofs.lemmas.List.{append-nil, append_assoc}
use Rattle.script.specs.Reading.{line_feed, longest_line, HasNoFeed, ReadsLine, Gives, Loses}

pub keeps_all : (a : Option (List ℕ)) → Keeps a a
keeps_all None = tt
keeps_all (Some xs) = refl

pub keeps_on : (a b c : Option (List ℕ)) → Keeps a b → Keeps b c → Keeps a c
keeps_on None b c h k = tt
keeps_on (Some xs) None c h k = absurd h
keeps_on (Some xs) (Some ys) None h k = absurd k
keeps_on (Some xs) (Some ys) (Some zs) h k = k ∙ h

-- one byte of the known bytes
pub gives_byte : (a b c : Option (List ℕ)) (byte : ℕ) → Keeps a b → Consumes b c (byte ∷ []) → Gives a c (Some byte)
gives_byte None b c byte h k = tt
gives_byte (Some xs) None c byte h k = absurd h
gives_byte (Some xs) (Some ys) None byte h k = absurd k
gives_byte (Some xs) (Some ys) (Some zs) byte h k = sym h ∙ k

pub gives_none : (a b c : Option (List ℕ)) → Keeps a b → Consumes b c [] → IsAtEnd c → Gives a c None
gives_none None b c h k end = tt
gives_none (Some xs) None c h k end = absurd h
gives_none (Some xs) (Some ys) None h k end = absurd k
gives_none (Some xs) (Some ys) (Some zs) h k end = (sym h ∙ (k ∙ end), end)

pub loses_none : (a : Option (List ℕ)) → Loses a a []
loses_none None = tt
loses_none (Some xs) = refl

pub loses_one : (a b c : Option (List ℕ)) (items : List ℕ) (byte : ℕ) → Loses a b items → Gives b c (Some byte) → Loses a c (items ++ byte ∷ [])
loses_one None b c items byte h g = tt
loses_one (Some xs) None c items byte h g = absurd h
loses_one (Some xs) (Some ys) None items byte h g = absurd g
loses_one (Some xs) (Some ys) (Some zs) items byte h g = h ∙ (ap (λ (l : List ℕ). items ++ l) g ∙ sym (append_assoc items (byte ∷ []) zs))

pub reads_feed : (a b c : Option (List ℕ)) (items : List ℕ) (byte : ℕ) → HasNoFeed items → Loses a b items → Gives b c (Some byte) → byte ≡ line_feed → ReadsLine a c items true
reads_feed None b c items byte none h g is = tt
reads_feed (Some xs) None c items byte none h g is = absurd h
reads_feed (Some xs) (Some ys) None items byte none h g is = absurd g
reads_feed (Some xs) (Some ys) (Some zs) items byte none h g is = (none, inl (h ∙ (ap (λ (l : List ℕ). items ++ l) g ∙ ap (λ (x : ℕ). items ++ x ∷ zs) is), refl))

pub reads_end : (a b c : Option (List ℕ)) (items : List ℕ) (is_there : Bool) → HasNoFeed items → Loses a b items → Gives b c None → (is_there ≡ false ↔ items ≡ []) → ReadsLine a c items is_there
reads_end None b c items is_there none h g empty = tt
reads_end (Some xs) None c items is_there none h g empty = absurd h
reads_end (Some xs) (Some ys) None items is_there none h g empty = absurd g
reads_end (Some xs) (Some ys) (Some zs) items is_there none h g empty = (none, inr (inl (h ∙ (ap (λ (l : List ℕ). items ++ l) g.0 ∙ append-nil items), g.1, empty)))

pub reads_long : (a b : Option (List ℕ)) (items : List ℕ) → HasNoFeed items → Loses a b items → longest_line < length items → ReadsLine a b items true
reads_long None b items none h long = tt
reads_long (Some xs) None items none h long = absurd h
reads_long (Some xs) (Some ys) items none h long = (none, inr (inr (h, long, refl)))
