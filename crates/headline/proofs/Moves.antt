-- The whole machine follows the master's log, where handles are numbered on, and gone ones stand where they stood before.
use Rattle.std.proofs.Common.{ℕ, ◌≤◌, inl, arith}
use Rattle.relaxed_file.specs.Machine.{Machine}
use Rattle.protocol.specs.Logged.{Logged}
use Rattle.laws_machine.specs.ChunksAlike.{ChunkSides, NoneEnds}
use Rattle.laws_machine.specs.MasterSteps.{IsWhole, Comes, IsCopy, HaveSameFiles}
use Rattle.laws_machine.specs.MastersEvents.{IsGoneFrom}
use Rattle.laws_machine.proofs.MasterKept.{comes_both, copies_may_come_and_go, stays_whole}
use Rattle.laws_machine.proofs.MasterNames.{more_end}

pub record Moves (E : ℕ → Type 0) (k j : ChunkSides) (n : Machine) : Type 0 where
  pub comes : Comes E k j n
  pub next : k.log.next_handle ≤ j.log.next_handle
  pub gone : IsGoneFrom k j

-- it does nothing
pub moves_nowhere : (E : ℕ → Type 0) (k : ChunkSides) (n : Machine) → IsWhole k n → Moves E k k n
moves_nowhere E k n h = record { comes = more_end NoneEnds E k k n (λ handle none. absurd none) (stays_whole k n h); next = omega arith; gone = λ handle s is. inl is }

-- the same handles may end
pub both_come : (E : ℕ → Type 0) (k j i : ChunkSides) (a n : Machine) → Comes E k j a → Comes E j i n → Comes E k i n
both_come E k j i a n one two = comes_both E E E k j i a n (λ handle over. over) (λ handle over. over) one two

-- on to another log that has the same files
pub to_log : (E : ℕ → Type 0) (k j : ChunkSides) (n : Machine) (l : Logged) → Moves E k j n → HaveSameFiles j.log l → ((handle : ℕ) → IsCopy l handle → E handle) → Moves E k (record j { log = l }) n
to_log E k j n l m same over =
    let low = m.next in
    let more = same.next_handle in
    record {
      comes = both_come E k j (record j { log = l }) n n m.comes (more_end (IsCopy l) E j (record j { log = l }) n over (copies_may_come_and_go j n l m.comes.whole same));
      next = omega (arith, low, more);
      gone = m.gone;
    }

-- along a trail, from another log that has the same files
pub along : (E : ℕ → Type 0) (k j : ChunkSides) (a n : Machine) (l : Logged) → Moves E k (record k { log = l }) a → Comes E (record k { log = l }) j n → l.next_handle ≤ j.log.next_handle → IsGoneFrom k j → Moves E k j n
along E k j a n l m comes next gone =
    let low = m.next in
    record {
      comes = both_come E k (record k { log = l }) j a n m.comes comes;
      next = omega (arith, low, next);
      gone = gone;
    }
