-- A log replayed one place after the other.
use Rattle.std.proofs.Common.{◌≡◌, ℕ, zero, suc, ◌+◌, ◌≤◌, Bool, true, false, ◌&&◌, List, [], ◌∷◌, ◌++◌, length, drop, refl, sym, ap, ◌∙◌, arith}
use Rattle.std.specs.Prelude.{slice_get}
use Rattle.std.specs.FinMap.{keys}
use Rattle.log_records.specs.declared.record.Record.{Record}
use Rattle.protocol.specs.Logged.{Logged, LogDisk, first_logged, after_record, after_records}
use Rattle.master_state.specs.Follows.{are_unowned}
use Rattle.master_replay.specs.Restarts.{after_some, some_follows, all_follow, is_lawful}

one_more : (l : Logged) (rs : List Record) (n : ℕ) → after_records (after_some l (slice_get rs n)) (drop (suc n) rs) ≡ after_records l (drop n rs)
one_more l [] zero = refl
one_more l [] (suc n) = refl
one_more l (r ∷ rs) zero = refl
one_more l (r ∷ rs) (suc n) = one_more l rs n

one_follows : (l : Logged) (rs : List Record) (n : ℕ)
    → (some_follows l (slice_get rs n) && all_follow (after_some l (slice_get rs n)) (drop (suc n) rs)) ≡ all_follow l (drop n rs)
one_follows l [] zero = refl
one_follows l [] (suc n) = refl
one_follows l (r ∷ rs) zero = refl
one_follows l (r ∷ rs) (suc n) = one_follows l rs n

module _ (l new : Logged) (rs : List Record) (n : ℕ) where
  pub next_state : new ≡ after_some l (slice_get rs n) → after_records new (drop (n + 1) rs) ≡ after_records l (drop n rs)
  next_state e =
      let next : n + 1 ≡ suc n = omega arith in
      ap (λ (s : Logged). after_records s (drop (n + 1) rs)) e
      ∙ ap (λ (k : ℕ). after_records (after_some l (slice_get rs n)) (drop k rs)) next
      ∙ one_more l rs n

  pub next_follows : new ≡ after_some l (slice_get rs n) → some_follows l (slice_get rs n) ≡ true → all_follow new (drop (n + 1) rs) ≡ all_follow l (drop n rs)
  next_follows e fits =
      let next : n + 1 ≡ suc n = omega arith in
      ap (λ (s : Logged). all_follow s (drop (n + 1) rs)) e
      ∙ ap (λ (k : ℕ). all_follow (after_some l (slice_get rs n)) (drop k rs)) next
      ∙ sym (ap (λ b. b && all_follow (after_some l (slice_get rs n)) (drop (suc n) rs)) fits)
      ∙ one_follows l rs n

-- where one record doesn't follow, the log isn't a master's
pub next_fails : (l : Logged) (rs : List Record) (n : ℕ) → some_follows l (slice_get rs n) ≡ false → all_follow l (drop n rs) ≡ false
next_fails l rs n fails = sym (one_follows l rs n) ∙ ap (λ b. b && all_follow (after_some l (slice_get rs n)) (drop (suc n) rs)) fails

pub none_left : (l : Logged) (rs : List Record) (n : ℕ) → length rs ≤ n → after_records l (drop n rs) ≡ l
none_left l [] zero h = refl
none_left l [] (suc n) h = refl
none_left l (r ∷ rs) zero h = absurd (omega (arith, h))
none_left l (r ∷ rs) (suc n) h = none_left l rs n (omega (arith, h))

pub all_done : (l : Logged) (rs : List Record) (n : ℕ) → length rs ≤ n → all_follow l (drop n rs) ≡ true
all_done l [] zero h = refl
all_done l [] (suc n) h = refl
all_done l (r ∷ rs) zero h = absurd (omega (arith, h))
all_done l (r ∷ rs) (suc n) h = all_done l rs n (omega (arith, h))

pub both : (l : Logged) (items records : List Record) → after_records l (items ++ records) ≡ after_records (after_records l items) records
both l [] records = refl
both l (r ∷ items) records = both (after_record l r) items records

-- what decides whether a log is a master's, once each of its records follows
pub lawful : (disk : LogDisk) (start last : Logged) (b : Bool) → start ≡ first_logged → last ≡ after_records (after_records start disk.items) disk.records
    → all_follow start (disk.items ++ disk.records) ≡ true → are_unowned last.table (keys last.copies) ≡ b → is_lawful disk ≡ b
lawful disk start last b first is follow decides =
    let whole : List Record = disk.items ++ disk.records in
    let end : after_records first_logged whole ≡ last = both first_logged disk.items disk.records ∙ sym (is ∙ ap (λ (s : Logged). after_records (after_records s disk.items) disk.records) first) in
    let all : all_follow first_logged whole ≡ true = sym (ap (λ (s : Logged). all_follow s whole) first) ∙ follow in
    ap (λ (a : Bool). a && are_unowned (after_records first_logged whole).table (keys (after_records first_logged whole).copies)) all
    ∙ ap (λ (s : Logged). are_unowned s.table (keys s.copies)) end
    ∙ decides
