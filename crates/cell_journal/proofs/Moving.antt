-- Each step keeps the rule.
use Rattle.std.proofs.Common.{◌≡◌, ◌≢◌, ℕ, ◌<◌, ◌==◌, Bool, true, false, List, [], ◌∷◌, ◌++◌, length, None, refl, sym, ap, ◌∙◌, subst, arith, inl, slice_set}
use Rattle.std.proofs.lemmas.List.{append-nil}
use Rattle.std.proofs.lemmas.Bool.Decides.{nat_tests}
use mathlib.Core.List.{IsPrefix}
use prog.Atomic.{either}
use Rattle.logbook.specs.Pages.{Cell, cell, keeps, gives, adds, Nib, no_nib, may_write, step, Moves, Goes}
use Rattle.cell_journal.proofs.Begins.{prefix_trans}
use Rattle.cell_journal.specs.declared.note.Note.{Note}
use Rattle.cell_journal.specs.declared.note.Note.TheVariants.{Fresh, Begins, Adds, Ends}
use Rattle.cell_journal.specs.Log.{Written, written, nothing_written, written_of, items_of, Home, Open, May, IsTurn, IsOver, last_next, count_of}
use Rattle.cell_journal.specs.ListRules.{IsKept, Keeps, Makes, Comes, AddsIt}
use Rattle.cell_journal.proofs.Cells.{home_in, home_set, set_home, set_else, set_length, cell_push, home_push, apart}
use Rattle.cell_journal.proofs.Turning as turning
use Rattle.cell_journal.proofs.Turning.{written_snoc, legal_snoc, legal_homes, last_snoc}

abbrev pub at_head : ℕ → ℕ
at_head n = either (n == 0) 0 n

none_begun : (b : Bool) → count_of b ≡ 0 → b ≡ false
none_begun true h = absurd (omega (arith, h))
none_begun false h = refl

homes_of : (cs : List Cell) (n : ℕ) (p : Nib) (k : ℕ) → Home cs k → Home (slice_set (slice_set cs 0 (n, true)) p.key (p.value, true)) k
homes_of cs n p k h = home_set (slice_set cs 0 (n, true)) p.key p.value k (home_set cs 0 n k h)

own_home : (cs : List Cell) (n : ℕ) (p : Nib) → p.key < length cs → Home (slice_set (slice_set cs 0 (n, true)) p.key (p.value, true)) p.key
own_home cs n p lt = ap (λ (c : Cell). c.1) (set_home (slice_set cs 0 (n, true)) p.key p.value (subst (λ (m : ℕ). p.key < m) (sym (set_length cs 0 (n, true))) lt))

module _ {T : Type 0} where
  abbrev pub shown : List (Note T) → List (Note T)
  shown log = []

  abbrev pub moved : List (Note T) → List (Note T) → ℕ → Type 0
  moved xs ys n = Unit {0}

  pub make_moves : (v : List (Note T)) (ask : Note T) → Moves IsKept shown moved 0 (v, (no_nib, None)) at_head (Makes (step 0 0 0 ask) (v, (no_nib, None)))
  make_moves v ask cs log kept pre away =
      let n : ℕ = at_head (cell cs 0).0 in
      let e : Note T = Fresh (length cs) in
      let ds : List Cell = slice_set cs 0 (n, true) ++ (0, false) ∷ [] in
      let homes : (k : ℕ) → Home cs k → Home ds k = λ k h. home_push (slice_set cs 0 (n, true)) (0, false) k (home_set cs 0 n k h) in
      let counted : Home cs 1 = ap (λ (c : Cell). c.1) kept.count in (
        home_in cs 0 kept.head,
        kept.head,
        (
          adds,
          e ∷ [],
          None,
          tt,
          record {
            head = homes 0 kept.head;
            count = cell_push (slice_set cs 0 (n, true)) (0, false) 1 (home_set cs 0 n 1 counted) ∙ (set_else cs 0 (n, true) 1 (λ s. omega (arith, s)) ∙ (kept.count ∙ ap (λ (w : Written T). (count_of w.begun, true)) (sym (written_snoc log e))));
            legal = legal_snoc ds nothing_written log e (legal_homes cs ds nothing_written log homes kept.legal) tt;
          },
          inl (refl, refl),
          (refl, sym (last_snoc log e)),
        ),
      )

  -- an entry that uses the turn
  uses : (cs : List Cell) (log : List (Note T)) (n : ℕ) (p : Nib) (e : Note T) → IsKept cs log → p.key < length cs → (cell cs p.key).1 ≡ false → IsTurn p.key (written_of log)
      → (written_of (log ++ e ∷ [])).begun ≡ true
      → ((ds : List Cell) → Open ds (written_of log) → May ds (written_of log) e) → IsKept (slice_set (slice_set cs 0 (n, true)) p.key (p.value, true)) (log ++ e ∷ [])
  uses cs log n p e kept lt away mine begun may =
      let ds : List Cell = slice_set (slice_set cs 0 (n, true)) p.key (p.value, true) in
      let counted : Home cs 1 = ap (λ (c : Cell). c.1) kept.count in
      let other : 1 ≢ p.key = apart cs 1 p.key counted away in
      record {
        head = homes_of cs n p 0 kept.head;
        count = set_else (slice_set cs 0 (n, true)) p.key (p.value, true) 1 other ∙ (set_else cs 0 (n, true) 1 (λ z. omega (arith, z)) ∙ (kept.count ∙ ap (λ (b : Bool). (count_of b, true)) (mine.0 ∙ sym begun)));
        legal = legal_snoc ds nothing_written log e (legal_homes cs ds nothing_written log (homes_of cs n p) kept.legal) (may ds (mine.0, mine.1, subst (λ (k : ℕ). Home ds k) (sym mine.2) (own_home cs n p lt)));
      }

  pub add_moves : (v : List (Note T)) (p : Nib) (e : T) (m : ℕ) (xs : List (Note T)) → p.right ≡ may_write → IsPrefix xs v → IsTurn p.key (written_of xs)
      → Moves IsKept shown moved 0 (v, (p, None)) at_head (AddsIt (step 0 0 0 (Adds e m)) (v, (p, None)))
  add_moves v p e m xs right front mine cs log kept pre away =
      let gone = away right in
      let told : Keeps p.key log = turning.keeps cs p.key log gone.1 kept.legal in
      let now = told xs (prefix_trans xs v log front pre) mine in
      let a : Note T = Adds e (last_next v) in (
        home_in cs 0 kept.head,
        kept.head,
        (
          gives,
          a ∷ [],
          None,
          right,
          uses cs log (at_head (cell cs 0).0) p a kept gone.0 gone.1 now.0 (ap (λ (w : Written T). w.begun) (written_snoc log a)) (λ ds o. o),
          inl (refl, refl),
          (log, pre, told, refl),
        ),
      )

  pub end_moves : (v : List (Note T)) (p : Nib) (xs : List (Note T)) → p.right ≡ may_write → IsPrefix xs v → IsTurn p.key (written_of xs)
      → Moves IsKept shown moved 0 (v, (p, None)) at_head (AddsIt (step 0 0 0 Ends) (v, (p, None)))
  end_moves v p xs right front mine cs log kept pre away =
      let gone = away right in
      let told : Keeps p.key log = turning.keeps cs p.key log gone.1 kept.legal in
      let now = told xs (prefix_trans xs v log front pre) mine in (
        home_in cs 0 kept.head,
        kept.head,
        (
          gives,
          Ends ∷ [],
          None,
          right,
          uses cs log (at_head (cell cs 0).0) p Ends kept gone.0 gone.1 now.0 (ap (λ (w : Written T). w.begun) (written_snoc log Ends)) (λ ds o. o),
          inl (refl, refl),
          (log, pre, told, refl),
        ),
      )

  pub pushed : (s0 s1 log z : List (Note T)) (key m : ℕ) (e : T) → IsPrefix s0 s1 → IsPrefix s1 log → Keeps key log → IsTurn key (written_of s0) → z ≡ log ++ Adds e m ∷ []
      → (items_of z ≡ items_of s0 ++ e ∷ []) × IsTurn m (written_of z)
  pushed s0 s1 log z key m e p q told mine is =
      let w : written_of z ≡ written true m false (items_of log ++ e ∷ []) = ap written_of is ∙ written_snoc log (Adds e m) in
      let same : items_of log ≡ items_of s0 = (told s0 (prefix_trans s0 s1 log p q) mine).1 in
      (ap (λ (v : Written T). v.items) w ∙ ap (λ l. l ++ e ∷ []) same, (ap (λ (v : Written T). v.begun) w, ap (λ (v : Written T). v.over) w, ap (λ (v : Written T). v.key) w))

  -- the writer comes where the second word is 0
  come_goes : (cs : List Cell) (log v : List (Note T)) (ask : Note T) → IsKept cs log → (b : Bool) → ((cell cs 1).0 == 0) ≡ b
      → Goes IsKept shown moved 1 (v, (no_nib, None)) (λ n. either (n == 0) 1 n) (Comes (step 1 0 1 ask) (v, (no_nib, None))) cs log
  come_goes cs log v ask kept true is =
      let c : (cell cs 1).0 ≡ count_of (written_of log).begun = ap (λ (c : Cell). c.0) kept.count in
      let zero_is : (cell cs 1).0 ≡ 0 = grind (arith, nat_tests) in
      let fresh : (written_of log).begun ≡ false = none_begun (written_of log).begun (sym c ∙ zero_is) in
      let n : ℕ = either ((cell cs 1).0 == 0) 1 (cell cs 1).0 in
      let up : n ≡ 1 = ap (λ b. either b 1 (cell cs 1).0) is in
      let e : Note T = Begins (length cs) in
      let ds : List Cell = slice_set cs 1 (n, true) ++ (0, false) ∷ [] in
      let homes : (k : ℕ) → Home cs k → Home ds k = λ k h. home_push (slice_set cs 1 (n, true)) (0, false) k (home_set cs 1 n k h) in
      let counted : Home cs 1 = ap (λ (c : Cell). c.1) kept.count in
      let snoc = written_snoc log e in (
        adds,
        e ∷ [],
        None,
        tt,
        record {
          head = homes 0 kept.head;
          count = cell_push (slice_set cs 1 (n, true)) (0, false) 1 (home_set cs 1 n 1 counted) ∙ (set_home cs 1 n (home_in cs 1 counted) ∙ ap (λ (k : ℕ). (k, true)) (up ∙ ap (λ (w : Written T). count_of w.begun) (sym snoc)));
          legal = legal_snoc ds nothing_written log e (legal_homes cs ds nothing_written log homes kept.legal) fresh;
        },
        inl (refl, refl),
        rw is (refl, (ap (λ (w : Written T). w.begun) snoc, ap (λ (w : Written T). w.over) snoc, ap (λ (w : Written T). w.key) snoc), ap (λ (w : Written T). w.items) snoc ∙ turning.empty_of cs log kept.legal fresh),
      )
  come_goes cs log v ask kept false is =
      let n : ℕ = either ((cell cs 1).0 == 0) 1 (cell cs 1).0 in
      let up : n ≡ (cell cs 1).0 = ap (λ b. either b 1 (cell cs 1).0) is in
      let ds : List Cell = slice_set cs 1 (n, true) in
      let homes : (k : ℕ) → Home cs k → Home ds k = λ k h. home_set cs 1 n k h in
      let counted : Home cs 1 = ap (λ (c : Cell). c.1) kept.count in
      let all : log ++ [] ≡ log = append-nil log in (
        keeps,
        [],
        None,
        tt,
        subst (IsKept ds) (sym all)
            (record {
              head = homes 0 kept.head;
              count = set_home cs 1 n (home_in cs 1 counted) ∙ ap (λ (k : ℕ). (k, true)) (up ∙ ap (λ (c : Cell). c.0) kept.count);
              legal = legal_homes cs ds nothing_written log homes kept.legal;
            }),
        inl (refl, refl),
        rw is tt,
      )

  pub come_moves : (v : List (Note T)) (ask : Note T) → Moves IsKept shown moved 1 (v, (no_nib, None)) (λ n. either (n == 0) 1 n) (Comes (step 1 0 1 ask) (v, (no_nib, None)))
  come_moves v ask cs log kept pre away =
      let counted : Home cs 1 = ap (λ (c : Cell). c.1) kept.count in
      (home_in cs 1 counted, counted, come_goes cs log v ask kept ((cell cs 1).0 == 0) refl)

  pub ended : (s log z : List (Note T)) (key : ℕ) → IsPrefix s log → Keeps key log → IsTurn key (written_of s) → z ≡ log ++ Ends ∷ [] → IsOver (written_of z) × (items_of z ≡ items_of s)
  ended s log z key p told mine is =
      let now = told s p mine in
      let w : written_of z ≡ written true (written_of log).key true (items_of log) = ap written_of is ∙ written_snoc log Ends in
      ((ap (λ (v : Written T). v.begun) w, ap (λ (v : Written T). v.over) w), ap (λ (v : Written T). v.items) w ∙ now.1)
