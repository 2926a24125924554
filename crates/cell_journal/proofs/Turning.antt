-- The writer that has its turn in hand knows that nobody used it.
use Rattle.std.proofs.Common.{◌≡◌, ℕ, false, true≢false, List, [], ◌∷◌, ◌++◌, refl, sym, ap, ◌∙◌, subst, append_assoc}
use Rattle.std.proofs.lemmas.List.{append-nil}
use mathlib.Core.List.{IsPrefix}
use Rattle.logbook.specs.Pages.{Cell, cell}
use Rattle.cell_journal.specs.declared.note.Note.{Note}
use Rattle.cell_journal.specs.declared.note.Note.TheVariants.{Fresh, Begins, Adds, Ends}
use Rattle.cell_journal.specs.Log.{Written, after_note, after, nothing_written, written_of, items_of, Home, May, Legal, IsTurn, IsOver, next_of, last_next}
use Rattle.cell_journal.specs.ListRules.{Keeps}

module _ {T : Type 0} where
  pub after_append : (w : Written T) (xs ys : List (Note T)) → after w (xs ++ ys) ≡ after (after w xs) ys
  after_append w [] ys = refl
  after_append w (x ∷ xs) ys = after_append (after_note w x) xs ys

  pub written_snoc : (xs : List (Note T)) (e : Note T) → written_of (xs ++ e ∷ []) ≡ after_note (written_of xs) e
  written_snoc xs e = after_append nothing_written xs (e ∷ [])

  legal_back : (cs : List Cell) (w : Written T) (xs ys : List (Note T)) → Legal cs w (xs ++ ys) → Legal cs (after w xs) ys
  legal_back cs w [] ys l = l
  legal_back cs w (x ∷ xs) ys l = legal_back cs (after_note w x) xs ys l.1

  pub legal_snoc : (cs : List Cell) (w : Written T) (xs : List (Note T)) (e : Note T) → Legal cs w xs → May cs (after w xs) e → Legal cs w (xs ++ e ∷ [])
  legal_snoc cs w [] e l m = (m, tt)
  legal_snoc cs w (x ∷ xs) e l m = (l.0, legal_snoc cs (after_note w x) xs e l.1 m)

  may_homes : (cs ds : List Cell) (w : Written T) (e : Note T) → ((k : ℕ) → Home cs k → Home ds k) → May cs w e → May ds w e
  may_homes cs ds w (Fresh next) h m = tt
  may_homes cs ds w (Begins next) h m = m
  may_homes cs ds w (Adds e next) h m = (m.0, m.1, h w.key m.2)
  may_homes cs ds w Ends h m = (m.0, m.1, h w.key m.2)

  pub legal_homes : (cs ds : List Cell) (w : Written T) (xs : List (Note T)) → ((k : ℕ) → Home cs k → Home ds k) → Legal cs w xs → Legal ds w xs
  legal_homes cs ds w [] h l = tt
  legal_homes cs ds w (x ∷ xs) h l = (may_homes cs ds w x h l.0, legal_homes cs ds (after_note w x) xs h l.1)

  spent : (cs : List Cell) (key : ℕ) (w : Written T) → (cell cs key).1 ≡ false → w.key ≡ key → Home cs w.key → ⊥
  spent cs key w away is home = true≢false (sym (subst (λ (k : ℕ). Home cs k) is home) ∙ away)

  stays_one : (cs : List Cell) (key : ℕ) (w : Written T) (e : Note T) → (cell cs key).1 ≡ false → May cs w e → IsTurn key w → IsTurn key (after_note w e) × ((after_note w e).items ≡ w.items)
  stays_one cs key w (Fresh next) away may mine = (mine, refl)
  stays_one cs key w (Begins next) away may mine = absurd (true≢false (sym mine.0 ∙ may))
  stays_one cs key w (Adds e next) away may mine = absurd (spent cs key w away mine.2 may.2)
  stays_one cs key w Ends away may mine = absurd (spent cs key w away mine.2 may.2)

  stays : (cs : List Cell) (key : ℕ) (w : Written T) (es : List (Note T)) → (cell cs key).1 ≡ false → Legal cs w es → IsTurn key w → IsTurn key (after w es) × ((after w es).items ≡ w.items)
  stays cs key w [] away l mine = (mine, refl)
  stays cs key w (e ∷ es) away l mine =
      let one = stays_one cs key w e away l.0 mine in
      let rest = stays cs key (after_note w e) es away l.1 one.0 in
      (rest.0, rest.1 ∙ one.1)

  split_written : (xs log : List (Note T)) (p : IsPrefix xs log) → written_of log ≡ after (written_of xs) p.0
  split_written xs log p = ap written_of (sym p.1) ∙ after_append nothing_written xs p.0

  rest_legal : (cs : List Cell) (xs log : List (Note T)) (p : IsPrefix xs log) → Legal cs nothing_written log → Legal cs (written_of xs) p.0
  rest_legal cs xs log p l = legal_back cs nothing_written xs p.0 (subst (Legal cs nothing_written) (sym p.1) l)

  pub keeps : (cs : List Cell) (key : ℕ) (log : List (Note T)) → (cell cs key).1 ≡ false → Legal cs nothing_written log → Keeps key log
  keeps cs key log away l xs p mine =
      subst (λ (v : Written T). IsTurn key v × (v.items ≡ (written_of xs).items)) (sym (split_written xs log p)) (stays cs key (written_of xs) p.0 away (rest_legal cs xs log p l) mine)

  over_one : (cs : List Cell) (w : Written T) (e : Note T) → May cs w e → IsOver w → IsOver (after_note w e) × ((after_note w e).items ≡ w.items)
  over_one cs w (Fresh next) may over = (over, refl)
  over_one cs w (Begins next) may over = absurd (true≢false (sym over.0 ∙ may))
  over_one cs w (Adds e next) may over = absurd (true≢false (sym over.1 ∙ may.1))
  over_one cs w Ends may over = absurd (true≢false (sym over.1 ∙ may.1))

  over_from : (cs : List Cell) (w : Written T) (es : List (Note T)) → Legal cs w es → IsOver w → (after w es).items ≡ w.items
  over_from cs w [] l over = refl
  over_from cs w (e ∷ es) l over = let one = over_one cs w e l.0 over in over_from cs (after_note w e) es l.1 one.0 ∙ one.1

  pub nothing_follows : (cs : List Cell) (xs log : List (Note T)) → Legal cs nothing_written log → IsPrefix xs log → IsOver (written_of xs) → items_of log ≡ items_of xs
  nothing_follows cs xs log l p over = ap (λ (v : Written T). v.items) (split_written xs log p) ∙ over_from cs (written_of xs) p.0 (rest_legal cs xs log p l) over

  empty_one : (cs : List Cell) (w : Written T) (e : Note T) → May cs w e → (w.begun ≡ false → w.items ≡ []) → (after_note w e).begun ≡ false → (after_note w e).items ≡ []
  empty_one cs w (Fresh next) may none z = none z
  empty_one cs w (Begins next) may none z = absurd (true≢false z)
  empty_one cs w (Adds e next) may none z = absurd (true≢false z)
  empty_one cs w Ends may none z = absurd (true≢false z)

  empty_from : (cs : List Cell) (w : Written T) (es : List (Note T)) → Legal cs w es → (w.begun ≡ false → w.items ≡ []) → (after w es).begun ≡ false → (after w es).items ≡ []
  empty_from cs w [] l none = none
  empty_from cs w (e ∷ es) l none = empty_from cs (after_note w e) es l.1 (empty_one cs w e l.0 none)

  pub empty_of : (cs : List Cell) (log : List (Note T)) → Legal cs nothing_written log → (written_of log).begun ≡ false → items_of log ≡ []
  empty_of cs log l z = empty_from cs nothing_written log l (λ _. refl) z

  grows_one : (w : Written T) (e : Note T) → IsPrefix w.items (after_note w e).items
  grows_one w (Fresh next) = ([], append-nil w.items)
  grows_one w (Begins next) = ([], append-nil w.items)
  grows_one w (Adds e next) = (e ∷ [], refl)
  grows_one w Ends = ([], append-nil w.items)

  grows_from : (w : Written T) (es : List (Note T)) → IsPrefix w.items (after w es).items
  grows_from w [] = ([], append-nil w.items)
  grows_from w (e ∷ es) =
      let p = grows_one w e in
      let q = grows_from (after_note w e) es in
      (p.0 ++ q.0, sym (append_assoc w.items p.0 q.0) ∙ (ap (λ l. l ++ q.0) p.1 ∙ q.1))

  pub items_grow : (xs log : List (Note T)) → IsPrefix xs log → IsPrefix (items_of xs) (items_of log)
  items_grow xs log p = subst (λ (v : Written T). IsPrefix (items_of xs) v.items) (sym (split_written xs log p)) (grows_from (written_of xs) p.0)

  pub last_snoc : (xs : List (Note T)) (e : Note T) → last_next (xs ++ e ∷ []) ≡ next_of e
  last_snoc [] e = refl
  last_snoc (x ∷ []) e = refl
  last_snoc (x ∷ y ∷ xs) e = last_snoc (y ∷ xs) e
