-- What was printed of a client goes on with each of its answers.
use Rattle.std.proofs.Common.{◌≡◌, ◌≤◌, ℕ, suc, ◌+◌, Bool, true, false, List, [], ◌∷◌, ◌++◌, length, refl, sym, ap, ap₂, subst, ◌∙◌, append_assoc, length-append, arith}
use Rattle.std.specs.Prelude.{IsTrue, nat_le}
use Rattle.std.proofs.lemmas.Bool.Decides.{nat_tests}
use Rattle.std.proofs.lemmas.List.{append-nil}
use mathlib.Core.List.{IsPrefix}
use Rattle.gfs_types.specs.declared.answer.Answer.{Answer}
use Rattle.gfs_types.specs.declared.answer.Answer.TheVariants as answer
use Rattle.gfs_types.specs.declared.call.Call.{Call}
use Rattle.gfs_types.specs.declared.ids.Node.{Node}
use Rattle.gfs_types.specs.declared.ids.Node.TheVariants.{Client}
use Rattle.gfs_types.specs.declared.refusal.Refusal.{Refusal}
use Rattle.protocol_journal.specs.Journal.{Entry, own}
use Rattle.cell_journal.proofs.Grown.{own_append}
use Rattle.cell_journal.specs.Identity.{Closed}
use Rattle.cell_journal.specs.ListEnds.{Agrees}
use Rattle.cell_journal.specs.Log.{Listed}
use Rattle.cell_journal.specs.WholeHistories.{whole_of}
use Rattle.cell_seats.specs.Seats.{is_the_cells}
use Rattle.cell_seats.specs.Seen.{Visible, Asked, Answered, asked_in, answered_in, visible_of}
use Rattle.cell_looks.specs.ClientAnswers.{shown_as, AreOfTheCell}
use Rattle.serve.specs.Messages.{Service, Replied, AreFirstCalls, HasAnswers, IsReply, IsPrinted}
use Rattle.serve.specs.Printing.{Stand, IsNextOf}
use Rattle.serve.proofs.Answered.{first_more, longer}

-- of two lists of calls with their answers one of which begins the other
answers_begin : (cs ds : List Call) (rs ts : List Answer) → length cs ≡ length rs → length ds ≡ length ts → IsPrefix (shown_as cs rs) (shown_as ds ts) → IsPrefix rs ts
answers_begin [] ds [] ts e f p = (ts, refl)
answers_begin [] ds (r ∷ rs) ts e f p = absurd (omega (arith, e))
answers_begin (c ∷ cs) ds [] ts e f p = absurd (omega (arith, e))
answers_begin (c ∷ cs) [] (r ∷ rs) [] e f p = absurd (let none : Asked c ∷ Answered r ∷ (shown_as cs rs ++ p.0) ≡ [] = p.1 in cc)
answers_begin (c ∷ cs) [] (r ∷ rs) (t ∷ ts) e f p = absurd (omega (arith, f))
answers_begin (c ∷ cs) (d ∷ ds) (r ∷ rs) [] e f p = absurd (omega (arith, f))
answers_begin (c ∷ cs) (d ∷ ds) (r ∷ rs) (t ∷ ts) e f p =
    let both : Asked c ∷ Answered r ∷ (shown_as cs rs ++ p.0) ≡ Asked d ∷ Answered t ∷ shown_as ds ts = p.1 in
    let head : Answered r ≡ Answered t = cc both in
    let same : r ≡ t = cc head in
    let tail : shown_as cs rs ++ p.0 ≡ shown_as ds ts = cc both in
    let rest = answers_begin cs ds rs ts (omega (arith, e)) (omega (arith, f)) (p.0, tail) in
    (rest.0, ap₂ (λ (x : Answer) (l : List Answer). x ∷ l) same rest.1)

pub same_length : {X : Type 0} (xs ys : List X) → length xs ≡ length ys → IsPrefix xs ys → xs ≡ ys
same_length [] [] e p = refl
same_length [] (y ∷ ys) e p = absurd (omega (arith, e))
same_length (x ∷ xs) [] e p = absurd (omega (arith, e))
same_length (x ∷ xs) (y ∷ ys) e p =
    let both : x ∷ (xs ++ p.0) ≡ y ∷ ys = p.1 in
    let head : x ≡ y = cc both in
    let tail : xs ++ p.0 ≡ ys = cc both in
    ap₂ (λ z l. z ∷ l) head (same_length xs ys (omega (arith, e)) (p.0, tail))

prefix_length : {X : Type 0} (xs ys : List X) → IsPrefix xs ys → length xs ≤ length ys
prefix_length xs ys p = omega (arith, length-append xs p.0, ap length p.1)

-- a beginning of a list that is one longer
all_but_last : {X : Type 0} (xs ys : List X) (y : X) → length xs ≡ length ys → IsPrefix xs (ys ++ y ∷ []) → xs ≡ ys
all_but_last [] [] y e p = refl
all_but_last [] (z ∷ ys) y e p = absurd (omega (arith, e))
all_but_last (x ∷ xs) [] y e p = absurd (omega (arith, e))
all_but_last (x ∷ xs) (z ∷ ys) y e p =
    let both : x ∷ (xs ++ p.0) ≡ z ∷ (ys ++ y ∷ []) = p.1 in
    let head : x ≡ z = cc both in
    let tail : xs ++ p.0 ≡ ys ++ y ∷ [] = cc both in
    ap₂ (λ w l. w ∷ l) head (all_but_last xs ys y (omega (arith, e)) (p.0, tail))

visible_append : (xs ys : List Entry) → visible_of (xs ++ ys) ≡ visible_of xs ++ visible_of ys
visible_append [] ys = refl
visible_append (x ∷ xs) ys =
    ap (λ l. asked_in x.cause ++ answered_in x.out.answer ++ l) (visible_append xs ys) ∙ sym (append_assoc (asked_in x.cause ++ answered_in x.out.answer) (visible_of xs) (visible_of ys))

-- what is seen of a client in a beginning of a history begins what is seen of it
seen_begins : (n : Node) (xs ys : List Entry) → IsPrefix xs ys → IsPrefix (visible_of (own n xs)) (visible_of (own n ys))
seen_begins n xs ys p =
    (visible_of (own n p.0), sym (visible_append (own n xs) (own n p.0)) ∙ ap visible_of (sym (own_append n xs p.0) ∙ ap (own n) p.1))

module _ (s : Service) (client : ℕ) (one other : Listed Entry) (replies more : List Answer) (a : HasAnswers s client one replies) (b : HasAnswers s client other more) where
  begin_so : IsPrefix one.items other.items → IsPrefix replies more
  begin_so p =
      let n : Node = Client (record { 0 = client }) in
      answers_begin a.calls b.calls replies more a.each b.each
      (subst (λ (l : List Visible). IsPrefix l (shown_as b.calls more)) a.shows (subst (λ (l : List Visible). IsPrefix (visible_of (own n one.items)) l) b.shows (seen_begins n one.items other.items p)))

-- the client's next answer, by a history that goes on, or one that another one goes on
next_answer : (s : Service) (client : ℕ) (one other : Listed Entry) (replies before : List Answer) (reply : Answer) → HasAnswers s client one replies → HasAnswers s client other (before ++ reply ∷ []) → length before ≡ length replies
    → (length one.items ≤ length other.items → IsPrefix one.items other.items) → (length other.items ≤ length one.items → IsPrefix other.items one.items) → replies ≡ before
next_answer s client one other replies before reply a b count goes back = by_length (nat_le (length one.items) (length other.items)) refl
  where
    by_length : (b' : Bool) → nat_le (length one.items) (length other.items) ≡ b' → replies ≡ before
    by_length true less =
        all_but_last replies before reply (sym count) (begin_so s client one other replies (before ++ reply ∷ []) a b (goes (let e : length one.items ≤ length other.items = grind (arith, nat_tests, less) in e)))
    by_length false past =
        let p = begin_so s client other one (before ++ reply ∷ []) replies b a (back (let e : length other.items ≤ length one.items = grind (arith, nat_tests, past) in e)) in
        absurd (omega (arith, prefix_length (before ++ reply ∷ []) replies p, length-append before (reply ∷ []), count))

refused_more : (refusals : List Answer) (refusal : Refusal) → AreOfTheCell refusals → IsTrue (is_the_cells refusal) → AreOfTheCell (refusals ++ answer.Refused refusal ∷ [])
refused_more [] refusal all one = (one, tt)
refused_more (answer.Refused r ∷ rest) refusal all one = (all.0, refused_more rest refusal all.1 one)
refused_more (answer.Done ∷ rest) refusal all one = elim all [ ]
refused_more (answer.Fd _ ∷ rest) refusal all one = elim all [ ]
refused_more (answer.Names _ ∷ rest) refusal all one = elim all [ ]
refused_more (answer.Length _ ∷ rest) refusal all one = elim all [ ]
refused_more (answer.At _ ∷ rest) refusal all one = elim all [ ]
refused_more (answer.Bytes _ _ ∷ rest) refusal all one = elim all [ ]

-- one answer more was printed
module _ (s : Service) (client count : ℕ) (was : Bool) (seen : Listed Entry) (printed : List Answer) (h : IsPrinted s client count was seen printed) where
  one_more : (reply : Answer) → length (printed ++ reply ∷ []) ≡ count + 1
  one_more reply = omega (arith, length-append printed (reply ∷ []), h.count_is)

  pub heard_more : (reply : Answer) (now : Listed Entry) (number : ℕ) → number ≡ count → was ≡ false → IsReply s client number reply now false
      → (length seen.items ≤ length now.items → IsPrefix seen.items now.items) → (length now.items ≤ length seen.items → IsPrefix now.items seen.items)
      → IsPrinted s client (count + 1) false now (printed ++ reply ∷ [])
  heard_more reply now number same is_open r goes back =
      let next = r.heard refl in
      let none : h.refusals ≡ [] = h.none_refused is_open in
      let all : printed ≡ h.replies = h.are ∙ ap (λ (l : List Answer). h.replies ++ l) none ∙ append-nil h.replies in
      let counted : length next.before ≡ length h.replies = next.count ∙ same ∙ sym h.count_is ∙ ap length all in
      let is : h.replies ≡ next.before = next_answer s client seen now h.replies next.before reply h.answered next.answered counted goes back in
      record {
        replies = next.before ++ reply ∷ [];
        refusals = [];
        are = ap (λ (l : List Answer). l ++ reply ∷ []) (all ∙ is) ∙ sym (append-nil (next.before ++ reply ∷ []));
        count_is = one_more reply;
        answered = next.answered;
        refused = [];
        each = refl;
        asked = subst (AreFirstCalls s client) (sym (append-nil next.answered.calls)) next.answered.are;
        of_the_cell = tt;
        none_refused = λ _. refl;
      }

  pub printed_count : length (h.answered.calls ++ h.refused) ≡ count
  printed_count = omega (arith, length-append h.answered.calls h.refused, h.answered.each, h.each, h.count_is, ap length h.are, length-append h.replies h.refusals)

  pub refused_now : (reply : Answer) (now : Listed Entry) (number : ℕ) → number ≡ count → IsReply s client number reply now true → IsPrinted s client (count + 1) true seen (printed ++ reply ∷ [])
  refused_now reply now number same r =
      let next = r.refused refl in
      record {
        replies = h.replies;
        refusals = h.refusals ++ reply ∷ [];
        are = ap (λ (l : List Answer). l ++ reply ∷ []) h.are ∙ append_assoc h.replies h.refusals (reply ∷ []);
        count_is = one_more reply;
        answered = h.answered;
        refused = h.refused ++ next.call ∷ [];
        each = longer h.refused next.call ∙ (ap (λ (k : ℕ). suc k) h.each ∙ sym (longer h.refusals reply));
        asked = subst (AreFirstCalls s client) (append_assoc h.answered.calls h.refused (next.call ∷ []))
            (first_more s client number (h.answered.calls ++ h.refused) next.call (printed_count ∙ sym same) h.asked next.asked);
        of_the_cell = subst (λ (a : Answer). AreOfTheCell (h.refusals ++ a ∷ [])) (sym next.is) (refused_more h.refusals next.refusal h.of_the_cell next.of_the_cell);
        none_refused = λ is_open. absurd (let both : true ≡ false = is_open in cc);
      }

-- the client's next answer, by what is known of it
module _ (s : Service) (mine client count number : ℕ) (was is_lost : Bool) (seen now : Listed Entry) (printed : List Answer) (reply : Answer) (same : client ≡ mine) (next : number ≡ count)
    (h : IsPrinted s mine count was seen printed) (r : IsReply s client number reply now is_lost) where
  its_reply : IsReply s mine number reply now is_lost
  its_reply = subst (λ (n : ℕ). IsReply s n number reply now is_lost) same r

  pub same_names : is_lost ≡ false → seen.name ≡ now.name
  same_names heard = h.answered.of.name ∙ sym (r.heard heard).answered.of.name

  pub kept_heard : (all : List Answer) → all ≡ printed ++ reply ∷ [] → is_lost ≡ false → was ≡ false → (length seen.items ≤ length now.items → IsPrefix seen.items now.items)
      → (length now.items ≤ length seen.items → IsPrefix now.items seen.items) → IsPrinted s mine (number + 1) is_lost now all
  kept_heard all is heard is_open goes back =
      subst (IsPrinted s mine (number + 1) is_lost now) (sym is)
      (subst (λ (b : Bool). IsPrinted s mine (number + 1) b now (printed ++ reply ∷ [])) (sym heard)
      (subst (λ (n : ℕ). IsPrinted s mine (n + 1) false now (printed ++ reply ∷ [])) (sym next)
      (heard_more s mine count was seen printed h reply now number next is_open (subst (IsReply s mine number reply now) heard its_reply) goes back)))

  pub kept_lost : (all : List Answer) → all ≡ printed ++ reply ∷ [] → is_lost ≡ true → IsPrinted s mine (number + 1) is_lost seen all
  kept_lost all is lost =
      subst (IsPrinted s mine (number + 1) is_lost seen) (sym is)
      (subst (λ (b : Bool). IsPrinted s mine (number + 1) b seen (printed ++ reply ∷ [])) (sym lost)
      (subst (λ (n : ℕ). IsPrinted s mine (n + 1) true seen (printed ++ reply ∷ [])) (sym next)
      (refused_now s mine count was seen printed h reply now number next (subst (IsReply s mine number reply now) lost its_reply))))

-- by the fields of what was printed and of a reply
pub next_inside : (p q : Stand) (r t : Replied) → p ≡ q → r ≡ t → IsNextOf q t → IsNextOf p r
next_inside p q r t same_stand same_reply next = subst (λ (x : Stand). IsNextOf x r) (sym same_stand) (subst (IsNextOf q) (sym same_reply) next)

pub next_outside : (p q : Stand) (r t : Replied) → p ≡ q → r ≡ t → IsNextOf p r → IsNextOf q t
next_outside p q r t same_stand same_reply next = next_inside q p t r (sym same_stand) (sym same_reply) next

pub meets_so : (p q one other : Stand) → p ≡ one → q ≡ other → (length p.seen.items ≤ length q.seen.items → IsPrefix p.seen.items q.seen.items) → length one.seen.items ≤ length other.seen.items
    → IsPrefix one.seen.items other.seen.items
meets_so p q one other same_one same_other meet =
    subst (λ (x : Stand). length one.seen.items ≤ length x.seen.items → IsPrefix one.seen.items x.seen.items) same_other
    (subst (λ (x : Stand). length x.seen.items ≤ length q.seen.items → IsPrefix x.seen.items q.seen.items) same_one meet)

-- what was seen begins the history of a closed journal
pub begins_so : (p one : Stand) (j k : Closed) → p ≡ one → j ≡ k → Agrees p.seen.items (whole_of j) j.is_over → k.is_over ≡ true → IsPrefix one.seen.items (whole_of k)
begins_so p one j k same_one same_journal agrees over =
    subst (λ (x : Stand). IsPrefix x.seen.items (whole_of k)) same_one
    (subst (λ (x : Closed). IsPrefix p.seen.items (whole_of x)) same_journal (agrees.over (ap (λ (x : Closed). x.is_over) same_journal ∙ over)))
