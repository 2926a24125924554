-- What a client of a served cell was answered goes on with each call.
use Rattle.std.proofs.Common.{◌≡◌, ℕ, suc, ◌+◌, Bool, true, false, List, [], ◌∷◌, ◌++◌, length, Option, Some, None, refl, sym, ap, ap₂, subst, ◌∙◌, append_assoc, arith}
use Rattle.std.specs.Prelude.{IfSome, IsTrue, slice_get}
use mathlib.Core.List.{IsPrefix}
use Rattle.gfs_types.specs.declared.answer.Answer.{Answer}
use Rattle.gfs_types.specs.declared.call.Call.{Call}
use Rattle.gfs_types.specs.declared.ids.Node.{Node}
use Rattle.gfs_types.specs.declared.ids.Node.TheVariants.{Client}
use Rattle.gfs_types.specs.declared.refusal.Refusal.{Refusal}
use Rattle.protocol_journal.specs.Journal.{Entry, own}
use Rattle.headline.specs.Journals.{AreExplained}
use Rattle.cell_journal.specs.Clocks.{are_clocks_kept}
use Rattle.cell_journal.specs.Identity.{Identity}
use Rattle.cell_journal.specs.Log.{Listed, listed}
use Rattle.cell_journal.specs.WholeHistories.{IsHistoryOf}
use Rattle.cell_seats.specs.Seats.{SeatState, IsAnswered, IsLost}
use Rattle.cell_seats.specs.Seen.{Visible, Asked, Answered, visible_of}
use Rattle.cell_looks.specs.ClientAnswers.{shown_as}
use Rattle.serve.specs.Messages.{Service, IsAsked, AreFirstCalls, IsSeenOf, HasAnswers, IsServed, IsReply, IsMade, calls_for}

pub longer : {X : Type 0} (xs : List X) (x : X) → length (xs ++ x ∷ []) ≡ suc (length xs)
longer [] x = refl
longer (y ∷ ys) x = ap (λ (k : ℕ). suc k) (longer ys x)

-- one more call that was answered is shown
shown_one_more : (calls : List Call) (replies : List Answer) (call : Call) (reply : Answer) → length calls ≡ length replies → shown_as (calls ++ call ∷ []) (replies ++ reply ∷ []) ≡ shown_as calls replies ++ Asked call ∷ Answered reply ∷ []
shown_one_more [] [] call reply h = refl
shown_one_more [] (r ∷ rs) call reply h = absurd (omega (arith, h))
shown_one_more (c ∷ cs) [] call reply h = absurd (omega (arith, h))
shown_one_more (c ∷ cs) (r ∷ rs) call reply h = ap (λ l. Asked c ∷ Answered r ∷ l) (shown_one_more cs rs call reply (let e : length cs ≡ length rs = omega (arith, h) in e))

-- the element behind a beginning
next_of : {X : Type 0} (xs rest : List X) (x : X) → slice_get (xs ++ rest) (length xs) ≡ Some x → (later : List X) × (rest ≡ x ∷ later)
next_of [] [] x at = absurd (let none : None ≡ Some x = at in cc)
next_of [] (y ∷ ys) x at = (ys, (let both : Some y ≡ Some x = at in (let e : y ≡ x = cc both in ap (λ z. z ∷ ys) e)))
next_of (y ∷ ys) rest x at = next_of ys rest x at

prefix_next : {X : Type 0} (xs all : List X) (x : X) → IsPrefix xs all → slice_get all (length xs) ≡ Some x → IsPrefix (xs ++ x ∷ []) all
prefix_next {X} xs all x p at =
    let n = next_of xs p.0 x (ap (λ (l : List X). slice_get l (length xs)) p.1 ∙ at) in
    (n.0, append_assoc xs (x ∷ []) n.0 ∙ ap (λ (l : List X). xs ++ l) (sym n.1) ∙ p.1)

-- the calls that were made, and the next one
pub first_more : (s : Service) (client number : ℕ) (calls : List Call) (call : Call) → length calls ≡ number → AreFirstCalls s client calls → IsAsked s client number call → AreFirstCalls s client (calls ++ call ∷ [])
first_more s client number calls call count first next = go s.input first next.is
  where
    go : (input : Option (List ℕ)) → IfSome input (λ i. IsPrefix calls (calls_for s.clients client i)) → IfSome input (λ i. slice_get (calls_for s.clients client i) number ≡ Some call)
        → IfSome input (λ i. IsPrefix (calls ++ call ∷ []) (calls_for s.clients client i))
    go None first next = tt
    go (Some i) first next = prefix_next calls (calls_for s.clients client i) call first (ap (slice_get (calls_for s.clients client i)) count ∙ next)

pub seen_of : (s : Service) (cell : Identity) (seen : List Entry) → cell ≡ s.cell → IsHistoryOf cell seen → IsTrue (are_clocks_kept cell seen) → AreExplained cell.config seen → IsSeenOf s (listed cell.name seen)
seen_of s cell seen is lawful clocks explained = record {
  name = ap (λ (c : Identity). c.name) is;
  lawful = subst (λ (c : Identity). IsHistoryOf c seen) is lawful;
  clocks = subst (λ (c : Identity). IsTrue (are_clocks_kept c seen)) is clocks;
  explained = subst (λ (c : Identity). AreExplained c.config seen) is explained;
}

module _ (s : Service) (client made : ℕ) (old new : SeatState) (call : Call) (w : IsServed s client made old) where
  -- a call that was answered
  more_answers : (reply : Answer) → IsAsked s client made call → IsAnswered old new call reply → HasAnswers s client (listed new.cell.name new.seen) (w.replies ++ reply ∷ [])
  more_answers reply asked a =
      let count : length w.answered.calls ≡ made = w.answered.each ∙ w.count a.was_open in
      let node : new.node ≡ Client (record { 0 = client }) = a.node ∙ w.node in
      record {
        of = seen_of s new.cell new.seen (a.cell ∙ w.cell) a.lawful a.clocks a.explained;
        calls = w.answered.calls ++ call ∷ [];
        are = first_more s client made w.answered.calls call count w.answered.are asked;
        each = longer w.answered.calls call ∙ (ap (λ (k : ℕ). suc k) w.answered.each ∙ sym (longer w.replies reply));
        shows = ap (λ (n : Node). visible_of (own n new.seen)) (sym node)
            ∙ (a.says
            ∙ (ap (λ (l : List Visible). l ++ Asked call ∷ Answered reply ∷ []) (ap (λ (n : Node). visible_of (own n old.seen)) w.node ∙ w.answered.shows)
            ∙ sym (shown_one_more w.answered.calls w.replies call reply w.answered.each)));
      }

  served_on : (reply : Answer) → IsAsked s client made call → IsAnswered old new call reply → IsServed s client (made + 1) new
  served_on reply asked a = record {
    node = a.node ∙ w.node;
    earlier = a.earlier ∙ w.earlier;
    cell = a.cell ∙ w.cell;
    replies = w.replies ++ reply ∷ [];
    answered = more_answers reply asked a;
    count = λ _. omega (arith, longer w.replies reply, w.count a.was_open);
  }

  served_lost : (refusal : Refusal) → IsLost old new refusal → IsServed s client (made + 1) new
  served_lost refusal a = record {
    node = a.node ∙ w.node;
    earlier = a.earlier ∙ w.earlier;
    cell = a.cell ∙ w.cell;
    replies = w.replies;
    answered = subst (λ (l : Listed Entry). HasAnswers s client l w.replies) (ap₂ (λ (c : Identity) (l : List Entry). listed c.name l) (sym a.cell) (sym a.seen)) w.answered;
    count = λ is_open. absurd (let both : true ≡ false = sym a.lost ∙ is_open in cc);
  }

  -- a call was made
  pub served_next : (reply : Answer) (is_lost : Bool) → IsAsked s client made call → IsMade old new call reply is_lost → IsServed s client (made + 1) new
  served_next reply false asked m = served_on reply asked (m.heard refl)
  served_next reply true asked m = let r = m.refused refl in served_lost r.0 r.2

  pub reply_made : (reply : Answer) (is_lost : Bool) → IsAsked s client made call → IsMade old new call reply is_lost → IsReply s client made reply (listed new.cell.name new.seen) is_lost
  reply_made reply is_lost asked m = record {
    heard = λ is_open. let a = m.heard is_open in record { before = w.replies; count = w.count a.was_open; answered = more_answers reply asked a };
    refused = λ lost. let r = m.refused lost in record { call = call; asked = asked; refusal = r.0; is = r.1; of_the_cell = r.2.refused };
  }

-- a client's next call, by the number that it has in the lines
module _ (s : Service) (mine client made number : ℕ) (old new : SeatState) (call : Call) (reply : Answer) (is_lost : Bool) (same : client ≡ mine) (next : number ≡ made) (w : IsServed s mine made old)
    (asked : IsAsked s client number call) (m : IsMade old new call reply is_lost) where
  its_call : IsAsked s mine made call
  its_call = subst (λ (n : ℕ). IsAsked s n made call) same (subst (λ (n : ℕ). IsAsked s client n call) next asked)

  pub served_so : IsServed s mine (number + 1) new
  served_so = subst (λ (n : ℕ). IsServed s mine (n + 1) new) (sym next) (served_next s mine made old new call w reply is_lost its_call m)

  pub replied_so : (seen : Listed Entry) → seen ≡ listed new.cell.name new.seen → IsReply s client number reply seen is_lost
  replied_so seen is =
      subst (λ (n : ℕ). IsReply s n number reply seen is_lost) (sym same)
      (subst (λ (n : ℕ). IsReply s mine n reply seen is_lost) (sym next) (subst (λ (l : Listed Entry). IsReply s mine made reply l is_lost) (sym is) (reply_made s mine made old new call w reply is_lost its_call m)))
