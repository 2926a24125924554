-- A client that made no call yet.
use Rattle.std.proofs.Common.{◌≡◌, ℕ, suc, ◌+◌, false, List, [], ◌∷◌, ◌++◌, length, Option, Some, None, refl, sym, ap, ap₂, subst, ◌∙◌, length-append, arith}
use Rattle.std.specs.Prelude.{IfSome, IsTrue}
use mathlib.Core.List.{IsPrefix}
use Rattle.gfs_types.specs.declared.answer.Answer.{Answer}
use Rattle.gfs_types.specs.declared.ids.Node.TheVariants.{Client}
use Rattle.protocol_journal.specs.Journal.{Entry, own}
use Rattle.headline.specs.Journals.{AreExplained}
use Rattle.cell_journal.specs.Clocks.{are_clocks_kept}
use Rattle.cell_journal.specs.Identity.{Identity}
use Rattle.cell_journal.specs.Log.{Listed, listed}
use Rattle.cell_journal.specs.WholeHistories.{IsHistoryOf}
use Rattle.cell_seats.specs.Seats.{SeatState, seat_state}
use Rattle.cell_seats.specs.Seen.{visible_of}
use Rattle.serve.specs.Messages.{Service, AreFirstCalls, HasAnswers, IsUnused, IsServed, IsPrinted, calls_for}
use Rattle.serve.specs.Printing.{Stand, AreInOrder, AreNew}
use Rattle.serve.proofs.Answered.{seen_of}
use Rattle.serve.proofs.Places.{none_at, more_at}

no_calls : (s : Service) (client : ℕ) → AreFirstCalls s client []
no_calls s client = go s.input
  where
    go : (input : Option (List ℕ)) → IfSome input (λ i. IsPrefix [] (calls_for s.clients client i))
    go None = tt
    go (Some i) = (calls_for s.clients client i, refl)

module _ (s : Service) (client : ℕ) (seat : SeatState) (new : IsUnused s client seat) (lawful : IsHistoryOf seat.cell seat.seen) (clocks : IsTrue (are_clocks_kept seat.cell seat.seen))
    (explained : AreExplained seat.cell.config seat.seen) where
  abbrev nothing_answered : HasAnswers s client (listed seat.cell.name seat.seen) []
  nothing_answered = record {
    of = seen_of s seat.cell seat.seen (ap (λ (t : SeatState). t.cell) new) lawful clocks explained;
    calls = [];
    are = no_calls s client;
    each = refl;
    shows = ap (λ (t : SeatState). visible_of (own (Client (record { 0 = client })) t.seen)) new;
  }

  pub served_anew : IsServed s client 0 seat
  served_anew = record {
    node = ap (λ (t : SeatState). t.node) new;
    earlier = ap (λ (t : SeatState). t.earlier) new;
    cell = ap (λ (t : SeatState). t.cell) new;
    replies = [];
    answered = nothing_answered;
    count = λ _. refl;
  }

  pub printed_anew : (seen : Listed Entry) (answers : List Answer) → seen ≡ listed seat.cell.name seat.seen → answers ≡ [] → IsPrinted s client 0 false seen answers
  printed_anew seen answers is none = subst (IsPrinted s client 0 false seen) (sym none) (subst (λ (l : Listed Entry). IsPrinted s client 0 false l []) (sym is) at_first)
    where
      at_first : IsPrinted s client 0 false (listed seat.cell.name seat.seen) []
      at_first = record {
        replies = [];
        refusals = [];
        are = refl;
        count_is = refl;
        answered = nothing_answered;
        refused = [];
        each = refl;
        asked = no_calls s client;
        of_the_cell = tt;
        none_refused = λ _. refl;
      }

pub none_in_order : (stands : List Stand) → stands ≡ [] → AreInOrder stands
none_in_order stands none = none_at (λ (k : ℕ) (p : Stand). p.client ≡ suc k) stands none

pub none_new : (stands : List Stand) → stands ≡ [] → AreNew stands
none_new stands none = none_at (λ (k : ℕ) (p : Stand). p.answers ≡ []) stands none

-- one client more was started
pub more_in_order : (was now : List Stand) (one : Stand) (number : ℕ) → now ≡ was ++ one ∷ [] → length was + 1 ≡ number → one.client ≡ number → AreInOrder was → AreInOrder now
more_in_order was now one number added count client order =
    let next : one.client ≡ suc (length was) = omega (arith, client, count) in
    subst AreInOrder (sym added) (more_at (λ (k : ℕ) (q : Stand). q.client ≡ suc k) was one order next)

pub more_new : (was now : List Stand) (one : Stand) → now ≡ was ++ one ∷ [] → one.answers ≡ [] → AreNew was → AreNew now
more_new was now one added none fresh = subst AreNew (sym added) (more_at (λ (k : ℕ) (q : Stand). q.answers ≡ []) was one fresh none)

pub count_more : (was now : List Stand) (one : Stand) (n : ℕ) → now ≡ was ++ one ∷ [] → length was ≡ n → length now ≡ n + 1
count_more was now one n added count = omega (arith, ap length added, length-append was (one ∷ []), count)

-- the next seat of the cell
pub unused : (s : Service) (number made : ℕ) (cell : Identity) (seat : SeatState) → seat ≡ seat_state (Client (record { 0 = made + 1 })) [] cell [] false false → cell ≡ s.cell → number ≡ made + 1 → IsUnused s number seat
unused s number made cell seat is same next =
    is ∙ ap₂ (λ (n : ℕ) (c : Identity). seat_state (Client (record { 0 = n })) [] c [] false false) (sym next) same
