-- A call between the moment it is made and its answer, with nothing seen in between: what it read and what it was told.
use Rattle.std.proofs.Common.{◌≡◌, ℕ, suc, List, [], ◌∷◌, Some, None, refl, sym, ◌∙◌, ap, subst, inl, inr}
use Rattle.std.specs.List.{AllByRecursion, cons_option}
use Rattle.std.proofs.lemmas.Option.{none-some}
use Rattle.gfs_types.specs.declared.call.Call.{Call}
use Rattle.gfs_types.specs.declared.answer.Answer.{Answer}
use Rattle.gfs_types.specs.declared.answer.Answer.TheVariants as answer
use Rattle.relaxed_file.specs.Machine.{Machine, Asked, OpenCall, IsOpen, Offer, Piece}
use Rattle.relaxed_file.specs.Reads.{offer_of, MayOffer}
use Rattle.relaxed_file.specs.Answers.{MayReturn}
use Rattle.relaxed_file.specs.Run.{Action, Invoke, Return, ReturnFd, Pass, Visible, Called, Answered, shown, visible, Allows, after, after_all, IsLawful, LeadsTo, asked_now}
use Rattle.relaxed_file.proofs.Reached.{leads_on, leads_by}
use Rattle.relaxed_file.proofs.Tables.{from_some}
use Rattle.relaxed_file.proofs.CallSteps.{IsPieceOf, GetsPiece, GetsOffer, Goes, CallStep, call_step, fresh_call}
use Rattle.relaxed_file.proofs.Moments.{Shows, leads, nothing, unseen_first, join_shows, First, first_seen, who_of, said_of, asked_of, called_not, passed_not, no_cons}

-- a piece that was read, and an offer that was made, since a state, by a call of this kind
abbrev pub WasTold : Machine → ℕ → Asked → Offer → Type 0
WasTold m client asked offer = (k : Machine) × Shows m k [] × (c : OpenCall) × (c.asked ≡ asked) × (file : ℕ) × (index : ℕ) × MayOffer k c file × (offer ≡ offer_of k file index)

abbrev pub WasRead : Machine → ℕ → Asked → Piece → Type 0
WasRead m client asked piece =
    (k : Machine) × Shows m k [] × (c : OpenCall) × IsOpen k client c × (c.asked ≡ asked) × IsPieceOf k client c piece × AllByRecursion (WasTold m client asked) c.offers

pub record InCall (m : Machine) (client number : ℕ) (asked : Asked) (k : Machine) : Type 0 where
  pub since : Shows m k []
  pub call : OpenCall
  pub open_now : IsOpen k client call
  pub number_is : call.number ≡ number
  pub asked_is : call.asked ≡ asked
  pub pieces : AllByRecursion (WasRead m client asked) call.pieces
  pub offers : AllByRecursion (WasTold m client asked) call.offers

unseen_last : (m k : Machine) (action : Action) → Shows m k [] → Allows k action → shown action ≡ None → Shows m (after k action) []
unseen_last m k action s a is = join_shows m k (after k action) [] [] s (unseen_first k (after k action) action [] a is (nothing (after k action)))

module _ (m : Machine) (client number : ℕ) (asked : Asked) where
  pieces_go : (k : Machine) (c d : OpenCall) → Shows m k [] → IsOpen k client c → c.asked ≡ asked → GetsPiece k client c d
      → AllByRecursion (WasTold m client asked) c.offers → AllByRecursion (WasRead m client asked) c.pieces → AllByRecursion (WasRead m client asked) d.pieces
  pieces_go k c d s is same (inl kept) told all = subst (AllByRecursion (WasRead m client asked)) (sym kept) all
  pieces_go k c d s is same (inr more) told all = subst (AllByRecursion (WasRead m client asked)) (sym more.2) ((k, s, c, is, same, more.1, told), all)

  offers_go : (k : Machine) (c d : OpenCall) → Shows m k [] → c.asked ≡ asked → GetsOffer k c d
      → AllByRecursion (WasTold m client asked) c.offers → AllByRecursion (WasTold m client asked) d.offers
  offers_go k c d s same (inl kept) all = subst (AllByRecursion (WasTold m client asked)) (sym kept) all
  offers_go k c d s same (inr more) all = subst (AllByRecursion (WasTold m client asked)) (sym more.3) ((k, s, c, same, more.0, more.1, more.2, refl), all)

  goes : (k : Machine) (action : Action) → Allows k action → shown action ≡ None → InCall m client number asked k
      → CallStep k client None (k.clients client).open_call ((after k action).clients client).open_call → InCall m client number asked (after k action)
  goes k action a is h (inl made) = absurd (none-some _ made.1)
  goes k action a is h (inr (inl ended)) = absurd (none-some _ ended.1)
  goes k action a is h (inr (inr (others, inl going))) =
      let same : h.call ≡ going.0 = from_some (sym h.open_now ∙ going.2) in
      let on : Goes k client h.call going.1 = subst (λ c. Goes k client c going.1) (sym same) going.4 in
      record {
        since = unseen_last m k action h.since a is;
        call = going.1;
        open_now = going.3;
        number_is = sym on.0 ∙ h.number_is;
        asked_is = sym on.1 ∙ h.asked_is;
        pieces = pieces_go k h.call going.1 h.since h.open_now h.asked_is on.2 h.offers h.pieces;
        offers = offers_go k h.call going.1 h.since h.asked_is on.3 h.offers;
      }
  goes k action a is h (inr (inr (others, inr none))) = absurd (none-some _ (sym none.0 ∙ h.open_now))

  silent_actions : (k n : Machine) (actions : List Action) → IsLawful k actions → after_all k actions ≡ n → visible actions ≡ [] → InCall m client number asked k → InCall m client number asked n
  silent_actions k n [] lawful ends seen h = subst (InCall m client number asked) ends h
  silent_actions k n (x ∷ xs) lawful ends seen h =
      elim (shown x) as (λ o. shown x ≡ o → cons_option o (visible xs) ≡ [] → InCall m client number asked n) [
        | None ↦ λ is more. silent_actions (after k x) n xs lawful.1 ends more
            (goes k x lawful.0 is h (subst (λ v. CallStep k client v (k.clients client).open_call ((after k x).clients client).open_call) is (call_step k client x lawful.0)))
        | Some v ↦ λ is more. absurd (no_cons v (visible xs) (sym more))
      ] refl seen

  pub silently : (k n : Machine) → Shows k n [] → InCall m client number asked k → InCall m client number asked n
  silently k n s h = silent_actions k n s.actions s.lawful s.ends s.seen h

-- the call that is seen to be made is open then
made_then : (m : Machine) (client : ℕ) (asked : Call) (n : Machine) → CallStep m client (Some (Called client asked)) (m.clients client).open_call (n.clients client).open_call
    → IsOpen n client (fresh_call (m.clients client) (asked_now m client asked))
made_then m client asked n (inl made) = made.3 ∙ ap (λ c. Some (fresh_call (m.clients client) (asked_now m client c))) (sym (asked_of client client asked made.0 (from_some made.1)))
made_then m client asked n (inr (inl ended)) = absurd (called_not client client asked ended.0 (from_some ended.1))
made_then m client asked n (inr (inr (others, rest))) = absurd (others refl)

pub made_by_call : (m : Machine) (action : Action) (client : ℕ) (asked : Call) → Allows m action → shown action ≡ Some (Called client asked)
    → IsOpen (after m action) client (fresh_call (m.clients client) (asked_now m client asked))
made_by_call m action client asked a is = made_then m client asked (after m action)
    (subst (λ v. CallStep m client v (m.clients client).open_call ((after m action).clients client).open_call) is (call_step m client action a))

abbrev pub IsNoFd : Answer → Type 0
IsNoFd (answer.Fd fd) = ⊥
IsNoFd other = Unit {0}

pub is_return_of : (action : Action) (client : ℕ) (reply : Answer) → IsNoFd reply → shown action ≡ Some (Answered client reply) → action ≡ Return client reply
is_return_of (Return who said) client reply plain is = λ i. Return (who_of who client said reply (from_some is) i) (said_of who client said reply (from_some is) i)
is_return_of (ReturnFd who fd file) client reply plain is = absurd (subst IsNoFd (sym (said_of who client _ reply (from_some is))) plain)
is_return_of (Invoke who asked) client reply plain is = absurd (called_not who client asked reply (from_some is))
is_return_of (Pass moment) client reply plain is = absurd (passed_not moment client reply (from_some is))
is_return_of other client reply plain is = absurd (none-some _ is)

-- a call that is answered at once, by what is seen
pub record Exchange (m n : Machine) (client : ℕ) (asked : Call) (reply : Answer) (rest : List Visible) : Type 0 where
  pub at : Machine
  pub before : Shows m at []
  pub action : Action
  pub made : shown action ≡ Some (Called client asked)
  pub allowed : Allows at action
  pub answered : Machine
  pub inside : InCall (after at action) client (suc (at.clients client).call_count) (asked_now at client asked) answered
  pub may : MayReturn answered client inside.call reply
  pub then : Shows (after answered (Return client reply)) n rest

pub exchange : (m n : Machine) (client : ℕ) (asked : Call) (reply : Answer) (rest : List Visible) → IsNoFd reply → Shows m n (Called client asked ∷ Answered client reply ∷ rest)
    → Exchange m n client asked reply rest
exchange m n client asked reply rest plain s =
    let one : First m n (Called client asked) (Answered client reply ∷ rest) = first_seen m n (Called client asked) (Answered client reply ∷ rest) s in
    let two : First (after one.at one.action) n (Answered client reply) rest = first_seen _ n (Answered client reply) rest one.then in
    let is : two.action ≡ Return client reply = is_return_of two.action client reply plain two.is in
    let start : InCall (after one.at one.action) client (suc (one.at.clients client).call_count) (asked_now one.at client asked) (after one.at one.action) = record {
      since = nothing (after one.at one.action);
      call = fresh_call (one.at.clients client) (asked_now one.at client asked);
      open_now = made_by_call one.at one.action client asked one.allowed one.is;
      number_is = refl;
      asked_is = refl;
      pieces = tt;
      offers = tt;
    } in
    let inside : InCall (after one.at one.action) client (suc (one.at.clients client).call_count) (asked_now one.at client asked) two.at = silently _ client _ _ _ two.at two.silent start in
    let allowed : Allows two.at (Return client reply) = subst (Allows two.at) is two.allowed in
    record {
      at = one.at;
      before = one.silent;
      action = one.action;
      made = one.is;
      allowed = one.allowed;
      answered = two.at;
      inside = inside;
      may = subst (λ c. MayReturn two.at client c reply) (from_some (sym allowed.1 ∙ inside.open_now)) allowed.2;
      then = subst (λ a. Shows (after two.at a) n rest) is two.then;
    }

-- up to the answer, and past it
pub answered_way : (m n : Machine) (client : ℕ) (asked : Call) (reply : Answer) (rest : List Visible) (a : Exchange m n client asked reply rest) → LeadsTo m a.answered
answered_way m n client asked reply rest a =
    leads_on m a.at a.answered (leads m a.at [] a.before)
    (leads_on a.at (after a.at a.action) a.answered (leads_by a.at a.action a.allowed) (leads _ a.answered [] (a.inside).since))

pub answers_now : (m n : Machine) (client : ℕ) (asked : Call) (reply : Answer) (rest : List Visible) (a : Exchange m n client asked reply rest) → Allows a.answered (Return client reply)
answers_now m n client asked reply rest a = ((a.inside).call, (a.inside).open_now, a.may)
