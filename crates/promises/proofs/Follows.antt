-- What a client is told of a chunk, and notes of it, once it opened the file: no round before one that had opened by then, and never that there is no such chunk.
use Rattle.std.proofs.Common.{◌≡◌, ℕ, ◌<◌, ◌≤◌, Bool, true, false, cond, List, Option, Some, None, refl, sym, ◌∙◌, ap, subst, inl, inr, arith}
use Rattle.std.specs.Prelude.{nat_lt}
use Rattle.std.specs.List.{AllByRecursion}
use Rattle.std.proofs.lemmas.Bool.{ltb-false}
use Rattle.relaxed_file.specs.Order.{Entry}
use Rattle.relaxed_file.specs.Machine.{Machine, Client, Asked, OpenCall, IsOpen, Offer, Told, NoSuchChunk, chunk_at, chunk_count, put}
use Rattle.relaxed_file.specs.Reads.{offer_of, IsLook, MayLookPast}
use Rattle.relaxed_file.specs.Run.{Action, ReturnFd, Visible, shown, Allows, after, LeadsTo}
use Rattle.relaxed_file.proofs.Tables.{contained, from_some, put_same}
use Rattle.relaxed_file.proofs.Reached.{kept_to}
use Rattle.relaxed_file.proofs.Known.{Known, known_step}
use Rattle.relaxed_file.proofs.Grows.{Grows, grows_step}
use Rattle.relaxed_file.proofs.CallSteps.{GetsOffer, Goes, CallStep, call_step}
use Rattle.relaxed_file.proofs.NoteSteps.{NoteStep, note_step}

abbrev IsLate : ℕ → Option ℕ → Type 0
IsLate r None = Unit {0}
IsLate r (Some noted) = r ≤ noted

abbrev Tells : ℕ → ℕ → Offer → Type 0
Tells index r (Told i round count) = i ≡ index → r ≤ round
Tells index r (NoSuchChunk i) = i ≡ index → ⊥

-- all that a call on the file was told
abbrev IsTold : ℕ → ℕ → ℕ → Option OpenCall → Type 0
IsTold file index r None = Unit {0}
IsTold file index r (Some c) = c.asked.file ≡ Some file → AllByRecursion (Tells index r) c.offers

pub record Follows (client file index r : ℕ) (m : Machine) : Type 0 where
  pub known : Known m
  pub there : index < chunk_count m file
  pub round : r ≤ (chunk_at m file index).round
  note : IsLate r ((m.clients client).notes file index)
  told : IsTold file index r (m.clients client).open_call

-- the client's state after an Open of the file was answered
abbrev opened : Machine → ℕ → ℕ → ℕ → Client
opened m client fd file = record (m.clients client) { open_call = None; fd_count = fd; descriptors = put fd (Some file) (m.clients client).descriptors; notes = put file (λ index. None) (m.clients client).notes }

module _ (client file index r : ℕ) where
  tells_now : (m : Machine) (i : ℕ) (b : Bool) → index < chunk_count m file → r ≤ (chunk_at m file index).round → nat_lt i (chunk_count m file) ≡ b
      → Tells index r (cond b (Told i (chunk_at m file i).round (chunk_count m file)) (NoSuchChunk i))
  tells_now m i true there round is = λ same. subst (λ j. r ≤ (chunk_at m file j).round) (sym same) round
  tells_now m i false there round is = λ same. let past : chunk_count m file ≤ i = ltb-false _ _ is in omega (arith, past, same, there)

  offers_on : (m : Machine) (c d : OpenCall) → Follows client file index r m → c.asked ≡ d.asked → GetsOffer m c d → d.asked.file ≡ Some file
      → AllByRecursion (Tells index r) c.offers → AllByRecursion (Tells index r) d.offers
  offers_on m c d h same (inl kept) on old = subst (AllByRecursion (Tells index r)) (sym kept) old
  offers_on m c d h same (inr (f, i, may, more)) on old =
      let here : f ≡ file = from_some (sym may.0 ∙ ap (λ (a : Asked). a.file) same ∙ on) in
      subst (AllByRecursion (Tells index r)) (sym more) (subst (λ g. Tells index r (offer_of m g i)) (sym here) (tells_now m i _ h.there h.round refl), old)

  told_on : (m : Machine) (v : Option Visible) (new : Option OpenCall) → Follows client file index r m → CallStep m client v (m.clients client).open_call new → IsTold file index r new
  told_on m v new h (inl made) = subst (IsTold file index r) (sym made.3) (λ on. tt)
  told_on m v new h (inr (inl ended)) = subst (IsTold file index r) (sym ended.4) tt
  told_on m v new h (inr (inr (others, inr none))) = subst (IsTold file index r) (sym none.1) tt
  told_on m v new h (inr (inr (others, inl going))) =
      let goes : Goes m client going.0 going.1 = going.4 in
      let old : IsTold file index r (Some going.0) = subst (IsTold file index r) going.2 h.told in
      subst (IsTold file index r) (sym going.3) (λ on. offers_on m going.0 going.1 h goes.1 goes.3 on (old (ap (λ (a : Asked). a.file) goes.1 ∙ on)))

  note_on : (m : Machine) (new : Option ℕ) → Follows client file index r m → NoteStep m client file index new → IsLate r new
  note_on m new h (inl same) = subst (IsLate r) (sym same) h.note
  note_on m new h (inr (inl none)) = subst (IsLate r) (sym none) tt
  note_on m new h (inr (inr (c, is_open, on, round, count, told, is))) =
      let now : IsTold file index r (Some c) = subst (IsTold file index r) is_open h.told in
      subst (IsLate r) (sym is) (contained (Tells index r) c.offers (Told index round count) (now on) told refl)

  follows_step : (m : Machine) (action : Action) → Allows m action → Follows client file index r m → Follows client file index r (after m action)
  follows_step m action allowed h =
      let grown : Grows m (after m action) = grows_step m action allowed h.known in
      let more : chunk_count m file ≤ chunk_count (after m action) file = (grown.files file).count in
      let later : (chunk_at m file index).round ≤ (chunk_at (after m action) file index).round = ((grown.files file).chunks index).round in
      record {
        known = known_step m action allowed h.known;
        there = let l : index < chunk_count m file = h.there in omega (arith, more, l);
        round = let l : r ≤ (chunk_at m file index).round = h.round in omega (arith, later, l);
        note = note_on m _ h (note_step m client file index action allowed);
        told = told_on m (shown action) _ h (call_step m client action allowed);
      }

  pub follows_to : (m n : Machine) → LeadsTo m n → Follows client file index r m → Follows client file index r n
  follows_to m n way h = kept_to (Follows client file index r) follows_step m n way h

  -- where the Open is answered
  pub follows_open : (m : Machine) (fd : ℕ) → Known m → Allows m (ReturnFd client fd file) → index < chunk_count m file → r ≤ (chunk_at m file index).round
      → Follows client file index r (after m (ReturnFd client fd file))
  follows_open m fd known allowed there round = record {
    known = known_step m (ReturnFd client fd file) allowed known;
    there = there;
    round = round;
    note = subst (IsLate r) (sym (ap (λ (s : Client). s.notes file index) (put_same client (opened m client fd file) m.clients)
        ∙ ap (λ (t : ℕ → Option ℕ). t index) (put_same file (λ i. None) (m.clients client).notes))) tt;
    told = subst (IsTold file index r) (sym (ap (λ (s : Client). s.open_call) (put_same client (opened m client fd file) m.clients))) tt;
  }

  pub look_is_late : (m : Machine) (least last : ℕ) (chosen : List Entry) → Follows client file index r m → IsLook m client file index least last chosen → r ≤ least
  look_is_late m least last chosen h look = subst (IsLate r) look.1 h.note

  pub never_past : (m : Machine) (c : OpenCall) → Follows client file index r m → IsOpen m client c → c.asked.file ≡ Some file → MayLookPast c index → ⊥
  never_past m c h is_open on past =
      let now : IsTold file index r (Some c) = subst (IsTold file index r) is_open h.told in
      contained (Tells index r) c.offers (NoSuchChunk index) (now on) past refl
