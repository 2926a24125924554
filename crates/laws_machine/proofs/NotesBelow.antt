-- In a run a client's note of a chunk is no later than the chunk's last round, and so are the rounds that its open call was told.
use Rattle.std.proofs.Common.{◌≡◌, ℕ, ◌≤◌, Bool, true, false, cond, [], Option, Some, None, refl, sym, ap, subst, ◌∙◌, inl, inr, arith}
use Rattle.std.specs.Prelude.{nat_lt, IfSome}
use Rattle.std.specs.List.{AllByRecursion}
use Rattle.gfs_types.specs.declared.config.Config.{Config}
use Rattle.relaxed_file.specs.Machine.{Machine, Asked, OpenCall, IsOpen, Offer, Told, NoSuchChunk, new_machine, chunk_at, chunk_count}
use Rattle.relaxed_file.specs.Reads.{offer_of}
use Rattle.relaxed_file.specs.Run.{Action, Visible, shown, Allows, after, IsReached}
use Rattle.relaxed_file.proofs.Tables.{contained, all_more, from_some}
use Rattle.relaxed_file.proofs.Reached.{kept_to, leads_on, leads_by}
use Rattle.relaxed_file.proofs.Grows.{Grows, grows_step, known_when_reached}
use Rattle.relaxed_file.proofs.CallSteps.{Goes, CallStep, call_step}
use Rattle.relaxed_file.proofs.NoteSteps.{NoteStep, note_step}
use Rattle.laws_base.proofs.Steps.{none_some}
use Rattle.laws_machine.specs.FileAnswers.{NotesAreOfOpenedRounds}

module _ (config : Config) (client : ℕ) where
  abbrev pub IsBelow : ℕ → Option ℕ → Type 0
  IsBelow round note = IfSome note (λ noted. noted ≤ round)

  -- an offer of a file's chunk
  abbrev pub IsOfferBelow : Machine → ℕ → Offer → Type 0
  IsOfferBelow m file (Told index round count) = round ≤ (chunk_at m file index).round
  IsOfferBelow m file (NoSuchChunk index) = Unit {0}

  pub record Below (m : Machine) : Type 0 where
    pub reached : IsReached config m
    pub notes : (file index : ℕ) → IsBelow (chunk_at m file index).round ((m.clients client).notes file index)
    pub offers : (o : OpenCall) (file : ℕ) → IsOpen m client o → o.asked.file ≡ Some file → AllByRecursion (IsOfferBelow m file) o.offers

  raised : (low high : ℕ) (note : Option ℕ) → low ≤ high → IsBelow low note → IsBelow high note
  raised low high None up h = tt
  raised low high (Some noted) up h = omega (arith, up, h)

  offer_now : (m : Machine) (file index : ℕ) (b : Bool) → IsOfferBelow m file (cond b (Told index (chunk_at m file index).round (chunk_count m file)) (NoSuchChunk index))
  offer_now m file index true = omega arith
  offer_now m file index false = tt

  module _ (m : Machine) (action : Action) (allowed : Allows m action) (h : Below m) where
    abbrev n : Machine
    n = after m action

    grows : Grows m n
    grows = grows_step m action allowed (known_when_reached config m h.reached)

    up : (file index : ℕ) → (chunk_at m file index).round ≤ (chunk_at n file index).round
    up file index = ((grows.files file).chunks index).round

    offer_up : (file : ℕ) (x : Offer) → IsOfferBelow m file x → IsOfferBelow n file x
    offer_up file (Told index round count) low = let rose = up file index in omega (arith, low, rose)
    offer_up file (NoSuchChunk index) low = tt

    offers_go : (o d : OpenCall) (file : ℕ) → Goes m client o d → d.asked.file ≡ Some file → AllByRecursion (IsOfferBelow m file) o.offers → AllByRecursion (IsOfferBelow n file) d.offers
    offers_go o d file goes on all = elim (goes.3) [
      | inl same ↦ subst (AllByRecursion (IsOfferBelow n file)) (sym same) (all_more o.offers (offer_up file) all)
      | inr more ↦
          let same : more.0 ≡ file = from_some (sym more.2.0 ∙ ap (λ (a : Asked). a.file) goes.1 ∙ on) in
          subst (AllByRecursion (IsOfferBelow n file)) (sym more.3)
          (offer_up file (offer_of m more.0 more.1) (subst (λ (f : ℕ). IsOfferBelow m f (offer_of m more.0 more.1)) same (offer_now m more.0 more.1 (nat_lt more.1 (chunk_count m more.0)))), all_more o.offers (offer_up file) all)
    ]

    offers_next : (v : Option Visible) → CallStep m client v (m.clients client).open_call (n.clients client).open_call → (d : OpenCall) (file : ℕ) → IsOpen n client d → d.asked.file ≡ Some file → AllByRecursion (IsOfferBelow n file) d.offers
    offers_next v (inl made) d file is on = subst (λ (c : OpenCall). AllByRecursion (IsOfferBelow n file) c.offers) (from_some (sym made.3 ∙ is)) tt
    offers_next v (inr (inl ended)) d file is on = none_some d (sym ended.4 ∙ is)
    offers_next v (inr (inr (others, inl going))) d file is on =
        let same : going.1 ≡ d = from_some (sym going.3 ∙ is) in
        let on_then : going.1.asked.file ≡ Some file = ap (λ (c : OpenCall). c.asked.file) same ∙ on in
        subst (λ (c : OpenCall). AllByRecursion (IsOfferBelow n file) c.offers) same
        (offers_go going.0 going.1 file going.4 on_then (h.offers going.0 file going.2 (ap (λ (a : Asked). a.file) going.4.1 ∙ on_then)))
    offers_next v (inr (inr (others, inr none))) d file is on = none_some d (sym none.1 ∙ is)

    note_next : (file index : ℕ) (note : Option ℕ) → NoteStep m client file index note → IsBelow (chunk_at n file index).round note
    note_next file index note step = raised (chunk_at m file index).round (chunk_at n file index).round note (up file index) (by_kind step)
      where
        by_kind : NoteStep m client file index note → IsBelow (chunk_at m file index).round note
        by_kind (inl kept) = subst (IsBelow (chunk_at m file index).round) (sym kept) (h.notes file index)
        by_kind (inr (inl gone)) = subst (IsBelow (chunk_at m file index).round) (sym gone) tt
        by_kind (inr (inr noted)) =
            let there = contained (IsOfferBelow m file) noted.0.offers (Told index noted.3 noted.4) (h.offers noted.0 file noted.1 noted.2) noted.5 in
            subst (IsBelow (chunk_at m file index).round) (sym noted.6) there

    below_next : Below n
    below_next =
        record {
          reached = leads_on (new_machine config) m n h.reached (leads_by m action allowed);
          notes = λ file index. note_next file index ((n.clients client).notes file index) (note_step m client file index action allowed);
          offers = offers_next (shown action) (call_step m client action allowed);
        }

  first : Below (new_machine config)
  first = record { reached = ([], tt, refl); notes = λ file index. tt; offers = λ o file is on. none_some o is }

  pub below : (m : Machine) → IsReached config m → Below m
  below m way = kept_to Below (λ k action allowed h. below_next k action allowed h) (new_machine config) m way first

pub notes_are_of_opened_rounds : NotesAreOfOpenedRounds
notes_are_of_opened_rounds config m reached client file index = (below config client m reached).notes file index
