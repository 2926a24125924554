-- What an open call was told and measured, by what holds at each state of a run since before the call was made.
use Rattle.std.proofs.Common.{◌≡◌, ℕ, List, [], ◌∷◌, ◌++◌, append_assoc, Option, Some, None, refl, sym, ◌∙◌, ap, subst, inl, inr}
use Rattle.std.specs.List.{AllByRecursion}
use Rattle.std.proofs.lemmas.Option.{none-some}
use Rattle.gfs_types.specs.declared.call.Call.{Call}
use Rattle.relaxed_file.specs.Machine.{Machine, Asked, OpenCall, IsOpen, Offer}
use Rattle.relaxed_file.specs.Reads.{MayOffer, offer_of}
use Rattle.relaxed_file.specs.Run.{Action, Visible, shown, visible, after, after_all, IsLawful}
use Rattle.relaxed_file.proofs.Tables.{from_some}
use Rattle.relaxed_file.proofs.Reached.{after_all-append}
use Rattle.relaxed_file.proofs.CallSteps.{IsLengthOf, GetsOffer, GetsLength, Goes, CallStep, call_step}
use Rattle.promises.specs.Answered.{waiting_call}
use Rattle.promises.proofs.WaitingCalls.{waiting_after, waiting_others, waiting_cons}

module _ (s : Machine) (actions : List Action) (client : ℕ) (P : Asked → Offer → Type 0) (Q : Asked → ℕ → Type 0)
    (told : (done left : List Action) → actions ≡ done ++ left → (c : OpenCall) (file index : ℕ) → MayOffer (after_all s done) c file → P c.asked (offer_of (after_all s done) file index))
    (measured : (done left : List Action) → actions ≡ done ++ left → (c : OpenCall) → AllByRecursion (P c.asked) c.offers → (found : ℕ) → IsLengthOf (after_all s done) client c found → Q c.asked found) where
  abbrev Holds : OpenCall → Type 0
  Holds c = AllByRecursion (P c.asked) c.offers × AllByRecursion (Q c.asked) c.lengths

  abbrev AreSince : Machine → Option Call → Type 0
  AreSince k now = (asked : Call) (c : OpenCall) → now ≡ Some asked → IsOpen k client c → Holds c

  offers_go : (done left : List Action) (k : Machine) (c d : OpenCall) → after_all s done ≡ k → actions ≡ done ++ left → c.asked ≡ d.asked → GetsOffer k c d
      → AllByRecursion (P d.asked) c.offers → AllByRecursion (P d.asked) d.offers
  offers_go done left k c d ends is same (inl kept) old = subst (AllByRecursion (P d.asked)) (sym kept) old
  offers_go done left k c d ends is same (inr (file, index, may, more)) old = subst (AllByRecursion (P d.asked)) (sym more)
      (subst (λ n. P d.asked (offer_of n file index)) ends (subst (λ a. P a (offer_of (after_all s done) file index)) same (told done left is c file index (subst (λ n. MayOffer n c file) (sym ends) may))), old)

  lengths_go : (done left : List Action) (k : Machine) (c d : OpenCall) → after_all s done ≡ k → actions ≡ done ++ left → c.asked ≡ d.asked → GetsLength k client c d
      → AllByRecursion (P c.asked) c.offers → AllByRecursion (Q d.asked) c.lengths → AllByRecursion (Q d.asked) d.lengths
  lengths_go done left k c d ends is same (inl kept) offers old = subst (AllByRecursion (Q d.asked)) (sym kept) old
  lengths_go done left k c d ends is same (inr (found, length_of, more)) offers old = subst (AllByRecursion (Q d.asked)) (sym more)
      (subst (λ a. Q a found) same (measured done left is c offers found (subst (λ n. IsLengthOf n client c found) (sym ends) length_of)), old)

  since_step : (done left : List Action) (k n : Machine) (now : Option Call) (v : Option Visible) → after_all s done ≡ k → actions ≡ done ++ left
      → CallStep k client v (k.clients client).open_call (n.clients client).open_call → AreSince k now → AreSince n (waiting_after client now v)
  since_step done left k n now v ends is (inl made) h asked c waits is_open = subst Holds (from_some (sym made.3 ∙ is_open)) (tt, tt)
  since_step done left k n now v ends is (inr (inl ended)) h asked c waits is_open = absurd (none-some c (sym ended.4 ∙ is_open))
  since_step done left k n now v ends is (inr (inr (others, inl going))) h asked c waits is_open =
      let goes : Goes k client going.0 going.1 = going.4 in
      let old : Holds going.0 = h asked going.0 (sym (waiting_others client now v others) ∙ waits) going.2 in
      subst Holds (from_some (sym going.3 ∙ is_open)) (
        offers_go done left k going.0 going.1 ends is goes.1 goes.3 (subst (λ a. AllByRecursion (P a) (going.0).offers) goes.1 old.0),
        lengths_go done left k going.0 going.1 ends is goes.1 goes.6 old.0 (subst (λ a. AllByRecursion (Q a) (going.0).lengths) goes.1 old.1),
      )
  since_step done left k n now v ends is (inr (inr (others, inr none))) h asked c waits is_open = absurd (none-some c (sym none.1 ∙ is_open))

  since_all : (left done : List Action) (k : Machine) (now : Option Call) → after_all s done ≡ k → actions ≡ done ++ left → IsLawful k left → AreSince k now
      → AreSince (after_all k left) (waiting_call client now (visible left))
  since_all [] done k now ends is lawful h = h
  since_all (x ∷ xs) done k now ends is lawful h =
      subst (AreSince (after_all (after k x) xs)) (sym (waiting_cons client now (shown x) (visible xs)))
      (since_all xs (done ++ x ∷ []) (after k x) (waiting_after client now (shown x)) (after_all-append s done (x ∷ []) ∙ ap (λ n. after n x) ends) (is ∙ sym (append_assoc done (x ∷ []) xs)) lawful.1
      (since_step done (x ∷ xs) k (after k x) now (shown x) ends is (call_step k client x lawful.0) h))

  pub lengths_since : IsLawful s actions → (asked : Call) (c : OpenCall) → waiting_call client None (visible actions) ≡ Some asked → IsOpen (after_all s actions) client c → AllByRecursion (Q c.asked) c.lengths
  lengths_since lawful asked c waits is_open = (since_all actions [] s None refl refl lawful (λ a d none there. absurd (none-some a none)) asked c waits is_open).1
