-- What an open call read, by the looks in a run since a state before the call was made.
use Rattle.std.proofs.Common.{◌≡◌, ℕ, List, [], ◌∷◌, ◌++◌, append_assoc, Option, Some, None, refl, sym, ◌∙◌, ap, subst, inl, inr}
use Rattle.std.specs.List.{AllByRecursion}
use Rattle.std.proofs.lemmas.Option.{none-some}
use Rattle.gfs_types.specs.declared.call.Call.{Call}
use Rattle.relaxed_file.specs.Machine.{Machine, Asked, OpenCall, IsOpen, Piece}
use Rattle.relaxed_file.specs.Run.{Action, Visible, shown, visible, after, after_all, IsLawful}
use Rattle.relaxed_file.proofs.Tables.{from_some}
use Rattle.relaxed_file.proofs.Reached.{after_all-append}
use Rattle.relaxed_file.proofs.CallSteps.{IsPieceOf, GetsPiece, Goes, CallStep, call_step}
use Rattle.promises.specs.Answered.{waiting_call}
use Rattle.promises.proofs.WaitingCalls.{waiting_after, waiting_others, waiting_cons}

-- a state on the way gave the piece to the call
abbrev pub ReadSince : Machine → List Action → ℕ → Asked → Piece → Type 0
ReadSince s actions client asked piece =
    (done : List Action) × (left : List Action) × (actions ≡ done ++ left)
    × (c : OpenCall) × IsOpen (after_all s done) client c × (c.asked ≡ asked) × IsPieceOf (after_all s done) client c piece

module _ (s : Machine) (actions : List Action) (client : ℕ) where
  abbrev AreSince : Machine → Option Call → Type 0
  AreSince k now = (asked : Call) (c : OpenCall) → now ≡ Some asked → IsOpen k client c → AllByRecursion (ReadSince s actions client c.asked) c.pieces

  pieces_go : (done left : List Action) (k : Machine) (c d : OpenCall) → after_all s done ≡ k → actions ≡ done ++ left → IsOpen k client c → c.asked ≡ d.asked → GetsPiece k client c d
      → AllByRecursion (ReadSince s actions client d.asked) c.pieces → AllByRecursion (ReadSince s actions client d.asked) d.pieces
  pieces_go done left k c d ends is is_open same (inl kept) old = subst (AllByRecursion (ReadSince s actions client d.asked)) (sym kept) old
  pieces_go done left k c d ends is is_open same (inr more) old = subst (AllByRecursion (ReadSince s actions client d.asked)) (sym more.2)
      ((done, left, is, c, subst (λ n. IsOpen n client c) (sym ends) is_open, same, subst (λ n. IsPieceOf n client c more.0) (sym ends) more.1), old)

  since_step : (done left : List Action) (k n : Machine) (now : Option Call) (v : Option Visible) → after_all s done ≡ k → actions ≡ done ++ left
      → CallStep k client v (k.clients client).open_call (n.clients client).open_call → AreSince k now → AreSince n (waiting_after client now v)
  since_step done left k n now v ends is (inl made) h asked c waits is_open =
      subst (λ (d : OpenCall). AllByRecursion (ReadSince s actions client d.asked) d.pieces) (from_some (sym made.3 ∙ is_open)) tt
  since_step done left k n now v ends is (inr (inl ended)) h asked c waits is_open = absurd (none-some c (sym ended.4 ∙ is_open))
  since_step done left k n now v ends is (inr (inr (others, inl going))) h asked c waits is_open =
      let goes : Goes k client going.0 going.1 = going.4 in
      let old : AllByRecursion (ReadSince s actions client (going.0).asked) (going.0).pieces = h asked going.0 (sym (waiting_others client now v others) ∙ waits) going.2 in
      subst (λ (d : OpenCall). AllByRecursion (ReadSince s actions client d.asked) d.pieces) (from_some (sym going.3 ∙ is_open))
      (pieces_go done left k going.0 going.1 ends is going.2 goes.1 goes.2 (subst (λ a. AllByRecursion (ReadSince s actions client a) (going.0).pieces) goes.1 old))
  since_step done left k n now v ends is (inr (inr (others, inr none))) h asked c waits is_open = absurd (none-some c (sym none.1 ∙ is_open))

  since_all : (left done : List Action) (k : Machine) (now : Option Call) → after_all s done ≡ k → actions ≡ done ++ left → IsLawful k left → AreSince k now
      → AreSince (after_all k left) (waiting_call client now (visible left))
  since_all [] done k now ends is lawful h = h
  since_all (x ∷ xs) done k now ends is lawful h =
      subst (AreSince (after_all (after k x) xs)) (sym (waiting_cons client now (shown x) (visible xs)))
      (since_all xs (done ++ x ∷ []) (after k x) (waiting_after client now (shown x)) (after_all-append s done (x ∷ []) ∙ ap (λ n. after n x) ends) (is ∙ sym (append_assoc done (x ∷ []) xs)) lawful.1
      (since_step done (x ∷ xs) k (after k x) now (shown x) ends is (call_step k client x lawful.0) h))

  pub pieces_since : IsLawful s actions → (asked : Call) (c : OpenCall) → waiting_call client None (visible actions) ≡ Some asked → IsOpen (after_all s actions) client c
      → AllByRecursion (ReadSince s actions client c.asked) c.pieces
  pieces_since lawful = since_all actions [] s None refl refl lawful (λ asked c none is_open. absurd (none-some asked none))
