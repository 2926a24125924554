use Rattle.std.proofs.Common.{◌≡◌, ℕ, ◌+◌, ◌<◌, ◌&&◌, List, [], ◌∷◌, length, drop, get_or, refl, sym, ap, ◌∙◌, arith, add-one, drop-cons}
use Rattle.protocol.specs.Logged.{Logged, copies_given_up}
use Rattle.master_state.specs.Follows.{are_unowned}
use Rattle.master_state.proofs.Removed.{others_unowned}
use Rattle.master_state.proofs.state.State.give_up_copies.Goals as goal

pub loop-handle-preserved : goal.loop-handle-preserved
loop-handle-preserved g c =
    let hs = c.args.handles.now in
    let i = c.loop-handle.handle-index in
    let old = c.loop-handle.self in
    let h : ℕ = get_or hs i 0 in
    let rest : List ℕ = drop (i + 1) hs in
    let lt : i < length hs = omega arith in
    let cut : drop i hs ≡ h ∷ rest = rw (add-one, drop-cons hs i 0) refl in
    let free = c.in_ok-give_up_copy.ensures.unowned in
    record {
      given_up =
          ap (λ (l : Logged). copies_given_up l rest) c.in_ok-give_up_copy.ensures.ok ∙ ap (copies_given_up old) (sym cut) ∙ c.loop-handle.invariant.given_up;
      unowned =
          ap (λ (l : Logged). are_unowned l.table rest) c.in_ok-give_up_copy.ensures.ok
          ∙ others_unowned old.table.chunks h rest free
          ∙ sym (ap (λ b. b && are_unowned old.table rest) free)
          ∙ ap (are_unowned old.table) (sym cut)
          ∙ c.loop-handle.invariant.unowned;
    }
