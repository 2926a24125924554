-- What is made of the journal in its slot.
use Rattle.std.proofs.Common.{◌≡◌, ℕ, ◌+◌, [], Option, Some, sym, ap, subst, ◌∙◌}
use Rattle.std.specs.Prelude.{Result, Ok, Err, IfOk, OnErr}
use Rattle.gfs_types.specs.declared.ids.Node.{Node}
use Rattle.gfs_types.specs.declared.refusal.Refusal.{Refusal}
use Rattle.messages.specs.declared.message.Message.{Message}
use Rattle.protocol_journal.specs.Journal.{sent_after}
use Rattle.cell_journal.specs.Identity.{Filled, filled}
use Rattle.cell_journal.specs.Writers.{IsRead}

module _ (slot : Option Filled) (p new : Filled) (is : slot ≡ Some p) where
  pub in_slot_ok : (n : Node) (number : Option ℕ) (r : Result (Option Message) Refusal) → IfOk r (λ m. (new ≡ filled p.cell p.entries (p.reserved + 1)) × IsRead (sent_after [] p.entries) n number m)
      → IfOk r (λ m. (y : Filled) → slot ≡ Some y → (Some new ≡ Some (filled y.cell y.entries (y.reserved + 1))) × IsRead (sent_after [] y.entries) n number m)
  in_slot_ok n number (Ok m) h = λ y has.
      let same : p ≡ y = (let both : Some p ≡ Some y = sym is ∙ has in cc) in
      (ap (λ (x : Filled). Some x) (h.0 ∙ ap (λ (x : Filled). filled x.cell x.entries (x.reserved + 1)) same), subst (λ (x : Filled). IsRead (sent_after [] x.entries) n number m) same h.1)
  in_slot_ok n number (Err e) h = h

  pub in_slot_err : (r : Result (Option Message) Refusal) → OnErr r (new ≡ p) → OnErr r (◌≡◌ {A = Option Filled} (Some new) slot)
  in_slot_err (Ok m) h = h
  in_slot_err (Err e) h = ap (λ (x : Filled). Some x) h ∙ sym is
