use Rattle.std.proofs.Common.{◌≡◌, ◌++◌, ◌∷◌, []}
use Rattle.cell_seats.specs.Seen.{visible_of, IsFurther, Asked}
use Rattle.cell_seats.proofs.client_call.ask.Given as goal

-- the call was made, and is not answered
abbrev pub invariant-loop : goal.invariant-loop
invariant-loop g l = record {
  node : l.slot.node ≡ l.fn.slot.node;
  further : IsFurther l.fn.slot.view l.slot.view;
  asked : visible_of l.slot.view.mine ≡ visible_of l.fn.slot.view.mine ++ Asked l.fn.call ∷ [];
}
