use Rattle.std.proofs.Common.{◌≡◌, ◌≤◌, ◌<◌, ◌-◌, ◌++◌, ◌∷◌, [], List, Option, Some, length, ap, ◌∙◌, arith}
use Rattle.protocol_journal.specs.Journal.{Entry}
use Rattle.cell_journal.specs.Log.{listed}
use Rattle.cell_journal.specs.Clocks.{are_clocks_kept}
use Rattle.cell_journal.specs.Identity.{Identity, Filled, filled}
use Rattle.cell_journal.specs.WholeHistories.{history_of}
use Rattle.cell_journal.proofs.Lending.{lends, lent, left}
use Rattle.cell_journal.proofs.added_step.add.Goals as goal

pub slot_mut-requires : goal.slot_mut-requires
slot_mut-requires c = let h = c.requires.has in (c.requires.shared.2, (Some h.0, lends c.args.writer.now.me.1 h.0 h.1))

pub push-extended-requires : goal.push-extended-requires
push-extended-requires c =
    let h = c.requires.has in
    (h.0, lent c.args.writer.now.me.1 c.slot_mut.result.now h.0 c.slot_mut.ensures.value h.1, omega (arith, c.requires.room.0, c.requires.room.1, h.3))

pub give_extended-found-requires : goal.give_extended-found-requires
give_extended-found-requires c =
    let h = c.requires.has in
    let l = c.args.writer.now.me.1 in
    let e = c.args.entry in
    let z : Filled = filled h.0.cell (h.0.entries ++ e ∷ []) (h.0.reserved - 1) in
    let now = lent l c.slot_mut.result.now h.0 c.slot_mut.ensures.value h.1 in
    record {
      shared = c.requires.shared;
      has = (
        z,
        left l c.push-extended.new.slot h.0 z h.1 (c.push-extended.ensures.slot h.0 now),
        (
          e,
          record {
            holds = h.2.0;
            cell = h.2.1;
            step = c.requires.step;
            is = ap (λ (es : List Entry). es ++ e ∷ []) h.2.2;
            room = omega (arith, c.requires.room.0, h.3);
          },
        ),
      );
    }

pub returns : goal.returns
returns c =
    let h = c.requires.has in
    let l = c.args.writer.now.me.1 in
    let e = c.args.entry in
    let of : Identity = c.args.writer.now.me.0.of in
    let now = lent l c.slot_mut.result.now h.0 c.slot_mut.ensures.value h.1 in
    record {
      same = c.give_extended-found.ensures.same;
      gave = λ y has.
          c.give_extended-found.ensures.gave (filled y.cell (y.entries ++ e ∷ []) (y.reserved - 1))
          (left l c.push-extended.new.slot y (filled y.cell (y.entries ++ e ∷ []) (y.reserved - 1)) has (c.push-extended.ensures.slot y (lent l c.slot_mut.result.now y c.slot_mut.ensures.value has)));
      beginning = c.push-extended.ensures.beginning h.0 now
          ∙ (ap (λ (i : Identity). listed i.name (history_of i (h.0.entries ++ e ∷ []))) h.2.1 ∙ ap (λ (es : List Entry). listed of.name (history_of of (es ++ e ∷ []))) h.2.2);
      count = c.push-extended.ensures.count h.0 now
          ∙ (ap (λ (i : Identity). length (history_of i (h.0.entries ++ e ∷ []))) h.2.1 ∙ ap (λ (es : List Entry). length (history_of of (es ++ e ∷ []))) h.2.2);
      clocks = c.push-extended.ensures.clocks h.0 now
          ∙ (ap (λ (i : Identity). are_clocks_kept i (history_of i (h.0.entries ++ e ∷ []))) h.2.1 ∙ ap (λ (es : List Entry). are_clocks_kept of (history_of of (es ++ e ∷ []))) h.2.2);
    }
