use Rattle.std.proofs.Common.{ℕ, List, sym, subst, ◌∙◌}
use Rattle.store_disk.specs.Stored.{IsDiskOf}
use Rattle.chunk_store.proofs.slots_reading.read_found.Goals as goal

pub returns-clause-found : goal.returns-clause-found
returns-clause-found g c index d is =
    let layout = c.args.layout in
    let same = c.read_last_order.ensures.reads.seen_same in
    record {
      says = subst (λ (l : List ℕ). IsDiskOf layout.chunk layout.block layout.slots c.in_ok-index.index l d) same
          (c.in_ok-index.ensures.found index d (subst (λ (l : List ℕ). IsDiskOf layout.chunk layout.block layout.slots index l d) (sym same) is));
      order = c.in_ok-order.ensures.order ∙ is.order_is;
    }
