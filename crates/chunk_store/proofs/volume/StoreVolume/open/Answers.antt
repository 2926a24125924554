use Rattle.chunk_store.proofs.volume.StoreVolume.open.Goals as goal

pub returns-in-Ok-clause-open : goal.returns-in-Ok-clause-open
returns-in-Ok-clause-open g c d holds =
    let found = c.in-Ok.ensures.found d holds in
    record {
      says = found.says;
      order = found.order;
      large = c.in-Ok.ensures.large;
      whole = c.requires.whole;
      rest = c.in-Ok.ensures.rest;
    }

pub returns-in-Ok-clause-its_head : goal.returns-in-Ok-clause-its_head
returns-in-Ok-clause-its_head g c opened = c.in-Ok.ensures.its_head opened

pub returns-in-Ok-clause-large : goal.returns-in-Ok-clause-large
returns-in-Ok-clause-large g c = c.in-Ok.ensures.sized

pub returns-in-Err-clause-held : goal.returns-in-Err-clause-held
returns-in-Err-clause-held g c d holds = c.in-Err.ensures.held d holds

pub returns-in-Ok-clause-ready : goal.returns-in-Ok-clause-ready
returns-in-Ok-clause-ready g c = record { large = c.in-Ok.ensures.large; whole = c.requires.whole; rest = c.in-Ok.ensures.rest }
