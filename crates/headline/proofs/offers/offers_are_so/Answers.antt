use Rattle.headline.proofs.AllOffers.{offers_are_so}
use Rattle.headline.proofs.offers.offers_are_so.Goals as goal

pub returns : goal.returns
returns c = offers_are_so
