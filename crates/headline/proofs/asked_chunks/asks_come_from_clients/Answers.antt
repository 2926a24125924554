use Rattle.headline.proofs.AskSenders.{asks_come_from_clients}
use Rattle.headline.proofs.asked_chunks.asks_come_from_clients.Goals as goal

pub returns : goal.returns
returns c = asks_come_from_clients
