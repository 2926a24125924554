use Rattle.store_disk.proofs.Fields.{order_back}
use Rattle.store_disk.proofs.header_laws.orders_read_back.Goals as goal

pub returns-clause-reads : goal.returns-clause-reads
returns-clause-reads c order rest fits = order_back order rest fits
