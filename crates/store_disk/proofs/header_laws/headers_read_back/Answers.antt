use Rattle.store_disk.proofs.Fields.{header_back}
use Rattle.store_disk.proofs.header_laws.headers_read_back.Goals as goal

pub returns-clause-reads : goal.returns-clause-reads
returns-clause-reads c h rest fits = header_back h rest fits
