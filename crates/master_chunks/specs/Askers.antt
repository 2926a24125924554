-- Who asked, as the definitions have it.
use Rattle.master_chunks.specs.declared.asker.Asker.{Asker as AskerValue}
use Rattle.protocol.specs.MasterVersions.{Asker}

abbrev pub asker_of : AskerValue → Asker
asker_of a = record { client = a.client; number = a.number; file = a.file.0; index = a.index }
