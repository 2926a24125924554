use Rattle.store_disk.proofs.Blank.{formatted_is_empty}
use Rattle.store_disk.proofs.replica_laws.formatted_disks_are_empty.Goals as goal

pub returns : goal.returns
returns c chunk block slots disk formatted = formatted_is_empty chunk block slots disk formatted
