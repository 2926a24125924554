-- Why a cell was not started, as text.
use Rattle.std.specs.Prelude.{ℕ, List, codes}
use Rattle.cell_run.specs.declared.start_fault.StartFault.{StartFault}
use Rattle.cell_run.specs.declared.start_fault.StartFault.TheVariants.{Config, Count, NoMemory, Thread, Clock}

abbrev pub fault_text : StartFault → List ℕ
fault_text Config = codes "a setting is out of its range"
fault_text Count = codes "not 1 to 64 servers, or no number left for a client"
fault_text NoMemory = codes "no memory"
fault_text Thread = codes "no thread"
fault_text Clock = codes "no clock, or one that went back"
