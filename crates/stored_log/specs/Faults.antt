-- A log's fault, as the master has it.
use Rattle.oplog.specs.declared.fault.LogFault.{LogFault}
use Rattle.oplog.specs.declared.fault.LogFault.TheVariants as log
use Rattle.operation_log.specs.declared.fault.OperationLogFault.{OperationLogFault}
use Rattle.operation_log.specs.declared.fault.OperationLogFault.TheVariants as master

abbrev pub fault_of : LogFault → OperationLogFault
fault_of log.Full = master.Damaged
fault_of log.Damaged = master.Damaged
fault_of log.Device = master.Device
fault_of log.NoMemory = master.NoMemory
