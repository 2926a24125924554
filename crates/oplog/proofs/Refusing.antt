-- A disk's fault, handed on as the log's.
use Rattle.std.proofs.Common.{◌≡◌, Result, refl, subst, sym}
use Rattle.std.specs.Prelude.{Ok, Err, IfErr, IsErrOf}
use Rattle.std.specs.Result.{IsErrAnd}
use Rattle.std.proofs.lemmas.Result.{err_from_is_err_and}
use Rattle.disk.specs.declared.device.DiskFault.{DiskFault}
use Rattle.disk.specs.declared.device.DiskFault.TheVariants as disk
use Rattle.oplog.specs.declared.fault.LogFault.{LogFault}
use Rattle.oplog.specs.declared.fault.LogFault.TheVariants as log
use Rattle.oplog.specs.Faults.{fault_of}

only_memory : (fault : DiskFault) → fault_of fault ≡ log.NoMemory → fault ≡ disk.NoMemory
only_memory disk.NoMemory is = refl
only_memory disk.Device is = absurd cc

-- memory was refused to the log where it was refused to the disk
pub was_refused : {T : Type 0} (result : Result T LogFault) (fault : DiskFault) → IsErrAnd result (λ e. e ≡ fault_of fault) → IsErrOf result log.NoMemory → fault ≡ disk.NoMemory
was_refused result fault is refused =
    let p = err_from_is_err_and result is in
    let told : result ≡ Err p.0 = p.1 in
    let same : p.0 ≡ fault_of fault = p.2 in
    let none : fault_of fault ≡ log.NoMemory = cc in
    only_memory fault none

-- the same fault handed on
pub handed_on : {T : Type 0} (result : Result T LogFault) (fault wanted : LogFault) → IsErrAnd result (λ e. e ≡ fault) → IsErrOf result wanted → fault ≡ wanted
handed_on result fault wanted is refused =
    let p = err_from_is_err_and result is in
    let told : result ≡ Err p.0 = p.1 in
    let same : p.0 ≡ fault = p.2 in
    cc

-- a fault that is handed on with what goes back beside it
pub handed_back : {T F : Type 0} (result : Result T F) (P : F → Type 0) (fault : F) → IsErrAnd result (λ e. e ≡ fault) → P fault → IfErr result P
handed_back (Ok x) P fault is holds = absurd is
handed_back (Err e) P fault is holds = subst P (sym is) holds
