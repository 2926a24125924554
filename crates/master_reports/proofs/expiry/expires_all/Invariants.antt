use Rattle.std.proofs.Common.{◌≡◌, map, drop}
use Rattle.protocol.specs.MasterStep.{expires_all}
use Rattle.master_plan.specs.Plans.{doing}
use Rattle.gfs_types.specs.declared.ids.FileId.{FileId}
use Rattle.master_reports.proofs.expiry.expires_all.Given as goal

-- what is left comes to what is asked
abbrev pub invariant-loop-file : goal.invariant-loop-file
invariant-loop-file g l =
    let disk = g.L.OperationLog.disk l.log in
    expires_all (doing disk l.plan) (map (λ (file : FileId). file.0) (drop l.file-index l.files)) ≡ expires_all (doing disk l.fn.plan) (map (λ (file : FileId). file.0) l.files)
