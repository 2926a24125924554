use Rattle.std.proofs.Common.{◌≡◌, ℕ, map, sym, ap, ◌∙◌}
use Rattle.std.proofs.lemmas.Result.{on_ok_weaker}
use Rattle.gfs_types.specs.declared.ids.FileId.{FileId}
use Rattle.relaxed_file.specs.Names.{Names}
use Rattle.protocol.specs.Logged.{LogDisk}
use Rattle.protocol.specs.Master.{MasterState}
use Rattle.protocol.specs.MasterStep.{expired_files, expires_all}
use Rattle.stale_collect.specs.Expiry as expiry
use Rattle.master_plan.specs.Plans.{doing, master_of}
use Rattle.master_reports.proofs.HiddenNames.{expired_are}
use Rattle.master_reports.proofs.expiry.expires_old.Goals as goal

pub returns : goal.returns
returns g c =
    let disk : LogDisk = g.L.OperationLog.disk c.args.log.now in
    let m : MasterState = master_of disk c.args.plan.now in
    let names = c.names-names.ensures ∙ ap (λ l. l.names) c.state.ensures in
    let files = c.in_ok-files.ensures
    ∙ ap (λ (x : Names). expiry.expired_files x c.now.result.0 c.config.result.now.keep_ms) names
    ∙ ap (λ (x : ℕ). expiry.expired_files m.logged.names x c.config.result.now.keep_ms) c.now.ensures.now
    ∙ ap (λ (x : ℕ). expiry.expired_files m.logged.names m.now x) (ap (λ f. f.keep_ms) c.config.ensures.config) in
    let found : map (λ (file : FileId). file.0) c.deref.result.now ≡ expired_files m = ap (map (λ (file : FileId). file.0)) (c.deref.ensures.value ∙ files) ∙ expired_are m in
    on_ok_weaker c.expires_all.result (λ e. ap (expires_all (doing disk c.args.plan.now)) (sym found) ∙ e) c.expires_all.ensures
