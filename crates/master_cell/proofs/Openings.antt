-- An opening, from what was planned.
use Rattle.std.proofs.Common.{◌≡◌, ◌==◌, ℕ, suc, ◌+◌, sym, ap, ◌∙◌, add-one}
use Rattle.gfs_types.specs.declared.config.Config.{Config}
use Rattle.log_records.specs.declared.record.Record.TheVariants as log
use Rattle.protocol.specs.Logged.{Logged, LogDisk, replayed}
use Rattle.protocol.specs.MasterStep.{started_master, opening, has_opened, as_restarted}
use Rattle.master_plan.specs.Logging.{tried}
use Rattle.master_plan.specs.Plans.{PlanState, doing, started}

pub opened_as : (config : Config) (count : ℕ) (disk : LogDisk) (now : ℕ) (logged : Logged) (p new : PlanState) (epoch : ℕ)
    → logged ≡ as_restarted config now (replayed disk) → p ≡ started config count logged now → epoch ≡ logged.epoch
    → tried (doing disk p) (log.Epoch (epoch + 1)) ≡ doing disk new → opening (started_master config count disk now) ≡ doing disk new
opened_as config count disk now logged p new epoch logged_is p_is epoch_is goes =
    ap (λ (l : Logged). tried (doing disk (started config count l now)) (log.Epoch (suc l.epoch))) (sym logged_is)
    ∙ ap (λ (x : PlanState). tried (doing disk x) (log.Epoch (suc logged.epoch))) (sym p_is)
    ∙ ap (λ n. tried (doing disk p) (log.Epoch n)) (sym (add-one logged.epoch) ∙ ap (λ k. k + 1) (sym epoch_is))
    ∙ goes

pub logged_as : (config : Config) (count : ℕ) (disk : LogDisk) (now : ℕ) (logged : Logged) (new : PlanState) (epoch after : ℕ)
    → logged ≡ as_restarted config now (replayed disk) → epoch ≡ logged.epoch → after ≡ new.logged.epoch
    → (after == epoch + 1) ≡ has_opened (started_master config count disk now) (doing disk new)
logged_as config count disk now logged new epoch after logged_is epoch_is after_is =
    ap (λ n. n == epoch + 1) after_is
    ∙ ap (λ n. new.logged.epoch == n) (add-one epoch ∙ ap suc (epoch_is ∙ ap (λ (l : Logged). l.epoch) logged_is))
