use Rattle.std.proofs.Common.{◌≡◌, ◌∙◌}
use Rattle.std.proofs.lemmas.Result.{IfOk-weaker}
use Rattle.replica_store.specs.Replicas.{ServerDisk}
use Rattle.store_disk.specs.Rows.{rows_of}
use Rattle.disk_store.specs.Known.{IsKnownOf}
use Rattle.disk_store.proofs.reopening.known_of.Goals as goal

pub returns : goal.returns
returns g c d is =
    IfOk-weaker c.of.result
    (λ known. (e : ServerDisk) → c.order.result ≡ record { epoch = e.epoch; count = e.count } → c.as_slice.result.now ≡ rows_of e → IsKnownOf known.order known.rows e)
    (λ known. IsKnownOf known.order known.rows d)
    (λ known tells. tells d (c.order.ensures d is) (c.as_slice.ensures.value ∙ c.in_ok-rows.ensures d is))
    c.of.ensures
