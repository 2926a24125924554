use Rattle.std.proofs.Common.{◌≡◌, Some}
use Rattle.std.proofs.lemmas.Result.{IfOk-weaker}
use Rattle.replica_store.specs.Replicas.{read_at}
use Rattle.disk_callers.specs.Stored.{with_one}
use Rattle.disk_callers.proofs.ReadBack.{read_back}
use Rattle.disk_callers.proofs.store_caller.keep_over_a_stop.Goals as goal

pub returns : goal.returns
returns c =
    let l = c.args.layout in
    let bytes = c.args.bytes.now in
    let d = with_one l.chunk l.block l.slots bytes in
    IfOk-weaker c.read_one.result (λ found. Some found ≡ read_at d 5 0 l.chunk) (λ found. found ≡ bytes) (λ found e. read_back l.chunk l.block l.slots l.chunk bytes found c.requires.short e) (c.read_one.ensures d (c.in_ok-stored.ensures c.stop.result.bytes c.stop.ensures.lawful))
