use Rattle.std.proofs.Common.{◌≡◌, sym, ap, ◌∙◌, Some}
use Rattle.std.specs.Prelude.{unwrap_or}
use Rattle.std.proofs.lemmas.Result.{IfOk-weaker}
use Rattle.replica_store.specs.Replicas.{read_at}
use Rattle.store_changes.specs.Images.{image_at}
use Rattle.store_changes.proofs.Imaged.{image_read}
use Rattle.chunk_store.proofs.volume.StoreVolume.image.Goals as goal

pub returns-clause-ok : goal.returns-clause-ok
returns-clause-ok g c d says =
    let h = c.args.handle.0 in
    let count = c.unwrap_or-count.result in
    let same = c.unwrap_or-count.ensures ∙ ap (λ o. unwrap_or o 0) (c.length.ensures d says) in
    IfOk-weaker c.read.result (λ bytes. Some bytes ≡ read_at d h 0 count) (λ bytes. Some bytes ≡ image_at d h) (λ bytes p. p ∙ image_read d h count same) (c.read.ensures.ok d says)

pub returns-clause-corrupt : goal.returns-clause-corrupt
returns-clause-corrupt g c d is e =
    let h = c.args.handle.0 in
    let count = c.unwrap_or-count.result in
    let same = c.unwrap_or-count.ensures ∙ ap (λ o. unwrap_or o 0) (c.length.ensures d is.says) in
    sym (image_read d h count same) ∙ c.read.ensures.corrupt d is e
