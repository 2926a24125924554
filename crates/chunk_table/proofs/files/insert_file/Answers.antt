use Rattle.std.proofs.Common.{ap, ◌∙◌}
use Rattle.std.specs.FinMap as map
use Rattle.chunk_table.proofs.Sums.{put_and_removed}
use Rattle.chunk_table.proofs.files.insert_file.Goals as goal

pub returns-in-Err-clause-no_shapes : goal.returns-in-Err-clause-no_shapes
returns-in-Err-clause-no_shapes c =
    c.remove.ensures.rest ∙ ap (λ m. map.remove m c.args.file) c.in_ok-insert.ensures.ok ∙ put_and_removed c.args.shapes.now c.args.file c.args.shape c.requires
