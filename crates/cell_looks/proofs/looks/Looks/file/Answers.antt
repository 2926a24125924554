use Rattle.std.proofs.Common.{ap, ◌∙◌}
use Rattle.std.specs.Prelude.{option_map}
use Rattle.protocol.specs.Sending.{file_id}
use Rattle.cell_world.specs.FileNames.{file_in}
use Rattle.cell_looks.specs.Looks.{LooksState}
use Rattle.cell_looks.proofs.Told.{told_file}
use Rattle.cell_looks.proofs.looks.Looks.file.Goals as goal

pub returns : goal.returns
returns c = λ w of.
    c.file.ensures
    ∙ ap (λ (p : LooksState). option_map file_id (file_in p.master c.args.path.now)) c.self.view_is ∙ ap (option_map file_id) (told_file c.args.self.now c.args.path.now w of)
