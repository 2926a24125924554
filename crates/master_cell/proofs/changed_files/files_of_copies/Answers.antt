use Rattle.std.proofs.Common.{rules}
use Rattle.master_cell.proofs.Noting.{none_yet, handle_noted, all_handles}
use Rattle.master_cell.proofs.changed_files.files_of_copies.Goals as goal

pub loop-handle-init : goal.loop-handle-init
loop-handle-init g c = none_yet c.args.state.now c.new-files.result c.new-files.ensures

pub loop-handle-preserved : goal.loop-handle-preserved
loop-handle-preserved g c =
    handle_noted c.args.state.now c.loop-handle.files c.note_file.new.files c.deref-handle-items.result.now c.loop-handle.handle-index _ (search rules) (search rules) c.loop-handle.invariant c.in_ok-note_file.ensures

pub returns : goal.returns
returns g c =
    all_handles c.args.state.now c.loop-handle.files c.deref-handle-items.result.now c.loop-handle.handle-index (search rules) (search rules) c.loop-handle.invariant
