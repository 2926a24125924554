use Rattle.std.proofs.Common.{refl}
use Rattle.stored_log.specs.Kept.{all_entries}
use Rattle.stored_log.proofs.Keeping.{no_writing, walk_kept}
use Rattle.stored_log.proofs.Sizes.{end_taken}
use Rattle.stored_log.proofs.disk_log.DiskLog.of_opened.Goals as goal

pub invariant_of-result : goal.invariant_of-result
invariant_of-result g c =
    let log = c.args.log in (
      c.requires.open,
      end_taken log c.used-used.result c.args.log_bytes c.used-used.ensures.end c.used-used.ensures.within c.requires.size,
      no_writing 13 c.new.result.items refl c.new.ensures.items,
      c.requires.size,
      walk_kept (all_entries log) c.args.walk c.requires.walk,
    )
