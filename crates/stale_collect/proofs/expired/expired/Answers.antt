use Rattle.std.proofs.Common.{ap, ◌∙◌}
use Rattle.gfs_types.specs.Paths.{trash}
use Rattle.path_trie.specs.Below.{children_by_part}
use Rattle.stale_collect.proofs.Digits.{among_those}
use Rattle.stale_collect.proofs.expired.expired.Goals as goal

pub returns : goal.returns
returns g c =
    let names = c.args.names.now in
    among_those c.old_files.result (λ files. files.items) c.args.now.0 c.args.keep_ms c.deref.result.now (children_by_part names trash) c.old_files.ensures
    (c.deref.ensures.value ∙ c.in_ok-children.ensures ∙ ap (children_by_part names) c.in_ok-trash.ensures)
