use Rattle.std.proofs.Common.{[], ◌∷◌, ◌++◌, sym, ap, ◌∙◌}
use Rattle.disk_store.specs.Standing.{remembered}
use Rattle.disk_store.proofs.disk_store.remembered.Goals as goal

pub returns-in-Open : goal.returns-in-Open
returns-in-Open g c =
    c.and.ensures ∙ ap (λ xs. xs ++ c.args.store.now ∷ []) c.new.ensures
    ∙ sym (ap (λ standing. remembered standing c.args.store.now c.args.before.items) c.in-Open.is)
