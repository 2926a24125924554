use Rattle.std.proofs.Common.{◌≡◌, ℕ, ◌+◌, ◌∷◌, List, sym, ap, subst, ◌∙◌, arith, rules}
use Rattle.std.specs.Prelude.{map}
use Rattle.std.specs.Arc.{arc_value}
use Rattle.gfs_types.specs.declared.ids.Node.TheVariants.{Master}
use Rattle.protocol.specs.Tables.{first_numbers}
use Rattle.protocol.specs.Sending.{the_server}
use Rattle.cell_journal.specs.Identity.{Identity}
use Rattle.cell_seats.specs.NodeLocks.{NodeName, node_name}
use Rattle.cell_seats.specs.Registries.{IsSameRegistry}
use Rattle.cell_nodes.proofs.NewLocks.{one_lock_more}
use Rattle.cell_run.proofs.cell.start_nodes.Goals as goal

pub loop-before-preserved : goal.loop-before-preserved
loop-before-preserved g c =
    let before = c.loop-before.before in
    let was = c.loop-before.invariant.same in
    let is = c.start_server.ensures.same in
    let same : IsSameRegistry c.args.registry.now c.start_server.new.registry = record {
      shared_is = is.shared_is ∙ was.shared_is;
      cell_is = is.cell_is ∙ was.cell_is;
      config_is = is.config_is ∙ was.config_is;
      servers_are = is.servers_are ∙ was.servers_are;
      of = is.of ∙ was.of;
      seen = is.seen ∙ was.seen;
    } in
    let named : arc_value c.in_ok-lock.lock ≡ node_name c.args.registry.now.cell (the_server (before + 1)) =
    c.in_ok-lock.ensures.lock ∙ ap (λ (k : Identity). node_name k (the_server (before + 1))) same.cell_is in
    record {
      registered = c.in_ok-lock.ensures.ok;
      same = same;
      locks = one_lock_more arc_value c.args.registry.now.cell before c.loop-before.locks.items c.keep.new.all.items c.in_ok-lock.lock c.in_ok-keep.ensures named c.loop-before.invariant.locks;
    }

pub returns-clause-locks : goal.returns-clause-locks
returns-clause-locks g c =
    let cell = c.args.registry.now.cell in
    let now = c.loop-before.registry in
    let first = c.start_master.ensures.same in
    let last = c.loop-before.invariant.same in
    let all : c.loop-before.before ≡ now.servers = search rules in
    let master : arc_value c.in_ok-master.master ≡ node_name cell Master = c.in_ok-master.ensures.lock ∙ ap (λ (k : Identity). node_name k Master) first.cell_is in
    let names : arc_value c.in_ok-master.master ∷ map arc_value c.loop-before.locks.items ≡ node_name cell Master ∷ map (λ s. node_name cell (the_server s)) (first_numbers now.servers) =
    (λ j. master j ∷ (c.loop-before.invariant.locks ∙ ap (λ (n : ℕ). map (λ s. node_name cell (the_server s)) (first_numbers n)) all) j) in
    names ∙ ap (λ (k : Identity). node_name k Master ∷ map (λ s. node_name k (the_server s)) (first_numbers now.servers)) (sym last.cell_is)
