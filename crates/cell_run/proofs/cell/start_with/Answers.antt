use Rattle.std.proofs.Common.{◌≡◌, ◌≤◌, [], sym, ap, subst, ◌∙◌, arith, rules}
use Rattle.std.specs.Arc.{arc_value}
use Rattle.gfs_types.specs.declared.config.Config.{Config}
use Rattle.gfs_types.specs.declared.ids.Node.TheVariants.{Client}
use Rattle.cell_journal.specs.Identity.{Identity}
use Rattle.cell_journal.specs.Log.{listed}
use Rattle.cell_seats.specs.Controls.{WritesControls}
use Rattle.cell_seats.specs.declared.shared_state.SharedState.{SharedState}
use Rattle.cell_seats.specs.Journals.{joined, AreBehind}
use Rattle.cell_nodes.specs.Nodes.{names_of}
use Rattle.cell_run.proofs.Fresh.{all_fresh}
use Rattle.cell_run.proofs.cell.start_with.Goals as goal

pub invariant_of-result : goal.invariant_of-result
invariant_of-result g c =
    let registry = c.start_nodes.new.registry in
    let same = c.start_nodes.ensures.same in
    let of = registry.writer.me.0.of in
    let control_writer = c.args.parts.control_writer in
    let base = ap (λ (i : Identity). i.base) same.of ∙ c.requires.base in
    let retired = ap (λ (i : Identity). i.retired) same.of ∙ c.requires.retired in
    let empty : c.new.result.items ≡ [] = search rules in (
      record {
        least = subst (λ (x : Config). 64 ≤ x.chunk) (sym same.config_is) c.requires.fits.least;
        next = omega (arith, c.in-Ok.ensures.ok, same.servers_are);
        waiting = omega (arith, c.reverse.ensures.len, c.requires.boxes);
        nothing_is = c.requires.nothing ∙ ap (λ (i : Identity). listed i.name []) (sym same.of);
        fresh = λ n past. all_fresh of (Client (record { 0 = n })) base retired;
        asks = subst (λ s. WritesControls (arc_value {X = SharedState} s).controls control_writer) (sym same.shared_is) c.requires.asks;
      },
      c.in-Ok.ensures.locks ∙ ap (λ (i : Identity). names_of i registry.servers) registry.cell_is,
      search rules,
      subst (λ l. AreBehind of (joined l)) (sym empty) base,
    )
