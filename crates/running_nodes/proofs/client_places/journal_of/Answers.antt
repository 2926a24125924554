use Rattle.std.proofs.Common.{ℕ, ◌+◌, ap, ◌∙◌, arith}
use Rattle.gfs_types.specs.declared.ids.Node.TheVariants.{Client}
use Rattle.cell_journal.specs.Identity.{Identity}
use Rattle.cell_journal.specs.WholeHistories.{is_retired}
use Rattle.running_nodes.proofs.client_places.journal_of.Goals as goal

pub client_journal-requires-clause-next : goal.client_journal-requires-clause-next
client_journal-requires-clause-next g c =
    let was = c.loop.invariant in
    (omega (arith, was.registered, was.same.servers_are, c.requires.next.0), c.requires.next.1, c.requires.next.2)

pub client_journal-requires-clause-goes_on : goal.client_journal-requires-clause-goes_on
client_journal-requires-clause-goes_on g c = ap (λ (i : Identity). is_retired i (Client c.args.id)) c.loop.invariant.same.cell_is ∙ c.requires.goes_on

pub loop-preserved : goal.loop-preserved
loop-preserved g c =
    let was = c.loop.invariant in
    let is = c.client_journal.ensures.same in
    record {
      same = record {
        shared_is = is.shared_is ∙ was.same.shared_is;
        cell_is = is.cell_is ∙ was.same.cell_is;
        config_is = is.config_is ∙ was.same.config_is;
        servers_are = is.servers_are ∙ was.same.servers_are;
        of = is.of ∙ was.same.of;
        seen = is.seen ∙ was.same.seen;
      };
      registered = c.in-Err.ensures.err ∙ was.registered;
    }

pub returns-in-Ok-clause-same : goal.returns-in-Ok-clause-same
returns-in-Ok-clause-same g c =
    let was = c.loop.invariant.same in
    let is = c.client_journal.ensures.same in
    record {
      shared_is = is.shared_is ∙ was.shared_is;
      cell_is = is.cell_is ∙ was.cell_is;
      config_is = is.config_is ∙ was.config_is;
      servers_are = is.servers_are ∙ was.servers_are;
      of = is.of ∙ was.of;
      seen = is.seen ∙ was.seen;
    }

pub returns-in-Ok-clause-registered : goal.returns-in-Ok-clause-registered
returns-in-Ok-clause-registered g c = c.in-Ok.ensures.ok ∙ ap (λ (n : ℕ). n + 1) c.loop.invariant.registered

pub returns-in-Ok-clause-journal : goal.returns-in-Ok-clause-journal
returns-in-Ok-clause-journal g c =
    let was = c.loop.invariant.same in
    let is = c.in-Ok.ensures.journal in
    record {
      node_is = is.node_is;
      of = is.of ∙ was.of;
      config_is = is.config_is ∙ was.config_is;
      servers_are = is.servers_are ∙ was.servers_are;
      clients_are = is.clients_are;
      mine = is.mine;
      seen = is.seen ∙ was.seen;
    }
