use Rattle.gfs_types.specs.Settings.{first_out_of_range}
use Rattle.cell_nodes.proofs.Settings.{none_in}
use Rattle.cell_nodes.proofs.node_slots.are_fitting.Goals as goal

pub returns-clause-fits : goal.returns-clause-fits
returns-clause-fits c = λ t. record {
  least = (c.are_fitting.ensures.servers t).least;
  servers = c.are_fitting.ensures.servers t;
  log = c.are_fitting.ensures.log t;
  lease = c.are_fitting.ensures.lease t;
  skew = c.are_fitting.ensures.skew t;
}

pub returns-clause-in_range : goal.returns-clause-in_range
returns-clause-in_range c = λ t. none_in (first_out_of_range c.args.config.now) c.are_fitting.result c.are_fitting.ensures.range t
