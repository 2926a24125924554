use Rattle.std.specs.Prelude.{is_none}
use Rattle.gfs_types.specs.Settings.{first_out_of_range}
use Rattle.memory_nodes.specs.Starts.{is_count}
use Rattle.shell.proofs.Ranges.{never_good, never_of_memory}
use Rattle.shell.proofs.making.new_cell.Goals as goal

pub returns-in-Ok-clause-range : goal.returns-in-Ok-clause-range
returns-in-Ok-clause-range g c = never_good (is_none (first_out_of_range c.args.options.now.config)) (is_count c.args.options.now.servers) (is_count c.args.options.now.clients) c.in-Ok.ensures.good

pub returns-in-Err-NoMemory-clause-range : goal.returns-in-Err-NoMemory-clause-range
returns-in-Err-NoMemory-clause-range g c = never_of_memory (is_none (first_out_of_range c.args.options.now.config)) (is_count c.args.options.now.servers) (is_count c.args.options.now.clients) c.in-Err-NoMemory.field-0 c.in-Err-NoMemory.field-0-is c.in-Err-NoMemory.ensures.fault
