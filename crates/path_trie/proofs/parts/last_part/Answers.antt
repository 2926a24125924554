use Rattle.std.proofs.Common.{sym}
use Rattle.path_trie.proofs.Cuts.{cut_at_last}
use Rattle.path_trie.proofs.parts.last_part.Goals as goal

pub returns-in-Some : goal.returns-in-Some
returns-in-Some c = let f = cut_at_last c.args.path.now c.rsplit_once.result c.rsplit_once.ensures.cases in (rw c.in-Some.is at f).1

pub returns-in-None : goal.returns-in-None
returns-in-None c = let f = cut_at_last c.args.path.now c.rsplit_once.result c.rsplit_once.ensures.cases in sym (rw c.in-None.is at f).1
