use Rattle.std.proofs.lemmas.Str.{IsUtf8-from_is_utf8}
use Rattle.path_trie.proofs.Walks.{text_of_own}
use Rattle.path_trie.proofs.entries.add_own.Goals as goal

pub unreachable-requires : goal.unreachable-requires
unreachable-requires g c = (c.in_default-from_utf8.ensures).cases.0 (IsUtf8-from_is_utf8 c.args.path.now (text_of_own c.args.path.now c.args.value.now c.in-Some.value c.in-Some.is c.requires))
