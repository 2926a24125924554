-- What a name stands for, as the definitions have it (section 4.1).
use Rattle.namespace.specs.declared.name_kind.NameKind.{NameKind}
use Rattle.namespace.specs.declared.name_kind.NameKind.TheVariants as kind
use Rattle.relaxed_file.specs.Names.{Node, Dir, File}

abbrev pub node_of : NameKind → Node
node_of kind.Dir = Dir
node_of (kind.File id) = File id.0
