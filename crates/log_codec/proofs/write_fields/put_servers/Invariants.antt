use Rattle.std.proofs.Common.{◌≡◌, ◌++◌, ◌∷◌, length, take}
use Rattle.std.specs.List.{flat_map}
use Rattle.log_codec.specs.Fields.{server}
use Rattle.log_codec.proofs.write_fields.put_servers.Given as goal

abbrev pub invariant-loop-server : goal.invariant-loop-server
invariant-loop-server l = l.out.items ≡ l.fn.out.items ++ length l.servers ∷ flat_map server (take l.server-index l.servers)
