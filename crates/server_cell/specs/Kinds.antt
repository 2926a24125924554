-- From whom a server takes messages of a kind.
use Rattle.std.specs.Prelude.{Bool, true, false}
use Rattle.messages.specs.declared.message.Body.{Body}
use Rattle.messages.specs.declared.message.Body.TheVariants as body

-- from clients, and pushed data
abbrev pub is_of_clients : Body → Bool
is_of_clients (body.Push id bytes rest) = true
is_of_clients (body.Mutate id handle version target deadline) = true
is_of_clients (body.Read number handle version offset count) = true
is_of_clients (body.Len number handle version) = true
is_of_clients other = false

-- from other servers
abbrev pub is_of_servers : Body → Bool
is_of_servers (body.Forward handle version serial id chunk change) = true
is_of_servers (body.Acked handle version serial) = true
is_of_servers (body.Nacked handle version serial refusal) = true
is_of_servers (body.CopyAsk handle version) = true
is_of_servers (body.Image handle version serial bytes) = true
is_of_servers other = false
