-- From whom messages of a kind come to the master.
use Rattle.std.specs.Prelude.{Bool, true, false}
use Rattle.messages.specs.declared.message.Body.{Body}
use Rattle.messages.specs.declared.message.Body.TheVariants as body

-- a name call that changes names
abbrev pub is_name : Body → Bool
is_name (body.Name number deadline c) = true
is_name other = false

-- what clients ask
abbrev pub is_of_client : Body → Bool
is_of_client (body.Name number deadline c) = true
is_of_client (body.Look number c) = true
is_of_client (body.Ask number file wanted deadline lost) = true
is_of_client other = false
