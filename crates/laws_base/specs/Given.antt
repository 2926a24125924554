-- Which orders give a server a version of a chunk (section 3.1).
use Rattle.std.specs.Prelude.{ℕ, Option, Some, None}
use Rattle.messages.specs.declared.message.Body.{Body}
use Rattle.messages.specs.declared.message.Body.TheVariants as body

-- the chunk and the version that an order gives its server
abbrev pub version_given : Body → Option (ℕ × ℕ)
version_given (body.Create order handle version) = Some (handle.0, version.0)
version_given (body.SetVersion order handle version base) = Some (handle.0, version.0)
version_given (body.CopyLocal order handle version copy copy_version) = Some (copy.0, copy_version.0)
version_given other = None
