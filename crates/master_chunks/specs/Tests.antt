-- Which versions are asked for.
use Rattle.std.specs.Prelude.{ℕ, Bool, ◌==◌, nat_le}
use Rattle.master_chunks.specs.declared.held.VersionTest.{VersionTest}
use Rattle.master_chunks.specs.declared.held.VersionTest.TheVariants.{AtLeast, Exactly}

abbrev pub passes : VersionTest → (ℕ → Bool)
passes (AtLeast least) = λ v. nat_le least.0 v
passes (Exactly only) = λ v. v == only.0
