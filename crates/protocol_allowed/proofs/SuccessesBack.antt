-- A success that stands passes the test of one that the client knows of.
use Rattle.std.proofs.Common.{ℕ, ◌<◌, Bool, refl, sym, subst}
use Rattle.std.specs.Prelude.{IsTrue, nat_le, IsSomeAnd}
use Rattle.std.specs.List.{list_any}
use Rattle.std.proofs.lemmas.Bool.{le-leb, eq-eqb}
use Rattle.gfs_types.specs.declared.config.Config.{Config}
use Rattle.gfs_types.specs.declared.mutation.Mutation.{Mutation}
use Rattle.gfs_types.specs.declared.mutation.Mutation.TheVariants.{Write, Append}
use Rattle.relaxed_file.specs.Order.{CallId, same_call, Entry}
use Rattle.relaxed_file.specs.Machine.{Machine, chunk_size, chunk_at}
use Rattle.relaxed_file.specs.Answers.{HasSuccess, IsWrite, IsAppendAt}
use Rattle.relaxed_file.specs.Run.{IsReached}
use Rattle.relaxed_file.proofs.Tables.{contained}
use Rattle.protocol_invariant.specs.Allowed.{is_noted_success, HasOne, is_write, is_append_at}
use Rattle.protocol_allowed.proofs.Tests.{all_true, any_of}
use Rattle.protocol_allowed.proofs.Begins.{BeginsWithin, begins_when_reached}

pub write_passes : (mutation : Mutation) → IsWrite mutation → IsTrue (is_write mutation)
write_passes (Write offset bytes) h = refl
write_passes other h = absurd h

pub append_passes : (place : ℕ) (mutation : Mutation) → IsAppendAt place mutation → IsTrue (is_append_at place mutation)
append_passes place (Append offset bytes) h = eq-eqb offset place h
append_passes place other h = absurd h

pub has_one : (m : Machine) (client : ℕ) (id : CallId) (file index : ℕ) (test : Mutation → Bool) (P : Mutation → Type 0) → ((x : Mutation) → P x → IsTrue (test x))
    → HasSuccess m client id file index P → HasOne m client id file index test
has_one m client id file index test P passes h =
    subst (λ o. IsSomeAnd o (λ least. IsTrue (list_any (is_noted_success id least test) (chunk_at m file index).order))) (sym h.1)
    (any_of (is_noted_success id h.0 test) (chunk_at m file index).order h.2 h.3
    (all_true (same_call id (h.2).call) (h.2).settled (nat_le (h.2).round h.0) (test (h.2).mutation) (h.4).0 (h.4).1 (le-leb (h.2).round h.0 (h.4).2) (passes (h.2).mutation h.5)))

begins_at : (size place : ℕ) (mutation : Mutation) → BeginsWithin size mutation → IsAppendAt place mutation → place < size
begins_at size place (Append offset bytes) within at = subst (λ n. n < size) at within
begins_at size place other within at = absurd at

-- in every run an append's place lies within its chunk
pub place_within : (config : Config) (m : Machine) → IsReached config m → (client : ℕ) (id : CallId) (file index place : ℕ) → HasSuccess m client id file index (IsAppendAt place) → place < chunk_size m file
place_within config m way client id file index place h =
    begins_at (chunk_size m file) place (h.2).mutation (contained (λ (e : Entry). BeginsWithin (chunk_size m file) e.mutation) (chunk_at m file index).order h.2 (begins_when_reached config m way file index) h.3) h.5
