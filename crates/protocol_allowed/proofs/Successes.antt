-- A success of a call in a chunk that its client has a note of.
use Rattle.std.proofs.Common.{◌≡◌, ℕ, zero, suc, ◌+◌, ◌-◌, ◌*◌, ◌/◌, ◌<◌, ◌≤◌, min, Bool, true, false, Some, arith}
use Rattle.std.specs.Prelude.{IsTrue, Contains, nat_le}
use Rattle.std.specs.List.{list_any}
use Rattle.std.proofs.lemmas.Bool.{leb-true, ltb-true, eqb-true}
use Rattle.std.proofs.Math.Nat.{le-div_iff_mul-le}
use Rattle.gfs_types.specs.declared.mutation.Mutation.{Mutation}
use Rattle.gfs_types.specs.declared.mutation.Mutation.TheVariants.{Write, Append}
use Rattle.relaxed_file.specs.Order.{CallId, same_call, Entry}
use Rattle.relaxed_file.specs.Parts.{has_part, part_start, part_end}
use Rattle.relaxed_file.specs.Machine.{Machine, chunk_at}
use Rattle.relaxed_file.specs.Answers.{IsSuccess, HasSuccess, IsWrite, IsAppendAt}
use Rattle.protocol_invariant.specs.Allowed.{is_noted_success, HasOne, is_write, is_append_at}
use Rattle.protocol_allowed.proofs.Tests.{on_some, found_in, all_four}

pub write_is : (mutation : Mutation) → IsTrue (is_write mutation) → IsWrite mutation
write_is (Write offset bytes) h = tt
write_is other h = absurd (let both : false ≡ true = h in cc)

pub append_is : (place : ℕ) (mutation : Mutation) → IsTrue (is_append_at place mutation) → IsAppendAt place mutation
append_is place (Append offset bytes) h = eqb-true offset place h
append_is place other h = absurd (let both : false ≡ true = h in cc)

noted_is : (id : CallId) (noted : ℕ) (test : Mutation → Bool) (P : Mutation → Type 0) → ((x : Mutation) → IsTrue (test x) → P x)
    → (e : Entry) → IsTrue (is_noted_success id noted test e) → IsSuccess id noted e × P e.mutation
noted_is id noted test P is e h =
    let parts : (same_call id e.call ≡ true) × (e.settled ≡ true) × (nat_le e.round noted ≡ true) × (test e.mutation ≡ true) =
    all_four (same_call id e.call) e.settled (nat_le e.round noted) (test e.mutation) h in
    ((parts.0, parts.1, leb-true e.round noted parts.2), is e.mutation parts.3)

pub has_success : (m : Machine) (client : ℕ) (id : CallId) (file index : ℕ) (test : Mutation → Bool) (P : Mutation → Type 0) → ((x : Mutation) → IsTrue (test x) → P x)
    → HasOne m client id file index test → HasSuccess m client id file index P
has_success m client id file index test P is h =
    let noted : (least : ℕ) × ((m.clients client).notes file index ≡ Some least) × IsTrue (list_any (is_noted_success id least test) (chunk_at m file index).order) =
    on_some (λ least. IsTrue (list_any (is_noted_success id least test) (chunk_at m file index).order)) ((m.clients client).notes file index) h in
    let at : (e : Entry) × Contains (chunk_at m file index).order e × IsTrue (is_noted_success id noted.0 test e) =
    found_in (is_noted_success id noted.0 test) (chunk_at m file index).order noted.2 in
    let both : IsSuccess id noted.0 at.0 × P (at.0).mutation = noted_is id noted.0 test P is at.0 at.2 in
    (noted.0, noted.1, at.0, at.1, both.0, both.1)

-- a chunk with a part of a range is not past the range's end
pub part_below : (size offset count index : ℕ) → IsTrue (has_part size offset count index) → index < suc ((offset + count) / size)
part_below size offset count index h =
    let some : offset - index * size < min ((offset + count) - index * size) size = ltb-true (part_start size offset index) (part_end size offset count index) h in
    let positive : zero < size = omega arith in
    let before : index * size ≤ offset + count = omega arith in
    let found : index ≤ (offset + count) / size = (le-div_iff_mul-le positive).1 before in omega arith
