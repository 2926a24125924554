-- What is open at a machine and at that of its names, and what a return leaves of a machine.
use Rattle.gfs_types.specs.declared.answer.Answer.{Answer}
use Rattle.std.proofs.Common.{◌≡◌, ℕ, true, Option, Some, None, refl, sym, ap, ◌∙◌}
use Rattle.relaxed_file.specs.Machine.{Machine, Client, OpenCall}
use Rattle.relaxed_file.specs.Answers.{descriptors_after, returned}
use Rattle.relaxed_file.specs.NameStep.{is_name_call}
use Rattle.relaxed_file.specs.Run.{after, Return}
use Rattle.relaxed_file.proofs.Tables.{put_same, at_some}
use Rattle.machine_names.specs.NameProjections.{AreSameCalls}
use Rattle.laws_base.proofs.Steps.{none_some}

-- a call that is open at the names is a name call, open at the whole machine too
pub open_too : (state : Client) (a b : Option OpenCall) (named : OpenCall) → AreSameCalls state a b → a ≡ Some named → (o : OpenCall) × (b ≡ Some o) × (is_name_call o.asked.call ≡ true)
open_too state None b named same there = none_some named there
open_too state (Some y) None named same there = absurd same
open_too state (Some y) (Some o) named same there = (o, refl, ap is_name_call same.call_is ∙ same.naming)

-- where none is open at the whole machine, none is at the names
pub none_too : (state : Client) (b o : Option OpenCall) → AreSameCalls state b o → o ≡ None → b ≡ None
none_too state None o same there = refl
none_too state (Some y) None same there = absurd same
none_too state (Some y) (Some o) same there = none_some o (sym there)

-- a return leaves settings, files and the count of descriptors
pub return_leaves : (m : Machine) (client : ℕ) (o : OpenCall) → (m.clients client).open_call ≡ Some o → (reply : Answer)
    → (let n : Machine = after m (Return client reply) in (n.config ≡ m.config) × (n.files ≡ m.files) × ((n.clients client).fd_count ≡ (m.clients client).fd_count))
return_leaves m client o is_open reply =
    let closed : Client = record (m.clients client) { open_call = None; descriptors = descriptors_after (m.clients client).descriptors o.asked.call reply } in
    at_some (λ (n : Machine). (n.config ≡ m.config) × (n.files ≡ m.files) × ((n.clients client).fd_count ≡ (m.clients client).fd_count)) (λ (y : OpenCall). returned m client y reply) m (m.clients client).open_call o is_open
    (refl, refl, ap (λ (y : Client). y.fd_count) (put_same client closed m.clients))
