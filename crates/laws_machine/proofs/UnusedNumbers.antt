-- Nothing is placed yet under the number of a client's next call.
use Rattle.std.proofs.Common.{◌≡◌, ℕ, zero, suc, ◌+◌, Bool, true, false, List, [], ◌∷◌, Some, refl, sym, ap, subst, ◌∙◌, arith}
use Rattle.std.specs.Prelude.{count_by, not, cond}
use Rattle.gfs_types.specs.Mutations.{is_pad}
use Rattle.std.specs.List.{AllByRecursion}
use Rattle.gfs_types.specs.declared.config.Config.{Config}
use Rattle.relaxed_file.specs.Order.{CallId, Entry, same_call}
use Rattle.relaxed_file.specs.Chunks.{tries_in, tries_below}
use Rattle.relaxed_file.specs.Machine.{Machine, chunk_at}
use Rattle.relaxed_file.specs.Run.{IsReached}
use Rattle.relaxed_file.specs.RunLaws.{WasAskedFor}
use Rattle.relaxed_file.proofs.Tries.{is_try, one_try, tries_cons}
use Rattle.relaxed_file.proofs.AskedFor.{entries_were_asked_for}
use Rattle.relaxed_file.proofs.Grows.{known_when_reached}
use Rattle.relaxed_file.proofs.Successes.{same_id}
use Rattle.std.proofs.lemmas.Bool.{and_parts}
use Rattle.laws_base.proofs.Steps.{none_some}

module _ (config : Config) (m : Machine) (reached : IsReached config m) (client : ℕ) where
  abbrev next : CallId
  next = record { client = client; number = suc (m.clients client).call_count }

  not_next : (file index : ℕ) (e : Entry) → WasAskedFor m file index e → is_try next e ≡ false
  not_next file index e asked = by_test (is_try next e) refl
    where
      by_test : (b : Bool) → is_try next e ≡ b → is_try next e ≡ false
      by_test false is = is
      by_test true is =
          let same : next ≡ e.call = same_id next e.call (and_parts (same_call next e.call) (not (is_pad e.mutation)) is).0 in
          let made = subst (λ (c : CallId). (m.clients c.client).calls c.number ≡ Some asked.0) (sym same) asked.1 in
          let none = ((known_when_reached config m reached).clients client).no_more_calls (suc (m.clients client).call_count) (omega arith) in
          none_some asked.0 (sym none ∙ made)

  none_in : (file index : ℕ) (order : List Entry) → AllByRecursion (WasAskedFor m file index) order → count_by (is_try next) order ≡ 0
  none_in file index [] all = refl
  none_in file index (e ∷ rest) all =
      let one : one_try next e ≡ 0 = ap (λ (b : Bool). cond b 1 0) (not_next file index e all.0) in
      let more : count_by (is_try next) rest ≡ 0 = none_in file index rest all.1 in
      tries_cons next e rest ∙ (let sum : one_try next e + count_by (is_try next) rest ≡ 0 = omega (arith, one, more) in sum)

  pub none_placed : (file count : ℕ) → tries_below (m.files file).chunks next count ≡ 0
  none_placed file zero = refl
  none_placed file (suc count) =
      let below : tries_below (m.files file).chunks next count ≡ 0 = none_placed file count in
      let here : tries_in next (chunk_at m file count) ≡ 0 = none_in file count (chunk_at m file count).order (entries_were_asked_for config m reached file count) in
      omega (arith, below, here)
