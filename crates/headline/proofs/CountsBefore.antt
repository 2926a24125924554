-- The count of a file's chunks as a call on it began is no higher than what it has come to since, while the file is there.
use Rattle.std.proofs.Common.{◌≡◌, ℕ, ◌≤◌, Bool, true, false, true≢false, Option, Some, None, refl, sym, ap, subst, ◌∙◌, inl, inr, arith}
use Rattle.std.specs.Prelude.{cond, option_and_then, IsFalse}
use Rattle.gfs_types.specs.declared.config.Config.{Config}
use Rattle.gfs_types.specs.declared.call.Call.{Call}
use Rattle.relaxed_file.specs.Machine.{Machine, OpenCall, Asked, IsOpen, new_machine, chunk_count}
use Rattle.relaxed_file.specs.Run.{Action, Allows, after, asked_now, file_of, shown, IsReached}
use Rattle.relaxed_file.proofs.CallSteps.{CallStep, call_step, fresh_call}
use Rattle.relaxed_file.proofs.Grows.{Grows, grows_step, known_at_first}
use Rattle.relaxed_file.proofs.Known.{Known, known_step}
use Rattle.relaxed_file.proofs.Reached.{kept_to}
use Rattle.laws_base.proofs.Steps.{none_some, same_some}

-- how many chunks the file of the call had, of those that it has now
abbrev pub HasCount : Machine → Asked → ℕ → Type 0
HasCount m asked file = (count : ℕ) × (asked.chunks_before ≡ Some count) × (count ≤ chunk_count m file)

abbrev pub AreCounted : Machine → Type 0
AreCounted m = (client : ℕ) (o : OpenCall) (file : ℕ) → IsOpen m client o → o.asked.file ≡ Some file → IsFalse (m.files file).is_collected → HasCount m o.asked file

not_collected : (a b : Bool) → (a ≡ true → b ≡ true) → b ≡ false → a ≡ false
not_collected true b go none = absurd (true≢false (sym (go refl) ∙ none))
not_collected false b go none = refl

module _ (m : Machine) (action : Action) (allowed : Allows m action) (known : Known m) (h : AreCounted m) where
  abbrev n : Machine
  n = after m action

  grows : Grows m n
  grows = grows_step m action allowed known

  there : (file : ℕ) → IsFalse (n.files file).is_collected → IsFalse (m.files file).is_collected
  there file none = not_collected (m.files file).is_collected (n.files file).is_collected (grows.files file).collected none

  more : (asked : Asked) (file : ℕ) → HasCount m asked file → HasCount n asked file
  more asked file c = (c.0, c.1, let low = c.2 in let up = (grows.files file).count in omega (arith, low, up))

  begun : (client file : ℕ) (c : Call) → file_of (m.clients client) c ≡ Some file → IsFalse (m.files file).is_collected → HasCount m (asked_now m client c) file
  begun client file c is none = (
    chunk_count m file,
    ap (λ (o : Option ℕ). option_and_then (λ id. cond (m.files id).is_collected None (Some (chunk_count m id))) o) is ∙ ap (λ (b : Bool). cond b None (Some (chunk_count m file))) none,
    omega arith,
  )

  counted : (client : ℕ) (o : OpenCall) (file : ℕ) (old new : Option OpenCall) → (m.clients client).open_call ≡ old → new ≡ Some o → CallStep m client (shown action) old new → o.asked.file ≡ Some file → IsFalse (n.files file).is_collected → HasCount n o.asked file
  counted client o file old new was is (inl made) of none =
      let same : fresh_call (m.clients client) (asked_now m client made.0) ≡ o = same_some _ o (sym made.3 ∙ is) in
      let asked : asked_now m client made.0 ≡ o.asked = ap (λ (c : OpenCall). c.asked) same in
      subst (λ (a : Asked). HasCount n a file) asked (more (asked_now m client made.0) file (begun client file made.0 (ap (λ (a : Asked). a.file) asked ∙ of) (there file none)))
  counted client o file old new was is (inr (inl ended)) of none = none_some o (sym ended.4 ∙ is)
  counted client o file old new was is (inr (inr (others, inl going))) of none =
      let same : going.1 ≡ o = same_some going.1 o (sym going.3 ∙ is) in
      let asked : (going.0).asked ≡ o.asked = going.4.1 ∙ ap (λ (c : OpenCall). c.asked) same in
      subst (λ (a : Asked). HasCount n a file) asked (more (going.0).asked file (h client going.0 file (was ∙ going.2) (ap (λ (a : Asked). a.file) asked ∙ of) (there file none)))
  counted client o file old new was is (inr (inr (others, inr gone))) of none = none_some o (sym gone.1 ∙ is)

  counted_step : AreCounted n
  counted_step client o file is of none = counted client o file (m.clients client).open_call (n.clients client).open_call refl is (call_step m client action allowed) of none

pub counts_are_before : (config : Config) (m : Machine) → IsReached config m → AreCounted m
counts_are_before config m way =
    (kept_to (λ k. Known k × AreCounted k) (λ k action allowed g. (known_step k action allowed g.0, counted_step k action allowed g.0 g.1)) (new_machine config) m way
    (known_at_first config, λ client o file is of none. none_some o is)).1
