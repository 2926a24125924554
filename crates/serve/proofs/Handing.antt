-- The calls that a line asks for are handed out.
use Rattle.std.proofs.Common.{◌≡◌, ◌⊎◌, ℕ, suc, ◌+◌, ◌<◌, Bool, true, false, List, [], ◌∷◌, ◌++◌, ⊎_elim, length, set, Option, Some, None, refl, sym, ap, ap₂, subst, ◌∙◌, arith}
use Rattle.std.specs.Prelude.{Result, Ok, Err, OnOk, IfNone, slice_get, replicate, nat_lt, nat_le, nat_eq, ◌==◌, ◌&&◌, if◌then◌else◌}
use Rattle.std.proofs.Math.Bool.{and-false}
use Rattle.std.proofs.lemmas.Bool.Decides.{nat_tests}
use Rattle.std.proofs.lemmas.List.{length-set}
use Rattle.gfs_types.specs.declared.call.Call.{Call}
use Rattle.script.specs.declared.cell_lines.ClientCall.{ClientCall}
use Rattle.script.specs.declared.fault.LineFault.{LineFault}
use Rattle.script.specs.declared.fault.LineFault.TheVariants.{Bad, NoMemory}
use Rattle.script.specs.declared.live_lines.LiveLine.{LiveLine}
use Rattle.script.specs.declared.live_lines.LiveLine.TheVariants as lines
use Rattle.script.specs.Words.{Reads}
use Rattle.script.specs.ScriptFaults.{IsOfRead}
use Rattle.script.specs.declared.script_fault.ScriptFault.{ScriptFault}
use Rattle.script.specs.declared.script_fault.ScriptFault.TheVariants as fault
use Rattle.serve_lines.specs.declared.lines.ServedLine.{ServedLine}
use Rattle.serve_lines.specs.declared.lines.ServedLine.TheVariants as served
use Rattle.cell_looks.specs.ClientAnswers.{calls_of}
use Rattle.serve.specs.Served.{call_in}
use Rattle.serve.specs.Messages.{Service, IsAsked, AreNext, AreTaken, IsOfReading}
use Rattle.serve.proofs.Places.{set_here, set_there}

-- whatever it was, this holds
pub on_ok : {T E : Type 0} (r : Result T E) (P : Type 0) → P → OnOk r P
on_ok (Ok x) P h = h
on_ok (Err e) P h = tt

pub when_none : {X P : Type 0} (o : Option X) → ((x : X) → o ≡ Some x → ⊥) → IfNone o P → P
when_none None none h = h
when_none (Some x) none h = absurd (none x refl)

-- a reader that fails
pub of_reading : (f : ScriptFault) → IsOfRead f → IsOfReading f
of_reading f of = ⊎_elim (λ (is : f ≡ fault.NoMemory). subst IsOfReading (sym is) tt) (λ (is : f ≡ fault.Read). subst IsOfReading (sym is) tt) of

-- a line that asks for no call
pub taken_none : (old : List ℕ) (asked : List LiveLine) → asked ≡ [] → AreTaken old old asked
taken_none old asked is = subst (AreTaken old old) (sym is) none
  where
    none : AreTaken old old []
    none = record { clients = refl; each = λ k count at. let same : count ≡ count + 0 = omega arith in at ∙ ap (λ (n : ℕ). Some n) same }

pub no_call : (clients : ℕ) (line : ServedLine) → ((asked : ClientCall) → line ≡ served.Call asked → ⊥) → call_in clients (Some line) ≡ []
no_call clients served.Nothing other = refl
no_call clients served.Room other = refl
no_call clients (served.Restart node) other = refl
no_call clients (served.Net lose repeat hold) other = refl
no_call clients (served.Call asked) other = absurd (other asked refl)

-- a line that isn't in the language
pub none_in_bad : (clients : ℕ) (refusal : LineFault) (expected : Option ServedLine) → Reads {A = ServedLine} (Err refusal) expected → refusal ≡ Bad → call_in clients expected ≡ []
none_in_bad clients Bad expected reads is = ap (call_in clients) reads
none_in_bad clients NoMemory expected reads is = absurd (let both : NoMemory ≡ Bad = is in cc)

-- a call by a client that isn't there
pub none_there : (clients n : ℕ) (line : ClientCall) → n ≡ clients → (line.client.0 ≡ 0) ⊎ (n < line.client.0) → call_in clients (Some (served.Call line)) ≡ []
none_there clients n line count h = ap (λ (b : Bool). if b then lines.Calls 1 line ∷ [] else []) (⊎_elim none past h)
  where
    none : line.client.0 ≡ 0 → (nat_lt 0 line.client.0 && nat_le line.client.0 clients) ≡ false
    none is = let no : nat_lt 0 line.client.0 ≡ false = grind (arith, nat_tests, is) in ap (λ (b : Bool). b && nat_le line.client.0 clients) no

    past : n < line.client.0 → (nat_lt 0 line.client.0 && nat_le line.client.0 clients) ≡ false
    past more =
        let no : nat_le line.client.0 clients ≡ false = grind (arith, nat_tests, more, count) in
        ap (λ (b : Bool). nat_lt 0 line.client.0 && b) no ∙ and-false (nat_lt 0 line.client.0)

module _ (s : Service) (counts : List ℕ) (line : ClientCall) (place : ℕ) (clients : length counts ≡ s.clients) (within : place < length counts) (is : place + 1 ≡ line.client.0) where
  one_there : call_in s.clients (Some (served.Call line)) ≡ lines.Calls 1 line ∷ []
  one_there =
      let first : nat_lt 0 line.client.0 ≡ true = grind (arith, nat_tests, is) in
      let last : nat_le line.client.0 s.clients ≡ true = grind (arith, nat_tests, is, within, clients) in
      ap (λ (b : Bool). if b then lines.Calls 1 line ∷ [] else []) (ap₂ (λ (a b : Bool). a && b) first last)

  its_call : calls_of (suc place) (call_in s.clients (Some (served.Call line))) ≡ line.call ∷ []
  its_call =
      let yes : (line.client.0 == suc place) ≡ true = grind (arith, nat_tests, is) in
      ap (calls_of (suc place)) one_there ∙ ap (λ (b : Bool). (if b then replicate 1 line.call else []) ++ []) yes

  no_other_call : (k : ℕ) → (k ≡ place → ⊥) → calls_of (suc k) (call_in s.clients (Some (served.Call line))) ≡ []
  no_other_call k other =
      let no : (line.client.0 == suc k) ≡ false = grind (arith, nat_tests, is, other) in
      ap (calls_of (suc k)) one_there ∙ ap (λ (b : Bool). (if b then replicate 1 line.call else []) ++ []) no

  module _ (number : ℕ) (here : slice_get counts place ≡ Some number) where
    -- it is the client's next call
    pub is_asked : AreNext s counts (call_in s.clients (Some (served.Call line))) → IsAsked s line.client.0 number line.call
    is_asked next =
        let client : suc place ≡ line.client.0 = omega (arith, is) in
        subst (λ (n : ℕ). IsAsked s n number line.call) client (next.each place number line.call here (ap (λ (l : List Call). slice_get l 0) its_call))

    -- and it is handed out
    pub taken_one : AreTaken counts (set counts place (number + 1)) (call_in s.clients (Some (served.Call line)))
    taken_one = record { clients = length-set counts place (number + 1); each = λ k count at. by_place k count at (nat_eq k place) refl }
      where
        by_place : (k count : ℕ) → slice_get counts k ≡ Some count → (b : Bool) → nat_eq k place ≡ b
            → slice_get (set counts place (number + 1)) k ≡ Some (count + length (calls_of (suc k) (call_in s.clients (Some (served.Call line)))))
        by_place k count at true eq =
            let k_is : k ≡ place = grind (arith, nat_tests, eq) in
            let both : Some number ≡ Some count = sym here ∙ (ap (slice_get counts) (sym k_is) ∙ at) in
            let same : number ≡ count = cc both in
            let calls : calls_of (suc k) (call_in s.clients (Some (served.Call line))) ≡ line.call ∷ [] = ap (λ (n : ℕ). calls_of (suc n) (call_in s.clients (Some (served.Call line)))) k_is ∙ its_call in
            let more : number + 1 ≡ count + length (calls_of (suc k) (call_in s.clients (Some (served.Call line)))) = omega (arith, same, ap length calls) in
            ap (slice_get (set counts place (number + 1))) k_is ∙ (set_here counts place (number + 1) within ∙ ap (λ (n : ℕ). Some n) more)
        by_place k count at false ne =
            let apart : k ≡ place → ⊥ = λ same_place. absurd (let both : true ≡ false = sym (let e : nat_eq k place ≡ true = grind (arith, nat_tests, same_place) in e) ∙ ne in cc) in
            let none : count ≡ count + length (calls_of (suc k) (call_in s.clients (Some (served.Call line)))) = omega (arith, ap length (no_other_call k apart)) in
            set_there counts place k (number + 1) apart ∙ (at ∙ ap (λ (n : ℕ). Some n) none)
