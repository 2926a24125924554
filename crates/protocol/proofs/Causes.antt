-- Why a node goes down, or that it doesn't.
use Rattle.std.proofs.Common.{◌≡◌, ℕ, ◌<◌, false, Option, Some, None, sym, ap, subst, ◌∙◌}
use Rattle.std.specs.Prelude.{is_some}
use Rattle.messages.specs.declared.event.StepOut.{StepOut}
use Rattle.protocol.specs.Seen.{down_output}
use Rattle.protocol.specs.Causes.{IsDownFor}
use Rattle.protocol.specs.declared.down_cause.DownCause.{DownCause}
use Rattle.protocol.specs.declared.down_cause.DownCause.TheVariants.{Device, Memory, NoRoom}

-- a step in which it stays as it was: up or down
pub stays_for : (before now : ℕ) (out : StepOut) (cause : Option DownCause) → out.down ≡ false → cause ≡ None → IsDownFor out.down cause before now
stays_for before now out cause stays none =
    record {
      told = ap (λ (c : Option DownCause). is_some c) none ∙ sym stays;
      device = λ e. let bad : None ≡ Some Device = sym none ∙ e in absurd cc;
      room = λ e. let bad : None ≡ Some NoRoom = sym none ∙ e in absurd cc;
    }

-- one that puts it down for this
pub down_for : (before now : ℕ) (out : StepOut) (cause : Option DownCause) (x : DownCause) → out ≡ down_output → cause ≡ Some x → (x ≡ Device → before < now) → (x ≡ NoRoom → ⊥)
    → IsDownFor out.down cause before now
down_for before now out cause x down is device room =
    record {
      told = ap (λ (c : Option DownCause). is_some c) is ∙ ap (λ (o : StepOut). o.down) (sym down);
      device = λ e. let same : x ≡ Device = cc in device same;
      room = λ e. let same : x ≡ NoRoom = cc in room same;
    }

-- one for which memory was refused
pub memory_for : (before now : ℕ) (out : StepOut) (cause : Option DownCause) → out ≡ down_output → cause ≡ Some Memory → IsDownFor out.down cause before now
memory_for before now out cause down is = down_for before now out cause Memory down is (λ e. absurd cc) (λ e. absurd cc)

-- what was counted before is what had failed
pub counted : (x : DownCause) (count before now : ℕ) → count ≡ before → (x ≡ Device → count < now) → x ≡ Device → before < now
counted x count before now is device e = subst (λ (n : ℕ). n < now) is (device e)
