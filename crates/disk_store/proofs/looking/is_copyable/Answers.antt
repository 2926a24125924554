use Rattle.std.proofs.Common.{◌≡◌, ℕ, sym, subst, ap, ◌∙◌, Bool, Err, Result}
use Rattle.std.specs.Prelude.{IfOk}
use Rattle.replica_store.specs.Replicas.{is_copyable_at}
use Rattle.replica_store.specs.declared.fault.ReplicaStoreFault.{ReplicaStoreFault}
use Rattle.disk_store.specs.Faults.{HasCause}
use Rattle.disk_store.proofs.Causes.{look_cause}
use Rattle.disk_store.proofs.Looked.{image_lacks, image_there}
use Rattle.disk_store.proofs.looking.is_copyable.Goals as goal
use Rattle.disk_store.proofs.looking.is_copyable.Goals.{in-Ok, in-Err+in-Corrupt, in-Err+in_default}

pub returns-clause-value : goal.returns-clause-value
returns-clause-value g c d is = elim c.match-image.branch [
  | in-Ok w ↦ subst (λ (r : Result Bool ReplicaStoreFault). IfOk r (λ b. b ≡ is_copyable_at d c.args.handle.0)) (sym w.result-is) (image_there d c.args.handle.0 w.in-Ok.field-0 (w.in-Ok.ensures.ok d is))
  | in-Err+in-Corrupt w ↦ subst (λ (r : Result Bool ReplicaStoreFault). IfOk r (λ b. b ≡ is_copyable_at d c.args.handle.0)) (sym w.result-is) (image_lacks d c.args.handle.0 (c.image.ensures.corrupt d is (w.in-Err.is ∙ ap Err w.in-Corrupt.is)))
  | in-Err+in_default w ↦ subst (λ (r : Result Bool ReplicaStoreFault). IfOk r (λ b. b ≡ is_copyable_at d c.args.handle.0)) (sym w.result-is) tt
]

pub returns-clause-cause : goal.returns-clause-cause
returns-clause-cause g c d row is at same =
    let before : ℕ = g.D.Disk.failed c.args.store.now.disk in
    let now : ℕ = g.D.Disk.failed c.image.new.self.disk in
    let may = c.image.ensures.cause in
    elim c.match-image.branch [
      | in-Ok w ↦ subst (λ (r : Result Bool ReplicaStoreFault). HasCause before now r) (sym w.result-is) record { later = may.later; failed = λ e. absurd cc; undamaged = λ e. absurd cc }
      | in-Err+in-Corrupt w ↦ subst (λ (r : Result Bool ReplicaStoreFault). HasCause before now r) (sym w.result-is) record { later = may.later; failed = λ e. absurd cc; undamaged = λ e. absurd cc }
      | in-Err+in_default w ↦
          let known = w.in-Err.ensures in
          subst (λ (r : Result Bool ReplicaStoreFault). HasCause before now r) (sym w.result-is)
          (look_cause before now d c.args.handle.0 c.args.version row w.in-Err.fault w.fault_of.result w.fault_of.ensures (known.no_chunk d is) (known.version d is) known.no_serial w.in_default.not-Corrupt at same known.cause)
    ]
