use Rattle.std.proofs.Common.{inl, inr, subst}
use Rattle.disk.specs.Device.{ChangesOnly}
use Rattle.disk_redo.specs.Gates.{IsCommitting}
use Rattle.disk_redo.proofs.Moments.{joined, weaker}
use Rattle.disk_redo.proofs.gate.commit.Goals as goal

pub returns-in_err-write_durably-clause-any_moment : goal.returns-in_err-write_durably-clause-any_moment
returns-in_err-write_durably-clause-any_moment g c =
    let d = c.args.disk.now in
    let seen = g.D.Disk.seen d in
    weaker g.D.Disk.moment g.D.Disk.left_since d c.write_durably.new.disk _ (IsCommitting seen c.args.at c.args.bytes.now c.args.gate) c.write_durably.ensures.any_moment (λ f p. inl p)

pub returns-clause-any_moment : goal.returns-clause-any_moment
returns-clause-any_moment g c =
    let d = c.args.disk.now in
    let seen = g.D.Disk.seen d in
    joined g.D.Disk.moment g.D.Disk.left_since d c.write_durably.new.disk c.write_durably-2.new.disk _ _ (IsCommitting seen c.args.at c.args.bytes.now c.args.gate)
    c.write_durably.ensures.any_moment c.write_durably-2.ensures.any_moment (λ f p. inl p) (λ f q. inr (subst (λ b. ChangesOnly c.args.gate 1 b f) c.in_ok-write_durably.ensures.written q))

pub returns-in_err-write_durably-clause-read : goal.returns-in_err-write_durably-clause-read
returns-in_err-write_durably-clause-read g c = inl c.write_durably.ensures.read

pub returns-clause-read : goal.returns-clause-read
returns-clause-read g c = inr (subst (λ b. ChangesOnly c.args.gate 1 b (g.D.Disk.seen c.write_durably-2.new.disk)) c.in_ok-write_durably.ensures.written c.write_durably-2.ensures.read)
