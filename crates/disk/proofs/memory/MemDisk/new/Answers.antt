use Rattle.std.proofs.Common.{◌≡◌, ◌∙◌, ℕ, List, [], ap, replicate}
use Rattle.disk.specs.Pages.{bytes_of}
use Rattle.disk.specs.Writes.{DiskState, Write}
use Rattle.disk.proofs.Places.{all_zeros}
use Rattle.disk.proofs.memory.MemDisk.new.Goals as goal

pub returns : goal.returns
returns g c =
    let bytes = ap bytes_of c.in_ok-bytes.ensures ∙ all_zeros c.args.size in
    let none : c.new-writes.result.items ≡ [] = c.new-writes.ensures.items in
    let made : List ℕ → List Write → DiskState = λ l ws. record { bytes = l; writes = ws; forgotten = 0 } in
    ap (λ (l : List ℕ). made l c.new-writes.result.items) bytes ∙ ap (made (replicate c.args.size 0)) none
