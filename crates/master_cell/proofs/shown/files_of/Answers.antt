use Rattle.std.proofs.Common.{◌≡◌, ℕ, ap, ◌∙◌, arith}
use Rattle.std.specs.FinMap.{get}
use Rattle.chunk_table.specs.ChunkTable.{NumberTable}
use Rattle.std.specs.Prelude.{List}
use Rattle.master_cell.proofs.Copying.{below, none_below, stepped, whole}
use Rattle.master_cell.proofs.shown.files_of.Goals as goal

pub loop-number-init : goal.loop-number-init
loop-number-init c = λ q. ap (λ (m : NumberTable (List ℕ)). get m q) c.new-files.ensures ∙ none_below c.args.table.now.table.files q

pub loop-number-preserved : goal.loop-number-preserved
loop-number-preserved c = λ q.
    ap (λ (m : NumberTable (List ℕ)). get m q) c.in_ok-copy_file.ensures
    ∙ stepped c.loop-number.files c.args.table.now.table.files c.loop-number.number c.loop-number.invariant q

pub returns : goal.returns
returns c =
    let t = c.args.table.now in
    let n = c.loop-number.number in
    let all : n ≡ t.next_file = omega (arith, c.next_file-number-end.ensures) in
    whole c.loop-number.files t.table.files t.next_file (λ q. c.loop-number.invariant q ∙ ap (λ (k : ℕ). below t.table.files k q) all) c.is_sound.ensures.files
