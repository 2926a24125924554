use Rattle.std.proofs.Common.{◌≡◌, ℕ, sym, ap, ◌∙◌, arith}
use Rattle.std.specs.FinMap.{get}
use Rattle.gfs_types.specs.declared.shape.Shape.{Shape}
use Rattle.chunk_table.specs.ChunkTable.{TableState, NumberTable, known_shape, known_at, with_known_shape}
use Rattle.master_state.proofs.Ends.{below_changed, shape_known, stepped, whole, shapes_given}
use Rattle.master_state.proofs.lease_ends.know_each.Goals as goal

pub loop-number-preserved : goal.loop-number-preserved
loop-number-preserved c =
    let f = known_shape c.args.usual in
    let old = c.args.table.now in
    let n = c.loop-number.number in
    let t = c.loop-number.table in
    record {
      others =
          c.know_shape.ensures
          ∙ ap (λ (x : TableState). with_known_shape x n c.args.usual) c.loop-number.invariant.others
          ∙ ap (λ (x : TableState). record old { table = record old.table { shapes = x.table.shapes } }) (sym c.know_shape.ensures);
      shapes = λ q.
          ap (λ (x : TableState). get x.table.shapes q) c.know_shape.ensures
          ∙ stepped f (known_at t.table.shapes n c.args.usual) t.table.shapes old.table.shapes n (shape_known c.args.usual t.table.shapes n) c.loop-number.invariant.shapes q;
    }

pub returns : goal.returns
returns c =
    let f = known_shape c.args.usual in
    let old = c.args.table.now in
    let t = c.loop-number.table in
    let n = c.loop-number.number in
    let all : n ≡ old.next_file = omega (arith, c.next_file-number-end.ensures) in
    c.loop-number.invariant.others
    ∙ ap (λ (shapes : NumberTable Shape). record old { table = record old.table { shapes = shapes } })
    (whole f t.table.shapes old.table.shapes old.next_file (λ q. c.loop-number.invariant.shapes q ∙ ap (λ (k : ℕ). below_changed f old.table.shapes k q) all) (shapes_given old c.is_sound.ensures))
