-- Files that a snapshot copies come under new ids, so that others stay.
use Rattle.std.proofs.Common.{◌≡◌, ℕ, ◌<◌, ◌≤◌, List, [], ◌∷◌, refl, ◌∙◌, arith}
use Rattle.gfs_types.specs.Paths.{Path}
use Rattle.relaxed_file.specs.Names.{Node, Dir, File, id_after}
use Rattle.relaxed_file.specs.Machine.{FileState}
use Rattle.relaxed_file.specs.NameStep.{with_copied_file, with_copied_files}
use Rattle.relaxed_file.proofs.Tables.{put_other}
use Rattle.relaxed_file.proofs.Known.{id_after_rises}

copy_other : (files : ℕ → FileState) (next : ℕ) (node : Node) (k : ℕ) → k < next → with_copied_file files next node k ≡ files k
copy_other files next Dir k l = refl
copy_other files next (File id) k l = put_other next (files id) files k (λ same. absurd (omega arith))

pub copies_other : (entries : List (Path × Node)) (files : ℕ → FileState) (next k : ℕ) → k < next → with_copied_files files next entries k ≡ files k
copies_other [] files next k l = refl
copies_other (e ∷ rest) files next k l =
    let more : next ≤ id_after next e.1 = id_after_rises next e.1 in
    copies_other rest (with_copied_file files next e.1) (id_after next e.1) k (omega arith) ∙ copy_other files next e.1 k l
