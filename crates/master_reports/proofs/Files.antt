-- Files as numbers and as ids.
use Rattle.std.proofs.Common.{◌≡◌, ℕ, List, [], ◌∷◌, map, refl, ap}
use Rattle.gfs_types.specs.declared.ids.FileId.{FileId}
use Rattle.protocol.specs.Sending.{file_id}

pub numbers_of : (files : List ℕ) → map (λ (file : FileId). file.0) (map file_id files) ≡ files
numbers_of [] = refl
numbers_of (n ∷ rest) = ap (λ xs. n ∷ xs) (numbers_of rest)
