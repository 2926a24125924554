-- The lines in which answers and regions are told.
use Rattle.std.specs.Prelude.{ℕ, List, [], ◌∷◌, ◌++◌}
use Rattle.std.specs.List.{flat_map}
use Rattle.gfs_types.specs.declared.answer.Answer.{Answer}
use Rattle.relaxed_file.specs.declared.region.Region.{Region}
use Rattle.script.specs.Answers.{answer_line}
use Rattle.script.specs.Chunks.{regions_line}

abbrev pub told_line : ℕ → Answer → List ℕ
told_line client answer = answer_line client answer ++ 10 ∷ []

abbrev pub told_chunk : List Region → List ℕ
told_chunk regions = regions_line regions ++ 10 ∷ []

-- a line for each chunk
abbrev pub told_regions : List (List Region) → List ℕ
told_regions all = flat_map told_chunk all
