-- Hidden names, and those that expire.
use Rattle.std.proofs.Common.{◌≡◌, ℕ, ◌+◌, ◌-◌, ◌*◌, ◌&&◌, Bool, true, false, not, cond, List, [], ◌∷◌, map, take, drop, length, refl, sym, ap, ◌∙◌, Option, Some, None, arith, length-take}
use Rattle.std.proofs.lemmas.Slice.Eq.{bytes_eq-Decides}
use Rattle.std.specs.List.{filter, before_last, suffix_len}
use Rattle.std.specs.Option.{option_map}
use Rattle.std.specs.Str.{bytes_eq, byte}
use Rattle.std.specs.FinMap as finite
use Rattle.gfs_types.specs.declared.ids.FileId.{FileId}
use Rattle.gfs_types.specs.Paths.{Path, trash, root, is_slash, parent, last_part, is_child, is_below}
use Rattle.relaxed_file.specs.Names.{Node, Dir, File}
use Rattle.path_trie.specs.Below.{child_entries}
use Rattle.protocol.specs.Sending.{file_id}
use Rattle.protocol.specs.Master.{MasterState}
use Rattle.protocol.specs.MasterStep.{number_from, before_none, expired_files, old_file, hidden_names}
use Rattle.stale_collect.specs.Expiry as expiry
use Rattle.master_reports.proofs.Files.{numbers_of}

and_second : (a b : Bool) → (a && b) ≡ true → b ≡ true
and_second true b h = h
and_second false b h = cc

same_bytes : (xs ys : List ℕ) → bytes_eq xs ys ≡ true → xs ≡ ys
same_bytes xs ys h = (bytes_eq-Decides xs ys).0 h

-- seven bytes stand before the last part
seven : (path : Path) (b : Bool) → bytes_eq (before_last is_slash path) [] ≡ b → cond b root (before_last is_slash path) ≡ trash → drop 7 path ≡ last_part path
seven path true e h = absurd (let two : length root ≡ length trash = ap length h in omega arith)
seven path false e h =
    let six : length (before_last is_slash path) ≡ 6 = ap length h in
    let long = length-take (length path - suffix_len (λ x. not (is_slash x)) path - 1) path in
    let place : 7 ≡ length path - suffix_len (λ x. not (is_slash x)) path = omega arith in
    ap (λ n. drop n path) place

pub child_part : (path : Path) → is_child trash path ≡ true → drop 7 path ≡ last_part path
child_part path h = seven path (bytes_eq (before_last is_slash path) []) refl (same_bytes (parent path) trash (and_second (is_below trash path) (bytes_eq (parent path) trash) h))

same_number : (before : ℕ) (digits : List ℕ) → expiry.number_from before digits ≡ number_from before digits
same_number before [] = refl
same_number before (c ∷ rest) = same_number (before * 10 + (c - byte "0")) rest

under_id : (b : Bool) (id : ℕ) → cond b (Some (file_id id)) None ≡ option_map file_id (cond b (Some id) None)
under_id true id = refl
under_id false id = refl

abbrev part_entry : Path × Node → List ℕ × Node
part_entry e = (last_part e.0, e.1)

-- the old file of a name, where there is one
abbrev old_of : MasterState → Path × Node → Option FileId
old_of m e = option_map file_id (old_file m e.0 e.1)

abbrev old_part : MasterState → List ℕ × Node → Option FileId
old_part m c = expiry.old_at m.now m.config.keep_ms c.0 c.1

file_at : (m : MasterState) (path : Path) (node : Node) → is_child trash path ≡ true → old_part m (last_part path, node) ≡ old_of m (path, node)
file_at m path Dir h = refl
file_at m path (File id) h =
    ap (λ part. cond (expiry.is_kept_long m.now m.config.keep_ms (expiry.number_from 0 (take 20 part))) (Some (file_id id)) None) (sym (child_part path h))
    ∙ ap (λ n. cond (expiry.is_kept_long m.now m.config.keep_ms n) (Some (file_id id)) None) (same_number 0 (take 20 (drop 7 path)))
    ∙ under_id (expiry.is_kept_long m.now m.config.keep_ms (number_from 0 (take 20 (drop 7 path)))) id

olds : (m : MasterState) (es : List (Path × Node)) → map (old_part m) (child_entries trash es) ≡ map (old_of m) (filter (λ e. is_child trash e.0) es)
olds m [] = refl
olds m (e ∷ es) =
    elim (is_child trash e.0) as (λ b. is_child trash e.0 ≡ b
    → map (old_part m) (map part_entry (cond b (e ∷ filter (λ e. is_child trash e.0) es) (filter (λ e. is_child trash e.0) es)))
    ≡ map (old_of m) (cond b (e ∷ filter (λ e. is_child trash e.0) es) (filter (λ e. is_child trash e.0) es))) [
      | true ↦ λ h. let here = file_at m e.0 e.1 h in let rest = olds m es in λ i. here i ∷ rest i
      | false ↦ λ h. olds m es
    ] refl

before_map : {X Y Z : Type 0} (f : Y → Z) (g : X → Option Y) (xs : List X) → expiry.before_none (map (λ x. option_map f (g x)) xs) ≡ map f (before_none (map g xs))
before_map f g [] = refl
before_map f g (x ∷ xs) = elim (g x) as (λ o. expiry.before_none (option_map f o ∷ map (λ x. option_map f (g x)) xs) ≡ map f (before_none (o ∷ map g xs))) [
  | None ↦ refl
  | Some y ↦ ap (λ ys. f y ∷ ys) (before_map f g xs)
]

pub expired_are : (m : MasterState) → map (λ (file : FileId). file.0) (expiry.expired_files m.logged.names m.now m.config.keep_ms) ≡ expired_files m
expired_are m =
    ap (λ os. map (λ (file : FileId). file.0) (expiry.before_none os)) (olds m (finite.entries m.logged.names))
    ∙ ap (map (λ (file : FileId). file.0)) (before_map file_id (λ (e : Path × Node). old_file m e.0 e.1) (hidden_names m))
    ∙ numbers_of (expired_files m)
